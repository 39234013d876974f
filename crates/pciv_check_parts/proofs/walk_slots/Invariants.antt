-- Invariants of pciv_check_parts::walk_slots: no slot below i lacks its entry, and entry j is the next one.
use Rattle.std.proofs.Common.{◌≡◌, ℕ, ◌<◌, ◌≤◌, false}
use Rattle.pciv_format.specs.Parts.{bad_slot}
use Rattle.pciv_format.specs.Check.{file_parts}
use Rattle.pciv_format.proofs.BadSlotLaws.{Walk}
use Rattle.pciv_check_parts.proofs.walk_slots.Given as goal

abbrev pub invariant-loop-i : goal.invariant-loop-i
invariant-loop-i l =
    record {
      few : l.j ≤ l.k;
      walk : Walk (file_parts l.file l.n l.k) l.i l.j;
      right : (t : ℕ) → t < l.i → bad_slot (file_parts l.file l.n l.k) t ≡ false;
    }
