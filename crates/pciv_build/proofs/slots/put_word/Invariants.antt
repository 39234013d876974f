-- Invariants of pciv_build::slots::put_word: bits are those of the slots from `slot` on, and their entries are left. What
-- falls is how far `slot` is from `end`, which is behind the slots of the word.
use Rattle.std.proofs.Common.{◌≡◌, ℕ, ◌+◌, ◌-◌, ◌≤◌, min}
use Rattle.pciv_format.specs.Mask.{word}
use Rattle.pciv_build.specs.Slots.{is_full, full_slots}
use Rattle.pciv_build.proofs.SlotsLaws.{BlanksLeft}
use Rattle.pciv_build.proofs.slots.put_word.Given as goal

abbrev pub end : ℕ → ℕ → ℕ
end from to = from + min 64 (to - from)

abbrev pub invariant-loop-bits : goal.invariant-loop-bits
invariant-loop-bits l =
    record {
      low : l.from ≤ l.slot;
      high : l.slot ≤ end l.from l.to;
      told : l.bits ≡ word (is_full l.fn.out) l.slot (end l.from l.to - l.slot);
      left : BlanksLeft l.fn.out l.place (full_slots l.fn.out l.from (min 64 (l.to - l.from))) l.out l.next
          (full_slots l.fn.out l.slot (end l.from l.to - l.slot));
    }

abbrev pub decreases-loop-bits : goal.decreases-loop-bits
decreases-loop-bits l = end l.from l.to - l.slot
