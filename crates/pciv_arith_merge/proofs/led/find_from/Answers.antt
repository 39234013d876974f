-- Proves pciv_arith_merge::led::find_from.
use Rattle.std.proofs.Common.{◌≡◌, ℕ, ◌+◌, ◌<◌, sym, ap, ◌∙◌, arith}
use Rattle.pciv_format.specs.Parts.{Parts}
use Rattle.pciv_format.specs.Check.{file_parts}
use Rattle.pciv_format.proofs.PartsLaws.{value_of-inline}
use Rattle.pciv_format.proofs.EntryLaws.{entry_of-there, value_of-entry_of}
use Rattle.pciv_format.proofs.MapLaws.{primary-inside, entry-inside}
use Rattle.pciv_arith_merge.proofs.LedLaws.{before-entry, before-later}
use Rattle.pciv_arith_merge.proofs.led.find_from.Goals as goal
use Rattle.pciv_arith_merge.proofs.led.find_from.Goals.{Else-byte-lt-SENTINEL}

abbrev parts : Else-byte-lt-SENTINEL → Parts
parts c = file_parts c.args.file.now c.args.n c.args.k

bytes : (c : Else-byte-lt-SENTINEL) (i : ℕ) → (parts c).byte i < 256
bytes c i = (c.type_inv.file (40 + i)).fits

-- the slot is in overflow
full : (c : Else-byte-lt-SENTINEL) → (parts c).byte c.args.slot ≡ 255
full c = omega (arith, bytes c c.args.slot)

pub bounds-file-slot : goal.bounds-file-slot
bounds-file-slot c = omega (arith, primary-inside c.args.file.now c.args.n c.args.k c.requires.checked_map)

pub returns-then-byte-lt-SENTINEL : goal.returns-then-byte-lt-SENTINEL
returns-then-byte-lt-SENTINEL c =
    let P = file_parts c.args.file.now c.args.n c.args.k in
    let slot = c.args.slot in
    record {
      distance = sym (value_of-inline P c.requires.checked_map.parts slot c.if-byte-lt-SENTINEL.true);
      before = before-later P slot (slot + 1) c.args.t (omega arith) c.requires.before;
    }

pub entry_distance-requires : goal.entry_distance-requires
entry_distance-requires c =
    let s = (goal.at.entry_distance-requires c).Else-byte-lt-SENTINEL in
    let there = entry_of-there (parts s) c.requires.checked_map.parts (bytes s) c.args.slot c.requires.slot_lt_n (full s) in
    entry-inside c.args.file.now c.args.n c.args.k c.requires.checked_map c.seek-j.result
    (omega (arith, c.seek-j.ensures, there.0))

pub returns : goal.returns
returns c =
    let s = (goal.at.returns c).Else-byte-lt-SENTINEL in
    record {
      distance = c.entry_distance.ensures
          ∙ ap (parts s).distance c.seek-j.ensures
          ∙ sym (value_of-entry_of (parts s) c.requires.checked_map.parts (bytes s) c.args.slot c.requires.slot_lt_n (full s));
      before = rw c.seek-j.ensures (before-entry (parts s) c.requires.checked_map.parts (bytes s) c.args.slot c.requires.slot_lt_n (full s));
    }
