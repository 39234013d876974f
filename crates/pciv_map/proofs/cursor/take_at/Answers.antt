-- Proves pciv_map::cursor::take_at: the slot is inline, or the cursor is at its entry.
use Rattle.std.proofs.Common.{ℕ, ◌+◌, ◌<◌, sym, ◌∙◌, arith}
use Rattle.pciv_format.specs.Check.{file_parts}
use Rattle.pciv_format.proofs.PartsLaws.{value_of-inline}
use Rattle.pciv_format.proofs.MapLaws.{entry-inside, primary-inside}
use Rattle.pciv_map.proofs.CursorLaws.{cursor-at, cursor-more, cursor-inline, value-at}
use Rattle.pciv_map.proofs.cursor.take_at.Goals as goal

pub bounds-file-slot : goal.bounds-file-slot
bounds-file-slot c =
    let a = c.args in
    omega (arith, primary-inside a.file.now a.n a.k c.requires.checked_map, c.requires.slot_lt_n.0)

pub returns-then-byte-lt-SENTINEL : goal.returns-then-byte-lt-SENTINEL
returns-then-byte-lt-SENTINEL c =
    let a = c.args in
    let P = file_parts a.file.now a.n a.k in
    let sound = c.requires.checked_map.parts in
    let small = c.if-byte-lt-SENTINEL.true in
    record {
      is = sym (value_of-inline P sound a.slot small);
      next = cursor-inline P sound (λ i. (c.type_inv.file (40 + i)).fits) a.j a.slot c.requires.slot_lt_n.1
          c.requires.slot_lt_n.0 small;
    }

pub entry_distance-requires : goal.entry_distance-requires
entry_distance-requires c =
    let a = c.args in
    let at = cursor-at (file_parts a.file.now a.n a.k) c.requires.checked_map.parts (λ i. (c.type_inv.file (40 + i)).fits)
    a.j a.slot c.requires.slot_lt_n.1 c.requires.slot_lt_n.0 c.if-byte-lt-SENTINEL.false in
    entry-inside a.file.now a.n a.k c.requires.checked_map a.j at.0

pub returns : goal.returns
returns c =
    let a = c.args in
    let P = file_parts a.file.now a.n a.k in
    let sound = c.requires.checked_map.parts in
    let full = c.if-byte-lt-SENTINEL.false in
    let bytes : ((i : ℕ) → P.byte i < 256) = λ i. (c.type_inv.file (40 + i)).fits in
    let here = c.requires.slot_lt_n in
    record {
      is = c.entry_distance.ensures ∙ value-at P sound bytes a.j a.slot here.1 here.0 full;
      next = cursor-more P sound bytes a.j a.slot here.1 here.0 full;
    }
