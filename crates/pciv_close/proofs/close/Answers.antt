-- Proves pciv_close::close: the refusals 3, 6 and 7 in turn, then the file.
use Rattle.std.proofs.Common.{◌≡◌, ℕ, ◌≤◌, List, length, sym, ◌∙◌, arith}
use Rattle.pciv_bytes.specs.Ranges.{first_below}
use Rattle.pciv_bytes.proofs.RangesLaws.{first_below-all, first_below-cong}
use Rattle.pciv_format.specs.Parts.{Parts, bad_entry, bad_slot, EntriesRight, SoundParts}
use Rattle.pciv_format.specs.Write.{close_parts}
use Rattle.pciv_close.specs.Close.{slot_parts}
use Rattle.pciv_close.proofs.CloseLaws.{slot_parts-right, slot_parts-slot}
use Rattle.pciv_close.proofs.CloseOutcomeLaws.{close-many, close-entry, close-slot, close-sound}
use Rattle.pciv_close.proofs.close.Goals as goal

-- what the tests show
module _ (bytes slots distances : List ℕ) where
  abbrev parts : Parts
  parts = close_parts bytes slots distances

  -- no entry is the first that is wrong
  right : (j : ℕ) → j ≡ first_below (bad_entry parts) parts.k → parts.k ≤ j → EntriesRight parts
  right j e h i = first_below-all (bad_entry parts) parts.k i (omega arith)

  module _ (entries : EntriesRight parts) where
    -- the first slot without an entry
    first_slot : (i : ℕ) → i ≡ first_below (bad_slot (slot_parts bytes slots)) (length bytes)
        → i ≡ first_below (bad_slot parts) parts.n
    first_slot i e =
        e ∙ first_below-cong (bad_slot (slot_parts bytes slots)) (bad_slot parts) parts.n
        (λ t h. slot_parts-slot bytes slots distances entries t)

    -- there is none
    sound : (i : ℕ) → i ≡ first_below (bad_slot (slot_parts bytes slots)) (length bytes) → length bytes ≤ i
        → SoundParts parts
    sound i e h =
        record {
          entries = entries;
          slots = λ t. first_below-all (bad_slot parts) parts.n t (omega (arith, first_slot i e));
        }

pub returns-then-n-gt-MAX_SLOTS : goal.returns-then-n-gt-MAX_SLOTS
returns-then-n-gt-MAX_SLOTS c =
    let a = c.args in
    let e = close-many a.primary.now a.slots.now a.distances.now a.out.now (omega arith) in
    record { answer = c.refuse.ensures ∙ sym e.0; buffer = sym e.1 }

pub returns-then-entry-count : goal.returns-then-entry-count
returns-then-entry-count c =
    let a = c.args in
    let e = close-entry a.primary.now a.slots.now a.distances.now a.out.now (omega arith)
    c.first_bad_entry-entry.result c.first_bad_entry-entry.ensures (omega arith) in
    record { answer = c.refuse-then-entry-count.ensures ∙ sym e.0; buffer = sym e.1 }

pub first_bad_slot-slot-requires : goal.first_bad_slot-slot-requires
first_bad_slot-slot-requires c =
    let a = c.args in
    slot_parts-right a.primary.now a.slots.now a.distances.now
    (right a.primary.now a.slots.now a.distances.now _ c.first_bad_entry-entry.ensures (omega arith))

pub returns-then-is_missing : goal.returns-then-is_missing
returns-then-is_missing c =
    let a = c.args in
    let entries = right a.primary.now a.slots.now a.distances.now _ c.first_bad_entry-entry.ensures (omega arith) in
    let slot = first_slot a.primary.now a.slots.now a.distances.now entries _ c.first_bad_slot-slot.ensures in
    let e = close-slot a.primary.now a.slots.now a.distances.now a.out.now (omega arith) entries _ slot (omega arith) in
    record { answer = c.refuse-then-is_missing.ensures ∙ sym e.0; buffer = sym e.1 }

pub put_file-requires-clause-sound_parts : goal.put_file-requires-clause-sound_parts
put_file-requires-clause-sound_parts c =
    let a = c.args in
    let entries = right a.primary.now a.slots.now a.distances.now _ c.first_bad_entry-entry.ensures (omega arith) in
    sound a.primary.now a.slots.now a.distances.now entries _ c.first_bad_slot-slot.ensures (omega arith)

pub returns : goal.returns
returns c =
    let a = c.args in
    let entries = right a.primary.now a.slots.now a.distances.now _ c.first_bad_entry-entry.ensures (omega arith) in
    let e = close-sound a.primary.now a.slots.now a.distances.now a.out.now (omega arith)
    (sound a.primary.now a.slots.now a.distances.now entries _ c.first_bad_slot-slot.ensures (omega arith)) in
    record { answer = c.put_file.ensures.answer ∙ sym e.0; buffer = c.put_file.ensures.buffer ∙ sym e.1 }
