-- Close over entry structs: one entry, and sound parts.
--   as_many                       the parts have as many entries as there are structs
--   slot-at, distance-at          entry j, as the lists have it
--   slot-is, entry-is, entry-right    its slot in the parts, its test, and where it is right
--   count-sound, overflow_part-sound    the count and the entries of sound parts
-- Axioms: none.
use Rattle.std.proofs.Common.{◌≡◌, ◌≤◌, ◌<◌, ℕ, List, length, sym, ◌∙◌, arith}
use lib.ListN.{length-map, get_or, get_or-map}
use Rattle.pciv_bytes.specs.LittleEndian.{Bytes}
use Rattle.pciv_format.specs.declared.Entry.{Entry}
use Rattle.pciv_format.specs.Layout.{at, overflow_count, overflow_part}
use Rattle.pciv_format.specs.Parts.{wrong_entry, lowest_slot, bad_entry, value_of, EntriesRight, SoundParts}
use Rattle.pciv_format.proofs.PartsLaws.{entry_at}
use Rattle.pciv_close.specs.Close.{entries_from}
use Rattle.pciv_close.proofs.CloseLaws.{slot_is, entry-is as entry-test}
use Rattle.pciv_close.proofs.SoundLaws.{overflow_part-close, overflow_count-close}
use Rattle.pciv_close_entries.specs.Passes.{slots_of, distances_of, parts_of}

length-slots : (es : List Entry) → length (slots_of es) ≡ length es
length-slots es = length-map es (λ (e : Entry). e.slot)

pub as_many : (bytes : List ℕ) (es : List Entry) → (parts_of bytes es).k ≡ length es
as_many bytes es = omega (arith, length-slots es, length-map es (λ (e : Entry). e.distance))

-- ---- an entry

-- what stands past the end of a list of entries
abbrev pub blank : Entry
blank = record { slot = 0; distance = 0 }

pub slot-at : (es : List Entry) (j : ℕ) → at (slots_of es) j ≡ (get_or es j blank).slot
slot-at es j = get_or-map (λ (e : Entry). e.slot) es j blank

pub distance-at : (es : List Entry) (j : ℕ) → at (distances_of es) j ≡ (get_or es j blank).distance
distance-at es j = get_or-map (λ (e : Entry). e.distance) es j blank

module _ (bytes : List ℕ) (es : List Entry) (j : ℕ) (h : j < length es) where
  inside : j < length (slots_of es)
  inside = omega (arith, length-slots es)

  pub slot-is : (parts_of bytes es).slot j ≡ (get_or es j blank).slot
  slot-is = slot_is bytes (slots_of es) (distances_of es) j inside ∙ slot-at es j

  pub entry-is : (lowest : ℕ) → lowest ≡ lowest_slot (parts_of bytes es) j
      → bad_entry (parts_of bytes es) j
      ≡ wrong_entry (length bytes) (at bytes) lowest (get_or es j blank).slot (get_or es j blank).distance
  entry-is lowest low =
      entry-test bytes (slots_of es) (distances_of es) j lowest inside low ∙ rw (slot-at es j, distance-at es j)

  -- every entry is right, and so is this one
  pub entry-right : EntriesRight (parts_of bytes es)
      → (lowest_slot (parts_of bytes es) j ≤ (get_or es j blank).slot) × ((get_or es j blank).slot < length bytes)
  entry-right right =
      let good = entry_at (parts_of bytes es) right j (omega (arith, as_many bytes es)) in
      (omega (arith, good.above, slot-is), omega (arith, good.inside, slot-is))

-- ---- sound parts

module _ (bytes : List ℕ) (es : List Entry) (sound : SoundParts (parts_of bytes es)) (each : Bytes bytes) where
  pub count-sound : length es ≡ overflow_count (length bytes) (value_of (parts_of bytes es))
  count-sound = sym (length-slots es) ∙ overflow_count-close bytes (slots_of es) (distances_of es) sound each

  pub overflow_part-sound : overflow_part (length bytes) (value_of (parts_of bytes es))
      ≡ entries_from (at (slots_of es)) (at (distances_of es)) 0 (length es)
  overflow_part-sound = rw (← length-slots es) (overflow_part-close bytes (slots_of es) (distances_of es) sound each)
