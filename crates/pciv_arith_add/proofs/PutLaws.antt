-- The parts of the result: its count and its primary bytes from those of two checked files, and the walk that
-- writes its overflow entries.
--   count_map, count-number        the results 255, or the bytes that come to 255, are the slots in overflow
--   primary-map, primary-number    the results are the primary bytes
--   Putting                        the walk's invariant: the entries of slots from `from` on are left, and both cursors
--                                  are there
--   PutAt                          and at the next slot in overflow, where the result is the sum
--   putting-start, -next, -more    before the first entry; at the next slot; one entry on
-- Axioms: none.
use mathlib.Core.Path.{◌≡◌, sym, ap, ap₂, ◌∙◌}
use Prim.Native.Nat.{ℕ, ◌+◌, ◌-◌, ◌*◌, ◌<◌, max}
use native.Mathlib.Omega.{arith}
use mathlib.Core.Bool.{Bool}
use mathlib.Core.List.{List, ◌++◌}
use lib.ListN.{length}
use lib.Seq.{sets}
use lib.Dec.{leb, eqb}
use Rattle.pciv_bytes.specs.Ranges.{flag, table, sum_from}
use Rattle.pciv_bytes.specs.LittleEndian.{le, get}
use Rattle.pciv_bytes.specs.ByteAt.{byte_at, byte_from}
use Rattle.pciv_passes.specs.Pairs.{byte_op, pair_at, one_at, full_at}
use Rattle.pciv_passes.specs.declared.pairs.ByteOp.TheVariants.{Add, Raise}
use Rattle.pciv_bytes.proofs.RangesLaws.{table-cong}
use Rattle.pciv_bytes.proofs.SumLaws.{sum_from-cong}
use Rattle.pciv_format.specs.Layout.{in_overflow, primary_byte, primary, overflow_count}
use Rattle.pciv_format.specs.Parts.{Parts, value_of}
use Rattle.pciv_format.specs.Check.{file_parts}
use Rattle.pciv_format.proofs.PartsLaws.{primary_byte-full}
use Rattle.pciv_build.proofs.EntriesLaws.{overflow_count-sum}
use Rattle.pciv_build.proofs.FillLaws.{Filling, Next, fill-next, fill_more}
use Rattle.pciv_map.specs.Cursor.{Cursor, TakenAt}
use Rattle.pciv_map.specs.declared.cursor.Taken.{Taken}
use Rattle.pciv_format.proofs.MapLaws.{primary_of, primary-length, primary-at}
use Rattle.pciv_map.proofs.CursorLaws.{cursor-start, cursor-gap}
use Rattle.pciv_arith_add.specs.Addition.{addend_at, added_at, CursorOf, TakenOf}
use Rattle.pciv_arith_add.specs.declared.addend.Addend.{Addend}
use Rattle.pciv_arith_add.specs.declared.addend.Addend.TheVariants.{Map, Number}
use Rattle.pciv_check.proofs.SoundPairLaws.{SoundPair, Maps, sound}
use Rattle.pciv_arith_add.proofs.AddendLaws.{added-low, added-sum, cursor_of-start, cursor_of-gap}
use Rattle.pciv_arith_add.proofs.BytesLaws.{sum-byte, raised_byte, from_is}

-- ---- the count and the primary bytes

module _ {a b : List ℕ} {n ka kb : ℕ} (m : Maps a b n ka kb) where
  abbrev P : Parts
  P = file_parts a n ka

  abbrev Q : Parts
  Q = file_parts b n kb

  first-at : (i : ℕ) → i < n → byte_at (primary_of a n) i ≡ P.byte i
  first-at = primary-at a n ka m.pair.first

  sum-map : (i : ℕ) → i < n → pair_at Add (primary_of a n) (primary_of b n) i ≡ primary_byte (added_at Map P Q i)
  sum-map i h =
      ap₂ (byte_op Add) (first-at i h) (primary-at b n kb m.pair.second i h) ∙ sum-byte (sound m) i h

  raised-number : (d i : ℕ) → i < n → one_at Raise (primary_of a n) (primary_byte d) i ≡ primary_byte (added_at (Number d) P Q i)
  raised-number d i h = ap (λ (x : ℕ). byte_op Raise x (primary_byte d)) (first-at i h) ∙ raised_byte (sound m) d i h

  -- a count of flags that tell where v is in overflow
  count-is : (v : ℕ → ℕ) (f : ℕ → Bool) → ((i : ℕ) → i < n → f i ≡ in_overflow (v i))
      → sum_from (λ (i : ℕ). flag (f i)) 0 (length (primary_of a n)) ≡ overflow_count n v
  count-is v f same =
      rw (primary-length a n ka m.pair.first)
      (sum_from-cong (λ (i : ℕ). flag (f i)) (λ (i : ℕ). flag (in_overflow (v i))) 0 n
      (λ i h₁ h₂. ap flag (same i (omega arith)))
      ∙ sym (overflow_count-sum n v))

  pub count_map : sum_from (full_at Add (primary_of a n) (primary_of b n)) 0 (length (primary_of a n))
      ≡ overflow_count n (added_at Map P Q)
  count_map =
      count-is (added_at Map P Q) (λ i. eqb (pair_at Add (primary_of a n) (primary_of b n) i) 255)
      (λ i h. ap (λ (x : ℕ). eqb x 255) (sum-map i h) ∙ primary_byte-full (added_at Map P Q i))

  pub count-number : (d : ℕ)
      → sum_from (byte_from (primary_of a n) (max 1 (255 - primary_byte d))) 0 (length (primary_of a n))
      ≡ overflow_count n (added_at (Number d) P Q)
  count-number d =
      count-is (added_at (Number d) P Q) (λ i. leb (max 1 (255 - primary_byte d)) (byte_at (primary_of a n) i))
      (λ i h. ap (leb (max 1 (255 - primary_byte d))) (first-at i h) ∙ from_is (sound m) d i h)

  -- a table of the primary bytes of v
  table_is : (v f : ℕ → ℕ) → ((i : ℕ) → i < n → f i ≡ primary_byte (v i))
      → table f 0 (length (primary_of a n)) ≡ primary n v
  unfolding primary
  table_is v f same =
      rw (primary-length a n ka m.pair.first)
      (table-cong f (λ (i : ℕ). primary_byte (v i)) 0 n (λ i h. same i (omega arith)))

  pub primary-map : table (pair_at Add (primary_of a n) (primary_of b n)) 0 (length (primary_of a n))
      ≡ primary n (added_at Map P Q)
  primary-map = table_is (added_at Map P Q) (pair_at Add (primary_of a n) (primary_of b n)) sum-map

  pub primary-number : (d : ℕ)
      → table (one_at Raise (primary_of a n) (primary_byte d)) 0 (length (primary_of a n))
      ≡ primary n (added_at (Number d) P Q)
  primary-number d = table_is (added_at (Number d) P Q) (one_at Raise (primary_of a n) (primary_byte d)) (raised-number d)

-- ---- the overflow entries

pub record Putting (of : Addend) (P Q : Parts) (d₀ d : List ℕ) (at j t : ℕ) : Type 0 where
  pub from : ℕ
  pub fill : Filling P.n (added_at of P Q) d₀ from d at
  pub first : Cursor P j from
  pub second : CursorOf of Q t from

pub record PutAt (of : Addend) (P Q : Parts) (from : ℕ) (d : List ℕ) (at j t slot : ℕ) : Type 0 where
  pub next : Next P.n (added_at of P Q) from d at slot
  pub sum : added_at of P Q slot ≡ value_of P slot + addend_at of Q slot
  pub first : Cursor P j slot
  pub second : CursorOf of Q t slot

module _ {P Q : Parts} (p : SoundPair P Q) (of : Addend) (d₀ : List ℕ) where
  pub putting-start : (d : List ℕ) → Filling P.n (added_at of P Q) d₀ 0 d (40 + P.n)
      → Putting of P Q d₀ d (40 + P.n) 0 0
  putting-start d fill = record { from = 0; fill = fill; first = cursor-start P; second = cursor_of-start of Q }

  pub putting-next : (d : List ℕ) (at j t : ℕ) (w : Putting of P Q d₀ d at j t)
      → at < 40 + P.n + 12 * overflow_count P.n (added_at of P Q) → (slot : ℕ) → slot ≡ get 8 d at
      → PutAt of P Q w.from d at j t slot
  putting-next d at j t w more slot is =
      let next : Next P.n (added_at of P Q) w.from d at slot = rw is (fill-next w.fill more) in
      record {
        next = next;
        sum = added-sum P Q slot of (omega (arith, next.overflows));
        first = cursor-gap P p.first p.bytes-first j w.from slot w.first next.low
            (λ u h₁ h₂. omega (arith, added-low P Q u of, next.clear u h₁ h₂));
        second = cursor_of-gap p of t w.from slot w.second next.low next.clear;
      }

  -- the entry of the slot is written
  pub putting-more : (d d' : List ℕ) (at at' j t slot : ℕ) (x y : Taken) (z : ℕ) (w : Putting of P Q d₀ d at j t)
      → PutAt of P Q w.from d at j t slot → TakenAt P slot x → TakenOf of Q slot y → z ≡ x.distance + y.distance
      → d' ≡ sets d at (le 8 slot ++ le 4 z) → at' ≡ at + 12 → Putting of P Q d₀ d' at' x.next y.next
  putting-more d d' at at' j t slot x y z w here tx ty sum put step =
      record {
        from = slot + 1;
        fill = fill_more w.fill slot z d' at' here.next (omega (arith, here.sum, tx.is, ty.is)) put step;
        first = tx.next;
        second = ty.next;
      }
