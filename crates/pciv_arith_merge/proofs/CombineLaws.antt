-- Laws of the slot operations, and of the primary bytes of a combination.
--   checked-sound          two checked files of bytes, as their parts
--   shrinks-minimum        the result is never above the first distance
--   combined-fits          no result of a merge is too large
--   SameBytes o p          the primary byte of a result of o is p of the primary bytes
--   same-minimum, -maximum
--   combined-byte          so the primary byte of a combination is p of the two primary bytes
--   combined-parts         and the primary array of a combination is p of the two primary arrays; its entries follow
--   combined-count         and its slots in overflow are those where that is 255
--   SameInline o p         the same where the first distance is stored inline
--   same-difference
--   inline-right           so p of the two primary arrays is right there
--   zipped-primary, full-primary    what is written and counted of the primary bytes as slices
-- Axioms: none.
use mathlib.Core.Path.{◌≡◌, sym, ap, ap₂, ◌∙◌}
use Prim.Native.Nat.{ℕ, ◌+◌, ◌-◌, ◌≤◌, ◌<◌, min, max}
use native.Mathlib.Nat.{zero-add}
use native.Mathlib.Omega.{arith}
use mathlib.Core.List.{List}
use lib.ListN.{length, get_or}
use lib.Seq.{sets, length-sets}
use lib.Dec.{eqb}
use mir.Syntax.{w8}
use mir.Val as val
use Rattle.pciv_bytes.specs.Ranges.{flag, table, sum_from}
use Rattle.pciv_passes.specs.Pairs.{byte_op, pair_at, full_at}
use Rattle.pciv_passes.specs.declared.pairs.ByteOp.{ByteOp}
use Rattle.pciv_passes.specs.declared.pairs.ByteOp.TheVariants.{Min, Max, Sub}
use Rattle.pciv_bytes.proofs.RangesLaws.{length-table, get_or-table, table-cong}
use Rattle.pciv_bytes.proofs.SumLaws.{sum_from-cong}
use Rattle.pciv_bytes.proofs.WriteLaws.{get_or-sets}
use Rattle.pciv_format.specs.Layout.{in_overflow, primary_byte, primary, overflow_count, overflow_part}
use Rattle.pciv_format.specs.Parts.{Parts, value_of}
use Rattle.pciv_format.specs.Check.{file_parts}
use Rattle.pciv_format.specs.Arith.{slot_op}
use Rattle.pciv_format.specs.declared.SlotOp.{SlotOp}
use Rattle.pciv_format.specs.declared.SlotOp.TheVariants.{Minimum, Maximum, Difference}
use Rattle.pciv_format.proofs.PartsLaws.{primary_byte-min, primary_byte-full, value_of-inline, primary_byte-value_of}
use Rattle.pciv_format.proofs.MapLaws.{primary_of, primary-length, primary-at}
use Rattle.pciv_build.specs.Build.{Fits}
use Rattle.pciv_build.proofs.EntriesLaws.{overflow_count-sum}
use Rattle.pciv_check.specs.Pair.{CheckedPair}
use Rattle.pciv_check.proofs.SoundPairLaws.{SoundPair, sound}
use Rattle.pciv_arith_merge.specs.Merge.{combined_of, combined_bytes, slot_op_of, parts_put, Shrinks, InlineRight}
use Rattle.pciv_arith_merge.specs.declared.combine.MergeOp.{MergeOp}
use Rattle.pciv_arith_merge.specs.declared.combine.MergeOp.TheVariants as MergeOps

pub checked-sound : {a b : List ℕ} {n ka kb : ℕ} → CheckedPair a b n ka kb → ((i : ℕ) → val.Fits w8 (get_or a i 0))
    → ((i : ℕ) → val.Fits w8 (get_or b i 0)) → SoundPair (file_parts a n ka) (file_parts b n kb)
checked-sound p a b = sound (record { pair = p; bytes-a = λ i. (a i).fits; bytes-b = λ i. (b i).fits })

pub shrinks-minimum : Shrinks Minimum
shrinks-minimum x y = omega arith

-- ---- no result is too large

slot_op_of-le : (o : MergeOp) (x y : ℕ) → slot_op (slot_op_of o) x y ≤ max x y
slot_op_of-le MergeOps.Minimum x y = omega arith
slot_op_of-le MergeOps.Maximum x y = omega arith
slot_op_of-le MergeOps.Difference x y = omega arith

pub combined-fits : (o : MergeOp) {A B : Parts} → SoundPair A B → Fits A.n (combined_of (slot_op_of o) A B)
combined-fits o {A} {B} p i h =
    omega (
      arith,
      slot_op_of-le o (value_of A i) (value_of B i),
      p.fits-first i h,
      p.fits-second i
          (omega (arith, p.sizes)),
    )

-- ---- primary bytes

abbrev pub SameBytes : SlotOp → ByteOp → Type 0
SameBytes o p = (x y : ℕ) → primary_byte (slot_op o x y) ≡ byte_op p (primary_byte x) (primary_byte y)

pub same-minimum : SameBytes Minimum Min
same-minimum x y = omega (arith, primary_byte-min (min x y), primary_byte-min x, primary_byte-min y)

pub same-maximum : SameBytes Maximum Max
same-maximum x y = omega (arith, primary_byte-min (max x y), primary_byte-min x, primary_byte-min y)

module _ (o : SlotOp) (p : ByteOp) (same : SameBytes o p) {A B : Parts} (m : SoundPair A B) where
  pub combined-byte : (i : ℕ) → i < A.n → primary_byte (combined_of o A B i) ≡ combined_bytes p A B i
  combined-byte i h =
      same (value_of A i) (value_of B i)
      ∙ ap₂ (byte_op p) (primary_byte-value_of A m.first m.bytes-first i h)
      (primary_byte-value_of B m.second m.bytes-second i (omega (arith, m.sizes)))

  combined-primary : primary A.n (combined_of o A B) ≡ table (combined_bytes p A B) 0 A.n
  unfolding primary
  combined-primary =
      table-cong (λ (i : ℕ). primary_byte (combined_of o A B i)) (combined_bytes p A B) 0 A.n
      (λ i h. combined-byte i (omega arith))

  -- with the overflow entries behind it
  pub combined-parts : (d d₁ d₂ : List ℕ) → d₁ ≡ sets d 40 (table (combined_bytes p A B) 0 A.n)
      → d₂ ≡ sets d₁ (40 + A.n) (overflow_part A.n (combined_of o A B)) → d₂ ≡ parts_put A.n (combined_of o A B) d
  combined-parts d d₁ d₂ first second =
      second
      ∙ ap (λ (l : List ℕ). sets l (40 + A.n) (overflow_part A.n (combined_of o A B)))
      (first ∙ ap (sets d 40) (sym combined-primary))

  pub combined-count : sum_from (λ (i : ℕ). flag (eqb (combined_bytes p A B i) 255)) 0 A.n
      ≡ overflow_count A.n (combined_of o A B)
  combined-count =
      sum_from-cong (λ (i : ℕ). flag (eqb (combined_bytes p A B i) 255))
      (λ (i : ℕ). flag (in_overflow (combined_of o A B i))) 0 A.n
      (λ i h₁ h₂.
      ap (λ (x : ℕ). flag (eqb x 255)) (sym (combined-byte i (omega arith)))
      ∙ ap flag (primary_byte-full (combined_of o A B i)))
      ∙ sym (overflow_count-sum A.n (combined_of o A B))

-- ---- where the first map is stored inline

abbrev pub SameInline : SlotOp → ByteOp → Type 0
SameInline o p = (x y : ℕ) → x < 255 → primary_byte (slot_op o x y) ≡ byte_op p x (primary_byte y)

pub same-difference : SameInline Difference Sub
same-difference x y small = omega (arith, primary_byte-min (x - y), primary_byte-min y)

module _ (o : SlotOp) (p : ByteOp) (same : SameInline o p) {A B : Parts} (m : SoundPair A B) where
  inline-byte : (i : ℕ) → i < A.n → A.byte i < 255 → primary_byte (combined_of o A B i) ≡ combined_bytes p A B i
  inline-byte i h small =
      let e : value_of A i ≡ A.byte i = value_of-inline A m.first i small in
      ap (λ (x : ℕ). primary_byte (slot_op o x (value_of B i))) e
      ∙ same (A.byte i) (value_of B i) small
      ∙ ap (byte_op p (A.byte i)) (primary_byte-value_of B m.second m.bytes-second i (omega (arith, m.sizes)))

  pub inline-right : (d d' : List ℕ) → 40 + A.n ≤ length d → d' ≡ sets d 40 (table (combined_bytes p A B) 0 A.n)
      → InlineRight A (combined_of o A B) d'
  inline-right d d' space put =
      let T : List ℕ = table (combined_bytes p A B) 0 A.n in
      let long : length T ≡ A.n = length-table (combined_bytes p A B) 0 A.n in
      record {
        space = omega (arith, ap length put, length-sets d 40 T);
        right = λ i h small.
            ap (λ (l : List ℕ). get_or l (40 + i) 0) put
            ∙ get_or-sets T d 0 40 i (omega arith) (omega arith)
            ∙ get_or-table (combined_bytes p A B) 0 0 A.n i h
            ∙ ap (combined_bytes p A B) (zero-add i)
            ∙ sym (inline-byte i h small);
      }

-- ---- of the primary bytes as slices

zipped-at : (p : ByteOp) (a b : List ℕ) (n ka kb : ℕ) → CheckedPair a b n ka kb → (i : ℕ) → i < n
    → pair_at p (primary_of a n) (primary_of b n) i ≡ combined_bytes p (file_parts a n ka) (file_parts b n kb) i
zipped-at p a b n ka kb c i h = ap₂ (byte_op p) (primary-at a n ka c.first i h) (primary-at b n kb c.second i h)

pub zipped-primary : (p : ByteOp) (a b : List ℕ) (n ka kb : ℕ) → CheckedPair a b n ka kb
    → table (pair_at p (primary_of a n) (primary_of b n)) 0 (length (primary_of a n))
    ≡ table (combined_bytes p (file_parts a n ka) (file_parts b n kb)) 0 n
zipped-primary p a b n ka kb c =
    rw (primary-length a n ka c.first)
    (table-cong (pair_at p (primary_of a n) (primary_of b n)) (combined_bytes p (file_parts a n ka) (file_parts b n kb)) 0 n
    (λ i h. zipped-at p a b n ka kb c i (omega arith)))

pub full-primary : (p : ByteOp) (a b : List ℕ) (n ka kb : ℕ) → CheckedPair a b n ka kb
    → sum_from (full_at p (primary_of a n) (primary_of b n)) 0 (length (primary_of a n))
    ≡ sum_from (λ (i : ℕ). flag (eqb (combined_bytes p (file_parts a n ka) (file_parts b n kb) i) 255)) 0 n
full-primary p a b n ka kb c =
    rw (primary-length a n ka c.first)
    (sum_from-cong (full_at p (primary_of a n) (primary_of b n))
    (λ (i : ℕ). flag (eqb (combined_bytes p (file_parts a n ka) (file_parts b n kb) i) 255)) 0 n
    (λ i h₁ h₂. ap (λ (x : ℕ). flag (eqb x 255)) (zipped-at p a b n ka kb c i (omega arith))))
