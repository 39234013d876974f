-- Laws of the layout: the derived counts, the length of each part, and that a file depends on the distances of
-- its slots alone.
--   index_step-few, -many, index_len-zero, -step    the step and the length of the index, case by case
--   index-cases, index-inside    both at once; the entry that an index entry names is there
--   index_step-le, index_len-le, index_len-most, overflow_count-le    how large they are
--   file_len-most                 no file of n slots is longer
--   file_len-is                   the length of a file, written out
--   length-primary, -overflow_entry, -index_entry, -header, -overflow_part, -index_part, -file    lengths of parts
--   overflow_slots-at             a slot in overflow stands behind the smaller ones
--   primary-cong                 of distances with the same bytes
--   overflow_count-cong, file-cong, summary-cong    of distances that agree on the slots
-- Axioms: none.
use mathlib.Core.Path.{◌≡◌, refl, sym, ap, ap₂, ◌∙◌}
use Prim.Native.Nat.{ℕ, suc, ◌+◌, ◌-◌, ◌*◌, ◌/◌, ◌≤◌, ◌<◌}
use native.Mathlib.Nat.{le-div_iff_mul-le, div-lt_iff_lt-mul, suc-mul, div-le_self, add-zero}
use native.Mathlib.Omega.{arith}
use mathlib.Core.Bool.{Bool, true, false}
use mathlib.Core.List.{List, ◌∷◌, ◌++◌}
use lib.ListN.{length, get_or, length-append}
use lib.Seq.{get_or-append-add}
use lib.Dec.{leb}
use borrow.Author.Tests.{le-leb, lt-leb, leb-false, leb-true, eq-eqb, ne_eqb}
use Rattle.pciv_bytes.specs.Ranges.{ceil_div, joined, keep_if, positions}
use Rattle.pciv_bytes.specs.LittleEndian.{le}
use Rattle.pciv_bytes.proofs.RangesLaws.{length-table, table-cong}
use Rattle.pciv_bytes.proofs.PositionsLaws.{positions-count, positions-at, positions-cong, positions-around}
use Rattle.pciv_bytes.proofs.JoinedLaws.{length-joined, joined-cong}
use Rattle.pciv_bytes.proofs.SumLaws.{sum_from-cong}
use Rattle.pciv_format.specs.Layout.{in_overflow, primary_byte, index_step, index_len, file_len}
use Rattle.pciv_format.specs.Layout.{primary, overflow_slots, overflow_count, overflow_entry}
use Rattle.pciv_format.specs.Layout.{overflow_part, index_entry, index_part, header, file, counts_of}
use Rattle.pciv_format.specs.Layout.{summarize, summary}

-- ---- derived counts

-- up to 2,048 overflow entries
pub index_step-few : (k : ℕ) → k ≤ 2048 → index_step k ≡ 0
unfolding index_step
index_step-few k few = rw (le-leb k 2048 few)

-- above 2,048 overflow entries the step is k / 2,048, rounded up
pub index_step-many : (k : ℕ) → 2048 < k → index_step k ≡ ceil_div k 2048
unfolding index_step
index_step-many k many = rw (lt-leb k 2048 many)

pub index_len-zero : (k : ℕ) → index_step k ≡ 0 → index_len k ≡ 0
unfolding index_len
index_len-zero k e = rw (eq-eqb (index_step k) 0 e)

pub index_len-step : (k : ℕ) → 0 < index_step k → index_len k ≡ ceil_div k (index_step k)
unfolding index_len
index_len-step k h = rw (ne_eqb (index_step k) 0 (λ q. omega arith))

-- few or many: what the step and the index length are
pub index-cases : {B : Type 0} (k : ℕ) → (k ≤ 2048 → index_step k ≡ 0 → index_len k ≡ 0 → B)
    → (2048 < k → index_step k ≡ ceil_div k 2048 → index_len k ≡ ceil_div k (index_step k) → B) → B
index-cases {B} k few many = go (leb k 2048) refl
  where
    go : (b : Bool) → leb k 2048 ≡ b → B
    go true e =
        let h : k ≤ 2048 = leb-true k 2048 e in
        let s = index_step-few k h in
        few h s (index_len-zero k s)
    go false e =
        let h : 2048 < k = leb-false k 2048 e in
        let s = index_step-many k h in
        many h s (index_len-step k (omega arith))

-- every index entry points at an overflow entry
pub index-inside : (k i : ℕ) → i < index_len k → i * index_step k < k
index-inside k i h =
    index-cases k (λ few s l. absurd (omega arith))
    (λ many s l.
    (let st : ℕ = index_step k in
    let h₂ : suc i ≤ (k + (st - 1)) / st = omega arith in
    let h₃ : suc i * st ≤ k + (st - 1) = (le-div_iff_mul-le (omega arith)).0 h₂ in
    let h₄ : suc i * st ≡ i * st + st = suc-mul i st in
    omega arith))

pub index_step-le : (k : ℕ) → index_step k ≤ k
index_step-le k = index-cases k (λ few s l. omega arith) (λ many s l. omega arith)

pub index_len-le : (k : ℕ) → index_len k ≤ k + index_step k
index_len-le k =
    index-cases k (λ few s l. omega arith)
    (λ many s l. omega (arith, div-le_self (k + (index_step k - 1)) (index_step k)))

pub file_len-is : (n k : ℕ) → file_len n k ≡ 40 + n + 12 * k + 16 * index_len k
unfolding file_len
file_len-is n k = refl

-- the index has at most 2,048 entries
pub index_len-most : (k : ℕ) → index_len k ≤ 2048
index_len-most k =
    index-cases k (λ few s l. omega arith)
    (λ many s l.
    (let st : ℕ = index_step k in
    let h : k ≤ 2048 * st = omega (arith, s) in
    let q : (k + (st - 1)) / st < 2049 = (div-lt_iff_lt-mul (omega arith)).1 (omega arith) in
    omega arith))

pub file_len-most : (n k : ℕ) → k ≤ n → file_len n k ≤ 40 + 13 * n + 16 * 2048
file_len-most n k h = omega (arith, file_len-is n k, index_len-most k)

-- ---- lengths

pub length-primary : (n : ℕ) (v : ℕ → ℕ) → length (primary n v) ≡ n
unfolding primary
length-primary n v = length-table (λ (i : ℕ). primary_byte (v i)) 0 n

pub length-overflow_entry : (v : ℕ → ℕ) (s : ℕ) → length (overflow_entry v s) ≡ 12
unfolding overflow_entry le
length-overflow_entry v s = refl

pub length-index_entry : (ss : List ℕ) (step i : ℕ) → length (index_entry ss step i) ≡ 16
unfolding index_entry le
length-index_entry ss step i = refl

pub length-header : (n k : ℕ) → length (header n k) ≡ 40
unfolding header le
length-header n k = refl

pub length-overflow_part : (n : ℕ) (v : ℕ → ℕ) → length (overflow_part n v) ≡ 12 * overflow_count n v
unfolding overflow_part overflow_count
length-overflow_part n v = length-joined (overflow_entry v) 12 (length-overflow_entry v) (overflow_slots n v)

pub length-index_part : (ss : List ℕ) → length (index_part ss) ≡ 16 * index_len (length ss)
unfolding index_part
length-index_part ss =
    length-joined (index_entry ss (index_step (length ss))) 16 (length-index_entry ss (index_step (length ss))) _
    ∙ ap (λ (m : ℕ). 16 * m) (length-table (λ (i : ℕ). i) 0 (index_len (length ss)))

pub length-file : (n : ℕ) (v : ℕ → ℕ) → length (file n v) ≡ file_len n (overflow_count n v)
unfolding file file_len overflow_count
length-file n v =
    simp (length-append, length-header, length-primary, length-overflow_part, length-index_part) (omega (arith, count))
  where
    count : overflow_count n v ≡ length (overflow_slots n v)
    count = refl

-- ---- the overflow slots

pub overflow_count-le : (n : ℕ) (v : ℕ → ℕ) → overflow_count n v ≤ n
unfolding overflow_count overflow_slots
overflow_count-le n v = positions-count (λ (i : ℕ). in_overflow (v i)) 0 n

pub overflow_slots-at : (n : ℕ) (v : ℕ → ℕ) (i : ℕ) → i < n → 255 ≤ v i
    → (overflow_count i v < overflow_count n v) × (get_or (overflow_slots n v) (overflow_count i v) 0 ≡ i)
unfolding overflow_count overflow_slots
overflow_slots-at n v i h overflows =
    let p : ℕ → Bool = λ s. in_overflow (v s) in
    let low : List ℕ = positions p 0 i in
    let rest : List ℕ = positions p (suc i) (n - suc i) in
    let all : positions p 0 n ≡ low ++ (i ∷ rest) =
    positions-around p n i h ∙ ap (λ (b : Bool). low ++ keep_if b i rest) (le-leb 255 (v i) overflows) in (
      omega (arith, ap length all ∙ length-append low (i ∷ rest)),
      ap (λ (l : List ℕ). get_or l (length low) 0) all
          ∙ ap (λ (t : ℕ). get_or (low ++ (i ∷ rest)) t 0) (sym (add-zero (length low)))
          ∙ get_or-append-add low (i ∷ rest) 0 0,
    )

-- ---- the primary array depends on the bytes of the n slots alone, the file on their distances

pub primary-cong : (n : ℕ) (v w : ℕ → ℕ) → ((i : ℕ) → i < n → primary_byte (v i) ≡ primary_byte (w i))
    → primary n v ≡ primary n w
unfolding primary
primary-cong n v w same =
    table-cong (λ (i : ℕ). primary_byte (v i)) (λ (i : ℕ). primary_byte (w i)) 0 n (λ j h. same j (omega arith))

module _ (n : ℕ) (v w : ℕ → ℕ) (same : (i : ℕ) → i < n → v i ≡ w i) where
  overflow_slots-cong : overflow_slots n v ≡ overflow_slots n w
  unfolding overflow_slots
  overflow_slots-cong =
      positions-cong (λ (i : ℕ). in_overflow (v i)) (λ (i : ℕ). in_overflow (w i)) 0 n
      (λ j h₁ h₂. ap in_overflow (same j (omega arith)))

  overflow_part-cong : overflow_part n v ≡ overflow_part n w
  unfolding overflow_part overflow_entry overflow_slots
  overflow_part-cong =
      joined-cong (overflow_entry v) (overflow_entry w) (overflow_slots n v)
      (λ j h.
      (let s : ℕ = get_or (overflow_slots n v) j 0 in
      let inside : s < n = omega (arith, (positions-at (λ (i : ℕ). in_overflow (v i)) 0 n j h).high) in
      ap (λ (x : ℕ). le 8 s ++ le 4 x) (same s inside)))
      ∙ ap (joined (overflow_entry w)) overflow_slots-cong

  pub overflow_count-cong : overflow_count n v ≡ overflow_count n w
  unfolding overflow_count
  overflow_count-cong = ap length overflow_slots-cong

  pub file-cong : file n v ≡ file n w
  unfolding file
  file-cong =
      let bytes = primary-cong n v w (λ i h. ap primary_byte (same i h)) in
      rw (overflow_count-cong, bytes, overflow_part-cong, overflow_slots-cong)

  pub summary-cong : summary n v ≡ summary n w
  unfolding summary
  summary-cong =
      ap₂ (λ (k sum : ℕ). summarize (counts_of n k) sum) overflow_count-cong
      (sum_from-cong v w 0 n (λ i h₁ h₂. same i (omega arith)))
