-- Laws of readings, the distances that are not 0: the primary array alone tells how many a map has.
--   readings-rest          the elements of a list that are not 0 and those that are, all together
--   readings-primary       as many bytes of a primary array are not 0 as distances are
--   readings-of-primary    so a primary array has as many readings as every map whose file has it
--   primary-of-some        every list of bytes that is not too long is the primary array of some map
--   primary-of-many        a distance in overflow can be replaced by any other such: the primary array stays
-- Axioms: none.
use mathlib.Core.Path.{◌≡◌, refl, sym, ap, ◌∙◌}
use Prim.Native.Nat.{ℕ, ◌+◌, ◌≤◌, ◌<◌}
use native.Mathlib.Omega.{arith}
use native.Mathlib.Decide.{ℕ_discrete}
use mathlib.Core.Bool.{not}
use mathlib.Core.List.{List}
use lib.ListN.{length, set}
use lib.Dec.{eqb}
use Rattle.pciv_bytes.specs.Ranges.{flag, sum_from}
use Rattle.pciv_bytes.specs.LittleEndian.{Bytes}
use Rattle.pciv_bytes.specs.ByteAt.{byte_is}
use Rattle.pciv_bytes.proofs.RangesLaws.{flag-not}
use Rattle.pciv_bytes.proofs.SumLaws.{sum_from-cong, sum_from-rest}
use Rattle.pciv_format.specs.Layout.{max_slots, max_distance, primary_byte, primary, at, file_of, Limits}
use Rattle.pciv_format.specs.Read.{primary_part, readings}
use Rattle.pciv_format.specs.Edit.{Edit}
use Rattle.pciv_format.proofs.PartsLaws.{primary_byte-overflow, primary_byte-min, primary_byte-zero}
use Rattle.pciv_format.proofs.LayoutLaws.{length-primary, primary-cong}
use Rattle.pciv_format.proofs.PrimaryLaws.{primary-byte, primary-is}
use Rattle.pciv_format.proofs.EditLaws.{edited-at, edited-other, length-edited, edited-limits}
use Rattle.pciv_format.proofs.ListLaws.{file-primary}

pub readings-rest : (xs : List ℕ) → readings xs + sum_from (byte_is xs 0) 0 (length xs) ≡ length xs
unfolding readings
readings-rest xs =
    sum_from-rest (λ (i : ℕ). flag (not (eqb (at xs i) 0))) (byte_is xs 0)
    (λ i. flag-not (eqb (at xs i) 0)) 0 (length xs)

-- ---- from the primary array

-- a byte 255 is a reading already; nothing is asked of the distances
pub readings-primary : (n : ℕ) (v : ℕ → ℕ)
    → readings (primary n v) ≡ sum_from (λ (i : ℕ). flag (not (eqb (v i) 0))) 0 n
unfolding readings
readings-primary n v =
    rw (length-primary n v)
    (sum_from-cong (λ (i : ℕ). flag (not (eqb (at (primary n v) i) 0))) (λ (i : ℕ). flag (not (eqb (v i) 0))) 0 n
    (λ i h₁ h₂. rw (primary-byte n v i (omega arith), primary_byte-zero (v i))))

pub readings-of-primary : (p xs : List ℕ) → Limits xs → primary_part (file_of xs) ≡ p → readings p ≡ readings xs
unfolding readings
readings-of-primary p xs l e =
    ap readings (sym e ∙ file-primary xs l) ∙ readings-primary (length xs) (at xs)

-- ---- which maps have a primary array

-- the bytes themselves, as distances, are one
pub primary-of-some : (p : List ℕ) → Bytes p → length p ≤ max_slots
    → (xs : List ℕ) × Limits xs × (primary_part (file_of xs) ≡ p)
primary-of-some p bytes few =
    let limits : Limits p = record { count = few; each = λ i h. omega (arith, bytes i) } in
    let same : primary (length p) (at p) ≡ p =
    primary-is (length p) (at p) p refl (λ i h. primary_byte-min (at p i) ∙ omega (arith, bytes i)) in
    (p, limits, file-primary p limits ∙ same)

pub primary-of-many : (xs : List ℕ) → Limits xs → (i x : ℕ) → 255 ≤ at xs i → 255 ≤ x → x ≤ max_distance
    → Limits (set xs i x) × (primary_part (file_of (set xs i x)) ≡ primary_part (file_of xs))
primary-of-many xs l i x old new small = (
  limits,
  file-primary (set xs i x) limits
      ∙ rw (length-edited xs e) (primary-cong (length xs) (at (set xs i x)) (at xs) byte-same)
      ∙ sym (file-primary xs l),
)
  where
    e : Edit
    e = record { slot = i; distance = x }

    limits : Limits (set xs i x)
    limits = edited-limits xs e l small

    byte-same : (j : ℕ) → j < length xs → primary_byte (at (set xs i x) j) ≡ primary_byte (at xs j)
    byte-same j h =
        elim (ℕ_discrete j i) [
          | yes here ↦ rw (here, edited-at xs e (omega arith), primary_byte-overflow x new)
              (sym (primary_byte-overflow (at xs i) old))
          | no other ↦ ap primary_byte (sym (edited-other xs e j other))
        ]
