-- Laws of what the smaller and the larger of every two bytes add up to.
--   extremes-none, -next    of no byte, and of a byte more
--   counts-le, sums-le      at most 1 for each byte that is counted, and else at most 255
-- Axioms: none.
use mathlib.Core.Path.{◌≡◌, sym}
use Prim.Native.Nat.{ℕ, ◌+◌, ◌*◌, ◌≤◌, ◌<◌, min, max}
use native.Mathlib.Nat.{sub-zero}
use native.Mathlib.Omega.{arith}
use mathlib.Core.List.{List}
use Rattle.pciv_bytes.specs.Ranges.{sum_from}
use Rattle.pciv_bytes.specs.LittleEndian.{Bytes}
use Rattle.pciv_bytes.specs.ByteAt.{byte_at}
use Rattle.pciv_passes.specs.Counts.{passes, term_of}
use Rattle.pciv_passes.specs.Extremes.{least_at, most_at, ExtremeSums}
use Rattle.pciv_passes.specs.declared.counts.Test.{Test}
use Rattle.pciv_passes.specs.declared.counts.Term.{Term}
use Rattle.pciv_passes.specs.declared.counts.Term.TheVariants.{Passing, Byte}
use Rattle.pciv_bytes.proofs.RangesLaws.{flag-le}
use Rattle.pciv_bytes.proofs.SumLaws.{sum_from-none, sum_from-next, sum_from-le, sum_from-flag-le}

module _ (of : Term) (xs ys : List ℕ) where
  pub extremes-none : ExtremeSums of xs ys 0 0 0 0
  extremes-none =
      record {
        least = sym (sum_from-none (least_at of xs ys) 0 0 (omega arith));
        most = sym (sum_from-none (most_at of xs ys) 0 0 (omega arith));
      }

  pub extremes-next : (i l m x y : ℕ) → ExtremeSums of xs ys 0 i l m → x ≡ least_at of xs ys i → y ≡ most_at of xs ys i
      → ExtremeSums of xs ys 0 (i + 1) (l + x) (m + y)
  extremes-next i l m x y sums e f =
      record {
        least = rw (sub-zero, e, sums.least, sub-zero) (sym (sum_from-next (least_at of xs ys) i));
        most = rw (sub-zero, f, sums.most, sub-zero) (sym (sum_from-next (most_at of xs ys) i));
      }

-- ---- how large they are

pub counts-le : (t : Test) (xs ys : List ℕ) (i c : ℕ)
    → (sum_from (least_at (Passing t) xs ys) i c ≤ c) × (sum_from (most_at (Passing t) xs ys) i c ≤ c)
counts-le t xs ys i c = (
  sum_from-flag-le (λ (j : ℕ). passes t (min (byte_at xs j) (byte_at ys j))) i c,
  sum_from-flag-le (λ (j : ℕ). passes t (max (byte_at xs j) (byte_at ys j))) i c,
)

term_of-le : (of : Term) (x : ℕ) → x < 256 → term_of of x ≤ 255
term_of-le (Passing t) x h = omega (arith, flag-le (passes t x))
term_of-le Byte x h = omega arith

module _ (of : Term) (xs ys : List ℕ) (bytes_x : Bytes xs) (bytes_y : Bytes ys) where
  pub sums-le : (i c : ℕ) → (sum_from (least_at of xs ys) i c ≤ 255 * c) × (sum_from (most_at of xs ys) i c ≤ 255 * c)
  sums-le i c = (
    sum_from-le (least_at of xs ys) 255
        (λ j. term_of-le of (min (byte_at xs j) (byte_at ys j)) (omega (arith, bytes_x j, bytes_y j))) i c,
    sum_from-le (most_at of xs ys) 255
        (λ j. term_of-le of (max (byte_at xs j) (byte_at ys j)) (omega (arith, bytes_x j, bytes_y j))) i c,
  )
