-- What `write` answers and leaves, case by case, and what its passes know of the list.
--   count-is               how many are in overflow, as a sum over the list
--   write-long             the list is too long
--   write-into             else the answer is that of writing the file
--   write_buffer-is         the buffer, by the answer
-- Axioms: none.
use Rattle.pciv_format.specs.declared.RefusalKind.TheVariants.{TooManySlots}
use Rattle.std.specs.List.{sum, sum_by}
use Rattle.std.proofs.lemmas.List.Sums.{sum_by-cons, sum-map}
use mathlib.Core.Path.{◌≡◌, refl, sym, ap, ◌∙◌}
use Prim.Native.Nat.{ℕ, suc, ◌+◌, ◌≤◌, ◌<◌}
use native.Mathlib.Omega.{arith}
use mathlib.Core.List.{List, [], ◌∷◌, map}
use lib.ListN.{length}
use borrow.Author.Tests.{lt-ltb, le-ltb}
use Rattle.pciv_bytes.specs.Ranges.{flag, sum_from}
use Rattle.pciv_bytes.proofs.SumLaws.{sum_from-shift}
use Rattle.pciv_format.specs.Layout.{max_slots, in_overflow, overflow_count, at}
use Rattle.pciv_format.specs.Refusals.{refuse}
use Rattle.pciv_format.specs.Write.{file_into, file_buffer, write_outcome, write_buffer}
use Rattle.pciv_build.proofs.EntriesLaws.{overflow_count-sum}

-- ---- the count

sum-listed : (f : ℕ → ℕ) (xs : List ℕ) → sum_by f xs ≡ sum_from (λ (i : ℕ). f (at xs i)) 0 (length xs)
unfolding sum_from
sum-listed f [] = refl
sum-listed f (x ∷ xs) =
    sum_by-cons f x xs
    ∙ ap (λ (s : ℕ). f x + s)
    (sum-listed f xs
    ∙ sum_from-shift (λ (i : ℕ). f (at xs i)) (λ (i : ℕ). f (at (x ∷ xs) i)) 0 1 (length xs)
    (λ j. let low : 0 + j ≡ j = omega arith in let high : 1 + j ≡ suc j = omega arith in rw (low, high)))

pub count-is : (xs : List ℕ) → sum (map (λ (x : ℕ). flag (in_overflow x)) xs) ≡ overflow_count (length xs) (at xs)
count-is xs =
    sum-map (λ (x : ℕ). flag (in_overflow x)) xs
    ∙ sum-listed (λ (x : ℕ). flag (in_overflow x)) xs
    ∙ sym (overflow_count-sum (length xs) (at xs))

-- ---- the answer and the buffer

module _ (xs out : List ℕ) where
  pub write-long : max_slots < length xs → (write_outcome xs (length out) ≡ refuse TooManySlots 1 0) × (write_buffer xs out ≡ out)
  unfolding write_outcome write_buffer
  write-long long = let t = lt-ltb max_slots (length xs) long in (rw t, rw t)

  pub write-into : length xs ≤ max_slots → write_outcome xs (length out) ≡ file_into (length xs) (at xs) (length out)
  unfolding write_outcome
  write-into few = rw (le-ltb max_slots (length xs) few)

  pub write_buffer-is : write_buffer xs out ≡ file_buffer (write_outcome xs (length out)) (length xs) (at xs) out
  unfolding write_buffer
  write_buffer-is = refl
