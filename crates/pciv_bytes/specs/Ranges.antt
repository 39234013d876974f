-- Definitions over a range of numbers, from which those of the file format are put together.
--   first_from p i c    the least of the c numbers from i on with p, or i + c
--   first_below p k     the least number below k with p, or k
--   table f i c        f i, f (i + 1), .., c elements
--   positions p i c    those of the c numbers from i on that have p, in rising order
--   joined g xs        g x for each x of xs, one after another
--   sum_from f i c      f i + f (i + 1) + .., c terms
--   flag b             1 for true, 0 for false
--   ceil_div a b        a / b, rounded up
-- Laws are in proofs/RangesLaws.antt. Axioms: none.
use Rattle.std.specs.Prelude.{ℕ, zero, suc, ◌+◌, ◌-◌, ◌/◌, Bool, true, false, cond, List, [], ◌∷◌, ◌++◌}

abbrev pub flag : Bool → ℕ
flag true = 1
flag false = 0

abbrev pub ceil_div : ℕ → ℕ → ℕ
ceil_div a b = (a + (b - 1)) / b

unfoldable pub first_from : (ℕ → Bool) → ℕ → ℕ → ℕ
first_from p i zero = i
first_from p i (suc c) = cond (p i) i (first_from p (suc i) c)

unfoldable pub first_below : (ℕ → Bool) → ℕ → ℕ
first_below p k = first_from p 0 k

module _ {A : Type 0} where
  unfoldable pub table : (ℕ → A) → ℕ → ℕ → List A
  table f i zero = []
  table f i (suc c) = f i ∷ table f (suc i) c

-- i in front of a list, or not
abbrev pub keep_if : Bool → ℕ → List ℕ → List ℕ
keep_if true i l = i ∷ l
keep_if false i l = l

unfoldable pub positions : (ℕ → Bool) → ℕ → ℕ → List ℕ
positions p i zero = []
positions p i (suc c) = keep_if (p i) i (positions p (suc i) c)

unfoldable pub joined : (ℕ → List ℕ) → List ℕ → List ℕ
joined g [] = []
joined g (x ∷ xs) = g x ++ joined g xs

unfoldable pub sum_from : (ℕ → ℕ) → ℕ → ℕ → ℕ
sum_from f i zero = 0
sum_from f i (suc c) = f i + sum_from f (suc i) c
