-- Laws of outcomes: what a done outcome says of each test on the way.
--   refuse_if-done, refuse_first-done    past a test that refuses, and past a test of every place
--   refuse_first-none, -some            where no place is bad, and at the least place that is
--   and_then-done, and_then-refused      past an outcome that something follows; it refuses where nothing else does
--   passed_on                           what a `?` returns where it meets a refusal
-- Axioms: none.
use Rattle.std.proofs.Common.{Ok, Err}
use mathlib.Core.Path.{◌≡◌, refl, ap, ◌∙◌}
use Rattle.std.specs.Result.{IsErrAnd}
use Rattle.std.proofs.lemmas.Result.{err_from_is_err_and}
use Prim.Native.Nat.{ℕ, ◌<◌}
use native.Mathlib.Omega.{arith}
use mathlib.Core.Bool.{Bool, true, false}
use lib.Dec.{ltb}
use borrow.Author.Tests.{lt-ltb, le-ltb, ltb-false}
use Rattle.pciv_bytes.specs.Ranges.{first_below}
use Rattle.pciv_bytes.proofs.RangesLaws.{first_below-all, first_below-none}
use Rattle.pciv_format.specs.Refusals.{Outcome, refuse, refuse_if, refuse_first, and_then}
use Rattle.pciv_format.specs.declared.Refusal.{Refusal}
use Rattle.pciv_format.specs.declared.RefusalKind.{RefusalKind}

module _ {A : Type 0} where
  -- past a test that refuses
  pub refuse_if-done : (t : Bool) (r : Refusal) (o : Outcome A) (a : A) → refuse_if t (Err r) o ≡ Ok a
      → (t ≡ false) × (o ≡ Ok a)
  refuse_if-done true r o a e = let z : ◌≡◌ {A = ℕ} 0 1 = cc in absurd (omega arith)
  refuse_if-done false r o a e = (refl, e)

  -- past a test of every place below count
  pub refuse_first-done : (kind : RefusalKind) (mp : ℕ) (bad : ℕ → Bool) (count : ℕ) (o : Outcome A) (a : A)
      → refuse_first kind mp bad count o ≡ Ok a → ((j : ℕ) → j < count → bad j ≡ false) × (o ≡ Ok a)
  refuse_first-done kind mp bad count o a e =
      let g = refuse_if-done (ltb (first_below bad count) count) _ o a e in
      (λ j h. first_below-all bad count j (ltb-false _ _ g.0) h, g.1)

  -- where no place is bad
  pub refuse_first-none : (kind : RefusalKind) (mp : ℕ) (bad : ℕ → Bool) (count : ℕ) (o : Outcome A)
      → ((j : ℕ) → j < count → bad j ≡ false) → refuse_first kind mp bad count o ≡ o
  refuse_first-none kind mp bad count o none =
      rw (first_below-none bad count none, le-ltb count count (omega arith))

  -- the place that is found
  pub refuse_first-some : (kind : RefusalKind) (mp : ℕ) (bad : ℕ → Bool) (count place : ℕ) (o : Outcome A)
      → place ≡ first_below bad count → place < count → refuse_first kind mp bad count o ≡ refuse kind mp place
  refuse_first-some kind mp bad count place o e h = rw (← e, lt-ltb place count h)

module _ {A B : Type 0} where
  -- past an outcome that something follows
  pub and_then-done : (o : Outcome A) (f : A → Outcome B) (b : B) → and_then o f ≡ Ok b
      → (a : A) × (o ≡ Ok a) × (f a ≡ Ok b)
  and_then-done (Ok a) f b e = (a, refl, e)
  and_then-done (Err r) f b e = let z : ◌≡◌ {A = ℕ} 0 1 = cc in absurd (omega arith)

  -- what is refused, where nothing that follows refuses
  pub and_then-refused : (o : Outcome A) (f : A → B) (r : Refusal) → and_then o (λ a. Ok (f a)) ≡ Err r
      → o ≡ Err r
  and_then-refused (Ok a) f r e = cc
  and_then-refused (Err x) f r e = cc

-- ---- a `?`

module _ {A : Type 0} where
  -- what is returned where it meets a refusal
  pub passed_on : (o : Outcome A) (r : Refusal) → IsErrAnd o (λ e. e ≡ r) → o ≡ Err r
  passed_on o r e = let p = err_from_is_err_and o e in p.1 ∙ ap Err p.2
