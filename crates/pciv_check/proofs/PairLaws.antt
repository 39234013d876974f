-- Laws of the check of two files.
--   pair-checked                what it has shown of the two files
--   file-pair_counts             on the files of two lists: refusal 10, or the counts of both
--   pair_outcome-is              what follows the check of two files follows its counts; -ready and -refused
--   pair_answer-ready, -refused  what an answer says of its outcome
-- Axioms: none.
use Rattle.std.proofs.Common.{Ok, Err}
use Rattle.pciv_format.specs.declared.RefusalKind.TheVariants.{SizeMismatch}
use mathlib.Core.Path.{◌≡◌, refl, ◌∙◌}
use Prim.Native.Nat.{ℕ}
use mathlib.Core.Bool.{Bool, true, false, not}
use mathlib.Core.List.{List}
use lib.Dec.{eqb}
use Rattle.pciv_format.specs.Layout.{counts_of, file_of, list_counts, Limits}
use Rattle.pciv_format.specs.Refusals.{Outcome, refuse, refuse_if, and_then}
use Rattle.pciv_format.specs.Check.{counts_file}
use Rattle.pciv_format.specs.Arith.{pair_outcome}
use Rattle.pciv_format.specs.declared.Counts.{Counts}
use Rattle.pciv_format.specs.declared.Refusal.{Refusal}
use Rattle.pciv_format.proofs.PartsLaws.{not_eqb}
use Rattle.pciv_format.proofs.RefusalsLaws.{refuse_if-done, and_then-done}
use Rattle.pciv_format.proofs.CheckLaws.{done-counts}
use Rattle.pciv_format.proofs.Acceptance.{file-counted}
use Rattle.pciv_format.proofs.ListLaws.{refuse_sizes}
use Rattle.pciv_check.specs.Pair.{both_counts, pair_counts, CheckedPair}
use Rattle.pciv_check.specs.declared.pair.PairCounts.{PairCounts}

-- ---- what is checked

module _ (a b : List ℕ) where
  both-checked : (s t : Counts) (c : PairCounts) → counts_file 1 a ≡ Ok s → counts_file 2 b ≡ Ok t → s.n ≡ t.n
      → ◌≡◌ {A = Outcome PairCounts} (Ok (both_counts s t)) (Ok c) → CheckedPair a b c.n c.ka c.kb
  both-checked s t c e f same is =
      let counts : both_counts s t ≡ c = cc in
      rw (← counts) (record { first = (done-counts 1 a s e).0; second = rw same (done-counts 2 b t f).0 })

  pub pair-checked : (c : PairCounts) → pair_counts a b ≡ Ok c → CheckedPair a b c.n c.ka c.kb
  unfolding pair_counts
  pair-checked c e =
      let first = and_then-done (counts_file 1 a) _ c e in
      let second = and_then-done (counts_file 2 b) _ c first.2 in
      let sizes = refuse_if-done (not (eqb first.0.n second.0.n)) _ _ c second.2 in
      both-checked first.0 second.0 c first.1 second.1 (not_eqb _ _ sizes.0) sizes.1

-- ---- of lists

pub file-pair_counts : (xs ys : List ℕ) → Limits xs → Limits ys
    → pair_counts (file_of xs) (file_of ys) ≡ refuse_sizes xs ys (Ok (both_counts (list_counts xs) (list_counts ys)))
unfolding pair_counts counts_of
file-pair_counts xs ys l m = rw (file-counted 1 xs l, file-counted 2 ys m)

-- ---- what follows

module _ {A : Type 0} (a b : List ℕ) (next : ℕ → Outcome A) where
  pub pair_outcome-is : pair_outcome a b next ≡ and_then (pair_counts a b) (λ c. next c.n)
  unfolding pair_counts
  pair_outcome-is = go (counts_file 1 a) (counts_file 2 b)
    where
      sizes : (s t : Counts) (other : Bool)
          → refuse_if other (refuse SizeMismatch 0 0) (next s.n)
          ≡ and_then (refuse_if other (refuse SizeMismatch 0 0) (Ok (both_counts s t))) (λ c. next c.n)
      sizes s t true = refl
      sizes s t false = refl

      go : (o p : Outcome Counts)
          → and_then o (λ s. and_then p (λ t. refuse_if (not (eqb s.n t.n)) (refuse SizeMismatch 0 0) (next s.n)))
          ≡ and_then
          (and_then o (λ s. and_then p (λ t. refuse_if (not (eqb s.n t.n)) (refuse SizeMismatch 0 0) (Ok (both_counts s t)))))
          (λ c. next c.n)
      go (Ok s) (Ok t) = sizes s t (not (eqb s.n t.n))
      go (Ok s) (Err r) = refl
      go (Err r) p = refl

  pub pair_outcome-ready : (c : PairCounts) → pair_counts a b ≡ Ok c → pair_outcome a b next ≡ next c.n
  pair_outcome-ready c e = pair_outcome-is ∙ rw e

  pub pair_outcome-refused : (r : Refusal) → pair_counts a b ≡ Err r → pair_outcome a b next ≡ Err r
  pair_outcome-refused r e = pair_outcome-is ∙ rw e

-- ---- answers

pub pair_answer-ready : (o : Outcome PairCounts) (c : PairCounts) → Ok c ≡ o → o ≡ Ok c
pair_answer-ready (Ok x) c e = cc
pair_answer-ready (Err r) c e = cc

pub pair_answer-refused : (o : Outcome PairCounts) (r : Refusal) → Err r ≡ o → o ≡ Err r
pair_answer-refused (Ok x) r e = cc
pair_answer-refused (Err x) r e = cc
