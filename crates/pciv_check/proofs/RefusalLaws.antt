-- What the check of a file's header and length answers, case by case.
--   wrong_length-fits          a file whose length is not wrong is inside the bytes
--   header-inside             a header that states its file's counts, before bytes enough
-- Axioms: none.
use Rattle.std.proofs.Common.{Ok}
use mathlib.Core.Path.{◌≡◌, ap}
use Prim.Native.Nat.{ℕ, ◌≤◌}
use native.Mathlib.Omega.{arith}
use mathlib.Core.Bool.{Bool, true, false}
use mathlib.Core.List.{List}
use lib.ListN.{length}
use borrow.Author.Tests.{ltb-false}
use Rattle.pciv_format.specs.Layout.{counts_of}
use Rattle.pciv_format.specs.Check.{n_field, k_field, check_header}
use Rattle.pciv_format.specs.declared.Counts.{Counts}
use Rattle.pciv_format.proofs.PartsLaws.{not_eqb}
use Rattle.pciv_format.proofs.LayoutLaws.{file_len-is}
use Rattle.pciv_format.proofs.CheckLaws.{done-check_header}
use Rattle.pciv_check_parts.specs.Inside.{PartsInside}
use Rattle.pciv_check.specs.Length.{wrong_length}

-- ---- the length

pub wrong_length-fits : (whole : Bool) (len l : ℕ) → wrong_length whole len l ≡ false → l ≤ len
wrong_length-fits true len l h = let same : len ≡ l = not_eqb len l h in omega arith
wrong_length-fits false len l h = ltb-false len l h

-- ---- the header

module _ (mp : ℕ) (b : List ℕ) where
  pub header-inside : (s : Counts) → check_header mp b ≡ Ok s → s.len ≤ length b → PartsInside b s.n s.k
  unfolding counts_of
  header-inside s e fits =
      let d = done-check_header mp b s e in
      let h = d.0 in
      rw d.1
      (record {
        small = h.small;
        few = h.few;
        inside = omega (arith, ap (λ (z : Counts). z.len) d.1, file_len-is (n_field b) (k_field b));
      })
