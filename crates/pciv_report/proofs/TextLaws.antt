-- Laws of text written a piece at a time, and of the text of an accepted file.
--   put_then           a piece written after another
--   put-length         writing keeps the length
--   put_front          what stands at the front of a list after a text was written there
--   report_text-done    an accepted file's text, by the check's sum and the answer of `readings`
-- Axioms: none.
use Rattle.std.proofs.Common.{Ok}
use mathlib.Core.Path.{◌≡◌, sym, ap, ap₂, ◌∙◌}
use Prim.Native.Nat.{ℕ, ◌≤◌}
use native.Mathlib.Omega.{arith}
use mathlib.Core.List.{List, ◌++◌}
use lib.ListN.{length, take, drop, length-append}
use lib.Seq.{sets, length-sets, take-append_seam}
use borrow.Author.Tests.{le-ltb}
use Rattle.std.specs.Result.{result_unwrap_or}
use Rattle.pciv_bytes.proofs.WriteLaws.{sets-append, sets-front}
use Rattle.pciv_format.specs.Refusals.{Outcome}
use Rattle.pciv_format.specs.Read.{check_file, readings_outcome}
use Rattle.pciv_format.specs.Report.{map_lines, report_text}
use Rattle.pciv_format.specs.declared.Summary.{Summary}
use Rattle.pciv_format.proofs.SummaryLaws.{counts-refuse-alike}
use Rattle.pciv_report.specs.Text.{Put}

module _ {d e : List ℕ} {p q : ℕ} {a : List ℕ} where
  pub put_then : {f b : List ℕ} {r : ℕ} → Put d p a e q → Put e q b f r → Put d p (a ++ b) f r
  put_then {b = b} x y =
      record {
        bytes =
            y.bytes
            ∙ ap₂ (λ (l : List ℕ) (n : ℕ). sets l n b) x.bytes x.next
            ∙ sym (sets-append a b d p);
        next = simp length-append (omega (arith, x.next, y.next));
      }

  pub put-length : Put d p a e q → length e ≡ length d
  put-length x = ap length x.bytes ∙ length-sets d p a

module _ {d e : List ℕ} {q : ℕ} {a : List ℕ} where
  pub put_front : Put d 0 a e q → length a ≤ length d → take q e ≡ a
  put_front x fits =
      let n : q ≡ length a = omega (arith, x.next) in
      ap₂ take n (x.bytes ∙ sets-front a d fits) ∙ take-append_seam a (drop (length a) d)

-- ---- the text of an accepted file

-- it has the sum of the check, and the count that `readings` answers
pub report_text-done : (b : List ℕ) (s : Summary) → length b ≤ 65536 → check_file 1 b ≡ Ok s
    → (count : Outcome ℕ) → count ≡ readings_outcome b
    → report_text b ≡ map_lines s s.sum (result_unwrap_or count 0)
unfolding report_text readings_outcome
report_text-done b s short good count is =
    let a = ((counts-refuse-alike 1 b).1 s).0 good in
    rw (le-ltb 65536 (length b) short, good, is, a.0, a.1)
