-- Proves pciv_read::primary.
use Rattle.std.proofs.Common.{◌≡◌, ℕ, ◌+◌, ◌-◌, take, drop, sym, ap, ◌∙◌, arith}
use Rattle.std.proofs.lemmas.Grind.{common_steps}
use native.Mathlib.Nat.{zero-add}
use Rattle.pciv_format.proofs.MapLaws.{primary-inside}
use Rattle.pciv_format.proofs.ReadCaseLaws.{checked, primary-refused, primary-done, place-refused, place-done}
use Rattle.pciv_read.proofs.primary.Goals as goal

pub overflow_add-end : goal.overflow_add-end
overflow_add-end c = omega (arith, (checked _ _ (sym c.in-Ok.ensures.answer)).header.small)

pub slice_bounds-result-end-in-Ok : goal.slice_bounds-result-end-in-Ok
slice_bounds-result-end-in-Ok c = omega (arith, primary-inside _ _ _ (checked _ _ (sym c.in-Ok.ensures.answer)))

pub returns-in-Err : goal.returns-in-Err
returns-in-Err c =
    let no = sym c.in-Err.ensures.answer in
    record {
      part = rw (primary-refused _ _ no) (grind (arith, common_steps));
      place = rw (place-refused _ _ no c.args.file.ref_ptr, zero-add);
    }

pub returns-in-Ok : goal.returns-in-Ok
returns-in-Ok c =
    let b = c.args.file.now in
    let map = sym c.in-Ok.ensures.answer in
    let n : 40 + c.in-Ok.counts.n - 40 ≡ c.in-Ok.counts.n = omega arith in
    record {
      part = ap (λ (z : ℕ). take z (drop 40 b)) n ∙ sym (primary-done _ _ map);
      place = sym (place-done _ _ map _);
    }
