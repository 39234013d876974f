-- Proves pciv_read::readings: the file is that of the list that it is read as, and the primary part is counted.
use Rattle.std.proofs.Common.{Ok, ◌≡◌, ℕ, ◌+◌, ◌-◌, take, drop, sym, ap, ◌∙◌, arith}
use Rattle.pciv_bytes.specs.LittleEndian.{Bytes}
use Rattle.pciv_format.specs.Layout.{file_of}
use Rattle.pciv_format.specs.Read.{list_of, primary_part}
use Rattle.pciv_format.proofs.Acceptance.{counted-is-file}
use Rattle.pciv_format.proofs.MapLaws.{primary-inside}
use Rattle.pciv_format.proofs.RefusalsLaws.{passed_on}
use Rattle.pciv_format.proofs.ReadCaseLaws.{checked, primary-done, readings-refused, readings-done}
use Rattle.pciv_read.proofs.readings.Goals as goal

pub returns-in_err-n : goal.returns-in_err-n
returns-in_err-n c =
    record {
      answer = passed_on _ _ c.from_residual.ensures.1 ∙ sym (readings-refused _ _ (sym c.in_err-n.ensures.answer));
    }

pub overflow_add-end : goal.overflow_add-end
overflow_add-end c = omega (arith, (checked _ _ (sym c.in_ok-n.ensures.answer)).header.small)

pub slice_bounds-readings_of-end : goal.slice_bounds-readings_of-end
slice_bounds-readings_of-end c = omega (arith, primary-inside _ _ _ (checked _ _ (sym c.in_ok-n.ensures.answer)))

pub returns : goal.returns
returns c =
    let b = c.args.file.now in
    let s = c.in_ok-n.field-0 in
    let is = sym c.in_ok-n.ensures.answer in
    let bytes : Bytes b = λ i. omega (arith, c.type_inv.file i) in
    let f = counted-is-file 1 b s bytes is in
    let n : 40 + s.n - 40 ≡ s.n = omega arith in
    let primary : primary_part (file_of (list_of b)) ≡ take (40 + s.n - 40) (drop 40 b) =
    ap primary_part (sym f.bytes) ∙ primary-done b s is ∙ ap (λ (z : ℕ). take z (drop 40 b)) (sym n) in
    record { answer = ap Ok (c.readings_of.ensures.every (list_of b) f.limits primary) ∙ sym (readings-done b s is) }
