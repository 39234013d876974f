-- Proves report::main: the report fits the text's array.
use Rattle.std.proofs.Common.{◌≤◌, take, sym, ◌∙◌, arith}
use lib.Seq.{length-take-le}
use Rattle.pciv_format.proofs.ReportLaws.{report_outcome-le}
use Rattle.report.proofs.main.Goals as goal
use Rattle.report.proofs.main.Goals.{In-Ok}

len-fits : (c : In-Ok) → c.in-Ok.len ≤ 160
len-fits c =
    report_outcome-le (take c.read_full-got.result c.read_full-got.new.buf) 160 c.in-Ok.len
    (sym (sym c.in-Ok.is ∙ c.report-answer.ensures.answer))

pub slice_bounds-text-end : goal.slice_bounds-text-end
slice_bounds-text-end c = omega (arith, len-fits (goal.at.slice_bounds-text-end c).In-Ok)

pub slice_bounds-write_all-end : goal.slice_bounds-write_all-end
slice_bounds-write_all-end c =
    sym (length-take-le c.in-Ok.len c.report-answer.new.out (omega (arith, len-fits (goal.at.slice_bounds-write_all-end c).In-Ok)))
