-- Proves pciv_repair::lines::count_fields.
use Rattle.std.proofs.Common.{sym, ◌∙◌, arith}
use Rattle.pciv_bytes.proofs.RangesLaws.{bool_byte-flag, flag-le}
use Rattle.pciv_bytes.proofs.SumLaws.{added_none, added-one, added-all, sum_from-flag-le}
use Rattle.pciv_build.proofs.EntriesLaws.{count-sum}
use Rattle.pciv_repair.specs.Repair.{other_field}
use Rattle.pciv_repair.proofs.lines.count_fields.Goals as goal

pub loop-i-init : goal.loop-i-init
loop-i-init c = added_none _ 0 6 (omega arith)

pub overflow_add-count : goal.overflow_add-count
overflow_add-count c =
    let a = c.args in
    let other = other_field a.file.now a.new.now c.loop-i.i in
    rw (c.field_of.ensures, c.field_of-in-loop-i.ensures, bool_byte-flag other)
    (omega (arith, flag-le other, c.loop-i.invariant.rest, sum_from-flag-le (other_field a.file.now a.new.now) 0 6))

pub loop-i-preserved : goal.loop-i-preserved
loop-i-preserved c =
    let a = c.args in
    rw (c.field_of.ensures, c.field_of-in-loop-i.ensures, bool_byte-flag (other_field a.file.now a.new.now c.loop-i.i))
    (added-one c.loop-i.invariant c.loop-i-test.true)

pub returns : goal.returns
returns c =
    let a = c.args in
    added-all c.loop-i.invariant c.loop-i-test.false ∙ sym (count-sum (other_field a.file.now a.new.now) 6 0)
