-- Proves pciv_write::write: the list is too long; the buffer is too small; the parts, one after another.
use Rattle.std.proofs.Common.{length, sym, ◌∙◌, arith}
use Rattle.pciv_format.specs.Layout.{at}
use Rattle.pciv_format.specs.Write.{write_outcome}
use Rattle.pciv_format.proofs.RefusalsLaws.{passed_on}
use Rattle.pciv_build.proofs.ChainLaws.{begin-few, Opened, opened-refused, opened-space, opened-entries}
use Rattle.pciv_build.proofs.ChainLaws.{opened-finish, opened_map, opened-done}
use Rattle.pciv_write.proofs.WriteOutcomeLaws.{write-long, write-into, write_buffer-is}
use Rattle.pciv_write.proofs.write.Goals as goal
use Rattle.pciv_write.proofs.write.Goals.{After-begin}

opened : (c : After-begin)
    → Opened (length c.args.distances.now) c.count_overflow-k.result (at c.args.distances.now)
    (write_outcome c.args.distances.now (length c.args.out.now)) c.args.out.now c.begin.result c.begin.new.out
opened c =
    record {
      few = c.if-is_large.false;
      each = λ i h. omega (arith, (c.type_inv.distances i).fits);
      count = c.count_overflow-k.ensures;
      into = write-into c.args.distances.now c.args.out.now c.if-is_large.false;
      answer = c.begin.ensures.answer;
      buffer = c.begin.ensures.buffer;
    }

pub returns-then-is_large : goal.returns-then-is_large
returns-then-is_large c =
    let r = write-long c.args.distances.now c.args.out.now c.if-is_large.true in
    record { answer = c.refuse.ensures ∙ sym r.0; buffer = sym r.1 }

pub begin-requires : goal.begin-requires
begin-requires c =
    begin-few (length c.args.distances.now) c.count_overflow-k.result (at c.args.distances.now) c.if-is_large.false
    c.count_overflow-k.ensures

pub returns-in_err-counts : goal.returns-in_err-counts
returns-in_err-counts c =
    let r = opened-refused (opened (goal.at.returns-in_err-counts c).After-begin) _ c.in_err-counts.was in
    record {
      answer = passed_on _ _ c.from_residual.ensures.1 ∙ r.0;
      buffer = r.1 ∙ sym (write_buffer-is c.args.distances.now c.args.out.now);
    }

pub put_primary-requires : goal.put_primary-requires
put_primary-requires c =
    omega (arith, opened-space (opened (goal.at.put_primary-requires c).After-begin) _ c.in_ok-counts.was)

pub put_entries-requires : goal.put_entries-requires
put_entries-requires c =
    let o =
    opened-entries (opened (goal.at.put_entries-requires c).After-begin) _ c.in_ok-counts.was _ c.put_primary.ensures in
    record {
      distances_len_bound = c.if-is_large.false;
      k_value = c.count_overflow-k.ensures;
      k_in_bounds = o.1;
      holds_primary = o.0;
    }

pub finish-requires : goal.finish-requires
finish-requires c =
    opened-finish (opened (goal.at.finish-requires c).After-begin) _ c.in_ok-counts.was _ c.put_primary.ensures _
    c.put_entries.ensures

pub summary_of-requires : goal.summary_of-requires
summary_of-requires c =
    opened_map (opened (goal.at.summary_of-requires c).After-begin) _ c.in_ok-counts.was _ c.put_primary.ensures _
    c.put_entries.ensures _ c.finish.ensures

pub returns : goal.returns
returns c =
    let r = opened-done (opened (goal.at.returns c).After-begin) _ c.in_ok-counts.was _ c.put_primary.ensures _
    c.put_entries.ensures _ c.finish.ensures _ c.summary_of.ensures in
    record { answer = r.0; buffer = r.1 ∙ sym (write_buffer-is c.args.distances.now c.args.out.now) }
