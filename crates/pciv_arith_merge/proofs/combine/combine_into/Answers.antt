-- Proves pciv_arith_merge::combine::combine_into: the parts of the file, one after another.
use Rattle.std.proofs.Common.{ℕ, ◌∙◌, length, refl, arith}
use Rattle.pciv_format.proofs.RefusalsLaws.{passed_on}
use Rattle.pciv_build.proofs.IntoLaws.{map-fits}
use Rattle.pciv_build.proofs.ChainLaws.{begin-few, Opened, opened-refused, opened-space, opened-finish}
use Rattle.pciv_build.proofs.ChainLaws.{opened_map, opened-done}
use Rattle.pciv_arith_merge.specs.Merge.{result_of, combined_into}
use Rattle.pciv_arith_merge.proofs.CombineLaws.{checked-sound, combined-fits}
use Rattle.pciv_arith_merge.proofs.combine.combine_into.Goals as goal
use Rattle.pciv_arith_merge.proofs.combine.combine_into.Goals.{After-begin}

-- the distances of the result
abbrev v : After-begin → ℕ → ℕ
v c = result_of c.args.op c.args.a.now c.args.b.now c.args.n c.args.ka c.args.kb

opened : (c : After-begin)
    → Opened c.args.n c.count_overflow-k.result (v c)
    (combined_into c.args.op c.args.a.now c.args.b.now c.args.n c.args.ka c.args.kb (length c.args.out.now))
    c.args.out.now c.begin.result c.begin.new.out
opened c =
    let fits = combined-fits c.args.op (checked-sound c.requires c.type_inv.a c.type_inv.b) in
    record {
      few = c.requires.first.header.small;
      each = fits;
      count = c.count_overflow-k.ensures;
      into = map-fits c.args.n (v c) (length c.args.out.now) fits;
      answer = c.begin.ensures.answer;
      buffer = c.begin.ensures.buffer;
    }

pub begin-requires : goal.begin-requires
begin-requires c = begin-few c.args.n c.count_overflow-k.result _ c.requires.first.header.small c.count_overflow-k.ensures

pub returns-in_err-counts : goal.returns-in_err-counts
returns-in_err-counts c =
    let r = opened-refused (opened (goal.at.returns-in_err-counts c).After-begin) _ c.in_err-counts.was in
    record { answer = passed_on _ _ c.from_residual.ensures.1 ∙ r.0; buffer = r.1 }

pub put_parts-requires-clause-kb_in_bounds : goal.put_parts-requires-clause-kb_in_bounds
put_parts-requires-clause-kb_in_bounds c =
    let space = opened-space (opened (goal.at.put_parts-requires-clause-kb_in_bounds c).After-begin) _ c.in_ok-counts.was in
    omega (arith, space, c.count_overflow-k.ensures)

pub finish-requires : goal.finish-requires
finish-requires c =
    opened-finish (opened (goal.at.finish-requires c).After-begin) _ c.in_ok-counts.was _ refl _ c.put_parts.ensures

pub summary_of-requires : goal.summary_of-requires
summary_of-requires c =
    opened_map (opened (goal.at.summary_of-requires c).After-begin) _ c.in_ok-counts.was _ refl _ c.put_parts.ensures
    _ c.finish.ensures

pub returns : goal.returns
returns c =
    let r = opened-done (opened (goal.at.returns c).After-begin) _ c.in_ok-counts.was _ refl _ c.put_parts.ensures
    _ c.finish.ensures _ c.summary_of.ensures in
    record { answer = r.0; buffer = r.1 }
