-- Proves pciv_mask_apply::masked::masked_into: the parts are written one after another, which is the file (the
-- laws of pciv_build).
use Rattle.std.proofs.Common.{ℕ, ◌∙◌, length, arith}
use Rattle.pciv_format.specs.Check.{file_parts}
use Rattle.pciv_format.specs.Write.{map_into}
use Rattle.pciv_format.proofs.RefusalsLaws.{passed_on}
use Rattle.pciv_build.specs.Build.{Fits}
use Rattle.pciv_build.proofs.IntoLaws.{map-fits, fits-none}
use Rattle.pciv_build.proofs.ChainLaws.{begin-few, Opened, opened-refused, opened-space, opened-entries}
use Rattle.pciv_build.proofs.ChainLaws.{opened-finish, opened_map, opened-done}
use Rattle.pciv_mask_primary.specs.Masked.{masked_distance}
use Rattle.pciv_mask_apply.proofs.masked.masked_into.Goals as goal
use Rattle.pciv_mask_apply.proofs.masked.masked_into.Goals.{After-begin}

-- the distances of the result
abbrev v : After-begin → ℕ → ℕ
v c = masked_distance c.args.op (file_parts c.args.file.now c.args.n c.args.k) c.args.words.now

-- no slot is too large
fits : (c : After-begin) → Fits c.args.n (v c)
fits c = fits-none c.args.n (v c) c.first_large-large.result c.first_large-large.ensures c.if-large-n.false

opened : (c : After-begin) → (let a = c.args in
    Opened a.n c.count_overflow-count.result (v c) (map_into a.n (v c) (length a.out.now)) a.out.now c.begin.result c.begin.new.out)
opened c =
    record {
      few = c.requires.checked_map.header.small;
      each = fits c;
      count = c.count_overflow-count.ensures;
      into = map-fits c.args.n (v c) (length c.args.out.now) (fits c);
      answer = c.begin.ensures.answer;
      buffer = c.begin.ensures.buffer;
    }

pub begin-requires : goal.begin-requires
begin-requires c = begin-few c.args.n _ _ c.requires.checked_map.header.small c.count_overflow-count.ensures

pub returns-in_err-counts : goal.returns-in_err-counts
returns-in_err-counts c =
    let r = opened-refused (opened (goal.at.returns-in_err-counts c).After-begin) _ c.in_err-counts.was in
    record { answer = passed_on _ _ c.from_residual.ensures.1 ∙ r.0; buffer = r.1 }

pub put_primary-requires-clause-n_in_bounds : goal.put_primary-requires-clause-n_in_bounds
put_primary-requires-clause-n_in_bounds c =
    omega (
      arith,
      opened-space (opened (goal.at.put_primary-requires-clause-n_in_bounds c).After-begin) _ c.in_ok-counts.was,
    )

pub put_entries-requires : goal.put_entries-requires
put_entries-requires c =
    let z = (goal.at.put_entries-requires c).After-begin in
    let e = opened-entries (opened z) _ c.in_ok-counts.was _ c.put_primary.ensures in
    record {
      checked_map = c.requires.checked_map;
      mask = c.requires.mask;
      fits = fits z;
      holds_primary = e.0;
      count_value = c.count_overflow-count.ensures;
      count_in_bounds = e.1;
    }

pub finish-requires : goal.finish-requires
finish-requires c =
    opened-finish (opened (goal.at.finish-requires c).After-begin) _ c.in_ok-counts.was _ c.put_primary.ensures _
    c.put_entries.ensures

pub summary_of-requires : goal.summary_of-requires
summary_of-requires c =
    opened_map (opened (goal.at.summary_of-requires c).After-begin) _ c.in_ok-counts.was _ c.put_primary.ensures _
    c.put_entries.ensures _ c.finish.ensures

pub returns : goal.returns
returns c =
    let r = opened-done (opened (goal.at.returns c).After-begin) _ c.in_ok-counts.was _ c.put_primary.ensures _
    c.put_entries.ensures _ c.finish.ensures _ c.summary_of.ensures in
    record { answer = r.0; buffer = r.1 }
