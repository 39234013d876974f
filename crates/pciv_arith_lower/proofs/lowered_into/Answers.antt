-- Proves pciv_arith_lower::lowered_into: the parts are written one after another, which is the file (the laws of
-- pciv_build).
use Rattle.std.proofs.Common.{ℕ, ◌∙◌, length, arith}
use Rattle.pciv_bytes.specs.LittleEndian.{Bytes}
use Rattle.pciv_format.specs.Check.{file_parts}
use Rattle.pciv_format.specs.Write.{map_into}
use Rattle.pciv_format.proofs.MapLaws.{value-lt}
use Rattle.pciv_format.proofs.RefusalsLaws.{passed_on}
use Rattle.pciv_build.specs.Build.{Fits}
use Rattle.pciv_build.proofs.IntoLaws.{map-fits}
use Rattle.pciv_build.proofs.ChainLaws.{begin-few, Opened, opened-refused, opened-space, opened-entries}
use Rattle.pciv_build.proofs.ChainLaws.{opened-finish, opened_map, opened-done}
use Rattle.pciv_arith_lower.specs.Lowered.{lowered_at}
use Rattle.pciv_arith_lower.proofs.lowered_into.Goals as goal
use Rattle.pciv_arith_lower.proofs.lowered_into.Goals.{After-begin}

-- the distances of the result
abbrev v : After-begin → ℕ → ℕ
v c = lowered_at (file_parts c.args.file.now c.args.n c.args.k) c.args.m

fits : (c : After-begin) → Fits c.args.n (v c)
fits c i h =
    let bytes : Bytes c.args.file.now = λ t. (c.type_inv.file t).fits in
    omega (arith, value-lt c.args.file.now c.args.n c.args.k c.requires bytes i h)

opened : (c : After-begin)
    → Opened c.args.n c.count_lowered-count.result (v c) (map_into c.args.n (v c) (length c.args.out.now))
    c.args.out.now c.begin.result c.begin.new.out
opened c =
    record {
      few = c.requires.header.small;
      each = fits c;
      count = c.count_lowered-count.ensures;
      into = map-fits _ _ _ (fits c);
      answer = c.begin.ensures.answer;
      buffer = c.begin.ensures.buffer;
    }

pub begin-requires : goal.begin-requires
begin-requires c = begin-few _ _ _ c.requires.header.small c.count_lowered-count.ensures

pub returns-in_err-counts : goal.returns-in_err-counts
returns-in_err-counts c =
    let r = opened-refused (opened (goal.at.returns-in_err-counts c).After-begin) _ c.in_err-counts.was in
    record { answer = passed_on _ _ c.from_residual.ensures.1 ∙ r.0; buffer = r.1 }

pub put_primary-requires-clause-n_in_bounds : goal.put_primary-requires-clause-n_in_bounds
put_primary-requires-clause-n_in_bounds c =
    omega (
      arith,
      opened-space (opened (goal.at.put_primary-requires-clause-n_in_bounds c).After-begin) _ c.in_ok-counts.was,
    )

pub put_entries-requires-clause-m_in_bounds : goal.put_entries-requires-clause-m_in_bounds
put_entries-requires-clause-m_in_bounds c =
    let z = (goal.at.put_entries-requires-clause-m_in_bounds c).After-begin in
    let r = opened-entries (opened z) _ c.in_ok-counts.was _ c.put_primary.ensures in
    omega (arith, r.1, c.count_lowered-count.ensures)

pub finish-requires : goal.finish-requires
finish-requires c =
    opened-finish (opened (goal.at.finish-requires c).After-begin) _ c.in_ok-counts.was _ c.put_primary.ensures _
    c.put_entries.ensures

pub summary_of-requires : goal.summary_of-requires
summary_of-requires c =
    opened_map (opened (goal.at.summary_of-requires c).After-begin) _ c.in_ok-counts.was _ c.put_primary.ensures _
    c.put_entries.ensures _ c.finish.ensures

pub returns : goal.returns
returns c =
    let r = opened-done (opened (goal.at.returns c).After-begin) _ c.in_ok-counts.was _ c.put_primary.ensures _
    c.put_entries.ensures _ c.finish.ensures _ c.summary_of.ensures in
    record { answer = r.0; buffer = r.1 }
