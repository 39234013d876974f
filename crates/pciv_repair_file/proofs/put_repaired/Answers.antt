-- Proves pciv_repair_file::put_repaired: header, primary array, entries and index are the file (the laws of pciv_build).
use Rattle.std.proofs.Common.{◌≡◌, ℕ, ◌+◌, length, refl, sym, ap, ◌∙◌, arith}
use Rattle.std.proofs.lemmas.List.Edits.{sets}
use Rattle.pciv_format.specs.Layout.{primary, overflow_part}
use Rattle.pciv_format.specs.Write.{file_into}
use Rattle.pciv_format.proofs.RefusalsLaws.{passed_on}
use Rattle.pciv_build.proofs.ChainLaws.{begin-few, Opened, opened-refused, opened-space, opened-entries}
use Rattle.pciv_build.proofs.ChainLaws.{opened-finish, opened_map, opened-done}
use Rattle.pciv_repair_file.specs.Repaired.{repaired_at}
use Rattle.pciv_repair_file.proofs.RepairedLaws.{repaired-count, repaired-primary, repaired-entries, repaired-le}
use Rattle.pciv_repair_file.proofs.put_repaired.Goals as goal
use Rattle.pciv_repair_file.proofs.put_repaired.Goals.{After-begin, After-put_primary, After-put_kept}

opened : (c : After-begin)
    → (let v : ℕ → ℕ = repaired_at c.args.file.now c.args.n c.args.k in
    Opened c.args.n c.args.kept v (file_into c.args.n v (length c.args.out.now)) c.args.out.now c.begin.result c.begin.new.out)
opened c =
    let a = c.args in
    record {
      few = c.requires.parts_given.small;
      each = repaired-le a.file.now a.n a.k (λ i. (c.type_inv.file i).fits);
      count = c.requires.kept_value.0 ∙ sym (repaired-count a.file.now a.n a.k (λ i. (c.type_inv.file i).fits));
      into = refl;
      answer = c.begin.ensures.answer;
      buffer = c.begin.ensures.buffer;
    }

-- the primary array and the entries are written
primary_put : (c : After-put_primary)
    → c.put_primary.new.out
    ≡ sets c.begin.new.out 40 (primary c.args.n (repaired_at c.args.file.now c.args.n c.args.k))
primary_put c =
    let a = c.args in
    c.put_primary.ensures ∙ ap (sets c.begin.new.out 40) (sym (repaired-primary a.file.now a.n a.k (λ i. (c.type_inv.file i).fits)))

entries_put : (c : After-put_kept)
    → c.put_kept.new.out
    ≡ sets c.put_primary.new.out (40 + c.args.n) (overflow_part c.args.n (repaired_at c.args.file.now c.args.n c.args.k))
entries_put c =
    let a = c.args in
    c.put_kept.ensures
    ∙ ap (sets c.put_primary.new.out (40 + a.n)) (sym (repaired-entries a.file.now a.n a.k (λ i. (c.type_inv.file i).fits)))

pub begin-requires : goal.begin-requires
begin-requires c =
    let a = c.args in
    begin-few a.n a.kept (repaired_at a.file.now a.n a.k) c.requires.parts_given.small
    (c.requires.kept_value.0 ∙ sym (repaired-count a.file.now a.n a.k (λ i. (c.type_inv.file i).fits)))

pub returns-in_err-counts : goal.returns-in_err-counts
returns-in_err-counts c =
    let r = opened-refused (opened (goal.at.returns-in_err-counts c).After-begin) _ c.in_err-counts.was in
    record { answer = passed_on _ _ c.from_residual.ensures.1 ∙ r.0; buffer = r.1 }

pub put_primary-requires-clause-n_in_bounds : goal.put_primary-requires-clause-n_in_bounds
put_primary-requires-clause-n_in_bounds c =
    omega (arith, opened-space (opened (goal.at.put_primary-requires-clause-n_in_bounds c).After-begin) _ c.in_ok-counts.was)

pub put_kept-requires-clause-kept_in_bounds : goal.put_kept-requires-clause-kept_in_bounds
put_kept-requires-clause-kept_in_bounds c =
    let z = goal.at.put_kept-requires-clause-kept_in_bounds c in
    (opened-entries (opened z.After-begin) _ c.in_ok-counts.was _ (primary_put z.After-put_primary)).1

pub finish-requires : goal.finish-requires
finish-requires c =
    let z = goal.at.finish-requires c in
    opened-finish (opened z.After-begin) _ c.in_ok-counts.was _ (primary_put z.After-put_primary) _ (entries_put z.After-put_kept)

pub summary_of-requires : goal.summary_of-requires
summary_of-requires c =
    let z = goal.at.summary_of-requires c in
    opened_map (opened z.After-begin) _ c.in_ok-counts.was _ (primary_put z.After-put_primary) _ (entries_put z.After-put_kept)
    _ c.finish.ensures

pub returns : goal.returns
returns c =
    let z = goal.at.returns c in
    let r = opened-done (opened z.After-begin) _ c.in_ok-counts.was _ (primary_put z.After-put_primary) _ (entries_put z.After-put_kept)
    _ c.finish.ensures _ c.summary_of.ensures in
    record { answer = r.0; buffer = r.1 }
