-- Proves pciv_check::check: a refusal stays, and the counts get the sum of the checked map.
use Rattle.std.proofs.Common.{Ok, sym, ap, ◌∙◌}
use Rattle.pciv_format.specs.Layout.{summarize}
use Rattle.pciv_format.proofs.CheckLaws.{done-counts}
use Rattle.pciv_format.proofs.ReadLaws.{total-is}
use Rattle.pciv_check.proofs.check.Goals as goal

pub summary_of-summary-requires : goal.summary_of-summary-requires
summary_of-summary-requires c = (done-counts 1 _ _ (sym c.in_ok-counts.ensures.answer)).0

pub returns : goal.returns
returns c =
    let s = c.in_ok-counts.counts in
    let map = (done-counts 1 _ _ (sym c.in_ok-counts.ensures.answer)).0.header in
    record {
      answer = rw (← c.in_ok-counts.ensures.answer)
          (ap Ok (c.summary_of-summary.ensures ∙ ap (summarize s) (sym (total-is c.args.file.now s.n s.k map.n_is map.k_is))));
    }
