-- Proves pciv_check::check_buffer: a refusal stays, and the counts get the sum of the checked map.
use Rattle.std.proofs.Common.{Ok, sym, ap, ◌∙◌}
use Rattle.pciv_format.specs.Layout.{summarize}
use Rattle.pciv_format.proofs.CheckLaws.{done-buffer}
use Rattle.pciv_format.proofs.ReadLaws.{total-is}
use Rattle.pciv_check.proofs.check_buffer.Goals as goal

pub summary_of-requires : goal.summary_of-requires
summary_of-requires c = (done-buffer 1 _ _ (sym c.in_ok-counts.ensures.answer))

pub returns : goal.returns
returns c =
    let s = c.in_ok-counts.counts in
    let map = (done-buffer 1 _ _ (sym c.in_ok-counts.ensures.answer)).header in
    record {
      answer = rw (← c.in_ok-counts.ensures.answer)
          (ap Ok (c.summary_of.ensures ∙ ap (summarize s) (sym (total-is c.args.buffer.now s.n s.k map.n_is map.k_is))));
    }
