-- Proves pciv_mask_threshold::threshold.
use Rattle.std.proofs.Common.{◌∙◌}
use Rattle.pciv_format.specs.Mask.{holds, threshold_outcome, threshold_words}
use Rattle.pciv_bits.specs.Flags.{passes}
use Rattle.pciv_mask_threshold.specs.Select.{limit_of, is_negated}
use Rattle.pciv_mask_threshold.proofs.SelectLaws.{holds-limit, words-cong}
use Rattle.pciv_mask_threshold.proofs.threshold.Goals as goal

pub returns : goal.returns
unfolding threshold_outcome threshold_words
returns c =
    let a = c.args in
    record {
      answer = c.select.ensures.answer;
      words = rw (c.limit_of.ensures, c.is_negated.ensures) at c.select.ensures.words
          ∙ words-cong (passes (limit_of a.comparison a.t) (is_negated a.comparison)) a.file.now a.out.now
          (λ y. holds a.comparison y a.t) (λ y. holds-limit a.comparison y a.t);
    }
