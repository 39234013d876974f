-- Proves pciv_mask_logic::combine: refused, or both are masks and the words fit.
use Rattle.std.proofs.Common.{◌≡◌, sym, ◌∙◌, length}
use Rattle.pciv_format.specs.Mask.{combine_outcome}
use Rattle.pciv_format.proofs.RefusalsLaws.{passed_on}
use Rattle.pciv_mask_logic.proofs.LogicOutcomeLaws.{combine-is, combine-refused, combine-fits, combine-written}
use Rattle.pciv_mask_logic.proofs.combine.Goals as goal
use Rattle.pciv_mask_logic.proofs.combine.Goals.{After-mask_into}

-- the answer is that of the definition
answers : (c : After-mask_into) → (let a = c.args in
    c.mask_into.result ≡ combine_outcome a.op a.n a.a.now a.b.now (length a.out.now))
answers c =
    let a = c.args in
    rw (c.is_mask.ensures, c.is_mask-2.ensures) at c.mask_into.ensures ∙ sym (combine-is a.op a.n a.a.now a.b.now a.out.now)

pub returns-in_err-count : goal.returns-in_err-count
returns-in_err-count c =
    let e = sym c.in_err-count.was ∙ answers (goal.at.returns-in_err-count c).After-mask_into in
    record {
      answer = passed_on _ _ c.from_residual.ensures.1 ∙ e;
      words = sym (combine-refused _ _ _ _ _ _ (sym e));
    }

pub zip_words-requires : goal.zip_words-requires
zip_words-requires c =
    combine-fits _ _ _ _ c.args.out.now _ (sym (answers (goal.at.zip_words-requires c).After-mask_into) ∙ c.in_ok-count.was)

pub returns : goal.returns
returns c =
    let e = sym c.in_ok-count.was ∙ answers (goal.at.returns c).After-mask_into in
    record {
      answer = e;
      words = c.zip_words.ensures
          ∙ combine-written _ _ _ _ _ _ (sym e) (λ w. (c.type_inv.a w).fits) (λ w. (c.type_inv.b w).fits);
    }
