-- Proves pciv_mask_logic::complement: refused, or it is a mask and the words fit.
use Rattle.std.proofs.Common.{◌≡◌, sym, ◌∙◌, length}
use Rattle.pciv_format.specs.Mask.{complement_outcome}
use Rattle.pciv_format.proofs.RefusalsLaws.{passed_on}
use Rattle.pciv_mask_logic.proofs.LogicOutcomeLaws.{complement-is, complement-refused, complement-fits, complement-written}
use Rattle.pciv_mask_logic.proofs.complement.Goals as goal
use Rattle.pciv_mask_logic.proofs.complement.Goals.{After-mask_into}

-- the answer is that of the definition
answers : (c : After-mask_into) → (let a = c.args in
    c.mask_into.result ≡ complement_outcome a.n a.words.now (length a.out.now))
answers c =
    let a = c.args in
    rw c.is_mask.ensures at c.mask_into.ensures ∙ sym (complement-is a.n a.words.now a.out.now)

pub returns-in_err-count : goal.returns-in_err-count
returns-in_err-count c =
    let e = sym c.in_err-count.was ∙ answers (goal.at.returns-in_err-count c).After-mask_into in
    record {
      answer = passed_on _ _ c.from_residual.ensures.1 ∙ e;
      words = sym (complement-refused _ _ _ _ (sym e));
    }

pub flip_words-requires : goal.flip_words-requires
flip_words-requires c =
    complement-fits _ _ c.args.out.now _ (sym (answers (goal.at.flip_words-requires c).After-mask_into) ∙ c.in_ok-count.was)

pub returns : goal.returns
returns c =
    let e = sym c.in_ok-count.was ∙ answers (goal.at.returns c).After-mask_into in
    record {
      answer = e;
      words = c.flip_words.ensures ∙ complement-written _ _ _ _ (sym e) (λ w. (c.type_inv.words w).fits);
    }
