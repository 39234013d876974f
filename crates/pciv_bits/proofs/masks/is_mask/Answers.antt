-- Proves pciv_bits::masks::is_mask: the slots fill the words; another number of words; the last word's bits past n.
use Rattle.std.proofs.Common.{not, sym, ap, ◌∙◌, arith}
use Rattle.pciv_format.proofs.MaskLaws.{bad_mask-whole, bad_mask-count, bad_mask-last}
use Rattle.pciv_bits.proofs.masks.is_mask.Goals as goal

pub returns-then-tail-eq0 : goal.returns-then-tail-eq0
returns-then-tail-eq0 c = bad_mask-whole c.args.n c.args.words.now (omega arith)

pub returns-then-words-full : goal.returns-then-words-full
returns-then-words-full c =
    let a = c.args in
    sym (ap not (bad_mask-count a.n a.words.now (λ e. c.if-words-full.true (e ∙ omega arith))))

pub returns : goal.returns
returns c =
    let a = c.args in
    bad_mask-last a.n a.words.now (omega arith) (omega arith) (λ w. (c.type_inv.words w).fits)
