-- Proves pciv_mask_bytes::rows::put_row.
use Rattle.std.proofs.Common.{◌≡◌, ℕ, List, ◌+◌, ◌*◌, get_or, refl, sym, ap, ◌∙◌, arith}
use Rattle.std.proofs.lemmas.List.Edits.{sets}
use Rattle.pciv_bytes.specs.Ranges.{table}
use Rattle.pciv_format.specs.Mask.{bit_at}
use Rattle.pciv_mask_bytes.proofs.RowLaws.{bit_rows-at, bits_row-table}
use Rattle.pciv_mask_bytes.proofs.SlotLaws.{written-one}
use Rattle.pciv_mask_bytes.proofs.rows.put_row.Goals as goal

pub loop-j-init : goal.loop-j-init
unfolding table
loop-j-init c = refl

pub loop-j-preserved : goal.loop-j-preserved
loop-j-preserved c =
    let a = c.args in
    let j = c.loop-j.j in
    written-one (bit_at a.b) a.at a.out.now j c.loop-j.invariant _
    (ap (λ (r : List ℕ). get_or r (8 * a.b + j) 0) c.requires.0 ∙ bit_rows-at a.b j c.requires.1 c.loop-j-test.true)

pub returns : goal.returns
returns c =
    let a = c.args in
    let all : c.loop-j.j ≡ 8 = omega arith in
    c.loop-j.invariant
    ∙ ap (λ (j : ℕ). sets a.out.now a.at (table (bit_at a.b) 0 j)) all
    ∙ ap (sets a.out.now a.at) (sym (bits_row-table a.b))
