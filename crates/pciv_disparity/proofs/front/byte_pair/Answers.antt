-- Proves pciv_disparity::front::byte_pair.
use Rattle.std.proofs.Common.{◌≡◌, ℕ, ◌+◌, ◌*◌, List, ap, ◌∙◌, arith}
use Rattle.pciv_format.specs.Layout.{at}
use Rattle.pciv_disparity.proofs.FrameLaws.{high-at}
use Rattle.pciv_disparity.proofs.front.byte_pair.Goals as goal

pub overflow_add-result : goal.overflow_add-result
overflow_add-result c =
    let high : at c.args.high.now c.args.y ≡ 256 * at c.args.bytes.now c.args.y =
    ap (λ (l : List ℕ). at l c.args.y) c.requires.high_value ∙ high-at c.args.bytes.now c.args.y (omega arith) in
    omega (arith, high, c.requires.bytes c.args.x, c.requires.bytes c.args.y)

pub returns : goal.returns
returns c =
    ap (λ (h : ℕ). at c.args.bytes.now c.args.x + h)
    (ap (λ (l : List ℕ). at l c.args.y) c.requires.high_value ∙ high-at c.args.bytes.now c.args.y (omega arith))
