-- The part of out that fill was lent holds zeros.
use Rattle.std.proofs.Common.{arith}
use Rattle.pciv_bytes.proofs.WriteLaws.{put_mid-same}
use Rattle.pciv_bytes.proofs.copies.fill_zero.Goals as goal

pub returns : goal.returns
returns c = put_mid-same c.args.from _ c.args.out.now 0 _ (c.fill.ensures.after (λ y same. same)) (omega arith)
