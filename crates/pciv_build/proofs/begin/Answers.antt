-- Proves pciv_build::begin: the header has room.
use Rattle.std.proofs.Common.{arith}
use Rattle.pciv_format.proofs.LayoutLaws.{file_len-is}
use Rattle.pciv_build.proofs.begin.Goals as goal

pub put_header-requires : goal.put_header-requires
put_header-requires c = omega (arith, file_len-is c.args.n c.args.k)
