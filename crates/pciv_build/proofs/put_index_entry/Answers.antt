-- Proves pciv_build::put_index_entry: two numbers, one after the other.
use Rattle.std.proofs.Common.{refl}
use Rattle.pciv_bytes.specs.LittleEndian.{le}
use Rattle.pciv_build.proofs.BuildLaws.{sets-two}
use Rattle.pciv_build.proofs.put_index_entry.Goals as goal

pub returns : goal.returns
returns c =
    let a = c.args in
    sets-two a.slot (le 8 a.entry) a.out.now _ _ a.at _ refl c.put64.ensures c.put64-2.ensures
