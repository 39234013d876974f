-- Proves pciv_build::put_entry: two numbers, one after the other.
use Rattle.std.proofs.Common.{refl}
use Rattle.pciv_bytes.specs.LittleEndian.{le}
use Rattle.pciv_build.proofs.BuildLaws.{sets-two}
use Rattle.pciv_build.proofs.put_entry.Goals as goal

pub returns-clause-buffer : goal.returns-clause-buffer
returns-clause-buffer c =
    let a = c.args in
    sets-two a.slot (le 4 a.distance) a.out.now _ _ a.at _ refl c.put64.ensures c.put32.ensures
