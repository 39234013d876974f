-- Proves pciv_repair::lines::put_line: four elements, one after another.
use Rattle.std.proofs.Common.{◌*◌}
use Rattle.pciv_repair.specs.Repair.{change_number}
use Rattle.pciv_repair.proofs.LinesLaws.{set-quad}
use Rattle.pciv_repair.proofs.lines.put_line.Goals as goal

pub returns-clause-list : goal.returns-clause-list
returns-clause-list c =
    let a = c.args in
    rw c.from.ensures (set-quad a.list.now (4 * a.line) (change_number a.kind) a.place a.before a.after)
