-- Proves pciv_repair::lines::field_of: either side of the choice.
use Rattle.std.proofs.Common.{◌∙◌}
use Rattle.pciv_repair.proofs.LinesLaws.{field_of-low, field_of-high}
use Rattle.pciv_repair.proofs.lines.field_of.Goals as goal

pub returns-then-i-lt2 : goal.returns-then-i-lt2
returns-then-i-lt2 c = c.get32.ensures ∙ field_of-low c.args.file.now c.args.i c.if-i-lt2.true

pub returns-else-i-lt2 : goal.returns-else-i-lt2
returns-else-i-lt2 c = c.get64.ensures ∙ field_of-high c.args.file.now c.args.i c.if-i-lt2.false
