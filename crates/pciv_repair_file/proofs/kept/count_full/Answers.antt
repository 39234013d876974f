-- Proves pciv_repair_file::kept::count_full: a count of the primary part as a slice.
use Rattle.std.proofs.Common.{sym, ◌∙◌, arith}
use Rattle.pciv_check_parts.proofs.PrimaryPartLaws.{part_count}
use Rattle.pciv_repair_file.proofs.WalkLaws.{full_count-is}
use Rattle.pciv_repair_file.proofs.kept.count_full.Goals as goal

pub returns : goal.returns
returns c =
    let a = c.args in
    c.count_byte.ensures ∙ part_count a.file.now a.n 0 (omega arith) ∙ sym (full_count-is a.file.now a.n 0)
