-- Proves pciv_check_parts::check_parts: where no entry is wrong, all are right.
use Rattle.std.proofs.Common.{arith}
use Rattle.pciv_bytes.proofs.RangesLaws.{first_below-all}
use Rattle.pciv_format.specs.Parts.{bad_entry}
use Rattle.pciv_format.specs.Check.{file_parts}
use Rattle.pciv_check_parts.proofs.check_parts.Goals as goal

pub first_bad_slot-slot-requires-clause-entries_right :
    goal.first_bad_slot-slot-requires-clause-entries_right
first_bad_slot-slot-requires-clause-entries_right c j h =
    let a = c.args in
    first_below-all (bad_entry (file_parts a.file.now a.n a.k)) a.k j
    (omega (arith, c.first_bad_entry-entry.ensures, c.if-entry-k.false)) h
