-- Proves pciv_close_entries::put_entries: an entry a turn.
use Rattle.std.proofs.Common.{arith}
use Rattle.pciv_close.proofs.SoundLaws.{entries-start, entries-more, entries-end}
use Rattle.pciv_close_entries.proofs.PassesLaws.{slot-at, distance-at}
use Rattle.pciv_close_entries.proofs.put_entries.Goals as goal

pub loop-j-init : goal.loop-j-init
loop-j-init c = entries-start _ _ _ _ _

pub loop-j-preserved : goal.loop-j-preserved
loop-j-preserved c =
    let es = c.args.entries.now in
    entries-more _ _ _ _ _ c.loop-j.j _ c.loop-j.invariant (omega arith) _
    (rw (slot-at es c.loop-j.j, distance-at es c.loop-j.j) c.put_entry.ensures.buffer)

pub returns : goal.returns
returns c = entries-end _ _ _ _ _ c.loop-j.j _ c.loop-j.invariant (omega arith)
