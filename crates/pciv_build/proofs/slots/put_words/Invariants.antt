-- Invariants of pciv_build::slots::put_words: the entries of the slots that word w tells, and of those behind, are left.
use Rattle.std.proofs.Common.{◌+◌, ◌-◌, ◌*◌}
use Rattle.pciv_build.specs.Slots.{full_slots}
use Rattle.pciv_build.proofs.SlotsLaws.{BlanksLeft}
use Rattle.pciv_build.proofs.slots.put_words.Given as goal

abbrev pub invariant-loop-w : goal.invariant-loop-w
invariant-loop-w l =
    BlanksLeft l.fn.out l.place (full_slots l.fn.out l.from (l.to - l.from)) l.out l.next
    (full_slots l.fn.out (l.from + 64 * l.w) (l.to - (l.from + 64 * l.w)))
