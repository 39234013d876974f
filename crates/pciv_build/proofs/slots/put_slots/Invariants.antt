-- Invariants of pciv_build::slots::put_slots: the entries of the slots from block b on are left.
use Rattle.std.proofs.Common.{◌+◌, ◌-◌, ◌*◌}
use Rattle.pciv_build.specs.Slots.{full_slots}
use Rattle.pciv_build.proofs.SlotsLaws.{BlanksLeft}
use Rattle.pciv_build.proofs.slots.put_slots.Given as goal

abbrev pub invariant-loop-b : goal.invariant-loop-b
invariant-loop-b l =
    BlanksLeft l.fn.out (40 + l.n) (full_slots l.fn.out 0 l.n) l.out l.place
    (full_slots l.fn.out (4096 * l.b) (l.n - 4096 * l.b))
