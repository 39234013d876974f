-- Proves pciv_arith_lower::count_lowered.
use Rattle.std.proofs.Common.{◌≡◌, ◌+◌, sym, ap, ◌∙◌, arith}
use Rattle.pciv_format.specs.Check.{file_parts}
use Rattle.pciv_format.proofs.PartsLaws.{entry-good}
use Rattle.pciv_format.proofs.MapLaws.{entry-inside}
use Rattle.pciv_build.proofs.EntriesLaws.{counted_start}
use Rattle.pciv_build.proofs.AlongLaws.{Along, counted-entry, counted-pass, counted-last}
use Rattle.pciv_arith_lower.specs.Lowered.{lowered, lowered_at}
use Rattle.pciv_arith_lower.proofs.LoweredLaws.{lowered-along, lowered-slot}
use Rattle.pciv_arith_lower.proofs.count_lowered.Goals as goal
use Rattle.pciv_arith_lower.proofs.count_lowered.Goals.{At-loop-j, After-lower-x, then-x-ge255, else-x-ge255}

-- the result is in overflow only where the map is
along : (c : At-loop-j)
    → (let P = file_parts c.args.file.now c.args.n c.args.k in Along P (lowered_at P c.args.m))
along c =
    lowered-along (file_parts c.args.file.now c.args.n c.args.k) c.requires.parts (λ i. (c.type_inv.file (40 + i)).fits) c.args.m

-- its distance at entry j
distance : (c : After-lower-x)
    → (let P = file_parts c.args.file.now c.args.n c.args.k in
    c.lower-x.result ≡ lowered_at P c.args.m (P.slot c.loop-j.j))
distance c =
    let P = file_parts c.args.file.now c.args.n c.args.k in
    c.lower-x.ensures
    ∙ ap (lowered c.args.m) c.entry_distance.ensures
    ∙ sym (lowered-slot P c.requires.parts c.args.m c.loop-j.j c.loop-j-test.true)

pub loop-j-init : goal.loop-j-init
loop-j-init c = counted_start _ _

pub entry_distance-requires : goal.entry_distance-requires
entry_distance-requires c = entry-inside c.args.file.now c.args.n c.args.k c.requires c.loop-j.j c.loop-j-test.true

pub lower-x-requires : goal.lower-x-requires
lower-x-requires c =
    omega (
      arith,
      (entry-good (file_parts c.args.file.now c.args.n c.args.k) c.requires.parts c.loop-j.j c.loop-j-test.true).overflows,
    )

pub loop-j-preserved : goal.loop-j-preserved
loop-j-preserved c =
    let z = goal.at.loop-j-preserved c in
    let is = distance z.After-lower-x in
    elim c.if-x-ge255.branch [
      | then-x-ge255 w ↦
          rw w.count-is (counted-entry (along z.At-loop-j) c.loop-j.j c.loop-j-test.true c.loop-j.invariant (omega arith))
      | else-x-ge255 w ↦
          rw w.count-is (counted-pass (along z.At-loop-j) c.loop-j.j c.loop-j-test.true c.loop-j.invariant (omega arith))
    ]

pub returns : goal.returns
returns c =
    counted-last (along (goal.at.returns c).At-loop-j) c.loop-j.j (omega arith) c.loop-j-test.false c.loop-j.invariant
