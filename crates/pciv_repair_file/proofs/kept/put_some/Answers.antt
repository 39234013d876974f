-- Proves pciv_repair_file::kept::put_some.
use Rattle.std.proofs.Common.{ℕ, ◌++◌, ap₂, ◌∙◌, arith}
use Rattle.std.proofs.lemmas.List.Edits.{sets}
use Rattle.pciv_bytes.specs.LittleEndian.{le}
use Rattle.pciv_repair_file.proofs.WalkLaws.{judged-start, judged-more, judged-entry, judged-dropped}
use Rattle.pciv_repair_file.proofs.PutLaws.{putting-start, putting-skip, putting-more, putting-room, putting-end}
use Rattle.pciv_repair_file.proofs.kept.put_some.Goals as goal
use Rattle.pciv_repair_file.proofs.kept.put_some.Goals.{then-lowest-next, else-lowest-next}

pub loop-j-init : goal.loop-j-init
loop-j-init c = record { judged = judged-start _; putting = putting-start _ _ _ }

pub put_entry-place-requires : goal.put_entry-place-requires
put_entry-place-requires c =
    let e = judged-entry c.loop-j.invariant.judged _ c.lowest_after-next.ensures c.if-lowest-next.true in
    putting-room _ _ _ _ _ _ c.loop-j.invariant.putting c.loop-j-test.true e.0 c.requires.k_in_bounds

pub loop-j-preserved : goal.loop-j-preserved
loop-j-preserved c =
    let i = c.loop-j.invariant in
    let r : ℕ = c.lowest_after-next.result in
    let is = c.lowest_after-next.ensures in
    record {
      judged = judged-more i.judged r is c.loop-j-test.true;
      putting =
          elim c.if-lowest-next.branch [
            | then-lowest-next w ↦ (let e = judged-entry i.judged r is w.if-lowest-next.true in
                rw (w.out-is, w.place-is)
                (putting-more _ _ _ _ _ _ i.putting c.loop-j-test.true e.0 _ _ w.put_entry-place.ensures.next
                (w.put_entry-place.ensures.buffer
                ∙ ap₂ (λ (s x : ℕ). sets c.loop-j.out c.loop-j.place (le 8 s ++ le 4 x)) (omega (arith, e.2))
                w.get32-distance.ensures)))
            | else-lowest-next w ↦ rw (w.out-is, w.place-is)
                (putting-skip _ _ _ _ _ _ i.putting (judged-dropped i.judged r is w.if-lowest-next.false))
          ];
    }

pub returns : goal.returns
returns c = putting-end _ _ _ _ _ _ c.loop-j.invariant.putting (omega arith)
