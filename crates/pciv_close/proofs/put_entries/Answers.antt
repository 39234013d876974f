-- Proves pciv_close::put_entries, by the laws of SoundLaws.antt.
use Rattle.std.proofs.Common.{◌≡◌, ◌+◌, ◌∷◌, [], ◌++◌, length, length-append, arith, rules}
use Rattle.std.proofs.lemmas.Slice.Zip.{zip_turn, zip_end}
use Rattle.pciv_close.proofs.SoundLaws.{entries-more, entries-end}
use Rattle.pciv_close.proofs.put_entries.Goals as goal

pub loop-slot-preserved : goal.loop-slot-preserved
loop-slot-preserved c =
    let l = c.loop-slot in
    let some = c.in-Some in
    let turn =
    zip_turn c.args.slots.now c.args.distances.now l.yielded c.into_iter-slot-iterator.result l.slot-iterator
    c.next.new.self c.next.result (search rules) (search rules) l.yielded_by (some.slot, some.distance) some.is
    c.next.ensures.steps in
    let e : length (l.yielded ++ ((some.slot, some.distance) ∷ [])) ≡ length l.yielded + 1 = simp length-append in
    record {
      place = rw e (omega (arith, l.invariant.place));
      left = rw e
          (entries-more _ _ _ _ _ (length l.yielded) _ l.invariant.left turn.0 _
          (rw (← l.invariant.place, ← turn.2 0, ← turn.3 0) c.put_entry-place.ensures.buffer));
    }

pub returns : goal.returns
returns c =
    let l = c.loop-slot in
    let all =
    zip_end c.args.slots.now c.args.distances.now l.yielded c.into_iter-slot-iterator.result l.slot-iterator
    c.next.new.self c.next.result (search rules) (search rules) l.yielded_by c.in-None.is c.next.ensures.steps in
    entries-end _ _ _ _ _ (length l.yielded) _ l.invariant.left (omega arith)
