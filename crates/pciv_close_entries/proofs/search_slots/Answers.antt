-- Proves pciv_close_entries::search_slots. The reasoning on slots is in FullSearchLaws.antt (pciv_format).
use Rattle.std.proofs.Common.{◌≡◌, ◌+◌, ℕ, sym, ap, arith}
use native.Mathlib.Numerals.{add-one}
use Rattle.pciv_format.proofs.FullSearchLaws.{lowest-le, searched-found, searched-more, searched-end}
use Rattle.pciv_close_entries.specs.Passes.{parts_of}
use Rattle.pciv_close_entries.proofs.PassesLaws.{as_many, slot-is, entry-right}
use Rattle.pciv_close_entries.proofs.search_slots.Goals as goal

pub find_byte-full-requires : goal.find_byte-full-requires
find_byte-full-requires c =
    let good = entry-right c.args.primary.now c.args.entries.now c.loop-e.e-index c.loop-e-test.true c.requires in
    (omega (arith, c.loop-e.invariant.low, good.0), omega (arith, good.1))

pub returns-then-full-slot : goal.returns-then-full-slot
returns-then-full-slot c =
    let a = c.args in
    let l = c.loop-e in
    let P = parts_of a.primary.now a.entries.now in
    let here = slot-is a.primary.now a.entries.now l.e-index c.loop-e-test.true in
    sym
    (searched-found P c.requires l.from l.invariant.searched l.e-index _
    (omega (arith, as_many a.primary.now a.entries.now)) l.invariant.low (rw here c.find_byte-full.ensures)
    (omega (arith, here)))

pub overflow_add-from : goal.overflow_add-from
overflow_add-from c =
    omega (arith, (entry-right c.args.primary.now c.args.entries.now c.loop-e.e-index c.loop-e-test.true c.requires).1)

pub loop-e-preserved : goal.loop-e-preserved
loop-e-preserved c =
    let a = c.args in
    let l = c.loop-e in
    let P = parts_of a.primary.now a.entries.now in
    let here = slot-is a.primary.now a.entries.now l.e-index c.loop-e-test.true in
    record {
      low = rw (add-one l.e-index) (ap (λ (s : ℕ). s + 1) (sym here));
      searched =
          rw (← here)
          (searched-more P c.requires l.from l.invariant.searched l.e-index c.find_byte-full.result
          (omega (arith, as_many a.primary.now a.entries.now)) (rw here c.find_byte-full.ensures) (omega (arith, here)));
    }

pub find_byte-requires : goal.find_byte-requires
find_byte-requires c =
    let P = parts_of c.args.primary.now c.args.entries.now in
    let low = lowest-le P c.requires c.loop-e.e-index (omega (arith, as_many c.args.primary.now c.args.entries.now)) in
    (omega (arith, c.loop-e.invariant.low, low), omega arith)

pub returns : goal.returns
returns c =
    let P = parts_of c.args.primary.now c.args.entries.now in
    let end : c.loop-e.e-index ≡ P.k = omega (arith, as_many c.args.primary.now c.args.entries.now) in
    sym
    (searched-end P c.requires c.loop-e.from c.loop-e.invariant.searched _ (rw end at c.loop-e.invariant.low)
    c.find_byte.ensures)
