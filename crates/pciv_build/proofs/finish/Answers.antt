-- Proves pciv_build::finish: IndexLaws.antt has the reasoning about lists.
use Rattle.std.proofs.Common.{ℕ, ◌+◌, ◌*◌, ◌≤◌, length, ap, arith}
use Rattle.pciv_format.proofs.LayoutLaws.{file_len-is}
use Rattle.pciv_build.proofs.IndexLaws.{index-start, entry-before, index-more, index-end}
use Rattle.pciv_build.proofs.finish.Goals as goal
use Rattle.pciv_build.proofs.finish.Goals.{In-loop-i}

-- the file fits, part by part
fits : (c : In-loop-i) → 40 + c.args.n + 12 * c.args.k + 16 * c.index_len-m.result ≤ length c.args.out.now
fits c = omega (arith, c.index_len-m.ensures, c.requires.2, file_len-is c.args.n c.args.k)

-- the entry that is read stands before the index
before-index : (c : In-loop-i)
    → 40 + c.args.n + 12 * (c.loop-i.i * c.index_step-step.result) + 8 ≤ 40 + c.args.n + 12 * c.args.k
before-index c = rw c.index_step-step.ensures (entry-before c.args.n c.args.k c.loop-i.i (omega arith))

pub loop-i-init : goal.loop-i-init
loop-i-init c = index-start _ _ _

pub overflow_mul-entry : goal.overflow_mul-entry
overflow_mul-entry c = omega (arith, before-index (goal.at.overflow_mul-entry c).In-loop-i)

pub overflow_mul-entry-in-loop-i : goal.overflow_mul-entry-in-loop-i
overflow_mul-entry-in-loop-i c = omega (arith, before-index (goal.at.overflow_mul-entry-in-loop-i c).In-loop-i)

pub overflow_add-entries-in-loop-i : goal.overflow_add-entries-in-loop-i
overflow_add-entries-in-loop-i c = omega (arith, before-index (goal.at.overflow_add-entries-in-loop-i c).In-loop-i)

pub get64-slot-requires : goal.get64-slot-requires
get64-slot-requires c =
    let z = goal.at.get64-slot-requires c in
    omega (arith, before-index z.In-loop-i, fits z.In-loop-i)

pub overflow_mul-i : goal.overflow_mul-i
overflow_mul-i c = omega (arith, fits (goal.at.overflow_mul-i c).In-loop-i)

pub overflow_add-index-in-loop-i : goal.overflow_add-index-in-loop-i
overflow_add-index-in-loop-i c = omega (arith, fits (goal.at.overflow_add-index-in-loop-i c).In-loop-i)

pub put_index_entry-requires : goal.put_index_entry-requires
put_index_entry-requires c = omega (arith, fits (goal.at.put_index_entry-requires c).In-loop-i)

pub loop-i-preserved : goal.loop-i-preserved
loop-i-preserved c =
    index-more c.loop-i.invariant c.requires.2 (omega arith) _ _ _
    (ap (λ (s : ℕ). c.loop-i.i * s) c.index_step-step.ensures) c.get64-slot.ensures c.put_index_entry.ensures

pub returns : goal.returns
returns c = index-end c.loop-i.invariant c.requires.2 (omega arith)
