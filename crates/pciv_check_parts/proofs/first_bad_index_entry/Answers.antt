-- Proves pciv_check_parts::first_bad_index_entry.
use Rattle.std.proofs.Common.{◌≡◌, ◌+◌, ◌*◌, ◌<◌, sym, ◌∙◌, arith, below_more}
use Rattle.pciv_bytes.specs.LittleEndian.{get}
use Rattle.pciv_bytes.proofs.RangesLaws.{first_below-at, first_below-none}
use Rattle.pciv_format.specs.Layout.{index_step, index_len}
use Rattle.pciv_format.proofs.LayoutLaws.{index-inside}
use Rattle.pciv_format.proofs.BadIndexLaws.{bad_index_entry-slot, bad_index_entry-place, bad_index_entry-good}
use Rattle.pciv_check_parts.proofs.first_bad_index_entry.Goals as goal
use Rattle.pciv_check_parts.proofs.first_bad_index_entry.Goals.{In-loop-i}

-- index entry i points at an overflow entry
points : (c : In-loop-i) → c.loop-i.i * c.index_step-step.result < c.args.k
points c = rw c.index_step-step.ensures (index-inside c.args.k c.loop-i.i (omega arith))

-- the slot that is read there is the one that index entry i should state
there : (c : In-loop-i)
    → get 8 c.args.file.now (40 + c.args.n + 12 * (c.loop-i.i * c.index_step-step.result))
    ≡ get 8 c.args.file.now (40 + c.args.n + 12 * (c.loop-i.i * index_step c.args.k))
there c = rw c.index_step-step.ensures

pub overflow_mul-j : goal.overflow_mul-j
overflow_mul-j c = omega (arith, points (goal.at.overflow_mul-j c).In-loop-i)

pub overflow_mul-j-in-loop-i : goal.overflow_mul-j-in-loop-i
overflow_mul-j-in-loop-i c = omega (arith, points (goal.at.overflow_mul-j-in-loop-i c).In-loop-i)

pub overflow_add-n-in-loop-i : goal.overflow_add-n-in-loop-i
overflow_add-n-in-loop-i c = omega (arith, points (goal.at.overflow_add-n-in-loop-i c).In-loop-i)

pub get64-requires-in-loop-i : goal.get64-requires-in-loop-i
get64-requires-in-loop-i c = omega (arith, points (goal.at.get64-requires-in-loop-i c).In-loop-i)

pub returns-then-get64 : goal.returns-then-get64
returns-then-get64 c =
    let a = c.args in
    sym (first_below-at _ (index_len a.k) c.loop-i.i (omega arith) c.loop-i.invariant
    (bad_index_entry-slot a.file.now a.n a.k c.loop-i.i
    (λ e. c.if-get64.true
    (c.get64.ensures ∙ e ∙ sym (c.get64-in-loop-i.ensures ∙ there (goal.at.returns-then-get64 c).In-loop-i)))))

pub returns-then-is_wrong : goal.returns-then-is_wrong
returns-then-is_wrong c =
    let a = c.args in
    sym (first_below-at _ (index_len a.k) c.loop-i.i (omega arith) c.loop-i.invariant
    (bad_index_entry-place a.file.now a.n a.k c.loop-i.i
    (λ e. c.if-is_wrong.true (c.get64-in-loop-i-2.ensures ∙ e ∙ rw c.index_step-step.ensures))))

pub loop-i-preserved : goal.loop-i-preserved
loop-i-preserved c =
    let a = c.args in
    below_more _ _ c.loop-i.invariant
    (bad_index_entry-good a.file.now a.n a.k c.loop-i.i
    (sym c.get64.ensures ∙ c.if-get64.false ∙ c.get64-in-loop-i.ensures ∙ there (goal.at.loop-i-preserved c).In-loop-i)
    (sym c.get64-in-loop-i-2.ensures ∙ c.if-is_wrong.false ∙ rw c.index_step-step.ensures))

pub returns : goal.returns
returns c =
    c.index_len-m.ensures
    ∙ sym (first_below-none _ (index_len c.args.k) (λ i h. c.loop-i.invariant i (omega arith)))
