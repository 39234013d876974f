use Rattle.std.proofs.Common.{arith, [], length, eqb, length-append, ℕ, List, ◌≤◌, ◌∙◌}
use Rattle.std.proofs.lemmas.Slice.Zip.{zip_turn, zip_end}
use Rattle.pciv_bytes.proofs.SumLaws.{sum_from-flag-le}
use Rattle.pciv_passes.specs.declared.pairs.TheConstants.{BLOCK}
use Rattle.pciv_bytes.specs.Ranges.{sum_from}
use Rattle.pciv_passes.specs.Pairs.{pair_at, full_at}
use Rattle.pciv_passes.specs.declared.pairs.ByteOp.{ByteOp}
use Rattle.pciv_passes.proofs.BlocksLaws.{block_is, rest_is, left-start, left-block, left-end}
use Rattle.pciv_passes.proofs.pairs.count_full.Goals as goal

-- there are no more results 255 than bytes
most : (op : ByteOp) (a b : List ℕ) → sum_from (full_at op a b) 0 (length a) ≤ length a
most op a b = sum_from-flag-le (λ (i : ℕ). eqb (pair_at op a b i) 255) 0 (length a)

pub loop-x-init : goal.loop-x-init
loop-x-init c = left-start _ _ _ _ c.requires

pub loop-x-preserved : goal.loop-x-preserved
loop-x-preserved c =
    let given = c.into_iter-x-iterator.ensures.into_iter_gives in
    let turn = zip_turn c.as_chunks.result.0.now c.as_chunks-2.result.0.now c.loop-x.yielded
    c.into_iter-x-iterator.result c.loop-x.x-iterator c.next.new.self c.next.result
    (rw (given, c.zip-x-items.ensures.first) c.iter.ensures.rest) (rw given c.zip-x-items.ensures.second.0)
    c.loop-x.yielded_by _ c.in-Some.is c.next.ensures.steps in
    let i : ℕ = length c.loop-x.yielded in
    let x = block_is BLOCK c.args.a.now _ i [] c.as_chunks.ensures.front (omega arith) in
    let y = block_is BLOCK c.args.b.now _ i [] c.as_chunks-2.ensures.front (omega arith) in
    let full = c.count_full_block-sum.ensures in
    rw length-append (left-block c.loop-x.invariant _ _ _ (turn.2 [] ∙ x) (turn.3 [] ∙ y) full)

pub returns : goal.returns
returns c =
    let given = c.into_iter-x-iterator.ensures.into_iter_gives in
    let turns = zip_end c.as_chunks.result.0.now c.as_chunks-2.result.0.now c.loop-x.yielded
    c.into_iter-x-iterator.result c.loop-x.x-iterator c.next.new.self c.next.result
    (rw (given, c.zip-x-items.ensures.first) c.iter.ensures.rest) (rw given c.zip-x-items.ensures.second.0)
    c.loop-x.yielded_by c.in-None.is c.next.ensures.steps in
    let i : ℕ = length c.loop-x.yielded in
    let x = rest_is BLOCK c.args.a.now _ i c.as_chunks.ensures.back (omega (arith, turns, c.requires)) in
    let y = rest_is BLOCK c.args.b.now _ i c.as_chunks-2.ensures.back (omega (arith, turns, c.requires)) in
    left-end c.loop-x.invariant _ _ _ x y c.count_full_block.ensures

pub overflow_add-sum : goal.overflow_add-sum
overflow_add-sum c = omega (arith, (loop-x-preserved c).rest, most c.args.op c.args.a.now c.args.b.now)

pub overflow_add-result : goal.overflow_add-result
overflow_add-result c = omega (arith, returns c, most c.args.op c.args.a.now c.args.b.now)
