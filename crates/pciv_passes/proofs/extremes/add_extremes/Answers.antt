use Rattle.std.proofs.Common.{arith, ◌≡◌, ◌∙◌, ◌*◌, ◌+◌, [], length, min, max, take, drop, length-append, ℕ}
use Rattle.std.proofs.Math.Nat.{sub-zero}
use Rattle.std.proofs.lemmas.Slice.Zip.{zip_turn, zip_end}
use Rattle.pciv_bytes.specs.Ranges.{sum_from}
use Rattle.pciv_passes.specs.declared.extremes.TheConstants.{BLOCK}
use Rattle.pciv_passes.specs.Counts.{term_of}
use Rattle.pciv_passes.specs.Extremes.{least_at, most_at}
use Rattle.pciv_passes.proofs.BlocksLaws.{Left, block_is, rest_is, left-block, left-end}
use Rattle.pciv_passes.proofs.ExtremesLaws.{sums-le}
use Rattle.pciv_passes.proofs.extremes.add_extremes.Goals as goal
use Rattle.pciv_passes.proofs.extremes.add_extremes.Goals.{After-add_block-sums, After-add_block-rest}

-- block i of a, and that of b
blocks : (c : After-add_block-sums)
    → (c.in-Some.x.now ≡ take BLOCK (drop (length c.loop-x.yielded * BLOCK) c.args.a.now))
    × (c.in-Some.y.now ≡ take BLOCK (drop (length c.loop-x.yielded * BLOCK) c.args.b.now))
blocks c =
    let given = c.into_iter-x-iterator.ensures.into_iter_gives in
    let turn = zip_turn c.as_chunks.result.0.now c.as_chunks-2.result.0.now c.loop-x.yielded
    c.into_iter-x-iterator.result c.loop-x.x-iterator c.next.new.self c.next.result
    (rw (given, c.zip-x-items.ensures.first) c.iter.ensures.rest) (rw given c.zip-x-items.ensures.second.0)
    c.loop-x.yielded_by _ c.in-Some.is c.next.ensures.steps in
    let i : ℕ = length c.loop-x.yielded in (
      turn.2 [] ∙ block_is BLOCK c.args.a.now _ i [] c.as_chunks.ensures.front (omega arith),
      turn.3 [] ∙ block_is BLOCK c.args.b.now _ i [] c.as_chunks-2.ensures.front (omega arith),
    )

-- what is left of a, and of b
rests : (c : After-add_block-rest)
    → (c.as_chunks.result.1.now ≡ drop (length c.loop-x.yielded * BLOCK) c.args.a.now)
    × (c.as_chunks-2.result.1.now ≡ drop (length c.loop-x.yielded * BLOCK) c.args.b.now)
rests c =
    let given = c.into_iter-x-iterator.ensures.into_iter_gives in
    let turns = zip_end c.as_chunks.result.0.now c.as_chunks-2.result.0.now c.loop-x.yielded
    c.into_iter-x-iterator.result c.loop-x.x-iterator c.next.new.self c.next.result
    (rw (given, c.zip-x-items.ensures.first) c.iter.ensures.rest) (rw given c.zip-x-items.ensures.second.0)
    c.loop-x.yielded_by c.in-None.is c.next.ensures.steps in
    let i : ℕ = length c.loop-x.yielded in (
      rest_is BLOCK c.args.a.now _ i c.as_chunks.ensures.back (omega (arith, turns, c.requires.a_len)),
      rest_is BLOCK c.args.b.now _ i c.as_chunks-2.ensures.back (omega (arith, turns, c.requires.a_len)),
    )

-- a block further
further : (c : After-add_block-sums)
    → (let sums = c.add_block-sums.result in
    let of = c.args.of in
    let i = length c.loop-x.yielded + 1 in
    Left (λ (x y : ℕ). term_of of (min x y)) BLOCK c.args.a.now c.args.b.now i (c.loop-x.least + sums.least)
    × Left (λ (x y : ℕ). term_of of (max x y)) BLOCK c.args.a.now c.args.b.now i (c.loop-x.most + sums.most))
further c =
    let at = blocks c in
    let sums = c.add_block-sums.ensures in (
      left-block c.loop-x.invariant.least _ _ _ at.0 at.1 (rw sub-zero at sums.least),
      left-block c.loop-x.invariant.most _ _ _ at.0 at.1 (rw sub-zero at sums.most),
    )

-- with what is left
whole : (c : After-add_block-rest)
    → (c.loop-x.least + c.add_block-rest.result.least
    ≡ sum_from (least_at c.args.of c.args.a.now c.args.b.now) 0 (length c.args.a.now))
    × (c.loop-x.most + c.add_block-rest.result.most
    ≡ sum_from (most_at c.args.of c.args.a.now c.args.b.now) 0 (length c.args.a.now))
whole c =
    let at = rests c in
    let sums = c.add_block-rest.ensures in (
      left-end c.loop-x.invariant.least _ _ _ at.0 at.1 (rw sub-zero at sums.least),
      left-end c.loop-x.invariant.most _ _ _ at.0 at.1 (rw sub-zero at sums.most),
    )

pub loop-x-preserved : goal.loop-x-preserved
loop-x-preserved c =
    let more = further (goal.at.loop-x-preserved c).After-add_block-sums in
    rw length-append record { least = more.0; most = more.1 }

-- no sum is above 255 for each byte
pub overflow_add-least : goal.overflow_add-least
overflow_add-least c =
    let most = sums-le c.args.of c.args.a.now c.args.b.now (λ j. (c.type_inv.a j).fits) (λ j. (c.type_inv.b j).fits)
    0 (length c.args.a.now) in
    omega (arith, most.0, (further (goal.at.overflow_add-least c).After-add_block-sums).0.rest, c.requires.a_len_bound)

pub overflow_add-most : goal.overflow_add-most
overflow_add-most c =
    let most = sums-le c.args.of c.args.a.now c.args.b.now (λ j. (c.type_inv.a j).fits) (λ j. (c.type_inv.b j).fits)
    0 (length c.args.a.now) in
    omega (arith, most.1, (further (goal.at.overflow_add-most c).After-add_block-sums).1.rest, c.requires.a_len_bound)

pub overflow_add-result : goal.overflow_add-result
overflow_add-result c =
    let most = sums-le c.args.of c.args.a.now c.args.b.now (λ j. (c.type_inv.a j).fits) (λ j. (c.type_inv.b j).fits)
    0 (length c.args.a.now) in
    omega (arith, most.0, (whole (goal.at.overflow_add-result c).After-add_block-rest).0, c.requires.a_len_bound)

pub overflow_add-result-2 : goal.overflow_add-result-2
overflow_add-result-2 c =
    let most = sums-le c.args.of c.args.a.now c.args.b.now (λ j. (c.type_inv.a j).fits) (λ j. (c.type_inv.b j).fits)
    0 (length c.args.a.now) in
    omega (arith, most.1, (whole (goal.at.overflow_add-result-2 c).After-add_block-rest).1, c.requires.a_len_bound)

pub returns : goal.returns
returns c =
    let all = whole (goal.at.returns c).After-add_block-rest in
    record { least = rw sub-zero all.0; most = rw sub-zero all.1 }
