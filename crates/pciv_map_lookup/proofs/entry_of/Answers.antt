-- Proves pciv_map_lookup::entry_of. The search in the index gives the block that the entry stands in, and the search in
-- the block gives the entry. The reasoning is in LookupLaws.antt.
use Rattle.std.proofs.Common.{ℕ, ◌+◌, sym, ap, ◌∙◌, arith}
use Rattle.pciv_format.specs.Check.{file_parts}
use Rattle.pciv_format.proofs.CheckLaws.{checked-length}
use Rattle.pciv_map_lookup.specs.Lookup.{block_start, block_end}
use Rattle.pciv_map_lookup.proofs.SearchLaws.{Between, between-same, lower_bound-le}
use Rattle.pciv_map_lookup.proofs.LookupLaws.{index-table, index-block, entries-table}
use Rattle.pciv_map_lookup.proofs.LookupLaws.{entries_below-part, entries_below-past}
use Rattle.pciv_map_lookup.proofs.entry_of.Goals as goal
use Rattle.pciv_map_lookup.proofs.entry_of.Goals.{After-lower_bound-i, After-block_end-end, After-lower_bound}

-- the block, from the search in the index
block : (c : After-lower_bound-i)
    → (let i = c.lower_bound-i.result in
    let step = c.get64-step.result in
    Between (file_parts c.args.file.now c.args.n c.args.k).slot c.args.slot c.args.k
    (block_start i step) (block_end i c.get64-m.result step c.args.k))
block c =
    index-block _ _ _ c.requires _ _ c.get64-m.ensures c.get64-step.ensures _ _ c.lower_bound-i.ensures

-- the same, as the code has it
part : (c : After-block_end-end)
    → Between (file_parts c.args.file.now c.args.n c.args.k).slot c.args.slot c.args.k
    c.block_start-start.result c.block_end-end.result
part c =
    between-same c.block_start-start.ensures c.block_end-end.ensures
    (index-block _ _ _ c.requires _ _ c.get64-m.ensures c.get64-step.ensures _ _ c.lower_bound-i.ensures)

pub returns-then-n-slot : goal.returns-then-n-slot
returns-then-n-slot c = sym (entries_below-past _ c.requires.parts c.args.slot (omega arith))

pub get64-m-requires : goal.get64-m-requires
get64-m-requires c = omega (arith, checked-length _ _ _ c.requires)

pub get64-step-requires : goal.get64-step-requires
get64-step-requires c = omega (arith, checked-length _ _ _ c.requires)

pub lower_bound-i-requires-clause-key_table : goal.lower_bound-i-requires-clause-key_table
lower_bound-i-requires-clause-key_table c =
    index-table _ _ _ c.requires _ _ c.get64-m.ensures c.get64-step.ensures

pub block_start-start-requires : goal.block_start-start-requires
block_start-start-requires c =
    let b = block (goal.at.block_start-start-requires c).After-lower_bound-i in
    omega (arith, b.ordered, b.within)

pub block_end-end-requires : goal.block_end-end-requires
block_end-end-requires c = omega (arith, (block (goal.at.block_end-end-requires c).After-lower_bound-i).within)

pub overflow_mul-start : goal.overflow_mul-start
overflow_mul-start c =
    let p = part (goal.at.overflow_mul-start c).After-block_end-end in
    omega (arith, p.ordered, p.within)

pub overflow_add-entries-3 : goal.overflow_add-entries-3
overflow_add-entries-3 c =
    let p = part (goal.at.overflow_add-entries-3 c).After-block_end-end in
    omega (arith, p.ordered, p.within)

pub overflow_sub-end : goal.overflow_sub-end
overflow_sub-end c = (part (goal.at.overflow_sub-end c).After-block_end-end).ordered

pub lower_bound-requires-clause-key_table : goal.lower_bound-requires-clause-key_table
lower_bound-requires-clause-key_table c =
    let p = part (goal.at.lower_bound-requires-clause-key_table c).After-block_end-end in
    entries-table _ _ _ c.requires _ _ p.ordered p.within

pub returns : goal.returns
returns c =
    ap (λ (r : ℕ). c.block_start-start.result + r) c.lower_bound.ensures
    ∙ entries_below-part _ _ _ c.requires _ _ _ (part (goal.at.returns c).After-block_end-end)

pub overflow_add-result : goal.overflow_add-result
overflow_add-result c =
    let a = c.args in
    omega (arith, returns c, lower_bound-le (file_parts a.file.now a.n a.k).slot a.slot a.k)
