-- Proves pciv_disparity::front::count_full: the disparities with byte 255 are one run; they are not.
use Rattle.std.proofs.Common.{◌≡◌, ℕ, ◌+◌, ◌-◌, ◌≤◌, List, length, sym, ap, ◌∙◌, arith}
use Rattle.pciv_bytes.specs.Ranges.{sum_from}
use Rattle.pciv_bytes.specs.ByteAt.{byte_is}
use Rattle.pciv_disparity.proofs.CountLaws.{part_count, full_at, each-count, run_inside, run-count}
use Rattle.pciv_disparity.proofs.front.count_full.Goals as goal
use Rattle.pciv_disparity.proofs.front.count_full.Goals.{After-count_byte-count, After-count_at_least-then-count_byte-count}

-- there are so many with byte 255, from the first one on
all : (c : After-count_byte-count) → c.count_byte-count.result ≡ sum_from (byte_is c.args.bytes.now 255) 0 256
all c = c.count_byte-count.ensures ∙ ap (sum_from (byte_is c.args.bytes.now 255) 0) c.told-bytes

inside : (c : After-count_byte-count) → c.find_byte-first.result + c.count_byte-count.result ≤ 256
inside c = run_inside c.args.bytes.now _ _ (all c) c.find_byte-first.ensures

pub overflow_add-end : goal.overflow_add-end
overflow_add-end c = omega (arith, inside (goal.at.overflow_add-end c).After-count_byte-count)

pub slice_bounds-count_byte-end : goal.slice_bounds-count_byte-end
slice_bounds-count_byte-end c = omega (arith, inside (goal.at.slice_bounds-count_byte-end c).After-count_byte-count)

-- two counts of the frame's disparities, and the slots in overflow
counted : (c : After-count_at_least-then-count_byte-count)
    → sum_from (full_at c.args.bytes.now c.args.frame.now) 0 (length c.args.frame.now) + c.count_at_least-then-count_byte-count.result
    ≡ c.count_at_least.result
counted c =
    let frame : List ℕ = c.args.frame.now in
    let table : List ℕ = c.args.bytes.now in
    let first : ℕ = c.find_byte-first.result in
    let count : ℕ = c.count_byte-count.result in
    let is : count ≡ sum_from (byte_is table 255) 0 256 = c.count_byte-count.ensures ∙ ap (sum_from (byte_is table 255) 0) c.told-bytes in
    let low : first + count ≤ 256 = run_inside table _ _ is c.find_byte-first.ensures in
    let width : first + count - first ≡ count = omega arith in
    let run : sum_from (byte_is table 255) first count ≡ count =
    ap (sum_from (byte_is table 255) first) (sym width)
    ∙ sym (part_count table 255 first (first + count) (omega arith) (omega arith)) ∙ sym c.count_byte.ensures ∙ c.if-count_byte-count.true in
    ap (λ (x : ℕ). sum_from (full_at table frame) 0 (length frame) + x) c.count_at_least-then-count_byte-count.ensures
    ∙ run-count table _ _ is low run frame (λ i. (c.type_inv.frame i).fits) (length frame)
    ∙ sym c.count_at_least.ensures

pub overflow_sub-result : goal.overflow_sub-result
overflow_sub-result c = omega (arith, counted c)

pub returns-then-count_byte-count : goal.returns-then-count_byte-count
returns-then-count_byte-count c =
    omega (arith, counted c, each-count c.args.bytes.now c.args.frame.now c.requires.bytes (length c.args.frame.now))
