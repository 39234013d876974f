-- Proves pciv_mask_increment::count_incremented.
use Rattle.std.proofs.Common.{◌≡◌, ℕ, ◌+◌, ◌*◌, ap, ◌∙◌, length, arith}
use Rattle.std.proofs.Math.Nat.{add-sub_cancel_left}
use Rattle.pciv_bytes.specs.Ranges.{sum_from}
use Rattle.pciv_format.proofs.MapLaws.{primary_of, primary-inside}
use Rattle.pciv_mask_increment.specs.Raised.{raised_at}
use Rattle.pciv_mask_increment.proofs.RaisedLaws.{raised-le, raised-count}
use Rattle.pciv_mask_increment.proofs.count_incremented.Goals as goal
use Rattle.pciv_mask_increment.proofs.count_incremented.Goals.{After-count_raised}

found : (c : After-count_raised) → (let a = c.args in
    c.count_raised.result ≡ sum_from (raised_at (primary_of a.file.now a.n) a.words.now) 0 (64 * length a.words.now))
found c = rw (add-sub_cancel_left 40 c.args.n) at c.count_raised.ensures

pub slice_bounds-count_raised-end : goal.slice_bounds-count_raised-end
slice_bounds-count_raised-end c = primary-inside c.args.file.now c.args.n c.args.k c.requires.checked_map

pub overflow_add-result : goal.overflow_add-result
overflow_add-result c =
    let a = c.args in
    let map = c.requires.checked_map.header in
    omega (
      arith,
      found (goal.at.overflow_add-result c).After-count_raised,
      raised-le (primary_of a.file.now a.n) a.words.now 0 (64 * length a.words.now),
      c.requires.mask.count,
      map.small,
      map.few,
    )

pub returns : goal.returns
returns c =
    let a = c.args in
    ap (λ (x : ℕ). a.k + x) (found (goal.at.returns c).After-count_raised)
    ∙ raised-count a.file.now a.n a.k c.requires.checked_map (λ i. (c.type_inv.file i).fits) a.words.now c.requires.mask
