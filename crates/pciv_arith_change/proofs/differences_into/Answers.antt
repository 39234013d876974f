-- Proves pciv_arith_change::differences_into: each pass leaves what DifferencesLaws.antt says.
use Rattle.std.proofs.Common.{◌≡◌, ◌∙◌}
use native.Mathlib.Nat.{add-sub_cancel_left}
use Rattle.pciv_format.proofs.MapLaws.{primary-inside}
use Rattle.pciv_arith_change.proofs.DifferencesLaws.{Given, with_bytes, bytes-differ}
use Rattle.pciv_arith_change.proofs.DifferencesLaws.{one-moved, both-moved, small_bytes, small_one}
use Rattle.pciv_arith_change.proofs.differences_into.Goals as goal
use Rattle.pciv_arith_change.proofs.differences_into.Goals.{After-byte_differences}

given : (c : After-byte_differences) → Given c.args.a.now c.args.b.now c.args.n c.args.ka c.args.kb c.args.out.now
given c =
    record {
      maps =
          record {
            pair = c.requires.checked_pair;
            bytes-a = λ i. (c.type_inv.a i).fits;
            bytes-b = λ i. (c.type_inv.b i).fits;
          };
      long = c.requires.n_in_bounds;
    }

-- what stands in out after the first pass
bytes-done : (c : After-byte_differences)
    → (let a = c.args in c.byte_differences.new.out ≡ with_bytes a.a.now a.b.now a.n a.ka a.kb a.out.now)
bytes-done c = (rw (add-sub_cancel_left 40 c.args.n) at c.byte_differences.ensures) ∙ bytes-differ (given c)

pub slice_bounds-byte_differences-end : goal.slice_bounds-byte_differences-end
slice_bounds-byte_differences-end c = primary-inside c.args.a.now c.args.n c.args.ka c.requires.checked_pair.first

pub slice_bounds-byte_differences-end-2 : goal.slice_bounds-byte_differences-end-2
slice_bounds-byte_differences-end-2 c = primary-inside c.args.b.now c.args.n c.args.kb c.requires.checked_pair.second

pub move_entries-requires-clause-n_in_bounds : goal.move_entries-requires-clause-n_in_bounds
move_entries-requires-clause-n_in_bounds c =
    let z = (goal.at.move_entries-requires-clause-n_in_bounds c).After-byte_differences in
    rw (bytes-done z) (small_bytes (given z))

pub move_entries-requires-2-clause-n_in_bounds : goal.move_entries-requires-2-clause-n_in_bounds
move_entries-requires-2-clause-n_in_bounds c =
    let z = (goal.at.move_entries-requires-2-clause-n_in_bounds c).After-byte_differences in
    let one = c.move_entries.ensures ∙ rw (bytes-done z) (one-moved (given z)) in
    rw one (small_one (given z))

pub returns : goal.returns
returns c =
    let z = (goal.at.returns c).After-byte_differences in
    let one = c.move_entries.ensures ∙ rw (bytes-done z) (one-moved (given z)) in
    c.move_entries-2.ensures ∙ rw one (both-moved (given z))
