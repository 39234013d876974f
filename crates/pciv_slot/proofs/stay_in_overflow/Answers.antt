-- Proves pciv_slot::stay_in_overflow.
use Rattle.std.proofs.Common.{Ok, ◌≡◌, ◌+◌, ◌-◌, ◌*◌, ◌≤◌, ◌<◌, ℕ, length, sym, ap, ap₂, ◌∙◌, arith, rules}
use Prim.Native.Nat.{◌^◌}
use Rattle.pciv_format.specs.Layout.{counts_of, summarize}
use Rattle.pciv_format.specs.Read.{total}
use Rattle.pciv_format.specs.Edit.{Edit, edited, edit_answer}
use Rattle.pciv_format.proofs.LayoutLaws.{file_len-is}
use Rattle.pciv_format.proofs.EditCaseLaws.{held}
use Rattle.pciv_slot.proofs.CaseLaws.{entry-inside, sum-after, stays-overflow}
use Rattle.pciv_slot.proofs.stay_in_overflow.Goals as goal
use Rattle.pciv_slot.proofs.stay_in_overflow.Goals.{After-old_distance-old}

abbrev the-edit : After-old_distance-old → Edit
the-edit c = record { slot = c.args.slot; distance = c.args.distance }

-- the slot's entry is one of them
entry-fits : (c : After-old_distance-old)
    → (let a = c.args in 40 + a.n + 12 * c.entry_of-j.result + 12 ≤ length a.buffer.now)
entry-fits c =
    let a = c.args in
    omega (
      arith,
      c.entry_of-j.ensures,
      entry-inside a.buffer.now a.n a.k (λ i. search rules) (the-edit c) c.requires.edit_at c.requires.slot_value.0,
      c.requires.edit_at.checked.fits,
      file_len-is a.n a.k,
    )

-- the sum, adjusted by the entry's distance
adjusts : (c : After-old_distance-old)
    → (let a = c.args in
    let old = c.old_distance-old.result in
    (old ≤ a.sum) × (a.sum < 2 ^ 52) × (a.sum - old + a.distance ≡ total (edited (held a.buffer.now) (the-edit c))))
adjusts c =
    let a = c.args in
    sum-after a.buffer.now a.n a.k (λ i. search rules) (the-edit c) c.requires.edit_at a.sum _ c.requires.sum_value
    c.old_distance-old.ensures

pub overflow_mul-j : goal.overflow_mul-j
overflow_mul-j c = omega (arith, entry-fits (goal.at.overflow_mul-j c).After-old_distance-old)

pub overflow_add-n-2 : goal.overflow_add-n-2
overflow_add-n-2 c = omega (arith, entry-fits (goal.at.overflow_add-n-2 c).After-old_distance-old)

pub overflow_add-n-3 : goal.overflow_add-n-3
overflow_add-n-3 c = omega (arith, entry-fits (goal.at.overflow_add-n-3 c).After-old_distance-old)

pub put32-requires : goal.put32-requires
put32-requires c = omega (arith, entry-fits (goal.at.put32-requires c).After-old_distance-old)

pub adjusted-requires : goal.adjusted-requires
adjusted-requires c = let q = adjusts (goal.at.adjusted-requires c).After-old_distance-old in (q.0, q.1)

pub returns : goal.returns
returns c =
    let a = c.args in
    let at_old = (goal.at.returns c).After-old_distance-old in
    let is =
    stays-overflow a.buffer.now a.n a.k (λ i. search rules) (the-edit at_old) c.requires.edit_at c.requires.slot_value.0
    c.requires.slot_value.1 c.entry_of-j.result c.entry_of-j.ensures in
    let sum = c.adjusted.ensures ∙ (adjusts at_old).2 in
    record {
      answer =
          c.stayed.ensures
          ∙ ap₂ edit_answer (ap (λ (x : ℕ). Ok (summarize (counts_of a.n a.k) x)) sum ∙ sym is.0) (sym is.1);
      buffer = c.put32.ensures ∙ sym is.2;
    }
