-- Proves pciv_slot::stay_inline.
use Rattle.std.proofs.Common.{Ok, ◌≡◌, ◌+◌, ◌-◌, ◌≤◌, ◌<◌, ℕ, get_or, sym, ap, ap₂, ◌∙◌, arith, rules}
use Prim.Native.Nat.{◌^◌}
use Rattle.pciv_bytes.specs.LittleEndian.{Bytes}
use Rattle.pciv_format.specs.Layout.{counts_of, summarize}
use Rattle.pciv_format.specs.Read.{total}
use Rattle.pciv_format.specs.Edit.{Edit, edited, edit_answer}
use Rattle.pciv_format.proofs.PartsLaws.{value_of-inline}
use Rattle.pciv_format.proofs.MapLaws.{primary-inside}
use Rattle.pciv_format.proofs.EditCaseLaws.{held}
use Rattle.pciv_slot.proofs.CaseLaws.{sum-after, stays-inline}
use Rattle.pciv_slot.proofs.stay_inline.Goals as goal
use Rattle.pciv_slot.proofs.stay_inline.Goals.{Start}

abbrev the-edit : Start → Edit
the-edit c = record { slot = c.args.slot; distance = c.args.distance }

-- the sum, adjusted by the slot's byte
adjusts : (c : Start) → Bytes c.args.buffer.now
    → (let a = c.args in
    let old = get_or a.buffer.now (40 + a.slot) 0 in
    (old ≤ a.sum) × (a.sum < 2 ^ 52) × (a.sum - old + a.distance ≡ total (edited (held a.buffer.now) (the-edit c))))
adjusts c bytes =
    let a = c.args in
    sum-after a.buffer.now a.n a.k bytes (the-edit c) c.requires.edit_at a.sum _ c.requires.sum_value
    (sym (value_of-inline _ c.requires.edit_at.checked.parts a.slot c.requires.slot_bound.0))

pub bounds-buffer-slot : goal.bounds-buffer-slot
bounds-buffer-slot c =
    let p = c.requires.edit_at in
    omega (arith, p.inside, primary-inside _ _ _ p.checked)

pub bounds-buffer-slot-2 : goal.bounds-buffer-slot-2
bounds-buffer-slot-2 c =
    let p = c.requires.edit_at in
    omega (arith, p.inside, primary-inside _ _ _ p.checked)

pub adjusted-requires : goal.adjusted-requires
adjusted-requires c = let q = adjusts (goal.at.adjusted-requires c).Start (λ i. search rules) in (q.0, q.1)

pub returns : goal.returns
returns c =
    let a = c.args in
    let start = (goal.at.returns c).Start in
    let bytes : Bytes a.buffer.now = λ i. search rules in
    let is = stays-inline a.buffer.now a.n a.k bytes (the-edit start) c.requires.edit_at c.requires.slot_bound.0 c.requires.slot_bound.1 in
    let sum = c.adjusted.ensures ∙ (adjusts start bytes).2 in
    record {
      answer =
          c.stayed.ensures
          ∙ ap₂ edit_answer (ap (λ (x : ℕ). Ok (summarize (counts_of a.n a.k) x)) sum ∙ sym is.0) (sym is.1);
      buffer = sym is.2;
    }
