-- Proves pciv_edit::run::edit_next: an accepted edit leaves a map, and its sum.
use Rattle.std.proofs.Common.{◌≤◌, sym, ap, ◌∙◌, arith}
use Rattle.pciv_bytes.specs.LittleEndian.{Bytes}
use Rattle.pciv_format.specs.Layout.{max_distance}
use Rattle.pciv_format.specs.Edit.{Edit}
use Rattle.pciv_format.specs.declared.EditAnswer.{EditAnswer}
use Rattle.pciv_format.proofs.EditCaseLaws.{accepted-checked, accepted-sum}
use Rattle.pciv_edit.proofs.run.edit_next.Goals as goal

pub returns-in-Ok-clause-map : goal.returns-in-Ok-clause-map
returns-in-Ok-clause-map c =
    let a = c.args in
    let e : Edit = record { slot = a.slot; distance = a.distance } in
    let is = sym (ap (λ (r : EditAnswer). r.outcome) c.edit_checked-edited.ensures.answer) ∙ c.in-Ok.is in
    let bytes : Bytes a.buffer.now = λ i. grind arith in
    let map = c.requires.summed_map.checked in
    let small : e.distance ≤ max_distance = omega (arith, c.ranges.distance) in
    rw c.edit_checked-edited.ensures.buffer
    (record {
      checked = accepted-checked a.buffer.now a.n a.k bytes map e small _ is;
      sum_is = accepted-sum a.buffer.now a.n a.k bytes map e small _ is;
    })
