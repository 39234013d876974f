-- Proves pciv_compare::weigh::weigh_overflow.
use Rattle.std.proofs.Common.{◌+◌, ◌-◌, ◌≤◌, refl, arith}
use Rattle.pciv_format.specs.Parts.{value_of}
use Rattle.pciv_format.specs.Check.{file_parts}
use Rattle.pciv_compare.specs.Weigh.{beyond_of, Weighed}
use Rattle.pciv_compare.proofs.WeighLaws.{entries-le, weighed-overflow}
use Rattle.pciv_compare.proofs.weigh.weigh_overflow.Goals as goal
use Rattle.pciv_compare.proofs.weigh.weigh_overflow.Goals.{After-weigh_entries-second}

-- what the three sums say
told : (c : After-weigh_entries-second)
    → (let a = c.args in
    let shared = c.weigh_shared-shared.result in
    let all = c.weigh_entries-first.result + c.weigh_entries-second.result in
    (shared ≤ all)
    × Weighed (beyond_of a.of) (value_of (file_parts a.a.now a.n a.ka))
    (value_of (file_parts a.b.now a.n a.kb)) a.n (record { least = shared; most = all - shared }))
told c =
    let a = c.args in
    let p = c.requires.checked_pair in
    weighed-overflow (file_parts a.a.now a.n a.ka) (file_parts a.b.now a.n a.kb) refl p.first.parts p.second.parts
    (λ i. (c.type_inv.a (40 + i)).fits) (λ i. (c.type_inv.b (40 + i)).fits) a.of c.requires.late _ _ _
    c.weigh_shared-shared.ensures c.weigh_entries-first.ensures c.weigh_entries-second.ensures

pub overflow_add-result : goal.overflow_add-result
overflow_add-result c =
    let a = c.args in
    let p = c.requires.checked_pair in
    omega (
      arith,
      c.weigh_entries-first.ensures,
      c.weigh_entries-second.ensures,
      entries-le a.of a.a.now (λ i. (c.type_inv.a i).fits) a.n a.ka,
      entries-le a.of a.b.now (λ i. (c.type_inv.b i).fits) a.n a.kb,
      p.first.header.few,
      p.second.header.few,
      p.first.header.small,
    )

pub overflow_sub-result : goal.overflow_sub-result
overflow_sub-result c = (told (goal.at.overflow_sub-result c).After-weigh_entries-second).0

pub returns : goal.returns
returns c = (told (goal.at.returns c).After-weigh_entries-second).1
