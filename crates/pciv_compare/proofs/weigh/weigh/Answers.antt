-- Proves pciv_compare::weigh::weigh: in each case the bytes, the entries or both tell what the distances weigh.
use Rattle.std.proofs.Common.{◌+◌, ◌^◌, ◌≤◌, refl, arith}
use Rattle.pciv_format.specs.Parts.{value_of}
use Rattle.pciv_format.specs.Check.{file_parts}
use Rattle.pciv_compare.specs.Weigh.{weight_of, Weighed}
use Rattle.pciv_compare.specs.declared.weigh.Weight.TheVariants.{Distance}
use Rattle.pciv_compare.proofs.WeighLaws.{weighed-distance, weighed-from}
use Rattle.pciv_compare.proofs.FigureLaws.{parts-fit}
use Rattle.pciv_compare.proofs.weigh.weigh.Goals as goal
use Rattle.pciv_compare.proofs.weigh.weigh.Goals.{After-weigh_overflow-overflow}

-- the distances themselves
distance_is : (c : After-weigh_overflow-overflow)
    → (let a = c.args in
    let r = c.weigh_bytes-bytes.result in
    let s = c.weigh_overflow-overflow.result in
    Weighed (weight_of Distance) (value_of (file_parts a.a.now a.n a.ka)) (value_of (file_parts a.b.now a.n a.kb)) a.n
    (record { least = r.least + s.least; most = r.most + s.most }))
distance_is c =
    let a = c.args in
    weighed-distance (file_parts a.a.now a.n a.ka) (file_parts a.b.now a.n a.kb) refl c.requires.first.parts
    c.requires.second.parts (λ i. (c.type_inv.a (40 + i)).fits) (λ i. (c.type_inv.b (40 + i)).fits)
    c.weigh_bytes-bytes.result c.weigh_overflow-overflow.result c.weigh_bytes-bytes.ensures
    c.weigh_overflow-overflow.ensures

distance-le : (c : After-weigh_overflow-overflow)
    → (let r = c.weigh_bytes-bytes.result in
    let s = c.weigh_overflow-overflow.result in
    (r.least + s.least) + (r.most + s.most) ≤ 2 ^ 53)
distance-le c =
    let a = c.args in
    (parts-fit a.a.now a.b.now a.n a.ka a.kb c.requires _ (λ i. (c.type_inv.a i).fits) (λ i. (c.type_inv.b i).fits) Distance
    (distance_is c)).1

pub overflow_add-result : goal.overflow_add-result
overflow_add-result c = omega (arith, distance-le (goal.at.overflow_add-result c).After-weigh_overflow-overflow)

pub overflow_add-result-in-Distance : goal.overflow_add-result-in-Distance
overflow_add-result-in-Distance c =
    omega (arith, distance-le (goal.at.overflow_add-result-in-Distance c).After-weigh_overflow-overflow)

-- a threshold that bytes can meet
pub returns-then-t-le255 : goal.returns-then-t-le255
returns-then-t-le255 c =
    let a = c.args in
    rw c.in-From.is
    (weighed-from (file_parts a.a.now a.n a.ka) (file_parts a.b.now a.n a.kb) refl c.requires.first.parts
    c.requires.second.parts (λ i. (c.type_inv.a (40 + i)).fits) (λ i. (c.type_inv.b (40 + i)).fits)
    c.in-From.t c.if-t-le255.true c.weigh_bytes.result c.weigh_bytes.ensures)

pub returns-in-Distance : goal.returns-in-Distance
returns-in-Distance c = rw c.in-Distance.is (distance_is (goal.at.returns-in-Distance c).After-weigh_overflow-overflow)

-- a larger one
pub returns-else-t-le255 : goal.returns-else-t-le255
returns-else-t-le255 c = rw c.in-From.is c.weigh_overflow.ensures
