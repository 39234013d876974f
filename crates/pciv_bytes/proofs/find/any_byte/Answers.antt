use Rattle.std.proofs.Common.{arith, ◌≡◌, sym, ◌∙◌, ℕ, ◌+◌, ◌-◌, ◌<◌, ◌≤◌, List, length, take, drop, get_or, eqb, length-drop}
use Rattle.std.proofs.Math.Nat.{add-zero}
use Rattle.std.proofs.Math.Seq.{length-take-le}
use Rattle.std.proofs.lemmas.List.Edits.{get_or-between}
use Rattle.pciv_bytes.proofs.AnyLaws.{any_from-more, any_from-end}
use Rattle.pciv_bytes.proofs.find.any_byte.Goals as goal

-- the bytes that are looked at are to - from
size : (a : List ℕ) (from to : ℕ) → to ≤ length a → length (take (to - from) (drop from a)) ≡ to - from
size a from to inside = length-take-le (to - from) (drop from a) (simp length-drop (omega arith))

pub loop-y-init : goal.loop-y-init
loop-y-init c = rw add-zero

pub loop-y-preserved : goal.loop-y-preserved
loop-y-preserved c =
    let i : ℕ = c.args.from + c.loop-y.y-index in
    let inside : i < c.args.to = omega (arith, size c.args.a.now c.args.from c.args.to c.requires.1) in
    let next : c.args.from + (c.loop-y.y-index + 1) ≡ i + 1 = omega arith in
    rw (get_or-between c.args.a.now c.args.from c.args.to c.loop-y.y-index 0 inside, next)
    (sym (any_from-more (λ (j : ℕ). eqb (get_or c.args.a.now j 0) c.args.x) c.loop-y.found i c.args.to inside)
    ∙ c.loop-y.invariant)

pub returns : goal.returns
returns c =
    sym (any_from-end (λ (j : ℕ). eqb (get_or c.args.a.now j 0) c.args.x) c.loop-y.found _ c.args.to
    (omega (arith, size c.args.a.now c.args.from c.args.to c.requires.1)))
    ∙ c.loop-y.invariant
