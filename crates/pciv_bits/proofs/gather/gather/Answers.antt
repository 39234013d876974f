-- Proves pciv_bits::gather::gather: GatherLaws.antt has the reasoning on lanes.
use Rattle.std.proofs.Common.{◌≡◌, ℕ, ◌+◌, ◌<◌, Bool, List, length, set, refl, arith, length-set}
use Rattle.pciv_bits.specs.Flags.{is_met}
use Rattle.pciv_bits.proofs.GatherLaws.{lanes-kept, lanes-more, lanes-gathered}
use Rattle.pciv_bits.proofs.gather.gather.Goals as goal

pub loop-j-preserved : goal.loop-j-preserved
loop-j-preserved c =
    let a = c.args in
    let p : ℕ → Bool = is_met a.a.now a.test in
    let f : List ℕ = c.loop-j.lanes in
    let j : ℕ = c.loop-j.j in
    let v = c.loop-j.invariant in
    let x = c.lane in
    let y = c.lane-in-loop-j in
    let one : List ℕ = set f j x.result in
    let long : 16 + j < length one = simp length-set (omega arith) in
    record {
      long = simp length-set v.long;
      first = lanes-kept p a.i one 0 (j + 1) (16 + j) y.result
          (lanes-more p a.i f 0 j j x.result v.first (omega arith) (omega arith) x.ensures)
          (λ k h e. omega arith);
      second = lanes-more p (a.i + 64) one 16 j (16 + j) y.result
          (lanes-kept p (a.i + 64) f 16 j j x.result v.second (λ k h e. omega arith))
          refl long y.ensures;
    }

pub returns : goal.returns
returns c =
    let a = c.args in
    let p : ℕ → Bool = is_met a.a.now a.test in
    let f : List ℕ = c.loop-j.lanes in
    let all : c.loop-j.j ≡ 16 = omega arith in (
      rw (c.get64.ensures, c.get64-2.ensures)
          (lanes-gathered p a.i f 0 (rw all at c.loop-j.invariant.first) (omega arith)),
      rw (c.get64-3.ensures, c.get64-4.ensures)
          (lanes-gathered p (a.i + 64) f 16 (rw all at c.loop-j.invariant.second) (omega arith)),
    )
