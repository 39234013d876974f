-- Proves pciv_repair_file::put_lowered.
use Rattle.std.proofs.Common.{◌≡◌, ℕ, ◌+◌, ◌-◌, length, set, List, ap, ap₂, ◌∙◌, arith}
use Rattle.std.proofs.lemmas.List.Edits.{sets}
use Rattle.std.proofs.Math.Seq.{length-sets}
use Rattle.pciv_bytes.specs.Ranges.{table}
use Rattle.pciv_bytes.proofs.RangesLaws.{length-table}
use Rattle.pciv_bytes.proofs.WriteLaws.{sets_over}
use Rattle.pciv_format.specs.Parts.{Parts}
use Rattle.pciv_format.specs.Check.{file_parts}
use Rattle.pciv_check_parts.proofs.PrimaryPartLaws.{length_part}
use Rattle.pciv_repair_file.specs.Repaired.{repaired_parts}
use Rattle.pciv_repair_file.proofs.WalkLaws.{judged-start, judged-more, judged-entry, judged-same}
use Rattle.pciv_repair_file.proofs.LoweredLaws.{lowered, sets-stands, lowered-part, lowered-more, lowered-end}
use Rattle.pciv_repair_file.proofs.put_lowered.Goals as goal
use Rattle.pciv_repair_file.proofs.put_lowered.Goals.{After-map_into, then-lowest-next, else-lowest-next}

abbrev parts : After-map_into → Parts
parts c = let a = c.args in file_parts a.file.now a.n a.k

-- the lowered bytes are written
mapped : (c : After-map_into) → c.map_into.new.out ≡ sets c.args.out.now 40 (table (lowered (parts c) 0) 0 c.args.n)
mapped c =
    let a = c.args in
    c.map_into.ensures
    ∙ ap (sets a.out.now 40)
    (lowered-part a.file.now a.n a.k (λ i. (c.type_inv.file i).fits) (omega (arith, c.requires.parts_given.inside)))

size : (c : After-map_into) → length c.map_into.new.out ≡ length c.args.out.now
size c = ap length (mapped c) ∙ length-sets _ 40 (table (lowered (parts c) 0) 0 (parts c).n)

pub map_into-requires : goal.map_into-requires
map_into-requires c =
    let a = c.args in
    rw (length_part a.file.now a.n a.k (omega (arith, c.requires.parts_given.inside))) c.requires.n_in_bounds

pub loop-j-init : goal.loop-j-init
loop-j-init c =
    let m = (goal.at.loop-j-init c).After-map_into in
    record {
      judged = judged-start _;
      put = sets-stands c.args.out.now _ (table (lowered (parts m) 0) 0 c.args.n) 40 (mapped m);
    }

pub overflow_add-out : goal.overflow_add-out
overflow_add-out c =
    let e = judged-entry c.loop-j.invariant.judged _ c.lowest_after-next.ensures c.if-lowest-next.true in
    omega (arith, e.2, e.1.right.inside, c.requires.parts_given.small)

pub bounds-out-next : goal.bounds-out-next
bounds-out-next c =
    let e = judged-entry c.loop-j.invariant.judged _ c.lowest_after-next.ensures c.if-lowest-next.true in
    omega (arith, e.2, e.1.right.inside, size (goal.at.bounds-out-next c).After-map_into, c.requires.n_in_bounds)

pub loop-j-preserved : goal.loop-j-preserved
loop-j-preserved c =
    let m = (goal.at.loop-j-preserved c).After-map_into in
    let i = c.loop-j.invariant in
    let r : ℕ = c.lowest_after-next.result in
    let is = c.lowest_after-next.ensures in
    record {
      judged = judged-more i.judged r is c.loop-j-test.true;
      put =
          elim c.if-lowest-next.branch [
            | then-lowest-next w ↦ (let e = judged-entry i.judged r is w.if-lowest-next.true in
                let slot : r - 1 ≡ (parts m).slot c.loop-j.j = omega (arith, e.2) in
                w.out-is
                ∙ ap₂ (λ (d : List ℕ) (s : ℕ). set d (40 + s) 255) i.put slot
                ∙ lowered-more (parts m) (λ i. (c.type_inv.file (40 + i)).fits) c.loop-j.j c.loop-j.lowest i.judged e.0
                c.loop-j-test.true r e.2 _ (omega (arith, c.requires.n_in_bounds, size m)))
            | else-lowest-next w ↦ w.out-is ∙ rw (judged-same i.judged r is w.if-lowest-next.false) i.put
          ];
    }

pub returns : goal.returns
returns c =
    let m = (goal.at.returns c).After-map_into in
    let P = parts m in
    let whole : List ℕ = table (repaired_parts P).byte 0 P.n in
    c.loop-j.invariant.put
    ∙ ap (sets _ 40)
    (lowered-end P (λ i. (c.type_inv.file (40 + i)).fits) c.loop-j.j c.loop-j.lowest c.loop-j.invariant.judged (omega arith))
    ∙ ap (λ (d : List ℕ). sets d 40 whole) (mapped m)
    ∙ sets_over (table (lowered P 0) 0 P.n) whole _ 40
    (omega (arith, length-table (lowered P 0) 0 P.n, length-table (repaired_parts P).byte 0 P.n))
