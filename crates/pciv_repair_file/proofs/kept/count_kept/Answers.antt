-- Proves pciv_repair_file::kept::count_kept.
use Rattle.std.proofs.Common.{◌≡◌, ℕ, ltb, sym, ap, ◌∙◌, arith}
use Rattle.pciv_bytes.proofs.RangesLaws.{flag-le, bool_byte-flag}
use Rattle.pciv_format.specs.Check.{file_parts}
use Rattle.pciv_repair_file.proofs.WalkLaws.{judged-start, judged-more, judged-kept}
use Rattle.pciv_repair_file.proofs.WalkLaws.{kept_count, kept_count-none, kept_count-more, kept_count-le, kept_count-all}
use Rattle.pciv_repair_file.proofs.kept.count_kept.Goals as goal

pub loop-j-init : goal.loop-j-init
loop-j-init c = record { judged = judged-start _; counted = sym (kept_count-none _) }

pub overflow_add-kept : goal.overflow_add-kept
overflow_add-kept c =
    let P = file_parts c.args.file.now c.args.n c.args.k in
    omega (
      arith,
      bool_byte-flag (ltb c.loop-j.lowest c.lowest_after-next.result),
      flag-le (ltb c.loop-j.lowest c.lowest_after-next.result),
      c.loop-j.invariant.counted,
      kept_count-le P c.loop-j.j,
    )

pub loop-j-preserved : goal.loop-j-preserved
loop-j-preserved c =
    let P = file_parts c.args.file.now c.args.n c.args.k in
    let i = c.loop-j.invariant in
    let r : ℕ = c.lowest_after-next.result in
    record {
      judged = judged-more i.judged r c.lowest_after-next.ensures c.loop-j-test.true;
      counted =
          rw (i.counted, bool_byte-flag (ltb c.loop-j.lowest r), ← judged-kept i.judged r c.lowest_after-next.ensures)
          (sym (kept_count-more P c.loop-j.j));
    }

pub returns : goal.returns
returns c =
    let P = file_parts c.args.file.now c.args.n c.args.k in
    let end : c.loop-j.j ≡ c.args.k = omega arith in
    c.loop-j.invariant.counted ∙ ap (kept_count P) end ∙ sym (kept_count-all P)
