-- Proves pciv_bits::flags::part_word.
use Rattle.std.proofs.Common.{◌≡◌, ◌-◌, ◌^◌, ◌<◌, ◌≤◌, sym, ap, ◌∙◌, arith}
use Rattle.pciv_bytes.specs.Ranges.{flag}
use Rattle.pciv_bytes.proofs.RangesLaws.{flag-le, bool_byte-flag}
use Rattle.pciv_format.specs.Mask.{word}
use Rattle.pciv_format.proofs.BitLaws.{word_lt}
use Rattle.pciv_bits.specs.Flags.{is_met}
use Rattle.pciv_bits.proofs.WordLaws.{word_end, word_more, word_fits, word-flip}
use Rattle.pciv_bits.proofs.flags.part_word.Goals as goal
use Rattle.pciv_bits.proofs.flags.part_word.Goals.{At-loop-j}

-- a further bit fits
fits : (c : At-loop-j) → c.args.from < c.loop-j.j → c.loop-j.x < 2 ^ 63
fits c more =
    let a = c.args in
    rw c.loop-j.invariant.made (word_fits (is_met a.a.now a.test) c.loop-j.j (a.to - c.loop-j.j) (omega arith))

-- the word at the loop's end
made : (c : At-loop-j) → c.loop-j.j ≤ c.args.from
    → c.loop-j.x ≡ word (is_met c.args.a.now c.args.test) c.args.from (c.args.to - c.args.from)
made c done = let e : c.loop-j.j ≡ c.args.from = omega arith in c.loop-j.invariant.made ∙ rw e

pub loop-j-init : goal.loop-j-init
loop-j-init c =
    let a = c.args in
    record { low = omega arith; made = sym (word_end (is_met a.a.now a.test) a.to a.to (omega arith)) }

pub overflow_mul-x : goal.overflow_mul-x
overflow_mul-x c = omega (arith, fits (goal.at.overflow_mul-x c).At-loop-j (omega arith))

pub overflow_add-x : goal.overflow_add-x
overflow_add-x c =
    let b = c.is_met.result in
    omega (arith, fits (goal.at.overflow_add-x c).At-loop-j (omega arith), bool_byte-flag b, flag-le b)

pub loop-j-preserved : goal.loop-j-preserved
loop-j-preserved c =
    let a = c.args in
    let more = word_more (is_met a.a.now a.test) c.loop-j.j a.to (omega arith) (omega arith) in
    let bit = bool_byte-flag c.is_met.result ∙ ap flag c.is_met.ensures in
    record { low = omega arith; made = omega (arith, bit, c.loop-j.invariant.made, more) }

pub flip_if-requires : goal.flip_if-requires
flip_if-requires c =
    let a = c.args in
    omega (
      arith,
      c.ones.ensures,
      made (goal.at.flip_if-requires c).At-loop-j (omega arith),
      word_lt (is_met a.a.now a.test) a.from (a.to - a.from),
    )

pub returns : goal.returns
returns c =
    let a = c.args in
    c.flip_if.ensures
    ∙ rw (c.ones.ensures, made (goal.at.returns c).At-loop-j (omega arith))
    (word-flip a.negated (is_met a.a.now a.test) a.from (a.to - a.from))
