-- Proves pciv_mask_increment::count_set.
use Rattle.std.proofs.Common.{◌≡◌, ℕ, ◌+◌, ◌-◌, ◌≤◌, ◌<◌, Bool, ap, ◌∙◌, length, arith}
use lib.Count.{count_trailing_zeros}
use lib.Dec.{eqb}
use Rattle.pciv_bytes.specs.ByteAt.{byte_at, byte_is}
use Rattle.pciv_bytes.proofs.RangesLaws.{flag-le, bool_byte-flag}
use Rattle.pciv_format.proofs.BitLaws.{trailing-bit}
use Rattle.pciv_mask_increment.specs.Raised.{picked}
use Rattle.pciv_mask_increment.proofs.PickedLaws.{picked-lowest, picked_none, picked-le, below_less}
use Rattle.pciv_mask_increment.proofs.count_set.Goals as goal
use Rattle.pciv_mask_increment.proofs.count_set.Goals.{In-loop-rest}

-- the slot of the lowest bit that is left
inside : (c : In-loop-rest) → c.args.from + count_trailing_zeros 64 c.loop-rest.rest < length c.args.bytes.now
inside c =
    let l = c.loop-rest in
    l.invariant.0 (count_trailing_zeros 64 l.rest) (trailing-bit 64 l.rest c.loop-rest-test.true (omega arith))

-- whether its byte is 254
abbrev is-254 : In-loop-rest → Bool
is-254 c = eqb (byte_at c.args.bytes.now (c.args.from + count_trailing_zeros 64 c.loop-rest.rest)) 254

-- no more are picked than there are bits
few : (c : In-loop-rest) → picked (byte_is c.args.bytes.now 254) c.args.from 64 c.args.word ≤ 64
few c =
    let b = c.args.bytes.now in
    picked-le (byte_is b 254) (λ j. flag-le (eqb (byte_at b j) 254)) 64 c.args.from c.args.word

pub overflow_add-slot : goal.overflow_add-slot
overflow_add-slot c = omega (arith, inside (goal.at.overflow_add-slot c).In-loop-rest)

pub bounds-bytes-slot : goal.bounds-bytes-slot
bounds-bytes-slot c = inside (goal.at.bounds-bytes-slot c).In-loop-rest

pub overflow_add-count : goal.overflow_add-count
overflow_add-count c =
    let z = (goal.at.overflow_add-count c).In-loop-rest in
    omega (arith, bool_byte-flag (is-254 z), flag-le (is-254 z), c.loop-rest.invariant.1, few z)

pub loop-rest-preserved : goal.loop-rest-preserved
loop-rest-preserved c =
    let l = c.loop-rest in
    let a = c.args in
    let picks = picked-lowest (byte_is a.bytes.now 254) 64 a.from l.rest c.loop-rest-test.true (omega arith) in (
      below_less (length a.bytes.now) a.from l.rest (l.rest - 1) l.invariant.0,
      omega (arith, bool_byte-flag (is-254 (goal.at.loop-rest-preserved c).In-loop-rest), picks, l.invariant.1),
    )

pub returns : goal.returns
returns c =
    let a = c.args in
    let g : ℕ → ℕ = byte_is a.bytes.now 254 in
    let none : c.loop-rest.rest ≡ 0 = omega arith in
    omega (arith, c.loop-rest.invariant.1, ap (picked g a.from 64) none ∙ picked_none g 64 a.from)
