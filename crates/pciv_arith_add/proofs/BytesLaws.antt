-- The primary bytes of the result, from those of the two maps.
--   sum-byte       the sum of two primary bytes, at most 255, is the primary byte of the sum
--   raised_byte    where one number is added, the primary byte of the result
--   from_is        and the bytes from which on it is in overflow
-- Axioms: none.
use mathlib.Core.Path.{◌≡◌, sym, ◌∙◌}
use Prim.Native.Nat.{ℕ, ◌+◌, ◌-◌, ◌<◌, max}
use native.Mathlib.Omega.{arith}
use native.Mathlib.Decide.{dec_le, ℕ_discrete}
use lib.Dec.{leb}
use borrow.Author.Tests.{le-leb, lt-leb, ne_eqb}
use Rattle.pciv_passes.specs.Pairs.{byte_op}
use Rattle.pciv_passes.specs.declared.pairs.ByteOp.TheVariants.{Add, Raise}
use Rattle.pciv_format.specs.Layout.{in_overflow, primary_byte}
use Rattle.pciv_format.specs.Parts.{Parts, value_of}
use Rattle.pciv_format.proofs.PartsLaws.{primary_byte-min, primary_byte-value_of}
use Rattle.pciv_arith_add.specs.Addition.{added_at}
use Rattle.pciv_arith_add.specs.declared.addend.Addend.TheVariants.{Map, Number}
use Rattle.pciv_check.proofs.SoundPairLaws.{SoundPair}

module _ {P Q : Parts} (p : SoundPair P Q) where
  byte-is : (i : ℕ) → i < P.n → P.byte i ≡ primary_byte (value_of P i)
  byte-is i h = sym (primary_byte-value_of P p.first p.bytes-first i h)

  pub sum-byte : (i : ℕ) → i < P.n → byte_op Add (P.byte i) (Q.byte i) ≡ primary_byte (added_at Map P Q i)
  sum-byte i h =
      omega (
        arith,
        byte-is i h,
        primary_byte-value_of Q p.second p.bytes-second i (omega (arith, p.sizes)),
        primary_byte-min (value_of P i),
        primary_byte-min (value_of Q i),
        primary_byte-min (added_at Map P Q i),
      )

  -- one number, added to a distance and its primary byte
  module _ (d i : ℕ) (h : i < P.n) where
    pub raised_byte : byte_op Raise (P.byte i) (primary_byte d) ≡ primary_byte (added_at (Number d) P Q i)
    raised_byte =
        rw (byte-is i h)
        (elim (ℕ_discrete (value_of P i) 0) [
          | yes e ↦ rw e
          | no ne ↦ rw (
            ne_eqb (value_of P i) 0 ne,
            ne_eqb (primary_byte (value_of P i)) 0 (λ z. omega (arith, primary_byte-min (value_of P i))),
          ) (omega (arith, primary_byte-min (value_of P i), primary_byte-min d, primary_byte-min (value_of P i + d)))
        ])

    pub from_is : leb (max 1 (255 - primary_byte d)) (P.byte i) ≡ in_overflow (added_at (Number d) P Q i)
    from_is =
        rw (byte-is i h)
        (elim (ℕ_discrete (value_of P i) 0) [
          | yes e ↦ rw e (lt-leb (max 1 (255 - primary_byte d)) 0 (omega arith))
          | no ne ↦ rw (ne_eqb (value_of P i) 0 ne)
              (elim (dec_le 255 (value_of P i + d)) [
                | yes o ↦ le-leb (max 1 (255 - primary_byte d)) (primary_byte (value_of P i))
                    (omega (arith, primary_byte-min d, primary_byte-min (value_of P i)))
                    ∙ sym (le-leb 255 (value_of P i + d) o)
                | no o ↦ lt-leb (max 1 (255 - primary_byte d)) (primary_byte (value_of P i))
                    (omega (arith, primary_byte-min d, primary_byte-min (value_of P i)))
                    ∙ sym (lt-leb 255 (value_of P i + d) (omega arith))
              ])
        ])
