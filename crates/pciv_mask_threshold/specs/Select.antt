-- How a mask of a map is made (docs/FORMAT.md, "Masks"). Every comparison of a distance with t asks that the distance
-- is below a limit, or that it is not; the near mask, that it is from 1 to t.
--   limit_of c t       the limit of the comparison c with t
--   is_negated c       c asks for the distances that are not below it
--   asked_of a x       what is asked holds of x;  asked_in P a i  of the distance of slot i
--   bytes_tell a       the primary bytes tell of which distances it holds
--   limit_asked a      the limit; for the near mask at t it is t + 1
--   start_in P a i     where the bytes do not tell: it holds at slot i, if no distance in overflow is at the limit or above
--   flipped_from P limit p i      p, flipped at the slots whose distance is not below the limit
-- Laws are in proofs/SelectLaws.antt and EntryBitsLaws.antt. Axioms: none.
use Rattle.std.specs.Prelude.{ℕ, ◌+◌, Bool, true, false, not, ltb, leb}
use Rattle.pciv_format.specs.Mask.{is_near}
use Rattle.pciv_format.specs.Parts.{Parts, value_of}
use Rattle.pciv_format.specs.declared.Comparison.{Comparison}
use Rattle.pciv_format.specs.declared.Comparison.TheVariants.{Below, AtMost, Above, AtLeast}
use Rattle.pciv_bits.specs.Flags.{flip_if, passes}
use Rattle.pciv_mask_threshold.specs.declared.Asked.{Asked}
use Rattle.pciv_mask_threshold.specs.declared.Asked.TheVariants.{Limit, Near}

abbrev pub limit_of : Comparison → ℕ → ℕ
limit_of Below t = t
limit_of AtMost t = t + 1
limit_of Above t = t + 1
limit_of AtLeast t = t

abbrev pub is_negated : Comparison → Bool
is_negated Below = false
is_negated AtMost = false
is_negated Above = true
is_negated AtLeast = true

abbrev pub asked_of : Asked → ℕ → Bool
asked_of (Limit limit negated) x = passes limit negated x
asked_of (Near t) x = is_near t x

abbrev pub asked_in : Parts → Asked → ℕ → Bool
asked_in P a i = asked_of a (value_of P i)

abbrev pub bytes_tell : Asked → Bool
bytes_tell (Limit limit negated) = ltb limit 255
bytes_tell (Near t) = ltb t 255

abbrev pub limit_asked : Asked → ℕ
limit_asked (Limit limit negated) = limit
limit_asked (Near t) = t + 1

abbrev pub start_in : Parts → Asked → ℕ → Bool
start_in P (Limit limit negated) i = not negated
start_in P (Near t) i = passes 1 true (P.byte i)

abbrev pub flipped_from : Parts → ℕ → (ℕ → Bool) → ℕ → Bool
flipped_from P limit p i = flip_if (leb limit (value_of P i)) (p i)
