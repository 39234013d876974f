-- The primary array and the overflow entries, wherever they stand: in a file, or in a caller's lists.
--   Parts              n slots, k overflow entries, the primary byte of each slot, each entry's slot and distance
--   wrong_entry n byte lowest slot distance
--                      an entry is wrong among n slots with these primary bytes; its slot may be `lowest` at the least
--   lowest_slot P j     the least slot that entry j may have
--   bad_entry P j       overflow entry j is wrong (refusal 6)
--   entry_of P i        the entry of slot i, or k
--   bad_slot P i        slot i has byte 255 and no entry (refusal 7)
--   value_of P i        the distance of slot i
--   refuse_parts        refusals 6 and 7
--   EntriesRight P     every entry of P is right
--   SoundParts P       neither refusal concerns P
-- Laws are in proofs/PartsLaws.antt, BadEntryLaws.antt and BadSlotLaws.antt. Axioms: none.
use Rattle.pciv_format.specs.declared.RefusalKind.TheVariants.{BadOverflowEntry, MissingOverflowEntry}
use Rattle.std.specs.Prelude.{◌≡◌, ℕ, zero, suc, ◌+◌, ◌<◌, Bool, false, not, cond, ◌&&◌, ◌||◌, ltb, leb, eqb}
use Rattle.pciv_bytes.specs.Ranges.{first_below}
use Rattle.pciv_format.specs.Refusals.{Outcome, refuse_first}

pub record Parts : Type 0 where
  pub n : ℕ
  pub k : ℕ
  pub byte : ℕ → ℕ
  pub slot : ℕ → ℕ
  pub distance : ℕ → ℕ

-- in the order of docs/FORMAT.md: outside, not above the slot before, stored inline, another primary byte
unfoldable pub wrong_entry : ℕ → (ℕ → ℕ) → ℕ → ℕ → ℕ → Bool
wrong_entry n byte lowest slot distance =
    leb n slot || ltb slot lowest || ltb distance 255 || not (eqb (byte slot) 255)

-- above the slot of the entry before
abbrev pub lowest_slot : Parts → ℕ → ℕ
lowest_slot P zero = 0
lowest_slot P (suc j) = P.slot j + 1

unfoldable pub bad_entry : Parts → ℕ → Bool
bad_entry P j = wrong_entry P.n P.byte (lowest_slot P j) (P.slot j) (P.distance j)

unfoldable pub entry_of : Parts → ℕ → ℕ
entry_of P i = first_below (λ (j : ℕ). eqb (P.slot j) i) P.k

unfoldable pub bad_slot : Parts → ℕ → Bool
bad_slot P i = eqb (P.byte i) 255 && leb P.k (entry_of P i)

unfoldable pub value_of : Parts → ℕ → ℕ
value_of P i = cond (ltb (P.byte i) 255) (P.byte i) (P.distance (entry_of P i))

module _ {A : Type 0} where
  abbrev pub refuse_parts : ℕ → Parts → Outcome A → Outcome A
  refuse_parts mp P o = refuse_first BadOverflowEntry mp (bad_entry P) P.k (refuse_first MissingOverflowEntry mp (bad_slot P) P.n o)

abbrev pub EntriesRight : Parts → Type 0
EntriesRight P = (j : ℕ) → j < P.k → bad_entry P j ≡ false

pub record SoundParts (P : Parts) : Type 0 where
  pub entries : EntriesRight P
  pub slots : (i : ℕ) → i < P.n → bad_slot P i ≡ false
