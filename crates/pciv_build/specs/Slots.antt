-- The slots in overflow as the primary bytes of a buffer tell them, and entries that wait for their distances.
--   is_full d i        the primary byte of slot i in the buffer d is 255
--   full_slots d i c   those of the c slots from i on
--   TellFull ws d i to    the words ws tell which of the slots from i up to `to` are so, a bit for each
--   blank_entries xs   an overflow entry for each of the slots xs, with distance 255
--   HoldsPrimary      the primary bytes of (n, v) stand in their place
-- Laws are in proofs/SlotsLaws.antt and proofs/FillLaws.antt. Axioms: none.
use Rattle.std.specs.Prelude.{◌≡◌, ℕ, ◌+◌, ◌-◌, ◌*◌, ◌<◌, min, Bool, List, ◌++◌, get_or, eqb}
use Rattle.pciv_bytes.specs.Ranges.{positions, joined}
use Rattle.pciv_bytes.specs.LittleEndian.{le}
use Rattle.pciv_bytes.specs.ByteAt.{byte_at}
use Rattle.pciv_format.specs.Layout.{primary_byte}
use Rattle.pciv_format.specs.Mask.{word}

abbrev pub is_full : List ℕ → ℕ → Bool
is_full d i = eqb (byte_at d (40 + i)) 255

abbrev pub full_slots : List ℕ → ℕ → ℕ → List ℕ
full_slots d i c = positions (is_full d) i c

abbrev pub TellFull : List ℕ → List ℕ → ℕ → ℕ → Type 0
TellFull ws d i to = (w : ℕ) → i + 64 * w < to → get_or ws w 0 ≡ word (is_full d) (i + 64 * w) (min 64 (to - (i + 64 * w)))

abbrev pub blank_entry : ℕ → List ℕ
blank_entry slot = le 8 slot ++ le 4 255

abbrev pub blank_entries : List ℕ → List ℕ
blank_entries slots = joined blank_entry slots

abbrev pub HoldsPrimary : ℕ → (ℕ → ℕ) → List ℕ → Type 0
HoldsPrimary n v d = (i : ℕ) → i < n → byte_at d (40 + i) ≡ primary_byte (v i)
