-- What a lookup counts and searches (docs/FORMAT.md, "Reading").
--   lower_bound f s c          the least j below c with f j at least s, or c
--   entries_below P slot       how many overflow entries have a smaller slot: where the slot's entry stands
--   block_start, block_end      the overflow entries to search after i index entries with a smaller slot
--   key_at b base stride j     the 8-byte number at the front of record j of a table
--   Sorted f c, KeyTable      c numbers that do not fall; a table that is sorted by its keys
-- Laws are in proofs/SearchLaws.antt and proofs/LookupLaws.antt. Axioms: none.
use Rattle.std.specs.Prelude.{ℕ, ◌+◌, ◌-◌, ◌*◌, ◌^◌, ◌≤◌, ◌<◌, cond, List, length, ltb, leb}
use Rattle.pciv_bytes.specs.Ranges.{first_below}
use Rattle.pciv_bytes.specs.LittleEndian.{get}
use Rattle.pciv_format.specs.Parts.{Parts}

unfoldable pub lower_bound : (ℕ → ℕ) → ℕ → ℕ → ℕ
lower_bound f s c = first_below (λ (j : ℕ). leb s (f j)) c

abbrev pub entries_below : Parts → ℕ → ℕ
entries_below P slot = lower_bound P.slot slot P.k

-- ---- the blocks of the sparse index

-- the block starts at the last index entry with a smaller slot, or at 0
abbrev pub block_start : ℕ → ℕ → ℕ
block_start i step = (i - 1) * step

-- and ends before the next index entry; past the last of the m index entries it ends at k
abbrev pub block_end : ℕ → ℕ → ℕ → ℕ → ℕ
block_end i m step k = cond (ltb i m) (i * step) k

-- ---- tables that are sorted by their keys

abbrev pub key_at : List ℕ → ℕ → ℕ → ℕ → ℕ
key_at b base stride j = get 8 b (base + stride * j)

abbrev pub Sorted : (ℕ → ℕ) → ℕ → Type 0
Sorted f c = (i j : ℕ) → i ≤ j → j < c → f i ≤ f j

pub record KeyTable (b : List ℕ) (base stride count : ℕ) : Type 0 where
  pub apart : 8 ≤ stride
  pub inside : base + stride * count ≤ length b
  pub sorted : Sorted (key_at b base stride) count
  pub small : (j : ℕ) → j < count → key_at b base stride j < 2 ^ 63
