-- The file of a map (docs/FORMAT.md, "Layout" and "Derived counts").
-- A map is given as n, its number of slots, and v, the distance of each slot; `at xs` is the v of a list xs.
--   max_slots, max_distance    the most slots, and the largest distance
--   index_step k          the step of the sparse index of a file with k overflow entries; 0 for no index
--   index_len k           how many entries that index has
--   file_len n k          the length in bytes of a file with n slots and k overflow entries
--   in_overflow x, primary_byte x    a distance is in overflow; its primary byte
--   primary n v          the primary array
--   overflow_slots n v    the slots in overflow, rising; overflow_count n v counts them
--   overflow_part n v     their entries, each an overflow_entry v s
--   index_part ss         the sparse index of overflow slots ss, each an index_entry ss step i
--   magic, header n k    the first eight bytes as a number; the header
--   file n v, file_of xs  the whole file
--   counts_of n k, list_counts xs    the counts of a file with n slots and k overflow entries; of the file of a list
--   summarize c sum      the summary with the counts c and the sum of all distances
--   summary n v, summary_of xs    the summary of a file
--   Limits xs            a list that a file can hold
-- Laws are in proofs/LayoutLaws.antt. Axioms: none.
use Rattle.std.specs.Prelude.{ℕ, ◌+◌, ◌*◌, ◌≤◌, ◌<◌, Bool, cond, List, ◌++◌, length, get_or, ltb, leb, eqb}
use Rattle.pciv_bytes.specs.Ranges.{ceil_div, table, positions, joined, sum_from}
use Rattle.pciv_bytes.specs.LittleEndian.{le}
use Rattle.pciv_format.specs.declared.Counts.{Counts}
use Rattle.pciv_format.specs.declared.Summary.{Summary}

-- the most slots, and the largest distance
abbrev pub max_slots : ℕ
max_slots = 1048576

abbrev pub max_distance : ℕ
max_distance = 4294967295

-- ---- derived counts

-- up to 2,048 overflow entries there is no sparse index
unfoldable pub index_step : ℕ → ℕ
index_step k = cond (leb k 2048) 0 (ceil_div k 2048)

unfoldable pub index_len : ℕ → ℕ
index_len k = cond (eqb (index_step k) 0) 0 (ceil_div k (index_step k))

unfoldable pub file_len : ℕ → ℕ → ℕ
file_len n k = 40 + n + 12 * k + 16 * index_len k

-- ---- the parts of a file

-- a distance of 255 or more is in overflow (the report's word for it is "far")
abbrev pub in_overflow : ℕ → Bool
in_overflow x = leb 255 x

-- the primary byte of a distance
abbrev pub primary_byte : ℕ → ℕ
primary_byte x = cond (ltb x 255) x 255

unfoldable pub primary : ℕ → (ℕ → ℕ) → List ℕ
primary n v = table (λ (i : ℕ). primary_byte (v i)) 0 n

unfoldable pub overflow_slots : ℕ → (ℕ → ℕ) → List ℕ
overflow_slots n v = positions (λ (i : ℕ). in_overflow (v i)) 0 n

unfoldable pub overflow_count : ℕ → (ℕ → ℕ) → ℕ
overflow_count n v = length (overflow_slots n v)

-- an overflow entry: the slot (8 bytes), then the distance there (4 bytes)
unfoldable pub overflow_entry : (ℕ → ℕ) → ℕ → List ℕ
overflow_entry v s = le 8 s ++ le 4 (v s)

unfoldable pub overflow_part : ℕ → (ℕ → ℕ) → List ℕ
overflow_part n v = joined (overflow_entry v) (overflow_slots n v)

-- index entry i: the slot of overflow entry i * step (8 bytes), then i * step (8 bytes)
unfoldable pub index_entry : List ℕ → ℕ → ℕ → List ℕ
index_entry ss step i = le 8 (get_or ss (i * step) 0) ++ le 8 (i * step)

unfoldable pub index_part : List ℕ → List ℕ
index_part ss = joined (index_entry ss (index_step (length ss))) (table (λ (i : ℕ). i) 0 (index_len (length ss)))

-- "PCIV" and four zeros, the first eight bytes, as a number
abbrev pub magic : ℕ
magic = 0x56494350

unfoldable pub header : ℕ → ℕ → List ℕ
header n k = le 8 magic ++ (le 8 n ++ (le 8 k ++ (le 8 (index_len k) ++ le 8 (index_step k))))

-- ---- the file

unfoldable pub file : ℕ → (ℕ → ℕ) → List ℕ
file n v = header n (overflow_count n v) ++ (primary n v ++ (overflow_part n v ++ index_part (overflow_slots n v)))

-- the counts of a file with n slots and k overflow entries
unfoldable pub counts_of : ℕ → ℕ → Counts
counts_of n k = record { n = n; k = k; m = index_len k; step = index_step k; len = file_len n k }

-- the counts, and behind them the sum of all distances
abbrev pub summarize : Counts → ℕ → Summary
summarize c sum = record { n = c.n; k = c.k; m = c.m; step = c.step; len = c.len; sum = sum }

unfoldable pub summary : ℕ → (ℕ → ℕ) → Summary
summary n v = summarize (counts_of n (overflow_count n v)) (sum_from v 0 n)

-- ---- of a list

abbrev pub at : List ℕ → ℕ → ℕ
at xs i = get_or xs i 0

abbrev pub file_of : List ℕ → List ℕ
file_of xs = file (length xs) (at xs)

abbrev pub list_counts : List ℕ → Counts
list_counts xs = counts_of (length xs) (overflow_count (length xs) (at xs))

abbrev pub summary_of : List ℕ → Summary
summary_of xs = summary (length xs) (at xs)

pub record Limits (xs : List ℕ) : Type 0 where
  pub count : length xs ≤ max_slots
  pub each : (i : ℕ) → i < length xs → get_or xs i 0 ≤ max_distance
