-- The file of a map consists of bytes.
--   file-bytes    every element of it is one
-- Axioms: none.
use Prim.Native.Nat.{ℕ, zero, suc, ◌/◌, ◌<◌}
use native.Mathlib.Omega.{arith}
use mathlib.Core.List.{List, [], ◌∷◌, ◌++◌}
use lib.Dec.{lit<}
use Rattle.pciv_bytes.specs.Ranges.{table, joined}
use Rattle.pciv_bytes.specs.LittleEndian.{le, Bytes}
use Rattle.pciv_format.specs.Layout.{primary_byte, primary, overflow_slots, overflow_count, overflow_entry, overflow_part}
use Rattle.pciv_format.specs.Layout.{index_step, index_len, index_entry, index_part, magic, header, file}
use Rattle.pciv_format.proofs.PartsLaws.{primary_byte-min}

bytes-append : (p q : List ℕ) → Bytes p → Bytes q → Bytes (p ++ q)
bytes-append [] q hp hq i = hq i
bytes-append (x ∷ p) q hp hq zero = hp 0
bytes-append (x ∷ p) q hp hq (suc i) = bytes-append p q (λ j. hp (suc j)) hq i

bytes_le : (w x : ℕ) → Bytes (le w x)
unfolding le
bytes_le zero x i = lit< tt
bytes_le (suc w) x zero = omega arith
bytes_le (suc w) x (suc i) = bytes_le w (x / 256) i

bytes-joined : (g : ℕ → List ℕ) → ((x : ℕ) → Bytes (g x)) → (xs : List ℕ) → Bytes (joined g xs)
unfolding joined
bytes-joined g each [] i = lit< tt
bytes-joined g each (x ∷ xs) i = bytes-append (g x) (joined g xs) (each x) (bytes-joined g each xs) i

bytes-table : (f : ℕ → ℕ) → ((j : ℕ) → f j < 256) → (i c : ℕ) → Bytes (table f i c)
unfolding table
bytes-table f each i zero j = lit< tt
bytes-table f each i (suc c) zero = each i
bytes-table f each i (suc c) (suc j) = bytes-table f each (suc i) c j

-- two numbers
bytes-two : (w x u y : ℕ) → Bytes (le w x ++ le u y)
bytes-two w x u y = bytes-append (le w x) (le u y) (bytes_le w x) (bytes_le u y)

module _ (n : ℕ) (v : ℕ → ℕ) where
  bytes-header : (k : ℕ) → Bytes (header n k)
  unfolding header
  bytes-header k =
      bytes-append (le 8 magic) _ (bytes_le 8 magic)
      (bytes-append (le 8 n) _ (bytes_le 8 n)
      (bytes-append (le 8 k) _ (bytes_le 8 k) (bytes-two 8 (index_len k) 8 (index_step k))))

  bytes-primary : Bytes (primary n v)
  unfolding primary
  bytes-primary = bytes-table (λ (i : ℕ). primary_byte (v i)) (λ i. omega (arith, primary_byte-min (v i))) 0 n

  bytes-overflow : Bytes (overflow_part n v)
  unfolding overflow_part overflow_entry
  bytes-overflow = bytes-joined (overflow_entry v) (λ s. bytes-two 8 s 4 (v s)) (overflow_slots n v)

  bytes-index : (ss : List ℕ) → Bytes (index_part ss)
  unfolding index_part index_entry
  bytes-index ss = bytes-joined _ (λ i. bytes-two 8 _ 8 _) _

  pub file-bytes : Bytes (file n v)
  unfolding file
  file-bytes =
      bytes-append (header n (overflow_count n v)) _ (bytes-header (overflow_count n v))
      (bytes-append (primary n v) _ bytes-primary
      (bytes-append (overflow_part n v) _ bytes-overflow (bytes-index (overflow_slots n v))))
