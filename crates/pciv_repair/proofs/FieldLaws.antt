-- The six fields of a header.
--   field_at-rises     their offsets rise
--   Fields f n k      the fields of a file of n slots and k overflow entries
--   file-fields       those of the file of a map within the limits
-- Axioms: none.
use mathlib.Core.Path.{◌≡◌}
use Prim.Native.Nat.{ℕ, ◌+◌, ◌-◌, ◌*◌, ◌≤◌, ◌<◌}
use native.Mathlib.Omega.{arith}
use native.Mathlib.Decide.{dec_le}
use mathlib.Core.List.{List}
use borrow.Author.Tests.{lt-ltb, le-ltb}
use Rattle.pciv_bytes.specs.LittleEndian.{le, number, get}
use Rattle.pciv_bytes.proofs.LittleEndianLaws.{get_in}
use Rattle.pciv_format.specs.Layout.{max_slots, max_distance, magic, index_step, index_len, overflow_count, header, file}
use Rattle.pciv_format.proofs.LayoutLaws.{length-header}
use Rattle.pciv_format.proofs.FileLaws.{file-header}
use Rattle.pciv_repair.specs.Repair.{field_at, field_of}

-- ---- the offsets

field_at-low : (i : ℕ) → i < 2 → field_at i ≡ 4 * i
field_at-low i h = rw (lt-ltb i 2 h)

field_at-high : (i : ℕ) → 2 ≤ i → field_at i ≡ 8 * (i - 1)
field_at-high i h = rw (le-ltb i 2 h)

pub field_at-rises : (i j : ℕ) → i < j → field_at i < field_at j
field_at-rises i j h =
    elim (dec_le 2 i) [
      | yes d ↦ omega (arith, field_at-high i d, field_at-high j (omega arith))
      | no d ↦
          elim (dec_le 2 j) [
            | yes d' ↦ omega (arith, field_at-low i (omega arith), field_at-high j d')
            | no d' ↦ omega (arith, field_at-low i (omega arith), field_at-low j (omega arith))
          ]
    ]

-- ---- the fields

pub record Fields (f : List ℕ) (n k : ℕ) : Type 0 where
  pub mark : field_of f 0 ≡ magic
  pub zeros : field_of f 1 ≡ 0
  pub n_is : field_of f 2 ≡ n
  pub k_is : field_of f 3 ≡ k
  pub m_is : field_of f 4 ≡ index_len k
  pub step_is : field_of f 5 ≡ index_step k

module _ (n : ℕ) (v : ℕ → ℕ) where
  -- four of the first 40 bytes stand in the header
  four-in-header : (at : ℕ) → at + 4 ≤ 40 → get 4 (file n v) at ≡ get 4 (header n (overflow_count n v)) at
  unfolding file
  four-in-header at h = get_in 4 (header n (overflow_count n v)) _ at (rw length-header h)

  pub file-fields : n ≤ max_slots → ((i : ℕ) → i < n → v i ≤ max_distance) → Fields (file n v) n (overflow_count n v)
  unfolding field_of header le get number
  file-fields few each =
      let h = file-header n v few each in
      record {
        mark = four-in-header 0 (omega arith);
        zeros = four-in-header 4 (omega arith);
        n_is = h.n_is;
        k_is = h.k_is;
        m_is = h.m_is;
        step_is = h.step_is;
      }
