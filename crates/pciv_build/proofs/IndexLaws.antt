-- The sparse index, written one entry a step.
--   numbers_from k i     the numbers of the index entries from i on
--   IndexLeft           the invariant: these entries are left, and what stands before the index is unchanged
--   index-start, -more, -end    before the first entry, one entry on, and after the last
--   entry-before        the overflow entry that index entry i is read off stands before the index
--   index_read          and is as it was
-- Axioms: none.
use mathlib.Core.Path.{◌≡◌, refl, sym, ap, ◌∙◌}
use Prim.Native.Nat.{ℕ, ◌+◌, ◌-◌, ◌*◌, ◌≤◌, ◌<◌}
use native.Mathlib.Nat.{add-zero, sub-zero}
use native.Mathlib.Omega.{arith}
use mathlib.Core.List.{List, ◌∷◌, ◌++◌}
use lib.ListN.{length, take}
use lib.Seq.{sets, length-sets}
use Rattle.pciv_bytes.specs.Ranges.{table, joined}
use Rattle.pciv_bytes.specs.LittleEndian.{le, get}
use Rattle.pciv_bytes.proofs.RangesLaws.{table-rest, table_done}
use Rattle.pciv_bytes.proofs.LittleEndianLaws.{get-below}
use Rattle.pciv_bytes.proofs.WriteLaws.{sets-append, take-sets}
use Rattle.pciv_format.specs.Layout.{index_step, index_len, file_len}
use Rattle.pciv_format.proofs.LayoutLaws.{index-inside, file_len-is}
use Rattle.pciv_build.specs.Build.{index_entry_from, index_from}

-- the numbers of the entries from i on
unfoldable pub numbers_from : ℕ → ℕ → List ℕ
numbers_from k i = table (λ (j : ℕ). j) i (index_len k - i)

numbers_from-more : (k i : ℕ) → i < index_len k → numbers_from k i ≡ i ∷ numbers_from k (i + 1)
unfolding numbers_from
numbers_from-more k i h = table-rest (λ (j : ℕ). j) (index_len k) i h

length-index_entry_from : (d : List ℕ) (n k i : ℕ) → length (index_entry_from d n k i) ≡ 16
unfolding index_entry_from le
length-index_entry_from d n k i = refl

index_entry_from-is : (d : List ℕ) (n k i : ℕ)
    → index_entry_from d n k i ≡ le 8 (get 8 d (40 + n + 12 * (i * index_step k))) ++ le 8 (i * index_step k)
unfolding index_entry_from
index_entry_from-is d n k i = refl

pub record IndexLeft (n k : ℕ) (d₀ : List ℕ) (i : ℕ) (d : List ℕ) : Type 0 where
  pub inside : i ≤ index_len k
  pub size : length d ≡ length d₀
  pub before : take (40 + n + 12 * k) d ≡ take (40 + n + 12 * k) d₀
  pub rest : sets d₀ (40 + n + 12 * k) (index_from d₀ n k)
      ≡ sets d (40 + n + 12 * k + 16 * i) (joined (index_entry_from d₀ n k) (numbers_from k i))

pub index-start : (n k : ℕ) (d : List ℕ) → IndexLeft n k d 0 d
unfolding index_from numbers_from
index-start n k d = record { inside = omega arith; size = refl; before = refl; rest = rw (add-zero, sub-zero) }

-- the entry that index entry i is read off stands before the index
pub entry-before : (n k i : ℕ) → i < index_len k → 40 + n + 12 * (i * index_step k) + 8 ≤ 40 + n + 12 * k
entry-before n k i h = omega (arith, index-inside k i h)

module _ {n k : ℕ} {d₀ : List ℕ} {i : ℕ} {d : List ℕ} (e : IndexLeft n k d₀ i d) (fits : file_len n k ≤ length d₀) where
  -- what is read is what stood there
  pub index_read : i < index_len k
      → get 8 d (40 + n + 12 * (i * index_step k)) ≡ get 8 d₀ (40 + n + 12 * (i * index_step k))
  index_read h =
      get-below 8 (40 + n + 12 * k) _ d d₀ e.before (entry-before n k i h)
      (omega (arith, e.size, file_len-is n k)) (omega (arith, file_len-is n k))

  -- entry i is written
  pub index-more : i < index_len k → (slot entry : ℕ) (d' : List ℕ)
      → entry ≡ i * index_step k → slot ≡ get 8 d (40 + n + 12 * entry)
      → d' ≡ sets d (40 + n + 12 * k + 16 * i) (le 8 slot ++ le 8 entry) → IndexLeft n k d₀ (i + 1) d'
  unfolding joined
  index-more h slot entry d' is read put =
      let at : ℕ = 40 + n + 12 * k + 16 * i in
      let next : at + 16 ≡ 40 + n + 12 * k + 16 * (i + 1) = omega arith in
      let piece : List ℕ = index_entry_from d₀ n k i in
      let left : List ℕ = joined (index_entry_from d₀ n k) (numbers_from k (i + 1)) in
      let same : d' ≡ sets d at piece = put ∙ rw (read, is, index_read h, index_entry_from-is d₀ n k i) in
      record {
        inside = omega arith;
        size = ap length same ∙ length-sets d at piece ∙ e.size;
        before = rw same (take-sets (40 + n + 12 * k) piece d at (omega arith) ∙ e.before);
        rest = e.rest
            ∙ rw (numbers_from-more k i h, same, ← next)
            (sets-append piece left d at ∙ rw (length-index_entry_from d₀ n k i));
      }

  pub index-end : index_len k ≤ i → d ≡ sets d₀ (40 + n + 12 * k) (index_from d₀ n k)
  unfolding joined numbers_from
  index-end h = sym (e.rest ∙ rw (table_done (λ (j : ℕ). j) (index_len k) i h))
