-- Where all entries are kept, their bytes are those that stand in the file.
--   put_mid-sets   a part of a list that holds other elements now
--   all-kept       every entry is kept where as many are kept as there are; kept_same  each then has its own number
--   entry-bytes    an entry as bytes
--   kept-copy      the bytes of the kept entries
-- Axioms: none.
use mathlib.Core.Path.{◌≡◌, refl, sym, ap, ◌∙◌}
use Prim.Native.Nat.{ℕ, zero, suc, ◌+◌, ◌*◌, ◌≤◌, ◌<◌}
use native.Mathlib.Nat.{zero-add}
use native.Mathlib.Numerals.{add-one}
use native.Mathlib.Omega.{arith}
use native.Mathlib.Decide.{dec_le}
use mathlib.Core.Bool.{Bool, true, false}
use mathlib.Core.List.{List, ◌++◌, append_assoc}
use borrow.Rule.Slice.PartMut.{put_mid}
use lib.ListN.{length, take, drop, length-append}
use lib.Seq.{sets, sets-eq, drop-drop}
use Rattle.pciv_bytes.specs.Ranges.{table, positions, keep_if, joined}
use Rattle.pciv_bytes.specs.LittleEndian.{le, Bytes}
use Rattle.pciv_bytes.proofs.RangesLaws.{length-table, get_or-table}
use Rattle.pciv_bytes.proofs.PositionsLaws.{positions-count}
use Rattle.pciv_bytes.proofs.JoinedLaws.{joined_is}
use Rattle.pciv_bytes.proofs.LittleEndianLaws.{length-le}
use Rattle.pciv_format.specs.Layout.{at}
use Rattle.pciv_format.specs.Parts.{Parts}
use Rattle.pciv_format.specs.Check.{file_parts}
use Rattle.pciv_format.proofs.CheckedFileLaws.{two-numbers}
use Rattle.pciv_close.specs.Close.{entries_from}
use Rattle.pciv_repair_file.specs.Repaired.{is_kept, kept_entries, kept_parts, kept_bytes}
use Rattle.pciv_repair_file.proofs.KeptLaws.{kept-number}
use Rattle.pciv_repair_file.proofs.WalkLaws.{kept_count, kept_count-none, kept_count-kept}

pub put_mid-sets : (a k : ℕ) (d vs : List ℕ) → length vs ≡ k → a + k ≤ length d → put_mid a k d vs ≡ sets d a vs
put_mid-sets a k d vs same space =
    let fits : a + length vs ≤ length d = rw same space in
    sym (sets-eq vs d a fits ∙ append_assoc (take a d) vs (drop (a + length vs) d) ∙ rw (drop-drop k a d, same))

-- as many as there are numbers
every : (p : ℕ → Bool) (i c : ℕ) → length (positions p i c) ≡ c → (j : ℕ) → i ≤ j → j < i + c → p j ≡ true
unfolding positions
every p i zero full j low high = absurd (omega arith)
every p i (suc c) full j low high = go (p i) refl full (every p (suc i) c)
  where
    go : (b : Bool) → p i ≡ b → length (keep_if b i (positions p (suc i) c)) ≡ suc c
        → (length (positions p (suc i) c) ≡ c → (j : ℕ) → suc i ≤ j → j < suc i + c → p j ≡ true) → p j ≡ true
    go true e q rest =
        elim (dec_le j i) [
          | yes d ↦ (let z : j ≡ i = omega arith in ap p z ∙ e)
          | no d ↦ rest (omega arith) j (omega arith) (omega arith)
        ]
    go false e q rest = absurd (omega (arith, q, positions-count p (suc i) c))

module _ (P : Parts) (full : length (kept_entries P) ≡ P.k) where
  pub all-kept : (j : ℕ) → j < P.k → is_kept P j ≡ true
  unfolding kept_entries
  all-kept j h = every (is_kept P) 0 P.k full j (omega arith) (omega arith)

  count_same : (j : ℕ) → j ≤ P.k → kept_count P j ≡ j
  count_same zero h = kept_count-none P
  count_same (suc j) h =
      ap (kept_count P) (sym (add-one j))
      ∙ kept_count-kept P j (all-kept j (omega arith))
      ∙ omega (arith, count_same j (omega arith))

  pub kept_same : (j : ℕ) → j < P.k → at (kept_entries P) j ≡ j
  kept_same j h = ap (at (kept_entries P)) (sym (count_same j (omega arith))) ∙ (kept-number P j h (all-kept j h)).1

module _ (b : List ℕ) (n k : ℕ) (bytes : Bytes b) (inside : 40 + n + 12 * k ≤ length b) where
  abbrev parts : Parts
  parts = file_parts b n k

  pub entry-bytes : (j : ℕ) → j < k
      → le 8 ((file_parts b n k).slot j) ++ le 4 ((file_parts b n k).distance j) ≡ take 12 (drop (40 + n + 12 * j) b)
  entry-bytes j h = two-numbers 8 4 (40 + n + 12 * j) b bytes (omega arith)

  pub kept-copy : length (kept_entries (file_parts b n k)) ≡ k
      → kept_bytes (file_parts b n k) ≡ take (12 * k) (drop (40 + n) b)
  unfolding kept_bytes entries_from
  kept-copy full =
      let g : ℕ → List ℕ = λ i. le 8 ((kept_parts parts).slot i) ++ le 4 ((kept_parts parts).distance i) in
      let numbers : List ℕ = table (λ (i : ℕ). i) 0 k in
      let size : (x : ℕ) → length (g x) ≡ 12 = λ x. simp (length-append, length-le) in
      ap (λ (c : ℕ). joined g (table (λ (i : ℕ). i) 0 c)) full
      ∙ joined_is g 12 size numbers (drop (40 + n) b)
      (λ j h.
      (let h' : j < k = (rw length-table at h) in
      let same : at numbers j ≡ j = get_or-table (λ (i : ℕ). i) 0 0 k j h' ∙ zero-add j in
      let number : at (kept_entries parts) j ≡ j = kept_same parts full j h' in
      ap (take 12) (drop-drop (12 * j) (40 + n) b)
      ∙ sym (entry-bytes j h')
      ∙ ap (λ (i : ℕ). le 8 (parts.slot i) ++ le 4 (parts.distance i)) (sym number)
      ∙ ap g (sym same)))
      ∙ ap (λ (x : ℕ). take (12 * x) (drop (40 + n) b)) (length-table (λ (i : ℕ). i) 0 k)
