-- Where a repair changes nothing.
--   no-corrections    nothing is listed where the file stays, every entry is kept, no byte is set, the index is right
--   applied-nothing   without a change, b stays
--   left-all          without a change, every entry is left
-- Axioms: none.
use mathlib.Core.Path.{◌≡◌, refl, sym, ap, ap₂, ◌∙◌}
use Prim.Native.Nat.{ℕ, zero, suc, ◌+◌, ◌*◌, ◌≤◌, ◌<◌}
use native.Mathlib.Nat.{add-zero, zero-add}
use native.Mathlib.Omega.{arith}
use mathlib.Core.Bool.{true, false, not}
use mathlib.Core.List.{List, [], ◌++◌}
use lib.ListN.{length, take, drop, length-drop}
use lib.Seq.{length-take-le, get_or-take, get_or-drop, ext_get_or}
use Rattle.pciv_bytes.specs.Ranges.{table, positions, joined}
use Rattle.pciv_bytes.specs.LittleEndian.{le, get, Bytes}
use Rattle.pciv_bytes.specs.ByteAt.{byte_at}
use Rattle.pciv_bytes.proofs.RangesLaws.{length-table, get_or-table}
use Rattle.pciv_bytes.proofs.LittleEndianLaws.{le-get}
use Rattle.pciv_bytes.proofs.PositionsLaws.{positions-none}
use Rattle.pciv_format.specs.Check.{file_parts}
use Rattle.pciv_format.proofs.PartsLaws.{eqb-not}
use Rattle.pciv_format.proofs.CheckedFileLaws.{stretches, two-numbers, four-parts}
use Rattle.pciv_repair_file.specs.Repaired.{is_kept, is_set, repaired_file, bytes_after, rebuilt_index}
use Rattle.pciv_repair_file.proofs.SameLaws.{same_refl}
use Rattle.pciv_repair.specs.Repair.{field_of, other_field, corrections}
use Rattle.pciv_repair.specs.Applied.{has_line, new_in, entry_bytes, entries_left, new_header, new_primary}
use Rattle.pciv_repair.specs.Applied.{new_entries, new_index, applied}

module _ (b : List ℕ) (n k : ℕ) where
  pub no-corrections : repaired_file b n k ≡ b → ((j : ℕ) → j < k → is_kept (file_parts b n k) j ≡ true)
      → ((i : ℕ) → i < n → is_set (file_parts b n k) i ≡ false) → bytes_after b n k ≡ rebuilt_index b n k
      → corrections b n k ≡ []
  unfolding corrections
  no-corrections stays kept none index =
      let P = file_parts b n k in
      let f : List ℕ = repaired_file b n k in
      let fields : positions (other_field b f) 0 6 ≡ [] =
      positions-none (other_field b f) 0 6
      (λ i h₁ h₂. eqb-not (field_of b i) (field_of f i) (ap (λ (l : List ℕ). field_of l i) (sym stays))) in
      let dropped : positions (λ (j : ℕ). not (is_kept P j)) 0 k ≡ [] =
      positions-none (λ (j : ℕ). not (is_kept P j)) 0 k (λ j h₁ h₂. ap not (kept j (omega arith))) in
      let set : positions (is_set P) 0 n ≡ [] = positions-none (is_set P) 0 n (λ i h₁ h₂. none i (omega arith)) in
      rw (fields, dropped, set, same_refl (bytes_after b n k) (rebuilt_index b n k) index)

-- ---- the file that b becomes by no change

left-from : (i c : ℕ) → length (positions (λ (j : ℕ). not (has_line [] 2 j)) i c) ≡ c
unfolding positions has_line
left-from i zero = refl
left-from i (suc c) = ap suc (left-from (suc i) c)

pub left-all : (k : ℕ) → length (entries_left k []) ≡ k
left-all = left-from 0

module _ (b : List ℕ) (n k : ℕ) where
  -- c entries from entry i on
  entries_from : (c i : ℕ) → joined (entry_bytes b n) (positions (λ (j : ℕ). not (has_line [] 2 j)) i c)
      ≡ take (12 * c) (drop (40 + n + 12 * i) b)
  unfolding positions has_line joined
  entries_from zero i = refl
  entries_from (suc c) i =
      let X : ℕ = 40 + n + 12 * i in
      let next : 40 + n + 12 * suc i ≡ X + 12 = omega arith in
      let more : 12 * suc c ≡ 12 + 12 * c = omega arith in
      rw (entries_from c (suc i), next, more) (sym (stretches 12 (12 * c) X b))

  module _ (bytes : Bytes b) (inside : 40 + n + 12 * k ≤ length b) where
    -- a number in front of bytes that follow it
    number-front : (w u at : ℕ) (l : List ℕ) → at + w ≤ length b → l ≡ take u (drop (at + w) b)
        → le w (get w b at) ++ l ≡ take (w + u) (drop at b)
    number-front w u at l h e =
        ap₂ (λ (x y : List ℕ). x ++ y) (le-get w b at bytes h) e ∙ sym (stretches w u at b)

    same-header : new_header b [] ≡ take 40 b
    unfolding new_header new_in field_of
    same-header =
        number-front 4 36 0 _ (omega arith)
        (number-front 4 32 4 _ (omega arith)
        (number-front 8 24 8 _ (omega arith)
        (number-front 8 16 16 _ (omega arith) (two-numbers 8 8 24 b bytes (omega arith)))))

    same-primary : new_primary b n [] ≡ take n (drop 40 b)
    unfolding new_primary new_in
    same-primary =
        let byte : ℕ → ℕ = λ i. byte_at b (40 + i) in
        let long : length (take n (drop 40 b)) ≡ n = length-take-le n (drop 40 b) (simp length-drop (omega arith)) in
        ext_get_or 0 (table byte 0 n) (take n (drop 40 b)) (length-table byte 0 n ∙ sym long)
        (λ i h.
        (let i<n : i < n = omega (arith, length-table byte 0 n) in
        get_or-table byte 0 0 n i i<n
        ∙ ap byte (zero-add i)
        ∙ sym (get_or-take n (drop 40 b) i 0 i<n ∙ get_or-drop 40 b i 0)))

    pub applied-nothing : applied b n k [] ≡ b
    unfolding applied new_entries new_index has_line
    applied-nothing =
        ap₂ (λ (x y : List ℕ). x ++ y) same-header
        (ap₂ (λ (x y : List ℕ). x ++ y) same-primary
        (ap (λ (l : List ℕ). l ++ bytes_after b n k)
        (entries_from k 0 ∙ ap (λ (x : ℕ). take (12 * k) (drop x b)) (add-zero (40 + n)))))
        ∙ four-parts n k b
