-- The primary part of a file as a slice of it, from its byte 40 on.
--   part b n, length_part, part_at    that slice, its length and its bytes
--   part-wrong, part-entry    an overflow entry, tested beside that slice
--   part_count    how many of its bytes are 255
-- Axioms: none.
use mathlib.Core.Path.{◌≡◌, sym, ap, ◌∙◌}
use Prim.Native.Nat.{ℕ, ◌+◌, ◌-◌, ◌≤◌, ◌<◌}
use native.Mathlib.Omega.{arith}
use mathlib.Core.List.{List}
use lib.ListN.{length, take, drop, length-drop}
use lib.Seq.{length-take-le, get_or-take, get_or-drop}
use lib.Dec.{eqb}
use Rattle.pciv_bytes.specs.Ranges.{flag, sum_from}
use Rattle.pciv_bytes.specs.ByteAt.{byte_is}
use Rattle.pciv_bytes.proofs.SumLaws.{sum_from-cong}
use Rattle.pciv_format.specs.Layout.{at}
use Rattle.pciv_format.specs.Parts.{Parts, wrong_entry, lowest_slot, bad_entry}
use Rattle.pciv_format.specs.Check.{file_parts}
use Rattle.pciv_format.proofs.BadEntryLaws.{wrong_entry-cong, bad_entry-is}
use Rattle.pciv_format.proofs.FullCountLaws.{is_full}

abbrev pub part : List ℕ → ℕ → List ℕ
part b n = take (40 + n - 40) (drop 40 b)

module _ (b : List ℕ) (n k : ℕ) (inside : 40 + n ≤ length b) where
  pub length_part : length (part b n) ≡ n
  length_part = length-take-le (40 + n - 40) (drop 40 b) (simp length-drop (omega arith)) ∙ omega arith

  pub part_at : (i : ℕ) → i < n → at (part b n) i ≡ (file_parts b n k).byte i
  part_at i h = get_or-take (40 + n - 40) (drop 40 b) i 0 (omega arith) ∙ get_or-drop 40 b i 0

  pub part-wrong : (lowest slot distance : ℕ)
      → wrong_entry (length (part b n)) (at (part b n)) lowest slot distance
      ≡ wrong_entry n (file_parts b n k).byte lowest slot distance
  part-wrong lowest slot distance =
      rw length_part (wrong_entry-cong n (at (part b n)) (file_parts b n k).byte lowest slot distance part_at)

  pub part-entry : (j lowest slot distance : ℕ) → lowest ≡ lowest_slot (file_parts b n k) j
      → slot ≡ (file_parts b n k).slot j → distance ≡ (file_parts b n k).distance j
      → bad_entry (file_parts b n k) j ≡ wrong_entry (length (part b n)) (at (part b n)) lowest slot distance
  part-entry j lowest slot distance low s d =
      let P : Parts = file_parts b n k in
      bad_entry-is P j
      ∙ rw (low, s, d) (sym (part-wrong (lowest_slot P j) (P.slot j) (P.distance j)))

  pub part_count : sum_from (byte_is (part b n) 255) 0 (length (part b n)) ≡ sum_from (is_full (file_parts b n k)) 0 n
  part_count =
      rw length_part
      (sum_from-cong (byte_is (part b n) 255) (is_full (file_parts b n k)) 0 n
      (λ i h₁ h₂. ap (λ (x : ℕ). flag (eqb x 255)) (part_at i (omega arith))))
