-- A checked map whose bytes end with it is the file of the distances that it is read as, part by part.
--   stretches, two-numbers    two neighbouring stretches of a list; two numbers that stand next to each other
--   four-parts          bytes, cut behind a header, n bytes and k entries
--   checked-value-le    every distance is within the limit
--   checked-count       as many distances are in overflow as there are entries
--   checked-file        the file of the distances is the map's bytes
-- Axioms: none.
use mathlib.Core.Path.{◌≡◌, sym, ap, ap₂, ◌∙◌}
use Prim.Native.Nat.{ℕ, ◌+◌, ◌*◌, ◌≤◌, ◌<◌}
use native.Mathlib.Nat.{zero-add}
use native.Mathlib.Omega.{arith}
use mathlib.Core.List.{List, ◌++◌}
use lib.ListN.{length, get_or, take, drop, length-drop, take-append-drop}
use lib.Seq.{drop-drop, take-add, length-take-le, get_or-take, get_or-drop, take_all}
use Rattle.pciv_bytes.specs.Ranges.{table}
use Rattle.pciv_bytes.specs.LittleEndian.{le, get, Bytes}
use Rattle.pciv_bytes.proofs.RangesLaws.{length-table, get_or-table}
use Rattle.pciv_bytes.proofs.JoinedLaws.{joined_is}
use Rattle.pciv_bytes.proofs.LittleEndianLaws.{le-get, get-lt}
use Rattle.pciv_format.specs.Layout.{max_distance, index_step, index_len, file_len, primary}
use Rattle.pciv_format.specs.Layout.{overflow_slots, overflow_count, overflow_entry, overflow_part}
use Rattle.pciv_format.specs.Layout.{index_entry, index_part, header, file}
use Rattle.pciv_format.specs.Parts.{value_of}
use Rattle.pciv_format.specs.Check.{file_parts, bad_index_entry, CheckedMap}
use Rattle.pciv_format.proofs.PartsLaws.{or-false, not_eqb, value_of-slot, primary_byte-value_of}
use Rattle.pciv_format.proofs.PartsLaws.{value_of-le, overflow_slots-are, overflow_count-is}
use Rattle.pciv_format.proofs.CheckLaws.{checked-length}
use Rattle.pciv_format.proofs.PrimaryLaws.{primary-is}
use Rattle.pciv_format.proofs.LayoutLaws.{index-inside, file_len-is, length-overflow_entry, length-index_entry}

-- two neighbouring stretches of b
pub stretches : (a c at : ℕ) (b : List ℕ) → take (a + c) (drop at b) ≡ take a (drop at b) ++ take c (drop (at + a) b)
stretches a c at b =
    take-add a c (drop at b) ∙ ap (λ (l : List ℕ). take a (drop at b) ++ take c l) (drop-drop a at b)

-- two numbers that stand next to each other
pub two-numbers : (w u at : ℕ) (b : List ℕ) → Bytes b → at + (w + u) ≤ length b
    → le w (get w b at) ++ le u (get u b (at + w)) ≡ take (w + u) (drop at b)
two-numbers w u at b bytes h =
    ap₂ (λ (x y : List ℕ). x ++ y) (le-get w b at bytes (omega arith)) (le-get u b (at + w) bytes (omega arith))
    ∙ sym (stretches w u at b)

-- bytes, cut behind a header, n bytes and k entries
pub four-parts : (n k : ℕ) (b : List ℕ)
    → take 40 b ++ (take n (drop 40 b) ++ (take (12 * k) (drop (40 + n) b) ++ drop (40 + n + 12 * k) b)) ≡ b
four-parts n k b =
    let B : ℕ = 40 + n in
    sym
    (sym (take-append-drop 40 b)
    ∙ ap (λ (l : List ℕ). take 40 b ++ l)
    (sym (take-append-drop n (drop 40 b))
    ∙ ap (λ (l : List ℕ). take n (drop 40 b) ++ l)
    (drop-drop n 40 b
    ∙ sym (take-append-drop (12 * k) (drop B b))
    ∙ ap (λ (l : List ℕ). take (12 * k) (drop B b) ++ l) (drop-drop (12 * k) B b))))

module _ (b : List ℕ) (n k : ℕ) (bytes : Bytes b) (c : CheckedMap b n k) where
  byte-bound : (i : ℕ) → (file_parts b n k).byte i < 256
  byte-bound i = bytes (40 + i)

  inside : 40 + n + 12 * k + 16 * index_len k ≤ length b
  inside = checked-length b n k c

  pub checked-value-le : (i : ℕ) → i < n → value_of (file_parts b n k) i ≤ max_distance
  checked-value-le =
      value_of-le (file_parts b n k) c.parts byte-bound
      (λ j h. omega (arith, get-lt 4 b (40 + n + 12 * j + 8) bytes))

  pub checked-count : overflow_count n (value_of (file_parts b n k)) ≡ k
  checked-count = overflow_count-is (file_parts b n k) c.parts byte-bound

  checked-slots : overflow_slots n (value_of (file_parts b n k)) ≡ table (file_parts b n k).slot 0 k
  checked-slots = overflow_slots-are (file_parts b n k) c.parts byte-bound

  -- the slot of overflow entry j
  slot_at : (j : ℕ) → j < k → get_or (overflow_slots n (value_of (file_parts b n k))) j 0 ≡ get 8 b (40 + n + 12 * j)
  slot_at j h =
      rw checked-slots
      (get_or-table (file_parts b n k).slot 0 0 k j h ∙ ap (λ (t : ℕ). get 8 b (40 + n + 12 * t)) (zero-add j))

  -- ---- the four parts

  header-part : header n k ≡ take 40 b
  unfolding header
  header-part =
      let h = c.header in
      let long = inside in
      ap₂ (λ (x y : List ℕ). x ++ y) (ap (le 8) (sym h.mark) ∙ le-get 8 b 0 bytes (omega arith))
      (ap₂ (λ (x y : List ℕ). x ++ y) (ap (le 8) (sym h.n_is) ∙ le-get 8 b 8 bytes (omega arith))
      (ap₂ (λ (x y : List ℕ). x ++ y) (ap (le 8) (sym h.k_is) ∙ le-get 8 b 16 bytes (omega arith))
      (ap₂ (λ (x y : ℕ). le 8 x ++ le 8 y) (sym h.m_is) (sym h.step_is)
      ∙ two-numbers 8 8 24 b bytes (omega arith))))
      ∙ sym
      (stretches 8 32 0 b
      ∙ ap (λ (l : List ℕ). take 8 b ++ l)
      (stretches 8 24 8 b ∙ ap (λ (l : List ℕ). take 8 (drop 8 b) ++ l) (stretches 8 16 16 b)))

  primary-part : primary n (value_of (file_parts b n k)) ≡ take n (drop 40 b)
  primary-part =
      primary-is n (value_of (file_parts b n k)) (take n (drop 40 b))
      (length-take-le n (drop 40 b) (simp length-drop (omega (arith, inside))))
      (λ i h.
      primary_byte-value_of (file_parts b n k) c.parts byte-bound i h
      ∙ sym (get_or-take n (drop 40 b) i 0 h ∙ get_or-drop 40 b i 0))

  overflow-part : overflow_part n (value_of (file_parts b n k)) ≡ take (12 * k) (drop (40 + n) b)
  unfolding overflow_part overflow_entry overflow_count
  overflow-part =
      let v : ℕ → ℕ = value_of (file_parts b n k) in
      joined_is (overflow_entry v) 12 (length-overflow_entry v) (overflow_slots n v) (drop (40 + n) b)
      (λ j h.
      (let h' : j < k = (rw checked-count at h) in
      let X : ℕ = 40 + n + 12 * j in
      rw (slot_at j h', value_of-slot (file_parts b n k) c.parts j h')
      (ap (take 12) (drop-drop (12 * j) (40 + n) b) ∙ sym (two-numbers 8 4 X b bytes (omega (arith, inside))))))
      ∙ ap (λ (x : ℕ). take (12 * x) (drop (40 + n) b)) checked-count

  index-part : index_part (overflow_slots n (value_of (file_parts b n k)))
      ≡ take (16 * index_len k) (drop (40 + n + 12 * k) b)
  unfolding index_part index_entry bad_index_entry overflow_count
  index-part =
      let ss : List ℕ = overflow_slots n (value_of (file_parts b n k)) in
      let r : List ℕ = table (λ (i : ℕ). i) 0 (index_len k) in
      rw checked-count
      (joined_is (index_entry ss (index_step k)) 16 (length-index_entry ss (index_step k)) r (drop (40 + n + 12 * k) b)
      (λ i h.
      (let h' : i < index_len k = (rw length-table at h) in
      let u : get_or r i 0 ≡ i = get_or-table (λ (i : ℕ). i) 0 0 (index_len k) i h' ∙ zero-add i in
      let o = or-false _ _ (c.index i h') in
      let t : ℕ = i * index_step k in
      let X : ℕ = 40 + n + 12 * k + 16 * i in
      let e₁ : get_or ss t 0 ≡ get 8 b X = slot_at t (index-inside k i h') ∙ sym (not_eqb _ _ o.0) in
      let e₂ : t ≡ get 8 b (X + 8) = sym (not_eqb _ _ o.1) in
      ap (take 16) (drop-drop (16 * i) (40 + n + 12 * k) b)
      ∙ sym
      (ap (index_entry ss (index_step k)) u
      ∙ ap₂ (λ (x y : ℕ). le 8 x ++ le 8 y) e₁ e₂
      ∙ two-numbers 8 8 X b bytes (omega (arith, inside)))))
      ∙ ap (λ (x : ℕ). take (16 * x) (drop (40 + n + 12 * k) b)) (length-table (λ (i : ℕ). i) 0 (index_len k)))

  -- ---- the whole

  pub checked-file : length b ≡ file_len n k → file n (value_of (file_parts b n k)) ≡ b
  unfolding file
  checked-file long =
      let C : ℕ = 40 + n + 12 * k in
      let last : take (16 * index_len k) (drop C b) ≡ drop C b =
      take_all (16 * index_len k) (drop C b) (simp length-drop (omega (arith, long, file_len-is n k))) in
      let j : List ℕ → List ℕ → List ℕ = λ x y. x ++ y in
      rw checked-count
      (ap₂ j header-part (ap₂ j primary-part (ap₂ j overflow-part (index-part ∙ last))) ∙ four-parts n k b)
