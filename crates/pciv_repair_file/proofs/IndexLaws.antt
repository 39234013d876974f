-- The bytes behind the given entries, compared with the sparse index of the kept ones, index entry by index entry.
--   kept_small            the kept entries are few enough
--   length-after, length-rebuilt    how many bytes there are, and the length of that index
--   RightIndex            index entry i there is that of the kept entries
--   index_same, _read     where all are so, the bytes are the index, and back
--   index-space           where an index entry lies
--   index-other, -wrong   where the lengths differ, or an entry is another one, they are not
--   Comparing             a walk over the entries that has compared the index entries below i
--   comparing-start, -skip, -pass, -take    before the first entry; past one that is dropped, is kept and has no
--                         index entry, or has a right one
--   comparing-slot, -right, -wrong    the slot that an index entry should have, and what its two numbers say
--   comparing-inside, -small, -end    an entry is left while an index entry is; all are compared
-- Axioms: none.
use mathlib.Core.Path.{◌≡◌, refl, sym, ap, ap₂, subst, ◌∙◌}
use Prim.Native.Nat.{ℕ, suc, ◌+◌, ◌-◌, ◌*◌, ◌≤◌, ◌<◌}
use native.Mathlib.Nat.{zero-add, suc-mul}
use native.Mathlib.Numerals.{add-one}
use native.Mathlib.Omega.{arith}
use native.Mathlib.Decide.{dec_le}
use mathlib.Core.Bool.{Bool, true, false}
use mathlib.Core.List.{List, [], ◌++◌, append_assoc, append-nil}
use lib.ListN.{length, get_or, take, drop, length-drop}
use lib.Seq.{drop-drop, drop_at, take_all}
use Rattle.pciv_bytes.specs.Ranges.{table, joined}
use Rattle.pciv_bytes.specs.LittleEndian.{le, get, Bytes}
use Rattle.pciv_bytes.proofs.RangesLaws.{length-table, get_or-table}
use Rattle.pciv_bytes.proofs.JoinedLaws.{joined_is, joined-piece}
use Rattle.pciv_bytes.proofs.LittleEndianLaws.{length-le, get_at, get-lt}
use Rattle.pciv_format.specs.Layout.{max_slots, at, overflow_slots, overflow_count, index_step, index_len, index_entry, index_part}
use Rattle.pciv_format.specs.Parts.{Parts}
use Rattle.pciv_format.specs.Check.{file_parts}
use Rattle.pciv_format.proofs.LayoutLaws.{index-inside, index_len-zero, index_len-le, index_step-le, length-index_entry}
use Rattle.pciv_format.proofs.LayoutLaws.{length-index_part}
use Rattle.pciv_format.proofs.CheckedFileLaws.{two-numbers}
use Rattle.pciv_repair_file.specs.Repaired.{lowest_after, kept_entries, kept_parts, repaired_at, bytes_after}
use Rattle.pciv_repair_file.specs.Repaired.{rebuilt_index, same, PartsGiven}
use Rattle.pciv_repair_file.proofs.KeptLaws.{kept-number}
use Rattle.pciv_repair_file.proofs.WalkLaws.{Judged, judged-start, judged-more, judged-entry, judged-dropped}
use Rattle.pciv_repair_file.proofs.WalkLaws.{kept_count, kept_count-none, kept_count-kept, kept_count-dropped}
use Rattle.pciv_repair_file.proofs.WalkLaws.{kept_count-le, kept_count-all}
use Rattle.pciv_repair_file.proofs.RepairedLaws.{repaired-slots, repaired-count}
use Rattle.pciv_repair_file.proofs.SameLaws.{same_true, same_refl}

same_false : (xs ys : List ℕ) → (xs ≡ ys → ⊥) → same xs ys ≡ false
same_false xs ys other = go (same xs ys) refl
  where
    go : (t : Bool) → same xs ys ≡ t → same xs ys ≡ false
    go true e = absurd (other (same_true xs ys e))
    go false e = e

-- ---- one index entry, and a walk over the entries

pub record RightIndex (b : List ℕ) (n k i : ℕ) : Type 0 where
  pub slot_is : get 8 b (40 + n + 12 * k + 16 * i)
      ≡ (kept_parts (file_parts b n k)).slot (i * index_step (length (kept_entries (file_parts b n k))))
  pub number_is : get 8 b (40 + n + 12 * k + 16 * i + 8) ≡ i * index_step (length (kept_entries (file_parts b n k)))

pub record Comparing (b : List ℕ) (n k i entry lowest j : ℕ) : Type 0 where
  pub judged : Judged (file_parts b n k) j lowest
  pub count : entry ≡ kept_count (file_parts b n k) j
  pub low : entry ≤ i * index_step (length (kept_entries (file_parts b n k)))
  pub right : (t : ℕ) → t < i → RightIndex b n k t

module _ (b : List ℕ) (n k : ℕ) (bytes : Bytes b) (given : PartsGiven b n k) where
  abbrev parts : Parts
  parts = file_parts b n k

  abbrev kept : ℕ
  kept = length (kept_entries (file_parts b n k))

  abbrev slots : List ℕ
  slots = overflow_slots n (repaired_at b n k)

  abbrev behind : ℕ
  behind = 40 + n + 12 * k

  pub kept_small : length (kept_entries (file_parts b n k)) ≤ max_slots
  kept_small = omega (arith, kept_count-all parts, kept_count-le parts k, given.few, given.small)

  pub length-after : length (bytes_after b n k) ≡ length b - (40 + n + 12 * k)
  length-after = simp length-drop refl

  slots-count : length slots ≡ kept
  unfolding overflow_count
  slots-count = repaired-count b n k bytes

  kept_slot : (c : ℕ) → c < kept → get_or slots c 0 ≡ (kept_parts parts).slot c
  kept_slot c h =
      ap (λ (l : List ℕ). get_or l c 0) (repaired-slots b n k bytes)
      ∙ get_or-table (kept_parts parts).slot 0 0 kept c h
      ∙ ap (kept_parts parts).slot (zero-add c)

  pub length-rebuilt : length (rebuilt_index b n k) ≡ 16 * index_len (length (kept_entries (file_parts b n k)))
  length-rebuilt = length-index_part slots ∙ ap (λ (x : ℕ). 16 * index_len x) slots-count

  numbers : List ℕ
  numbers = table (λ (i : ℕ). i) 0 (index_len kept)

  rebuilt-is : rebuilt_index b n k ≡ joined (index_entry slots (index_step kept)) numbers
  unfolding index_part numbers
  rebuilt-is = rw slots-count

  number_at : (i : ℕ) → i < index_len kept → get_or numbers i 0 ≡ i
  unfolding numbers
  number_at i h = get_or-table (λ (i : ℕ). i) 0 0 (index_len kept) i h ∙ zero-add i

  numbers-count : length numbers ≡ index_len kept
  unfolding numbers
  numbers-count = length-table (λ (i : ℕ). i) 0 (index_len kept)

  pub index_same : length (bytes_after b n k) ≡ 16 * index_len (length (kept_entries (file_parts b n k)))
      → ((i : ℕ) → i < index_len (length (kept_entries (file_parts b n k))) → RightIndex b n k i)
      → same (bytes_after b n k) (rebuilt_index b n k) ≡ true
  unfolding index_entry
  index_same long right =
      let rest : List ℕ = bytes_after b n k in
      let size : length rest + behind ≡ length b = simp length-drop (omega (arith, given.inside)) in
      same_refl rest (rebuilt_index b n k)
      (sym
      (rebuilt-is
      ∙ joined_is (index_entry slots (index_step kept)) 16 (length-index_entry slots (index_step kept)) numbers rest
      (λ i h.
      (let l : i < index_len kept = omega (arith, h, numbers-count) in
      let r : RightIndex b n k i = right i l in
      let X : ℕ = behind + 16 * i in
      ap (take 16) (drop-drop (16 * i) behind b)
      ∙ sym
      (ap (index_entry slots (index_step kept)) (number_at i l)
      ∙ ap₂ (λ (x y : ℕ). le 8 x ++ le 8 y) (kept_slot (i * index_step kept) (index-inside kept i l) ∙ sym r.slot_is)
      (sym r.number_is)
      ∙ two-numbers 8 8 X b bytes (omega (arith, size, long)))))
      ∙ take_all (16 * length numbers) rest (omega (arith, long, numbers-count))))

  pub index_read : bytes_after b n k ≡ rebuilt_index b n k → (i : ℕ)
      → i < index_len (length (kept_entries (file_parts b n k))) → RightIndex b n k i
  unfolding index_entry
  index_read is i h =
      let t : ℕ = i * index_step kept in
      let lt : t < kept = index-inside kept i h in
      let s : ℕ = (kept_parts parts).slot t in
      let X : ℕ = behind + 16 * i in
      let more : List ℕ = joined (index_entry slots (index_step kept)) (drop (suc i) numbers) ++ [] in
      let piece : drop X b ≡ le 8 s ++ (le 8 t ++ more) =
      sym (drop-drop (16 * i) behind b)
      ∙ ap (drop (16 * i)) (is ∙ rebuilt-is ∙ sym (append-nil _))
      ∙ joined-piece (index_entry slots (index_step kept)) 16 (length-index_entry slots (index_step kept)) numbers [] i
      (omega (arith, h, numbers-count))
      ∙ ap (λ (l : List ℕ). l ++ more)
      (ap (index_entry slots (index_step kept)) (number_at i h)
      ∙ ap (λ (x : ℕ). le 8 x ++ le 8 t) (kept_slot t lt))
      ∙ append_assoc (le 8 s) (le 8 t) more in
      record {
        slot_is = get_at 8 b X s (le 8 t ++ more) piece (get-lt 8 b _ bytes);
        number_is = get_at 8 b (X + 8) t more
            (sym (drop-drop 8 X b) ∙ ap (drop 8) piece ∙ drop_at (le 8 s) (le 8 t ++ more) 8 (length-le 8 s))
            (omega (arith, lt, kept_small));
      }

  -- an index entry lies within the bytes, and its place is a small number
  pub index-space : length (bytes_after b n k) ≡ 16 * index_len (length (kept_entries (file_parts b n k))) → (i : ℕ)
      → i < index_len (length (kept_entries (file_parts b n k)))
      → (40 + n + 12 * k + 16 * i + 16 ≤ length b) × (i < 2 * max_slots)
  index-space long i h =
      let size : length (bytes_after b n k) + behind ≡ length b = simp length-drop (omega (arith, given.inside)) in
      (omega (arith, size, long), omega (arith, index_len-le kept, index_step-le kept, kept_small))

  pub index-other : (length (bytes_after b n k) ≡ 16 * index_len (length (kept_entries (file_parts b n k))) → ⊥)
      → same (bytes_after b n k) (rebuilt_index b n k) ≡ false
  index-other other = same_false _ _ (λ q. other (ap length q ∙ length-rebuilt))

  pub index-wrong : (i : ℕ) → i < index_len (length (kept_entries (file_parts b n k))) → (RightIndex b n k i → ⊥)
      → same (bytes_after b n k) (rebuilt_index b n k) ≡ false
  index-wrong i h wrong = same_false _ _ (λ q. wrong (index_read q i h))

  -- ---- a walk over the entries

  pub comparing-start : Comparing b n k 0 0 0 0
  comparing-start =
      record {
        judged = judged-start parts;
        count = sym (kept_count-none parts);
        low = omega arith;
        right = λ t h. absurd (omega arith);
      }

  module _ (i entry lowest j : ℕ) (e : Comparing b n k i entry lowest j) where
    pub comparing-end : length (bytes_after b n k) ≡ 16 * index_len (length (kept_entries (file_parts b n k)))
        → index_len (length (kept_entries (file_parts b n k))) ≤ i → same (bytes_after b n k) (rebuilt_index b n k) ≡ true
    comparing-end long end = index_same long (λ t h. e.right t (omega arith))

    module _ (more : i < index_len (length (kept_entries (file_parts b n k)))) where
      pub comparing-small : i * index_step (length (kept_entries (file_parts b n k))) < length (kept_entries (file_parts b n k))
      comparing-small = index-inside kept i more

      pub comparing-inside : j < k
      comparing-inside =
          elim (dec_le k j) [
            | yes d ↦ (let end : j ≡ k = omega (arith, e.judged.inside) in
                absurd (omega (arith, comparing-small, e.low, e.count, ap (kept_count parts) end, kept_count-all parts)))
            | no d ↦ omega arith
          ]

      step-pos : 0 < index_step kept
      step-pos =
          elim (dec_le (index_step kept) 0) [
            | yes d ↦ (let z : index_step kept ≡ 0 = omega arith in absurd (omega (arith, more, index_len-zero kept z)))
            | no d ↦ omega arith
          ]

      module _ (next : ℕ) (is : next ≡ lowest_after (file_parts b n k) lowest j) where
        pub comparing-skip : next ≤ lowest → Comparing b n k i entry next (j + 1)
        comparing-skip h =
            record {
              judged = judged-more e.judged next is comparing-inside;
              count = e.count ∙ sym (kept_count-dropped parts j (judged-dropped e.judged next is h));
              low = e.low;
              right = e.right;
            }

        module _ (h : lowest < next) where
          counted : entry + 1 ≡ kept_count parts (j + 1)
          counted = omega (arith, e.count, kept_count-kept parts j (judged-entry e.judged next is h).0)

          -- the slot of the kept entry, which is number `entry` of them
          pub comparing-slot : next - 1 ≡ (kept_parts (file_parts b n k)).slot entry
          comparing-slot =
              let q = judged-entry e.judged next is h in
              let number = (kept-number parts j comparing-inside q.0).1 in
              omega (arith, q.2, ap parts.slot (sym (ap (at (kept_entries parts)) e.count ∙ number)))

          pub comparing-pass : (entry ≡ i * index_step (length (kept_entries (file_parts b n k))) → ⊥)
              → Comparing b n k i (entry + 1) next (j + 1)
          comparing-pass other =
              record {
                judged = judged-more e.judged next is comparing-inside;
                count = counted;
                low = omega (arith, e.low, other);
                right = e.right;
              }

          pub comparing-take : entry ≡ i * index_step (length (kept_entries (file_parts b n k))) → RightIndex b n k i
              → Comparing b n k (i + 1) (entry + 1) next (j + 1)
          comparing-take here r =
              let step : suc i * index_step kept ≡ i * index_step kept + index_step kept = suc-mul i (index_step kept) in
              record {
                judged = judged-more e.judged next is comparing-inside;
                count = counted;
                low = rw (add-one i) (omega (arith, step, here, step-pos));
                right = λ t l.
                    elim (dec_le i t) [
                      | yes d ↦ (let z : i ≡ t = omega arith in subst (RightIndex b n k) z r)
                      | no d ↦ e.right t (omega arith)
                    ];
              }

          -- what the two numbers of an index entry say
          pub comparing-right : entry ≡ i * index_step (length (kept_entries (file_parts b n k)))
              → get 8 b (40 + n + 12 * k + 16 * i) ≡ next - 1 → get 8 b (40 + n + 12 * k + 16 * i + 8) ≡ entry
              → RightIndex b n k i
          comparing-right here slot number =
              record { slot_is = slot ∙ comparing-slot ∙ ap (kept_parts parts).slot here; number_is = number ∙ here }

          pub comparing-wrong : entry ≡ i * index_step (length (kept_entries (file_parts b n k)))
              → (get 8 b (40 + n + 12 * k + 16 * i) ≡ next - 1 → get 8 b (40 + n + 12 * k + 16 * i + 8) ≡ entry → ⊥)
              → same (bytes_after b n k) (rebuilt_index b n k) ≡ false
          comparing-wrong here wrong =
              index-wrong i more
              (λ r. wrong (r.slot_is ∙ sym (comparing-slot ∙ ap (kept_parts parts).slot here)) (r.number_is ∙ sym here))
