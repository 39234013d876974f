-- The primary bytes, lowered to 254 at most and then marked with 255 slot by slot.
--   lowered P lowest i       the byte of slot i: final below `lowest`, lowered from there on
--   lowered-start, -more, -end    before the first entry; past a kept one; past all
--   sets-stands              what was written stands there
--   lowered-part, primary-copy    the bytes of a file, lowered; as they stand, where none is set
-- Axioms: none.
use mathlib.Core.Path.{◌≡◌, refl, sym, ap, ◌∙◌}
use Prim.Native.Nat.{ℕ, ◌+◌, min, ◌≤◌, ◌<◌}
use native.Mathlib.Nat.{zero-add}
use native.Mathlib.Omega.{arith}
use native.Mathlib.Decide.{dec_le}
use mathlib.Core.Bool.{Bool, true, false, cond}
use mathlib.Core.List.{List}
use lib.ListN.{length, get_or, set, length-set}
use lib.Seq.{sets, get_or-set_same, get_or-set_other, ext_get_or}
use lib.Dec.{ltb, eqb}
use borrow.Author.Tests.{lt-ltb, le-ltb, eqb-true, eqb-false}
use Rattle.pciv_bytes.specs.Ranges.{table}
use Rattle.pciv_bytes.specs.LittleEndian.{Bytes}
use Rattle.pciv_bytes.proofs.RangesLaws.{length-table, get_or-table, table-cong}
use Rattle.pciv_bytes.proofs.WriteLaws.{set-sets, sets_over}
use Rattle.pciv_passes.specs.Pairs.{one_at}
use Rattle.pciv_passes.specs.declared.pairs.ByteOp.TheVariants.{Min}
use Rattle.pciv_format.specs.Parts.{Parts}
use Rattle.pciv_format.specs.Check.{file_parts}
use Rattle.pciv_format.proofs.FullCountLaws.{count-complete}
use Rattle.pciv_check_parts.proofs.PrimaryPartLaws.{part, length_part, part_at}
use Rattle.pciv_repair_file.specs.Repaired.{lowest_kept, is_kept, kept_entries, kept_parts, is_set, repaired_parts}
use Rattle.pciv_repair_file.specs.Repaired.{full_count}
use Rattle.pciv_repair_file.proofs.KeptLaws.{KeptEntry, kept_entry, free-between, free-past, is_set-free, is_set-kept}
use Rattle.pciv_repair_file.proofs.KeptLaws.{is_set-is, set-byte, kept_byte, kept-right}
use Rattle.pciv_repair_file.proofs.WalkLaws.{Judged, full_count-is}

abbrev pub lowered : Parts → ℕ → ℕ → ℕ
lowered P lowest i = cond (ltb i lowest) ((repaired_parts P).byte i) (min (P.byte i) 254)

-- an element set in a table
set-table : (f g : ℕ → ℕ) (n s x : ℕ) → s < n → g s ≡ x → ((i : ℕ) → i < n → (i ≡ s → ⊥) → f i ≡ g i)
    → set (table f 0 n) s x ≡ table g 0 n
set-table f g n s x inside here other =
    let long : length (table f 0 n) ≡ n = length-table f 0 n in
    let size : length (set (table f 0 n) s x) ≡ n = length-set (table f 0 n) s x ∙ long in
    let at : (h : ℕ → ℕ) (i : ℕ) → i < n → get_or (table h 0 n) i 0 ≡ h i =
    λ h i l. get_or-table h 0 0 n i l ∙ ap h (zero-add i) in
    ext_get_or 0 (set (table f 0 n) s x) (table g 0 n) (size ∙ sym (length-table g 0 n))
    (λ i h.
    (let l : i < n = omega (arith, size) in
    elim (dec_le i s) [
      | yes d ↦
          elim (dec_le s i) [
            | yes d' ↦ (let z : i ≡ s = omega arith in
                ap (λ (j : ℕ). get_or (set (table f 0 n) s x) j 0) z
                ∙ get_or-set_same (table f 0 n) s x 0 (omega arith)
                ∙ sym (at g i l ∙ ap g z ∙ here))
            | no d' ↦ beside i l (λ q. omega arith)
          ]
      | no d ↦ beside i l (λ q. omega arith)
    ]))
  where
    beside : (i : ℕ) → i < n → (i ≡ s → ⊥) → get_or (set (table f 0 n) s x) i 0 ≡ get_or (table g 0 n) i 0
    beside i l apart =
        get_or-set_other (table f 0 n) s i x 0 apart
        ∙ get_or-table f 0 0 n i l
        ∙ ap f (zero-add i)
        ∙ other i l apart
        ∙ sym (get_or-table g 0 0 n i l ∙ ap g (zero-add i))

module _ (P : Parts) (bytes : (i : ℕ) → P.byte i < 256) where
  -- no kept entry has slot i
  free : (i : ℕ) → ((j : ℕ) → j < P.k → is_kept P j ≡ true → P.slot j ≡ i → ⊥)
      → min (P.byte i) 254 ≡ (repaired_parts P).byte i
  free i none = go (eqb (P.byte i) 255) refl
    where
      go : (b : Bool) → eqb (P.byte i) 255 ≡ b → min (P.byte i) 254 ≡ (repaired_parts P).byte i
      go true e =
          omega (arith, eqb-true (P.byte i) 255 e, set-byte P i (is_set-free P i none ∙ e))
      go false e =
          omega (arith, eqb-false (P.byte i) 255 e, bytes i, kept_byte P i (is_set-free P i none ∙ e))

  lowered-below : (lowest i : ℕ) → i < lowest → lowered P lowest i ≡ (repaired_parts P).byte i
  lowered-below lowest i h = rw (lt-ltb i lowest h)

  lowered-from : (lowest i : ℕ) → lowest ≤ i → lowered P lowest i ≡ min (P.byte i) 254
  lowered-from lowest i h = rw (le-ltb i lowest h)

  pub lowered-start : (n : ℕ) → table (λ (i : ℕ). min (P.byte i) 254) 0 n ≡ table (lowered P 0) 0 n
  lowered-start n = table-cong _ _ 0 n (λ i h. sym (lowered-from 0 i (omega arith)))

  module _ (j lowest : ℕ) (e : Judged P j lowest) where
    -- past a kept entry, whose slot is marked
    pub lowered-more : is_kept P j ≡ true → j < P.k → (next : ℕ) → next ≡ P.slot j + 1 → (d : List ℕ)
        → 40 + P.n ≤ length d
        → set (sets d 40 (table (lowered P lowest) 0 P.n)) (40 + P.slot j) 255
        ≡ sets d 40 (table (lowered P next) 0 P.n)
    lowered-more kept inside next is d space =
        let s : ℕ = P.slot j in
        let k : KeptEntry P j = kept_entry P j kept in
        let long : length (table (lowered P lowest) 0 P.n) ≡ P.n = length-table (lowered P lowest) 0 P.n in
        set-sets d (table (lowered P lowest) 0 P.n) 40 s 255 (omega (arith, long))
        (omega (arith, long, k.right.inside))
        ∙ ap (sets d 40)
        (set-table (lowered P lowest) (lowered P next) P.n s 255 k.right.inside
        (lowered-below next s (omega arith) ∙ kept_byte P s (is_set-kept P j inside kept) ∙ k.right.marked)
        (λ i h apart.
        elim (dec_le lowest i) [
          | yes low ↦
              elim (dec_le i s) [
                | yes d ↦
                    lowered-from lowest i low
                    ∙ free i (λ t ht. free-between P j i (omega (arith, e.lowest_is)) (omega (arith, k.next, apart)) t)
                    ∙ sym (lowered-below next i (omega arith))
                | no d ↦ lowered-from lowest i low ∙ sym (lowered-from next i (omega arith))
              ]
          | no high ↦ lowered-below lowest i (omega arith)
              ∙ sym (lowered-below next i (omega (arith, e.lowest_is, k.right.above)))
        ]))

    pub lowered-end : j ≡ P.k → table (lowered P lowest) 0 P.n ≡ table (repaired_parts P).byte 0 P.n
    lowered-end end =
        table-cong _ _ 0 P.n
        (λ i h.
        elim (dec_le lowest i) [
          | yes low ↦ lowered-from lowest i low
              ∙ free i (free-past P i (omega (arith, e.lowest_is, ap (lowest_kept P) end)))
          | no high ↦ lowered-below lowest i (omega arith)
        ])

-- what was written stands there
pub sets-stands : (d d' t : List ℕ) (i : ℕ) → d' ≡ sets d i t → d' ≡ sets d' i t
sets-stands d d' t i e = e ∙ sym (sets_over t t d i (omega arith)) ∙ ap (λ (l : List ℕ). sets l i t) (sym e)

-- ---- the primary part of b, as a slice

module _ (b : List ℕ) (n k : ℕ) (bytes : Bytes b) (inside : 40 + n ≤ length b) where
  abbrev parts : Parts
  parts = file_parts b n k

  each-byte : (i : ℕ) → parts.byte i < 256
  each-byte i = bytes (40 + i)

  -- lowered, before the first entry
  pub lowered-part : table (one_at Min (part b n) 254) 0 (length (part b n)) ≡ table (lowered (file_parts b n k) 0) 0 n
  lowered-part =
      rw (length_part b n k inside)
      (table-cong (one_at Min (part b n) 254) (λ (i : ℕ). min (parts.byte i) 254) 0 n
      (λ i h. ap (λ (x : ℕ). min x 254) (part_at b n k inside i (omega arith)))
      ∙ lowered-start parts each-byte n)

  -- as it stands, where as many bytes are 255 as entries are kept
  pub primary-copy : full_count b n ≡ length (kept_entries (file_parts b n k))
      → part b n ≡ table (repaired_parts (file_parts b n k)).byte 0 n
  primary-copy same =
      let none : (i : ℕ) → i < n → is_set parts i ≡ false =
      λ i h. is_set-is parts i
      ∙ count-complete (kept_parts parts) (kept-right parts) (sym (full_count-is b n k) ∙ same) i h in
      let long : length (part b n) ≡ n = length_part b n k inside in
      ext_get_or 0 (part b n) (table (repaired_parts parts).byte 0 n)
      (long ∙ sym (length-table (repaired_parts parts).byte 0 n))
      (λ i h.
      (let l : i < n = omega (arith, long) in
      part_at b n k inside i l
      ∙ sym (get_or-table (repaired_parts parts).byte 0 0 n i l ∙ ap (repaired_parts parts).byte (zero-add i)
      ∙ kept_byte parts i (none i l))))
