-- What a repair keeps: the last kept entry, the distance of each slot, and all of it where the parts are sound.
--   lowest_kept-none, -last    the least slot that an entry may have, by the last entry that is kept before it
--   kept-rise                 the slots of the kept entries rise
--   MayStay P j, kept-iff     an entry is kept exactly where it is right beside those kept before it
--   value-inline, -kept, _set, -free    the distance of a slot: its byte, that of its kept entry, or 254
--   right-all                 where every entry is right, every entry is kept
--   sound-set, sound-value    where the parts are sound, no byte is set, and each distance stays
--   kept-bytes                the bytes of the kept entries are those that stood in the file
--   kept-slots                the slots in overflow of the rebuilt file are those of the kept entries
-- Axioms: none.
use mathlib.Core.Path.{◌≡◌, refl, sym, ap, subst, ◌∙◌}
use mathlib.Core.Logic.{◌↔◌}
use Prim.Native.Nat.{ℕ, zero, suc, ◌+◌, ◌*◌, ◌≤◌, ◌<◌}
use native.Mathlib.Nat.{zero-add}
use native.Mathlib.Omega.{arith}
use native.Mathlib.Decide.{dec_le}
use mathlib.Core.Bool.{true, false, not}
use mathlib.Core.List.{List, ◌∷◌, ◌++◌, map}
use lib.ListN.{length, take, drop}
use lib.Seq.{ext_get_or}
use borrow.Author.Tests.{eq-eqb}
use Rattle.pciv_bytes.specs.Ranges.{table, positions, joined}
use Rattle.pciv_bytes.specs.LittleEndian.{le, Bytes}
use Rattle.pciv_bytes.proofs.RangesLaws.{length-table, get_or-table}
use Rattle.pciv_bytes.proofs.JoinedLaws.{joined-cong}
use Rattle.pciv_format.specs.Layout.{overflow_slots, at}
use Rattle.pciv_format.specs.Parts.{Parts, lowest_slot, bad_entry, value_of, EntriesRight, SoundParts}
use Rattle.pciv_format.specs.Check.{file_parts}
use Rattle.pciv_format.proofs.PartsLaws.{wrong_entry-right, value_of-slot, value_of-inline, slot_cases, slot-entry}
use Rattle.pciv_format.proofs.CheckedFileLaws.{two-numbers}
use Rattle.pciv_close.specs.Close.{entries_from}
use Rattle.pciv_repair_file.specs.Repaired.{lowest_kept, is_kept, kept_entries, is_set, repaired_parts, kept_bytes}
use Rattle.pciv_repair_file.specs.Repaired.{repaired_at}
use Rattle.pciv_repair_file.proofs.KeptLaws.{kept_entry, dropped-next, step-cases, kept-below, kept_at, kept-number}
use Rattle.pciv_repair_file.proofs.KeptLaws.{is_set-inline, is_set-kept, is_set-free, set-byte, kept_byte}
use Rattle.pciv_repair_file.proofs.KeptLaws.{repaired-sound}
use Rattle.pciv_repair_file.proofs.RepairedLaws.{repaired-slots}

module _ (P : Parts) where
  -- ---- against the last one kept

  -- no entry before entry j is kept: any slot may come
  pub lowest_kept-none : (j : ℕ) → ((t : ℕ) → t < j → is_kept P t ≡ false) → lowest_kept P j ≡ 0
  unfolding lowest_kept
  lowest_kept-none zero none = refl
  lowest_kept-none (suc j) none =
      dropped-next P j (none j (omega arith)) ∙ lowest_kept-none j (λ t h. none t (omega arith))

  -- entry t is the last one before entry j that is kept: the slot has to be above its own
  pub lowest_kept-last : (t j : ℕ) → t < j → is_kept P t ≡ true → ((u : ℕ) → t < u → u < j → is_kept P u ≡ false)
      → lowest_kept P j ≡ P.slot t + 1
  lowest_kept-last t zero before kept none = absurd (omega arith)
  lowest_kept-last t (suc j) before kept none =
      elim (dec_le j t) [
        | yes d ↦ (let e : j ≡ t = omega arith in ap (λ (u : ℕ). lowest_kept P (suc u)) e ∙ (kept_entry P t kept).next)
        | no d ↦ dropped-next P j (none j (omega arith) (omega arith))
            ∙ lowest_kept-last t j (omega arith) kept (λ u h₁ h₂. none u h₁ (omega arith))
      ]

  pub kept-rise : (j t : ℕ) → j < t → is_kept P j ≡ true → is_kept P t ≡ true → P.slot j < P.slot t
  kept-rise j t h kept kept' = omega (arith, kept-below P j t kept h, (kept_entry P t kept').right.above)

  -- what an entry has to be: inside, above all that are kept before it, in overflow, and marked
  abbrev pub MayStay : ℕ → Type 0
  MayStay j =
      (P.slot j < P.n)
      × ((t : ℕ) → t < j → is_kept P t ≡ true → P.slot t < P.slot j)
      × (255 ≤ P.distance j)
      × (P.byte (P.slot j) ≡ 255)

  -- above all kept entries is above the last of them
  lowest-below : (j x : ℕ) → ((t : ℕ) → t < j → is_kept P t ≡ true → P.slot t < x) → lowest_kept P j ≤ x
  unfolding lowest_kept
  lowest-below zero x above = omega arith
  lowest-below (suc j) x above =
      step-cases P j (λ e k. omega (arith, k.next, above j (omega arith) e))
      (λ e q. omega (arith, q, lowest-below j x (λ t h. above t (omega arith))))

  pub kept-iff : (j : ℕ) → (is_kept P j ≡ true) ↔ MayStay j
  unfolding is_kept
  kept-iff j = (
    λ e. (let g = (kept_entry P j e).right in
        (g.inside, λ t h kept. kept-rise t j h kept e, g.overflows, g.marked)),
    λ m. ap not
        (wrong_entry-right P.n P.byte (lowest_kept P j) (P.slot j) (P.distance j)
        (record { inside = m.0; above = lowest-below j (P.slot j) m.1; overflows = m.2; marked = m.3 })),
  )

  -- ---- the distance of each slot

  pub value-inline : (i : ℕ) → P.byte i < 255 → value_of (repaired_parts P) i ≡ P.byte i
  value-inline i inline =
      let e = kept_byte P i (is_set-inline P i (λ q. omega arith)) in
      value_of-inline (repaired_parts P) (repaired-sound P) i (omega (arith, e)) ∙ e

  pub value-kept : (j : ℕ) → j < P.k → is_kept P j ≡ true → value_of (repaired_parts P) (P.slot j) ≡ P.distance j
  value-kept j h kept =
      let q = kept-number P j h kept in
      subst (λ (t : ℕ). value_of (repaired_parts P) (P.slot t) ≡ P.distance t) q.1
      (value_of-slot (repaired_parts P) (repaired-sound P) (length (positions (is_kept P) 0 j)) q.0)

  pub value_set : (i : ℕ) → is_set P i ≡ true → value_of (repaired_parts P) i ≡ 254
  value_set i set =
      let e = set-byte P i set in
      value_of-inline (repaired_parts P) (repaired-sound P) i (omega (arith, e)) ∙ e

  -- a byte 255 without a kept entry
  pub value-free : (i : ℕ) → P.byte i ≡ 255 → ((j : ℕ) → j < P.k → is_kept P j ≡ true → P.slot j ≡ i → ⊥)
      → value_of (repaired_parts P) i ≡ 254
  value-free i full none = value_set i (is_set-free P i none ∙ eq-eqb (P.byte i) 255 full)

  -- ---- where every entry is right

  right_kept : EntriesRight P → (j : ℕ) → j < P.k → lowest_kept P j ≡ lowest_slot P j → is_kept P j ≡ true
  unfolding is_kept bad_entry
  right_kept right j h e = rw e (ap not (right j h))

  right-lowest : EntriesRight P → (j : ℕ) → j ≤ P.k → lowest_kept P j ≡ lowest_slot P j
  unfolding lowest_kept
  right-lowest right zero h = refl
  right-lowest right (suc j) h = (kept_entry P j (right_kept right j h (right-lowest right j (omega arith)))).next

  pub right-all : EntriesRight P → (j : ℕ) → j < P.k → is_kept P j ≡ true
  right-all right j h = right_kept right j h (right-lowest right j (omega arith))

  -- ---- where the parts are sound

  module _ (sound : SoundParts P) (bytes : (i : ℕ) → P.byte i < 256) where
    pub sound-set : (i : ℕ) → i < P.n → is_set P i ≡ false
    sound-set i h =
        elim (dec_le 255 (P.byte i)) [
          | yes d ↦ (let q = slot-entry P sound i h (omega (arith, bytes i)) in
              ap (is_set P) (sym q.2) ∙ is_set-kept P q.0 q.1 (right-all sound.entries q.0 q.1))
          | no d ↦ is_set-inline P i (λ q. omega arith)
        ]

    pub sound-value : (i : ℕ) → i < P.n → value_of (repaired_parts P) i ≡ value_of P i
    sound-value i h =
        slot_cases P sound bytes i h (λ inline e. value-inline i inline ∙ sym e)
        (λ j hj at full e overflows.
        ap (value_of (repaired_parts P)) (sym at) ∙ value-kept j hj (right-all sound.entries j hj) ∙ sym e)

-- ---- the bytes of the kept entries

joined-table : (g : ℕ → List ℕ) (f : ℕ → ℕ) (i c : ℕ)
    → joined (λ (j : ℕ). g (f j)) (table (λ (j : ℕ). j) i c) ≡ joined g (table f i c)
unfolding joined table
joined-table g f i zero = refl
joined-table g f i (suc c) = ap (λ (l : List ℕ). g (f i) ++ l) (joined-table g f (suc i) c)

table_at : (l : List ℕ) → table (at l) 0 (length l) ≡ l
table_at l =
    ext_get_or 0 (table (at l) 0 (length l)) l (length-table (at l) 0 (length l))
    (λ i h.
    get_or-table (at l) 0 0 (length l) i (omega (arith, length-table (at l) 0 (length l))) ∙ ap (at l) (zero-add i))

pub kept-bytes : (b : List ℕ) (n k : ℕ) → Bytes b → 40 + n + 12 * k ≤ length b
    → kept_bytes (file_parts b n k)
    ≡ joined (λ (j : ℕ). take 12 (drop (40 + n + 12 * j) b)) (kept_entries (file_parts b n k))
unfolding kept_bytes entries_from
kept-bytes b n k bytes inside =
    let P = file_parts b n k in
    let kept : List ℕ = kept_entries P in
    let written : ℕ → List ℕ = λ j. le 8 (P.slot j) ++ le 4 (P.distance j) in
    joined-table written (at kept) 0 (length kept)
    ∙ ap (joined written) (table_at kept)
    ∙ joined-cong written (λ (j : ℕ). take 12 (drop (40 + n + 12 * j) b)) kept
    (λ c h. two-numbers 8 4 (40 + n + 12 * at kept c) b bytes (omega (arith, inside, (kept_at P c h).0)))

-- ---- the slots of the kept entries

map-table : (g f : ℕ → ℕ) (i c : ℕ) → table (λ (j : ℕ). g (f j)) i c ≡ map g (table f i c)
unfolding table
map-table g f i zero = refl
map-table g f i (suc c) = ap (λ (l : List ℕ). g (f i) ∷ l) (map-table g f (suc i) c)

pub kept-slots : (b : List ℕ) (n k : ℕ) → Bytes b
    → overflow_slots n (repaired_at b n k) ≡ map (file_parts b n k).slot (kept_entries (file_parts b n k))
kept-slots b n k bytes =
    let P = file_parts b n k in
    let kept : List ℕ = kept_entries P in
    repaired-slots b n k bytes
    ∙ map-table P.slot (at kept) 0 (length kept)
    ∙ ap (map P.slot) (table_at kept)
