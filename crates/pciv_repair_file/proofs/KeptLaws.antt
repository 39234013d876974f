-- The entries that a repair keeps, and the bytes that it sets.
--   lowest_kept-next         the least slot that the entry after entry j may have
--   KeptEntry P j, kept_entry, dropped-next    what is known of an entry that is kept, and of one that is not
--   step-cases              an entry is one or the other
--   is_kept-next             an entry is kept where that least slot goes up
--   lowest-rises, lowest-le it never goes down, and is n at most
--   kept-below              a kept entry's slot is below it from then on
--   free-between, -past     slots that no kept entry has
--   kept_at, kept-number    number c of the kept entries is kept; the number of a kept entry among them
--   kept-right              the kept entries are right by themselves
--   is_set-is, -inline, -kept, -free    which bytes are set: none below 255, none of a kept entry's slot, else all
--   set_full                a byte that is set was 255
--   set-byte, kept_byte     the byte of a slot afterwards
--   repaired-sound, -byte   what is kept and set is sound, and has bytes
-- Axioms: none.
use mathlib.Core.Path.{◌≡◌, refl, sym, ap, ◌∙◌}
use Prim.Native.Nat.{ℕ, zero, suc, ◌+◌, ◌-◌, ◌≤◌, ◌<◌}
use native.Mathlib.Nat.{add-zero}
use native.Mathlib.Omega.{arith}
use native.Mathlib.Decide.{dec_le}
use mathlib.Core.Bool.{Bool, true, false, not, cond}
use mathlib.Core.List.{List, ◌∷◌, ◌++◌}
use lib.ListN.{length, get_or, length-append}
use lib.Seq.{get_or-append-add}
use lib.Dec.{ltb, eqb}
use borrow.Author.Tests.{lt-ltb, le-ltb, eq-eqb, eqb-true, eqb-false, not-true}
use Rattle.pciv_bytes.specs.Ranges.{positions, keep_if}
use Rattle.pciv_bytes.proofs.RangesLaws.{true-false}
use Rattle.pciv_bytes.proofs.PositionsLaws.{positions-at, positions-rise, positions-around}
use Rattle.pciv_format.specs.Layout.{at}
use Rattle.pciv_format.specs.Parts.{Parts, lowest_slot, entry_of, bad_slot, EntriesRight, SoundParts}
use Rattle.pciv_format.proofs.PartsLaws.{RightEntry, right_entry-of-test, bad_entry-good, entry_at}
use Rattle.pciv_format.proofs.BadSlotLaws.{bad_slot-inline, bad_slot-none, bad_slot-entry}
use Rattle.pciv_repair_file.specs.Repaired.{wrong_at, lowest_after, lowest_kept, is_kept, kept_entries, kept_parts}
use Rattle.pciv_repair_file.specs.Repaired.{is_set, repaired_parts}

-- a slot without its entry, in parts that differ in other bytes alone
bad_slot-byte : (n k : ℕ) (byte byte' slot distance : ℕ → ℕ) (i : ℕ) → byte i ≡ byte' i
    → bad_slot (record { n = n; k = k; byte = byte; slot = slot; distance = distance }) i
    ≡ bad_slot (record { n = n; k = k; byte = byte'; slot = slot; distance = distance }) i
unfolding bad_slot entry_of
bad_slot-byte n k byte byte' slot distance i e = rw e

module _ (P : Parts) where
  -- ---- one entry after another

  pub lowest_kept-next : (j : ℕ) → lowest_kept P (suc j) ≡ lowest_after P (lowest_kept P j) j
  unfolding lowest_kept
  lowest_kept-next j = refl

  pub record KeptEntry (j : ℕ) : Type 0 where
    pub right : RightEntry P.n P.byte (lowest_kept P j) (P.slot j) (P.distance j)
    pub next : lowest_kept P (suc j) ≡ P.slot j + 1

  pub kept_entry : (j : ℕ) → is_kept P j ≡ true → KeptEntry j
  unfolding is_kept
  kept_entry j e =
      let right : wrong_at P (lowest_kept P j) j ≡ false = not-true _ e in
      record {
        right = right_entry-of-test _ _ _ _ _ right;
        next = lowest_kept-next j ∙ rw right;
      }

  pub dropped-next : (j : ℕ) → is_kept P j ≡ false → lowest_kept P (suc j) ≡ lowest_kept P j
  unfolding is_kept
  dropped-next j e = lowest_kept-next j ∙ go (wrong_at P (lowest_kept P j) j) e
    where
      go : (b : Bool) → not b ≡ false → cond b (lowest_kept P j) (P.slot j + 1) ≡ lowest_kept P j
      go true e = refl
      go false e = absurd (true-false e)

  pub step-cases : {B : Type 0} (j : ℕ) → (is_kept P j ≡ true → KeptEntry j → B)
      → (is_kept P j ≡ false → lowest_kept P (suc j) ≡ lowest_kept P j → B)
      → B
  step-cases {B} j kept dropped = go (is_kept P j) refl
    where
      go : (b : Bool) → is_kept P j ≡ b → B
      go true e = kept e (kept_entry j e)
      go false e = dropped e (dropped-next j e)

  -- an entry is kept where the least slot goes up
  pub is_kept-next : (j : ℕ) → is_kept P j ≡ ltb (lowest_kept P j) (lowest_kept P (suc j))
  is_kept-next j =
      let x : ℕ = lowest_kept P j in
      let y : ℕ = lowest_kept P (suc j) in
      step-cases j (λ e k. e ∙ sym (lt-ltb x y (omega (arith, k.next, k.right.above))))
      (λ e q. e ∙ sym (le-ltb x y (omega (arith, q))))

  lowest_step : (j : ℕ) → lowest_kept P j ≤ lowest_kept P (suc j)
  lowest_step j = step-cases j (λ e k. omega (arith, k.next, k.right.above)) (λ e q. omega (arith, q))

  pub lowest-rises : (j t : ℕ) → j ≤ t → lowest_kept P j ≤ lowest_kept P t
  lowest-rises j zero h = let e : j ≡ 0 = omega arith in omega (arith, ap (lowest_kept P) e)
  lowest-rises j (suc t) h =
      elim (dec_le j t) [
        | yes d ↦ omega (arith, lowest-rises j t d, lowest_step t)
        | no d ↦ (let e : j ≡ suc t = omega arith in omega (arith, ap (lowest_kept P) e))
      ]

  pub lowest-le : (j : ℕ) → lowest_kept P j ≤ P.n
  unfolding lowest_kept
  lowest-le zero = omega arith
  lowest-le (suc j) =
      step-cases j (λ e k. omega (arith, k.next, k.right.inside)) (λ e q. omega (arith, q, lowest-le j))

  -- the slot of a kept entry
  pub kept-below : (j t : ℕ) → is_kept P j ≡ true → j < t → P.slot j < lowest_kept P t
  kept-below j t e h = omega (arith, (kept_entry j e).next, lowest-rises (suc j) t (omega arith))

  -- no kept entry has a slot from the least one up to that of the next entry, or past all of them
  pub free-between : (j i : ℕ) → lowest_kept P j ≤ i → i + 1 < lowest_kept P (suc j)
      → (t : ℕ) → is_kept P t ≡ true → P.slot t ≡ i → ⊥
  free-between j i low high t e q =
      let k : KeptEntry t = kept_entry t e in
      elim (dec_le j t) [
        | yes d ↦
            elim (dec_le t j) [
              | yes d' ↦ (let z : t ≡ j = omega arith in omega (arith, k.next, ap (λ (x : ℕ). lowest_kept P (suc x)) z))
              | no d' ↦ omega (arith, k.right.above, lowest-rises (suc j) t (omega arith))
            ]
        | no d ↦ omega (arith, kept-below t j e (omega arith))
      ]

  pub free-past : (i : ℕ) → lowest_kept P P.k ≤ i → (t : ℕ) → t < P.k → is_kept P t ≡ true → P.slot t ≡ i → ⊥
  free-past i low t h e q = omega (arith, kept-below t P.k e h)

  -- ---- the kept entries by themselves

  pub kept_at : (c : ℕ) → c < length (kept_entries P)
      → (at (kept_entries P) c < P.k) × (is_kept P (at (kept_entries P) c) ≡ true)
  unfolding kept_entries
  kept_at c h = let q = positions-at (is_kept P) 0 P.k c h in (omega (arith, q.high), q.has)

  -- the number of entry j among them, and how many there are before it
  pub kept-number : (j : ℕ) → j < P.k → is_kept P j ≡ true
      → (length (positions (is_kept P) 0 j) < length (kept_entries P))
      × (at (kept_entries P) (length (positions (is_kept P) 0 j)) ≡ j)
  unfolding kept_entries
  kept-number j h e =
      let front : List ℕ = positions (is_kept P) 0 j in
      let rest : List ℕ = positions (is_kept P) (suc j) (P.k - suc j) in
      let is : positions (is_kept P) 0 P.k ≡ front ++ (j ∷ rest) =
      positions-around (is_kept P) P.k j h ∙ ap (λ (b : Bool). front ++ keep_if b j rest) e in (
        rw is (simp length-append (omega arith)),
        ap (λ (l : List ℕ). get_or l (length front) 0) is ∙ (rw add-zero at (get_or-append-add front (j ∷ rest) 0 0)),
      )

  rises-here : (c : ℕ) → suc c < length (kept_entries P) → at (kept_entries P) c < at (kept_entries P) (suc c)
  unfolding kept_entries
  rises-here c h = positions-rise (is_kept P) 0 P.k c h

  pub kept-right : EntriesRight (kept_parts P)
  kept-right c h =
      let q = kept_at c h in
      let k = (kept_entry _ q.1).right in
      bad_entry-good (kept_parts P) c
      (record { inside = k.inside; above = above c h; overflows = k.overflows; marked = k.marked })
    where
      above : (c : ℕ) → c < length (kept_entries P) → lowest_slot (kept_parts P) c ≤ P.slot (at (kept_entries P) c)
      above zero h = omega arith
      above (suc c) h =
          let q = kept_at (suc c) h in
          omega (
            arith,
            (kept_entry _ q.1).right.above,
            kept-below (at (kept_entries P) c) (at (kept_entries P) (suc c)) (kept_at c (omega arith)).1 (rises-here c h),
          )

  -- ---- the bytes that are set

  pub is_set-inline : (i : ℕ) → (P.byte i ≡ 255 → ⊥) → is_set P i ≡ false
  unfolding is_set
  is_set-inline i inline = bad_slot-inline (kept_parts P) i inline

  pub set_full : (i : ℕ) → is_set P i ≡ true → P.byte i ≡ 255
  set_full i set = go (eqb (P.byte i) 255) refl
    where
      go : (t : Bool) → eqb (P.byte i) 255 ≡ t → P.byte i ≡ 255
      go true e = eqb-true (P.byte i) 255 e
      go false e = absurd (true-false (sym set ∙ is_set-inline i (eqb-false (P.byte i) 255 e)))

  pub is_set-kept : (j : ℕ) → j < P.k → is_kept P j ≡ true → is_set P (P.slot j) ≡ false
  unfolding is_set
  is_set-kept j h e =
      let q = kept-number j h e in
      bad_slot-entry (kept_parts P) (P.slot j) (length (positions (is_kept P) 0 j)) q.0 (ap P.slot q.1)

  pub is_set-free : (i : ℕ) → ((j : ℕ) → j < P.k → is_kept P j ≡ true → P.slot j ≡ i → ⊥)
      → is_set P i ≡ eqb (P.byte i) 255
  unfolding is_set
  is_set-free i none = go (eqb (P.byte i) 255) refl
    where
      go : (b : Bool) → eqb (P.byte i) 255 ≡ b → is_set P i ≡ b
      go true e =
          bad_slot-none (kept_parts P) i (eqb-true _ _ e)
          (λ c h q. (let t = kept_at c h in none (at (kept_entries P) c) t.0 t.1 q))
      go false e = bad_slot-inline (kept_parts P) i (λ q. true-false (sym (eq-eqb (P.byte i) 255 q) ∙ e))

  pub is_set-is : (i : ℕ) → is_set P i ≡ bad_slot (kept_parts P) i
  unfolding is_set
  is_set-is i = refl

  pub set-byte : (i : ℕ) → is_set P i ≡ true → (repaired_parts P).byte i ≡ 254
  set-byte i e = rw e

  pub kept_byte : (i : ℕ) → is_set P i ≡ false → (repaired_parts P).byte i ≡ P.byte i
  kept_byte i e = rw e

  pub repaired-byte : ((i : ℕ) → P.byte i < 256) → (i : ℕ) → (repaired_parts P).byte i < 256
  repaired-byte bytes i = go (is_set P i) refl
    where
      go : (b : Bool) → is_set P i ≡ b → (repaired_parts P).byte i < 256
      go true e = omega (arith, set-byte i e)
      go false e = omega (arith, kept_byte i e, bytes i)

  lowest-same : (c : ℕ) → lowest_slot (repaired_parts P) c ≡ lowest_slot (kept_parts P) c
  lowest-same zero = refl
  lowest-same (suc c) = refl

  pub repaired-sound : SoundParts (repaired_parts P)
  repaired-sound =
      record {
        entries = λ c h.
            (let q = kept_at c h in
            let g = entry_at (kept_parts P) kept-right c h in
            bad_entry-good (repaired_parts P) c
            (record {
              inside = g.inside;
              above = omega (arith, lowest-same c, g.above);
              overflows = g.overflows;
              marked = rw (is_set-kept (at (kept_entries P) c) q.0 q.1) g.marked;
            }));
        slots = λ i h. go i (is_set P i) refl;
      }
    where
      go : (i : ℕ) (b : Bool) → is_set P i ≡ b → bad_slot (repaired_parts P) i ≡ false
      go i true e = bad_slot-inline (repaired_parts P) i (λ q. omega (arith, sym (set-byte i e) ∙ q))
      go i false e = bad_slot-byte P.n (length (kept_entries P)) (repaired_parts P).byte P.byte (kept_parts P).slot
          (kept_parts P).distance i (kept_byte i e) ∙ sym (is_set-is i) ∙ e
