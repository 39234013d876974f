-- Laws of patching: what a list has for each slot is made of the primary byte first, and then of the distance,
-- one overflow entry a step. f i x is what the list has at slot i for the number x.
--   plain             the f of a list that has the numbers themselves
--   patched f P j     f of the primary bytes, and of the distances at the slots of the first j entries
--   over f P j d      d with these at its front
--   length-patched, over-sets, over-again    as a list; once more; over-at  what stands at the next entry's slot
--   -start, -more, -end    before the first entry, one entry on, and after the last
-- Axioms: none.
use mathlib.Core.Path.{◌≡◌, sym, ap, ◌∙◌}
use Prim.Native.Nat.{ℕ, suc, ◌+◌, ◌≤◌, ◌<◌}
use native.Mathlib.Nat.{zero-add}
use native.Mathlib.Numerals.{add-one}
use native.Mathlib.Omega.{arith}
use native.Mathlib.Decide.{dec_le}
use mathlib.Core.Bool.{cond}
use mathlib.Core.List.{List, ◌++◌}
use lib.ListN.{length, get_or, drop, set, length-set, get_or-append}
use lib.Seq.{sets, set-append_left, drop_at, ext_get_or, get_or-set_same, get_or-set_other}
use lib.Dec.{ltb}
use borrow.Author.Tests.{lt-ltb, le-ltb}
use Rattle.pciv_bytes.specs.Ranges.{table}
use Rattle.pciv_bytes.proofs.RangesLaws.{length-table, get_or-table, table-cong}
use Rattle.pciv_bytes.proofs.WriteLaws.{sets-front}
use Rattle.pciv_format.specs.Parts.{Parts, lowest_slot, value_of, SoundParts}
use Rattle.pciv_format.proofs.PartsLaws.{entry-good, value_of-slot}
use Rattle.pciv_format.proofs.EntryLaws.{gap-value}

abbrev pub plain : ℕ → ℕ → ℕ
plain i x = x

-- the number of slot i after the first j entries: its distance below the least slot that entry j may have, else
-- its byte
abbrev patched_at : Parts → ℕ → ℕ → ℕ
patched_at P j i = cond (ltb i (lowest_slot P j)) (value_of P i) (P.byte i)

patched_at-below : (P : Parts) (j i : ℕ) → i < lowest_slot P j → patched_at P j i ≡ value_of P i
patched_at-below P j i h = rw (lt-ltb i (lowest_slot P j) h)

patched_at-above : (P : Parts) (j i : ℕ) → lowest_slot P j ≤ i → patched_at P j i ≡ P.byte i
patched_at-above P j i h = rw (le-ltb i (lowest_slot P j) h)

module _ (P : Parts) (s : SoundParts P) (bytes : (i : ℕ) → P.byte i < 256) where
  -- after the last entry
  all-entries : (i : ℕ) → i < P.n → patched_at P P.k i ≡ value_of P i
  all-entries i inside =
      elim (dec_le (lowest_slot P P.k) i) [
        | yes d ↦ patched_at-above P P.k i d
            ∙ sym (gap-value P s bytes P.k i (omega arith) d (λ more. absurd (omega arith)) inside)
        | no d ↦ patched_at-below P P.k i (omega arith)
      ]

  -- entry j changes its own slot alone
  before-entry : (j i : ℕ) → j < P.k → i < P.n → i < P.slot j → patched_at P (suc j) i ≡ patched_at P j i
  before-entry j i here inside before =
      patched_at-below P (suc j) i (omega arith)
      ∙ elim (dec_le (lowest_slot P j) i) [
        | yes d ↦ gap-value P s bytes j i (omega arith) d (λ more. before) inside ∙ sym (patched_at-above P j i d)
        | no d ↦ sym (patched_at-below P j i (omega arith))
      ]

  past-entry : (j i : ℕ) → j < P.k → P.slot j < i → patched_at P (suc j) i ≡ patched_at P j i
  past-entry j i here past =
      patched_at-above P (suc j) i (omega arith)
      ∙ sym (patched_at-above P j i (omega (arith, (entry-good P s j here).above)))

  at_entry : (j : ℕ) → j < P.k → patched_at P (suc j) (P.slot j) ≡ P.distance j
  at_entry j here = patched_at-below P (suc j) (P.slot j) (omega arith) ∙ value_of-slot P s j here

  before-patch : (j : ℕ) → j < P.k → patched_at P j (P.slot j) ≡ 255
  before-patch j here =
      let good = entry-good P s j here in
      patched_at-above P j (P.slot j) good.above ∙ good.marked

module _ {A : Type 0} (f : ℕ → ℕ → A) where
  unfoldable pub patched : Parts → ℕ → List A
  patched P j = table (λ (i : ℕ). f i (patched_at P j i)) 0 P.n

  pub length-patched : (P : Parts) (j : ℕ) → length (patched P j) ≡ P.n
  unfolding patched
  length-patched P j = length-table (λ (i : ℕ). f i (patched_at P j i)) 0 P.n

  at-patched : (P : Parts) (j i : ℕ) (z : A) → i < P.n → get_or (patched P j) i z ≡ f i (patched_at P j i)
  unfolding patched
  at-patched P j i z h =
      get_or-table (λ (t : ℕ). f t (patched_at P j t)) z 0 P.n i h
      ∙ ap (λ (t : ℕ). f t (patched_at P j t)) (zero-add i)

  -- a list with these at its front
  abbrev pub over : Parts → ℕ → List A → List A
  over P j d = patched P j ++ drop P.n d

  pub over-sets : (P : Parts) (j : ℕ) (d : List A) → P.n ≤ length d → sets d 0 (patched P j) ≡ over P j d
  over-sets P j d long =
      sets-front (patched P j) d (rw length-patched long)
      ∙ ap (λ (m : ℕ). patched P j ++ drop m d) (length-patched P j)

  -- only the rest of the list counts
  pub over-again : (P : Parts) (j t : ℕ) (d : List A) → over P j (over P t d) ≡ over P j d
  over-again P j t d =
      ap (λ (l : List A). patched P j ++ l) (drop_at (patched P t) (drop P.n d) P.n (length-patched P t))

  module _ (P : Parts) (s : SoundParts P) (bytes : (i : ℕ) → P.byte i < 256) where
    pub patched-start : patched P 0 ≡ table (λ (i : ℕ). f i (P.byte i)) 0 P.n
    unfolding patched
    patched-start =
        table-cong (λ (i : ℕ). f i (patched_at P 0 i)) (λ (i : ℕ). f i (P.byte i)) 0 P.n
        (λ i h. ap (f i) (patched_at-above P 0 i (omega arith)))

    pub patched-end : patched P P.k ≡ table (λ (i : ℕ). f i (value_of P i)) 0 P.n
    unfolding patched
    patched-end =
        table-cong (λ (i : ℕ). f i (patched_at P P.k i)) (λ (i : ℕ). f i (value_of P i)) 0 P.n
        (λ i h. ap (f i) (all-entries P s bytes i (omega arith)))

    patched-set : (j i : ℕ) (z : A) → j < P.k → i < P.n
        → f i (patched_at P (suc j) i) ≡ get_or (set (patched P j) (P.slot j) (f (P.slot j) (P.distance j))) i z
    patched-set j i z here inside =
        elim (dec_le i (P.slot j)) [
          | yes d ↦ elim (dec_le (P.slot j) i) [
            | yes d' ↦ (let e : i ≡ P.slot j = omega arith in
                let long : P.slot j < length (patched P j) = rw length-patched (omega arith) in
                rw e (ap (f (P.slot j)) (at_entry P s bytes j here) ∙ sym (get_or-set_same (patched P j) (P.slot j) _ z long)))
            | no d' ↦ ap (f i) (before-entry P s bytes j i here inside (omega arith)) ∙ other (λ q. omega arith)
          ]
          | no d ↦ ap (f i) (past-entry P s bytes j i here (omega arith)) ∙ other (λ q. omega arith)
        ]
      where
        other : (i ≡ P.slot j → ⊥)
            → f i (patched_at P j i) ≡ get_or (set (patched P j) (P.slot j) (f (P.slot j) (P.distance j))) i z
        other ne =
            sym (get_or-set_other (patched P j) (P.slot j) i (f (P.slot j) (P.distance j)) z ne ∙ at-patched P j i z inside)

    pub patched-more : (j : ℕ) → j < P.k
        → patched P (j + 1) ≡ set (patched P j) (P.slot j) (f (P.slot j) (P.distance j))
    patched-more j here =
        rw add-one
        (ext_get_or (f 0 0) _ _ (simp (length-set, length-patched))
        (λ i h.
        (let inside : i < P.n = rw length-patched at h in
        at-patched P (suc j) i (f 0 0) inside ∙ patched-set j i (f 0 0) here inside)))

    -- ---- patching at the front of a list

    pub over-start : (d : List A) → P.n ≤ length d
        → sets d 0 (table (λ (i : ℕ). f i (P.byte i)) 0 P.n) ≡ over P 0 d
    over-start d long = ap (sets d 0) (sym patched-start) ∙ over-sets P 0 d long

    -- what stands at the slot of entry j before its turn
    pub over-at : (j : ℕ) (d : List A) (z : A) → j < P.k → get_or (over P j d) (P.slot j) z ≡ f (P.slot j) 255
    over-at j d z here =
        let inside = (entry-good P s j here).inside in
        get_or-append (patched P j) (drop P.n d) z (P.slot j) (rw length-patched inside)
        ∙ at-patched P j (P.slot j) z inside
        ∙ ap (f (P.slot j)) (before-patch P s bytes j here)

    pub over-more : (j : ℕ) (d : List A) → j < P.k
        → set (over P j d) (P.slot j) (f (P.slot j) (P.distance j)) ≡ over P (j + 1) d
    over-more j d here =
        let inside : P.slot j < length (patched P j) = rw length-patched (entry-good P s j here).inside in
        set-append_left (patched P j) (drop P.n d) (P.slot j) (f (P.slot j) (P.distance j)) inside
        ∙ ap (λ (l : List A). l ++ drop P.n d) (sym (patched-more j here))

    pub over-end : (d : List A) → P.n ≤ length d
        → over P P.k d ≡ sets d 0 (table (λ (i : ℕ). f i (value_of P i)) 0 P.n)
    over-end d long = sym (over-sets P P.k d long) ∙ ap (sets d 0) patched-end
