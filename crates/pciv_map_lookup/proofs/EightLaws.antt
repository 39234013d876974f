-- Laws of a search for the entry of a slot that keeps the part where it may stand, and of places that are filled.
--   flag-leb                      a test that is computed without a branch
--   holds-halve                   the search goes on
--   overflow-some, holds-value    there is an entry, and the search ends with it and the slot's distance
--   eight-start                   eight searches begin
--   Halving, halving-more         a turn of them, which the first q have had
--   sets_at-none                   no place is filled
--   sets_at-last, sets_at-sets      one place more; a list that is written behind the places
--   Filling g ps d₀ d c q         of the first c places of ps those from q on are left: filling all in d₀ is filling these in d
--   filling-start, -more, -end    all are left; the next place is filled; none is left
-- Axioms: none.
use mathlib.Core.Path.{◌≡◌, refl, sym, ap, ◌∙◌}
use mathlib.Core.List.{List, [], ◌∷◌, ◌++◌}
use Prim.Native.Nat.{ℕ, zero, suc, ◌+◌, ◌-◌, ◌*◌, ◌/◌, ◌^◌, ◌≤◌, ◌<◌}
use native.Mathlib.Nat.{mul-zero, mul-one, add-zero}
use native.Mathlib.Numerals.{add-one}
use native.Mathlib.Omega.{arith}
use native.Mathlib.Decide.{dec_le}
use lib.ListN.{length, get_or, set, take, drop, replicate, length-set, drop_of_length-le}
use lib.Seq.{sets, length-take-le, get_or-take, drop-cons, get_or-set_same, get_or-set_other, set_comm, take-suc-set}
use lib.Dec.{leb}
use borrow.Author.Tests.{le-leb, lt-leb}
use Rattle.pciv_bytes.specs.Ranges.{flag}
use Rattle.pciv_bytes.proofs.WriteLaws.{set-before-sets}
use Rattle.pciv_format.specs.Parts.{Parts, entry_of, value_of, SoundParts}
use Rattle.pciv_format.proofs.PartsLaws.{slots-rise, entry_of-slot, slot-entry, value_of-slot}
use Rattle.pciv_map_lookup.specs.Eight.{OverflowPlace, Holds, Eight, sets_at}
use Rattle.pciv_format.proofs.EntryLaws.{slots-sorted}

-- ---- a test without a branch

pub flag-leb : (x y : ℕ) → x < 2 ^ 63 → y < 2 ^ 63
    → (y + 0x8000_0000_0000_0000 - x) / 0x8000_0000_0000_0000 ≡ flag (leb x y)
flag-leb x y h₁ h₂ =
    elim (dec_le x y) [
      | yes d ↦ rw (le-leb x y d) (omega arith)
      | no d ↦ (let less : y < x = omega arith in rw (lt-leb x y less) (omega arith))
    ]

-- ---- a search

holds-start : (P : Parts) (s : ℕ) → Holds P s 0 P.k
holds-start P s = record { within = omega arith; entry = λ j h e. (omega arith, omega arith) }

holds_same : {P : Parts} {s lo len lo' : ℕ} → lo' ≡ lo → Holds P s lo len → Holds P s lo' len
holds_same e h = rw e h

module _ (P : Parts) (sound : SoundParts P) where
  -- x, the slot of the entry in the middle, tells which half stays
  pub holds-halve : (s lo len x low : ℕ) → 0 < len → x ≡ P.slot (lo + len / 2) → low ≡ flag (leb x s)
      → Holds P s lo len → Holds P s (lo + len / 2 * low) (len - len / 2)
  holds-halve s lo len x low some x_is low_is w =
      let half : ℕ = len / 2 in
      let mid : ℕ = lo + half in
      let inside : mid < P.k = omega (arith, w.within) in
      elim (dec_le x s) [
        | yes d ↦ (let e : low ≡ 1 = rw (le-leb x s d) at low_is in
            let z : half * low ≡ half = rw e (mul-one half) in
            holds_same (ap (λ (t : ℕ). lo + t) z)
            (record {
              within = omega (arith, w.within);
              entry = λ j h q.
                  (let past : mid ≤ j =
                  elim (dec_le mid j) [
                    | yes p ↦ p
                    | no p ↦ absurd (omega (arith, slots-rise P sound j mid (omega arith) inside))
                  ] in
                  (past, omega (arith, (w.entry j h q).1)));
            }))
        | no d ↦ (let more : s < x = omega arith in
            let e : low ≡ 0 = rw (lt-leb x s more) at low_is in
            let z : lo + half * low ≡ lo = rw (e, mul-zero half) (add-zero lo) in
            holds_same z
            (record {
              within = omega (arith, w.within);
              entry = λ j h q.
                  (let before : j < mid =
                  elim (dec_le mid j) [
                    | yes p ↦ absurd (omega (arith, slots-sorted P sound mid j p h))
                    | no p ↦ omega arith
                  ] in
                  ((w.entry j h q).0, omega arith));
            }))
      ]

  -- a slot in overflow has an entry
  pub overflow-some : (xs : List ℕ) (b p : ℕ) → OverflowPlace P xs b p → 0 < P.k
  overflow-some xs b p f =
      let q = slot-entry P sound (get_or xs p 0) f.inside f.overflows in
      omega (arith, q.1)

  -- and where one entry is left, that is it
  pub holds-value : (xs : List ℕ) (b p lo : ℕ) → OverflowPlace P xs b p → Holds P (get_or xs p 0) lo 1
      → (lo < P.k) × (value_of P (get_or xs p 0) ≡ P.distance lo) × (entry_of P (get_or xs p 0) ≡ lo)
  holds-value xs b p lo f w =
      let q = slot-entry P sound (get_or xs p 0) f.inside f.overflows in
      let at = w.entry q.0 q.1 q.2 in
      let e : q.0 ≡ lo = omega arith in (
        omega (arith, w.within),
        ap (value_of P) (sym q.2) ∙ value_of-slot P sound q.0 q.1 ∙ ap P.distance e,
        ap (entry_of P) (sym q.2) ∙ entry_of-slot P sound q.0 q.1 ∙ e,
      )

-- ---- eight searches

zeros : (c q : ℕ) → ◌≡◌ {A = ℕ} (get_or (replicate c 0) q 0) 0
zeros zero q = refl
zeros (suc c) zero = refl
zeros (suc c) (suc q) = zeros c q

pub eight-start : (P : Parts) (xs ps : List ℕ) → Eight P xs ps (replicate 8 0) P.k
eight-start P xs ps = record { long = refl; each = λ q h. holds_same (zeros 8 q) (holds-start P _) }

-- a turn of them, which the first q have had

pub record Halving (P : Parts) (key : ℕ → ℕ) (len : ℕ) (los : List ℕ) (q : ℕ) : Type 0 where
  pub had : (j : ℕ) → j < q → Holds P (key j) (get_or los j 0) (len - len / 2)
  pub left : (j : ℕ) → q ≤ j → j < 8 → Holds P (key j) (get_or los j 0) len

pub halving-more : (P : Parts) (key : ℕ → ℕ) (len : ℕ) (los : List ℕ) (q lo : ℕ) → q < length los
    → Holds P (key q) lo (len - len / 2) → Halving P key len los q → Halving P key len (set los q lo) (q + 1)
halving-more P key len los q lo inside new w =
    record {
      had = λ j h.
          elim (dec_le q j) [
            | yes d ↦ (let e : j ≡ q = omega arith in rw e (holds_same (get_or-set_same los q lo 0 inside) new))
            | no d ↦ holds_same (get_or-set_other los q j lo 0 (λ e. omega arith)) (w.had j (omega arith))
          ];
      left = λ j h₁ h₂. holds_same (get_or-set_other los q j lo 0 (λ e. omega arith)) (w.left j (omega arith) h₂);
    }

-- ---- places that are filled

module _ (g : ℕ → ℕ) where
  pub sets_at-none : (d : List ℕ) → sets_at g [] d ≡ d
  unfolding sets_at
  sets_at-none d = refl

  sets_at-more : (ps d : List ℕ) (c q x : ℕ) → c ≤ length ps → q < c → x ≡ g (get_or ps q 0)
      → sets_at g (drop q (take c ps)) d ≡ sets_at g (drop (q + 1) (take c ps)) (set d (get_or ps q 0) x)
  unfolding sets_at
  sets_at-more ps d c q x long h e =
      rw (
        drop-cons (take c ps) q 0 (rw (length-take-le c ps long) h),
        get_or-take c ps q 0 h,
        add-one q,
        e,
      )

  sets_at-end : (ps d : List ℕ) (c q : ℕ) → c ≤ length ps → c ≤ q → sets_at g (drop q (take c ps)) d ≡ d
  unfolding sets_at
  sets_at-end ps d c q long h = rw (drop_of_length-le (take c ps) {i = q} (rw (length-take-le c ps long) h))

  -- the order of the places does not count
  set-swap : (d : List ℕ) (i j : ℕ) → set (set d i (g i)) j (g j) ≡ set (set d j (g j)) i (g i)
  set-swap d i j =
      elim (dec_le i j) [
        | yes h₁ ↦ elim (dec_le j i) [
          | yes h₂ ↦ (let e : i ≡ j = omega arith in rw e)
          | no h₂ ↦ set_comm d i j (g i) (g j) (λ e. omega arith)
        ]
        | no h₁ ↦ set_comm d i j (g i) (g j) (λ e. omega arith)
      ]

  sets_at-set : (ps d : List ℕ) (i : ℕ) → set (sets_at g ps d) i (g i) ≡ sets_at g ps (set d i (g i))
  unfolding sets_at
  sets_at-set [] d i = refl
  sets_at-set (p ∷ ps) d i = sets_at-set ps (set d p (g p)) i ∙ ap (sets_at g ps) (set-swap d p i)

  sets_at-append : (ps : List ℕ) (p : ℕ) (d : List ℕ) → sets_at g (ps ++ p ∷ []) d ≡ set (sets_at g ps d) p (g p)
  unfolding sets_at
  sets_at-append [] p d = refl
  sets_at-append (x ∷ ps) p d = sets_at-append ps p (set d x (g x))

  -- one place more, which was not filled yet
  pub sets_at-last : (ps d : List ℕ) (c p : ℕ) → c < length ps
      → sets_at g (take (c + 1) (set ps c p)) d ≡ sets_at g (take c ps) (set d p (g p))
  sets_at-last ps d c p h =
      ap (λ (l : List ℕ). sets_at g l d) (rw add-one (take-suc-set ps c p h))
      ∙ sets_at-append (take c ps) p d ∙ sets_at-set (take c ps) d p

  -- a list that is written behind the places
  pub sets_at-sets : (ps d l : List ℕ) (i : ℕ) → ((q : ℕ) → q < length ps → get_or ps q 0 < i)
      → sets_at g ps (sets d i l) ≡ sets (sets_at g ps d) i l
  unfolding sets_at
  sets_at-sets [] d l i h = refl
  sets_at-sets (p ∷ ps) d l i h =
      ap (sets_at g ps) (set-before-sets l d p i (g p) (h 0 (omega arith)))
      ∙ sets_at-sets ps (set d p (g p)) l i (λ q hq. h (suc q) (omega arith))

-- ---- places that are left

pub record Filling (g : ℕ → ℕ) (ps d₀ d : List ℕ) (c q : ℕ) : Type 0 where
  pub same : length d ≡ length d₀
  pub left : sets_at g (take c ps) d₀ ≡ sets_at g (drop q (take c ps)) d

pub filling-start : (g : ℕ → ℕ) (ps d : List ℕ) (c : ℕ) → Filling g ps d d c 0
filling-start g ps d c = record { same = refl; left = refl }

module _ {g : ℕ → ℕ} {ps d₀ d : List ℕ} {c q : ℕ} (long : c ≤ length ps) (f : Filling g ps d₀ d c q) where
  pub filling-more : (d' : List ℕ) (x : ℕ) → d' ≡ set d (get_or ps q 0) x → q < c → x ≡ g (get_or ps q 0)
      → Filling g ps d₀ d' c (q + 1)
  filling-more d' x is h e =
      record {
        same = ap length is ∙ simp length-set f.same;
        left = f.left
            ∙ sets_at-more g ps d c q x long h e
            ∙ ap (sets_at g (drop (q + 1) (take c ps))) (sym is);
      }

  pub filling-end : c ≤ q → d ≡ sets_at g (take c ps) d₀
  filling-end h = sym (f.left ∙ sets_at-end g ps d c q long h)
