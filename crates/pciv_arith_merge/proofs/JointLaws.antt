-- A walk over the overflow entries of two maps, in the order of their slots.
--   head_of-entry, -past       the next entry, or none
--   met_of-is                  what is met, put together
--   MetAt A B i j t r         what is met: the next slot in overflow from i on, the larger distance there
--   JointLeft                 the invariant of a walk that writes the entries of the maximum
--   joint-start, -end         before the first entry, and after the last
--   joint-space, -step, -more    there is space for the next entry; what is passed with it; past it
-- Axioms: none.
use mathlib.Core.Path.{◌≡◌, refl, sym, ap, ◌∙◌}
use Prim.Native.Nat.{ℕ, ◌+◌, ◌*◌, ◌≤◌, ◌<◌, min, max}
use native.Mathlib.Nat.{add-zero}
use native.Mathlib.Omega.{arith}
use native.Mathlib.Decide.{dec_le}
use mathlib.Core.Bool.{true, false}
use mathlib.Core.List.{List, ◌++◌}
use lib.ListN.{length}
use lib.Seq.{sets}
use lib.Dec.{eqb}
use borrow.Author.Tests.{lt-ltb, le-ltb, eq-eqb, ne_eqb}
use Rattle.pciv_bytes.specs.Ranges.{flag}
use Rattle.pciv_bytes.specs.LittleEndian.{le}
use Rattle.pciv_format.specs.Layout.{overflow_count, overflow_part}
use Rattle.pciv_format.specs.Parts.{Parts, value_of, SoundParts}
use Rattle.pciv_format.specs.declared.SlotOp.TheVariants.{Maximum}
use Rattle.pciv_format.proofs.PartsLaws.{entry-good, value_of-slot}
use Rattle.pciv_check.proofs.SoundPairLaws.{SoundPair}
use Rattle.pciv_map.specs.Cursor.{Cursor, next_slot}
use Rattle.pciv_map.proofs.CursorLaws.{cursor-start, cursor-to, cursor-more, next_slot-entry, next_slot-none}
use Rattle.pciv_map.proofs.CursorLaws.{next_slot-low, gap-small}
use Rattle.pciv_build.proofs.EntriesLaws.{EntriesLeft, entries-start, entries-space, entries-more}
use Rattle.pciv_build.proofs.EntriesLaws.{entries-gap, entries-end}
use Rattle.pciv_arith_merge.specs.Merge.{combined_of}
use Rattle.pciv_arith_merge.specs.Joint.{head_of, distance_in, met_at, met_of}
use Rattle.pciv_arith_merge.specs.declared.joint.Head.{Head}
use Rattle.pciv_arith_merge.specs.declared.joint.Met.{Met}

-- ---- the next entry

pub head_of-entry : (P : Parts) (j : ℕ) → j < P.k → head_of P j ≡ record { slot = P.slot j; distance = P.distance j }
unfolding head_of
head_of-entry P j h = rw (lt-ltb j P.k h)

pub head_of-past : (P : Parts) (j : ℕ) → P.k ≤ j → head_of P j ≡ record { slot = P.n; distance = 0 }
unfolding head_of
head_of-past P j h = rw (le-ltb j P.k h)

head_of-slot : (P : Parts) (j : ℕ) → (head_of P j).slot ≡ next_slot P j
unfolding head_of
head_of-slot P j = refl

-- ---- what one map says of the next slot

record Side (P : Parts) (j s : ℕ) : Type 0 where
  same : max (distance_in (head_of P j) s) 254 ≡ max (value_of P s) 254
  at : (head_of P j).slot ≡ s → (255 ≤ value_of P s) × (flag (eqb (head_of P j).slot s) ≡ 1)
  next : Cursor P (j + flag (eqb (head_of P j).slot s)) (s + 1)

module _ (P : Parts) (sound : SoundParts P) (bytes : (i : ℕ) → P.byte i < 256) (i j : ℕ) (c : Cursor P j i) where
  -- it is the slot of the next entry
  side-entry : (s : ℕ) → i ≤ s → j < P.k → next_slot P j ≡ s → Side P j s
  side-entry s low here next =
      let good = entry-good P sound j here in
      let at : P.slot j ≡ s = sym (next_slot-entry P j here) ∙ next in
      let test : eqb (head_of P j).slot s ≡ true = eq-eqb _ _ (head_of-slot P j ∙ next) in
      let is : value_of P s ≡ P.distance j = ap (value_of P) (sym at) ∙ value_of-slot P sound j here in
      let d : (head_of P j).distance ≡ P.distance j = ap (λ (x : Head). x.distance) (head_of-entry P j here) in
      let full : P.byte s ≡ 255 = ap P.byte (sym at) ∙ good.marked in
      record {
        same = rw (test, is, d);
        at = λ q. (omega (arith, is, good.overflows), rw test);
        next =
            rw test
            (cursor-more P sound bytes j s (cursor-to P j i s c low (omega arith)) (omega (arith, good.inside))
            (omega arith));
      }

  -- the next entry has a later slot
  side-other : (s : ℕ) → i ≤ s → s < next_slot P j → Side P j s
  side-other s low before =
      let slot = head_of-slot P j in
      let test : eqb (head_of P j).slot s ≡ false = ne_eqb (head_of P j).slot s (λ q. omega arith) in
      record {
        same = rw test (omega (arith, gap-small P sound bytes j i s c low before));
        at = λ q. absurd (omega arith);
        next = rw (test, add-zero j) (cursor-to P j i (s + 1) c (omega arith) (omega arith));
      }

  side : (s : ℕ) → i ≤ s → s ≤ next_slot P j → s < P.n → Side P j s
  side s low high inside =
      elim (dec_le (next_slot P j) s) [
        | yes at ↦
            elim (dec_le P.k j) [
              | yes past ↦ absurd (omega (arith, next_slot-none P j past))
              | no here ↦ side-entry s low (omega arith) (omega arith)
            ]
        | no later ↦ side-other s low (omega arith)
      ]

-- ---- what is met

-- the value that is put together from the two next entries
pub met_of-is : (A B : Parts) (j t : ℕ) (x y : Head) (s dx dy d f g : ℕ) → x ≡ head_of A j → y ≡ head_of B t
    → s ≡ min x.slot y.slot → dx ≡ distance_in x s → dy ≡ distance_in y s → d ≡ max dx dy
    → f ≡ flag (eqb x.slot s) → g ≡ flag (eqb y.slot s)
    → ◌≡◌ {A = Met} (record { slot = s; distance = d; first = f; second = g }) (met_of A B j t)
unfolding met_of
met_of-is A B j t x y s dx dy d f g ex ey es edx edy ed ef eg = rw (← ex, ← ey, ← es, ed, edx, edy, ef, eg)

pub record MetAt (A B : Parts) (i j t : ℕ) (r : Met) : Type 0 where
  pub inside : r.slot < A.n
  pub low : i ≤ r.slot
  pub gap : (u : ℕ) → i ≤ u → u < r.slot → combined_of Maximum A B u < 255
  pub overflows : 255 ≤ combined_of Maximum A B r.slot
  pub distance : r.distance ≡ combined_of Maximum A B r.slot
  pub first : Cursor A (j + r.first) (r.slot + 1)
  pub second : Cursor B (t + r.second) (r.slot + 1)
  pub more : 1 ≤ r.first + r.second

module _ {A B : Parts} (p : SoundPair A B) where
  -- some entry is left, so its slot is a slot
  slot-inside : (j t : ℕ) → j + t < A.k + B.k → min (next_slot A j) (next_slot B t) < A.n
  slot-inside j t more =
      elim (dec_le A.k j) [
        | yes past ↦ (let here : t < B.k = omega arith in
            omega (arith, p.sizes, next_slot-entry B t here, (entry-good B p.second t here).inside))
        | no here ↦ (let h : j
            < A.k = omega arith in omega (arith, next_slot-entry A j h, (entry-good A p.first j h).inside))
      ]

  -- between the cursors and the next slot of either
  joint-gap : (i j t u : ℕ) → Cursor A j i → Cursor B t i → i ≤ u → u < next_slot A j → u < next_slot B t
      → combined_of Maximum A B u < 255
  joint-gap i j t u ca cb low ha hb =
      omega (
        arith,
        gap-small A p.first p.bytes-first j i u ca low ha,
        gap-small B p.second p.bytes-second t i u cb low hb,
      )

  -- of what the two maps say
  of-sides : (i j t s : ℕ) → s < A.n → i ≤ s → Cursor A j i → Cursor B t i → Side A j s → Side B t s
      → s ≤ next_slot A j → s ≤ next_slot B t → 255 ≤ max (value_of A s) (value_of B s)
      → 1 ≤ flag (eqb (head_of A j).slot s) + flag (eqb (head_of B t).slot s)
      → MetAt A B i j t (met_at (head_of A j) (head_of B t) s)
  of-sides i j t s inside low ca cb x y ha hb overflows moved =
      record {
        inside = inside;
        low = low;
        gap = λ u h₁ h₂. joint-gap i j t u ca cb h₁ (omega arith) (omega arith);
        overflows = overflows;
        distance = omega (arith, x.same, y.same);
        first = x.next;
        second = y.next;
        more = omega arith;
      }

  met : (i j t : ℕ) → i ≤ A.n → Cursor A j i → Cursor B t i → j + t < A.k + B.k → MetAt A B i j t (met_of A B j t)
  unfolding met_of head_of
  met i j t below ca cb left =
      let s : ℕ = min (next_slot A j) (next_slot B t) in
      let inside : s < A.n = slot-inside j t left in
      let low : i ≤ s =
      omega (
        arith,
        next_slot-low A p.first p.bytes-first j i ca below,
        next_slot-low B p.second p.bytes-second t i cb (omega (arith, p.sizes)),
      ) in
      let x = side A p.first p.bytes-first i j ca s low (omega arith) inside in
      let y = side B p.second p.bytes-second i t cb s low (omega arith) (omega (arith, p.sizes)) in
      let all = of-sides i j t s inside low ca cb x y (omega arith) (omega arith) in
      elim (dec_le (next_slot A j) s) [
        | yes d ↦ (let at = x.at (omega arith) in all (omega (arith, at.0)) (omega (arith, at.1)))
        | no d ↦ (let at = y.at (omega arith) in all (omega (arith, at.0)) (omega (arith, at.1)))
      ]

-- ---- a walk that writes the entries of the maximum: d₀ had them all left, from p₀ on

pub record JointLeft (A B : Parts) (d₀ : List ℕ) (p₀ j t : ℕ) (d : List ℕ) (p : ℕ) : Type 0 where
  pub i : ℕ
  pub first : Cursor A j i
  pub second : Cursor B t i
  pub left : EntriesLeft A.n (combined_of Maximum A B) d₀ p₀ i d p

pub joint-start : (A B : Parts) (d : List ℕ) (p : ℕ) → p + 12 * overflow_count A.n (combined_of Maximum A B) ≤ length d
    → JointLeft A B d p 0 0 d p
joint-start A B d p space =
    record {
      i = 0;
      first = cursor-start A;
      second = cursor-start B;
      left = entries-start A.n (combined_of Maximum A B) d p space;
    }

module _ {A B : Parts} (p : SoundPair A B) {d₀ : List ℕ} {p₀ j t : ℕ} {d : List ℕ} {at : ℕ}
    (e : JointLeft A B d₀ p₀ j t d at) where
  module _ (left : j + t < A.k + B.k) (r : Met) (is : r ≡ met_of A B j t) where
    here : MetAt A B e.i j t r
    here = rw is (met p e.i j t e.left.inside e.first e.second left)

    at_slot : EntriesLeft A.n (combined_of Maximum A B) d₀ p₀ r.slot d at
    at_slot = entries-gap e.left r.slot here.low (omega (arith, here.inside)) here.gap

    pub joint-space : at + 12 ≤ length d
    joint-space = entries-space at_slot here.inside here.overflows

    -- entries of either are passed, and not more than there are
    pub joint-step : (1 ≤ r.first + r.second) × (j + r.first ≤ A.k) × (t + r.second ≤ B.k)
    joint-step = (here.more, here.first.few, here.second.few)

    pub joint-more : (d' : List ℕ) (at' : ℕ) → d' ≡ sets d at (le 8 r.slot ++ le 4 r.distance) → at' ≡ at + 12
        → JointLeft A B d₀ p₀ (j + r.first) (t + r.second) d' at'
    joint-more d' at' put next =
        record {
          i = r.slot + 1;
          first = here.first;
          second = here.second;
          left = entries-more at_slot here.inside here.overflows r.distance d' at' here.distance put next;
        }

  pub joint-end : A.k + B.k ≤ j + t → d ≡ sets d₀ p₀ (overflow_part A.n (combined_of Maximum A B))
  joint-end last =
      let na = next_slot-none A j (omega (arith, e.second.few)) in
      let nb = next_slot-none B t (omega (arith, e.first.few)) in
      entries-end
      (entries-gap e.left A.n e.left.inside (omega arith)
      (λ u low high. joint-gap p e.i j t u e.first e.second low (omega (arith, na))
      (omega (arith, nb, p.sizes))))
      (omega arith)
