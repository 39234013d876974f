-- Laws of the origin of a distance: inline, or an overflow entry by its number (docs/FORMAT.md, "Reading").
--   origin_of-entry, -none     the origin that a number tells: an entry below k, and inline
--   origin_number-origin_of     the number that tells an origin is the one that it was made of
--   entry_number-le            no number is above k
--   entry_in xs i, origin_in xs i    the number and the origin at slot i of a list, from the list alone
--   origin_of-entry_in, file-entry_number    the number tells the origin; it is that of the list's file
--   Found b slot a            what a lookup that is done says: b has a header and sound parts, the slot is inside, and a
--                             is what is there
--   lookup-found              so it is
--   lookup-distance-stays     a lookup is done and refused as one that answers the distance alone, with that distance
--   distances_outcome, lookup-list-stays    and so is a list of lookups, with the same list of distances, where the
--                             second list is long enough
--   lookup-list-short         where either is too short, both stay as they were
--   EntryHas b slot x j, origin-entry    an origin in overflow names an entry of the file, which alone has the slot, and
--                             has the distance
--   origin-inline             the origin is inline exactly where the distance is below 255
--   lookup-list-each          each element of both lists is what a lookup of its slot answers
-- Axioms: none.
use Rattle.std.proofs.Common.{Ok, Err}
use Rattle.pciv_format.specs.declared.RefusalKind.TheVariants.{SlotOutOfRange, BufferTooSmall}
use mathlib.Core.Path.{◌≡◌, refl, sym, ap, ap₂, ◌∙◌}
use mathlib.Core.Logic.{◌↔◌}
use Prim.Native.Nat.{ℕ, ◌+◌, ◌*◌, ◌≤◌, ◌<◌, min}
use native.Mathlib.Omega.{arith}
use native.Mathlib.Decide.{dec_le}
use mathlib.Core.Bool.{Bool, true, false, cond}
use mathlib.Core.List.{List, map}
use lib.ListN.{length, get_or, drop, length-map, get_or-append, get_or-eq_default}
use lib.Dec.{leb, eqb}
use borrow.Author.Tests.{lt-ltb, le-ltb, le-leb, lt-leb, leb-false, eqb-true}
use Rattle.pciv_bytes.specs.LittleEndian.{get, Bytes}
use Rattle.pciv_bytes.proofs.RangesLaws.{get_or-map_inside, first_below-le, first_below-has}
use Rattle.pciv_format.specs.Layout.{in_overflow, overflow_count, at, file_of, Limits}
use Rattle.pciv_format.specs.Refusals.{Outcome, refuse, refuse_if, refuse_first, and_then, written}
use Rattle.pciv_format.specs.Parts.{Parts, entry_of, value_of, SoundParts}
use Rattle.pciv_format.specs.Check.{n_field, k_field, file_parts, counts_file}
use Rattle.pciv_format.specs.Read.{list_of, entry_number, origin_of, origin_number, located, lookup_outcome}
use Rattle.pciv_format.specs.Read.{items_into, lookup_list_outcome, lookup_list_buffer, lookup_list_entries}
use Rattle.pciv_format.specs.declared.Counts.{Counts}
use Rattle.pciv_format.specs.declared.Origin.{Origin}
use Rattle.pciv_format.specs.declared.Origin.TheVariants.{Inline, Overflow}
use Rattle.pciv_format.specs.declared.Located.{Located}
use Rattle.pciv_format.proofs.PartsLaws.{primary_byte-inline, entry_of-slot, entry_of-inline, entry_of-past}
use Rattle.pciv_format.proofs.PartsLaws.{value_of-slot, slot_cases}
use Rattle.pciv_format.proofs.RefusalsLaws.{refuse_if-done, refuse_first-done, and_then-done}
use Rattle.pciv_format.proofs.LayoutLaws.{overflow_slots-at}
use Rattle.pciv_format.proofs.CheckLaws.{checked-length}
use Rattle.pciv_format.proofs.FileLaws.{file-byte, file-slot, file-checked}
use Rattle.pciv_format.proofs.ReadLaws.{at-list_of, items-fit, items-short}
use Rattle.pciv_format.proofs.ReadCaseLaws.{checked}

abbrev parts_of : List ℕ → Parts
parts_of b = file_parts b (n_field b) (k_field b)

-- ---- numbers that tell origins

pub origin_of-entry : (k j : ℕ) → j < k → origin_of k j ≡ Overflow j
origin_of-entry k j h = rw (lt-ltb j k h)

pub origin_of-none : (k j : ℕ) → k ≤ j → origin_of k j ≡ Inline
origin_of-none k j h = rw (le-ltb j k h)

pub origin_number-origin_of : (k j : ℕ) → j ≤ k → origin_number k (origin_of k j) ≡ j
origin_number-origin_of k j h =
    elim (dec_le k j) [
      | yes d ↦ ap (origin_number k) (origin_of-none k j d) ∙ omega arith
      | no d ↦ ap (origin_number k) (origin_of-entry k j (omega arith))
    ]

pub entry_number-le : (b : List ℕ) (i : ℕ) → entry_number b i ≤ k_field b
unfolding entry_of
entry_number-le b i = first_below-le (λ (j : ℕ). eqb ((parts_of b).slot j) i) (k_field b)

-- ---- in the file of a list

-- how many smaller slots are in overflow, and k for an inline distance
abbrev pub entry_in : List ℕ → ℕ → ℕ
entry_in xs i = cond (in_overflow (at xs i)) (overflow_count i (at xs)) (overflow_count (length xs) (at xs))

abbrev pub origin_in : List ℕ → ℕ → Origin
origin_in xs i = cond (in_overflow (at xs i)) (Overflow (overflow_count i (at xs))) Inline

-- a slot of a list that is in overflow is one of its slots
pub overflow-inside : (xs : List ℕ) (i : ℕ) → 255 ≤ at xs i → i < length xs
overflow-inside xs i h =
    elim (dec_le (length xs) i) [
      | yes past ↦ absurd (omega (arith, get_or-eq_default xs 0 past))
      | no inside ↦ omega arith
    ]

pub origin_of-entry_in : (xs : List ℕ) (i : ℕ)
    → origin_of (overflow_count (length xs) (at xs)) (entry_in xs i) ≡ origin_in xs i
origin_of-entry_in xs i =
    elim (dec_le 255 (at xs i)) [
      | yes d ↦ rw (le-leb 255 (at xs i) d)
          (origin_of-entry _ _ (overflow_slots-at (length xs) (at xs) i (overflow-inside xs i d) d).0)
      | no d ↦ rw (lt-leb 255 (at xs i) (omega arith)) (origin_of-none k k (omega arith))
    ]
  where
    k : ℕ
    k = overflow_count (length xs) (at xs)

module _ (xs : List ℕ) (l : Limits xs) where
  pub file-entry_number : (i : ℕ) → entry_number (file_of xs) i ≡ entry_in xs i
  file-entry_number i =
      let n : ℕ = length xs in
      let k : ℕ = overflow_count n (at xs) in
      let map = file-checked n (at xs) l.count l.each in
      let P : Parts = file_parts (file_of xs) n k in
      ap₂ (λ (n k : ℕ). entry_of (file_parts (file_of xs) n k) i) map.header.n_is map.header.k_is
      ∙ elim (dec_le 255 (at xs i)) [
        | yes d ↦ (let here = overflow_slots-at n (at xs) i (overflow-inside xs i d) d in
            let slot : P.slot (overflow_count i (at xs)) ≡ i =
            file-slot n (at xs) l.count l.each (overflow_count i (at xs)) here.0 ∙ here.1 in
            rw (le-leb 255 (at xs i) d) (ap (entry_of P) (sym slot) ∙ entry_of-slot P map.parts _ here.0))
        | no d ↦ rw (lt-leb 255 (at xs i) (omega arith)) (elim (dec_le n i) [
          | yes past ↦ entry_of-past P map.parts i past
          | no inside ↦ entry_of-inline P map.parts i
              (omega (
                arith,
                file-byte n (at xs) l.count l.each i (omega arith),
                primary_byte-inline (at xs i) (omega arith),
              ))
        ])
      ]

-- ---- what a lookup that is done says

pub record Found (b : List ℕ) (slot : ℕ) (a : Located) : Type 0 where
  pub long : 40 ≤ length b
  pub sound : SoundParts (parts_of b)
  pub inside : slot < n_field b
  pub is : a ≡ located (value_of (parts_of b) slot) (k_field b) (entry_number b slot)

sound-parts : (b : List ℕ) (n k : ℕ) → n_field b ≡ n → k_field b ≡ k → SoundParts (file_parts b n k)
    → SoundParts (parts_of b)
sound-parts b n k n_is k_is sound = rw (n_is, k_is) sound

pub lookup-found : (b : List ℕ) (slot : ℕ) (a : Located) → lookup_outcome b slot ≡ Ok a → Found b slot a
unfolding lookup_outcome
lookup-found b slot a e =
    let c = and_then-done (counts_file 1 b) _ a e in
    let map = checked b c.0 c.1 in
    let t = refuse_if-done (leb c.0.n slot) _ _ a c.2 in
    let inside : slot < n_field b = omega (arith, leb-false c.0.n slot t.0, map.header.n_is) in
    record {
      long = omega (arith, checked-length b _ _ map);
      sound = sound-parts b _ _ map.header.n_is map.header.k_is map.parts;
      inside = inside;
      is = sym (same-done t.1)
          ∙ ap (λ (x : ℕ). located x (k_field b) (entry_number b slot)) (at-list_of b slot inside);
    }
  where
    same-done : {x y : Located} → ◌≡◌ {A = Outcome Located} (Ok x) (Ok y) → x ≡ y
    same-done q = cc

-- ---- the distance alone

pub lookup-distance-stays : (b : List ℕ) (slot : ℕ)
    → and_then (lookup_outcome b slot) (λ a. Ok a.distance)
    ≡ and_then (counts_file 1 b) (λ s. refuse_if (leb s.n slot) (refuse SlotOutOfRange 0 0) (Ok (at (list_of b) slot)))
unfolding lookup_outcome
lookup-distance-stays b slot = file (counts_file 1 b)
  where
    a : Located
    a = located (at (list_of b) slot) (k_field b) (entry_number b slot)

    inside : (t : Bool) → and_then (refuse_if t (refuse SlotOutOfRange 0 0) (Ok a)) (λ a. Ok a.distance)
        ≡ refuse_if t (refuse SlotOutOfRange 0 0) (Ok a.distance)
    inside true = refl
    inside false = refl

    file : (o : Outcome Counts)
        → and_then (and_then o (λ s. refuse_if (leb s.n slot) (refuse SlotOutOfRange 0 0) (Ok a))) (λ a. Ok a.distance)
        ≡ and_then o (λ s. refuse_if (leb s.n slot) (refuse SlotOutOfRange 0 0) (Ok a.distance))
    file (Ok s) = inside (leb s.n slot)
    file (Err r) = refl

module _ (b slots : List ℕ) where
  -- the outcome of a list of lookups that answer the distance alone, into a list of c elements
  abbrev pub distances_outcome : ℕ → Outcome ℕ
  distances_outcome c =
      and_then (counts_file 1 b)
      (λ s. refuse_first SlotOutOfRange 0 (λ (i : ℕ). leb s.n (at slots i)) (length slots) (items_into (length slots) c))

  outcome-stays : (c₁ c₂ : ℕ) → length slots ≤ c₂ → lookup_list_outcome b slots c₁ c₂ ≡ distances_outcome c₁
  unfolding lookup_list_outcome
  outcome-stays c₁ c₂ h =
      ap (λ (o : Outcome ℕ). and_then (counts_file 1 b)
      (λ s. refuse_first SlotOutOfRange 0 (λ (i : ℕ). leb s.n (at slots i)) (length slots) o))
      (elim (dec_le (length slots) c₁) [
        | yes d ↦ items-fit (length slots) (min c₁ c₂) (omega arith) ∙ sym (items-fit (length slots) c₁ d)
        | no d ↦ items-short (length slots) (min c₁ c₂) (omega arith) ∙ sym (items-short (length slots) c₁ (omega arith))
      ])

  pub lookup-list-stays : (c₂ : ℕ) (out : List ℕ) → length slots ≤ c₂
      → (lookup_list_outcome b slots (length out) c₂ ≡ distances_outcome (length out))
      × (lookup_list_buffer b slots c₂ out ≡ written (distances_outcome (length out)) (map (at (list_of b)) slots) out)
  unfolding lookup_list_buffer
  lookup-list-stays c₂ out h =
      let e = outcome-stays (length out) c₂ h in
      (e, ap (λ (o : Outcome ℕ). written o (map (at (list_of b)) slots) out) e)

  short-refused : (c₁ c₂ : ℕ) → min c₁ c₂ < length slots → (c : ℕ) → lookup_list_outcome b slots c₁ c₂ ≡ Ok c → ⊥
  unfolding lookup_list_outcome
  short-refused c₁ c₂ h c e =
      let s = and_then-done (counts_file 1 b) _ c e in
      let items = (refuse_first-done SlotOutOfRange 0 (λ (i : ℕ). leb s.0.n (at slots i)) (length slots) _ c s.2).1 in
      other (sym (items-short (length slots) (min c₁ c₂) h) ∙ items)
    where
      other : refuse BufferTooSmall 0 0 ≡ Ok c → ⊥
      other q = let z : ◌≡◌ {A = ℕ} 0 1 = cc in omega arith

  pub lookup-list-short : (distances entries : List ℕ) → min (length distances) (length entries) < length slots
      → (lookup_list_buffer b slots (length entries) distances ≡ distances)
      × (lookup_list_entries b slots (length distances) entries ≡ entries)
  unfolding lookup_list_buffer lookup_list_entries
  lookup-list-short distances entries h =
      go (lookup_list_outcome b slots (length distances) (length entries))
      (short-refused (length distances) (length entries) h)
    where
      go : (o : Outcome ℕ) → ((c : ℕ) → o ≡ Ok c → ⊥)
          → (written o (map (at (list_of b)) slots) distances ≡ distances)
          × (written o (map (entry_number b) slots) entries ≡ entries)
      go (Ok c) never = absurd (never c refl)
      go (Err r) never = (refl, refl)

-- ---- the entry that an origin names

pub record EntryHas (b : List ℕ) (slot x j : ℕ) : Type 0 where
  pub below : j < k_field b
  pub slot_is : get 8 b (40 + n_field b + 12 * j) ≡ slot
  pub distance_is : get 4 b (40 + n_field b + 12 * j + 8) ≡ x
  pub only : (t : ℕ) → t < k_field b → get 8 b (40 + n_field b + 12 * t) ≡ slot → t ≡ j

pub origin-entry : (b : List ℕ) (slot : ℕ) (a : Located) → lookup_outcome b slot ≡ Ok a → (j : ℕ)
    → a.origin ≡ Overflow j → EntryHas b slot a.distance j
unfolding entry_of
origin-entry b slot a e j o =
    let f = lookup-found b slot a e in
    let P : Parts = parts_of b in
    let named = named-entry (k_field b) (entry_number b slot) (sym (ap (λ (l : Located). l.origin) f.is) ∙ o) in
    let here : P.slot j ≡ slot =
    rw (← named.1) (eqb-true _ _ (first_below-has (λ (i : ℕ). eqb (P.slot i) slot) P.k named.0)) in
    let below : j < k_field b = omega arith in
    record {
      below = below;
      slot_is = here;
      distance_is = sym (ap (λ (l : Located). l.distance) f.is
          ∙ ap (value_of P) (sym here)
          ∙ value_of-slot P f.sound j below);
      only = λ t h q. sym (entry_of-slot P f.sound t h) ∙ ap (entry_of P) q ∙ named.1;
    }
  where
    named-entry : (k i : ℕ) → origin_of k i ≡ Overflow j → (i < k) × (i ≡ j)
    named-entry k i q =
        elim (dec_le k i) [
          | yes d ↦ absurd (other (sym (origin_of-none k i d) ∙ q))
          | no d ↦ (omega arith, ap (origin_number 0) (sym (origin_of-entry k i (omega arith)) ∙ q))
        ]
      where
        other : Inline ≡ Overflow j → ⊥
        other q = let z : ◌≡◌ {A = ℕ} 0 1 = cc in omega arith

-- ---- inline, by the distance

pub origin-inline : (b : List ℕ) (slot : ℕ) (a : Located) → Bytes b → lookup_outcome b slot ≡ Ok a
    → (a.origin ≡ Inline) ↔ (a.distance < 255)
origin-inline b slot a bytes e =
    let f = lookup-found b slot a e in
    let P : Parts = parts_of b in
    let origin_is : a.origin ≡ origin_of (k_field b) (entry_number b slot) = ap (λ (l : Located). l.origin) f.is in
    let distance_is : a.distance ≡ value_of P slot = ap (λ (l : Located). l.distance) f.is in
    slot_cases P f.sound (λ i. bytes (40 + i)) slot f.inside
    (λ small value. (
      λ q. omega arith,
      λ q. origin_is ∙ origin_of-none (k_field b) _ (omega (arith, entry_of-inline P f.sound slot small)),
    ))
    (λ j h is full value overflows. (
      λ q.
          absurd (other j
          (sym (origin_is ∙ ap (origin_of (k_field b)) (number j h is) ∙ origin_of-entry (k_field b) j h) ∙ q)),
      λ q. absurd (omega arith),
    ))
  where
    other : (j : ℕ) → Overflow j ≡ Inline → ⊥
    other j q = let z : ◌≡◌ {A = ℕ} 0 1 = cc in omega arith

    number : (j : ℕ) → j < k_field b → (parts_of b).slot j ≡ slot → entry_number b slot ≡ j
    number j h is =
        ap (entry_of (parts_of b)) (sym is) ∙ entry_of-slot (parts_of b) (lookup-found b slot a e).sound j h

-- ---- a list of lookups

module _ (b slots distances entries : List ℕ) (c : ℕ)
    (e : lookup_list_outcome b slots (length distances) (length entries) ≡ Ok c) where
  -- element i of what is written to the front of a list
  element : (f : ℕ → ℕ) (out : List ℕ) (i : ℕ) → i < length slots
      → get_or (written (Ok c) (map f slots) out) i 0 ≡ f (at slots i)
  element f out i h =
      get_or-append (map f slots) (drop (length (map f slots)) out) 0 i (rw length-map h)
      ∙ get_or-map_inside f slots i 0 0 h

  found : (i : ℕ) → i < length slots
      → (let slot = at slots i in
      lookup_outcome b slot ≡ Ok (located (at (list_of b) slot) (k_field b) (entry_number b slot)))
  unfolding lookup_list_outcome lookup_outcome
  found i h =
      let s = and_then-done (counts_file 1 b) _ c e in
      let inside = (refuse_first-done SlotOutOfRange 0 (λ (i : ℕ). leb s.0.n (at slots i)) (length slots) _ c s.2).0 i h in
      rw (s.1, inside)

  pub lookup-list-each : (i : ℕ) → i < length slots
      → (a : Located) × (lookup_outcome b (at slots i) ≡ Ok a)
      × (at (lookup_list_buffer b slots (length entries) distances) i ≡ a.distance)
      × (at (lookup_list_entries b slots (length distances) entries) i ≡ origin_number (k_field b) a.origin)
  unfolding lookup_list_buffer lookup_list_entries
  lookup-list-each i h = (
    _,
    found i h,
    rw e (element (at (list_of b)) distances i h),
    rw e (element (entry_number b) entries i h)
        ∙ sym (origin_number-origin_of (k_field b) (entry_number b (at slots i)) (entry_number-le b (at slots i))),
  )
