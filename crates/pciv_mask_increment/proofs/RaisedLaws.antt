-- A map with 1 added where a mask is 1.
--   FineTo P ws j          no slot below the least that entry j may have is too large
--   fine_more, -found, -all    it holds one entry on; an entry is too large, and none is
--   raised-le, word-raised, raised-next    at most one for each slot; what is picked in a word, as a part of a sum over
--                          all slots, and the sum one word on
--   raised-count           the slots in overflow are the map's own and those that come to it
--   Raising P ws d₀ d at j    the walk that writes the entries: those of slots from `from` on are left, and the cursor
--                          is there;  RaisingAt  and at the next slot in overflow
--   raising-start, -next, -more    where it begins, the next slot, and one entry on
-- Axioms: none.
use mathlib.Core.Path.{◌≡◌, sym, ap, ◌∙◌}
use Prim.Native.Nat.{ℕ, ◌+◌, ◌-◌, ◌*◌, ◌≤◌, ◌<◌, min}
use native.Mathlib.Numerals.{add-one}
use native.Mathlib.Nat.{sub-zero}
use native.Mathlib.Omega.{arith}
use native.Mathlib.Decide.{dec_le}
use mathlib.Core.Bool.{Bool, true, false}
use mathlib.Core.List.{List, ◌++◌}
use lib.ListN.{length, get_or}
use lib.Seq.{sets}
use lib.Dec.{eqb, ltb}
use borrow.Author.Tests.{le-leb, lt-leb, lt-ltb, le-ltb, eq-eqb, ne_eqb}
use Rattle.pciv_bytes.specs.Ranges.{flag, first_below, sum_from}
use Rattle.pciv_bytes.specs.LittleEndian.{Bytes, le, get}
use Rattle.pciv_bytes.specs.ByteAt.{byte_at, byte_is}
use Rattle.pciv_bytes.proofs.RangesLaws.{first_below-at, first_below-none, flag-le}
use Rattle.pciv_bytes.proofs.SumLaws.{sum_from-le, sum_from-plus, sum_from-split}
use Rattle.pciv_format.specs.Layout.{max_distance, in_overflow, primary_byte, overflow_count}
use Rattle.pciv_format.specs.Parts.{Parts, lowest_slot, value_of, SoundParts}
use Rattle.pciv_format.specs.Check.{file_parts, CheckedMap}
use Rattle.pciv_format.specs.Mask.{mask_has, mask_value}
use Rattle.pciv_format.specs.Words.{IsMask}
use Rattle.pciv_format.proofs.PartsLaws.{entry-good, value_of-slot, primary_byte-value_of, overflow_count-is}
use Rattle.pciv_format.proofs.PartsLaws.{primary_byte-min}
use Rattle.pciv_format.proofs.EntryLaws.{gap-value, gap-inline}
use Rattle.pciv_format.proofs.MapLaws.{primary_of, primary-at}
use Rattle.pciv_format.proofs.MaskLaws.{flag-mask_has, sum-slots}
use Rattle.pciv_map.specs.Cursor.{Cursor, TakenAt}
use Rattle.pciv_map.specs.declared.cursor.Taken.{Taken}
use Rattle.pciv_map.proofs.CursorLaws.{cursor-start, cursor-gap}
use Rattle.pciv_build.proofs.EntriesLaws.{overflow_count-sum}
use Rattle.pciv_build.proofs.FillLaws.{Filling, Next, fill-next, fill_more}
use Rattle.pciv_mask_primary.specs.Masked.{masked_distance}
use Rattle.pciv_mask_primary.specs.declared.MaskedOp.TheVariants.{Increment}
use Rattle.pciv_mask_increment.specs.Raised.{raised_at, picked}
use Rattle.pciv_mask_increment.proofs.PickedLaws.{picked-sum}

-- ---- refusal 11

abbrev pub FineTo : Parts → List ℕ → ℕ → Type 0
FineTo P ws j = (i : ℕ) → i < lowest_slot P j → masked_distance Increment P ws i ≤ max_distance

module _ (P : Parts) (s : SoundParts P) (bytes : (i : ℕ) → P.byte i < 256) (ws : List ℕ) where
  abbrev v : ℕ → ℕ
  v = masked_distance Increment P ws

  abbrev too_large : ℕ → Bool
  too_large i = ltb max_distance (v i)

  -- before entry j
  gap-fine : (j u : ℕ) → j ≤ P.k → lowest_slot P j ≤ u → (j < P.k → u < P.slot j) → u < P.n → v u ≤ max_distance
  gap-fine j u few low high inside =
      let is = gap-value P s bytes j u few low high inside in
      omega (arith, is, gap-inline P s bytes j u few low high inside, flag-le (mask_has ws u))

  module _ {j : ℕ} (here : j < P.k) (fine : FineTo P ws j) where
    before-fine : (i : ℕ) → i < P.slot j → v i ≤ max_distance
    before-fine i h =
        elim (dec_le (lowest_slot P j) i) [
          | yes low ↦ gap-fine j i (omega arith) low (λ more. h) (omega (arith, (entry-good P s j here).inside))
          | no d ↦ fine i (omega arith)
        ]

    at_slot : v (P.slot j) ≡ P.distance j + mask_value ws (P.slot j)
    at_slot = ap (λ (x : ℕ). x + mask_value ws (P.slot j)) (value_of-slot P s j here)

    pub fine_more : P.distance j + mask_value ws (P.slot j) ≤ max_distance → FineTo P ws (j + 1)
    fine_more fits =
        rw (add-one j)
        (λ i h.
        elim (dec_le (P.slot j) i) [
          | yes d ↦ (let same : i ≡ P.slot j = omega arith in rw same (omega (arith, at_slot)))
          | no d ↦ before-fine i (omega arith)
        ])

    pub fine-found : max_distance < P.distance j + mask_value ws (P.slot j)
        → P.slot j ≡ first_below (λ (i : ℕ). ltb max_distance (masked_distance Increment P ws i)) P.n
    fine-found large =
        sym
        (first_below-at too_large P.n (P.slot j) (entry-good P s j here).inside
        (λ i h. le-ltb max_distance (v i) (before-fine i h))
        (lt-ltb max_distance (v (P.slot j)) (omega (arith, at_slot))))

  pub fine-all : (j : ℕ) → j ≤ P.k → P.k ≤ j → FineTo P ws j
      → P.n ≡ first_below (λ (i : ℕ). ltb max_distance (masked_distance Increment P ws i)) P.n
  fine-all j inside last fine =
      sym
      (first_below-none too_large P.n
      (λ i h.
      le-ltb max_distance (v i)
      (elim (dec_le (lowest_slot P j) i) [
        | yes low ↦ gap-fine j i inside low (λ more. absurd (omega arith)) h
        | no d ↦ fine i (omega arith)
      ])))

-- ---- the count

flag-product-le : (a b : Bool) → flag a * flag b ≤ 1
flag-product-le true b = omega (arith, flag-le b)
flag-product-le false b = omega arith

module _ (xs ws : List ℕ) where
  raised-le-one : (i : ℕ) → raised_at xs ws i ≤ 1
  raised-le-one i = flag-product-le (mask_has ws i) (eqb (byte_at xs i) 254)

  pub raised-le : (i c : ℕ) → sum_from (raised_at xs ws) i c ≤ c
  raised-le i c = omega (arith, sum_from-le (raised_at xs ws) 1 raised-le-one i c)

  pub word-raised : (w : ℕ) → picked (byte_is xs 254) (64 * w) 64 (get_or ws w 0) ≡ sum_from (raised_at xs ws) (64 * w) 64
  word-raised w =
      picked-sum (byte_is xs 254) (raised_at xs ws) 64 (64 * w) (get_or ws w 0)
      (λ t h. ap (λ (b : ℕ). b * byte_is xs 254 (64 * w + t)) (flag-mask_has ws w t h))

  pub raised-next : (w count found : ℕ) → count ≡ sum_from (raised_at xs ws) 0 (64 * w)
      → found ≡ sum_from (raised_at xs ws) (64 * w) 64 → count + found ≡ sum_from (raised_at xs ws) 0 (64 * (w + 1))
  raised-next w count found is here =
      let f : ℕ → ℕ = raised_at xs ws in
      let e : 64 * (w + 1) - 64 * w ≡ 64 = omega arith in
      let split = sum_from-split f 0 (64 * w) (64 * (w + 1)) (omega arith) (omega arith) in
      omega (arith, simp (e, sub-zero) at split)

-- one more, where the bit is set: in overflow before, or a byte 254
raised-one : (b : Bool) (x : ℕ)
    → flag (in_overflow (x + flag b)) ≡ flag (in_overflow x) + flag b * flag (eqb (primary_byte x) 254)
raised-one false x = let e : x + 0 ≡ x = omega arith in rw e (omega arith)
raised-one true x =
    let b : ℕ = primary_byte x in
    let is : b ≡ min 255 x = primary_byte-min x in
    elim (dec_le 254 x) [
      | yes d ↦ elim (dec_le 255 x) [
        | yes d' ↦ rw (le-leb 255 (x + 1) (omega arith), le-leb 255 x d', ne_eqb b 254 (λ q. omega arith))
        | no d' ↦ rw (le-leb 255 (x + 1) (omega arith), lt-leb 255 x (omega arith), eq-eqb b 254 (omega arith))
      ]
      | no d ↦ rw (lt-leb 255 (x + 1) (omega arith), lt-leb 255 x (omega arith), ne_eqb b 254 (λ q. omega arith))
    ]

module _ (b : List ℕ) (n k : ℕ) (c : CheckedMap b n k) (bytes : Bytes b) (ws : List ℕ) (mask : IsMask n ws) where
  abbrev P : Parts
  P = file_parts b n k

  abbrev raised : ℕ → ℕ
  raised = raised_at (primary_of b n) ws

  -- whether slot i is in overflow, before and after
  abbrev over : ℕ → ℕ
  over i = flag (in_overflow (value_of P i))

  abbrev over' : ℕ → ℕ
  over' i = flag (in_overflow (masked_distance Increment P ws i))

  slot-raised : (i : ℕ) → i < n → over i + raised i ≡ over' i
  slot-raised i h =
      let byte : primary_byte (value_of P i) ≡ byte_at (primary_of b n) i =
      primary_byte-value_of P c.parts (λ t. bytes (40 + t)) i h ∙ sym (primary-at b n k c i h) in
      sym
      (raised-one (mask_has ws i) (value_of P i) ∙ ap (λ (x : ℕ). over i + mask_value ws i * flag (eqb x 254)) byte)

  raised-past : (i : ℕ) → n ≤ i → raised i ≡ 0
  raised-past i past = rw (mask.past i past) (omega arith)

  pub raised-count : k + sum_from (raised_at (primary_of b n) ws) 0 (64 * length ws)
      ≡ overflow_count n (masked_distance Increment (file_parts b n k) ws)
  raised-count =
      let own : overflow_count n (value_of P) ≡ k = overflow_count-is P c.parts (λ t. bytes (40 + t)) in
      let sum = sum_from-plus over raised over' 0 n (λ i h₁ h₂. slot-raised i (omega arith)) in
      omega (
        arith,
        sum-slots mask raised raised-past,
        overflow_count-sum n (masked_distance Increment P ws),
        overflow_count-sum n (value_of P),
      )

-- ---- the overflow entries

pub record Raising (P : Parts) (ws d₀ d : List ℕ) (at j : ℕ) : Type 0 where
  pub from : ℕ
  pub fill : Filling P.n (masked_distance Increment P ws) d₀ from d at
  pub cursor : Cursor P j from

pub record RaisingAt (P : Parts) (ws : List ℕ) (from : ℕ) (d : List ℕ) (at j slot : ℕ) : Type 0 where
  pub next : Next P.n (masked_distance Increment P ws) from d at slot
  pub cursor : Cursor P j slot

module _ (P : Parts) (ws d₀ : List ℕ) where
  pub raising-start : (d : List ℕ) → Filling P.n (masked_distance Increment P ws) d₀ 0 d (40 + P.n)
      → Raising P ws d₀ d (40 + P.n) 0
  raising-start d fill = record { from = 0; fill = fill; cursor = cursor-start P }

  pub raising-next : SoundParts P → ((i : ℕ) → P.byte i < 256) → (d : List ℕ) (at j : ℕ) (w : Raising P ws d₀ d at j)
      → at < 40 + P.n + 12 * overflow_count P.n (masked_distance Increment P ws) → (slot : ℕ) → slot ≡ get 8 d at
      → RaisingAt P ws w.from d at j slot
  raising-next s bytes d at j w more slot is =
      let next : Next P.n (masked_distance Increment P ws) w.from d at slot = rw is (fill-next w.fill more) in
      record {
        next = next;
        cursor = cursor-gap P s bytes j w.from slot w.cursor next.low
            (λ u h₁ h₂. omega (arith, next.clear u h₁ h₂));
      }

  -- the entry of the slot is written
  pub raising-more : (d d' : List ℕ) (at at' j slot : ℕ) (x : Taken) (bit : ℕ) (w : Raising P ws d₀ d at j)
      → RaisingAt P ws w.from d at j slot → TakenAt P slot x → bit ≡ mask_value ws slot
      → d' ≡ sets d at (le 8 slot ++ le 4 (x.distance + bit)) → at' ≡ at + 12 → Raising P ws d₀ d' at' x.next
  raising-more d d' at at' j slot x bit w here taken is put step =
      record {
        from = slot + 1;
        fill = fill_more w.fill slot (x.distance + bit) d' at' here.next (omega (arith, taken.is)) put step;
        cursor = taken.next;
      }
