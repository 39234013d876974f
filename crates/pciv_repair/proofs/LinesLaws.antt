-- Header fields, and changes that are listed line by line: f j is the change of number j, and the numbers below `to`
-- that have p are changed, in rising order.
--   field_of-low, -high     a header field of 4 bytes, and of 8
--   was_set-same            a byte that is the same in both files was not set
--   quad c, set-quad       a change as four numbers; four elements set one after another
--   Listing f p to all from list₀ j line list    the invariant of a loop that lists them: writing the changes of the
--                          numbers `all` from line number `from` on equals writing those of the numbers from j on, from
--                          line number `line` on
--   listing_start, -from   before the first number, 0 or another
--   listing-skip, -more    past a number without a change, past one with it
--   listing-gap, -part     past several without a change, past several whose changes are written
--   listing-end            after the last
--   listing-room, listing-part-room    the list has room for the change of number j, and for those up to s
-- Axioms: none.
use mathlib.Core.Path.{◌≡◌, refl, sym, ap, ◌∙◌}
use Prim.Native.Nat.{ℕ, suc, ◌+◌, ◌-◌, ◌*◌, ◌≤◌, ◌<◌}
use native.Mathlib.Nat.{sub-zero}
use native.Mathlib.Numerals.{add-one}
use native.Mathlib.Omega.{arith}
use mathlib.Core.Bool.{Bool, true, false, not, ◌&&◌}
use mathlib.Core.List.{List, [], ◌∷◌, ◌++◌, map, map-append}
use lib.ListN.{length, set, length-append, length-map}
use lib.Seq.{sets, length-sets}
use lib.Dec.{eqb}
use borrow.Author.Tests.{lt-ltb, le-ltb, eqb-true, not-false}
use Rattle.pciv_bytes.specs.Ranges.{positions, keep_if}
use Rattle.pciv_bytes.specs.LittleEndian.{get}
use Rattle.pciv_bytes.specs.ByteAt.{byte_at}
use Rattle.pciv_bytes.proofs.PositionsLaws.{positions-none, positions-append}
use Rattle.pciv_repair.specs.Repair.{field_of, was_set, Correction, numbers_of}
use Rattle.pciv_repair.proofs.CountLaws.{two-lists}

-- ---- header fields

module _ (b : List ℕ) (i : ℕ) where
  pub field_of-low : i < 2 → get 4 b (4 * i) ≡ field_of b i
  unfolding field_of
  field_of-low h = rw (lt-ltb i 2 h)

  pub field_of-high : 2 ≤ i → get 8 b (8 * (i - 1)) ≡ field_of b i
  unfolding field_of
  field_of-high h = rw (le-ltb i 2 h)

-- ---- bytes set

and-not : (a : Bool) → a && not a ≡ false
and-not true = refl
and-not false = refl

pub was_set-same : (b f : List ℕ) (i : ℕ) → not (eqb (byte_at b (40 + i)) (byte_at f (40 + i))) ≡ false
    → was_set b f i ≡ false
was_set-same b f i same =
    let e : byte_at b (40 + i) ≡ byte_at f (40 + i) = eqb-true _ _ (not-false _ same) in
    rw e (and-not (eqb (byte_at f (40 + i)) 255))

-- ---- the numbers that are left

module _ (p : ℕ → Bool) (to j : ℕ) where
  left-next : j < to → positions p j (to - j) ≡ keep_if (p j) j (positions p (j + 1) (to - (j + 1)))
  unfolding positions
  left-next h = let e : to - j ≡ suc (to - (j + 1)) = omega arith in rw (e, add-one j)

  left-skip : j < to → p j ≡ false → positions p j (to - j) ≡ positions p (j + 1) (to - (j + 1))
  left-skip h none = left-next h ∙ rw none

  left-more : j < to → p j ≡ true → positions p j (to - j) ≡ j ∷ positions p (j + 1) (to - (j + 1))
  left-more h has = left-next h ∙ rw has

  left-none : to ≤ j → positions p j (to - j) ≡ []
  unfolding positions
  left-none h = let e : to - j ≡ 0 = omega arith in rw e

module _ (p : ℕ → Bool) (to j s : ℕ) (low : j ≤ s) (high : s ≤ to) where
  left_split : positions p j (to - j) ≡ positions p j (s - j) ++ positions p s (to - s)
  left_split =
      let count : to - j ≡ (s - j) + (to - s) = omega arith in
      let place : j + (s - j) ≡ s = omega arith in
      ap (positions p j) count
      ∙ positions-append p j (s - j) (to - s)
      ∙ ap (λ (i : ℕ). positions p j (s - j) ++ positions p i (to - s)) place

  left-count : length (positions p j (to - j)) ≡ length (positions p j (s - j)) + length (positions p s (to - s))
  left-count = ap length left_split ∙ length-append (positions p j (s - j)) (positions p s (to - s))

-- ---- their changes

abbrev pub quad : Correction → List ℕ
quad c = c.kind ∷ c.place ∷ c.before ∷ c.after ∷ []

pub set-quad : (d : List ℕ) (i x₀ x₁ x₂ x₃ : ℕ)
    → set (set (set (set d i x₀) (i + 1) x₁) (i + 2) x₂) (i + 3) x₃ ≡ sets d i (x₀ ∷ x₁ ∷ x₂ ∷ x₃ ∷ [])
set-quad d i x₀ x₁ x₂ x₃ =
    let e₁ : i + 1 ≡ suc i = omega arith in
    let e₂ : i + 2 ≡ suc (suc i) = omega arith in
    let e₃ : i + 3 ≡ suc (suc (suc i)) = omega arith in
    rw (e₁, e₂, e₃)

pub record Listing (f : ℕ → Correction) (p : ℕ → Bool) (to : ℕ) (all : List ℕ) (from : ℕ) (list₀ : List ℕ)
    (j line : ℕ) (list : List ℕ) : Type 0 where
  pub inside : j ≤ to
  pub size : length list ≡ length list₀
  pub number : line + length (positions p j (to - j)) ≡ from + length all
  pub rest : sets list₀ (4 * from) (numbers_of (map f all))
      ≡ sets list (4 * line) (numbers_of (map f (positions p j (to - j))))

module _ (f : ℕ → Correction) (p : ℕ → Bool) (to from : ℕ) (list : List ℕ) where
  pub listing-from : (j : ℕ) → j ≤ to → Listing f p to (positions p j (to - j)) from list j from list
  listing-from j h = record { inside = h; size = refl; number = refl; rest = refl }

  pub listing_start : Listing f p to (positions p 0 to) from list 0 from list
  listing_start = record { inside = omega arith; size = refl; number = rw sub-zero; rest = rw sub-zero }

module _ {f : ℕ → Correction} {p : ℕ → Bool} {to : ℕ} {all : List ℕ} {from : ℕ} {list₀ : List ℕ} {j line : ℕ}
    {list : List ℕ} (e : Listing f p to all from list₀ j line list) where
  -- number j has no change
  pub listing-skip : j < to → p j ≡ false → Listing f p to all from list₀ (j + 1) line list
  listing-skip h none =
      let left = left-skip p to j h none in
      record {
        inside = omega arith;
        size = e.size;
        number = omega (arith, e.number, ap length left);
        rest = e.rest ∙ rw left;
      }

  pub listing-room : 4 * (from + length all) ≤ length list₀ → j < to → p j ≡ true → 4 * (line + 1) ≤ length list
  listing-room space h has = omega (arith, e.number, e.size, ap length (left-more p to j h has))

  -- the change of number j, which is c, is written
  pub listing-more : j < to → p j ≡ true → {c : Correction} → f j ≡ c → {line' : ℕ} {list' : List ℕ}
      → (line' ≡ line + 1) × (list' ≡ sets list (4 * line) (quad c))
      → Listing f p to all from list₀ (j + 1) line' list'
  unfolding numbers_of
  listing-more h has {c} is put =
      let left = left-more p to j h has in
      let next : 4 * (line + 1) ≡ suc (suc (suc (suc (4 * line)))) = omega arith in
      record {
        inside = omega arith;
        size = ap length put.1 ∙ length-sets list (4 * line) (quad c) ∙ e.size;
        number = omega (arith, e.number, put.0, ap length left);
        rest = e.rest ∙ rw (left, is, put.0, put.1, next);
      }

  -- the numbers from j up to s have no change
  pub listing-gap : (s : ℕ) → j ≤ s → s ≤ to → ((i : ℕ) → j ≤ i → i < s → p i ≡ false)
      → Listing f p to all from list₀ s line list
  listing-gap s low high none =
      let left : positions p j (to - j) ≡ positions p s (to - s) =
      rw (left_split p to j s low high, positions-none p j (s - j) (λ i h₁ h₂. none i h₁ (omega arith))) in
      record {
        inside = high;
        size = e.size;
        number = omega (arith, e.number, ap length left);
        rest = e.rest ∙ rw left;
      }

  pub listing-part-room : 4 * (from + length all) ≤ length list₀ → (s : ℕ) → j ≤ s → s ≤ to
      → 4 * (line + length (positions p j (s - j))) ≤ length list
  listing-part-room space s low high = omega (arith, e.number, e.size, left-count p to j s low high)

  -- the changes of the numbers from j up to s are written
  pub listing-part : (s : ℕ) → j ≤ s → s ≤ to → {line' : ℕ} {list' : List ℕ}
      → (line' ≡ line + length (positions p j (s - j)))
      × (list' ≡ sets list (4 * line) (numbers_of (map f (positions p j (s - j)))))
      → Listing f p to all from list₀ s line' list'
  listing-part s low high {line'} {list'} put =
      let part : List Correction = map f (positions p j (s - j)) in
      let left : List Correction = map f (positions p s (to - s)) in
      let next : line' ≡ line + length part = omega (arith, put.0, length-map (positions p j (s - j)) f) in
      let both : sets list' (4 * line') (numbers_of left) ≡ sets list (4 * line) (numbers_of (part ++ left)) =
      two-lists part left line list list' _ put.1 (ap (λ (k : ℕ). sets list' (4 * k) (numbers_of left)) next) in
      record {
        inside = high;
        size = ap length put.1 ∙ length-sets list (4 * line) (numbers_of part) ∙ e.size;
        number = omega (arith, e.number, put.0, left-count p to j s low high);
        rest = e.rest ∙ rw (left_split p to j s low high, map-append) (sym both);
      }

  -- all numbers are done
  pub listing-end : to ≤ j
      → (line ≡ from + length all) × (list ≡ sets list₀ (4 * from) (numbers_of (map f all)))
  unfolding numbers_of
  listing-end h =
      let left = left-none p to j h in
      (omega (arith, e.number, ap length left), sym (e.rest ∙ rw left))
