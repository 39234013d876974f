-- Laws of signed differences that are put right entry by entry.
--   bytes-more                a part of the differences of bytes, raised and lowered again, is written
--   moved_more, -done, _all   one entry on; none left; what all entries of a map make of a list
--   excess-subtracted, -reduced    a difference of 255 moved by what a distance exceeds it
--   small-table, -more        numbers that are small: in a table, and past an entry
--   with_bytes, with_one, with_both   the list with the differences of bytes, of a's bytes and b's distances, of distances
--   Given                     two maps, and a list with space for the differences
--   bytes-differ, one-moved, both-moved    each of them from the one before
--   small_bytes, small_one    what each pass is given is small
-- Axioms: none.
use mathlib.Core.Path.{◌≡◌, ap, ap₂, ◌∙◌}
use Prim.Native.Nat.{ℕ, zero, suc, ◌+◌, ◌-◌, ◌^◌, ◌≤◌, ◌<◌}
use native.Mathlib.Numerals.{add-one}
use native.Mathlib.Nat.{zero-add}
use native.Mathlib.Omega.{arith}
use mathlib.Core.List.{List}
use lib.ListN.{length, get_or, drop, set, get_or-append}
use lib.Seq.{sets, length-sets, get_or-set_other}
use lib.IntN.{ℤ, pos, neg_ℤ, ◌-ℤ◌}
use lib.Signed.{mag}
use Rattle.pciv_bytes.specs.Ranges.{table}
use Rattle.pciv_bytes.specs.LittleEndian.{Bytes}
use Rattle.pciv_bytes.specs.ByteAt.{byte_at}
use Rattle.pciv_bytes.proofs.RangesLaws.{length-table, get_or-table, table-cong, table-shift}
use Rattle.pciv_bytes.proofs.WriteLaws.{sets-front, get_or-sets, sets-table-part}
use Rattle.pciv_format.specs.Parts.{Parts, lowest_slot, value_of, SoundParts}
use Rattle.pciv_format.specs.Check.{file_parts}
use Rattle.pciv_format.proofs.PartsLaws.{entry-good}
use Rattle.pciv_format.proofs.MapLaws.{primary_of, primary-length, primary-at, value-lt}
use Rattle.pciv_format.proofs.PatchLaws.{over, over-start, over-at, over-more, over-end}
use Rattle.pciv_arith_change.specs.Differences.{difference_at, raised_at, lowered_at, moved_by, moved_at}
use Rattle.pciv_arith_change.specs.Differences.{moved_from, SmallFrom}
use Rattle.pciv_check.proofs.SoundPairLaws.{Maps}
use Rattle.pciv_arith_change.specs.declared.Side.{Side}
use Rattle.pciv_arith_change.specs.declared.Side.TheVariants.{Subtracted, Reduced}
use Rattle.pciv_arith_change.proofs.SignedLaws.{mag-sub, sub-sub, sub-add, lowered-raised}

-- ---- differences of bytes

module _ (a b : List ℕ) (bytes : Bytes a) where
  -- c of them, raised in a list t of their own
  part-lowered : (t : List ℕ) (i c : ℕ) → c ≤ length t
      → table (lowered_at (sets t 0 (table (raised_at (byte_at a) (byte_at b) i) 0 c))) 0 c
      ≡ table (difference_at (byte_at a) (byte_at b)) i c
  part-lowered t i c space =
      let g : ℕ → ℕ = raised_at (byte_at a) (byte_at b) i in
      table-shift _ (difference_at (byte_at a) (byte_at b)) 0 i c
      (λ j h.
      ap (λ (r : ℕ). pos r -ℤ pos 255)
      (get_or-sets (table g 0 c) t 0 0 j (rw length-table h) (rw (length-table, zero-add) space)
      ∙ get_or-table g 0 0 c j h
      ∙ ap g (zero-add j))
      ∙ lowered-raised (byte_at a (i + j)) (byte_at b (i + j)) (bytes (i + j)))

  -- and written where they belong
  pub bytes-more : (n : ℕ) (out : List ℤ) (t : List ℕ) (i c : ℕ) → c ≤ length t → i + c ≤ n
      → sets out i (table (difference_at (byte_at a) (byte_at b)) i (n - i))
      ≡ sets (sets out i (table (lowered_at (sets t 0 (table (raised_at (byte_at a) (byte_at b) i) 0 c))) 0 c)) (i + c)
      (table (difference_at (byte_at a) (byte_at b)) (i + c) (n - (i + c)))
  bytes-more n out t i c space inside =
      rw (part-lowered t i c space)
      (rw (zero-add i, zero-add (i + c)) at (sets-table-part (difference_at (byte_at a) (byte_at b)) 0 n i c out inside))

-- ---- remaining work

pub moved_more : (side : Side) (P : Parts) (k j : ℕ) (out : List ℤ) → j < k
    → moved_from side P j (k - j) out ≡ moved_from side P (j + 1) (k - (j + 1)) (moved_at side P j out)
unfolding moved_from
moved_more side P k j out h = let e : k - j ≡ suc (k - (j + 1)) = omega arith in rw (e, add-one j)

pub moved-done : (side : Side) (P : Parts) (k j : ℕ) (out : List ℤ) → k ≤ j → moved_from side P j (k - j) out ≡ out
unfolding moved_from
moved-done side P k j out h = let e : k - j ≡ 0 = omega arith in rw e

-- an entry changes its own slot alone
pub small-more : (P : Parts) (j : ℕ) (out : List ℤ) (z : ℤ) → lowest_slot P j ≤ P.slot j
    → SmallFrom (lowest_slot P j) P.n out → SmallFrom (lowest_slot P (j + 1)) P.n (set out (P.slot j) z)
small-more P j out z above small =
    rw add-one
    (λ s low inside.
    rw (get_or-set_other out (P.slot j) s z (pos 0) (λ q. omega arith)) (small s (omega arith) inside))

-- ---- what all entries make of a list

-- f i x is what the list has at slot i for the number x of one side
module _ (side : Side) (f : ℕ → ℕ → ℤ) (excess : (i e : ℕ) → moved_by side (f i 255) e ≡ f i (255 + e)) where
  module _ (P : Parts) (s : SoundParts P) (bytes : (i : ℕ) → P.byte i < 256) where
    moved-entry : (j : ℕ) (d : List ℤ) → j < P.k → moved_at side P j (over f P j d) ≡ over f P (suc j) d
    moved-entry j d here =
        let at : ℕ = P.slot j in
        let e : 255 + (P.distance j - 255) ≡ P.distance j = omega (arith, (entry-good P s j here).overflows) in
        rw (over-at f P s bytes j d (pos 0) here, excess at (P.distance j - 255), e)
        (rw add-one at (over-more f P s bytes j d here))

    moved-rest : (c j : ℕ) (d : List ℤ) → j + c ≡ P.k → moved_from side P j c (over f P j d) ≡ over f P P.k d
    unfolding moved_from
    moved-rest zero j d e = let q : j ≡ P.k = omega arith in ap (λ (t : ℕ). over f P t d) q
    moved-rest (suc c) j d e =
        ap (moved_from side P (suc j) c) (moved-entry j d (omega arith)) ∙ moved-rest c (suc j) d (omega arith)

    pub moved_all : (d : List ℤ) → P.n ≤ length d
        → moved_from side P 0 P.k (sets d 0 (table (λ (i : ℕ). f i (P.byte i)) 0 P.n))
        ≡ sets d 0 (table (λ (i : ℕ). f i (value_of P i)) 0 P.n)
    moved_all d long =
        ap (moved_from side P 0 P.k) (over-start f P s bytes d long)
        ∙ moved-rest P.k 0 d (zero-add P.k)
        ∙ over-end f P s bytes d long

pub excess-subtracted : (y e : ℕ) → moved_by Subtracted (pos y -ℤ pos 255) e ≡ pos y -ℤ pos (255 + e)
excess-subtracted y e = sub-sub (pos y) 255 e

pub excess-reduced : (x e : ℕ) → moved_by Reduced (pos 255 -ℤ pos x) e ≡ pos (255 + e) -ℤ pos x
excess-reduced x e = sub-add 255 e (neg_ℤ (pos x))

-- ---- small numbers

pub small-table : (g : ℕ → ℤ) (n : ℕ) (d : List ℤ) → n ≤ length d → ((i : ℕ) → i < n → mag (g i) < 2 ^ 40)
    → SmallFrom 0 n (sets d 0 (table g 0 n))
small-table g n d long each s low inside =
    let e : get_or (sets d 0 (table g 0 n)) s (pos 0) ≡ g s =
    ap (λ (l : List ℤ). get_or l s (pos 0)) (sets-front (table g 0 n) d (rw length-table long))
    ∙ get_or-append (table g 0 n) (drop (length (table g 0 n)) d) (pos 0) s (rw length-table inside)
    ∙ get_or-table g (pos 0) 0 n s inside
    ∙ ap g (zero-add s) in
    rw e (each s inside)

small-difference : (x y : ℕ) → x < 2 ^ 32 → y < 2 ^ 32 → mag (pos y -ℤ pos x) < 2 ^ 40
small-difference x y hx hy = omega (arith, mag-sub (pos y) x)

-- ---- two checked maps: the bytes' differences, then the distances of b, then those of a

module _ (a b : List ℕ) (n ka kb : ℕ) where
  abbrev pub with_bytes : List ℤ → List ℤ
  with_bytes d = sets d 0 (table (difference_at (file_parts a n ka).byte (file_parts b n kb).byte) 0 n)

  abbrev pub with_one : List ℤ → List ℤ
  with_one d = sets d 0 (table (difference_at (file_parts a n ka).byte (value_of (file_parts b n kb))) 0 n)

  abbrev pub with_both : List ℤ → List ℤ
  with_both d = sets d 0 (table (difference_at (value_of (file_parts a n ka)) (value_of (file_parts b n kb))) 0 n)

-- the maps, and a list d with space for the differences
pub record Given (a b : List ℕ) (n ka kb : ℕ) (d : List ℤ) : Type 0 where
  pub maps : Maps a b n ka kb
  pub long : n ≤ length d

module _ {a b : List ℕ} {n ka kb : ℕ} {d : List ℤ} (g : Given a b n ka kb d) where
  pub bytes-differ : sets d 0
      (table (difference_at (byte_at (primary_of a n)) (byte_at (primary_of b n))) 0 (length (primary_of a n)))
      ≡ with_bytes a b n ka kb d
  bytes-differ =
      rw (primary-length a n ka g.maps.pair.first)
      (ap (sets d 0)
      (table-cong _ (difference_at (file_parts a n ka).byte (file_parts b n kb).byte) 0 n
      (λ i h.
      ap₂ (λ (x y : ℕ). pos y -ℤ pos x) (primary-at a n ka g.maps.pair.first i (omega arith))
      (primary-at b n kb g.maps.pair.second i (omega arith)))))

  pub one-moved : moved_from Reduced (file_parts b n kb) 0 kb (with_bytes a b n ka kb d) ≡ with_one a b n ka kb d
  one-moved =
      moved_all Reduced (λ i y. pos y -ℤ pos ((file_parts a n ka).byte i))
      (λ i e. excess-reduced ((file_parts a n ka).byte i) e)
      (file_parts b n kb) g.maps.pair.second.parts (λ i. g.maps.bytes-b (40 + i)) d g.long

  pub both-moved : moved_from Subtracted (file_parts a n ka) 0 ka (with_one a b n ka kb d) ≡ with_both a b n ka kb d
  both-moved =
      moved_all Subtracted (λ i x. pos (value_of (file_parts b n kb) i) -ℤ pos x)
      (λ i e. excess-subtracted (value_of (file_parts b n kb) i) e)
      (file_parts a n ka) g.maps.pair.first.parts (λ i. g.maps.bytes-a (40 + i)) d g.long

  -- what each pass is given
  small : (y : ℕ → ℕ) → ((i : ℕ) → i < n → y i < 2 ^ 32)
      → (let l = sets d 0 (table (difference_at (file_parts a n ka).byte y) 0 n) in (n ≤ length l) × SmallFrom 0 n l)
  small y each =
      let x : ℕ → ℕ = (file_parts a n ka).byte in (
        rw length-sets g.long,
        small-table (difference_at x y) n d g.long
            (λ i h. small-difference (x i) (y i) (omega (arith, g.maps.bytes-a (40 + i))) (each i h)),
      )

  pub small_bytes : (n ≤ length (with_bytes a b n ka kb d)) × SmallFrom 0 n (with_bytes a b n ka kb d)
  small_bytes = small (file_parts b n kb).byte (λ i h. omega (arith, g.maps.bytes-b (40 + i)))

  pub small_one : (n ≤ length (with_one a b n ka kb d)) × SmallFrom 0 n (with_one a b n ka kb d)
  small_one = small (value_of (file_parts b n kb)) (value-lt b n kb g.maps.pair.second g.maps.bytes-b)
