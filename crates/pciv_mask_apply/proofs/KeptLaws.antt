-- A map kept where a mask is 1, along its overflow entries.
--   kept-le                a distance that is kept or not is not above what it was
--   kept-along             the result is in overflow only where the map is
--   kept-counted           one entry on, in a walk that counts those that are kept
--   kept_more              the same in a walk that writes them, where one that is not kept is written over by the next
--   kept_small             no distance of the result is too large
-- Axioms: none.
use mathlib.Core.Path.{◌≡◌, refl, sym, ap, ◌∙◌}
use Prim.Native.Nat.{ℕ, ◌+◌, ◌*◌, ◌≤◌, ◌<◌}
use native.Mathlib.Nat.{add-zero}
use native.Mathlib.Omega.{arith}
use mathlib.Core.Bool.{Bool, true, false}
use mathlib.Core.List.{List, ◌++◌}
use lib.Seq.{sets}
use lib.Dec.{ltb}
use Rattle.std.proofs.lemmas.Bool.Decides.{nat_tests}
use borrow.Author.Tests.{le-ltb}
use Rattle.pciv_bytes.specs.Ranges.{flag, first_below}
use Rattle.pciv_bytes.specs.LittleEndian.{Bytes, le}
use Rattle.pciv_bytes.proofs.RangesLaws.{first_below-none}
use Rattle.pciv_format.specs.Layout.{max_distance, overflow_count}
use Rattle.pciv_format.specs.Parts.{Parts, lowest_slot, value_of, SoundParts}
use Rattle.pciv_format.specs.Check.{file_parts, CheckedMap}
use Rattle.pciv_format.specs.Mask.{mask_has, mask_value, kept_if}
use Rattle.pciv_format.proofs.PartsLaws.{entry-good, value_of-slot, value_of-inline}
use Rattle.pciv_build.proofs.EntriesLaws.{EntriesLeft, Counted, entries-left, entries_over}
use Rattle.pciv_build.proofs.AlongLaws.{Along, counted-entry, counted-pass, entries-entry, entries-pass}
use Rattle.pciv_format.proofs.MapLaws.{value-lt}
use Rattle.pciv_mask_primary.specs.Masked.{masked_distance}
use Rattle.pciv_mask_primary.specs.declared.MaskedOp.TheVariants.{Keep}

pub kept-le : (b : Bool) (x : ℕ) → kept_if b x ≤ x
kept-le b x = grind (arith, nat_tests)

kept_set : (b : Bool) (x : ℕ) → 0 < flag b → kept_if b x ≡ x
kept_set b x h = grind (arith, nat_tests)

kept-clear : (b : Bool) (x : ℕ) → flag b ≤ 0 → kept_if b x ≡ 0
kept-clear b x h = grind (arith, nat_tests)

module _ (P : Parts) (s : SoundParts P) (bytes : (i : ℕ) → P.byte i < 256) (ws : List ℕ) where
  abbrev v : ℕ → ℕ
  v = masked_distance Keep P ws

  pub kept-along : Along P (masked_distance Keep P ws)
  kept-along =
      record {
        sound = s;
        bytes = bytes;
        only = λ i h inline. omega (arith, kept-le (mask_has ws i) (value_of P i), value_of-inline P s i inline);
      }

  module _ {j : ℕ} (here : j < P.k) where
    -- where its slot is set, and where it is not
    value_set : 0 < mask_value ws (P.slot j) → v (P.slot j) ≡ P.distance j
    value_set on = kept_set (mask_has ws (P.slot j)) (value_of P (P.slot j)) on ∙ value_of-slot P s j here

    overflows : 0 < mask_value ws (P.slot j) → 255 ≤ v (P.slot j)
    overflows on = omega (arith, value_set on, (entry-good P s j here).overflows)

    inline : mask_value ws (P.slot j) ≤ 0 → v (P.slot j) < 255
    inline off = omega (arith, kept-clear (mask_has ws (P.slot j)) (value_of P (P.slot j)) off)

    pub kept-counted : {c bit : ℕ} → Counted P.n (masked_distance Keep P ws) (lowest_slot P j) c
        → bit ≡ mask_value ws (P.slot j)
        → Counted P.n (masked_distance Keep P ws) (lowest_slot P (j + 1)) (c + bit)
    kept-counted {c} {bit} e is = rw is (go (mask_has ws (P.slot j)) refl)
      where
        go : (b : Bool) → mask_has ws (P.slot j) ≡ b
            → Counted P.n v (lowest_slot P (j + 1)) (c + flag (mask_has ws (P.slot j)))
        go true q = rw q (counted-entry kept-along j here e (overflows (omega (arith, ap flag q))))
        go false q = rw (q, add-zero c) (counted-pass kept-along j here e (inline (omega (arith, ap flag q))))

    module _ {d₀ : List ℕ} {p₀ : ℕ} {d : List ℕ} {p : ℕ}
        (e : EntriesLeft P.n (masked_distance Keep P ws) d₀ p₀ (lowest_slot P j) d p) where
      kept_put : 0 < mask_value ws (P.slot j) → (slot x : ℕ) (d' : List ℕ) (p' : ℕ) → slot ≡ P.slot j
          → x ≡ P.distance j
          → d' ≡ sets d p (le 8 slot ++ le 4 x) → p' ≡ p + 12
          → EntriesLeft P.n v d₀ p₀ (lowest_slot P (j + 1)) d' p'
      kept_put on slot x d' p' at is put next =
          entries-entry kept-along j here e (overflows on) slot x d' p' at (is ∙ sym (value_set on)) put next

      -- what is written for an entry that is not kept is written over
      kept-over : mask_value ws (P.slot j) ≤ 0 → p < p₀ + 12 * overflow_count P.n v → (slot x : ℕ) (d' : List ℕ)
          → d' ≡ sets d p (le 8 slot ++ le 4 x) → EntriesLeft P.n v d₀ p₀ (lowest_slot P (j + 1)) d' p
      kept-over off more slot x d' put =
          let passed = entries-pass kept-along j here e (inline off) in
          entries_over passed slot x d' (entries-left passed more).0 put

      pub kept_more : p < p₀ + 12 * overflow_count P.n (masked_distance Keep P ws) → (slot x bit : ℕ) (d' : List ℕ)
          → slot ≡ P.slot j
          → x ≡ P.distance j → bit ≡ mask_value ws slot → d' ≡ sets d p (le 8 slot ++ le 4 x)
          → EntriesLeft P.n (masked_distance Keep P ws) d₀ p₀ (lowest_slot P (j + 1)) d' (p + 12 * flag (ltb 0 bit))
      kept_more more slot x bit d' at is set put = go (mask_has ws (P.slot j)) refl
        where
          go : (b : Bool) → mask_has ws (P.slot j) ≡ b
              → EntriesLeft P.n v d₀ p₀ (lowest_slot P (j + 1)) d' (p + 12 * flag (ltb 0 bit))
          go true q =
              let on : bit ≡ 1 = set ∙ rw (at, q) in
              rw on (kept_put (omega (arith, ap flag q)) slot x d' (p + 12) at is put (omega arith))
          go false q =
              let off : bit ≡ 0 = set ∙ rw (at, q) in
              rw (off, add-zero p) (kept-over (omega (arith, ap flag q)) more slot x d' put)

-- no distance of the result is too large
pub kept_small : (b : List ℕ) (n k : ℕ) → CheckedMap b n k → Bytes b → (ws : List ℕ)
    → n ≡ first_below (λ (i : ℕ). ltb max_distance (masked_distance Keep (file_parts b n k) ws i)) n
kept_small b n k c bytes ws =
    let P : Parts = file_parts b n k in
    sym
    (first_below-none (λ (i : ℕ). ltb max_distance (masked_distance Keep P ws i)) n
    (λ i h.
    le-ltb max_distance (masked_distance Keep P ws i)
    (omega (arith, kept-le (mask_has ws i) (value_of P i), value-lt b n k c bytes i h))))
