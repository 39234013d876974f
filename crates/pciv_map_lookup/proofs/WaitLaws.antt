-- Laws of a walk over a list of slots that writes what is stored inline, while the places of slots in overflow wait.
--   Waits P xs ps c i             i slots are passed, and the first c places of ps wait: their slots are in overflow
--   waits-places                  so it is up to the end of the list
--   Filled g xs d₀ d ps c i       filling these places of d with g of their slots, and writing g of the slots from i on,
--                                 gives g of all slots, written over d₀
--   Walk P xs d₀ e₀ d e ps c i    this of two lists, one for distances and one for the numbers of entries
--   walk_start, walk_more         the walk begins, and goes on with the next slot
--   walk-filled, walk_end         the eight places are filled; the last places are
-- Axioms: none.
use mathlib.Core.Path.{◌≡◌, refl, sym, ap, ◌∙◌}
use mathlib.Core.Bool.{Bool, true, false}
use mathlib.Core.List.{List, map}
use Prim.Native.Nat.{ℕ, ◌+◌, ◌≤◌, ◌<◌}
use native.Mathlib.Nat.{add-zero}
use native.Mathlib.Omega.{arith}
use native.Mathlib.Decide.{dec_le, ℕ_discrete}
use lib.ListN.{length, get_or, set, take, drop, replicate, length-set, length-map, get_or-map}
use lib.Seq.{sets, length-take-le, get_or-take, get_or-set_same, get_or-set_other, set-set, take-set-le}
use lib.Dec.{eqb}
use borrow.Author.Tests.{eq-eqb, ne_eqb}
use Rattle.pciv_bytes.specs.Ranges.{flag}
use Rattle.pciv_bytes.proofs.RangesLaws.{true-false}
use Rattle.pciv_bytes.proofs.WriteLaws.{sets-copy-more, sets-copy-end, set-before-sets}
use Rattle.pciv_format.specs.Parts.{Parts, entry_of, value_of, SoundParts}
use Rattle.pciv_format.proofs.PartsLaws.{entry_of-inline, value_of-inline}
use Rattle.pciv_map_lookup.specs.Eight.{at_place, OverflowPlace, OverflowPlaces, sets_at}
use Rattle.pciv_map_lookup.proofs.EightLaws.{sets_at-last, sets_at-sets, sets_at-none}

-- ---- the places

pub record Waits (P : Parts) (xs ps : List ℕ) (c i : ℕ) : Type 0 where
  pub reached : i ≤ length xs
  pub eight : length ps ≡ 8
  pub overflows : OverflowPlaces P xs i ps c

overflow-later : {P : Parts} {xs : List ℕ} {b b' p p' : ℕ} → p' ≡ p → b ≤ b' → OverflowPlace P xs b p
    → OverflowPlace P xs b' p'
overflow-later e h f =
    rw e (record { before = omega (arith, f.before); inside = f.inside; overflows = f.overflows })

module _ (P : Parts) (xs : List ℕ) where
  waits_start : Waits P xs (replicate 8 0) 0 0
  waits_start =
      record {
        reached = omega arith;
        eight = refl;
        overflows = record { long = omega arith; each = λ q h. absurd (omega arith) };
      }

  module _ (ps : List ℕ) (c i : ℕ) (w : Waits P xs ps c i) where
    -- the places before the next one
    overflow-kept : (q : ℕ) → q < c → OverflowPlace P xs (i + 1) (get_or (set ps c i) q 0)
    overflow-kept q h =
        overflow-later (get_or-set_other ps c q i 0 (λ e. omega arith)) (omega arith) (w.overflows.each q h)

    module _ (few : c < 8) (more : i < length xs) where
      waits-inline : Waits P xs (set ps c i) c (i + 1)
      waits-inline =
          record {
            reached = omega arith;
            eight = simp length-set w.eight;
            overflows = record { long = simp length-set w.overflows.long; each = overflow-kept };
          }

      waits-overflow : get_or xs i 0 < P.n → P.byte (get_or xs i 0) ≡ 255 → Waits P xs (set ps c i) (c + 1) (i + 1)
      waits-overflow inside full =
          record {
            reached = omega arith;
            eight = simp length-set w.eight;
            overflows = record {
              long = simp length-set (omega (arith, w.eight));
              each = λ q h.
                  elim (dec_le c q) [
                    | yes e ↦ (let here : q ≡ c = omega arith in
                        rw here
                        (overflow-later {b = i + 1} (get_or-set_same ps c i 0 (omega (arith, w.eight))) (omega arith)
                        (record { before = omega arith; inside = inside; overflows = full })))
                    | no e ↦ overflow-kept q (omega arith)
                  ];
            };
          }

      -- x is the byte of the next slot
      waits-more : get_or xs i 0 < P.n → (x : ℕ) → x ≡ P.byte (get_or xs i 0)
          → Waits P xs (set ps c i) (c + flag (eqb x 255)) (i + 1)
      waits-more inside x is =
          elim (ℕ_discrete x 255) [
            | yes full ↦ rw (eq-eqb x 255 full) (waits-overflow inside (sym is ∙ full))
            | no other ↦ rw (ne_eqb x 255 other, add-zero c) waits-inline
          ]

    pub waits-places : OverflowPlaces P xs (length xs) ps c
    waits-places =
        record {
          long = w.overflows.long;
          each = λ q h. overflow-later refl w.reached (w.overflows.each q h);
        }

    waits-filled : Waits P xs ps 0 i
    waits-filled =
        record {
          reached = w.reached;
          eight = w.eight;
          overflows = record { long = omega arith; each = λ q h. absurd (omega arith) };
        }

-- ---- a list that is written on the way

pub record Filled (g : ℕ → ℕ) (xs d₀ d ps : List ℕ) (c i : ℕ) : Type 0 where
  pub same : length d ≡ length d₀
  pub rest : sets d₀ 0 (map g xs) ≡ sets_at (at_place g xs) (take c ps) (sets d i (drop i (map g xs)))

module _ (g : ℕ → ℕ) (xs d₀ : List ℕ) where
  filled-start : Filled g xs d₀ d₀ (replicate 8 0) 0 0
  filled-start = record { same = refl; rest = sym (sets_at-none (at_place g xs) _) }

  module _ (P : Parts) (d ps : List ℕ) (c i : ℕ) (w : Waits P xs ps c i) (f : Filled g xs d₀ d ps c i) where
    module _ (few : c < 8) (more : i < length xs) where
      -- what belongs to place i is the next to be written
      rest_more : sets d₀ 0 (map g xs)
          ≡ sets_at (at_place g xs) (take c ps) (sets (set d i (at_place g xs i)) (i + 1) (drop (i + 1) (map g xs)))
      rest_more =
          let l : List ℕ = map g xs in
          f.rest
          ∙ ap (sets_at (at_place g xs) (take c ps))
          (sets-copy-more l d (g 0) i i (i + 1) (rw length-map more) refl
          ∙ ap (λ (x : ℕ). sets (set d i x) (i + 1) (drop (i + 1) l)) (get_or-map g xs i 0))

      -- x is written there; it may be wrong where the place waits
      filled_more : (wait : Bool) (x : ℕ) → (wait ≡ false → at_place g xs i ≡ x)
          → Filled g xs d₀ (set d i x) (set ps c i) (c + flag wait) (i + 1)
      filled_more true x right =
          let h : ℕ → ℕ = at_place g xs in
          let tail : List ℕ = drop (i + 1) (map g xs) in
          record {
            same = simp length-set f.same;
            rest = rest_more
                ∙ ap (λ (m : List ℕ). sets_at h (take c ps) (sets m (i + 1) tail)) (sym (set-set d i x (h i)))
                ∙ ap (sets_at h (take c ps)) (sym (set-before-sets tail (set d i x) i (i + 1) (h i) (omega arith)))
                ∙ sym (sets_at-last h ps (sets (set d i x) (i + 1) tail) c i (omega (arith, w.eight)));
          }
      filled_more false x right =
          rw (add-zero c)
          (record {
            same = simp length-set f.same;
            rest = rw (take-set-le c ps c i (omega arith)) (rw (right refl) at rest_more);
          })

    -- the places are filled
    rest-filled : (d' : List ℕ) → d' ≡ sets_at (at_place g xs) (take c ps) d
        → sets d₀ 0 (map g xs) ≡ sets d' i (drop i (map g xs))
    rest-filled d' e =
        f.rest
        ∙ sets_at-sets (at_place g xs) (take c ps) d (drop i (map g xs)) i
        (λ q h.
        (let hc : q < c = rw (length-take-le c ps w.overflows.long) at h in
        rw (get_or-take c ps q 0 hc) (w.overflows.each q hc).before))
        ∙ ap (λ (m : List ℕ). sets m i (drop i (map g xs))) (sym e)

    filled-again : (d' : List ℕ) → length d' ≡ length d → d' ≡ sets_at (at_place g xs) (take c ps) d
        → Filled g xs d₀ d' ps 0 i
    filled-again d' same e =
        record { same = same ∙ f.same; rest = rest-filled d' e ∙ sym (sets_at-none (at_place g xs) _) }

    filled-end : (d' : List ℕ) → length xs ≤ i → d' ≡ sets_at (at_place g xs) (take c ps) d
        → d' ≡ sets d₀ 0 (map g xs)
    filled-end d' done e = sym (rest-filled d' e ∙ sets-copy-end (map g xs) d' i i (rw length-map done))

-- ---- both lists

pub record Walk (P : Parts) (xs d₀ e₀ d e ps : List ℕ) (c i : ℕ) : Type 0 where
  pub places : Waits P xs ps c i
  pub distances : Filled (value_of P) xs d₀ d ps c i
  pub entries : Filled (entry_of P) xs e₀ e ps c i

module _ (P : Parts) (sound : SoundParts P) (xs d₀ e₀ : List ℕ) where
  pub walk_start : Walk P xs d₀ e₀ d₀ e₀ (replicate 8 0) 0 0
  walk_start =
      record {
        places = waits_start P xs;
        distances = filled-start (value_of P) xs d₀;
        entries = filled-start (entry_of P) xs e₀;
      }

  module _ (d e ps : List ℕ) (c i : ℕ) (w : Walk P xs d₀ e₀ d e ps c i) where
    -- x is the byte of the next slot
    pub walk_more : c < 8 → i < length xs → get_or xs i 0 < P.n → (x : ℕ) → x ≡ P.byte (get_or xs i 0) → x < 256
        → Walk P xs d₀ e₀ (set d i x) (set e i P.k) (set ps c i) (c + flag (eqb x 255)) (i + 1)
    walk_more few more inside x is byte =
        let inline : eqb x 255 ≡ false → P.byte (get_or xs i 0) < 255 =
        λ q.
        elim (dec_le 255 x) [
          | yes h ↦ absurd (true-false (sym (eq-eqb x 255 (omega arith)) ∙ q))
          | no h ↦ omega arith
        ] in
        record {
          places = waits-more P xs ps c i w.places few more inside x is;
          distances =
              filled_more (value_of P) xs d₀ P d ps c i w.places w.distances few more (eqb x 255) x
              (λ q. value_of-inline P sound (get_or xs i 0) (inline q) ∙ sym is);
          entries =
              filled_more (entry_of P) xs e₀ P e ps c i w.places w.entries few more (eqb x 255) P.k
              (λ q. entry_of-inline P sound (get_or xs i 0) (inline q));
        }

    -- the places are filled in both
    module _ (d' e' : List ℕ) (d_is : d' ≡ sets_at (at_place (value_of P) xs) (take c ps) d)
        (e_is : e' ≡ sets_at (at_place (entry_of P) xs) (take c ps) e) where
      pub walk-filled : length d' ≡ length d → length e' ≡ length e → Walk P xs d₀ e₀ d' e' ps 0 i
      walk-filled d_same e_same =
          record {
            places = waits-filled P xs ps c i w.places;
            distances = filled-again (value_of P) xs d₀ P d ps c i w.places w.distances d' d_same d_is;
            entries = filled-again (entry_of P) xs e₀ P e ps c i w.places w.entries e' e_same e_is;
          }

      pub walk_end : length xs ≤ i → (d' ≡ sets d₀ 0 (map (value_of P) xs)) × (e' ≡ sets e₀ 0 (map (entry_of P) xs))
      walk_end end = (
        filled-end (value_of P) xs d₀ P d ps c i w.places w.distances d' end d_is,
        filled-end (entry_of P) xs e₀ P e ps c i w.places w.entries e' end e_is,
      )
