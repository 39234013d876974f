-- The kept entries, written one after another.
--   Putting            of the entries below j those kept are written, the next one goes to `place`
--   putting-start, -skip, -more, -end    before the first entry; past one that is dropped, and one that is kept; all
--   putting-room       there is space for a kept entry
-- Axioms: none.
use mathlib.Core.Path.{◌≡◌, sym, ap, ap₂, ◌∙◌}
use Prim.Native.Nat.{ℕ, ◌+◌, ◌*◌, ◌≤◌, ◌<◌}
use native.Mathlib.Omega.{arith}
use mathlib.Core.Bool.{true, false}
use mathlib.Core.List.{List, ◌++◌}
use lib.ListN.{length}
use lib.Seq.{sets}
use Rattle.pciv_bytes.specs.LittleEndian.{le}
use Rattle.pciv_format.specs.Layout.{at}
use Rattle.pciv_format.specs.Parts.{Parts}
use Rattle.pciv_close.specs.Close.{EntriesLeft}
use Rattle.pciv_close.proofs.SoundLaws.{entries-start, entries-more, entries-end}
use Rattle.pciv_repair_file.specs.Repaired.{is_kept, kept_entries, kept_parts, kept_bytes}
use Rattle.pciv_repair_file.proofs.KeptLaws.{kept-number}
use Rattle.pciv_repair_file.proofs.WalkLaws.{kept_count, kept_count-none, kept_count-kept, kept_count-dropped}
use Rattle.pciv_repair_file.proofs.WalkLaws.{kept_count-all}

module _ (P : Parts) (start : ℕ) (d₀ : List ℕ) where
  abbrev left : ℕ → List ℕ → Type 0
  left c d = EntriesLeft (kept_parts P).slot (kept_parts P).distance (length (kept_entries P)) start d₀ c d

  pub record Putting (j place : ℕ) (d : List ℕ) : Type 0 where
    pub place_is : place ≡ start + 12 * kept_count P j
    pub rest : left (kept_count P j) d

  pub putting-start : Putting 0 start d₀
  putting-start =
      record {
        place_is = omega (arith, kept_count-none P);
        rest = rw (kept_count-none P)
            (entries-start (kept_parts P).slot (kept_parts P).distance (length (kept_entries P)) start d₀);
      }

  module _ (j place : ℕ) (d : List ℕ) (e : Putting j place d) where
    pub putting-skip : is_kept P j ≡ false → Putting (j + 1) place d
    putting-skip dropped =
        let same = kept_count-dropped P j dropped in
        record { place_is = omega (arith, e.place_is, same); rest = rw same e.rest }

    module _ (inside : j < P.k) (kept : is_kept P j ≡ true) where
      number : (kept_count P j < length (kept_entries P)) × (at (kept_entries P) (kept_count P j) ≡ j)
      number = kept-number P j inside kept

      pub putting-room : start + 12 * length (kept_entries P) ≤ length d₀ → place + 12 ≤ length d
      putting-room room = omega (arith, e.place_is, number.0, e.rest.size)

      pub putting-more : (next : ℕ) (d' : List ℕ) → next ≡ place + 12
          → d' ≡ sets d place (le 8 (P.slot j) ++ le 4 (P.distance j)) → Putting (j + 1) next d'
      putting-more next d' next_is put =
          let more = kept_count-kept P j kept in
          record {
            place_is = omega (arith, e.place_is, next_is, more);
            rest = rw more
                (entries-more _ _ _ start d₀ (kept_count P j) d e.rest number.0 d'
                (put
                ∙ ap₂ (λ (x : ℕ) (i : ℕ). sets d x (le 8 (P.slot i) ++ le 4 (P.distance i))) e.place_is
                (sym number.1)));
          }

    pub putting-end : j ≡ P.k → d ≡ sets d₀ start (kept_bytes P)
    unfolding kept_bytes
    putting-end end =
        entries-end (kept_parts P).slot (kept_parts P).distance (length (kept_entries P)) start d₀ (kept_count P j) d
        e.rest (omega (arith, kept_count-all P, ap (kept_count P) end))
