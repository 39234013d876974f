-- Laws of a list that is changed in place, element by element or frame by frame.
--   changed-more            one more element
--   changed-to              past elements that the change leaves as they are
--   changed-cong            changes that agree
--   Turns G fs n old new f  changing the first n elements by every frame from the start on equals changing them by the
--                           frames from f on
--   turns_more, -end        one more frame, and all
-- Axioms: none.
use Rattle.std.proofs.Common.{◌≡◌, ℕ, suc, ◌+◌, ◌<◌, ◌≤◌, List, [], length, get_or, drop, set, sym, ap, ◌∙◌, add-one, arith, length-set, drop_of_length-le, drop-cons, get_or-set_other, get_or-set_same}
use native.Mathlib.Decide.{dec_le}
use mathlib.Core.List.{foldl}
use Rattle.pciv_format.specs.Layout.{at}
use Rattle.pciv_bundle_nearest.specs.Passes.{Changed}

module _ {g : ℕ → ℕ → ℕ} {n : ℕ} {old new : List ℕ} (c : Changed g n old new) where
  pub changed-more : (x : ℕ) → n < length old → x ≡ g n (at new n) → Changed g (n + 1) old (set new n x)
  changed-more x inside is =
      record {
        same = length-set new n x ∙ c.same;
        each = λ i h.
            elim (dec_le n i) [
              | yes d ↦ (let e : i ≡ n = omega arith in
                  rw e (get_or-set_same new n x 0 (omega (arith, c.same)) ∙ is ∙ ap (g n) (c.rest n (omega arith))))
              | no d ↦ get_or-set_other new n i x 0 (λ q. omega arith) ∙ c.each i (omega arith)
            ];
        rest = λ i h. get_or-set_other new n i x 0 (λ q. omega arith) ∙ c.rest i (omega arith);
      }

  pub changed-to : (t : ℕ) → n ≤ t → ((i x : ℕ) → n ≤ i → i < t → g i x ≡ x) → Changed g t old new
  changed-to t h stays =
      record {
        same = c.same;
        each = λ i hi.
            elim (dec_le n i) [
              | yes d ↦ c.rest i d ∙ sym (stays i (at old i) d hi)
              | no d ↦ c.each i (omega arith)
            ];
        rest = λ i hi. c.rest i (omega arith);
      }

  pub changed-cong : (g' : ℕ → ℕ → ℕ) → ((i x : ℕ) → i < n → g i x ≡ g' i x) → Changed g' n old new
  changed-cong g' agree =
      record { same = c.same; each = λ i h. c.each i h ∙ agree i (at old i) h; rest = c.rest }

-- ---- frame by frame

pub record Turns (G : ℕ → ℕ → List ℕ → ℕ) (fs : List (List ℕ)) (n : ℕ) (old new : List ℕ) (f : ℕ) : Type 0 where
  pub same : length new ≡ length old
  pub each : (i : ℕ) → i < n → foldl (G i) (at old i) fs ≡ foldl (G i) (at new i) (drop f fs)
  pub rest : (i : ℕ) → n ≤ i → at new i ≡ at old i

module _ {G : ℕ → ℕ → List ℕ → ℕ} {fs : List (List ℕ)} {n : ℕ} {old new : List ℕ} {f : ℕ}
    (t : Turns G fs n old new f) where
  pub turns_more : (new' : List ℕ) → f < length fs → Changed (λ (i x : ℕ). G i x (get_or fs f [])) n new new'
      → Turns G fs n old new' (f + 1)
  turns_more new' h c =
      record {
        same = c.same ∙ t.same;
        each = λ i inside.
            t.each i inside ∙ ap (foldl (G i) (at new i)) (drop-cons fs f [] h)
            ∙ rw add-one (ap (λ (x : ℕ). foldl (G i) x (drop (suc f) fs)) (sym (c.each i inside)));
        rest = λ i past. c.rest i past ∙ t.rest i past;
      }

  pub turns-end : length fs ≤ f → Changed (λ (i x : ℕ). foldl (G i) x fs) n old new
  turns-end h =
      record {
        same = t.same;
        each = λ i inside. sym (t.each i inside ∙ ap (foldl (G i) (at new i)) (drop_of_length-le fs h));
        rest = t.rest;
      }
