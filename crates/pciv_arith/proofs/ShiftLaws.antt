-- What `shift` answers and leaves, case by case: a refused file, or a map with counts s that is shifted down or up.
--   checked                   what the check has shown
--   up_small                  a shift up is by less than 2^31
--   up_is, down_is            the distances raised or lowered by m are the shifted ones
--   shift-refused             the file is refused, and the buffer stays
--   shift-written             else the file of the shifted map is written
-- Axioms: none.
use Rattle.std.proofs.Common.{Ok, Err}
use mathlib.Core.Path.{◌≡◌, sym, ap, ◌∙◌}
use Prim.Native.Nat.{ℕ, suc, ◌+◌, ◌^◌, ◌<◌}
use native.Mathlib.Omega.{arith}
use mathlib.Core.Bool.{cond}
use mathlib.Core.List.{List}
use lib.ListN.{length}
use lib.IntN.{ℤ, pos, negsuc}
use lib.Dec.{eqb}
use mir.Syntax.{w32}
use mir.Val.{SFits}
use Rattle.pciv_format.specs.Layout.{at}
use Rattle.pciv_format.specs.Parts.{Parts, value_of}
use Rattle.pciv_format.specs.Check.{file_parts, counts_file, CheckedMap}
use Rattle.pciv_format.specs.Read.{list_of}
use Rattle.pciv_format.specs.Write.{map_into, file_buffer}
use Rattle.pciv_format.specs.Arith.{shifted_by, shift_outcome, shift_buffer}
use Rattle.pciv_format.specs.declared.Counts.{Counts}
use Rattle.pciv_format.specs.Refusals.{Outcome}
use Rattle.pciv_format.specs.declared.Refusal.{Refusal}
use Rattle.pciv_format.specs.declared.Summary.{Summary}
use Rattle.pciv_format.proofs.CheckLaws.{done-counts}
use Rattle.pciv_format.proofs.ReadLaws.{length-list_of, at-list}
use Rattle.pciv_format.proofs.ZeroLaws.{shift-up, shift-down}
use Rattle.pciv_build.proofs.IntoLaws.{map-written}
use Rattle.pciv_arith_add.specs.Addition.{added_at}
use Rattle.pciv_arith_add.specs.declared.addend.Addend.TheVariants.{Number}
use Rattle.pciv_arith_lower.specs.Lowered.{lowered, lowered_at}
use Rattle.pciv_arith.specs.Direction.{direction_of}
use Rattle.pciv_arith.specs.declared.Direction.TheVariants.{Down, Up}

-- ---- which way

pub up_small : (d : ℤ) (m : ℕ) → SFits w32 d → Up m ≡ direction_of d → m < 2 ^ 31
up_small (pos x) m h e = let same : m ≡ x = cc in omega (arith, h.sfits)
up_small (negsuc x) m h e = let z : ◌≡◌ {A = ℕ} 0 1 = cc in absurd (omega arith)

-- ---- a distance

raise-is : (d : ℤ) (m x : ℕ) → Up m ≡ direction_of d → cond (eqb x 0) 0 (x + m) ≡ shifted_by d x
raise-is (pos y) m x e = let same : m ≡ y = cc in rw same (sym (shift-up y x))
raise-is (negsuc y) m x e = let z : ◌≡◌ {A = ℕ} 0 1 = cc in absurd (omega arith)

lower-is : (d : ℤ) (m x : ℕ) → Down m ≡ direction_of d → lowered m x ≡ shifted_by d x
lower-is (pos y) m x e = let z : ◌≡◌ {A = ℕ} 0 1 = cc in absurd (omega arith)
lower-is (negsuc y) m x e = let same : m ≡ suc y = cc in rw same (sym (shift-down y x))

-- ---- the map

pub shift-refused : (b : List ℕ) (r : Refusal) → counts_file 1 b ≡ Err r → (d : ℤ) (out : List ℕ)
    → (Err r ≡ (shift_outcome b d (length out))) × (out ≡ shift_buffer b d out)
unfolding shift_outcome shift_buffer
shift-refused b r e d out = (rw e, rw e)

module _ (b : List ℕ) (s : Counts) (e : counts_file 1 b ≡ Ok s) (d : ℤ) where
  pub checked : CheckedMap b s.n s.k
  checked = (done-counts 1 b s e).0

  abbrev P : Parts
  P = file_parts b s.n s.k

  abbrev shifted : ℕ → ℕ
  shifted i = shifted_by d (at (list_of b) i)

  -- a v that is the shifted map
  module _ (v : ℕ → ℕ) (is : (i : ℕ) → v i ≡ shifted_by d (value_of P i)) where
    same : (i : ℕ) → i < s.n → v i ≡ shifted i
    same i h =
        is i ∙ ap (shifted_by d) (sym (at-list b s.n s.k checked.header.n_is checked.header.k_is i h))

    pub shift-written : (out d' : List ℕ) (x : Outcome Summary) → x ≡ (map_into s.n v (length out))
        → d' ≡ file_buffer (map_into s.n v (length out)) s.n v out
        → (x ≡ (shift_outcome b d (length out))) × (d' ≡ shift_buffer b d out)
    unfolding shift_outcome shift_buffer
    shift-written out d' x answer buffer =
        map-written s.n v shifted same (length (list_of b)) (length-list_of b ∙ checked.header.n_is) out d' x
        (shift_outcome b d (length out)) (rw e) answer buffer

  module _ (m : ℕ) where
    pub up_is : Up m ≡ direction_of d → (i : ℕ) → added_at (Number m) P P i ≡ shifted_by d (value_of P i)
    up_is up i = raise-is d m (value_of P i) up

    pub down_is : Down m ≡ direction_of d → (i : ℕ) → lowered_at P m i ≡ shifted_by d (value_of P i)
    down_is down i = lower-is d m (value_of P i) down
