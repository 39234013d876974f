-- A map whose non-zero distances are lowered by m.
--   low_byte m                           the primary byte that a byte or a distance leads to
--   lowered-bytes-start, -more, -end    the primary bytes, put right one entry a step
--   lowered-along                       it is in overflow only where the map is
--   lowered-slot                        its distance at the slot of entry j
-- Axioms: none.
use mathlib.Core.Path.{◌≡◌, sym, ap, ◌∙◌}
use Prim.Native.Nat.{ℕ, ◌+◌, ◌-◌, ◌≤◌, ◌<◌}
use native.Mathlib.Omega.{arith}
use mathlib.Core.List.{List}
use lib.ListN.{length, set}
use lib.Seq.{sets}
use Rattle.pciv_bytes.specs.Ranges.{table}
use Rattle.pciv_bytes.specs.LittleEndian.{Bytes}
use Rattle.pciv_passes.specs.Pairs.{byte_op, one_at}
use Rattle.pciv_passes.specs.declared.pairs.ByteOp.TheVariants.{Lower}
use Rattle.pciv_bytes.proofs.RangesLaws.{table-cong}
use Rattle.pciv_bytes.proofs.WriteLaws.{set-sets}
use Rattle.pciv_format.specs.Layout.{primary_byte, primary}
use Rattle.pciv_format.specs.Parts.{Parts, SoundParts}
use Rattle.pciv_format.specs.Check.{file_parts, CheckedMap}
use Rattle.pciv_format.proofs.PartsLaws.{primary_byte-min, entry-good, value_of-slot, value_of-inline}
use Rattle.pciv_build.proofs.AlongLaws.{Along}
use Rattle.pciv_format.proofs.MapLaws.{primary_of, primary-length, primary-at}
use Rattle.pciv_format.proofs.PatchLaws.{patched, length-patched, patched-start, patched-more, patched-end}
use Rattle.pciv_arith_lower.specs.Lowered.{lowered, lowered_at}

-- the primary byte that x leads to
abbrev pub low_byte : ℕ → ℕ → ℕ → ℕ
low_byte m i x = primary_byte (lowered m x)

-- ---- the primary bytes

lower-byte : (m x : ℕ) → x < 256 → byte_op Lower x (primary_byte m) ≡ primary_byte (lowered m x)
lower-byte m x h = rw same (omega (arith, primary_byte-min (lowered m x)))
  where
    same : x - primary_byte m ≡ x - m
    same = omega (arith, primary_byte-min m)

module _ (b : List ℕ) (n k m : ℕ) (c : CheckedMap b n k) (bytes : Bytes b) where
  pub lowered-bytes-start : table (one_at Lower (primary_of b n) (primary_byte m)) 0 (length (primary_of b n))
      ≡ patched (low_byte m) (file_parts b n k) 0
  lowered-bytes-start =
      rw (primary-length b n k c)
      (table-cong (one_at Lower (primary_of b n) (primary_byte m)) (λ (i : ℕ). low_byte m i ((file_parts b n k).byte i)) 0 n
      (λ i h.
      ap (λ (x : ℕ). byte_op Lower x (primary_byte m)) (primary-at b n k c i (omega arith))
      ∙ lower-byte m ((file_parts b n k).byte i) (bytes (40 + i)))
      ∙ sym (patched-start (low_byte m) (file_parts b n k) c.parts (λ i. bytes (40 + i))))

  pub lowered-bytes-more : (j : ℕ) (d : List ℕ) → j < k → 40 + n ≤ length d
      → (let P = file_parts b n k in
      set (sets d 40 (patched (low_byte m) P j)) (40 + P.slot j) (primary_byte (lowered m (P.distance j)))
      ≡ sets d 40 (patched (low_byte m) P (j + 1)))
  lowered-bytes-more j d here space =
      let P : Parts = file_parts b n k in
      let long : length (patched (low_byte m) P j) ≡ n = length-patched (low_byte m) P j in
      let inside : P.slot j < n = (entry-good P c.parts j here).inside in
      set-sets d (patched (low_byte m) P j) 40 (P.slot j) (primary_byte (lowered m (P.distance j))) (rw long space)
      (rw long inside)
      ∙ ap (sets d 40) (sym (patched-more (low_byte m) P c.parts (λ i. bytes (40 + i)) j here))

  pub lowered-bytes-end : patched (low_byte m) (file_parts b n k) k ≡ primary n (lowered_at (file_parts b n k) m)
  unfolding primary
  lowered-bytes-end = patched-end (low_byte m) (file_parts b n k) c.parts (λ i. bytes (40 + i))

-- ---- along the overflow entries

pub lowered-along : (P : Parts) → SoundParts P → ((i : ℕ) → P.byte i < 256) → (m : ℕ) → Along P (lowered_at P m)
lowered-along P s bytes m =
    record {
      sound = s;
      bytes = bytes;
      only = λ i inside small. omega (arith, value_of-inline P s i small);
    }

-- at entry j
pub lowered-slot : (P : Parts) → SoundParts P → (m j : ℕ) → j < P.k → lowered_at P m (P.slot j) ≡ lowered m (P.distance j)
lowered-slot P s m j here = ap (lowered m) (value_of-slot P s j here)
