-- Two checked maps as their parts.
--   SoundPair P Q        both are sound, have as many slots, and their distances fit
--   Maps a b n ka kb     two checked files, which are bytes
--   sound                their parts are so
-- Axioms: none.
use mathlib.Core.Path.{◌≡◌, refl}
use Prim.Native.Nat.{ℕ, ◌+◌, ◌^◌, ◌<◌}
use mathlib.Core.List.{List}
use Rattle.pciv_bytes.specs.LittleEndian.{Bytes}
use Rattle.pciv_format.specs.Parts.{Parts, value_of, SoundParts}
use Rattle.pciv_format.specs.Check.{file_parts}
use Rattle.pciv_format.proofs.MapLaws.{value-lt}
use Rattle.pciv_check.specs.Pair.{CheckedPair}

pub record SoundPair (P Q : Parts) : Type 0 where
  pub first : SoundParts P
  pub second : SoundParts Q
  pub bytes-first : (i : ℕ) → P.byte i < 256
  pub bytes-second : (i : ℕ) → Q.byte i < 256
  pub sizes : Q.n ≡ P.n
  pub fits-first : (i : ℕ) → i < P.n → value_of P i < 2 ^ 32
  pub fits-second : (i : ℕ) → i < Q.n → value_of Q i < 2 ^ 32

pub record Maps (a b : List ℕ) (n ka kb : ℕ) : Type 0 where
  pub pair : CheckedPair a b n ka kb
  pub bytes-a : Bytes a
  pub bytes-b : Bytes b

pub sound : {a b : List ℕ} {n ka kb : ℕ} → Maps a b n ka kb → SoundPair (file_parts a n ka) (file_parts b n kb)
sound {a} {b} {n} {ka} {kb} m =
    record {
      first = m.pair.first.parts;
      second = m.pair.second.parts;
      bytes-first = λ i. m.bytes-a (40 + i);
      bytes-second = λ i. m.bytes-b (40 + i);
      sizes = refl;
      fits-first = value-lt a n ka m.pair.first m.bytes-a;
      fits-second = value-lt b n kb m.pair.second m.bytes-b;
    }
