-- Laws of the bytes of a bundle: how many there are, and writing them record by record. fs are the frames.
--   header_bytes n count, frames_bytes fs    the bytes of record 0, and of the frames as records
--   length-bundle_of                 the length of a bundle, which does not depend on n
--   Counted fs f len                len are the bytes of record 0 and the first f frames
--   counted_start, -more, -small, -end    no frame, one more, how few bytes with it, and all
--   Putting fs out₀ out at f        the first f frames are written, up to `at`: what is left to write makes the whole
--   putting-start, -space, -more, -end    no frame, space for one, one more, and all
--   sets-bundle                     record 0, then the frames
--   sets-record, sets-header        a record, and record 0, number by number
-- Axioms: none.
use mathlib.Core.Path.{◌≡◌, refl, sym, ap, ◌∙◌}
use Prim.Native.Nat.{ℕ, ◌+◌, ◌*◌, ◌≤◌, ◌<◌, ◌^◌}
use native.Mathlib.Numerals.{add-one}
use native.Mathlib.Omega.{arith}
use mathlib.Core.List.{List, [], ◌++◌, map}
use lib.ListN.{length, get_or, drop, length-append, drop_of_length-le}
use lib.Seq.{sets, length-sets, drop-cons}
use Rattle.pciv_bytes.specs.LittleEndian.{le}
use Rattle.pciv_bytes.proofs.LittleEndianLaws.{length-le}
use Rattle.pciv_bytes.proofs.WriteLaws.{sets-append}
use Rattle.pciv_bundle_records.specs.Records.{Record, record_of, record_bytes, records_bytes, bundle_records, bundle_of}
use Rattle.pciv_bundle_records.specs.Records.{header_of}
use Rattle.pciv_bundle_records.proofs.RecordBytesLaws.{length-record_bytes}
use Rattle.pciv_bundle.specs.Bundle.{ShortFrames}

abbrev pub header_bytes : ℕ → ℕ → List ℕ
header_bytes n count = record_bytes (header_of n count)

abbrev pub frames_bytes : List (List ℕ) → List ℕ
frames_bytes fs = records_bytes (map (record_of 1) fs)

bundle_of-is : (n : ℕ) (fs : List (List ℕ)) → bundle_of n fs ≡ header_bytes n (length fs) ++ frames_bytes fs
unfolding bundle_of bundle_records records_bytes
bundle_of-is n fs = refl

length-header : (n count : ℕ) → length (header_bytes n count) ≡ 12
length-header n count = length-record_bytes (header_of n count) ∙ simp (length-append, length-le)

pub length-bundle_of : (n : ℕ) (fs : List (List ℕ)) → length (bundle_of n fs) ≡ 12 + length (frames_bytes fs)
length-bundle_of n fs =
    rw (bundle_of-is, length-append) (ap (λ (l : ℕ). l + length (frames_bytes fs)) (length-header n (length fs)))

module _ (fs : List (List ℕ)) (f : ℕ) where
  frames_bytes-more : f < length fs
      → frames_bytes (drop f fs) ≡ record_bytes (record_of 1 (get_or fs f [])) ++ frames_bytes (drop (f + 1) fs)
  unfolding records_bytes
  frames_bytes-more h = ap frames_bytes (drop-cons fs f [] h) ∙ rw add-one

  frames_bytes-end : length fs ≤ f → frames_bytes (drop f fs) ≡ []
  unfolding records_bytes
  frames_bytes-end h = ap frames_bytes (drop_of_length-le fs h)

  -- how many bytes
  length_more : f < length fs
      → length (frames_bytes (drop f fs)) ≡ (6 + length (get_or fs f [])) + length (frames_bytes (drop (f + 1) fs))
  length_more h =
      ap length (frames_bytes-more h)
      ∙ length-append (record_bytes (record_of 1 (get_or fs f []))) (frames_bytes (drop (f + 1) fs))
      ∙ ap (λ (l : ℕ). l + length (frames_bytes (drop (f + 1) fs))) (length-record_bytes (record_of 1 (get_or fs f [])))

-- ---- counting

pub record Counted (fs : List (List ℕ)) (f len : ℕ) : Type 0 where
  pub inside : f ≤ length fs
  pub rest : len + length (frames_bytes (drop f fs)) ≡ 12 + length (frames_bytes fs)
  pub small : len ≤ 12 + f * (4 + 2 ^ 32)

pub counted_start : (fs : List (List ℕ)) → Counted fs 0 12
counted_start fs = record { inside = omega arith; rest = refl; small = omega arith }

module _ (fs : List (List ℕ)) (f len : ℕ) (c : Counted fs f len) where
  pub counted-more : ShortFrames fs → f < length fs → (frame : List ℕ) → frame ≡ get_or fs f []
      → Counted fs (f + 1) (len + (6 + length frame))
  counted-more short h frame e =
      record {
        inside = omega arith;
        rest = omega (arith, c.rest, length_more fs f h, ap length e);
        small = omega (arith, c.small, short f h, ap length e);
      }

  -- up to eight frames stay far below the largest number
  pub counted-small : ShortFrames fs → f < length fs → length fs ≤ 8 → (frame : List ℕ) → frame ≡ get_or fs f []
      → len + (6 + length frame) < 2 ^ 40
  counted-small short h few frame e = omega (arith, c.small, short f h, ap length e)

  pub counted-end : length fs ≤ f → (n : ℕ) → len ≡ length (bundle_of n fs)
  counted-end h n = omega (arith, c.rest, ap length (frames_bytes-end fs f h), length-bundle_of n fs)

-- ---- writing the frames, behind record 0

pub record Putting (fs : List (List ℕ)) (out₀ out : List ℕ) (at f : ℕ) : Type 0 where
  pub counted : Counted fs f at
  pub same : length out ≡ length out₀
  pub rest : sets out₀ 12 (frames_bytes fs) ≡ sets out at (frames_bytes (drop f fs))

pub putting-start : (fs : List (List ℕ)) (out : List ℕ) → Putting fs out out 12 0
putting-start fs out = record { counted = counted_start fs; same = refl; rest = refl }

module _ (fs : List (List ℕ)) (out₀ out : List ℕ) (at f : ℕ) (p : Putting fs out₀ out at f) where
  module _ (h : f < length fs) (frame : List ℕ) (is : frame ≡ get_or fs f []) where
    pub putting-space : 12 + length (frames_bytes fs) ≤ length out → at + (6 + length frame) ≤ length out
    putting-space fits = omega (arith, p.counted.rest, length_more fs f h, ap length is)

    pub putting-more : ShortFrames fs → (next : List ℕ) → next ≡ sets out at (record_bytes (record_of 1 frame))
        → Putting fs out₀ next (at + (6 + length frame)) (f + 1)
    putting-more short next e =
        let r : Record = record_of 1 frame in
        record {
          counted = counted-more fs f at p.counted short h frame is;
          same = ap length e ∙ length-sets out at (record_bytes r) ∙ p.same;
          rest =
              p.rest
              ∙ ap (sets out at) (rw (sym is) at (frames_bytes-more fs f h))
              ∙ sets-append (record_bytes r) (frames_bytes (drop (f + 1) fs)) out at
              ∙ rw (length-record_bytes r, ← e);
        }

  pub putting-end : length fs ≤ f → out ≡ sets out₀ 12 (frames_bytes fs)
  putting-end h = sym (p.rest ∙ ap (sets out at) (frames_bytes-end fs f h))

-- record 0, then the frames
pub sets-bundle : (n : ℕ) (fs : List (List ℕ)) (d d₁ : List ℕ) → d₁ ≡ sets d 0 (header_bytes n (length fs))
    → sets d₁ 12 (frames_bytes fs) ≡ sets d 0 (bundle_of n fs)
sets-bundle n fs d d₁ e =
    let h : List ℕ = header_bytes n (length fs) in
    sym
    (ap (sets d 0) (bundle_of-is n fs)
    ∙ sets-append h (frames_bytes fs) d 0
    ∙ rw (length-header n (length fs), ← e))

-- ---- a record, number by number

-- its length, its kind, its payload
pub sets-record : (d : List ℕ) (at kind : ℕ) (payload d₁ d₂ d₃ : List ℕ)
    → d₁ ≡ sets d at (le 4 (2 + length payload)) → d₂ ≡ sets d₁ (at + 4) (le 2 kind)
    → d₃ ≡ sets d₂ (at + 6) payload → d₃ ≡ sets d at (record_bytes (record_of kind payload))
unfolding record_bytes
sets-record d at kind payload d₁ d₂ d₃ e₁ e₂ e₃ =
    let l : List ℕ = le 4 (2 + length payload) in
    let k : List ℕ = le 2 kind in
    let six : at + 6 ≡ at + 4 + 2 = omega arith in
    sym
    (sets-append l (k ++ payload) d at
    ∙ rw (length-le 4 (2 + length payload), ← e₁)
    (sets-append k payload d₁ (at + 4) ∙ rw (length-le 2 kind, ← e₂, ← six, ← e₃)))

-- record 0, whose payload are two numbers
pub sets-header : (d : List ℕ) (n count : ℕ) (d₁ d₂ d₃ d₄ : List ℕ)
    → d₁ ≡ sets d 0 (le 4 8) → d₂ ≡ sets d₁ 4 (le 2 0) → d₃ ≡ sets d₂ 6 (le 4 n) → d₄ ≡ sets d₃ 10 (le 2 count)
    → d₄ ≡ sets d 0 (header_bytes n count)
sets-header d n count d₁ d₂ d₃ d₄ e₁ e₂ e₃ e₄ =
    let payload : List ℕ = le 4 n ++ le 2 count in
    let eight : 2 + length payload ≡ 8 = simp (length-append, length-le) in
    let both : d₄ ≡ sets d₂ 6 payload =
    sym (sets-append (le 4 n) (le 2 count) d₂ 6 ∙ rw (length-le 4 n, ← e₃, ← e₄)) in
    sets-record d 0 0 payload d₁ d₂ d₄ (rw eight e₁) e₂ both
