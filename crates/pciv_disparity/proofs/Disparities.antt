-- The theorems about disparity tables and maps of frames (docs/FORMAT.md, "Disparity frames").
--   distance-falls      a larger disparity never has a larger distance
--   distance-quotient   the distance is F / d, rounded down, or 1 where F is below d
--   length-disparity_table, disparity-entry    a table has 256 entries; each is the distance of its disparity
--   disparity-falls     among the entries of a table that are not 0, a larger disparity never has a larger distance
--   disparity-reading   disparity 0, and no other, has the distance 0
--   disparity-le        no entry is above F, and so none above the largest distance (disparity-limit)
--   frame-write         the map of a frame is what `write` writes for the list of the table's entries
--   frame-filled        by a filled table, for the list of the disparities' distances
--   frame-read          what is written is accepted with the answer, and read as that list
-- DisparityCases.antt computes examples. Axioms: none.
use Rattle.std.proofs.Common.{Ok}
use mathlib.Core.Path.{◌≡◌, refl, sym, ap, ◌∙◌}
use Prim.Native.Nat.{ℕ, zero, suc, ◌+◌, ◌*◌, ◌/◌, ◌≤◌, ◌<◌}
use native.Mathlib.Nat.{zero-add, mul-le-mul_left, div-mul-le_self, div-le_self, div-eq_of_lt, lt-mul-div-succ, mul_comm}
use native.Mathlib.Nat.{le-div_iff_mul-le}
use native.Mathlib.Omega.{arith}
use native.Mathlib.Decide.{dec_le}
use mathlib.Core.List.{List, map}
use lib.ListN.{length, replicate, length-map, length-replicate, get_or-eq_default}
use lib.Ieee.Nearest.{div_mono}
use Rattle.pciv_bytes.specs.LittleEndian.{Bytes}
use Rattle.pciv_bytes.specs.ByteAt.{byte_at}
use Rattle.pciv_bytes.proofs.RangesLaws.{length-table, get_or-table, get_or-map_inside, map-cong}
use Rattle.pciv_format.specs.Layout.{max_slots, max_distance, at}
use Rattle.pciv_format.specs.Write.{write_outcome, write_buffer}
use Rattle.pciv_format.specs.declared.Summary.{Summary}
use Rattle.pciv_format.proofs.LayoutLaws.{file-cong, summary-cong}
use Rattle.pciv_format.proofs.ListLaws.{WritesMap, write_read}
use Rattle.pciv_disparity.specs.Disparity.{disparity_distance, disparity_table, frame_distance, frame_outcome}
use Rattle.pciv_disparity.specs.Disparity.{frame_buffer}
use Rattle.pciv_disparity.proofs.DisparityLaws.{distance_none, distance_some, table-refused, table_filled}
use Rattle.pciv_disparity.proofs.DisparityLaws.{frame-long}

-- ---- the distance of a disparity

pub distance-falls : (F d e : ℕ) → 0 < d → d ≤ e → disparity_distance F e ≤ disparity_distance F d
distance-falls F d e some order =
    let quotients : F / e ≤ F / d = div_mono F e F d (omega arith) some (mul-le-mul_left F order) in
    omega (arith, distance_some F d some, distance_some F e (omega arith))

pub distance-quotient : (F d : ℕ) → 0 < d
    → (d ≤ F → (disparity_distance F d * d ≤ F) × (F < (disparity_distance F d + 1) * d))
    × (F < d → disparity_distance F d ≡ 1)
distance-quotient F d some = (large, small)
  where
    small : F < d → disparity_distance F d ≡ 1
    small h = omega (arith, distance_some F d some, div-eq_of_lt h)

    large : d ≤ F → (disparity_distance F d * d ≤ F) × (F < (disparity_distance F d + 1) * d)
    large h =
        let pos : 1 ≤ F / d = (le-div_iff_mul-le some).1 (omega arith) in
        let is : disparity_distance F d ≡ F / d = omega (arith, distance_some F d some) in
        rw is (div-mul-le_self F d, rw (mul_comm (F / d + 1) d) (lt-mul-div-succ F some))

-- ---- tables

pub length-disparity_table : (F : ℕ) → length (disparity_table F) ≡ 256
length-disparity_table F =
    elim (dec_le F 0) [
      | yes d ↦ ap length (table-refused F (omega arith)).1 ∙ length-replicate {A = ℕ} 256 0
      | no d ↦ ap length (table_filled F (omega arith)).1 ∙ length-table (disparity_distance F) 0 256
    ]

zeros-at : (n d : ℕ) → at (replicate n 0) d ≡ 0
zeros-at zero d = refl
zeros-at (suc n) zero = refl
zeros-at (suc n) (suc d) = zeros-at n d

module _ (F d : ℕ) where
  pub disparity-entry : 0 < F → d < 256 → at (disparity_table F) d ≡ disparity_distance F d
  disparity-entry some inside =
      ap (λ (T : List ℕ). at T d) (table_filled F some).1
      ∙ get_or-table (disparity_distance F) 0 0 256 d inside
      ∙ ap (disparity_distance F) (zero-add d)

  -- an entry that is not 0 is one of a filled table, for a disparity other than 0
  reading-is : (at (disparity_table F) d ≡ 0 → ⊥)
      → (0 < F) × (0 < d) × (d < 256) × (at (disparity_table F) d ≡ disparity_distance F d)
  reading-is some =
      elim (dec_le F 0) [
        | yes none ↦ absurd (some
            (ap (λ (T : List ℕ). at T d) (table-refused F (omega arith)).1 ∙ zeros-at 256 d))
        | no F>0 ↦ elim (dec_le 256 d) [
          | yes past ↦ absurd (some
              (get_or-eq_default (disparity_table F) 0 {n = d} (omega (arith, length-disparity_table F))))
          | no inside ↦ (let is = disparity-entry (omega arith) (omega arith) in
              elim (dec_le d 0) [
                | yes none ↦ absurd (some (is ∙ distance_none F d (omega arith)))
                | no d>0 ↦ (omega arith, omega arith, omega arith, is)
              ])
        ]
      ]

  pub disparity-reading : 0 < F → d < 256
      → (at (disparity_table F) d ≡ 0 → d ≡ 0) × (d ≡ 0 → at (disparity_table F) d ≡ 0)
  disparity-reading some inside =
      let is = disparity-entry some inside in (
        λ none.
            elim (dec_le d 0) [
              | yes same ↦ omega arith
              | no d>0 ↦ absurd (omega (arith, distance_some F d (omega arith)))
            ],
        λ same. is ∙ distance_none F d same,
      )

  pub disparity-le : at (disparity_table F) d ≤ F
  disparity-le =
      elim (dec_le (at (disparity_table F) d) 0) [
        | yes none ↦ omega arith
        | no some ↦ (let is = reading-is (λ none. omega arith) in
            omega (arith, is.0, is.3, distance_some F d is.1, div-le_self F d))
      ]

  pub disparity-limit : F ≤ max_distance → at (disparity_table F) d ≤ max_distance
  disparity-limit h = omega (arith, disparity-le)

pub disparity-falls : (F d e : ℕ) → d ≤ e → (at (disparity_table F) d ≡ 0 → ⊥) → (at (disparity_table F) e ≡ 0 → ⊥)
    → at (disparity_table F) e ≤ at (disparity_table F) d
disparity-falls F d e order here there =
    let x = reading-is F d here in
    let y = reading-is F e there in
    rw (x.3, y.3) (distance-falls F d e x.1 order)

-- ---- maps of frames

module _ (T bytes : List ℕ) where
  list_at : (i : ℕ) → i < length bytes → frame_distance T bytes i ≡ at (map (at T) bytes) i
  list_at i h = sym (get_or-map_inside (at T) bytes i 0 0 h)

  list_length : length (map (at T) bytes) ≡ length bytes
  list_length = rw length-map

  -- for every buffer: the answer, and what it holds afterwards
  pub frame-write : (out : List ℕ)
      → (frame_outcome T bytes (length out) ≡ write_outcome (map (at T) bytes) (length out))
      × (frame_buffer T bytes out ≡ write_buffer (map (at T) bytes) out)
  unfolding frame_outcome frame_buffer write_outcome write_buffer
  frame-write out =
      let n : ℕ = length bytes in
      let f = file-cong n (frame_distance T bytes) (at (map (at T) bytes)) list_at in
      let s = summary-cong n (frame_distance T bytes) (at (map (at T) bytes)) list_at in
      rw (list_length, f, s) (refl, refl)

  few : (out : List ℕ) (s : Summary) → frame_outcome T bytes (length out) ≡ Ok s → length bytes ≤ max_slots
  few out s e =
      elim (dec_le (length bytes) max_slots) [
        | yes h ↦ h
        | no long ↦ (let t = (frame-long T bytes out (omega arith)).0 in
            let z : ◌≡◌ {A = ℕ} 0 1 = cc in absurd (omega arith))
      ]

  pub frame-read : ((d : ℕ) → at T d ≤ max_distance) → WritesMap (frame_outcome T bytes) (frame_buffer T bytes) (map (at T) bytes)
  frame-read each out s e =
      let w = frame-write out in
      let inside = few out s e in
      rw w.1
      (write_read (map (at T) bytes)
      (record {
        count = omega (arith, list_length);
        each = λ i h. (let here : i < length bytes = omega (arith, list_length) in
            omega (arith, list_at i here, each (byte_at bytes i)));
      })
      out s (sym w.0 ∙ e))

pub frame-filled : (F : ℕ) → 0 < F → (bytes : List ℕ) → Bytes bytes → (out : List ℕ)
    → (frame_outcome (disparity_table F) bytes (length out) ≡ write_outcome (map (disparity_distance F) bytes) (length out))
    × (frame_buffer (disparity_table F) bytes out ≡ write_buffer (map (disparity_distance F) bytes) out)
frame-filled F some bytes small out =
    let same : map (at (disparity_table F)) bytes ≡ map (disparity_distance F) bytes =
    map-cong (at (disparity_table F)) (disparity_distance F) bytes
    (λ i h. disparity-entry F (byte_at bytes i) some (small i)) in
    rw (← same) (frame-write (disparity_table F) bytes out)
