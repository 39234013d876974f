-- Laws of the primary bytes, less 1, and of a block of them.
--   raised_byte-hole    the distance of byte 255
--   capped x         the distance that byte x stands for: the largest one for byte 255; capped-full, -inline
--   AllBytes fs      the frames fs are bytes
--   caps fs i        what the bytes of slot i stand for, in each of the frames fs
--   bytes-nearest    the pass over the bytes yields the nearest of them
--   part_length, bytes-turn    the part of a frame that a block takes; the block lowered by it
--   left_block       past a block, where a list of distances is written block by block
--   raised-block     a block that every frame has lowered, as distances
-- Axioms: none.
use Rattle.std.proofs.Common.{◌≡◌, ℕ, suc, ◌+◌, ◌-◌, ◌<◌, ◌≤◌, min, cond, eqb, List, [], ◌∷◌, map, length, get_or, take, drop, sym, ap, ◌∙◌, subst, ap₂, zero-add, arith, length-drop, length-take-le, get_or-drop, get_or-take}
use native.Mathlib.Decide.{dec_le}
use Rattle.std.proofs.lemmas.Bool.Decides.{nat_tests}
use mathlib.Core.List.{foldl}
use Rattle.pciv_bytes.specs.LittleEndian.{Bytes}
use Rattle.pciv_bytes.specs.Ranges.{table}
use Rattle.pciv_bytes.proofs.RangesLaws.{table-shift, table_done}
use Rattle.pciv_bytes.proofs.WriteLaws.{Left, left-part, left_end}
use lib.Seq.{sets}
use Rattle.pciv_format.specs.Layout.{max_distance, at}
use Rattle.pciv_bundle_nearest.specs.Nearest.{nearer, nearest_of}
use Rattle.pciv_bundle_nearest.specs.Passes.{lowered_byte, raised_byte, byte_step, nearest_byte, Changed}
use Rattle.pciv_bundle_nearest.proofs.NearestLaws.{nearer-right, nearer-assoc}
use Rattle.pciv_bundle_nearest.proofs.ChangedLaws.{changed-cong}

-- ---- one byte

pub raised_byte-hole : (m : ℕ) → m ≡ 255 → raised_byte m ≡ 0
unfolding raised_byte
raised_byte-hole m e = grind (arith, nat_tests)

-- the distance that a byte stands for: the largest one for byte 255
abbrev pub capped : ℕ → ℕ
capped x = cond (eqb x 255) max_distance x

pub capped-full : (x : ℕ) → x ≡ 255 → capped x ≡ max_distance
capped-full x e = grind (arith, nat_tests)

pub capped-inline : (x : ℕ) → x < 255 → capped x ≡ x
capped-inline x h = grind (arith, nat_tests)

module _ (m x : ℕ) (hm : m < 256) (hx : x < 256) where
  lowered-lt : lowered_byte m x < 256
  unfolding lowered_byte
  lowered-lt = omega arith

  -- lowered by byte x, it is the nearer distance
  raised-lowered : raised_byte (lowered_byte m x) ≡ nearer (raised_byte m) (capped x)
  unfolding lowered_byte raised_byte
  raised-lowered = grind (arith, nat_tests)

-- ---- all frames at one slot

abbrev pub AllBytes : List (List ℕ) → Type 0
AllBytes fs = (f : ℕ) → f < length fs → Bytes (get_or fs f [])

-- what the bytes stand for
abbrev pub caps : List (List ℕ) → ℕ → List ℕ
caps fs i = map (λ (b : List ℕ). capped (at b (40 + i))) fs

pub bytes-nearest : (fs : List (List ℕ)) (i m : ℕ) → AllBytes fs → m < 256
    → raised_byte (foldl (byte_step i) m fs) ≡ nearer (raised_byte m) (nearest_of (caps fs i))
unfolding nearest_of
bytes-nearest [] i m bytes small = sym (nearer-right (raised_byte m))
bytes-nearest (b ∷ fs) i m bytes small =
    let x : ℕ = at b (40 + i) in
    let byte : x < 256 = bytes 0 (omega arith) (40 + i) in
    let rest : ℕ = nearest_of (caps fs i) in
    bytes-nearest fs i (lowered_byte m x) (λ f h. bytes (suc f) (omega arith)) (lowered-lt m x small byte)
    ∙ ap (λ (y : ℕ). nearer y rest) (raised-lowered m x small byte)
    ∙ nearer-assoc (raised_byte m) (capped x) rest

-- ---- a block

pub part_length : (b : List ℕ) (start len : ℕ) → 40 + start + len ≤ length b
    → length (take len (drop (40 + start) b)) ≡ len
part_length b start len inside = length-take-le len (drop (40 + start) b) (simp length-drop (omega arith))

-- one frame's turn, b as the code has it
module _ (b frame : List ℕ) (is : b ≡ frame) {old new : List ℕ} where
  pub bytes-turn : (start len size : ℕ) → 40 + start + len ≤ length b → size ≡ len
      → (let part : List ℕ = take size (drop (40 + start) b) in
      Changed (λ (t m : ℕ). lowered_byte m (at part t)) (length part) old new
      → Changed (λ (t m : ℕ). byte_step (start + t) m frame) len old new)
  bytes-turn start len size inside all c =
      let part : List ℕ = take size (drop (40 + start) b) in
      let cut : part ≡ take len (drop (40 + start) b) = ap (λ (z : ℕ). take z (drop (40 + start) b)) all in
      let long : length part ≡ len = ap length cut ∙ part_length b start len inside in
      let same : (t : ℕ) → t < len → at part t ≡ at frame (40 + (start + t)) =
      λ t h.
      ap (λ (l : List ℕ). at l t) cut
      ∙ get_or-take len (drop (40 + start) b) t 0 h
      ∙ get_or-drop (40 + start) b t 0
      ∙ ap₂ at is (omega arith) in
      changed-cong (subst (λ (l : ℕ). Changed (λ (t m : ℕ). lowered_byte m (at part t)) l old new) long c)
      (λ (t m : ℕ). byte_step (start + t) m frame) (λ t m h. ap (lowered_byte m) (same t h))

-- a block of 4096 slots on, or of as many as there are
pub left_block : {v : ℕ → ℕ} {n : ℕ} {out₀ out : List ℕ} {start : ℕ} → Left v n out₀ out start → start < n
    → (len : ℕ) → len ≡ min 4096 (n - start) → (next : List ℕ) → next ≡ sets out start (table v start len)
    → Left v n out₀ next (start + 4096)
left_block {v} {n} {out₀} {out} {start} left more len is next e =
    let on : Left v n out₀ next (start + len) = left-part left len next (omega arith) e in
    elim (dec_le (n - start) 4096) [
      | yes d ↦ record {
        same = on.same;
        rest = sym (ap (sets next (start + 4096)) (table_done v n (start + 4096) (omega arith)) ∙ left_end on (omega arith));
      }
      | no d ↦ (let full : len ≡ 4096 = omega arith in subst (λ (z : ℕ). Left v n out₀ next (start + z)) full on)
    ]

-- a block that every frame has lowered, as distances
pub raised-block : (fs : List (List ℕ)) (start len : ℕ) {old new : List ℕ}
    → Changed (λ (t m : ℕ). foldl (byte_step (start + t)) m fs) len old new → ((i : ℕ) → i < len → at old i ≡ 255)
    → table (λ (i : ℕ). raised_byte (at new i)) 0 len ≡ table (nearest_byte fs) start len
raised-block fs start len {old} {new} c full =
    table-shift (λ (i : ℕ). raised_byte (at new i)) (nearest_byte fs) 0 start len
    (λ j h. rw (zero-add j)
    (ap raised_byte (c.each j h ∙ ap (λ (m : ℕ). foldl (byte_step (start + j)) m fs) (full j h))))
