-- Laws of the beginning of a frame's file, which is made by the primary bytes of the table's entries.
--   byte-is                    a byte is its own primary byte
--   bytes_of-is, bytes-at, bytes-are    these bytes, written out; one of them; each is a byte
--   high_of-is, high-at         256 times each of them, written out; one of these
--   primary-pair               two primary bytes are written as one number
--   bytes-primary, bytes_count     they give the same primary array and the same number of slots in overflow as the table
--   full_is, full-count        the slots in overflow are those with byte 255; their number as a sum
--   begun-short, -fits, -refused, -done    what the beginning leaves, by the length and by the outcome
--   begun-after                the primary array may be written before the header
--   front-opened, front-is     the beginning by these bytes is that by the table
--   counts-k                   k, as it is counted
-- Axioms: none.
use Rattle.std.proofs.Common.{Ok, Err}
use mathlib.Core.Path.{◌≡◌, refl, sym, ap, ◌∙◌}
use Prim.Native.Nat.{ℕ, suc, ◌+◌, ◌*◌, ◌/◌, ◌%◌, ◌≤◌, ◌<◌}
use native.Mathlib.Nat.{zero-add}
use native.Mathlib.Omega.{arith}
use native.Mathlib.Decide.{dec_le}
use mathlib.Core.List.{List, [], ◌∷◌}
use lib.ListN.{length, set, get_or-eq_default}
use lib.Seq.{sets, length-sets}
use lib.Dec.{ltb, eqb}
use borrow.Author.Tests.{lt-ltb, le-ltb}
use Rattle.pciv_bytes.specs.Ranges.{flag, table, sum_from}
use Rattle.pciv_bytes.specs.LittleEndian.{le, Bytes}
use Rattle.pciv_bytes.specs.ByteAt.{byte_at}
use Rattle.pciv_bytes.proofs.RangesLaws.{length-table, get_or-table}
use Rattle.pciv_bytes.proofs.SumLaws.{sum_from-cong}
use Rattle.pciv_bytes.proofs.WriteLaws.{sets-swap}
use Rattle.pciv_format.specs.Layout.{max_slots, primary_byte, in_overflow, primary, overflow_count, file_len, header}
use Rattle.pciv_format.specs.Layout.{counts_of, at}
use Rattle.pciv_format.specs.Refusals.{Outcome}
use Rattle.pciv_format.specs.declared.Counts.{Counts}
use Rattle.pciv_format.specs.declared.Refusal.{Refusal}
use Rattle.pciv_format.proofs.RefusalsLaws.{refuse_if-done}
use Rattle.pciv_format.proofs.PartsLaws.{primary_byte-min, primary_byte-full}
use Rattle.pciv_format.proofs.LayoutLaws.{primary-cong, length-header}
use Rattle.pciv_format.proofs.PrimaryLaws.{PrimaryLeft, primary-more}
use Rattle.pciv_build.specs.Build.{Fits, begin_outcome, begin_buffer}
use Rattle.pciv_build.proofs.BuildLaws.{begin-short, begin-fits, begun}
use Rattle.pciv_build.proofs.ChainLaws.{Opened}
use Rattle.pciv_build.proofs.EntriesLaws.{overflow_count-sum}
use Rattle.pciv_disparity.specs.Disparity.{frame_distance, frame_outcome}
use Rattle.pciv_disparity.specs.Frames.{bytes_of, high_of, begun_buffer, front_outcome, front_buffer}
use Rattle.pciv_disparity.proofs.DisparityLaws.{frame-into}

pub byte-is : (x : ℕ) → x < 256 → x ≡ primary_byte x
byte-is x h = omega (arith, primary_byte-min x)

-- ---- the primary bytes of a table

module _ (T : List ℕ) where
  pub bytes_of-is : bytes_of T ≡ table (λ (d : ℕ). primary_byte (at T d)) 0 256
  unfolding bytes_of
  bytes_of-is = refl

  pub bytes-at : (d : ℕ) → d < 256 → at (bytes_of T) d ≡ primary_byte (at T d)
  unfolding bytes_of
  bytes-at d h =
      get_or-table (λ (d : ℕ). primary_byte (at T d)) 0 0 256 d h ∙ ap (λ (d : ℕ). primary_byte (at T d)) (zero-add d)

  length-bytes : length (bytes_of T) ≡ 256
  unfolding bytes_of
  length-bytes = length-table (λ (d : ℕ). primary_byte (at T d)) 0 256

  pub bytes-are : Bytes (bytes_of T)
  bytes-are d =
      elim (dec_le 256 d) [
        | yes past ↦ omega (arith, get_or-eq_default (bytes_of T) 0 {n = d} (omega (arith, length-bytes)))
        | no inside ↦ omega (arith, bytes-at d (omega arith), primary_byte-min (at T d))
      ]

  module _ (frame : List ℕ) (small : Bytes frame) where
    same_byte : (i : ℕ) → primary_byte (frame_distance (bytes_of T) frame i) ≡ primary_byte (frame_distance T frame i)
    same_byte i =
        let x : ℕ = byte_at frame i in
        omega (
          arith,
          bytes-at x (small i),
          primary_byte-min (at (bytes_of T) x),
          primary_byte-min (at T x),
        )

    pub bytes-primary : (n : ℕ) → primary n (frame_distance (bytes_of T) frame) ≡ primary n (frame_distance T frame)
    bytes-primary n =
        primary-cong n (frame_distance (bytes_of T) frame) (frame_distance T frame) (λ i h. same_byte i)

    pub bytes_count : (n : ℕ)
        → overflow_count n (frame_distance (bytes_of T) frame) ≡ overflow_count n (frame_distance T frame)
    bytes_count n =
        let v : ℕ → ℕ = frame_distance (bytes_of T) frame in
        let w : ℕ → ℕ = frame_distance T frame in
        overflow_count-sum n v
        ∙ sum_from-cong (λ (i : ℕ). flag (in_overflow (v i))) (λ (i : ℕ). flag (in_overflow (w i))) 0 n
        (λ j h₁ h₂.
        ap flag
        (sym (primary_byte-full (v j)) ∙ ap (λ (x : ℕ). eqb x 255) (same_byte j) ∙ primary_byte-full (w j)))
        ∙ sym (overflow_count-sum n w)

-- ---- two bytes as one number

module _ (B : List ℕ) where
  pub high_of-is : high_of B ≡ table (λ (d : ℕ). 256 * at B d) 0 256
  unfolding high_of
  high_of-is = refl

  pub high-at : (d : ℕ) → d < 256 → at (high_of B) d ≡ 256 * at B d
  high-at d h =
      ap (λ (l : List ℕ). at l d) high_of-is
      ∙ get_or-table (λ (d : ℕ). 256 * at B d) 0 0 256 d h
      ∙ ap (λ (d : ℕ). 256 * at B d) (zero-add d)

le-pair : (x y : ℕ) → x < 256 → y < 256 → le 2 (x + 256 * y) ≡ x ∷ y ∷ []
unfolding le
le-pair x y hx hy =
    let low : (x + 256 * y) % 256 ≡ x = omega arith in
    let rest : (x + 256 * y) / 256 ≡ y = omega arith in
    let high : y % 256 ≡ y = omega arith in
    rw (low, rest, high)

pub primary-pair : {n : ℕ} {v : ℕ → ℕ} {d₀ : List ℕ} {i : ℕ} {d : List ℕ} → PrimaryLeft n v d₀ i d → i + 2 ≤ n
    → v i < 256 → v (i + 1) < 256 → (d' : List ℕ) → d' ≡ sets d (40 + i) (le 2 (v i + 256 * v (i + 1)))
    → PrimaryLeft n v d₀ (i + 2) d'
primary-pair {n} {v} {d₀} {i} {d} left h first second d' put =
    let two =
    primary-more (primary-more left (omega arith) (v i) (byte-is (v i) first)) (omega arith) (v (i + 1))
    (byte-is (v (i + 1)) second) in
    let place : 40 + (i + 1) ≡ suc (40 + i) = omega arith in
    let next : i + 1 + 1 ≡ i + 2 = omega arith in
    let is : d' ≡ set (set d (40 + i) (v i)) (40 + (i + 1)) (v (i + 1)) =
    put ∙ rw (le-pair (v i) (v (i + 1)) first second, place) in
    rw (is, ← next) two

-- ---- the slots in overflow

-- a byte is in overflow where it is 255
pub full_is : (x : ℕ) → x < 256 → eqb x 255 ≡ in_overflow x
full_is x h = ap (λ (y : ℕ). eqb y 255) (byte-is x h) ∙ primary_byte-full x

pub full-count : (n : ℕ) (v : ℕ → ℕ) → ((i : ℕ) → i < n → v i < 256)
    → overflow_count n v ≡ sum_from (λ (i : ℕ). flag (eqb (v i) 255)) 0 n
full-count n v small =
    overflow_count-sum n v
    ∙ sum_from-cong (λ (i : ℕ). flag (in_overflow (v i))) (λ (i : ℕ). flag (eqb (v i) 255)) 0 n
    (λ j h₁ h₂. ap flag (sym (full_is (v j) (small j (omega arith)))))

-- ---- header and primary array

module _ (n k : ℕ) (v : ℕ → ℕ) (d : List ℕ) where
  pub begun-short : length d < file_len n k → begun_buffer n k v d ≡ d
  unfolding begun_buffer
  begun-short h = rw (lt-ltb (length d) (file_len n k) h)

  pub begun-fits : file_len n k ≤ length d → begun_buffer n k v d ≡ sets (sets d 0 (header n k)) 40 (primary n v)
  unfolding begun_buffer
  begun-fits h = rw (le-ltb (length d) (file_len n k) h)

  -- as `begin` leaves it, and then the primary array
  pub begun-refused : (r : Refusal) → begin_outcome n k (length d) ≡ Err r → begun_buffer n k v d ≡ begin_buffer n k d
  begun-refused r e =
      elim (dec_le (file_len n k) (length d)) [
        | yes fits ↦ (let t = (begin-fits n k d fits).0 in let z : ◌≡◌ {A = ℕ} 0 1 = cc in absurd (omega arith))
        | no short ↦ begun-short (omega arith) ∙ sym (begin-short n k d (omega arith)).1
      ]

  pub begun-done : (s : Counts) → begin_outcome n k (length d) ≡ Ok s
      → begun_buffer n k v d ≡ sets (begin_buffer n k d) 40 (primary n v)
  begun-done s e =
      let b = begun n k d s e in
      begun-fits b.fits ∙ ap (λ (l : List ℕ). sets l 40 (primary n v)) (sym b.buffer)

  -- the primary array may be written before the header
  pub begun-after : file_len n k ≤ length d → (d₁ d₂ : List ℕ) → d₁ ≡ sets d 40 (primary n v) → d₂ ≡ begin_buffer n k d₁
      → d₂ ≡ begun_buffer n k v d
  begun-after fits d₁ d₂ put next =
      let same : length d₁ ≡ length d = ap length put ∙ length-sets d 40 (primary n v) in
      next
      ∙ (begin-fits n k d₁ (omega arith)).1
      ∙ ap (λ (l : List ℕ). sets l 0 (header n k)) put
      ∙ sets-swap (header n k) (primary n v) d 0 40 (omega (arith, length-header n k))
      ∙ sym (begun-fits fits)

-- ---- the beginning of a file by the primary bytes of a table is that by the table

module _ (T frame : List ℕ) (small : Bytes frame) (few : length frame ≤ max_slots)
    (each : Fits (length frame) (frame_distance T frame)) (d : List ℕ) where
  pub front-opened : (k : ℕ) (a : Outcome Counts) → k ≡ overflow_count (length frame) (frame_distance T frame)
      → a ≡ front_outcome (bytes_of T) frame (length d)
      → Opened (length frame) k (frame_distance T frame) (frame_outcome T frame (length d)) d a
      (begin_buffer (length frame) k d)
  front-opened k a count answer =
      record {
        few = few;
        each = each;
        count = count;
        into = frame-into T frame d few;
        answer = answer ∙ rw (bytes_count T frame small (length frame), count);
        buffer = refl;
      }

  pub front-is : (k : ℕ) (d' : List ℕ) → k ≡ overflow_count (length frame) (frame_distance T frame)
      → d' ≡ front_buffer (bytes_of T) frame d → d' ≡ begun_buffer (length frame) k (frame_distance T frame) d
  unfolding begun_buffer
  front-is k d' count is =
      is ∙ rw (bytes_count T frame small (length frame), bytes-primary T frame small (length frame), count)

-- k, as it is counted
pub counts-k : (n k capacity : ℕ) (s : Counts) → begin_outcome n k capacity ≡ Ok s → s.k ≡ k
unfolding begin_outcome counts_of
counts-k n k capacity s e =
    let t = (refuse_if-done (ltb capacity (file_len n k)) _ (Ok (counts_of n k)) s e).1 in cc
