-- The slots in overflow of a frame, counted by the bytes of a table.
--   each-zero         where a sum is 0, each term is
--   part_count        the bytes of a part that are x
--   written_count     the bytes 255 of a primary array that stands in its place
--   none_above        no byte is above 255
--   full_at B frame i  1 where the byte of slot i is 255;  each-count  their sum is the number of slots in overflow
--   run_inside        as many disparities as have byte 255, from the first one on, are no more than there are
--   run-count         where these have byte 255, two counts tell the slots in overflow
-- Axioms: none.
use mathlib.Core.Path.{◌≡◌, sym, ap, ◌∙◌}
use Prim.Native.Nat.{ℕ, zero, suc, ◌+◌, ◌-◌, ◌≤◌, ◌<◌}
use native.Mathlib.Nat.{zero-add}
use native.Mathlib.Omega.{arith}
use native.Mathlib.Decide.{dec_le}
use mathlib.Core.Bool.{Bool, not}
use mathlib.Core.List.{List}
use lib.ListN.{length, get_or, take, drop, length-drop}
use lib.Seq.{sets, length-sets, length-take-le, get_or-take, get_or-drop}
use lib.Dec.{eqb, leb}
use borrow.Author.Tests.{le-leb, lt-leb}
use Rattle.pciv_bytes.specs.Ranges.{flag, sum_from, first_from}
use Rattle.pciv_bytes.specs.LittleEndian.{Bytes}
use Rattle.pciv_bytes.specs.ByteAt.{byte_at, byte_is, byte_from}
use Rattle.pciv_bytes.proofs.RangesLaws.{flag-not, first_from-le, first_from-clear}
use Rattle.pciv_bytes.proofs.SumLaws.{sum_from-split, sum_from-cong, sum_from-shift, sum_from-zeros, sum_from-rest}
use Rattle.pciv_bytes.proofs.SumLaws.{sum_from-plus, sum_from-byte_is-le}
use Rattle.pciv_format.specs.Layout.{primary, overflow_count}
use Rattle.pciv_build.specs.Slots.{is_full}
use Rattle.pciv_build.proofs.EntriesLaws.{count-sum}
use Rattle.pciv_build.proofs.FillLaws.{same_count}
use Rattle.pciv_build.proofs.IntoLaws.{holds-primary}
use Rattle.pciv_disparity.specs.Disparity.{frame_distance}
use Rattle.pciv_disparity.proofs.FrameLaws.{full-count}

each-zero : (f : ℕ → ℕ) (c i : ℕ) → sum_from f i c ≡ 0 → (j : ℕ) → i ≤ j → j < i + c → f j ≡ 0
unfolding sum_from
each-zero f zero i none j low high = absurd (omega arith)
each-zero f (suc c) i none j low high =
    elim (dec_le j i) [
      | yes d ↦ (let here : j ≡ i = omega arith in rw here (omega arith))
      | no d ↦ each-zero f c (suc i) (omega arith) j (omega arith) (omega arith)
    ]

pub part_count : (xs : List ℕ) (x i to : ℕ) → i ≤ to → to ≤ length xs
    → (let part = take (to - i) (drop i xs) in
    sum_from (byte_is part x) 0 (length part) ≡ sum_from (byte_is xs x) i (to - i))
part_count xs x i to order inside =
    let part : List ℕ = take (to - i) (drop i xs) in
    let long : length part ≡ to - i = length-take-le (to - i) (drop i xs) (rw length-drop (omega arith)) in
    rw long
    (sum_from-cong (byte_is part x) (λ (j : ℕ). byte_is xs x (i + j)) 0 (to - i)
    (λ j h₁ h₂.
    ap (λ (y : ℕ). flag (eqb y x)) (get_or-take (to - i) (drop i xs) j 0 (omega arith) ∙ get_or-drop i xs j 0))
    ∙ sum_from-shift (λ (j : ℕ). byte_is xs x (i + j)) (byte_is xs x) 0 i (to - i)
    (λ j. ap (λ (t : ℕ). byte_is xs x (i + t)) (zero-add j)))

pub written_count : (n : ℕ) (v : ℕ → ℕ) (d d₁ : List ℕ) → 40 + n ≤ length d → d₁ ≡ sets d 40 (primary n v)
    → (let part = take (40 + n - 40) (drop 40 d₁) in
    sum_from (byte_is part 255) 0 (length part) ≡ overflow_count n v)
written_count n v d d₁ space put =
    let long : length d₁ ≡ length d = ap length put ∙ length-sets d 40 (primary n v) in
    let width : 40 + n - 40 ≡ n = omega arith in
    part_count d₁ 255 40 (40 + n) (omega arith) (omega arith)
    ∙ ap (sum_from (byte_is d₁ 255) 40) width
    ∙ sum_from-shift (byte_is d₁ 255) (λ (j : ℕ). flag (is_full d₁ j)) 40 0 n
    (λ j. ap (λ (t : ℕ). flag (is_full d₁ t)) (sym (zero-add j)))
    ∙ sym (count-sum (is_full d₁) n 0)
    ∙ same_count n v d₁ (holds-primary n v d d₁ space put)

pub none_above : (xs : List ℕ) → Bytes xs → (d n : ℕ) → 255 < d → sum_from (byte_from xs d) 0 n ≡ 0
none_above xs bytes d n above =
    sum_from-zeros (byte_from xs d) 0 n (λ j h₁ h₂. ap flag (lt-leb d (byte_at xs j) (omega (arith, bytes j))))

-- ---- slot by slot

abbrev pub full_at : List ℕ → List ℕ → ℕ → ℕ
full_at B frame i = byte_is B 255 (byte_at frame i)

pub each-count : (B frame : List ℕ) → Bytes B → (n : ℕ)
    → overflow_count n (frame_distance B frame) ≡ sum_from (full_at B frame) 0 n
each-count B frame bytes n = full-count n (frame_distance B frame) (λ i h. bytes (byte_at frame i))

-- ---- a run of disparities with byte 255: c from `first` on, and there are c in all

module _ (B : List ℕ) (first c : ℕ) (all : c ≡ sum_from (byte_is B 255) 0 256) where
  pub run_inside : first ≡ first_from (λ (i : ℕ). eqb (get_or B i 0) 255) 0 256 → first + c ≤ 256
  run_inside is =
      let p : ℕ → Bool = λ (i : ℕ). eqb (get_or B i 0) 255 in
      let high : first ≤ 256 = omega (arith, first_from-le p 256 0) in
      let none : sum_from (byte_is B 255) 0 (first - 0) ≡ 0 =
      sum_from-zeros (byte_is B 255) 0 (first - 0)
      (λ j h₁ h₂. ap flag (first_from-clear p 256 0 j (omega arith) (omega arith))) in
      omega (
        arith,
        sum_from-split (byte_is B 255) 0 first 256 (omega arith) high,
        sum_from-byte_is-le B 255 first (256 - first),
      )

  module _ (inside : first + c ≤ 256) (run : sum_from (byte_is B 255) first c ≡ c) where
    -- no other one has it
    others : (sum_from (byte_is B 255) 0 (first - 0) ≡ 0)
        × (sum_from (byte_is B 255) (first + c) (256 - (first + c)) ≡ 0)
    others =
        let f : ℕ → ℕ = byte_is B 255 in
        let width : first + c - first ≡ c = omega arith in
        let one = sum_from-split f 0 first 256 (omega arith) (omega arith) in
        let two = sum_from-split f first (first + c) 256 (omega arith) inside in
        let three : sum_from f first (first + c - first) ≡ c = ap (sum_from f first) width ∙ run in
        (omega (arith, one, two, three, all), omega (arith, one, two, three, all))

    -- each of these has it
    these : (d : ℕ) → first ≤ d → d < first + c → byte_is B 255 d ≡ 1
    these d low high =
        let g : ℕ → ℕ = λ (j : ℕ). flag (not (eqb (byte_at B j) 255)) in
        let none : sum_from g first c ≡ 0 =
        omega (
          arith,
          run,
          sum_from-rest g (byte_is B 255) (λ j. flag-not (eqb (byte_at B j) 255)) first c,
        ) in
        omega (arith, each-zero g c first none d low high, flag-not (eqb (byte_at B d) 255))

    run-flag : (d : ℕ) → d < 256 → byte_is B 255 d + flag (leb (first + c) d) ≡ flag (leb first d)
    run-flag d h =
        elim (dec_le first d) [
          | yes low ↦ elim (dec_le (first + c) d) [
            | yes past ↦ (let none = each-zero (byte_is B 255) (256 - (first + c)) (first + c) others.1 d past (omega arith) in
                rw (none, le-leb (first + c) d past, le-leb first d low))
            | no here ↦ (let one = these d low (omega arith) in
                rw (one, lt-leb (first + c) d (omega arith), le-leb first d low))
          ]
          | no below ↦ (let none = each-zero (byte_is B 255) (first - 0) 0 others.0 d (omega arith) (omega arith) in
              rw (none, lt-leb (first + c) d (omega arith), lt-leb first d (omega arith)))
        ]

    pub run-count : (frame : List ℕ) → Bytes frame → (n : ℕ)
        → sum_from (full_at B frame) 0 n + sum_from (byte_from frame (first + c)) 0 n ≡ sum_from (byte_from frame first) 0 n
    run-count frame bytes n =
        sum_from-plus (full_at B frame) (byte_from frame (first + c)) (byte_from frame first) 0 n
        (λ j h₁ h₂. run-flag (byte_at frame j) (bytes j))
