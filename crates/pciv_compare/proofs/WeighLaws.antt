-- What the smaller and the larger distances of two maps weigh.
--   weighed-both           the smaller and the larger ones together weigh what both maps do
--   entries-le, shared-le  no overflow entry weighs 2 ^ 32
--   combined-shared        what a walk along the entries of the first map finds
--   weighed-overflow       what the distances weigh more than their bytes, from the overflow entries
--   weighed-bytes          what the primary bytes weigh, as parts of the files
--   weighed-distance, weighed-from    what the distances weigh, from the two
-- Axioms: none.
use mathlib.Core.Path.{◌≡◌, refl, sym, ap, ap₂, ◌∙◌}
use Prim.Native.Nat.{ℕ, ◌+◌, ◌-◌, ◌*◌, ◌^◌, ◌≤◌, ◌<◌, min, max}
use native.Mathlib.Omega.{arith}
use native.Mathlib.Decide.{dec_le}
use mathlib.Core.List.{List}
use lib.ListN.{length}
use lib.Dec.{leb}
use borrow.Author.Tests.{le-leb, lt-leb}
use Rattle.pciv_bytes.specs.Ranges.{flag, sum_from}
use Rattle.pciv_bytes.specs.LittleEndian.{Bytes}
use Rattle.pciv_bytes.specs.ByteAt.{byte_at}
use Rattle.pciv_passes.specs.Counts.{term_of}
use Rattle.pciv_passes.specs.Extremes.{ExtremeSums}
use Rattle.pciv_passes.specs.declared.counts.Term.{Term}
use Rattle.pciv_passes.specs.declared.counts.Term.TheVariants.{Passing, Byte}
use Rattle.pciv_passes.specs.declared.counts.Test.TheVariants.{AtLeast}
use Rattle.pciv_passes.specs.declared.extremes.Extremes.{Extremes}
use Rattle.pciv_bytes.proofs.RangesLaws.{flag-le}
use Rattle.pciv_bytes.proofs.SumLaws.{sum_from-le, sum_from-cong, sum_from-zeros, sum_from-plus}
use Rattle.pciv_bytes.proofs.LittleEndianLaws.{get-lt}
use Rattle.pciv_format.specs.Parts.{Parts, value_of, SoundParts}
use Rattle.pciv_format.specs.Check.{file_parts, CheckedMap}
use Rattle.pciv_format.specs.declared.SlotOp.TheVariants.{Minimum}
use Rattle.pciv_format.proofs.PartsLaws.{value_of-slot, slot_cases}
use Rattle.pciv_format.proofs.EntryLaws.{sum-entries-of}
use Rattle.pciv_format.proofs.MapLaws.{primary_of, primary-length, primary-at}
use Rattle.pciv_arith_merge.specs.Merge.{CombinedAt}
use Rattle.pciv_arith_merge.specs.declared.led.Combined.{Combined}
use Rattle.pciv_compare.specs.Weigh.{weight_of, beyond_of, Late, shared_at, over, Weighed}
use Rattle.pciv_compare.specs.declared.weigh.Weight.{Weight}
use Rattle.pciv_compare.specs.declared.weigh.Weight.TheVariants.{Distance, From}

-- ---- any weights f of numbers u i and v i

module _ (m : ℕ → ℕ → ℕ) (n : ℕ) where
  -- the same, slot by slot
  over-same : (f g u v x y : ℕ → ℕ) → ((i : ℕ) → i < n → f (m (u i) (v i)) ≡ g (m (x i) (y i)))
      → over m f u v n ≡ over m g x y n
  over-same f g u v x y same =
      sum_from-cong (λ (i : ℕ). f (m (u i) (v i))) (λ (i : ℕ). g (m (x i) (y i))) 0 n (λ i h₁ h₂. same i (omega arith))

  -- the sum of two weights
  over-plus : (f g h u v : ℕ → ℕ) → ((z : ℕ) → f z + g z ≡ h z) → over m f u v n + over m g u v n ≡ over m h u v n
  over-plus f g h u v each =
      sum_from-plus (λ (i : ℕ). f (m (u i) (v i))) (λ (i : ℕ). g (m (u i) (v i))) (λ (i : ℕ). h (m (u i) (v i))) 0 n
      (λ i h₁ h₂. each (m (u i) (v i)))

-- the smaller and the larger of two numbers are the two
two-of : (f : ℕ → ℕ) (x y : ℕ) → f (min x y) + f (max x y) ≡ f x + f y
two-of f x y =
    elim (dec_le x y) [
      | yes d ↦ (let e : min x y ≡ x = omega arith in let g : max x y ≡ y = omega arith in rw (e, g))
      | no d ↦ (let e : min x y ≡ y = omega arith in let g : max x y ≡ x = omega arith in rw (e, g) (omega arith))
    ]

over-both : (f u v : ℕ → ℕ) (n : ℕ)
    → over min f u v n + over max f u v n ≡ sum_from (λ (i : ℕ). f (u i)) 0 n + sum_from (λ (i : ℕ). f (v i)) 0 n
over-both f u v n =
    let two : ℕ → ℕ = λ i. f (u i) + f (v i) in
    sum_from-plus (λ (i : ℕ). f (min (u i) (v i))) (λ (i : ℕ). f (max (u i) (v i))) two 0 n
    (λ i h₁ h₂. two-of f (u i) (v i))
    ∙ sym (sum_from-plus (λ (i : ℕ). f (u i)) (λ (i : ℕ). f (v i)) two 0 n (λ i h₁ h₂. refl))

pub weighed-both : (f u v : ℕ → ℕ) (n : ℕ) (r : Extremes) → Weighed f u v n r
    → r.least + r.most ≡ sum_from (λ (i : ℕ). f (u i)) 0 n + sum_from (λ (i : ℕ). f (v i)) 0 n
weighed-both f u v n r w = ap₂ (λ (x y : ℕ). x + y) w.least w.most ∙ over-both f u v n

-- ---- of overflow entries

beyond_of-lt : (w : Weight) (x : ℕ) → x < 2 ^ 32 → beyond_of w x < 2 ^ 32
beyond_of-lt Distance x h = omega arith
beyond_of-lt (From t) x h = omega (arith, flag-le (leb t x))

module _ (w : Weight) (a : List ℕ) (bytes : Bytes a) (n k : ℕ) where
  -- distances of entries, or what is not above them
  beyond-le : (x : ℕ → ℕ) → ((j : ℕ) → x j ≤ (file_parts a n k).distance j)
      → sum_from (λ (j : ℕ). beyond_of w (x j)) 0 k ≤ 4294967296 * k
  beyond-le x low =
      sum_from-le (λ (j : ℕ). beyond_of w (x j)) 4294967296
      (λ j. omega (arith, beyond_of-lt w (x j) (omega (arith, low j, get-lt 4 a (40 + n + 12 * j + 8) bytes)))) 0 k

  pub entries-le : sum_from (λ (j : ℕ). beyond_of w ((file_parts a n k).distance j)) 0 k ≤ 4294967296 * k
  entries-le = beyond-le (file_parts a n k).distance (λ j. omega arith)

  pub shared-le : (B : Parts) → sum_from (λ (j : ℕ). beyond_of w (shared_at (file_parts a n k) B j)) 0 k ≤ 4294967296 * k
  shared-le B = beyond-le (shared_at (file_parts a n k) B) (λ j. omega arith)

-- f of every slot and its distance, where it is 0 for what a byte can tell
entries-alone : (P : Parts) → SoundParts P → ((i : ℕ) → P.byte i < 256) → (f : ℕ → ℕ → ℕ)
    → ((i x : ℕ) → x ≤ 255 → f i x ≡ 0)
    → sum_from (λ (i : ℕ). f i (value_of P i)) 0 P.n ≡ sum_from (λ (j : ℕ). f (P.slot j) (P.distance j)) 0 P.k
entries-alone P s bytes f late =
    let all = sum-entries-of P s bytes f (λ (j : ℕ). f (P.slot j) (P.distance j))
    (λ j h. omega (arith, late (P.slot j) 255 (omega arith))) in
    let none =
    sum_from-zeros (λ (i : ℕ). f i (P.byte i)) 0 P.n (λ i h₁ h₂. late i (P.byte i) (omega (arith, bytes i))) in
    omega (arith, all, none)

pub combined-shared : (A B : Parts) → SoundParts A → (j : ℕ) → j < A.k → (r : Combined) → CombinedAt Minimum A B j r
    → r.distance ≡ shared_at A B j
combined-shared A B s j h r at = at.distance ∙ ap (λ (x : ℕ). min x (value_of B (A.slot j))) (value_of-slot A s j h)

module _ (A B : Parts) (n : A.n ≡ B.n) (sa : SoundParts A) (sb : SoundParts B)
    (bytes_a : (i : ℕ) → A.byte i < 256) (bytes_b : (i : ℕ) → B.byte i < 256) where
  module _ (w : Weight) (late : Late w) where
    shared-all : over min (beyond_of w) (value_of A) (value_of B) A.n
        ≡ sum_from (λ (j : ℕ). beyond_of w (shared_at A B j)) 0 A.k
    shared-all =
        entries-alone A sa bytes_a (λ (i x : ℕ). beyond_of w (min x (value_of B i)))
        (λ i x h. late (min x (value_of B i)) (omega arith))

    entries-both :
        over min (beyond_of w) (value_of A) (value_of B) A.n + over max (beyond_of w) (value_of A) (value_of B) A.n
        ≡ sum_from (λ (j : ℕ). beyond_of w (A.distance j)) 0 A.k
        + sum_from (λ (j : ℕ). beyond_of w (B.distance j)) 0 B.k
    entries-both =
        over-both (beyond_of w) (value_of A) (value_of B) A.n
        ∙ ap₂ (λ (x y : ℕ). x + y) (entries-alone A sa bytes_a (λ (i x : ℕ). beyond_of w x) (λ i x h. late x h))
        (rw n (entries-alone B sb bytes_b (λ (i x : ℕ). beyond_of w x) (λ i x h. late x h)))

    pub weighed-overflow : (shared first second : ℕ)
        → shared ≡ sum_from (λ (j : ℕ). beyond_of w (shared_at A B j)) 0 A.k
        → first ≡ sum_from (λ (j : ℕ). beyond_of w (A.distance j)) 0 A.k
        → second ≡ sum_from (λ (j : ℕ). beyond_of w (B.distance j)) 0 B.k
        → (shared ≤ first + second)
        × Weighed (beyond_of w) (value_of A) (value_of B) A.n
        (record { least = shared; most = first + second - shared })
    weighed-overflow shared first second es ea eb = (
      omega (arith, shared-all, entries-both),
      record { least = es ∙ sym shared-all; most = omega (arith, shared-all, entries-both) },
    )

  -- ---- of primary bytes: each is the distance, at most 255

  byte-capped : (P : Parts) → SoundParts P → ((i : ℕ) → P.byte i < 256) → (i : ℕ) → i < P.n
      → P.byte i ≡ min (value_of P i) 255
  byte-capped P s bytes i h = slot_cases P s bytes i h (λ small e. omega arith) (λ j hj at e w overflows. omega arith)

  capped_at : (i : ℕ) → i < A.n
      → (min (A.byte i) (B.byte i) ≡ min (min (value_of A i) (value_of B i)) 255)
      × (max (A.byte i) (B.byte i) ≡ min (max (value_of A i) (value_of B i)) 255)
  capped_at i h =
      let x = byte-capped A sa bytes_a i h in
      let y = byte-capped B sb bytes_b i (omega arith) in
      (omega arith, omega arith)

  weighed-capped : (f g : ℕ → ℕ) → ((x : ℕ) → f (min x 255) ≡ g x) → (r : Extremes)
      → Weighed f A.byte B.byte A.n r → Weighed g (value_of A) (value_of B) A.n r
  weighed-capped f g each r w =
      record {
        least =
            w.least
            ∙ over-same min A.n f g A.byte B.byte (value_of A) (value_of B)
            (λ i h. ap f (capped_at i h).0 ∙ each (min (value_of A i) (value_of B i)));
        most =
            w.most
            ∙ over-same max A.n f g A.byte B.byte (value_of A) (value_of B)
            (λ i h. ap f (capped_at i h).1 ∙ each (max (value_of A i) (value_of B i)));
      }

  -- ---- of distances

  pub weighed-distance : (r s : Extremes) → Weighed (term_of Byte) A.byte B.byte A.n r
      → Weighed (beyond_of Distance) (value_of A) (value_of B) A.n s
      → Weighed (weight_of Distance) (value_of A) (value_of B) A.n
      (record { least = r.least + s.least; most = r.most + s.most })
  weighed-distance r s wr ws =
      let capped : ℕ → ℕ = λ x. min x 255 in
      let w = weighed-capped (term_of Byte) capped (λ x. refl) r wr in
      record {
        least =
            ap₂ (λ (x y : ℕ). x + y) w.least ws.least
            ∙ over-plus min A.n capped (beyond_of Distance) (weight_of Distance) (value_of A) (value_of B)
            (λ x. omega arith);
        most =
            ap₂ (λ (x y : ℕ). x + y) w.most ws.most
            ∙ over-plus max A.n capped (beyond_of Distance) (weight_of Distance) (value_of A) (value_of B)
            (λ x. omega arith);
      }

  -- a threshold up to 255 is met before and after
  leb-capped : (t x : ℕ) → t ≤ 255 → leb t (min x 255) ≡ leb t x
  leb-capped t x h =
      elim (dec_le t x) [
        | yes d ↦ le-leb t (min x 255) (omega arith) ∙ sym (le-leb t x d)
        | no d ↦ lt-leb t (min x 255) (omega arith) ∙ sym (lt-leb t x (omega arith))
      ]

  pub weighed-from : (t : ℕ) → t ≤ 255 → (r : Extremes)
      → Weighed (term_of (Passing (AtLeast t))) A.byte B.byte A.n r
      → Weighed (weight_of (From t)) (value_of A) (value_of B) A.n r
  weighed-from t h r w =
      weighed-capped (term_of (Passing (AtLeast t))) (weight_of (From t)) (λ x. ap flag (leb-capped t x h)) r w

-- ---- the primary bytes as parts of the files

module _ (a b : List ℕ) (n ka kb : ℕ) (ca : CheckedMap a n ka) (cb : CheckedMap b n kb) where
  pub weighed-bytes : (of : Term) (r : Extremes)
      → ExtremeSums of (primary_of a n) (primary_of b n) 0 (length (primary_of a n)) r.least r.most
      → Weighed (term_of of) (file_parts a n ka).byte (file_parts b n kb).byte n r
  weighed-bytes of r e =
      let whole : length (primary_of a n) - 0 ≡ n = omega (arith, primary-length a n ka ca) in
      let x : ℕ → ℕ = byte_at (primary_of a n) in
      let y : ℕ → ℕ = byte_at (primary_of b n) in
      let same : (m : ℕ → ℕ → ℕ) → over m (term_of of) x y n
      ≡ over m (term_of of) (file_parts a n ka).byte (file_parts b n kb).byte n =
      λ m. over-same m n (term_of of) (term_of of) x y (file_parts a n ka).byte (file_parts b n kb).byte
      (λ i h. ap₂ (λ (x y : ℕ). term_of of (m x y)) (primary-at a n ka ca i h) (primary-at b n kb cb i h)) in
      record { least = (rw whole at e.least) ∙ same min; most = (rw whole at e.most) ∙ same max }
