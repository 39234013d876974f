-- A file written part by part is the file.
--   sets-two            a number of eight bytes, and then more; sets-header the header so
--   begin-short, -fits  what `begin` answers and leaves
--   Begun, begun        what is known where it is done
--   begin-refused       where it is refused, the buffer stays
--   refuse_if-sum        a test that refuses, before or after the sum is told
--   begin-is, begun-is  what it answers, with the sum, is what writing the whole file answers
--   length-built        the length of the file, by the counted number of slots in overflow
--   built               header, primary array, overflow entries and the index read off them are the file
--   built-done, -refused    the same as the buffer that writing the file leaves
--   built-checked       what stands there is a checked map
--   built-sum           it has the sum of the distances
-- Axioms: none.
use Rattle.std.proofs.Common.{Ok, Err}
use Rattle.pciv_format.specs.declared.RefusalKind.TheVariants.{BufferTooSmall}
use mathlib.Core.Path.{◌≡◌, refl, sym, ap, ◌∙◌}
use Prim.Native.Nat.{ℕ, suc, ◌+◌, ◌*◌, ◌≤◌, ◌<◌}
use native.Mathlib.Nat.{zero-add, add_assoc}
use native.Mathlib.Omega.{arith}
use native.Mathlib.Decide.{dec_le}
use mathlib.Core.Bool.{Bool, true, false}
use mathlib.Core.List.{List, ◌++◌, append_assoc}
use lib.ListN.{length, get_or, drop, length-append}
use lib.Seq.{sets}
use lib.Dec.{ltb}
use borrow.Author.Tests.{lt-ltb, le-ltb, ltb-false}
use Rattle.pciv_bytes.specs.Ranges.{table, joined, sum_from}
use Rattle.pciv_bytes.specs.LittleEndian.{le, get}
use Rattle.pciv_bytes.proofs.RangesLaws.{length-table, get_or-table}
use Rattle.pciv_bytes.proofs.PositionsLaws.{positions-at}
use Rattle.pciv_bytes.proofs.JoinedLaws.{joined-cong, joined-piece}
use Rattle.pciv_bytes.proofs.LittleEndianLaws.{length-le, get-past, get_at}
use Rattle.pciv_bytes.proofs.WriteLaws.{sets-append, sets-front}
use Rattle.pciv_format.specs.Layout.{max_slots, magic, in_overflow, index_step, index_len, file_len, primary}
use Rattle.pciv_format.specs.Layout.{overflow_slots, overflow_count, overflow_entry, overflow_part, index_entry}
use Rattle.pciv_format.specs.Layout.{index_part, header, file, counts_of, summarize, summary}
use Rattle.pciv_format.specs.Refusals.{Outcome, refuse, refuse_if}
use Rattle.pciv_format.specs.Parts.{value_of}
use Rattle.pciv_format.specs.Check.{file_parts, CheckedMap}
use Rattle.pciv_format.specs.Read.{with_sum}
use Rattle.pciv_format.specs.Write.{file_into, file_buffer}
use Rattle.pciv_format.specs.declared.Counts.{Counts}
use Rattle.pciv_format.specs.declared.Summary.{Summary}
use Rattle.pciv_format.specs.declared.Refusal.{Refusal}
use Rattle.pciv_format.proofs.RefusalsLaws.{refuse_if-done}
use Rattle.pciv_format.proofs.LayoutLaws.{index-inside, file_len-is, length-header, length-primary}
use Rattle.pciv_format.proofs.LayoutLaws.{length-overflow_entry, length-overflow_part, length-file}
use Rattle.pciv_format.proofs.FrontLaws.{front-map, front-sum}
use Rattle.pciv_build.specs.Build.{Fits, begin_outcome, begin_buffer, index_entry_from, index_from}

pub sets-two : (x : ℕ) (b d d₁ d₂ : List ℕ) (at next : ℕ) → next ≡ at + 8 → d₁ ≡ sets d at (le 8 x)
    → d₂ ≡ sets d₁ next b
    → d₂ ≡ sets d at (le 8 x ++ b)
sets-two x b d d₁ d₂ at next n e₁ e₂ =
    e₂ ∙ rw (e₁, n) (sym (sets-append (le 8 x) b d at ∙ rw (length-le 8 x)))

-- the five numbers of the header
pub sets-header : (n k m step : ℕ) (d d₁ d₂ d₃ d₄ d₅ : List ℕ) → m ≡ index_len k → step ≡ index_step k
    → d₁ ≡ sets d 0 (le 8 magic) → d₂ ≡ sets d₁ 8 (le 8 n) → d₃ ≡ sets d₂ 16 (le 8 k)
    → d₄ ≡ sets d₃ 24 (le 8 m) → d₅ ≡ sets d₄ 32 (le 8 step) → d₅ ≡ sets d 0 (header n k)
unfolding header
sets-header n k m step d d₁ d₂ d₃ d₄ d₅ m_is step_is e₁ e₂ e₃ e₄ e₅ =
    rw (← m_is, ← step_is)
    (sets-two magic _ d d₁ d₅ 0 8 refl e₁
    (sets-two n _ d₁ d₂ d₅ 8 16 refl e₂
    (sets-two k _ d₂ d₃ d₅ 16 24 refl e₃
    (sets-two m _ d₃ d₄ d₅ 24 32 refl e₄ e₅))))

-- ---- begin

module _ (n k : ℕ) (d : List ℕ) where
  pub begin-short : length d < file_len n k → (begin_outcome n k (length d) ≡ refuse BufferTooSmall 0 0) × (begin_buffer n k d ≡ d)
  unfolding begin_outcome begin_buffer
  begin-short h = let t = lt-ltb (length d) (file_len n k) h in (rw t, rw t)

  pub begin-fits : file_len n k ≤ length d
      → (begin_outcome n k (length d) ≡ Ok (counts_of n k)) × (begin_buffer n k d ≡ sets d 0 (header n k))
  unfolding begin_outcome begin_buffer
  begin-fits h = let t = le-ltb (length d) (file_len n k) h in (rw t, rw t)

-- what is known once a file is begun
pub record Begun (n k : ℕ) (d : List ℕ) (s : Counts) : Type 0 where
  pub fits : file_len n k ≤ length d
  pub entries : 40 + n + 12 * k ≤ length d
  pub counts : s ≡ counts_of n k
  pub buffer : begin_buffer n k d ≡ sets d 0 (header n k)

pub begun : (n k : ℕ) (d : List ℕ) (s : Counts) → begin_outcome n k (length d) ≡ Ok s → Begun n k d s
unfolding begin_outcome
begun n k d s e =
    let t = refuse_if-done (ltb (length d) (file_len n k)) _ (Ok (counts_of n k)) s e in
    let fits : file_len n k ≤ length d = ltb-false _ _ t.0 in
    record {
      fits = fits;
      entries = omega (arith, file_len-is n k);
      counts = cc;
      buffer = (begin-fits n k d fits).1;
    }

pub begin-refused : (n k : ℕ) (d : List ℕ) (r : Refusal) → begin_outcome n k (length d) ≡ Err r
    → begin_buffer n k d ≡ d
begin-refused n k d r e =
    elim (dec_le (file_len n k) (length d)) [
      | yes fits ↦ (let t = (begin-fits n k d fits).0 in let z : ◌≡◌ {A = ℕ} 0 1 = cc in absurd (omega arith))
      | no short ↦ (begin-short n k d (omega arith)).1
    ]

-- ---- the parts, written one after another

-- all but the index
unfoldable front_of : ℕ → (ℕ → ℕ) → List ℕ
front_of n v = header n (overflow_count n v) ++ (primary n v ++ overflow_part n v)

length-front_of : (n : ℕ) (v : ℕ → ℕ) → length (front_of n v) ≡ 40 + n + 12 * overflow_count n v
unfolding front_of
length-front_of n v = simp (length-append, length-header, length-primary, length-overflow_part) (omega arith)

sets-front_of : (n : ℕ) (v : ℕ → ℕ) (d : List ℕ)
    → sets (sets (sets d 0 (header n (overflow_count n v))) 40 (primary n v)) (40 + n) (overflow_part n v)
    ≡ sets d 0 (front_of n v)
unfolding front_of
sets-front_of n v d =
    let H : List ℕ = header n (overflow_count n v) in
    let P : List ℕ = primary n v in
    let O : List ℕ = overflow_part n v in
    let h : length H ≡ 40 = length-header n (overflow_count n v) in
    sym
    (sets-append H (P ++ O) d 0
    ∙ ap (λ (j : ℕ). sets (sets d 0 H) (0 + j) (P ++ O)) h
    ∙ sets-append P O (sets d 0 H) 40
    ∙ ap (λ (j : ℕ). sets (sets (sets d 0 H) 40 P) (40 + j) O) (length-primary n v))

file-front_of : (n : ℕ) (v : ℕ → ℕ) → file n v ≡ front_of n v ++ index_part (overflow_slots n v)
unfolding file front_of
file-front_of n v = simp append_assoc

slot-inside : (n : ℕ) (v : ℕ → ℕ) (j : ℕ) → j < overflow_count n v → get_or (overflow_slots n v) j 0 < n
unfolding overflow_count overflow_slots
slot-inside n v j h = omega (arith, (positions-at (λ (i : ℕ). in_overflow (v i)) 0 n j h).high)

module _ (n : ℕ) (v : ℕ → ℕ) (few : n ≤ max_slots) (q : List ℕ) where
  -- the slot of entry j
  slot_read : (j : ℕ) → j < overflow_count n v
      → get 8 (front_of n v ++ q) (40 + n + 12 * j) ≡ get_or (overflow_slots n v) j 0
  unfolding front_of overflow_part overflow_entry overflow_count
  slot_read j h =
      let H : List ℕ = header n (overflow_count n v) in
      let P : List ℕ = primary n v in
      let O : List ℕ = overflow_part n v in
      let s : ℕ = get_or (overflow_slots n v) j 0 in
      let more : List ℕ = joined (overflow_entry v) (drop (suc j) (overflow_slots n v)) ++ q in
      let apart : (H ++ (P ++ O)) ++ q ≡ H ++ (P ++ (O ++ q)) = simp append_assoc in
      let piece = joined-piece (overflow_entry v) 12 (length-overflow_entry v) (overflow_slots n v) q j h in
      ap (λ (l : List ℕ). get 8 l (40 + n + 12 * j)) apart
      ∙ ap (get 8 (H ++ (P ++ (O ++ q)))) (add_assoc 40 n (12 * j))
      ∙ get-past 8 H (P ++ (O ++ q)) 40 (n + 12 * j) (length-header n (overflow_count n v))
      ∙ get-past 8 P (O ++ q) n (12 * j) (length-primary n v)
      ∙ get_at 8 (O ++ q) (12 * j) s (le 4 (v s) ++ more) (piece ∙ append_assoc (le 8 s) (le 4 (v s)) more)
      (omega (arith, slot-inside n v j h))

  -- the index that is read off the entries
  index_from-is : index_from (front_of n v ++ q) n (overflow_count n v) ≡ index_part (overflow_slots n v)
  unfolding index_from index_entry_from index_part index_entry overflow_count
  index_from-is =
      let k : ℕ = overflow_count n v in
      let d : List ℕ = front_of n v ++ q in
      let numbers : List ℕ = table (λ (i : ℕ). i) 0 (index_len k) in
      joined-cong (index_entry_from d n k) (index_entry (overflow_slots n v) (index_step k)) numbers
      (λ j h.
      (let i : ℕ = get_or numbers j 0 in
      let here : j < index_len k = rw length-table at h in
      let same : i ≡ j = get_or-table (λ (i : ℕ). i) 0 0 (index_len k) j here ∙ zero-add j in
      let inside : i * index_step k < k = rw same (index-inside k j here) in
      ap (λ (s : ℕ). le 8 s ++ le 8 (i * index_step k)) (slot_read (i * index_step k) inside)))

  whole : (d D : List ℕ) → q ≡ drop (length (front_of n v)) d → file_len n (overflow_count n v) ≤ length d
      → D ≡ sets d 0 (front_of n v)
      → sets D (40 + n + 12 * overflow_count n v) (index_from D n (overflow_count n v)) ≡ file n v
      ++ drop (length (file n v)) d
  whole d D tail fits is =
      let F : List ℕ = front_of n v in
      let I : List ℕ = index_part (overflow_slots n v) in
      let k : ℕ = overflow_count n v in
      let long : length F ≡ 40 + n + 12 * k = length-front_of n v in
      let split : D ≡ F ++ q = is ∙ sets-front F d (omega (arith, file_len-is n k))
      ∙ ap (λ (l : List ℕ). F ++ l) (sym tail) in
      let index : index_from D n k ≡ I = ap (λ (l : List ℕ). index_from l n k) split ∙ index_from-is in
      rw (index, is, ← long)
      (sym (sets-append F I d 0 ∙ ap (λ (j : ℕ). sets (sets d 0 F) j I) (zero-add (length F)))
      ∙ rw (← file-front_of n v) (sets-front (file n v) d (rw length-file fits)))

-- ---- of a routine that has counted k slots in overflow

-- a test that refuses, before or after the sum is told
pub refuse_if-sum : (t : Bool) (c : Counts) (sum : ℕ)
    → with_sum (refuse_if t (refuse BufferTooSmall 0 0) (Ok c)) sum ≡ refuse_if t (refuse BufferTooSmall 0 0) (Ok (summarize c sum))
refuse_if-sum true c sum = refl
refuse_if-sum false c sum = refl

module _ (n k : ℕ) (v : ℕ → ℕ) (count : k ≡ overflow_count n v) where
  pub length-built : length (file n v) ≡ file_len n k
  length-built = length-file n v ∙ ap (file_len n) (sym count)

  pub begin-is : (capacity : ℕ) → with_sum (begin_outcome n k capacity) (sum_from v 0 n) ≡ file_into n v capacity
  unfolding begin_outcome summary
  begin-is capacity =
      rw (count, length-file n v)
      (refuse_if-sum (ltb capacity (file_len n (overflow_count n v))) (counts_of n (overflow_count n v)) (sum_from v 0 n))

  -- where it answers o
  pub begun-is : (capacity : ℕ) (o : Outcome Counts) → begin_outcome n k capacity ≡ o
      → with_sum o (sum_from v 0 n) ≡ file_into n v capacity
  begun-is capacity o e = ap (λ (o : Outcome Counts). with_sum o (sum_from v 0 n)) (sym e) ∙ begin-is capacity

  module _ (few : n ≤ max_slots) where
    pub built : (d D : List ℕ) → file_len n k ≤ length d
        → D ≡ sets (sets (sets d 0 (header n k)) 40 (primary n v)) (40 + n) (overflow_part n v)
        → sets D (40 + n + 12 * k) (index_from D n k) ≡ file n v ++ drop (length (file n v)) d
    built d D fits is =
        rw count
        (whole n v few (drop (length (front_of n v)) d) d D refl (rw count at fits)
        ((rw count at is) ∙ sets-front_of n v d))

    pub built-refused : (d d₁ : List ℕ) (r : Refusal) → begin_outcome n k (length d) ≡ Err r → d₁ ≡ begin_buffer n k d
        → d₁ ≡ file_buffer (file_into n v (length d)) n v d
    built-refused d d₁ r e e₁ =
        e₁
        ∙ begin-refused n k d r e
        ∙ ap (λ (o : Outcome Summary). file_buffer o n v d) (begun-is (length d) (Err r) e)

    -- the buffer after each of the parts
    module _ (d d₁ d₂ d₃ d₄ : List ℕ) (s : Counts) (e : begin_outcome n k (length d) ≡ Ok s)
        (e₁ : d₁ ≡ begin_buffer n k d) (e₂ : d₂ ≡ sets d₁ 40 (primary n v))
        (e₃ : d₃ ≡ sets d₂ (40 + n) (overflow_part n v))
        (e₄ : d₄ ≡ sets d₃ (40 + n + 12 * k) (index_from d₃ n k)) where
      built-file : d₄ ≡ file n v ++ drop (length (file n v)) d
      built-file =
          let b = begun n k d s e in
          e₄ ∙ built d d₃ b.fits (e₃ ∙ rw (e₂, e₁, b.buffer))

      pub built-done : d₄ ≡ file_buffer (file_into n v (length d)) n v d
      built-done = built-file ∙ ap (λ (o : Outcome Summary). file_buffer o n v d) (begun-is (length d) (Ok s) e)

      module _ (each : Fits n v) where
        map_is : CheckedMap d₄ n k
        map_is =
            rw (count, built-file) (front-map n v few each (drop (length (file n v)) d))

        sum_is : sum_from (value_of (file_parts d₄ n k)) 0 n ≡ sum_from v 0 n
        sum_is =
            rw (count, built-file) (front-sum n v few each (drop (length (file n v)) d))

        pub built-checked : CheckedMap d₄ s.n s.k
        unfolding counts_of
        built-checked = rw (begun n k d s e).counts map_is

        pub built-sum : sum_from (value_of (file_parts d₄ s.n s.k)) 0 s.n ≡ sum_from v 0 n
        unfolding counts_of
        built-sum = rw (begun n k d s e).counts sum_is
