-- A file of (n, v) written by one routine: `begin`, the primary bytes, the overflow entries, `finish`.
--   begin-few          `begin` may be called where the k slots in overflow are counted
--   Opened             `begin` was called on the buffer d, answered a and left d₁; the routine is to answer o
--   opened-refused     it was refused, and so is the routine
--   opened-space       it was done: there is space for the parts that follow
--   opened-entries     the primary bytes are written: they stand in their place, and there is space for the entries
--   opened-finish      the overflow entries are written too: `finish` may be called
--   opened_map         all is written: a checked map stands there
--   opened-counted     the routine answers the counts with the sum of the distances: its answer and buffer are right
--   opened-done        the same where it answers the summary of what stands there
-- Axioms: none.
use Rattle.std.proofs.Common.{Ok, Err}
use mathlib.Core.Path.{◌≡◌, sym, ap, ◌∙◌}
use Prim.Native.Nat.{ℕ, ◌+◌, ◌*◌, ◌≤◌}
use native.Mathlib.Omega.{arith}
use mathlib.Core.List.{List}
use lib.ListN.{length}
use lib.Seq.{sets, length-sets}
use Rattle.pciv_bytes.specs.Ranges.{sum_from}
use Rattle.pciv_format.specs.Layout.{max_slots, file_len, header, primary, overflow_count, overflow_part, summarize}
use Rattle.pciv_format.specs.Refusals.{Outcome}
use Rattle.pciv_format.specs.Parts.{value_of}
use Rattle.pciv_format.specs.Check.{file_parts, CheckedMap}
use Rattle.pciv_format.specs.Write.{file_into, file_buffer}
use Rattle.pciv_format.specs.declared.Counts.{Counts}
use Rattle.pciv_format.specs.declared.Summary.{Summary}
use Rattle.pciv_format.specs.declared.Refusal.{Refusal}
use Rattle.pciv_format.proofs.LayoutLaws.{overflow_count-le}
use Rattle.pciv_build.specs.Build.{Fits, begin_outcome, begin_buffer, index_from}
use Rattle.pciv_build.specs.Slots.{HoldsPrimary}
use Rattle.pciv_build.proofs.BuildLaws.{Begun, begun, begun-is, built-done, built-refused}
use Rattle.pciv_build.proofs.BuildLaws.{built-checked, built-sum}
use Rattle.pciv_build.proofs.IntoLaws.{holds-primary}

pub begin-few : (n k : ℕ) (v : ℕ → ℕ) → n ≤ max_slots → k ≡ overflow_count n v → (n ≤ max_slots) × (k ≤ n)
begin-few n k v few count = (few, omega (arith, overflow_count-le n v))

pub record Opened (n k : ℕ) (v : ℕ → ℕ) (o : Outcome Summary) (d : List ℕ) (a : Outcome Counts) (d₁ : List ℕ) : Type 0 where
  pub few : n ≤ max_slots
  pub each : Fits n v
  pub count : k ≡ overflow_count n v
  pub into : o ≡ file_into n v (length d)
  pub answer : a ≡ begin_outcome n k (length d)
  pub buffer : d₁ ≡ begin_buffer n k d

module _ {n k : ℕ} {v : ℕ → ℕ} {o : Outcome Summary} {d : List ℕ} {a : Outcome Counts} {d₁ : List ℕ}
    (e : Opened n k v o d a d₁) where
  -- the buffer after writing the file is that of the routine
  buffer-is : (d' : List ℕ) → d' ≡ file_buffer (file_into n v (length d)) n v d → d' ≡ file_buffer o n v d
  buffer-is d' is = is ∙ ap (λ (x : Outcome Summary). file_buffer x n v d) (sym e.into)

  pub opened-refused : (r : Refusal) → a ≡ Err r
      → (Err r ≡ o) × (d₁ ≡ file_buffer o n v d)
  opened-refused r is =
      let no : begin_outcome n k (length d) ≡ Err r = sym e.answer ∙ is in (
        (begun-is n k v e.count (length d) (Err r) no ∙ sym e.into),
        buffer-is d₁ (built-refused n k v e.count e.few d d₁ r no e.buffer),
      )

  module _ (s : Counts) (is : a ≡ Ok s) where
    ok : begin_outcome n k (length d) ≡ Ok s
    ok = sym e.answer ∙ is

    here : Begun n k d s
    here = begun n k d s ok

    size : length d₁ ≡ length d
    size = ap length (e.buffer ∙ here.buffer) ∙ length-sets d 0 (header n k)

    pub opened-space : 40 + n + 12 * k ≤ length d₁
    opened-space = omega (arith, size, here.entries)

    module _ (d₂ : List ℕ) (put₂ : d₂ ≡ sets d₁ 40 (primary n v)) where
      size₂ : length d₂ ≡ length d₁
      size₂ = ap length put₂ ∙ length-sets d₁ 40 (primary n v)

      pub opened-entries : HoldsPrimary n v d₂ × (40 + n + 12 * k ≤ length d₂)
      opened-entries = (holds-primary n v d₁ d₂ (omega (arith, opened-space)) put₂, omega (arith, opened-space, size₂))

      module _ (d₃ : List ℕ) (put₃ : d₃ ≡ sets d₂ (40 + n) (overflow_part n v)) where
        pub opened-finish : (n ≤ max_slots) × (k ≤ n) × (file_len n k ≤ length d₃)
        opened-finish =
            let few = begin-few n k v e.few e.count in
            let size₃ : length d₃ ≡ length d₂ = ap length put₃ ∙ length-sets d₂ (40 + n) (overflow_part n v) in
            (few.0, few.1, omega (arith, here.fits, size, size₂, size₃))

        module _ (d₄ : List ℕ) (put₄ : d₄ ≡ sets d₃ (40 + n + 12 * k) (index_from d₃ n k)) where
          pub opened_map : CheckedMap d₄ s.n s.k
          opened_map =
              built-checked n k v e.count e.few d d₁ d₂ d₃ d₄ s ok e.buffer put₂ put₃ put₄ e.each

          pub opened-counted : (t : Summary) → t ≡ summarize s (sum_from v 0 n)
              → (Ok t ≡ o) × (d₄ ≡ file_buffer o n v d)
          opened-counted t summed = (
            (ap Ok summed ∙ begun-is n k v e.count (length d) (Ok s) ok ∙ sym e.into),
            buffer-is d₄ (built-done n k v e.count e.few d d₁ d₂ d₃ d₄ s ok e.buffer put₂ put₃ put₄),
          )

          pub opened-done : (t : Summary)
              → t ≡ summarize s (sum_from (value_of (file_parts d₄ s.n s.k)) 0 s.n)
              → (Ok t ≡ o) × (d₄ ≡ file_buffer o n v d)
          opened-done t summed =
              opened-counted t
              (summed
              ∙ ap (summarize s)
              (built-sum n k v e.count e.few d d₁ d₂ d₃ d₄ s ok e.buffer put₂ put₃ put₄ e.each))
