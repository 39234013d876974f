-- Primary bytes that are put right at the slots of a map's overflow entries.
--   Mended A v d₀ j d     d₀ was right where A is stored inline; in d the slots of the first j entries are right too
--   mended-start, -more, -end    before the first entry, one entry on, and after the last
--   Settled A v d₀ j d p  the same where the overflow entries of v are written too: those of the slots past the first j
--                         entries of A are left to write from p on
--   settled-start, -end   before the first entry, and after the last
--   settled-byte          slot i has a byte in the buffer
--   settled-space, -more, -pass    a byte is put right, and there is space for its entry, which is written, or none is
--   settled-over          what the primary array was before does not matter
-- Axioms: none.
use mathlib.Core.Path.{◌≡◌, refl, sym, ap, ◌∙◌}
use Prim.Native.Nat.{ℕ, ◌+◌, ◌*◌, ◌≤◌, ◌<◌}
use native.Mathlib.Numerals.{add-one}
use native.Mathlib.Omega.{arith}
use native.Mathlib.Decide.{dec_le}
use mathlib.Core.List.{List, ◌++◌}
use lib.ListN.{length, get_or, set, length-set}
use lib.Seq.{sets, get_or-set_same, get_or-set_other}
use Rattle.pciv_bytes.specs.Ranges.{table}
use Rattle.pciv_bytes.specs.LittleEndian.{le}
use Rattle.pciv_bytes.proofs.RangesLaws.{length-table}
use Rattle.pciv_bytes.proofs.WriteLaws.{sets-set-inside, sets_same, sets_over, set-before-sets}
use Rattle.pciv_format.specs.Layout.{primary_byte, primary, overflow_count, overflow_part}
use Rattle.pciv_format.specs.Parts.{Parts, lowest_slot, SoundParts}
use Rattle.pciv_format.proofs.PartsLaws.{entry-good}
use Rattle.pciv_format.proofs.LayoutLaws.{length-primary}
use Rattle.pciv_build.proofs.EntriesLaws.{EntriesLeft, entries_from, entries-start}
use Rattle.pciv_build.proofs.AlongLaws.{Along, entries_fit, entries-entry, entries-pass, entries-last}
use Rattle.pciv_format.proofs.PrimaryLaws.{primary-byte}
use Rattle.pciv_format.proofs.EntryLaws.{gap-inline}
use Rattle.pciv_arith_merge.specs.Merge.{parts_put, InlineRight}

pub record Mended (A : Parts) (v : ℕ → ℕ) (d₀ : List ℕ) (j : ℕ) (d : List ℕ) : Type 0 where
  pub size : length d ≡ length d₀
  pub rest : sets d₀ 40 (primary A.n v) ≡ sets d 40 (primary A.n v)
  pub inline : InlineRight A v d
  pub passed : (i : ℕ) → i < A.n → i < lowest_slot A j → get_or d (40 + i) 0 ≡ primary_byte (v i)

pub mended-start : (A : Parts) (v : ℕ → ℕ) (d : List ℕ) → InlineRight A v d → Mended A v d 0 d
mended-start A v d right = record { size = refl; rest = refl; inline = right; passed = λ i h low. absurd (omega arith) }

module _ (A : Parts) (s : SoundParts A) (bytes : (i : ℕ) → A.byte i < 256) (v : ℕ → ℕ) (d₀ : List ℕ) (j : ℕ)
    (d : List ℕ)
    (m : Mended A v d₀ j d) where
  -- a slot between two entries
  between : (i : ℕ) → j ≤ A.k → (j < A.k → i < A.slot j) → i < A.n → get_or d (40 + i) 0 ≡ primary_byte (v i)
  between i few before inside =
      elim (dec_le (lowest_slot A j) i) [
        | yes low ↦ m.inline.right i inside (gap-inline A s bytes j i few low before inside)
        | no low ↦ m.passed i inside (omega arith)
      ]

  module _ (here : j < A.k) (slot x : ℕ) (at : slot ≡ A.slot j) (is : x ≡ primary_byte (v (A.slot j))) where
    other : (i : ℕ) → (i ≡ slot → ⊥) → get_or d (40 + i) 0 ≡ primary_byte (v i)
        → get_or (set d (40 + slot) x) (40 + i) 0 ≡ primary_byte (v i)
    other i ne right = get_or-set_other d (40 + slot) (40 + i) x 0 (λ q. ne (omega arith)) ∙ right

    up_to : (i : ℕ) → i < A.n → i ≤ slot → get_or (set d (40 + slot) x) (40 + i) 0 ≡ primary_byte (v i)
    up_to i inside h =
        elim (dec_le slot i) [
          | yes last ↦ (let e : i ≡ slot = omega arith in
              rw e (get_or-set_same d (40 + slot) x 0 (omega (arith, m.inline.space)) ∙ is
              ∙ ap (λ (u : ℕ). primary_byte (v u)) (sym at)))
          | no last ↦ other i (λ q. omega arith) (between i (omega arith) (λ more. omega arith) inside)
        ]

    pub mended-more : Mended A v d₀ (j + 1) (set d (40 + slot) x)
    mended-more =
        let good = entry-good A s j here in
        let inside : slot < A.n = omega (arith, good.inside) in
        record {
          size = simp length-set m.size;
          rest = m.rest
              ∙ sym (sets-set-inside (primary A.n v) d 40 (40 + slot) x (omega arith)
              (omega (arith, length-primary A.n v)));
          inline =
              record {
                space = simp length-set m.inline.space;
                right = λ i h small.
                    other i (λ q. omega (arith, ap A.byte (q ∙ at), good.marked)) (m.inline.right i h small);
              };
          passed = λ i h low. up_to i h (omega (arith, rw (add-one j) at low));
        }

  pub mended-end : j ≤ A.k → A.k ≤ j → d ≡ sets d₀ 40 (primary A.n v)
  mended-end few last =
      sym
      (m.rest
      ∙ sets_same (primary A.n v) d 0 40
      (λ i h.
      (let inside : i < A.n = rw length-primary at h in
      between i few (λ more. absurd (omega arith)) inside ∙ sym (primary-byte A.n v i inside))))

-- ---- with the overflow entries behind them

-- the entries that are left are the same where a byte before them changes
entries-patch : {n : ℕ} {v : ℕ → ℕ} {d₀ : List ℕ} {p₀ i : ℕ} {d : List ℕ} {p : ℕ} → EntriesLeft n v d₀ p₀ i d p
    → (q x : ℕ) → q < p₀ → EntriesLeft n v (set d₀ q x) p₀ i (set d q x) p
entries-patch {n} {v} {d₀} {p₀} {i} {d} {p} e q x h =
    record {
      inside = e.inside;
      size = simp length-set e.size;
      low = e.low;
      count = e.count;
      space = simp length-set e.space;
      rest = sym (set-before-sets (entries_from n v 0) d₀ q p₀ x h)
          ∙ ap (λ (l : List ℕ). set l q x) e.rest
          ∙ set-before-sets (entries_from n v i) d q p x (omega (arith, e.low));
    }

-- `bytes` is the buffer with the bytes alone
pub record Settled (A : Parts) (v : ℕ → ℕ) (d₀ : List ℕ) (j : ℕ) (d : List ℕ) (p : ℕ) : Type 0 where
  pub bytes : List ℕ
  pub mended : Mended A v d₀ j bytes
  pub left : EntriesLeft A.n v bytes (40 + A.n) (lowest_slot A j) d p

pub settled-start : (A : Parts) (v : ℕ → ℕ) (d : List ℕ) → InlineRight A v d
    → 40 + A.n + 12 * overflow_count A.n v ≤ length d
    → Settled A v d 0 d (40 + A.n)
settled-start A v d right space =
    record { bytes = d; mended = mended-start A v d right; left = entries-start A.n v d (40 + A.n) space }

pub settled-byte : {A : Parts} {v : ℕ → ℕ} {d₀ : List ℕ} {j : ℕ} {d : List ℕ} {p : ℕ} → Settled A v d₀ j d p
    → (i : ℕ) → i < A.n → 40 + i < length d
settled-byte e i h = omega (arith, e.left.size, e.mended.inline.space)

module _ {A : Parts} {v : ℕ → ℕ} (along : Along A v) {d₀ : List ℕ} {j : ℕ} {d : List ℕ} {p : ℕ}
    (e : Settled A v d₀ j d p) where
  module _ (here : j < A.k) (slot x : ℕ) (at : slot ≡ A.slot j) (is : x ≡ primary_byte (v (A.slot j))) where
    next : Mended A v d₀ (j + 1) (set e.bytes (40 + slot) x)
    next = mended-more A along.sound along.bytes v d₀ j e.bytes e.mended here slot x at is

    patched : EntriesLeft A.n v (set e.bytes (40 + slot) x) (40 + A.n) (lowest_slot A j) (set d (40 + slot) x) p
    patched = entries-patch e.left (40 + slot) x (omega (arith, (entry-good A along.sound j here).inside))

    pub settled-space : 255 ≤ v (A.slot j) → p + 12 ≤ length (set d (40 + slot) x)
    settled-space overflows = entries_fit along j here patched overflows

    pub settled-more : 255 ≤ v (A.slot j) → (y : ℕ) (d' : List ℕ) (p' : ℕ) → y ≡ v (A.slot j)
        → d' ≡ sets (set d (40 + slot) x) p (le 8 slot ++ le 4 y) → p' ≡ p + 12 → Settled A v d₀ (j + 1) d' p'
    settled-more overflows y d' p' same put past =
        record {
          bytes = set e.bytes (40 + slot) x;
          mended = next;
          left = entries-entry along j here patched overflows slot y d' p' at same put past;
        }

    pub settled-pass : v (A.slot j) < 255 → Settled A v d₀ (j + 1) (set d (40 + slot) x) p
    settled-pass inline =
        record {
          bytes = set e.bytes (40 + slot) x;
          mended = next;
          left = entries-pass along j here patched inline;
        }

  pub settled-end : j ≤ A.k → A.k ≤ j → d ≡ parts_put A.n v d₀
  settled-end few last =
      entries-last along j few last e.left
      ∙ ap (λ (l : List ℕ). sets l (40 + A.n) (overflow_part A.n v))
      (mended-end A along.sound along.bytes v d₀ j e.bytes e.mended few last)

pub settled-over : (n : ℕ) (f v : ℕ → ℕ) (d d₁ d₂ : List ℕ) → d₁ ≡ sets d 40 (table f 0 n) → d₂ ≡ parts_put n v d₁
    → d₂ ≡ parts_put n v d
settled-over n f v d d₁ d₂ first second =
    second
    ∙ ap (parts_put n v) first
    ∙ ap (λ (l : List ℕ). sets l (40 + n) (overflow_part n v))
    (sets_over (table f 0 n) (primary n v) d 40 (omega (arith, length-table f 0 n, length-primary n v)))
