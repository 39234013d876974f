-- Entries for slots whose distances are not known yet, written in the order of the slots.
--   length-blank_entry, length-blank_entries    how long they are
--   BlanksLeft      the invariant: the entries of the slots xs are left
--   blanks-start, -more, -part, -end    before the first; one entry on, several; after the last
--   blanks-space    there is space for the next ones
--   blanks-before   what stands before the entries stays as it was
--   slots_same, word_same    the slots with primary byte 255, and their word, where the primary bytes stay
--   slots-part      these slots: those of a block, and then the others
--   slots-word      the same for a word, of which only some bits may be slots
--   slots_end       none left
-- Axioms: none.
use mathlib.Core.Path.{◌≡◌, refl, sym, ap, ◌∙◌}
use Prim.Native.Nat.{ℕ, ◌+◌, ◌-◌, ◌*◌, ◌≤◌, ◌<◌, min}
use native.Mathlib.Nat.{le_refl}
use native.Mathlib.Omega.{arith}
use native.Mathlib.Decide.{dec_le}
use mathlib.Core.List.{List, [], ◌∷◌, ◌++◌, append-nil}
use lib.ListN.{length, get_or, length-append}
use lib.Seq.{sets, length-sets}
use lib.Dec.{eqb}
use Rattle.pciv_bytes.specs.Ranges.{positions, joined}
use Rattle.pciv_bytes.specs.LittleEndian.{le}
use Rattle.pciv_bytes.specs.ByteAt.{byte_at}
use Rattle.pciv_bytes.proofs.PositionsLaws.{positions-cong, positions-append}
use Rattle.pciv_bytes.proofs.JoinedLaws.{joined-append, length-joined}
use Rattle.pciv_bytes.proofs.WriteLaws.{sets-append}
use Rattle.pciv_format.specs.Mask.{word}
use Rattle.pciv_format.proofs.BitLaws.{word-cong}
use Rattle.pciv_build.specs.Slots.{is_full, full_slots, blank_entry, blank_entries}
use Rattle.pciv_build.proofs.EntriesLaws.{rest-before}

pub length-blank_entry : (s : ℕ) → length (blank_entry s) ≡ 12
unfolding le
length-blank_entry s = refl

pub length-blank_entries : (xs : List ℕ) → length (blank_entries xs) ≡ 12 * length xs
length-blank_entries xs = length-joined blank_entry 12 length-blank_entry xs

-- the next entry was to stand at place p₀ of d₀, and is to stand at place p of d
pub record BlanksLeft (d₀ : List ℕ) (p₀ : ℕ) (xs₀ : List ℕ) (d : List ℕ) (p : ℕ) (xs : List ℕ) : Type 0 where
  pub size : length d ≡ length d₀
  pub low : p₀ ≤ p
  pub count : p + 12 * length xs ≡ p₀ + 12 * length xs₀
  pub rest : sets d₀ p₀ (blank_entries xs₀) ≡ sets d p (blank_entries xs)

pub blanks-start : (d : List ℕ) (p : ℕ) (xs : List ℕ) → BlanksLeft d p xs d p xs
blanks-start d p xs = record { size = refl; low = le_refl p; count = refl; rest = refl }

blanks-one : (s : ℕ) → blank_entries (s ∷ []) ≡ blank_entry s
unfolding joined
blanks-one s = append-nil (blank_entry s)

blanks-nil : (d : List ℕ) (p : ℕ) → sets d p (blank_entries []) ≡ d
unfolding joined
blanks-nil d p = refl

module _ {d₀ : List ℕ} {p₀ : ℕ} {xs₀ d : List ℕ} {p : ℕ} {xs : List ℕ} (e : BlanksLeft d₀ p₀ xs₀ d p xs) where
  pub blanks-space : (ys zs : List ℕ) → xs ≡ ys ++ zs → p₀ + 12 * length xs₀ ≤ length d₀ → p + 12 * length ys ≤ length d
  blanks-space ys zs split space = omega (arith, e.count, e.size, ap length split ∙ length-append ys zs)

  pub blanks-before : (j : ℕ) → j < p₀ → get_or d j 0 ≡ get_or d₀ j 0
  blanks-before j h = rest-before (blank_entries xs₀) (blank_entries xs) d₀ d p₀ p e.low e.rest j h

  pub blanks-part : (ys zs : List ℕ) → xs ≡ ys ++ zs → (d' : List ℕ) (p' : ℕ) → d' ≡ sets d p (blank_entries ys)
      → p' ≡ p + 12 * length ys → BlanksLeft d₀ p₀ xs₀ d' p' zs
  blanks-part ys zs split d' p' put next =
      record {
        size = ap length put ∙ length-sets d p (blank_entries ys) ∙ e.size;
        low = omega (arith, e.low);
        count = omega (arith, e.count, ap length split ∙ length-append ys zs);
        rest = e.rest
            ∙ rw (split, joined-append blank_entry ys zs, put, next)
            (sets-append (blank_entries ys) (blank_entries zs) d p ∙ rw (length-blank_entries ys));
      }

  pub blanks-more : (s : ℕ) (zs : List ℕ) → xs ≡ s ∷ zs → (d' : List ℕ) (p' : ℕ) → d' ≡ sets d p (le 8 s ++ le 4 255)
      → p' ≡ p + 12 → BlanksLeft d₀ p₀ xs₀ d' p' zs
  blanks-more s zs split d' p' put next =
      blanks-part (s ∷ []) zs split d' p' (put ∙ ap (sets d p) (sym (blanks-one s))) next

  pub blanks-end : xs ≡ [] → (p ≡ p₀ + 12 * length xs₀) × (d ≡ sets d₀ p₀ (blank_entries xs₀))
  blanks-end none = (omega (arith, e.count, ap length none), sym (e.rest ∙ rw none (blanks-nil d p)))

-- ---- the slots with primary byte 255

-- where the primary bytes of d are those of d₀
module _ (d₀ d : List ℕ) (i c : ℕ) (same : (j : ℕ) → i ≤ j → j < i + c → byte_at d (40 + j) ≡ byte_at d₀ (40 + j)) where
  full-same : (j : ℕ) → i ≤ j → j < i + c → is_full d₀ j ≡ is_full d j
  full-same j h₁ h₂ = ap (λ (x : ℕ). eqb x 255) (sym (same j h₁ h₂))

  pub slots_same : full_slots d₀ i c ≡ full_slots d i c
  slots_same = positions-cong (is_full d₀) (is_full d) i c full-same

  pub word_same : word (is_full d₀) i c ≡ word (is_full d) i c
  word_same = word-cong (is_full d₀) (is_full d) i c full-same

  -- a block of c of n slots, and those behind it
  pub slots-part : (n : ℕ) → i + c ≤ n → full_slots d₀ i (n - i) ≡ full_slots d i c ++ full_slots d₀ (i + c) (n - (i + c))
  slots-part n h =
      let e : n - i ≡ c + (n - (i + c)) = omega arith in
      rw e
      (positions-append (is_full d₀) i c (n - (i + c))
      ∙ ap (λ (l : List ℕ). l ++ full_slots d₀ (i + c) (n - (i + c))) slots_same)

pub slots_end : (d : List ℕ) (n i : ℕ) → n ≤ i → full_slots d i (n - i) ≡ []
unfolding positions
slots_end d n i h = let e : n - i ≡ 0 = omega arith in rw e

-- the slots of a word, and those behind it
pub slots-word : (d₀ d : List ℕ) (i n : ℕ)
    → ((j : ℕ) → i ≤ j → j < i + min 64 (n - i) → byte_at d (40 + j) ≡ byte_at d₀ (40 + j))
    → full_slots d₀ i (n - i) ≡ full_slots d i (min 64 (n - i)) ++ full_slots d₀ (i + 64) (n - (i + 64))
slots-word d₀ d i n same =
    elim (dec_le 64 (n - i)) [
      | yes full ↦ (let e : min 64 (n - i) ≡ 64 = omega arith in
          rw e (slots-part d₀ d i 64 (λ j h₁ h₂. same j h₁ (omega arith)) n (omega arith)))
      | no part ↦ (let e : min 64 (n - i) ≡ n - i = omega arith in
          rw (e, slots_end d₀ n (i + 64) (omega arith))
          (slots_same d₀ d i (n - i) (λ j h₁ h₂. same j h₁ (omega arith)) ∙ sym (append-nil (full_slots d i (n - i)))))
    ]
