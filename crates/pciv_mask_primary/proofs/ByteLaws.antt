-- The primary bytes of the result.
--   masked-byte-is       what a bit makes of a primary byte is the primary byte of what it makes of the distance
--   masked_slot op b ws i     what becomes of the primary byte of slot i in the file b
--   word-of-slots, masked-primary    64 slots are a word; all slots are the primary bytes
--   bytes-set            a byte written among bytes
--   raised-lowest, -none     one step of a walk that raises the bytes of the set slots of a word, and its end
--   raised-copied        after a copy of 64 bytes it leaves what the word makes of them;  word-length  their number
-- Axioms: none.
use mathlib.Core.Path.{◌≡◌, refl, sym, ap, ap₂, ◌∙◌}
use Prim.Native.Nat.{ℕ, ◌+◌, ◌*◌, ◌-◌, ◌^◌, ◌≤◌, ◌<◌}
use native.Mathlib.Nat.{zero-add}
use native.Mathlib.Omega.{arith}
use native.Mathlib.Decide.{ℕ_discrete}
use mathlib.Core.Bool.{Bool, true, false}
use mathlib.Core.List.{List}
use lib.ListN.{length, get_or, take, drop, set, length-drop}
use lib.Seq.{sets, length-take-le, get_or-take, get_or-drop, get_or-set_same, get_or-set_other}
use lib.Bits.{bit_and}
use lib.Count.{count_trailing_zeros}
use Rattle.pciv_bytes.specs.Ranges.{flag, table}
use Rattle.pciv_bytes.specs.LittleEndian.{Bytes}
use Rattle.pciv_bytes.specs.ByteAt.{byte_at}
use Rattle.pciv_bytes.proofs.RangesLaws.{length-table, get_or-table, table-cong, table-shift, flag-le}
use Rattle.pciv_bytes.proofs.WriteLaws.{sets-at, sets-set-inside, sets_same, sets_over}
use Rattle.pciv_format.specs.Layout.{primary_byte, primary}
use Rattle.pciv_format.specs.Parts.{Parts, value_of}
use Rattle.pciv_format.specs.Check.{file_parts, CheckedMap}
use Rattle.pciv_format.specs.Mask.{bit_at, mask_has, mask_value}
use Rattle.pciv_format.proofs.PartsLaws.{primary_byte-value_of, primary_byte-min}
use Rattle.pciv_format.proofs.BitLaws.{bit_at-none, trailing-bit, trailing_lt, less-lowest, less_other}
use Rattle.pciv_format.proofs.MaskLaws.{flag-mask_has}
use Rattle.pciv_mask_primary.specs.Masked.{masked_of, masked_distance, masked_byte, masked_word}
use Rattle.pciv_mask_primary.specs.declared.MaskedOp.{MaskedOp}
use Rattle.pciv_mask_primary.specs.declared.MaskedOp.TheVariants.{Keep, Increment}

-- ---- slots

pub masked-byte-is : (op : MaskedOp) (b : Bool) (x : ℕ)
    → masked_byte op (flag b) (primary_byte x) ≡ primary_byte (masked_of op b x)
masked-byte-is Keep true x = refl
masked-byte-is Keep false x = refl
masked-byte-is Increment b x = omega (arith, primary_byte-min x, primary_byte-min (x + flag b), flag-le b)

module _ (op : MaskedOp) (b ws : List ℕ) where
  abbrev pub masked_slot : ℕ → ℕ
  masked_slot i = masked_byte op (mask_value ws i) (byte_at b (40 + i))

  pub word-of-slots : (w : ℕ)
      → table (masked_word op b (40 + 64 * w) (get_or ws w 0)) 0 64 ≡ table masked_slot (64 * w) 64
  word-of-slots w =
      let x : ℕ = get_or ws w 0 in
      table-shift (masked_word op b (40 + 64 * w) x) masked_slot 0 (64 * w) 64
      (λ t h.
      (let e : 40 + 64 * w + (0 + t) ≡ 40 + (64 * w + t) = omega arith in
      ap₂ (masked_byte op) (ap (bit_at x) (zero-add t) ∙ sym (flag-mask_has ws w t h)) (ap (byte_at b) e)))

  pub masked-primary : (n k : ℕ) → CheckedMap b n k → Bytes b
      → table masked_slot 0 n ≡ primary n (masked_distance op (file_parts b n k) ws)
  unfolding primary
  masked-primary n k c bytes =
      let P : Parts = file_parts b n k in
      table-cong masked_slot (λ (i : ℕ). primary_byte (masked_distance op P ws i)) 0 n
      (λ i h.
      (let byte = primary_byte-value_of P c.parts (λ t. bytes (40 + t)) i (omega arith) in
      ap (masked_byte op (mask_value ws i)) (sym byte) ∙ masked-byte-is op (mask_has ws i) (value_of P i)))

-- ---- raised by a walk

pub bytes-set : (d : List ℕ) (p x : ℕ) → p < length d → Bytes d → x < 256 → Bytes (set d p x)
bytes-set d p x inside bytes byte i =
    elim (ℕ_discrete i p) [
      | yes e ↦ rw (e, get_or-set_same d p x 0 inside) byte
      | no other ↦ rw (get_or-set_other d p i x 0 (λ q. other (omega arith))) (bytes i)
    ]

-- x has the bits that are left, the lowest of them at `lowest`, and d the bytes so far
module _ (d : List ℕ) (at x : ℕ) (pos : 0 < x) (small : x < 2 ^ 64) (space : at + 64 ≤ length d) where
  abbrev lowest : ℕ
  lowest = count_trailing_zeros 64 x

  abbrev less : ℕ
  less = bit_and x (x - 1)

  abbrev raised : ℕ
  raised = masked_byte Increment 1 (byte_at d (at + lowest))

  abbrev after : List ℕ
  after = set d (at + lowest) raised

  raised-here : masked_word Increment d at x lowest ≡ masked_word Increment after at less lowest
  raised-here =
      let inside : at + lowest < length d = omega (arith, trailing_lt 64 x pos small) in
      let byte : byte_at after (at + lowest) ≡ raised = get_or-set_same d (at + lowest) raised 0 inside in
      omega (arith, trailing-bit 64 x pos small, less-lowest 64 x pos small)

  raised-other : (j : ℕ) → (j ≡ lowest → ⊥) → masked_word Increment d at x j ≡ masked_word Increment after at less j
  raised-other j other =
      ap₂ (masked_byte Increment) (sym (less_other 64 x j pos small other))
      (sym (get_or-set_other d (at + lowest) (at + j) raised 0 (λ q. other (omega arith))))

  raised-each : (j : ℕ) → masked_word Increment d at x j ≡ masked_word Increment after at less j
  raised-each j =
      elim (ℕ_discrete j lowest) [
        | yes e ↦ rw e raised-here
        | no other ↦ raised-other j other
      ]

  pub raised-lowest : sets d at (table (masked_word Increment d at x) 0 64)
      ≡ sets after at (table (masked_word Increment after at less) 0 64)
  raised-lowest =
      let f : ℕ → ℕ = masked_word Increment after at less in
      let l : length (table f 0 64) ≡ 64 = length-table f 0 64 in
      ap (sets d at) (table-cong (masked_word Increment d at x) f 0 64 (λ j h. raised-each j))
      ∙ sym
      (sets-set-inside (table f 0 64) d at (at + lowest) raised (omega arith)
      (omega (arith, trailing_lt 64 x pos small)))

pub raised-none : (d : List ℕ) (at : ℕ) → Bytes d → sets d at (table (masked_word Increment d at 0) 0 64) ≡ d
raised-none d at bytes =
    let f : ℕ → ℕ = masked_word Increment d at 0 in
    let l : length (table f 0 64) ≡ 64 = length-table f 0 64 in
    sets_same (table f 0 64) d 0 at
    (λ j h.
    sym (get_or-table f 0 0 64 j (omega arith) ∙ rw (zero-add j) (omega (arith, bit_at-none j, bytes (at + j)))))

-- 64 bytes of a list
pub word-length : (b : List ℕ) (at : ℕ) → at + 64 ≤ length b → length (take 64 (drop at b)) ≡ 64
word-length b at inside = length-take-le 64 (drop at b) (simp length-drop (omega arith))

pub raised-copied : (b d c : List ℕ) (at word : ℕ) → at + 64 ≤ length b → at + 64 ≤ length d
    → c ≡ sets d at (take 64 (drop at b))
    → sets c at (table (masked_word Increment c at word) 0 64) ≡ sets d at (table (masked_word Increment b at word) 0 64)
raised-copied b d c at word inside space is =
    let src : List ℕ = take 64 (drop at b) in
    let f : ℕ → ℕ = masked_word Increment c at word in
    let l : length src ≡ 64 = word-length b at inside in
    let m : length (table f 0 64) ≡ 64 = length-table f 0 64 in
    ap (λ (e : List ℕ). sets e at (table f 0 64)) is
    ∙ sets_over src (table f 0 64) d at (omega arith)
    ∙ ap (sets d at)
    (table-cong f (masked_word Increment b at word) 0 64
    (λ j h.
    ap (masked_byte Increment (bit_at word j))
    (ap (λ (e : List ℕ). byte_at e (at + j)) is
    ∙ sets-at d src at j 0 (omega arith) (omega arith)
    ∙ get_or-take 64 (drop at b) j 0 (omega arith)
    ∙ get_or-drop at b j 0)))
