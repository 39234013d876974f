-- Laws of sound parts along their overflow entries: between two entries all slots are inline, so the entries
-- alone tell how the distances differ from the primary bytes.
--   excess P j         what entry j has above the byte 255
--   slots-sorted       the slots of the entries do not fall
--   slot-below         entries before entry j have smaller slots
--   gap-inline, -value a slot past entry j - 1 and before entry j is inline; its byte is its distance
--   entry_of-there      a slot with byte 255 has its entry, and value_of-entry_of its distance there
--   entry_of-from, -above, -unique
--                      a search for that entry: not before entry t, past an entry with a smaller slot, found
--   sum-entries        the sum of all distances: that of the bytes and of the excesses; sum-entries-of for any f
-- Axioms: none.
use mathlib.Core.Path.{◌≡◌, sym, ap, ◌∙◌}
use Prim.Native.Nat.{ℕ, zero, suc, ◌+◌, ◌-◌, ◌≤◌, ◌<◌}
use native.Mathlib.Nat.{zero-add, sub-zero}
use native.Mathlib.Numerals.{add-one}
use native.Mathlib.Omega.{arith}
use native.Mathlib.Decide.{dec_le}
use Rattle.pciv_bytes.specs.Ranges.{sum_from}
use Rattle.pciv_bytes.proofs.SumLaws.{sum_from-none, sum_from-more, sum_from-split, sum_from-cong}
use Rattle.pciv_format.specs.Parts.{Parts, lowest_slot, entry_of, value_of, SoundParts}
use Rattle.pciv_format.proofs.PartsLaws.{entry-good, slots-rise, entry_of-slot, slot-entry}
use Rattle.pciv_format.proofs.PartsLaws.{value_of-slot, value_of-inline, slot_cases}

abbrev pub excess : Parts → ℕ → ℕ
excess P j = P.distance j - 255

-- the slots of the entries do not fall
pub slots-sorted : (P : Parts) → SoundParts P → (i j : ℕ) → i ≤ j → j < P.k → P.slot i ≤ P.slot j
slots-sorted P s i j h inside =
    elim (dec_le j i) [
      | yes d ↦ (let e : i ≡ j = omega arith in omega (arith, ap P.slot e))
      | no d ↦ omega (arith, slots-rise P s i j (omega arith) inside)
    ]

module _ (P : Parts) (s : SoundParts P) (bytes : (i : ℕ) → P.byte i < 256) where
  -- the entries before entry j have slots below the least that it may have
  pub slot-below : (j t : ℕ) → t < j → j ≤ P.k → P.slot t < lowest_slot P j
  slot-below zero t h inside = absurd (omega arith)
  slot-below (suc j) t h inside = omega (arith, slots-sorted P s t j (omega arith) (omega arith))

  -- ---- between two entries

  pub gap-inline : (j i : ℕ) → j ≤ P.k → lowest_slot P j ≤ i → (j < P.k → i < P.slot j) → i < P.n
      → P.byte i < 255
  gap-inline j i few low high inside =
      slot_cases P s bytes i inside (λ small e. small)
      (λ t ht at e w overflows.
      elim (dec_le j t) [
        | yes d ↦ absurd (omega (arith, high (omega arith), slots-sorted P s j t d ht))
        | no d ↦ absurd (omega (arith, slot-below j t (omega arith) few))
      ])

  pub gap-value : (j i : ℕ) → j ≤ P.k → lowest_slot P j ≤ i → (j < P.k → i < P.slot j) → i < P.n
      → value_of P i ≡ P.byte i
  gap-value j i few low high inside = value_of-inline P s i (gap-inline j i few low high inside)

  -- ---- the entry of a slot with byte 255

  module _ (i : ℕ) (inside : i < P.n) (full : P.byte i ≡ 255) where
    pub entry_of-there : (entry_of P i < P.k) × (P.slot (entry_of P i) ≡ i)
    entry_of-there =
        let q = slot-entry P s i inside full in
        let at : entry_of P i ≡ q.0 = ap (entry_of P) (sym q.2) ∙ entry_of-slot P s q.0 q.1 in
        (omega (arith, q.1), ap P.slot at ∙ q.2)

    pub value_of-entry_of : value_of P i ≡ P.distance (entry_of P i)
    unfolding value_of
    value_of-entry_of = rw full

    pub entry_of-from : (t : ℕ) → t ≤ P.k → lowest_slot P t ≤ i → t ≤ entry_of P i
    entry_of-from t few low =
        let there = entry_of-there in
        elim (dec_le t (entry_of P i)) [
          | yes d ↦ d
          | no d ↦ absurd (omega (arith, slot-below t (entry_of P i) (omega arith) few, there.1))
        ]

    pub entry_of-above : (j : ℕ) → j ≤ entry_of P i → P.slot j < i → j + 1 ≤ entry_of P i
    entry_of-above j h below =
        let there = entry_of-there in
        elim (dec_le (entry_of P i) j) [
          | yes d ↦ (let same : j ≡ entry_of P i = omega arith in absurd (omega (arith, ap P.slot same, there.1)))
          | no d ↦ omega arith
        ]

    pub entry_of-unique : (j : ℕ) → j ≤ entry_of P i → i ≤ P.slot j → j ≡ entry_of P i
    entry_of-unique j h above =
        let there = entry_of-there in
        elim (dec_le (entry_of P i) j) [
          | yes d ↦ omega arith
          | no d ↦ absurd (omega (arith, slots-rise P s j (entry_of P i) (omega arith) there.0, there.1))
        ]

  -- ---- sums

  -- f of every slot and its distance, where f at an entry is f of the byte 255 there and g of the entry
  module _ (f : ℕ → ℕ → ℕ) (g : ℕ → ℕ)
      (each : (j : ℕ) → j < P.k → f (P.slot j) (P.distance j) ≡ f (P.slot j) 255 + g j) where
    gap-sum : (j to : ℕ) → j ≤ P.k → (j < P.k → to ≤ P.slot j) → to ≤ P.n
        → let low : ℕ = lowest_slot P j in
        sum_from (λ (i : ℕ). f i (value_of P i)) low (to - low) ≡ sum_from (λ (i : ℕ). f i (P.byte i)) low (to - low)
    gap-sum j to few before inside =
        let low : ℕ = lowest_slot P j in
        sum_from-cong (λ (i : ℕ). f i (value_of P i)) (λ (i : ℕ). f i (P.byte i)) low (to - low)
        (λ i h₁ h₂. ap (f i) (gap-value j i few h₁ (λ more. omega (arith, before more)) (omega arith)))

    -- from entry j on, d entries
    sum-rest : (d j : ℕ) → j + d ≡ P.k
        → let low : ℕ = lowest_slot P j in
        sum_from (λ (i : ℕ). f i (value_of P i)) low (P.n - low)
        ≡ sum_from (λ (i : ℕ). f i (P.byte i)) low (P.n - low) + sum_from g j (P.k - j)
    sum-rest zero j e =
        let inline = gap-sum j P.n (omega arith) (λ more. absurd (omega arith)) (omega arith) in
        omega (arith, sum_from-none g j P.k (omega arith))
    sum-rest (suc d) j e =
        let v : ℕ → ℕ = λ i. f i (value_of P i) in
        let b : ℕ → ℕ = λ i. f i (P.byte i) in
        let low : ℕ = lowest_slot P j in
        let at : ℕ = P.slot j in
        let here : j < P.k = omega arith in
        let good = entry-good P s j here in
        let inside : at < P.n = good.inside in
        let above : low ≤ at = good.above in
        omega (
          arith,
          sum_from-split v low at P.n above (omega arith),
          sum_from-split b low at P.n above (omega arith),
          gap-sum j at (omega arith) (λ more. omega arith) (omega arith),
          sum_from-more v at P.n inside,
          sum_from-more b at P.n inside,
          sum_from-more g j P.k here,
          ap (f at) (value_of-slot P s j here),
          ap (f at) good.marked,
          each j here,
          rw (← add-one j) at (sum-rest d (suc j) (omega arith)),
        )

    pub sum-entries-of : sum_from (λ (i : ℕ). f i (value_of P i)) 0 P.n
        ≡ sum_from (λ (i : ℕ). f i (P.byte i)) 0 P.n + sum_from g 0 P.k
    sum-entries-of = rw (sub-zero P.n, sub-zero P.k) at (sum-rest P.k 0 (zero-add P.k))

  pub sum-entries : sum_from (value_of P) 0 P.n
      ≡ sum_from P.byte 0 P.n + sum_from (excess P) 0 P.k
  sum-entries =
      sum-entries-of (λ (i x : ℕ). x) (excess P) (λ j h. omega (arith, (entry-good P s j h).overflows))
