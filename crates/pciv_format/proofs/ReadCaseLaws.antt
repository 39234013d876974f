-- What each reading routine answers, case by case: the file is refused, or it is a checked map with counts s.
--   primary-refused, place-refused, lookup-refused, list-refused, scan-refused, sum-refused, readings-refused
--                                      the file is refused, and so is the call
--   checked                            the file is a checked map
--   primary-done, place-done           its primary part, and where it starts
--   lookup-outside, lookup-inside      one slot: refusal 9, or the distance with its origin
--   list-outside, list-short, list_done    a list of slots: refusals 9 and 12, or how many
--   list_inside, list-buffer, list-entries
--                                      where no slot is outside: each is below n, and what is written to either list
--   scan-short, scan-done, scan-buffer    all slots: refusal 12, or n, and what is written
--   readings-done                      how many are not 0 (the sum: check-sum, SummaryLaws.antt)
-- Axioms: none.
use Rattle.std.proofs.Common.{Ok, Err}
use Rattle.pciv_format.specs.declared.RefusalKind.TheVariants.{SlotOutOfRange, BufferTooSmall}
use mathlib.Core.Path.{◌≡◌, ap, ap₂, ◌∙◌}
use Prim.Native.Nat.{ℕ, ◌≤◌, ◌<◌, min}
use native.Mathlib.Omega.{arith}
use mathlib.Core.Bool.{false}
use mathlib.Core.List.{List, [], ◌++◌, map}
use lib.ListN.{length, get_or, take, drop, length-map}
use lib.Seq.{sets}
use lib.Dec.{leb}
use borrow.Author.Tests.{le-leb, lt-leb, leb-false}
use Rattle.pciv_bytes.specs.Ranges.{first_below, table}
use Rattle.pciv_bytes.proofs.RangesLaws.{map-cong, first_below-all, length-table}
use Rattle.pciv_bytes.proofs.WriteLaws.{sets-front}
use Rattle.pciv_format.specs.Layout.{at}
use Rattle.pciv_format.specs.Refusals.{refuse}
use Rattle.pciv_format.specs.Parts.{entry_of, value_of}
use Rattle.pciv_format.specs.Check.{file_parts, counts_file, CheckedMap}
use Rattle.pciv_format.specs.Read.{list_of, primary_part, behind, primary_place, entry_number, located}
use Rattle.pciv_format.specs.Read.{lookup_outcome, items_into, lookup_list_outcome, lookup_list_buffer}
use Rattle.pciv_format.specs.Read.{lookup_list_entries, scan_outcome, scan_buffer, readings, sum_outcome}
use Rattle.pciv_format.specs.Read.{readings_outcome}
use Rattle.pciv_format.specs.declared.Counts.{Counts}
use Rattle.pciv_format.specs.declared.Refusal.{Refusal}
use Rattle.pciv_format.proofs.RefusalsLaws.{refuse_first-none, refuse_first-some}
use Rattle.pciv_format.proofs.CheckLaws.{done-counts}
use Rattle.pciv_format.proofs.ReadLaws.{list_of-is, at-list, items-fit, items-short}

-- ---- the file is refused

module _ (b : List ℕ) (r : Refusal) (e : counts_file 1 b ≡ Err r) where
  pub primary-refused : primary_part b ≡ []
  unfolding primary_part
  primary-refused = rw e

  pub place-refused : (p : ℕ × ℕ) → primary_place b p ≡ behind 0 p
  unfolding primary_place
  place-refused p = rw e

  pub lookup-refused : (slot : ℕ) → lookup_outcome b slot ≡ Err r
  unfolding lookup_outcome
  lookup-refused slot = rw e

  pub list-refused : (slots : List ℕ) (c₁ c₂ : ℕ) → lookup_list_outcome b slots c₁ c₂ ≡ Err r
  unfolding lookup_list_outcome
  list-refused slots c₁ c₂ = rw e

  pub scan-refused : (capacity : ℕ) → scan_outcome b capacity ≡ Err r
  unfolding scan_outcome
  scan-refused capacity = rw e

  pub sum-refused : sum_outcome b ≡ Err r
  unfolding sum_outcome
  sum-refused = rw e

  pub readings-refused : readings_outcome b ≡ Err r
  unfolding readings_outcome
  readings-refused = rw e

-- ---- the file is a map

module _ (b : List ℕ) (s : Counts) (e : counts_file 1 b ≡ Ok s) where
  pub checked : CheckedMap b s.n s.k
  checked = (done-counts 1 b s e).0

  at_slot : (i : ℕ) → i < s.n → at (list_of b) i ≡ value_of (file_parts b s.n s.k) i
  at_slot = at-list b s.n s.k checked.header.n_is checked.header.k_is

  -- the number of its overflow entry
  at_entry : (i : ℕ) → entry_number b i ≡ entry_of (file_parts b s.n s.k) i
  at_entry i = ap₂ (λ (n k : ℕ). entry_of (file_parts b n k) i) checked.header.n_is checked.header.k_is

  pub primary-done : primary_part b ≡ take s.n (drop 40 b)
  unfolding primary_part
  primary-done = rw e (ap (λ (n : ℕ). take n (drop 40 b)) checked.header.n_is)

  pub place-done : (p : ℕ × ℕ) → primary_place b p ≡ behind 40 p
  unfolding primary_place
  place-done p = rw e

  pub lookup-outside : (slot : ℕ) → s.n ≤ slot → lookup_outcome b slot ≡ refuse SlotOutOfRange 0 0
  unfolding lookup_outcome
  lookup-outside slot h = rw (e, le-leb s.n slot h)

  pub lookup-inside : (slot : ℕ) → slot < s.n
      → (let P = file_parts b s.n s.k in
      lookup_outcome b slot ≡ Ok (located (value_of P slot) s.k (entry_of P slot)))
  unfolding lookup_outcome
  lookup-inside slot h = rw (e, lt-leb s.n slot h, at_slot slot h, at_entry slot, checked.header.k_is)

  -- a list of slots
  module _ (slots : List ℕ) where
    pub list-outside : (c₁ c₂ place : ℕ)
        → place ≡ first_below (λ (i : ℕ). leb s.n (get_or slots i 0)) (length slots)
        → place < length slots → lookup_list_outcome b slots c₁ c₂ ≡ refuse SlotOutOfRange 0 place
    unfolding lookup_list_outcome
    list-outside c₁ c₂ place is h =
        rw e (refuse_first-some SlotOutOfRange 0 (λ (i : ℕ). leb s.n (get_or slots i 0)) (length slots) place _ is h)

    module _ (all : length slots ≤ first_below (λ (i : ℕ). leb s.n (get_or slots i 0)) (length slots)) where
      none : (i : ℕ) → i < length slots → leb s.n (get_or slots i 0) ≡ false
      none i h = first_below-all (λ (i : ℕ). leb s.n (get_or slots i 0)) (length slots) i all h

      pub list_inside : (i : ℕ) → i < length slots → get_or slots i 0 < s.n
      list_inside i h = leb-false s.n (get_or slots i 0) (none i h)

      items : (c₁ c₂ : ℕ) → lookup_list_outcome b slots c₁ c₂ ≡ items_into (length slots) (min c₁ c₂)
      unfolding lookup_list_outcome
      items c₁ c₂ = rw e (refuse_first-none SlotOutOfRange 0 (λ (i : ℕ). leb s.n (get_or slots i 0)) (length slots) _ none)

      pub list-short : (c₁ c₂ : ℕ) → min c₁ c₂ < length slots → lookup_list_outcome b slots c₁ c₂ ≡ refuse BufferTooSmall 0 0
      list-short c₁ c₂ h = items c₁ c₂ ∙ items-short (length slots) (min c₁ c₂) h

      pub list_done : (c₁ c₂ : ℕ) → length slots ≤ min c₁ c₂ → lookup_list_outcome b slots c₁ c₂ ≡ Ok (length slots)
      list_done c₁ c₂ h = items c₁ c₂ ∙ items-fit (length slots) (min c₁ c₂) h

      -- f of each slot, which is g of it, at the front of a list
      front : (f g : ℕ → ℕ) → ((i : ℕ) → i < s.n → f i ≡ g i) → (out : List ℕ) → length slots ≤ length out
          → sets out 0 (map g slots) ≡ map f slots ++ drop (length (map f slots)) out
      front f g same out h =
          rw (map-cong f g slots (λ i hi. same (get_or slots i 0) (list_inside i hi)))
          (sets-front (map g slots) out (rw length-map h))

      pub list-buffer : (c₂ : ℕ) (out : List ℕ) → length slots ≤ min (length out) c₂
          → sets out 0 (map (value_of (file_parts b s.n s.k)) slots) ≡ lookup_list_buffer b slots c₂ out
      unfolding lookup_list_buffer
      list-buffer c₂ out h =
          rw (list_done (length out) c₂ h)
          (front (at (list_of b)) (value_of (file_parts b s.n s.k)) at_slot out (omega arith))

      pub list-entries : (c₁ : ℕ) (out : List ℕ) → length slots ≤ min c₁ (length out)
          → sets out 0 (map (entry_of (file_parts b s.n s.k)) slots) ≡ lookup_list_entries b slots c₁ out
      unfolding lookup_list_entries
      list-entries c₁ out h =
          rw (list_done c₁ (length out) h)
          (front (entry_number b) (entry_of (file_parts b s.n s.k)) (λ i hi. at_entry i) out (omega arith))

  -- all slots
  pub scan-short : (capacity : ℕ) → capacity < s.n → scan_outcome b capacity ≡ refuse BufferTooSmall 0 0
  unfolding scan_outcome
  scan-short capacity h = rw e (items-short s.n capacity h)

  pub scan-done : (capacity : ℕ) → s.n ≤ capacity → scan_outcome b capacity ≡ Ok s.n
  unfolding scan_outcome
  scan-done capacity h = rw e (items-fit s.n capacity h)

  pub scan-buffer : (out : List ℕ) → s.n ≤ length out
      → sets out 0 (table (value_of (file_parts b s.n s.k)) 0 s.n) ≡ scan_buffer b out
  unfolding scan_buffer
  scan-buffer out h =
      let f : ℕ → ℕ = value_of (file_parts b s.n s.k) in
      rw (scan-done (length out) h, list_of-is b s.n s.k checked.header.n_is checked.header.k_is)
      (sets-front (table f 0 s.n) out (rw length-table h))

  -- how many are not 0
  pub readings-done : readings_outcome b ≡ Ok (readings (list_of b))
  unfolding readings_outcome
  readings-done = rw e
