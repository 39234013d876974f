-- Proves pciv_read::lookup_list. What a test has shown is cited by its type, so that the tests can stand in either
-- order as far as the names go.
use Rattle.std.proofs.Common.{Some, None, ◌≡◌, ℕ, ◌≤◌, ◌<◌, List, length, get_or, min, leb, sym, ◌∙◌, arith}
use Rattle.std.specs.List.{position, position_or_len}
use Rattle.std.proofs.lemmas.List.Quantifiers.{position-Some}
use Rattle.std.proofs.lemmas.List.Sums.{fails_before_first}
use Rattle.pciv_bytes.specs.Ranges.{first_below}
use Rattle.pciv_bytes.proofs.RangesLaws.{first_below-at, first_below-none}
use Rattle.pciv_format.specs.Read.{lookup_list_buffer, lookup_list_entries}
use Rattle.pciv_format.proofs.RefusalsLaws.{passed_on}
use Rattle.pciv_format.proofs.ReadCaseLaws.{checked, list-refused, list-outside, list_inside, list-short}
use Rattle.pciv_format.proofs.ReadCaseLaws.{list_done, list-buffer, list-entries}
use Rattle.pciv_read.proofs.lookup_list.Goals as goal

-- every slot of the list xs is below n
abbrev Inside : ℕ → List ℕ → Type 0
Inside n xs = length xs ≤ first_below (λ (i : ℕ). leb n (get_or xs i 0)) (length xs)

module _ (n : ℕ) (xs : List ℕ) where
  outside-at : (i : ℕ) → position (λ slot. leb n slot) xs ≡ Some i
      → (i < length xs) × (i ≡ first_below (λ (j : ℕ). leb n (get_or xs j 0)) (length xs))
  outside-at i e =
      let p = position-Some (λ (slot : ℕ). leb n slot) xs i 0 e in
      (p.0, sym (first_below-at _ (length xs) i p.0 p.2 p.1))

  outside-none : position (λ slot. leb n slot) xs ≡ None → Inside n xs
  outside-none e =
      let all : length xs ≤ position_or_len (λ (slot : ℕ). leb n slot) xs = grind arith in
      omega (
        arith,
        first_below-none _ (length xs) (λ k h. fails_before_first (λ (slot : ℕ). leb n slot) xs k 0 (omega arith)),
      )

pub returns-in_err-n : goal.returns-in_err-n
unfolding lookup_list_buffer lookup_list_entries
returns-in_err-n c =
    let a = c.args in
    let why = sym c.in_err-n.ensures.answer in
    let o = list-refused a.file.now _ why a.slots.now (length a.distances.now) (length a.entries.now) in
    record { answer = passed_on _ _ c.from_residual.ensures.1 ∙ sym o; buffer = rw o; entries = rw o }

pub returns-in-Some : goal.returns-in-Some
unfolding lookup_list_buffer lookup_list_entries
returns-in-Some c =
    let a = c.args in
    let map = sym c.in_ok-n.ensures.answer in
    let at = outside-at c.in_ok-n.field-0.n a.slots.now c.in-Some.place (sym c.in-Some.ensures) in
    let o = list-outside a.file.now _ map a.slots.now (length a.distances.now) (length a.entries.now) _ at.1 at.0 in
    record { answer = c.refuse-no_slot.ensures ∙ sym o; buffer = rw o; entries = rw o }

pub returns-then-short : goal.returns-then-short
unfolding lookup_list_buffer lookup_list_entries
returns-then-short c =
    let a = c.args in
    let map = sym c.in_ok-n.ensures.answer in
    let none : c.first_outside-outside.result ≡ None = cc in
    let inside = outside-none c.in_ok-n.field-0.n a.slots.now (sym c.first_outside-outside.ensures ∙ none) in
    let short : min (length a.distances.now) (length a.entries.now) < length a.slots.now = omega arith in
    let o = list-short a.file.now _ map a.slots.now inside (length a.distances.now) (length a.entries.now) short in
    record { answer = c.refuse-no_room.ensures ∙ sym o; buffer = rw o; entries = rw o }

pub locate_into-requires-clause-checked_map : goal.locate_into-requires-clause-checked_map
locate_into-requires-clause-checked_map c = checked _ _ (sym c.in_ok-n.ensures.answer)

pub locate_into-requires-clause-by_index : goal.locate_into-requires-clause-by_index
locate_into-requires-clause-by_index c =
    let a = c.args in
    let none : c.first_outside-outside.result ≡ None = cc in
    let inside = outside-none c.in_ok-n.field-0.n a.slots.now (sym c.first_outside-outside.ensures ∙ none) in
    list_inside a.file.now _ (sym c.in_ok-n.ensures.answer) a.slots.now inside

pub returns : goal.returns
returns c =
    let a = c.args in
    let file = a.file.now in
    let slots = a.slots.now in
    let map = sym c.in_ok-n.ensures.answer in
    let none : c.first_outside-outside.result ≡ None = cc in
    let inside = outside-none c.in_ok-n.field-0.n slots (sym c.first_outside-outside.ensures ∙ none) in
    let fits : length slots ≤ min (length a.distances.now) (length a.entries.now) = omega arith in
    record {
      answer = sym (list_done file _ map slots inside _ _ fits);
      buffer = c.locate_into.ensures.distances_after ∙ list-buffer file _ map slots inside _ a.distances.now fits;
      entries = c.locate_into.ensures.entries_after ∙ list-entries file _ map slots inside _ a.entries.now fits;
    }
