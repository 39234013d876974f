-- The overflow entries, written one a step in the order of their slots.
--   slots_from-is, -start, -more, -skip, -gap, -end    the slots in overflow that are left
--   count-slots_from     their number at first
--   entries-start, -more, -skip, -gap, -end           a walk that writes their entries
--   Counted, counted_start, -more, _skip, -gap, -end  a walk that counts them
--   -start, -more, -skip, -gap, -end    before the first slot; past a slot in overflow; past one that is not; past all
--                       slots up to s, none of which is in overflow; after the last slot
--   entries-space       there is space for the entry of a slot in overflow
--   entries-left        by the place that is reached an entry is left;  entries-all  none is
--   entries_over        where an entry is left, something else is written in its place first
--   entries-done        where no slot in overflow is left
--   rest-before         what stands before the entries stays as it was
--   overflow_count-sum   the number of slots in overflow as a sum
-- Axioms: none.
use mathlib.Core.Path.{◌≡◌, refl, sym, ap, ◌∙◌}
use Prim.Native.Nat.{ℕ, zero, suc, ◌+◌, ◌-◌, ◌*◌, ◌≤◌, ◌<◌}
use native.Mathlib.Nat.{add-zero, sub-zero, zero-add}
use native.Mathlib.Numerals.{add-one}
use native.Mathlib.Omega.{arith}
use mathlib.Core.Bool.{Bool, true, false}
use mathlib.Core.List.{List, [], ◌∷◌, ◌++◌}
use lib.ListN.{length, get_or, length-append}
use lib.Seq.{sets, length-sets}
use borrow.Author.Tests.{le-leb, lt-leb}
use Rattle.pciv_bytes.specs.Ranges.{flag, positions, joined, sum_from, keep_if}
use Rattle.pciv_bytes.specs.LittleEndian.{le}
use Rattle.pciv_bytes.proofs.JoinedLaws.{length-joined}
use Rattle.pciv_bytes.proofs.LittleEndianLaws.{length-le}
use Rattle.pciv_bytes.proofs.WriteLaws.{sets-append, get_or-sets-below, sets_over}
use Rattle.pciv_format.specs.Layout.{in_overflow, overflow_slots, overflow_count, overflow_entry, overflow_part}
use Rattle.pciv_format.proofs.LayoutLaws.{length-overflow_entry}
unfoldable pub use Rattle.pciv_build.specs.Entries.{slots_from, entries_from}
pub use Rattle.pciv_build.specs.Entries.{EntriesLeft}

pub slots_from-is : (n : ℕ) (v : ℕ → ℕ) (i : ℕ) → slots_from n v i ≡ positions (λ (j : ℕ). in_overflow (v j)) i (n - i)
unfolding slots_from
slots_from-is n v i = refl

module _ (n : ℕ) (v : ℕ → ℕ) where
  pub slots_from-start : slots_from n v 0 ≡ overflow_slots n v
  unfolding slots_from overflow_slots
  slots_from-start = rw sub-zero

  slots_from-next : (i : ℕ) → i < n → slots_from n v i ≡ keep_if (in_overflow (v i)) i (slots_from n v (i + 1))
  unfolding slots_from positions
  slots_from-next i h = let e : n - i ≡ suc (n - (i + 1)) = omega arith in rw (e, add-one i)

  pub slots_from-more : (i : ℕ) → i < n → 255 ≤ v i → slots_from n v i ≡ i ∷ slots_from n v (i + 1)
  slots_from-more i h overflows = slots_from-next i h ∙ rw (le-leb 255 (v i) overflows)

  pub slots_from-skip : (i : ℕ) → i < n → v i < 255 → slots_from n v i ≡ slots_from n v (i + 1)
  slots_from-skip i h inline = slots_from-next i h ∙ rw (lt-leb 255 (v i) inline)

  gap_by : (c i : ℕ) → i + c ≤ n → ((j : ℕ) → i ≤ j → j < i + c → v j < 255) → slots_from n v i ≡ slots_from n v (i + c)
  gap_by zero i h none = rw add-zero
  gap_by (suc c) i h none =
      slots_from-skip i (omega arith) (none i (omega arith) (omega arith))
      ∙ gap_by c (i + 1) (omega arith) (λ j h₁ h₂. none j (omega arith) (omega arith))
      ∙ ap (slots_from n v) (omega arith)

  pub slots_from-gap : (i s : ℕ) → i ≤ s → s ≤ n → ((j : ℕ) → i ≤ j → j < s → v j < 255)
      → slots_from n v i ≡ slots_from n v s
  slots_from-gap i s h₁ h₂ none =
      gap_by (s - i) i (omega arith) (λ j h₃ h₄. none j h₃ (omega arith)) ∙ ap (slots_from n v) (omega arith)

  pub slots_from-end : (i : ℕ) → n ≤ i → slots_from n v i ≡ []
  unfolding slots_from positions
  slots_from-end i h = let e : n - i ≡ 0 = omega arith in rw e

  pub count-slots_from : length (slots_from n v 0) ≡ overflow_count n v
  unfolding overflow_count
  count-slots_from = ap length slots_from-start

-- ---- the entries that are left

entries_from-start : (n : ℕ) (v : ℕ → ℕ) → entries_from n v 0 ≡ overflow_part n v
unfolding entries_from overflow_part
entries_from-start n v = rw (slots_from-start n v)

entries_from-more : (n : ℕ) (v : ℕ → ℕ) (i : ℕ) → i < n → 255 ≤ v i
    → entries_from n v i ≡ overflow_entry v i ++ entries_from n v (i + 1)
unfolding entries_from joined
entries_from-more n v i h overflows = rw (slots_from-more n v i h overflows)

entries_from-cong : (n : ℕ) (v : ℕ → ℕ) (i s : ℕ) → slots_from n v i ≡ slots_from n v s
    → entries_from n v i ≡ entries_from n v s
unfolding entries_from
entries_from-cong n v i s same = ap (joined (overflow_entry v)) same

no-entries : (v : ℕ → ℕ) (xs : List ℕ) → length xs ≡ 0 → joined (overflow_entry v) xs ≡ []
unfolding joined
no-entries v [] none = refl
no-entries v (x ∷ xs) none = absurd (omega arith)

entries_from-none : (n : ℕ) (v : ℕ → ℕ) (i : ℕ) → length (slots_from n v i) ≡ 0 → entries_from n v i ≡ []
unfolding entries_from
entries_from-none n v i none = no-entries v (slots_from n v i) none

length-entries_from : (n : ℕ) (v : ℕ → ℕ) (i : ℕ) → length (entries_from n v i) ≡ 12 * length (slots_from n v i)
unfolding entries_from
length-entries_from n v i = length-joined (overflow_entry v) 12 (length-overflow_entry v) (slots_from n v i)

overflow_entry-is : (v : ℕ → ℕ) (s : ℕ) → overflow_entry v s ≡ le 8 s ++ le 4 (v s)
unfolding overflow_entry
overflow_entry-is v s = refl

-- ---- a walk that writes the entries

-- where writing xs from p₀ on comes to writing ys from p on, what stands before p₀ is the same
pub rest-before : (xs ys d₀ d : List ℕ) (p₀ p : ℕ) → p₀ ≤ p → sets d₀ p₀ xs ≡ sets d p ys → (j : ℕ) → j < p₀
    → get_or d j 0 ≡ get_or d₀ j 0
rest-before xs ys d₀ d p₀ p low rest j h =
    sym (get_or-sets-below ys d p j (omega arith)) ∙ ap (λ (l : List ℕ). get_or l j 0) (sym rest)
    ∙ get_or-sets-below xs d₀ p₀ j h

pub entries-start : (n : ℕ) (v : ℕ → ℕ) (d : List ℕ) (p : ℕ) → p + 12 * overflow_count n v ≤ length d
    → EntriesLeft n v d p 0 d p
entries-start n v d p h =
    record {
      inside = omega arith;
      size = refl;
      low = omega arith;
      count = refl;
      space = omega (arith, count-slots_from n v);
      rest = refl;
    }

module _ {n : ℕ} {v : ℕ → ℕ} {d₀ : List ℕ} {p₀ i : ℕ} {d : List ℕ} {p : ℕ} (e : EntriesLeft n v d₀ p₀ i d p) where
  -- there is space for the entry of slot i
  pub entries-space : i < n → 255 ≤ v i → p + 12 ≤ length d
  entries-space h overflows = omega (arith, e.space, ap length (slots_from-more n v i h overflows))

  -- an entry is left, and there is space for it
  pub entries-left : p < p₀ + 12 * overflow_count n v → (0 < length (slots_from n v i)) × (p + 12 ≤ length d)
  entries-left more =
      let count = count-slots_from n v in
      (omega (arith, e.count), omega (arith, e.count, e.space))

  -- the entry of slot i is written
  pub entries-more : i < n → 255 ≤ v i → (x : ℕ) (d' : List ℕ) (p' : ℕ) → x ≡ v i → d' ≡ sets d p (le 8 i ++ le 4 x)
      → p' ≡ p + 12
      → EntriesLeft n v d₀ p₀ (i + 1) d' p'
  entries-more h overflows x d' p' is put next =
      let same : d' ≡ sets d p (overflow_entry v i) = put ∙ rw (is, overflow_entry-is v i) in
      let long : length d' ≡ length d = ap length same ∙ length-sets d p (overflow_entry v i) in
      let slots = slots_from-more n v i h overflows in
      record {
        inside = omega arith;
        size = long ∙ e.size;
        low = omega (arith, e.low);
        count = omega (arith, e.count, ap length slots);
        space = omega (arith, e.space, ap length slots);
        rest = e.rest
            ∙ rw (entries_from-more n v i h overflows, same, next)
            (sets-append (overflow_entry v i) (entries_from n v (i + 1)) d p ∙ rw (length-overflow_entry v i));
      }

  -- no slot from i up to s is in overflow
  pub entries-gap : (s : ℕ) → i ≤ s → s ≤ n → ((j : ℕ) → i ≤ j → j < s → v j < 255) → EntriesLeft n v d₀ p₀ s d p
  entries-gap s h₁ h₂ none =
      let slots = slots_from-gap n v i s h₁ h₂ none in
      record {
        inside = h₂;
        size = e.size;
        low = e.low;
        count = omega (arith, e.count, ap length slots);
        space = omega (arith, e.space, ap length slots);
        rest = e.rest ∙ ap (sets d p) (entries_from-cong n v i s slots);
      }

  -- slot i is not in overflow
  pub entries-skip : i < n → v i < 255 → EntriesLeft n v d₀ p₀ (i + 1) d p
  entries-skip h inline =
      entries-gap (i + 1) (omega arith) (omega arith)
      (λ j h₁ h₂. (let same : i ≡ j = omega arith in rw same at inline))

  -- an entry is left, and what is written in its place is written over
  pub entries_over : (slot x : ℕ) (d' : List ℕ) → 0 < length (slots_from n v i) → d' ≡ sets d p (le 8 slot ++ le 4 x)
      → EntriesLeft n v d₀ p₀ i d' p
  entries_over slot x d' some put =
      let g : List ℕ = le 8 slot ++ le 4 x in
      let long : length d' ≡ length d = ap length put ∙ length-sets d p g in
      let short : length g ≡ 12 = simp (length-append, length-le) in
      record {
        inside = e.inside;
        size = long ∙ e.size;
        low = e.low;
        count = e.count;
        space = omega (arith, e.space);
        rest = e.rest ∙ sym (rw put (sets_over g (entries_from n v i) d p (omega (arith, length-entries_from n v i))));
      }

-- no slot in overflow is left
pub entries-done : {n : ℕ} {v : ℕ → ℕ} {d₀ : List ℕ} {p₀ i : ℕ} {d : List ℕ} {p : ℕ} → EntriesLeft n v d₀ p₀ i d p
    → length (slots_from n v i) ≡ 0 → d ≡ sets d₀ p₀ (overflow_part n v)
entries-done {n} {v} {d₀} {p₀} {i} {d} {p} e none =
    sym (ap (sets d₀ p₀) (sym (entries_from-start n v)) ∙ e.rest ∙ rw (entries_from-none n v i none))

-- all entries are written
pub entries-all : {n : ℕ} {v : ℕ → ℕ} {d₀ : List ℕ} {p₀ i : ℕ} {d : List ℕ} {p : ℕ} → EntriesLeft n v d₀ p₀ i d p
    → p₀ + 12 * overflow_count n v ≤ p → d ≡ sets d₀ p₀ (overflow_part n v)
entries-all {n} {v} e h = entries-done e (omega (arith, e.count, count-slots_from n v))

-- no slot is left
pub entries-end : {n : ℕ} {v : ℕ → ℕ} {d₀ : List ℕ} {p₀ i : ℕ} {d : List ℕ} {p : ℕ} → EntriesLeft n v d₀ p₀ i d p
    → n ≤ i
    → d ≡ sets d₀ p₀ (overflow_part n v)
entries-end {n} {v} {d₀} {p₀} {i} {d} {p} e h = entries-done e (ap length (slots_from-end n v i h))

-- ---- a walk that counts: c slots below i are in overflow

pub record Counted (n : ℕ) (v : ℕ → ℕ) (i c : ℕ) : Type 0 where
  pub inside : i ≤ n
  pub below : c ≤ i
  pub rest : c + length (slots_from n v i) ≡ overflow_count n v

pub counted_start : (n : ℕ) (v : ℕ → ℕ) → Counted n v 0 0
counted_start n v =
    record {
      inside = omega arith;
      below = omega arith;
      rest = zero-add (length (slots_from n v 0))
          ∙ count-slots_from n v;
    }

module _ {n : ℕ} {v : ℕ → ℕ} {i c : ℕ} (e : Counted n v i c) where
  pub counted-more : i < n → 255 ≤ v i → Counted n v (i + 1) (c + 1)
  counted-more h overflows =
      record {
        inside = omega arith;
        below = omega (arith, e.below);
        rest = omega (arith, e.rest, ap length (slots_from-more n v i h overflows));
      }

  pub counted-gap : (s : ℕ) → i ≤ s → s ≤ n → ((j : ℕ) → i ≤ j → j < s → v j < 255) → Counted n v s c
  counted-gap s h₁ h₂ none =
      record {
        inside = h₂;
        below = omega (arith, e.below);
        rest = omega (arith, e.rest, ap length (slots_from-gap n v i s h₁ h₂ none));
      }

  pub counted_skip : i < n → v i < 255 → Counted n v (i + 1) c
  counted_skip h inline =
      counted-gap (i + 1) (omega arith) (omega arith)
      (λ j h₁ h₂. (let same : i ≡ j = omega arith in rw same at inline))

  pub counted-end : n ≤ i → c ≡ overflow_count n v
  counted-end h = omega (arith, e.rest, ap length (slots_from-end n v i h))

-- ---- the number of slots in overflow, as a sum

pub count-sum : (p : ℕ → Bool) (c i : ℕ) → length (positions p i c) ≡ sum_from (λ (j : ℕ). flag (p j)) i c
unfolding positions sum_from
count-sum p zero i = refl
count-sum p (suc c) i = go (p i) (count-sum p c (suc i))
  where
    go : (b : Bool) → length (positions p (suc i) c) ≡ sum_from (λ (j : ℕ). flag (p j)) (suc i) c
        → length (keep_if b i (positions p (suc i) c)) ≡ flag b + sum_from (λ (j : ℕ). flag (p j)) (suc i) c
    go true e = omega arith
    go false e = omega arith

pub overflow_count-sum : (n : ℕ) (v : ℕ → ℕ) → overflow_count n v ≡ sum_from (λ (i : ℕ). flag (in_overflow (v i))) 0 n
unfolding overflow_count overflow_slots
overflow_count-sum n v = count-sum (λ (i : ℕ). in_overflow (v i)) n 0
