-- The overflow entries of (n, v), filled in one after another where `put_slots` has written their slots.
--   same_count         the primary bytes of v tell its slots in overflow
--   Filling            the invariant: the entries of the slots from i on are left, and their slots stand in the buffer
--   Next, fill-next    the next slot in overflow is the one that stands at the next entry
--   fill_start, _more, _end    before the first entry; one entry on; after the last
--   fill-over          what `put_slots` has written does not count then
-- Axioms: none.
use mathlib.Core.Path.{◌≡◌, refl, sym, ap, ◌∙◌}
use Prim.Native.Nat.{ℕ, zero, suc, ◌+◌, ◌-◌, ◌*◌, ◌^◌, ◌≤◌, ◌<◌}
use native.Mathlib.Nat.{le_refl}
use native.Mathlib.Omega.{arith}
use native.Mathlib.Decide.{dec_le}
use mathlib.Core.Bool.{Bool, true, false}
use mathlib.Core.List.{List, [], ◌∷◌, ◌++◌, append_assoc}
use lib.ListN.{length, get_or, set, take, drop, length-append}
use lib.Seq.{sets, length-sets, sets-eq, drop-set-lt, length-take-le}
use lib.Dec.{eqb}
use borrow.Author.Tests.{leb-true, leb-false}
use Rattle.pciv_bytes.specs.Ranges.{positions, joined, keep_if}
use Rattle.pciv_bytes.specs.LittleEndian.{le, get}
use Rattle.pciv_bytes.proofs.PositionsLaws.{positions-at, positions-cong}
use Rattle.pciv_bytes.proofs.JoinedLaws.{joined-piece}
use Rattle.pciv_bytes.proofs.LittleEndianLaws.{length-le, get-past, get_at}
use Rattle.pciv_bytes.proofs.WriteLaws.{sets_over}
use Rattle.pciv_format.specs.Layout.{max_slots, in_overflow, overflow_count, overflow_part}
use Rattle.pciv_format.proofs.PartsLaws.{primary_byte-full}
use Rattle.pciv_format.proofs.LayoutLaws.{length-overflow_part}
use Rattle.pciv_build.specs.Entries.{slots_from, EntriesLeft}
use Rattle.pciv_build.specs.Slots.{is_full, full_slots, blank_entry, blank_entries, HoldsPrimary}
use Rattle.pciv_build.proofs.EntriesLaws.{slots_from-is, count-slots_from, entries-start, entries-more}
use Rattle.pciv_build.proofs.EntriesLaws.{entries-gap, entries-left, entries-all}
use Rattle.pciv_build.proofs.SlotsLaws.{length-blank_entry, length-blank_entries}

-- ---- the first of some positions

record First (p : ℕ → Bool) (i c : ℕ) (xs : List ℕ) : Type 0 where
  low : i ≤ get_or xs 0 0
  high : get_or xs 0 0 < i + c
  has : p (get_or xs 0 0) ≡ true
  clear : (j : ℕ) → i ≤ j → j < get_or xs 0 0 → p j ≡ false
  rest : xs ≡ get_or xs 0 0 ∷ positions p (get_or xs 0 0 + 1) (i + c - (get_or xs 0 0 + 1))

first_next : (p : ℕ → Bool) (i c : ℕ) (b : Bool) → p i ≡ b → 0 < length (keep_if b i (positions p (suc i) c))
    → (0 < length (positions p (suc i) c) → First p (suc i) c (positions p (suc i) c))
    → First p i (suc c) (keep_if b i (positions p (suc i) c))
first_next p i c true e some next =
    let after : i + 1 ≡ suc i = omega arith in
    let left : i + suc c - suc i ≡ c = omega arith in
    record {
      low = le_refl i;
      high = omega arith;
      has = e;
      clear = λ j h₁ h₂. absurd (omega arith);
      rest = rw (after, left);
    }
first_next p i c false e some next =
    let f = next some in
    let s : ℕ = get_or (positions p (suc i) c) 0 0 in
    let left : suc i + c - (s + 1) ≡ i + suc c - (s + 1) = omega arith in
    record {
      low = omega (arith, f.low);
      high = omega (arith, f.high);
      has = f.has;
      clear = λ j h₁ h₂.
          elim (dec_le j i) [
            | yes d ↦ (let same : j ≡ i = omega arith in ap p same ∙ e)
            | no d ↦ f.clear j (omega arith) h₂
          ];
      rest = f.rest ∙ ap (λ (m : ℕ). s ∷ positions p (s + 1) m) left;
    }

positions-first : (p : ℕ → Bool) (c i : ℕ) → 0 < length (positions p i c) → First p i c (positions p i c)
unfolding positions
positions-first p zero i some = absurd (omega arith)
positions-first p (suc c) i some = first_next p i c (p i) refl some (positions-first p c (suc i))

-- ---- primary bytes tell the slots in overflow

module _ (n : ℕ) (v : ℕ → ℕ) (d : List ℕ) (holds : HoldsPrimary n v d) where
  same-slots : full_slots d 0 n ≡ slots_from n v 0
  same-slots =
      let all : n - 0 ≡ n = omega arith in
      positions-cong (is_full d) (λ (j : ℕ). in_overflow (v j)) 0 n
      (λ j h₁ h₂. ap (λ (x : ℕ). eqb x 255) (holds j (omega arith)) ∙ primary_byte-full (v j))
      ∙ sym (slots_from-is n v 0 ∙ ap (positions (λ (j : ℕ). in_overflow (v j)) 0) all)

  pub same_count : length (full_slots d 0 n) ≡ overflow_count n v
  same_count = ap length same-slots ∙ count-slots_from n v

-- ---- numbers behind what is written

drop-sets : (vs d : List ℕ) (p q : ℕ) → p + length vs ≤ q → drop q (sets d p vs) ≡ drop q d
drop-sets [] d p q h = refl
drop-sets (x ∷ vs) d p q h = drop-sets vs (set d p x) (suc p) q (omega arith) ∙ drop-set-lt q d p x (omega arith)

get-behind : (w : ℕ) (vs d : List ℕ) (p q : ℕ) → p + length vs ≤ q → get w (sets d p vs) q ≡ get w d q
unfolding get
get-behind w vs d p q h = rw (drop-sets vs d p q h)

-- the slots of the entries that were written
blanks-read : (xs d : List ℕ) (p : ℕ) → p + 12 * length xs ≤ length d → (j : ℕ) → j < length xs → get_or xs j 0 < 256 ^ 8
    → get 8 (sets d p (blank_entries xs)) (p + 12 * j) ≡ get_or xs j 0
blanks-read xs d p space j h small =
    let long = length-blank_entries xs in
    let s : ℕ = get_or xs j 0 in
    let q : List ℕ = drop (p + length (blank_entries xs)) d in
    let more : List ℕ = joined blank_entry (drop (suc j) xs) ++ q in
    ap (λ (l : List ℕ). get 8 l (p + 12 * j))
    (sets-eq (blank_entries xs) d p (omega arith) ∙ append_assoc (take p d) (blank_entries xs) q)
    ∙ get-past 8 (take p d) (blank_entries xs ++ q) p (12 * j) (length-take-le p d (omega arith))
    ∙ get_at 8 (blank_entries xs ++ q) (12 * j) s (le 4 255 ++ more)
    (joined-piece blank_entry 12 length-blank_entry xs q j h ∙ append_assoc (le 8 s) (le 4 255) more) small

-- ---- the walk that fills the entries

pub record Filling (n : ℕ) (v : ℕ → ℕ) (d₀ : List ℕ) (i : ℕ) (d : List ℕ) (at : ℕ) : Type 0 where
  pub left : EntriesLeft n v d₀ (40 + n) i d at
  pub stand : (j : ℕ) → j < length (slots_from n v i) → get 8 d (at + 12 * j) ≡ get_or (slots_from n v i) j 0

module _ (n : ℕ) (v : ℕ → ℕ) (d₀ d : List ℕ) (holds : HoldsPrimary n v d₀)
    (space : 40 + n + 12 * overflow_count n v ≤ length d₀)
    (put : d ≡ sets d₀ (40 + n) (blank_entries (full_slots d₀ 0 n))) where
  put_is : d ≡ sets d₀ (40 + n) (blank_entries (slots_from n v 0))
  put_is = put ∙ rw (same-slots n v d₀ holds)

  slot_small : n ≤ max_slots → (j : ℕ) → j < length (slots_from n v 0) → get_or (slots_from n v 0) j 0 < 256 ^ 8
  slot_small few j h =
      let e = slots_from-is n v 0 in
      let at = positions-at (λ (j : ℕ). in_overflow (v j)) 0 (n - 0) j (rw e at h) in
      rw e (omega (arith, at.high))

  pub fill_start : n ≤ max_slots → Filling n v d 0 d (40 + n)
  fill_start few =
      let xs : List ℕ = slots_from n v 0 in
      let long : length d ≡ length d₀ = ap length put_is ∙ length-sets d₀ (40 + n) (blank_entries xs) in
      let count : length xs ≡ overflow_count n v = count-slots_from n v in
      record {
        left = entries-start n v d (40 + n) (omega arith);
        stand = λ j h. rw put_is (blanks-read xs d₀ (40 + n) (omega arith) j h (slot_small few j h));
      }

  -- the entries that were written before do not count
  pub fill-over : sets d (40 + n) (overflow_part n v) ≡ sets d₀ (40 + n) (overflow_part n v)
  fill-over =
      let xs : List ℕ = slots_from n v 0 in
      rw put_is
      (sets_over (blank_entries xs) (overflow_part n v) d₀ (40 + n)
      (omega (arith, length-blank_entries xs, count-slots_from n v, length-overflow_part n v)))

-- the slot s is the next in overflow
pub record Next (n : ℕ) (v : ℕ → ℕ) (i : ℕ) (d : List ℕ) (at s : ℕ) : Type 0 where
  pub low : i ≤ s
  pub inside : s < n
  pub overflows : 255 ≤ v s
  pub clear : (j : ℕ) → i ≤ j → j < s → v j < 255
  pub slots : slots_from n v i ≡ s ∷ slots_from n v (s + 1)
  pub space : at + 12 ≤ length d

module _ {n : ℕ} {v : ℕ → ℕ} {d₀ : List ℕ} {i : ℕ} {d : List ℕ} {at : ℕ} (e : Filling n v d₀ i d at) where
  pub fill-next : at < 40 + n + 12 * overflow_count n v → Next n v i d at (get 8 d at)
  fill-next more =
      let some : 0 < length (slots_from n v i) = (entries-left e.left more).0 in
      let here : at + 12 * 0 ≡ at = omega arith in
      let read : get 8 d at ≡ get_or (slots_from n v i) 0 0 = ap (get 8 d) (sym here) ∙ e.stand 0 some in
      rw read (first some)
    where
      first : 0 < length (slots_from n v i) → Next n v i d at (get_or (slots_from n v i) 0 0)
      first some =
          let is = slots_from-is n v i in
          let f = positions-first (λ (j : ℕ). in_overflow (v j)) (n - i) i (rw is at some) in
          let s : ℕ = get_or (positions (λ (j : ℕ). in_overflow (v j)) i (n - i)) 0 0 in
          let left : i + (n - i) - (s + 1) ≡ n - (s + 1) = omega (arith, e.left.inside) in
          rw is
          (record {
            low = f.low;
            inside = omega (arith, f.high, e.left.inside);
            overflows = leb-true 255 (v s) f.has;
            clear = λ j h₁ h₂. leb-false 255 (v j) (f.clear j h₁ h₂);
            slots = is ∙ f.rest ∙ ap (λ (l : List ℕ). s ∷ l)
                (ap (positions (λ (j : ℕ). in_overflow (v j)) (s + 1)) left ∙ sym (slots_from-is n v (s + 1)));
            space = omega (arith, e.left.space, some);
          })

  pub fill_more : (s x : ℕ) (d' : List ℕ) (at' : ℕ) → Next n v i d at s → x ≡ v s → d' ≡ sets d at (le 8 s ++ le 4 x)
      → at' ≡ at + 12 → Filling n v d₀ (s + 1) d' at'
  fill_more s x d' at' next is put after =
      record {
        left =
            entries-more (entries-gap e.left s next.low (omega (arith, next.inside)) next.clear)
            next.inside next.overflows
            x d' at' is put after;
        stand = λ j h.
            (let there : at' + 12 * j ≡ at + 12 * suc j = omega arith in
            rw (there, put)
            (get-behind 8 (le 8 s ++ le 4 x) d at (at + 12 * suc j) (omega (arith, length-entry s x))
            ∙ e.stand (suc j) (omega (arith, ap length next.slots))
            ∙ ap (λ (l : List ℕ). get_or l (suc j) 0) next.slots));
      }
    where
      length-entry : (s x : ℕ) → length (le 8 s ++ le 4 x) ≡ 12
      length-entry s x = simp (length-append, length-le)

  pub fill_end : 40 + n + 12 * overflow_count n v ≤ at → d ≡ sets d₀ (40 + n) (overflow_part n v)
  fill_end done = entries-all e.left done
