-- The sum in a summary (docs/PROMISES.md, "The sum in a summary"): it is always that of the file's list.
--   counts_in s           the five counts of a summary
--   Alike o' o sum       o' has the refusals of o, and where it is done, its counts and that sum
--   with_sum-iff          an outcome with a sum, and without: refused alike, and done with the same counts
--   counts-refuse-alike, buffer-refuse-alike    so it is with the check, which answers the sum, and with the counts alone
--   summary-sum          the summary of a list has the list's sum
--   check-sum            where the check of a file is done, its sixth number is the answer of `sum`
--   at-total-le          a distance is at most the sum
--   sum-edited           an edit adds the new distance to the sum and takes off the old one
--   total-front, total-buffer    the sum of the file at the front of a checked buffer
--   front-check          the check of a buffer with the file of a list at its front
--   buffer_held          the check of a buffer of bytes: a checked map, and the sum of the list at its front
--   buffer-is-file       so it is the summary of that list, whose file stands there
-- Axioms: none.
use Rattle.std.proofs.Common.{Ok, Err}
use mathlib.Core.Path.{◌≡◌, refl, sym, ap, ap₂, ◌∙◌}
use mathlib.Core.Logic.{◌↔◌}
use Prim.Native.Nat.{ℕ, ◌+◌, ◌-◌, ◌≤◌, ◌<◌}
use native.Mathlib.Nat.{sub-zero}
use native.Mathlib.Omega.{arith}
use mathlib.Core.List.{List, ◌++◌}
use lib.ListN.{length}
use lib.Dec.{ltb}
use borrow.Author.Tests.{le-ltb}
use Rattle.pciv_bytes.specs.Ranges.{sum_from}
use Rattle.pciv_bytes.specs.LittleEndian.{Bytes}
use Rattle.pciv_bytes.proofs.SumLaws.{sum_from-more, sum_from-split, sum_from-cong}
use Rattle.pciv_format.specs.Layout.{file_len, overflow_count, counts_of, summarize, summary, at}
use Rattle.pciv_format.specs.Layout.{file_of, list_counts, summary_of, Limits}
use Rattle.pciv_format.specs.Refusals.{Outcome}
use Rattle.pciv_format.specs.Parts.{value_of}
use Rattle.pciv_format.specs.Check.{file_parts, counts_file, counts_buffer, CheckedMap}
use Rattle.pciv_format.specs.Read.{list_of, total, with_sum, check_file, check_buffer, sum_outcome}
use Rattle.pciv_format.specs.Edit.{Edit, edited, edited_file}
use Rattle.pciv_format.specs.declared.Counts.{Counts}
use Rattle.pciv_format.specs.declared.Summary.{Summary}
use Rattle.pciv_format.specs.declared.Refusal.{Refusal}
use Rattle.pciv_format.proofs.CheckLaws.{check_with-done, done-buffer}
use Rattle.pciv_format.proofs.ReadLaws.{total-is}
use Rattle.pciv_format.proofs.FrontLaws.{Holds, checked-front, front-map, front-sum, front-counts}
use Rattle.pciv_format.proofs.EditLaws.{edited-at, edited-other, length-edited}

-- ---- with the sum and without

abbrev pub counts_in : Summary → Counts
counts_in s = record { n = s.n; k = s.k; m = s.m; step = s.step; len = s.len }

-- o' has the same refusals as o, and where it is done, the same counts and that sum
abbrev pub Alike : Outcome Summary → Outcome Counts → ℕ → Type 0
Alike o' o sum =
    ((r : Refusal) → (o' ≡ Err r) ↔ (o ≡ Err r))
    × ((s : Summary) → (o' ≡ Ok s) ↔ ((o ≡ Ok (counts_in s)) × (s.sum ≡ sum)))

pub with_sum-iff : (o : Outcome Counts) (sum : ℕ) → Alike (with_sum o sum) o sum
with_sum-iff (Ok c) sum = (
  λ r. (λ e. cc, λ e. cc),
  λ s. (
    λ e. (cc, cc),
    λ e.
        (let q : c ≡ counts_in s = cc e.0 in
        ap₂ (λ (c : Counts) (x : ℕ). Ok (summarize c x)) q (sym e.1)),
  ),
)
with_sum-iff (Err t) sum = (
  λ r. (λ e. cc, λ e. cc),
  λ s. (λ e. (cc, cc), λ e. cc e.0),
)

pub counts-refuse-alike : (mp : ℕ) (b : List ℕ) → Alike (check_file mp b) (counts_file mp b) (total (list_of b))
counts-refuse-alike mp b = with_sum-iff (counts_file mp b) (total (list_of b))

pub buffer-refuse-alike : (mp : ℕ) (b : List ℕ) → Alike (check_buffer mp b) (counts_buffer mp b) (total (list_of b))
buffer-refuse-alike mp b = with_sum-iff (counts_buffer mp b) (total (list_of b))

-- ---- of a file

pub summary-sum : (xs : List ℕ) → (summary_of xs).sum ≡ total xs
unfolding summary total
summary-sum xs = refl

pub check-sum : (b : List ℕ) (s : Summary) → check_file 1 b ≡ Ok s → sum_outcome b ≡ Ok s.sum
unfolding sum_outcome
check-sum b s e =
    let a = ((counts-refuse-alike 1 b).1 s).0 e in
    rw (a.0, a.1)

-- ---- of an edited list

-- around one slot
sum-around : (f : ℕ → ℕ) (s n : ℕ) → s < n → sum_from f 0 n ≡ sum_from f 0 s + (f s + sum_from f (s + 1) (n - (s + 1)))
sum-around f s n h =
    (rw (sub-zero n, sub-zero s) at (sum_from-split f 0 s n (omega arith) (omega arith)))
    ∙ ap (λ (x : ℕ). sum_from f 0 s + x) (sum_from-more f s n h)

pub at-total-le : (x : List ℕ) (s : ℕ) → s < length x → at x s ≤ total x
unfolding total
at-total-le x s inside = omega (arith, sum-around (at x) s (length x) inside)

pub sum-edited : (x : List ℕ) (e : Edit) → e.slot < length x
    → total (edited x e) + at x e.slot ≡ total x + e.distance
unfolding total
sum-edited x e inside =
    let n : ℕ = length x in
    let s : ℕ = e.slot in
    let f : ℕ → ℕ = at x in
    let g : ℕ → ℕ = at (edited x e) in
    rw (length-edited x e)
    (omega (
      arith,
      edited-at x e inside,
      sum-around f s n inside,
      sum-around g s n inside,
      sum_from-cong f g 0 s (λ i h₁ h₂. edited-other x e i (λ q. omega arith)),
      sum_from-cong f g (s + 1) (n - (s + 1)) (λ i h₁ h₂. edited-other x e i (λ q. omega arith)),
    ))

-- ---- of a buffer

module _ (b : List ℕ) (n k : ℕ) (bytes : Bytes b) (c : CheckedMap b n k) where
  -- by its parts
  pub total-front : total (list_of (edited_file b)) ≡ sum_from (value_of (file_parts b n k)) 0 n
  unfolding total
  total-front =
      let h = checked-front b n k bytes c in
      rw h.slots
      (sum_from-cong (at (list_of (edited_file b))) (value_of (file_parts b n k)) 0 n (λ i h₁ h₂. h.each i (omega arith)))

  pub total-buffer : total (list_of b) ≡ total (list_of (edited_file b))
  total-buffer = total-is b n k c.header.n_is c.header.k_is ∙ sym total-front

module _ (xs t : List ℕ) (l : Limits xs) where
  pub front-check : (mp : ℕ) → check_buffer mp (file_of xs ++ t) ≡ Ok (summary_of xs)
  unfolding summary
  front-check mp =
      let n : ℕ = length xs in
      let h = (front-map n (at xs) l.count l.each t).header in
      let sum : total (list_of (file_of xs ++ t)) ≡ sum_from (at xs) 0 n =
      total-is (file_of xs ++ t) n (overflow_count n (at xs)) h.n_is h.k_is
      ∙ front-sum n (at xs) l.count l.each t in
      rw (front-counts xs t l mp, sum)

pub buffer_held : (mp : ℕ) (b : List ℕ) (s : Summary) → Bytes b → check_buffer mp b ≡ Ok s
    → CheckedMap b s.n s.k × (s.sum ≡ total (list_of (edited_file b)))
buffer_held mp b s bytes e =
    let a = ((buffer-refuse-alike mp b).1 s).0 e in
    let c = done-buffer mp b (counts_in s) a.0 in
    (c, a.1 ∙ total-buffer b s.n s.k bytes c)

pub buffer-is-file : (mp : ℕ) (b : List ℕ) (s : Summary) → Bytes b → check_buffer mp b ≡ Ok s
    → Holds b s.n s.k (list_of (edited_file b)) × (s ≡ summary_of (list_of (edited_file b)))
unfolding summary total
buffer-is-file mp b s bytes e =
    let x : List ℕ = list_of (edited_file b) in
    let a = ((buffer-refuse-alike mp b).1 s).0 e in
    let held = buffer_held mp b s bytes e in
    let c = held.0 in
    let h = checked-front b s.n s.k bytes c in
    let is : Ok (counts_of s.n s.k) ≡ Ok (counts_in s) =
    sym (check_with-done ltb mp b s.n s.k c (le-ltb (length b) (file_len s.n s.k) c.fits)) ∙ a.0 in
    let counts : counts_in s ≡ counts_of s.n s.k = cc in
    let same : counts_of s.n s.k ≡ list_counts x =
    rw h.slots (ap (counts_of s.n) (sym h.count)) in
    (h, ap₂ summarize (counts ∙ same) held.1)
