-- Which files are accepted, and as what they are read (docs/PROMISES.md, "Acceptance").
--   file-counted      the file of a list within the limits is accepted by its counts
--   file-accepted     the file of a list within the limits is accepted, with that list's summary
--   file-read         it is read as that list
--   file-table, summary-table, table-limits
--                     the file of n slots with distances v is the file of the list of these distances, with its
--                     summary; that list is within the limits where n and every distance are
--   file-table-read   so it is read as that list: what a routine that computes each slot's distance has written
--   IsFile b s        b is the file of the list that it is read as, which is within the limits and has the summary s
--   counted-is-file, accepted-is-file    so it is with an accepted file and the answer
--   accepted-iff      so a file is accepted exactly when it is the file of some list within the limits
--   file_of-inj        two lists within the limits with one file are one list: it is read as no other
-- Axioms: none.
use Rattle.std.proofs.Common.{Ok}
use mathlib.Core.Path.{◌≡◌, sym, ap, subst, ◌∙◌}
use mathlib.Core.Logic.{◌↔◌}
use Prim.Native.Nat.{ℕ, ◌≤◌, ◌<◌}
use native.Mathlib.Nat.{zero-add}
use native.Mathlib.Omega.{arith}
use mathlib.Core.List.{List}
use lib.ListN.{length}
use lib.Seq.{ext_get_or}
use Rattle.pciv_bytes.specs.Ranges.{table, sum_from}
use Rattle.pciv_bytes.specs.LittleEndian.{Bytes}
use Rattle.pciv_bytes.proofs.RangesLaws.{length-table, get_or-table}
use Rattle.pciv_format.specs.Layout.{max_slots, max_distance, overflow_count, file, counts_of, summarize}
use Rattle.pciv_format.specs.Layout.{summary, at, file_of, list_counts, summary_of, Limits}
use Rattle.pciv_format.specs.Check.{n_field, k_field, counts_file, CheckedMap}
use Rattle.pciv_format.specs.Read.{value_at, list_of, total, check_file}
use Rattle.pciv_format.specs.declared.Counts.{Counts}
use Rattle.pciv_format.specs.declared.Summary.{Summary}
use Rattle.pciv_format.proofs.RefusalsLaws.{and_then-done}
use Rattle.pciv_format.proofs.LayoutLaws.{length-file, overflow_count-cong, file-cong, summary-cong}
use Rattle.pciv_format.proofs.CheckLaws.{counts_file-done, done-counts_file, accepted-length}
use Rattle.pciv_format.proofs.FileLaws.{file-checked, file-value}
use Rattle.pciv_format.proofs.CheckedFileLaws.{checked-value-le, checked-count, checked-file}
use Rattle.pciv_format.proofs.ReadLaws.{length-list_of, at-list_of}

pub file-counted : (mp : ℕ) (xs : List ℕ) → Limits xs → counts_file mp (file_of xs) ≡ Ok (list_counts xs)
file-counted mp xs l =
    let n : ℕ = length xs in
    counts_file-done mp (file_of xs) n (overflow_count n (at xs)) (file-checked n (at xs) l.count l.each)
    (length-file n (at xs))

pub file-read : (xs : List ℕ) → Limits xs → list_of (file_of xs) ≡ xs
file-read xs l =
    let n : ℕ = length xs in
    let b : List ℕ = file_of xs in
    let h = (file-checked n (at xs) l.count l.each).header in
    ext_get_or 0 (list_of b) xs (length-list_of b ∙ h.n_is)
    (λ i hi.
    (let i<n : i < n = omega (arith, length-list_of b, h.n_is) in
    at-list_of b i (omega (arith, h.n_is))
    ∙ rw (h.n_is, h.k_is) (file-value n (at xs) l.count l.each i i<n)))

pub file-accepted : (mp : ℕ) (xs : List ℕ) → Limits xs → check_file mp (file_of xs) ≡ Ok (summary_of xs)
unfolding summary total
file-accepted mp xs l = rw (file-counted mp xs l, file-read xs l)

module _ (n : ℕ) (v : ℕ → ℕ) where
  at_table : (i : ℕ) → i < n → at (table v 0 n) i ≡ v i
  at_table i h = get_or-table v 0 0 n i h ∙ ap v (zero-add i)

  pub file-table : file n v ≡ file_of (table v 0 n)
  file-table = rw (length-table v 0 n) (file-cong n v (at (table v 0 n)) (λ i h. sym (at_table i h)))

  pub summary-table : summary n v ≡ summary_of (table v 0 n)
  summary-table = rw (length-table v 0 n) (summary-cong n v (at (table v 0 n)) (λ i h. sym (at_table i h)))

  module _ (few : n ≤ max_slots) (each : (i : ℕ) → i < n → v i ≤ max_distance) where
    pub table-limits : Limits (table v 0 n)
    table-limits =
        record {
          count = omega (arith, few, length-table v 0 n);
          each =
              λ i h.
              (let i<n : i < n = omega (arith, h, length-table v 0 n) in omega (arith, at_table i i<n, each i i<n));
        }

    pub file-table-read : list_of (file n v) ≡ table v 0 n
    file-table-read = ap list_of file-table ∙ file-read (table v 0 n) table-limits

-- what an accepted file is
pub record IsFile (b : List ℕ) (s : Summary) : Type 0 where
  pub limits : Limits (list_of b)
  pub bytes : b ≡ file_of (list_of b)
  pub summary_is : s ≡ summary_of (list_of b)

pub counted-is-file : (mp : ℕ) (b : List ℕ) (s : Counts) → Bytes b → counts_file mp b ≡ Ok s
    → IsFile b (summarize s (total (list_of b)))
unfolding summary total
counted-is-file mp b s bytes e =
    let a = done-counts_file mp b s e in
    let n : ℕ = n_field b in
    let k : ℕ = k_field b in
    let c : CheckedMap b n k = a.checked in
    let len : length (list_of b) ≡ n = length-list_of b in
    let same : (i : ℕ) → i < n → at (list_of b) i ≡ value_at b i = at-list_of b in
    record {
      limits =
          record {
            count = omega (arith, len, c.header.small);
            each = λ i h.
                (let h' : i < n = omega (arith, len) in omega (arith, same i h', checked-value-le b n k bytes c i h'));
          };
      bytes =
          sym
          (rw len
          (file-cong n (at (list_of b)) (value_at b) same ∙ checked-file b n k bytes c (accepted-length b n k s a)));
      summary_is =
          ap (λ (c : Counts). summarize c (sum_from (at (list_of b)) 0 (length (list_of b))))
          (a.counts ∙ rw len (ap (counts_of n) (sym (overflow_count-cong n (at (list_of b)) (value_at b) same
          ∙ checked-count b n k bytes c))));
    }

pub accepted-is-file : (mp : ℕ) (b : List ℕ) (s : Summary) → Bytes b → check_file mp b ≡ Ok s → IsFile b s
accepted-is-file mp b s bytes e =
    let c = and_then-done (counts_file mp b) _ s e in
    let is : Ok (summarize c.0 (total (list_of b))) ≡ Ok s = c.2 in
    let same : summarize c.0 (total (list_of b)) ≡ s = cc in
    subst (IsFile b) same (counted-is-file mp b c.0 bytes c.1)

pub accepted-iff : (mp : ℕ) (b : List ℕ) → Bytes b
    → ((s : Summary) × (check_file mp b ≡ Ok s)) ↔ ((xs : List ℕ) × Limits xs × (b ≡ file_of xs))
accepted-iff mp b bytes = (
  λ a. (let f = accepted-is-file mp b a.0 bytes a.1 in (list_of b, f.limits, f.bytes)),
  λ x. (summary_of x.0, ap (check_file mp) x.2 ∙ file-accepted mp x.0 x.1),
)

pub file_of-inj : (xs ys : List ℕ) → Limits xs → Limits ys → file_of xs ≡ file_of ys → xs ≡ ys
file_of-inj xs ys l m e = sym (file-read xs l) ∙ ap list_of e ∙ file-read ys m
