-- Laws of the check: it is done exactly for what `CheckedMap` describes, and then answers the file's counts.
--   checked-length                      a checked map's parts are inside of its bytes
--   check_header-done, check_with-done, counts_file-done    done, from what is checked
--   Accepted wrong b n k s              what a done check says: the map, the right length, and the counts
--   done-check_header, done-counts_file    what is checked, from done
--   done-counts, done-buffer            the same at those counts, of a file and of a buffer
--   accepted-length                     a whole file has exactly its length
-- Axioms: none.
use Rattle.std.proofs.Common.{Ok}
use Rattle.pciv_format.specs.declared.RefusalKind.TheVariants.{BadOverflowEntry, MissingOverflowEntry, BadIndexEntry}
use mathlib.Core.Path.{◌≡◌, refl, sym, ap, ap₂, ◌∙◌}
use Prim.Native.Nat.{ℕ, ◌+◌, ◌*◌, ◌≤◌}
use native.Mathlib.Omega.{arith}
use mathlib.Core.Bool.{Bool, false, not}
use mathlib.Core.List.{List}
use lib.ListN.{length}
use lib.Dec.{ltb, eqb}
use borrow.Author.Tests.{le-ltb, ltb-false}
use Rattle.pciv_bytes.specs.LittleEndian.{get}
use Rattle.pciv_format.specs.Layout.{max_slots, magic, index_step, index_len, file_len, counts_of}
use Rattle.pciv_format.specs.Parts.{bad_entry, bad_slot}
use Rattle.pciv_format.specs.Check.{n_field, k_field, m_field, step_field, file_parts, bad_index_entry}
use Rattle.pciv_format.specs.Check.{bad_counts, check_parts, check_header, check_with, other_length}
use Rattle.pciv_format.specs.Check.{counts_file, counts_buffer, CheckedHeader, CheckedMap}
use Rattle.pciv_format.specs.declared.Counts.{Counts}
use Rattle.pciv_format.proofs.PartsLaws.{or-false, not_eqb, eqb-not}
use Rattle.pciv_format.proofs.RefusalsLaws.{refuse_if-done, refuse_first-done, refuse_first-none, and_then-done}
use Rattle.pciv_format.proofs.LayoutLaws.{file_len-is}

-- ---- the counts of the header

bad_counts-good : (n k m step : ℕ) → k ≤ n → step ≡ index_step k → m ≡ index_len k → bad_counts n k m step ≡ false
unfolding bad_counts
bad_counts-good n k m step few e₁ e₂ =
    rw (le-ltb n k few, eqb-not step (index_step k) e₁, eqb-not m (index_len k) e₂)

-- ---- done, from what is checked

pub checked-length : (b : List ℕ) (n k : ℕ) → CheckedMap b n k → 40 + n + 12 * k + 16 * index_len k ≤ length b
checked-length b n k c = omega (arith, c.fits, file_len-is n k)

pub check_header-done : (mp : ℕ) (b : List ℕ) (n k : ℕ) → 40 ≤ length b → CheckedHeader b n k
    → check_header mp b ≡ Ok (counts_of n k)
unfolding check_header
check_header-done mp b n k long h =
    rw (
      h.n_is,
      h.k_is,
      h.m_is,
      h.step_is,
      le-ltb (length b) 40 long,
      eqb-not (get 8 b 0) magic h.mark,
      le-ltb max_slots n h.small,
      bad_counts-good n k (index_len k) (index_step k) h.few refl refl,
    )

check_parts-done : (mp : ℕ) (b : List ℕ) (n k : ℕ) → CheckedMap b n k → check_parts mp b n k ≡ Ok (counts_of n k)
unfolding check_parts
check_parts-done mp b n k c =
    refuse_first-none BadOverflowEntry mp (bad_entry (file_parts b n k)) k _ c.parts.entries
    ∙ refuse_first-none MissingOverflowEntry mp (bad_slot (file_parts b n k)) n _ c.parts.slots
    ∙ refuse_first-none BadIndexEntry mp (bad_index_entry b n k) (index_len k) _ c.index

pub check_with-done : (wrong : ℕ → ℕ → Bool) (mp : ℕ) (b : List ℕ) (n k : ℕ) → CheckedMap b n k
    → wrong (length b) (file_len n k) ≡ false → check_with wrong mp b ≡ Ok (counts_of n k)
unfolding check_with counts_of
check_with-done wrong mp b n k c right =
    rw (check_header-done mp b n k (omega (arith, checked-length b n k c)) c.header, right)
    (check_parts-done mp b n k c)

-- ---- what is checked, from done

pub done-check_header : (mp : ℕ) (b : List ℕ) (s : Counts) → check_header mp b ≡ Ok s
    → CheckedHeader b (n_field b) (k_field b) × (s ≡ counts_of (n_field b) (k_field b))
unfolding check_header bad_counts
done-check_header mp b s e =
    let counts : Bool = bad_counts (n_field b) (k_field b) (m_field b) (step_field b) in
    let g₁ = refuse_if-done (ltb (length b) 40) _ _ s e in
    let g₂ = refuse_if-done (not (eqb (get 8 b 0) magic)) _ _ s g₁.1 in
    let g₃ = refuse_if-done (ltb max_slots (n_field b)) _ _ s g₂.1 in
    let g₄ = refuse_if-done counts _ _ s g₃.1 in
    let o₂ = or-false _ _ g₄.0 in
    let o₁ = or-false _ _ o₂.0 in
    let q : Ok (counts_of (n_field b) (k_field b)) ≡ Ok s = g₄.1 in (
      record {
        mark = not_eqb _ _ g₂.0;
        n_is = refl;
        k_is = refl;
        m_is = not_eqb _ _ o₂.1;
        step_is = not_eqb _ _ o₁.1;
        small = ltb-false _ _ g₃.0;
        few = ltb-false _ _ o₁.0;
      },
      cc,
    )

-- what a done check says: the map, the right length, and the counts
pub record Accepted (wrong : ℕ → ℕ → Bool) (b : List ℕ) (n k : ℕ) (s : Counts) : Type 0 where
  pub checked : CheckedMap b n k
  pub right : wrong (length b) (file_len n k) ≡ false
  pub counts : s ≡ counts_of n k

module _ (wrong : ℕ → ℕ → Bool) (fits : (len l : ℕ) → wrong len l ≡ false → l ≤ len)
    (mp : ℕ) (b : List ℕ) (s : Counts) where
  done-check_with : check_with wrong mp b ≡ Ok s → Accepted wrong b (n_field b) (k_field b) s
  unfolding check_with check_parts counts_of
  done-check_with e =
      let n : ℕ = n_field b in
      let k : ℕ = k_field b in
      let h = and_then-done (check_header mp b) _ s e in
      let d = done-check_header mp b h.0 h.1 in
      let rest = rw d.1 at h.2 in
      let g₅ = refuse_if-done (wrong (length b) (file_len n k)) _ _ s rest in
      let g₆ = refuse_first-done BadOverflowEntry mp (bad_entry (file_parts b n k)) k _ s g₅.1 in
      let g₇ = refuse_first-done MissingOverflowEntry mp (bad_slot (file_parts b n k)) n _ s g₆.1 in
      let g₈ = refuse_first-done BadIndexEntry mp (bad_index_entry b n k) (index_len k) _ s g₇.1 in
      let q : Ok (counts_of n k) ≡ Ok s = g₈.1 in
      record {
        checked =
            record {
              header = d.0;
              fits = fits (length b) (file_len n k) g₅.0;
              parts = record { entries = g₆.0; slots = g₇.0 };
              index = g₈.0;
            };
        right = g₅.0;
        counts = cc;
      }

-- ---- of a whole file, and of a buffer to be edited

pub counts_file-done : (mp : ℕ) (b : List ℕ) (n k : ℕ) → CheckedMap b n k → length b ≡ file_len n k
    → counts_file mp b ≡ Ok (counts_of n k)
counts_file-done mp b n k c long = check_with-done other_length mp b n k c (eqb-not (length b) (file_len n k) long)

pub done-counts_file : (mp : ℕ) (b : List ℕ) (s : Counts) → counts_file mp b ≡ Ok s
    → Accepted other_length b (n_field b) (k_field b) s
done-counts_file mp b s e =
    done-check_with other_length (λ len l q. (let z : len ≡ l = not_eqb len l q in omega arith)) mp b s e

pub accepted-length : (b : List ℕ) (n k : ℕ) (s : Counts) → Accepted other_length b n k s → length b ≡ file_len n k
accepted-length b n k s a = not_eqb (length b) (file_len n k) a.right

-- the same facts at the counts that it answers
accepted-counts : (wrong : ℕ → ℕ → Bool) (b : List ℕ) (s : Counts) → Accepted wrong b (n_field b) (k_field b) s
    → Accepted wrong b s.n s.k s
unfolding counts_of
accepted-counts wrong b s a =
    let q = a.counts in
    let n : s.n ≡ n_field b = ap (λ (z : Counts). z.n) q in
    let k : s.k ≡ k_field b = ap (λ (z : Counts). z.k) q in
    record {
      checked = rw (n, k) a.checked;
      right = rw (n, k) a.right;
      counts = q ∙ ap₂ counts_of (sym n) (sym k);
    }

pub done-counts : (mp : ℕ) (b : List ℕ) (s : Counts) → counts_file mp b ≡ Ok s
    → CheckedMap b s.n s.k × (length b ≡ file_len s.n s.k) × (s ≡ counts_of s.n s.k)
done-counts mp b s e =
    let a = accepted-counts other_length b s (done-counts_file mp b s e) in
    (a.checked, accepted-length b s.n s.k s a, a.counts)

pub done-buffer : (mp : ℕ) (b : List ℕ) (s : Counts) → counts_buffer mp b ≡ Ok s → CheckedMap b s.n s.k
done-buffer mp b s e = (accepted-counts ltb b s (done-check_with ltb (λ len l q. ltb-false len l q) mp b s e)).checked
