-- A file at the front of a longer buffer is checked and read as it is by itself.
--   front-checked              a file that is a checked map by itself is one in the buffer
--   front-map, front-value, front-sum
--                              the file of n slots with distances v is a checked map in the buffer too, is read as these
--                              distances, and has their sum
--   front-counts, front-file, front-list
--                              a buffer with the file of a list at its front is accepted, and edited as that file and list
--   Holds b n k x              b holds the file of the list x at its front
--   checked-front              a checked buffer holds the list that it is read as
-- Axioms: none.
use Rattle.std.proofs.Common.{Ok}
use mathlib.Core.Path.{◌≡◌, refl, sym, ap, ap₂, ◌∙◌}
use Prim.Native.Nat.{ℕ, ◌+◌, ◌*◌, ◌≤◌, ◌<◌}
use native.Mathlib.Omega.{arith}
use mathlib.Core.List.{List, ◌++◌}
use lib.ListN.{length, take, drop, length-append, take-append-drop, get_or-append}
use lib.Seq.{take_at, length-take-le}
use lib.Dec.{ltb, lit≤}
use borrow.Author.Tests.{le-ltb}
use Rattle.pciv_bytes.specs.Ranges.{sum_from}
use Rattle.pciv_bytes.specs.LittleEndian.{get, Bytes}
use Rattle.pciv_bytes.proofs.SumLaws.{sum_from-cong}
use Rattle.pciv_bytes.proofs.LittleEndianLaws.{bytes_take, get_in}
use Rattle.pciv_format.specs.Layout.{max_slots, max_distance, index_step, index_len, file_len, overflow_count}
use Rattle.pciv_format.specs.Layout.{file, counts_of, at, file_of, list_counts, Limits}
use Rattle.pciv_format.specs.Parts.{Parts, value_of}
use Rattle.pciv_format.specs.Check.{file_parts, bad_index_entry, counts_buffer, CheckedMap}
use Rattle.pciv_format.specs.Read.{list_of}
use Rattle.pciv_format.specs.Edit.{edited_file}
use Rattle.pciv_format.proofs.PartsLaws.{primary_byte-min}
use Rattle.pciv_format.proofs.SamePartsLaws.{SameParts, sound-same, same_back, value_of-same}
use Rattle.pciv_format.proofs.LayoutLaws.{index-inside, file_len-is, length-file, overflow_count-cong}
use Rattle.pciv_format.proofs.CheckLaws.{check_with-done, counts_file-done}
use Rattle.pciv_format.proofs.FileLaws.{file-byte, file-checked, file-value}
use Rattle.pciv_format.proofs.CheckedFileLaws.{checked-count}
use Rattle.pciv_format.proofs.ReadLaws.{length-list_of, at-list}
use Rattle.pciv_format.proofs.Acceptance.{file-read, counted-is-file}

-- ---- a file f at the front

module _ (f t : List ℕ) (n k : ℕ) (fits : file_len n k ≤ length f) where
  inside : 40 + n + 12 * k + 16 * index_len k ≤ length f
  inside = omega (arith, file_len-is n k)

  front-parts : SameParts (file_parts f n k) (file_parts (f ++ t) n k)
  front-parts =
      record {
        n_same = refl;
        k_same = refl;
        byte_same = λ i h. get_or-append f t 0 (40 + i) (omega (arith, inside));
        slot_same = λ j h. get_in 8 f t (40 + n + 12 * j) (omega (arith, inside));
        distance_same = λ j h. get_in 4 f t (40 + n + 12 * j + 8) (omega (arith, inside));
      }

  -- a field of the header
  field-same : (at : ℕ) → at ≤ 32 → get 8 (f ++ t) at ≡ get 8 f at
  field-same at h = get_in 8 f t at (omega (arith, inside))

  index_same : (i : ℕ) → i < index_len k → bad_index_entry (f ++ t) n k i ≡ bad_index_entry f n k i
  unfolding bad_index_entry
  index_same i hi =
      let long = inside in
      rw (
        get_in 8 f t (40 + n + 12 * k + 16 * i) (omega arith),
        get_in 8 f t (40 + n + 12 * k + 16 * i + 8) (omega arith),
        get_in 8 f t (40 + n + 12 * (i * index_step k)) (omega (arith, index-inside k i hi)),
      )

  pub front-checked : CheckedMap f n k → CheckedMap (f ++ t) n k
  front-checked c =
      let h = c.header in
      record {
        header =
            record {
              mark = field-same 0 (lit≤ tt) ∙ h.mark;
              n_is = field-same 8 (lit≤ tt) ∙ h.n_is;
              k_is = field-same 16 (lit≤ tt) ∙ h.k_is;
              m_is = field-same 24 (lit≤ tt) ∙ h.m_is;
              step_is = field-same 32 (lit≤ tt) ∙ h.step_is;
              small = h.small;
              few = h.few;
            };
        fits = simp length-append (omega arith);
        parts = sound-same (file_parts f n k) (file_parts (f ++ t) n k) front-parts c.parts;
        index = λ i hi. index_same i hi ∙ c.index i hi;
      }

  front-alone : CheckedMap (f ++ t) n k → CheckedMap f n k
  front-alone c =
      let h = c.header in
      record {
        header =
            record {
              mark = sym (field-same 0 (lit≤ tt)) ∙ h.mark;
              n_is = sym (field-same 8 (lit≤ tt)) ∙ h.n_is;
              k_is = sym (field-same 16 (lit≤ tt)) ∙ h.k_is;
              m_is = sym (field-same 24 (lit≤ tt)) ∙ h.m_is;
              step_is = sym (field-same 32 (lit≤ tt)) ∙ h.step_is;
              small = h.small;
              few = h.few;
            };
        fits = fits;
        parts =
            sound-same (file_parts (f ++ t) n k) (file_parts f n k)
            (same_back (file_parts f n k) (file_parts (f ++ t) n k) front-parts) c.parts;
        index = λ i hi. sym (index_same i hi) ∙ c.index i hi;
      }

-- ---- the file of a map at the front

module _ (n : ℕ) (v : ℕ → ℕ) (few : n ≤ max_slots) (each : (i : ℕ) → i < n → v i ≤ max_distance) (t : List ℕ) where
  pub front-map : CheckedMap (file n v ++ t) n (overflow_count n v)
  front-map =
      let c = file-checked n v few each in
      front-checked (file n v) t n (overflow_count n v) c.fits c

  pub front-value : (i : ℕ) → i < n → value_of (file_parts (file n v ++ t) n (overflow_count n v)) i ≡ v i
  front-value i h =
      let c = file-checked n v few each in
      value_of-same _ _ (front-parts (file n v) t n (overflow_count n v) c.fits) c.parts i h
      (omega (arith, file-byte n v few each i h, primary_byte-min (v i)))
      ∙ file-value n v few each i h

  pub front-sum : sum_from (value_of (file_parts (file n v ++ t) n (overflow_count n v))) 0 n ≡ sum_from v 0 n
  front-sum = sum_from-cong _ v 0 n (λ i h₁ h₂. front-value i (omega arith))

-- ---- the file of a list at the front

module _ (xs t : List ℕ) (l : Limits xs) where
  there : CheckedMap (file_of xs ++ t) (length xs) (overflow_count (length xs) (at xs))
  there = front-map (length xs) (at xs) l.count l.each t

  pub front-counts : (mp : ℕ) → counts_buffer mp (file_of xs ++ t) ≡ Ok (list_counts xs)
  front-counts mp =
      let k : ℕ = overflow_count (length xs) (at xs) in
      let b : List ℕ = file_of xs ++ t in
      check_with-done ltb mp b (length xs) k there (le-ltb (length b) (file_len (length xs) k) there.fits)

  pub front-file : edited_file (file_of xs ++ t) ≡ file_of xs
  unfolding edited_file
  front-file =
      let k : ℕ = overflow_count (length xs) (at xs) in
      let h = there.header in
      rw (h.n_is, h.k_is) (take_at (file_of xs) t (file_len (length xs) k) (length-file (length xs) (at xs)))

  pub front-list : list_of (edited_file (file_of xs ++ t)) ≡ xs
  front-list = ap list_of front-file ∙ file-read xs l

-- ---- what stands at the front of a checked buffer

-- the list x is what b is read as: its file stands at the front of b
pub record Holds (b : List ℕ) (n k : ℕ) (x : List ℕ) : Type 0 where
  pub limits : Limits x
  pub apart : b ≡ file_of x ++ drop (file_len n k) b
  pub slots : length x ≡ n
  pub count : overflow_count n (at x) ≡ k
  pub each : (i : ℕ) → i < n → at x i ≡ value_of (file_parts b n k) i

module _ (b : List ℕ) (n k : ℕ) (bytes : Bytes b) (c : CheckedMap b n k) where
  front : List ℕ
  front = take (file_len n k) b

  past : List ℕ
  past = drop (file_len n k) b

  edited_file-is : edited_file b ≡ take (file_len n k) b
  unfolding edited_file
  edited_file-is = ap₂ (λ (x y : ℕ). take (file_len x y) b) c.header.n_is c.header.k_is

  pub checked-front : Holds b n k (list_of (edited_file b))
  unfolding front past
  checked-front =
      let long : length front ≡ file_len n k = length-take-le (file_len n k) b c.fits in
      let whole : front ++ past ≡ b = take-append-drop (file_len n k) b in
      let low : file_len n k ≤ length front = omega (arith, long) in
      let alone : CheckedMap front n k = front-alone front past n k low (rw whole c) in
      let h = alone.header in
      let bytes_f : Bytes front = bytes_take (file_len n k) b bytes in
      let is = counted-is-file 1 front (counts_of n k) bytes_f (counts_file-done 1 front n k alone long) in
      let x : List ℕ = list_of front in
      let P : List ℕ → Parts = λ l. file_parts l n k in
      let same : SameParts (P front) (P (front ++ past)) = front-parts front past n k low in
      let each : (i : ℕ) → i < n → at x i ≡ value_of (file_parts b n k) i =
      λ i hi.
      at-list front n k h.n_is h.k_is i hi
      ∙ sym
      (ap (λ (l : List ℕ). value_of (file_parts l n k) i) (sym whole)
      ∙ value_of-same (P front) (P (front ++ past)) same alone.parts i hi (bytes_f (40 + i))) in
      rw edited_file-is
      (record {
        limits = is.limits;
        apart = sym whole ∙ ap (λ (l : List ℕ). l ++ past) is.bytes;
        slots = length-list_of front ∙ h.n_is;
        count = overflow_count-cong n (at x) (value_of (file_parts b n k)) each ∙ checked-count b n k bytes c;
        each = each;
      })
