-- What a repair does, as a whole (docs/FORMAT.md, "Repair"). That its list is complete, true and in order is in
-- CompleteLaws.antt and TrueLaws.antt.
--   RepairKept b n k, repair-kept    which entries are kept, and the distance of each slot of the rebuilt file
--   repair-accepted       every output passes the check, with the summary that is answered
--   repair-sound          a sound file with its true counts stays, and nothing is listed
--   repair-nothing-iff    nothing is listed exactly for a sound file with its true counts
-- Axioms: none.
use Rattle.std.proofs.Common.{Ok}
use mathlib.Core.Path.{◌≡◌, refl, sym, ap, ap₂, ◌∙◌}
use mathlib.Core.Logic.{◌↔◌}
use Prim.Native.Nat.{ℕ, ◌+◌, ◌*◌, ◌≤◌, ◌<◌}
use native.Mathlib.Omega.{arith}
use mathlib.Core.Bool.{true}
use mathlib.Core.List.{List, [], ◌++◌}
use lib.ListN.{length, drop}
use Rattle.pciv_bytes.specs.Ranges.{table}
use Rattle.pciv_bytes.specs.LittleEndian.{Bytes}
use Rattle.pciv_bytes.specs.ByteAt.{byte_at}
use Rattle.pciv_format.specs.Layout.{overflow_count, counts_of, summary, at, file_of, summary_of, Limits}
use Rattle.pciv_format.specs.Parts.{SoundParts}
use Rattle.pciv_format.specs.Check.{file_parts}
use Rattle.pciv_format.specs.Read.{list_of, check_file}
use Rattle.pciv_format.specs.declared.Summary.{Summary}
use Rattle.pciv_format.proofs.LayoutLaws.{file_len-is, length-file, overflow_count-le, overflow_count-cong}
use Rattle.pciv_format.proofs.LayoutLaws.{file-cong, summary-cong}
use Rattle.pciv_format.proofs.FileLaws.{file-checked, file-value}
use Rattle.pciv_format.proofs.Acceptance.{file-table, summary-table, table-limits, accepted-is-file}
use Rattle.pciv_format.proofs.ListLaws.{ReadAs, front_read}
use Rattle.pciv_repair_file.specs.Repaired.{is_kept, repaired_at, repaired_file, bytes_after, rebuilt_index, PartsGiven}
use Rattle.pciv_repair_file.proofs.RepairedLaws.{repaired_at-is, repaired-count, repaired-le}
use Rattle.pciv_repair_file.proofs.WholeLaws.{MayStay, kept-iff, kept-rise, value-inline, value-kept, value-free}
use Rattle.pciv_repair_file.proofs.WholeLaws.{right-all, sound-set, sound-value}
use Rattle.pciv_repair.specs.Applied.{entries_left, applied}
use Rattle.pciv_repair.specs.Repair.{Correction, corrections, repair_outcome, repair_buffer, repair_list, numbers_of}
use Rattle.pciv_repair.specs.declared.Repaired.{Repaired}
use Rattle.pciv_repair.proofs.SplitLaws.{file-index}
use Rattle.pciv_repair.proofs.BytesLaws.{file-bytes}
use Rattle.pciv_repair.proofs.RebuiltLaws.{rebuilt-accepted}
use Rattle.pciv_repair.proofs.NothingLaws.{no-corrections, applied-nothing, left-all}
use Rattle.pciv_repair.proofs.OutcomeLaws.{repair-done, done-repair}
use Rattle.pciv_repair.proofs.CompleteLaws.{left-kept, corrections-apply}

-- ---- what is kept

-- an entry is kept exactly where its slot is inside and above those of all entries kept before it, its distance is in
-- overflow, and the byte at its slot is 255. The distance of each slot of the rebuilt file: a byte below 255 stays, a kept
-- entry's slot has its distance, and any other slot has 254. The slots of the kept entries rise
pub record RepairKept (b : List ℕ) (n k : ℕ) : Type 0 where
  pub judged : (j : ℕ) → (is_kept (file_parts b n k) j ≡ true) ↔ MayStay (file_parts b n k) j
  pub inline : (i : ℕ) → i < n → byte_at b (40 + i) < 255 → repaired_at b n k i ≡ byte_at b (40 + i)
  pub kept : (j : ℕ) → j < k → is_kept (file_parts b n k) j ≡ true
      → repaired_at b n k ((file_parts b n k).slot j) ≡ (file_parts b n k).distance j
  pub free : (i : ℕ) → i < n → byte_at b (40 + i) ≡ 255
      → ((j : ℕ) → j < k → is_kept (file_parts b n k) j ≡ true → (file_parts b n k).slot j ≡ i → ⊥)
      → repaired_at b n k i ≡ 254
  pub rise : (j t : ℕ) → j < t → t < k → is_kept (file_parts b n k) j ≡ true → is_kept (file_parts b n k) t ≡ true
      → (file_parts b n k).slot j < (file_parts b n k).slot t

pub repair-kept : (b : List ℕ) (n k : ℕ) → RepairKept b n k
repair-kept b n k =
    let P = file_parts b n k in
    record {
      judged = kept-iff P;
      inline = λ i h small. repaired_at-is b n k i ∙ value-inline P i small;
      kept = λ j h kept. repaired_at-is b n k (P.slot j) ∙ value-kept P j h kept;
      free = λ i h full none. repaired_at-is b n k i ∙ value-free P i full none;
      rise = λ j t h₁ h₂ kept kept'. kept-rise P j t h₁ kept kept';
    }

-- ---- the output passes the check

-- what stands at the front of the output, as long as the answer says, is accepted with the summary that the repair
-- answers, and is read as the distances of the rebuilt file
pub repair-accepted : (b : List ℕ) (n k : ℕ) (out list : List ℕ) (s : Repaired) → Bytes b
    → repair_outcome b n k (length out) (length list) ≡ Ok s
    → ReadAs (repair_buffer b n k (length list) out) s.summary (table (repaired_at b n k) 0 n)
unfolding repair_buffer
repair-accepted b n k out list s bytes e =
    let d = done-repair b n k (length out) (length list) s e in
    let v : ℕ → ℕ = repaired_at b n k in
    rw (e, d.is, file-table n v, summary-table n v)
    (front_read (table v 0 n) _ (table-limits n v d.given.small (repaired-le b n k bytes)))

-- ---- a sound file stays

module _ (xs : List ℕ) (l : Limits xs) where
  abbrev b : List ℕ
  b = file_of xs

  abbrev n : ℕ
  n = length xs

  abbrev k : ℕ
  k = overflow_count (length xs) (at xs)

  true-counts : PartsGiven b n k
  true-counts =
      record {
        small = l.count;
        few = overflow_count-le n (at xs);
        inside = omega (arith, length-file n (at xs), file_len-is n k);
      }

  sound : SoundParts (file_parts b n k)
  sound = (file-checked n (at xs) l.count l.each).parts

  each-byte : (i : ℕ) → (file_parts b n k).byte i < 256
  each-byte i = file-bytes n (at xs) (40 + i)

  same-value : (i : ℕ) → i < n → repaired_at b n k i ≡ at xs i
  same-value i h =
      repaired_at-is b n k i
      ∙ sound-value (file_parts b n k) sound each-byte i h
      ∙ file-value n (at xs) l.count l.each i h

  same-file : repaired_file b n k ≡ b
  same-file = file-cong n (repaired_at b n k) (at xs) same-value

  same_index : bytes_after b n k ≡ rebuilt_index b n k
  same_index =
      ap₂ (λ (c : ℕ) (f : List ℕ). drop (40 + n + 12 * c) f)
      (sym (overflow_count-cong n (repaired_at b n k) (at xs) same-value)) (sym same-file)
      ∙ file-index n (repaired_at b n k)

  nothing : corrections b n k ≡ []
  nothing =
      no-corrections b n k same-file (right-all (file_parts b n k) sound.entries)
      (sound-set (file_parts b n k) sound each-byte) same_index

  answer : (capacity room : ℕ) → length b ≤ capacity
      → repair_outcome b n k capacity room ≡ Ok (record { summary = summary_of xs; lines = 0 })
  answer capacity room fits =
      repair-done b n k capacity room true-counts (rw same-file fits) (rw nothing (omega arith))
      ∙ ap₂ (λ (s : Summary) (c : ℕ). Ok (record { summary = s; lines = c }))
      (summary-cong n (repaired_at b n k) (at xs) same-value) (ap length nothing)

  output : (out list : List ℕ) → length b ≤ length out → repair_buffer b n k (length list) out ≡ b ++ drop (length b) out
  unfolding repair_buffer
  output out list fits = rw (answer (length out) (length list) fits, same-file)

  listed : (out list : List ℕ) → length b ≤ length out → repair_list b n k (length out) list ≡ list
  unfolding repair_list numbers_of
  listed out list fits = rw (answer (length out) (length list) fits, nothing)

-- with its true counts the rebuilt file is the file itself, and the list of changes is empty; where the output holds
-- the file, the repair answers the summary and no line, writes the file and leaves the list as it was
pub repair-sound : (xs : List ℕ) → Limits xs
    → (let b : List ℕ = file_of xs in
    let n : ℕ = length xs in
    let k : ℕ = overflow_count (length xs) (at xs) in
    (repaired_file b n k ≡ b)
    × (corrections b n k ≡ [])
    × ((out list : List ℕ) → length b ≤ length out
    → (repair_outcome b n k (length out) (length list) ≡ Ok (record { summary = summary_of xs; lines = 0 }))
    × (repair_buffer b n k (length list) out ≡ b ++ drop (length b) out)
    × (repair_list b n k (length out) list ≡ list)))
repair-sound xs l = (
  same-file xs l,
  nothing xs l,
  λ out list fits. (
    answer xs l (length out) (length list) fits,
    output xs l out list fits,
    listed xs l out list fits,
  ),
)

-- ---- nothing is listed exactly for a sound file with its true counts

summary-n : (n : ℕ) (v : ℕ → ℕ) → (summary n v).n ≡ n
unfolding summary counts_of
summary-n n v = refl

summary-k : (n : ℕ) (v : ℕ → ℕ) → (summary n v).k ≡ overflow_count n v
unfolding summary counts_of
summary-k n v = refl

module _ (b : List ℕ) (n k : ℕ) (bytes : Bytes b) (given : PartsGiven b n k) where
  -- the file of b's own list
  nothing-sound : (s : Summary) → check_file 1 b ≡ Ok s → s.n ≡ n → s.k ≡ k → corrections b n k ≡ []
  nothing-sound s e n_is k_is =
      let is = accepted-is-file 1 b s bytes e in
      let xs : List ℕ = list_of b in
      let slots : n ≡ length xs =
      sym n_is ∙ ap (λ (s : Summary). s.n) is.summary_is ∙ summary-n (length xs) (at xs) in
      let entries : k ≡ overflow_count (length xs) (at xs) =
      sym k_is ∙ ap (λ (s : Summary). s.k) is.summary_is ∙ summary-k (length xs) (at xs) in
      ap (λ (l : List ℕ). corrections l n k) is.bytes
      ∙ ap₂ (corrections (file_of xs)) slots entries
      ∙ nothing xs is.limits

  -- b is the rebuilt file, and has k entries
  stays : corrections b n k ≡ [] → b ≡ repaired_file b n k
  stays none =
      sym (applied-nothing b n k bytes given.inside)
      ∙ ap (applied b n k) (sym none)
      ∙ corrections-apply b n k bytes given

  all_left : corrections b n k ≡ [] → overflow_count n (repaired_at b n k) ≡ k
  all_left none =
      repaired-count b n k bytes
      ∙ ap length (sym (left-kept b n k))
      ∙ ap (λ (cs : List Correction). length (entries_left k cs)) none
      ∙ left-all k

  -- a file that the check accepts, with the n and k that it answers
  pub repair-nothing-iff : (corrections b n k ≡ [])
      ↔ ((s : Summary) × (check_file 1 b ≡ Ok s) × (s.n ≡ n) × (s.k ≡ k))
  repair-nothing-iff = (
    λ none. (
      summary n (repaired_at b n k),
      ap (check_file 1) (stays none) ∙ rebuilt-accepted b n k bytes given 1,
      summary-n n (repaired_at b n k),
      summary-k n (repaired_at b n k) ∙ all_left none,
    ),
    λ a. nothing-sound a.0 a.1 a.2 a.3,
  )
