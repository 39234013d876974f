-- What a check finds: refusals 1 to 8, first case first, else the counts (docs/FORMAT.md, "Refusals"). What it answers
-- has the sum of all distances too (Read.antt).
--   n_field b, k_field b, m_field b, step_field b   the counts in the header of b
--   file_parts b n k           the primary array and overflow entries of a file with n slots and k entries
--   bad_index_entry b n k i     index entry i is wrong (refusal 8)
--   check_header, check_parts   refusals 1 to 4, and 6 to 8
--   bad_counts n k m step      the counts of a header are wrong (refusal 4)
--   check_with wrong mp b      the check, by what a wrong length is; other_length, that of a whole file
--   counts_file mp b           the check of a whole file, as map mp
--   counts_buffer mp b         the check of a buffer to be edited, which may be longer than the file at its front
--   CheckedHeader, CheckedMap b n k    what inner routines know of b: a file of n slots and k overflow entries stands
--                             at its front
-- Laws are in proofs/CheckLaws.antt. Axioms: none.
use Rattle.std.specs.Prelude.{Ok}
use Rattle.pciv_format.specs.declared.RefusalKind.TheVariants.{TruncatedHeader, BadMagic, TooManySlots, BadCounts, BadLength, BadIndexEntry}
use Rattle.std.specs.Prelude.{◌≡◌, ℕ, ◌+◌, ◌*◌, ◌≤◌, ◌<◌, Bool, false, not, ◌||◌, List, length, get_or, ltb, eqb}
use Rattle.pciv_bytes.specs.LittleEndian.{get}
use Rattle.pciv_format.specs.Layout.{max_slots, magic, index_step, index_len, file_len, counts_of}
use Rattle.pciv_format.specs.Refusals.{Outcome, refuse, refuse_if, refuse_first, and_then}
use Rattle.pciv_format.specs.Parts.{Parts, refuse_parts, SoundParts}
use Rattle.pciv_format.specs.declared.Counts.{Counts}

abbrev pub n_field : List ℕ → ℕ
n_field b = get 8 b 8

abbrev pub k_field : List ℕ → ℕ
k_field b = get 8 b 16

abbrev pub m_field : List ℕ → ℕ
m_field b = get 8 b 24

abbrev pub step_field : List ℕ → ℕ
step_field b = get 8 b 32

abbrev pub file_parts : List ℕ → ℕ → ℕ → Parts
file_parts b n k =
    record {
      n = n;
      k = k;
      byte = λ i. get_or b (40 + i) 0;
      slot = λ j. get 8 b (40 + n + 12 * j);
      distance = λ j. get 4 b (40 + n + 12 * j + 8);
    }

unfoldable pub bad_index_entry : List ℕ → ℕ → ℕ → ℕ → Bool
bad_index_entry b n k i =
    not (eqb (get 8 b (40 + n + 12 * k + 16 * i)) ((file_parts b n k).slot (i * index_step k)))
    || not (eqb (get 8 b (40 + n + 12 * k + 16 * i + 8)) (i * index_step k))

-- k above n, or step or m not by the rule
unfoldable pub bad_counts : ℕ → ℕ → ℕ → ℕ → Bool
bad_counts n k m step = ltb n k || not (eqb step (index_step k)) || not (eqb m (index_len k))

-- refusals 1 to 4, else the counts of the header
unfoldable pub check_header : ℕ → List ℕ → Outcome Counts
check_header mp b =
    refuse_if (ltb (length b) 40) (refuse TruncatedHeader mp 0)
    (refuse_if (not (eqb (get 8 b 0) magic)) (refuse BadMagic mp 0)
    (refuse_if (ltb max_slots (n_field b)) (refuse TooManySlots mp 0)
    (refuse_if (bad_counts (n_field b) (k_field b) (m_field b) (step_field b)) (refuse BadCounts mp 0)
    (Ok (counts_of (n_field b) (k_field b))))))

-- refusals 6 to 8, else the counts
unfoldable pub check_parts : ℕ → List ℕ → ℕ → ℕ → Outcome Counts
check_parts mp b n k =
    refuse_parts mp (file_parts b n k) (refuse_first BadIndexEntry mp (bad_index_entry b n k) (index_len k) (Ok (counts_of n k)))

-- all of them; `wrong len l` tells if a buffer of len bytes has the wrong length for a file of l (refusal 5)
unfoldable pub check_with : (ℕ → ℕ → Bool) → ℕ → List ℕ → Outcome Counts
check_with wrong mp b =
    and_then (check_header mp b)
    (λ s. refuse_if (wrong (length b) s.len) (refuse BadLength mp 0) (check_parts mp b s.n s.k))

-- a whole file has exactly its length
abbrev pub other_length : ℕ → ℕ → Bool
other_length len l = not (eqb len l)

abbrev pub counts_file : ℕ → List ℕ → Outcome Counts
counts_file mp b = check_with other_length mp b

abbrev pub counts_buffer : ℕ → List ℕ → Outcome Counts
counts_buffer mp b = check_with ltb mp b

-- ---- what a check has shown

pub record CheckedHeader (b : List ℕ) (n k : ℕ) : Type 0 where
  pub mark : get 8 b 0 ≡ magic
  pub n_is : n_field b ≡ n
  pub k_is : k_field b ≡ k
  pub m_is : m_field b ≡ index_len k
  pub step_is : step_field b ≡ index_step k
  pub small : n ≤ max_slots
  pub few : k ≤ n

pub record CheckedMap (b : List ℕ) (n k : ℕ) : Type 0 where
  pub header : CheckedHeader b n k
  pub fits : file_len n k ≤ length b
  pub parts : SoundParts (file_parts b n k)
  pub index : (i : ℕ) → i < index_len k → bad_index_entry b n k i ≡ false
