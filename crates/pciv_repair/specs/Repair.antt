-- What a repair answers and lists (docs/FORMAT.md, "Repair"). b are the bytes of a file, with n and k as the caller
-- gives them.
--   field_at i, field_of b i    the offset of header field i, of six, and its number in b
--   change_number kind        the number of a kind of change
--   Correction                a change: its kind, its place, the number before and after it, by `correction`
--   field_line, dropped_line, set_line, index_line    a change of each kind
--   other_field b f i          header field i is another one in the file f than in b
--   was_set b f i              the byte of slot i is 255 in b and not in f
--   field_lines, dropped_lines, set_lines, index_lines    all changes of each kind, by rising place
--   corrections b n k         all changes
--   numbers_of cs              changes as numbers, four each
--   repaired_of b n k          the answer of a repair that is done
--   repair_outcome             the answer, for an output of `capacity` bytes and a list of `room` numbers
--   repair_buffer, repair_list  the output and the list afterwards
-- Laws are in proofs/. Axioms: none.
use Rattle.std.specs.Prelude.{Ok}
use Rattle.pciv_format.specs.declared.RefusalKind.TheVariants.{TooManySlots, BadCounts, BadLength, BufferTooSmall}
use Rattle.std.specs.Prelude.{ℕ, ◌+◌, ◌-◌, ◌*◌, Bool, not, cond, ◌&&◌, ◌||◌, List, [], ◌∷◌, ◌++◌, map, length, ltb, eqb}
use Rattle.pciv_bytes.specs.Ranges.{positions}
use Rattle.pciv_bytes.specs.LittleEndian.{get}
use Rattle.pciv_bytes.specs.ByteAt.{byte_at}
use Rattle.pciv_format.specs.Layout.{max_slots, summary}
use Rattle.pciv_format.specs.Refusals.{Outcome, refuse, refuse_if, written}
use Rattle.pciv_format.specs.Check.{file_parts}
use Rattle.pciv_repair_file.specs.Repaired.{is_kept, is_set, repaired_at, repaired_file, bytes_after, rebuilt_index, same}
use Rattle.pciv_repair.specs.declared.Repaired.{Repaired}
use Rattle.pciv_repair.specs.declared.lines.ChangeKind.{ChangeKind}
use Rattle.pciv_repair.specs.declared.lines.ChangeKind.TheVariants.{Field, Dropped, Set, Index}

-- ---- the header

-- the first two fields are of 4 bytes, the other four of 8
abbrev pub field_at : ℕ → ℕ
field_at i = cond (ltb i 2) (4 * i) (8 * (i - 1))

unfoldable pub field_of : List ℕ → ℕ → ℕ
field_of b i = get (cond (ltb i 2) 4 8) b (field_at i)

-- ---- a change

-- the number of its kind in the list
abbrev pub change_number : ChangeKind → ℕ
change_number Field = 1
change_number Dropped = 2
change_number Set = 3
change_number Index = 4

pub record Correction : Type 0 where
  pub kind : ℕ
  pub place : ℕ
  pub before : ℕ
  pub after : ℕ

abbrev pub correction : ℕ → ℕ → ℕ → ℕ → Correction
correction kind place before after = record { kind = kind; place = place; before = before; after = after }

-- header field i of b, which is another one in the file f
abbrev pub field_line : List ℕ → List ℕ → ℕ → Correction
field_line b f i = correction 1 (field_at i) (field_of b i) (field_of f i)

abbrev pub other_field : List ℕ → List ℕ → ℕ → Bool
other_field b f i = not (eqb (field_of b i) (field_of f i))

-- entry j, dropped
abbrev pub dropped_line : List ℕ → ℕ → ℕ → ℕ → Correction
dropped_line b n k j = correction 2 j ((file_parts b n k).slot j) 0

-- the byte of slot i, set
abbrev pub set_line : ℕ → Correction
set_line i = correction 3 i 255 254

-- the byte of slot i is 255 in b and not in the file f
abbrev pub was_set : List ℕ → List ℕ → ℕ → Bool
was_set b f i = eqb (byte_at b (40 + i)) 255 && not (eqb (byte_at f (40 + i)) 255)

-- bytes after the entries, `before` of them, that are not the index, of `after` bytes
abbrev pub index_line : ℕ → ℕ → Correction
index_line before after = correction 4 0 before after

-- ---- all changes

abbrev pub field_lines : List ℕ → ℕ → ℕ → List Correction
field_lines b n k =
    map (field_line b (repaired_file b n k)) (positions (other_field b (repaired_file b n k)) 0 6)

abbrev pub dropped_lines : List ℕ → ℕ → ℕ → List Correction
dropped_lines b n k = map (dropped_line b n k) (positions (λ (j : ℕ). not (is_kept (file_parts b n k) j)) 0 k)

abbrev pub set_lines : List ℕ → ℕ → ℕ → List Correction
set_lines b n k = map set_line (positions (is_set (file_parts b n k)) 0 n)

abbrev pub index_lines : List ℕ → ℕ → ℕ → List Correction
index_lines b n k =
    cond (same (bytes_after b n k) (rebuilt_index b n k)) []
    (index_line (length (bytes_after b n k)) (length (rebuilt_index b n k)) ∷ [])

unfoldable pub corrections : List ℕ → ℕ → ℕ → List Correction
corrections b n k = field_lines b n k ++ (dropped_lines b n k ++ (set_lines b n k ++ index_lines b n k))

unfoldable pub numbers_of : List Correction → List ℕ
numbers_of [] = []
numbers_of (c ∷ cs) = c.kind ∷ c.place ∷ c.before ∷ c.after ∷ numbers_of cs

-- ---- the routine

abbrev pub repaired_of : List ℕ → ℕ → ℕ → Repaired
repaired_of b n k = record { summary = summary n (repaired_at b n k); lines = length (corrections b n k) }

unfoldable pub repair_outcome : List ℕ → ℕ → ℕ → ℕ → ℕ → Outcome Repaired
repair_outcome b n k capacity room =
    refuse_if (ltb max_slots n) (refuse TooManySlots 1 0)
    (refuse_if (ltb n k) (refuse BadCounts 1 0)
    (refuse_if (ltb (length b) (40 + n + 12 * k)) (refuse BadLength 1 0)
    (refuse_if (ltb capacity (length (repaired_file b n k)) || ltb room (4 * length (corrections b n k))) (refuse BufferTooSmall 0 0)
    (Ok (repaired_of b n k)))))

-- the output afterwards, where the list holds `room` numbers
unfoldable pub repair_buffer : List ℕ → ℕ → ℕ → ℕ → List ℕ → List ℕ
repair_buffer b n k room out = written (repair_outcome b n k (length out) room) (repaired_file b n k) out

-- the list afterwards, where the output holds `capacity` bytes
unfoldable pub repair_list : List ℕ → ℕ → ℕ → ℕ → List ℕ → List ℕ
repair_list b n k capacity list =
    written (repair_outcome b n k capacity (length list)) (numbers_of (corrections b n k)) list
