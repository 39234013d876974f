-- How an outcome is told to C: a number, and what the caller's cells hold afterwards (include/pciv.h).
--   code_of o              the call's own answer: 0 when done, else the refusal's number
--   no_cells, cells_of r    the cells of pciv_refusal where there is no refusal, and for a refusal r
--   refusal_cells o        the same for an outcome o
--   cell_after o old       the cell or cells of a result, as of a number or a row: the result when done, else as it was
--   summary_cells o old    the cells of pciv_summary: its six numbers when done, else as they were
--   distance_cell o old, origin_cell k o old
--                         a lookup's cells: the distance, and the number that tells its origin in a file with k overflow
--                         entries, when done, else as they were
--   repaired_cells o old, lines_cell o old
--                         a repair's cells: the summary, and how many changes were listed, when done, else as they were
--   slots_cell o old, frames_cell o old
--                         the cells of a bundle's reader: how many slots and frames, when done, else as they were
--   span_cells o, span_length o    where the primary part starts, and its length; 0 and 0 for a refused file
--   ToldNumber, ToldFile, ToldLocated, ToldRepaired, ToldCounts, ToldTable
--                         all of a call: its answer, the result's cells, the refusal's cells
--   told_row v distances   the outcome that a verdict and distances beside it stand for, of a row or a table
--   told_table a           that of a table's answer
-- Laws are in proofs/CellsLaws.antt. Axioms: none.
use Rattle.std.specs.Prelude.{Ok, Err}
use Rattle.std.specs.Prelude.{◌≡◌, ℕ, List, [], ◌∷◌}
use Rattle.pciv_format.specs.Refusals.{Outcome, and_then, number_of}
use Rattle.pciv_format.specs.Read.{origin_number}
use Rattle.pciv_format.specs.declared.Counts.{Counts}
use Rattle.pciv_format.specs.declared.Summary.{Summary}
use Rattle.pciv_format.specs.declared.Refusal.{Refusal}
use Rattle.pciv_format.specs.declared.Located.{Located}
use Rattle.pciv_repair.specs.declared.Repaired.{Repaired}
use Rattle.pciv_bundle_records.specs.declared.BundleCounts.{BundleCounts}
use Rattle.pciv_disparity.specs.declared.TableAnswer.{TableAnswer}

abbrev pub no_cells : List ℕ
no_cells = 0 ∷ 0 ∷ 0 ∷ []

abbrev pub cells_of : Refusal → List ℕ
cells_of r = number_of r.kind ∷ r.map ∷ r.place ∷ []

module _ {A : Type 0} where
  abbrev pub code_of : Outcome A → ℕ
  code_of (Ok a) = 0
  code_of (Err r) = number_of r.kind

  abbrev pub refusal_cells : Outcome A → List ℕ
  refusal_cells (Ok a) = no_cells
  refusal_cells (Err r) = cells_of r

  abbrev pub cell_after : Outcome A → A → A
  cell_after (Ok x) old = x
  cell_after (Err r) old = old

abbrev pub summary_cells : Outcome Summary → List ℕ → List ℕ
summary_cells (Ok s) old = s.n ∷ s.k ∷ s.m ∷ s.step ∷ s.len ∷ s.sum ∷ []
summary_cells (Err r) old = old

abbrev pub distance_cell : Outcome Located → ℕ → ℕ
distance_cell (Ok a) old = a.distance
distance_cell (Err r) old = old

abbrev pub origin_cell : ℕ → Outcome Located → ℕ → ℕ
origin_cell k (Ok a) old = origin_number k a.origin
origin_cell k (Err r) old = old

abbrev pub repaired_cells : Outcome Repaired → List ℕ → List ℕ
repaired_cells (Ok a) old = summary_cells (Ok a.summary) old
repaired_cells (Err r) old = old

abbrev pub lines_cell : Outcome Repaired → ℕ → ℕ
lines_cell (Ok a) old = a.lines
lines_cell (Err r) old = old

abbrev pub slots_cell : Outcome BundleCounts → ℕ → ℕ
slots_cell (Ok c) old = c.slots
slots_cell (Err r) old = old

abbrev pub frames_cell : Outcome BundleCounts → ℕ → ℕ
frames_cell (Ok c) old = c.frames
frames_cell (Err r) old = old

abbrev pub span_cells : Outcome Counts → List ℕ
span_cells (Ok s) = 40 ∷ s.n ∷ []
span_cells (Err r) = 0 ∷ 0 ∷ []

abbrev pub span_length : Outcome Counts → ℕ
span_length (Ok s) = s.n
span_length (Err r) = 0

-- ---- what a call with outcome o answers and leaves: `old` stood in the result's cells, `new` stands there now

pub record ToldNumber {A : Type 0} (o : Outcome A) (code : ℕ) (old new : A) (why : List ℕ) : Type 0 where
  pub code_is : code ≡ code_of o
  pub result_is : new ≡ cell_after o old
  pub why_is : why ≡ refusal_cells o

pub record ToldFile (o : Outcome Summary) (code : ℕ) (old new why : List ℕ) : Type 0 where
  pub code_is : code ≡ code_of o
  pub result_is : new ≡ summary_cells o old
  pub why_is : why ≡ refusal_cells o

-- x and j are the cells of the distance and of its origin's number
pub record ToldLocated (k : ℕ) (o : Outcome Located) (code old_x new_x old_j new_j : ℕ) (why : List ℕ) : Type 0 where
  pub code_is : code ≡ code_of o
  pub distance_is : new_x ≡ distance_cell o old_x
  pub origin_is : new_j ≡ origin_cell k o old_j
  pub why_is : why ≡ refusal_cells o

-- the summary's cells, and that of the number of changes
pub record ToldRepaired (o : Outcome Repaired) (code : ℕ) (old_s new_s : List ℕ) (old_c new_c : ℕ) (why : List ℕ) : Type 0 where
  pub code_is : code ≡ code_of o
  pub summary_is : new_s ≡ repaired_cells o old_s
  pub count_is : new_c ≡ lines_cell o old_c
  pub why_is : why ≡ refusal_cells o

-- s and f are the cells of the slot count and of the frame count
pub record ToldCounts (o : Outcome BundleCounts) (code old_s new_s old_f new_f : ℕ) (why : List ℕ) : Type 0 where
  pub code_is : code ≡ code_of o
  pub slots_is : new_s ≡ slots_cell o old_s
  pub frames_is : new_f ≡ frames_cell o old_f
  pub why_is : why ≡ refusal_cells o

-- a table T, which is written after a refusal too
pub record ToldTable (o : Outcome (List ℕ)) (T : List ℕ) (code : ℕ) (new why : List ℕ) : Type 0 where
  pub code_is : code ≡ code_of o
  pub table_is : new ≡ T
  pub why_is : why ≡ refusal_cells o

-- ---- a verdict, and distances beside it

abbrev pub told_row : Outcome Unit → List ℕ → Outcome (List ℕ)
told_row verdict distances = and_then verdict (λ v. Ok distances)

abbrev pub told_table : TableAnswer → Outcome (List ℕ)
told_table a = told_row a.verdict a.table
