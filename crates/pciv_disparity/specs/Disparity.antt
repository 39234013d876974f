-- Maps from disparity frames (docs/FORMAT.md, "Disparity frames"). F is a device constant, T a disparity table, a list of
-- 256 distances.
--   disparity_distance F d      the distance of the disparity d
--   disparity_table F           those of all 256 disparities; 256 zeros for F = 0
--   table_outcome F             refusal 19 for F = 0, else the table
--   table_answer F              the table with its verdict, as a value of the answer's type
--   frame_distance T bytes i    the distance at slot i of a frame: the table's entry for the disparity there
--   frame_outcome T bytes capacity, frame_buffer T bytes out
--                              the map of a frame by a table: its summary; the buffer afterwards
-- Laws are in proofs/DisparityLaws.antt, the theorems in proofs/Disparities.antt. Axioms: none.
use Rattle.std.specs.Prelude.{Ok}
use Rattle.pciv_format.specs.declared.RefusalKind.TheVariants.{TooManySlots, ZeroConstant}
use Rattle.std.specs.Prelude.{ℕ, ◌/◌, max, cond, List, length, replicate, ltb, eqb}
use Rattle.pciv_bytes.specs.Ranges.{table}
use Rattle.pciv_bytes.specs.ByteAt.{byte_at}
use Rattle.pciv_format.specs.Layout.{max_slots, at}
use Rattle.pciv_format.specs.Refusals.{Outcome, refuse, refuse_if, verdict_of}
use Rattle.pciv_format.specs.Write.{file_into, file_buffer}
use Rattle.pciv_format.specs.declared.Summary.{Summary}
use Rattle.pciv_disparity.specs.declared.TableAnswer.{TableAnswer}

-- ---- the table of a device constant

-- disparity 0 is a zero distance ("hole"); every other one is F / d, rounded down, but at least 1
unfoldable pub disparity_distance : ℕ → ℕ → ℕ
disparity_distance F d = cond (eqb d 0) 0 (max 1 (F / d))

unfoldable pub disparity_table : ℕ → List ℕ
disparity_table F = cond (eqb F 0) (replicate 256 0) (table (disparity_distance F) 0 256)

unfoldable pub table_outcome : ℕ → Outcome (List ℕ)
table_outcome F = refuse_if (eqb F 0) (refuse ZeroConstant 0 0) (Ok (disparity_table F))

-- the table comes with a refusal too
abbrev pub table_answer : ℕ → TableAnswer
table_answer F = record { verdict = verdict_of (table_outcome F); table = disparity_table F }

-- ---- the map of a frame

abbrev pub frame_distance : List ℕ → List ℕ → ℕ → ℕ
frame_distance T bytes i = at T (byte_at bytes i)

unfoldable pub frame_outcome : List ℕ → List ℕ → ℕ → Outcome Summary
frame_outcome T bytes capacity =
    refuse_if (ltb max_slots (length bytes)) (refuse TooManySlots 1 0) (file_into (length bytes) (frame_distance T bytes) capacity)

unfoldable pub frame_buffer : List ℕ → List ℕ → List ℕ → List ℕ
frame_buffer T bytes out = file_buffer (frame_outcome T bytes (length out)) (length bytes) (frame_distance T bytes) out
