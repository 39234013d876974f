-- Worked cases of disparity tables and maps of frames, by computation (docs/FORMAT.md, "Worked examples").
--   further    entries of tables, and what is answered and written for frames
--   falls-case, reading-case, quotient-case, limit-case, write-case, read-case
--              the theorems of Disparities.antt at these: what they ask for is there
-- Axioms: none.
use Rattle.std.proofs.Common.{Ok, Err}
use Rattle.pciv_format.specs.declared.RefusalKind.TheVariants.{BufferTooSmall, ZeroConstant}
use mathlib.Core.Path.{◌≡◌, refl}
use Prim.Native.Nat.{ℕ, ◌+◌, ◌*◌, ◌≤◌, ◌<◌}
use native.Mathlib.Omega.{arith}
use mathlib.Core.List.{List, [], ◌∷◌, ◌++◌, map}
use lib.ListN.{length, replicate, take}
use Rattle.pciv_bytes.specs.Ranges.{table, positions, joined, sum_from}
use Rattle.pciv_bytes.specs.LittleEndian.{le}
use Rattle.pciv_format.specs.Layout.{index_step, index_len, file_len, primary, overflow_slots, overflow_count, overflow_entry}
use Rattle.pciv_format.specs.Layout.{overflow_part, index_entry, index_part, header, file, counts_of, summary, at, file_of}
use Rattle.pciv_format.specs.Refusals.{refuse}
use Rattle.pciv_format.specs.Read.{list_of}
use Rattle.pciv_format.specs.Write.{write_buffer}
use Rattle.pciv_disparity.specs.Disparity.{disparity_distance, disparity_table, table_outcome, table_answer}
use Rattle.pciv_disparity.specs.Disparity.{frame_outcome, frame_buffer}
use Rattle.pciv_disparity.proofs.Disparities.{distance-quotient, disparity-falls, disparity-reading}
use Rattle.pciv_disparity.proofs.Disparities.{disparity-limit, frame-write, frame-read}

-- entries of the table of F
abbrev entries : ℕ → List ℕ → List ℕ
entries F ds = map (at (disparity_table F)) ds

-- a frame, and the map that it becomes by the table of F = 510
abbrev frame : List ℕ
frame = 0 ∷ 1 ∷ 2 ∷ 3 ∷ 255 ∷ []

abbrev distances : List ℕ
distances = 0 ∷ 510 ∷ 255 ∷ 170 ∷ 2 ∷ []

abbrev Tables : Type 0
Tables =
    (entries 1 (0 ∷ 1 ∷ 2 ∷ 255 ∷ []) ≡ 0 ∷ 1 ∷ 1 ∷ 1 ∷ [])
    × (entries 254 (0 ∷ 1 ∷ 2 ∷ 127 ∷ 128 ∷ 255 ∷ []) ≡ 0 ∷ 254 ∷ 127 ∷ 2 ∷ 1 ∷ 1 ∷ [])
    × (entries 255 (0 ∷ 1 ∷ 2 ∷ 254 ∷ 255 ∷ []) ≡ 0 ∷ 255 ∷ 127 ∷ 1 ∷ 1 ∷ [])
    × (entries 4294967295 (0 ∷ 1 ∷ 2 ∷ 255 ∷ []) ≡ 0 ∷ 4294967295 ∷ 2147483647 ∷ 16843009 ∷ [])
    × (disparity_table 1 ≡ 0 ∷ replicate 255 1)
    × (disparity_table 0 ≡ replicate 256 0)
    × (table_outcome 0 ≡ refuse ZeroConstant 0 0)
    × (table_answer 0
    ≡ record {
      verdict = Err (record { kind = ZeroConstant; map = 0; place = 0 });
      table = replicate 256 0;
    })
    × (table_outcome 255 ≡ Ok (disparity_table 255))

abbrev Frames : Type 0
Frames =
    (frame_outcome (disparity_table 510) frame 69
    ≡ Ok (record { n = 5; k = 2; m = 0; step = 0; len = 69; sum = 937 }))
    × (frame_outcome (disparity_table 510) frame 68 ≡ refuse BufferTooSmall 0 0)
    × (frame_buffer (disparity_table 510) frame (replicate 71 7) ≡ file_of distances ++ (7 ∷ 7 ∷ []))
    × (frame_buffer (disparity_table 510) frame (replicate 68 7) ≡ replicate 68 7)
    × (frame_buffer (replicate 256 0) frame (replicate 45 7) ≡ file_of (0 ∷ 0 ∷ 0 ∷ 0 ∷ 0 ∷ []))
    × (frame_outcome (replicate 256 0) frame 45
    ≡ Ok (record { n = 5; k = 0; m = 0; step = 0; len = 45; sum = 0 }))
    × (frame_buffer (disparity_table 510) [] (replicate 40 7) ≡ file_of [])
    × (frame_outcome (disparity_table 510) [] 39 ≡ refuse BufferTooSmall 0 0)

pub further : Tables × Frames
unfolding
    table positions joined sum_from le index_step index_len file_len primary
    overflow_slots overflow_count overflow_entry overflow_part index_entry index_part header file counts_of summary
    disparity_distance disparity_table table_outcome frame_outcome frame_buffer
further = (
  (refl, refl, refl, refl, refl, refl, refl, refl, refl),
  (refl, refl, refl, refl, refl, refl, refl, refl),
)

-- ---- the theorems at numbers

two : at (disparity_table 510) 2 ≡ 255
unfolding table disparity_distance disparity_table
two = refl

three : at (disparity_table 510) 3 ≡ 170
unfolding table disparity_distance disparity_table
three = refl

pub falls-case : at (disparity_table 510) 3 ≤ at (disparity_table 510) 2
falls-case = disparity-falls 510 2 3 (omega arith) (λ e. omega (arith, two)) (λ e. omega (arith, three))

pub reading-case : at (disparity_table 1) 255 ≡ 0 → ⊥
reading-case none = omega (arith, (disparity-reading 1 255 (omega arith) (omega arith)).0 none)

-- 127 * 2 is 254, and 255 is below 128 * 2
pub quotient-case : (disparity_distance 255 2 * 2 ≤ 255) × (255 < (disparity_distance 255 2 + 1) * 2)
quotient-case = (distance-quotient 255 2 (omega arith)).0 (omega arith)

pub limit-case : at (disparity_table 4294967295) 1 ≤ 4294967295
limit-case = disparity-limit 4294967295 1 (omega arith)

-- the table of F = 510 makes of the frame what `write` makes of the list
pub write-case : frame_buffer (disparity_table 510) frame (replicate 71 7) ≡ write_buffer distances (replicate 71 7)
unfolding table disparity_distance disparity_table
write-case = (frame-write (disparity_table 510) frame (replicate 71 7)).1

done-case : frame_outcome (disparity_table 510) frame (length (replicate {A = ℕ} 71 7))
    ≡ Ok (record { n = 5; k = 2; m = 0; step = 0; len = 69; sum = 937 })
unfolding
    table positions joined sum_from le index_step index_len file_len primary
    overflow_slots overflow_count overflow_entry overflow_part index_entry index_part header file counts_of summary
    disparity_distance disparity_table frame_outcome
done-case = refl

-- and it is read as that list
pub read-case : list_of (take 69 (frame_buffer (disparity_table 510) frame (replicate 71 7)))
    ≡ map (at (disparity_table 510)) frame
read-case =
    (frame-read (disparity_table 510) frame (λ d. disparity-limit 510 d (omega arith)) (replicate 71 7) _ done-case).read
