-- Laws of disparity tables and of maps of frames, case by case.
--   distance_none, _some       the distance of disparity 0, and of every other one
--   table-refused, _filled     the outcome and the table for the constant 0, and for every other one
--   answer-refused, -filled    the answer made of them
--   frame-long                 the frame is too long
--   frame-into, frame_buffer-is     else the answer is that of writing the file; the buffer, by the answer
-- Axioms: none.
use Rattle.std.proofs.Common.{Ok, Err}
use Rattle.pciv_format.specs.declared.RefusalKind.TheVariants.{TooManySlots, ZeroConstant}
use mathlib.Core.Path.{◌≡◌, refl}
use Prim.Native.Nat.{ℕ, ◌/◌, ◌≤◌, ◌<◌, max}
use native.Mathlib.Omega.{arith}
use mathlib.Core.List.{List}
use lib.ListN.{length, replicate}
use borrow.Author.Tests.{lt-ltb, le-ltb, eq-eqb, ne_eqb}
use Rattle.pciv_bytes.specs.Ranges.{table}
use Rattle.pciv_format.specs.Layout.{max_slots}
use Rattle.pciv_format.specs.Refusals.{refuse}
use Rattle.pciv_format.specs.Write.{file_into, file_buffer}
use Rattle.pciv_disparity.specs.Disparity.{disparity_distance, disparity_table, table_outcome, table_answer}
use Rattle.pciv_disparity.specs.Disparity.{frame_distance, frame_outcome, frame_buffer}

module _ (F : ℕ) where
  pub distance_none : (d : ℕ) → d ≡ 0 → disparity_distance F d ≡ 0
  unfolding disparity_distance
  distance_none d e = rw (eq-eqb d 0 e)

  pub distance_some : (d : ℕ) → 0 < d → disparity_distance F d ≡ max 1 (F / d)
  unfolding disparity_distance
  distance_some d h = rw (ne_eqb d 0 (λ e. omega arith))

  pub table-refused : F ≡ 0 → (table_outcome F ≡ refuse ZeroConstant 0 0) × (disparity_table F ≡ replicate 256 0)
  unfolding table_outcome disparity_table
  table-refused e = let t = eq-eqb F 0 e in (rw t, rw t)

  pub table_filled : 0 < F
      → (table_outcome F ≡ Ok (disparity_table F)) × (disparity_table F ≡ table (disparity_distance F) 0 256)
  unfolding table_outcome disparity_table
  table_filled h = let t = ne_eqb F 0 (λ e. omega arith) in (rw t, rw t)

  pub answer-refused : F ≡ 0
      → record {
        verdict = Err (record { kind = ZeroConstant; map = 0; place = 0 });
        table = replicate 256 0;
      } ≡ table_answer F
  answer-refused e = let r = table-refused e in rw (r.0, r.1)

  pub answer-filled : 0 < F → (T : List ℕ) → T ≡ table (disparity_distance F) 0 256
      → record { verdict = Ok tt; table = T } ≡ table_answer F
  answer-filled h T is = let r = table_filled h in rw (r.0, r.1, is)

module _ (T bytes out : List ℕ) where
  pub frame-long : max_slots < length bytes
      → (frame_outcome T bytes (length out) ≡ refuse TooManySlots 1 0) × (frame_buffer T bytes out ≡ out)
  unfolding frame_outcome frame_buffer
  frame-long long = let t = lt-ltb max_slots (length bytes) long in (rw t, rw t)

  pub frame-into : length bytes ≤ max_slots
      → frame_outcome T bytes (length out) ≡ file_into (length bytes) (frame_distance T bytes) (length out)
  unfolding frame_outcome
  frame-into few = rw (le-ltb max_slots (length bytes) few)

  pub frame_buffer-is : frame_buffer T bytes out
      ≡ file_buffer (frame_outcome T bytes (length out)) (length bytes) (frame_distance T bytes) out
  unfolding frame_buffer
  frame_buffer-is = refl
