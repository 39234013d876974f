-- The entries of the slots from some slot on are left to fill in.
use Rattle.std.proofs.Common.{◌≡◌, ℕ, ◌+◌, ◌*◌, length}
use Rattle.pciv_build.proofs.FillLaws.{Filling}
use Rattle.pciv_disparity.specs.Disparity.{frame_distance}
use Rattle.pciv_disparity.proofs.put_entries.Given as goal

abbrev pub invariant-loop : goal.invariant-loop
invariant-loop l = record {
  place_is : l.place ≡ 40 + length l.frame + 12 * l.counter;
  from : ℕ;
  filling : Filling (length l.frame) (frame_distance l.table l.frame) l.initial.out from l.out l.place;
}
