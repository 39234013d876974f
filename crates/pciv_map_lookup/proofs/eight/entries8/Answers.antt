-- Proves pciv_map_lookup::eight::entries8.
use Rattle.std.proofs.Common.{arith}
use Rattle.pciv_map_lookup.proofs.EightLaws.{overflow-some, eight-start}
use Rattle.pciv_map_lookup.proofs.eight.entries8.Goals as goal

pub loop-len-init : goal.loop-len-init
loop-len-init c =
    record {
      some = overflow-some _ c.requires.checked_map.parts _ _ _ (c.requires.overflow_places.each 0 (omega arith));
      eight = eight-start _ _ _;
    }
