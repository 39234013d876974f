-- Proves pciv_c::distances::pciv_lookup: where the lookup is done, the file's k is in its header.
use Rattle.std.proofs.Common.{sym}
use Rattle.pciv_format.proofs.OriginLaws.{lookup-found}
use Rattle.pciv_c_cells.proofs.CellsLaws.{told-located}
use Rattle.pciv_c.proofs.distances.pciv_lookup.Goals as goal

pub returns : goal.returns
returns c =
    record {
      told = told-located _ (λ x e. c.header_k.ensures (lookup-found _ _ x e).long) (rw c.lookup.ensures.answer at c.tell_located.ensures.told);
    }
