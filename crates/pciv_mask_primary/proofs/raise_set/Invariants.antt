-- Raising the bytes of all set bits from the start is raising those of the bits that are left from here.
use Rattle.std.proofs.Common.{◌≡◌}
use Rattle.std.proofs.lemmas.List.Edits.{sets}
use Rattle.pciv_bytes.specs.LittleEndian.{Bytes}
use Rattle.pciv_bytes.specs.Ranges.{table}
use Rattle.pciv_mask_primary.specs.Masked.{masked_word}
use Rattle.pciv_mask_primary.specs.declared.MaskedOp.TheVariants.{Increment}
use Rattle.pciv_mask_primary.proofs.raise_set.Given as goal

abbrev pub invariant-loop-rest : goal.invariant-loop-rest
invariant-loop-rest l =
    Bytes l.out
    × sets l.initial.out l.at (table (masked_word Increment l.initial.out l.at l.word) 0 64)
    ≡ sets l.out l.at (table (masked_word Increment l.out l.at l.rest) 0 64)

abbrev pub decreases-loop-rest : goal.decreases-loop-rest
decreases-loop-rest l = l.rest
