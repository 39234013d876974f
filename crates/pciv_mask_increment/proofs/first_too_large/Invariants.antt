-- No slot below the least that entry j may have is too large.
use Rattle.pciv_format.specs.Check.{file_parts}
use Rattle.pciv_mask_increment.proofs.RaisedLaws.{FineTo}
use Rattle.pciv_mask_increment.proofs.first_too_large.Given as goal

abbrev pub invariant-loop-j : goal.invariant-loop-j
invariant-loop-j l = FineTo (file_parts l.file l.n l.k) l.words l.j
