-- The bytes that the primary bytes lead to, put right at the slots of the first j entries, are written.
use Rattle.std.proofs.Common.{◌≡◌}
use Rattle.std.proofs.lemmas.List.Edits.{sets}
use Rattle.pciv_format.specs.Check.{file_parts}
use Rattle.pciv_format.proofs.PatchLaws.{patched}
use Rattle.pciv_arith_lower.proofs.LoweredLaws.{low_byte}
use Rattle.pciv_arith_lower.proofs.put_primary.Given as goal

abbrev pub invariant-loop-j : goal.invariant-loop-j
invariant-loop-j l = l.out ≡ sets l.fn.out 40 (patched (low_byte l.m) (file_parts l.file l.n l.k) l.j)
