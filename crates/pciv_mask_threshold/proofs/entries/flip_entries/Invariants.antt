-- A mask at the front of out is the one that the first j entries make of it.
use Rattle.std.proofs.Common.{◌≡◌, ℕ, Bool, List}
use Rattle.std.proofs.lemmas.List.Edits.{sets}
use Rattle.pciv_format.specs.Check.{file_parts}
use Rattle.pciv_format.specs.Mask.{mask_of}
use Rattle.pciv_mask_threshold.proofs.EntryBitsLaws.{settled}
use Rattle.pciv_mask_threshold.proofs.entries.flip_entries.Given as goal

abbrev pub invariant-loop-j : goal.invariant-loop-j
invariant-loop-j l = (d : List ℕ) (p : ℕ → Bool) → l.initial.out ≡ sets d 0 (mask_of l.n p)
    → l.out ≡ sets d 0 (mask_of l.n (settled (file_parts l.file l.n l.k) l.limit p l.j))
