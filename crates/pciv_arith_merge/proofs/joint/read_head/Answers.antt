-- Proves pciv_arith_merge::joint::read_head: past the last entry, or an entry inside the file.
use Rattle.std.proofs.Common.{ℕ, ◌+◌, ◌≤◌, List, length, sym, ap, ap₂, ◌∙◌, arith}
use Rattle.pciv_bytes.specs.LittleEndian.{get}
use Rattle.pciv_format.specs.Check.{file_parts}
use Rattle.pciv_format.proofs.MapLaws.{entry-inside}
use Rattle.pciv_arith_merge.specs.declared.joint.Head.{Head}
use Rattle.pciv_arith_merge.proofs.JointLaws.{head_of-entry, head_of-past}
use Rattle.pciv_arith_merge.proofs.joint.read_head.Goals as goal
use Rattle.pciv_arith_merge.proofs.joint.read_head.Goals.{Else-n-k}

-- what stands at a place
abbrev head_at : List ℕ → ℕ → Head
head_at b place = record { slot = get 8 b place; distance = get 4 b (place + 8) }

pub returns-then-n-k : goal.returns-then-n-k
returns-then-n-k c =
    sym (head_of-past (file_parts c.args.file.now c.args.n c.args.k) c.args.j (omega (arith, c.requires.place_value)))

-- the entry is inside the file
inside : (c : Else-n-k) → c.args.place + 12 ≤ length c.args.file.now
inside c =
    let a = c.args in
    omega (arith, entry-inside a.file.now a.n a.k c.requires.checked_map a.j (omega (arith, c.requires.place_value)))

pub get64-requires : goal.get64-requires
get64-requires c = omega (arith, inside (goal.at.get64-requires c).Else-n-k)

pub get32-requires : goal.get32-requires
get32-requires c = omega (arith, inside (goal.at.get32-requires c).Else-n-k)

pub returns : goal.returns
returns c =
    let a = c.args in
    ap₂ (λ (s d : ℕ). record { slot = s; distance = d }) c.get64.ensures c.get32.ensures
    ∙ ap (head_at a.file.now) c.requires.place_value
    ∙ sym (head_of-entry (file_parts a.file.now a.n a.k) a.j (omega (arith, c.requires.place_value)))
