-- Proves pciv_repair::lines::put_set.
use Rattle.std.proofs.Common.{ℕ, ◌+◌, not, eqb, sym, ◌∙◌, arith}
use Rattle.pciv_bytes.specs.ByteAt.{byte_at}
use Rattle.pciv_bytes.proofs.AnyLaws.{any_from-none}
use Rattle.pciv_repair.proofs.LinesLaws.{was_set-same, listing_start, listing-gap, listing-part, listing-part-room, listing-end}
use Rattle.pciv_repair.proofs.lines.put_set.Goals as goal

pub loop-start-init : goal.loop-start-init
loop-start-init c = listing_start _ _ _ _ _

pub loop-start-preserved : goal.loop-start-preserved
loop-start-preserved c =
    let a = c.args in
    listing-gap c.loop-start.invariant _ (omega arith) (omega arith)
    (λ t h₁ h₂. was_set-same a.file.now a.new.now t
    (any_from-none (λ (j : ℕ). not (eqb (byte_at a.file.now j) (byte_at a.new.now j))) _ _
    (sym c.any_other.ensures ∙ c.if-any_other.false) (40 + t) (omega arith) (omega arith)))

pub loop-start-preserved-then-any_other : goal.loop-start-preserved-then-any_other
loop-start-preserved-then-any_other c =
    let e = c.put_block-line.ensures in
    listing-part c.loop-start.invariant _ (omega arith) (omega arith) (e.next, e.list)

pub put_block-line-requires-clause-start_in_bounds : goal.put_block-line-requires-clause-start_in_bounds
put_block-line-requires-clause-start_in_bounds c =
    listing-part-room c.loop-start.invariant c.requires.n_in_bounds_2 _ (omega arith) (omega arith)

pub returns : goal.returns
returns c = let e = listing-end c.loop-start.invariant c.loop-start-test.false in record { next = e.0; list = e.1 }
