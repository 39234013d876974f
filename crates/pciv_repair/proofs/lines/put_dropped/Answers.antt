-- Proves pciv_repair::lines::put_dropped.
use Rattle.std.proofs.Common.{◌≡◌, ℕ, ◌+◌, ltb, not, refl, sym, ap, ◌∙◌, arith}
use Rattle.std.proofs.Math.Numerals.{add-one}
use borrow.Author.Tests.{lt-ltb, le-ltb}
use Rattle.pciv_format.specs.Check.{file_parts}
use Rattle.pciv_repair_file.specs.Repaired.{lowest_after, lowest_kept, is_kept}
use Rattle.pciv_repair_file.proofs.KeptLaws.{lowest_kept-next, is_kept-next}
use Rattle.pciv_repair.specs.Repair.{correction}
use Rattle.pciv_repair.proofs.LinesLaws.{listing_start, listing-skip, listing-more, listing-room, listing-end}
use Rattle.pciv_repair.proofs.lines.put_dropped.Goals as goal
use Rattle.pciv_repair.proofs.lines.put_dropped.Goals.{After-lowest_after-next, then-next-lowest, else-next-lowest}

-- the least slot after entry j
next_is : (c : After-lowest_after-next)
    → c.lowest_after-next.result ≡ lowest_kept (file_parts c.args.file.now c.args.n c.args.k) (c.loop-j.j + 1)
next_is c =
    let P = file_parts c.args.file.now c.args.n c.args.k in
    c.lowest_after-next.ensures
    ∙ ap (λ (x : ℕ). lowest_after P x c.loop-j.j) c.loop-j.invariant.lowest_is
    ∙ rw (add-one c.loop-j.j) (sym (lowest_kept-next P c.loop-j.j))

-- entry j is dropped where it does not go up
tested : (c : After-lowest_after-next)
    → not (is_kept (file_parts c.args.file.now c.args.n c.args.k) c.loop-j.j) ≡ not (ltb c.loop-j.lowest c.lowest_after-next.result)
tested c =
    rw (next_is c, c.loop-j.invariant.lowest_is, add-one c.loop-j.j)
    (ap not (is_kept-next (file_parts c.args.file.now c.args.n c.args.k) c.loop-j.j))

pub loop-j-init : goal.loop-j-init
unfolding lowest_kept
loop-j-init c = record { listing = listing_start _ _ _ _ _; lowest_is = refl }

pub put_line-line-requires : goal.put_line-line-requires
put_line-line-requires c =
    let z = (goal.at.put_line-line-requires c).After-lowest_after-next in
    listing-room c.loop-j.invariant.listing c.requires.k_in_bounds (omega arith)
    (tested z ∙ ap not (le-ltb _ _ c.if-next-lowest.true))

pub loop-j-preserved : goal.loop-j-preserved
loop-j-preserved c =
    let z = (goal.at.loop-j-preserved c).After-lowest_after-next in
    let i = c.loop-j.invariant in
    record {
      listing =
          elim c.if-next-lowest.branch [
            | then-next-lowest w ↦ (let e = w.put_line-line.ensures in
                rw (w.list-is, w.line-is)
                (listing-more i.listing (omega arith) (tested z ∙ ap not (le-ltb _ _ w.if-next-lowest.true))
                (ap (λ (slot : ℕ). correction 2 c.loop-j.j slot 0) (sym w.get64-slot.ensures)) (e.next, e.list)))
            | else-next-lowest w ↦ rw (w.list-is, w.line-is)
                (listing-skip i.listing (omega arith) (tested z ∙ ap not (lt-ltb _ _ w.if-next-lowest.false)))
          ];
      lowest_is = next_is z;
    }

pub returns : goal.returns
returns c = let e = listing-end c.loop-j.invariant.listing c.loop-j-test.false in record { next = e.0; list = e.1 }
