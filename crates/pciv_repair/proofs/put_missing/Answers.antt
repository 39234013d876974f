-- Proves pciv_repair::put_missing: no byte is set, or the rebuilt file tells which.
use Rattle.std.proofs.Common.{◌≡◌, ℕ, ◌+◌, ◌*◌, List, map, length, refl, ap, ◌∙◌, arith}
use Rattle.std.proofs.lemmas.List.{length-map}
use Rattle.std.proofs.lemmas.List.Edits.{sets}
use Rattle.pciv_bytes.specs.Ranges.{positions}
use Rattle.pciv_format.specs.Check.{file_parts}
use Rattle.pciv_repair_file.specs.Repaired.{is_set}
use Rattle.pciv_repair.specs.Repair.{set_line, was_set, numbers_of}
use Rattle.pciv_repair.proofs.CountLaws.{set-none, was_set-is, rebuilt-long, no-numbers}
use Rattle.pciv_repair.proofs.put_missing.Goals as goal

pub returns-then-full-kept : goal.returns-then-full-kept
returns-then-full-kept c =
    let none =
    set-none _ _ _ (λ i. (c.type_inv.file i).fits) c.requires.parts_given (omega (arith, c.if-full-kept.true, c.requires.kept_value)) in
    let e = no-numbers _ none c.args.from c.args.list.now in
    record { next = e.0; list = e.1 }

pub put_set-requires : goal.put_set-requires
put_set-requires c =
    let r = c.requires in
    record {
      n_in_bounds = (omega (arith, r.parts_given.inside), rebuilt-long _ _ _ (λ i. (c.type_inv.file i).fits) r.parts_given _ _ r.value);
      n_in_bounds_2 = rw (was_set-is _ _ _ (λ i. (c.type_inv.file i).fits) r.parts_given _ _ r.value) (rw length-map at r.k_in_bounds);
    }

pub returns : goal.returns
returns c =
    let a = c.args in
    let told : positions (was_set a.file.now a.new.now) 0 a.n ≡ positions (is_set (file_parts a.file.now a.n a.k)) 0 a.n =
    was_set-is _ _ _ (λ i. (c.type_inv.file i).fits) c.requires.parts_given _ _ c.requires.value in
    record {
      next = c.put_set.ensures.next ∙ ap (λ (l : List ℕ). a.from + length l) told ∙ simp length-map refl;
      list = c.put_set.ensures.list ∙ ap (λ (l : List ℕ). sets a.list.now (4 * a.from) (numbers_of (map set_line l))) told;
    }
