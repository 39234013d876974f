-- Proves pciv_repair::put_lines: the four kinds, one after another.
use Rattle.std.proofs.Common.{◌≡◌, ℕ, ◌+◌, ◌*◌, ◌≤◌, List, length, sym, ap, ◌∙◌, arith}
use Rattle.std.proofs.lemmas.List.Edits.{sets}
use Rattle.pciv_repair.specs.Repair.{Correction, field_lines, dropped_lines, set_lines, index_lines, numbers_of}
use Rattle.pciv_repair.proofs.CountLaws.{Begins, file-begins, fields-same, rebuilt-long, lines-total, all_lines}
use Rattle.pciv_repair.proofs.CountLaws.{length-field_lines, length-dropped_lines}
use Rattle.pciv_repair.proofs.put_lines.Goals as goal
use Rattle.pciv_repair.proofs.put_lines.Goals.{After-put_fields-dropped, After-put_dropped-set, After-put_missing-last}

-- the lists after each kind, which are as long as the list was
module _ (c : After-put_fields-dropped) where
  abbrev fields : List Correction
  fields = field_lines c.args.file.now c.args.n c.args.k

  abbrev dropped : List Correction
  dropped = dropped_lines c.args.file.now c.args.n c.args.k

  abbrev missing : List Correction
  missing = set_lines c.args.file.now c.args.n c.args.k

  abbrev index : List Correction
  index = index_lines c.args.file.now c.args.n c.args.k

  room : 4 * (length fields + length dropped + length missing + length index) ≤ length c.args.list.now
  room =
      omega (arith, lines-total _ _ _ (λ i. (c.type_inv.file i).fits) c.requires.parts_given, c.requires.k_in_bounds)

  -- the header of the rebuilt file, which stands at the front
  begins : Begins c.args.file.now c.args.n c.args.k (λ i. (c.type_inv.file i).fits) c.requires.parts_given c.args.new.now
  begins =
      let f = file-begins _ _ _ (λ i. (c.type_inv.file i).fits) c.requires.parts_given _ in
      (f.0, c.requires.value ∙ f.1)

  fields_put : (c.put_fields-dropped.result ≡ length fields)
      × (c.put_fields-dropped.new.list ≡ sets c.args.list.now 0 (numbers_of fields))
  fields_put =
      let a = c.args in
      let same = fields-same _ _ _ (λ i. (c.type_inv.file i).fits) c.requires.parts_given _ begins in (
        c.put_fields-dropped.ensures.next ∙ ap length same.0 ∙ sym (length-field_lines a.file.now a.n a.k),
        c.put_fields-dropped.ensures.list ∙ ap (λ (l : List Correction). sets a.list.now 0 (numbers_of l)) same.1,
      )

pub put_fields-dropped-requires : goal.put_fields-dropped-requires
put_fields-dropped-requires c =
    let a = c.args in
    let p = c.requires.parts_given in
    let f = file-begins _ _ _ (λ i. (c.type_inv.file i).fits) p _ in
    let same = fields-same _ _ _ (λ i. (c.type_inv.file i).fits) p _ (f.0, c.requires.value ∙ f.1) in
    record {
      in_bounds = (omega (arith, p.inside), omega (arith, rebuilt-long _ _ _ (λ i. (c.type_inv.file i).fits) p _ _ c.requires.value));
      in_bounds_2 =
          omega (
            arith,
            ap length same.0,
            length-field_lines a.file.now a.n a.k,
            lines-total _ _ _ (λ i. (c.type_inv.file i).fits) p,
            c.requires.k_in_bounds,
          );
    }

pub put_dropped-set-requires-clause-k_in_bounds : goal.put_dropped-set-requires-clause-k_in_bounds
put_dropped-set-requires-clause-k_in_bounds c =
    let z = (goal.at.put_dropped-set-requires-clause-k_in_bounds c).After-put_fields-dropped in
    let a = c.args in
    omega (arith, room z, (fields_put z).0, length-dropped_lines a.file.now a.n a.k)

pub put_missing-last-requires-clause-k_in_bounds : goal.put_missing-last-requires-clause-k_in_bounds
put_missing-last-requires-clause-k_in_bounds c =
    let z = (goal.at.put_missing-last-requires-clause-k_in_bounds c).After-put_fields-dropped in
    let a = c.args in
    omega (arith, room z, (fields_put z).0, length-dropped_lines a.file.now a.n a.k, c.put_dropped-set.ensures.next)

pub put_index-requires-clause-k_in_bounds : goal.put_index-requires-clause-k_in_bounds
put_index-requires-clause-k_in_bounds c =
    let z = (goal.at.put_index-requires-clause-k_in_bounds c).After-put_fields-dropped in
    let a = c.args in
    omega (
      arith,
      room z,
      (fields_put z).0,
      length-dropped_lines a.file.now a.n a.k,
      c.put_dropped-set.ensures.next,
      c.put_missing-last.ensures.next,
    )

pub returns : goal.returns
returns c =
    let z = (goal.at.returns c).After-put_fields-dropped in
    let a = c.args in
    let first = (fields_put z).0 in
    let second : c.put_dropped-set.result ≡ length (fields z) + length (dropped z) =
    omega (arith, first, length-dropped_lines a.file.now a.n a.k, c.put_dropped-set.ensures.next) in
    let third : c.put_missing-last.result ≡ length (fields z) + length (dropped z) + length (missing z) =
    omega (arith, second, c.put_missing-last.ensures.next) in
    all_lines _ _ _ (λ i. (c.type_inv.file i).fits) c.requires.parts_given _ _ _ _ _ (fields_put z).1
    (c.put_dropped-set.ensures.list ∙ ap (λ (x : ℕ). sets c.put_fields-dropped.new.list (4 * x) (numbers_of (dropped z))) first)
    (c.put_missing-last.ensures.list ∙ ap (λ (x : ℕ). sets c.put_dropped-set.new.list (4 * x) (numbers_of (missing z))) second)
    (c.put_index.ensures ∙ ap (λ (x : ℕ). sets c.put_missing-last.new.list (4 * x) (numbers_of (index z))) third)
