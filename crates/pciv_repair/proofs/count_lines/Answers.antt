-- Proves pciv_repair::count_lines: the fields that differ from the new header, and what the counts tell.
use Rattle.std.proofs.Common.{◌≡◌, ◌*◌, ◌≤◌, Bool, not, length, ap, ◌∙◌, arith}
use Rattle.pciv_bytes.specs.Ranges.{flag, positions}
use Rattle.pciv_bytes.proofs.RangesLaws.{bool_byte-flag, flag-le}
use Rattle.pciv_bytes.proofs.PositionsLaws.{positions-count}
use Rattle.pciv_format.specs.Layout.{max_slots}
use Rattle.pciv_format.specs.Check.{file_parts}
use Rattle.pciv_repair_file.specs.Repaired.{is_set, repaired_file}
use Rattle.pciv_repair_file.proofs.IndexLaws.{kept_small}
use Rattle.pciv_repair.specs.Repair.{other_field}
use Rattle.pciv_repair.proofs.CountLaws.{dropped-count, set-count, lines-count, header-begins, fields-same}
use Rattle.pciv_repair.proofs.count_lines.Goals as goal
use Rattle.pciv_repair.proofs.count_lines.Goals.{After-count_fields}

-- the fields that differ, six at most
counted : (c : After-count_fields)
    → c.count_fields.result ≡ length (positions (other_field c.args.file.now (repaired_file c.args.file.now c.args.n c.args.k)) 0 6)
counted c =
    let begins =
    header-begins _ _ _ (λ i. (c.type_inv.file i).fits) c.requires.parts_given c.args.kept c.requires.kept_value.0 _ _
    (omega arith) c.put_header.ensures in
    c.count_fields.ensures ∙ ap length (fields-same _ _ _ (λ i. (c.type_inv.file i).fits) c.requires.parts_given _ begins).0

few-fields : (c : After-count_fields) → c.count_fields.result ≤ 6
few-fields c =
    let a = c.args in
    omega (arith, counted c, positions-count (other_field a.file.now (repaired_file a.file.now a.n a.k)) 0 6)

-- and the other kinds
totals : (c : After-count_fields) → (c.args.kept ≤ c.args.k) × (c.args.kept ≤ c.args.full) × (c.args.full ≤ 2 * max_slots)
totals c =
    let a = c.args in
    let p = c.requires.parts_given in
    let d = dropped-count _ _ _ (λ i. (c.type_inv.file i).fits) p in
    let m = set-count _ _ _ (λ i. (c.type_inv.file i).fits) p in
    let counts = c.requires.kept_value in
    let few = positions-count (is_set (file_parts a.file.now a.n a.k)) 0 a.n in (
      omega (arith, d, counts.0),
      omega (arith, m, counts.0, counts.1),
      omega (arith, d, m, counts.0, counts.1, few, p.few, p.small),
    )

pub put_header-requires : goal.put_header-requires
put_header-requires c =
    (omega (arith, c.requires.kept_value.0, kept_small _ _ _ (λ i. (c.type_inv.file i).fits) c.requires.parts_given), omega arith)

pub overflow_sub-result : goal.overflow_sub-result
overflow_sub-result c = (totals (goal.at.overflow_sub-result c).After-count_fields).0

pub overflow_add-result : goal.overflow_add-result
overflow_add-result c =
    let p = c.requires.parts_given in
    omega (arith, few-fields (goal.at.overflow_add-result c).After-count_fields, p.few, p.small)

pub overflow_sub-result-2 : goal.overflow_sub-result-2
overflow_sub-result-2 c = (totals (goal.at.overflow_sub-result-2 c).After-count_fields).1

pub overflow_add-result-2 : goal.overflow_add-result-2
overflow_add-result-2 c =
    let z = (goal.at.overflow_add-result-2 c).After-count_fields in
    let p = c.requires.parts_given in
    omega (arith, few-fields z, (totals z).2, p.few, p.small)

pub overflow_add-result-3 : goal.overflow_add-result-3
overflow_add-result-3 c =
    let z = (goal.at.overflow_add-result-3 c).After-count_fields in
    let p = c.requires.parts_given in
    let t = not c.args.indexed in
    omega (arith, few-fields z, (totals z).2, p.few, p.small, bool_byte-flag t, flag-le t)

pub returns : goal.returns
returns c =
    let p = c.requires.parts_given in
    let counts = c.requires.kept_value in
    omega (
      arith,
      counted (goal.at.returns c).After-count_fields,
      counts.0,
      counts.1,
      dropped-count _ _ _ (λ i. (c.type_inv.file i).fits) p,
      set-count _ _ _ (λ i. (c.type_inv.file i).fits) p,
      lines-count _ _ _ (λ i. (c.type_inv.file i).fits) p,
      bool_byte-flag (not c.args.indexed),
      ap (λ (t : Bool). flag (not t)) c.requires.indexed_value,
    )
