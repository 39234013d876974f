-- Proves pciv_repair_file::index::same_entries.
use Rattle.std.proofs.Common.{◌≡◌, ℕ, ◌+◌, ◌*◌, ◌≤◌, ◌<◌, Bool, ◌||◌, length, sym, ap, ap₂, ◌∙◌, arith}
use native.Mathlib.Decide.{dec_le}
use Rattle.pciv_bytes.specs.LittleEndian.{Bytes}
use Rattle.pciv_bytes.proofs.RangesLaws.{true-false}
use Rattle.pciv_format.specs.Layout.{max_slots, index_step, index_len}
use Rattle.pciv_format.specs.Check.{file_parts}
use Rattle.pciv_format.proofs.PartsLaws.{or-false, not_eqb, eqb-not}
use Rattle.pciv_repair_file.specs.Repaired.{kept_entries, bytes_after}
use Rattle.pciv_repair_file.proofs.IndexLaws.{Comparing, comparing-start, comparing-skip, comparing-pass}
use Rattle.pciv_repair_file.proofs.IndexLaws.{comparing-take, comparing-right, comparing-wrong, comparing-small}
use Rattle.pciv_repair_file.proofs.IndexLaws.{comparing-inside, comparing-end, kept_small, index-space}
use Rattle.pciv_repair_file.proofs.index.same_entries.Goals as goal
use Rattle.pciv_repair_file.proofs.index.same_entries.Goals.{After-index_len-m}
use Rattle.pciv_repair_file.proofs.index.same_entries.Goals.{then-lowest-next, else-lowest-next}
use Rattle.pciv_repair_file.proofs.index.same_entries.Goals.{then-entry-i+else-other_entry, else-entry-i}

-- how many entries are kept, and as many bytes as their index has
module _ (c : After-index_len-m) where
  abbrev count : ℕ
  count = length (kept_entries (file_parts c.args.file.now c.args.n c.args.k))

  bytes : Bytes c.args.file.now
  bytes i = (c.type_inv.file i).fits

  step_is : c.index_step-step.result ≡ index_step count
  step_is = c.index_step-step.ensures ∙ ap index_step c.requires.kept_value

  len_is : c.index_len-m.result ≡ index_len count
  len_is = c.index_len-m.ensures ∙ ap index_len c.requires.kept_value

  long : length (bytes_after c.args.file.now c.args.n c.args.k) ≡ 16 * index_len count
  long = c.requires.k_len ∙ ap (λ (x : ℕ). 16 * index_len x) c.requires.kept_value

pub index_step-step-requires : goal.index_step-step-requires
index_step-step-requires c =
    omega (arith, c.requires.kept_value, kept_small _ _ _ (λ i. (c.type_inv.file i).fits) c.requires.parts_given)

pub index_len-m-requires : goal.index_len-m-requires
index_len-m-requires c =
    omega (arith, c.requires.kept_value, kept_small _ _ _ (λ i. (c.type_inv.file i).fits) c.requires.parts_given)

pub loop-j-init : goal.loop-j-init
loop-j-init c = comparing-start _ _ _ (bytes c) c.requires.parts_given

-- index entry i is left
module _ (q : After-index_len-m) (i entry lowest j : ℕ) (e : Comparing q.args.file.now q.args.n q.args.k i entry lowest j)
    (more : i < q.index_len-m.result) where
  left : i < index_len (count q)
  left = omega (arith, len_is q)

  space : (40 + q.args.n + 12 * q.args.k + 16 * i + 16 ≤ length q.args.file.now) × (i < 2 * max_slots)
  space = index-space _ _ _ (bytes q) q.requires.parts_given (long q) i left

  small : i * index_step (count q) < max_slots
  small =
      omega (
        arith,
        comparing-small _ _ _ (bytes q) q.requires.parts_given i entry lowest j e left,
        kept_small _ _ _ (bytes q) q.requires.parts_given,
      )

pub overflow_mul-i : goal.overflow_mul-i
overflow_mul-i c =
    let q = (goal.at.overflow_mul-i c).After-index_len-m in
    rw (step_is q) (omega (arith, small q _ _ _ _ c.loop-j.invariant c.if-m-i.false))

pub overflow_mul-i-then-entry-i : goal.overflow_mul-i-then-entry-i
overflow_mul-i-then-entry-i c =
    let q = (goal.at.overflow_mul-i-then-entry-i c).After-index_len-m in
    omega (arith, (space q _ _ _ _ c.loop-j.invariant c.if-m-i.false).1)

pub other_entry-requires : goal.other_entry-requires
other_entry-requires c =
    let q = (goal.at.other_entry-requires c).After-index_len-m in
    (space q _ _ _ _ c.loop-j.invariant c.if-m-i.false).0

pub returns-then-other_entry : goal.returns-then-other_entry
returns-then-other_entry c =
    let q = (goal.at.returns-then-other_entry c).After-index_len-m in
    let inv = c.loop-j.invariant in
    sym
    (comparing-wrong _ _ _ (bytes q) c.requires.parts_given _ _ _ _ inv (left q _ _ _ _ inv c.if-m-i.false) _
    c.lowest_after-next.ensures c.if-lowest-next.true (c.if-entry-i.true ∙ ap (λ (s : ℕ). c.loop-j.i * s) (step_is q))
    (λ slot number.
    true-false
    (sym c.if-other_entry.true
    ∙ c.other_entry.ensures
    ∙ ap₂ (λ (x y : Bool). x || y) (eqb-not _ _ slot) (eqb-not _ _ number))))

pub overflow_add-i : goal.overflow_add-i
overflow_add-i c =
    let q = (goal.at.overflow_add-i c).After-index_len-m in
    omega (arith, (space q _ _ _ _ c.loop-j.invariant c.if-m-i.false).1)

pub overflow_add-entry : goal.overflow_add-entry
overflow_add-entry c =
    let q = (goal.at.overflow_add-entry c).After-index_len-m in
    omega (arith, c.loop-j.invariant.low, small q _ _ _ _ c.loop-j.invariant c.if-m-i.false)

pub loop-j-preserved : goal.loop-j-preserved
loop-j-preserved c =
    let q = (goal.at.loop-j-preserved c).After-index_len-m in
    let inv = c.loop-j.invariant in
    let given = c.requires.parts_given in
    let more = left q _ _ _ _ inv c.if-m-i.false in
    let r : ℕ = c.lowest_after-next.result in
    let is = c.lowest_after-next.ensures in
    elim c.if-lowest-next.branch [
      | then-lowest-next w ↦ elim w.if-entry-i.branch [
        | then-entry-i+else-other_entry w' ↦ (let here = w'.if-entry-i.true ∙ ap (λ (s : ℕ). c.loop-j.i * s) (step_is q) in
            let same = or-false _ _ (sym w'.other_entry.ensures ∙ w'.if-other_entry.false) in
            let right =
            comparing-right _ _ _ (bytes q) given _ _ _ _ inv more r is w.if-lowest-next.true here (not_eqb _ _ same.0)
            (not_eqb _ _ same.1) in
            rw (w.i-is, w'.i-is, w.entry-is)
            (comparing-take _ _ _ (bytes q) given _ _ _ _ inv more r is w.if-lowest-next.true here right))
        | else-entry-i w' ↦ rw (w.i-is, w'.i-is, w.entry-is)
            (comparing-pass _ _ _ (bytes q) given _ _ _ _ inv more r is w.if-lowest-next.true
            (λ e. w'.if-entry-i.false (e ∙ ap (λ (s : ℕ). c.loop-j.i * s) (sym (step_is q)))))
      ]
      | else-lowest-next w ↦ rw (w.i-is, w.entry-is)
          (comparing-skip _ _ _ (bytes q) given _ _ _ _ inv more r is w.if-lowest-next.false)
    ]

pub returns-then-m-i : goal.returns-then-m-i
returns-then-m-i c =
    let q = (goal.at.returns-then-m-i c).After-index_len-m in
    sym
    (comparing-end _ _ _ (bytes q) c.requires.parts_given _ _ _ _ c.loop-j.invariant (long q)
    (omega (arith, c.if-m-i.true, len_is q)))

pub returns-after-loop-j : goal.returns-after-loop-j
returns-after-loop-j c =
    let q = (goal.at.returns-after-loop-j c).After-index_len-m in
    let inv = c.loop-j.invariant in
    let all : index_len (count q) ≤ c.loop-j.i =
    elim (dec_le (index_len (count q)) c.loop-j.i) [
      | yes d ↦ d
      | no d ↦ absurd (omega (arith, comparing-inside _ _ _ (bytes q) c.requires.parts_given _ _ _ _ inv (omega arith)))
    ] in
    sym (comparing-end _ _ _ (bytes q) c.requires.parts_given _ _ _ _ inv (long q) all)
