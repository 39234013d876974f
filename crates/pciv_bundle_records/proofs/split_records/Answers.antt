-- Proves pciv_bundle_records::split_records: the laws of the walk, from record to record.
use Rattle.std.proofs.Common.{◌≡◌, ◌<◌, ◌≤◌, length, false, refl, sym, ap, ◌∙◌, arith, ltb, ℕ, ◌+◌}
use borrow.Author.Tests.{ltb-false}
use Rattle.pciv_bytes.specs.LittleEndian.{get}
use Rattle.pciv_format.proofs.PartsLaws.{or-false}
use Rattle.pciv_bundle_records.specs.Records.{behind_record, frame_count, bad_header, wrong_record}
use Rattle.pciv_bundle_records.proofs.RecordsLaws.{record_at-low, records-header, Later, wrong-right}
use Rattle.pciv_bundle_records.proofs.SplitLaws.{splitting-start, splitting-header, splitting-refused}
use Rattle.pciv_bundle_records.proofs.SplitLaws.{splitting-other, splitting-frame, splitting-missing, splitting-done, splitting-placed}
use Rattle.pciv_bundle_records.proofs.split_records.Goals as goal
use Rattle.pciv_bundle_records.proofs.split_records.Goals.{Else-bad_header, Else-wrong_record, Then-get16-eq-FRAME_KIND, then-get16-eq-FRAME_KIND, else-get16-eq-FRAME_KIND}

-- record 0 is not at fault
header : (c : Else-bad_header) → (12 ≤ length c.args.bundle.now) × (bad_header c.args.bundle.now ≡ false)
header c =
    let b = c.args.bundle.now in
    let e = or-false (ltb (length b) 12) (bad_header b) (sym c.bad_header.ensures ∙ c.if-bad_header.false) in
    (ltb-false _ _ e.0, e.1)

-- the next record is not
right : (c : Else-wrong_record)
    → wrong_record c.args.bundle.now c.loop-at.at c.loop-at.found (frame_count c.args.bundle.now) ≡ false
right c = rw (← c.get16-count.ensures) (sym c.wrong_record.ensures ∙ c.if-wrong_record.false)

says : (c : Else-wrong_record) → Later c.args.bundle.now c.loop-at.at c.loop-at.found (frame_count c.args.bundle.now)
says c = wrong-right _ _ _ _ (right c)

-- where it is a frame, it has a place
few : (c : Else-wrong_record) → get 2 c.args.bundle.now (c.loop-at.at + 4) ≡ 1 → c.loop-at.found < 8
few c kind = omega (arith, (says c).room kind, (splitting-header c.loop-at.invariant).few)

few_here : (c : Then-get16-eq-FRAME_KIND) → c.loop-at.found < 8
few_here c = few (goal.at.bounds-places-found c).Else-wrong_record (sym c.get16.ensures ∙ c.if-get16-eq-FRAME_KIND.true)

pub returns-then-bad_header : goal.returns-then-bad_header
returns-then-bad_header c = rw c.refuse.ensures (records-header _ (sym c.bad_header.ensures ∙ c.if-bad_header.true))

pub loop-at-init : goal.loop-at-init
loop-at-init c =
    let h = header (goal.at.loop-at-init c).Else-bad_header in splitting-start c.args.bundle.now _ refl h.0 h.1

pub returns-then-wrong_record : goal.returns-then-wrong_record
returns-then-wrong_record c =
    rw c.refuse-then-wrong_record.ensures
    (splitting-refused c.loop-at.invariant c.loop-at-test.true
    (rw (← c.get16-count.ensures) (sym c.wrong_record.ensures ∙ c.if-wrong_record.true)))

pub get32-requires : goal.get32-requires
get32-requires c = omega (arith, (says c).inside)

pub get16-requires : goal.get16-requires
get16-requires c = let s = says (goal.at.get16-requires c).Else-wrong_record in omega (arith, s.inside, s.long)

pub offset_bounds-places-found : goal.offset_bounds-places-found
offset_bounds-places-found c = omega (arith, few_here c)

pub bounds-places-found : goal.bounds-places-found
bounds-places-found c = few_here c

pub overflow_add-found : goal.overflow_add-found
overflow_add-found c = omega (arith, few_here c)

pub overflow_add-number : goal.overflow_add-number
overflow_add-number c =
    omega (arith, record_at-low c.args.bundle.now c.loop-at.number, c.loop-at.invariant.here, c.loop-at.invariant.inside)

pub loop-at-preserved : goal.loop-at-preserved
loop-at-preserved c =
    let e = (goal.at.loop-at-preserved c).Else-wrong_record in
    let b = c.args.bundle.now in
    let l = c.loop-at in
    let next : l.at + 4 + c.get32.result ≡ behind_record b l.at = ap (λ (x : ℕ). l.at + 4 + x) c.get32.ensures in
    elim c.if-get16-eq-FRAME_KIND.branch [
      | then-get16-eq-FRAME_KIND w ↦ (let kind = sym c.get16.ensures ∙ w.if-get16-eq-FRAME_KIND.true in
          rw (w.places-is, w.found-is) (splitting-frame l.invariant (right e) _ next (few e kind) kind))
      | else-get16-eq-FRAME_KIND w ↦
          rw (w.places-is, w.found-is)
          (splitting-other l.invariant (right e) _ next (λ kind. w.if-get16-eq-FRAME_KIND.false (c.get16.ensures ∙ kind)))
    ]

pub returns-then-found-count : goal.returns-then-found-count
returns-then-found-count c =
    rw c.refuse-then-found-count.ensures
    (splitting-missing c.loop-at.invariant (omega arith) (omega (arith, c.get16-count.ensures)))

pub returns : goal.returns
returns c =
    rw (c.get32-slots.ensures, c.get16-count.ensures)
    (splitting-done c.loop-at.invariant (omega arith) (omega (arith, c.get16-count.ensures)), splitting-placed c.loop-at.invariant (omega arith))
