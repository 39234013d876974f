-- Proves pciv_close::put_file: header, primary array, entries and index are the file (the laws of pciv_build).
use Rattle.std.proofs.Common.{◌≡◌, ◌+◌, length, refl, ◌∙◌, arith}
use Rattle.std.proofs.lemmas.List.Edits.{sets}
use Rattle.pciv_bytes.specs.LittleEndian.{Bytes}
use Rattle.pciv_format.specs.Layout.{primary, overflow_part}
use Rattle.pciv_format.specs.Parts.{Parts, value_of}
use Rattle.pciv_format.specs.Write.{close_parts}
use Rattle.pciv_format.proofs.PartsLaws.{value_of-le}
use Rattle.pciv_format.proofs.RefusalsLaws.{passed_on}
use Rattle.pciv_build.proofs.ChainLaws.{begin-few, Opened, opened-refused, opened-space, opened-entries}
use Rattle.pciv_build.proofs.ChainLaws.{opened-finish, opened_map, opened-done}
use Rattle.pciv_close.specs.Close.{parts_outcome}
use Rattle.pciv_close.proofs.CloseLaws.{lengths-same}
use Rattle.pciv_close.proofs.SoundLaws.{primary-close, overflow_part-close, overflow_count-close}
use Rattle.pciv_close.proofs.put_file.Goals as goal
use Rattle.pciv_close.proofs.put_file.Goals.{After-begin, After-put_entries, After-copy_bytes}

-- the parts, and how many slots are in overflow
abbrev parts : After-begin → Parts
parts c = let a = c.args in close_parts a.primary.now a.slots.now a.distances.now

opened : (c : After-begin)
    → Opened (parts c).n (length c.args.slots.now) (value_of (parts c)) (parts_outcome (parts c) (length c.args.out.now))
    c.args.out.now c.begin.result c.begin.new.out
opened c =
    let a = c.args in
    let sound = c.requires.sound_parts in
    let bytes : Bytes a.primary.now = λ i. omega (arith, c.type_inv.primary i) in
    record {
      few = c.requires.primary_len_bound;
      each = value_of-le (parts c) sound bytes (λ j h. omega (arith, (c.type_inv.distances j).fits));
      count = overflow_count-close a.primary.now a.slots.now a.distances.now sound bytes;
      into = refl;
      answer = c.begin.ensures.answer;
      buffer = c.begin.ensures.buffer;
    }

-- the primary array and the entries are written
copied : (c : After-copy_bytes)
    → (let a = c.args in
    c.copy_bytes.new.out
    ≡ sets c.begin.new.out 40
    (primary (length a.primary.now) (value_of (close_parts a.primary.now a.slots.now a.distances.now))))
copied c =
    let a = c.args in
    let bytes : Bytes a.primary.now = λ i. omega (arith, c.type_inv.primary i) in
    rw (primary-close a.primary.now a.slots.now a.distances.now c.requires.sound_parts bytes) c.copy_bytes.ensures

entries_put : (c : After-put_entries)
    → (let a = c.args in
    c.put_entries.new.out
    ≡ sets c.copy_bytes.new.out (40 + length a.primary.now)
    (overflow_part (length a.primary.now) (value_of (close_parts a.primary.now a.slots.now a.distances.now))))
entries_put c =
    let a = c.args in
    let bytes : Bytes a.primary.now = λ i. omega (arith, c.type_inv.primary i) in
    rw (overflow_part-close a.primary.now a.slots.now a.distances.now c.requires.sound_parts bytes) c.put_entries.ensures

pub begin-requires : goal.begin-requires
begin-requires c =
    let a = c.args in
    let p = close_parts a.primary.now a.slots.now a.distances.now in
    let bytes : Bytes a.primary.now = λ i. omega (arith, c.type_inv.primary i) in
    begin-few p.n (length a.slots.now) (value_of p) c.requires.primary_len_bound
    (overflow_count-close a.primary.now a.slots.now a.distances.now c.requires.sound_parts bytes)

pub returns-in_err-counts : goal.returns-in_err-counts
returns-in_err-counts c =
    let r = opened-refused (opened (goal.at.returns-in_err-counts c).After-begin) _ c.in_err-counts.was in
    record { answer = passed_on _ _ c.from_residual.ensures.1 ∙ r.0; buffer = r.1 }

pub copy_bytes-requires : goal.copy_bytes-requires
copy_bytes-requires c =
    omega (arith, opened-space (opened (goal.at.copy_bytes-requires c).After-begin) _ c.in_ok-counts.was)

pub put_entries-requires : goal.put_entries-requires
put_entries-requires c =
    let a = c.args in
    let z = goal.at.put_entries-requires c in (
      lengths-same a.primary.now a.slots.now a.distances.now c.requires.sound_parts.entries,
      (opened-entries (opened z.After-begin) _ c.in_ok-counts.was _ (copied z.After-copy_bytes)).1,
    )

pub finish-requires : goal.finish-requires
finish-requires c =
    let z = goal.at.finish-requires c in
    opened-finish (opened z.After-begin) _ c.in_ok-counts.was _ (copied z.After-copy_bytes) _
    (entries_put z.After-put_entries)

pub summary_of-requires : goal.summary_of-requires
summary_of-requires c =
    let z = goal.at.summary_of-requires c in
    opened_map (opened z.After-begin) _ c.in_ok-counts.was _ (copied z.After-copy_bytes) _
    (entries_put z.After-put_entries) _ c.finish.ensures

pub returns : goal.returns
returns c =
    let z = goal.at.returns c in
    let r =
    opened-done (opened z.After-begin) _ c.in_ok-counts.was _ (copied z.After-copy_bytes) _
    (entries_put z.After-put_entries) _ c.finish.ensures _ c.summary_of.ensures in
    record { answer = r.0; buffer = r.1 }
