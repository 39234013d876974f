-- Proves pciv_disparity::map_of_frame: the frame is too long; the buffer is too small; the parts, one after another.
use Rattle.std.proofs.Common.{rules, Fits, w32, Ok, ◌≡◌, ℕ, ◌≤◌, ◌<◌, List, length, refl, sym, ap, subst, ◌∙◌, arith}
use Rattle.std.proofs.lemmas.List.Edits.{sets}
use Rattle.pciv_bytes.specs.LittleEndian.{Bytes}
use Rattle.pciv_bytes.specs.ByteAt.{byte_at}
use Rattle.pciv_format.specs.Layout.{max_distance, primary, overflow_count, at}
use Rattle.pciv_format.specs.declared.Counts.{Counts}
use Rattle.pciv_format.proofs.RefusalsLaws.{passed_on}
use Rattle.pciv_build.specs.Build.{begin_buffer}
use Rattle.pciv_build.proofs.ChainLaws.{Opened, opened-refused, opened-entries, opened-finish, opened_map, opened-done}
use Rattle.pciv_disparity.specs.Disparity.{frame_distance, frame_outcome}
use Rattle.pciv_disparity.specs.Frames.{begun_buffer, front_outcome, front_buffer}
use Rattle.pciv_disparity.proofs.DisparityLaws.{frame-long, frame_buffer-is}
use Rattle.pciv_disparity.proofs.FrameLaws.{bytes-are, bytes_count, front-opened, front-is, counts-k}
use Rattle.pciv_disparity.proofs.FrameLaws.{begun-refused, begun-done}
use Rattle.pciv_disparity.proofs.map_of_frame.Goals as goal
use Rattle.pciv_disparity.proofs.map_of_frame.Goals.{After-put_front}

abbrev slots : After-put_front → ℕ
slots c = length c.args.frame.now

abbrev distances : After-put_front → ℕ → ℕ
distances c = frame_distance c.args.table c.args.frame.now

bytes : (c : After-put_front) → Bytes c.args.frame.now
bytes c i = (c.type_inv.frame i).fits

each : (c : After-put_front) (i : ℕ) → i < slots c → distances c i ≤ max_distance
each c i h =
    let fits : Fits w32 (at c.args.table (byte_at c.args.frame.now i)) = search rules in
    omega (arith, fits.fits)

-- what the beginning of the file has answered and left
left : (c : After-put_front) (k : ℕ) → k ≡ overflow_count (slots c) (distances c)
    → c.put_front.new.out ≡ begun_buffer (slots c) k (distances c) c.args.out.now
left c k count =
    let a = c.args in
    front-is a.table a.frame.now (bytes c) c.if-n-gt-MAX_SLOTS.false (each c) a.out.now k _ count
    (c.put_front.ensures.buffer
    ∙ ap (λ (B : List ℕ). front_buffer B a.frame.now a.out.now) c.primary_bytes-bytes.ensures)

opened : (c : After-put_front) (k : ℕ) → k ≡ overflow_count (slots c) (distances c)
    → Opened (slots c) k (distances c) (frame_outcome c.args.table c.args.frame.now (length c.args.out.now)) c.args.out.now
    c.put_front.result (begin_buffer (slots c) k c.args.out.now)
opened c k count =
    let a = c.args in
    front-opened a.table a.frame.now (bytes c) c.if-n-gt-MAX_SLOTS.false (each c) a.out.now k _ count
    (c.put_front.ensures.answer
    ∙ ap (λ (B : List ℕ). front_outcome B a.frame.now (length a.out.now)) c.primary_bytes-bytes.ensures)

-- it was done, with these counts
module _ (c : After-put_front) (s : Counts) (was : c.put_front.result ≡ Ok s) where
  count : s.k ≡ overflow_count (slots c) (distances c)
  count =
      let a = c.args in
      counts-k (slots c) _ (length a.out.now) s
      (sym (c.put_front.ensures.answer
      ∙ ap (λ (B : List ℕ). front_outcome B a.frame.now (length a.out.now)) c.primary_bytes-bytes.ensures) ∙ was)
      ∙ bytes_count a.table a.frame.now (bytes c) (slots c)

  here : Opened (slots c) s.k (distances c) (frame_outcome c.args.table c.args.frame.now (length c.args.out.now)) c.args.out.now
      c.put_front.result (begin_buffer (slots c) s.k c.args.out.now)
  here = opened c s.k count

  put : c.put_front.new.out ≡ sets (begin_buffer (slots c) s.k c.args.out.now) 40 (primary (slots c) (distances c))
  put =
      left c s.k count
      ∙ begun-done (slots c) _ (distances c) c.args.out.now s (sym here.answer ∙ was)

pub returns-then-n-gt-MAX_SLOTS : goal.returns-then-n-gt-MAX_SLOTS
returns-then-n-gt-MAX_SLOTS c =
    let a = c.args in
    let r = frame-long a.table a.frame.now a.out.now c.if-n-gt-MAX_SLOTS.true in
    record { answer = c.refuse.ensures ∙ sym r.0; buffer = sym r.1 }

pub put_front-requires-clause-bytes : goal.put_front-requires-clause-bytes
put_front-requires-clause-bytes c = subst Bytes (sym c.primary_bytes-bytes.ensures) (bytes-are _)

pub returns-in_err-counts : goal.returns-in_err-counts
returns-in_err-counts c =
    let f = (goal.at.returns-in_err-counts c).After-put_front in
    let a = c.args in
    let k : ℕ = overflow_count (slots f) (distances f) in
    let o = opened f k refl in
    let r = opened-refused o _ c.in_err-counts.was in
    record {
      answer = passed_on _ _ c.from_residual.ensures.1 ∙ r.0;
      buffer = left f k refl
          ∙ begun-refused (slots f) k (distances f) a.out.now _ (sym o.answer ∙ c.in_err-counts.was)
          ∙ r.1
          ∙ sym (frame_buffer-is a.table a.frame.now a.out.now);
    }

pub put_entries-requires : goal.put_entries-requires
put_entries-requires c =
    let f = (goal.at.put_entries-requires c).After-put_front in
    let was = c.in_ok-counts.was in
    let o = opened-entries (here f _ was) _ was _ (put f _ was) in
    record { frame_len_bound = c.if-n-gt-MAX_SLOTS.false; k_value = count f _ was; k_in_bounds = o.1; holds_primary = o.0 }

pub finish-requires : goal.finish-requires
finish-requires c =
    let f = (goal.at.finish-requires c).After-put_front in
    let was = c.in_ok-counts.was in
    opened-finish (here f _ was) _ was _ (put f _ was) _ c.put_entries.ensures

pub summary_of-requires : goal.summary_of-requires
summary_of-requires c =
    let f = (goal.at.summary_of-requires c).After-put_front in
    let was = c.in_ok-counts.was in
    opened_map (here f _ was) _ was _ (put f _ was) _ c.put_entries.ensures _ c.finish.ensures

pub returns : goal.returns
returns c =
    let f = (goal.at.returns c).After-put_front in
    let was = c.in_ok-counts.was in
    let a = c.args in
    let r = opened-done (here f _ was) _ was _ (put f _ was) _ c.put_entries.ensures _ c.finish.ensures _ c.summary_of.ensures in
    record { answer = r.0; buffer = r.1 ∙ sym (frame_buffer-is a.table a.frame.now a.out.now) }
