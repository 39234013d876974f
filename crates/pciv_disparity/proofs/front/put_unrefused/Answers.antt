-- Proves pciv_disparity::front::put_unrefused: primary array, then the bytes 255 counted, then the header, for which there
-- is space whatever their number.
use Rattle.std.proofs.Common.{◌≡◌, ℕ, ◌≤◌, length, ap, ap₂, ◌∙◌, arith}
use Rattle.std.proofs.Math.Seq.{length-sets}
use Rattle.pciv_format.specs.Layout.{primary, overflow_count, file_len}
use Rattle.pciv_format.proofs.LayoutLaws.{file_len-most}
use Rattle.pciv_build.specs.Build.{begin_outcome}
use Rattle.pciv_build.proofs.ChainLaws.{begin-few}
use Rattle.pciv_disparity.specs.Disparity.{frame_distance}
use Rattle.pciv_disparity.specs.Frames.{begun_buffer}
use Rattle.pciv_disparity.proofs.FrameLaws.{begun-after}
use Rattle.pciv_disparity.proofs.CountLaws.{written_count}
use Rattle.pciv_disparity.proofs.front.put_unrefused.Goals as goal
use Rattle.pciv_disparity.proofs.front.put_unrefused.Goals.{After-count_byte-k}

abbrev distances : After-count_byte-k → ℕ → ℕ
distances c = frame_distance c.args.bytes.now c.args.frame.now

-- as many bytes of the primary array are 255 as slots are in overflow
count : (c : After-count_byte-k) → c.count_byte-k.result ≡ overflow_count (length c.args.frame.now) (distances c)
count c =
    c.count_byte-k.ensures
    ∙ written_count (length c.args.frame.now) (distances c) c.args.out.now _ (omega (arith, c.requires.frame_in_bounds))
    c.put_primary.ensures

pub begin-requires : goal.begin-requires
begin-requires c = begin-few _ _ _ c.requires.frame_len_bound (count (goal.at.begin-requires c).After-count_byte-k)

pub returns : goal.returns
returns c =
    let z = (goal.at.returns c).After-count_byte-k in
    let n : ℕ = length c.args.frame.now in
    let d = c.args.out.now in
    let fits : file_len n c.count_byte-k.result ≤ length d =
    omega (
      arith,
      c.requires.frame_in_bounds,
      file_len-most n c.count_byte-k.result (begin-few n _ (distances z) c.requires.frame_len_bound (count z)).1,
    ) in
    let size : length c.put_primary.new.out ≡ length d =
    ap length c.put_primary.ensures ∙ length-sets d 40 (primary n (distances z)) in
    record {
      answer = c.begin.ensures.answer ∙ ap₂ (λ (k c : ℕ). begin_outcome n k c) (count z) size;
      buffer = begun-after n _ (distances z) d fits c.put_primary.new.out _ c.put_primary.ensures c.begin.ensures.buffer
          ∙ ap (λ (k : ℕ). begun_buffer n k (distances z) d) (count z);
    }
