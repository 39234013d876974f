-- Proves pciv_read::scan.
use Rattle.std.proofs.Common.{length, sym, ◌∙◌}
use Rattle.pciv_format.specs.Read.{scan_buffer}
use Rattle.pciv_format.proofs.RefusalsLaws.{passed_on}
use Rattle.pciv_format.proofs.ReadCaseLaws.{checked, scan-refused, scan-short, scan-done, scan-buffer}
use Rattle.pciv_read.proofs.scan.Goals as goal

pub returns-in_err-n : goal.returns-in_err-n
unfolding scan_buffer
returns-in_err-n c =
    let a = c.args in
    let no = scan-refused a.file.now _ (sym c.in_err-n.ensures.answer) (length a.out.now) in
    record { answer = passed_on _ _ c.from_residual.ensures.1 ∙ sym no; buffer = rw no }

pub returns-then-out-n : goal.returns-then-out-n
unfolding scan_buffer
returns-then-out-n c =
    let a = c.args in
    let short = scan-short a.file.now _ (sym c.in_ok-n.ensures.answer) (length a.out.now) c.if-out-n.true in
    record { answer = c.refuse.ensures ∙ sym short; buffer = rw short }

pub scan_into-requires : goal.scan_into-requires
scan_into-requires c =
    record { checked_map = checked _ _ (sym c.in_ok-n.ensures.answer); n_in_bounds = c.if-out-n.false }

pub returns : goal.returns
returns c =
    let a = c.args in
    let map = sym c.in_ok-n.ensures.answer in
    record {
      answer = sym (scan-done a.file.now _ map (length a.out.now) c.if-out-n.false);
      buffer = c.scan_into.ensures ∙ scan-buffer a.file.now _ map a.out.now c.if-out-n.false;
    }
