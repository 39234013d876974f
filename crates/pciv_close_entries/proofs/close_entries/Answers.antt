-- Proves pciv_close_entries::close_entries: what the passes have shown.
use Rattle.std.proofs.Common.{Ok, sym}
use Rattle.pciv_format.proofs.RefusalsLaws.{refuse_first-done}
use Rattle.pciv_close_entries.proofs.close_entries.Goals as goal

pub check_slots-requires : goal.check_slots-requires
check_slots-requires c = (refuse_first-done _ _ _ _ (Ok tt) tt (sym c.in_ok-check_entries.ensures.answer)).0

pub put_file-requires-clause-sound_parts : goal.put_file-requires-clause-sound_parts
put_file-requires-clause-sound_parts c = record {
  entries = (refuse_first-done _ _ _ _ (Ok tt) tt (sym c.in_ok-check_entries.ensures.answer)).0;
  slots = (refuse_first-done _ _ _ _ (Ok tt) tt (sym c.in_ok-check_slots.ensures)).0;
}
