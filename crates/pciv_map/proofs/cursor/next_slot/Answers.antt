-- Proves pciv_map::cursor::next_slot.
use Rattle.pciv_format.proofs.MapLaws.{entry-inside}
use Rattle.pciv_map.proofs.cursor.next_slot.Goals as goal

pub entry_slot-requires : goal.entry_slot-requires
entry_slot-requires c = entry-inside c.args.file.now c.args.n c.args.k c.requires c.args.j c.if-j-k.true
