-- Proves pciv_bundle_records::bad_header: each test of record 0 is one of its definition.
use Rattle.std.proofs.Common.{arith}
use Rattle.std.proofs.lemmas.Bool.Decides.{nat_tests}
use Rattle.pciv_bundle_records.specs.Records.{bad_header, record_kind, record_len, record_at}
use Rattle.pciv_bundle_records.proofs.bad_header.Goals as goal

pub returns-then-count-lt1 : goal.returns-then-count-lt1
unfolding bad_header record_kind record_len record_at
returns-then-count-lt1 c = grind (arith, nat_tests)

pub returns-else-count-lt1 : goal.returns-else-count-lt1
unfolding bad_header record_kind record_len record_at
returns-else-count-lt1 c = grind (arith, nat_tests)
