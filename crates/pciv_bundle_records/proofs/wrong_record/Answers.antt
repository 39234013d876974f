-- Proves pciv_bundle_records::wrong_record: each test of a later record is one of its definition, and one without room for
-- length and kind is cut short.
use Rattle.std.proofs.Common.{arith}
use Rattle.std.proofs.lemmas.Bool.Decides.{nat_tests}
use Rattle.pciv_bundle_records.specs.Records.{wrong_record}
use Rattle.pciv_bundle_records.proofs.wrong_record.Goals as goal

pub returns-then-left-lt-PREFIX_LEN : goal.returns-then-left-lt-PREFIX_LEN
unfolding wrong_record
returns-then-left-lt-PREFIX_LEN c = grind (arith, nat_tests)

pub returns-then-left-len : goal.returns-then-left-len
unfolding wrong_record
returns-then-left-len c = grind (arith, nat_tests)

pub returns-then-kind-eq-FRAME_KIND : goal.returns-then-kind-eq-FRAME_KIND
unfolding wrong_record
returns-then-kind-eq-FRAME_KIND c = grind (arith, nat_tests)

pub returns-else-kind-eq-FRAME_KIND : goal.returns-else-kind-eq-FRAME_KIND
unfolding wrong_record
returns-else-kind-eq-FRAME_KIND c = grind (arith, nat_tests)
