use Rattle.std.proofs.Common.{rules, tests, ◌≡◌, ◌-◌, eqb, ℕ, Bool, take, drop}
use Rattle.std.proofs.lemmas.Iterator.{YieldsList-from_slice}
use Rattle.std.proofs.lemmas.Iterator.Search.{position_from_yields_List}
use Rattle.std.specs.List.{position}
use Rattle.pciv_bytes.proofs.RangesLaws.{first_from-position}
use Rattle.pciv_bytes.proofs.find.find_byte.Goals as goal

pub returns : goal.returns
returns c =
    let is : ℕ → Bool = λ (y : ℕ). eqb y c.args.x in
    let found : c.position.result ≡ position is (take (c.args.to - c.args.from) (drop c.args.from c.args.a.now)) =
    position_from_yields_List is _ _ c.position.result c.position.ensures.ran
    (YieldsList-from_slice _ c.iter.ensures.rest) (λ x b q k. search (rules, tests)) in
    rw c.unwrap_or.ensures
    (first_from-position is c.args.a.now c.args.from c.args.to c.position.result c.requires.0 c.requires.1 found)
