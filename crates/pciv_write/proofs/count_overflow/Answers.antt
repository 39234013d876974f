-- Proves pciv_write::count_overflow.
use Rattle.std.proofs.Common.{rules, ◌≡◌, ℕ, map, ◌∙◌}
use Rattle.std.specs.List.{sum}
use Rattle.pciv_bytes.specs.Ranges.{flag}
use Rattle.pciv_format.specs.Layout.{in_overflow}
use Rattle.pciv_write.proofs.WriteOutcomeLaws.{count-is}
use Rattle.pciv_write.proofs.count_overflow.Goals as goal

pub returns : goal.returns
returns c =
    let added : c.sum.result ≡ sum (map (λ (x : ℕ). flag (in_overflow x)) c.args.distances.now) = search rules in
    added ∙ count-is c.args.distances.now
