-- Proves pciv_mask_increment::count_word.
use Rattle.std.proofs.Common.{ℕ, ◌+◌, ◌-◌, Bool, sym, ap, ◌∙◌, get_or, arith}
use lib.Dec.{eqb}
use Rattle.pciv_bytes.specs.ByteAt.{byte_is}
use Rattle.pciv_bytes.specs.Ranges.{flag}
use Rattle.pciv_bytes.proofs.AnyLaws.{any_from-none}
use Rattle.pciv_mask_increment.proofs.PickedLaws.{picked-zero}
use Rattle.pciv_mask_increment.proofs.count_word.Goals as goal

pub returns-then-not-any_byte : goal.returns-then-not-any_byte
returns-then-not-any_byte c =
    let a = c.args in
    let is254 : ℕ → Bool = λ i. eqb (get_or a.bytes.now i 0) 254 in
    let none = sym c.any_byte.ensures ∙ c.if-not-any_byte.true in
    sym
    (picked-zero (byte_is a.bytes.now 254) 64 a.from a.word
    (λ j h₁ h₂. ap flag (any_from-none is254 (a.from + 64 - a.from) a.from none j h₁ (omega arith))))
