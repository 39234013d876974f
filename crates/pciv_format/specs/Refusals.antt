-- Outcomes: what a routine answers, as a Result whose error is a refusal (docs/FORMAT.md, "Refusals").
--   Outcome A                    an A, or a refusal
--   refuse kind map place        a refusal
--   refuse_if test refusal o      the refusal where the test holds, else o
--   refuse_first kind map bad count o
--                                refused at the least place below count that is bad, else o
--   and_then o f                  f of what o has; a refusal stays
--   written o f d                a buffer or list d after the outcome o of writing f: f and then what stood behind
--                                it, or d unchanged after a refusal
--   verdict_of o                  whether o is a refusal, and which
--   number_of kind               the refusal's number
-- Laws are in proofs/RefusalsLaws.antt. Axioms: none.
use Rattle.std.specs.Prelude.{ℕ, Bool, true, false, List, ◌++◌, Result, Ok, Err, length, drop, ltb}
use Rattle.pciv_bytes.specs.Ranges.{first_below}
use Rattle.pciv_format.specs.declared.Refusal.{Refusal}
use Rattle.pciv_format.specs.declared.RefusalKind.{RefusalKind}
use Rattle.pciv_format.specs.declared.RefusalKind.TheVariants.{TruncatedHeader, BadMagic, TooManySlots, BadCounts, BadLength, BadOverflowEntry}
use Rattle.pciv_format.specs.declared.RefusalKind.TheVariants.{MissingOverflowEntry, BadIndexEntry, SlotOutOfRange, SizeMismatch}
use Rattle.pciv_format.specs.declared.RefusalKind.TheVariants.{DistanceOverflow, BufferTooSmall, BadMask, BadBundle, ZeroConstant}

abbrev pub Outcome : Type 0 → Type 0
Outcome A = Result A Refusal

module _ {A : Type 0} where
  abbrev pub refuse : RefusalKind → ℕ → ℕ → Outcome A
  refuse kind mp place = Err (record { kind = kind; map = mp; place = place })

  abbrev pub refuse_if : Bool → Outcome A → Outcome A → Outcome A
  refuse_if true refusal o = refusal
  refuse_if false refusal o = o

  abbrev pub refuse_first : RefusalKind → ℕ → (ℕ → Bool) → ℕ → Outcome A → Outcome A
  refuse_first kind mp bad count o =
      refuse_if (ltb (first_below bad count) count) (refuse kind mp (first_below bad count)) o

  abbrev pub verdict_of : Outcome A → Outcome Unit
  verdict_of (Ok a) = Ok tt
  verdict_of (Err r) = Err r

module _ {A B : Type 0} where
  abbrev pub and_then : Outcome A → (A → Outcome B) → Outcome B
  and_then (Ok a) f = f a
  and_then (Err r) f = Err r

  abbrev pub written : Outcome A → List B → List B → List B
  written (Ok a) f d = f ++ drop (length f) d
  written (Err r) f d = d

abbrev pub number_of : RefusalKind → ℕ
number_of TruncatedHeader = 1
number_of BadMagic = 2
number_of TooManySlots = 3
number_of BadCounts = 4
number_of BadLength = 5
number_of BadOverflowEntry = 6
number_of MissingOverflowEntry = 7
number_of BadIndexEntry = 8
number_of SlotOutOfRange = 9
number_of SizeMismatch = 10
number_of DistanceOverflow = 11
number_of BufferTooSmall = 12
number_of BadMask = 13
number_of BadBundle = 14
number_of ZeroConstant = 19
