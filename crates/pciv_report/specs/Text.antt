-- What the inner routines ensure.
--   Put d p text e q    text written over d from place p on gives e, and the place after it is q
--   max_text             no report is longer
--   deliver_outcome, deliver_buffer    a text to the front of a caller's buffer
-- Laws are in proofs/TextLaws.antt. Axioms: none.
use Rattle.std.specs.Prelude.{ℕ, ◌+◌, ◌≡◌, List, length}
use Rattle.std.proofs.lemmas.List.Edits.{sets}
use Rattle.pciv_format.specs.Refusals.{Outcome, written}
use Rattle.pciv_format.specs.Read.{items_into}

pub record Put (d : List ℕ) (p : ℕ) (text : List ℕ) (e : List ℕ) (q : ℕ) : Type 0 where
  pub bytes : e ≡ sets d p text
  pub next : q ≡ p + length text

abbrev pub max_text : ℕ
max_text = 160

abbrev pub deliver_outcome : List ℕ → ℕ → Outcome ℕ
deliver_outcome text capacity = items_into (length text) capacity

abbrev pub deliver_buffer : List ℕ → List ℕ → List ℕ
deliver_buffer text out = written (deliver_outcome text (length out)) text out
