-- The editor, and a run of edits (docs/FORMAT.md, "The editor" and "A run of edits").
--   Edit, edited x e          a slot and the distance that it gets; the list x afterwards
--   edited_file b              the file at the front of a buffer b, by the counts in its header
--   plain_outcome x R e        the plain editor's answer to edit e, from the list x and a buffer of R bytes
--   edit_outcome, edit_buffer   the editor's outcome, and the buffer afterwards
--   replaced b x y            the file of y in the place of the file of x, at the front of b
--   if_accepted o new old      the new state where o is done, the old one where it refuses
--   entry_place x s, LimitsBy    where the entry of slot s stands, or would; the bytes that may change, case by case
--   MayChange x e i           byte i of the buffer may change when x is edited by e, which is accepted
--   entries_above x s          how many slots above s are in overflow in x
--   moved_by x e               how many overflow entries edit e of x moves: those above its slot where that goes into or
--                             out of overflow, else none
--   plain_moved, edit_moved     that number for the plain editor and for the editor: 0 where they refuse
--   edit_answer o moved        the editor's answer as its type: outcome and number
--   State, plain_start, plain_step    the plain editor's list and the longest file so far, its start, and an edit
--   plain_run, plain_outcomes   the plain editor's state after a list of edits, and its answers in order
--   buffer_of z b₀             what the buffer holds in state z, where it was b₀ at the start
--   edit_run, edit_outcomes     the editor's buffer after a list of edits, and its answers in order
--   plain_moves, edit_moves     the numbers of entries that the edits of a run move, in order
--   StepLimits R x b e        what an edit of a buffer b of R bytes does to its bytes, x being the plain editor's list
--   RunLimits R z b es        the same of every edit of a run, from the plain editor's state z
--   answer_cells o moved       an answer of a run as answer_len numbers; cells_of, no_refusal, no_summary
--   all_cells                  all answers of a run
--   edits_of                   the edits of a list of slots and a list of distances
--   start_of b                 the plain editor's start on a buffer
--   edit_list_outcome, edit_list_buffer, edit_list_answers
--                             the answer of a run of edits in one call, the buffer and the list of answers afterwards
-- The plain editor is given the starting list, R and the edits, and nothing else. Axioms: none.
use Rattle.std.specs.Prelude.{Ok, Err}
use Rattle.pciv_format.specs.declared.RefusalKind.TheVariants.{SlotOutOfRange, BufferTooSmall}
use Rattle.std.specs.Prelude.{◌≡◌, ℕ, suc, ◌+◌, ◌-◌, ◌*◌, ◌≤◌, ◌<◌, max, min, Bool, true, false, not, cond, List, [], ◌∷◌, ◌++◌, ◌⊎◌, length, get_or, take, drop, set, replicate, ltb, leb, eqb}
use Rattle.std.specs.Bool.{xor}
use Rattle.pciv_bytes.specs.Ranges.{table, positions}
use Rattle.pciv_format.specs.Layout.{file_len, in_overflow, overflow_count, at, file_of, summary_of}
use Rattle.pciv_format.specs.Refusals.{Outcome, refuse, refuse_if, and_then, written, number_of}
use Rattle.pciv_format.specs.Check.{n_field, k_field, counts_buffer}
use Rattle.pciv_format.specs.Read.{list_of}
use Rattle.pciv_format.specs.declared.Summary.{Summary}
use Rattle.pciv_format.specs.declared.Refusal.{Refusal}
use Rattle.pciv_format.specs.declared.EditAnswer.{EditAnswer}

-- an edit: a slot and the distance that it gets
pub record Edit : Type 0 where
  pub slot : ℕ
  pub distance : ℕ

abbrev pub edited : List ℕ → Edit → List ℕ
edited x e = set x e.slot e.distance

-- ---- one edit

unfoldable pub plain_outcome : List ℕ → ℕ → Edit → Outcome Summary
plain_outcome x R e =
    refuse_if (leb (length x) e.slot) (refuse SlotOutOfRange 0 0)
    (refuse_if (ltb R (length (file_of (edited x e)))) (refuse BufferTooSmall 0 0) (Ok (summary_of (edited x e))))

unfoldable pub edited_file : List ℕ → List ℕ
edited_file b = take (file_len (n_field b) (k_field b)) b

unfoldable pub edit_outcome : List ℕ → Edit → Outcome Summary
edit_outcome b e = and_then (counts_buffer 1 b) (λ s. plain_outcome (list_of (edited_file b)) (length b) e)

-- the file of y in the place of the file of x: what it leaves free becomes 0, and bytes past both stay
unfoldable pub replaced : List ℕ → List ℕ → List ℕ → List ℕ
replaced b x y =
    file_of y
    ++ (replicate (length (file_of x) - length (file_of y)) 0 ++ drop (max (length (file_of x)) (length (file_of y))) b)

module _ {A B : Type 0} where
  -- the new state where an edit is accepted, the old one where it is refused; a run in one call likewise
  abbrev pub if_accepted : Outcome A → B → B → B
  if_accepted (Ok a) new old = new
  if_accepted (Err r) new old = old

unfoldable pub edit_buffer : List ℕ → Edit → List ℕ
edit_buffer b e =
    if_accepted (edit_outcome b e) (replaced b (list_of (edited_file b)) (edited (list_of (edited_file b)) e)) b

-- ---- the limits on changed bytes

-- where the entry of slot s stands, or would: after the entries of smaller slots
abbrev pub entry_place : List ℕ → ℕ → ℕ
entry_place x s = 40 + length x + 12 * overflow_count s (at x)

-- by whether the old and the new distance are in overflow: the bytes that may change
abbrev pub LimitsBy : Bool → Bool → List ℕ → ℕ → ℕ → Type 0
LimitsBy false false x s i = i ≡ 40 + s
LimitsBy true true x s i = (entry_place x s + 8 ≤ i) × (i < entry_place x s + 12)
LimitsBy true false x s i = ((16 ≤ i) × (i < 40)) ⊎ ((i ≡ 40 + s) ⊎ (entry_place x s ≤ i))
LimitsBy false true x s i = ((16 ≤ i) × (i < 40)) ⊎ ((i ≡ 40 + s) ⊎ (entry_place x s ≤ i))

-- stays inline, stays in overflow, or moves into or out of overflow
abbrev pub MayChange : List ℕ → Edit → ℕ → Type 0
MayChange x e i = LimitsBy (in_overflow (at x e.slot)) (in_overflow e.distance) x e.slot i

-- ---- the overflow entries that an edit moves

unfoldable pub entries_above : List ℕ → ℕ → ℕ
entries_above x s = length (positions (λ (i : ℕ). in_overflow (at x i)) (suc s) (length x - suc s))

-- none unless exactly one of the old and the new distance is in overflow; else the entries with larger slots
unfoldable pub moved_by : List ℕ → Edit → ℕ
moved_by x e =
    cond (xor (in_overflow (at x e.slot)) (in_overflow e.distance)) (entries_above x e.slot) 0

unfoldable pub plain_moved : List ℕ → ℕ → Edit → ℕ
plain_moved x R e = if_accepted (plain_outcome x R e) (moved_by x e) 0

unfoldable pub edit_moved : List ℕ → Edit → ℕ
edit_moved b e = if_accepted (edit_outcome b e) (moved_by (list_of (edited_file b)) e) 0

-- the editor's answer as its type
abbrev pub edit_answer : Outcome Summary → ℕ → EditAnswer
edit_answer o moved = record { outcome = o; moved = moved }

-- ---- a run of edits: each edit gets the buffer as the one before left it

unfoldable pub edit_run : List ℕ → List Edit → List ℕ
edit_run b [] = b
edit_run b (e ∷ es) = edit_run (edit_buffer b e) es

unfoldable pub edit_outcomes : List ℕ → List Edit → List (Outcome Summary)
edit_outcomes b [] = []
edit_outcomes b (e ∷ es) = edit_outcome b e ∷ edit_outcomes (edit_buffer b e) es

unfoldable pub edit_moves : List ℕ → List Edit → List ℕ
edit_moves b [] = []
edit_moves b (e ∷ es) = edit_moved b e ∷ edit_moves (edit_buffer b e) es

-- ---- the plain editor's run

-- the plain editor keeps a list, and the length of the longest file so far
pub record State : Type 0 where
  pub list : List ℕ
  pub filled : ℕ

unfoldable pub plain_start : List ℕ → State
plain_start x = record { list = x; filled = length (file_of x) }

unfoldable pub plain_step : ℕ → State → Edit → State
plain_step R z e =
    if_accepted (plain_outcome z.list R e)
    (record { list = edited z.list e; filled = max z.filled (length (file_of (edited z.list e))) }) z

unfoldable pub plain_run : ℕ → State → List Edit → State
plain_run R z [] = z
plain_run R z (e ∷ es) = plain_run R (plain_step R z e) es

unfoldable pub plain_outcomes : ℕ → State → List Edit → List (Outcome Summary)
plain_outcomes R z [] = []
plain_outcomes R z (e ∷ es) = plain_outcome z.list R e ∷ plain_outcomes R (plain_step R z e) es

unfoldable pub plain_moves : ℕ → State → List Edit → List ℕ
plain_moves R z [] = []
plain_moves R z (e ∷ es) = plain_moved z.list R e ∷ plain_moves R (plain_step R z e) es

-- x's file, zeros up to the longest file so far, then the bytes that stood there at the start
unfoldable pub buffer_of : State → List ℕ → List ℕ
buffer_of z b₀ = file_of z.list ++ (replicate (z.filled - length (file_of z.list)) 0 ++ drop z.filled b₀)

-- ---- each edit of a run

-- x is the plain editor's list; b and edit_buffer b e are the buffer just before and just after the edit, which is
-- accepted or refused as the plain editor says
pub record StepLimits (R : ℕ) (x b : List ℕ) (e : Edit) : Type 0 where
  -- the edit gets the whole buffer
  pub whole : length b ≡ R
  -- the buffer holds a file at its front, and it is x's
  pub holds_file : take (length (file_of x)) b ≡ file_of x
  -- an accepted edit sets the slot to the distance: the file at the front is then that of the edited list
  pub sets_slot : (s : Summary) → plain_outcome x R e ≡ Ok s
      → take (length (file_of (edited x e))) (edit_buffer b e) ≡ file_of (edited x e)
  -- a refused edit changes no byte
  pub on_refusal : (r : Refusal) → plain_outcome x R e ≡ Err r → edit_buffer b e ≡ b
  -- a byte that changes is one that may change
  pub changed : (i : ℕ) → (get_or (edit_buffer b e) i 0 ≡ get_or b i 0 → ⊥) → MayChange x e i
  -- where the file becomes shorter, bytes from its new length up to the old one become 0
  pub freed : (s : Summary) → plain_outcome x R e ≡ Ok s
      → (i : ℕ) → length (file_of (edited x e)) ≤ i → i < length (file_of x) → get_or (edit_buffer b e) i 0 ≡ 0
  -- bytes past both lengths stay
  pub past : (i : ℕ) → length (file_of x) ≤ i → length (file_of (edited x e)) ≤ i
      → get_or (edit_buffer b e) i 0 ≡ get_or b i 0
  -- an edit to the same distance changes nothing
  pub same : e.distance ≡ at x e.slot → edit_buffer b e ≡ b
  -- the buffer stays as long as it is
  pub length_stays : length (edit_buffer b e) ≡ length b

-- each edit's limits, with the plain editor's list and the buffer as the edits before it left them
abbrev pub RunLimits : ℕ → State → List ℕ → List Edit → Type 0
RunLimits R z b [] = Unit {0}
RunLimits R z b (e ∷ es) = StepLimits R z.list b e × RunLimits R (plain_step R z e) (edit_buffer b e) es

-- ---- a run of edits in one call

-- how many numbers an answer is
abbrev pub answer_len : ℕ
answer_len = 10

-- a refusal's number, map and place and a summary, one of which is all 0, and the number of entries moved
abbrev pub cells_of : List ℕ → Summary → ℕ → List ℕ
cells_of why s moved = why ++ (s.n ∷ s.k ∷ s.m ∷ s.step ∷ s.len ∷ s.sum ∷ moved ∷ [])

abbrev pub no_refusal : List ℕ
no_refusal = 0 ∷ 0 ∷ 0 ∷ []

abbrev pub refusal_cells : Refusal → List ℕ
refusal_cells r = number_of r.kind ∷ r.map ∷ r.place ∷ []

abbrev pub no_summary : Summary
no_summary = record { n = 0; k = 0; m = 0; step = 0; len = 0; sum = 0 }

unfoldable pub answer_cells : Outcome Summary → ℕ → List ℕ
answer_cells (Ok s) moved = cells_of no_refusal s moved
answer_cells (Err r) moved = cells_of (refusal_cells r) no_summary moved

-- the answers one after another, from the outcomes and as many numbers of entries moved
unfoldable pub all_cells : List (Outcome Summary) → List ℕ → List ℕ
all_cells [] ms = []
all_cells (o ∷ os) [] = []
all_cells (o ∷ os) (m ∷ ms) = answer_cells o m ++ all_cells os ms

-- edit j is slot j of the one list and distance j of the other
unfoldable pub edits_of : List ℕ → List ℕ → List Edit
edits_of slots distances = table (λ (j : ℕ). record { slot = at slots j; distance = at distances j }) 0 (length slots)

-- refusals 1 to 8; 9 at the least position that has no edit, where one list is longer; 12; else how many edits.
-- 9 for lists of unequal length is chosen here: the format's source has no such case
unfoldable pub edit_list_outcome : List ℕ → List ℕ → List ℕ → ℕ → Outcome ℕ
edit_list_outcome b slots distances capacity =
    and_then (counts_buffer 1 b)
    (λ s.
    refuse_if (not (eqb (length slots) (length distances))) (refuse SlotOutOfRange 0 (min (length slots) (length distances)))
    (refuse_if (ltb capacity (answer_len * length slots)) (refuse BufferTooSmall 0 0) (Ok (length slots))))

-- the plain editor's start on the file at the front of a buffer
abbrev pub start_of : List ℕ → State
start_of b = plain_start (list_of (edited_file b))

-- what the plain editor's run leaves
unfoldable pub edit_list_buffer : List ℕ → List ℕ → List ℕ → ℕ → List ℕ
edit_list_buffer b slots distances capacity =
    if_accepted (edit_list_outcome b slots distances capacity)
    (buffer_of (plain_run (length b) (start_of b) (edits_of slots distances)) b) b

-- the plain editor's answers, at the front of the caller's list
unfoldable pub edit_list_answers : List ℕ → List ℕ → List ℕ → List ℕ → List ℕ
edit_list_answers b slots distances out =
    written (edit_list_outcome b slots distances (length out))
    (all_cells (plain_outcomes (length b) (start_of b) (edits_of slots distances))
    (plain_moves (length b) (start_of b) (edits_of slots distances))) out
