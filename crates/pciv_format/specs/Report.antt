-- The report program's text (docs/FORMAT.md, "The report program").
--   decimal x       the digits of x; digits f x, at most f of them
--   field word x, line text    a word, a space and a number; a text and its line end
--   slots_word, far_word, step_word, index_word, sum_word, readings_word, refused_word, map_word, place_word
--                   the words
--   map_lines s total count, refused_line r    the lines of a map, and the line of a refusal
--   text_of o xs     the text of an outcome o for the list xs
--   report_text b    what is printed for the input b
--   report_outcome, report_buffer    that text into a caller's buffer
-- Laws are in proofs/ReportLaws.antt. Axioms: none.
use Rattle.std.specs.Prelude.{Ok, Err}
use Rattle.pciv_format.specs.declared.RefusalKind.TheVariants.{BufferTooSmall}
use Rattle.std.specs.Prelude.{ℕ, zero, suc, ◌+◌, ◌/◌, ◌%◌, cond, List, [], ◌∷◌, ◌++◌, length, ltb}
use Rattle.pciv_format.specs.Refusals.{Outcome, refuse, refuse_if, written, number_of}
use Rattle.pciv_format.specs.Read.{list_of, total, readings, check_file, items_into}
use Rattle.pciv_format.specs.declared.Summary.{Summary}
use Rattle.pciv_format.specs.declared.Refusal.{Refusal}

-- the digits of x, the highest first, if there are at most f of them
unfoldable pub digits : ℕ → ℕ → List ℕ
digits zero x = []
digits (suc f) x = cond (ltb x 10) [] (digits f (x / 10)) ++ ((48 + x % 10) ∷ [])

-- no number of a report has more than 20 digits
unfoldable pub decimal : ℕ → List ℕ
decimal x = digits 20 x

-- a word, a space and a number
unfoldable pub field : List ℕ → ℕ → List ℕ
field word x = word ++ (32 ∷ decimal x)

unfoldable pub line : List ℕ → List ℕ
line text = text ++ (10 ∷ [])

-- the words, in ASCII

abbrev pub slots_word : List ℕ
slots_word = 115 ∷ 108 ∷ 111 ∷ 116 ∷ 115 ∷ []

abbrev pub far_word : List ℕ
far_word = 102 ∷ 97 ∷ 114 ∷ []

abbrev pub step_word : List ℕ
step_word = 115 ∷ 116 ∷ 101 ∷ 112 ∷ []

abbrev pub index_word : List ℕ
index_word = 105 ∷ 110 ∷ 100 ∷ 101 ∷ 120 ∷ []

abbrev pub sum_word : List ℕ
sum_word = 115 ∷ 117 ∷ 109 ∷ []

abbrev pub readings_word : List ℕ
readings_word = 114 ∷ 101 ∷ 97 ∷ 100 ∷ 105 ∷ 110 ∷ 103 ∷ 115 ∷ []

abbrev pub refused_word : List ℕ
refused_word = 114 ∷ 101 ∷ 102 ∷ 117 ∷ 115 ∷ 101 ∷ 100 ∷ []

abbrev pub map_word : List ℕ
map_word = 109 ∷ 97 ∷ 112 ∷ []

abbrev pub place_word : List ℕ
place_word = 112 ∷ 108 ∷ 97 ∷ 99 ∷ 101 ∷ []

-- the report of a map with the summary s, its sum and the number of readings: six lines
unfoldable pub map_lines : Summary → ℕ → ℕ → List ℕ
map_lines s sum count =
    line (field slots_word s.n)
    ++ (line (field far_word s.k)
    ++ (line (field step_word s.step)
    ++ (line (field index_word s.m) ++ (line (field sum_word sum) ++ line (field readings_word count)))))

-- `refused 6 map 1 place 3`
unfoldable pub refused_line : Refusal → List ℕ
refused_line r =
    line (field refused_word (number_of r.kind) ++ (32 ∷ (field map_word r.map ++ (32 ∷ field place_word r.place))))

-- what is printed after the check of a file whose list is xs
abbrev pub text_of : Outcome Summary → List ℕ → List ℕ
text_of (Ok s) xs = map_lines s (total xs) (readings xs)
text_of (Err r) xs = refused_line r

-- input of more than 65,536 bytes is refused before any other test
unfoldable pub report_text : List ℕ → List ℕ
report_text b = text_of (refuse_if (ltb 65536 (length b)) (refuse BufferTooSmall 0 0) (check_file 1 b)) (list_of b)

unfoldable pub report_outcome : List ℕ → ℕ → Outcome ℕ
report_outcome b capacity = items_into (length (report_text b)) capacity

unfoldable pub report_buffer : List ℕ → List ℕ → List ℕ
report_buffer b out = written (report_outcome b (length out)) (report_text b) out
