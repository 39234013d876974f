-- Laws of the report's text.
--   decimal-small, decimal-large    the digits of a number below 10, and of a larger one
--   length-decimal-large, length-decimal-le    one digit more; no number has more than 20 digits
--   read_decimal a l                 the number that the digits l are, after the number a
--   decimal-read                    a number is read back from its digits
--   refused_line-parts               the line of a refusal as three pieces
--   report_text-long, report_text-refused    the text of an input that is too long, and of a refused one
--   report_text-le                   no report is longer than 160 bytes
--   report_outcome-le                what was written fits the buffer
--   report-written                  so a buffer of 160 bytes is never too short
-- Axioms: none.
use Rattle.std.proofs.Common.{Ok, Err}
use Rattle.pciv_format.specs.declared.RefusalKind.TheVariants.{BufferTooSmall}
use mathlib.Core.Path.{◌≡◌, refl, sym, ap, ◌∙◌}
use Prim.Native.Nat.{ℕ, zero, suc, ◌+◌, ◌-◌, ◌*◌, ◌/◌, ◌%◌, ◌^◌, ◌≤◌, ◌<◌}
use native.Mathlib.Nat.{pow-suc}
use native.Mathlib.Decide.{dec_lt}
use native.Mathlib.Omega.{arith}
use mathlib.Core.Bool.{cond}
use mathlib.Core.List.{List, [], ◌∷◌, ◌++◌, append_assoc}
use lib.ListN.{length, length-append}
use lib.Dec.{ltb}
use borrow.Author.Tests.{lt-ltb, le-ltb, ltb-false}
use Rattle.pciv_format.specs.Refusals.{Outcome, refuse, refuse_if, number_of}
use Rattle.pciv_format.specs.Read.{list_of, check_file}
use Rattle.pciv_format.specs.Report.{digits, decimal, field, line, refused_word, map_word, place_word}
use Rattle.pciv_format.specs.Report.{slots_word, far_word, step_word, index_word, sum_word, readings_word}
use Rattle.pciv_format.specs.Report.{map_lines, refused_line, text_of, report_text, report_outcome}
use Rattle.pciv_format.specs.declared.Summary.{Summary}
use Rattle.pciv_format.specs.declared.Refusal.{Refusal}
use Rattle.pciv_format.proofs.RefusalsLaws.{refuse_if-done}

-- ---- decimal

digits-small : (f x : ℕ) → x < 10 → digits (suc f) x ≡ (48 + x % 10) ∷ []
unfolding digits
digits-small f x small = rw (lt-ltb x 10 small)

digits-large : (f x : ℕ) → 10 ≤ x → digits (suc f) x ≡ digits f (x / 10) ++ ((48 + x % 10) ∷ [])
unfolding digits
digits-large f x large = rw (le-ltb x 10 large)

-- a number below 10 ^ (f + 1) has no digits past f + 1
digits_more : (f x : ℕ) → x < 10 ^ suc f → digits (suc (suc f)) x ≡ digits (suc f) x
unfolding digits
digits_more zero x fits = digits-small 1 x (omega arith) ∙ sym (digits-small 0 x (omega arith))
digits_more (suc f) x fits =
    ap (λ (l : List ℕ). cond (ltb x 10) [] l ++ ((48 + x % 10) ∷ []))
    (digits_more f (x / 10) (omega (arith, pow-suc 10 (suc f))))

length-digits-le : (f x : ℕ) → length (digits f x) ≤ f
unfolding digits
length-digits-le zero x = omega arith
length-digits-le (suc f) x =
    elim (dec_lt x 10) [
      | yes small ↦ rw (digits-small f x small) (omega arith)
      | no large ↦ (
          let h : 10 ≤ x = omega arith in
          rw (digits-large f x h, length-append) (omega (arith, length-digits-le f (x / 10)))
          )
    ]

pub decimal-small : (x : ℕ) → x < 10 → decimal x ≡ (48 + x % 10) ∷ []
unfolding decimal
decimal-small x small = digits-small 19 x small

pub decimal-large : (x : ℕ) → 10 ≤ x → x < 2 ^ 64 → decimal x ≡ decimal (x / 10) ++ ((48 + x % 10) ∷ [])
unfolding decimal
decimal-large x large fits =
    digits-large 19 x large
    ∙ ap (λ (l : List ℕ). l ++ ((48 + x % 10) ∷ [])) (sym (digits_more 18 (x / 10) (omega arith)))

pub length-decimal-large : (x : ℕ) → 10 ≤ x → x < 2 ^ 64 → length (decimal x) ≡ length (decimal (x / 10)) + 1
length-decimal-large x large fits = simp length-append at (ap length (decimal-large x large fits))

pub length-decimal-le : (x : ℕ) → length (decimal x) ≤ 20
unfolding decimal
length-decimal-le x = length-digits-le 20 x

-- the number that some digits are, after the number a
unfoldable pub read_decimal : ℕ → List ℕ → ℕ
read_decimal a [] = a
read_decimal a (d ∷ l) = read_decimal (10 * a + (d - 48)) l

read_decimal-last : (a : ℕ) (l : List ℕ) (d : ℕ)
    → read_decimal a (l ++ (d ∷ [])) ≡ 10 * read_decimal a l + (d - 48)
unfolding read_decimal
read_decimal-last a [] d = refl
read_decimal-last a (e ∷ l) d = read_decimal-last (10 * a + (e - 48)) l d

digits-read : (f x : ℕ) → x < 10 ^ f → read_decimal 0 (digits f x) ≡ x
unfolding digits read_decimal
digits-read zero x fits = omega arith
digits-read (suc f) x fits =
    elim (dec_lt x 10) [
      | yes small ↦ rw (digits-small f x small) (omega arith)
      | no large ↦ (
          let h : 10 ≤ x = omega arith in
          let rest = digits-read f (x / 10) (omega (arith, pow-suc 10 f)) in
          rw (digits-large f x h, read_decimal-last, rest) (omega arith)
          )
    ]

-- a number is read back from its text
pub decimal-read : (x : ℕ) → x < 2 ^ 64 → read_decimal 0 (decimal x) ≡ x
unfolding decimal
decimal-read x fits = digits-read 20 x (omega arith)

-- ---- the line of a refusal

line-append : (a b : List ℕ) → line (a ++ b) ≡ a ++ line b
unfolding line
line-append a b = append_assoc a b (10 ∷ [])

-- each space before a word as the word's first letter
pub refused_line-parts : (r : Refusal)
    → refused_line r
    ≡ field refused_word (number_of r.kind)
    ++ (field (32 ∷ map_word) r.map ++ line (field (32 ∷ place_word) r.place))
unfolding refused_line field
refused_line-parts r =
    let first = field refused_word (number_of r.kind) in
    let second = field (32 ∷ map_word) r.map in
    let third = field (32 ∷ place_word) r.place in
    line-append first (second ++ third) ∙ ap (λ (l : List ℕ). first ++ l) (line-append second third)

-- ---- the text, by cases

module _ (b : List ℕ) where
  pub report_text-long : 65536 < length b
      → report_text b ≡ refused_line (record { kind = BufferTooSmall; map = 0; place = 0 })
  unfolding report_text
  report_text-long long = rw (lt-ltb 65536 (length b) long)

  pub report_text-refused : (r : Refusal) → length b ≤ 65536 → check_file 1 b ≡ Err r
      → report_text b ≡ refused_line r
  unfolding report_text
  report_text-refused r short bad = rw (le-ltb 65536 (length b) short, bad)

-- ---- its length

field-le : (word : List ℕ) (x : ℕ) → length (field word x) ≤ length word + 21
unfolding field
field-le word x = simp length-append (omega (arith, length-decimal-le x))

line-le : (word : List ℕ) (x : ℕ) → length (line (field word x)) ≤ length word + 22
unfolding line
line-le word x = simp length-append (omega (arith, field-le word x))

map-le : (s : Summary) (sum count : ℕ) → length (map_lines s sum count) ≤ 160
unfolding map_lines
map-le s sum count =
    simp length-append
    (omega (
      arith,
      line-le slots_word s.n,
      line-le far_word s.k,
      line-le step_word s.step,
      line-le index_word s.m,
      line-le sum_word sum,
      line-le readings_word count,
    ))

refused-le : (r : Refusal) → length (refused_line r) ≤ 160
refused-le r =
    rw (refused_line-parts r)
    (simp length-append
    (omega (
      arith,
      field-le refused_word (number_of r.kind),
      field-le (32 ∷ map_word) r.map,
      line-le (32 ∷ place_word) r.place,
    )))

pub report_text-le : (b : List ℕ) → length (report_text b) ≤ 160
unfolding report_text
report_text-le b = go (refuse_if (ltb 65536 (length b)) (refuse BufferTooSmall 0 0) (check_file 1 b))
  where
    go : (o : Outcome Summary) → length (text_of o (list_of b)) ≤ 160
    go (Ok s) = map-le s _ _
    go (Err r) = refused-le r

-- ---- the buffer

-- what was written fits the buffer
pub report_outcome-le : (b : List ℕ) (capacity x : ℕ) → report_outcome b capacity ≡ Ok x → x ≤ capacity
unfolding report_outcome
report_outcome-le b capacity x e =
    let c = length (report_text b) in
    let fits = refuse_if-done (ltb capacity c) _ (Ok c) x e in
    let same : c ≡ x = cc fits.1 in
    omega (arith, ltb-false capacity c fits.0)

-- a buffer of 160 bytes is never too short
pub report-written : (b : List ℕ) (capacity : ℕ) → 160 ≤ capacity
    → report_outcome b capacity ≡ Ok (length (report_text b))
unfolding report_outcome
report-written b capacity long = rw (le-ltb capacity (length (report_text b)) (omega (arith, report_text-le b)))
