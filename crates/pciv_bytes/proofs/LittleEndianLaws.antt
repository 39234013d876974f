-- Laws of little-endian numbers, at any width w.
--   bytes_drop, bytes_take     a part of a list of bytes is one
--   le-bytes                   the library's bytes of a number
--   length-le                  a number as w bytes is w bytes long
--   number-le, le-number       a number that fits is read back; bytes are written back
--   number_lt, get-lt          what w bytes can tell is below 256 ^ w
--   get-past, get_in           a number behind a first part, and within one
--   get_at, get-below          a number at a place whose rest is known, and in the first n bytes of two lists
--   le-get                     the bytes of a number that was read
--   get-suc, get-zero          a number by its lowest byte; of no byte
--   get-more                   with the byte above the lowest w, put in place by a shift
-- Axioms: none.
use mathlib.Core.Path.{◌≡◌, refl, sym, ap, ap₂, ◌∙◌, subst}
use Prim.Native.Nat.{ℕ, zero, suc, ◌+◌, ◌*◌, ◌/◌, ◌%◌, ◌^◌, ◌≤◌, ◌<◌}
use native.Mathlib.Nat.{div-lt_iff_lt-mul, pow-suc, lt_of_lt_of_le, min-le_left, pow-le-pow_right, add-zero, mul_assoc, div-one, div-div-eq-div-mul}
use native.Mathlib.Omega.{arith}
use mathlib.Core.List.{List, [], ◌∷◌, ◌++◌}
use lib.ListN.{length, get_or, take, drop, length-drop, length-take, take-append-drop}
use lib.Seq.{take_at, drop_at, drop-drop, drop-append-le, take-append-le, length-take-le, get_or-drop, drop-cons}
use lib.Bits.{bit_or, or_shifted_r}
use lib.Dec.{lit<}
use lib.Pow.{pow-add, shl_exact}
use Rattle.std.specs.Int.{bytes_low_first}
use Rattle.pciv_bytes.specs.LittleEndian.{le, number, get, Bytes}

pub bytes_drop : (n : ℕ) (b : List ℕ) → Bytes b → Bytes (drop n b)
bytes_drop n b h i = rw (get_or-drop n b i 0) (h (n + i))

pub bytes_take : (n : ℕ) (b : List ℕ) → Bytes b → Bytes (take n b)
bytes_take zero b h i = lit< tt
bytes_take (suc n) [] h i = lit< tt
bytes_take (suc n) (x ∷ b) h zero = h 0
bytes_take (suc n) (x ∷ b) h (suc i) = bytes_take n b (λ j. h (suc j)) i

pub length-le : (w x : ℕ) → length (le w x) ≡ w
unfolding le
length-le zero x = refl
length-le (suc w) x = ap suc (length-le w (x / 256))

-- the library's bytes of a number, from byte i on
le-rest : (w i x : ℕ) → bytes_low_first i w x ≡ le w (x / 256 ^ i)
unfolding le
le-rest zero i x = refl
le-rest (suc w) zero x = rw (div-one x) (ap (λ (l : List ℕ). x % 256 ∷ l) (le-rest w 1 x))
le-rest (suc w) (suc i) x =
    let e : x / 256 ^ suc (suc i) ≡ x / 256 ^ suc i / 256 =
    ap (λ (n : ℕ). x / n) (pow-suc 256 (suc i)) ∙ sym (div-div-eq-div-mul x (256 ^ suc i) 256) in
    ap (λ (l : List ℕ). (x / 256 ^ suc i) % 256 ∷ l) (le-rest w (suc (suc i)) x ∙ ap (le w) e)

-- all w of them
pub le-bytes : (w x : ℕ) → bytes_low_first 0 w x ≡ le w x
le-bytes w x = le-rest w 0 x ∙ ap (le w) (div-one x)

pub number-le : (w x : ℕ) → x < 256 ^ w → number (le w x) ≡ x
unfolding le number
number-le zero x h = omega arith
number-le (suc w) x h =
    let g : x / 256 < 256 ^ w = (div-lt_iff_lt-mul (lit< tt)).1 (subst (λ (n : ℕ). x < n) (pow-suc 256 w) h) in
    rw (number-le w (x / 256) g) (omega arith)

pub le-number : (bs : List ℕ) → Bytes bs → le (length bs) (number bs) ≡ bs
unfolding le number
le-number [] h = refl
le-number (b ∷ bs) h =
    let hb : b < 256 = h 0 in
    let e₁ : (b + 256 * number bs) % 256 ≡ b = omega arith in
    let e₂ : (b + 256 * number bs) / 256 ≡ number bs = omega arith in
    ap₂ (λ (x : ℕ) (l : List ℕ). x ∷ l) e₁ (ap (le (length bs)) e₂ ∙ le-number bs (λ i. h (suc i)))

pub number_lt : (bs : List ℕ) → Bytes bs → number bs < 256 ^ length bs
unfolding number
number_lt [] h = lit< tt
number_lt (b ∷ bs) h =
    let ih : number bs < 256 ^ length bs = number_lt bs (λ i. h (suc i)) in
    let hb : b < 256 = h 0 in
    rw pow-suc (omega arith)

-- behind a first part
pub get-past : (w : ℕ) (p q : List ℕ) (a at : ℕ) → length p ≡ a → get w (p ++ q) (a + at) ≡ get w q at
unfolding get
get-past w p q a at e =
    ap (λ (l : List ℕ). number (take w l)) (sym (drop-drop at a (p ++ q)) ∙ ap (drop at) (drop_at p q a e))

-- within a first part
pub get_in : (w : ℕ) (p q : List ℕ) (at : ℕ) → at + w ≤ length p → get w (p ++ q) at ≡ get w p at
unfolding get
get_in w p q at h =
    let g : at ≤ length p = omega arith in
    let g' : w ≤ length (drop at p) = simp length-drop (omega arith) in
    ap number (ap (take w) (drop-append-le at p q g) ∙ take-append-le w (drop at p) q g')

-- at a place whose rest is known
pub get_at : (w : ℕ) (b : List ℕ) (at x : ℕ) (q : List ℕ) → drop at b ≡ le w x ++ q → x < 256 ^ w → get w b at ≡ x
unfolding get
get_at w b at x q e h =
    ap (λ (l : List ℕ). number (take w l)) e ∙ ap number (take_at (le w x) q w (length-le w x)) ∙ number-le w x h

-- the bytes of a number that was read
pub le-get : (w : ℕ) (b : List ℕ) (at : ℕ) → Bytes b → at + w ≤ length b → le w (get w b at) ≡ take w (drop at b)
unfolding get
le-get w b at hb h =
    let t : List ℕ = take w (drop at b) in
    let e : length t ≡ w = length-take-le w (drop at b) (simp length-drop (omega arith)) in
    ap (λ (k : ℕ). le k (number t)) (sym e) ∙ le-number t (bytes_take w (drop at b) (bytes_drop at b hb))

pub get-suc : (w : ℕ) (b : List ℕ) (at : ℕ) → at < length b → get (suc w) b at ≡ get_or b at 0 + 256 * get w b (suc at)
unfolding get number
get-suc w b at h = ap (λ (l : List ℕ). number (take (suc w) l)) (drop-cons b at 0 h)

pub get-lt : (w : ℕ) (b : List ℕ) (at : ℕ) → Bytes b → get w b at < 256 ^ w
unfolding get
get-lt w b at hb =
    let t : List ℕ = take w (drop at b) in
    let h : number t < 256 ^ length t = number_lt t (bytes_take w (drop at b) (bytes_drop at b hb)) in
    let m : length t ≤ w = rw length-take (min-le_left w (length (drop at b))) in
    lt_of_lt_of_le h (pow-le-pow_right (lit< tt) m)

-- what is read below n stands in the first n bytes
pub get-below : (w n at : ℕ) (b c : List ℕ) → take n b ≡ take n c → at + w ≤ n → n ≤ length b → n ≤ length c
    → get w b at ≡ get w c at
get-below w n at b c e h hb hc =
    let p : (l : List ℕ) → n ≤ length l → get w l at ≡ get w (take n l) at =
    λ l hl.
    ap (λ (z : List ℕ). get w z at) (sym (take-append-drop n l))
    ∙ get_in w (take n l) (drop n l) at (rw (length-take-le n l hl) h) in
    p b hb ∙ ap (λ (z : List ℕ). get w z at) e ∙ sym (p c hc)

-- ---- a number read byte by byte, the lowest first

pub get-zero : (b : List ℕ) (at : ℕ) → get 0 b at ≡ 0
unfolding get number
get-zero b at = refl

byte_pow : (w : ℕ) → 256 ^ w ≡ 2 ^ (8 * w)
byte_pow zero = refl
byte_pow (suc w) =
    let e : 8 * suc w ≡ 8 * w + 8 = omega arith in
    rw (pow-suc, byte_pow w, e, pow-add)

-- the byte above the lowest w
get-top : (w : ℕ) (b : List ℕ) (at : ℕ) → at + w < length b
    → get (w + 1) b at ≡ get_or b (at + w) 0 * 256 ^ w + get w b at
get-top zero b at h =
    rw (add-zero at) (omega (arith, get-suc 0 b at (omega arith), get-zero b at, get-zero b (suc at)))
get-top (suc w) b at h =
    let e : suc w + 1 ≡ suc (w + 1) = omega arith in
    let f : at + suc w ≡ suc at + w = omega arith in
    rw (e, f, pow-suc 256 w, ← mul_assoc (get_or b (suc at + w) 0) (256 ^ w) 256)
    (omega (
      arith,
      get-suc (w + 1) b at (omega arith),
      get-suc w b at (omega arith),
      get-top w b (suc at) (omega arith),
    ))

-- put in place by a shift, in a word of 64 bits
pub get-more : (w : ℕ) (b : List ℕ) (at : ℕ) → Bytes b → at + w < length b → w < 8
    → bit_or (get w b at) (get_or b (at + w) 0 * 2 ^ (8 * w) % 2 ^ 64) ≡ get (w + 1) b at
get-more w b at hb h small =
    let low : get w b at < 2 ^ (8 * w) = rw byte_pow at (get-lt w b at hb) in
    rw (
      shl_exact 8 (8 * w) 64 (hb (at + w)) (omega arith),
      or_shifted_r (get_or b (at + w) 0) (8 * w) (get w b at) low,
      get-top w b at h,
      byte_pow w,
    )
