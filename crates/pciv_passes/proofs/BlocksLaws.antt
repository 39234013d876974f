-- Laws of a sum over two lists of the same length that are taken block by block, and then what is left.
--   over h xs ys i              h of the two bytes i
--   Left h n a b i sum          the invariant: `sum`, and the sum over what is behind i blocks of n bytes, are the whole
--   block_is, rest_is           block i of the library's, and what is left behind all of them
--   left-start, -block, -end    before the first block, a block further, and with what is left behind the last
-- Axioms: none.
use mathlib.Core.Path.{◌≡◌, sym, ap, ap₂, ◌∙◌}
use Prim.Native.Nat.{ℕ, zero, suc, ◌+◌, ◌*◌, ◌/◌, ◌<◌}
use native.Mathlib.Nat.{zero-add, zero-mul}
use native.Mathlib.Omega.{arith}
use mathlib.Core.List.{List, ◌++◌}
use lib.ListN.{length, get_or, take, drop, length-append, length-take, length-drop, get_or-append, take-append-drop}
use lib.Seq.{get_or-append-add, drop-drop}
use Rattle.std.specs.Simd.{first_chunks}
use Rattle.pciv_bytes.specs.Ranges.{sum_from}
use Rattle.pciv_bytes.specs.ByteAt.{byte_at}
use Rattle.pciv_bytes.proofs.SumLaws.{sum_from-add, sum_from-cong, sum_from-shift}

abbrev pub over : (ℕ → ℕ → ℕ) → List ℕ → List ℕ → ℕ → ℕ
over h xs ys i = h (byte_at xs i) (byte_at ys i)

-- the sum over two lists in two parts
sum_from-parts : (h : ℕ → ℕ → ℕ) (x xs y ys : List ℕ) → length x ≡ length y
    → sum_from (over h (x ++ xs) (y ++ ys)) 0 (length (x ++ xs))
    ≡ sum_from (over h x y) 0 (length x) + sum_from (over h xs ys) 0 (length xs)
sum_from-parts h x xs y ys same =
    let first : sum_from (over h (x ++ xs) (y ++ ys)) 0 (length x) ≡ sum_from (over h x y) 0 (length x) =
    sum_from-cong _ _ 0 (length x)
    (λ j low high. ap₂ h (get_or-append x xs 0 j (omega arith)) (get_or-append y ys 0 j (omega arith))) in
    let second : sum_from (over h (x ++ xs) (y ++ ys)) (0 + length x) (length xs) ≡ sum_from (over h xs ys) 0 (length xs) =
    sum_from-shift _ _ (0 + length x) 0 (length xs)
    (λ j. rw (zero-add (length x), zero-add j)
    (ap₂ h (get_or-append-add x xs j 0) (rw same (get_or-append-add y ys j 0)))) in
    rw length-append (sum_from-add _ (length x) 0 (length xs) ∙ ap₂ (λ (a b : ℕ). a + b) first second)

-- block i
block-at : (n k : ℕ) (xs : List ℕ) (i : ℕ) (d : List ℕ) → i < k → get_or (first_chunks n k xs) i d ≡ take n (drop (i * n) xs)
block-at n zero xs i d h = absurd (omega arith)
block-at n (suc k) xs zero d h = rw zero-mul
block-at n (suc k) xs (suc i) d h =
    let e : n + i * n ≡ suc i * n = omega arith in
    block-at n k (drop n xs) i d (omega arith) ∙ ap (take n) (drop-drop (i * n) n xs ∙ ap (λ (m : ℕ). drop m xs) e)

-- the same of the library's blocks
pub block_is : (n : ℕ) (xs : List ℕ) (blocks : List (List ℕ)) (i : ℕ) (d : List ℕ)
    → blocks ≡ first_chunks n (length xs / n) xs → i < length xs / n → get_or blocks i d ≡ take n (drop (i * n) xs)
block_is n xs blocks i d is h = rw is (block-at n (length xs / n) xs i d h)

-- what is left behind all blocks
pub rest_is : (n : ℕ) (xs rest : List ℕ) (i : ℕ) → rest ≡ drop (length xs / n * n) xs → i ≡ length xs / n
    → rest ≡ drop (i * n) xs
rest_is n xs rest i is all = rw (is, all)

pub record Left (h : ℕ → ℕ → ℕ) (n : ℕ) (a b : List ℕ) (i sum : ℕ) : Type 0 where
  pub same : length a ≡ length b
  pub rest : sum + sum_from (over h (drop (i * n) a) (drop (i * n) b)) 0 (length (drop (i * n) a))
      ≡ sum_from (over h a b) 0 (length a)

pub left-start : (h : ℕ → ℕ → ℕ) (n : ℕ) (a b : List ℕ) → length a ≡ length b → Left h n a b 0 0
left-start h n a b same = record { same = same; rest = rw (zero-mul, zero-add) }

module _ {h : ℕ → ℕ → ℕ} {n : ℕ} {a b : List ℕ} {i sum : ℕ} (l : Left h n a b i sum) where
  pub left-block : (x y : List ℕ) (s : ℕ) → x ≡ take n (drop (i * n) a) → y ≡ take n (drop (i * n) b)
      → s ≡ sum_from (over h x y) 0 (length x) → Left h n a b (i + 1) (sum + s)
  left-block x y s e f is =
      let m : i * n + n ≡ (i + 1) * n = omega arith in
      let cut : (xs : List ℕ) → drop (i * n) xs ≡ take n (drop (i * n) xs) ++ drop ((i + 1) * n) xs =
      λ xs. sym (take-append-drop n (drop (i * n) xs))
      ∙ ap (λ (t : List ℕ). take n (drop (i * n) xs) ++ t) (drop-drop n (i * n) xs ∙ ap (λ (k : ℕ). drop k xs) m) in
      let size : length x ≡ length y = rw (e, f) (simp (length-take, length-drop, l.same)) in
      let parts : sum_from (over h (drop (i * n) a) (drop (i * n) b)) 0 (length (drop (i * n) a))
      ≡ sum_from (over h x y) 0 (length x)
      + sum_from (over h (drop ((i + 1) * n) a) (drop ((i + 1) * n) b)) 0 (length (drop ((i + 1) * n) a)) =
      ap₂ (λ (xs ys : List ℕ). sum_from (over h xs ys) 0 (length xs))
      (cut a ∙ ap (λ (t : List ℕ). t ++ drop ((i + 1) * n) a) (sym e))
      (cut b ∙ ap (λ (t : List ℕ). t ++ drop ((i + 1) * n) b) (sym f))
      ∙ sum_from-parts h x (drop ((i + 1) * n) a) y (drop ((i + 1) * n) b) size in
      record { same = l.same; rest = omega (arith, l.rest, parts, is) }

  pub left-end : (x y : List ℕ) (s : ℕ) → x ≡ drop (i * n) a → y ≡ drop (i * n) b
      → s ≡ sum_from (over h x y) 0 (length x) → sum + s ≡ sum_from (over h a b) 0 (length a)
  left-end x y s e f is = rw (is, e, f) l.rest
