-- Laws of `joined`, a list of pieces one after another.
--   joined-cong, joined-append    the same pieces; the pieces of two lists
--   length-joined                 where every piece is c bytes long: its length,
--   joined-piece, joined_is       where the piece of an element stands, and bytes that are such pieces
-- Axioms: none.
use mathlib.Core.Path.{◌≡◌, refl, sym, ap, ap₂, ◌∙◌}
use Prim.Native.Nat.{ℕ, zero, suc, ◌+◌, ◌*◌, ◌≤◌, ◌<◌}
use native.Mathlib.Nat.{mul-suc, mul-zero}
use native.Mathlib.Omega.{arith}
use mathlib.Core.List.{List, [], ◌∷◌, ◌++◌, append_assoc}
use lib.ListN.{length, get_or, take, drop, length-append}
use lib.Seq.{drop_at, drop-drop, drop-cons, take-add}
use Rattle.pciv_bytes.specs.Ranges.{joined}

pub joined-cong : (g h : ℕ → List ℕ) (xs : List ℕ) → ((j : ℕ) → j < length xs → g (get_or xs j 0) ≡ h (get_or xs j 0))
    → joined g xs ≡ joined h xs
unfolding joined
joined-cong g h [] same = refl
joined-cong g h (x ∷ xs) same =
    ap₂ (λ (a b : List ℕ). a ++ b) (same 0 (omega arith)) (joined-cong g h xs (λ j l. same (suc j) (omega arith)))

pub joined-append : (g : ℕ → List ℕ) (xs ys : List ℕ) → joined g (xs ++ ys) ≡ joined g xs ++ joined g ys
unfolding joined
joined-append g [] ys = refl
joined-append g (x ∷ xs) ys =
    ap (λ (l : List ℕ). g x ++ l) (joined-append g xs ys) ∙ sym (append_assoc (g x) (joined g xs) (joined g ys))

module _ (g : ℕ → List ℕ) (c : ℕ) (size : (x : ℕ) → length (g x) ≡ c) where
  pub length-joined : (xs : List ℕ) → length (joined g xs) ≡ c * length xs
  unfolding joined
  length-joined [] = sym (mul-zero c)
  length-joined (x ∷ xs) = simp (length-append, size, length-joined xs, mul-suc) (omega arith)

  -- past j pieces
  drop-joined : (xs q : List ℕ) (j : ℕ) → j ≤ length xs → drop (c * j) (joined g xs ++ q) ≡ joined g (drop j xs) ++ q
  unfolding joined
  drop-joined xs q zero h = rw mul-zero refl
  drop-joined [] q (suc j) h = absurd (omega arith)
  drop-joined (x ∷ xs) q (suc j) h =
      let s : c * suc j ≡ c + c * j = mul-suc c j ∙ omega arith in
      rw (
        s,
        append_assoc (g x) (joined g xs) q,
        ← drop-drop (c * j) c (g x ++ (joined g xs ++ q)),
        drop_at (g x) (joined g xs ++ q) c (size x),
      ) (drop-joined xs q j (omega arith))

  -- the piece of element j
  pub joined-piece : (xs q : List ℕ) (j : ℕ) → j < length xs
      → drop (c * j) (joined g xs ++ q) ≡ g (get_or xs j 0) ++ (joined g (drop (suc j) xs) ++ q)
  unfolding joined
  joined-piece xs q j h =
      drop-joined xs q j (omega arith)
      ∙ ap (λ (l : List ℕ). joined g l ++ q) (drop-cons xs j 0 h)
      ∙ append_assoc (g (get_or xs j 0)) (joined g (drop (suc j) xs)) q

  -- bytes whose first pieces are those of xs
  pub joined_is : (xs l : List ℕ) → ((j : ℕ) → j < length xs → take c (drop (c * j) l) ≡ g (get_or xs j 0))
      → joined g xs ≡ take (c * length xs) l
  unfolding joined
  joined_is [] l pieces = sym (ap (λ (n : ℕ). take n l) (mul-zero c))
  joined_is (x ∷ xs) l pieces =
      let z : take c l ≡ g x = (rw mul-zero at (pieces 0 (omega arith))) in
      let n : c * suc (length xs) ≡ c + c * length xs = mul-suc c (length xs) ∙ omega arith in
      let ih : joined g xs ≡ take (c * length xs) (drop c l) =
      joined_is xs (drop c l)
      (λ j h. (let s : c + c * j ≡ c * suc j = sym (mul-suc c j ∙ omega arith) in
      rw (drop-drop (c * j) c l, s) (pieces (suc j) (omega arith)))) in
      ap₂ (λ (a b : List ℕ). a ++ b) (sym z) ih ∙ sym (ap (λ (m : ℕ). take m l) n ∙ take-add c (c * length xs) l)
