-- Laws of `positions`: what each element is, and when a rising list is the list of positions.
--   Position p i c x           x is one of the c numbers from i on, and has p
--   Among l s                  s is an element of l
--   positions-count, -at       how many they are at most, and what each one is
--   positions-rise, -all       they rise, and every number with p is among them
--   positions-cong, -none      of properties that agree; of one that no number has
--   positions-append, -around    a range in two, and around a number
--   rises                      a function that rises step by step rises from any place to any later one
--   Rising p f i c a t         t values of f from a on are the numbers with p, rising
--   positions-are              such values are the positions
-- Axioms: none.
use mathlib.Core.Path.{◌≡◌, refl, sym, ap, ap₂, ◌∙◌}
use Prim.Native.Nat.{ℕ, zero, suc, ◌+◌, ◌-◌, ◌≤◌, ◌<◌}
use native.Mathlib.Nat.{add-zero, zero-add, add-suc, le_refl}
use native.Mathlib.Omega.{arith}
use native.Mathlib.Decide.{dec_le}
use mathlib.Core.Bool.{Bool, true, false}
use mathlib.Core.List.{List, [], ◌∷◌, ◌++◌}
use lib.ListN.{length, get_or}
use Rattle.pciv_bytes.specs.Ranges.{table, keep_if, positions}
use Rattle.pciv_bytes.proofs.RangesLaws.{true-false}

-- x is one of the c numbers from i on, and has p
pub record Position (p : ℕ → Bool) (i c x : ℕ) : Type 0 where
  pub low : i ≤ x
  pub high : x < i + c
  pub has : p x ≡ true

later : (p : ℕ → Bool) (i c x : ℕ) → Position p (suc i) c x → Position p i (suc c) x
later p i c x q = record { low = omega (arith, q.low); high = omega (arith, q.high); has = q.has }

-- s is an element of l
abbrev pub Among : List ℕ → ℕ → Type 0
Among l s = (j : ℕ) × (j < length l) × (get_or l j 0 ≡ s)

module _ (p : ℕ → Bool) where
  pub positions-count : (i c : ℕ) → length (positions p i c) ≤ c
  unfolding positions
  positions-count i zero = le_refl 0
  positions-count i (suc c) = go (p i) (positions-count (suc i) c)
    where
      go : (b : Bool) → length (positions p (suc i) c) ≤ c → length (keep_if b i (positions p (suc i) c)) ≤ suc c
      go true h = omega arith
      go false h = omega arith

  pub positions-at : (i c j : ℕ) → j < length (positions p i c) → Position p i c (get_or (positions p i c) j 0)
  unfolding positions
  positions-at i zero j h = absurd (omega arith)
  positions-at i (suc c) j h = go (p i) refl j h (positions-at (suc i) c)
    where
      rest : List ℕ
      rest = positions p (suc i) c

      go : (b : Bool) → p i ≡ b → (j : ℕ) → j < length (keep_if b i (positions p (suc i) c))
          → ((j : ℕ) → j < length (positions p (suc i) c) → Position p (suc i) c (get_or (positions p (suc i) c) j 0))
          → Position p i (suc c) (get_or (keep_if b i (positions p (suc i) c)) j 0)
      go true e zero h ih = record { low = le_refl i; high = omega arith; has = e }
      go true e (suc j) h ih = later p i c _ (ih j (omega arith))
      go false e j h ih = later p i c _ (ih j h)

  pub positions-rise : (i c j : ℕ) → suc j < length (positions p i c)
      → get_or (positions p i c) j 0 < get_or (positions p i c) (suc j) 0
  unfolding positions
  positions-rise i zero j h = absurd (omega arith)
  positions-rise i (suc c) j h = go (p i) j h (positions-rise (suc i) c)
    where
      go : (b : Bool) (j : ℕ) → suc j < length (keep_if b i (positions p (suc i) c))
          → ((j : ℕ) → suc j < length (positions p (suc i) c)
          → get_or (positions p (suc i) c) j 0 < get_or (positions p (suc i) c) (suc j) 0)
          → get_or (keep_if b i (positions p (suc i) c)) j 0 < get_or (keep_if b i (positions p (suc i) c)) (suc j) 0
      go true zero h ih = (positions-at (suc i) c 0 (omega arith)).low
      go true (suc j) h ih = ih j (omega arith)
      go false j h ih = ih j h

  -- every number with p is among them
  pub positions-all : (i c s : ℕ) → i ≤ s → s < i + c → p s ≡ true → Among (positions p i c) s
  unfolding positions
  positions-all i zero s low high has = absurd (omega arith)
  positions-all i (suc c) s low high has = go (p i) refl (positions-all (suc i) c s)
    where
      go : (b : Bool) → p i ≡ b
          → (suc i ≤ s → s < suc i + c → p s ≡ true → Among (positions p (suc i) c) s)
          → Among (keep_if b i (positions p (suc i) c)) s
      go true e ih =
          elim (dec_le s i) [
            | yes d ↦ (0, omega arith, omega arith)
            | no d ↦ (let r = ih (omega arith) (omega arith) has in (suc r.0, omega (arith, r.1), r.2))
          ]
      go false e ih =
          elim (dec_le s i) [
            | yes d ↦ (let q : s ≡ i = omega arith in absurd (true-false (sym has ∙ ap p q ∙ e)))
            | no d ↦ ih (omega arith) (omega arith) has
          ]

pub positions-cong : (p q : ℕ → Bool) (i c : ℕ) → ((j : ℕ) → i ≤ j → j < i + c → p j ≡ q j)
    → positions p i c ≡ positions q i c
unfolding positions
positions-cong p q i zero same = refl
positions-cong p q i (suc c) same =
    ap₂ (λ (b : Bool) (l : List ℕ). keep_if b i l) (same i (le_refl i) (omega arith))
    (positions-cong p q (suc i) c (λ j h₁ h₂. same j (omega arith) (omega arith)))

-- none has p
pub positions-none : (p : ℕ → Bool) (i c : ℕ) → ((j : ℕ) → i ≤ j → j < i + c → p j ≡ false) → positions p i c ≡ []
unfolding positions
positions-none p i zero none = refl
positions-none p i (suc c) none =
    rw (none i (le_refl i) (omega arith))
    (positions-none p (suc i) c (λ j h₁ h₂. none j (omega arith) (omega arith)))

-- a range in two
pub positions-append : (p : ℕ → Bool) (i c d : ℕ) → positions p i (c + d) ≡ positions p i c ++ positions p (i + c) d
unfolding positions
positions-append p i zero d = rw (zero-add, add-zero)
positions-append p i (suc c) d =
    let e : suc c + d ≡ suc (c + d) = omega arith in
    let e' : i + suc c ≡ suc i + c = omega arith in
    rw (e, e', positions-append p (suc i) c d) (go (p i))
  where
    go : (b : Bool) → keep_if b i (positions p (suc i) c ++ positions p (suc i + c) d)
        ≡ keep_if b i (positions p (suc i) c) ++ positions p (suc i + c) d
    go true = refl
    go false = refl

-- what stands before s, s itself if it has p, and what follows
pub positions-around : (p : ℕ → Bool) (n s : ℕ) → s < n
    → positions p 0 n ≡ positions p 0 s ++ keep_if (p s) s (positions p (suc s) (n - suc s))
unfolding positions
positions-around p n s h =
    let e : n ≡ s + suc (n - suc s) = omega arith in
    ap (positions p 0) e
    ∙ positions-append p 0 s (suc (n - suc s))
    ∙ ap (λ (j : ℕ). positions p 0 s ++ positions p j (suc (n - suc s))) (zero-add s)

-- a function that rises step by step rises from any place to any later one
pub rises : (f : ℕ → ℕ) (k : ℕ) → ((j : ℕ) → suc j < k → f j < f (suc j)) → (j t : ℕ) → j < t → t < k → f j < f t
rises f k step j t h₁ h₂ =
    let e : suc (j + (t - suc j)) ≡ t = omega arith in
    let r : f j < f (suc (j + (t - suc j))) = go (t - suc j) (omega arith) in
    omega (arith, ap f e)
  where
    go : (d : ℕ) → suc (j + d) < k → f j < f (suc (j + d))
    go zero h = rw add-zero (step j (omega arith))
    go (suc d) h = rw add-suc (omega (arith, go d (omega arith), step (suc (j + d)) (omega arith)))

-- ---- a rising list of just the numbers with p is the list of positions

-- f a, f (a + 1), .., t of them, are the numbers with p among the c from i on, rising
pub record Rising (p : ℕ → Bool) (f : ℕ → ℕ) (i c a t : ℕ) : Type 0 where
  pub each : (j : ℕ) → a ≤ j → j < a + t → Position p i c (f j)
  pub rise : (j l : ℕ) → a ≤ j → j < l → l < a + t → f j < f l
  pub every : (s : ℕ) → i ≤ s → s < i + c → p s ≡ true → (j : ℕ) × (a ≤ j) × (j < a + t) × (f j ≡ s)

module _ (p : ℕ → Bool) (f : ℕ → ℕ) where
  -- past a number without p
  skip : (i c a t : ℕ) → p i ≡ false → Rising p f i (suc c) a t → Rising p f (suc i) c a t
  skip i c a t e r =
      record {
        each = λ j h₁ h₂. (let q = r.each j h₁ h₂ in
            record {
              low = elim (dec_le (f j) i) [
                | yes d ↦ (let z : f j ≡ i = omega (arith, q.low) in absurd (true-false (sym q.has ∙ ap p z ∙ e)))
                | no d ↦ omega arith
              ];
              high = omega (arith, q.high);
              has = q.has;
            });
        rise = r.rise;
        every = λ s h₁ h₂ q. r.every s (omega arith) (omega arith) q;
      }

  -- the first is at i, where i has p
  here : (i c a t : ℕ) → p i ≡ true → Rising p f i (suc c) a (suc t) → f a ≡ i
  here i c a t e r =
      let q = r.every i (le_refl i) (omega arith) e in
      elim (dec_le q.0 a) [
        | yes d ↦ (let z : q.0 ≡ a = omega (arith, q.1) in ap f (sym z) ∙ q.3)
        | no d ↦
            (let rise = r.rise a q.0 (le_refl a) (omega arith) q.2 in
            absurd (omega (arith, rise, (r.each a (le_refl a) (omega arith)).low, q.3)))
      ]

  past : (i c a t : ℕ) → f a ≡ i → Rising p f i (suc c) a (suc t) → Rising p f (suc i) c (suc a) t
  past i c a t e r =
      record {
        each = λ j h₁ h₂. (let q = r.each j (omega arith) (omega arith) in
            record {
              low = omega (arith, r.rise a j (le_refl a) (omega arith) (omega arith));
              high = omega (arith, q.high);
              has = q.has;
            });
        rise = λ j l h₁ h₂ h₃. r.rise j l (omega arith) h₂ (omega arith);
        every = λ s h₁ h₂ q.
            (let t' = r.every s (omega arith) (omega arith) q in (
              t'.0,
              elim (dec_le t'.0 a) [
                | yes d ↦ (let z : t'.0 ≡ a = omega (arith, t'.1) in absurd (omega (arith, t'.3, ap f z)))
                | no d ↦ omega arith
              ],
              omega (arith, t'.2),
              t'.3,
            ));
      }

  pub positions-are : (c i a t : ℕ) → Rising p f i c a t → positions p i c ≡ table f a t
  unfolding positions table
  positions-are zero i a zero r = refl
  positions-are zero i a (suc t) r =
      (let q = r.each a (le_refl a) (omega arith) in absurd (omega (arith, q.low, q.high)))
  positions-are (suc c) i a zero r = go (p i) refl (positions-are c (suc i))
    where
      go : (b : Bool) → p i ≡ b → ((a t : ℕ) → Rising p f (suc i) c a t → positions p (suc i) c ≡ table f a t)
          → keep_if b i (positions p (suc i) c) ≡ []
      go true e ih = (let q = r.every i (le_refl i) (omega arith) e in absurd (omega (arith, q.1, q.2)))
      go false e ih = ih a zero (skip i c a zero e r)
  positions-are (suc c) i a (suc t) r = go (p i) refl (positions-are c (suc i))
    where
      go : (b : Bool) → p i ≡ b → ((a t : ℕ) → Rising p f (suc i) c a t → positions p (suc i) c ≡ table f a t)
          → keep_if b i (positions p (suc i) c) ≡ f a ∷ table f (suc a) t
      go true e ih =
          ap₂ (λ (x : ℕ) (l : List ℕ). x ∷ l) (sym (here i c a t e r))
          (ih (suc a) t (past i c a t (here i c a t e r) r))
      go false e ih = ih a (suc t) (skip i c a (suc t) e r)
