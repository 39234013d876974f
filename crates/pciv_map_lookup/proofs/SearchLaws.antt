-- Laws of a search among numbers that do not fall, and of the blocks that a sample of them divides them into.
--   Between f s c lo hi          the lower bound of s among the c first numbers of f lies from lo to hi
--   between-same                 by equal bounds
--   flag-ltb                     a test that is computed without a branch
--   between_start, between-halve, between-end    a search by halves begins, goes on and ends
--   lower_bound-is, lower_bound-le    the lower bound, from what lies below and above; it is at most c
--   between-part                 a search in the part from lo to hi finds the lower bound
--   key-inside                   a key of a table is inside of its bytes
--   block_end-inner, block_end-last    the end of a block that is not the last, and of the last
--   Sample, sample-sorted        every `step`th number, which do not fall either
--   block-between                the block that a sparse index names is such a part
-- Axioms: none.
use mathlib.Core.Path.{◌≡◌, sym, ap, ◌∙◌}
use mathlib.Core.Bool.{Bool, true, false}
use mathlib.Core.List.{List}
use Prim.Native.Nat.{ℕ, suc, ◌+◌, ◌-◌, ◌*◌, ◌/◌, ◌^◌, ◌≤◌, ◌<◌}
use native.Mathlib.Nat.{le_refl, zero-mul, mul-zero, mul-one, mul-suc, mul-le-mul_left, mul-le-mul_right}
use native.Mathlib.Omega.{arith}
use native.Mathlib.Decide.{dec_le}
use lib.ListN.{length}
use lib.Dec.{ltb, leb}
use borrow.Author.Tests.{le-leb, lt-leb, leb-true, leb-false, lt-ltb, le-ltb}
use Rattle.pciv_bytes.specs.Ranges.{flag, first_below}
use Rattle.pciv_bytes.proofs.RangesLaws.{first_below-none, first_below-at, first_below-le, first_below-clear}
use Rattle.pciv_bytes.proofs.RangesLaws.{first_below-has}
use Rattle.pciv_map_lookup.specs.Lookup.{lower_bound, block_start, block_end, Sorted, KeyTable}

pub record Between (f : ℕ → ℕ) (s c lo hi : ℕ) : Type 0 where
  pub ordered : lo ≤ hi
  pub within : hi ≤ c
  pub below : (j : ℕ) → j < lo → f j < s
  pub above : (j : ℕ) → hi ≤ j → j < c → s ≤ f j

pub between-same : {f : ℕ → ℕ} {s c lo hi lo' hi' : ℕ} → lo' ≡ lo → hi' ≡ hi → Between f s c lo hi
    → Between f s c lo' hi'
between-same e₁ e₂ w = rw (e₁, e₂) w

-- ---- a test without a branch

pub flag-ltb : (x y : ℕ) → x < 2 ^ 63 → y < 2 ^ 63
    → (y + 0x7fff_ffff_ffff_ffff - x) / 0x8000_0000_0000_0000 ≡ flag (ltb x y)
flag-ltb x y h₁ h₂ =
    elim (dec_le y x) [
      | yes d ↦ rw (le-ltb x y d) (omega arith)
      | no d ↦ (let less : x < y = omega arith in rw (lt-ltb x y less) (omega arith))
    ]

-- ---- a search by halves

pub between_start : (f : ℕ → ℕ) (s c : ℕ) → Between f s c 0 (0 + c)
between_start f s c =
    record {
      ordered = omega arith;
      within = omega arith;
      below = λ j h. absurd (omega arith);
      above = λ j h₁ h₂. absurd (omega arith);
    }

-- where nothing is left between
pub between-end : (f : ℕ → ℕ) (s c lo hi : ℕ) → Between f s c lo hi → hi ≤ lo → lo ≡ lower_bound f s c
unfolding lower_bound
between-end f s c lo hi w done =
    let p : ℕ → Bool = λ j. leb s (f j) in
    let none : (j : ℕ) → j < lo → p j ≡ false = λ j h. lt-leb s (f j) (w.below j h) in
    elim (dec_le c lo) [
      | yes d ↦ (let q : lo ≡ c = omega (arith, w.ordered, w.within) in
          q ∙ sym (first_below-none p c (λ j h. none j (omega arith))))
      | no d ↦ (let has : p lo ≡ true = le-leb s (f lo) (w.above lo done (omega arith)) in
          sym (first_below-at p c lo (omega arith) none has))
    ]

module _ (f : ℕ → ℕ) (s c : ℕ) (sorted : Sorted f c) where
  between-up : (lo hi mid : ℕ) → Between f s c lo hi → mid < hi → f mid < s → Between f s c (mid + 1) hi
  between-up lo hi mid w h less =
      record {
        ordered = omega arith;
        within = w.within;
        below = λ j hj. omega (arith, sorted j mid (omega arith) (omega (arith, w.within)));
        above = w.above;
      }

  between-down : (lo hi mid hi' : ℕ) → Between f s c lo hi → lo ≤ hi' → hi' ≤ hi → mid ≤ hi' → s ≤ f mid
      → Between f s c lo hi'
  between-down lo hi mid hi' w h₁ h₂ h₃ more =
      record {
        ordered = h₁;
        within = omega (arith, w.within);
        below = w.below;
        above = λ j hj hc. omega (arith, sorted mid j (omega arith) hc);
      }

  -- len numbers are left: x, the last of the first half, tells which half stays
  pub between-halve : (lo len x less : ℕ) → x ≡ f (lo + (len - len / 2) - 1) → less ≡ flag (ltb x s) → 0 < len
      → Between f s c lo (lo + len)
      → (let lo' = lo + (len - len / 2) * less in Between f s c lo' (lo' + len / 2))
  between-halve lo len x less x_is less_is some w =
      let rest : ℕ = len - len / 2 in
      let mid : ℕ = lo + rest - 1 in
      elim (dec_le s x) [
        | yes d ↦ (let e : less ≡ 0 = rw (le-ltb x s d) at less_is in
            let z : rest * less ≡ 0 = rw e (mul-zero rest) in
            let h : mid ≤ lo + len / 2 = omega arith in
            between-same (omega arith) (omega arith)
            (between-down lo (lo + len) mid (lo + len / 2) w (omega arith) (omega arith) h (omega arith)))
        | no d ↦ (let below : x < s = omega arith in
            let e : less ≡ 1 = rw (lt-ltb x s below) at less_is in
            let z : rest * less ≡ rest = rw e (mul-one rest) in
            between-same (omega arith) (omega arith)
            (between-up lo (lo + len) mid w (omega arith) (omega arith)))
      ]

-- ---- the lower bound

-- what is smaller stands before r, and what is not from r on
pub lower_bound-is : (f : ℕ → ℕ) (s c r : ℕ) → r ≤ c → ((j : ℕ) → j < r → f j < s)
    → ((j : ℕ) → r ≤ j → j < c → s ≤ f j) → lower_bound f s c ≡ r
lower_bound-is f s c r h below above =
    let w : Between f s c r r = record { ordered = le_refl r; within = h; below = below; above = above } in
    sym (between-end f s c r r w (le_refl r))

pub lower_bound-le : (f : ℕ → ℕ) (s c : ℕ) → lower_bound f s c ≤ c
unfolding lower_bound
lower_bound-le f s c = first_below-le (λ (j : ℕ). leb s (f j)) c

lower_bound-below : (f : ℕ → ℕ) (s c j : ℕ) → j < lower_bound f s c → f j < s
unfolding lower_bound
lower_bound-below f s c j h = leb-false s (f j) (first_below-clear (λ (j : ℕ). leb s (f j)) c j h)

lower_bound-at : (f : ℕ → ℕ) (s c : ℕ) → lower_bound f s c < c → s ≤ f (lower_bound f s c)
unfolding lower_bound
lower_bound-at f s c h =
    let p : ℕ → Bool = λ j. leb s (f j) in
    leb-true s (f (first_below p c)) (first_below-has p c h)

-- g is the part of f from lo to hi: a lower bound there is one in the whole
module _ (f : ℕ → ℕ) (s c : ℕ) (sorted : Sorted f c) (lo hi : ℕ) (w : Between f s c lo hi) where
  pub between-part : (g : ℕ → ℕ) → ((j : ℕ) → j < hi - lo → g j ≡ f (lo + j))
      → lo + lower_bound g s (hi - lo) ≡ lower_bound f s c
  between-part g same =
      let r : ℕ = lower_bound g s (hi - lo) in
      let le : r ≤ hi - lo = lower_bound-le g s (hi - lo) in
      sym
      (lower_bound-is f s c (lo + r) (omega (arith, w.ordered, w.within))
      (λ j h.
      elim (dec_le lo j) [
        | yes d ↦ (let t : ℕ = j - lo in
            let e : lo + t ≡ j = omega arith in
            omega (arith, ap f e, same t (omega arith), lower_bound-below g s (hi - lo) t (omega arith)))
        | no d ↦ w.below j (omega arith)
      ])
      (λ j h hc.
      elim (dec_le hi j) [
        | yes d ↦ w.above j d hc
        | no d ↦ (let inside : r < hi - lo = omega arith in
            omega (arith, same r inside, lower_bound-at g s (hi - lo) inside, sorted (lo + r) j h hc))
      ]))

-- ---- a table

-- the key of record j lies inside
pub key-inside : (b : List ℕ) (base stride count j : ℕ) → KeyTable b base stride count → j < count
    → base + stride * j + 8 ≤ length b
key-inside b base stride count j t h =
    let more : stride * suc j ≤ stride * count = mul-le-mul_left stride h in
    omega (arith, t.apart, t.inside, mul-suc stride j)

-- ---- the blocks of a sparse index

pub block_end-inner : (i m step k : ℕ) → i < m → block_end i m step k ≡ i * step
block_end-inner i m step k h = rw (lt-ltb i m h)

pub block_end-last : (i m step k : ℕ) → m ≤ i → block_end i m step k ≡ k
block_end-last i m step k h = rw (le-ltb i m h)

-- the m numbers of g are every step-th of the k numbers of f, which do not fall
pub record Sample (f : ℕ → ℕ) (k : ℕ) (g : ℕ → ℕ) (m step : ℕ) : Type 0 where
  pub sorted : Sorted f k
  pub same : (i : ℕ) → i < m → g i ≡ f (i * step)
  pub inside : (i : ℕ) → i < m → i * step < k

module _ (f : ℕ → ℕ) (k : ℕ) (g : ℕ → ℕ) (m step : ℕ) (x : Sample f k g m step) where
  pub sample-sorted : Sorted g m
  sample-sorted i j h hm =
      let rise = x.sorted (i * step) (j * step) (mul-le-mul_right step h) (x.inside j hm) in
      omega (arith, x.same i (omega arith), x.same j hm)

  module _ (s i : ℕ) (is : i ≡ lower_bound g s m) where
    -- the block starts at 0, or at a number below s
    start-cases : {B : Type 0} → (block_start i step ≡ 0 → B)
        → (block_start i step < k → f (block_start i step) < s → B) → B
    start-cases first later =
        let t : ℕ = i - 1 in
        elim (dec_le i 0) [
          | yes d ↦ (let z : t ≡ 0 = omega arith in first (rw z (zero-mul step)))
          | no d ↦ (let inner : t < m = omega (arith, lower_bound-le g s m) in
              let less = lower_bound-below g s m t (omega arith) in
              later (x.inside t inner) (omega (arith, x.same t inner)))
        ]

    pub block-between : Between f s k (block_start i step) (block_end i m step k)
    block-between =
        elim (dec_le m i) [
          | yes d ↦ rw (block_end-last i m step k d)
              (record {
                ordered = start-cases (λ e. omega arith) (λ h less. omega arith);
                within = le_refl k;
                below = start-below;
                above = λ j h hk. absurd (omega arith);
              })
          | no d ↦ (let inner : i < m = omega arith in
              rw (block_end-inner i m step k inner)
              (record {
                ordered = mul-le-mul_right step (omega arith);
                within = omega (arith, x.inside i inner);
                below = start-below;
                above = λ j h hk.
                    (let at = lower_bound-at g s m (omega arith) in
                    omega (arith, x.same i inner, ap g is, x.sorted (i * step) j h hk));
              }))
        ]
      where
        start-below : (j : ℕ) → j < block_start i step → f j < s
        start-below j h =
            start-cases (λ e. absurd (omega arith))
            (λ hk less. omega (arith, x.sorted j (block_start i step) (omega arith) hk))
