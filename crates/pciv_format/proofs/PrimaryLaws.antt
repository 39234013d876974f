-- The primary array, written one byte a step.
--   PrimaryLeft            the invariant: the bytes of the slots from i on are left
--   -start, -more, -end    before the first slot, one slot on, and after the last
--   primary-byte           the byte of a slot
--   primary-is             a list with the bytes of the slots is the primary array
--   primary-at             the byte of a slot, once the array is written
use mathlib.Core.Path.{◌≡◌, refl, sym, ap, ◌∙◌}
use Prim.Native.Nat.{ℕ, ◌+◌, ◌-◌, ◌≤◌, ◌<◌}
use native.Mathlib.Nat.{zero-add}
use native.Mathlib.Omega.{arith}
use mathlib.Core.List.{List, ◌++◌, append_assoc}
use lib.ListN.{length, get_or, set, take, drop, length-set, get_or-append}
use lib.Seq.{sets, sets-eq, ext_get_or, length-take-le, get_or-append-add}
use Rattle.pciv_bytes.specs.Ranges.{table}
use Rattle.pciv_bytes.proofs.RangesLaws.{get_or-table}
use Rattle.pciv_bytes.proofs.WriteLaws.{sets-table-start, sets-table-more, sets-table-end}
use Rattle.pciv_format.specs.Layout.{primary_byte, primary}
use Rattle.pciv_format.proofs.LayoutLaws.{length-primary}

abbrev byte_of : (ℕ → ℕ) → ℕ → ℕ
byte_of v i = primary_byte (v i)

pub record PrimaryLeft (n : ℕ) (v : ℕ → ℕ) (d₀ : List ℕ) (i : ℕ) (d : List ℕ) : Type 0 where
  pub inside : i ≤ n
  pub size : length d ≡ length d₀
  pub rest : sets d₀ 40 (primary n v) ≡ sets d (40 + i) (table (λ (j : ℕ). primary_byte (v j)) i (n - i))

pub primary-start : (n : ℕ) (v : ℕ → ℕ) (d : List ℕ) → PrimaryLeft n v d 0 d
unfolding primary
primary-start n v d = record { inside = omega arith; size = refl; rest = sets-table-start (byte_of v) 40 n d }

module _ {n : ℕ} {v : ℕ → ℕ} {d₀ : List ℕ} {i : ℕ} {d : List ℕ} (e : PrimaryLeft n v d₀ i d) where
  pub primary-more : i < n → (x : ℕ) → x ≡ primary_byte (v i) → PrimaryLeft n v d₀ (i + 1) (set d (40 + i) x)
  primary-more h x is =
      record {
        inside = omega arith;
        size = rw length-set e.size;
        rest = e.rest ∙ rw is (sets-table-more (byte_of v) 40 n i d h);
      }

  pub primary-end : n ≤ i → d ≡ sets d₀ 40 (primary n v)
  primary-end h = sym (e.rest ∙ sets-table-end (byte_of v) 40 n i d h)

pub primary-byte : (n : ℕ) (v : ℕ → ℕ) (i : ℕ) → i < n → get_or (primary n v) i 0 ≡ primary_byte (v i)
unfolding primary
primary-byte n v i h = get_or-table (byte_of v) 0 0 n i h ∙ ap (byte_of v) (zero-add i)

pub primary-is : (n : ℕ) (v : ℕ → ℕ) (p : List ℕ) → length p ≡ n
    → ((i : ℕ) → i < n → primary_byte (v i) ≡ get_or p i 0) → primary n v ≡ p
primary-is n v p long same =
    ext_get_or 0 (primary n v) p (length-primary n v ∙ sym long)
    (λ i h. (let inside : i < n = rw (length-primary n v) at h in primary-byte n v i inside ∙ same i inside))

pub primary-at : (n : ℕ) (v : ℕ → ℕ) (d : List ℕ) → 40 + n ≤ length d → (i : ℕ) → i < n
    → get_or (sets d 40 (primary n v)) (40 + i) 0 ≡ primary_byte (v i)
primary-at n v d fits i h =
    let P : List ℕ = primary n v in
    let long : length P ≡ n = length-primary n v in
    let q : List ℕ = drop (40 + length P) d in
    let front : length (take 40 d) ≡ 40 = length-take-le 40 d (omega arith) in
    ap (λ (l : List ℕ). get_or l (40 + i) 0) (sets-eq P d 40 (omega arith) ∙ append_assoc (take 40 d) P q)
    ∙ ap (λ (j : ℕ). get_or (take 40 d ++ (P ++ q)) (j + i) 0) (sym front)
    ∙ get_or-append-add (take 40 d) (P ++ q) i 0
    ∙ get_or-append P q 0 i (omega arith)
    ∙ primary-byte n v i h
