-- The nearest distance over the frames of a bundle (docs/FORMAT.md, "Bundles"): the least that is not 0, and 0 where all are 0.
--   nearer x y             of two distances
--   nearest_of xs           of a list of them
--   distances_at fs i       the distance at slot i in each of the frames fs
--   nearest_at fs i         the nearest of these
--   nearest_list fs n       that of every slot
-- Laws are in proofs/NearestLaws.antt. Axioms: none.
use Rattle.std.specs.Prelude.{ℕ, min, cond, List, [], ◌∷◌, map, ◌==◌}
use Rattle.pciv_bytes.specs.Ranges.{table}
use Rattle.pciv_format.specs.Layout.{at}
use Rattle.pciv_format.specs.Read.{list_of}

abbrev pub nearer : ℕ → ℕ → ℕ
nearer x y = cond (x == 0) y (cond (y == 0) x (min x y))

unfoldable pub nearest_of : List ℕ → ℕ
nearest_of [] = 0
nearest_of (x ∷ xs) = nearer x (nearest_of xs)

unfoldable pub distances_at : List (List ℕ) → ℕ → List ℕ
distances_at fs i = map (λ (f : List ℕ). at (list_of f) i) fs

abbrev pub nearest_at : List (List ℕ) → ℕ → ℕ
nearest_at fs i = nearest_of (distances_at fs i)

unfoldable pub nearest_list : List (List ℕ) → ℕ → List ℕ
nearest_list fs n = table (nearest_at fs) 0 n
