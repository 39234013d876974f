-- How a buffer changes in place where a slot moves into or out of overflow (docs/FORMAT.md, "The editor").
--   entry_at n j                      where entry j of a file with n slots starts
--   new_count k distance              how many entries there are afterwards, of k before
--   above_count k j distance          how many of k entries have a larger slot than the edited one, where j have a smaller
--   put_in d n k j slot distance      d with the slot's byte 255, and its entry put in before entry j of k
--   taken_out d n k j slot distance   d with the distance as the slot's byte, and entry j of k taken out
--   changed                          the one or the other, by the distance
--   finished d n k count             d with the index of its `count` entries, and zeros where it was longer with k
--   SummedMap b n k sum              b is a checked map, and sum that of its distances
--   EditAt b n k slot                b is a checked map, and slot one of its slots
--   Changes                          what the change asks for, of a buffer of len bytes
-- Laws are in proofs/ChangeLaws.antt. Axioms: none.
use Rattle.std.specs.Prelude.{◌≡◌, ℕ, ◌+◌, ◌-◌, ◌*◌, ◌≤◌, ◌<◌, cond, List, ◌++◌, take, drop, set, replicate, ltb}
use Rattle.std.proofs.lemmas.List.Edits.{sets}
use Rattle.pciv_bytes.specs.LittleEndian.{le}
use Rattle.pciv_format.specs.Layout.{file_len}
use Rattle.pciv_format.specs.Check.{CheckedMap}
use Rattle.pciv_format.specs.Read.{list_of, total}
use Rattle.pciv_format.specs.Edit.{edited_file}
use Rattle.pciv_build.specs.Build.{index_from}

abbrev pub entry_at : ℕ → ℕ → ℕ
entry_at n j = 40 + n + 12 * j

abbrev pub new_count : ℕ → ℕ → ℕ
new_count k distance = cond (ltb distance 255) (k - 1) (k + 1)

abbrev pub above_count : ℕ → ℕ → ℕ → ℕ
above_count k j distance = cond (ltb distance 255) (k - j - 1) (k - j)

-- with the primary byte set already
abbrev pub entry_in : List ℕ → ℕ → ℕ → ℕ → ℕ → ℕ → List ℕ
entry_in d n k j slot distance =
    sets d (entry_at n j) ((le 8 slot ++ le 4 distance) ++ take (entry_at n k - entry_at n j) (drop (entry_at n j) d))

abbrev pub entry_out : List ℕ → ℕ → ℕ → ℕ → List ℕ
entry_out d n k j = sets d (entry_at n j) (take (entry_at n (k - 1) - entry_at n j) (drop (entry_at n j + 12) d))

unfoldable pub put_in : List ℕ → ℕ → ℕ → ℕ → ℕ → ℕ → List ℕ
put_in d n k j slot distance = entry_in (set d (40 + slot) 255) n k j slot distance

unfoldable pub taken_out : List ℕ → ℕ → ℕ → ℕ → ℕ → ℕ → List ℕ
taken_out d n k j slot distance = entry_out (set d (40 + slot) distance) n k j

unfoldable pub changed : List ℕ → ℕ → ℕ → ℕ → ℕ → ℕ → List ℕ
changed d n k j slot distance = cond (ltb distance 255) (taken_out d n k j slot distance) (put_in d n k j slot distance)

unfoldable pub finished : List ℕ → ℕ → ℕ → ℕ → List ℕ
finished d n k count =
    sets (sets d (entry_at n count) (index_from d n count)) (file_len n count)
    (replicate (file_len n k - file_len n count) 0)

pub record SummedMap (b : List ℕ) (n k sum : ℕ) : Type 0 where
  pub checked : CheckedMap b n k
  pub sum_is : sum ≡ total (list_of (edited_file b))

pub record EditAt (b : List ℕ) (n k slot : ℕ) : Type 0 where
  pub checked : CheckedMap b n k
  pub inside : slot < n

pub record Changes (len n k j slot distance : ℕ) : Type 0 where
  pub inside : slot < n
  pub leaves : distance < 255 → (j < k) × (entry_at n k ≤ len)
  pub enters : 255 ≤ distance → (j ≤ k) × (entry_at n (k + 1) ≤ len)
