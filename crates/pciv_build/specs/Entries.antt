-- The overflow entries of a map, written in the order of their slots (docs/FORMAT.md, "Writing").
--   slots_from n v i      the slots in overflow from i on
--   entries_from n v i    their entries
--   EntriesLeft          the entries of the slots from i on are left: the invariant of a walk that writes them all
-- Laws are in proofs/EntriesLaws.antt. Axioms: none.
use Rattle.std.specs.Prelude.{◌≡◌, ℕ, ◌+◌, ◌-◌, ◌*◌, ◌≤◌, List, length}
use Rattle.std.proofs.lemmas.List.Edits.{sets}
use Rattle.pciv_bytes.specs.Ranges.{positions, joined}
use Rattle.pciv_format.specs.Layout.{in_overflow, overflow_entry}

unfoldable pub slots_from : ℕ → (ℕ → ℕ) → ℕ → List ℕ
slots_from n v i = positions (λ (j : ℕ). in_overflow (v j)) i (n - i)

unfoldable pub entries_from : ℕ → (ℕ → ℕ) → ℕ → List ℕ
entries_from n v i = joined (overflow_entry v) (slots_from n v i)

-- the first entry was to stand at place p₀ of d₀, and that of the first slot from i on is to stand at place p of d:
-- what was left to write there is what is left to write here
pub record EntriesLeft (n : ℕ) (v : ℕ → ℕ) (d₀ : List ℕ) (p₀ i : ℕ) (d : List ℕ) (p : ℕ) : Type 0 where
  pub inside : i ≤ n
  pub size : length d ≡ length d₀
  pub low : p₀ ≤ p
  pub count : p + 12 * length (slots_from n v i) ≡ p₀ + 12 * length (slots_from n v 0)
  pub space : p + 12 * length (slots_from n v i) ≤ length d
  pub rest : sets d₀ p₀ (entries_from n v 0) ≡ sets d p (entries_from n v i)
