-- What a call tells, where its routine's answer is not told as it is.
--   told-located    asks for the file's k only where the lookup is done
--   told-row        a row's zeros after a refusal are not told
--   told-table      a table is told after a refusal too
-- Axioms: none.
use Rattle.std.proofs.Common.{Ok, Err, ◌≡◌, ℕ, List, refl, ap, ◌∙◌, arith}
use native.Mathlib.Decide.{dec_le}
use Rattle.pciv_format.specs.Refusals.{Outcome}
use Rattle.pciv_format.specs.declared.Located.{Located}
use Rattle.pciv_bundle.specs.Bundle.{row_answer}
use Rattle.pciv_bundle.specs.declared.RowAnswer.{RowAnswer}
use Rattle.pciv_disparity.specs.Disparity.{disparity_table, table_outcome, table_answer}
use Rattle.pciv_disparity.specs.declared.TableAnswer.{TableAnswer}
use Rattle.pciv_disparity.proofs.DisparityLaws.{table-refused, table_filled}
use Rattle.pciv_c_cells.specs.Cells.{ToldNumber, ToldLocated, ToldTable, told_row, told_table, code_of, refusal_cells}

row-outcome : (a : RowAnswer) (o : Outcome (List ℕ)) → a ≡ row_answer o → told_row a.verdict a.distances ≡ o
row-outcome a o e = ap (λ (a : RowAnswer). told_row a.verdict a.distances) e ∙ back o
  where
    back : (o : Outcome (List ℕ)) → told_row (row_answer o).verdict (row_answer o).distances ≡ o
    back (Ok row) = refl
    back (Err r) = refl

table-outcome : (F : ℕ) (a : TableAnswer) → a ≡ table_answer F → told_table a ≡ table_outcome F
table-outcome F a e =
    ap told_table e
    ∙ elim (dec_le F 0) [
      | yes d ↦ rw (table-refused F (omega arith)).0
      | no d ↦ rw (table_filled F (omega arith)).0
    ]

module _ {code : ℕ} {why : List ℕ} where
  pub told-located : {k k' : ℕ} (o : Outcome Located) {old_x new_x old_j new_j : ℕ}
      → ((x : Located) → o ≡ Ok x → k ≡ k') → ToldLocated k o code old_x new_x old_j new_j why
      → ToldLocated k' o code old_x new_x old_j new_j why
  told-located (Ok x) same told = rw (same x refl) at told
  told-located (Err r) same told =
      record {
        code_is = told.code_is;
        distance_is = told.distance_is;
        origin_is = told.origin_is;
        why_is = told.why_is;
      }

  pub told-row : {a : RowAnswer} {o : Outcome (List ℕ)} {old new : List ℕ} → a ≡ row_answer o
      → ToldNumber (told_row a.verdict a.distances) code old new why → ToldNumber o code old new why
  told-row {a} {o} e told = rw (row-outcome a o e) at told

  pub told-table : (F : ℕ) {a : TableAnswer} {new : List ℕ} → a ≡ table_answer F
      → ToldTable (told_table a) a.table code new why
      → ToldTable (table_outcome F) (disparity_table F) code new why
  told-table F {a} e told =
      let o = table-outcome F a e in
      record {
        code_is = told.code_is ∙ ap code_of o;
        table_is = told.table_is ∙ ap (λ (a : TableAnswer). a.table) e;
        why_is = told.why_is ∙ ap refusal_cells o;
      }
