-- What the arithmetic on two maps answers, case by case: they are refused, or they are checked maps with counts c.
--   pair_values          what is made of the two distances of a slot, from the lists or from the parts of the files
--   combined-refused     refused by the check of the two, and the buffer stays
--   combined-written     else the file of the result is written
-- Axioms: none.
use Rattle.std.proofs.Common.{Ok, Err}
use mathlib.Core.Path.{◌≡◌, sym, ap₂, ◌∙◌}
use Prim.Native.Nat.{ℕ, ◌<◌}
use mathlib.Core.List.{List}
use lib.ListN.{length}
use Rattle.pciv_format.specs.Layout.{at}
use Rattle.pciv_format.specs.Parts.{value_of}
use Rattle.pciv_format.specs.Check.{file_parts}
use Rattle.pciv_format.specs.Read.{list_of}
use Rattle.pciv_format.specs.Write.{map_into, file_buffer}
use Rattle.pciv_format.specs.Arith.{slot_op, combined_at, combine_maps_outcome, combine_maps_buffer}
use Rattle.pciv_format.specs.Refusals.{Outcome}
use Rattle.pciv_format.specs.declared.Refusal.{Refusal}
use Rattle.pciv_format.specs.declared.Summary.{Summary}
use Rattle.pciv_format.specs.declared.SlotOp.{SlotOp}
use Rattle.pciv_format.proofs.ReadLaws.{length-list_of, at-list}
use Rattle.pciv_check.specs.Pair.{pair_counts, CheckedPair}
use Rattle.pciv_check.specs.declared.pair.PairCounts.{PairCounts}
use Rattle.pciv_check.proofs.PairLaws.{pair-checked, pair_outcome-ready, pair_outcome-refused}
use Rattle.pciv_build.proofs.IntoLaws.{map-written}
use Rattle.pciv_arith_merge.specs.Merge.{combined_of}

pub pair_values : {A : Type 0} (f : ℕ → ℕ → A) (a b : List ℕ) (c : PairCounts) → CheckedPair a b c.n c.ka c.kb
    → (i : ℕ) → i < c.n
    → f (at (list_of a) i) (at (list_of b) i)
    ≡ f (value_of (file_parts a c.n c.ka) i) (value_of (file_parts b c.n c.kb) i)
pair_values f a b c p i h =
    let ha = p.first.header in
    let hb = p.second.header in
    ap₂ f (at-list a c.n c.ka ha.n_is ha.k_is i h) (at-list b c.n c.kb hb.n_is hb.k_is i h)

module _ (o : SlotOp) (a b out : List ℕ) where
  pub combined-refused : (r : Refusal) → pair_counts a b ≡ Err r
      → (Err r ≡ (combine_maps_outcome o a b (length out))) × (out ≡ combine_maps_buffer o a b out)
  unfolding combine_maps_outcome combine_maps_buffer
  combined-refused r e =
      let no = pair_outcome-refused a b (λ n. map_into n (combined_at o (list_of a) (list_of b)) (length out)) r e in
      ((sym no), rw no)

  module _ (c : PairCounts) (e : pair_counts a b ≡ Ok c) where
    pub combined-written : (d : List ℕ) (x : Outcome Summary)
        → (let v = combined_of o (file_parts a c.n c.ka) (file_parts b c.n c.kb) in
        let into = map_into c.n v (length out) in
        x ≡ into → d ≡ file_buffer into c.n v out
        → (x ≡ (combine_maps_outcome o a b (length out))) × (d ≡ combine_maps_buffer o a b out))
    unfolding combine_maps_outcome combine_maps_buffer
    combined-written d x answer buffer =
        let p = pair-checked a b c e in
        let w : ℕ → ℕ = combined_at o (list_of a) (list_of b) in
        map-written c.n (combined_of o (file_parts a c.n c.ka) (file_parts b c.n c.kb)) w
        (λ i h. sym (pair_values (slot_op o) a b c p i h)) (length (list_of a))
        (length-list_of a ∙ p.first.header.n_is) out d x
        (combine_maps_outcome o a b (length out)) (pair_outcome-ready a b (λ n. map_into n w (length out)) c e) answer
        buffer
