-- What a repair answers and leaves, case by case.
--   repair-done       done, where the parts are given and both results fit
--   Done, done-repair what is known of a repair that is done
--   Ends              a repair answers a, and leaves this output and this list
--   ends-many, -counts, -short, -unlisted    the refusals 3, 4 and 5, and 12 for the list
--   ends-refused, -done    else as writing the file ends; stands  the rebuilt file then stands at the front of the output
-- Axioms: none.
use Rattle.std.proofs.Common.{Ok, Err}
use Rattle.pciv_format.specs.declared.RefusalKind.TheVariants.{TooManySlots, BadCounts, BadLength, BufferTooSmall}
use mathlib.Core.Path.{◌≡◌, refl, sym, ap, ◌∙◌}
use Prim.Native.Nat.{ℕ, ◌+◌, ◌*◌, ◌≤◌, ◌<◌}
use mathlib.Core.Bool.{Bool, true, false, ◌||◌}
use mathlib.Core.List.{List, ◌++◌}
use lib.ListN.{length, drop}
use lib.Seq.{sets, drop_at}
use lib.Dec.{ltb}
use borrow.Author.Tests.{lt-ltb, le-ltb, ltb-false}
use Rattle.pciv_bytes.proofs.WriteLaws.{sets-front}
use Rattle.pciv_format.specs.Layout.{max_slots, summary}
use Rattle.pciv_format.specs.Refusals.{Outcome, refuse, refuse_if, and_then, written}
use Rattle.pciv_format.specs.Write.{file_into, file_buffer}
use Rattle.pciv_format.specs.declared.Summary.{Summary}
use Rattle.pciv_format.specs.declared.Refusal.{Refusal}
use Rattle.pciv_format.proofs.PartsLaws.{or-false, or-true}
use Rattle.pciv_format.proofs.RefusalsLaws.{refuse_if-done}
use Rattle.pciv_repair_file.specs.Repaired.{repaired_at, repaired_file, PartsGiven}
use Rattle.pciv_repair.specs.Repair.{corrections, numbers_of, repaired_of, repair_outcome, repair_buffer, repair_list}
use Rattle.pciv_repair.specs.declared.Repaired.{Repaired}
use Rattle.pciv_repair.proofs.CountLaws.{length-numbers_of}

module _ (b : List ℕ) (n k capacity room : ℕ) where
  pub repair-done : PartsGiven b n k → length (repaired_file b n k) ≤ capacity → 4 * length (corrections b n k) ≤ room
      → repair_outcome b n k capacity room ≡ Ok (repaired_of b n k)
  unfolding repair_outcome
  repair-done given fits listed =
      rw (
        le-ltb max_slots n given.small,
        le-ltb n k given.few,
        le-ltb (length b) (40 + n + 12 * k) given.inside,
        le-ltb capacity (length (repaired_file b n k)) fits,
        le-ltb room (4 * length (corrections b n k)) listed,
      )

  pub record Done (s : Repaired) : Type 0 where
    pub given : PartsGiven b n k
    pub fits : length (repaired_file b n k) ≤ capacity
    pub listed : 4 * length (corrections b n k) ≤ room
    pub is : s ≡ repaired_of b n k

  pub done-repair : (s : Repaired) → repair_outcome b n k capacity room ≡ Ok s → Done s
  unfolding repair_outcome
  done-repair s e =
      let long : Bool = ltb capacity (length (repaired_file b n k)) in
      let many : Bool = ltb room (4 * length (corrections b n k)) in
      let g₃ = refuse_if-done (ltb max_slots n) _ _ s e in
      let g₄ = refuse_if-done (ltb n k) _ _ s g₃.1 in
      let g₅ = refuse_if-done (ltb (length b) (40 + n + 12 * k)) _ _ s g₄.1 in
      let g₁₂ = refuse_if-done (long || many) _ _ s g₅.1 in
      let o = or-false long many g₁₂.0 in
      let q : Ok (repaired_of b n k) ≡ Ok s = g₁₂.1 in
      record {
        given =
            record {
              small = ltb-false _ _ g₃.0;
              few = ltb-false _ _ g₄.0;
              inside = ltb-false _ _ g₅.0;
            };
        fits = ltb-false _ _ o.0;
        listed = ltb-false _ _ o.1;
        is = cc;
      }

-- ---- case by case

module _ (b : List ℕ) (n k : ℕ) (out list : List ℕ) where
  abbrev pub Ends : Outcome Repaired → List ℕ → List ℕ → Type 0
  Ends a out' list' =
      (a ≡ repair_outcome b n k (length out) (length list))
      × ((out' ≡ repair_buffer b n k (length list) out) × (list' ≡ repair_list b n k (length out) list))

  -- what goes with an outcome
  ends : (o : Outcome Repaired) → repair_outcome b n k (length out) (length list) ≡ o
      → Ends o (written o (repaired_file b n k) out) (written o (numbers_of (corrections b n k)) list)
  unfolding repair_buffer repair_list
  ends o e = rw e (refl, (refl, refl))

  pub ends-many : (a : Outcome Repaired) → a ≡ refuse TooManySlots 1 0 → max_slots < n → Ends a out list
  unfolding repair_outcome
  ends-many a is many = rw is (ends (refuse TooManySlots 1 0) (rw (lt-ltb max_slots n many)))

  module _ (small : n ≤ max_slots) where
    pub ends-counts : (a : Outcome Repaired) → a ≡ refuse BadCounts 1 0 → n < k → Ends a out list
    unfolding repair_outcome
    ends-counts a is more = rw is (ends (refuse BadCounts 1 0) (rw (le-ltb max_slots n small, lt-ltb n k more)))

    pub ends-short : (a : Outcome Repaired) → a ≡ refuse BadLength 1 0 → k ≤ n → length b < 40 + n + 12 * k
        → Ends a out list
    unfolding repair_outcome
    ends-short a is few short =
        rw is
        (ends (refuse BadLength 1 0)
        (rw (le-ltb max_slots n small, le-ltb n k few, lt-ltb (length b) (40 + n + 12 * k) short)))

  module _ (given : PartsGiven b n k) where
    pub ends-unlisted : (a : Outcome Repaired) → a ≡ refuse BufferTooSmall 0 0
        → length list < 4 * length (corrections b n k) → Ends a out list
    unfolding repair_outcome
    ends-unlisted a is many =
        rw is
        (ends (refuse BufferTooSmall 0 0)
        (rw (
          le-ltb max_slots n given.small,
          le-ltb n k given.few,
          le-ltb (length b) (40 + n + 12 * k) given.inside,
          lt-ltb (length list) (4 * length (corrections b n k)) many,
          or-true (ltb (length out) (length (repaired_file b n k))),
        )))

    module _ (listed : 4 * length (corrections b n k) ≤ length list) where
      abbrev told : Summary → Repaired
      told s = record { summary = s; lines = length (corrections b n k) }

      -- as writing the file, with the number of changes
      by-file : repair_outcome b n k (length out) (length list)
          ≡ and_then (file_into n (repaired_at b n k) (length out)) (λ s. Ok (told s))
      unfolding repair_outcome
      by-file =
          rw (
            le-ltb max_slots n given.small,
            le-ltb n k given.few,
            le-ltb (length b) (40 + n + 12 * k) given.inside,
            le-ltb (length list) (4 * length (corrections b n k)) listed,
          )
          (go (ltb (length out) (length (repaired_file b n k))))
        where
          go : (t : Bool) → refuse_if (t || false) (refuse BufferTooSmall 0 0) (Ok (repaired_of b n k))
              ≡ and_then (refuse_if t (refuse BufferTooSmall 0 0) (Ok (summary n (repaired_at b n k)))) (λ s. Ok (told s))
          go true = refl
          go false = refl

      module _ (a : Outcome Summary) (out' : List ℕ) (answered : a ≡ file_into n (repaired_at b n k) (length out))
          (left : out' ≡ file_buffer (file_into n (repaired_at b n k) (length out)) n (repaired_at b n k) out) where
        pub ends-refused : (r : Refusal) → a ≡ Err r → Ends (Err r) out' list
        ends-refused r is =
            let no : file_into n (repaired_at b n k) (length out) ≡ Err r = sym answered ∙ is in
            rw (left, no) (ends (Err r) (by-file ∙ rw no))

        pub ends-done : (s : Summary) → a ≡ Ok s → (list' : List ℕ)
            → list' ≡ sets list 0 (numbers_of (corrections b n k)) → (lines : ℕ) → lines ≡ length (corrections b n k)
            → Ends (Ok (record { summary = s; lines = lines })) out' list'
        ends-done s is list' put lines count =
            let ok : file_into n (repaired_at b n k) (length out) ≡ Ok s = sym answered ∙ is in
            rw (count, left, ok, put ∙ sets-front (numbers_of (corrections b n k)) list (rw length-numbers_of listed))
            (ends (Ok (told s)) (by-file ∙ rw ok))

        -- the rebuilt file stands at the front
        pub stands : (s : Summary) → a ≡ Ok s
            → out' ≡ repaired_file b n k ++ drop (length (repaired_file b n k)) out'
        stands s is =
            let ok : file_into n (repaired_at b n k) (length out) ≡ Ok s = sym answered ∙ is in
            let e : out' ≡ repaired_file b n k ++ drop (length (repaired_file b n k)) out =
            left ∙ ap (λ (o : Outcome Summary). file_buffer o n (repaired_at b n k) out) ok in
            e
            ∙ ap (λ (l : List ℕ). repaired_file b n k ++ l)
            (sym
            (ap (drop (length (repaired_file b n k))) e
            ∙ drop_at (repaired_file b n k) _ (length (repaired_file b n k)) refl))
