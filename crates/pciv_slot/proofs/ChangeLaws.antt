-- A slot that moves into or out of overflow, in place: header, primary byte and entries, then index and zeros.
--   put_in_front    an entry written where those behind it were moved up
--   SlotMoves       what follows for an edit that moves a slot:  few  the new file is within the limits;  answer  the
--                   editor's;  space  what the change asks for;  entries_moved  how many entries it moves;  buffer  that its
--                   steps leave the editor's buffer
--   slot-moves      an edit where the old and the new distance differ in being in overflow has all of it
-- Axioms: none.
use Rattle.std.proofs.Common.{Ok}
use mathlib.Core.Path.{◌≡◌, refl, sym, ap, ap₂, ◌∙◌}
use Prim.Native.Nat.{ℕ, ◌+◌, ◌-◌, ◌*◌, ◌≤◌, ◌<◌}
use native.Mathlib.Nat.{add-zero}
use native.Mathlib.Omega.{arith}
use native.Mathlib.Decide.{dec_le}
use mathlib.Core.List.{List, ◌++◌, append_assoc}
use lib.ListN.{length, get_or, take, drop, set, length-append, length-set, length-drop, take-append-drop}
use lib.Seq.{sets, set-append_left, take_at, drop_at, drop-drop, drop-append-le, length-take-le}
use lib.Dec.{ltb, eqb}
use borrow.Author.Tests.{lt-ltb, le-ltb, eqb-true, eqb-false}
use Rattle.pciv_bytes.specs.LittleEndian.{le, Bytes}
use Rattle.pciv_bytes.proofs.LittleEndianLaws.{length-le}
use Rattle.pciv_bytes.proofs.WriteLaws.{sets-append, set-behind, sets_behind, sets_first, sets-swap}
use Rattle.pciv_format.specs.Layout.{file_len, primary_byte, primary, overflow_slots, overflow_count}
use Rattle.pciv_format.specs.Layout.{overflow_entry, overflow_part, index_part, header, file, counts_of, summarize}
use Rattle.pciv_format.specs.Layout.{at, file_of}
use Rattle.pciv_format.specs.Refusals.{Outcome}
use Rattle.pciv_format.specs.Check.{file_parts}
use Rattle.pciv_format.specs.Read.{total, with_sum}
use Rattle.pciv_format.specs.Edit.{Edit, edited, replaced, edit_outcome, moved_by, edit_moved, edit_buffer}
use Rattle.pciv_format.specs.declared.Counts.{Counts}
use Rattle.pciv_format.proofs.PartsLaws.{primary_byte-inline, primary_byte-overflow}
use Rattle.pciv_format.proofs.LayoutLaws.{file_len-is, length-header, length-primary, length-overflow_part}
use Rattle.pciv_format.proofs.LayoutLaws.{length-file, overflow_count-le}
use Rattle.pciv_format.proofs.EditLaws.{edited-other, primary-edited, entries-in, entries-out, count-in}
use Rattle.pciv_format.proofs.EditLaws.{count-below, count-inside}
use Rattle.pciv_format.proofs.FrontLaws.{Holds}
use Rattle.pciv_format.proofs.EditCaseLaws.{held, buffer-done, replaced-sets}
use Rattle.pciv_format.proofs.MovedLaws.{above-inline, above-overflow, moved-into, moved_out, moved-done}
use Rattle.pciv_map_lookup.specs.Lookup.{entries_below}
use Rattle.pciv_build.specs.Build.{begin_outcome}
use Rattle.pciv_build.proofs.BuildLaws.{begin-fits, built}
use Rattle.pciv_slot.specs.Change.{entry_at, new_count, above_count, put_in, taken_out, changed, finished}
use Rattle.pciv_slot.specs.Change.{EditAt, Changes}
use Rattle.pciv_slot.proofs.CaseLaws.{holds, new-at, file-edited, old-inline, old-overflow}
use Rattle.pciv_slot.proofs.CaseLaws.{below-count, edit-counted}

-- ---- lists

-- d₁: what stands from `from` on, moved; d₂: an entry written there
pub put_in_front : (d d₁ d₂ x : List ℕ) (slot distance from : ℕ) → d₁ ≡ sets d (from + 12) x
    → d₂ ≡ sets d₁ from (le 8 slot ++ le 4 distance) → d₂ ≡ sets d from ((le 8 slot ++ le 4 distance) ++ x)
put_in_front d d₁ d₂ x slot distance from e₁ e₂ =
    let E : List ℕ = le 8 slot ++ le 4 distance in
    let L : length E ≡ 12 =
    length-append (le 8 slot) (le 4 distance) ∙ ap₂ (λ (a c : ℕ). a + c) (length-le 8 slot) (length-le 4 distance) in
    e₂
    ∙ ap (λ (l : List ℕ). sets l from E) e₁
    ∙ sets-swap E x d from (from + 12) (omega arith)
    ∙ sym (sets-append E x d from ∙ ap (λ (a : ℕ). sets (sets d from E) (from + a) x) L)

-- A header hd, n primary bytes P, a bytes A, and Z behind them. Where hd' becomes the header, and `byte` the byte of
-- slot s, what is then written behind A is written with the primary bytes and A.
record Rewritten (hd P A Z hd' : List ℕ) (n a s byte : ℕ) : Type 0 where
  opens : sets (hd ++ (P ++ (A ++ Z))) 0 hd' ≡ hd' ++ (P ++ (A ++ Z))
  marked : set (hd' ++ (P ++ (A ++ Z))) (40 + s) byte ≡ hd' ++ (set P s byte ++ (A ++ Z))
  behind : drop (40 + n + a) (hd' ++ (set P s byte ++ (A ++ Z))) ≡ Z
  written : (X : List ℕ) → sets (hd' ++ (set P s byte ++ (A ++ Z))) (40 + n + a) X
      ≡ sets (sets (hd' ++ (P ++ (A ++ Z))) 40 (set P s byte)) (40 + n) (A ++ X)

rewritten : (hd P A Z hd' : List ℕ) (n a s byte : ℕ)
    → length hd ≡ 40 → length hd' ≡ 40 → length P ≡ n → length A ≡ a → s < n
    → Rewritten hd P A Z hd' n a s byte
rewritten hd P A Z hd' n a s byte h h' hp ha inside =
    let P' : List ℕ = set P s byte in
    let D : List ℕ = hd' ++ (P' ++ (A ++ Z)) in
    let F : List ℕ = hd' ++ P' in
    let apart : D ≡ F ++ (A ++ Z) = sym (append_assoc hd' P' (A ++ Z)) in
    let long : length F ≡ 40 + n = simp (length-append, length-set) (omega arith) in
    let front : sets (hd' ++ (P ++ (A ++ Z))) 40 P' ≡ D =
    ap (λ (i : ℕ). sets (hd' ++ (P ++ (A ++ Z))) i P') (sym (add-zero (length hd') ∙ h'))
    ∙ sets_behind hd' (P ++ (A ++ Z)) 0 P'
    ∙ ap (λ (l : List ℕ). hd' ++ l) (sets_first P (A ++ Z) P' (length-set P s byte)) in
    let same : sets D (40 + n) A ≡ D =
    ap₂ (λ (l : List ℕ) (i : ℕ). sets l i A) apart (sym (add-zero (length F) ∙ long))
    ∙ sets_behind F (A ++ Z) 0 A
    ∙ ap (λ (l : List ℕ). F ++ l) (sets_first A Z A refl)
    ∙ sym apart in
    record {
      opens = sets_first hd (P ++ (A ++ Z)) hd' (h' ∙ sym h);
      marked = ap (λ (i : ℕ). set (hd' ++ (P ++ (A ++ Z))) (i + s) byte) (sym h')
          ∙ set-behind hd' (P ++ (A ++ Z)) s byte
          ∙ ap (λ (l : List ℕ). hd' ++ l) (set-append_left P (A ++ Z) s byte (omega arith));
      behind = ap (drop (40 + n + a)) apart
          ∙ sym (drop-drop a (40 + n) (F ++ (A ++ Z)))
          ∙ ap (drop a) (drop_at F (A ++ Z) (40 + n) long)
          ∙ drop_at A Z a ha;
      written = λ X.
          sym
          (ap (λ (l : List ℕ). sets l (40 + n) (A ++ X)) front
          ∙ sets-append A X D (40 + n)
          ∙ ap₂ (λ (l : List ℕ) (i : ℕ). sets l (40 + n + i) X) same ha);
    }

-- ---- an edit that moves a slot into or out of overflow

-- what follows for an edit after which there are `count` overflow entries
pub record SlotMoves (b : List ℕ) (n k : ℕ) (e : Edit) (count : ℕ) : Type 0 where
  pub few : count ≤ n
  -- the answer is that of beginning the new file, with the new sum
  pub answer : edit_outcome b e ≡ with_sum (begin_outcome n count (length b)) (total (edited (held b) e))
  pub space : (j : ℕ) → j ≡ entries_below (file_parts b n k) e.slot → file_len n count ≤ length b
      → Changes (length b) n k j e.slot e.distance
  pub entries_moved : (j : ℕ) → j ≡ entries_below (file_parts b n k) e.slot → file_len n count ≤ length b
      → edit_moved b e ≡ above_count k j e.distance
  -- d₁: header, byte and entries are changed; d₂: so are the index and what is left behind it
  pub buffer : (j : ℕ) (d₁ d₂ : List ℕ) → j ≡ entries_below (file_parts b n k) e.slot → file_len n count ≤ length b
      → d₁ ≡ changed (sets b 0 (header n count)) n k j e.slot e.distance
      → d₂ ≡ finished d₁ n k count → d₂ ≡ edit_buffer b e

module _ (b : List ℕ) (n k : ℕ) (bytes : Bytes b) (e : Edit) (p : EditAt b n k e.slot) where
  -- the distances before and after
  abbrev v : ℕ → ℕ
  v = at (held b)

  abbrev w : ℕ → ℕ
  w = at (edited (held b) e)

  there : Holds b n k (held b)
  there = holds b n k bytes e p

  new : w e.slot ≡ e.distance
  new = new-at b n k bytes e p

  -- the buffer with header, primary array and entries of the new file
  abbrev fresh : ℕ → List ℕ
  fresh count = sets (sets (sets b 0 (header n count)) 40 (primary n w)) (40 + n) (overflow_part n w)

  -- the parts of the buffer, with the entries before the slot's apart
  entries : List ℕ
  entries = overflow_part n v

  low : ℕ
  low = 12 * overflow_count e.slot v

  rest : List ℕ
  rest = index_part (overflow_slots n v) ++ drop (file_len n k) b

  parts : b ≡ header n k ++ (primary n v ++ (take low entries ++ (drop low entries ++ rest)))
  unfolding file entries rest
  parts =
      let t : List ℕ = drop (file_len n k) b in
      let P : List ℕ = primary n v in
      let O : List ℕ = overflow_part n v in
      let I : List ℕ = index_part (overflow_slots n v) in
      let h = there in
      let regroup : (header n k ++ (P ++ (O ++ I))) ++ t ≡ header n k ++ (P ++ (O ++ (I ++ t))) = simp append_assoc in
      h.apart
      ∙ ap (λ (m : ℕ). file m v ++ t) h.slots
      ∙ ap (λ (c : ℕ). (header n c ++ (P ++ (O ++ I))) ++ t) h.count
      ∙ regroup
      ∙ ap (λ (l : List ℕ). header n k ++ (P ++ l))
      (ap (λ (l : List ℕ). l ++ (I ++ t)) (sym (take-append-drop low O))
      ∙ append_assoc (take low O) (drop low O) (I ++ t))

  length-entries : length entries ≡ 12 * k
  unfolding entries
  length-entries = length-overflow_part n v ∙ ap (λ (c : ℕ). 12 * c) there.count

  low-le : low ≤ 12 * k
  unfolding low
  low-le =
      omega (
        arith,
        there.count,
        count-below n v w e.slot p.inside (edited-other (held b) e),
      )

  in_place : (count byte : ℕ)
      → Rewritten (header n k) (primary n v) (take low entries) (drop low entries ++ rest) (header n count)
      n low e.slot byte
  in_place count byte =
      rewritten (header n k) (primary n v) (take low entries) (drop low entries ++ rest) (header n count) n low
      e.slot byte (length-header n k) (length-header n count) (length-primary n v)
      (length-take-le low entries (omega (arith, low-le, length-entries))) p.inside

  -- d: the new header and the slot's new byte are written
  module _ (count byte : ℕ) (d : List ℕ) (put : d ≡ set (sets b 0 (header n count)) (40 + e.slot) byte) where
    opened : sets b 0 (header n count)
        ≡ header n count ++ (primary n v ++ (take low entries ++ (drop low entries ++ rest)))
    opened = ap (λ (l : List ℕ). sets l 0 (header n count)) parts ∙ (in_place count byte).opens

    put_is : d
        ≡ header n count ++ (set (primary n v) e.slot byte ++ (take low entries ++ (drop low entries ++ rest)))
    put_is = put ∙ ap (λ (l : List ℕ). set l (40 + e.slot) byte) opened ∙ (in_place count byte).marked

    put-behind : drop (40 + n + low) d ≡ drop low entries ++ rest
    put-behind = ap (drop (40 + n + low)) put_is ∙ (in_place count byte).behind

    -- X: the new entries from the slot's place on
    put_entries : (X : List ℕ) → primary_byte e.distance ≡ byte → overflow_part n w ≡ take low entries ++ X
        → sets d (40 + n + low) X ≡ fresh count
    put_entries X is part =
        let P : List ℕ = primary n v in
        let P' : primary n w ≡ set P e.slot byte =
        primary-edited n v w e.slot p.inside (edited-other (held b) e)
        ∙ ap (set P e.slot) (ap primary_byte new ∙ is) in
        ap (λ (l : List ℕ). sets l (40 + n + low) X) put_is
        ∙ (in_place count byte).written X
        ∙ sym (ap₂ (λ (l m : List ℕ). sets l (40 + n) m) (ap₂ (λ (l m : List ℕ). sets l 40 m) opened P') part)

  length-behind : length (drop low entries) ≡ 12 * k - low
  length-behind = simp length-drop (omega (arith, length-entries))

  -- ---- into overflow

  module _ (was : v e.slot < 255) (overflows : 255 ≤ e.distance) where
    entered : (count j : ℕ) → 12 * j ≡ low → put_in (sets b 0 (header n count)) n k j e.slot e.distance
        ≡ fresh count
    unfolding put_in overflow_entry entries low
    entered count j is =
        let E : List ℕ = le 8 e.slot ++ le 4 e.distance in
        let d : List ℕ = set (sets b 0 (header n count)) (40 + e.slot) 255 in
        let part : overflow_part n w ≡ take low entries ++ (E ++ drop low entries) =
        entries-in n v w e.slot p.inside (edited-other (held b) e) was (rw new overflows)
        ∙ ap (λ (x : ℕ). take low entries ++ ((le 8 e.slot ++ le 4 x) ++ drop low entries)) new in
        let c : ℕ = entry_at n k - (40 + n + low) in
        let moved : take c (drop (40 + n + low) d) ≡ drop low entries =
        ap (take c) (put-behind count 255 d refl) ∙ take_at (drop low entries) rest c (length-behind ∙ omega arith) in
        rw (is, moved)
        (put_entries count 255 d refl (E ++ drop low entries) (primary_byte-overflow e.distance overflows) part)

    entered-count : overflow_count n w ≡ k + 1
    entered-count =
        count-in n v w e.slot p.inside (edited-other (held b) e) was (rw new overflows)
        ∙ ap (λ (c : ℕ). c + 1) there.count

  -- ---- out of overflow

  module _ (was : 255 ≤ v e.slot) (inline : e.distance < 255) where
    left-low : low + 12 ≤ 12 * k
    unfolding low
    left-low =
        omega (
          arith,
          there.count,
          count-inside n v w e.slot p.inside (edited-other (held b) e) was,
        )

    left : (count j : ℕ) → 12 * j ≡ low → taken_out (sets b 0 (header n count)) n k j e.slot e.distance
        ≡ fresh count
    unfolding taken_out entries low
    left count j is =
        let d : List ℕ = set (sets b 0 (header n count)) (40 + e.slot) e.distance in
        let fits = left-low in
        let part : overflow_part n w ≡ take low entries ++ drop 12 (drop low entries) =
        entries-out n v w e.slot p.inside (edited-other (held b) e) was (rw new inline)
        ∙ ap (λ (l : List ℕ). take low entries ++ l) (sym (drop-drop 12 low entries)) in
        let c : ℕ = entry_at n (k - 1) - (40 + n + low) in
        let long : length (drop 12 (drop low entries)) ≡ c = simp length-drop (omega (arith, length-entries)) in
        let moved : take c (drop (40 + n + low + 12) d) ≡ drop 12 (drop low entries) =
        ap (take c)
        (sym (drop-drop 12 (40 + n + low) d)
        ∙ ap (drop 12) (put-behind count e.distance d refl)
        ∙ drop-append-le 12 (drop low entries) rest (omega (arith, length-behind)))
        ∙ take_at (drop 12 (drop low entries)) rest c long in
        rw (is, moved)
        (put_entries count e.distance d refl (drop 12 (drop low entries)) (primary_byte-inline e.distance inline)
        part)

    left-count : overflow_count n w + 1 ≡ k
    left-count =
        sym
        (count-in n w v e.slot p.inside (λ i ne. sym (edited-other (held b) e i ne))
        (rw new inline) was)
        ∙ there.count

  -- ---- either

  module _ (count : ℕ) (moves : eqb (get_or b (40 + e.slot) 0) 255 ≡ ltb e.distance 255)
      (is : count ≡ new_count k e.distance) where
    by-case : {B : Type 0} → (255 ≤ v e.slot → e.distance < 255 → B)
        → (v e.slot < 255 → 255 ≤ e.distance → B) → B
    by-case out into =
        elim (dec_le 255 e.distance) [
          | yes overflows ↦ (let ne = eqb-false _ _ (moves ∙ le-ltb e.distance 255 overflows) in
              into (old-inline b n k bytes e p (below_of _ (bytes (40 + e.slot)) ne)) overflows)
          | no d ↦ (let h : e.distance < 255 = omega arith in
              out (old-overflow b n k bytes e p (eqb-true _ _ (moves ∙ lt-ltb e.distance 255 h))) h)
        ]
      where
        below_of : (x : ℕ) → x < 256 → (x ≡ 255 → ⊥) → x < 255
        below_of x h ne = elim (dec_le 255 x) [ yes d ↦ absurd (ne (omega arith)) | no d ↦ omega arith ]

    moved-count : count ≡ overflow_count n w
    moved-count =
        is
        ∙ by-case
        (λ was h. (let c = left-count was h in rw (lt-ltb e.distance 255 h) (omega arith)))
        (λ was h. rw (le-ltb e.distance 255 h) (sym (entered-count was h)))

    -- the new file is within the limits
    moved-few : count ≤ n
    moved-few = omega (arith, moved-count, overflow_count-le n w)

    moved-space : (j : ℕ) → j ≡ entries_below (file_parts b n k) e.slot → file_len n count ≤ length b
        → Changes (length b) n k j e.slot e.distance
    unfolding low
    moved-space j found fits =
        let all = file_len-is n k in
        let all' = file_len-is n count in
        let at_entry = found ∙ below-count b n k bytes e p in
        let old = p.checked.fits in
        record {
          inside = p.inside;
          leaves = λ h.
              by-case (λ was h'. (omega (arith, left-low was h'), omega arith)) (λ was h'. absurd (omega arith));
          enters = λ h.
              (let c : count ≡ k + 1 = is ∙ rw (le-ltb e.distance 255 h) in
              (omega (arith, low-le), omega arith));
        }

    -- the old entries around the slot
    entries-moved : (j : ℕ) → j ≡ entries_below (file_parts b n k) e.slot
        → moved_by (held b) e ≡ above_count k j e.distance
    entries-moved j found =
        let low = found ∙ below-count b n k bytes e p in
        let slots = there.slots in
        let inside : e.slot < length (held b) = omega (arith, p.inside) in
        let all : overflow_count (length (held b)) v ≡ k = rw slots there.count in
        by-case
        (λ was h.
        rw (lt-ltb e.distance 255 h)
        (omega (arith, moved_out (held b) e was h, above-overflow (held b) e.slot inside was)))
        (λ was h.
        rw (le-ltb e.distance 255 h)
        (omega (arith, moved-into (held b) e was h, above-inline (held b) e.slot inside was)))

    moved-file : (j : ℕ) (d : List ℕ) → j ≡ entries_below (file_parts b n k) e.slot → file_len n count ≤ length b
        → d ≡ changed (sets b 0 (header n count)) n k j e.slot e.distance
        → finished d n k count ≡ replaced b (held b) (edited (held b) e)
    unfolding changed finished low
    moved-file j d found fits is-changed =
        let at_entry : 12 * j ≡ low = ap (λ (i : ℕ). 12 * i) (found ∙ below-count b n k bytes e p) in
        let D : d ≡ fresh count =
        is-changed
        ∙ by-case
        (λ was inline. rw (lt-ltb e.distance 255 inline) (left was inline count j at_entry))
        (λ was overflows. rw (le-ltb e.distance 255 overflows) (entered was overflows count j at_entry)) in
        let long' : length (file n w) ≡ file_len n count = length-file n w ∙ ap (file_len n) (sym moved-count) in
        let long : length (file_of (held b)) ≡ file_len n k =
        ap (λ (m : ℕ). length (file m v)) there.slots ∙ length-file n v ∙ ap (file_len n) there.count in
        let f = file-edited b n k bytes e p in
        rw (built n count w moved-count p.checked.header.small b d fits D, ← long', ← long, ← f)
        (replaced-sets b (held b) (edited (held b) e) (omega (arith, long, p.checked.fits))
        (omega (arith, ap length f, long')))

    pub slot-moves : SlotMoves b n k e count
    slot-moves =
        let answer = edit-counted b n k bytes e p count moved-count in
        let sum : ℕ = total (edited (held b) e) in
        let accepted : file_len n count ≤ length b → edit_outcome b e ≡ Ok (summarize (counts_of n count) sum) =
        λ fits. answer ∙ ap (λ (o : Outcome Counts). with_sum o sum) (begin-fits n count b fits).0 in
        record {
          few = moved-few;
          answer = answer;
          space = moved-space;
          entries_moved = λ j found fits. moved-done b e _ (accepted fits) ∙ entries-moved j found;
          buffer = λ j d₁ d₂ found fits is-changed finished.
              (finished
              ∙ moved-file j d₁ found fits is-changed
              ∙ sym (buffer-done b e _ (accepted fits)));
        }
