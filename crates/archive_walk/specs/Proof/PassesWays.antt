-- The ways through the functions that look a name up and note what ties.
-- Assumes nothing.
use Prim.Native.Nat.{ℕ, ◌+◌, ◌*◌, ◌-◌, ◌/◌, ◌%◌, ◌<◌, ◌≤◌}
use Rattle.std.proofs.Common.{arith, sub-eq-zero_of_le, ap, ◌∙◌, get_or-set_same, get_or-set_other}
use Rattle.std.specs.Prelude.{◌≡◌, refl, Bool, true, false, cond, ltb, length, Result, Ok, Err}
use Rattle.std.proofs.Math.Path.{sym, subst}
use mathlib.Core.List.{List}
use Rattle.std.proofs.Math.Dec.{eqb}
use Rattle.std.proofs.Math.ListN.{get_or, set, length-set}
use borrow.Author.Tests.{lt-ltb, le-ltb, ltb-true, ltb-false, eqb-true, eqb-false}
use Rattle.cells.specs.Proof.Split.{by-test}
use Rattle.byte_slices.specs.Proof.Ways.{pick, apart}
use Rattle.link.specs.declared.cause.Refusal.{Refusal}
use Rattle.link.specs.Judge.{refused}
use Rattle.symbol_resolution.specs.declared.rows.Holder.{Holder}
use Rattle.symbol_resolution.specs.declared.rows.Holder.TheVariants.{Unissued, Nobody, Removed, Known}
use Rattle.archive_index.specs.Rows.{member_at, pass_at, head_at, stored_name}
use Rattle.archive_index.specs.Proof.Ways.{one_more}
use Rattle.archive_walk.specs.Names.{chained, chain_at, headed_of, noted_of}
use Rattle.archive_walk.specs.Look.{Table, name_holder, was_removed, removed_name, ties, tied_name}
use Rattle.archive_walk.specs.Walk.{Queue, queue_of, marked, enqueue, tie_of, removed_of, search_judged}
use Rattle.archive_walk.specs.Notes.{is_noted, note_tie, Noted}

-- ---- the notes

stays : (h : Holder) → (h ≡ Removed → ⊥) → was_removed h ≡ false
stays Unissued n = refl
stays Nobody n = refl
stays Removed n = absurd (n refl)
stays (Known id) n = refl

module _ (s l : List ℕ) (t : Table) where
  -- what is noted of the entries before one is noted of fewer
  pub noted-enough : (x c : ℕ) (notes : List ℕ) → c ≤ x → Noted s l t x notes → Noted s l t c notes
  noted-enough x c notes h n = record { noted = λ k g e. n.noted k (omega arith) e }

  -- an entry before k keeps its note, and entry k has one if it ties
  module _ (k : ℕ) (x : List ℕ) (h : Holder) (notes m : List ℕ) where
    pub noted_more : length m ≡ 4096 → x ≡ stored_name s l k → h ≡ name_holder t x → m ≡ note_tie t.link.gabi t.symbols h notes k → Noted s l t k notes
        → Noted s l t (k + 1) m
    unfolding note_tie is_noted tied_name
    noted_more len y f q n =
        record { noted = λ j g i. subst (λ (z : List ℕ). eqb (get_or z (j % 4096) 0) 1 ≡ true) (sym q) (go j g i (ties t.link.gabi t.symbols h) refl) }
      where
        e : h ≡ name_holder t (stored_name s l k)
        e = f ∙ rw y

        whole : length notes ≡ 4096
        whole =
            sym (pick (λ (z : List ℕ). m ≡ z → length m ≡ length notes) (ties t.link.gabi t.symbols h) _ _
            (λ a b. ap length b ∙ simp length-set) (λ a b. ap length b) q) ∙ len

        earlier : (j : ℕ) → j < k + 1 → (j ≡ k → ⊥) → j < k
        earlier j g i = by-test (ltb j k) (λ a. ltb-true j k a) (λ a. absurd (i (omega (arith, ltb-false j k a))))

        go : (j : ℕ) → j < k + 1 → tied_name t (stored_name s l j) ≡ true → (b : Bool) → ties t.link.gabi t.symbols h ≡ b
            → eqb (get_or (cond b (set notes (k % 4096) 1) notes) (j % 4096) 0) 1 ≡ true
        go j g i true a =
            by-test (eqb (j % 4096) (k % 4096))
            (λ c. rw (eqb-true (j % 4096) (k % 4096) c, get_or-set_same notes (k % 4096) 1 0 (omega (arith, whole))))
            (λ c.
            let d : j % 4096 ≡ k % 4096 → ⊥ = eqb-false (j % 4096) (k % 4096) c in
            rw (get_or-set_other notes (k % 4096) (j % 4096) 1 0 d) (n.noted j (earlier j g (λ y. d (ap (λ (z : ℕ). z % 4096) y))) i))
        go j g i false a =
            let d : tied_name t (stored_name s l k) ≡ false = rw (← e) a in
            n.noted j (earlier j g (λ y. apart (sym d ∙ sym (ap (λ (z : ℕ). tied_name t (stored_name s l z)) y) ∙ i))) i

  -- the search for a removed name
  module _ (c k w : ℕ) (x : List ℕ) (h : Holder) where
    pub survey-hit : (r : Result Unit Refusal) → k < c → x ≡ stored_name s l k → h ≡ name_holder t x → h ≡ Removed → w ≡ removed_of s l t (c - k) k
        → r ≡ Err (refused 21 k) → r ≡ search_judged w c
    unfolding removed_of removed_name
    survey-hit r a y e g q i =
        let n : was_removed (name_holder t (stored_name s l k)) ≡ true = rw (← y, ← e, g) refl in
        let j : k ≡ w = sym (q ∙ rw (one_more c k a) (simp n)) in
        i ∙ rw j (sym (rw (lt-ltb _ _ (rw j at a))))

    pub survey-on : k < c → x ≡ stored_name s l k → h ≡ name_holder t x → (h ≡ Removed → ⊥) → w ≡ removed_of s l t (c - k) k
        → w ≡ removed_of s l t (c - (k + 1)) (k + 1)
    unfolding removed_of removed_name
    survey-on a y e g q =
        let n : was_removed (name_holder t (stored_name s l k)) ≡ false = rw (← y, ← e) (stays h g) in
        q ∙ rw (one_more c k a) (simp n)

  pub survey-end : (c k w : ℕ) (r : Result Unit Refusal) → c ≤ k → k ≤ c → w ≡ removed_of s l t (c - k) k → r ≡ Ok tt → r ≡ search_judged w c
  unfolding removed_of
  survey-end c k w r h g q i =
      let j : k ≡ w = sym (q ∙ rw (sub-eq-zero_of_le h)) in
      i ∙ sym (rw (le-ltb w c (rw j at h)))

-- ---- an entry of a pass

-- where the names of the entries lie stays
module _ (j f : ℕ) (o : 3 < f) (v : f < 6) where
  other : (l : List ℕ) (r g x : ℕ) → g < 8 → (g ≡ f → ⊥) → get_or (set l (r * 8 + g) x) (j * 8 + f) 0 ≡ get_or l (j * 8 + f) 0
  other l r g x h d = get_or-set_other l (r * 8 + g) (j * 8 + f) x 0 (λ e. d (omega arith))

  module _ (key c : ℕ) (s : List ℕ) where
    noted-keeps : (l : List ℕ) (k : ℕ) → get_or (noted_of key c s l k) (j * 8 + f) 0 ≡ get_or l (j * 8 + f) 0
    unfolding noted_of headed_of
    noted-keeps l k =
        pick (λ (m : List ℕ). get_or m (j * 8 + f) 0 ≡ get_or l (j * 8 + f) 0) (chained key c s l (member_at l k) (stored_name s l k)) _ _
        (λ e. other l k 0 1 (omega arith) (λ d. omega arith))
        (λ e. pick (λ (m : List ℕ). get_or m (j * 8 + f) 0 ≡ get_or l (j * 8 + f) 0) (ltb k (length l / 8)) _ _
        (λ g.
        let b : ℕ = chain_at key c s l k in
        let m : List ℕ = set l (k * 8 + 0) 1 in
        other (set m (k * 8 + 2) (head_at l b)) b 3 (k + 1) (omega arith) (λ d. omega arith)
        ∙ other m k 2 (head_at l b) (omega arith) (λ d. omega arith)
        ∙ other l k 0 1 (omega arith) (λ d. omega arith))
        (λ g. other l k 0 1 (omega arith) (λ d. omega arith)))

    tie-keeps : (t : Table) (p k : ℕ) (q : Queue) → get_or (tie_of key c s t p k q).cells (j * 8 + f) 0 ≡ get_or q.cells (j * 8 + f) 0
    unfolding tie_of enqueue marked
    tie-keeps t p k q = go (tied_name t (stored_name s q.cells k)) (eqb (pass_at q.cells r) 0) (eqb (pass_at q.cells r) p)
      where
        r : ℕ
        r = member_at q.cells k

        a : List ℕ
        a = noted_of key c s q.cells k

        go : (u x w : Bool)
            → get_or (cond {A = Queue} u (cond x (queue_of (set (set a (r * 8 + 6) p) (q.queued * 8 + 7) k) (q.queued + 1)) (cond w (queue_of a q.queued) q)) q).cells (j * 8 + f) 0
            ≡ get_or q.cells (j * 8 + f) 0
        go false x w = refl
        go true true w =
            other (set a (r * 8 + 6) p) q.queued 7 k (omega arith) (λ d. omega arith)
            ∙ other a r 6 p (omega arith) (λ d. omega arith)
            ∙ noted-keeps q.cells k
        go true false true = noted-keeps q.cells k
        go true false false = refl

pub noted-on : (key c : ℕ) (s : List ℕ) (t : Table) (p k : ℕ) (l m : List ℕ) (n j e : ℕ) (notes : List ℕ) → queue_of m j ≡ tie_of key c s t p k (queue_of l n)
    → Noted s l t e notes → Noted s m t e notes
noted-on key c s t p k l m n j e notes q y = record { noted = λ i h d. y.noted i h (sym (ap (tied_name t) (same_name i)) ∙ d) }
  where
    f : m ≡ (tie_of key c s t p k (queue_of l n)).cells
    f = ap (λ (z : Queue). z.cells) q

    same_name : (i : ℕ) → stored_name s m i ≡ stored_name s l i
    same_name i =
        rw
        (f, tie-keeps i 4 (omega arith) (omega arith) key c s t p k (queue_of l n), tie-keeps i 5 (omega arith) (omega arith) key c s t p k (queue_of l n))
