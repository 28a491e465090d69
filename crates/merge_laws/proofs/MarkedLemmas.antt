-- Laws of the definitions of Marked.antt.
-- Assumes nothing.
use Rattle.std.specs.Prelude.{ℕ, ◌+◌, ◌*◌, ◌<◌, ◌≤◌, ◌≡◌, refl, Bool, true, false, cond, List, [], ◌∷◌, ◌++◌, ◌≢◌, eqb, get_or, length}
use Rattle.std.proofs.Common.{arith, sym, ap, ◌∙◌, subst, append-nil, append_assoc, get_or-set_same, get_or-set_other, eqb-true}
use Rattle.std.proofs.lemmas.Bool.{false≢true, eqb-false}
use Rattle.cells.specs.Proof.Split.{by-test}
use Rattle.gabi.specs.StringTable.{same_name, among}
use Rattle.gabi.proofs.StringTableLaws.{same-eq, same_refl}
use Rattle.link.specs.Bounds.{name_rows, symbol_rows, section_slots}
use Rattle.link.specs.Said.{number_in}
use Rattle.link.specs.Counts.{no_names}
use Rattle.interner.specs.Hash.{head_of}
use Rattle.interner.specs.Names.{Store, store_of, room_of, added, keep_of}
use Rattle.interner.specs.Calls as Names
use Rattle.interner_laws.specs.Good.{Good, Stays, name, find}
use Rattle.interner_laws.proofs.Find.{find-issued}
use Rattle.interner_laws.proofs.Written.{head-behind, row_new}
use Rattle.interner_laws.specs.Interns as Interns
use Rattle.interner_laws.proofs.Interns as InternsLaws
use Rattle.interner_laws.proofs.Same.{alike-stays, good-same, find-same}
use Rattle.symbols.specs.New.{one_symbol, null_of, new_of}
use Rattle.symbol_laws.proofs.Issue.{FreeRow, room-free}
use Rattle.symbol_laws.specs.History.{State, store, opened, Part, issue, put, part_next, run_parts}
use Rattle.merge_laws.specs.Steps.{Step, part, mark, others, step_next, Goes, AllGo, run_steps}
use Rattle.merge_laws.specs.Marked.{step_marks, marks_of, Marked, Unmarked}
use Rattle.merge_laws.proofs.Marked.{marked-alike, set-alike, put-marked, issue-marked}

pub marks-append : (ks ls : List Step) (s : State) → marks_of (ks ++ ls) s ≡ marks_of ks s ++ marks_of ls (run_steps ks s)
marks-append [] ls s = refl
marks-append (k ∷ ks) ls s =
    ap (◌++◌ (step_marks k s)) (marks-append ks ls (step_next k s))
    ∙ sym (append_assoc (step_marks k s) (marks_of ks (step_next k s)) (marks_of ls (run_steps ks (step_next k s))))

-- ---- among a list with one more

among-snoc : (x y : List ℕ) (l : List (List ℕ)) → among x (l ++ (y ∷ [])) ≡ cond (among x l) true (same_name y x)
unfolding among
among-snoc x y [] = last (same_name y x)
  where
    last : (b : Bool) → cond b true false ≡ b
    last true = refl
    last false = refl
among-snoc x y (z ∷ l) = by-test (same_name z x) (λ t. rw t) (λ t. rw t (among-snoc x y l))

among-last : (x : List ℕ) (l : List (List ℕ)) → among x (l ++ (x ∷ [])) ≡ true
among-last x l = among-snoc x x l ∙ by-test (among x l) (λ t. rw t) (λ t. rw t (same_refl x))

among-other : (x y : List ℕ) (l : List (List ℕ)) → y ≢ x → among x (l ++ (y ∷ [])) ≡ among x l
among-other x y l u =
    among-snoc x y l
    ∙ by-test (among x l) (λ t. rw t) (λ t. rw t (by-test (same_name y x) (λ e. absurd (u (same-eq y x e))) (λ e. e)))

part-marked : (p : Part) (s : State) (met : List (List ℕ)) → Marked s met → Marked (part_next p s) met
part-marked (issue x) s met m = issue-marked s met m x
part-marked (put r from) s met m = put-marked s met m r

pub parts-marked : (ps : List Part) (s : State) (met : List (List ℕ)) → Marked s met → Marked (run_parts ps s) met
parts-marked [] s met m = m
parts-marked (p ∷ ps) s met m = parts-marked ps (part_next p s) met (part-marked p s met m)

-- ---- a mark

module _ (s : State) (met : List (List ℕ)) (m : Marked s met) (n : ℕ) (h : n < s.link.names) where
  mark-marked : Marked (step_next (mark n) s) (met ++ (name (store s) n ∷ []))
  mark-marked =
      let a = set-alike s n 4 1 m.good h (omega arith) (omega arith) in
      let u : State = step_next (mark n) s in
      let same : Stays (store s) (store u) = alike-stays (store s) (store u) a in
      let r : s.link.names ≤ s.link.chains = m.good.chained.rows_in in
      record {
        good = good-same (store s) (store u) a m.good;
        marks = λ k l.
            by-test (eqb k n)
            (λ e.
            let q : k ≡ n = eqb-true _ _ e in
            rw q
            (ap (λ (c : ℕ). eqb c 1) (get_or-set_same s.names (n * 8 + 4) 1 0 (omega arith))
            ∙ sym (ap (λ (y : List ℕ). among y (met ++ (name (store s) n ∷ []))) (same.olds n h) ∙ among-last (name (store s) n) met)))
            (λ e.
            let q : k ≢ n = eqb-false _ _ e in
            ap (λ (c : ℕ). eqb c 1) (get_or-set_other s.names (n * 8 + 4) (k * 8 + 4) 1 0 (λ e. q (omega arith)))
            ∙ m.marks k l
            ∙ sym
            (ap (λ (y : List ℕ). among y (met ++ (name (store s) n ∷ []))) (same.olds k l)
            ∙ among-other (name (store s) k) (name (store s) n) met (λ e. q (sym (m.good.chained.distinct n k h l e)))));
        known = λ x e.
            let f : find (store u) x ≡ find (store s) x = find-same (store s) (store u) a m.good x in
            by-test (among x met) (λ b. omega (arith, m.known x b))
            (λ b.
            let q : name (store s) n ≡ x = same-eq (name (store s) n) x (sym (among-snoc x (name (store s) n) met ∙ rw b) ∙ e) in
            let z : find (store s) x ≡ n = ap (find (store s)) (sym q) ∙ find-issued (store s) m.good.chained n h in
            omega arith);
      }

step-marked : (k : Step) (s : State) (met : List (List ℕ)) → Goes k s → Marked s met → Marked (step_next k s) (met ++ step_marks k s)
step-marked (part p) s met g m = subst (Marked (part_next p s)) (sym (append-nil met)) (part-marked p s met m)
step-marked (mark n) s met g m = mark-marked s met m n g
step-marked (others x l) s met g m =
    subst (Marked (step_next (others x l) s)) (sym (append-nil met))
    (marked-alike s (step_next (others x l) s) met
    (record { bytes = refl; long = refl; cells = λ i f h l. refl; heads = λ q h l. refl; chains = refl; key = refl; counted = refl; filled = refl }) (λ n h. refl) m)

pub steps-marked : (ks : List Step) (s : State) (met : List (List ℕ)) → AllGo ks s → Marked s met → Marked (run_steps ks s) (met ++ marks_of ks s)
steps-marked [] s met g m = subst (Marked s) (sym (append-nil met)) m
steps-marked (k ∷ ks) s met g m =
    subst (Marked (run_steps ks (step_next k s))) (append_assoc met (step_marks k s) (marks_of ks (step_next k s)))
    (steps-marked ks (step_next k s) (met ++ step_marks k s) g.1 (step-marked k s met g.0 m))

added-unmarked : (s : Store) → s.link.names ≡ 0 → FreeRow s.link s.names → Unmarked (added s [])
added-unmarked s z row =
    record {
      one = omega arith;
      none =
          subst (λ (n : ℕ). get_or (added s []).names (n * 8 + 4) 0 ≡ 0) z
          (row_new s.names s.link.names s.link.bytes 0 (head_of s.link s.names []) s.link.chains row.lent row.free
          (head-behind s.link (length s.names) [] row.lent) 4 (omega arith));
    }

names-unmarked : (key : ℕ) (bytes names : List ℕ) → (Names.new_of key bytes names).store.link.names ≢ 0 → Unmarked (Names.new_of key bytes names).store
unfolding Names.new_of keep_of
names-unmarked key bytes names z =
    by-test (eqb (name_rows (length names)) 0) (λ a. absurd (z (rw a)))
    (λ a.
    let s : Store = store_of bytes (Names.clear_heads names) (no_names key (name_rows (length names))) in
    by-test (room_of s 0) (λ b. rw (a, b) (added-unmarked s refl (room-free s 0 b))) (λ b. absurd (z (rw (a, b)))))

names-good : (key : ℕ) (bytes names : List ℕ) → (Names.new_of key bytes names).store.link.names ≢ 0 → Good (Names.new_of key bytes names).store
names-good key bytes names z =
    by-test (eqb (Interns.number (Names.new_of key bytes names)) 0) (λ a. InternsLaws.new-good key bytes names (eqb-true _ _ a))
    (λ a. absurd (z (ap (λ (s : Store). s.link.names) (InternsLaws.new-refused key bytes names (eqb-false _ _ a)))))

null-marked : (gabi : Bool) (symbols sections : List ℕ) (s : Store) → (s.link.names ≢ 0 → Good s) → (s.link.names ≢ 0 → Unmarked s)
    → number_in (null_of gabi symbols sections s).said ≡ 0 → Marked (opened (null_of gabi symbols sections s)) []
unfolding null_of among
null-marked gabi symbols sections s g u e =
    by-test (eqb s.link.names 0) (λ a. let q : ◌≡◌ {A = ℕ} 2 0 = rw a at e in absurd (omega arith))
    (λ a.
    let k : Unmarked s = u (eqb-false _ _ a) in
    let t : Store = store_of s.bytes s.names (one_symbol gabi s.link (section_slots (length sections))) in
    rw a
    (record {
      good = good-same s t (record { bytes = refl; long = refl; cells = λ i f h l. refl; heads = λ q h l. refl; chains = refl; key = refl; counted = refl; filled = refl }) (g (eqb-false _ _ a));
      marks = λ n h. let q : n ≡ 0 = omega (arith, k.one) in rw (q, k.none);
      known = λ x f. absurd (false≢true f);
    }))

pub new-marked : (key : ℕ) (gabi : Bool) (bytes names symbols sections : List ℕ) → number_in (new_of key gabi bytes names symbols sections).said ≡ 0
    → Marked (opened (new_of key gabi bytes names symbols sections)) []
unfolding new_of
new-marked key gabi bytes names symbols sections e =
    by-test (eqb (symbol_rows (length symbols)) 0) (λ a. let q : ◌≡◌ {A = ℕ} 2 0 = rw a at e in absurd (omega arith))
    (λ a. rw a (null-marked gabi symbols sections (Names.new_of key bytes names).store (names-good key bytes names) (names-unmarked key bytes names) (rw a at e)))
