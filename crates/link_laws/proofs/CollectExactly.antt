-- Of collection: the answer is that of the first rule that holds.
-- Assumes nothing.
use Rattle.gc_sections.specs.declared.Dropped.{Dropped}
use Rattle.link.specs.declared.SectionId.{SectionId}
use Rattle.link.specs.declared.SymbolId.{SymbolId}
use Rattle.std.specs.Prelude.{ℕ, zero, suc, ◌+◌, ◌/◌, ◌<◌, ◌≤◌, ◌≡◌, Bool, ◌&&◌, ◌||◌, List, [], ◌∷◌, ltb, get_or, Option, Result, None, Some}
use Rattle.std.proofs.Common.{arith, sym, ◌∙◌, subst}
use Rattle.std.proofs.Math.Path.{refl, ap}
use Rattle.std.proofs.Math.Bool.{true, false, cond, not}
use Rattle.std.proofs.lemmas.Bool.{false≢true}
use Rattle.std.proofs.Math.Dec.{eqb}
use Rattle.std.proofs.Math.ListN.{length}
use borrow.Author.Tests.{eqb-true, eq-eqb, ltb-true, ltb-false, lt-ltb, ne_eqb, not-true}
use Rattle.cells.specs.Proof.Split.{by-test}
use Rattle.byte_slices.specs.Bytes.{same}
use Rattle.link.specs.declared.cause.Refusal.{Refusal}
use Rattle.link.specs.Judge.{refused}
use Rattle.sections.specs.Rows as Sections
use Rattle.gc_sections.specs.Reach as Reach
use Rattle.gc_sections.specs.Roots as Roots
use Rattle.gc_sections.specs.Roots.{symbol_id, section_id, value_lead, lead_of, readable, name_is, rooted}
use Rattle.gc_sections.specs.Run as Run
use Rattle.gc_sections.specs.Run.{Left, Lists, lists_of, judge_cells, judged, run_of}
use Rattle.gc_laws.proofs.Own.{built-own, own-built, leads-own, own-leads, root-own, own_root}
use Rattle.gc_laws.specs.Reached.{Built, Names, Reached, marked, entered, root, step, Leads}
use Rattle.gc_laws.proofs.Terms as DemandLaws
use Rattle.symbol_laws.specs.History.{State}
use Rattle.merge_laws.specs.Calls.{Linked}
use Rattle.link_laws.specs.Calls.{collect, call_refusal}
use Rattle.link_laws.specs.Rules.{◌gives◌at◌, some, head_rules, first_refusal}
use Rattle.link_laws.proofs.Rules.{headed, follows, taken, left_out, not-below, head-rules}
use Rattle.link_laws.specs.TableRules.{bytes_of, is_removed}
use Rattle.link_laws.specs.ObjectRules.{cell_at}
use Rattle.link_laws.specs.LoadRules.{has}
use Rattle.link_laws.proofs.LoadNeeded.{both, either, some-among, among-some}
use Rattle.link_laws.proofs.CollectRounds.{still}
use Rattle.link_laws.specs.CollectRules.{collect_head, section_of, is_placed, lies_in, is_built, eh_frame, is_root, is_entered, is_start, names_in, reached_in, is_reached, unbuilt_from, unbuilt, is_some, lowest_of, lowest, reached_rules, collect_rules}

-- ---- the tests of the walk

and-true : (a b : Bool) → a ≡ true → b ≡ true → a && b ≡ true
and-true a b e f = rw (e, f)

or-first : (a b : Bool) → a ≡ true → a || b ≡ true
or-first a b e = rw e

or-second : (a b : Bool) → b ≡ true → a || b ≡ true
or-second true b e = refl
or-second false b e = e

abbrev leads_to : Option SectionId → ℕ → Bool
leads_to None y = false
leads_to (Some s) y = eqb s.0 y

module _ (t : State) where
  abbrev n : ℕ
  n = t.link.sections

  lead_is : (i y : ℕ) → leads_to (lead_of t.symbols t.link.symbols (symbol_id i)) y ≡ lies_in t i y
  unfolding lead_of value_lead
  lead_is i y =
      rw (not-below i t.link.symbols)
      (by-test (ltb i t.link.symbols)
      (λ a.
      by-test (is_removed t i) (λ b. rw (a, b))
      (λ b.
      by-test (eqb (cell_at t.symbols i 5) 2) (λ c. rw (a, b, c))
      (λ c. by-test (eqb (cell_at t.symbols i 5) 3) (λ d. rw (a, b, c, d)) (λ d. by-test (eqb (cell_at t.symbols i 5) 4) (λ e. rw (a, b, c, d, e)) (λ e. rw (a, b, c, d, e))))))
      (λ a. rw a))

  -- a symbol that is placed leads to its section
  placed-leads : (i : ℕ) → is_placed t i ≡ true → lead_of t.symbols t.link.symbols (symbol_id i) ≡ Some (section_id (section_of t i))
  unfolding lead_of value_lead
  placed-leads i e =
      let p = both (ltb i t.link.symbols && not (is_removed t i)) (eqb (cell_at t.symbols i 5) 2 || eqb (cell_at t.symbols i 5) 3 || eqb (cell_at t.symbols i 5) 4) e in
      let q = both (ltb i t.link.symbols) (not (is_removed t i)) p.0 in
      rw (not-below i t.link.symbols, q.0, not-true (is_removed t i) q.1)
      (by-test (eqb (cell_at t.symbols i 5) 2) (λ c. rw c)
      (λ c.
      by-test (eqb (cell_at t.symbols i 5) 3) (λ d. rw (c, d))
      (λ d. by-test (eqb (cell_at t.symbols i 5) 4) (λ f. rw (c, d, f)) (λ f. absurd (false≢true (rw (c, d, f) at p.1))))))

  lies-leads : (i y : ℕ) → lies_in t i y ≡ true → lead_of t.symbols t.link.symbols (symbol_id i) ≡ Some (section_id y)
  lies-leads i y e =
      let p = both (is_placed t i) (eqb (section_of t i) y) e in
      placed-leads i p.0 ∙ ap (λ (y : ℕ). Some (section_id y)) (eqb-true _ _ p.1)

  leads-lies : (i y : ℕ) → lead_of t.symbols t.link.symbols (symbol_id i) ≡ Some (section_id y) → lies_in t i y ≡ true
  leads-lies i y e = sym (lead_is i y) ∙ ap (λ (l : Option SectionId). leads_to l y) e ∙ eq-eqb y y refl

  built-is : (y : ℕ) → Sections.is_built t.sections n y ≡ is_built t y
  unfolding Sections.is_built
  built-is y =
      rw (not-below y n)
      (by-test (ltb y n) (λ a. rw a (by-test (eqb (cell_at t.sections y 0) 2) (λ b. rw b) (λ b. rw b))) (λ a. rw a))

  root_is : (y : ℕ) → Roots.is_root t.bytes t.names t.sections n y ≡ is_built t y && is_root t y
  unfolding Roots.is_root rooted readable name_is
  root_is y =
      rw (built-is y)
      (tree (is_built t y) (eqb (cell_at t.sections y 4) 0) (eqb (cell_at t.sections y 2) 1) (eqb (cell_at t.sections y 2) 2) (eqb (cell_at t.sections y 3) 0)
      (same (bytes_of t (cell_at t.sections y 1)) eh_frame))
    where
      tree : (b r k l m x : Bool) → cond b (cond (cond r false (cond k true (cond l true false))) (cond m x true) true) false
          ≡ b && (not m || x || not (not r && (k || l)))
      tree false r k l m x = refl
      tree true true k l true true = refl
      tree true true k l true false = refl
      tree true true k l false x = refl
      tree true false true l true true = refl
      tree true false true l true false = refl
      tree true false true l false x = refl
      tree true false false true true true = refl
      tree true false false true true false = refl
      tree true false false true false x = refl
      tree true false false false true true = refl
      tree true false false false true false = refl
      tree true false false false false x = refl

-- ---- reached, by rounds and by paths

module _ (t : State) (lists marks : List ℕ) (entry : Option SymbolId) where
  abbrev lent : Lists
  lent = lists_of t.bytes t.names lists marks

  abbrev R : ℕ → Type 0
  R = Reached t.link lent t.symbols t.sections entry

  in-leads : (i y : ℕ) → lies_in t i y ≡ true → Leads t.link lent t.symbols t.sections i y
  in-leads i y e = leads-own t.link lent t.symbols t.sections i y (lies-leads t i y e)

  out-leads : (i y : ℕ) → Leads t.link lent t.symbols t.sections i y → lies_in t i y ≡ true
  out-leads i y l = leads-lies t i y (own-leads t.link lent t.symbols t.sections i y l)

  abbrev rounds : ℕ → ℕ → Bool
  rounds = reached_in t lists marks entry

  abbrev names : ℕ → ℕ → Bool
  names = names_in t lists marks entry

  entry-reached : (e : Option SymbolId) (y : ℕ) → entry ≡ e → is_entered t e y ≡ true → R y
  entry-reached None y q e = absurd (false≢true e)
  entry-reached (Some i) y q e = entered i.0 q (in-leads i.0 y e)

  start-reached : (y : ℕ) → is_start t lists marks entry y ≡ true → R y
  start-reached y e =
      let m = some (λ i. not (eqb (get_or marks i 0) 0) && lies_in t i y) 0 t.link.symbols in
      either (m || is_entered t entry y) (is_built t y && is_root t y) e
      (λ a.
      either m (is_entered t entry y) a
      (λ b.
      let k = some-among (λ i. not (eqb (get_or marks i 0) 0) && lies_in t i y) t.link.symbols 0 b in
      let p = both (not (eqb (get_or marks k.one 0) 0)) (lies_in t k.one y) k.so in
      marked k.one (λ z. false≢true (sym (not-true _ p.0) ∙ eq-eqb _ _ z)) (in-leads k.one y p.1))
      (λ b. entry-reached entry y refl b))
      (λ a. let q = root-own t.link lent t.symbols t.sections y (root_is t y ∙ a) in root q.0 q.1)

  names-named : (x y : ℕ) → names x y ≡ true → Names t.link lent t.symbols t.sections x y
  names-named x y e =
      let k = some-among (λ j. ltb (cell_at t.sections x 5 + j) t.link.lists && lies_in t (get_or lists (cell_at t.sections x 5 + j) 0) y) (cell_at t.sections x 6) 0 e in
      let p = both (ltb (cell_at t.sections x 5 + k.one) t.link.lists) (lies_in t (get_or lists (cell_at t.sections x 5 + k.one) 0) y) k.so in
      record { at = k.one; within = omega (arith, k.below); listed = ltb-true _ _ p.0; leads = in-leads _ y p.1 }

  named-names : (x y : ℕ) → Names t.link lent t.symbols t.sections x y → names x y ≡ true
  named-names x y r =
      among-some (λ j. ltb (cell_at t.sections x 5 + j) t.link.lists && lies_in t (get_or lists (cell_at t.sections x 5 + j) 0) y) (cell_at t.sections x 6) 0 r.at
      (omega arith) (omega (arith, r.within))
      (and-true _ _ (lt-ltb _ _ r.listed) (out-leads _ y r.leads))

  rounds-reached : (k y : ℕ) → rounds k y ≡ true → R y
  rounds-reached zero y e = start-reached y e
  rounds-reached (suc k) y e =
      either (rounds k y) _ e (λ a. rounds-reached k y a)
      (λ b.
      let m = some-among (λ x. is_built t x && rounds k x && names x y) t.link.sections 0 b in
      let p = both (is_built t m.one && rounds k m.one) (names m.one y) m.so in
      let q = both (is_built t m.one) (rounds k m.one) p.0 in
      step (rounds-reached k m.one q.1) (built-own t.link lent t.symbols t.sections m.one (built-is t m.one ∙ q.0)) (names-named m.one y p.1))

  started : (k y : ℕ) → is_start t lists marks entry y ≡ true → rounds k y ≡ true
  started zero y e = e
  started (suc k) y e = or-first (rounds k y) _ (started k y e)

  -- by a section that was reached before
  one_further : (k x y : ℕ) → x < t.link.sections → is_built t x ≡ true → rounds k x ≡ true → names x y ≡ true → rounds (suc k) y ≡ true
  one_further k x y p b r m =
      or-second (rounds k y) _
      (among-some (λ x. is_built t x && rounds k x && names x y) t.link.sections 0 x (omega arith) (omega arith) (and-true _ _ (and-true _ _ b r) m))

  abbrev built_in : ℕ → ℕ → Bool
  built_in k x = is_built t x && rounds k x

  rounds-stay : (k : ℕ) → ((x : ℕ) → x < t.link.sections → built_in (suc k) x ≡ true → built_in k x ≡ true)
      → (x : ℕ) → x < t.link.sections → built_in (suc (suc k)) x ≡ true → built_in (suc k) x ≡ true
  rounds-stay k h x p e =
      let b = both (is_built t x) (rounds (suc (suc k)) x) e in
      and-true (is_built t x) (rounds (suc k) x) b.0
      (either (rounds (suc k) x) _ b.1 (λ a. a)
      (λ a.
      let m = some-among (λ z. is_built t z && rounds (suc k) z && names z x) t.link.sections 0 a in
      let q = both (is_built t m.one && rounds (suc k) m.one) (names m.one x) m.so in
      let l : m.one < t.link.sections = omega (arith, m.below) in
      let r = both (is_built t m.one) (rounds k m.one) (h m.one l q.0) in
      one_further k m.one x l r.0 r.1 q.1))

  below : (x : ℕ) → is_built t x ≡ true → x < t.link.sections
  below x b = ltb-true _ _ (both (ltb x t.link.sections) (eqb (cell_at t.sections x 0) 2) b).0

  closed : (x y : ℕ) → is_reached t lists marks entry x ≡ true → is_built t x ≡ true → names x y ≡ true → is_reached t lists marks entry y ≡ true
  closed x y r b m =
      let s = still t.link.sections built_in (λ k x e. let d = both (is_built t x) (rounds k x) e in and-true (is_built t x) (rounds (suc k) x) d.0 (or-first (rounds k x) _ d.1)) rounds-stay in
      let d = both (is_built t x) (rounds t.link.sections x) (s x (below x b) (and-true (is_built t x) (rounds (suc t.link.sections) x) b r)) in
      one_further t.link.sections x y (below x b) b d.1 m

  present : (i y : ℕ) → lies_in t i y ≡ true → i < t.link.symbols
  present i y e =
      let p = both (is_placed t i) (eqb (section_of t i) y) e in
      let q = both (ltb i t.link.symbols && not (is_removed t i)) (eqb (cell_at t.symbols i 5) 2 || eqb (cell_at t.symbols i 5) 3 || eqb (cell_at t.symbols i 5) 4) p.0 in
      ltb-true _ _ (both (ltb i t.link.symbols) (not (is_removed t i)) q.0).0

  marked_start : (i y : ℕ) → (get_or marks i 0 ≡ 0 → ⊥) → lies_in t i y ≡ true → is_start t lists marks entry y ≡ true
  marked_start i y u l =
      or-first (m || is_entered t entry y) _ (or-first m (is_entered t entry y) (among-some (λ i. not (eqb (get_or marks i 0) 0) && lies_in t i y) t.link.symbols 0 i (omega arith) (omega (arith, present i y l)) (and-true _ _ (ap not (ne_eqb _ _ u)) l)))
    where
      m : Bool
      m = some (λ i. not (eqb (get_or marks i 0) 0) && lies_in t i y) 0 t.link.symbols

  reached-so : {w : ℕ} → R w → is_reached t lists marks entry w ≡ true
  reached-so {w} (marked i u l) = started (suc t.link.sections) w (marked_start i w u (out-leads i w l))
  reached-so {w} (entered i e l) =
      started (suc t.link.sections) w
      (or-first _ (is_built t w && is_root t w)
      (or-second (some (λ i. not (eqb (get_or marks i 0) 0) && lies_in t i w) 0 t.link.symbols) (is_entered t entry w)
      (ap (λ (e : Option SymbolId). is_entered t e w) e ∙ out-leads i w l)))
  reached-so {w} (root b e) =
      started (suc t.link.sections) w
      (or-second (some (λ i. not (eqb (get_or marks i 0) 0) && lies_in t i w) 0 t.link.symbols || is_entered t entry w) (is_built t w && is_root t w) (sym (root_is t w) ∙ own_root t.link lent t.symbols t.sections w b e))
  reached-so {w} (step {y} r b m) = closed y w (reached-so r) (sym (built-is t y) ∙ own-built t.link lent t.symbols t.sections y b) (named-names y w m)

  -- ---- those that aren't built

  -- a section that is reached and not built has a symbol that lies there
  symbol-there : {y : ℕ} → R y → is_built t y ≡ false → (i : ℕ) × (lies_in t i y ≡ true)
  symbol-there {y} (marked i u l) f = (i, out-leads i y l)
  symbol-there {y} (entered i e l) f = (i, out-leads i y l)
  symbol-there {y} (root b e) f = absurd (false≢true (sym f ∙ sym (built-is t y) ∙ own-built t.link lent t.symbols t.sections y b))
  symbol-there {y} (step r b m) f = (get_or lists (cell_at t.sections _ 5 + m.at) 0, out-leads _ y m.leads)

  abbrev lost : ℕ → Bool
  lost i = is_placed t i && is_reached t lists marks entry (section_of t i) && not (is_built t (section_of t i))

  abbrev from : ℕ → ℕ → List ℕ
  from = unbuilt_from t lists marks entry

  has-lost : (m i y : ℕ) → has (from m i) y ≡ true → R y × (is_built t y ≡ false)
  has-lost zero i y e = absurd (false≢true e)
  has-lost (suc m) i y e =
      by-test (lost i)
      (λ a.
      either (eqb (section_of t i) y) (has (from m (i + 1)) y) (rw a at e)
      (λ b.
      let p = both (is_placed t i && is_reached t lists marks entry (section_of t i)) (not (is_built t (section_of t i))) a in
      let q = both (is_placed t i) (is_reached t lists marks entry (section_of t i)) p.0 in
      subst (λ (y : ℕ). R y × (is_built t y ≡ false)) (eqb-true _ _ b) (rounds-reached (suc t.link.sections) (section_of t i) q.1, not-true _ p.1))
      (λ b. has-lost m (i + 1) y b))
      (λ a. has-lost m (i + 1) y (rw a at e))

  lost-has : (m i k : ℕ) → i ≤ k → k < i + m → lost k ≡ true → has (from m i) (section_of t k) ≡ true
  lost-has zero i k p q e = absurd (omega arith)
  lost-has (suc m) i k p q e =
      by-test (eqb i k) (λ a. let z : i ≡ k = eqb-true _ _ a in rw (z, e, eq-eqb (section_of t k) (section_of t k) refl))
      (λ a.
      let l = lost-has m (i + 1) k (later a p) (omega arith) e in
      by-test (lost i) (λ b. rw b (or-second (eqb (section_of t i) (section_of t k)) _ l)) (λ b. rw b l))
    where
      later : eqb i k ≡ false → i ≤ k → i + 1 ≤ k
      later a l =
          by-test (ltb i k) (λ b. let d : i < k = ltb-true _ _ b in omega arith)
          (λ b. let d : k ≤ i = ltb-false _ _ b in absurd (false≢true (sym a ∙ eq-eqb i k (omega arith))))

  abbrev all : List ℕ
  all = unbuilt t lists marks entry

  reached_has : (y : ℕ) → R y → is_built t y ≡ false → has all y ≡ true
  reached_has y r f =
      let s = symbol-there r f in
      let p = both (is_placed t s.0) (eqb (section_of t s.0) y) s.1 in
      let e : section_of t s.0 ≡ y = eqb-true _ _ p.1 in
      subst (λ (y : ℕ). has all y ≡ true) e
      (lost-has t.link.symbols 0 s.0 (omega arith) (omega (arith, present s.0 y s.1))
      (and-true _ _ (and-true _ _ p.0 (ap (is_reached t lists marks entry) e ∙ reached-so r)) (ap not (ap (is_built t) e ∙ f))))

-- ---- the lowest of a list

first-low : (ys : List ℕ) (y : ℕ) → lowest_of y ys ≤ y
first-low [] y = omega arith
first-low (z ∷ zs) y =
    by-test (ltb z y) (λ e. let h : z < y = ltb-true _ _ e in rw e (omega (arith, first-low zs z))) (λ e. rw e (first-low zs y))

all-low : (ys : List ℕ) (y k : ℕ) → has ys k ≡ true → lowest_of y ys ≤ k
all-low [] y k e = absurd (false≢true e)
all-low (z ∷ zs) y k e =
    either (eqb z k) (has zs k) e
    (λ a.
    let q : z ≡ k = eqb-true _ _ a in
    by-test (ltb z y) (λ b. rw b (omega (arith, first-low zs z)))
    (λ b. let h : y ≤ z = ltb-false _ _ b in rw b (omega (arith, first-low zs y))))
    (λ a. all-low zs (cond (ltb z y) z y) k a)

one_of : (ys : List ℕ) (y : ℕ) → eqb y (lowest_of y ys) || has ys (lowest_of y ys) ≡ true
one_of [] y = or-first (eqb y y) false (eq-eqb y y refl)
one_of (z ∷ zs) y =
    by-test (ltb z y) (λ e. rw e (or-second (eqb y (lowest_of z zs)) (eqb z (lowest_of z zs) || has zs (lowest_of z zs)) (one_of zs z)))
    (λ e.
    rw e
    (either (eqb y (lowest_of y zs)) (has zs (lowest_of y zs)) (one_of zs y) (λ a. or-first (eqb y (lowest_of y zs)) (eqb z (lowest_of y zs) || has zs (lowest_of y zs)) a)
    (λ a. or-second (eqb y (lowest_of y zs)) (eqb z (lowest_of y zs) || has zs (lowest_of y zs)) (or-second (eqb z (lowest_of y zs)) (has zs (lowest_of y zs)) a))))

lowest-in : (l : List ℕ) → is_some l ≡ true → has l (lowest l) ≡ true
lowest-in [] e = absurd (false≢true e)
lowest-in (y ∷ ys) e = one_of ys y

lowest-low : (l : List ℕ) (k : ℕ) → has l k ≡ true → lowest l ≤ k
lowest-low [] k e = absurd (false≢true e)
lowest-low (y ∷ ys) k e =
    either (eqb y k) (has ys k) e (λ a. let q : y ≡ k = eqb-true _ _ a in omega (arith, first-low ys y)) (λ a. all-low ys y k a)

has_some : (l : List ℕ) (k : ℕ) → has l k ≡ true → is_some l ≡ true
has_some [] k e = e
has_some (y ∷ ys) k e = refl

-- ---- the call

module _ (marks : List ℕ) (entry : Option SymbolId) (work : List ℕ) (s : Linked) where
  abbrev table : State
  table = s.table

  abbrev given : Lists
  given = lists_of table.bytes table.names s.lists marks

  abbrev after : Left
  after = run_of table.link given table.symbols table.sections entry work

  abbrev head : Refusal
  head = judged table.link given table.symbols table.sections work

  abbrev answer_said : Result Dropped Refusal → Refusal
  answer_said a = refused (Run.number_of a) (Run.place_of a)

  said-is : after.said ≡ Run.said_of after.answer
  unfolding run_of Run.collect_of Run.finished Run.sweep_of Run.purge_of
  said-is =
      by-test (eqb head.number 0)
      (λ e. rw e (go (Reach.walked table.link table.bytes table.names table.symbols table.sections s.lists marks entry work).visitor.unbuilt))
      (λ e. rw e)
    where
      go : (u : Option SectionId) → (Run.finish_of table.link table.symbols table.sections (Reach.walked table.link table.bytes table.names table.symbols table.sections s.lists marks entry work).work u).said
          ≡ Run.said_of (Run.finish_of table.link table.symbols table.sections (Reach.walked table.link table.bytes table.names table.symbols table.sections s.lists marks entry work).work u).answer
      go None = refl
      go (Some id) = refl

  pub head-exactly : head ≡ first_refusal (collect_head table s.lists marks work)
  unfolding Run.judge_of judge_cells
  head-exactly =
      headed ((ltb (length marks) table.link.symbols gives 1 at length marks) ∷ (ltb (length work / 2) table.link.sections gives 2 at 0) ∷ []) (λ (r : Refusal). r)
      (head_rules table.link (Run.lent_of (length table.bytes) (length table.names) (length table.symbols) (length table.sections) (length s.lists))) _ _ _ refl
      (head-rules table.link _) refl (λ e. refl)

  abbrev lost_ones : List ℕ
  lost_ones = unbuilt table s.lists marks entry

  unbuilt-own : (y : ℕ) → is_built table y ≡ false → Built table.link given table.symbols table.sections y → ⊥
  unbuilt-own y e b = false≢true (sym e ∙ sym (built-is table y) ∙ own-built table.link given table.symbols table.sections y b)

  own-unbuilt : (y : ℕ) → (Built table.link given table.symbols table.sections y → ⊥) → is_built table y ≡ false
  own-unbuilt y ne =
      by-test (Sections.is_built table.sections table.link.sections y) (λ b. absurd (ne (built-own table.link given table.symbols table.sections y b)))
      (λ b. sym (built-is table y) ∙ b)

  reached-exactly : head.number ≡ 0 → answer_said after.answer ≡ first_refusal (reached_rules table s.lists marks entry)
  reached-exactly ok =
      by-test (is_some lost_ones)
      (λ e.
      let y = lowest lost_ones in
      let p = has-lost table s.lists marks entry table.link.symbols 0 y (lowest-in lost_ones e) in
      let f = DemandLaws.passes table.link given table.symbols table.sections entry work ok y p.0 (unbuilt-own y p.1) in
      let l = DemandLaws.refuses table.link given table.symbols table.sections entry work f.0 f.1 in
      let m = lowest-low lost_ones f.0 (reached_has table s.lists marks entry f.0 l.reached (own-unbuilt f.0 l.unbuilt)) in
      let q : f.0 ≡ y = omega (arith, l.least y p.0 (unbuilt-own y p.1), m) in
      ap answer_said f.1 ∙ ap (refused 21) q ∙ sym (taken (refused 21 y) (refused 0 0) e))
      (λ e.
      let f =
      DemandLaws.accepts table.link given table.symbols table.sections entry work ok
      (λ y r. by-test (Sections.is_built table.sections table.link.sections y) (built-own table.link given table.symbols table.sections y)
      (λ b. absurd (false≢true (sym e ∙ has_some lost_ones y (reached_has table s.lists marks entry y r (sym (built-is table y) ∙ b)))))) in
      ap answer_said f.2 ∙ sym (left_out (refused 21 (lowest lost_ones)) (refused 0 0) e))

  pub collect-exactly : call_refusal (collect marks entry work) s ≡ first_refusal (collect_rules table s.lists marks entry work)
  unfolding run_of
  collect-exactly =
      follows (collect_head table s.lists marks work) (reached_rules table s.lists marks entry) head _ refl head-exactly
      (λ e. ap (λ (o : Left). refused o.said.number o.said.place) (left_out _ _ e))
      (λ e. ap (λ (a : Run.Said). refused a.number a.place) said-is ∙ reached-exactly (eqb-true _ _ e))
