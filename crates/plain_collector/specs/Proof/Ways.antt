-- The ways through the functions.
-- Assumes nothing.
use Prim.Native.Nat.{ℕ, suc, ◌+◌, ◌-◌, ◌/◌, ◌<◌, ◌≤◌}
use native.Mathlib.Omega.{arith}
use Rattle.std.specs.Prelude.{◌≡◌, refl, Bool, true, false, cond, List, eqb, ltb, set, length, Option, Result, None, Some, Ok, Err}
use Rattle.std.proofs.Math.Path.{sym, ap}
use Rattle.std.proofs.Common.{◌∙◌}
use Rattle.std.proofs.Math.ListN.{get_or}
use borrow.Author.Tests.{eq-eqb, ne_eqb, lt-ltb, le-ltb, eqb-true, eqb-false, ltb-false}
use Rattle.cells.specs.Proof.Split.{by-test}
use Rattle.link.specs.declared.Link.{Link}
use Rattle.link.specs.declared.Lent.{Lent}
use Rattle.link.specs.declared.cause.Refusal.{Refusal}
use Rattle.link.specs.declared.SymbolId.{SymbolId}
use Rattle.link.specs.declared.SectionId.{SectionId}
use Rattle.link.specs.Judge.{refused, change_of, judged}
use Rattle.link.specs.Proof.Judged.{judged-err, judged-refused, judged-fine}
use Rattle.sections.specs.Rows.{first_at, count_at, is_built}
use Rattle.gc_sections.specs.Each.{each}
use Rattle.gc_sections.specs.Proof.EachWays.{each_on, each-end}
use Rattle.gc_sections.specs.Roots.{symbol_id, lead_of}
use Rattle.gc_sections.specs.Reach.{lower_of, end_of}
use Rattle.gc_sections.specs.Run.{Left, left, Lists, judge_cells, judge_of, finish_of, work_width}
use Rattle.gc_sections.specs.Proof.RunWays.{never}
use Rattle.plain_collector.specs.Visit.{Visited, visited_of, unvisited, visit_of, visited, marked_lead, root_lead, root_symbol, root_section, reached_of}
use Rattle.plain_collector.specs.Proof.Depth.{built-falls, relocation_to, visit-is, visit-less, depths}
use Rattle.plain_collector.specs.Proof.Head.{judge-passed}
use Rattle.gc_sections.specs.declared.graph.Graph.{Graph}
use Rattle.gc_sections.specs.declared.Tables.{Tables}
use Rattle.gc_sections.specs.declared.Read.{Read}
use Rattle.gc_sections.specs.Tables.{Shows}
use Rattle.plain_collector.specs.Graph.{entry_lead_in, symbol_in, section_in, reached_in, first_in}
use Rattle.plain_collector.specs.Visitor.{visited_in, rooted_in}
use Rattle.plain_collector.specs.Run.{judged_plain, count_one, judge_plain, finished, plain_of, most_built}

-- ---- a visit

module _ (l : Link) (symbols sections lists : List ℕ) where
  module _ (k : Option SectionId) (s t : Visited) where
    pub visit-nowhere : k ≡ None → t ≡ s → t ≡ visited l symbols sections lists k s
    unfolding visited
    visit-nowhere e q = q ∙ sym (rw e (visit-is l symbols sections lists _ None s))

    module _ (id : SectionId) (b : Bool) where
      pub visit-unbuilt : (u : Option SectionId) → k ≡ Some id → b ≡ is_built sections l.sections id.0 → b ≡ false → u ≡ lower_of s.unbuilt id → t ≡ visited_of s.work u
          → t ≡ visited l symbols sections lists k s
      unfolding visited
      visit-unbuilt u e f g h q = rw (e, visit-is l symbols sections lists (unvisited l.sections s.work) (Some id) s, ← f, g, q, h)

      module _ (a : ℕ) where
        pub visit-again : k ≡ Some id → b ≡ is_built sections l.sections id.0 → b ≡ true → a ≡ get_or s.work id.0 0 → (a ≡ 0 → ⊥) → t ≡ s
            → t ≡ visited l symbols sections lists k s
        unfolding visited
        visit-again e f g h z q = rw (e, visit-is l symbols sections lists (unvisited l.sections s.work) (Some id) s, ← f, g, ← h, ne_eqb _ _ z, q)

        -- a section that is marked: the loop over its relocations
        pub visit-new : (w : List ℕ) (first count end j : ℕ) → l.sections ≤ length s.work → k ≡ Some id → b ≡ is_built sections l.sections id.0 → b ≡ true
            → a ≡ get_or s.work id.0 0 → a ≡ 0 → w ≡ set s.work id.0 1 → first ≡ first_at sections id.0 → count ≡ count_at sections id.0
            → end ≡ end_of l.lists first count → end ≤ j
            → each (relocation_to l symbols sections lists (unvisited l.sections w)) (end - first) first (visited_of w s.unbuilt)
            ≡ each (relocation_to l symbols sections lists (unvisited l.sections w)) (end - j) j t
            → t ≡ visited l symbols sections lists k s
        unfolding visited
        visit-new w first count end j h e f g i z q r c d m p =
            let zero-at : get_or s.work id.0 0 ≡ 0 = sym i ∙ z in
            let falls : unvisited l.sections s.work ≡ suc (unvisited l.sections w) =
            rw q (sym (built-falls sections l.sections s.work id.0 h (sym f ∙ g) zero-at)) in
            each-end (relocation_to l symbols sections lists (unvisited l.sections w)) end j t _ m p
            ∙ rw (e, falls, visit-is l symbols sections lists (suc (unvisited l.sections w)) (Some id) s, ← f, g, eq-eqb _ _ zero-at, ← q, ← r, ← c, ← d)

    pub visit-lessens : l.sections ≤ length s.work → t ≡ visited l symbols sections lists k s → unvisited l.sections t.work ≤ unvisited l.sections s.work
    unfolding visited
    visit-lessens h q = rw q (visit-less l symbols sections lists _ k s h).1

  -- a turn of the loop
  pub turn_on : (depth end j id : ℕ) (k : Option SectionId) (s t w : Visited) → l.sections ≤ length s.work → unvisited l.sections s.work ≤ depth → j < end
      → id ≡ get_or lists j 0 → k ≡ lead_of symbols l.symbols (symbol_id id) → t ≡ visited l symbols sections lists k s
      → w ≡ each (relocation_to l symbols sections lists depth) (end - j) j s → w ≡ each (relocation_to l symbols sections lists depth) (end - (j + 1)) (j + 1) t
  unfolding visited
  turn_on depth end j id k s t w h u m e f q p =
      each_on (relocation_to l symbols sections lists depth) end j s w t m
      (q ∙ depths l symbols sections lists _ depth k s h (omega arith) u ∙ ap (λ (k : Option SectionId). visit_of l symbols sections lists depth k s) (f ∙ ap (λ (i : ℕ). lead_of symbols l.symbols (symbol_id i)) e)) p

-- fewer sections are unvisited at the calls for a section's relocations
pub visit-falls : (t n : ℕ) (sections w m v : List ℕ) (y a : ℕ) (b : Bool) → unvisited n w ≡ t → n ≤ length w → b ≡ is_built sections n y → b ≡ true → a ≡ get_or w y 0 → a ≡ 0
    → m ≡ set w y 1 → unvisited n v ≤ unvisited n m → unvisited n v < t
visit-falls t n sections w m v y a b e h f g i z q u =
    omega (arith, built-falls sections n w y h (sym f ∙ g) (sym i ∙ z), ap (unvisited n) q)

pub visit-long : (n a b c : ℕ) → n ≤ a → b ≡ a → c ≡ b → n ≤ c
visit-long n a b c h q e = omega arith

-- ---- roots

module _ (l : Link) (symbols sections lists : List ℕ) (k : Option SectionId) (i : ℕ) (s t : Visited) where
  pub symbol-turn : (marks : List ℕ) → k ≡ marked_lead symbols l.symbols marks i → t ≡ visited l symbols sections lists k s → t ≡ root_symbol l symbols sections lists marks i s
  unfolding root_symbol
  symbol-turn marks e q = q ∙ ap (λ (k : Option SectionId). visited l symbols sections lists k s) e

  pub section-turn : (bytes names : List ℕ) → k ≡ root_lead bytes names sections l.sections i → t ≡ visited l symbols sections lists k s
      → t ≡ root_section l bytes names symbols sections lists i s
  unfolding root_section
  section-turn bytes names e q = q ∙ ap (λ (k : Option SectionId). visited l symbols sections lists k s) e

pub roots-all : (g : Graph) (entry : Option SymbolId) (s a b t : Visited) (k : Option SectionId) → a ≡ each (symbol_in g) g.link.symbols 0 s
    → b ≡ each (section_in g) g.link.sections 0 a → k ≡ entry_lead_in g entry → t ≡ visited_in g k b → t ≡ rooted_in g entry s
roots-all g entry s a b t k d e f q = simp (q, f, e, d)

-- ---- the call

module _ (sections : List ℕ) (n i count t : ℕ) (b : Bool) where
  pub one-built : b ≡ is_built sections n i → b ≡ true → t ≡ count + 1 → t ≡ count_one sections n i count
  unfolding count_one
  one-built e f q = simp (q, ← e, f)

  pub one-other : b ≡ is_built sections n i → b ≡ false → t ≡ count → t ≡ count_one sections n i count
  unfolding count_one
  one-other e f q = simp (q, ← e, f)

module _ (head : Refusal) (built : ℕ) (t : Result Unit Refusal) where
  many : first_in (judged head) ≡ false → most_built < built → judge_plain head built ≡ refused 30 0
  unfolding judged judge_plain
  many e h = go (eqb head.number 0) refl e
    where
      pick : (u v : Bool) → cond u true v ≡ false → cond u head (cond v head (cond (ltb most_built built) (refused 30 0) head)) ≡ refused 30 0
      pick true v f = absurd (cc)
      pick false true f = absurd (cc)
      pick false false f = rw (lt-ltb _ _ h)

      go : (z : Bool) → eqb head.number 0 ≡ z → first_in (cond {A = Result Unit Refusal} z (Ok tt) (Err head)) ≡ false
          → cond (eqb head.number 22) head (cond (eqb head.number 1) head (cond (ltb most_built built) (refused 30 0) head)) ≡ refused 30 0
      go true d f = rw (eqb-true _ _ d, lt-ltb _ _ h)
      go false d f = pick (eqb head.number 22) (eqb head.number 1) f

  pub plain-many : first_in (judged head) ≡ false → most_built < built → t ≡ Err (refused 30 0) → t ≡ judged (judge_plain head built)
  unfolding judged
  plain-many e h q = q ∙ sym (ap judged (many e h))

  first : first_in (judged head) ≡ true → judge_plain head built ≡ head
  unfolding judged judge_plain
  first e = go (eqb head.number 0) e
    where
      pick : (u v w : Bool) → cond u true v ≡ true → cond u head (cond v head (cond w (refused 30 0) head)) ≡ head
      pick true v w f = refl
      pick false true w f = refl
      pick false false w f = absurd (cc)

      go : (z : Bool) → first_in (cond {A = Result Unit Refusal} z (Ok tt) (Err head)) ≡ true
          → cond (eqb head.number 22) head (cond (eqb head.number 1) head (cond (ltb most_built built) (refused 30 0) head)) ≡ head
      go true f = absurd (cc)
      go false f = pick (eqb head.number 22) (eqb head.number 1) (ltb most_built built) f

  pub plain-first : first_in (judged head) ≡ true → t ≡ judged head → t ≡ judged (judge_plain head built)
  plain-first e q = q ∙ sym (ap judged (first e))

  few : built ≤ most_built → judge_plain head built ≡ head
  unfolding judge_plain
  few h = rw (le-ltb _ _ h) (pick (eqb head.number 22) (eqb head.number 1))
    where
      pick : (u v : Bool) → cond u head (cond v head head) ≡ head
      pick true v = refl
      pick false true = refl
      pick false false = refl

  pub plain-few : built ≤ most_built → t ≡ judged head → t ≡ judged (judge_plain head built)
  plain-few h q = q ∙ sym (ap judged (few h))

module _ (l : Link) (x : Lists) (symbols sections work : List ℕ) (entry : Option SymbolId) (t : Left) where
  pub run-refused : (r : Refusal) → judged (judged_plain l x symbols sections work) ≡ Err r → t ≡ left symbols sections work l (Err r)
      → t ≡ plain_of l x symbols sections entry work
  unfolding plain_of
  run-refused r e q = simp (ne_eqb _ _ (judged-refused _ r e), ← judged-err _ r e) q

  pub run-done : (u : Unit {0}) (s : Visited) → judged (judged_plain l x symbols sections work) ≡ Ok u
      → s ≡ reached_of l x.bytes x.names symbols sections x.lists x.marks entry work → t ≡ finish_of l symbols sections s.work s.unbuilt
      → t ≡ plain_of l x symbols sections entry work
  unfolding plain_of finished
  run-done u s e f q = simp (eq-eqb _ _ (judged-fine _ u e), ← f) q

-- over a graph of the tables
pub reached-shown : (t : Tables) (r : Read) (g : Graph) (entry : Option SymbolId) (work : List ℕ) → Shows t r g
    → reached_in g entry work ≡ reached_of t.link r.bytes.now r.names.now t.symbols.now t.sections.now r.lists.now r.marks.now entry work
reached-shown t r g entry work s = simp (s.link, s.bytes, s.names, s.symbols, s.sections, s.lists, s.marks)

-- ---- what passing the head gives

module _ (l : Link) (n : Lent) (marks work : ℕ) where
  cells-passed : (judge_of l n marks work).number ≡ 0 → (judge_cells l marks work).number ≡ 0
  unfolding judge_of
  cells-passed e = by-test (eqb (change_of l n).number 0) (λ t. rw t at e) (λ t. absurd (eqb-false _ _ t (rw t at e)))

  cells-lent : (judge_cells l marks work).number ≡ 0 → l.sections ≤ work
  unfolding judge_cells
  cells-lent e =
      let a = never (ltb marks l.symbols) (refused 1 marks) (cond (ltb (work / work_width) l.sections) (refused 2 0) (refused 0 0)) (λ q. omega arith) e in
      let b = never (ltb (work / work_width) l.sections) (refused 2 0) (refused 0 0) (λ q. omega arith) a.1 in
      let c : l.sections ≤ work / work_width = ltb-false _ _ b.0 in omega arith

  pub work-lent : (head : Refusal) (built : ℕ) → head ≡ judge_plain (judge_of l n marks work) built → head.number ≡ 0 → l.sections ≤ work
  work-lent head built f z = cells-lent (cells-passed (judge-passed (judge_of l n marks work) built (rw (← f) z)).0)
