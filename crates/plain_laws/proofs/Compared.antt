-- The second collector beside the first: both find exactly what is reached (Reached.antt of gc_laws), so no walk is compared with the other. What the head
-- of the second adds is a count of the built rows.
-- Assumes nothing.
use Rattle.link.specs.declared.SymbolId.{SymbolId}
use Rattle.std.specs.Prelude.{ℕ, zero, suc, ◌+◌, ◌<◌, ◌≤◌, ◌≡◌, ◌↔◌, ◌≢◌, Bool, List, eqb, get_or, Option, None, Some, Ok, Err}
use Rattle.std.proofs.Common.{arith, zero-add, sym, ap, ◌∙◌, ⊎_elim}
use Rattle.std.proofs.Math.Path.{refl}
use Rattle.std.proofs.Math.Bool.{true, false, cond}
use borrow.Author.Tests.{eqb-true, eqb-false, eq-eqb, ne_eqb, lt-ltb, le-ltb, lt-leb}
use Rattle.cells.specs.Proof.Split.{by-test}
use Rattle.link.specs.declared.Link.{Link}
use Rattle.link.specs.declared.cause.Refusal.{Refusal}
use Rattle.link.specs.declared.SectionId.{SectionId}
use Rattle.link.specs.Judge.{refused}
use Rattle.sections.specs.Rows.{state_at, is_built, built_state}
use Rattle.gc_sections.specs.Each.{each}
use Rattle.gc_sections.specs.Reach.{Walk, walked}
use Rattle.gc_sections.specs.Run.{Left, left, Lists, finish_of, judged, run_of, dropped}
use Rattle.plain_collector.specs.Visit.{Visited, reached_of}
use Rattle.plain_collector.specs.Run.{count_one, count_built, judge_plain, judged_plain, finished, plain_of}
use Rattle.plain_collector.specs.Proof.Head.{judge-passed}
use Rattle.gc_laws.specs.Reached.{Built, Reached}
use Rattle.gc_laws.proofs.Paint.{each_last}
use Rattle.gc_laws.proofs.Head.{work-fits, run_is}
use Rattle.gc_laws.proofs.Exact as First
use Rattle.gc_laws.proofs.Terms as DemandLaws
use Rattle.plain_laws.specs.BuiltRows.{how_many, built_rows, FewBuilt}
use Rattle.plain_laws.specs.Visits.{Exact}
use Rattle.plain_laws.proofs.Visits as Second
use Rattle.plain_laws.specs.Agrees.{Agrees}
use Rattle.plain_laws.proofs.Agrees.{finish-same}
use Rattle.plain_laws.proofs.AgreesLemmas.{agrees-same}

-- ---- "built sections not dropped"

count-one : (sections : List ℕ) (n k c : ℕ) → k < n → count_one sections n k c ≡ cond (eqb (state_at sections k) built_state) (suc c) c
unfolding count_one is_built
count-one sections n k c h = rw (lt-leb _ _ h) (go (eqb (state_at sections k) 2))
  where
    go : (b : Bool) → cond (cond b true false) (c + 1) c ≡ cond b (suc c) c
    go true = omega arith
    go false = refl

none-counted : (sections : List ℕ) (n : ℕ) → each (count_one sections n) 0 0 0 ≡ 0
unfolding each
none-counted sections n = refl

counted : (sections : List ℕ) (n k : ℕ) → k ≤ n → each (count_one sections n) k 0 0 ≡ how_many (λ y. eqb (state_at sections y) built_state) k
counted sections n zero h = none-counted sections n
counted sections n (suc k) h =
    each_last (count_one sections n) k 0 0 ∙ ap (λ (m : ℕ). count_one sections n m (each (count_one sections n) k 0 0)) (zero-add k) ∙ ap (count_one sections n k) (counted sections n k (omega arith))
    ∙ count-one sections n k (how_many (λ y. eqb (state_at sections y) built_state) k) (omega arith)

pub count-is : (l : Link) (sections : List ℕ) → count_built sections l.sections ≡ built_rows l sections
unfolding count_built
count-is l sections = counted sections l.sections l.sections (omega arith)

broken-stays : (h : Refusal) (built : ℕ) → h.number ≡ 22 → judge_plain h built ≡ h
unfolding judge_plain
broken-stays h built e = rw (eq-eqb _ _ e)

short-stays : (h : Refusal) (built : ℕ) → h.number ≡ 1 → judge_plain h built ≡ h
unfolding judge_plain
short-stays h built e = rw (ne_eqb _ _ (λ (z : h.number ≡ 22). eqb-false 1 22 refl (sym e ∙ z)), eq-eqb _ _ e)

module _ (l : Link) (x : Lists) (symbols sections : List ℕ) (entry : Option SymbolId) (work : List ℕ) where
  abbrev n : ℕ
  n = l.sections

  abbrev head : Refusal
  head = judged l x symbols sections work

  abbrev first : Left
  first = run_of l x symbols sections entry work

  abbrev second : Left
  second = plain_of l x symbols sections entry work

  abbrev R : ℕ → Type 0
  R = Reached l x symbols sections entry

  -- ---- both are exact, so they agree

  module _ (ok : head.number ≡ 0) where
    abbrev w : Walk
    w = walked l x.bytes x.names symbols sections x.lists x.marks entry work

    abbrev v : Visited
    v = reached_of l x.bytes x.names symbols sections x.lists x.marks entry work

    one : First.Exact l x symbols sections entry w
    one = First.exact l x symbols sections entry work (work-fits l x symbols sections work ok)

    two : Exact l x symbols sections entry v
    two = Second.exact l x symbols sections entry work (omega (arith, work-fits l x symbols sections work ok))

    same-cell : (y : ℕ) → y < n → get_or v.work y 0 ≡ get_or w.work y 0
    same-cell y h =
        ⊎_elim
        (λ z. ⊎_elim (λ u. z ∙ sym u) (λ m. let p = one.good.sound y h m in absurd (differ ((two.all y p.0).mark p.1) z)) (one.good.bit y h))
        (λ m. let p = two.good.sound y h m in m ∙ sym ((one.all y p.0).mark p.1))
        (two.good.bit y h)
      where
        differ : {k : ℕ} → k ≡ 1 → k ≡ 0 → ⊥
        differ a b = omega arith

    same-unbuilt : v.unbuilt ≡ w.visitor.unbuilt
    same-unbuilt = go v.unbuilt w.visitor.unbuilt refl refl
      where
        nobody : (id : SectionId) → None ≡ Some id → ⊥
        nobody id e = let z : ◌≡◌ {A = ℕ} 0 1 = cc in omega arith

        go : (a b : Option SectionId) → v.unbuilt ≡ a → w.visitor.unbuilt ≡ b → a ≡ b
        go None None d e = refl
        go None (Some j) d e =
            let p = one.good.lowest j e in
            let f = (two.all j.0 p.0).low p.1 in
            absurd (nobody f.0 (sym d ∙ f.1))
        go (Some i) None d e =
            let p = two.good.lowest i d in
            let f = (one.all i.0 p.0).low p.1 in
            absurd (nobody f.0 (sym e ∙ f.1))
        go (Some i) (Some j) d e =
            let p = one.good.lowest j e in
            let f = (two.all j.0 p.0).low p.1 in
            let q = two.good.lowest i d in
            let g = (one.all i.0 q.0).low q.1 in
            let a : Some i ≡ Some f.0 = sym d ∙ f.1 in
            let b : Some j ≡ Some g.0 = sym e ∙ g.1 in
            let c : i ≡ f.0 = cc in
            let k : j ≡ g.0 = cc in
            let s : i.0 ≡ j.0 = omega (arith, f.2, g.2, ap (λ (m : SectionId). m.0) c, ap (λ (m : SectionId). m.0) k) in
            ap (λ (m : ℕ). Some (record { 0 = m })) s

    ends-agree : Agrees n (finish_of l symbols sections v.work v.unbuilt) (finish_of l symbols sections w.work w.visitor.unbuilt)
    ends-agree =
        rw same-unbuilt
        (finish-same l symbols sections v.work w.work same-cell two.good.room (omega (arith, one.good.room)) w.visitor.unbuilt)

  -- ---- the head

  module _ (few : FewBuilt l sections) where
    head-same : judged_plain l x symbols sections work ≡ head
    unfolding judge_plain
    head-same = rw (count-is l sections, le-ltb _ _ few) (go (eqb head.number 22) (eqb head.number 1))
      where
        go : (a b : Bool) → cond a head (cond b head head) ≡ head
        go true b = refl
        go false true = refl
        go false false = refl

    second_is : (ok : head.number ≡ 0) → second ≡ finish_of l symbols sections (v ok).work (v ok).unbuilt
    unfolding plain_of finished
    second_is ok = rw (head-same, eq-eqb _ _ ok)

    refused-both : (head.number ≡ 0 → ⊥) → second ≡ first
    unfolding plain_of run_of
    refused-both ne = rw (head-same, ne_eqb _ _ ne)

    -- up to 256: the same
    pub plain-agrees : Agrees n second first
    plain-agrees =
        by-test (eqb head.number 0)
        (λ t. let ok : head.number ≡ 0 = eqb-true _ _ t in rw (second_is ok, run_is l x symbols sections work ok entry) (ends-agree ok))
        (λ t. agrees-same n second first (refused-both (eqb-false _ _ t)))

  head-stays : judged_plain l x symbols sections work ≡ head → (head.number ≡ 0 → ⊥) → second ≡ left symbols sections work l (Err head)
  unfolding plain_of
  head-stays e ne = rw (e, ne_eqb _ _ ne)

  -- more: 22 and 1 as the first has them, else 30 at place 0; everything is left, and the link isn't broken
  module _ (many : 256 < built_rows l sections) where
    pub plain-broken : head.number ≡ 22 → second ≡ left symbols sections work l (Err head)
    plain-broken e = head-stays (broken-stays head (count_built sections n) e) (λ z. eqb-false 22 0 refl (sym e ∙ z))

    pub plain-short : head.number ≡ 1 → second ≡ left symbols sections work l (Err head)
    plain-short e = head-stays (short-stays head (count_built sections n) e) (λ z. eqb-false 1 0 refl (sym e ∙ z))

    pub plain-thirty : head.number ≢ 22 → head.number ≢ 1 → second ≡ left symbols sections work l (Err (refused 30 0))
    unfolding plain_of judge_plain
    plain-thirty a b = rw (ne_eqb _ _ a, ne_eqb _ _ b, count-is l sections, lt-ltb _ _ many)

  -- ---- demand 3 of the second collector

  unlike : (a b : ℕ) (q : Refusal) → Ok (dropped a b) ≡ Err q → ⊥
  unlike a b q d = let z : ◌≡◌ {A = ℕ} 0 1 = cc in omega arith

  refused-so : eqb (judged_plain l x symbols sections work).number 0 ≡ false → second.answer ≡ Err (judged_plain l x symbols sections work)
  unfolding plain_of
  refused-so t = rw t

  accepted-few : (a b : ℕ) → second.answer ≡ Ok (dropped a b) → built_rows l sections ≤ 256
  accepted-few a b e =
      by-test (eqb (judged_plain l x symbols sections work).number 0)
      (λ t. let p = judge-passed head (count_built sections n) (eqb-true _ _ t) in omega (arith, p.1, count-is l sections))
      (λ t. absurd (unlike a b (judged_plain l x symbols sections work) (sym e ∙ refused-so t)))

  -- not refused: a section is there after the call exactly if it is reached
  pub plain-keeps : (a b : ℕ) → second.answer ≡ Ok (dropped a b) → (y : ℕ) → Built l x second.symbols second.sections y ↔ R y
  plain-keeps a b e y =
      let s = plain-agrees (accepted-few a b e) in
      let k = DemandLaws.keeps l x symbols sections entry work a b (sym s.answer ∙ e) in
      rw (s.symbols, s.sections) (k.reached y, k.kept y)
