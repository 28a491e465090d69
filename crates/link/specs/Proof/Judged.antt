-- Refusals as answers: of two judgements the first that refuses.
-- Assumes nothing.
use Rattle.std.specs.Prelude.{ℕ, ◌≡◌, refl, Bool, true, false, cond, eqb, ltb, Result, Ok, Err}
use Rattle.std.proofs.Common.{sym, ◌∙◌, eqb-true}
use Rattle.std.proofs.lemmas.Bool.{eqb-false}
use Rattle.link.specs.declared.Link.{Link}
use Rattle.link.specs.declared.Lent.{Lent}
use Rattle.link.specs.declared.cause.Refusal.{Refusal}
use Rattle.link.specs.Bounds.{name_bytes, symbol_rows, section_rows, input_rows}
use Rattle.link.specs.Judge.{refused, none, judged, within, judge_sections, judge_names, judge_lists, after_symbols, after_sections, judge_of}

-- the second judgement counts where the first refuses nothing
abbrev pub first : Refusal → Refusal → Refusal
first a b = cond (eqb a.number 0) b a

module _ (a b : Refusal) where
  pub first-stops : (r : Refusal) (t : Result Unit Refusal) → t ≡ Err r → judged a ≡ Err r → t ≡ judged (first a b)
  unfolding judged
  first-stops r t q e = go (eqb a.number 0) refl e
    where
      go : (u : Bool) → eqb a.number 0 ≡ u → cond {A = Result Unit Refusal} u (Ok tt) (Err a) ≡ Err r → t ≡ judged (cond u b a)
      go true d f = absurd (cc)
      go false d f = rw d (q ∙ sym f)

  pub first-goes : (u : Unit) (t : Result Unit Refusal) → t ≡ judged b → judged a ≡ Ok u → t ≡ judged (first a b)
  unfolding judged
  first-goes u t q e = go (eqb a.number 0) e
    where
      go : (v : Bool) → cond {A = Result Unit Refusal} v (Ok tt) (Err a) ≡ Ok u → t ≡ judged (cond v b a)
      go true f = q
      go false f = absurd (cc)

-- what a judgement as an answer says of its number
module _ (a : Refusal) where
  pub judged-err : (r : Refusal) → judged a ≡ Err r → r ≡ a
  unfolding judged
  judged-err r e = go (eqb a.number 0) e
    where
      go : (t : Bool) → cond {A = Result Unit Refusal} t (Ok tt) (Err a) ≡ Err r → r ≡ a
      go true f = absurd (cc)
      go false f = cc

  pub judged-refused : (r : Refusal) → judged a ≡ Err r → a.number ≡ 0 → ⊥
  unfolding judged
  judged-refused r e n = go (eqb a.number 0) refl e
    where
      go : (t : Bool) → eqb a.number 0 ≡ t → cond {A = Result Unit Refusal} t (Ok tt) (Err a) ≡ Err r → ⊥
      go true d f = cc
      go false d f = eqb-false _ _ d n

  pub judged-fine : (u : Unit) → judged a ≡ Ok u → a.number ≡ 0
  unfolding judged
  judged-fine u e = go (eqb a.number 0) refl e
    where
      go : (t : Bool) → eqb a.number 0 ≡ t → cond {A = Result Unit Refusal} t (Ok tt) (Err a) ≡ Ok u → a.number ≡ 0
      go true d f = eqb-true _ _ d
      go false d f = absurd (cc)

-- ---- the head, judgement by judgement

pub sections-first : (l : Link) (rows : ℕ) → judge_sections l rows ≡ first (within l.slots rows) (within l.sections (section_rows l.slots))
unfolding judge_sections
sections-first l rows = go (ltb rows l.slots)
  where
    go : (t : Bool) → cond t (refused 1 rows) (within l.sections (section_rows l.slots)) ≡ first (cond t (refused 1 rows) none) (within l.sections (section_rows l.slots))
    go true = refl
    go false = refl

pub lists-first : (l : Link) (inputs lists : ℕ) → judge_lists l inputs lists ≡ first (within l.inputs (input_rows inputs)) (within l.lists lists)
unfolding judge_lists
lists-first l inputs lists = go (ltb (input_rows inputs) l.inputs)
  where
    go : (t : Bool) → cond t (refused 1 (input_rows inputs)) (within l.lists lists) ≡ first (cond t (refused 1 (input_rows inputs)) none) (within l.lists lists)
    go true = refl
    go false = refl

pub names-first : (l : Link) (rows bytes : ℕ)
    → judge_names l rows bytes ≡ first (within l.chains rows) (first (within l.names l.chains) (within l.bytes (name_bytes bytes)))
unfolding judge_names
names-first l rows bytes = go (ltb rows l.chains) (ltb l.chains l.names)
  where
    go : (t u : Bool)
        → cond t (refused 1 rows) (cond u (refused 1 l.chains) (within l.bytes (name_bytes bytes)))
        ≡ first (cond t (refused 1 rows) none) (first (cond u (refused 1 l.chains) none) (within l.bytes (name_bytes bytes)))
    go true true = refl
    go true false = refl
    go false true = refl
    go false false = refl

pub head-first : (l : Link) (n : Lent)
    → judge_of l n
    ≡ first (judge_sections l n.sections) (first (within l.symbols (symbol_rows n.symbols)) (first (judge_names l n.names n.bytes) (judge_lists l n.inputs n.lists)))
unfolding judge_of after_sections after_symbols
head-first l n = go (ltb (symbol_rows n.symbols) l.symbols)
  where
    go : (t : Bool)
        → first (judge_sections l n.sections) (cond t (refused 1 (symbol_rows n.symbols)) (first (judge_names l n.names n.bytes) (judge_lists l n.inputs n.lists)))
        ≡ first (judge_sections l n.sections) (first (cond t (refused 1 (symbol_rows n.symbols)) none) (first (judge_names l n.names n.bytes) (judge_lists l n.inputs n.lists)))
    go true = refl
    go false = refl
