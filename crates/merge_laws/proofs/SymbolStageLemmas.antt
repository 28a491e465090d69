-- Laws of the definitions of SymbolStage.antt.
-- Assumes nothing.
use Rattle.std.specs.Prelude.{ℕ, zero, suc, ◌+◌, ◌≡◌, cond, List, eqb, length}
use Rattle.std.proofs.Math.Path.{refl}
use Rattle.std.proofs.Common.{ap, ◌∙◌, length-set}
use Rattle.cells.specs.Proof.Split.{by-test}
use Rattle.link.specs.declared.Link.{Link}
use Rattle.link.specs.declared.Interned.{Interned}
use Rattle.link.specs.Counts.{with_symbols}
use Rattle.strings.specs.Lookup.{Looked}
use Rattle.interner.specs.Names.{Store, store_of, keep_of}
use Rattle.symbol.specs.declared.Row.{Row}
use Rattle.symbol_resolution.specs.Decision.{Decision}
use Rattle.symbol_resolution.specs.Decide.{section_cell, refusal_of}
use Rattle.symbol_resolution.specs.Apply.{Table, table_of, set_section_symbol, note_section, append_of, apply_of}
use Rattle.symbol_resolution.specs.Proof.Outcomes.{decision-left}
use Rattle.elf_object.specs.Rows.{rows_in, field, name_in}
use Rattle.merge_symbols.specs.Plan.{Planned}
use Rattle.merge_symbols.specs.Plan.{input_of, planned_of}
use Rattle.section_groups.specs.Filter.{dropped_at}
use Rattle.merge_symbols.specs.Stage.{Object, accept_row, kept_of, commit_of, view, symbol_named, looked_of, symbol_of, symbols_from, symbols_of}
use Rattle.merge_symbols.specs.Stage as Symbols
use Rattle.merge_laws.specs.Steps.{Makes}
use Rattle.merge_laws.proofs.Steps.{makes_none}
use Rattle.merge_laws.specs.Loop.{loop_steps}
use Rattle.merge_laws.proofs.Loop.{loop, loop-makes, loop-holds}
use Rattle.merge_laws.specs.MergeSteps.{looked_steps, symbol_steps}
use Rattle.merge_laws.specs.SymbolStage.{table_in, number_of}
use Rattle.merge_laws.proofs.SymbolStage.{id, named-makes}

looked-makes : (o : Object) (s : Symbols.State) (i : ℕ) (x : Looked) → Makes (table_in s) (looked_steps o s i x) (table_in (looked_of o s i x))
unfolding looked_of
looked-makes o s i x =
    by-test x.found (λ t. rw t (named-makes (input_of o.entries o.work) s x.name i)) (λ t. rw t (makes_none (table_in s)))

pub symbol-makes : (o : Object) (s : Symbols.State) (i : ℕ) → Makes (table_in s) (symbol_steps o s i) (table_in (symbol_of o s i))
unfolding symbol_of symbol_steps
symbol-makes o s i =
    by-test (dropped_at s.stage.link.gabi o.work o.entries i) (λ d. rw d (makes_none (table_in s)))
    (λ d. rw d (looked-makes o s i (name_in o.headers o.image o.symbol_names (field o.entries i 0))))

pub symbols-loop : (o : Object) (n i : ℕ) (s : Symbols.State) → symbols_from o n i s ≡ loop number_of (symbol_of o) n i s
unfolding symbols_from
symbols-loop o zero i s = refl
symbols-loop o (suc n) i s =
    ap (λ (t : Symbols.State). cond (eqb (symbol_of o s i).stage.number 0) t (symbol_of o s i)) (symbols-loop o n (i + 1) (symbol_of o s i))

pub symbols-make-to : (o : Object) (n : ℕ) (s : Symbols.State)
    → Makes (table_in s) (loop_steps number_of (symbol_of o) (symbol_steps o) n 0 s) (table_in (symbols_from o n 0 s))
symbols-make-to o n s =
    rw (symbols-loop o n 0 s)
    (loop-makes number_of (symbol_of o) (symbol_steps o) table_in (λ s. Unit {0}) (λ s i h. tt) (λ s i h. symbol-makes o s i) n 0 s tt)

pub symbols-make : (o : Object) (s : Symbols.State)
    → Makes (table_in s) (loop_steps number_of (symbol_of o) (symbol_steps o) (rows_in o.entries) 0 s) (table_in (symbols_of o s))
unfolding symbols_of
symbols-make o s = symbols-make-to o (rows_in o.entries) s

-- ---- the list of sections keeps its length

pub noted-long : (k : Link) (l : List ℕ) (r : Row) (id : ℕ) → length (note_section k l r id) ≡ length l
unfolding note_section set_section_symbol
noted-long k l r id =
    by-test (eqb r.scope 0)
    (λ a. by-test (eqb r.value.kind 2) (λ b. rw (a, b) (length-set l (section_cell k (length l) r.value.a) id)) (λ b. rw (a, b))) (λ a. rw a)

pub applied-long : (t : Table) (r : Row) (d : Decision) → length (apply_of t r d).sections ≡ length t.sections
unfolding append_of
applied-long t r d =
    decision-left (λ (u : Table). length u.sections ≡ length t.sections) t r refl (noted-long t.link t.sections r t.link.symbols) (λ id x. refl) d

pub symbol-long : (o : Object) (s : Symbols.State) (i : ℕ) → length (symbol_of o s i).sections ≡ length s.sections
unfolding symbol_of looked_of symbol_named commit_of kept_of accept_row
symbol-long o s i =
    let x : Looked = name_in o.headers o.image o.symbol_names (field o.entries i 0) in
    let p : Planned = planned_of (view s) (input_of o.entries o.work) x.name i s.stage.file in
    let k : Store = keep_of (store_of s.bytes s.names s.stage.link) p.id x.name in
    by-test (dropped_at s.stage.link.gabi o.work o.entries i) (λ d. rw d)
    (λ d.
    by-test x.found
    (λ a.
    by-test (eqb (refusal_of p.decision) 2) (λ b. rw (d, a, b))
    (λ b.
    by-test (eqb (refusal_of p.decision) 0)
    (λ c. rw (d, a, b, c) (applied-long (table_of k.names s.symbols s.sections k.link) p.row p.decision)) (λ c. rw (d, a, b, c))))
    (λ a. rw (d, a)))

pub symbols-long : (o : Object) (s : Symbols.State) → length (symbols_of o s).sections ≡ length s.sections
unfolding symbols_of
symbols-long o s =
    rw (symbols-loop o (rows_in o.entries) 0 s)
    (loop-holds number_of (symbol_of o) (λ t. length t.sections ≡ length s.sections) (λ t i e. symbol-long o t i ∙ e) (rows_in o.entries) 0 s refl)

-- ---- what names and symbols don't touch of the link stays

module _ {A : Type 0} (count : Link → A) (same : (s : Store) (id : Interned) (x : List ℕ) → count (keep_of s id x).link ≡ count s.link)
    (also : (l : Link) (n : ℕ) → count (with_symbols l n) ≡ count l) where
  pub applied-count : (t : Table) (r : Row) (d : Decision) → count (apply_of t r d).link ≡ count t.link
  unfolding append_of
  applied-count t r d = decision-left (λ (u : Table). count u.link ≡ count t.link) t r refl (also t.link _) (λ id x. refl) d

  symbol-count : (o : Object) (s : Symbols.State) (i : ℕ) → count (symbol_of o s i).stage.link ≡ count s.stage.link
  unfolding symbol_of looked_of symbol_named commit_of kept_of accept_row
  symbol-count o s i =
      let x : Looked = name_in o.headers o.image o.symbol_names (field o.entries i 0) in
      let p : Planned = planned_of (view s) (input_of o.entries o.work) x.name i s.stage.file in
      let st : Store = store_of s.bytes s.names s.stage.link in
      let k : Store = keep_of st p.id x.name in
      by-test (dropped_at s.stage.link.gabi o.work o.entries i) (λ d. rw d)
      (λ d.
      by-test x.found
      (λ a.
      by-test (eqb (refusal_of p.decision) 2) (λ b. rw (d, a, b))
      (λ b.
      by-test (eqb (refusal_of p.decision) 0)
      (λ c.
      rw (d, a, b, c)
      (applied-count (table_of k.names s.symbols s.sections k.link) p.row p.decision ∙ same st p.id x.name))
      (λ c. rw (d, a, b, c) (same st p.id x.name))))
      (λ a. rw (d, a)))

  pub symbols-count : (o : Object) (s : Symbols.State) → count (symbols_of o s).stage.link ≡ count s.stage.link
  unfolding symbols_of
  symbols-count o s =
      rw (symbols-loop o (rows_in o.entries) 0 s)
      (loop-holds number_of (symbol_of o) (λ t. count t.stage.link ≡ count s.stage.link) (λ t i e. symbol-count o t i ∙ e) (rows_in o.entries) 0 s refl)
