-- Where a load stops, and what it leaves there: what the elements before the refused one left, and at most that one's name.
-- Assumes nothing.
use Rattle.std.specs.Prelude.{ℕ, ◌<◌, ◌≡◌, true, false, List, ◌≢◌, eqb, ltb, length, Err}
use Rattle.std.proofs.Common.{arith, sym, ◌∙◌}
use Rattle.std.proofs.Math.Path.{refl, ap}
use borrow.Author.Tests.{eqb-true, eqb-false, eq-eqb, ne_eqb}
use Rattle.cells.specs.Proof.Split.{by-test}
use Rattle.link.specs.Bounds.{input_rows}
use Rattle.link.specs.Judge.{refused, broken_of}
use Rattle.elf_object.specs.Rows.{rows_in}
use Rattle.merge_symbols.specs.Plan.{place_of}
use Rattle.shared_objects.specs.Record.{Recorded, dependency_of, dependencies_of}
use Rattle.shared_objects.specs.SymbolsLoad.{State, symbol_of, symbols_of}
use Rattle.shared_objects.specs.Stages.{Links, library_row_of, input_stage, lists_of, with_input, with_lists, list_stage, contents_of, stop, issued_of, library_of}
use Rattle.shared_objects.specs.Stages as Stages
use Rattle.shared_objects.specs.Load.{All, Input, ended_as, leave_links, wanted_of, head_in, load_of}
use Rattle.shared_objects.specs.Load as Load
use Rattle.merge_laws.proofs.Stops.{loop-left}
use Rattle.load_laws.specs.LoadSteps.{list_first, lists_in}
use Rattle.load_laws.proofs.Whole.{symbols-loop, dependencies-loop}
use Rattle.load_laws.specs.Elements.{symbol_name}
use Rattle.load_laws.proofs.Refusals.{SymbolLeft, DependencyLeft}
use Rattle.load_laws.proofs.RefusalsLemmas.{symbol-left, dependency-left}
use Rattle.load_laws.proofs.Refusals as Refusals
use Rattle.merge_laws.specs.Table.{one_of}
use Rattle.load_laws.specs.Stops.{link_id, named, end, number, first, symbols_to, added, with_symbols, dependencies_to, recorded, with_dependencies, Between, dependencies, name, row, symbols, all_left, place_at, elements, name_at, Met, Leaves, all, but-its-name, fits, want, ending}

-- ---- the library named x, from the cells of s

module _ (entries file needs : List ℕ) (s : Links) (x : List ℕ) where
  -- ---- what each stage leaves, from the one before it, and what its first elements leave

  -- ---- between two elements: what those before have left

  -- ---- the stages one after the other

  pub name-stop : fits entries file needs s x ≡ false → end entries file needs s x ≡ stop s 2 0
  unfolding library_of issued_of
  name-stop t = rw t

  abbrev pub listed : Links
  listed = list_stage file needs s.inputs (added entries file needs s x) (link_id entries file needs s x s x) (named entries file needs s x s x).stage.link.lists

  pub name-pass : fits entries file needs s x ≡ true → end entries file needs s x ≡ listed
  unfolding library_of issued_of Stages.kept_of contents_of
  name-pass t = rw t

  pub symbols-stop : (added entries file needs s x).stage.number ≢ 0 → listed ≡ with_symbols entries file needs s x (added entries file needs s x)
  unfolding list_stage
  symbols-stop u = rw (ne_eqb (added entries file needs s x).stage.number 0 u)

  abbrev rowed : Links
  rowed = with_lists (added entries file needs s x) (input_stage s.inputs (recorded entries file needs s x) (link_id entries file needs s x s x) (named entries file needs s x s x).stage.link.lists (added entries file needs s x).stage.link.lists)

  pub symbols-pass : (added entries file needs s x).stage.number ≡ 0 → listed ≡ rowed
  unfolding list_stage lists_of
  symbols-pass z = rw (eq-eqb (added entries file needs s x).stage.number 0 z)

  pub dependencies-stop : (recorded entries file needs s x).stage.number ≢ 0 → rowed ≡ with_dependencies entries file needs s x (recorded entries file needs s x)
  unfolding input_stage
  dependencies-stop u = rw (ne_eqb (recorded entries file needs s x).stage.number 0 u)

  pub dependencies-pass : (recorded entries file needs s x).stage.number ≡ 0
      → rowed ≡ with_lists (added entries file needs s x) (with_input (recorded entries file needs s x) (library_row_of s.inputs (recorded entries file needs s x).stage.link (link_id entries file needs s x s x) (named entries file needs s x s x).stage.link.lists (added entries file needs s x).stage.link.lists))
  unfolding input_stage
  dependencies-pass z = rw (eq-eqb (recorded entries file needs s x).stage.number 0 z)

  -- ---- each place

  -- a refused state has its own number
  whole : (b : Links) (p : ℕ → ℕ) (k : ℕ) → end entries file needs s x ≡ stop b k (p k) → end entries file needs s x ≡ stop b (number entries file needs s x) (p (number entries file needs s x))
  whole b p k e = e ∙ ap (λ (k : ℕ). stop b k (p k)) (sym (ap (λ (t : Links). t.stage.number) e))

  -- full cells
  as-full : (b : Links) (at : Between entries file needs s x b) → Met entries file needs s x at → one_of 2 (all_left entries file needs s x at) ≡ true → end entries file needs s x ≡ stop b 2 (place_at entries file needs s x at) → Leaves entries file needs s x
  unfolding place_of
  as-full b at m h e =
      let q : number entries file needs s x ≡ 2 = ap (λ (t : Links). t.stage.number) e in
      all b at m (rw q h) (whole b (λ k. place_of k (link_id entries file needs s x b (name_at entries file needs s x at).name) (place_at entries file needs s x at)) 2 e)

  met : {b : Links} (at : Between entries file needs s x b) → place_at entries file needs s x at < elements entries file needs s x at → b.stage.number ≡ 0 → Met entries file needs s x at
  met at h z = record { below = h; accepted = z }

  symbol-left-at : (i : ℕ) (t : State) → Met entries file needs s x (symbols i) → SymbolLeft (symbol_name entries file i) (symbols_to entries file needs s x i) t i → end entries file needs s x ≡ with_symbols entries file needs s x t → Leaves entries file needs s x
  symbol-left-at i t m (Refusals.as_it_was k q) e =
      let b : Links = with_symbols entries file needs s x (symbols_to entries file needs s x i) in
      all _ (symbols i) m (rw (ap (λ (t : Links). t.stage.number) e) k)
      (whole b (λ k. place_of k (link_id entries file needs s x b (symbol_name entries file i).name) i) _ (e ∙ ap (with_symbols entries file needs s x) q))
  symbol-left-at i t m (Refusals.but-its-name found k q) e =
      let b : Links = with_symbols entries file needs s x (symbols_to entries file needs s x i) in
      but-its-name _ (symbols i) found m (rw (ap (λ (t : Links). t.stage.number) e) k)
      (whole (named entries file needs s x b (symbol_name entries file i).name) (λ k. i) _ (e ∙ ap (with_symbols entries file needs s x) q))

  from-symbols : end entries file needs s x ≡ listed → (added entries file needs s x).stage.number ≢ 0 → Leaves entries file needs s x
  unfolding symbols_of
  from-symbols q u =
      let r =
      loop-left (λ (t : State). t.stage.number) (symbol_of entries file) (λ (s t : State) (i : ℕ). SymbolLeft (symbol_name entries file i) s t i)
      (λ s i z u. symbol-left entries file s i u) (rows_in entries) (symbols_to entries file needs s x) (first entries file needs s x) (λ n. symbols-loop entries file n 0 (first entries file needs s x)) refl u in
      symbol-left-at r.n (added entries file needs s x) (met (symbols r.n) r.below r.goes) r.leaves (q ∙ symbols-stop u)

  from-dependencies : end entries file needs s x ≡ rowed → (recorded entries file needs s x).stage.number ≢ 0 → Leaves entries file needs s x
  unfolding dependencies_of
  from-dependencies q u =
      let start : Recorded = list_first (lists_in s.inputs (added entries file needs s x)) in
      let r =
      loop-left (λ (t : Recorded). t.stage.number) (dependency_of file needs) DependencyLeft (λ s j z u. dependency-left file needs s j u) (length needs)
      (dependencies_to entries file needs s x) start (λ n. dependencies-loop file needs n 0 start) refl u in
      as-full _ (dependencies r.n) (met (dependencies r.n) r.below r.goes) refl
      (q ∙ dependencies-stop u ∙ ap (with_dependencies entries file needs s x) r.leaves.as_it_was)

  from_row : end entries file needs s x ≡ rowed → (recorded entries file needs s x).stage.number ≡ 0 → number entries file needs s x ≢ 0 → Leaves entries file needs s x
  unfolding library_row_of
  from_row q z u =
      let e = q ∙ dependencies-pass z in
      by-test (ltb (recorded entries file needs s x).stage.link.inputs (input_rows (length s.inputs)))
      (λ t. absurd (u (ap (λ (a : Links). a.stage.number) e ∙ rw t))) (λ t. as-full _ row (met row (omega arith) z) refl (e ∙ rw t))

  pub refused-leaves : s.stage.number ≡ 0 → number entries file needs s x ≢ 0 → Leaves entries file needs s x
  refused-leaves w u =
      by-test (fits entries file needs s x)
      (λ a.
      let p = name-pass a in
      by-test (eqb (added entries file needs s x).stage.number 0)
      (λ b.
      let q = p ∙ symbols-pass (eqb-true _ _ b) in
      by-test (eqb (recorded entries file needs s x).stage.number 0) (λ c. from_row q (eqb-true _ _ c) u) (λ c. from-dependencies q (eqb-false _ _ c)))
      (λ b. from-symbols p (eqb-false _ _ b)))
      (λ a. as-full s name (met name (omega arith) w) refl (name-stop a))

-- ---- the load

module _ (o : Input) (a : All) where
  pub refused-breaks : (head_in o a).number ≡ 0 → (want o a).needed ≡ true → (ending o a).stage.number ≢ 0
      → load_of o a
      ≡ leave_links (want o a).marks (ending o a)
      (record { link = broken_of (ending o a).stage.link; answer = Err (refused (ending o a).stage.number (ending o a).stage.place) })
  unfolding load_of Load.library_named wanted_of ended_as
  refused-breaks h w u = rw (eq-eqb (head_in o a).number 0 h, w, ne_eqb (ending o a).stage.number 0 u)
