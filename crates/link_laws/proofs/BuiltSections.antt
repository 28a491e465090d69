-- A section that a merge built, in a history: its row and what it names stay, through all calls but a collection that doesn't reach it.
-- Assumes nothing.
use Rattle.link.specs.declared.cause.Refusal.{Refusal}
use Rattle.gc_sections.specs.declared.Dropped.{Dropped}
use Rattle.link.specs.declared.SymbolId.{SymbolId}
use Rattle.std.specs.Prelude.{ℕ, ◌+◌, ◌*◌, ◌<◌, ◌≤◌, ◌≡◌, refl, List, [], ◌∷◌, ◌++◌, Option, Result, Ok, Err}
use Rattle.std.proofs.Common.{arith, le_refl, le_trans, ap, ◌∙◌, subst, sym}
use Rattle.byte_slices.specs.Bytes.{part}
use Rattle.link.specs.Bounds.{section_rows}
use Rattle.interner_laws.specs.Good as Good
use Rattle.interner_laws.proofs.Histories.{issued-stays}
use Rattle.sections.specs.Rows.{field, first_at, count_at}
use Rattle.gc_laws.proofs.Terms as CollectionLaws
use Rattle.symbol_laws.specs.History as History
use Rattle.symbol_laws.specs.History.{State, store}
use Rattle.symbol_laws.specs.Below.{Below}
use Rattle.symbol_laws.proofs.WritesLemmas as WritesLaws
use Rattle.merge_laws.specs.Steps.{Step}
use Rattle.merge_laws.proofs.More.{makes-more}
use Rattle.merge_laws.proofs.Placed.{slots}
use Rattle.merge_laws.proofs.BuiltRow.{part_same}
use Rattle.merge_laws.proofs.RowsBelow.{merge-same}
use Rattle.merge_laws.specs.Calls.{Linked, all_in}
use Rattle.load_laws.proofs.Sections.{load-sections}
use Rattle.link_laws.specs.Calls.{Call, intern, add, remove, add_group, merge, merge_file, load, collect, plain_collect, library_in, lists_in, call_left, call_next, run_calls, Drops, reads, add_list}
use Rattle.link_laws.proofs.PlainCalls.{Compared, alike, many, compared}
use Rattle.gc_sections.specs.Run.{Left}
use Rattle.elf_laws.specs.Object as ElfFile
use Rattle.link_laws.proofs.FileCall.{by-file}
use Rattle.link_laws.specs.CallSteps.{call_steps}
use Rattle.link_laws.proofs.CallSteps.{Leads, made, cleared}
use Rattle.link_laws.proofs.CallStepsLemmas.{call-leads, direct-below}
use Rattle.link_laws.proofs.Lists.{call-listed, direct-count}
use Rattle.link_laws.proofs.Idle.{drops-nothing}
use Rattle.link_laws.proofs.NamesStay.{calls-stay}
use Rattle.link_laws.specs.Kept.{signatures}
use Rattle.link_laws.proofs.Kept.{Lasting, lasting-on}
use Rattle.merge_laws.proofs.Issue.{keep-slots}
use Rattle.link_laws.proofs.ListCall.{next-is, list-keeps}
use Rattle.link.specs.declared.Link.{Link}
use Rattle.link_laws.specs.BuiltSections.{SectionIn, Spares, SparesAll}

-- ---- a row that is counted

module _ (s : Linked) (below : Below s.table) (rows_in : s.table.link.sections ≤ section_rows s.table.link.slots) (r : ℕ)
    (low : r < s.table.link.sections) (f : ℕ) (small : f < 8) where
  abbrev Same : Call → Type 0
  Same k = field (call_next k s).table.sections r f ≡ field s.table.sections r f

  behind : r * 8 + f < s.table.link.slots * 8
  behind = omega (arith, rows_in, slots s.table.link.slots)

  collected : (marks : List ℕ) (entry : Option SymbolId) (work : List ℕ) → Spares (collect marks entry work) s r → (x : Result Dropped Refusal) → (call_left (collect marks entry work) s).answer ≡ x
      → Same (collect marks entry work)
  collected marks entry work q (Ok d) e =
      (CollectionLaws.removes s.table.link (lists_in s marks) s.table.symbols s.table.sections entry work d.sections d.symbols e).section_stays r f
      (omega (arith, rows_in, slots s.table.link.slots)) small (λ z y. q d.sections d.symbols e)
  collected marks entry work q (Err x) e =
      ap (λ (t : Linked). field t.table.sections r f) (drops-nothing marks entry work s (λ (d : Drops (call_left (collect marks entry work) s).answer). subst Drops e d))

  pub row-cell : (k : Call) → Spares k s r → Same k
  row-cell (intern x) q = refl
  row-cell (reads k) q = refl
  row-cell (add conversion u) q = (WritesLaws.call-past s.table below (History.add conversion u)).sections (r * 8 + f) behind
  row-cell (add_list conversion adds ids) q =
      ap (λ (t : Linked). field t.table.sections r f) (next-is conversion adds ids s)
      ∙ (list-keeps (λ (t : State). Below t × (t.link.slots ≡ s.table.link.slots) × (field t.sections r f ≡ field s.table.sections r f)) conversion
      (λ t u k. (
        direct-below (History.add conversion u) t (λ (z : ⊥). z) k.0,
        direct-count (λ (l : Link). l.slots) keep-slots (λ l n. refl) (History.add conversion u) t (λ (z : ⊥). z) ∙ k.1,
        (WritesLaws.call-past t k.0 (History.add conversion u)).sections (r * 8 + f) (subst (λ (n : ℕ). r * 8 + f < n * 8) (sym k.1) behind) ∙ k.2,
      )) adds ids s (below, refl, refl)).2
  row-cell (remove id) q = (WritesLaws.call-past s.table below (History.remove id)).sections (r * 8 + f) behind
  row-cell (add_group o work n) q = refl
  row-cell (merge o work ids) q = merge-same o (all_in s work ids) r f low small
  row-cell (merge_file file cells work ids) q =
      by-file file cells work ids s (λ (t : Linked). field t.table.sections r f ≡ field s.table.sections r f)
      (merge-same (ElfFile.rows_of file) (all_in s work ids) r f low small) refl
  row-cell (load o marks) q = ap (λ (l : List ℕ). field l r f) (load-sections o (library_in s marks))
  row-cell (collect marks entry work) q = collected marks entry work q (call_left (collect marks entry work) s).answer refl
  row-cell (plain_collect marks entry work) q = go (compared marks entry work s)
    where
      go : Compared marks entry work s → Same (plain_collect marks entry work)
      go (alike x t a) =
          ap (λ (t : Linked). field t.table.sections r f) t
          ∙ collected marks entry work (λ b c e. q b c (a ∙ e)) (call_left (collect marks entry work) s).answer refl
      go (many m u v e) = ap (λ (o : Left). field o.sections r f) e

-- no call counts fewer
more_rows : (k : Call) (s : Linked) → s.table.link.sections ≤ (call_next k s).table.link.sections
more_rows k s = go (call_steps k s) (call_next k s).table (call-leads k s)
  where
    go : (ks : List Step) (t : State) → Leads s.table ks t → s.table.link.sections ≤ t.link.sections
    go ks t (made steps) = makes-more _ _ _ steps
    go ks t (cleared x n e) = rw e (le_refl _)

-- ---- a built section, through one call and through any

module _ (r : ℕ) (x : List ℕ) (kind retain read size : ℕ) (ids : List ℕ) where
  abbrev In : Linked → Type 0
  In t = SectionIn t r x kind retain read size ids

  module _ (k : Call) (s : Linked) (met : List (List ℕ)) (g : Lasting s met) (b : In s) (q : Spares k s r) where
    cell : (f : ℕ) → f < 8 → field (call_next k s).table.sections r f ≡ field s.table.sections r f
    cell f h = row-cell s g.below g.counted.bounded.0 r b.counted f h k q

    call-keeps : In (call_next k s)
    call-keeps =
        let l = call-listed k s g.lent in
        let t : Linked = call_next k s in
        let first : first_at t.table.sections r ≡ first_at s.table.sections r = cell 5 (omega arith) in
        let count : count_at t.table.sections r ≡ count_at s.table.sections r = cell 6 (omega arith) in
        record {
          counted = le_trans b.counted (more_rows k s);
          built = cell 0 (omega arith) ∙ b.built;
          named =
              rw (cell 1 (omega arith))
              (issued-stays Good.count Good.name (store s.table) (store t.table) _ x (calls-stay (k ∷ []) s met g.marked) b.named);
          kind-is = cell 2 (omega arith) ∙ b.kind-is;
          retains = cell 3 (omega arith) ∙ b.retains;
          reads = cell 4 (omega arith) ∙ b.reads;
          sized = cell 7 (omega arith) ∙ b.sized;
          inside = omega (arith, b.inside, l.lists.more);
          ids-are =
              ap (λ (n : ℕ). part t.lists n (count_at t.table.sections r)) first ∙ ap (λ (n : ℕ). part t.lists (first_at s.table.sections r) n) count
              ∙ part_same s.lists t.lists (first_at s.table.sections r) (count_at s.table.sections r) s.table.link.lists b.inside g.inside l.lists.long l.lists-below
              ∙ b.ids-are;
        }

  pub calls-keep : (ks : List Call) (s : Linked) (met : List (List ℕ)) → Lasting s met → In s → SparesAll ks s r → In (run_calls ks s)
  calls-keep [] s met g b q = b
  calls-keep (k ∷ ks) s met g b q =
      calls-keep ks (call_next k s) (met ++ signatures (k ∷ []) s) (lasting-on (k ∷ []) s met g) (call-keeps k s met g b q.0) q.1
