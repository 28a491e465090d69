-- A walk over an archive and a collection under another key of the hash: they only read names, so all that they leave is the same.
-- Assumes nothing.
use Rattle.link.specs.declared.SectionId.{SectionId}
use Prim.Native.Nat.{ℕ, zero, suc, ◌+◌, ◌<◌, ◌≤◌}
use Rattle.std.proofs.Common.{arith, ◌∙◌, eqb-true, leb-false}
use Rattle.std.specs.Prelude.{◌≡◌, true, cond, ◌&&◌, List, eqb, ltb, leb, length, get_or, Option, None, Some}
use Rattle.std.proofs.Math.Path.{refl, ap}
use Rattle.std.proofs.lemmas.Bool.{false≢true, eqb-false}
use Rattle.cells.specs.Proof.Split.{by-test}
use Rattle.link.specs.declared.Link.{Link}
use Rattle.link.specs.declared.Lent.{Lent}
use Rattle.link.specs.declared.SymbolId.{SymbolId}
use Rattle.link.specs.Bounds.{section_slots, section_rows}
use Rattle.link.specs.Judge.{change_of}
use Rattle.link.specs.Proof.Passed.{passed-sections, passed-slots}
use Rattle.symbol_laws.proofs.View.{lesser-second}
use Rattle.merge_laws.proofs.Whole.{change-passed}
use Rattle.interner.specs.Names.{Store}
use Rattle.symbols.specs.Remove.{Rows, rows_of}
use Rattle.sections.specs.Rows.{state_at, name_id_at, is_built}
use Rattle.archive_index.specs.Archives.{Archives}
use Rattle.archive_index.specs.Rows.{member_at, stored_name}
use Rattle.archive_walk.specs.declared.Walk.{Walk}
use Rattle.archive_walk.specs.Look as Look
use Rattle.object_requirement.specs.Matches.{matches_of}
use Rattle.archive_walk.specs.Look.{judge_table, name_holder, was_removed, ties, removed_name, tied_name}
use Rattle.archive_walk.specs.Walk.{Queue, queue_of, tie_of, tie_all, removed_of, make_of, search_of, pass_of, go_of, next_of}
use Rattle.shadowed_members.specs.Shadowed as Shadowed
use Rattle.shadowed_members.specs.Shadowed.{offered_among, shadowed_of}
use Rattle.shadowed_members.specs.Proof.Ways.{those_same}
use Rattle.strings.specs.Lookup.{Looked}
use Rattle.upcoming_symbol.specs.declared.ElfSymbol.{ElfSymbol}
use Rattle.elf_object.specs.Rows.{rows_in, name_in, entry_name_at, elf_at}
use Rattle.untaken_member.specs.Proof.Ways.{told_same}
use Rattle.untaken_member.specs.Untaken.{loaded_of, defines, told_holder, told_name, told_at, told_of, roomed_of, head_of, would_of}
use Rattle.gc_sections.specs.Each.{each}
use Rattle.gc_sections.specs.Roots.{name_is, rooted, is_root, symbol_id, lead_of}
use Rattle.gc_sections.specs.Reach as Reach
use Rattle.gc_sections.specs.Reach.{add_of, root_symbol, root_section, entry_of, relocation, relocations, follow, visit, roots_of, process_of, walked, start_of}
use Rattle.gc_sections.specs.Sweep.{Swept, Purged, purge_lead, purge_symbol, purge_symbols, sweep_sections}
use Rattle.gc_sections.specs.Run as Run
use Rattle.gc_sections.specs.Run.{lists_of, judge_cells, judge_of, purge_of, sweep_of, finish_of, finished, collect_of, run_of}
use Rattle.key_laws.specs.SectionNames.{Named}
use Rattle.key_laws.specs.Rekeyed.{keyed, Rekeyed}
use Rattle.key_laws.proofs.RekeyedLemmas.{row-name-same, find-same}
use Rattle.key_laws.proofs.Tables.{judge-keyed, change-keyed, holder-same, remove-row-keyed}

-- ---- the walk over archives

abbrev pub view_under : ℕ → List ℕ → Look.Table → Look.Table
view_under k n t = Look.table_of (keyed k t.link) t.bytes n t.symbols

module _ (k : ℕ) (t : Look.Table) (n : List ℕ) (e : Rekeyed k (record { bytes = t.bytes; names = t.names; link = t.link }) n) where
  abbrev u : Look.Table
  u = view_under k n t

  judge-same : judge_table u ≡ judge_table t
  unfolding judge_table
  judge-same = rw e.long (judge-keyed k t.link (Look.lent_of t.link (length t.bytes) (length t.names) (length t.symbols)))

  holds_same : (x : List ℕ) → name_holder u x ≡ name_holder t x
  unfolding name_holder
  holds_same x = rw (find-same k _ n e x) (holder-same k _ n e t.symbols _)

  removed-same : (x : List ℕ) → removed_name u x ≡ removed_name t x
  unfolding removed_name
  removed-same x = ap was_removed (holds_same x)

  tied-same : (x : List ℕ) → tied_name u x ≡ tied_name t x
  unfolding tied_name
  tied-same x = ap (ties t.link.gabi t.symbols) (holds_same x)

  tie-same : (key c : ℕ) (s : List ℕ) (p n i : ℕ) (q : Queue) → tie_all key c s u p n i q ≡ tie_all key c s t p n i q
  unfolding tie_all tie_of
  tie-same key c s p zero i q = refl
  tie-same key c s p (suc n) i q = rw (tied-same (stored_name s q.cells i)) (tie-same key c s p n (i + 1) _)

  gone_same : (s l : List ℕ) (n i : ℕ) → removed_of s l u n i ≡ removed_of s l t n i
  unfolding removed_of
  gone_same s l zero i = refl
  gone_same s l (suc n) i = rw (removed-same (stored_name s l i), gone_same s l n (i + 1))

  pub next-same : (s : Archives) (l : List ℕ) (w : Walk) → next_of s l w u ≡ next_of s l w t
  unfolding next_of go_of pass_of search_of make_of
  next-same s l w = rw (judge-same, gone_same s.bytes l w.entries 0, tie-same w.key w.entries s.bytes (w.passes + 1) w.entries 0 (queue_of l w.queued))

  pub shadowed-same : (s l : List ℕ) (w : Walk) (c : List ℕ) → shadowed_of s l w u c ≡ shadowed_of s l w t c
  unfolding shadowed_of Shadowed.told_at Shadowed.told_name
  shadowed-same s l w c =
      let o = offered_among l w.offered in
      rw (judge-same, those_same (Shadowed.told_at s l u o) (Shadowed.told_at s l t o) w.entries 0 (λ j. ap (Shadowed.told_holder t.symbols (o (member_at l j))) (holds_same (stored_name s l j))))

  told-name-same : (e : ElfSymbol) (x : Looked) → told_name u e x ≡ told_name t e x
  unfolding told_name
  told-name-same e x = ap (λ h. cond (x.found && defines e) (told_holder t.symbols e h) None) (holds_same x.name)

  pub would-same : (headers entries contents file c : List ℕ) → would_of headers entries contents file u c ≡ would_of headers entries contents file t c
  unfolding would_of roomed_of told_of head_of told_at
  would-same headers entries contents file c =
      let o = loaded_of headers entries file in
      rw (judge-same, told_same (told_at o u) (told_at o t) (rows_in o.entries) 0 (λ i. told-name-same (elf_at o.entries i) (name_in o.headers o.image o.names (entry_name_at o.entries i))))

-- admission looks at the link's profile alone
pub matches-same : (k : ℕ) (l : Link) (headers entries contents file s rows : List ℕ) (w : Walk) (e : ℕ)
    → matches_of (keyed k l) headers entries contents file s rows w e ≡ matches_of l headers entries contents file s rows w e
unfolding matches_of
matches-same k l headers entries contents file s rows w e = refl

-- ---- a collection

-- past the head every row that is counted is lent
pub judged-built : (l : Link) (x : Run.Lists) (symbols sections work : List ℕ) → (Run.judged l x symbols sections work).number ≡ 0 → Named l sections
    → (i : ℕ) → is_built sections l.sections i ≡ true → name_id_at sections i < l.chains
unfolding judge_of is_built
judged-built l x symbols sections work z named i b =
    let n : Lent = Run.lent_of (length x.bytes) (length x.names) (length symbols) (length sections) (length x.lists) in
    by-test (eqb (change_of l n).number 0)
    (λ a.
    let passed = (change-passed l n (eqb-true _ _ a)).1 in
    let few : l.sections ≤ section_rows l.slots = passed-sections l n passed in
    let slots : l.slots ≤ section_slots (length sections) = passed-slots l n passed in
    let low : section_rows l.slots ≤ l.slots = lesser-second 65535 l.slots in
    by-test (leb l.sections i) (λ c. absurd (false≢true (rw c at b)))
    (λ c.
    let h : i < l.sections = leb-false _ _ c in
    by-test (eqb (state_at sections i) 2) (λ d. named i h (omega arith) (omega arith) (eqb-true _ _ d)) (λ d. absurd (false≢true (rw (c, d) at b)))))
    (λ a. absurd (eqb-false _ _ a (rw a at z)))

pub each_same : {S : Type 0} (f g : ℕ → S → S) → ((i : ℕ) (s : S) → f i s ≡ g i s) → (n i : ℕ) (s : S) → each f n i s ≡ each g n i s
unfolding each
each_same f g q zero i s = refl
each_same f g q (suc n) i s = ap (each f n (i + 1)) (q i s) ∙ each_same f g q n (i + 1) (g i s)

abbrev pub collect_under : ℕ → Run.Left → Run.Left
collect_under k o =
    record { symbols = o.symbols; sections = o.sections; work = o.work; link = keyed k o.link; answer = o.answer; said = o.said }

module _ (k : ℕ) (l : Link) where
  add-keyed : (symbols sections : List ℕ) (id : SymbolId) (s : Reach.Walk) → add_of (keyed k l) symbols sections id s ≡ add_of l symbols sections id s
  unfolding add_of
  add-keyed symbols sections id s = refl

  entry-keyed : (symbols sections : List ℕ) (x : Option SymbolId) (s : Reach.Walk) → entry_of (keyed k l) symbols sections x s ≡ entry_of l symbols sections x s
  entry-keyed symbols sections None s = refl
  entry-keyed symbols sections (Some id) s = add-keyed symbols sections id s

  relocation-keyed : (symbols sections lists : List ℕ) (j : ℕ) (s : Reach.Walk) → relocation (keyed k l) symbols sections lists j s ≡ relocation l symbols sections lists j s
  unfolding relocation
  relocation-keyed symbols sections lists j s = add-keyed symbols sections (symbol_id (get_or lists j 0)) s

  visit-keyed : (symbols sections lists : List ℕ) (h : ℕ) (s : Reach.Walk) → visit (keyed k l) symbols sections lists h s ≡ visit l symbols sections lists h s
  unfolding visit follow relocations
  visit-keyed symbols sections lists h s =
      by-test (ltb h s.visitor.queued)
      (λ a. rw a (each_same (relocation (keyed k l) symbols sections lists) (relocation l symbols sections lists) (relocation-keyed symbols sections lists) _ _ s))
      (λ a. rw a)

  root-keyed : (symbols sections marks : List ℕ) (i : ℕ) (s : Reach.Walk) → root_symbol (keyed k l) symbols sections marks i s ≡ root_symbol l symbols sections marks i s
  unfolding root_symbol
  root-keyed symbols sections marks i s = rw (add-keyed symbols sections (symbol_id i) s)

  purge-lead-keyed : (work : List ℕ) (i : ℕ) (x : Option SectionId) (s : Purged) → purge_lead (keyed k l) work i x s ≡ purge_lead l work i x s
  purge-lead-keyed work i None s = refl
  purge-lead-keyed work i (Some x) s = rw (remove-row-keyed k l s.rows (symbol_id i))

  purge-keyed : (work : List ℕ) (rows : Rows) → purge_symbols (keyed k l) work rows ≡ purge_symbols l work rows
  unfolding purge_symbols purge_symbol
  purge-keyed work rows =
      each_same (purge_symbol (keyed k l) work) (purge_symbol l work) (λ i s. purge-lead-keyed work i (lead_of s.rows.symbols l.symbols (symbol_id i)) s) _ _ _

  pub finish-keyed : (symbols sections work : List ℕ) (x : Option SectionId) → finish_of (keyed k l) symbols sections work x ≡ collect_under k (finish_of l symbols sections work x)
  unfolding sweep_of purge_of
  finish-keyed symbols sections work None =
      let s : Swept = sweep_sections l.sections sections work in
      ap (Run.purged (keyed k l) s) (purge-keyed s.work (rows_of symbols s.sections))
  finish-keyed symbols sections work (Some id) = refl

  finish-link : (symbols sections work : List ℕ) (x : Option SectionId) → (finish_of l symbols sections work x).link ≡ l
  unfolding sweep_of purge_of
  finish-link symbols sections work None = refl
  finish-link symbols sections work (Some id) = refl

module _ (k : ℕ) (s : Store) (n : List ℕ) (e : Rekeyed k s n) (symbols sections lists marks : List ℕ) where
  abbrev l : Link
  l = s.link

  module _ (named : (i : ℕ) → is_built sections l.sections i ≡ true → name_id_at sections i < l.chains) where
    pub is-root-same : (i : ℕ) → is_root s.bytes n sections l.sections i ≡ is_root s.bytes s.names sections l.sections i
    unfolding is_root rooted name_is
    is-root-same i =
        by-test (is_built sections l.sections i)
        (λ a. rw (a, row-name-same k s n e (name_id_at sections i) (named i a))) (λ a. rw a)

    root-same : (i : ℕ) (w : Reach.Walk) → root_section l.sections s.bytes n sections i w ≡ root_section l.sections s.bytes s.names sections i w
    unfolding root_section
    root-same i w = rw (is-root-same i)

    walked_same : (entry : Option SymbolId) (work : List ℕ)
        → walked (keyed k l) s.bytes n symbols sections lists marks entry work ≡ walked l s.bytes s.names symbols sections lists marks entry work
    unfolding walked roots_of process_of
    walked_same entry work =
        let start : Reach.Walk = start_of l.sections work in
        let a = each_same (root_symbol (keyed k l) symbols sections marks) (root_symbol l symbols sections marks) (root-keyed k l symbols sections marks) l.symbols 0 start in
        let r : Reach.Walk = each (root_symbol l symbols sections marks) l.symbols 0 start in
        let b = each_same (root_section l.sections s.bytes n sections) (root_section l.sections s.bytes s.names sections) root-same l.sections 0 r in
        let q : Reach.Walk = each (root_section l.sections s.bytes s.names sections) l.sections 0 r in
        let c = entry-keyed k l symbols sections entry q in
        rw (a, b, c)
        (each_same (visit (keyed k l) symbols sections lists) (visit l symbols sections lists) (visit-keyed k l symbols sections lists) l.sections 0 _)

  pub judged-same : (work : List ℕ) → Run.judged (keyed k l) (lists_of s.bytes n lists marks) symbols sections work
      ≡ Run.judged l (lists_of s.bytes s.names lists marks) symbols sections work
  unfolding judge_of judge_cells
  judged-same work =
      rw (e.long, change-keyed k l (Run.lent_of (length s.bytes) (length s.names) (length symbols) (length sections) (length lists)))

  pub collect-same : Named l sections → (entry : Option SymbolId) (work : List ℕ) → run_of (keyed k l) (lists_of s.bytes n lists marks) symbols sections entry work
      ≡ collect_under k (run_of l (lists_of s.bytes s.names lists marks) symbols sections entry work)
  unfolding run_of collect_of finished
  collect-same named entry work =
      let w : Reach.Walk = walked l s.bytes s.names symbols sections lists marks entry work in
      rw (judged-same work)
      (by-test (eqb (Run.judged l (lists_of s.bytes s.names lists marks) symbols sections work).number 0)
      (λ a. rw (a, walked_same (judged-built l (lists_of s.bytes s.names lists marks) symbols sections work (eqb-true _ _ a) named) entry work) (finish-keyed k l symbols sections w.work w.visitor.unbuilt)) (λ a. rw a))

pub collect-link : (l : Link) (x : Run.Lists) (symbols sections : List ℕ) (entry : Option SymbolId) (work : List ℕ) → (run_of l x symbols sections entry work).link ≡ l
unfolding run_of collect_of finished
collect-link l x symbols sections entry work =
    let w : Reach.Walk = walked l x.bytes x.names symbols sections x.lists x.marks entry work in
    by-test (eqb (Run.judged l x symbols sections work).number 0) (λ a. rw a (finish-link 0 l symbols sections w.work w.visitor.unbuilt)) (λ a. rw a)
