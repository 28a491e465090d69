-- "Ids, symbol rows and answers don't depend on" the key of the hash. The same calls on two new tables of the same lent lists, under two keys: every
-- answer is the same, and so is every list and count of the links but the names' hash chains.
-- Assumes nothing.
use Rattle.std.specs.Prelude.{ℕ, ◌+◌, ◌≡◌, Bool, true, false, cond, ltb, length}
use Rattle.std.proofs.Math.Path.{refl, subst}
use Rattle.std.proofs.Common.{ap, sym, ◌∙◌}
use mathlib.Core.List.{List, [], ◌∷◌}
use Rattle.cells.specs.Proof.Split.{by-test}
use Rattle.link.specs.declared.Link.{Link}
use Rattle.link.specs.declared.cause.Refusal.{Refusal}
use Rattle.link.specs.Said.{Said, number_in, accepted, refusing}
use Rattle.interner.specs.Names.{store_of}
use Rattle.interner.specs.Calls as Names
use Rattle.symbols.specs.Calls as Symbols
use Rattle.symbols.specs.New.{NewLeft, new_of}
use Rattle.symbols.specs.Remove.{Rows, RemoveLeft, rows_of, remove_of}
use Rattle.symbols.specs.Lookup as Lookup
use Rattle.section_groups.specs.AddGroup as AddGroup
use Rattle.merge_stages.specs.Stages as Stages
use Rattle.merge_elf.specs.Merge as Merge
use Rattle.shared_objects.specs.Load as Shared
use Rattle.gc_sections.specs.Run as Collection
use Rattle.symbol_laws.specs.History.{table, store, with_table, with_store, with_rows, opened}
use Rattle.merge_laws.specs.Calls.{Linked, linked, all_in, link_in}
use Rattle.load_laws.specs.Whole as Loads
use Rattle.key_laws.specs.Rekeyed.{Rekeyed}
use Rattle.key_laws.proofs.Tables.{intern-moved, resolve_same, add-moved, remove-keyed, remove-link, get-keyed, global-same, section-symbol-keyed}
use Rattle.key_laws.specs.SectionNames.{Named}
use Rattle.key_laws.proofs.ReadsLemmas.{next-same, shadowed-same, would-same, matches-same, collect-same, collect-link}
use Rattle.key_laws.proofs.Groups.{add-group-moved}
use Rattle.key_laws.proofs.Merge.{merge-moved}
use Rattle.key_laws.proofs.Load.{load_moved}
use Rattle.key_laws.proofs.SectionCalls.{intern-named, add-named, remove-named, group-named, merge-named, load-named, collect-named}
use Rattle.key_laws.proofs.NewTables.{new-said, new-moved, new-named}
use Rattle.link_laws.specs.Read as Read
use Rattle.link_laws.specs.Calls.{Call, intern, add, remove, add_group, merge, merge_file, load, archive_next, archive_shadowed, matches, would_define, collect, plain_collect, call_left, refusal_in, refusal_by, call_next, run_calls, group_in, library_in, lists_in, view_in, is_read, reads, add_list}
use Rattle.link_laws.proofs.PlainCalls.{plain-link}
use Rattle.key_laws.proofs.PlainReads.{plain-same, plain-named}
use Rattle.elf_laws.specs.Object as ElfFile
use Rattle.link_laws.proofs.FileCall.{left-read, left-unread, next-read, next-unread, refusal-read, refusal-unread}
use Rattle.add_list.specs.AddList.{ListLeft, list_left, items_of, noted_of, turn_of, adds_of, add_list_of}
use Rattle.upcoming_symbol.specs.declared.UpcomingSymbol.{UpcomingSymbol}
use Rattle.symbol_resolution.specs.Apply.{Table}
use Rattle.link.specs.Judge.{refused, none}
use Rattle.std.proofs.Math.Dec.{eqb}
use Rattle.symbols.specs.Add.{add_of}
use Rattle.link_laws.specs.KeyFree.{link_under, Alike, answer_in, Same, SameAnswers}

-- ---- one call

module _ (key : ℕ) (s : Linked) (n : List ℕ) (e : Rekeyed key (store s.table) n) (h : Named s.table.link s.table.sections) where
  add-under : (conversion : List ℕ) (u : UpcomingSymbol) → Same key (add conversion u) s (link_under key n s)
  add-under conversion u =
      let m = add-moved key s.table.bytes (table s.table) n e conversion u in
      record {
        answer = ap (λ (o : Symbols.Left). o.said) m.is;
        refusal = ap (λ (o : Symbols.Left). refusal_by o.said) m.is;
        next = record {
          names = m.names;
          is = ap (λ (o : Symbols.Left). linked (with_table s.table o.table) s.inputs s.lists) m.is;
          rows = m.alike;
          named = add-named (table s.table) conversion u h;
        };
      }

-- a list of adds, by its adds
pub record ListSame (key : ℕ) (s t : Linked) (o p : ListLeft) : Type 0 where
  pub ids : p.ids ≡ o.ids
  pub refusal : p.refusal ≡ o.refusal
  pub position : p.position ≡ o.position
  pub next : Alike key (linked (with_table s.table o.table) s.inputs s.lists) (linked (with_table t.table p.table) t.inputs t.lists)

add-alike : (key : ℕ) (conversion : List ℕ) (u : UpcomingSymbol) (s t : Linked) → Alike key s t → Same key (add conversion u) s t
add-alike key conversion u s t a = subst (Same key (add conversion u) s) (sym a.is) (add-under key s a.names a.rows a.named conversion u)

noted-same : (key : ℕ) (s t : Linked) (x y : Table) (a b : Said) (ids : List ℕ) (k : ℕ) → b ≡ a
    → Alike key (linked (with_table s.table x) s.inputs s.lists) (linked (with_table t.table y) t.inputs t.lists)
    → ListSame key s t (noted_of a x ids k) (noted_of b y ids k)
noted-same key s t x y (accepted v) b ids k e h = subst (λ (c : Said). ListSame key s t (noted_of (accepted v) x ids k) (noted_of c y ids k)) (sym e) (record { ids = refl; refusal = refl; position = refl; next = h })
noted-same key s t x y (refusing r) b ids k e h = subst (λ (c : Said). ListSame key s t (noted_of (refusing r) x ids k) (noted_of c y ids k)) (sym e) (record { ids = refl; refusal = refl; position = refl; next = h })

module _ (key : ℕ) (conversion : List ℕ) where
  turn-same : (u : UpcomingSymbol) (s t : Linked) → Alike key s t → (v w : ListLeft) → v.table ≡ table s.table → w.table ≡ table t.table → w.ids ≡ v.ids → (k : ℕ)
      → ListSame key s t (turn_of conversion u v k) (turn_of conversion u w k)
  unfolding turn_of
  turn-same u s t a v w e f g k =
      let m = add-alike key conversion u s t a in
      subst (λ (x : Table). ListSame key s t (noted_of (add_of x conversion u).said (add_of x conversion u).table v.ids k) (noted_of (add_of w.table conversion u).said (add_of w.table conversion u).table w.ids k)) (sym e)
      (subst (λ (x : Table). ListSame key s t (noted_of (add_of (table s.table) conversion u).said (add_of (table s.table) conversion u).table v.ids k) (noted_of (add_of x conversion u).said (add_of x conversion u).table w.ids k)) (sym f)
      (subst (λ (l : List ℕ). ListSame key s t (noted_of (add_of (table s.table) conversion u).said (add_of (table s.table) conversion u).table v.ids k) (noted_of (add_of (table t.table) conversion u).said (add_of (table t.table) conversion u).table l k)) (sym g)
      (noted-same key s t (add_of (table s.table) conversion u).table (add_of (table t.table) conversion u).table (add_of (table s.table) conversion u).said (add_of (table t.table) conversion u).said v.ids k m.answer m.next)))

  cond_same : (s t : Linked) (b c : Bool) → c ≡ b → (x y x' y' : ListLeft) → ListSame key s t x x' → ListSame key s t y y' → ListSame key s t (cond b x y) (cond c x' y')
  cond_same s t true c e x y x' y' p q = subst (λ (d : Bool). ListSame key s t x (cond d x' y')) (sym e) p
  cond_same s t false c e x y x' y' p q = subst (λ (d : Bool). ListSame key s t y (cond d x' y')) (sym e) q

  adds_same : (us : List UpcomingSymbol) (s t : Linked) → Alike key s t → (v w : ListLeft) → v.table ≡ table s.table → w.table ≡ table t.table → w.ids ≡ v.ids → (k : ℕ)
      → ListSame key s t (adds_of conversion us v k) (adds_of conversion us w k)
  unfolding adds_of
  adds_same [] s t a v w e f g k =
      record {
        ids = g;
        refusal = refl;
        position = refl;
        next =
            subst (λ (x : Table). Alike key (linked (with_table s.table x) s.inputs s.lists) (linked (with_table t.table w.table) t.inputs t.lists)) (sym e)
            (subst (λ (x : Table). Alike key s (linked (with_table t.table x) t.inputs t.lists)) (sym f) a);
      }
  adds_same (u ∷ us) s t a v w e f g k =
      let m = turn-same u s t a v w e f g k in
      cond_same s t (eqb (turn_of conversion u v k).refusal.number 0) (eqb (turn_of conversion u w k).refusal.number 0) (ap (λ (r : Refusal). eqb r.number 0) m.refusal)
      (adds_of conversion us (turn_of conversion u v k) (k + 1)) (turn_of conversion u v k) (adds_of conversion us (turn_of conversion u w k) (k + 1)) (turn_of conversion u w k)
      (over
      (adds_same us (linked (with_table s.table (turn_of conversion u v k).table) s.inputs s.lists) (linked (with_table t.table (turn_of conversion u w k).table) t.inputs t.lists) m.next
      (turn_of conversion u v k) (turn_of conversion u w k) refl refl m.ids (k + 1))) m
    where
      over : {x y : Table} {o p : ListLeft} → ListSame key (linked (with_table s.table x) s.inputs s.lists) (linked (with_table t.table y) t.inputs t.lists) o p → ListSame key s t o p
      over i = record { ids = i.ids; refusal = i.refusal; position = i.position; next = i.next }

list-alike : (key : ℕ) (conversion adds ids : List ℕ) (s t : Linked) → Alike key s t → Same key (add_list conversion adds ids) s t
unfolding add_list_of
list-alike key conversion adds ids s t a =
    let e : t.table.link.broken ≡ s.table.link.broken = ap (λ (x : Linked). x.table.link.broken) a.is in
    told (subst (λ (x : Bool). ListSame key s t (list_of3 s s.table.link.broken) (list_of3 t x)) (sym e) (go s.table.link.broken (ltb (length ids) (length (items_of adds)))))
  where
    left-same : (r : Refusal) → ListSame key s t (list_left (table s.table) ids r 0) (list_left (table t.table) ids r 0)
    left-same r = record { ids = refl; refusal = refl; position = refl; next = a }

    lists : Linked → Bool → Bool → ListLeft
    lists x b c =
        cond b (list_left (table x.table) ids (refused 22 0) 0)
        (cond c (list_left (table x.table) ids (refused 2 0) 0) (adds_of conversion (items_of adds) (list_left (table x.table) ids none 0) 0))

    list_of3 : Linked → Bool → ListLeft
    list_of3 x b = lists x b (ltb (length ids) (length (items_of adds)))

    go : (b c : Bool) → ListSame key s t (lists s b c) (lists t b c)
    go true c = left-same (refused 22 0)
    go false true = left-same (refused 2 0)
    go false false =
        adds_same key conversion (items_of adds) s t a (list_left (table s.table) ids none 0) (list_left (table t.table) ids none 0) refl refl refl 0

    told : ListSame key s t (call_left (add_list conversion adds ids) s) (call_left (add_list conversion adds ids) t) → Same key (add_list conversion adds ids) s t
    told m =
        let x = call_left (add_list conversion adds ids) s in
        let y = call_left (add_list conversion adds ids) t in
        record {
          answer = ap {B = List ℕ × Refusal × ℕ} (λ (l : List ℕ). (l, y.refusal, y.position)) m.ids
              ∙ ap {B = List ℕ × Refusal × ℕ} (λ (r : Refusal). (x.ids, r, y.position)) m.refusal
              ∙ ap {B = List ℕ × Refusal × ℕ} (λ (p : ℕ). (x.ids, x.refusal, p)) m.position;
          refusal = m.refusal;
          next = m.next;
        }

module _ (key : ℕ) (s : Linked) (n : List ℕ) (e : Rekeyed key (store s.table) n) (h : Named s.table.link s.table.sections) where
  abbrev t : Linked
  t = link_under key n s

  stays : Alike key s t
  stays = record { names = n; is = refl; rows = e; named = h }

  object-same : (o : Stages.Object) (work ids : List ℕ) → Same key (merge o work ids) s t
  object-same o work ids =
      let m = merge-moved key o (all_in s work ids) n e in
      record {
        answer = ap (λ (x : Merge.Left). (x.cells.work, x.cells.ids, x.said)) m.is;
        refusal = ap (λ (x : Merge.Left). x.said) m.is;
        next = record {
          names = m.names;
          is = ap (λ (x : Merge.Left). link_in x.cells) m.is;
          rows = m.alike;
          named = merge-named key o (all_in s work ids) n e h;
        };
      }

  -- a file that is read, and one that isn't: neither the head nor the rows depend on the key
  file-read : (file cells work ids : List ℕ) → is_read file cells s ≡ true → Same key (merge_file file cells work ids) s t
  file-read file cells work ids b =
      let m = merge-moved key (ElfFile.rows_of file) (all_in s work ids) n e in
      let g = object-same (ElfFile.rows_of file) work ids in
      record {
        answer = ap (answer_in (merge_file file cells work ids)) (left-read file cells work ids t b)
            ∙ ap (λ (x : Merge.Left). (ElfFile.laid (ElfFile.rows_of file) cells, x.cells.work, x.cells.ids, x.said)) m.is
            ∙ sym (ap (answer_in (merge_file file cells work ids)) (left-read file cells work ids s b));
        refusal = refusal-read file cells work ids t b ∙ g.refusal ∙ sym (refusal-read file cells work ids s b);
        next = subst (λ (u : Linked). Alike key u (call_next (merge_file file cells work ids) t)) (sym (next-read file cells work ids s b))
            (subst (λ (u : Linked). Alike key (call_next (merge (ElfFile.rows_of file) work ids) s) u) (sym (next-read file cells work ids t b)) g.next);
      }

  file-unread : (file cells work ids : List ℕ) → is_read file cells s ≡ false → Same key (merge_file file cells work ids) s t
  file-unread file cells work ids b =
      record {
        answer = ap (answer_in (merge_file file cells work ids)) (left-unread file cells work ids t b)
            ∙ sym (ap (answer_in (merge_file file cells work ids)) (left-unread file cells work ids s b));
        refusal = refusal-unread file cells work ids t b ∙ sym (refusal-unread file cells work ids s b);
        next = subst (λ (u : Linked). Alike key u (call_next (merge_file file cells work ids) t)) (sym (next-unread file cells work ids s b))
            (subst (λ (u : Linked). Alike key s u) (sym (next-unread file cells work ids t b)) stays);
      }

  under_same : (k : Call) → Same key k s t
  under_same (intern x) =
      let m = intern-moved key (store s.table) n e x in
      record {
        answer = ap (λ (o : Names.Left). o.said) m.is;
        refusal = ap (λ (o : Names.Left). refusal_by o.said) m.is;
        next = record {
          names = m.names;
          is = ap (λ (o : Names.Left). linked (with_store s.table o.store) s.inputs s.lists) m.is;
          rows = m.alike;
          named = intern-named (store s.table) x s.table.sections h;
        };
      }
  under_same (reads (Read.resolve id)) =
      let q = resolve_same key (store s.table) n e id in
      record { answer = q; refusal = ap (λ (o : Names.Resolved). o.refusal) q; next = stays }
  under_same (add conversion u) = add-under key s n e h conversion u
  under_same (add_list conversion adds ids) = list-alike key conversion adds ids s t stays
  under_same (remove id) =
      let l : Link = s.table.link in
      let x : Rows = rows_of s.table.symbols s.table.sections in
      let q = remove-keyed key l x id in
      let g = remove-named l x id h in
      record {
        answer = ap (λ (o : RemoveLeft). o.said) q;
        refusal = ap (λ (o : RemoveLeft). refusal_by o.said) q;
        next = record {
          names = n;
          is = ap (λ (o : RemoveLeft). linked (with_rows t.table o.rows o.link) s.inputs s.lists) q;
          rows = subst (λ (m : Link). Rekeyed key (store_of s.table.bytes s.table.names m) n) (sym (remove-link l x id)) e;
          named = subst (λ (m : Link). Named m (remove_of l x id).rows.sections) (sym (remove-link l x id)) g;
        };
      }
  under_same (reads (Read.get id)) =
      let q = get-keyed key s.table.link s.table.symbols id in
      record { answer = q; refusal = ap Lookup.refusal_of q; next = stays }
  under_same (reads (Read.get_global name)) =
      let q = global-same key (store s.table) n s.table.symbols e name in
      record { answer = q; refusal = ap Lookup.refusal_of q; next = stays }
  under_same (reads (Read.section_symbol section)) = record { answer = section-symbol-keyed key s.table.link s.table.sections section; refusal = refl; next = stays }
  under_same (add_group o work i) =
      let m = add-group-moved key (group_in s.table work) n e o i in
      record {
        answer = ap (λ (x : AddGroup.Left). (x.work, x.said)) m.is;
        refusal = ap (λ (x : AddGroup.Left). x.said) m.is;
        next = record {
          names = m.names;
          is = ap (λ (x : AddGroup.Left). linked (with_store s.table (store_of x.bytes x.names x.outcome.link)) s.inputs s.lists) m.is;
          rows = m.alike;
          named = group-named o (group_in s.table work) i s.table.sections h;
        };
      }
  under_same (merge o work ids) = object-same o work ids
  under_same (merge_file file cells work ids) = by-test (is_read file cells s) (λ b. file-read file cells work ids b) (λ b. file-unread file cells work ids b)
  under_same (load o marks) =
      let m = load_moved key (library_in s marks) n e o in
      record {
        answer = ap (λ (x : Shared.Left). (x.cells.marks, x.said)) m.is;
        refusal = ap (λ (x : Shared.Left). refusal_by x.said) m.is;
        next = record {
          names = m.names;
          is = ap (λ (x : Shared.Left). linked (Loads.table_in x.cells) x.cells.inputs x.cells.lists) m.is;
          rows = m.alike;
          named = load-named o (library_in s marks) h;
        };
      }
  under_same (reads (Read.archive_start walk_key archives cells)) = record { answer = refl; refusal = refl; next = stays }
  under_same (reads (Read.archive_next archives cells w)) =
      let q = next-same key (view_in s.table) n e archives cells w in
      record { answer = q; refusal = ap (refusal_in (archive_next archives cells w)) q; next = stays }
  under_same (reads (Read.archive_shadowed index rows w cells)) =
      let q = shadowed-same key (view_in s.table) n e index rows w cells in
      record { answer = q; refusal = ap (refusal_in (archive_shadowed index rows w cells)) q; next = stays }
  under_same (reads (Read.matches headers entries contents file index cells w i)) =
      let q = matches-same key s.table.link headers entries contents file index cells w i in
      record { answer = q; refusal = ap (refusal_in (matches headers entries contents file index cells w i)) q; next = stays }
  under_same (reads (Read.would_define headers entries contents file cells)) =
      let q = would-same key (view_in s.table) n e headers entries contents file cells in
      record { answer = q; refusal = ap (refusal_in (would_define headers entries contents file cells)) q; next = stays }
  under_same (collect marks entry work) =
      let l : Link = s.table.link in
      let q = collect-same key (store s.table) n e s.table.symbols s.table.sections s.lists marks h entry work in
      let g = collect-named l (lists_in s marks) s.table.symbols s.table.sections entry work h in
      let same = collect-link l (lists_in s marks) s.table.symbols s.table.sections entry work in
      record {
        answer = ap (λ (o : Collection.Left). (o.work, o.said)) q;
        refusal = ap (refusal_in (collect marks entry work)) q;
        next = record {
          names = n;
          is = ap (λ (o : Collection.Left). linked (with_rows t.table (rows_of o.symbols o.sections) o.link) s.inputs s.lists) q;
          rows = subst (λ (m : Link). Rekeyed key (store_of s.table.bytes s.table.names m) n) (sym same) e;
          named = subst (λ (m : Link). Named m (call_left (collect marks entry work) s).sections) (sym same) g;
        };
      }
  under_same (plain_collect marks entry work) =
      let l : Link = s.table.link in
      let q = plain-same key (store s.table) n e s.table.symbols s.table.sections s.lists marks h entry work in
      let g = plain-named l (lists_in s marks) s.table.symbols s.table.sections entry work h in
      let same = plain-link marks entry work s in
      record {
        answer = ap (λ (o : Collection.Left). (o.work, o.said)) q;
        refusal = ap (refusal_in (plain_collect marks entry work)) q;
        next = record {
          names = n;
          is = ap (λ (o : Collection.Left). linked (with_rows t.table (rows_of o.symbols o.sections) o.link) s.inputs s.lists) q;
          rows = subst (λ (m : Link). Rekeyed key (store_of s.table.bytes s.table.names m) n) (sym same) e;
          named = subst (λ (m : Link). Named m (call_left (plain_collect marks entry work) s).sections) (sym same) g;
        };
      }

pub call_same : (key : ℕ) (k : Call) (s t : Linked) → Alike key s t → Same key k s t
call_same key k s t a = subst (Same key k s) (sym a.is) (under_same key s a.names a.rows a.named k)

-- ---- every history, those that remove too

pub calls_same : (key : ℕ) (ks : List Call) (s t : Linked) → Alike key s t → SameAnswers ks s t × Alike key (run_calls ks s) (run_calls ks t)
calls_same key [] s t a = (tt, a)
calls_same key (k ∷ ks) s t a =
    let one = call_same key k s t a in
    let more = calls_same key ks (call_next k s) (call_next k t) one.next in
    ((one.answer, one.refusal, more.0), more.1)

module _ (key other : ℕ) (gabi : Bool) (bytes names symbols sections inputs lists : List ℕ) where
  -- a new table is answered alike
  pub new-alike : (new_of other gabi bytes names symbols sections).said ≡ (new_of key gabi bytes names symbols sections).said
  new-alike = new-said key other gabi bytes names symbols sections

  -- of the same lent lists
  abbrev pub start_under : ℕ → Linked
  start_under k = linked (opened (new_of k gabi bytes names symbols sections)) inputs lists

  module _ (new : number_in (new_of key gabi bytes names symbols sections).said ≡ 0) where
    start-alike : Alike other (start_under key) (start_under other)
    start-alike =
        let m = new-moved key other gabi bytes names symbols sections new in
        record {
          names = m.names;
          is = ap (λ (o : NewLeft). linked (opened o) inputs lists) m.is;
          rows = m.alike;
          named = new-named key other gabi bytes names symbols sections;
        }

    pub keys-alike : (ks : List Call) → SameAnswers ks (start_under key) (start_under other) × Alike other (run_calls ks (start_under key)) (run_calls ks (start_under other))
    keys-alike ks = calls_same other ks (start_under key) (start_under other) start-alike
