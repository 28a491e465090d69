-- Need over a history, without a cell: by lookups and by the libraries that were loaded. It is the need by the link's rows.
-- Assumes nothing.
use Prim.Native.Nat.{ℕ, zero, suc, ◌+◌, ◌<◌, ◌≤◌}
use Rattle.std.proofs.Common.{arith, not-suc-le-zero, sym, ap, subst, ◌∙◌, inl}
use Rattle.std.specs.Prelude.{◌≡◌, refl, List, [], ◌∷◌, ◌++◌, ◌≢◌, ◌↔◌, ◌⊎◌, eqb, leb, ltb, get_or, length, Ok, Result}
use Rattle.std.proofs.Math.Logic.{inr}
use borrow.Author.Tests.{eqb-true, eqb-false, leb-false, ltb-true, ltb-false}
use Rattle.cells.specs.Proof.Split.{by-test}
use Rattle.gabi.specs.StringTable.{name_at}
use Rattle.link.specs.declared.Link.{Link}
use Rattle.link.specs.declared.cause.Refusal.{Refusal}
use Rattle.link.specs.declared.SymbolId.{SymbolId}
use Rattle.interner.specs.Names.{Store}
use Rattle.interner_laws.specs.Good.{Issued, name, count, find}
use Rattle.interner_laws.proofs.Find.{found, find-known}
use Rattle.symbol.specs.declared.Symbol.{Symbol}
use Rattle.symbol.specs.Row.{symbol_at}
use Rattle.symbol_resolution.specs.declared.rows.Holder.{Holder}
use Rattle.symbol_resolution.specs.declared.rows.Holder.TheVariants.{Unissued, Nobody, Removed, Known}
use Rattle.symbol_resolution.specs.Holder.{holder_of}
use Rattle.symbols.specs.Lookup.{not_found, held_of}
use Rattle.elf_object.specs.Rows.{rows_in, field}
use Rattle.shared_objects.specs.Need.{input_kind_at, dependencies_at, undefined_at}
use Rattle.shared_objects.specs.Load as Shared
use Rattle.shared_objects.specs.Load.{name_of}
use Rattle.load_laws.specs.Needed as Rows
use Rattle.load_laws.specs.Needed.{Defines, StrongUndefined, Holds, Lacked, library_kind, Needed}
use Rattle.load_laws.specs.Names.{Each, none, one, new_names, undefined_names, dependency_names}
use Rattle.symbol_laws.specs.History.{store}
use Rattle.symbol_laws.proofs.History.{run-append}
use Rattle.symbol_laws.proofs.Within as Within
use Rattle.merge_laws.specs.Calls.{Linked}
use Rattle.link_laws.specs.Calls.{Call, load, call_next, call_notes, run_calls}
use Rattle.link_laws.specs.Kept.{signatures}
use Rattle.link_laws.proofs.Kept.{Lasting, lasting-within, lasting-on}
use Rattle.link_laws.proofs.Libraries.{library-remembered, library-named}
use Rattle.link_laws.specs.LibraryLoads.{LoadedAt}
use Rattle.link_laws.proofs.LibraryLoads.{from-loads}
use Rattle.link_laws.proofs.Removal.{Ready}
use Rattle.link_laws.proofs.LookedUp.{calls-later}
use Rattle.link_laws.specs.Words.{lookup}
use Rattle.link_laws.specs.NeededIn.{DefinesName, LacksName, DependsOn, NeededIn, by_library, by_table}

-- ---- what a library's own entries say

-- ---- lists of ids and of the names that they stand for

abbrev In : List ℕ → List (List ℕ) → Type 0
In x [] = ⊥
In x (y ∷ ys) = (y ≡ x) ⊎ In x ys

record Stands (s : Store) (xs : List (List ℕ)) (i : ℕ) : Type 0 where
  x : List ℕ
  among : In x xs
  issued : Issued s i x

id-stands : (s : Store) (is : List ℕ) (xs : List (List ℕ)) → Each s is xs → (i : ℕ) → Holds is i → Stands s xs i
id-stands s [] [] none i h = absurd (not-suc-le-zero h.within)
id-stands s [] (y ∷ ys) e i h = elim e [ ]
id-stands s (j ∷ is) [] e i h = elim e [ ]
id-stands s (j ∷ is) (y ∷ ys) (one e p) i h = go h.at h.within h.same (id-stands s is ys p i)
  where
    go : (at : ℕ) → at < length (j ∷ is) → get_or (j ∷ is) at 0 ≡ i → (Holds is i → Stands s ys i) → Stands s (y ∷ ys) i
    go zero l q r = record { x = y; among = inl refl; issued = subst (λ (k : ℕ). Issued s k y) q e }
    go (suc at) l q r =
        let v = r (record { at = at; within = omega (arith, l); same = q }) in
        record { x = v.x; among = inr v.among; issued = v.issued }

record Held (s : Store) (is : List ℕ) (x : List ℕ) : Type 0 where
  i : ℕ
  holds : Holds is i
  issued : Issued s i x

name-held : (s : Store) (is : List ℕ) (xs : List (List ℕ)) → Each s is xs → (x : List ℕ) → In x xs → Held s is x
name-held s [] [] none x m = absurd m
name-held s [] (y ∷ ys) e x m = elim e [ ]
name-held s (j ∷ is) [] e x m = elim e [ ]
name-held s (j ∷ is) (y ∷ ys) (one e p) x (inl q) =
    record { i = j; holds = record { at = 0; within = omega arith; same = refl }; issued = subst (Issued s j) q e }
name-held s (j ∷ is) (y ∷ ys) (one e p) x (inr m) =
    let r = name-held s is ys p x m in
    record { i = r.i; holds = record { at = suc r.holds.at; within = omega (arith, r.holds.within); same = r.holds.same }; issued = r.issued }

in-append : (x : List ℕ) (xs ys : List (List ℕ)) → In x ys → In x (xs ++ ys)
in-append x [] ys m = m
in-append x (z ∷ xs) ys m = inr (in-append x xs ys m)

-- ---- a library's entries, and the names recorded of it

module _ (o : Shared.Input) (b : List ℕ) where
  abbrev e : List ℕ
  e = o.entries

  abbrev f : List ℕ
  f = o.image

  lacks-in : (n i : ℕ) (k : ℕ) → i ≤ k → k < i + n → field e k 4 ≡ 0 → field e k 1 ≡ 1 → name_at f (field e k 0) ≡ b → In b (undefined_names e f n i)
  unfolding undefined_names new_names
  lacks-in zero i k l h u g q = absurd (omega (arith, l, h))
  lacks-in (suc n) i k l h u g q =
      by-test (eqb i k)
      (λ t. let d : i ≡ k = eqb-true i k t in rw (d, u, g) (inl q))
      (λ t. in-append b (new_names e f i) (undefined_names e f n (i + 1)) (lacks-in n (i + 1) k (below i k l (eqb-false i k t)) (omega (arith, h)) u g q))
    where
      below : (i k : ℕ) → i ≤ k → i ≢ k → i + 1 ≤ k
      below i k l u = by-test (ltb i k) (λ t. omega (arith, ltb-true i k t)) (λ t. absurd (u (omega (arith, l, ltb-false i k t))))

  record Lacks (lo hi : ℕ) : Type 0 where
    k : ℕ
    low : lo ≤ k
    high : k < hi
    undefined : field e k 4 ≡ 0
    global : field e k 1 ≡ 1
    is : name_at f (field e k 0) ≡ b

  later : (i n : ℕ) → Lacks (i + 1) (i + 1 + n) → Lacks i (i + suc n)
  later i n r =
      record { k = r.k; low = omega (arith, r.low); high = omega (arith, r.high); undefined = r.undefined; global = r.global; is = r.is }

  in-lacks : (n i : ℕ) → In b (undefined_names e f n i) → Lacks i (i + n)
  unfolding undefined_names new_names
  in-lacks zero i m = absurd m
  in-lacks (suc n) i m =
      by-test (eqb (field e i 4) 0)
      (λ u.
      by-test (eqb (field e i 1) 1) (λ g. first (eqb-true _ _ u) (eqb-true _ _ g) (rw (u, g) at m) (in-lacks n (i + 1)))
      (λ g. later i n (in-lacks n (i + 1) (rw (u, g) at m))))
      (λ u. later i n (in-lacks n (i + 1) (rw u at m)))
    where
      first : field e i 4 ≡ 0 → field e i 1 ≡ 1 → (name_at f (field e i 0) ≡ b) ⊎ In b (undefined_names e f n (i + 1))
          → (In b (undefined_names e f n (i + 1)) → Lacks (i + 1) (i + 1 + n)) → Lacks i (i + suc n)
      first u g (inl q) r = record { k = i; low = omega arith; high = omega arith; undefined = u; global = g; is = q }
      first u g (inr m) r = later i n (r m)

  pub lacks-recorded : LacksName o b → In b (undefined_names e f (rows_in e) 0)
  lacks-recorded l = lacks-in (rows_in e) 0 l.symbol (omega arith) (omega (arith, l.within)) l.undefined l.global l.is

  pub recorded-lacks : In b (undefined_names e f (rows_in e) 0) → LacksName o b
  recorded-lacks m =
      let r = in-lacks (rows_in e) 0 m in
      record { symbol = r.k; within = omega (arith, r.high); undefined = r.undefined; global = r.global; is = r.is }

  depends-in : (n j : ℕ) (k : ℕ) → j ≤ k → k < j + n → name_at f (get_or o.needs k 0) ≡ b → In b (dependency_names f o.needs n j)
  unfolding dependency_names
  depends-in zero j k l h q = absurd (omega (arith, l, h))
  depends-in (suc n) j k l h q =
      by-test (eqb j k) (λ t. let d : j ≡ k = eqb-true j k t in rw d (inl q))
      (λ t. inr (depends-in n (j + 1) k (below j k l (eqb-false j k t)) (omega (arith, h)) q))
    where
      below : (i k : ℕ) → i ≤ k → i ≢ k → i + 1 ≤ k
      below i k l u = by-test (ltb i k) (λ t. omega (arith, ltb-true i k t)) (λ t. absurd (u (omega (arith, l, ltb-false i k t))))

  record Depends (lo hi : ℕ) : Type 0 where
    k : ℕ
    low : lo ≤ k
    high : k < hi
    is : name_at f (get_or o.needs k 0) ≡ b

  in-depends : (n j : ℕ) → In b (dependency_names f o.needs n j) → Depends j (j + n)
  unfolding dependency_names
  in-depends zero j m = absurd m
  in-depends (suc n) j (inl q) = record { k = j; low = omega arith; high = omega arith; is = q }
  in-depends (suc n) j (inr m) =
      let r = in-depends n (j + 1) m in
      record { k = r.k; low = omega (arith, r.low); high = omega (arith, r.high); is = r.is }

  pub depends-recorded : DependsOn o b → In b (dependency_names f o.needs (length o.needs) 0)
  depends-recorded d = depends-in (length o.needs) 0 d.at (omega arith) (omega (arith, d.within)) d.is

  pub recorded-depends : In b (dependency_names f o.needs (length o.needs) 0) → DependsOn o b
  recorded-depends m = let r = in-depends (length o.needs) 0 m in record { at = r.k; within = omega (arith, r.high); is = r.is }

-- ---- the history

no_row : {n p : ℕ} (y : Symbol) → not_found n p ≡ Ok y → ⊥
no_row y e = let z : ◌≡◌ {A = ℕ} 0 1 = cc in omega arith

same_row : {x y : Symbol} → ◌≡◌ {A = Result Symbol Refusal} (Ok x) (Ok y) → x ≡ y
same_row e = cc

known-issued : (l : Link) (names symbols : List ℕ) (i : ℕ) (row : SymbolId) → holder_of l names symbols (record { 0 = i }) ≡ Known row → i < l.names
unfolding holder_of
known-issued l names symbols i row e = by-test (leb l.names i) (λ t. absurd (never (rw t at e))) (λ t. leb-false _ _ t)
  where
    never : Nobody ≡ Known row → ⊥
    never q = let z : ◌≡◌ {A = ℕ} 0 1 = cc in omega arith

module _ (s0 : Linked) (met : List (List ℕ)) (k0 : Lasting s0 met) (g0 : Ready s0.table) (fresh : s0.table.link.inputs ≡ 0) (ks : List Call) where
  abbrev end : Linked
  end = run_calls ks s0

  lasting : Lasting end (met ++ signatures ks s0)
  lasting = lasting-on ks s0 met k0

  looked : (b : List ℕ) (h : Holder)
      → holder_of end.table.link end.table.names end.table.symbols (record { 0 = find (store end.table) b }) ≡ h
      → lookup b end ≡ held_of end.table.symbols (record { 0 = find (store end.table) b }) h
  looked b h =
      let r = (calls-later ks s0 g0).ready in
      Within.looked end.table (record { few = r.below.few; room = r.room })
      (lasting-within end _ lasting) (find (store end.table) b) h

  abbrev lacked_by : {k : ℕ} → LoadedAt k ks s0 → List (List ℕ)
  lacked_by l = undefined_names l.library.entries l.library.image (rows_in l.library.entries) 0

  abbrev needed_by : {k : ℕ} → LoadedAt k ks s0 → List (List ℕ)
  needed_by l = dependency_names l.library.image l.library.needs (length l.library.needs) 0

  -- a loaded library's row at the end, and the names that it has
  record Ok·of (k : ℕ) (l : LoadedAt k ks s0) : Type 0 where
    lacks : Each (store end.table) (undefined_at end.inputs end.lists k) (undefined_names l.library.entries l.library.image (rows_in l.library.entries) 0)
    needs : Each (store end.table) (dependencies_at end.inputs end.lists k) (dependency_names l.library.image l.library.needs (length l.library.needs) 0)
    kind : input_kind_at end.inputs k ≡ library_kind
    counted : k < end.table.link.inputs

  row_of : (k : ℕ) (l : LoadedAt k ks s0) → Ok·of k l
  row_of k l =
      let s : Linked = run_calls l.before s0 in
      let t : Linked = run_calls l.behind (call_next (load l.library l.marks) s) in
      let before = lasting-on l.before s0 met k0 in
      let r = library-remembered s _ before l.library l.marks l.loaded l.behind in
      let n = library-named s _ before l.library l.marks l.loaded l.behind in
      let e : t ≡ end = sym (ap (λ (c : List Call). run_calls c s0) l.split ∙ run-append call_next call_notes l.before (load l.library l.marks ∷ l.behind) s0) in
      let p : s.table.link.inputs ≡ k = l.place in
      let us : List (List ℕ) = undefined_names l.library.entries l.library.image (rows_in l.library.entries) 0 in
      let ds : List (List ℕ) = dependency_names l.library.image l.library.needs (length l.library.needs) 0 in
      record {
        lacks =
            subst (λ (u : Linked). Each (store u.table) (undefined_at u.inputs u.lists k) us) e
            (subst (λ (i : ℕ). Each (store t.table) (undefined_at t.inputs t.lists i) us) p (subst (λ (is : List ℕ). Each (store t.table) is us) (sym r.lacks) n.lacked));
        needs =
            subst (λ (u : Linked). Each (store u.table) (dependencies_at u.inputs u.lists k) ds) e
            (subst (λ (i : ℕ). Each (store t.table) (dependencies_at t.inputs t.lists i) ds) p (subst (λ (is : List ℕ). Each (store t.table) is ds) (sym r.needs) n.listed));
        kind = subst (λ (u : Linked). input_kind_at u.inputs k ≡ library_kind) e (subst (λ (i : ℕ). input_kind_at t.inputs i ≡ library_kind) p r.kind);
        counted = subst (λ (u : Linked). k < u.table.link.inputs) e (subst (λ (i : ℕ). i < t.table.link.inputs) p r.counted);
      }

  module _ (o : Shared.Input) where
    abbrev st : Store
    st = store end.table

    abbrev ByRows : Type 0
    ByRows = Needed end.table.link end.table.bytes end.table.names end.table.symbols end.inputs end.lists o.entries o.image (name_of o)

    -- an id is a name's just if it is found under it
    found_name : (b : List ℕ) → find st b < count st → name st (find st b) ≡ b
    found_name b h = (found st b lasting.marked.good.chained).hit h

    issued-find : (i : ℕ) (b : List ℕ) → Issued st i b → find st b ≡ i
    issued-find i b m = find-known st b lasting.marked.good.chained i m.low m.right

    by_rows : ByRows → NeededIn s0 ks o
    by_rows n = go n.lacked
      where
        b : List ℕ
        b = name_at o.image (field o.entries n.symbol 0)

        defined : DefinesName o b
        defined = record { symbol = n.symbol; within = n.within; defines = n.defines; named = n.found; is = refl }

        go : Lacked end.table.link end.table.names end.table.symbols end.inputs end.lists (find st (name_of o)) (find st b) → NeededIn s0 ks o
        go (Rows.undefined row e u) = by_table b defined (symbol_at end.table.symbols row) (looked b (Known row) e) u
        go (Rows.recorded k h r) =
            let l : LoadedAt k ks s0 = from-loads ks s0 k0.lent k (omega (arith, fresh)) h r.library in
            let v = row_of k l in
            let m = id-stands st (undefined_at end.inputs end.lists k) (lacked_by l) v.lacks (find st b) r.recorded in
            let same : m.x ≡ b = sym m.issued.right ∙ found_name b n.issued in
            by_library b defined k l (recorded-lacks l.library b (subst (λ (x : List ℕ). In x (lacked_by l)) same m.among))
            (λ d.
            let q = name-held st (dependencies_at end.inputs end.lists k) (needed_by l) v.needs (name_of o) (depends-recorded l.library (name_of o) d) in
            let w = issued-find q.i (name_of o) q.issued in
            r.unlisted (rw w q.issued.low) (rw w q.holds))

    by-history : NeededIn s0 ks o → ByRows
    by-history (by_table b d y e u) =
        held (holder_of end.table.link end.table.names end.table.symbols (record { 0 = find st b })) refl
      where
        held : (h : Holder) → holder_of end.table.link end.table.names end.table.symbols (record { 0 = find st b }) ≡ h → ByRows
        held Unissued q = absurd (no_row y (sym (looked b Unissued q) ∙ e))
        held Nobody q = absurd (no_row y (sym (looked b Nobody q) ∙ e))
        held Removed q = absurd (no_row y (sym (looked b Removed q) ∙ e))
        held (Known row) q =
            let same : symbol_at end.table.symbols row ≡ y = same_row (sym (looked b (Known row) q) ∙ e) in
            record {
              symbol = d.symbol;
              within = d.within;
              defines = d.defines;
              found = d.named;
              issued = rw d.is (known-issued end.table.link end.table.names end.table.symbols (find st b) row q);
              lacked = rw d.is (Rows.undefined row q (subst StrongUndefined (sym same) u));
            }
    by-history (by_library b d k l a n) =
        let v = row_of k l in
        let m = name-held st _ _ v.lacks b (lacks-recorded l.library b a) in
        let w = issued-find m.i b m.issued in
        record {
          symbol = d.symbol;
          within = d.within;
          defines = d.defines;
          found = d.named;
          issued = rw (d.is, w) m.issued.low;
          lacked =
              rw (d.is, w)
              (Rows.recorded k v.counted
              (record {
                library = v.kind;
                unlisted = λ h r.
                    let q = id-stands st _ _ v.needs (find st (name_of o)) r in
                    let same : q.x ≡ name_of o = sym q.issued.right ∙ found_name (name_of o) h in
                    n (recorded-depends l.library (name_of o) (subst (λ (x : List ℕ). In x (needed_by l)) same q.among));
                recorded = m.holds;
              }));
        }

    pub needed-in : ByRows ↔ NeededIn s0 ks o
    needed-in = (by_rows, by-history)
