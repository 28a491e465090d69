-- "Needed", as the rules have it and as the load judges it.
-- Assumes nothing.
use Rattle.std.specs.Prelude.{ℕ, zero, suc, ◌+◌, ◌/◌, ◌<◌, ◌≤◌, ◌≡◌, Bool, ◌&&◌, ◌||◌, List, [], ◌∷◌, eqb, ltb, length}
use Rattle.std.proofs.Common.{arith, sym, ap, ◌∙◌, subst, eqb-true, eq-eqb, ltb-true, ltb-false, lt-ltb}
use Rattle.std.proofs.Math.Path.{refl}
use Rattle.std.proofs.Math.Bool.{true, false, cond, not}
use Rattle.std.proofs.lemmas.Bool.{false≢true, not-true}
use Rattle.cells.specs.Proof.Split.{by-test}
use Rattle.interner.specs.Names.{find_of}
use Rattle.interner_laws.specs.Good.{Chained}
use Rattle.symbol_resolution.specs.declared.rows.Holder.TheVariants.{Known}
use Rattle.symbol_resolution.specs.Holder.{holder_of}
use Rattle.shared_objects.specs.Lists.{has_id}
use Rattle.symbol_resolution.specs.RowsUndefined.{strong_undefined}
use Rattle.shared_objects.specs.Need.{provides, lacked_by, need_of}
use Rattle.shared_objects.specs.Load.{Input}
use Rattle.load_laws.proofs.Own.{lacking-own, own-lacking}
use Rattle.load_laws.proofs.LawsOwn.{provides-own, own-provides}
use Rattle.load_laws.specs.Needed.{Records, Lacked, undefined, recorded, Needed}
use Rattle.load_laws.proofs.LawsLists.{has-holds, holds_has}
use Rattle.load_laws.proofs.Exact.{needed-sound, needed-complete}
use Rattle.symbol.specs.Layout.{scope_in}
use Rattle.symbol_laws.specs.History.{State, store}
use Rattle.link_laws.specs.Rules.{some}
use Rattle.link_laws.proofs.Exactly.{holder-is}
use Rattle.link_laws.specs.TableRules.{is_issued, is_known, row_of, is_removed, is_undefined_row, is_strong_row, id_in, class_of}
use Rattle.link_laws.specs.ObjectRules.{cell_at}
use Rattle.link_laws.proofs.MergeSymbols.{find-is}
use Rattle.link_laws.specs.LoadRules.{library_name, is_named, bytes, is_defined, is_global, is_weak, is_undefined_in, has, is_library, dependencies, undefined_names, is_named_by, is_lacked, is_needed}

-- ---- tests

pub both : (a b : Bool) → a && b ≡ true → (a ≡ true) × (b ≡ true)
both true b e = (refl, e)
both false b e = absurd (false≢true e)

pub either : {P : Type 0} (a b : Bool) → a || b ≡ true → (a ≡ true → P) → (b ≡ true → P) → P
either true b e f g = f refl
either false b e f g = g e

pub same_tests : (a b : Bool) → (a ≡ true → b ≡ true) → (b ≡ true → a ≡ true) → a ≡ b
same_tests true b f g = sym (f refl)
same_tests false true f g = g refl
same_tests false false f g = refl

and-true : (a b : Bool) → a ≡ true → b ≡ true → a && b ≡ true
and-true a b e f = rw (e, f)

or-second : (a b : Bool) → b ≡ true → a || b ≡ true
or-second true b e = refl
or-second false b e = e

-- one of n numbers from i on
pub record Among (test : ℕ → Bool) (i n : ℕ) : Type 0 where
  pub one : ℕ
  pub from : i ≤ one
  pub below : one < i + n
  pub so : test one ≡ true

module _ (test : ℕ → Bool) where
  pub some-among : (n i : ℕ) → some test i n ≡ true → Among test i n
  some-among zero i e = absurd (false≢true e)
  some-among (suc n) i e =
      by-test (test i) (λ a. record { one = i; from = omega arith; below = omega arith; so = a })
      (λ a.
      let k = some-among n (i + 1) (rw a at e) in
      record { one = k.one; from = omega (arith, k.from); below = omega (arith, k.below); so = k.so })

  pub among-some : (n i k : ℕ) → i ≤ k → k < i + n → test k ≡ true → some test i n ≡ true
  among-some zero i k p q e = absurd (omega arith)
  among-some (suc n) i k p q e =
      by-test (eqb i k) (λ a. let z : i ≡ k = eqb-true _ _ a in rw (z, e))
      (λ a. or-second (test i) _ (among-some n (i + 1) k (later a p) (omega arith) e))
    where
      later : eqb i k ≡ false → i ≤ k → i + 1 ≤ k
      later a l =
          by-test (ltb i k) (λ b. let d : i < k = ltb-true _ _ b in omega arith)
          (λ b. let d : k ≤ i = ltb-false _ _ b in absurd (false≢true (sym a ∙ eq-eqb i k (omega arith))))

has-is : (l : List ℕ) (id : ℕ) → has l id ≡ has_id l id
unfolding has_id
has-is [] id = refl
has-is (a ∷ l) id = by-test (eqb a id) (λ e. rw e) (λ e. rw e (has-is l id))

-- ---- the names

module _ (o : Input) (t : State) (inputs lists : List ℕ) (c : Chained (store t)) where
  abbrev self : ℕ
  self = find_of t.bytes t.names t.link (library_name o)

  abbrev Lack : ℕ → Type 0
  Lack id = Lacked t.link t.names t.symbols inputs lists self id

  defines-is : (i : ℕ) → provides o.entries i ≡ is_defined o i && (is_global o i || is_weak o i)
  unfolding provides
  defines-is i = tree (eqb (cell_at o.entries i 4) 0) (eqb (cell_at o.entries i 1) 1) (eqb (cell_at o.entries i 1) 2)
    where
      tree : (x y z : Bool) → cond x false (cond y true (cond z true false)) ≡ not x && (y || z)
      tree true y z = refl
      tree false true z = refl
      tree false false true = refl
      tree false false false = refl

  strong-is : (id : ℕ) → strong_undefined t.symbols (record { 0 = id }) ≡ is_undefined_row t id && is_strong_row t id
  unfolding strong_undefined scope_in
  strong-is id = tree (is_undefined_row t id) (eqb (class_of t id) 1) (eqb (class_of t id) 2)
    where
      tree : (x y z : Bool) → cond x (cond y true (cond z true false)) false ≡ x && (y || z)
      tree true true z = refl
      tree true false true = refl
      tree true false false = refl
      tree false y z = refl

  held-is : (id : ℕ) → lacked_by t.symbols (holder_of t.link t.names t.symbols (record { 0 = id })) ≡ is_undefined_in t id
  held-is id =
      rw (holder-is t id)
      (by-test (is_known t id)
      (λ a. by-test (is_removed t (row_of t id)) (λ b. rw (a, b)) (λ b. rw (a, b) (strong-is (row_of t id)))) (λ a. rw a))

  held_by : (id : ℕ) → is_known t id ≡ true → not (is_removed t (row_of t id)) ≡ true
      → holder_of t.link t.names t.symbols (record { 0 = id }) ≡ Known (record { 0 = row_of t id })
  held_by id k r = rw (holder-is t id, k, not-true (is_removed t (row_of t id)) r)

  -- ---- lacked

  self-is : self ≡ id_in t (library_name o)
  self-is = find-is t c (library_name o)

  module _ (id : ℕ) where
    records-named : (k : ℕ) → Records inputs lists t.link.names self k id → is_named_by o t inputs lists id k ≡ true
    records-named k r =
        and-true (is_library inputs lists k && not listed) (has (undefined_names inputs lists k) id)
        (and-true (is_library inputs lists k) (not listed) (eq-eqb _ _ r.library) unlisted) (has-is (undefined_names inputs lists k) id ∙ holds_has (undefined_names inputs lists k) id r.recorded)
      where
        listed : Bool
        listed = is_issued t (id_in t (library_name o)) && has (dependencies inputs lists k) (id_in t (library_name o))

        unlisted : not listed ≡ true
        unlisted =
            by-test listed
            (λ e.
            let d = both (is_issued t (id_in t (library_name o))) (has (dependencies inputs lists k) (id_in t (library_name o))) e in
            absurd (r.unlisted (ltb-true self t.link.names (ap (λ (n : ℕ). ltb n t.link.names) self-is ∙ d.0))
            (has-holds (dependencies inputs lists k) self (sym (has-is (dependencies inputs lists k) self) ∙ ap (has (dependencies inputs lists k)) self-is ∙ d.1))))
            (λ e. ap not e)

    named-records : (k : ℕ) → is_named_by o t inputs lists id k ≡ true → Records inputs lists t.link.names self k id
    named-records k e =
        let listed = is_issued t (id_in t (library_name o)) && has (dependencies inputs lists k) (id_in t (library_name o)) in
        let p = both (is_library inputs lists k && not listed) (has (undefined_names inputs lists k) id) e in
        let q = both (is_library inputs lists k) (not listed) p.0 in
        record {
          library = eqb-true _ _ q.0;
          unlisted =
              λ l h.
              let i : is_issued t (id_in t (library_name o)) ≡ true = ap (λ (n : ℕ). ltb n t.link.names) (sym self-is) ∙ lt-ltb self t.link.names l in
              let d : has (dependencies inputs lists k) (id_in t (library_name o)) ≡ true =
              ap (has (dependencies inputs lists k)) (sym self-is) ∙ has-is (dependencies inputs lists k) self ∙ holds_has (dependencies inputs lists k) self h in
              let z : is_issued t (id_in t (library_name o)) && has (dependencies inputs lists k) (id_in t (library_name o)) ≡ true = rw (i, d) in
              false≢true (sym (not-true listed q.1) ∙ z);
          recorded = has-holds (undefined_names inputs lists k) id (sym (has-is (undefined_names inputs lists k) id) ∙ p.1);
        }

    lacked-so : Lack id → is_undefined_in t id || some (is_named_by o t inputs lists id) 0 t.link.inputs ≡ true
    lacked-so (undefined row q e) = let z : is_undefined_in t id ≡ true = sym (held-is id) ∙ ap (lacked_by t.symbols) q ∙ own-lacking t.symbols row e in rw z
    lacked-so (recorded k g r) =
        or-second (is_undefined_in t id) _ (among-some (is_named_by o t inputs lists id) t.link.inputs 0 k (omega arith) (omega arith) (records-named k r))

    so-lacked : is_undefined_in t id || some (is_named_by o t inputs lists id) 0 t.link.inputs ≡ true → Lack id
    so-lacked e =
        either (is_undefined_in t id) _ e
        (λ a.
        let p = both (is_known t id && not (is_removed t (row_of t id)) && is_undefined_row t (row_of t id)) (is_strong_row t (row_of t id)) a in
        let q = both (is_known t id && not (is_removed t (row_of t id))) (is_undefined_row t (row_of t id)) p.0 in
        let r = both (is_known t id) (not (is_removed t (row_of t id))) q.0 in
        undefined (record { 0 = row_of t id }) (held_by id r.0 r.1) (lacking-own t.symbols (record { 0 = row_of t id }) (strong-is (row_of t id) ∙ rw (q.1, p.1))))
        (λ b.
        let k = some-among (is_named_by o t inputs lists id) t.link.inputs 0 b in
        recorded k.one (omega (arith, k.below)) (named-records k.one k.so))

  -- ---- needed

  abbrev Need : Type 0
  Need = Needed t.link t.bytes t.names t.symbols inputs lists o.entries o.image (library_name o)

  abbrev test : ℕ → Bool
  test i = is_defined o i && (is_global o i || is_weak o i) && is_named o i && is_lacked o t inputs lists (id_in t (bytes o i))

  needed-so : Need → is_needed o t inputs lists ≡ true
  needed-so n =
      let i = n.symbol in
      let id = find-is t c (bytes o i) in
      let d : is_defined o i && (is_global o i || is_weak o i) ≡ true = sym (defines-is i) ∙ own-provides o.entries i n.defines in
      let s : is_issued t (id_in t (bytes o i)) ≡ true = ap (λ (n : ℕ). ltb n t.link.names) (sym id) ∙ lt-ltb _ _ n.issued in
      let l = lacked-so (id_in t (bytes o i)) (subst Lack id n.lacked) in
      among-some test (length o.entries / 8) 0 i (omega arith) (omega (arith, n.within))
      (and-true _ _ (and-true _ _ d n.found) (and-true _ _ s l))

  so-needed : is_needed o t inputs lists ≡ true → Need
  so-needed e =
      let k = some-among test (length o.entries / 8) 0 e in
      let i = k.one in
      let id = find-is t c (bytes o i) in
      let p = both (is_defined o i && (is_global o i || is_weak o i) && is_named o i) (is_lacked o t inputs lists (id_in t (bytes o i))) k.so in
      let q = both (is_defined o i && (is_global o i || is_weak o i)) (is_named o i) p.0 in
      let r = both (is_issued t (id_in t (bytes o i))) (is_undefined_in t (id_in t (bytes o i)) || some (is_named_by o t inputs lists (id_in t (bytes o i))) 0 t.link.inputs) p.1 in
      record {
        symbol = i;
        within = omega (arith, k.below);
        defines = provides-own o.entries i (defines-is i ∙ q.0);
        found = q.1;
        issued = ltb-true _ _ (ap (λ (n : ℕ). ltb n t.link.names) id ∙ r.0);
        lacked = subst Lack (sym id) (so-lacked (id_in t (bytes o i)) r.1);
      }

  pub needed-is : (marks : List ℕ) → t.link.names ≤ length marks
      → (need_of t.link t.bytes t.names t.symbols inputs lists marks o.entries o.image (library_name o)).needed ≡ is_needed o t inputs lists
  needed-is marks room =
      same_tests _ _
      (λ e. needed-so (needed-sound t.link t.bytes t.names t.symbols inputs lists marks o.entries o.image (library_name o) room e))
      (λ e. needed-complete t.link t.bytes t.names t.symbols inputs lists marks o.entries o.image (library_name o) room (so-needed e))
