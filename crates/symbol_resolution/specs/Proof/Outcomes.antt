-- The outcomes of the decision on an add: a law for each, in the row's terms, and the view that has them all. Theorems cite these, and not how the
-- decision is written down.
-- Assumes nothing.
use Rattle.std.specs.Prelude.{ℕ, ◌≡◌, Bool, true, false, not, ◌&&◌, List, ◌≢◌, eqb, ltb, leb, length}
use Rattle.std.proofs.Common.{arith, sym, ap, ◌∙◌, subst}
use Rattle.std.proofs.Math.Path.{refl}
use Rattle.std.proofs.lemmas.Bool.{false≢true, eqb-false}
use Rattle.cells.specs.Proof.Split.{by-test}
use Rattle.gabi.specs.SymbolTable.{stt_file}
use Rattle.link.specs.declared.Link.{Link}
use Rattle.link.specs.declared.SymbolId.{SymbolId}
use Rattle.link.specs.Bounds.{symbol_rows}
use Rattle.symbol.specs.declared.Row.{Row}
use Rattle.symbol.specs.Row.{scope_at, kind_at, set_row, scope_refused, scope_refusal, value_refused, value_refusal}
use Rattle.symbol.specs.Hidden.{hidden_code, passes}
use Rattle.symbol.specs.Layout.{local}
use Rattle.symbol.specs.Proof.Ways.{refused-scope, refused-value}
use Rattle.symbol_resolution.specs.declared.rows.Holder.{Holder}
use Rattle.symbol_resolution.specs.declared.rows.Holder.TheVariants.{Unissued, Nobody, Removed, Known}
use Rattle.symbol_resolution.specs.Decision.{Decision, Refuse, Nothing, Keep, Append, Replace, Amend}
use Rattle.symbol_resolution.specs.Decide.{rank_of, strong_rank, joins, type_refusal, section_cell, section_room, room_of, new_of, replace_of, kept_of, stays_of, ranked_of, known_of, decide_of, refusal_of}
use Rattle.symbol_resolution.specs.Apply.{Table, table_of, append_of, replaced_in, amended_in, apply_of}

-- ---- what a row meets under its name's holder; a local row meets no holder

-- "a name id never issued, or a global or weak name whose row was removed"
abbrev pub absent_under : Bool → Holder → Bool
absent_under is_local Unissued = true
absent_under is_local Nobody = false
absent_under is_local Removed = not is_local
absent_under is_local (Known id) = false

-- "a local or a new name"
abbrev pub fresh_under : Bool → Holder → Bool
fresh_under is_local Unissued = false
fresh_under is_local Nobody = true
fresh_under is_local Removed = is_local
fresh_under is_local (Known id) = is_local

module _ (r : Row) where
  abbrev pub is_local_row : Bool
  is_local_row = eqb r.scope local

  abbrev pub row_rank : Bool → ℕ
  row_rank gabi = rank_of gabi r.scope r.value.kind

  -- no refusal stands in the row's scope, and none in its value
  pub record Passing : Type 0 where
    pub scope : scope_refused r ≡ false
    pub value : value_refused r ≡ false

  pub record Meets (h : Holder) (id : SymbolId) : Type 0 where
    pub global : is_local_row ≡ false
    pub known : h ≡ Known id

abbrev pub held_rank : Bool → List ℕ → SymbolId → ℕ
held_rank gabi symbols id = rank_of gabi (scope_at symbols id.0) (kind_at symbols id.0)

-- the row that stays becomes hidden: the add is, it isn't, and hidden passes
abbrev pub hides : Bool → List ℕ → Row → SymbolId → Bool
hides gabi symbols r id = passes gabi r.scope && not (hidden_code (scope_at symbols id.0))

module _ (l : Link) (symbols sections : List ℕ) (r : Row) where
  abbrev decision : Holder → Decision
  decision h = decide_of l symbols sections r h

  -- ---- a law for each outcome

  -- 10, 11, 12
  pub scope-refused : (h : Holder) → scope_refused r ≡ true → decision h ≡ Refuse (scope_refusal r)
  unfolding decide_of
  scope-refused h v = rw v

  module _ (v : scope_refused r ≡ false) where
    -- 21
    pub name-absent : (h : Holder) → absent_under (is_local_row r) h ≡ true → decision h ≡ Refuse 21
    unfolding decide_of
    name-absent Unissued a = by-test (is_local_row r) (λ k. rw (v, k)) (λ k. rw (v, k))
    name-absent Nobody a = absurd (false≢true a)
    name-absent Removed a = by-test (is_local_row r) (λ k. absurd (false≢true (rw k at a))) (λ k. rw (v, k))
    name-absent (Known id) a = absurd (false≢true a)

    is-new : (h : Holder) → fresh_under (is_local_row r) h ≡ true → decision h ≡ new_of l symbols sections r
    unfolding decide_of
    is-new Unissued f = absurd (false≢true f)
    is-new Nobody f = by-test (is_local_row r) (λ k. rw (v, k)) (λ k. rw (v, k))
    is-new Removed f = rw (v, f)
    is-new (Known id) f = rw (v, f)

    is_known : (h : Holder) (id : SymbolId) → Meets r h id → decision h ≡ known_of l.gabi symbols r id
    unfolding decide_of
    is_known h id m = rw (v, m.global, m.known)

    -- ---- a local or a new name

    module _ (h : Holder) (fresh : fresh_under (is_local_row r) h ≡ true) where
      -- 13, 28, 14
      pub new-unvalued : value_refused r ≡ true → decision h ≡ Refuse (value_refusal r)
      unfolding new_of
      new-unvalued w = rw (is-new h fresh, w)

      module _ (w : value_refused r ≡ false) where
        -- 15, 16
        pub new-untyped : eqb (type_refusal r.kind) 0 ≡ false → decision h ≡ Refuse (type_refusal r.kind)
        unfolding new_of
        new-untyped k = rw (is-new h fresh, w, k)

        pub new-full : eqb (type_refusal r.kind) 0 ≡ true → room_of l symbols sections r ≡ false → decision h ≡ Refuse 2
        unfolding new_of
        new-full k m = rw (is-new h fresh, w, k, m)

        pub new-appended : eqb (type_refusal r.kind) 0 ≡ true → room_of l symbols sections r ≡ true → decision h ≡ Append
        unfolding new_of
        new-appended k m = rw (is-new h fresh, w, k, m)

    -- ---- a known name

    module _ (h : Holder) (id : SymbolId) (meets : Meets r h id) where
      -- 13, 28, 14
      pub known-unvalued : value_refused r ≡ true → decision h ≡ Refuse (value_refusal r)
      unfolding known_of
      known-unvalued w = rw (is_known h id meets, w)

      module _ (w : value_refused r ≡ false) where
        -- the row yields: 15, 16, or it is replaced
        module _ (y : ltb (held_rank l.gabi symbols id) (row_rank r l.gabi) ≡ true) where
          pub known-untyped : eqb (type_refusal r.kind) 0 ≡ false → decision h ≡ Refuse (type_refusal r.kind)
          unfolding known_of ranked_of replace_of
          known-untyped k = rw (is_known h id meets, w, y, k)

          pub known-replaced : eqb (type_refusal r.kind) 0 ≡ true → decision h ≡ Replace id
          unfolding known_of ranked_of replace_of
          known-replaced k = rw (is_known h id meets, w, y, k)

        -- it stays
        module _ (y : ltb (held_rank l.gabi symbols id) (row_rank r l.gabi) ≡ false) where
          -- 17
          pub known_twice : eqb (row_rank r l.gabi) strong_rank ≡ true → decision h ≡ Refuse 17
          unfolding known_of ranked_of
          known_twice k = rw (is_known h id meets, w, y, k)

          module _ (k : eqb (row_rank r l.gabi) strong_rank ≡ false) where
            pub known-joined : joins (held_rank l.gabi symbols id) (row_rank r l.gabi) ≡ true → decision h ≡ Amend id
            unfolding known_of ranked_of stays_of
            known-joined j = rw (is_known h id meets, w, y, k, j)

            pub known_kept : joins (held_rank l.gabi symbols id) (row_rank r l.gabi) ≡ false → hides l.gabi symbols r id ≡ false → decision h ≡ Keep id
            unfolding known_of ranked_of stays_of kept_of
            known_kept j m =
                rw (is_known h id meets, w, y, k, j)
                (by-test (passes l.gabi r.scope)
                (λ p. by-test (hidden_code (scope_at symbols id.0)) (λ q. rw (p, q)) (λ q. absurd (false≢true (sym (rw (p, q) at m))))) (λ p. rw p))

            pub known-amended : joins (held_rank l.gabi symbols id) (row_rank r l.gabi) ≡ false → hides l.gabi symbols r id ≡ true → decision h ≡ Amend id
            unfolding known_of ranked_of stays_of kept_of
            known-amended j m =
                rw (is_known h id meets, w, y, k, j)
                (by-test (passes l.gabi r.scope)
                (λ p. by-test (hidden_code (scope_at symbols id.0)) (λ q. absurd (false≢true (rw (p, q) at m))) (λ q. rw (p, q)))
                (λ p. absurd (false≢true (rw p at m))))

  -- ---- all of them

  module _ (h : Holder) (d : Decision) where
    pub data Outcome : Type 0 where
      unscoped : scope_refused r ≡ true → d ≡ Refuse (scope_refusal r) → Outcome
      absent : scope_refused r ≡ false → absent_under (is_local_row r) h ≡ true → d ≡ Refuse 21 → Outcome
      unvalued : scope_refused r ≡ false → value_refused r ≡ true → d ≡ Refuse (value_refusal r) → Outcome
      untyped : Passing r → eqb (type_refusal r.kind) 0 ≡ false → d ≡ Refuse (type_refusal r.kind) → Outcome
      full : Passing r → fresh_under (is_local_row r) h ≡ true → room_of l symbols sections r ≡ false → d ≡ Refuse 2 → Outcome
      appended : Passing r → eqb (type_refusal r.kind) 0 ≡ true → fresh_under (is_local_row r) h ≡ true → room_of l symbols sections r ≡ true → d ≡ Append → Outcome
      twice : Passing r → (id : SymbolId) → Meets r h id → ltb (held_rank l.gabi symbols id) (row_rank r l.gabi) ≡ false
          → eqb (row_rank r l.gabi) strong_rank ≡ true → d ≡ Refuse 17 → Outcome
      replaced : Passing r → eqb (type_refusal r.kind) 0 ≡ true → (id : SymbolId) → Meets r h id → ltb (held_rank l.gabi symbols id) (row_rank r l.gabi) ≡ true → d ≡ Replace id → Outcome
      kept : Passing r → (id : SymbolId) → Meets r h id → ltb (held_rank l.gabi symbols id) (row_rank r l.gabi) ≡ false
          → eqb (row_rank r l.gabi) strong_rank ≡ false → joins (held_rank l.gabi symbols id) (row_rank r l.gabi) ≡ false
          → hides l.gabi symbols r id ≡ false → d ≡ Keep id → Outcome
      -- hidden passes to the row, or two commons are joined
      amended : Passing r → (id : SymbolId) → Meets r h id → ltb (held_rank l.gabi symbols id) (row_rank r l.gabi) ≡ false
          → eqb (row_rank r l.gabi) strong_rank ≡ false → d ≡ Amend id → Outcome

  module _ (v : scope_refused r ≡ false) where
    new-outcome : (h : Holder) → fresh_under (is_local_row r) h ≡ true → Outcome h (decision h)
    new-outcome h f =
        by-test (value_refused r) (λ w. unvalued v w (new-unvalued v h f w))
        (λ w.
        let p : Passing r = record { scope = v; value = w } in
        by-test (eqb (type_refusal r.kind) 0)
        (λ k. by-test (room_of l symbols sections r) (λ m. appended p k f m (new-appended v h f w k m)) (λ m. full p f m (new-full v h f w k m)))
        (λ k. untyped p k (new-untyped v h f w k)))

    known-outcome : (h : Holder) (id : SymbolId) → Meets r h id → Outcome h (decision h)
    known-outcome h id i =
        by-test (value_refused r) (λ w. unvalued v w (known-unvalued v h id i w))
        (λ w.
        let p : Passing r = record { scope = v; value = w } in
        by-test (ltb (held_rank l.gabi symbols id) (row_rank r l.gabi))
        (λ y.
        by-test (eqb (type_refusal r.kind) 0) (λ k. replaced p k id i y (known-replaced v h id i w y k)) (λ k. untyped p k (known-untyped v h id i w y k)))
        (λ y.
        by-test (eqb (row_rank r l.gabi) strong_rank) (λ k. twice p id i y k (known_twice v h id i w y k))
        (λ k.
        by-test (joins (held_rank l.gabi symbols id) (row_rank r l.gabi)) (λ j. amended p id i y k (known-joined v h id i w y k j))
        (λ j.
        by-test (hides l.gabi symbols r id) (λ m. amended p id i y k (known-amended v h id i w y k j m))
        (λ m. kept p id i y k j m (known_kept v h id i w y k j m))))))

    passing-outcome : (h : Holder) → Outcome h (decision h)
    passing-outcome Unissued = absent v refl (name-absent v Unissued refl)
    passing-outcome Nobody = new-outcome Nobody refl
    passing-outcome Removed = by-test (is_local_row r) (λ k. new-outcome Removed k) (λ k. absent v (rw k) (name-absent v Removed (rw k)))
    passing-outcome (Known id) =
        by-test (is_local_row r) (λ k. new-outcome (Known id) k) (λ k. known-outcome (Known id) id (record { global = k; known = refl }))

  pub outcome : (h : Holder) → Outcome h (decision h)
  outcome h = by-test (scope_refused r) (λ v. unscoped v (scope-refused h v)) (λ v. passing-outcome v h)

  -- ---- what the outcomes have in common

  pub scope-number : scope_refused r ≡ true → scope_refusal r ≢ 0
  scope-number v z = refused-scope (scope_refusal r) v z

  pub value-number : value_refused r ≡ true → value_refusal r ≢ 0
  value-number w z = refused-value (value_refusal r) w z

  -- the number of a decision is one of its causes'
  pub decision-number : (In : ℕ → Type 0) (h : Holder) → In 0 → In 2 → (absent_under (is_local_row r) h ≡ true → In 21) → ((id : SymbolId) → Passing r → Meets r h id → In 17)
      → (scope_refused r ≡ true → In (scope_refusal r)) → (value_refused r ≡ true → In (value_refusal r)) → In (type_refusal r.kind)
      → In (refusal_of (decision h))
  decision-number In h in0 in2 in21 in17 scoped valued typed = by (decision h) (outcome h)
    where
      number : (d e : Decision) → d ≡ e → In (refusal_of e) → In (refusal_of d)
      number d e q i = subst (λ (x : Decision). In (refusal_of x)) (sym q) i

      by : (d : Decision) → Outcome h d → In (refusal_of d)
      by d (unscoped v q) = number d _ q (scoped v)
      by d (absent v a q) = number d _ q (in21 a)
      by d (unvalued v w q) = number d _ q (valued w)
      by d (untyped p k q) = number d _ q typed
      by d (full p f m q) = number d _ q in2
      by d (appended p k f m q) = number d _ q in0
      by d (twice p id i y k q) = number d _ q (in17 id p i)
      by d (replaced p k id i y q) = number d _ q in0
      by d (kept p id i y k j m q) = number d _ q in0
      by d (amended p id i y k q) = number d _ q in0

  -- ---- refused with a number, or accepted

  pub data Ended (d : Decision) : Type 0 where
    refused : (n : ℕ) → n ≢ 0 → d ≡ Refuse n → Ended d
    kept : (id : SymbolId) → Passing r → d ≡ Keep id → Ended d
    appended : Passing r → section_room l sections r ≡ true → d ≡ Append → Ended d
    replaced : (id : SymbolId) → Passing r → d ≡ Replace id → Ended d
    amended : (id : SymbolId) → Passing r → d ≡ Amend id → Ended d

  room-cell : room_of l symbols sections r ≡ true → section_room l sections r ≡ true
  unfolding room_of
  room-cell m = by-test (leb (symbol_rows (length symbols)) l.symbols) (λ a. absurd (false≢true (rw a at m))) (λ a. rw a at m)

  pub ended : (h : Holder) → Ended (decision h)
  ended h = by (decision h) (outcome h)
    where
      by : (d : Decision) → Outcome h d → Ended d
      by d (unscoped v q) = refused (scope_refusal r) (scope-number v) q
      by d (absent v a q) = refused 21 (λ z. omega arith) q
      by d (unvalued v w q) = refused (value_refusal r) (value-number w) q
      by d (untyped p k q) = refused (type_refusal r.kind) (eqb-false _ _ k) q
      by d (full p f m q) = refused 2 (λ z. omega arith) q
      by d (appended p k f m q) = appended p (room-cell m) q
      by d (twice p id i y k q) = refused 17 (λ z. omega arith) q
      by d (replaced p k id i y q) = replaced id p q
      by d (kept p id i y k j m q) = kept id p q
      by d (amended p id i y k q) = amended id p q

  pub accepted-passing : (h : Holder) → refusal_of (decision h) ≡ 0 → Passing r
  accepted-passing h z = by (ended h)
    where
      by : Ended (decision h) → Passing r
      by (refused n u q) = absurd (u (sym (ap (λ (d : Decision). refusal_of d) q) ∙ z))
      by (kept id p q) = p
      by (appended p m q) = p
      by (replaced id p q) = p
      by (amended id p q) = p

  -- a local section symbol that is appended has the cell of its section
  pub appended-room : (h : Holder) → decision h ≡ Append → section_room l sections r ≡ true
  appended-room h e = by (ended h)
    where
      refused-not : (n : ℕ) → Refuse n ≡ Append → ⊥
      refused-not n q = let z : ◌≡◌ {A = ℕ} 0 1 = cc in omega arith

      kept-not : (id : SymbolId) → Keep id ≡ Append → ⊥
      kept-not id q = let z : ◌≡◌ {A = ℕ} 0 1 = cc in omega arith

      replaced-not : (id : SymbolId) → Replace id ≡ Append → ⊥
      replaced-not id q = let z : ◌≡◌ {A = ℕ} 0 1 = cc in omega arith

      amended-not : (id : SymbolId) → Amend id ≡ Append → ⊥
      amended-not id q = let z : ◌≡◌ {A = ℕ} 0 1 = cc in omega arith

      by : Ended (decision h) → section_room l sections r ≡ true
      by (refused n u q) = absurd (refused-not n (sym q ∙ e))
      by (kept id p q) = absurd (kept-not id (sym q ∙ e))
      by (appended p m q) = m
      by (replaced id p q) = absurd (replaced-not id (sym q ∙ e))
      by (amended id p q) = absurd (amended-not id (sym q ∙ e))

  -- ---- 17 has one cause, where neither the row's scope nor its value holds a number

  pub record Twice (h : Holder) : Type 0 where
    pub id : SymbolId
    pub meets : Meets r h id
    pub stays : ltb (held_rank l.gabi symbols id) (row_rank r l.gabi) ≡ false
    pub strong : eqb (row_rank r l.gabi) strong_rank ≡ true

  type-small : type_refusal r.kind ≡ 17 → ⊥
  unfolding type_refusal
  type-small q =
      by-test (ltb r.kind stt_file) (λ a. apart 0 (λ z. omega arith) (rw a at q))
      (λ a. by-test (eqb r.kind stt_file) (λ b. apart 15 (λ z. omega arith) (rw (a, b) at q)) (λ b. apart 16 (λ z. omega arith) (rw (a, b) at q)))
    where
      apart : (n : ℕ) → (n ≡ 17 → ⊥) → n ≡ 17 → ⊥
      apart n u z = u z

  pub seventeen-twice : (h : Holder) → scope_refused r ≡ false → value_refused r ≡ false → refusal_of (decision h) ≡ 17 → Twice h
  seventeen-twice h v w z = by (outcome h)
    where
      other : (n : ℕ) → (n ≡ 17 → ⊥) → (d : Decision) → refusal_of d ≡ n → decision h ≡ d → Twice h
      other n u d e q = absurd (u (sym e ∙ sym (ap (λ (d : Decision). refusal_of d) q) ∙ z))

      by : Outcome h (decision h) → Twice h
      by (unscoped a q) = absurd (false≢true (sym v ∙ a))
      by (absent a b q) = other 21 (λ e. omega arith) _ refl q
      by (unvalued a b q) = absurd (false≢true (sym w ∙ b))
      by (untyped p k q) = other (type_refusal r.kind) type-small _ refl q
      by (full p f m q) = other 2 (λ e. omega arith) _ refl q
      by (appended p k f m q) = other 0 (λ e. omega arith) _ refl q
      by (twice p id i y k q) = record { id = id; meets = i; stays = y; strong = k }
      by (replaced p k id i y q) = other 0 (λ e. omega arith) _ refl q
      by (kept p id i y k j m q) = other 0 (λ e. omega arith) _ refl q
      by (amended p id i y k q) = other 0 (λ e. omega arith) _ refl q

-- ---- of a link a decision reads the count of symbols, the sections' slots and the profile; of the sections the length

module _ (l m : Link) (symbols sections sections' : List ℕ) (r : Row) (e : l.symbols ≡ m.symbols) (f : l.slots ≡ m.slots) (g : l.gabi ≡ m.gabi)
    (n : length sections ≡ length sections') where
  new-alike : new_of l symbols sections r ≡ new_of m symbols sections' r
  unfolding new_of room_of section_room section_cell
  new-alike = simp (e, f, n)

  pub decision-alike : (h : Holder) → decide_of l symbols sections r h ≡ decide_of m symbols sections' r h
  unfolding decide_of
  decision-alike Unissued = refl
  decision-alike Nobody = simp new-alike
  decision-alike Removed = simp new-alike
  decision-alike (Known id) = simp (new-alike, g)

-- ---- what a decision leaves: the table as it was, one more row, or one row written

abbrev pub row_written : Table → SymbolId → Row → Table
row_written t id x = table_of t.names (set_row t.symbols id x) t.sections t.link

pub decision-left : (P : Table → Type 0) (t : Table) (r : Row) → P t → P (append_of t r) → ((id : SymbolId) (x : Row) → P (row_written t id x)) → (d : Decision) → P (apply_of t r d)
unfolding apply_of replaced_in amended_in
decision-left P t r same more written (Refuse n) = same
decision-left P t r same more written Nothing = same
decision-left P t r same more written (Keep id) = same
decision-left P t r same more written Append = more
decision-left P t r same more written (Replace id) = written id _
decision-left P t r same more written (Amend id) = written id _
