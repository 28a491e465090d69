-- What is decided on a row under its name, with what is known where it is decided so.
-- Assumes nothing.
use Rattle.std.specs.Prelude.{ℕ, ◌+◌, ◌*◌, ◌/◌, ◌≤◌, ◌<◌, ◌≡◌, Bool, true, false, ◌≢◌, eqb, ltb, leb, None}
use native.Mathlib.Omega.{arith}
use Rattle.std.proofs.Common.{sym, ap, ◌∙◌, subst}
use Rattle.std.proofs.lemmas.Bool.{false≢true}
use Rattle.std.proofs.Math.ListN.{length}
use borrow.Author.Tests.{ltb-true, ltb-false, leb-true, leb-false, eqb-true, eqb-false}
use Rattle.cells.specs.Proof.Split.{by-test}
use Rattle.link.specs.Bounds.{lesser, symbol_rows}
use Rattle.symbol.specs.declared.Row.{Row}
use Rattle.symbol.specs.Row.{state_at, is_common, scope_refusal, value_refusal}
use Rattle.symbol.specs.Hidden.{hidden_code, passes, pass_hidden}
use Rattle.symbol.specs.Proof.Ways.{scope-low}
use Rattle.link.specs.declared.SymbolId.{SymbolId}
use Rattle.symbol_resolution.specs.declared.rows.Holder.{Holder}
use Rattle.symbol_resolution.specs.declared.rows.Holder.TheVariants.{Unissued, Nobody, Removed, Known}
use Rattle.symbol_resolution.specs.Decision.{Decision, Refuse, Keep, Append, Replace, Amend}
use Rattle.symbol_resolution.specs.Holder.{global_at, held_by, holder_of}
use Rattle.symbol_resolution.specs.Decide.{joins, type_refusal, room_of}
use Rattle.symbol_resolution.specs.Proof.Outcomes.{fresh_under, is_local_row, Passing, row_rank, Meets, held_rank, hides, scope-number, value-number, Outcome, outcome}
use Rattle.symbol_resolution.specs.Apply.{Table, joined}
use Rattle.symbols.specs.Add.{issued_of, direct_holder_of, decided_of}
use Rattle.symbol_laws.specs.Rank.{ranked}
use Rattle.symbol_laws.proofs.Standing.{code-hides, pass-none, pass-had}
use Rattle.symbol_laws.proofs.Rank.{three-is}
use Rattle.symbol_laws.proofs.Rows.{Packs}
use Rattle.symbol.specs.Row.{row_at}

pub lesser-first : (a b : ℕ) → lesser a b ≤ a
unfolding lesser
lesser-first a b = by-test (ltb a b) (λ t. rw t (omega arith)) (λ t. rw t (ltb-false a b t))

pub lesser-second : (a b : ℕ) → lesser a b ≤ b
unfolding lesser
lesser-second a b = by-test (ltb a b) (λ t. rw t (omega (arith, ltb-true a b t))) (λ t. rw t (omega arith))

pub record Refuses (d : Decision) : Type 0 where
  pub number : ℕ
  pub is : d ≡ Refuse number
  pub real : number ≢ 0

joined-apart : (r y : Row) → (is_common r ≡ true → is_common y ≡ true → ⊥) → joined r y ≡ r
unfolding joined
joined-apart r y n = by-test (is_common r) (λ a. by-test (is_common y) (λ b. absurd (n a b)) (λ b. rw (a, b))) (λ a. rw a)

module _ (t : Table) (r : Row) where
  -- the id that the name has, and that row
  abbrev pub held : ℕ
  held = global_at t.names r.name.0

  abbrev pub decided : Decision
  decided = decided_of t r None

  abbrev pub yields : Bool
  yields = ltb (ranked t.link.gabi (row_at t.symbols held)) (ranked t.link.gabi r)

  -- a global add under an issued name
  pub record Named : Type 0 where
    pub global : r.scope ≢ 0
    pub issued : r.name.0 < t.link.names

  pub record Free : Type 0 where
    pub few : t.link.symbols < 65535
    pub fits : t.link.symbols * 8 + 8 ≤ length t.symbols
    pub packs : Packs r

  -- the name's row yields to it
  pub record Takes : Type 0 where
    pub yielding : yields ≡ true
    pub packs : Packs r

  pub data View : Type 0 where
    refused : (n : ℕ) → decided ≡ Refuse n → n ≢ 0 → View
    kept : decided ≡ Keep (record { 0 = held }) → Named → held ≢ 0 → yields ≡ false → ranked t.link.gabi r ≢ 4
        → pass_hidden t.link.gabi r.scope (joined (row_at t.symbols held) r) ≡ row_at t.symbols held → View
    amended : decided ≡ Amend (record { 0 = held }) → Named → held ≢ 0 → yields ≡ false → ranked t.link.gabi r ≢ 4 → View
    replaced : decided ≡ Replace (record { 0 = held }) → Named → held ≢ 0 → Takes → View
    appended : decided ≡ Append → Free → Named → (held ≢ 0 → t.link.symbols ≤ held) → View
    local : decided ≡ Append → Free → r.scope ≡ 0 → View

  -- an accepted row's scope and type are small
  packs : Passing r → eqb (type_refusal r.kind) 0 ≡ true → Packs r
  unfolding type_refusal
  packs p k =
      record {
        scope = let h : r.scope < 5 = scope-low r.scope p.scope in omega arith;
        type =
            by-test (ltb r.kind 4) (λ a. let h : r.kind < 4 = ltb-true _ _ a in omega arith)
            (λ a. absurd (by-test (eqb r.kind 4) (λ b. false≢true (rw (a, b) at k)) (λ b. false≢true (rw (a, b) at k))));
      }

  free : Packs r → room_of t.link t.symbols t.sections r ≡ true → Free
  unfolding room_of
  free k e =
      by-test (leb (symbol_rows (length t.symbols)) t.link.symbols) (λ h. absurd (false≢true (rw h at e)))
      (λ h.
      let s : t.link.symbols < lesser 65535 (length t.symbols / 8) = leb-false _ _ h in
      let a : lesser 65535 (length t.symbols / 8) ≤ 65535 = lesser-first _ _ in
      let b : lesser 65535 (length t.symbols / 8) ≤ length t.symbols / 8 = lesser-second 65535 _ in
      record { few = omega arith; fits = omega arith; packs = k })

  -- ---- by who holds the name

  abbrev pub holder : Holder
  holder = direct_holder_of t.link t.names t.symbols r.name None

  -- an issued name: held by no row, by one past the count, by a removed or a present one
  pub data Holds : Type 0 where
    unissued : holder ≡ Unissued → Holds
    nobody : r.name.0 < t.link.names → (held ≢ 0 → t.link.symbols ≤ held) → holder ≡ Nobody → Holds
    removed : holder ≡ Removed → Holds
    known : r.name.0 < t.link.names → held ≢ 0 → holder ≡ Known (record { 0 = held }) → Holds

  holds : Holds
  unfolding direct_holder_of issued_of holder_of held_by
  holds =
      by-test (leb t.link.names r.name.0) (λ h. unissued (rw h))
      (λ h.
      by-test (eqb held 0) (λ z. nobody (leb-false _ _ h) (λ w. absurd (w (eqb-true _ _ z))) (rw (h, z)))
      (λ z.
      by-test (leb t.link.symbols held) (λ c. nobody (leb-false _ _ h) (λ w. leb-true _ _ c) (rw (h, z, c)))
      (λ c.
      by-test (eqb (state_at t.symbols held) 2) (λ s. removed (rw (h, z, c, s)))
      (λ s. known (leb-false _ _ h) (eqb-false _ _ z) (rw (h, z, c, s))))))

  -- the name's row
  record Found (id : SymbolId) : Type 0 where
    issued : r.name.0 < t.link.names
    some : held ≢ 0
    is : id ≡ record { 0 = held }

  found : (id : SymbolId) → holder ≡ Known id → Found id
  found id e = by holds
    where
      unissued-not : Unissued ≡ Known id → ⊥
      unissued-not q = let z : ◌≡◌ {A = ℕ} 0 1 = cc in omega arith

      nobody-not : Nobody ≡ Known id → ⊥
      nobody-not q = let z : ◌≡◌ {A = ℕ} 0 1 = cc in omega arith

      removed-not : Removed ≡ Known id → ⊥
      removed-not q = let z : ◌≡◌ {A = ℕ} 0 1 = cc in omega arith

      by : Holds → Found id
      by (unissued q) = absurd (unissued-not (sym q ∙ e))
      by (nobody i m q) = absurd (nobody-not (sym q ∙ e))
      by (removed q) = absurd (removed-not (sym q ∙ e))
      by (known i z q) = record { issued = i; some = z; is = let p : Known id ≡ Known (record { 0 = held }) = sym e ∙ q in cc }

  -- ---- a new or a local name

  new-view : decided ≡ Append → Free → fresh_under (is_local_row r) holder ≡ true → View
  new-view q f n =
      by-test (is_local_row r) (λ k. local q f (eqb-true _ _ k)) (λ k. by k n holds)
    where
      by : (is_local_row r ≡ false) → fresh_under (is_local_row r) holder ≡ true → Holds → View
      by k n (unissued e) = absurd (false≢true (rw e at n))
      by k n (nobody i m e) = appended q f (record { global = eqb-false _ _ k; issued = i }) m
      by k n (removed e) = absurd (false≢true (rw (e, k) at n))
      by k n (known i z e) = absurd (false≢true (rw (e, k) at n))

  -- ---- a known name

  pub view : View
  unfolding decided_of
  view = by (outcome t.link t.symbols t.sections r holder)
    where
      named : (id : SymbolId) → Meets r holder id → Found id → Named
      named id m f = record { global = eqb-false _ _ m.global; issued = f.issued }

      ranks : (b : Bool) (id : SymbolId) → Found id → ltb (held_rank t.link.gabi t.symbols id) (row_rank r t.link.gabi) ≡ b → yields ≡ b
      ranks b id f y = subst (λ (i : SymbolId). ltb (held_rank t.link.gabi t.symbols i) (row_rank r t.link.gabi) ≡ b) f.is y

      -- one of the two isn't common
      apart : (id : SymbolId) → Found id → joins (held_rank t.link.gabi t.symbols id) (row_rank r t.link.gabi) ≡ false → joined (row_at t.symbols held) r ≡ row_at t.symbols held
      apart id f j =
          let old : Row = row_at t.symbols held in
          let n : joins (held_rank t.link.gabi t.symbols (record { 0 = held })) (row_rank r t.link.gabi) ≡ false =
          subst (λ (i : SymbolId). joins (held_rank t.link.gabi t.symbols i) (row_rank r t.link.gabi) ≡ false) f.is j in
          joined-apart old r (λ a b. false≢true (sym (rw (three-is old t.link.gabi, three-is r t.link.gabi, a, b) at n)))

      shown : (id : SymbolId) → Found id → hides t.link.gabi t.symbols r id ≡ false
          → pass_hidden t.link.gabi r.scope (row_at t.symbols held) ≡ row_at t.symbols held
      shown id f m =
          let n : hides t.link.gabi t.symbols r (record { 0 = held }) ≡ false = subst (λ (i : SymbolId). hides t.link.gabi t.symbols r i ≡ false) f.is m in
          by-test (passes t.link.gabi r.scope)
          (λ p.
          by-test (hidden_code (row_at t.symbols held).scope)
          (λ h. pass-had t.link.gabi r.scope _ (sym (code-hides (row_at t.symbols held).scope) ∙ h))
          (λ h. absurd (false≢true (sym (rw (p, h) at n)))))
          (λ p. pass-none t.link.gabi r.scope _ p)

      stays : (id : SymbolId) → Found id → joins (held_rank t.link.gabi t.symbols id) (row_rank r t.link.gabi) ≡ false → hides t.link.gabi t.symbols r id ≡ false
          → pass_hidden t.link.gabi r.scope (joined (row_at t.symbols held) r) ≡ row_at t.symbols held
      stays id f j m =
          rw (apart id f j)
          (shown id f m)

      by : Outcome t.link t.symbols t.sections r holder decided → View
      by (Outcome.unscoped v q) = refused (scope_refusal r) q (scope-number t.link t.symbols t.sections r v)
      by (Outcome.absent v a q) = refused 21 q (λ z. omega arith)
      by (Outcome.unvalued v w q) = refused (value_refusal r) q (value-number t.link t.symbols t.sections r w)
      by (Outcome.untyped p k q) = refused (type_refusal r.kind) q (eqb-false _ _ k)
      by (Outcome.full p f m q) = refused 2 q (λ z. omega arith)
      by (Outcome.appended p k f m q) = new-view q (free (packs p k) m) f
      by (Outcome.twice p id m y k q) = refused 17 q (λ z. omega arith)
      by (Outcome.replaced p k id m y q) =
          let f : Found id = found id m.known in
          replaced (q ∙ ap Replace f.is) (named id m f) f.some (record { yielding = ranks true id f y; packs = packs p k })
      by (Outcome.kept p id m y k j h q) =
          let f : Found id = found id m.known in
          kept (q ∙ ap Keep f.is) (named id m f) f.some (ranks false id f y) (eqb-false _ _ k) (stays id f j h)
      by (Outcome.amended p id m y k q) =
          let f : Found id = found id m.known in
          amended (q ∙ ap Amend f.is) (named id m f) f.some (ranks false id f y) (eqb-false _ _ k)
