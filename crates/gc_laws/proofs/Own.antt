-- The tests of the collection say what Reached.antt says in its own words.
-- Assumes nothing.
use Rattle.std.specs.Prelude.{ℕ, ◌≡◌, Bool, List, eqb, leb, None, Some}
use Rattle.std.proofs.Common.{arith, ◌∙◌}
use Rattle.std.proofs.Math.Path.{refl, ap}
use Rattle.std.proofs.Math.Bool.{true, false, cond}
use borrow.Author.Tests.{eq-eqb, ne_eqb, eqb-true, eqb-false, lt-leb, leb-false}
use Rattle.cells.specs.Proof.Split.{by-test}
use Rattle.byte_slices.specs.Proof.Ways.{apart, same_true, same_refl}
use Rattle.link.specs.declared.Link.{Link}
use Rattle.link.specs.declared.SectionId.{SectionId}
use Rattle.interner.specs.Names.{name_at}
use Rattle.symbol.specs.Row as Symbol
use Rattle.sections.specs.Rows.{field, state_at, name_id_at, retain_at, read_at, is_built}
use Rattle.gc_sections.specs.Roots.{symbol_id, section_id, value_lead, lead_of, eh_frame, readable, name_is, rooted, is_root}
use Rattle.gc_sections.specs.Run.{Lists}
use Rattle.gc_laws.specs.Reached as Own
use Rattle.gc_laws.specs.Reached.{Built, Leads, InSection, IsRoot, bytes_of}

nowhere : (id : SectionId) → None ≡ Some id → ⊥
nowhere id e = let z : ◌≡◌ {A = ℕ} 0 1 = cc in omega arith

module _ (l : Link) (x : Lists) (symbols sections : List ℕ) where
  -- ---- built

  pub built-own : (y : ℕ) → is_built sections l.sections y ≡ true → Built l x symbols sections y
  unfolding is_built
  built-own y e =
      by-test (leb l.sections y) (λ t. absurd (apart (rw t at e)))
      (λ t.
      by-test (eqb (state_at sections y) 2) (λ u. record { issued = leb-false _ _ t; state = eqb-true _ _ u })
      (λ u. absurd (apart (rw (t, u) at e))))

  pub own-built : (y : ℕ) → Built l x symbols sections y → is_built sections l.sections y ≡ true
  unfolding is_built
  own-built y b = rw (lt-leb _ _ b.issued, eq-eqb _ _ b.state)

  -- ---- where a symbol leads

  same-section : (a y : ℕ) → Some (section_id a) ≡ Some (section_id y) → a ≡ y
  same-section a y e = let s : section_id a ≡ section_id y = cc in ap (λ (v : SectionId). v.0) s

  value-own : (kind a y : ℕ) → value_lead kind a ≡ Some (section_id y) → InSection kind × (a ≡ y)
  unfolding value_lead
  value-own kind a y e =
      by-test (eqb kind 2) (λ t. (Own.section (eqb-true _ _ t), same-section a y (rw t at e)))
      (λ t.
      by-test (eqb kind 3) (λ u. (Own.relative (eqb-true _ _ u), same-section a y (rw (t, u) at e)))
      (λ u.
      by-test (eqb kind 4) (λ v. (Own.address (eqb-true _ _ v), same-section a y (rw (t, u, v) at e)))
      (λ v. absurd (nowhere (section_id y) (rw (t, u, v) at e)))))

  own_value : (kind a : ℕ) → InSection kind → value_lead kind a ≡ Some (section_id a)
  unfolding value_lead
  own_value kind a (Own.section e) = rw (eq-eqb _ _ e)
  own_value kind a (Own.relative e) = rw e
  own_value kind a (Own.address e) = rw e

  pub leads-own : (i y : ℕ) → lead_of symbols l.symbols (symbol_id i) ≡ Some (section_id y) → Leads l x symbols sections i y
  unfolding lead_of
  leads-own i y e =
      by-test (leb l.symbols i) (λ t. absurd (nowhere (section_id y) (rw t at e)))
      (λ t.
      by-test (eqb (Symbol.state_at symbols i) 2) (λ u. absurd (nowhere (section_id y) (rw (t, u) at e)))
      (λ u.
      let q = value-own (Symbol.field symbols i 5) (Symbol.field symbols i 6) y (rw (t, u) at e) in
      record { issued = leb-false _ _ t; present = eqb-false _ _ u; valued = q.0; lies = q.1 }))

  pub own-leads : (i y : ℕ) → Leads l x symbols sections i y → lead_of symbols l.symbols (symbol_id i) ≡ Some (section_id y)
  unfolding lead_of
  own-leads i y m =
      rw (lt-leb _ _ m.issued, ne_eqb _ _ m.present)
      (own_value (Symbol.field symbols i 5) (Symbol.field symbols i 6) m.valued ∙ ap (λ (v : ℕ). Some (section_id v)) m.lies)

  -- ---- the sections that are roots

  named-own : (y : ℕ) → name_is x.bytes x.names sections y eh_frame ≡ true → name_at x.bytes x.names (name_id_at sections y) ≡ bytes_of ".eh_frame"
  unfolding name_is
  named-own y e = same_true _ _ e

  own-named : (y : ℕ) → name_at x.bytes x.names (name_id_at sections y) ≡ bytes_of ".eh_frame" → name_is x.bytes x.names sections y eh_frame ≡ true
  unfolding name_is
  own-named y e = rw e (same_refl (bytes_of ".eh_frame"))

  rooted-own : (y : ℕ) → rooted x.bytes x.names sections y ≡ true → IsRoot l x symbols sections y
  unfolding rooted readable
  rooted-own y e =
      by-test (eqb (read_at sections y) 0) (λ t. Own.unreadable (eqb-true _ _ t))
      (λ t.
      by-test (eqb (retain_at sections y) 0)
      (λ u.
      by-test (eqb (field sections y 2) 1) (λ v. Own.eh_frame (named-own y (rw (t, v, u) at e)))
      (λ v.
      by-test (eqb (field sections y 2) 2) (λ w. Own.eh_frame (named-own y (rw (t, v, w, u) at e)))
      (λ w. Own.other_kind (eqb-false _ _ v) (eqb-false _ _ w))))
      (λ u. Own.retained (eqb-false _ _ u)))

  always : (b c : Bool) → c ≡ true → cond b c true ≡ true
  always true c e = e
  always false c e = refl

  own-rooted : (y : ℕ) → IsRoot l x symbols sections y → rooted x.bytes x.names sections y ≡ true
  unfolding rooted readable
  own-rooted y (Own.retained ne) = rw (ne_eqb _ _ ne) (always (readable sections y) true refl)
  own-rooted y (Own.eh_frame e) = rw (own-named y e) (always (readable sections y) _ (either (eqb (retain_at sections y) 0)))
    where
      either : (b : Bool) → cond b true true ≡ true
      either true = refl
      either false = refl
  own-rooted y (Own.unreadable e) = rw (eq-eqb _ _ e)
  own-rooted y (Own.other_kind a b) = rw (ne_eqb _ _ a, ne_eqb _ _ b) (neither (eqb (read_at sections y) 0))
    where
      neither : (b : Bool) → cond (cond b false false) (cond (eqb (retain_at sections y) 0) (name_is x.bytes x.names sections y eh_frame) true) true ≡ true
      neither true = refl
      neither false = refl

  pub root-own : (y : ℕ) → is_root x.bytes x.names sections l.sections y ≡ true → Built l x symbols sections y × IsRoot l x symbols sections y
  unfolding is_root
  root-own y e = by-test (is_built sections l.sections y) (λ t. (built-own y t, rooted-own y (rw t at e))) (λ t. absurd (apart (rw t at e)))

  pub own_root : (y : ℕ) → Built l x symbols sections y → IsRoot l x symbols sections y → is_root x.bytes x.names sections l.sections y ≡ true
  unfolding is_root
  own_root y b r = rw (own-built y b) (own-rooted y r)
