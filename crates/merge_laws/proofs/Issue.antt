-- A row is judged before its name is issued as it is after.
-- Assumes nothing.
use Rattle.std.specs.Prelude.{ℕ, ◌+◌, ◌<◌, ◌≤◌, ◌≡◌, List, ltb, length, None}
use Rattle.std.proofs.Common.{arith, ◌∙◌}
use Rattle.std.proofs.Math.Path.{refl, ap}
use Rattle.std.proofs.Math.Bool.{true}
use borrow.Author.Tests.{ltb-true, ltb-false, le-leb, lt-leb}
use Rattle.cells.specs.Proof.Split.{by-test}
use Rattle.byte_slices.specs.Proof.Ways.{pick}
use Rattle.link.specs.declared.Link.{Link}
use Rattle.link.specs.declared.Interned.{Interned}
use Rattle.interner.specs.Names.{Store, room_of, fits_of, added, keep_of}
use Rattle.symbol.specs.declared.Row.{Row}
use Rattle.symbol_resolution.specs.Holder.{held_by, holder_of}
use Rattle.symbol_resolution.specs.Decide.{decide_of}
use Rattle.symbol_resolution.specs.Proof.Outcomes.{decision-alike}
use Rattle.symbol_resolution.specs.Apply.{table_of}
use Rattle.symbols.specs.Add.{issued_of, direct_holder_of, decided_of}
use Rattle.symbol_laws.proofs.Profile.{keep-profile}
use Rattle.symbol_laws.proofs.Issue.{linked-new, room-free}

-- every way of issuing a name
module _ (P : Store → Type 0) (s : Store) (id : Interned) (x : List ℕ) where
  pub keeps : P s → (s.link.names ≤ id.0 → room_of s (length x) ≡ true → P (added s x)) → P (keep_of s id x)
  unfolding keep_of
  keeps p q =
      pick P (ltb id.0 s.link.names) _ _ (λ e. p)
      (λ e. pick P (room_of s (length x)) _ _ (λ r. q (ltb-false _ _ e) r) (λ r. p))

module _ (s : Store) (id : Interned) (x : List ℕ) where
  pub keep-symbols : (keep_of s id x).link.symbols ≡ s.link.symbols
  keep-symbols = keeps (λ (k : Store). k.link.symbols ≡ s.link.symbols) s id x refl (λ h r. refl)

  pub keep-sections : (keep_of s id x).link.sections ≡ s.link.sections
  keep-sections = keeps (λ (k : Store). k.link.sections ≡ s.link.sections) s id x refl (λ h r. refl)

  pub keep-slots : (keep_of s id x).link.slots ≡ s.link.slots
  keep-slots = keeps (λ (k : Store). k.link.slots ≡ s.link.slots) s id x refl (λ h r. refl)

  -- a name that fits is issued
  pub keep_low : fits_of s id (length x) ≡ true → id.0 ≤ s.link.names → id.0 < (keep_of s id x).link.names
  unfolding fits_of keep_of
  keep_low f h =
      by-test (ltb id.0 s.link.names) (λ t. rw t (ltb-true _ _ t))
      (λ t. let r : room_of s (length x) ≡ true = rw t at f in rw (t, r) (omega arith))

  module _ (symbols : List ℕ) where
    holder-added : id.0 ≡ s.link.names → room_of s (length x) ≡ true
        → holder_of (added s x).link (added s x).names symbols id ≡ holder_of s.link s.names symbols id
    unfolding holder_of held_by
    holder-added e r =
        simp (
          e,
          lt-leb (s.link.names + 1) s.link.names (omega arith),
          le-leb s.link.names s.link.names (omega arith),
          linked-new s.link s.names s.link.bytes (length x) x (room-free s (length x) r),
        )

    holder-kept : id.0 ≤ s.link.names
        → holder_of (keep_of s id x).link (keep_of s id x).names symbols id ≡ holder_of s.link s.names symbols id
    holder-kept h =
        keeps (λ (k : Store). holder_of k.link k.names symbols id ≡ holder_of s.link s.names symbols id) s id x refl
        (λ g r. holder-added (omega arith) r)

-- under an issued name a direct add judges by the name's holder
direct-holder : (l : Link) (names symbols : List ℕ) (name : Interned) → name.0 < l.names
    → direct_holder_of l names symbols name None ≡ holder_of l names symbols name
unfolding direct_holder_of issued_of
direct-holder l names symbols name h = simp (lt-leb _ _ h)

module _ (s : Store) (x symbols sections : List ℕ) (r : Row) (fits : fits_of s r.name (length x) ≡ true) (low : r.name.0 ≤ s.link.names) where
  abbrev k : Store
  k = keep_of s r.name x

  pub decided-kept : decided_of (table_of k.names symbols sections k.link) r None
      ≡ decide_of s.link symbols sections r (holder_of s.link s.names symbols r.name)
  unfolding decided_of
  decided-kept =
      ap (decide_of k.link symbols sections r)
      (direct-holder k.link k.names symbols r.name (keep_low s r.name x fits low) ∙ holder-kept s r.name x symbols low)
      ∙ decision-alike k.link s.link symbols sections sections r (keep-symbols s r.name x) (keep-slots s r.name x) (keep-profile s r.name x) refl (holder_of s.link s.names symbols r.name)
