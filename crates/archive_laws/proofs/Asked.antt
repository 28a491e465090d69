-- A name is required of a member just if an entry of that member bears it and is marked.
-- Assumes nothing.
use Rattle.std.specs.Prelude.{ℕ, ◌<◌, ◌≡◌, refl, Bool, true, false, List, eqb}
use Rattle.std.proofs.Common.{arith, sym, ap, ◌∙◌, eq-eqb, ne_eqb}
use Rattle.std.proofs.Math.Decide.{ℕ_discrete}
use Rattle.std.proofs.Math.Bool.{cond}
use Rattle.byte_slices.specs.Bytes.{same}
use Rattle.byte_slices.specs.Proof.Ways.{same_true}
use Rattle.archive_index.specs.Rows.{required_at, member_at}
use Rattle.archive_walk.specs.declared.Walk.{Walk}
use Rattle.archive_walk.specs.Look.{Table, tied_name}
use Rattle.archive_walk.specs.Names.{bears_of, required_of}
use Rattle.archive_laws.specs.Members.{Same, any_below}
use Rattle.archive_laws.proofs.Counts.{any_none, first_one}
use Rattle.archive_laws.proofs.Chains.{any_same, chained-is}
use Rattle.archive_laws.specs.Pass.{Rows}
use Rattle.archive_laws.specs.ByKey.{asks, in_index}

module _ (key : ℕ) (s : List ℕ) (keys : ℕ → ℕ) (named : ℕ → List ℕ) (c : ℕ) (l : List ℕ) (y : Rows key s keys named c l) (w : Walk) (keyed : w.key ≡ key) (entries : w.entries ≡ c) (e : ℕ) (h : e < c) (x : List ℕ) where
  abbrev r : ℕ
  r = member_at l e

  -- just if some entry bears it
  required-is : required_of s l w e x ≡ any_below (bears_of s l r x) c
  unfolding required_of
  required-is = rw (keyed, entries) (chained-is key s c l y.linked y.room (omega arith) r x)

  -- by the entries' keys and names
  by_key : (j : ℕ) → j < c → eqb (member_at l j) r ≡ eqb (keys j) (keys e)
  by_key j g = go (ℕ_discrete (member_at l j) r)
    where
      go : Dec (member_at l j ≡ r) → eqb (member_at l j) r ≡ eqb (keys j) (keys e)
      go (yes d) =
          rw (eq-eqb (member_at l j) r d, eq-eqb (keys j) (keys e) (sym (y.member j g).same ∙ ap keys d ∙ (y.member e h).same))
      go (no d) =
          rw (ne_eqb (member_at l j) r d, ne_eqb (keys j) (keys e) (λ z. d (first_one keys (member_at l j) r (y.member j g).first (y.member e h).first ((y.member j g).same ∙ z ∙ sym (y.member e h).same))))

  bears-asks : (j : ℕ) → j < c → bears_of s l r x j ≡ asks keys named l e x j
  unfolding bears_of
  bears-asks j g = rw (y.name j g, by_key j g)

  pub asked_is : required_of s l w e x ≡ any_below (asks keys named l e x) c
  asked_is = required-is ∙ any_same (bears_of s l r x) (asks keys named l e x) c bears-asks

  -- right after a pass over t that queued the member, or found none of its names undefined
  module _ (t : Table) (mark : (j : ℕ) → j < c → Same keys j e → required_at l j ≡ cond (tied_name t (named j)) 1 0) where
    abbrev ties : ℕ → Bool
    ties j = cond (eqb (keys j) (keys e)) (same (named j) x) false

    never : (b : Bool) → cond b false false ≡ false
    never true = refl
    never false = refl

    -- an entry of the member is marked where its name is undefined
    asks-tied : (j : ℕ) → j < c → asks keys named l e x j ≡ cond (tied_name t (named j)) (ties j) false
    asks-tied j g = go (ℕ_discrete (keys j) (keys e))
      where
        one : (b : Bool) → eqb (cond b 1 0) 1 ≡ b
        one true = refl
        one false = refl

        go : Dec (keys j ≡ keys e) → asks keys named l e x j ≡ cond (tied_name t (named j)) (ties j) false
        go (yes d) = rw (mark j g d, one (tied_name t (named j)))
        go (no d) = rw (ne_eqb (keys j) (keys e) d, never (eqb (required_at l j) 1), never (tied_name t (named j)))

    -- whose name is x
    tied-name : (j : ℕ) → cond (tied_name t (named j)) (ties j) false ≡ cond (tied_name t x) (ties j) false
    tied-name j = go (same (named j) x) refl
      where
        go : (b : Bool) → same (named j) x ≡ b
            → cond (tied_name t (named j)) (cond (eqb (keys j) (keys e)) b false) false
            ≡ cond (tied_name t x) (cond (eqb (keys j) (keys e)) b false) false
        go true d = rw (same_true (named j) x d)
        go false d = rw (never (eqb (keys j) (keys e)), never (tied_name t (named j)), never (tied_name t x))

    outside : (b : Bool) → any_below (λ j. cond b (ties j) false) c ≡ cond b (any_below ties c) false
    outside true = refl
    outside false = any_none (λ j. false) c (λ j g. refl)

    pub asked-then : required_of s l w e x ≡ cond (tied_name t x) (in_index keys named c e x) false
    unfolding in_index
    asked-then =
        asked_is ∙ any_same (asks keys named l e x) (λ j. cond (tied_name t x) (ties j) false) c (λ j g. asks-tied j g ∙ tied-name j)
        ∙ outside (tied_name t x)
