-- Theorems over specs/Demand.antt.
-- Assumes nothing.
use Rattle.std.specs.Prelude.{ℕ, ◌≤◌, ◌<◌, ◌≡◌, Bool, true, false, List, [], ◌∷◌, leb}
use Rattle.std.proofs.Common.{arith, sym, ap, ◌∙◌, subst}
use borrow.Author.Tests.{leb-true, leb-false, lt-leb, ne_eqb}
use Rattle.cells.specs.Proof.Split.{by-test}
use Rattle.symbol.specs.declared.Row.{Row}
use Rattle.symbol.specs.Row.{state_at}
use Rattle.symbol_resolution.specs.declared.rows.Holder.TheVariants.{Nobody, Known}
use Rattle.symbol_resolution.specs.Holder.{global_at, held_by, holder_of}
use Rattle.symbol_laws.specs.Rank.{ranked, FirstOfGreatestRank, first_by_rank, joined_in}
use Rattle.symbol_laws.proofs.Rank.{best-first, best-terms}
use Rattle.symbol_laws.specs.Hidden.{is_hidden, some_hidden}
use Rattle.symbol_laws.specs.Standing.{hidden_by, row_after, SameButHidden}
use Rattle.symbol_laws.proofs.Standing.{hidden-by, same_by}
use Rattle.symbol.specs.Row.{row_at}
use Rattle.symbol_laws.specs.History.{State, Entry, only, rows}
use Rattle.symbol_laws.specs.Held.{Holds, Held, Inv}
use Rattle.symbol_laws.specs.Demand.{Resolved, HeldBy}

module _ (s : State) (n : ℕ) (x : Entry) (xs : List Entry) where
  -- the content, apart from hidden
  pub content-apart : (gabi : Bool) → Resolved gabi s n x xs → SameButHidden (row_at s.symbols x.id) (joined_in (rows (x ∷ xs)) (first_by_rank gabi x.row (rows xs)))
  content-apart gabi h = subst (λ (r : Row). SameButHidden r (joined_in (rows (x ∷ xs)) (first_by_rank gabi x.row (rows xs)))) (sym h.terms) (same_by gabi (rows (x ∷ xs)) _)

  -- "hidden is taken from all accepted object adds": a shared object's is never hidden (Standing.library-shown)
  pub hidden-gabi : Resolved true s n x xs → is_hidden (row_at s.symbols x.id) ≡ some_hidden (rows (x ∷ xs))
  hidden-gabi h =
      ap is_hidden (h.terms ∙ ap (λ (r : Row). hidden_by true (rows (x ∷ xs)) (joined_in (rows (x ∷ xs)) r)) (sym (best-terms true x.row (rows xs))))
      ∙ hidden-by x.row (rows xs)

  -- the old profile: hidden is part of the content
  pub content-old : Resolved false s n x xs → HeldBy (ranked false) (rows (x ∷ xs)) (row_at s.symbols x.id)
  content-old h = record { holder = first_by_rank false x.row (rows xs); first = h.content; is = h.terms }

module _ (s : State) (past : List Entry) (inv : Inv s past) (n : ℕ) where
  low : (x : Entry) (xs : List Entry) → only n past ≡ x ∷ xs → n < s.link.names
  low x xs e =
      by-test (leb s.link.names n) (λ h. absurd (none (sym (inv.unissued n (leb-true _ _ h)) ∙ e))) (λ h. leb-false _ _ h)
    where
      none : [] ≡ x ∷ xs → ⊥
      none q = let z : ◌≡◌ {A = ℕ} 0 1 = cc in omega arith

  pub resolved : (x : Entry) (xs : List Entry) → only n past ≡ x ∷ xs → Resolved s.link.gabi s n x xs
  resolved x xs e =
      let i : n < s.link.names = low x xs e in
      let h : Holds s n x.id (row_after s.link.gabi x.row (rows xs)) = subst (Held s n) e (inv.held_by n i) in
      record {
        issued = i;
        id = h.found;
        real = h.above;
        counted = h.below;
        present = h.there;
        bears = ap (λ (r : Row). r.name.0) h.content ∙ h.named;
        terms = h.content ∙ ap (λ (r : Row). hidden_by s.link.gabi (rows (x ∷ xs)) (joined_in (rows (x ∷ xs)) r)) (best-terms s.link.gabi x.row (rows xs));
        content = subst (FirstOfGreatestRank (ranked s.link.gabi) (rows (x ∷ xs))) (best-terms s.link.gabi x.row (rows xs)) (best-first (ranked s.link.gabi) x.row (rows xs));
      }

  holder-held : (id : ℕ) → n < s.link.names → global_at s.names n ≡ id → 1 ≤ id → id < s.link.symbols → state_at s.symbols id ≡ 1
      → holder_of s.link s.names s.symbols (record { 0 = n }) ≡ Known (record { 0 = id })
  unfolding holder_of held_by
  holder-held id i e z b p = rw (lt-leb s.link.names n i, e, ne_eqb id 0 (λ q. omega arith), lt-leb s.link.symbols id b, p)

  pub holder_known : (x : Entry) (xs : List Entry) → only n past ≡ x ∷ xs
      → holder_of s.link s.names s.symbols (record { 0 = n }) ≡ Known (record { 0 = x.id })
  holder_known x xs e = let h = resolved x xs e in holder-held x.id h.issued h.id h.real h.counted h.present

  -- no accepted global add: nobody holds the name, issued or not
  pub no_row : only n past ≡ [] → n < s.link.names → global_at s.names n ≡ 0
  no_row e i = subst (Held s n) e (inv.held_by n i)

  pub holder-none : only n past ≡ [] → holder_of s.link s.names s.symbols (record { 0 = n }) ≡ Nobody
  unfolding holder_of held_by
  holder-none e =
      by-test (leb s.link.names n) (λ h. rw h) (λ h. rw (h, no_row e (leb-false _ _ h)))
