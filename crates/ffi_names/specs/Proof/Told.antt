-- Interning changes no count of a link but those of names, so that the others may stay in the header's cells.
-- Assumes nothing.
use Rattle.std.specs.Prelude.{ℕ, ◌≡◌, refl, List, eqb, ltb, length}
use Rattle.std.proofs.Common.{sym, ap}
use Rattle.link.specs.declared.Link.{Link}
use Rattle.link.specs.declared.Interned.{Interned}
use Rattle.link.specs.Counts.{with_names}
use Rattle.link.specs.Judge.{change_of}
use Rattle.interner.specs.Names.{Store, store_of, find_of, fits_of, room_of, added, keep_of}
use Rattle.interner.specs.Calls.{Left, lent, issue_of, intern_of}
use Rattle.ffi_cells.specs.Header.{link_in, saying, tell_of}
use Rattle.ffi_names.specs.Proof.Laws.{pick}

-- the counts, those of names apart
abbrev Same : Link → Link → Type 0
Same l m = m ≡ with_names l m.names m.bytes

module _ (s : Store) (x : List ℕ) where
  keep-same : (id : Interned) → Same s.link (keep_of s id x).link
  unfolding keep_of
  keep-same id =
      pick (λ (t : Store). Same s.link t.link) (ltb id.0 s.link.names) s _ (λ e. refl)
      (λ e. pick (λ (t : Store). Same s.link t.link) (room_of s (length x)) (added s x) s (λ f. refl) (λ f. refl))

  issue-same : (id : Interned) → Same s.link (issue_of s x id).store.link
  unfolding issue_of
  issue-same id = pick (λ (w : Left). Same s.link w.store.link) (fits_of s id (length x)) _ _ (λ e. keep-same id) (λ e. refl)

  intern-same : Same s.link (intern_of s x).store.link
  unfolding intern_of
  intern-same =
      pick (λ (w : Left). Same s.link w.store.link) (eqb (change_of s.link (lent s)).number 0) _ _
      (λ e. issue-same (record { 0 = find_of s.bytes s.names s.link x })) (λ e. refl)

pub intern_told : (h b n x : List ℕ)
    → let w = intern_of (store_of b n (link_in h)) x in
    tell_of h (with_names (link_in h) w.store.link.names w.store.link.bytes) (saying w.said) ≡ tell_of h w.store.link (saying w.said)
intern_told h b n x = let w = intern_of (store_of b n (link_in h)) x in ap (λ (l : Link). tell_of h l (saying w.said)) (sym (intern-same (store_of b n (link_in h)) x))
