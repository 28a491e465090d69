-- Laws of the definitions of Words.antt.
-- Assumes nothing.
use Prim.Native.Nat.{ℕ, zero, suc, ◌+◌}
use Rattle.std.specs.Prelude.{◌≡◌, Bool, true, false, cond, ◌&&◌, ◌||◌, List, eqb}
use Rattle.std.proofs.Math.Path.{refl}
use Rattle.std.proofs.Common.{sym, ap, ◌∙◌}
use Rattle.interner_laws.specs.Good.{find}
use Rattle.symbol.specs.Row.{symbol_at, value_words_at, scope_at}
use Rattle.symbol_resolution.specs.declared.rows.Holder.{Holder}
use Rattle.symbol_resolution.specs.declared.rows.Holder.TheVariants.{Unissued, Nobody, Removed, Known}
use Rattle.symbols.specs.Lookup.{held_of}
use Rattle.archive_index.specs.Archives.{Archives, entries_in, name_in}
use Rattle.archive_walk.specs.Look as Look
use Rattle.archive_walk.specs.Look.{name_holder, undefined_name, tied_name}
use Rattle.archive_laws.specs.Profiles as Profiles
use Rattle.archive_laws.specs.Profiles.{strong_name}
use Rattle.archive_laws.proofs.Profiles.{tied-old, tied-gabi}
use Rattle.archive_laws.specs.Walked.{tied_in}
use Rattle.archive_laws.specs.PassList.{members_from, tied_members}
use Rattle.load_laws.proofs.Own as Need
use Rattle.symbol_laws.specs.History.{Entry, store}
use Rattle.symbol_laws.specs.Within.{Within}
use Rattle.symbol_laws.proofs.Within.{Fits, looked}
use Rattle.merge_laws.specs.Calls.{Linked}
use Rattle.link_laws.specs.Calls.{view_in}
use Rattle.link_laws.specs.Kept.{Reached}
use Rattle.link_laws.proofs.Kept.{reached-within}
use Rattle.link_laws.specs.Words.{id_of, lookup, is_undefined, undefined, is_strong, strong, ties, tied}

-- ---- these are what the calls go by

members-same : (archives : Archives) (f g : ℕ → Bool) → ((k : ℕ) → f k ≡ g k) → (n k : ℕ) → members_from archives f n k ≡ members_from archives g n k
members-same archives f g e zero k = refl
members-same archives f g e (suc n) k = rw (e k, members-same archives f g e n (k + 1))

-- over any link, also one from which something was removed
module _ (s : Linked) (f : Fits s.table) (w : Within s.table.link s.table.names) where
  -- a lookup by a name's bytes is answered by who holds the name
  pub held-answers : (b : List ℕ) → lookup b s ≡ held_of s.table.symbols (id_of b s) (name_holder (view_in s.table) b)
  unfolding name_holder
  held-answers b = looked s.table f w (find (store s.table) b) _ refl

  pub undefined-held : (b : List ℕ) → undefined_name (view_in s.table) b ≡ undefined b s
  unfolding undefined_name symbol_at
  undefined-held b = go (name_holder (view_in s.table) b) ∙ ap is_undefined (sym (held-answers b))
    where
      go : (h : Holder) → Look.is_undefined s.table.symbols h ≡ is_undefined (held_of s.table.symbols (id_of b s) h)
      go Unissued = refl
      go Nobody = refl
      go Removed = refl
      go (Known id) = sym (Need.undefined-code (value_words_at s.table.symbols id.0))

  strong-held : (b : List ℕ) → strong_name (view_in s.table) b ≡ strong b s
  unfolding strong_name symbol_at
  strong-held b = go (name_holder (view_in s.table) b) ∙ ap is_strong (sym (held-answers b))
    where
      tree : (a b : Bool) → a || b ≡ cond a true (cond b true false)
      tree true b = refl
      tree false true = refl
      tree false false = refl

      go : (h : Holder) → Profiles.is_strong s.table.symbols h ≡ is_strong (held_of s.table.symbols (id_of b s) h)
      go Unissued = refl
      go Nobody = refl
      go Removed = refl
      go (Known id) =
          let v : ℕ = scope_at s.table.symbols id.0 in
          tree (eqb v 1) (eqb v 2) ∙ sym (Need.strong-code v)

  pub ties-held : (b : List ℕ) → tied_name (view_in s.table) b ≡ ties b s
  ties-held b = by s.table.link.gabi refl
    where
      by : (g : Bool) → s.table.link.gabi ≡ g → tied_name (view_in s.table) b ≡ cond g (undefined b s && strong b s) (undefined b s)
      by true g =
          tied-gabi (view_in s.table) b g
          ∙ ap (λ (u : Bool). u && strong_name (view_in s.table) b) (undefined-held b)
          ∙ ap (λ (u : Bool). undefined b s && u) (strong-held b)
      by false g = tied-old (view_in s.table) b g ∙ undefined-held b

module _ (s : Linked) (past : List Entry) (met : List (List ℕ)) (r : Reached s past met) where
  pub undefined-seen : (b : List ℕ) → undefined_name (view_in s.table) b ≡ undefined b s
  undefined-seen = undefined-held s (record { few = r.held.few; room = r.held.room }) (reached-within s past met r)

  pub ties-seen : (b : List ℕ) → tied_name (view_in s.table) b ≡ ties b s
  ties-seen = ties-held s (record { few = r.held.few; room = r.held.room }) (reached-within s past met r)

  pub tied-seen : (archives : Archives) → tied_members archives (view_in s.table) ≡ tied archives s
  tied-seen archives =
      members-same archives (tied_in archives (view_in s.table)) (λ k. ties (name_in archives k) s)
      (λ k. ties-seen (name_in archives k)) (entries_in archives) 0
