-- The ways through the loops, and searches by the list's own word.
-- Assumes nothing.
use Rattle.std.specs.Prelude.{ℕ, zero, suc, ◌+◌, ◌-◌, ◌<◌, ◌≤◌, ◌≡◌, refl, Bool, true, false, cond, ◌||◌, List, [], ◌∷◌, eqb, get_or, set, length, drop}
use Rattle.std.specs.List.{list_any, range_with_len}
use Rattle.std.proofs.Common.{add-one, sym, ◌∙◌, arith, drop_of_length-le, drop-cons}
use Rattle.std.proofs.Math.Nat.{sub-zero}
use Rattle.link.specs.declared.Link.{Link}
use Rattle.elf_object.specs.Rows.{rows_in}
use Rattle.elf_object.specs.Proof.Ways.{one_less}
use Rattle.cells.specs.Search.{any_from}
use Rattle.shared_objects.specs.Lists.{has_id}
use Rattle.shared_objects.specs.Need.{mark_names, mark_library, mark_from, mark_all, clear_mark, clear_from, clear_all, View, symbol_wanted, some_wanted}

-- ---- lists of ids

next : (l : List ℕ) (j : ℕ) → j < length l → drop j l ≡ get_or l j 0 ∷ drop (j + 1) l
next l j h = rw (add-one, drop-cons l j 0 h)

-- the list's own word
pub any-id : (id : ℕ) (l : List ℕ) → has_id l id ≡ list_any (λ a. eqb a id) l
unfolding has_id
any-id id [] = refl
any-id id (a ∷ l) = go (eqb a id) (any-id id l)
  where
    go : (b : Bool) → has_id l id ≡ list_any (λ a. eqb a id) l → cond b true (has_id l id) ≡ (b || list_any (λ a. eqb a id) l)
    go true e = refl
    go false e = e

-- ---- marks

-- shut, so that a search tells it from other equations at once
unfoldable pub Named : ℕ → List ℕ → List ℕ → List ℕ → Type 0
Named j part start marks = mark_names start part ≡ mark_names marks (drop j part)

module _ (part start : List ℕ) where
  pub named_none : Named 0 part start start
  unfolding Named
  named_none = refl

  module _ (j : ℕ) (marks : List ℕ) where
    pub named-all : Named j part start marks → length part ≤ j → marks ≡ mark_names start part
    unfolding Named mark_names
    named-all q h = sym (q ∙ simp (drop_of_length-le part h))

    pub named_more : (more : List ℕ) → Named j part start marks → j < length part → more ≡ set marks (get_or part j 0) 1 → Named (j + 1) part start more
    unfolding Named mark_names
    named_more more q h f = q ∙ rw (next part j h) (simp f)

unfoldable pub Marked : ℕ → List ℕ → List ℕ → ℕ → ℕ → ℕ → List ℕ → List ℕ → Type 0
Marked k inputs lists id count rows start marks = mark_all inputs lists id count rows start ≡ mark_from inputs lists id count (rows - k) k marks

module _ (inputs lists : List ℕ) (id count rows : ℕ) (start : List ℕ) where
  pub marked_start : Marked 0 inputs lists id count rows start start
  unfolding Marked mark_all
  marked_start = rw (sub-zero rows)

  module _ (k : ℕ) (marks : List ℕ) where
    pub marked-end : Marked k inputs lists id count rows start marks → rows ≤ k → marks ≡ mark_all inputs lists id count rows start
    unfolding Marked mark_from
    marked-end q h = let z : rows - k ≡ 0 = omega arith in sym (q ∙ rw z)

    pub marked-on : (more : List ℕ) → Marked k inputs lists id count rows start marks → k < rows → more ≡ mark_library inputs lists id count k marks
        → Marked (k + 1) inputs lists id count rows start more
    unfolding Marked mark_from
    marked-on more q h f = q ∙ rw (one_less rows k h) (simp f)

-- ---- symbols

any-range : (p : ℕ → Bool) (i n : ℕ) → any_from p i n ≡ list_any p (range_with_len i n)
unfolding any_from
any-range p i zero = refl
any-range p i (suc n) = go (p i) (any-range p (i + 1) n)
  where
    go : (b : Bool) → any_from p (i + 1) n ≡ list_any p (range_with_len (i + 1) n)
        → cond b true (any_from p (i + 1) n) ≡ (b || list_any p (range_with_len (i + 1) n))
    go true e = refl
    go false e = e

pub some-any : (v : View) (entries file : List ℕ)
    → some_wanted v entries file ≡ list_any (symbol_wanted v entries file) (range_with_len 0 (rows_in entries))
unfolding some_wanted
some-any v entries file = any-range (symbol_wanted v entries file) 0 (rows_in entries)

-- ---- marks cleared

-- shut, so that a search tells it from other equations at once
unfoldable pub Cleared : ℕ → List ℕ → List ℕ → Link → List ℕ → List ℕ → ℕ → List ℕ → List ℕ → Type 0
Cleared i bytes names l entries file rows start marks =
    clear_all bytes names l entries file start ≡ clear_from bytes names l entries file (rows - i) i marks

module _ (bytes names : List ℕ) (l : Link) (entries file start : List ℕ) where
  pub cleared-start : (rows : ℕ) → rows ≡ rows_in entries → Cleared 0 bytes names l entries file rows start start
  unfolding Cleared clear_all
  cleared-start rows e = rw (sub-zero rows, e)

  module _ (rows i : ℕ) (marks : List ℕ) where
    pub cleared-end : Cleared i bytes names l entries file rows start marks → rows ≤ i → marks ≡ clear_all bytes names l entries file start
    unfolding Cleared clear_from
    cleared-end q h = let z : rows - i ≡ 0 = omega arith in sym (q ∙ rw z)

    pub cleared-on : (more : List ℕ) → Cleared i bytes names l entries file rows start marks → i < rows → more ≡ clear_mark bytes names l entries file i marks
        → Cleared (i + 1) bytes names l entries file rows start more
    unfolding Cleared clear_from
    cleared-on more q h f = q ∙ rw (one_less rows i h) (simp f)
