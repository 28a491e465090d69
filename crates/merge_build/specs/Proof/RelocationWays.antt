-- The ways through the functions of Relocations.
-- Assumes nothing.
use Rattle.std.specs.Prelude.{ℕ, ◌+◌, ◌<◌, ◌≤◌, ◌≡◌, ◌&&◌, refl, cond, Bool, true, false, List, [], ◌∷◌, get_or, set, length, drop}
use Rattle.std.specs.List.{list_all}
use Rattle.std.proofs.Common.{add-one, add-zero, ◌∙◌, drop_of_length-le, drop-cons}
use native.Mathlib.Omega.{arith}
use Rattle.std.proofs.Math.Path.{sym}
use Rattle.merge_build.specs.Relocations.{symbol_ok, symbols_ok, id_in, append_from}

-- the loop: what it gives from the j-th relocation on is what it gives from the start

next : (l : List ℕ) (j : ℕ) → j < length l → drop j l ≡ get_or l j 0 ∷ drop (j + 1) l
next l j h = rw (add-one, drop-cons l j 0 h)

-- shut, so that a search tells it from other equations at once
unfoldable pub Appended : ℕ → List ℕ → ℕ → List ℕ → List ℕ → List ℕ → Type 0
Appended j ids at relocations start lists = append_from ids start at relocations ≡ append_from ids lists (at + j) (drop j relocations)

module _ (ids : List ℕ) (at : ℕ) (relocations start : List ℕ) where
  pub appended-none : Appended 0 ids at relocations start start
  unfolding Appended
  appended-none = rw (add-zero at)

  module _ (j : ℕ) (lists : List ℕ) where
    pub appended-all : Appended j ids at relocations start lists → length relocations ≤ j → lists ≡ append_from ids start at relocations
    unfolding Appended append_from
    appended-all q h = sym (q ∙ simp (drop_of_length-le relocations h))

    pub appended-more : (more : List ℕ) → Appended j ids at relocations start lists → j < length relocations
        → more ≡ set lists (at + j) (id_in ids (get_or relocations j 0)) → Appended (j + 1) ids at relocations start more
    unfolding Appended append_from
    appended-more more q h f = let a : at + j + 1 ≡ at + (j + 1) = omega arith in q ∙ rw (next relocations j h) (simp (f, ← a))

-- the test of all by the list's own word
pub all-ok : (ids : List ℕ) (limit : ℕ) (l : List ℕ) → symbols_ok ids limit l ≡ list_all (symbol_ok ids limit) l
unfolding symbols_ok
all-ok ids limit [] = refl
all-ok ids limit (k ∷ ks) = go (symbol_ok ids limit k) (all-ok ids limit ks)
  where
    go : (b : Bool) → symbols_ok ids limit ks ≡ list_all (symbol_ok ids limit) ks
        → cond b (symbols_ok ids limit ks) false ≡ (b && list_all (symbol_ok ids limit) ks)
    go true e = e
    go false e = refl
