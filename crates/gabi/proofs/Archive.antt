-- Laws of the definitions of Archive.antt.
-- Assumes nothing.
use Rattle.std.specs.Prelude.{◌≡◌, refl, false, List, [], ◌∷◌, ltb}
use Rattle.gabi.proofs.Split.{by-test}
use Rattle.gabi.specs.StringTable.{among}
use Rattle.gabi.specs.SymbolTable.{Sym}
use Rattle.gabi.specs.Resolution.{resolve, has, count, is_global_definition, is_common_definition, is_weak_definition, is_global_reference}
use Rattle.gabi.specs.Archive.{is_unresolved, wants, Named, offers, extracts}

-- ---- laws

-- a name without a global reference is not wanted
pub weak-wants-nothing : (l : List Sym) → has is_global_reference l ≡ false → wants l ≡ false
unfolding wants is_unresolved resolve
weak-wants-nothing l h =
    by-test (ltb 1 (count is_global_definition l)) (λ a. rw a)
    (λ a.
    by-test (has is_global_definition l) (λ b. rw (a, b))
    (λ b.
    by-test (has is_common_definition l) (λ m. rw (a, b, m))
    (λ m. by-test (has is_weak_definition l) (λ c. rw (a, b, m, c)) (λ c. rw (a, b, m, c, h)))))

-- where nothing is wanted no member is extracted
pub nothing-wanted : (member : List Named) → extracts member [] ≡ false
unfolding extracts among
nothing-wanted [] = refl
nothing-wanted (e ∷ member) = by-test (offers e.symbol) (λ t. rw t (nothing-wanted member)) (λ t. rw t (nothing-wanted member))
