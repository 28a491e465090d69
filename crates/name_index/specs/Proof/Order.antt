-- Byte order is a total order, in which equal names are the same.
-- Assumes nothing.
use Rattle.std.specs.Prelude.{ℕ, ◌≡◌, refl, List, ◌≢◌}
use Rattle.std.specs.Ordering.{nat_cmp, ordering_reverse, is_eq}
use Rattle.std.specs.declared.cmp.Ordering.{Ordering}
use Rattle.std.specs.declared.cmp.Ordering.TheVariants.{Less, Equal, Greater}
use Rattle.std.specs.Cmp.{IsTotalOrder}
use Rattle.std.specs.Cmp.Lexicographic.{slice_cmp, texts_ties, bytes_decides}
use Rattle.std.proofs.lemmas.Cmp.{nat_list_cmp_total, tied_itself, alike_right}
use Rattle.std.proofs.Common.{sym, ap, ◌∙◌}

pub cases : {P : Type 0} (o : Ordering) → (o ≡ Less → P) → (o ≡ Equal → P) → (o ≡ Greater → P) → P
cases Less a b c = a refl
cases Equal a b c = b refl
cases Greater a b c = c refl

abbrev pub order : List ℕ → List ℕ → Ordering
order = slice_cmp nat_cmp

total : IsTotalOrder order
total = nat_list_cmp_total

pub itself : (x : List ℕ) → order x x ≡ Equal
itself = tied_itself total

pub equal : (x y : List ℕ) → order x y ≡ Equal → x ≡ y
equal x y e = (bytes_decides x y).0 (texts_ties x y ∙ ap is_eq e)

pub turned : (x y : List ℕ) (o : Ordering) → order x y ≡ o → order y x ≡ ordering_reverse o
turned x y o e = total.antisymm y x ∙ ap ordering_reverse e

pub less-less : (x y z : List ℕ) → order x y ≡ Less → order y z ≡ Less → order x z ≡ Less
less-less = total.trans

-- x before y, and y not after z
pub not-after : (x y z : List ℕ) → order x y ≡ Less → order y z ≢ Greater → order x z ≡ Less
not-after x y z h n =
    cases (order y z) (λ e. less-less x y z h e) (λ e. sym (alike_right total y z x e) ∙ h) (λ e. absurd (n e))

-- x before y, and x not before z
pub not-before : (x y z : List ℕ) → order x y ≡ Less → order x z ≢ Less → order y z ≡ Greater
not-before x y z h n =
    cases (order x z) (λ e. absurd (n e))
    (λ e. turned z y Less (sym (total.congr x z y e) ∙ h))
    (λ e. turned z y Less (less-less z x y (turned x z Greater e) h))
