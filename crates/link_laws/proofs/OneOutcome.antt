-- What an answer says, in document 01's terms, is the whole answer.
-- Assumes nothing.
use Rattle.archive_walk.specs.declared.Offer.TheVariants.{Member, Done}
use Rattle.archive_walk.specs.declared.Offer.{Offer}
use Rattle.link.specs.declared.Interned.{Interned}
use Rattle.symbol.specs.declared.Symbol.{Symbol}
use Rattle.link.specs.declared.SymbolId.{SymbolId}
use Rattle.std.specs.Prelude.{ℕ, ◌≡◌, refl, List, [], ◌∷◌, Option, Result, None, Some, Ok, Err, Bool, true, false}
use Rattle.std.proofs.Common.{arith, sym, ap}
use Rattle.link.specs.declared.cause.Refusal.{Refusal}
use Rattle.link.specs.Said.{SaidWith, accepted, refusing, value_in}
use Rattle.interner.specs.Calls as Names
use Rattle.symbols.specs.Calls as Symbols
use Rattle.symbols.specs.Lookup as Lookup
use Rattle.archive_walk.specs.Walk as Archive
use Rattle.object_requirement.specs.Matches as Matches

-- an outcome names the call's answer whole; where it names what the answer says, in document 01's terms, that is the answer: the calls on names and
-- on the table
differ : (v : ℕ) (r : Refusal) → accepted v ≡ refusing r → ⊥
differ v r e = let z : ◌≡◌ {A = ℕ} 0 1 = cc in omega arith

same-refusal : (r q : Refusal) → refusing r ≡ refusing q → r ≡ q
same-refusal r q e = cc

pub names-answer : (a b : (Result Interned Refusal)) → Names.said a ≡ Names.said b → a ≡ b
names-answer (Ok i) (Ok j) e = ap (λ (v : ℕ). Ok (record { 0 = v })) (ap value_in e)
names-answer (Ok i) (Err r) e = absurd (differ i.0 r e)
names-answer (Err r) (Ok j) e = absurd (differ j.0 r (sym e))
names-answer (Err r) (Err q) e = ap Err (same-refusal r q e)

pub symbols-answer : (a b : (Result SymbolId Refusal)) → Symbols.said a ≡ Symbols.said b → a ≡ b
symbols-answer (Ok i) (Ok j) e = ap (λ (v : ℕ). Ok (record { 0 = v })) (ap value_in e)
symbols-answer (Ok i) (Err r) e = absurd (differ i.0 r e)
symbols-answer (Err r) (Ok j) e = absurd (differ j.0 r (sym e))
symbols-answer (Err r) (Err q) e = ap Err (same-refusal r q e)

-- ---- lookups, the start of a walk, a call for the next member, admission: number, place and values

module _ {A : Type 0} where
  values : (a b : SaidWith A) → a ≡ b → a.values ≡ b.values
  values a b e = ap (λ (o : SaidWith A). o.values) e

  refusal : (a b : SaidWith A) → a ≡ b → ◌≡◌ {A = Refusal} (record { number = a.number; place = a.place }) (record { number = b.number; place = b.place })
  refusal a b e = ap {B = Refusal} (λ (o : SaidWith A). record { number = o.number; place = o.place }) e

  -- a refusal has no values
  valued : (x : A) (l : List A) → x ∷ l ≡ [] → ⊥
  valued x l e = let z : ◌≡◌ {A = ℕ} 0 1 = cc in omega arith

  one : (x y : A) → x ∷ [] ≡ y ∷ [] → x ≡ y
  one x y e = cc

pub found-answer : (a b : Result Symbol Refusal) → Lookup.said a ≡ Lookup.said b → a ≡ b
found-answer (Ok x) (Ok y) e = ap Ok (one x y (values (Lookup.said (Ok x)) (Lookup.said (Ok y)) e))
found-answer (Ok x) (Err r) e = absurd (valued x [] (values (Lookup.said (Ok x)) (Lookup.said (Err r)) e))
found-answer (Err r) (Ok y) e = absurd (valued y [] (sym (values (Lookup.said (Err r)) (Lookup.said (Ok y)) e)))
found-answer (Err r) (Err q) e = ap Err (refusal (Lookup.said (Err r)) (Lookup.said (Err q)) e)

pub section-symbol-answer : (a b : Option SymbolId) → Lookup.section_symbol_said a ≡ Lookup.section_symbol_said b → a ≡ b
section-symbol-answer None None e = refl
section-symbol-answer None (Some j) e = absurd (valued j [] (sym (values (Lookup.section_symbol_said None) (Lookup.section_symbol_said (Some j)) e)))
section-symbol-answer (Some i) None e = absurd (valued i [] (values (Lookup.section_symbol_said (Some i)) (Lookup.section_symbol_said None) e))
section-symbol-answer (Some i) (Some j) e =
    ap Some (one i j (values (Lookup.section_symbol_said (Some i)) (Lookup.section_symbol_said (Some j)) e))

pub begun-answer : (a b : Result ℕ Refusal) → Archive.begun_said a ≡ Archive.begun_said b → a ≡ b
begun-answer (Ok n) (Ok m) e = ap Ok (one n m (values (Archive.begun_said (Ok n)) (Archive.begun_said (Ok m)) e))
begun-answer (Ok n) (Err r) e = absurd (valued n [] (values (Archive.begun_said (Ok n)) (Archive.begun_said (Err r)) e))
begun-answer (Err r) (Ok m) e = absurd (valued m [] (sym (values (Archive.begun_said (Err r)) (Archive.begun_said (Ok m)) e)))
begun-answer (Err r) (Err q) e = ap Err (refusal (Archive.begun_said (Err r)) (Archive.begun_said (Err q)) e)

offer-values : (a b : Result Offer Refusal) → Archive.offer_said a ≡ Archive.offer_said b → Archive.values_of a ≡ Archive.values_of b
offer-values a b e = values (Archive.offer_said a) (Archive.offer_said b) e

member-values : (j o e p j' o' e' p' : ℕ) → j ∷ o ∷ e ∷ p ∷ [] ≡ j' ∷ o' ∷ e' ∷ p' ∷ [] → ◌≡◌ {A = Result Offer Refusal} (Ok (Member j o e p)) (Ok (Member j' o' e' p'))
member-values j o e p j' o' e' p' h = cc

more-values : (j o e p q : ℕ) → j ∷ o ∷ e ∷ p ∷ [] ≡ q ∷ [] → ⊥
more-values j o e p q h = let t : o ∷ e ∷ p ∷ [] ≡ [] = cc in valued o (e ∷ p ∷ []) t

pub offer-answer : (a b : Result Offer Refusal) → Archive.offer_said a ≡ Archive.offer_said b → a ≡ b
offer-answer (Ok (Member j o e p)) (Ok (Member j' o' e' p')) h = member-values j o e p j' o' e' p' (offer-values (Ok (Member j o e p)) (Ok (Member j' o' e' p')) h)
offer-answer (Ok (Member j o e p)) (Ok (Done q)) h = absurd (more-values j o e p q (offer-values (Ok (Member j o e p)) (Ok (Done q)) h))
offer-answer (Ok (Member j o e p)) (Err r) h = absurd (valued j (o ∷ e ∷ p ∷ []) (offer-values (Ok (Member j o e p)) (Err r) h))
offer-answer (Ok (Done q)) (Ok (Member j o e p)) h = absurd (more-values j o e p q (sym (offer-values (Ok (Done q)) (Ok (Member j o e p)) h)))
offer-answer (Ok (Done p)) (Ok (Done q)) h = ap (λ (n : ℕ). Ok (Done n)) (one p q (offer-values (Ok (Done p)) (Ok (Done q)) h))
offer-answer (Ok (Done q)) (Err r) h = absurd (valued q [] (offer-values (Ok (Done q)) (Err r) h))
offer-answer (Err r) (Ok (Member j o e p)) h = absurd (valued j (o ∷ e ∷ p ∷ []) (sym (offer-values (Err r) (Ok (Member j o e p)) h)))
offer-answer (Err r) (Ok (Done q)) h = absurd (valued q [] (sym (offer-values (Err r) (Ok (Done q)) h)))
offer-answer (Err r) (Err q) h = ap Err (refusal (Archive.offer_said (Err r)) (Archive.offer_said (Err q)) h)

admission-values : (a b : Result Bool Refusal) → Matches.said a ≡ Matches.said b → Matches.values_of a ≡ Matches.values_of b
admission-values a b e = values (Matches.said a) (Matches.said b) e

admits : ◌≡◌ {A = List ℕ} (1 ∷ []) (0 ∷ []) → ⊥
admits e = let z : ◌≡◌ {A = ℕ} 1 0 = one 1 0 e in omega (arith, z)

pub admission-answer : (a b : Result Bool Refusal) → Matches.said a ≡ Matches.said b → a ≡ b
admission-answer (Ok true) (Ok true) h = refl
admission-answer (Ok true) (Ok false) h = absurd (admits (admission-values (Ok true) (Ok false) h))
admission-answer (Ok true) (Err r) h = absurd (valued 1 [] (admission-values (Ok true) (Err r) h))
admission-answer (Ok false) (Ok true) h = absurd (admits (sym (admission-values (Ok false) (Ok true) h)))
admission-answer (Ok false) (Ok false) h = refl
admission-answer (Ok false) (Err r) h = absurd (valued 0 [] (admission-values (Ok false) (Err r) h))
admission-answer (Err r) (Ok true) h = absurd (valued 1 [] (sym (admission-values (Err r) (Ok true) h)))
admission-answer (Err r) (Ok false) h = absurd (valued 0 [] (sym (admission-values (Err r) (Ok false) h)))
admission-answer (Err r) (Err q) h = ap Err (refusal (Matches.said (Err r)) (Matches.said (Err q)) h)
