-- Ids over histories of interns, from any good table on.
-- Assumes nothing.
use Rattle.std.specs.Prelude.{ℕ, ◌≡◌, ◌↔◌, List}
use Rattle.std.proofs.Common.{◌∙◌}
use Rattle.interner.specs.Names.{Store}
use Rattle.interner.specs.Calls.{Left, intern_of, resolved, resolve_of}
use Rattle.interner_laws.proofs.Histories.{issued-stays, one-id, one_name}
use Rattle.interner_laws.specs.Good.{Good, Issued, count, name}
use Rattle.interner_laws.specs.Interns.{Accepted, id, after}
use Rattle.interner_laws.proofs.Interns.{intern-good, intern-stays, intern-issued, intern-untouched, after-good, after-stays, after_untouched}
use Rattle.interner_laws.specs.Judged.{Within}
use Rattle.interner_laws.proofs.Judged.{within-rest, resolves}

module _ (s : Store) (g : Good s) (x : List ℕ) (ok : Accepted (intern_of s x)) (vs : List (List ℕ)) where
  abbrev first : Left
  first = intern_of s x

  abbrev on : Store
  on = after vs first.store

  on-good : Good on
  on-good = after-good vs first.store (intern-good s x g)

  on-issued : Issued on (id first) x
  on-issued =
      issued-stays count name first.store on (id first) x (after-stays vs first.store (intern-good s x g)) (intern-issued s x g ok)

  pub resolves-on : Within s → resolve_of on (record { 0 = id first }) ≡ resolved x 0 0
  resolves-on w =
      let same = (after_untouched vs first.store).others ∙ (intern-untouched s x).others in
      resolves on on-good (within-rest on s same w) (id first) x on-issued

  module _ (y : List ℕ) (ok' : Accepted (intern_of on y)) where
    abbrev later : Left
    later = intern_of on y

    pub equal-ids-equal-bytes : (id first ≡ id later) ↔ (x ≡ y)
    equal-ids-equal-bytes =
        let end = (intern-good on y on-good).chained.distinct in
        let p : Issued later.store (id first) x = issued-stays count name on later.store (id first) x (intern-stays on y on-good) on-issued in
        let q : Issued later.store (id later) y = intern-issued on y on-good ok' in
        (one_name count name later.store end (id first) (id later) x y p q, one-id count name later.store end (id first) (id later) x y p q)
