-- What the interner promises, over every history of interns, refused ones among them.
-- `Good`, `Untouched`, `Stays` and `Alike` are defined in specs/Good.antt, a history (`after`) in specs/Interns.antt; the proofs are in the files cited.
-- Assumes nothing.
use Rattle.std.specs.Prelude.{ℕ, ◌<◌, ◌≡◌, ◌↔◌, true, false, List, [], length}
use Rattle.link.specs.declared.Interned.{Interned}
use Rattle.link.specs.Bounds.{name_rows}
use Rattle.link.specs.Judge.{refused}
use Rattle.link.specs.Said.{accepted, refusing}
use Rattle.link.specs.Counts.{no_rows}
use Rattle.interner.specs.Names.{Store, store_of, fits_of, keep_of}
use Rattle.interner.specs.Calls.{Left, left, intern_of, new_of, resolved, resolve_of}
use Rattle.interner_laws.specs.Good.{Good, Issued, Stays, Untouched, Alike, count, name, find}
use Rattle.interner_laws.specs.Interns.{Accepted, id, id_of, after}
use Rattle.interner_laws.specs.Judged.{Within}
use Rattle.interner_laws.proofs.Interns
use Rattle.interner_laws.proofs.Ids
use Rattle.interner_laws.proofs.Find
use Rattle.interner_laws.proofs.Judged
use Rattle.interner_laws.proofs.Same

-- ---- from a new table on

-- a new table opens where there is a row
pub opens : (key : ℕ) (bytes names : List ℕ) → 0 < name_rows (length names) → Accepted (new_of key bytes names)
opens = Interns.new-accepted

module _ (key : ℕ) (bytes names : List ℕ) (opened : Accepted (new_of key bytes names)) (us : List (List ℕ)) where
  -- what any history leaves
  abbrev table : Store
  table = after us (new_of key bytes names).store

  pub good : Good table
  good = Judged.table-good key bytes names opened us

  pub unbroken : table.link.broken ≡ false
  unbroken = Judged.table-whole key bytes names opened us

  pub within : Within table
  within = Judged.table-within key bytes names opened us

  module _ (x y : List ℕ) (vs : List (List ℕ)) where
    abbrev first : Left
    first = intern_of table x

    -- after any further history
    abbrev later : Left
    later = intern_of (after vs first.store) y

    -- "Interning equal bytes gives the same id", different bytes different ids
    pub equal-ids-equal-bytes : Accepted first → Accepted later → (id first ≡ id later) ↔ (x ≡ y)
    equal-ids-equal-bytes p = Ids.equal-ids-equal-bytes table good x p vs y

    -- an id gives its bytes back for ever
    pub resolves-for-ever : Accepted first → resolve_of (after vs first.store) (record { 0 = id first }) ≡ resolved x 0 0
    resolves-for-ever p = Ids.resolves-on table good x p vs within

  -- the only refusal is 2
  pub refused_full : (x : List ℕ) → (Accepted (intern_of table x) → ⊥) → intern_of table x ≡ left table (refusing (refused 2 0))
  refused_full = Judged.refused_full table good within unbroken

  -- the empty name is issued with id 0, and stays so
  pub empty-first : id (new_of key bytes names) ≡ 0
  empty-first = Interns.new-id key bytes names opened

  pub empty-interns : intern_of table [] ≡ left table (accepted 0)
  empty-interns = Judged.interns-known table good within unbroken 0 [] (Interns.empty-issued table good)

  pub empty-resolves : resolve_of table (record { 0 = 0 }) ≡ resolved [] 0 0
  empty-resolves = Judged.resolves table good within 0 [] (Interns.empty-issued table good)

-- ---- a good table

module _ (s : Store) (g : Good s) where
  -- it stays good, and every id goes on standing for its name
  pub stays-good : (xs : List (List ℕ)) → Good (after xs s)
  stays-good xs = Interns.after-good xs s g

  pub names-stay : (xs : List (List ℕ)) → Stays s (after xs s)
  names-stay xs = Interns.after-stays xs s g

  -- an accepted name has the id answered
  pub issues : (x : List ℕ) → Accepted (intern_of s x) → Issued (intern_of s x).store (id (intern_of s x)) x
  issues x = Interns.intern-issued s x g

  -- finding gives the id of a name that was issued, else the count
  pub finds-issued : (i : ℕ) → i < count s → find s (name s i) ≡ i
  finds-issued i h = Find.find-issued s g.chained i h

  pub finds-none : (x : List ℕ) → (find s x ≡ count s) ↔ ((i : ℕ) → i < count s → name s i ≡ x → ⊥)
  finds-none x = (Find.new_none s x g.chained, Find.find-new s x g.chained)

  -- the same for a name that another call keeps
  pub keeps-good : (x : List ℕ) → Good (keep_of s (id_of s x) x)
  keeps-good x = Interns.keep-good s x g

  pub keeps-names : (x : List ℕ) (i : Interned) → Stays s (keep_of s i x)
  keeps-names x = Interns.keep-stays s x g

  pub keeps-issued : (x : List ℕ) → fits_of s (id_of s x) (length x) ≡ true → Issued (keep_of s (id_of s x) x) (find s x) x
  keeps-issued x = Interns.keep-issued s x g

  pub keeps-found : (x : List ℕ) → fits_of s (id_of s x) (length x) ≡ true → find (keep_of s (id_of s x) x) x ≡ find s x
  keeps-found x = Interns.keep-find s x g

  -- a table that differs only in cells 3 to 7 of rows and in other counts is good and answers the same
  module _ (t : Store) (a : Alike s t) where
    pub same_good : Good t
    same_good = Same.good-same s t a g

    pub same_names : Stays s t
    same_names = Same.alike-stays s t a

    pub same-find : (x : List ℕ) → find t x ≡ find s x
    same-find = Same.find-same s t a g

-- what is found stays found
pub stays-found : (s t : Store) → Good s → Good t → Stays s t → (x : List ℕ) → find s x < count s → find t x ≡ find s x
stays-found s t g k = Find.find-stays s t g.chained k.chained

-- ---- any store, whatever its cells hold

-- rows and bytes past the counts, and below the counts before, are what they were
pub untouched-by-one : (s : Store) (x : List ℕ) → Untouched s (intern_of s x).store
untouched-by-one = Interns.intern-untouched

pub untouched-by-any : (s : Store) (xs : List (List ℕ)) → Untouched s (after xs s)
untouched-by-any s xs = Interns.after_untouched xs s

pub untouched-by-keep : (s : Store) (i : Interned) (x : List ℕ) → Untouched s (keep_of s i x)
untouched-by-keep = Interns.keep-untouched

-- a refusal leaves the store as it was
pub refused-as-it-was : (s : Store) (x : List ℕ) → (Accepted (intern_of s x) → ⊥) → (intern_of s x).store ≡ s
refused-as-it-was = Interns.intern-refused

pub refused-new : (key : ℕ) (bytes names : List ℕ) → (Accepted (new_of key bytes names) → ⊥) → (new_of key bytes names).store ≡ store_of bytes names no_rows
refused-new = Interns.new-refused
