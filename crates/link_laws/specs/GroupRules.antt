-- The rules for groups: 4, 5, 29, 6, 7 in that order, inside a merge and as a call of its own.
-- Assumes nothing.
use Rattle.std.specs.Prelude.{ℕ, ◌/◌, Bool, not, ◌&&◌, cond, List, [], ◌∷◌, ◌++◌, eqb, ltb, get_or, length}
use Rattle.byte_slices.specs.Bytes.{part}
use Rattle.link.specs.Bounds.{not_lent}
use Rattle.section_groups.specs.Group.{Object, object_of}
use Rattle.symbol_laws.specs.History.{State}
use Rattle.link_laws.specs.Rules.{Rule, ◌gives◌at◌, some, lent_rows, head_rules}
use Rattle.link_laws.specs.TableRules.{bytes_of, is_among, id_in, is_unroomed}
use Rattle.link_laws.specs.ObjectRules.{cell_at, is_section, is_comdat, is_named, name_in, object_rules, link_at, info_at, first_at, count_at, symbol_name}

-- "A signature met before, in this or an earlier object": its name's row has 1
abbrev pub is_met : State → List ℕ → Bool
is_met t x = is_among (bytes_of t) x 0 t.link.names && eqb (cell_at t.names (id_in t x) 4) 1

-- one of these numbers passes the test
abbrev pub some_of : (ℕ → Bool) → List ℕ → Bool
some_of test xs = some (λ i. test (get_or xs i 0)) 0 (length xs)

-- lent work rows: a group of the object that was added before has left a 1
abbrev pub is_noted : List ℕ → ℕ → Bool
is_noted work m = eqb (cell_at work m 3) 1

-- a group added by itself: "Excluded sections vanish first", so the entries are there if their table's section is a symbol table and isn't excluded
abbrev pub alone : Object → Object
alone o = object_of o.headers (cond (is_section o.headers o.table 3) o.entries []) o.contents o.image o.table

module _ (o : Object) (n : ℕ) where
  -- the group's link is the loaded symbol table, its info a symbol of that
  abbrev pub has_signature : Bool
  has_signature = eqb (link_at o.headers n) o.table && ltb (info_at o.headers n) (length o.entries / 8)

  -- the name of that symbol, in the strings that the table links to
  abbrev pub signature_found : Bool
  signature_found = is_named o.headers o.image (link_at o.headers o.table) (symbol_name o.entries (info_at o.headers n))

  abbrev pub signature : List ℕ
  signature = name_in o.headers o.image (link_at o.headers o.table) (symbol_name o.entries (info_at o.headers n))

  -- the sections that it lists
  abbrev pub listed : List ℕ
  listed = part o.contents (first_at o.headers n) (count_at o.headers n)

  -- it lists a section of the object of which the test says that an earlier group lists it
  abbrev pub lists_again : (ℕ → Bool) → Bool
  lists_again before = some_of (λ m. ltb m (length o.headers / 8) && before m) listed

  -- over the names t, with so many marks lent: 2 for a name without room, and for a section to be removed without a mark
  abbrev pub own_group_rules : (ℕ → Bool) → State → ℕ → List Rule
  own_group_rules before t marks =
      (not (is_comdat o.headers n) gives 4 at n)
      ∷ (eqb (count_at o.headers n) 0 gives 5 at n)
      ∷ (lists_again before gives 29 at n)
      ∷ (not has_signature gives 6 at n)
      ∷ (not signature_found gives 7 at n)
      ∷ (is_unroomed t signature gives 2 at n)
      ∷ (is_met t signature && some_of (λ m. not (ltb m marks)) listed gives 2 at n)
      ∷ []

  -- ---- the call: lent names and their bytes, and a mark for each section; a section that is no group is out of range

  abbrev pub group_head : State → ℕ → List Rule
  group_head t marks =
      head_rules t.link (lent_rows (length t.names / 9) (length t.bytes) not_lent t.link.slots not_lent not_lent)
      ++ (object_rules o.headers o.entries o.contents o.image
      ++ ((not (is_section o.headers n 7) gives 1 at n) ∷ (ltb marks (length o.headers / 8) gives 2 at 0) ∷ []))
