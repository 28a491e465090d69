-- Admission looks at the symbols that specs/Member.antt lists, table by table.
-- Assumes nothing.
use Prim.Native.Nat.{ℕ, zero, suc, ◌+◌}
use Rattle.std.specs.Prelude.{◌≡◌, Bool, not, ◌&&◌, ◌||◌, eqb}
use Rattle.std.proofs.Math.Path.{refl}
use Rattle.std.proofs.Common.{sym}
use Rattle.std.proofs.Math.Bool.{true, false, cond}
use mathlib.Core.List.{List, [], ◌∷◌}
use Rattle.gabi.specs.SymbolTable.{Sym, is_global, is_weak, is_reference, is_definition}
use Rattle.gabi.specs.Archive.{Named, offers}
use Rattle.strings.specs.Lookup.{Looked}
use Rattle.elf_object.specs.Rows.{rows_in, field, link_at, table_entries, elf_at}
use Rattle.cells.specs.Search.{any_from}
use Rattle.object_requirement.specs.Matches as Matches
use Rattle.object_requirement.specs.Matches.{name_anywhere, is_required, bears_required, in_table, is_table, in_section, has_global_symbol}
use Rattle.symbol_laws.specs.Gabi.{sym_of}
use Rattle.extraction_laws.specs.Some.{some}
use Rattle.extraction_laws.proofs.Some.{and-cond, some-append}
use Rattle.extraction_laws.specs.Member.{with_name, rows_named, section_named, sections_named, member_of, admitting, admits_in}

-- ---- the object's rows admit just where its symbols do

-- a row's fields say whether it may
row-admits : (gabi : Bool) (symbols : List ℕ) (i : ℕ) → admitting gabi (sym_of (elf_at symbols i)) ≡ Matches.admits gabi (field symbols i 1) (field symbols i 4)
unfolding is_global is_weak is_definition is_reference offers Matches.admits Matches.defines_name
row-admits false symbols i = refl
row-admits true symbols i = tree (eqb (field symbols i 4) 0) (eqb (field symbols i 1) 1) (eqb (field symbols i 1) 2)
  where
    tree : (u g w : Bool) → (g || w) && not u ≡ cond u false (cond g true (cond w true false))
    tree true true w = refl
    tree true false true = refl
    tree true false false = refl
    tree false true w = refl
    tree false false true = refl
    tree false false false = refl

module _ (gabi : Bool) (f : List ℕ → Bool) where
  one-admits : (x : Looked) (s : Sym) (a : Bool) (rest : List Named) → admitting gabi s ≡ a
      → cond (cond a (is_required f x) false) true (admits_in gabi f rest) ≡ admits_in gabi f (with_name x s rest)
  unfolding is_required with_name some
  one-admits x s a rest e = go x.found
    where
      never : (t : Bool) (a : Bool) → cond (cond t false false) true a ≡ a
      never true a = refl
      never false a = refl

      go : (t : Bool) → cond (cond a (cond t (f x.name) false) false) true (admits_in gabi f rest)
          ≡ admits_in gabi f (cond t (record { name = x.name; symbol = s } ∷ rest) rest)
      go true = rw (e, and-cond a (f x.name))
      go false = never a (admits_in gabi f rest)

  rows-admit : (headers file : List ℕ) (names : ℕ) (symbols : List ℕ) (n i : ℕ)
      → any_from (bears_required gabi headers file names symbols f) i n ≡ admits_in gabi f (rows_named headers file names symbols i n)
  unfolding any_from bears_required rows_named some
  rows-admit headers file names symbols zero i = refl
  rows-admit headers file names symbols (suc n) i =
      rw (rows-admit headers file names symbols n (i + 1))
      (one-admits (name_anywhere headers file names (field symbols i 0)) (sym_of (elf_at symbols i)) (Matches.admits gabi (field symbols i 1) (field symbols i 4))
      (rows_named headers file names symbols (i + 1) n) (row-admits gabi symbols i))

  section-admits : (headers entries file : List ℕ) (n : ℕ) → in_section gabi headers entries file f n ≡ admits_in gabi f (section_named headers entries file n)
  unfolding in_section in_table section_named some
  section-admits headers entries file n = go (is_table headers n)
    where
      table : List ℕ
      table = table_entries headers entries (n + 1)

      go : (b : Bool) → cond b (any_from (bears_required gabi headers file (link_at headers n) table f) 0 (rows_in table)) false
          ≡ admits_in gabi f (cond b (rows_named headers file (link_at headers n) table 0 (rows_in table)) [])
      go true = rows-admit headers file (link_at headers n) table (rows_in table) 0
      go false = refl

  sections-admit : (headers entries file : List ℕ) (m n : ℕ) → any_from (in_section gabi headers entries file f) n m ≡ admits_in gabi f (sections_named headers entries file n m)
  unfolding any_from sections_named some
  sections-admit headers entries file zero n = refl
  sections-admit headers entries file (suc m) n =
      rw (section-admits headers entries file n, sections-admit headers entries file m (n + 1))
      (sym (some-append (λ e. admitting gabi e.symbol && f e.name) (section_named headers entries file n) (sections_named headers entries file (n + 1) m)))

  pub object-admits : (headers entries file : List ℕ) → has_global_symbol gabi headers entries file f ≡ admits_in gabi f (member_of headers entries file)
  unfolding has_global_symbol member_of
  object-admits headers entries file = sections-admit headers entries file (rows_in headers) 0
