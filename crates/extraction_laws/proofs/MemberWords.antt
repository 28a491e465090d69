-- An archive member's symbols in document 01's words: those of every symbol table, dynamic ones too, excluded or not, each with its name where that
-- isn't missing.
-- Assumes nothing.
use Rattle.std.specs.Prelude.{ℕ, zero, suc, ◌+◌, ◌-◌, ◌≡◌, refl, Bool, true, false, cond, ◌&&◌, ◌||◌, List, [], ◌++◌, eqb, leb}
use Rattle.std.proofs.Common.{ap, ◌∙◌, arith, leb-true, leb-false, lt-ltb, le-ltb, ne_eqb}
use Rattle.cells.specs.Proof.Split.{by-test}
use Rattle.gabi.specs.StringTable.{has_name, name_at}
use Rattle.gabi.proofs.StringTableLaws.{name-empty}
use Rattle.gabi.specs.Archive.{Named}
use Rattle.strings.specs.Lookup.{Looked, looked}
use Rattle.elf_object.specs.Rows.{rows_in, field, kind_at, section_of, entries_from, table_entries, elf_at}
use Rattle.object_requirement.specs.Matches as Admits
use Rattle.symbol_laws.specs.ObjectWords.{sections_in, symbol_table, string_table, dynamic_symbols, has_kind, link_of, strings_of, entries_of, entries_in}
use Rattle.symbol_laws.specs.Gabi.{sym_of}
use Rattle.extraction_laws.specs.Member.{with_name, rows_named, section_named, sections_named, member_of}
use Rattle.extraction_laws.specs.MemberWords.{named_from, table_from, has_symbols, symbols_from, symbols_of}

-- ---- they are those that admission looks at

section-same : (headers : List ℕ) (n kind : ℕ) → Admits.is_section headers n kind ≡ has_kind headers n kind
unfolding Admits.is_section
section-same headers n kind =
    by-test (leb (rows_in headers) n) (λ a. rw (a, le-ltb n (rows_in headers) (leb-true _ _ a)))
    (λ a. rw (a, lt-ltb n (rows_in headers) (leb-false _ _ a)) (by-test (eqb (kind_at headers n) kind) (λ b. rw b) (λ b. rw b)))

table_same : (headers : List ℕ) (n : ℕ) → Admits.is_table headers n ≡ has_symbols headers n
unfolding Admits.is_table
table_same headers n =
    rw (section-same headers n 3, section-same headers n 10) (or_is (has_kind headers n symbol_table) (has_kind headers n dynamic_symbols))
  where
    or_is : (a b : Bool) → cond a true b ≡ a || b
    or_is true b = refl
    or_is false b = refl

look_in : Bool → List ℕ → ℕ → Looked
look_in there strings o = looked (name_at strings o) (there && has_name strings o)

name-same : (headers file : List ℕ) (n o : ℕ) → Admits.name_anywhere headers file n o ≡ look_in (has_kind headers n string_table) (strings_of headers file (has_kind headers n string_table) n) o
unfolding Admits.name_anywhere strings_of look_in
name-same headers file n o =
    rw (section-same headers n 4) (by-test (has_kind headers n string_table) (λ a. rw a) (λ a. rw (a, name-empty o)))

rows_same : (headers file : List ℕ) (names : ℕ) (table : List ℕ) (n i : ℕ)
    → rows_named headers file names table i n ≡ named_from (has_kind headers names string_table) (strings_of headers file (has_kind headers names string_table) names) table i n
unfolding rows_named named_from with_name look_in
rows_same headers file names table zero i = refl
rows_same headers file names table (suc n) i =
    ap (λ (x : Looked). with_name x (sym_of (elf_at table i)) (rows_named headers file names table (i + 1) n)) (name-same headers file names (field table i 0))
    ∙ ap (with_name (look_in (has_kind headers names string_table) (strings_of headers file (has_kind headers names string_table) names) (field table i 0)) (sym_of (elf_at table i))) (rows_same headers file names table n (i + 1))

entries-same : (headers entries : List ℕ) (n : ℕ) → table_entries headers entries (n + 1) ≡ entries_of headers entries n
unfolding table_entries entries_from section_of
entries-same headers entries n =
    let e : n + 1 - 1 ≡ n = omega arith in
    rw (ne_eqb (n + 1) 0 (λ q. omega arith), e)

section-named : (headers entries file : List ℕ) (n : ℕ)
    → section_named headers entries file n
    ≡ cond (has_symbols headers n) (table_from headers entries file n) []
unfolding section_named
section-named headers entries file n =
    rw (table_same headers n, entries-same headers entries n)
    (by-test (has_symbols headers n)
    (λ a. rw a (rows_same headers file (link_of headers n) (entries_of headers entries n) (entries_in (entries_of headers entries n)) 0)) (λ a. rw a))

sections-same : (headers entries file : List ℕ) (m n : ℕ) → sections_named headers entries file n m ≡ symbols_from headers entries file n m
unfolding sections_named symbols_from
sections-same headers entries file zero n = refl
sections-same headers entries file (suc m) n =
    ap (λ (l : List Named). l ++ sections_named headers entries file (n + 1) m) (section-named headers entries file n)
    ∙ ap (◌++◌ (cond (has_symbols headers n) (table_from headers entries file n) [])) (sections-same headers entries file m (n + 1))

pub member_is : (headers entries file : List ℕ) → member_of headers entries file ≡ symbols_of headers entries file
unfolding member_of symbols_of
member_is headers entries file = sections-same headers entries file (sections_in headers) 0
