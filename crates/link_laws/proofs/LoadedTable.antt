-- The symbol table that `would_define` reads is the one that a merge would load.
-- Assumes nothing.
use Prim.Native.Nat.{ℕ, zero, suc, ◌<◌}
use native.Mathlib.Omega.{arith}
use Rattle.std.proofs.Common.{ap, ◌∙◌}
use Rattle.std.specs.Prelude.{◌≡◌, ◌≢◌, refl, List}
use Rattle.strings.specs.Lookup.{Looked}
use Rattle.elf_object.specs.Rows.{rows_in, name_in, table_entries, entry_name_at}
use Rattle.untaken_member.specs.Untaken.{table_below, loaded_of}
use Rattle.symbol_laws.specs.ObjectWords.{symbol_table, entry_name}
use Rattle.merge_laws.specs.MergeWords.{symbols_of, symbol_name, is_named}
use Rattle.merge_laws.proofs.WorkRows.{loaded-same, table_to}
use Rattle.merge_laws.proofs.WorkGroups.{table-entries, table-names, table-found, no-entries}

-- ---- the table that a merge would load

table-same : (headers : List ℕ) (n : ℕ) → table_below headers n ≡ table_to headers n
unfolding table_below
table-same headers zero = refl
table-same headers (suc n) = rw (loaded-same headers n symbol_table, table-same headers n)

module _ (headers entries contents file : List ℕ) where
  pub loaded-entries : (loaded_of headers entries file).entries ≡ symbols_of headers entries contents file
  unfolding loaded_of
  loaded-entries = ap (table_entries headers entries) (table-same headers (rows_in headers)) ∙ table-entries headers entries (rows_in headers)

  -- with a symbol there is a table
  some-table : (i : ℕ) → i < rows_in (symbols_of headers entries contents file) → table_to headers (rows_in headers) ≢ 0
  some-table i h e = let z : rows_in (symbols_of headers entries contents file) ≡ 0 = ap rows_in (no-entries headers entries (rows_in headers) e) in omega arith

  module _ (i : ℕ) (h : i < rows_in (symbols_of headers entries contents file)) where
    abbrev looked : Looked
    looked = name_in headers file (loaded_of headers entries file).names (entry_name_at (loaded_of headers entries file).entries i)

    pub name-there : looked.name ≡ symbol_name headers entries contents file i
    unfolding loaded_of
    name-there =
        rw (table-same headers (rows_in headers), table-entries headers entries (rows_in headers))
        (table-names headers file (rows_in headers) (entry_name (symbols_of headers entries contents file) i) (some-table i h))

    pub name-found : looked.found ≡ is_named headers entries contents file i
    unfolding loaded_of
    name-found =
        rw (table-same headers (rows_in headers), table-entries headers entries (rows_in headers))
        (table-found headers file (rows_in headers) (entry_name (symbols_of headers entries contents file) i) (some-table i h))
