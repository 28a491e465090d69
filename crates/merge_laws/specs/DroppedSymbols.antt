-- Symbols that the gABI discards, with their sections, and what is left of them in its profile.
-- Assumes nothing.
use Rattle.std.specs.Prelude.{ℕ, ◌<◌, ◌≡◌, true, List, [], ◌≢◌, get_or, length}
use Rattle.gabi.specs.Groups.{after_discard, gone}
use Rattle.interner.specs.Names.{store_of, find_of, fits_of}
use Rattle.elf_object.specs.Rows.{field, elf_at, name_in}
use Rattle.merge_symbols.specs.Stage as Symbols
use Rattle.merge_symbols.specs.Stage.{symbol_of}
use Rattle.merge_build.specs.Build as Build
use Rattle.merge_build.specs.Build.{built_from}
use Rattle.merge_stages.specs.Stages.{All, Object}
use Rattle.symbol_laws.specs.Gabi.{sym_of}
use Rattle.symbol_laws.specs.ObjectWords.{sections_in, program}
use Rattle.merge_laws.specs.MergeSteps.{symbol_steps}
use Rattle.merge_laws.specs.MergeWords.{named_by}
use Rattle.merge_laws.specs.FirstKept.{removed_in}
use Rattle.merge_laws.specs.SymbolStage.{table_in}
use Rattle.merge_laws.specs.Stops.{marked}

-- the gABI's rule discards symbol i of the table
abbrev pub Gone : List ℕ → List ℕ → ℕ → Type 0
Gone work entries i = after_discard (removed_in work (field entries i 4)) (sym_of (elf_at entries i)) ≡ gone

module _ (o : Symbols.Object) (s : Symbols.State) (i : ℕ) where
  -- symbol i leaves nothing but a cell without an id: it is accepted, no name is issued and no row added, and it names no file
  pub record Nothing : Type 0 where
    pub accepted : (symbol_of o s i).stage.number ≡ 0
    pub steps : symbol_steps o s i ≡ []
    pub table : table_in (symbol_of o s i) ≡ table_in s
    pub file : (symbol_of o s i).stage.file ≡ s.stage.file
    pub others : (k : ℕ) → k ≢ i → get_or (symbol_of o s i).ids k 0 ≡ get_or s.ids k 0
    pub none : i < length s.ids → get_or (symbol_of o s i).ids i 0 ≡ 0

module _ (o : Object) (a : All) (k n : ℕ) where
  -- program section n is built, and one of its relocations names symbol k
  pub record Names : Type 0 where
    pub below : n < sections_in o.headers
    pub built : built_from o.headers (marked o a).work n program ≡ true
    pub at : ℕ
    pub within : at < length (named_by o.headers o.contents n (sections_in o.headers))
    pub names : get_or (named_by o.headers o.contents n (sections_in o.headers)) at 0 ≡ k

  abbrev pub section_name : List ℕ
  section_name = (name_in o.headers o.image o.section_names (field o.headers n 1)).name

  -- its own name is there, and has room
  pub record Named (s : Build.State) : Type 0 where
    pub found : (name_in o.headers o.image o.section_names (field o.headers n 1)).found ≡ true
    pub fits : fits_of (store_of s.bytes s.names s.stage.link) (record { 0 = find_of s.bytes s.names s.stage.link section_name }) (length section_name) ≡ true
