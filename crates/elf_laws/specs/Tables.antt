-- Tables that a writer may put into a file, of symbols, relocations and a group's members: their bytes, and what is had back of them.
-- Assumes nothing.
use Rattle.std.specs.Prelude.{ℕ, ◌+◌, ◌*◌, ◌<◌, refl, List, [], ◌∷◌, ◌++◌}
use Rattle.elf_laws.specs.Back.{le4, le8, Sized, symbol_bytes}

pub record Symbol : Type 0 where
  pub name : ℕ
  pub bind : ℕ
  pub kind : ℕ
  pub visibility : ℕ
  pub section : ℕ
  pub value : ℕ
  pub size : ℕ
  pub name-fits : name < 0x100000000
  pub bind-fits : bind < 16
  pub kind_fits : kind < 16
  pub visibility-fits : visibility < 4
  pub section-fits : section < 0x10000
  pub value-fits : value < 0x10000000000000000
  pub size-fits : size < 0x10000000000000000

abbrev pub symbol_entry : Symbol → Sized 24
symbol_entry x = record { bytes = symbol_bytes x.name x.bind x.kind x.visibility x.section x.value x.size; is = refl }

abbrev pub symbol_entries : List Symbol → List (Sized 24)
symbol_entries [] = []
symbol_entries (x ∷ xs) = symbol_entry x ∷ symbol_entries xs

abbrev pub symbol_rows : List Symbol → List ℕ
symbol_rows [] = []
symbol_rows (x ∷ xs) = (x.name ∷ x.bind ∷ x.kind ∷ x.visibility ∷ x.section ∷ x.value ∷ x.size ∷ 0 ∷ []) ++ symbol_rows xs

pub record Relocation : Type 0 where
  pub offset : ℕ
  pub kind : ℕ
  pub symbol : ℕ
  pub addend : ℕ
  pub kind_fits : kind < 0x100000000
  pub symbol-fits : symbol < 0x100000000

abbrev pub info_of : Relocation → ℕ
info_of x = x.kind + x.symbol * 0x100000000

abbrev pub rel_entry : Relocation → Sized 16
rel_entry x = record { bytes = le8 x.offset (le8 (info_of x) []); is = refl }

abbrev pub rela_entry : Relocation → Sized 24
rela_entry x = record { bytes = le8 x.offset (le8 (info_of x) (le8 x.addend [])); is = refl }

abbrev pub rel_entries : List Relocation → List (Sized 16)
rel_entries [] = []
rel_entries (x ∷ xs) = rel_entry x ∷ rel_entries xs

abbrev pub rela_entries : List Relocation → List (Sized 24)
rela_entries [] = []
rela_entries (x ∷ xs) = rela_entry x ∷ rela_entries xs

abbrev pub symbols_of : List Relocation → List ℕ
symbols_of [] = []
symbols_of (x ∷ xs) = x.symbol ∷ symbols_of xs

pub record Member : Type 0 where
  pub number : ℕ
  pub fits : number < 0x100000000

abbrev pub member_bytes : List Member → List ℕ
member_bytes [] = []
member_bytes (x ∷ xs) = le4 x.number (member_bytes xs)

abbrev pub group_bytes : ℕ → List Member → List ℕ
group_bytes flags xs = le4 flags (member_bytes xs)

abbrev pub member_numbers : List Member → List ℕ
member_numbers [] = []
member_numbers (x ∷ xs) = x.number ∷ member_numbers xs
