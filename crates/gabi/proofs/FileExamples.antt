-- Worked examples: the first bytes of an object that as of GNU binutils wrote, and single entries.
-- Assumes nothing.
use Rattle.std.specs.Prelude.{ℕ, ◌≡◌, refl, List, [], ◌∷◌}
use Rattle.gabi.specs.File.{half_at, word_at, xword_at, e_magic, elf_magic, e_class, elf_class64, e_data, elf_data2_lsb, e_type, et_rel, e_shoff, section_count, name_section, st_name, st_bind, st_type, st_visibility, st_shndx, st_value, st_size, r_sym, is_comdat, member_at}

-- of seven sections, the headers at 168, the names in the sixth
abbrev object : List ℕ
object =
    0x7f ∷ 0x45 ∷ 0x4c ∷ 0x46 ∷ 2 ∷ 1 ∷ 1 ∷ 0 ∷ 0 ∷ 0 ∷ 0 ∷ 0 ∷ 0 ∷ 0 ∷ 0 ∷ 0 ∷ 1 ∷ 0 ∷ 0x3e ∷ 0 ∷ 1 ∷ 0 ∷ 0 ∷ 0 ∷ 0 ∷ 0 ∷ 0 ∷ 0 ∷ 0 ∷ 0 ∷ 0 ∷ 0
    ∷ 0 ∷ 0 ∷ 0 ∷ 0 ∷ 0 ∷ 0 ∷ 0 ∷ 0 ∷ 0xa8 ∷ 0 ∷ 0 ∷ 0 ∷ 0 ∷ 0 ∷ 0 ∷ 0 ∷ 0 ∷ 0 ∷ 0 ∷ 0 ∷ 0x40 ∷ 0 ∷ 0 ∷ 0 ∷ 0 ∷ 0 ∷ 0x40 ∷ 0 ∷ 7 ∷ 0 ∷ 6 ∷ 0 ∷ []

pub magic-read : e_magic object ≡ elf_magic
unfolding word_at
magic-read = refl

pub class-read : (e_class object ≡ elf_class64) × (e_data object ≡ elf_data2_lsb)
class-read = (refl, refl)

pub type-read : e_type object ≡ et_rel
unfolding half_at
type-read = refl

pub sections-read : (e_shoff object ≡ 168) × (section_count object ≡ 7) × (name_section object ≡ 6)
unfolding half_at word_at xword_at section_count name_section
sections-read = (refl, refl, refl)

-- a global function at 0x1020304050607 of section 0x102, hidden, of size 9
abbrev symbol : List ℕ
symbol = 1 ∷ 2 ∷ 0 ∷ 0 ∷ 0x12 ∷ 0xfe ∷ 2 ∷ 1 ∷ 7 ∷ 6 ∷ 5 ∷ 4 ∷ 3 ∷ 2 ∷ 1 ∷ 0 ∷ 9 ∷ 0 ∷ 0 ∷ 0 ∷ 0 ∷ 0 ∷ 0 ∷ 0 ∷ []

pub symbol-read : (st_name symbol ≡ 0x201) × (st_bind symbol ≡ 1) × (st_type symbol ≡ 2) × (st_visibility symbol ≡ 2) × (st_shndx symbol ≡ 0x102)
    × (st_value symbol ≡ 0x1020304050607)
    × (st_size symbol ≡ 9)
unfolding half_at word_at xword_at
symbol-read = (refl, refl, refl, refl, refl, refl, refl)

-- R_X86_64_PLT32 (4) for symbol 3
pub relocation-read : r_sym (0x10 ∷ 0 ∷ 0 ∷ 0 ∷ 0 ∷ 0 ∷ 0 ∷ 0 ∷ 4 ∷ 0 ∷ 0 ∷ 0 ∷ 3 ∷ 0 ∷ 0 ∷ 0 ∷ []) ≡ 3
unfolding r_sym word_at xword_at
relocation-read = refl

-- a COMDAT group of section 5
abbrev group : List ℕ
group = 1 ∷ 0 ∷ 0 ∷ 0 ∷ 5 ∷ 0 ∷ 0 ∷ 0 ∷ []

pub group-read : (is_comdat group ≡ 1) × (member_at group 0 ≡ 5)
unfolding word_at member_at
group-read = (refl, refl)
