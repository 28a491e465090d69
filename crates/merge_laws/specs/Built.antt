-- The bytes of an object's section of section names.
-- Assumes nothing.
use Prim.Native.Nat.{ℕ}
use mathlib.Core.List.{List}
use Rattle.merge_stages.specs.Stages.{Object}
use Rattle.symbol_laws.specs.ObjectWords.{string_table, strings_of, loaded_as}

-- the bytes of the section of section names
abbrev pub section_names : Object → List ℕ
section_names o = strings_of o.headers o.image (loaded_as o.headers o.section_names string_table) o.section_names
