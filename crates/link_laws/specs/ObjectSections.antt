-- What a merge built, in the object's own words: the row of its section n in a later link, and which sections that row's relocations lead to.
-- Assumes nothing.
use Rattle.std.specs.Prelude.{ℕ, ◌+◌, ◌≤◌, List, length}
use Rattle.gabi.specs.StringTable.{name_at}
use Rattle.gc_laws.specs.Reached as Relocations
use Rattle.merge_stages.specs.Stages as Stages
use Rattle.symbol_laws.specs.ObjectWords.{name_offset, retains, reads}
use Rattle.merge_laws.specs.MergeWords.{rowed_below, size_of}
use Rattle.merge_laws.specs.Built.{section_names}
use Rattle.merge_laws.specs.BuiltNames.{AllGive}
use Rattle.merge_laws.specs.Calls.{Linked, all_in}
use Rattle.link_laws.specs.Calls.{lists_in}
use Rattle.link_laws.specs.BuiltSections.{SectionIn}

-- the id of section n of an object that is merged into s: rows are taken in the order of its program and uninitialized sections
abbrev pub section_id : Stages.Object → Linked → ℕ → ℕ
section_id o s n = s.table.link.sections + rowed_below o.headers n

-- section n of the object, merged into s, in a later link: built, with the bytes of its name, its kind, flags and size; it names, in order, the ids that the merge gave
-- the symbols ks
pub record ObjectSection (o : Stages.Object) (work ids : List ℕ) (s t : Linked) (n kind : ℕ) (ks : List ℕ) : Type 0 where
  pub given : List ℕ
  pub gives : AllGive o (all_in s work ids) ks given
  pub section : SectionIn t (section_id o s n) (name_at (section_names o) (name_offset o.headers n)) kind (retains o.headers n) (reads o.headers n) (size_of o.headers n) given

module _ (o : Stages.Object) (work ids : List ℕ) (s t : Linked) (n kind : ℕ) (ks : List ℕ) (inside : t.table.link.lists ≤ length t.lists)
    (x : ObjectSection o work ids s t n kind ks) (marks : List ℕ) (z : ℕ) where
  abbrev pub NamesIn : Type 0
  NamesIn = Relocations.Names t.table.link (lists_in t marks) t.table.symbols t.table.sections (section_id o s n) z

  abbrev pub LeadsTo : ℕ → Type 0
  LeadsTo id = Relocations.Leads t.table.link (lists_in t marks) t.table.symbols t.table.sections id z
