-- A preview over a link, in the words of its calls: the link's own cells, and preview cells that are lent as another link's. Words for statements.
-- Assumes nothing.
use Rattle.std.specs.Prelude.{ℕ, ◌≤◌, ◌≡◌, List, take, drop, length}
use Rattle.merge_stages.specs.Stages.{Object}
use Rattle.merge_elf.specs.Merge.{Left}
use Rattle.merge_laws.specs.Calls.{Linked, all_in}
use Rattle.preview.specs.Preview.{Tables, preview_of}

abbrev pub tables_of : Linked → Tables
tables_of s =
    record {
      bytes = s.table.bytes;
      names = s.table.names;
      symbols = s.table.symbols;
      sections = s.table.sections;
      inputs = s.inputs;
      lists = s.lists;
      link = s.table.link;
    }

-- the preview of an object over link s, in the cells of p
abbrev pub previewed : Object → List ℕ → List ℕ → Linked → Linked → Left
previewed o work ids s p = preview_of o (tables_of s) (all_in p work ids)

-- no sort of preview cells is shorter than what the link was lent
pub record Enough (s p : Linked) : Type 0 where
  pub bytes : length s.table.bytes ≤ length p.table.bytes
  pub names : length s.table.names ≤ length p.table.names
  pub symbols : length s.table.symbols ≤ length p.table.symbols
  pub sections : length s.table.sections ≤ length p.table.sections
  pub inputs : length s.inputs ≤ length p.inputs
  pub lists : length s.lists ≤ length p.lists

-- the first cells of each sort of p are x's, and its counts
pub record ShowsLink (x p : Linked) : Type 0 where
  pub bytes : take (length x.table.bytes) p.table.bytes ≡ x.table.bytes
  pub names : take (length x.table.names) p.table.names ≡ x.table.names
  pub symbols : take (length x.table.symbols) p.table.symbols ≡ x.table.symbols
  pub sections : take (length x.table.sections) p.table.sections ≡ x.table.sections
  pub inputs : take (length x.inputs) p.inputs ≡ x.inputs
  pub lists : take (length x.lists) p.lists ≡ x.lists
  pub counts : p.table.link ≡ x.table.link

-- behind as many cells of each sort as s was lent, q has those of p
pub record SameBehind (s p q : Linked) : Type 0 where
  pub bytes : drop (length s.table.bytes) q.table.bytes ≡ drop (length s.table.bytes) p.table.bytes
  pub names : drop (length s.table.names) q.table.names ≡ drop (length s.table.names) p.table.names
  pub symbols : drop (length s.table.symbols) q.table.symbols ≡ drop (length s.table.symbols) p.table.symbols
  pub sections : drop (length s.table.sections) q.table.sections ≡ drop (length s.table.sections) p.table.sections
  pub inputs : drop (length s.inputs) q.inputs ≡ drop (length s.inputs) p.inputs
  pub lists : drop (length s.lists) q.lists ≡ drop (length s.lists) p.lists
