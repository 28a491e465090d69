-- Sweep and call over what the code's structs hold: the definitions of Sweep and Run at the lent tables.
-- Assumes nothing.
use Rattle.std.specs.Prelude.{ℕ, ◌≡◌, Bool, length, List, Option, Result, Ok, Err}
use Rattle.link.specs.declared.SymbolId.{SymbolId}
use Rattle.link.specs.declared.SectionId.{SectionId}
use Rattle.link.specs.declared.cause.Refusal.{Refusal}
use Rattle.symbols.specs.Remove.{Rows, rows_of}
use Rattle.gc_sections.specs.declared.Dropped.{Dropped}
use Rattle.gc_sections.specs.declared.Tables.{Tables}
use Rattle.gc_sections.specs.declared.Read.{Read}
use Rattle.gc_sections.specs.declared.graph.Graph.{Graph}
use Rattle.gc_sections.specs.Roots.{lead_of}
use Rattle.gc_sections.specs.Reach.{Walk, walked}
use Rattle.gc_sections.specs.Sweep.{Swept, swept_of, Purged, purged_of, unreached, falls}
use Rattle.gc_sections.specs.Run.{Left, left, Lists, lists_of, judge_of, lent_of, sweep_of, finish_of, run_of}

-- the link, and the cells that are written into
pub record Keeps (old new : Tables) : Type 0 where
  pub link : new.link ≡ old.link
  pub symbols : new.symbols.ghost_name ≡ old.symbols.ghost_name
  pub sections : new.sections.ghost_name ≡ old.sections.ghost_name

-- ---- the sweep

abbrev pub unreached_in : Tables → List ℕ → ℕ → Bool
unreached_in t work i = unreached t.link.sections t.sections.now work i

abbrev pub swept_in : Tables → List ℕ → ℕ → Swept
swept_in t work count = swept_of t.sections.now work count

abbrev pub falls_in : Tables → List ℕ → SymbolId → Bool
falls_in t work id = falls work t.link.sections (lead_of t.symbols.now t.link.symbols id)

abbrev pub rows_in : Tables → Rows
rows_in t = rows_of t.symbols.now t.sections.now

abbrev pub purged_in : Tables → ℕ → Purged
purged_in t count = purged_of (rows_in t) count

abbrev pub left_in : Tables → List ℕ → Result Dropped Refusal → Left
left_in t work a = left t.symbols.now t.sections.now work t.link a

abbrev pub sweep_in : Tables → List ℕ → Left
sweep_in t work = sweep_of t.link t.symbols.now t.sections.now work

abbrev pub finish_in : Tables → List ℕ → Option SectionId → Left
finish_in t work u = finish_of t.link t.symbols.now t.sections.now work u

-- ---- the call

abbrev pub read_in : Read → Lists
read_in r = lists_of r.bytes.now r.names.now r.lists.now r.marks.now

-- the graph holds those rows
pub record Shows (t : Tables) (r : Read) (g : Graph) : Type 0 where
  pub link : g.link ≡ t.link
  pub bytes : g.bytes.now ≡ r.bytes.now
  pub names : g.names.now ≡ r.names.now
  pub symbols : g.symbols.now ≡ t.symbols.now
  pub sections : g.sections.now ≡ t.sections.now
  pub lists : g.lists.now ≡ r.lists.now
  pub marks : g.marks.now ≡ r.marks.now

-- what a judgement that gives the graph says of the head
abbrev pub head_of : Result Graph Refusal → Result Unit Refusal
head_of (Ok g) = Ok tt
head_of (Err r) = Err r

abbrev pub judged_in : Tables → Read → ℕ → Refusal
judged_in t r work =
    judge_of t.link (lent_of (length r.bytes.now) (length r.names.now) (length t.symbols.now) (length t.sections.now) (length r.lists.now)) (length r.marks.now) work

abbrev pub walked_in : Graph → Option SymbolId → List ℕ → Walk
walked_in g entry work = walked g.link g.bytes.now g.names.now g.symbols.now g.sections.now g.lists.now g.marks.now entry work

abbrev pub run_in : Tables → Read → Option SymbolId → List ℕ → Left
run_in t r entry work = run_of t.link (read_in r) t.symbols.now t.sections.now entry work
