-- What a merge builds, in a history: the sections of the object, by its own headers and relocation tables.
-- Assumes nothing.
use Rattle.std.specs.Prelude.{ℕ, ◌+◌, ◌<◌, ◌≤◌, ◌≡◌, true, false, List, [], ◌∷◌, ◌++◌, get_or, length}
use Rattle.std.proofs.Common.{arith, sym, ap, ◌∙◌, subst, append-nil}
use Rattle.sections.specs.Rows.{first_at, count_at}
use Rattle.merge_stages.specs.Stages as Stages
use Rattle.symbol_laws.specs.ObjectWords.{sections_in, program, uninitialized, loaded_as}
use Rattle.merge_laws.specs.MergeWords.{named_by, own_signatures, is_removed}
use Rattle.merge_laws.proofs.Built as Built
use Rattle.merge_laws.proofs.BuiltRow.{ids_of, part-long, part_at}
use Rattle.merge_laws.proofs.BuiltNames as Names
use Rattle.merge_laws.specs.Stops.{added}
use Rattle.merge_laws.specs.Calls.{Linked, all_in}
use Rattle.link_laws.specs.Calls.{Call, merge, call_number, call_next, run_calls}
use Rattle.link_laws.specs.BuiltSections.{SparesAll}
use Rattle.link_laws.proofs.BuiltSections.{calls-keep}
use Rattle.link_laws.specs.Kept.{signatures}
use Rattle.link_laws.proofs.Kept.{Lasting, lasting-on}
use Rattle.link_laws.specs.ObjectSections.{section_id, ObjectSection, NamesIn, LeadsTo}

-- "what relocations reach": in a collection such a section names a symbol of another just if one of these ids does
module _ (o : Stages.Object) (work ids : List ℕ) (s t : Linked) (n kind : ℕ) (ks : List ℕ) (inside : t.table.link.lists ≤ length t.lists)
    (x : ObjectSection o work ids s t n kind ks) (marks : List ℕ) (z : ℕ) where
  abbrev first : ℕ
  first = first_at t.table.sections (section_id o s n)

  abbrev count : ℕ
  count = count_at t.table.sections (section_id o s n)

  long : length x.given ≡ count
  long = ap length (sym x.section.ids-are) ∙ part-long t.lists first count (omega (arith, x.section.inside))

  at-cell : (j : ℕ) → j < count → get_or t.lists (first + j) 0 ≡ get_or x.given j 0
  at-cell j h = sym (part_at t.lists first count j h) ∙ ap (λ (l : List ℕ). get_or l j 0) x.section.ids-are

  pub names-lead : NamesIn o work ids s t n kind ks inside x marks z → (j : ℕ) × (j < length x.given) × LeadsTo o work ids s t n kind ks inside x marks z (get_or x.given j 0)
  names-lead q = (q.at, rw long q.within, subst (LeadsTo o work ids s t n kind ks inside x marks z) (at-cell q.at q.within) q.leads)

  pub lead-named : (j : ℕ) → j < length x.given → LeadsTo o work ids s t n kind ks inside x marks z (get_or x.given j 0) → NamesIn o work ids s t n kind ks inside x marks z
  lead-named j h q =
      let l : j < count = rw long at h in
      record { at = j; within = l; listed = omega (arith, x.section.inside); leads = subst (LeadsTo o work ids s t n kind ks inside x marks z) (sym (at-cell j l)) q }

module _ (s : Linked) (met : List (List ℕ)) (g : Lasting s met)
    (o : Stages.Object) (work ids : List ℕ) (ok : call_number (merge o work ids) s ≡ 0) (n : ℕ)
    (kept : is_removed o.headers o.entries o.contents o.image met (sections_in o.headers) n ≡ false) (ls : List Call)
    (spared : SparesAll ls (call_next (merge o work ids) s) (section_id o s n)) where
  abbrev then : Linked
  then = call_next (merge o work ids) s

  after : Lasting then (met ++ signatures (merge o work ids ∷ []) s)
  after = lasting-on (merge o work ids ∷ []) s met g

  pub program-built : loaded_as o.headers n program ≡ true
      → ObjectSection o work ids s (run_calls ls then) n program (named_by o.headers o.contents n (sections_in o.headers))
  program-built e =
      let a : Stages.All = all_in s work ids in
      let ks : List ℕ = named_by o.headers o.contents n (sections_in o.headers) in
      record {
        given = ids_of (added o a).ids ks;
        gives = Names.program-names o a ok g.below met g.marked g.inside n e kept;
        section = calls-keep (section_id o s n) _ program _ _ _ _ ls then _ after (Built.program-built o a ok met g.marked g.inside n e kept) spared;
      }

  pub uninitialized-built : loaded_as o.headers n uninitialized ≡ true → ObjectSection o work ids s (run_calls ls then) n uninitialized []
  uninitialized-built e =
      let a : Stages.All = all_in s work ids in
      record {
        given = [];
        gives = tt;
        section = calls-keep (section_id o s n) _ uninitialized _ _ _ _ ls then _ after (Built.uninitialized-built o a ok met g.marked g.inside n e kept) spared;
      }

-- a row for each of them, and no more
pub rows_taken : (s : Linked) (met : List (List ℕ)) → Lasting s met → (o : Stages.Object) (work ids : List ℕ) → call_number (merge o work ids) s ≡ 0
    → (call_next (merge o work ids) s).table.link.sections ≡ section_id o s (sections_in o.headers)
rows_taken s met g o work ids ok = Built.rows_taken o (all_in s work ids) ok met g.marked g.inside

-- the signatures that later merges find met: those of the object's own groups, in order
pub signatures-own : (s : Linked) (met : List (List ℕ)) → Lasting s met → (o : Stages.Object) (work ids : List ℕ) → call_number (merge o work ids) s ≡ 0
    → signatures (merge o work ids ∷ []) s ≡ own_signatures o.headers o.entries o.contents o.image (sections_in o.headers)
signatures-own s met g o work ids ok = append-nil _ ∙ Built.signatures-own o (all_in s work ids) ok met g.marked g.inside
