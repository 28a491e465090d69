-- What a built program section names: for each relocation of its last table the id that the merge gave that symbol.
-- Assumes nothing.
use Rattle.std.specs.Prelude.{ℕ, ◌-◌, ◌*◌, ◌<◌, ◌≤◌, min, ◌≡◌, refl, true, false, ◌≢◌, eqb, leb, get_or, length, take, drop}
use Rattle.std.proofs.Common.{arith, sym, ap, ◌∙◌, subst, length-take, length-drop, leb-false}
use Rattle.std.proofs.lemmas.Bool.{false≢true, eqb-false}
use mathlib.Core.List.{List, [], ◌∷◌}
use Rattle.cells.specs.Proof.Split.{by-test}
use Rattle.elf_object.specs.Rows.{rows_in, link_at, first_at, count_at, section_of, table_entries, entries_from}
use Rattle.merge_build.specs.Relocations.{table_for, limit_of, relocations_of, symbols_ok, symbol_ok, id_in}
use Rattle.merge_symbols.specs.Stage as Symbols
use Rattle.merge_stages.specs.Stages.{All, Object, symbols_in}
use Rattle.merge_elf.specs.Merge.{merge_of}
use Rattle.symbol_laws.specs.Below.{Below}
use Rattle.symbol_laws.specs.ObjectWords.{sections_in, program, loaded_as}
use Rattle.merge_laws.specs.MergeWords.{named_by, is_removed}
use Rattle.merge_laws.specs.MergeSteps.{symbol_first}
use Rattle.merge_laws.specs.Marked.{Marked}
use Rattle.merge_laws.specs.SymbolDuplicates.{steps_to}
use Rattle.merge_laws.proofs.SymbolDuplicates.{table_to, steps-make}
use Rattle.merge_laws.proofs.Past.{steps-below}
use Rattle.merge_laws.specs.Whole.{table_in}
use Rattle.merge_laws.proofs.Whole.{passed}
use Rattle.merge_laws.specs.Stops.{reserved, object, marked, added}
use Rattle.merge_laws.proofs.Discarded.{merge-passes}
use Rattle.merge_laws.proofs.Accepted.{symbols-going}
use Rattle.merge_laws.proofs.BuiltRow.{ids_of}
use Rattle.merge_laws.proofs.GivenIds as GivenIds
use Rattle.merge_laws.proofs.Built as Built
use Rattle.merge_laws.specs.BuiltNames.{reader, Gives, answered, null, AllGive}

-- ---- relocations whose symbols all have ids

symbol-has : (ids : List ℕ) (limit k : ℕ) → symbol_ok ids limit k ≡ true → (k < limit) × (get_or ids k 0 ≢ 0)
unfolding symbol_ok
symbol-has ids limit k e =
    by-test (leb limit k) (λ a. absurd (false≢true (rw a at e)))
    (λ a. by-test (eqb (get_or ids k 0) 0) (λ b. absurd (false≢true (rw (a, b) at e))) (λ b. (leb-false _ _ a, eqb-false _ _ b)))

limit-most : (headers : List ℕ) (table t symbols : ℕ) → limit_of headers table t symbols ≤ symbols
unfolding limit_of
limit-most headers table t symbols = by-test (eqb (link_at headers (section_of table)) t) (λ a. rw a (omega arith)) (λ a. rw a (omega arith))

part-most : (l : List ℕ) (f c : ℕ) → length (take c (drop f l)) ≤ length l
part-most l f c = rw (length-take c (drop f l), length-drop f l) (omega (arith, min-le (length l - f) c))
  where
    min-le : (x y : ℕ) → min y x ≤ x
    min-le x y = omega arith

pub entries-most : (headers entries : List ℕ) (t : ℕ) → rows_in (table_entries headers entries t) ≤ rows_in entries
unfolding table_entries entries_from
entries-most headers entries t =
    by-test (eqb t 0) (λ a. rw a (omega arith))
    (λ a. rw a (omega (arith, part-most entries (first_at headers (section_of t) * 8) (count_at headers (section_of t) * 8))))

-- ---- the merge

module _ (o : Object) (a : All) where
  module _ (ok : (merge_of o a).said.number ≡ 0) (below : Below (table_in a)) where
    below-to : (i : ℕ) → Below (table_to o a i)
    below-to i = subst Below (steps-make o a i).leads (steps-below (steps_to o a i) (table_in a) below)

    pub gives : (k : ℕ) → k < rows_in (object o a).entries → get_or (added o a).ids k 0 ≢ 0 → Gives o a k (id_in (added o a).ids k)
    gives k h u =
        let first : Symbols.State = symbol_first (symbols_in (marked o a)) in
        let room : k < length first.ids = omega (arith, (passed o a (merge-passes o a ok).0).ids, entries-most o.headers o.entries (reserved o a).reserved.table) in
        go (GivenIds.id-given (reader o a) first refl (symbols-going o a ok) k h room (below-to k) u)
      where
        go : GivenIds.IdOf (reader o a) (symbol_first (symbols_in (marked o a))) refl (symbols-going o a ok) k h (omega (arith, (passed o a (merge-passes o a ok).0).ids, entries-most o.headers o.entries (reserved o a).reserved.table)) → Gives o a k (id_in (added o a).ids k)
        go (GivenIds.null f e) = null h f e
        go (GivenIds.answered k f d z e) = answered h k f d z e

    all_give : (limit : ℕ) → limit ≤ rows_in (object o a).entries → (ks : List ℕ) → symbols_ok (added o a).ids limit ks ≡ true → AllGive o a ks (ids_of (added o a).ids ks)
    unfolding symbols_ok
    all_give limit h [] e = tt
    all_give limit h (k ∷ ks) e =
        by-test (symbol_ok (added o a).ids limit k)
        (λ t. let (l, u) = symbol-has (added o a).ids limit k t in (gives k (omega arith) u, all_give limit h ks (rw t at e)))
        (λ t. absurd (false≢true (rw t at e)))

    module _ (met : List (List ℕ)) (known : Marked (table_in a) met) (inside : a.stage.link.lists ≤ length a.lists) (n : ℕ) (e : loaded_as o.headers n program ≡ true)
        (r : is_removed o.headers o.entries o.contents o.image met (sections_in o.headers) n ≡ false) where
      abbrev limit : ℕ
      limit = limit_of o.headers (table_for (marked o a).work n program) (object o a).table (rows_in (object o a).entries)

      symbols-known : symbols_ok (added o a).ids limit (relocations_of o.headers o.contents (table_for (marked o a).work n program)) ≡ true
      symbols-known = Built.each-known o a ok met known inside n e r

      pub program-names : AllGive o a (named_by o.headers o.contents n (sections_in o.headers)) (ids_of (added o a).ids (named_by o.headers o.contents n (sections_in o.headers)))
      program-names =
          all_give limit (limit-most o.headers (table_for (marked o a).work n program) (object o a).table (rows_in (object o a).entries)) (named_by o.headers o.contents n (sections_in o.headers))
          (ap (symbols_ok (added o a).ids limit) (sym (Built.relocations-named o a ok met known inside n e r)) ∙ symbols-known)
