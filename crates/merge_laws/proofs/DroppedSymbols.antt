-- Symbols that the gABI discards, with their sections: in its profile nothing is left of them but a cell without an id, and a relocation to one is refused with 19.
-- Assumes nothing.
use Rattle.std.specs.Prelude.{ℕ, zero, suc, ◌<◌, ◌≡◌, refl, Bool, true, false, List, [], ◌∷◌, leb, get_or, length}
use Rattle.std.proofs.Common.{arith, ap, ◌∙◌, not-suc-le-zero, le_of_suc-le-suc}
use Rattle.cells.specs.Proof.Split.{by-test}
use Rattle.elf_object.specs.Rows.{rows_in}
use Rattle.section_groups.specs.Filter.{dropped_at}
use Rattle.merge_symbols.specs.Stage as Symbols
use Rattle.merge_symbols.specs.Stage.{symbol_of}
use Rattle.merge_build.specs.Relocations.{table_for, limit_of, relocations_of, symbols_ok, symbol_ok}
use Rattle.merge_build.specs.Build as Build
use Rattle.merge_build.specs.Build.{plan_with, plan_of, kept_of, commit_of, tabled_of, section_named, looked_of, section_of}
use Rattle.merge_stages.specs.Stages.{All, Object, symbols_in}
use Rattle.merge_elf.specs.Merge.{head_in}
use Rattle.symbol_laws.specs.ObjectWords.{sections_in, program}
use Rattle.merge_laws.specs.MergeWords.{named_by}
use Rattle.merge_laws.specs.MergeSteps.{symbol_steps, symbol_first}
use Rattle.merge_laws.specs.SymbolIds.{is_dropped}
use Rattle.merge_laws.proofs.GivenIds.{ids-other, dropped-cell, dropped-none}
use Rattle.merge_laws.proofs.FirstKept.{gone-discarded}
use Rattle.merge_laws.specs.SymbolDuplicates.{steps_to}
use Rattle.merge_laws.proofs.SymbolDuplicates.{table_to, steps-make}
use Rattle.merge_laws.proofs.Profile.{makes-profile}
use Rattle.merge_laws.specs.Whole.{table_in}
use Rattle.merge_laws.proofs.Whole.{passed}
use Rattle.merge_laws.proofs.BuiltNames.{entries-most}
use Rattle.merge_laws.proofs.WorkGroups.{relocations-are}
use Rattle.merge_laws.specs.Stops.{reserved, object, marked, symbol_reader, symbols_to, added, builder}
use Rattle.merge_laws.specs.DroppedSymbols.{Gone, Nothing, Names, Named}

module _ (o : Symbols.Object) (s : Symbols.State) (i : ℕ) where
  gone-dropped : s.stage.link.gabi ≡ true → Gone o.work o.entries i → is_dropped o s i ≡ true
  gone-dropped p g = ap (λ (b : Bool). dropped_at b o.work o.entries i) p ∙ gone-discarded o.work o.entries i g

  pub dropped-alone : s.stage.link.gabi ≡ true → Gone o.work o.entries i → Nothing o s i
  unfolding symbol_of symbol_steps
  dropped-alone p g =
      let d : is_dropped o s i ≡ true = gone-dropped p g in
      record { accepted = rw d; steps = rw d; table = rw d; file = rw d; others = ids-other o s i; none = dropped-cell o s i d }

-- ---- a relocation to one

module _ (o : Object) (a : All) (head : (head_in o a).number ≡ 0) (goes : (reserved o a).reserved.number ≡ 0) (ok : (added o a).stage.number ≡ 0)
    (gabi : a.stage.link.gabi ≡ true) (k : ℕ) (low : k < rows_in (object o a).entries) (gone : Gone (marked o a).work (object o a).entries k) where
  abbrev ids : List ℕ
  ids = (added o a).ids

  profile : (symbols_to o a k).stage.link.gabi ≡ true
  profile = makes-profile (table_in a) (table_to o a k) (steps_to o a k) (steps-make o a k) ∙ gabi

  none : get_or ids k 0 ≡ 0
  none =
      dropped-none (symbol_reader o a) (symbol_first (symbols_in (marked o a))) refl ok k low
      (omega (arith, low, (passed o a head).ids, entries-most o.headers o.entries (reserved o a).reserved.table))
      (gone-dropped (symbol_reader o a) (symbols_to o a k) k profile gone)

  not-ok : (limit : ℕ) → symbol_ok ids limit k ≡ false
  unfolding symbol_ok
  not-ok limit = by-test (leb limit k) (λ b. rw b) (λ b. rw (b, none))

  fails : (limit : ℕ) (ks : List ℕ) (j : ℕ) → j < length ks → get_or ks j 0 ≡ k → symbols_ok ids limit ks ≡ false
  unfolding symbols_ok
  fails limit [] j h e = absurd (not-suc-le-zero h)
  fails limit (x ∷ xs) zero h e = rw (e, not-ok limit)
  fails limit (x ∷ xs) (suc j) h e = by-test (symbol_ok ids limit x) (λ t. rw t (fails limit xs j (le_of_suc-le-suc h) e)) (λ t. rw t)

  pub relocation-to-dropped : (n : ℕ) → Names o a k n → (s : Build.State) → Named o a k n s
      → ((section_of (builder o a) s n program).stage.number ≡ 19) × ((section_of (builder o a) s n program).stage.place ≡ n)
  unfolding section_of looked_of section_named tabled_of commit_of kept_of plan_of plan_with table_for
  relocation-to-dropped n x s name =
      let table : ℕ = table_for (marked o a).work n program in
      let limit : ℕ = limit_of o.headers table (object o a).table (rows_in (object o a).entries) in
      let bad : symbols_ok ids limit (relocations_of o.headers o.contents table) ≡ false =
      ap (symbols_ok ids limit) (relocations-are o a head goes n x.below) ∙ fails limit (named_by o.headers o.contents n (sections_in o.headers)) x.at x.within x.names in
      rw (x.built, name.found, name.fits, bad) (refl, refl)
