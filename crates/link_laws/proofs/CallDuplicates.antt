-- 17 of a merge and of a load, against the gABI's duplicate among the symbols accepted until then.
-- Assumes nothing.
use Rattle.std.specs.Prelude.{ℕ, ◌≡◌, refl, List, [], ◌∷◌, ◌++◌}
use Rattle.std.proofs.Common.{sym, ap, ◌∙◌}
use Rattle.link.specs.Judge.{refused}
use Rattle.link.specs.Said.{number_in, place_in}
use Rattle.gabi.specs.Resolution.{duplicate, resolve}
use Rattle.symbol.specs.declared.Row.{Row}
use Rattle.merge_stages.specs.Stages as Stages
use Rattle.merge_elf.specs.Merge.{merge_of}
use Rattle.shared_objects.specs.Load as Shared
use Rattle.shared_objects.specs.Load.{load_of}
use Rattle.symbol_laws.specs.History.{Entry, only, rows}
use Rattle.symbol_laws.specs.Held.{Inv}
use Rattle.symbol_laws.specs.Gabi.{sym_of_row, syms_of}
use Rattle.symbol_laws.proofs.Gabi.{means-own, all-mean-own}
use Rattle.merge_laws.specs.Whole as Merges
use Rattle.merge_laws.proofs.Duplicates.{one-alone}
use Rattle.merge_laws.specs.SymbolDuplicates as InMerge
use Rattle.merge_laws.proofs.SymbolDuplicates as InMergeLaws
use Rattle.load_laws.specs.Whole as Loads
use Rattle.load_laws.specs.SymbolDuplicates as InLoad
use Rattle.load_laws.proofs.SymbolDuplicates as InLoadLaws
use Rattle.link_laws.specs.CallDuplicates.{IsDuplicate, Judges}

module _ (past : List Entry) (r : Row) where
  by_first : (l : List Entry) → only r.name.0 past ≡ l → resolve (syms_of (rows l) ++ (sym_of_row r ∷ [])) ≡ duplicate → IsDuplicate past r
  by_first l e d = ap (λ (l : List Entry). resolve (syms_of (rows l) ++ (sym_of_row r ∷ []))) e ∙ d

  -- there are accepted adds
  some_first : {P : Type 0} → IsDuplicate past r
      → ((y : Entry) (ys : List Entry) → only r.name.0 past ≡ y ∷ ys → resolve (syms_of (rows (y ∷ ys)) ++ (sym_of_row r ∷ [])) ≡ duplicate → P) → P
  some_first {P} d f = by (only r.name.0 past) refl
    where
      by : (l : List Entry) → only r.name.0 past ≡ l → P
      by [] e = absurd (one-alone (sym_of_row r) (sym (ap (λ (l : List Entry). resolve (syms_of (rows l) ++ (sym_of_row r ∷ []))) e) ∙ d))
      by (y ∷ ys) e = f y ys e (sym (ap (λ (l : List Entry). resolve (syms_of (rows l) ++ (sym_of_row r ∷ []))) e) ∙ d)

module _ (o : Stages.Object) (a : Stages.All) (past : List Entry) (inv : Inv (Merges.table_in a) past) where
  symbol-duplicate : (i : ℕ) → InMerge.RefusedAt o a i → IsDuplicate (InMerge.past_to o a past i) (InMerge.row_to o a i)
  symbol-duplicate i q =
      let h = InMergeLaws.held_at o a past inv i q.adds q.refuses in
      by_first (InMerge.past_to o a past i) (InMerge.row_to o a i) (h.first ∷ h.more) h.are
      (InMergeLaws.refused-duplicate o a past inv i q.adds h.first h.more h.are h.global h.passes h.valued _ _
      (all-mean-own (rows (h.first ∷ h.more))) _ (means-own (InMerge.row_to o a i)) q.refuses)

  pub merge-refused-duplicate : (merge_of o a).said.number ≡ 17
      → IsDuplicate (InMerge.past_to o a past (merge_of o a).said.place) (InMerge.row_to o a (merge_of o a).said.place)
  merge-refused-duplicate q = symbol-duplicate (merge_of o a).said.place (InMergeLaws.merge-refused-at o a q)

  pub merge-duplicate-refused : (i : ℕ) → InMerge.Comes o a i → InMerge.Adds o a i → Judges (InMerge.row_to o a i)
      → IsDuplicate (InMerge.past_to o a past i) (InMerge.row_to o a i) → (merge_of o a).said ≡ refused 17 i
  merge-duplicate-refused i c s j d =
      InMergeLaws.merge-ends-at o a i c
      (some_first (InMerge.past_to o a past i) (InMerge.row_to o a i) d
      (λ y ys e k.
      InMergeLaws.duplicate-refused o a past inv i s y ys e j.global j.passes j.valued _ _ (all-mean-own (rows (y ∷ ys))) _ (means-own (InMerge.row_to o a i)) k))

module _ (o : Shared.Input) (a : Shared.All) (past : List Entry) (inv : Inv (Loads.table_in a) past) where
  symbol-duplicates : (i : ℕ) → InLoad.RefusedAt o a i → IsDuplicate (InLoad.past_to o a past i) (InLoad.row_to o a i)
  symbol-duplicates i q =
      let h = InLoadLaws.held_at o a past inv i q.adds q.refuses in
      by_first (InLoad.past_to o a past i) (InLoad.row_to o a i) (h.first ∷ h.more) h.are
      (InLoadLaws.refused-duplicate o a past inv i q.adds h.first h.more h.are h.global h.passes h.valued _ _
      (all-mean-own (rows (h.first ∷ h.more))) _ (means-own (InLoad.row_to o a i)) q.refuses)

  pub load-refused-duplicate : number_in (load_of o a).said ≡ 17
      → IsDuplicate (InLoad.past_to o a past (place_in (load_of o a).said)) (InLoad.row_to o a (place_in (load_of o a).said))
  load-refused-duplicate q = symbol-duplicates (place_in (load_of o a).said) (InLoadLaws.load-refused-at o a q)

  pub load-duplicate-refused : (i : ℕ) → InLoad.Comes o a i → InLoad.Adds o a i → Judges (InLoad.row_to o a i)
      → IsDuplicate (InLoad.past_to o a past i) (InLoad.row_to o a i) → refused (number_in (load_of o a).said) (place_in (load_of o a).said) ≡ refused 17 i
  load-duplicate-refused i c s j d =
      InLoadLaws.load-ends-at o a i c
      (some_first (InLoad.past_to o a past i) (InLoad.row_to o a i) d
      (λ y ys e k.
      InLoadLaws.duplicate-refused o a past inv i s y ys e j.global j.passes j.valued _ _ (all-mean-own (rows (y ∷ ys))) _ (means-own (InLoad.row_to o a i)) k))
