-- Rules of a merge that ask the object, and rules that ask the work rows and the ids' cells: the same.
-- Assumes nothing.
use Rattle.std.specs.Prelude.{ℕ, ◌+◌, ◌/◌, ◌<◌, ◌≤◌, ◌≡◌, refl, Bool, true, false, cond, not, ◌&&◌, ◌||◌, List, [], ◌∷◌, ◌++◌, eqb, ltb, length, None}
use Rattle.std.proofs.Common.{arith, ap, ◌∙◌, ltb-true}
use Rattle.cells.specs.Proof.Split.{by-test}
use Rattle.upcoming_symbol.specs.declared.ElfSymbol.{ElfSymbol}
use Rattle.merge_symbols.specs.Stage as Symbols
use Rattle.merge_build.specs.Build as Build
use Rattle.merge_stages.specs.Stages.{All, Object}
use Rattle.symbol_laws.specs.History.{State}
use Rattle.merge_laws.specs.Marked.{Marked}
use Rattle.merge_laws.specs.Whole.{table_in}
use Rattle.merge_laws.specs.SymbolDuplicates.{steps_to}
use Rattle.merge_laws.proofs.SymbolDuplicates.{table_to, steps-make}
use Rattle.merge_laws.proofs.Profile.{makes-profile}
use Rattle.merge_laws.specs.Stops.{reserved, grouped, marked}
use Rattle.link_laws.specs.Rules.{Rule, ◌gives◌at◌}
use Rattle.link_laws.proofs.Rules.{each_same}
use Rattle.link_laws.specs.TableRules.{id_in, is_unroomed, names_of, Conversion, elf_asked, Asked, shown_rules, held_rules}
use Rattle.link_laws.specs.ObjectRules.{cell_at, is_section, is_named, name_in}
use Rattle.link_laws.specs.MergeRules.{Found, absent, found, Reading, is_removed_in, is_discarded, is_dropped, filter_rules, table_at, named, bytes, is_first, is_idless, symbol_rules, lacks_id, nameable_in, relocations_of, build_rules, d, k, is_identified}
use Rattle.link_laws.proofs.MergeExactly.{at_work, identified_by}
use Rattle.link_laws.proofs.MergeObject as MergeObject
use Rattle.link_laws.proofs.MergeObject.{conversion-is, table_is, removed-is, defines-is, entry-asked, zero-asked}

module _ (o : Object) (a : All) (few : length o.headers / 8 ≤ 65280) (lent : length o.headers / 8 ≤ length a.work / 8) (passed : (reserved o a).reserved.number ≡ 0)
    (met : List (List ℕ)) (m : Marked (table_in a) met) (on : (grouped o a).stage.number ≡ 0) where
  abbrev Asked-for : ℕ → Type 0
  Asked-for s = MergeObject.Asked o a few lent passed s

  abbrev profile : Bool
  profile = (marked o a).stage.link.gabi

  abbrev kept : Reading
  kept = at_work profile (marked o a).work

  profile-same : profile ≡ (k o a).gabi
  unfolding Symbols.symbols_from
  profile-same = makes-profile (table_in a) (table_to o a 0) (steps_to o a 0) (steps-make o a 0)

  -- the section of symbol i
  abbrev section : ℕ → ℕ
  section i = cell_at (d o a).entries i 4

  removed-same : (s : ℕ) → Asked-for s → is_removed_in kept s ≡ is_removed_in (k o a) s
  removed-same s q = ap (◌&&◌ (ltb s 0xff00)) (removed-is o a few lent passed met m on s q)

  pub filter_same : filter_rules kept (d o a).entries ≡ filter_rules (k o a) (d o a).entries
  filter_same =
      each_same (λ i. not profile && is_discarded kept (d o a).entries i gives 8 at i)
      (λ i. not (k o a).gabi && is_discarded (k o a) (d o a).entries i gives 8 at i) (length (d o a).entries / 8) 0
      (λ i l.
      ap (λ (b : Bool). not profile && (eqb (cell_at (d o a).entries i 1) 0 && not (eqb (section i) 0) && b) gives 8 at i)
      (removed-same (section i) (entry-asked o a few lent passed i (omega arith)))
      ∙ ap (λ (p : Bool). not p && is_discarded (k o a) (d o a).entries i gives 8 at i) profile-same)

  -- ---- a symbol

  module _ (i : ℕ) (l : i < length (d o a).entries / 8) where
    -- what the filter leaves of its section
    abbrev left : Bool → ℕ
    left b = cond b 0 (section i)

    left-asked : (b : Bool) → Asked-for (left b)
    left-asked true = zero-asked o a few lent passed i l
    left-asked false = entry-asked o a few lent passed i l

    gone : is_removed_in kept (section i) ≡ is_removed_in (k o a) (section i)
    gone = removed-same (section i) (entry-asked o a few lent passed i l)

    defines-same : kept.defines (left (is_removed_in kept (section i))) ≡ (k o a).defines (left (is_removed_in (k o a) (section i)))
    defines-same =
        defines-is o a few lent passed met m on (left (is_removed_in kept (section i))) (left-asked (is_removed_in kept (section i)))
        ∙ ap (λ (b : Bool). (k o a).defines (left b)) gone

    conversion-same : kept.conversion (left (is_removed_in kept (section i))) ≡ (k o a).conversion (left (is_removed_in (k o a) (section i)))
    conversion-same =
        conversion-is o a few lent passed met m on (left (is_removed_in kept (section i))) (left-asked (is_removed_in kept (section i)))
        ∙ ap (λ (b : Bool). (k o a).conversion (left b)) gone

    abbrev entry_on : Bool → ElfSymbol
    entry_on b =
        record {
          binding = cell_at (d o a).entries i 1;
          visibility = cell_at (d o a).entries i 3;
          kind = cell_at (d o a).entries i 2;
          section = left b;
          value = cell_at (d o a).entries i 5;
          size = cell_at (d o a).entries i 6;
        }

    abbrev x : List ℕ
    x = bytes (k o a) (d o a) i

    abbrev first_on : Bool → Bool
    first_on b = eqb i 0 && eqb (left b) 0 && eqb (cell_at (d o a).entries i 2) 0 && eqb (length x) 0

    abbrev idless_on : Bool → Bool → Bool
    idless_on b g = eqb (cell_at (d o a).entries i 2) 4 || not (eqb (left b) 0) && (ltb (left b) 0xff00 && g)

    abbrev dropped_on : Bool → Bool → Bool
    dropped_on p b = p && (eqb (cell_at (d o a).entries i 1) 0 && not (eqb (section i) 0) && b)

    abbrev asked_on : Bool → Conversion → State → Asked
    asked_on b c t = elf_asked (entry_on b) (id_in t x) None c (eqb (length x) 0)

    abbrev rules_on : Bool → Bool → Conversion → Symbols.State → List Rule
    rules_on b g c s =
        (not (named (k o a) (d o a) i) gives 9 at i)
        ∷ (is_unroomed (table_at s) x gives 2 at i)
        ∷ cond (first_on b || idless_on b g) [] (shown_rules (table_at s) (asked_on b c (table_at s)) i ++ held_rules (table_at s) (asked_on b c (table_at s)) i)

    abbrev all_on : Bool → Bool → Bool → Conversion → Symbols.State → List Rule
    all_on p b g c s = cond (dropped_on p b) [] (rules_on b g c s)

    pub symbol-same : (s : Symbols.State) → symbol_rules kept (d o a) i s ≡ symbol_rules (k o a) (d o a) i s
    symbol-same s =
        ap (λ (b : Bool). all_on profile b (kept.defines (left (is_removed_in kept (section i)))) (kept.conversion (left (is_removed_in kept (section i)))) s) gone
        ∙ ap (λ (g : Bool). all_on profile (is_removed_in (k o a) (section i)) g (kept.conversion (left (is_removed_in kept (section i)))) s) defines-same
        ∙ ap (λ (c : Conversion). all_on profile (is_removed_in (k o a) (section i)) ((k o a).defines (left (is_removed_in (k o a) (section i)))) c s) conversion-same
        ∙ ap (λ (p : Bool). all_on p (is_removed_in (k o a) (section i)) ((k o a).defines (left (is_removed_in (k o a) (section i)))) ((k o a).conversion (left (is_removed_in (k o a) (section i)))) s) profile-same

    abbrev id_on : Bool → Bool → Bool → Bool
    id_on p b g = not (dropped_on p b) && (first_on b || not (idless_on b g))

    pub identified-same : not (is_dropped kept (d o a).entries i) && (is_first kept (d o a) i || not (is_idless kept (d o a) i)) ≡ is_identified o a i
    identified-same =
        ap (λ (b : Bool). id_on profile b (kept.defines (left (is_removed_in kept (section i))))) gone
        ∙ ap (λ (g : Bool). id_on profile (is_removed_in (k o a) (section i)) g) defines-same
        ∙ ap (λ (p : Bool). id_on p (is_removed_in (k o a) (section i)) ((k o a).defines (left (is_removed_in (k o a) (section i))))) profile-same

  -- ---- a section that is built

  lacks-same : (f g : ℕ → Bool) (limit : ℕ) → ((i : ℕ) → i < limit → f i ≡ g i) → (is : List ℕ) → lacks_id f limit is ≡ lacks_id g limit is
  lacks-same f g limit h [] = refl
  lacks-same f g limit h (i ∷ is) =
      by-test (ltb i limit) (λ e. rw (e, h i (ltb-true _ _ e), lacks-same f g limit h is)) (λ e. rw e)

  module _ (ids : List ℕ) (ids-are : (i : ℕ) → i < length (d o a).entries / 8 → identified_by ids i ≡ is_identified o a i) (kind n : ℕ) (l : n < length o.headers / 8) where
    abbrev symbols : ℕ
    symbols = length (d o a).entries / 8

    abbrev limit_on : Found → ℕ
    limit_on f = nameable_in o.headers (d o a).table symbols f

    limit-low : (f : Found) (i : ℕ) → i < limit_on f → i < symbols
    limit-low absent i h = absurd (omega arith)
    limit-low (found r) i h =
        by-test (eqb (cell_at o.headers r 3) (d o a).table) (λ e. rw e at h) (λ e. let z : i < 0 = rw e at h in absurd (omega arith))

    abbrev moved_on : Found → List ℕ
    moved_on f = relocations_of o.headers o.contents f

    abbrev table_on : Found → Found
    table_on f = cond (eqb kind 1) f absent

    abbrev own_on : Found → Bool → Build.State → List Rule
    own_on f lacks s =
        (not (is_named o.headers o.image o.section_names (cell_at o.headers n 1)) gives 18 at n)
        ∷ (is_unroomed (names_of s.bytes s.names s.stage.link) (name_in o.headers o.image o.section_names (cell_at o.headers n 1)) gives 2 at n)
        ∷ (lacks gives 19 at n)
        ∷ (ltb (length s.lists) (s.stage.link.lists + length (moved_on f)) gives 2 at n)
        ∷ []

    abbrev build_on : Bool → Found → Bool → Build.State → List Rule
    build_on r f lacks s = cond (is_section o.headers n kind && not r) (own_on (table_on f) lacks s) []

    abbrev lacks_on : (ℕ → Bool) → Found → Bool
    lacks_on f t = lacks_id f (limit_on (table_on t)) (moved_on (table_on t))

    pub build-same : (s : Build.State) → build_rules kept (identified_by ids) (d o a) kind s n ≡ build_rules (k o a) (is_identified o a) (d o a) kind s n
    build-same s =
        let t = table_is o a few lent passed met m on n l in
        ap (λ (r : Bool). build_on r (kept.table n) (lacks_on (identified_by ids) (kept.table n)) s) (removed-is o a few lent passed met m on n (MergeObject.section l))
        ∙ ap (λ (f : Found). build_on ((k o a).removed n) f (lacks_on (identified_by ids) f) s) t
        ∙ ap (λ (b : Bool). build_on ((k o a).removed n) ((k o a).table n) b s)
        (lacks-same (identified_by ids) (is_identified o a) (limit_on (table_on ((k o a).table n))) (λ i h. ids-are i (limit-low (table_on ((k o a).table n)) i h)) (moved_on (table_on ((k o a).table n))))
