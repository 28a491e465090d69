-- What a walk over a link chooses of an archive, and what the gABI extracts.
-- Assumes nothing.
use Rattle.std.specs.Prelude.{ℕ, ◌+◌, ◌<◌, ◌≡◌, Bool, true, false, ◌&&◌, ◌||◌, List, ◌∷◌}
use Rattle.std.proofs.Common.{sym, ap, ◌∙◌, subst}
use Rattle.gabi.specs.StringTable as Strings
use Rattle.gabi.specs.Archive.{Named, wants, extracts}
use Rattle.archive_index.specs.Archives.{Archives, entries_in}
use Rattle.archive_walk.specs.Look.{Table, undefined_name}
use Rattle.archive_walk.specs.Walk.{begun_number, start_of}
use Rattle.archive_laws.specs.Profiles.{strong_name}
use Rattle.archive_laws.proofs.Profiles.{tied-gabi}
use Rattle.archive_laws.specs.Rounds.{among}
use Rattle.archive_laws.specs.Runs.{Run, step_run, history, start_run}
use Rattle.archive_laws.specs.Walked.{in_index}
use Rattle.symbol_laws.specs.Rank.{first_by_rank}
use Rattle.symbol_laws.specs.History.{Entry, only, rows}
use Rattle.symbol_laws.specs.Held.{Inv}
use Rattle.merge_laws.specs.Calls.{Linked}
use Rattle.extraction_laws.proofs.Some.{or-none}
use Rattle.extraction_laws.specs.Member.{member_of}
use Rattle.extraction_laws.specs.Taken.{lists, taken, weak_offers, wanted_names}
use Rattle.extraction_laws.proofs.Taken.{wanted-names}
use Rattle.extraction_laws.proofs.Terms as Extraction
use Rattle.link_laws.specs.Calls.{view_in}
use Rattle.link_laws.specs.Walks.{next_in}
use Rattle.link_laws.proofs.Walks.{next-is}
use Rattle.link_laws.specs.Undefined.{symbols_under, weak_references}
use Rattle.link_laws.proofs.Undefined.{undefined-is}
use Rattle.link_laws.proofs.Ties.{OfName, ties-is}
use Rattle.link_laws.specs.Extraction.{chosen_in}

module _ (s : Linked) (past : List Entry) (inv : Inv s.table past) where
  -- what the gABI wants from an archive, by the symbols that were accepted under a name
  abbrev pub wanted_in : List ℕ → Bool
  wanted_in x = wants (symbols_under s.table past x)

  abbrev pub weakly_in : List ℕ → Bool
  weakly_in x = weak_references (symbols_under s.table past x)

  -- the names that tie in the gABI's profile
  pub strongly-wanted : s.table.link.gabi ≡ true → ((n : ℕ) (x : Entry) (xs : List Entry) → only n past ≡ x ∷ xs → OfName (first_by_rank true x.row (rows xs))) → (x : List ℕ)
      → undefined_name (view_in s.table) x && strong_name (view_in s.table) x ≡ wanted_in x
  strongly-wanted gabi named x = sym (tied-gabi (view_in s.table) x gabi) ∙ ties-is s.table past inv gabi x (named _)

  module _ (key : ℕ) (archives : Archives) (cells : List ℕ) (begun : begun_number (start_of key archives cells).started.begun ≡ 0) (ts : List Table) where
    abbrev pub before : Run
    before = history archives ts (start_run key archives cells)

    abbrev pub after : Run
    after = next_in archives before s

    module _ (made : after.walk.passes ≡ before.walk.passes + 1) (e : ℕ) (low : e < entries_in archives) (new : among archives e before.offers ≡ false)
        (headers entries file : List ℕ) (listed : (x : List ℕ) → in_index archives e x ≡ lists (member_of headers entries file) x) where
      abbrev member : List Named
      member = member_of headers entries file

      passed : (step_run archives (view_in s.table) before).walk.passes ≡ before.walk.passes + 1
      passed = subst (λ (r : Run). r.walk.passes ≡ before.walk.passes + 1) (next-is archives before s) made

      -- the old profile
      module _ (old : s.table.link.gabi ≡ false) where
        own-differences : (wanted : List (List ℕ)) → ((x : List ℕ) → lists member x ≡ true → Strings.among x wanted ≡ wanted_in x) → (chosen_in false archives after e headers entries file || weak_offers wanted member ≡ extracts member wanted || taken weakly_in member)
        own-differences wanted same =
            ap (λ (r : Run). chosen_in false archives r e headers entries file || weak_offers wanted member) (next-is archives before s)
            ∙ Extraction.both-differences key archives cells begun ts (view_in s.table) passed e low new headers entries file listed old wanted weakly_in
            (λ x l. undefined-is s.table past inv x ∙ ap (λ (b : Bool). b || weakly_in x) (sym (same x l)))

        pub differences : (wanted : List (List ℕ)) → ((x : List ℕ) → lists member x ≡ true → Strings.among x wanted ≡ wanted_in x)
            → chosen_in false archives after e headers entries file || weak_offers wanted member ≡ extracts member wanted || taken weakly_in member
        differences wanted same =
            ap (λ (r : Run). chosen_in false archives r e headers entries file || weak_offers wanted member) (next-is archives before s)
            ∙ Extraction.both-differences key archives cells begun ts (view_in s.table) passed e low new headers entries file listed old wanted weakly_in
            (λ x l. undefined-is s.table past inv x ∙ ap (λ (b : Bool). b || weakly_in x) (sym (same x l)))

        pub agrees : (wanted : List (List ℕ)) → ((x : List ℕ) → lists member x ≡ true → Strings.among x wanted ≡ wanted_in x)
            → weak_offers wanted member ≡ false → taken weakly_in member ≡ false → chosen_in false archives after e headers entries file ≡ extracts member wanted
        agrees wanted same d r =
            sym (or-none (chosen_in false archives after e headers entries file) (weak_offers wanted member) d)
            ∙ own-differences wanted same ∙ or-none (extracts member wanted) (taken weakly_in member) r

      -- the gABI's profile
      pub agrees-gabi : s.table.link.gabi ≡ true → ((n : ℕ) (x : Entry) (xs : List Entry) → only n past ≡ x ∷ xs → OfName (first_by_rank true x.row (rows xs)))
          → (wanted : List (List ℕ)) → ((x : List ℕ) → lists member x ≡ true → Strings.among x wanted ≡ wanted_in x)
          → chosen_in true archives after e headers entries file ≡ extracts member wanted
      agrees-gabi gabi named wanted same =
          ap (λ (r : Run). chosen_in true archives r e headers entries file) (next-is archives before s)
          ∙ Extraction.exactly-gabi key archives cells begun ts (view_in s.table) passed e low new headers entries file listed gabi wanted
          (λ x l. strongly-wanted gabi named x ∙ sym (same x l))

      -- the wanted names that the member bears are such a list
      pub own-names : (x : List ℕ) → lists member x ≡ true → Strings.among x (wanted_names wanted_in member) ≡ wanted_in x
      own-names = wanted-names wanted_in member
