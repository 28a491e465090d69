-- What `matches` answers in a link, against the gABI's extraction.
-- Assumes nothing.
use Rattle.std.specs.Prelude.{ℕ, ◌+◌, ◌<◌, ◌≡◌, Bool, true, false, ◌||◌, List, ◌∷◌, length, Ok}
use Rattle.std.proofs.Common.{sym, ap, ◌∙◌, subst}
use Rattle.gabi.specs.StringTable as Strings
use Rattle.gabi.specs.Archive.{Named, extracts}
use Rattle.archive_index.specs.Archives.{Archives, entries_in, name_in, key_in}
use Rattle.archive_walk.specs.Look.{Table}
use Rattle.archive_walk.specs.Walk.{begun_number, start_of}
use Rattle.archive_laws.specs.Rounds.{among}
use Rattle.archive_laws.specs.Runs.{Run, step_run, history, start_run}
use Rattle.archive_laws.specs.Walked.{in_index, queue_in}
use Rattle.archive_laws.proofs.AcceptedStart.{start_fine, start-begins}
use Rattle.elf_object.specs.Judge.{judge_of}
use Rattle.symbol_laws.specs.Rank.{first_by_rank}
use Rattle.symbol_laws.specs.History.{Entry, only, rows}
use Rattle.symbol_laws.specs.Held.{Inv}
use Rattle.merge_laws.specs.Calls.{Linked}
use Rattle.extraction_laws.specs.Taken.{lists, wanted_names}
use Rattle.extraction_laws.proofs.Taken.{wanted-names}
use Rattle.extraction_laws.specs.MemberWords.{symbols_of}
use Rattle.extraction_laws.proofs.Answer as Answer
use Rattle.extraction_laws.specs.Answer.{says, admitted}
use Rattle.link_laws.specs.Calls.{view_in}
use Rattle.link_laws.specs.Walks.{next_in}
use Rattle.link_laws.proofs.Walks.{next-is}
use Rattle.link_laws.proofs.Undefined.{undefined-is}
use Rattle.link_laws.proofs.Ties.{OfName}
use Rattle.link_laws.proofs.Extraction.{wanted_in, weakly_in, strongly-wanted}
use Rattle.link_laws.specs.Admitted.{answer_in}

module _ (s : Linked) (past : List Entry) (inv : Inv s.table past) (key : ℕ) (archives : Archives) (cells : List ℕ) (begun : begun_number (start_of key archives cells).started.begun ≡ 0)
    (ts : List Table) where
  abbrev pub before : Run
  before = history archives ts (start_run key archives cells)

  -- after a call for the next member that makes a pass over s
  abbrev pub after : Run
  after = next_in archives before s

  module _ (made : after.walk.passes ≡ before.walk.passes + 1) (e : ℕ) (low : e < entries_in archives) (new : among archives e before.offers ≡ false)
      (headers entries contents file : List ℕ) (ranged : (judge_of headers entries (length contents) (length file)).number ≡ 0)
      (listed : (x : List ℕ) → in_index archives e x ≡ lists (symbols_of headers entries file) x) where
    abbrev pub member : List Named
    member = symbols_of headers entries file

    pub passed : (step_run archives (view_in s.table) before).walk.passes ≡ before.walk.passes + 1
    passed = subst (λ (r : Run). r.walk.passes ≡ before.walk.passes + 1) (next-is archives before s) made

    pub let-in-queued : (on : Linked) → answer_in headers entries contents file archives.bytes after e on ≡ Ok true → among archives e (queue_in after) ≡ true
    let-in-queued on y =
        subst (λ (r : Run). among archives e (queue_in r) ≡ true) (sym (next-is archives before s))
        (Answer.let-in-queued key archives (key_in archives) (name_in archives) (entries_in archives) (start_run key archives cells) (start_fine key archives cells begun) (start-begins key archives cells begun) ts (view_in s.table) passed e low new headers entries contents file ranged listed on.table.link
        (subst (λ (r : Run). answer_in headers entries contents file archives.bytes r e on ≡ Ok true) (next-is archives before s) y))

    -- asked by any link
    module _ (on : Linked) where
      abbrev answer : Bool
      answer = Answer.answer key archives (key_in archives) (name_in archives) (entries_in archives) (start_run key archives cells) (start_fine key archives cells begun) (start-begins key archives cells begun) ts (view_in s.table) passed e low new headers entries contents file ranged listed on.table.link

      answer-now : answer_in headers entries contents file archives.bytes after e on ≡ says answer
      answer-now =
          ap (λ (r : Run). answer_in headers entries contents file archives.bytes r e on) (next-is archives before s)
          ∙ Answer.answer-is key archives (key_in archives) (name_in archives) (entries_in archives) (start_run key archives cells) (start_fine key archives cells begun) (start-begins key archives cells begun) ts (view_in s.table) passed e low new headers entries contents file ranged listed on.table.link

      answer-later : among archives e (queue_in after) ≡ true → (us : List Table) → answer_in headers entries contents file archives.bytes (history archives us after) e on ≡ says answer
      answer-later q us =
          ap (λ (r : Run). answer_in headers entries contents file archives.bytes (history archives us r) e on) (next-is archives before s)
          ∙ Answer.answer-later key archives (key_in archives) (name_in archives) (entries_in archives) (start_run key archives cells) (start_fine key archives cells begun) (start-begins key archives cells begun) ts (view_in s.table) passed e low new headers entries contents file ranged listed on.table.link
          (subst (λ (r : Run). among archives e (queue_in r) ≡ true) (next-is archives before s) q) us

    module _ (wanted : List (List ℕ)) (same : (x : List ℕ) → lists member x ≡ true → Strings.among x wanted ≡ wanted_in s past inv x) where
      -- the old profile
      module _ (old : s.table.link.gabi ≡ false) (on : Linked) (asks : on.table.link.gabi ≡ false) where
        by-gabi : answer on ≡ admitted wanted (weakly_in s past inv) member
        by-gabi =
            Answer.by-gabi key archives (key_in archives) (name_in archives) (entries_in archives) (start_run key archives cells) (start_fine key archives cells begun) (start-begins key archives cells begun) ts (view_in s.table) passed e low new headers entries contents file ranged listed on.table.link old asks wanted
            (weakly_in s past inv) (λ x l. undefined-is s.table past inv x ∙ ap (λ (b : Bool). b || weakly_in s past inv x) (sym (same x l)))

        pub matches-is : answer_in headers entries contents file archives.bytes after e on ≡ says (admitted wanted (weakly_in s past inv) member)
        matches-is = answer-now on ∙ ap says by-gabi

        pub matches-later : among archives e (queue_in after) ≡ true → (us : List Table)
            → answer_in headers entries contents file archives.bytes (history archives us after) e on ≡ says (admitted wanted (weakly_in s past inv) member)
        matches-later q us = answer-later on q us ∙ ap says by-gabi

      -- the gABI's profile
      module _ (gabi : s.table.link.gabi ≡ true) (named : (n : ℕ) (x : Entry) (xs : List Entry) → only n past ≡ x ∷ xs → OfName (first_by_rank true x.row (rows xs)))
          (on : Linked) (asks : on.table.link.gabi ≡ true) where
        exactly : answer on ≡ extracts member wanted
        exactly =
            Answer.exactly-gabi key archives (key_in archives) (name_in archives) (entries_in archives) (start_run key archives cells) (start_fine key archives cells begun) (start-begins key archives cells begun) ts (view_in s.table) passed e low new headers entries contents file ranged listed on.table.link gabi asks wanted
            (λ x l. strongly-wanted s past inv gabi named x ∙ sym (same x l))

        pub matches-gabi : answer_in headers entries contents file archives.bytes after e on ≡ says (extracts member wanted)
        matches-gabi = answer-now on ∙ ap says exactly

        pub matches-gabi-later : among archives e (queue_in after) ≡ true → (us : List Table)
            → answer_in headers entries contents file archives.bytes (history archives us after) e on ≡ says (extracts member wanted)
        matches-gabi-later q us = answer-later on q us ∙ ap says exactly

    -- the wanted names that the member bears are such a list
    pub own-names : (x : List ℕ) → lists member x ≡ true → Strings.among x (wanted_names (wanted_in s past inv) member) ≡ wanted_in s past inv x
    own-names = wanted-names (wanted_in s past inv) member
