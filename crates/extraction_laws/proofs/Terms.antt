-- Extraction against the gABI. Over every walk, of the members that weren't offered before, what a pass chooses and admission lets in is what the gABI
-- extracts for the names undefined at the pass's start, but for the two known places; in the gABI's profile (document 02, 2026-02), for the names
-- undefined and strong, without them. Then what admission answers for any object and any walk, and the known places' smallest inputs.
-- Assumes nothing.
use Rattle.std.specs.Prelude.{ℕ, ◌+◌, ◌/◌, ◌<◌, ◌≤◌, ◌≡◌, refl, Bool, true, false, ◌&&◌, ◌||◌, List, length}
use Rattle.std.proofs.Common.{sym, ap, ◌∙◌}
use Rattle.gabi.specs.StringTable as Strings
use Rattle.gabi.specs.Archive.{Named, extracts}
use Rattle.link.specs.declared.Link.{Link}
use Rattle.archive_index.specs.Archives.{Archives, entries_in, name_in, key_in}
use Rattle.archive_walk.specs.declared.Walk.{Walk}
use Rattle.archive_walk.specs.Look.{Table, undefined_name, tied_name}
use Rattle.archive_walk.specs.Names.{required_of}
use Rattle.archive_walk.specs.Walk.{begun_number, start_of}
use Rattle.archive_laws.specs.Profiles.{strong_name}
use Rattle.archive_laws.specs.Rounds.{among}
use Rattle.archive_laws.specs.Runs.{Run, step_run, history, start_run}
use Rattle.archive_laws.specs.Walked.{in_index, queue_in, Pass}
use Rattle.archive_laws.proofs.Terms.{tied-old, tied-gabi, walked}
use Rattle.elf_object.specs.Judge.{judge_of}
use Rattle.object_requirement.specs.Matches.{has_global_symbol, matches_of}
use Rattle.extraction_laws.specs.Member.{member_of}
use Rattle.extraction_laws.specs.MemberWords.{symbols_of}
use Rattle.extraction_laws.specs.Admission.{bears_one, defines_one}
use Rattle.extraction_laws.specs.Answer.{says}
use Rattle.extraction_laws.specs.Differences.{All, cases}
use Rattle.extraction_laws.specs.Taken.{lists, taken_in, taken, weak_offers}
use Rattle.extraction_laws.proofs.Taken.{taken-either, extracts-is, takes-as-gabi, gabi-extracts, taken-same}
use Rattle.extraction_laws.proofs.Chosen as Chosen
use Rattle.extraction_laws.proofs.MemberWords as MemberWords
use Rattle.extraction_laws.proofs.Admission as Admission
use Rattle.extraction_laws.proofs.Differences as Differences

or_swap : (a b c : Bool) → (a || b) || c ≡ (a || c) || b
or_swap true b c = refl
or_swap false true true = refl
or_swap false true false = refl
or_swap false false true = refl
or_swap false false false = refl

-- a start that isn't refused, any calls, then one over t that makes a pass
module _ (key : ℕ) (s : Archives) (l : List ℕ) (start : begun_number (start_of key s l).started.begun ≡ 0) (ts : List Table) (t : Table)
    (made : (step_run s t (history s ts (start_run key s l))).walk.passes ≡ (history s ts (start_run key s l)).walk.passes + 1) where
  abbrev before : Run
  before = history s ts (start_run key s l)

  abbrev c : ℕ
  c = entries_in s

  pass : Pass s t before (step_run s t before)
  pass = (walked key s l start ts).pass t made

  -- the member of entry e, not offered before, is this object; the index lists its global and weak definitions
  module _ (e : ℕ) (low : e < c) (new : among s e before.offers ≡ false) (headers entries file : List ℕ)
      (listed : (x : List ℕ) → in_index s e x ≡ lists (member_of headers entries file) x) where
    abbrev member : List Named
    member = member_of headers entries file

    -- the pass queues it, and admission over its required names says yes
    abbrev chosen_in : Bool → Bool
    chosen_in gabi =
        among s e (queue_in (step_run s t before))
        && has_global_symbol gabi headers entries file (required_of s.bytes (step_run s t before).cells (step_run s t before).walk e)

    chosen-in : (gabi : Bool) → chosen_in gabi ≡ taken_in gabi (tied_name t) member
    chosen-in gabi = Chosen.chosen_is gabi s (key_in s) (name_in s) c t before (step_run s t before) pass e low new headers entries file listed

    -- ---- the old profile

    module _ (old : t.link.gabi ≡ false) where
      abbrev chosen : Bool
      chosen = chosen_in false

      -- just if a global symbol of it bears a name that is undefined at the pass, and that it defines
      pub chosen_is : chosen ≡ taken (undefined_name t) member
      chosen_is = chosen-in false ∙ taken-same member false (tied_name t) (undefined_name t) (λ x. tied-old t x old)

      -- where just the gABI's wanted names are undefined: "a weak definition doesn't admit one" is the whole difference
      pub weak-definitions : (wanted : List (List ℕ)) → ((x : List ℕ) → lists member x ≡ true → undefined_name t x ≡ Strings.among x wanted) → extracts member wanted ≡ chosen || weak_offers wanted member
      weak-definitions wanted agree = extracts-is member (undefined_name t) wanted agree ∙ ap (λ (b : Bool). b || weak_offers wanted member) (sym chosen_is)

      -- so without one both take the same members
      pub as-gabi : (wanted : List (List ℕ)) → ((x : List ℕ) → lists member x ≡ true → undefined_name t x ≡ Strings.among x wanted) → weak_offers wanted member ≡ false → chosen ≡ extracts member wanted
      as-gabi wanted agree h = chosen_is ∙ takes-as-gabi member (undefined_name t) wanted agree h

      -- "Weak references pull members": beside what is taken for wanted names, what is taken for names that have weak references only
      pub weak-references : (wanted weakly : List ℕ → Bool) → ((x : List ℕ) → lists member x ≡ true → undefined_name t x ≡ wanted x || weakly x) → chosen ≡ taken wanted member || taken weakly member
      weak-references wanted weakly either = chosen_is ∙ taken-either member wanted weakly (undefined_name t) either

      -- both places at once
      pub both-differences : (wanted : List (List ℕ)) (weakly : List ℕ → Bool) → ((x : List ℕ) → lists member x ≡ true → undefined_name t x ≡ Strings.among x wanted || weakly x)
          → chosen || weak_offers wanted member ≡ extracts member wanted || taken weakly member
      both-differences wanted weakly either =
          ap (λ (b : Bool). b || weak_offers wanted member) (weak-references (λ x. Strings.among x wanted) weakly either)
          ∙ or_swap (taken (λ x. Strings.among x wanted) member) (taken weakly member) (weak_offers wanted member)
          ∙ ap (λ (b : Bool). b || taken weakly member) (sym (extracts-is member (λ x. Strings.among x wanted) wanted (λ x h. refl)))

    -- ---- the gABI's profile

    module _ (gabi : t.link.gabi ≡ true) where
      abbrev strongly : List ℕ → Bool
      strongly x = undefined_name t x && strong_name t x

      -- just if it defines, globally or weakly, a name that is undefined and strong at the pass
      pub chosen-strongly : chosen_in true ≡ taken_in true strongly member
      chosen-strongly = chosen-in true ∙ taken-same member true (tied_name t) strongly (λ x. tied-gabi t x gabi)

      -- where just the gABI's wanted names are undefined and strong it is what the gABI extracts: neither known place is met
      pub exactly-gabi : (wanted : List (List ℕ)) → ((x : List ℕ) → lists member x ≡ true → strongly x ≡ Strings.among x wanted) → chosen_in true ≡ extracts member wanted
      exactly-gabi wanted agree = chosen-strongly ∙ gabi-extracts member strongly wanted agree

-- ---- admission, for any object, any walk and any entry of its index, also one that lies

-- the symbols that admission looks at are, in document 01's words, those of every symbol table, dynamic ones too, excluded or not, each with its name where
-- that isn't missing
pub member_is : (headers entries file : List ℕ) → member_of headers entries file ≡ symbols_of headers entries file
member_is = MemberWords.member_is

-- the object's fields are in range, the walk's index and rows are lent, and entry e is one of its index
module _ (link : Link) (headers entries contents file s l : List ℕ) (w : Walk) (e : ℕ)
    (ranged : (judge_of headers entries (length contents) (length file)).number ≡ 0) (index : w.length ≤ length s) (rows : w.entries ≤ length l / 8)
    (entry : e < w.entries) where
  -- the old profile: "some symbol of binding 1, defined or not, bears a required name"
  pub admits-references : link.gabi ≡ false → matches_of link headers entries contents file s l w e ≡ says (bears_one (required_of s l w e) (symbols_of headers entries file))
  admits-references = Admission.admits-references link headers entries contents file s l w e ranged index rows entry

  -- the gABI's: "a weak or global definition, and nothing else, admits one"
  pub admits-definitions : link.gabi ≡ true → matches_of link headers entries contents file s l w e ≡ says (defines_one (required_of s l w e) (symbols_of headers entries file))
  admits-definitions = Admission.admits-definitions link headers entries contents file s l w e ranged index rows entry

  -- so where just these names are required: what the gABI extracts for them
  pub admits-extracted : link.gabi ≡ true → (names : List (List ℕ)) → ((x : List ℕ) → required_of s l w e x ≡ Strings.among x names)
      → matches_of link headers entries contents file s l w e ≡ says (extracts (symbols_of headers entries file) names)
  admits-extracted = Admission.admits-extracted link headers entries contents file s l w e ranged index rows entry

-- ---- "Known places where gABI differs", those of archives, and the same inputs in the gABI's profile

pub differences : All cases
differences = Differences.differences
