-- Admission by profile, for any object, any walk and any entry of its index, also one that lies. The old: "some symbol of binding 1, defined or not,
-- bears a required name" (document 01). The gABI's: "a weak or global definition, and nothing else, admits one" (document 02, 2026-02), a definition
-- being what the gABI says that an archive's member offers.
-- Assumes nothing.
use Rattle.std.specs.Prelude.{ℕ, ◌/◌, ◌<◌, ◌≤◌, ◌≡◌, true, false, ◌&&◌, List, length}
use Rattle.std.proofs.Common.{sym, ap, ◌∙◌}
use Rattle.gabi.specs.StringTable as Strings
use Rattle.gabi.specs.Archive.{offers, extracts}
use Rattle.link.specs.declared.Link.{Link}
use Rattle.archive_walk.specs.declared.Walk.{Walk}
use Rattle.archive_walk.specs.Names.{required_of}
use Rattle.elf_object.specs.Judge.{judge_of}
use Rattle.object_requirement.specs.Matches.{matches_of}
use Rattle.extraction_laws.proofs.Some.{some_same}
use Rattle.extraction_laws.proofs.Member.{object-admits}
use Rattle.extraction_laws.specs.MemberWords.{symbols_of}
use Rattle.extraction_laws.proofs.MemberWords.{member_is}
use Rattle.extraction_laws.proofs.Taken.{extracts-some}
use Rattle.extraction_laws.specs.Answer.{says}
use Rattle.extraction_laws.proofs.Answer.{matches-says}
use Rattle.extraction_laws.specs.Admission.{bears_one, defines_one}

-- the object's fields are in range, the walk's index and rows are lent, and entry e is one of its index
module _ (link : Link) (headers entries contents file s l : List ℕ) (w : Walk) (e : ℕ)
    (ranged : (judge_of headers entries (length contents) (length file)).number ≡ 0) (index : w.length ≤ length s) (rows : w.entries ≤ length l / 8)
    (entry : e < w.entries) where
  pub admits-references : link.gabi ≡ false → matches_of link headers entries contents file s l w e ≡ says (bears_one (required_of s l w e) (symbols_of headers entries file))
  admits-references old =
      matches-says link headers entries contents file s l w e (bears_one (required_of s l w e) (symbols_of headers entries file)) ranged index rows entry
      (rw old (object-admits false (required_of s l w e) headers entries file ∙ ap (bears_one (required_of s l w e)) (member_is headers entries file)))

  pub admits-definitions : link.gabi ≡ true → matches_of link headers entries contents file s l w e ≡ says (defines_one (required_of s l w e) (symbols_of headers entries file))
  admits-definitions gabi =
      matches-says link headers entries contents file s l w e (defines_one (required_of s l w e) (symbols_of headers entries file)) ranged index rows entry
      (rw gabi (object-admits true (required_of s l w e) headers entries file ∙ ap (defines_one (required_of s l w e)) (member_is headers entries file)))

  -- where just these names are required: what the gABI extracts for them
  pub admits-extracted : link.gabi ≡ true → (names : List (List ℕ)) → ((x : List ℕ) → required_of s l w e x ≡ Strings.among x names)
      → matches_of link headers entries contents file s l w e ≡ says (extracts (symbols_of headers entries file) names)
  admits-extracted gabi names agree =
      admits-definitions gabi
      ∙ ap says
      (some_same (λ d. offers d.symbol && required_of s l w e d.name) (λ d. offers d.symbol && Strings.among d.name names) (symbols_of headers entries file)
      (λ d. rw (agree d.name))
      ∙ sym (extracts-some (symbols_of headers entries file) names))
