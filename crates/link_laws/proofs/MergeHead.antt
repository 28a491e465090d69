-- Of a merge's head, filter and input row: the answer is that of the first rule that holds.
-- Assumes nothing.
use Rattle.std.specs.Prelude.{ℕ, ◌/◌, ◌≡◌, Bool, true, false, cond, not, ◌&&◌, List, ◌++◌, ltb, length}
use Rattle.std.proofs.Math.Path.{refl, ap}
use Rattle.cells.specs.Proof.Split.{by-test}
use Rattle.link.specs.declared.Link.{Link}
use Rattle.link.specs.declared.cause.Refusal.{Refusal}
use Rattle.link.specs.Judge.{refused, change_of}
use Rattle.elf_object.specs.Judge as Object
use Rattle.section_groups.specs.Filter.{symbol_ok, filter_of}
use Rattle.merge_build.specs.Finish.{input_row_of}
use Rattle.merge_stages.specs.Stages.{All, Object}
use Rattle.merge_elf.specs.Merge.{work_refusal, rows_refusal, check_of, head_in, lent}
use Rattle.link_laws.specs.Rules.{Rule, first_refusal, numbered}
use Rattle.link_laws.proofs.Rules.{each-numbered, headed, head-rules}
use Rattle.link_laws.proofs.AddExactly.{least-below}
use Rattle.link_laws.specs.ObjectRules.{object_rules}
use Rattle.link_laws.proofs.ObjectExactly.{from_zero, object-exactly, object-numbered}
use Rattle.link_laws.specs.MergeRules.{Reading, is_discarded, change_rules, work_rules, filter_rules, input_rules}
use Rattle.link_laws.proofs.MergeExactly.{at_work}
use Rattle.link_laws.proofs.MergeSymbols.{discarded-is}

-- ---- the filter

filter-ok : (gabi : Bool) (work entries : List ℕ) (i : ℕ) → symbol_ok gabi work entries i ≡ not (not gabi && is_discarded (at_work gabi work) entries i)
unfolding symbol_ok
filter-ok true work entries i = refl
filter-ok false work entries i = ap not (discarded-is false work entries i)

pub filter-exactly : (gabi : Bool) (work entries : List ℕ)
    → cond (ltb (filter_of gabi work entries) (length entries / 8)) (refused 8 (filter_of gabi work entries)) (refused 0 0) ≡ first_refusal (filter_rules (at_work gabi work) entries)
unfolding filter_of
filter-exactly gabi work entries =
    from_zero (λ i. not gabi && is_discarded (at_work gabi work) entries i) (symbol_ok gabi work entries) 8 (filter-ok gabi work entries) (length entries / 8)

pub filters-numbered : (k : Reading) (entries : List ℕ) → numbered (filter_rules k entries) ≡ true
filters-numbered k entries =
    each-numbered (λ i. not k.gabi && is_discarded k entries i) 8 refl (length entries / 8) 0

-- ---- the input's row

pub input-exactly : (l : Link) (inputs : List ℕ) → refused (input_row_of inputs l).stage.number (input_row_of inputs l).stage.place ≡ first_refusal (input_rules l inputs)
unfolding input_row_of
input-exactly l inputs =
    rw (least-below 4095 (length inputs / 8) l.inputs)
    (by-test (ltb l.inputs 4095 && ltb l.inputs (length inputs / 8)) (λ e. rw e) (λ e. rw e))

-- ---- the head

module _ (o : Object) (a : All) where
  abbrev rows : List Rule
  rows = object_rules o.headers o.entries o.contents o.image

  own : rows_refusal o.headers o.entries (length a.work) (length a.ids) (Object.judge_of o.headers o.entries (length o.contents) (length o.image))
      ≡ first_refusal (rows ++ work_rules o a)
  unfolding rows_refusal work_refusal
  own =
      headed (work_rules o a) (λ (r : Refusal). r) rows (Object.judge_of o.headers o.entries (length o.contents) (length o.image)) _ _
      (object-numbered o.headers o.entries o.contents o.image) (object-exactly o.headers o.entries o.contents o.image) refl (λ e. refl)

  pub head-exactly : head_in o a ≡ first_refusal (change_rules o a ++ (rows ++ work_rules o a))
  unfolding check_of
  head-exactly =
      headed (rows ++ work_rules o a) (λ (r : Refusal). r) (change_rules o a) (change_of a.stage.link (lent a)) _ _ refl
      (head-rules a.stage.link (lent a)) refl (λ e. own)
