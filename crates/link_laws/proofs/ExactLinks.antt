-- "exactly" for further links: lists may have grown before any call, and at the end other cells than the link's may be lent for symbols, sections, inputs and lists, so
-- that the rules of 1 for counts above what is lent arise. Names and their bytes are the link's own.
-- Assumes nothing.
use Rattle.std.specs.Prelude.{ℕ, ◌≡◌, Bool, not, List, [], ◌∷◌, ◌++◌, eqb}
use Rattle.std.proofs.Common.{ap, ◌∙◌}
use Rattle.link.specs.declared.cause.Refusal.{Refusal}
use Rattle.link.specs.Said.{number_in}
use Rattle.symbols.specs.New.{new_of}
use Rattle.symbol_laws.specs.History.{opened}
use Rattle.merge_laws.specs.Marked.{Marked}
use Rattle.merge_laws.proofs.MarkedLemmas.{new-marked}
use Rattle.merge_laws.specs.Calls.{Linked, linked}
use Rattle.link_laws.specs.Calls.{Call, call_refusal, call_number}
use Rattle.link_laws.specs.Kept.{signatures}
use Rattle.link_laws.proofs.Kept.{calls-marked}
use Rattle.link_laws.specs.Growth.{Turn, grow, turn_next, run_turns}
use Rattle.link_laws.proofs.Growth.{marked-grown}
use Rattle.link_laws.specs.Rules.{first_refusal, some_holds}
use Rattle.link_laws.proofs.Rules.{none-holds}
use Rattle.link_laws.specs.CallRules.{rules}
use Rattle.link_laws.proofs.CallExactly.{call-exactly, rules-numbered}
use Rattle.link_laws.specs.ExactLinks.{on}
use Rattle.merge_stages.specs.Stages.{Object}
use Rattle.preview_laws.specs.Shown.{previewed}
use Rattle.link_laws.specs.PreviewRules.{preview_rules}
use Rattle.link_laws.proofs.PreviewExactly as PreviewExactly

-- some signatures were met
record Met (s : Linked) : Type 0 where
  met : List (List ℕ)
  marked : Marked s.table met

turns-met : (ts : List Turn) (s : Linked) → Met s → Met (run_turns ts s)
turns-met [] s m = m
turns-met (t ∷ ts) s m =
    turns-met ts (turn_next t s)
    (record {
      met = m.met ++ signatures (t.call ∷ []) (grow t.growth s);
      marked = calls-marked (t.call ∷ []) (grow t.growth s) m.met (marked-grown s.table t.growth m.met m.marked);
    })

module _ (key : ℕ) (gabi : Bool) (bytes names symbols sections inputs lists : List ℕ) (new : number_in (new_of key gabi bytes names symbols sections).said ≡ 0) (ts : List Turn)
    (symbols' sections' inputs' lists' : List ℕ) where
  last : Met (run_turns ts (linked (opened (new_of key gabi bytes names symbols sections)) inputs lists))
  last = turns-met ts (linked (opened (new_of key gabi bytes names symbols sections)) inputs lists) (record { met = []; marked = new-marked key gabi bytes names symbols sections new })

  pub exactly-any : (k : Call) → call_refusal k (on key gabi bytes names symbols sections inputs lists new ts symbols' sections' inputs' lists') ≡ first_refusal (rules k (on key gabi bytes names symbols sections inputs lists new ts symbols' sections' inputs' lists'))
  exactly-any k = call-exactly k (on key gabi bytes names symbols sections inputs lists new ts symbols' sections' inputs' lists') last.met (record { good = last.marked.good; marks = last.marked.marks; known = last.marked.known })

  pub accepted-any : (k : Call) → eqb (call_number k (on key gabi bytes names symbols sections inputs lists new ts symbols' sections' inputs' lists')) 0 ≡ not (some_holds (rules k (on key gabi bytes names symbols sections inputs lists new ts symbols' sections' inputs' lists')))
  accepted-any k = ap (λ (r : Refusal). eqb r.number 0) (exactly-any k) ∙ none-holds (rules k (on key gabi bytes names symbols sections inputs lists new ts symbols' sections' inputs' lists')) (rules-numbered k (on key gabi bytes names symbols sections inputs lists new ts symbols' sections' inputs' lists'))

  pub preview-any : (o : Object) (work ids : List ℕ) (p : Linked) → (previewed o work ids (on key gabi bytes names symbols sections inputs lists new ts symbols' sections' inputs' lists') p).said ≡ first_refusal (preview_rules o work ids (on key gabi bytes names symbols sections inputs lists new ts symbols' sections' inputs' lists') p)
  preview-any o work ids p =
      PreviewExactly.preview-exactly o work ids (on key gabi bytes names symbols sections inputs lists new ts symbols' sections' inputs' lists') p last.met
      (record { good = last.marked.good; marks = last.marked.marks; known = last.marked.known })
