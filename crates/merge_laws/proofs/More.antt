-- Steps never lower a count.
-- Assumes nothing.
use Rattle.std.specs.Prelude.{◌≤◌, ◌≡◌, refl, List, [], ◌∷◌, ltb, None}
use Rattle.std.proofs.Common.{arith, le_refl, le_trans, ap, ◌∙◌, subst}
use Rattle.cells.specs.Proof.Split.{by-test}
use Rattle.link.specs.declared.Link.{Link}
use Rattle.symbol.specs.declared.Row.{Row}
use Rattle.symbol.specs.Codes.{successor}
use Rattle.symbol_resolution.specs.Decision.{Decision}
use Rattle.symbol_resolution.specs.Apply.{Table, append_of, apply_of}
use Rattle.symbol_resolution.specs.Proof.Outcomes.{decision-left}
use Rattle.symbols.specs.Add.{add_row_of, decided_of}
use Rattle.symbols.specs.Proof.AddOutcomes.{added-left}
use Rattle.interner_laws.proofs.Interns.{keep-untouched}
use Rattle.symbol_laws.specs.History.{State, table, store, Part, issue, put, id_of, part_next}
use Rattle.merge_laws.proofs.Issue.{keep-sections, keep-symbols}
use Rattle.merge_laws.specs.Steps.{Step, part, mark, others, step_next, Goes, AllGo, run_steps, Makes}

-- no count falls
pub record More (k l : Link) : Type 0 where
  pub names : k.names ≤ l.names
  pub bytes : k.bytes ≤ l.bytes
  pub symbols : k.symbols ≤ l.symbols
  pub sections : k.sections ≤ l.sections
  -- a new table's numbers stay
  pub slots : l.slots ≡ k.slots
  pub chains : l.chains ≡ k.chains

pub more-none : (l : Link) → More l l
more-none l = record { names = le_refl _; bytes = le_refl _; symbols = le_refl _; sections = le_refl _; slots = refl; chains = refl }

pub more-both : (k l m : Link) → More k l → More l m → More k m
more-both k l m p q =
    record {
      names = le_trans p.names q.names;
      bytes = le_trans p.bytes q.bytes;
      symbols = le_trans p.symbols q.symbols;
      sections = le_trans p.sections q.sections;
      slots = q.slots ∙ p.slots;
      chains = q.chains ∙ p.chains;
    }

applied-more : (t : Table) (r : Row) (d : Decision) → More t.link (apply_of t r d).link
unfolding append_of successor
applied-more t r d =
    decision-left (λ (u : Table). More t.link u.link) t r (more-none t.link)
    (record {
      names = le_refl _;
      bytes = le_refl _;
      symbols = by-test (ltb t.link.symbols 0xffffffffffffffff) (λ a. rw a (omega arith)) (λ a. rw a (le_refl _));
      sections = le_refl _;
      slots = refl;
      chains = refl;
    })
    (λ id x. more-none t.link) d

put-more : (t : Table) (r : Row) → More t.link (add_row_of t r None).table.link
put-more t r = added-left t r None (λ (u : Table). More t.link u.link) (more-none t.link) (applied-more t r (decided_of t r None))

part-more : (p : Part) (s : State) → More s.link (part_next p s).link
part-more (issue x) s =
    let u = keep-untouched (store s) (id_of s x) x in
    let e : (part_next (issue x) s).link.symbols ≡ s.link.symbols = keep-symbols (store s) (id_of s x) x in
    let f : (part_next (issue x) s).link.sections ≡ s.link.sections = keep-sections (store s) (id_of s x) x in
    record {
      names = u.more-names;
      bytes = u.more_bytes;
      symbols = omega arith;
      sections = omega arith;
      slots = ap (λ (l : Link). l.slots) u.others;
      chains = ap (λ (l : Link). l.chains) u.others;
    }
part-more (put r from) s = put-more (table s) r

pub step-more : (k : Step) (s : State) → Goes k s → More s.link (step_next k s).link
step-more (part p) s g = part-more p s
step-more (mark n) s g = more-none s.link
step-more (others x l) s g = record { names = le_refl _; bytes = le_refl _; symbols = le_refl _; sections = g.0; slots = refl; chains = refl }

pub steps-more : (ks : List Step) (s : State) → AllGo ks s → More s.link (run_steps ks s).link
steps-more [] s g = more-none s.link
steps-more (k ∷ ks) s g =
    more-both s.link (step_next k s).link (run_steps ks (step_next k s)).link (step-more k s g.0) (steps-more ks (step_next k s) g.1)

pub makes-more : (s t : State) (ks : List Step) → Makes s ks t → s.link.sections ≤ t.link.sections
makes-more s t ks m = subst (λ (u : State). s.link.sections ≤ u.link.sections) m.leads (steps-more ks s m.accepted).sections

pub makes-slots : (s t : State) (ks : List Step) → Makes s ks t → t.link.slots ≡ s.link.slots
makes-slots s t ks m = subst (λ (u : State). u.link.slots ≡ s.link.slots) m.leads (steps-more ks s m.accepted).slots
