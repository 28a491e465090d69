use Rattle.std.proofs.Common.{◌∙◌, sym}
use Rattle.name_index.specs.Proof.Ways.{row-placed, row-known}
use Rattle.name_index.proofs.index.IndexMut.put_row.Goals as goal

pub returns-in-Err-clause-put : goal.returns-in-Err-clause-put
returns-in-Err-clause-put c =
    c.insert.ensures.inserted
    ∙ sym (row-placed _ _ _ _ _ (λ e. c.if-scope_at-eq-LOCAL.false (c.scope_at.ensures ∙ e)) c.if-self-count.false c.if-id-gt-MOST_ID.false
    c.name.ensures c.seek.ensures.met c.in-Err.place c.in-Err.is)

pub returns-in_default-clause-put : goal.returns-in_default-clause-put
returns-in_default-clause-put c =
    sym (row-known _ _ _ _ _ (λ e. c.if-scope_at-eq-LOCAL.false (c.scope_at.ensures ∙ e)) c.if-self-count.false c.if-id-gt-MOST_ID.false
    c.name.ensures c.seek.ensures.met _ c.in_default.is)
