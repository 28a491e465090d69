use Rattle.std.proofs.Common.{◌≡◌, length, ◌+◌, ◌-◌, ◌≤◌}
use Rattle.std.proofs.lemmas.List.Edits.{sets}
use Rattle.archive_walk.specs.Lent.{as_table}
use Rattle.shadowed_members.specs.Shadowed.{told_at, those}
use Rattle.shadowed_members.specs.Marks.{is_marked}
use Rattle.shadowed_members.proofs.tell.Given as goal

abbrev pub invariant-loop-k : goal.invariant-loop-k
invariant-loop-k l =
    let told = told_at l.entries.index.now l.entries.cells.now (as_table l.table) (is_marked l.offered.0) in
    record {
      cells : sets l.initial.told 0 (those told 0 l.count) ≡ sets l.told l.n (those told l.k (l.count - l.k));
      many : length (those told 0 l.count) ≡ l.n + length (those told l.k (l.count - l.k));
      room : l.n ≤ l.k;
    }
