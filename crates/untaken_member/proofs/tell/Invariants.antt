use Rattle.std.proofs.Common.{◌≡◌, length, ◌+◌, ◌-◌, ◌*◌, ◌≤◌}
use Rattle.std.proofs.lemmas.List.Edits.{sets}
use Rattle.elf_object.specs.Rows.{rows_in}
use Rattle.archive_walk.specs.Lent.{as_table}
use Rattle.untaken_member.specs.Untaken.{told_at, told_from}
use Rattle.untaken_member.specs.Contract.{symbols_in}
use Rattle.untaken_member.proofs.tell.Given as goal

abbrev pub invariant-loop-i : goal.invariant-loop-i
invariant-loop-i l =
    let told = told_at (symbols_in l.object) (as_table l.table) in
    let count = rows_in l.object.entries.now in
    record {
      cells : sets l.initial.told 0 (told_from told 0 count) ≡ sets l.told l.at (told_from told l.i (count - l.i));
      many : length (told_from told 0 count) ≡ l.at + length (told_from told l.i (count - l.i));
      room : l.at ≤ 2 * l.i;
    }
