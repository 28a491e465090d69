use Rattle.std.proofs.Common.{◌≡◌, ◌-◌, length}
use Rattle.archive_index.specs.Archives.{archives_in, member_from, member_of}
use Rattle.archive_index.proofs.several.Archives.member.Given as goal

abbrev pub invariant-loop-j : goal.invariant-loop-j
invariant-loop-j l = member_of (archives_in l.self) l.e ≡ member_from (archives_in l.self) (length l.self.ends.now - l.j) l.j l.at
