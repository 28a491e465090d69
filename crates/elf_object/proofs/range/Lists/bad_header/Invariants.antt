use Rattle.std.proofs.Common.{◌≡◌, ◌-◌}
use Rattle.elf_object.specs.Rows.{rows_in}
use Rattle.elf_object.specs.Judge.{first_bad, header_ok, bad_header}
use Rattle.elf_object.proofs.range.Lists.bad_header.Given as goal

abbrev pub invariant-loop-n : goal.invariant-loop-n
invariant-loop-n l = bad_header l.headers l.self.entries l.self.contents l.self.image ≡ first_bad (header_ok l.headers l.self.entries l.self.contents l.self.image) l.n (rows_in l.headers - l.n)
