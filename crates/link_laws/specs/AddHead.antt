-- What an add asks for before its rules: 22 and 1 are given otherwise.
-- Assumes nothing.
use Rattle.std.specs.Prelude.{◌≡◌, true, false}
use Rattle.link.specs.declared.Link.{Link}
use Rattle.upcoming_symbol.specs.declared.UpcomingSymbol.{UpcomingSymbol}
use Rattle.upcoming_symbol.specs.Judge.{in_range}

abbrev pub IsWhole : Link → Type 0
IsWhole l = l.broken ≡ false

abbrev pub IsInRange : UpcomingSymbol → Type 0
IsInRange u = in_range u ≡ true
