-- The causes of document 01's table of refusals, and the number of each.
-- Assumes nothing.
use Rattle.std.specs.Prelude.{ℕ}
use Rattle.link.specs.declared.cause.Cause.{Cause}

abbrev pub number_of : Cause → ℕ
number_of Cause.OutOfRange = 1
number_of Cause.NoRoom = 2
number_of Cause.UnsupportedKind = 3
number_of Cause.NotComdat = 4
number_of Cause.EmptyGroup = 5
number_of Cause.SignatureSymbolMissing = 6
number_of Cause.SignatureStringMissing = 7
number_of Cause.LocalInRemovedSection = 8
number_of Cause.SymbolNameMissing = 9
number_of Cause.UnsupportedVisibility = 10
number_of Cause.LocalHidden = 11
number_of Cause.UnsupportedBinding = 12
number_of Cause.Common = 13
number_of Cause.SectionWithoutId = 14
number_of Cause.FileSymbol = 15
number_of Cause.UnsupportedType = 16
number_of Cause.DuplicateStrong = 17
number_of Cause.SectionNameMissing = 18
number_of Cause.RelocationSymbolWithoutId = 19
number_of Cause.NoIndex = 20
number_of Cause.AbsentId = 21
number_of Cause.BrokenLink = 22
number_of Cause.UnknownGlobalName = 23
number_of Cause.SecondSymbolTable = 24
number_of Cause.ArchivedLibraryWithoutSoname = 25
number_of Cause.NotAnObject = 26
number_of Cause.BadTable = 27
number_of Cause.CommonAlignment = 28
number_of Cause.SectionInTwoGroups = 29
number_of Cause.TooManySections = 30
number_of Cause.SumTooLarge = 31
