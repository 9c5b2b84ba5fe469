-- The numbers of the kinds of refusals.
use Rattle.std.specs.Prelude.{ℕ, nat_le, if◌then◌else◌}
use Rattle.conc_types.specs.declared.kind.RefusalKind.{RefusalKind}
use Rattle.conc_types.specs.declared.kind.RefusalKind.TheVariants as refused

abbrev pub number_of : RefusalKind → ℕ
number_of refused.NotToml = 1
number_of refused.UnknownKey = 2
number_of refused.Missing = 3
number_of refused.WrongKind = 4
number_of refused.Duplicate = 5
number_of refused.UnknownName = 6
number_of refused.OutOfRange = 7
number_of refused.BadShift = 8
number_of refused.BackLink = 9
number_of refused.TooMany = 10
number_of refused.NotCsv = 20
number_of refused.UnknownWord = 21
number_of refused.BadField = 22
number_of refused.UnknownItem = 23
number_of refused.UnknownRequest = 24
number_of refused.MomentBack = 25
number_of refused.TooManyLines = 26
number_of refused.ClockBack = 27
number_of refused.NoHeader = 30
number_of refused.RaggedRow = 31
number_of refused.DuplicateColumn = 32
number_of refused.TooLarge = 33
number_of refused.UnknownTable = 40
number_of refused.UnknownColumn = 41
number_of refused.TooManyRequests = 42
number_of refused.BadTarget = 43
number_of refused.NotExclusive = 44
number_of refused.NotRepeats = 50
number_of refused.BadRepeat = 51
number_of refused.UnknownUnit = 52
number_of refused.PastEnd = 53
number_of refused.TooManyCommands = 54
number_of refused.NotParts = 60
number_of refused.BadPart = 61
number_of refused.UnknownPart = 62
number_of refused.ListedTwice = 63
number_of refused.NotListed = 64
number_of refused.Gap = 65

-- the one of two kinds that has the lesser number
abbrev pub lesser_of : RefusalKind → RefusalKind → RefusalKind
lesser_of kind other = if nat_le (number_of kind) (number_of other) then kind else other
