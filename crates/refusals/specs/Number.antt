-- The number of each rule: in document 01, 1 to 13 are from the input and 20 to 25 from the state; in document 02, 26
-- and 27 are of the list of minimal cut sets, 28 is of a sheet, 29 and 30 are of work windows, and 31 is of the mirror.
use Rattle.std.specs.Prelude.{ℕ}
use Rattle.refusals.specs.declared.rule.Rule.{Rule}
use Rattle.refusals.specs.declared.rule.Rule.TheVariants as rule

abbrev pub number_of : Rule → ℕ
number_of rule.TooShort = 1
number_of rule.WrongLetters = 2
number_of rule.WrongVersion = 3
number_of rule.WrongCount = 4
number_of rule.WrongLength = 5
number_of rule.UnknownKind = 6
number_of rule.WrongField = 7
number_of rule.WrongLink = 8
number_of rule.LinkedBefore = 9
number_of rule.NumberOrder = 10
number_of rule.WrongTerm = 11
number_of rule.NobodySpoke = 12
number_of rule.WrongLevel = 13
number_of rule.ShortStore = 20
number_of rule.NoTree = 21
number_of rule.NoSheet = 22
number_of rule.Changed = 23
number_of rule.OtherTree = 24
number_of rule.ShortSlice = 25
number_of rule.ManyEvents = 26
number_of rule.ShortList = 27
number_of rule.WrongFractions = 28
number_of rule.WrongBook = 29
number_of rule.ShortBuffer = 30
number_of rule.ShortMirror = 31
