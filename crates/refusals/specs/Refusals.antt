-- The refusals: each has a number and a word.
use Rattle.std.specs.Prelude.{ℕ, List, codes}
use Rattle.refusals.specs.declared.Refusal.{Refusal}
use Rattle.refusals.specs.declared.Refusal.TheVariants.{BadLine, StrayField, BadName, NameTwice, TooMany, TableFull, NoComponent, NoClause, NotIrrelevant, NotRedundant, NotFlat, NotAlike, NoInstallation, TooShort, SelfClash, TooLong}

-- its number in the rule book
abbrev pub number_of : Refusal → ℕ
number_of BadLine = 1
number_of StrayField = 2
number_of BadName = 3
number_of NameTwice = 4
number_of TooMany = 5
number_of TableFull = 6
number_of NoComponent = 7
number_of NoClause = 8
number_of NotIrrelevant = 9
number_of NotRedundant = 10
number_of NotFlat = 11
number_of NotAlike = 12
number_of NoInstallation = 13
number_of TooShort = 14
number_of SelfClash = 15
number_of TooLong = 16

-- its word, as bytes
abbrev pub word_of : Refusal → List ℕ
word_of BadLine = codes "bad-line"
word_of StrayField = codes "stray-field"
word_of BadName = codes "bad-name"
word_of NameTwice = codes "name-twice"
word_of TooMany = codes "too-many"
word_of TableFull = codes "table-full"
word_of NoComponent = codes "no-component"
word_of NoClause = codes "no-clause"
word_of NotIrrelevant = codes "not-irrelevant"
word_of NotRedundant = codes "not-redundant"
word_of NotFlat = codes "not-flat"
word_of NotAlike = codes "not-alike"
word_of NoInstallation = codes "no-installation"
word_of TooShort = codes "too-short"
word_of SelfClash = codes "self-clash"
word_of TooLong = codes "too-long"
