-- The number of each refusal. Assumes nothing.
use Rattle.std.specs.Prelude.{ℕ}
use Rattle.card.specs.declared.refusal.Refusal.{Refusal}
use Rattle.card.specs.declared.refusal.Refusal.TheVariants.{NoSuchTin, EmptyTin, BudgetTooLarge, TextTooLong, Malformed, UnknownName, WrongChildren, TooDeep, NoRoom, BufferTooShort, OverLimit, NameTaken, LoneVariable, UnboundVariable, BrokenTable}

abbrev pub number_of : Refusal → ℕ
number_of NoSuchTin = 1
number_of EmptyTin = 2
number_of BudgetTooLarge = 3
number_of TextTooLong = 4
number_of Malformed = 5
number_of UnknownName = 6
number_of WrongChildren = 7
number_of TooDeep = 8
number_of NoRoom = 9
number_of BufferTooShort = 10
number_of OverLimit = 11
number_of NameTaken = 12
number_of LoneVariable = 13
number_of UnboundVariable = 14
number_of BrokenTable = 15
