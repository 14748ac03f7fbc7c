-- The refusal of each fault. Assumes nothing.
use Rattle.card.specs.declared.refusal.Refusal.{Refusal}
use Rattle.card.specs.declared.refusal.Refusal.TheVariants as refusal
use Rattle.reading.specs.declared.fault.Fault.{Fault}
use Rattle.reading.specs.declared.fault.Fault.TheVariants.{NameTooLong, UnknownName, ConstantOpened, BracketMissing, TooManyChildren, TooFewChildren, TooDeep, TooManyPlaces, UnboundVariable, WrongByte, EarlyEnd, TooManyLines, DigitTooLarge, NameTaken, LoneVariable}

abbrev pub refusal_of : Fault → Refusal
refusal_of NameTooLong = refusal.Malformed
refusal_of UnknownName = refusal.UnknownName
refusal_of ConstantOpened = refusal.WrongChildren
refusal_of BracketMissing = refusal.WrongChildren
refusal_of TooManyChildren = refusal.WrongChildren
refusal_of TooFewChildren = refusal.WrongChildren
refusal_of TooDeep = refusal.TooDeep
refusal_of TooManyPlaces = refusal.OverLimit
refusal_of UnboundVariable = refusal.UnboundVariable
refusal_of WrongByte = refusal.Malformed
refusal_of EarlyEnd = refusal.Malformed
refusal_of TooManyLines = refusal.OverLimit
refusal_of DigitTooLarge = refusal.OverLimit
refusal_of NameTaken = refusal.NameTaken
refusal_of LoneVariable = refusal.LoneVariable
