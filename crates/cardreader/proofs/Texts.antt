-- The laws of card texts. Assumes nothing.
use Rattle.std.proofs.Common.{ap, ◌∙◌, subst, arith}
use Rattle.cardtext.specs.Cleaning.{cleaned}
use Rattle.cardtext.specs.Lines.{lines}
use Rattle.cardtext.proofs.Cleaning.{cleaning_twice_is_cleaning_once}
use Rattle.cardreader.specs.CardTexts.{symbol_lines}
use Rattle.cardreader.specs.TextLaws.{CleanedTextSaysTheSame, RefusedLineStandsInTheText, OtherRecordsStay}
use Rattle.cardreader.proofs.Placed.{Placed, symbols_placed}
use Rattle.cardreader.proofs.Untouched.{Stay, symbols_stay}

pub cleaned_text_says_the_same : CleanedTextSaysTheSame
cleaned_text_says_the_same ss rs text = ap (λ t. symbol_lines ss 0 rs 0 (lines t)) (cleaning_twice_is_cleaning_once text)

pub refused_line_stands_in_the_text : RefusedLineStandsInTheText
refused_line_stands_in_the_text ss rs text f k e =
    let p = subst (Placed 0 (lines (cleaned text))) e (symbols_placed (lines (cleaned text)) ss 0 rs 0) in
    record { index = p.index; counted = p.counted ∙ omega arith; within = p.within; not_empty = p.not_empty }

pub other_records_stay : OtherRecordsStay
other_records_stay ss ss' rs rs' text c e =
    let p = subst (Stay 0 0 ss rs) e (symbols_stay (lines (cleaned text)) ss 0 rs 0) in
    (p.symbols, p.rules)
