use Rattle.std.proofs.Common.{sym, refl}
use Rattle.ts_trees.specs.declared.token.TokenKind.TheVariants as kind
use Rattle.ts_trees.specs.Cut.{is_digit}
use Rattle.ts_lexer.proofs.WordLemmas.{same_in}
use Rattle.ts_lexer.proofs.StepLemmas.{fits_front, front_passes, number_steps, big_literal_due, letter_due}
use Rattle.ts_lexer.proofs.scanner.Scanner.number.Goals as goal

pub take-requires : goal.take-requires
take-requires c = fits_front is_digit c.args.self.now.rest.now c.digits_len-len.result c.digits_len-len.ensures

pub literal_value-requires : goal.literal_value-requires
literal_value-requires c = front_passes is_digit c.args.self.now.rest.now c.take.result.now c.digits_len-len.result c.digits_len-len.ensures c.take.ensures.bytes

pub returns-in_default : goal.returns-in_default
returns-in_default c = big_literal_due c.args.self.now c.digits_len-len.result c.take.result.now c.requires c.digits_len-len.ensures c.take.ensures.bytes c.in_default.ensures

pub returns-then-begins_with_letter : goal.returns-then-begins_with_letter
returns-then-begins_with_letter c =
    letter_due c.args.self.now c.take.new.self c.digits_len-len.result c.take.result.now c.in-Some.value c.requires c.digits_len-len.ensures c.take.ensures.takes c.take.ensures.bytes c.in-Some.ensures
    (sym c.if-begins_with_letter.ensures)

pub returns : goal.returns
returns c =
    number_steps c.args.self.now c.take.new.self c.push.new.self c.digits_len-len.result c.take.result.now c.in-Some.value c.push.result c.requires c.digits_len-len.ensures c.take.ensures.takes c.take.ensures.bytes
    c.in-Some.ensures (sym c.if-begins_with_letter.ensures)
    (c.push.ensures (kind.Num c.in-Some.value) (same_in c.take.new.self.dialect (kind.Num c.in-Some.value) refl))
