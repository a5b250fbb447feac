use Rattle.std.proofs.Common.{◌==◌, sym}
use Rattle.std.proofs.lemmas.Bool.{eq-eqb}
use Rattle.ts_trees.specs.Cut.{is_blank, is_digit, begins_name}
use Rattle.ts_lexer.specs.Spans.{begins_sign}
use Rattle.ts_lexer.proofs.StepLemmas.{first_begins}
use Rattle.ts_lexer.proofs.SignLemmas.{others_begin_signs}
use Rattle.ts_lexer.proofs.scanner.Scanner.step.Goals as goal

pub blank-requires : goal.blank-requires
blank-requires c = first_begins is_blank c.args.self.now.rest.now c.args.first c.requires (sym c.if-is_blank.ensures)

pub comment-requires : goal.comment-requires
comment-requires c = first_begins (λ b. b == 33) c.args.self.now.rest.now c.args.first c.requires (eq-eqb c.args.first 33 c.if-first-eq33.true)

pub word-requires : goal.word-requires
word-requires c = first_begins begins_name c.args.self.now.rest.now c.args.first c.requires (sym c.if-is_letter.ensures)

pub number-requires : goal.number-requires
number-requires c = first_begins is_digit c.args.self.now.rest.now c.args.first c.requires (sym c.if-is_digit.ensures)

pub sign-requires : goal.sign-requires
sign-requires c =
    first_begins begins_sign c.args.self.now.rest.now c.args.first c.requires
    (others_begin_signs c.args.first (sym c.if-is_blank.ensures) c.if-first-eq33.false (sym c.if-is_letter.ensures) (sym c.if-is_digit.ensures))
