use Rattle.std.proofs.Common.{◌∙◌, refl}
use Rattle.ts_trees.specs.Cut.{in_name, word_kind}
use Rattle.ts_lexer.proofs.StepLemmas.{fits_front, front_passes, word_steps, long_word_due}
use Rattle.ts_lexer.proofs.scanner.Scanner.word.Goals as goal

pub returns-then-len-gt-NAME_MAX : goal.returns-then-len-gt-NAME_MAX
returns-then-len-gt-NAME_MAX c = long_word_due c.args.self.now c.name_len-len.result c.requires c.name_len-len.ensures c.if-len-gt-NAME_MAX.true

pub take-requires : goal.take-requires
take-requires c = fits_front in_name c.args.self.now.rest.now c.name_len-len.result c.name_len-len.ensures

pub name_text-text-requires : goal.name_text-text-requires
name_text-text-requires c = front_passes in_name c.args.self.now.rest.now c.take.result.now c.name_len-len.result c.name_len-len.ensures c.take.ensures.bytes

pub returns : goal.returns
returns c =
    word_steps c.args.self.now c.take.new.self c.push.new.self c.name_len-len.result c.name_text-text.result.now (word_kind c.name_text-text.result.now) c.push.result c.requires c.name_len-len.ensures c.if-len-gt-NAME_MAX.false c.take.ensures.takes
    (c.name_text-text.ensures ∙ c.take.ensures.bytes) refl (c.push.ensures (word_kind c.name_text-text.result.now) c.word.ensures)
