use Rattle.std.proofs.Common.{List, ℕ, ◌++◌, codes, ap, sym, ◌∙◌, rules, FitsSigned}
use Rattle.std.specs.Int.{w16}
use Rattle.report_writer.specs.Words.{number, word, values, entry_words}
use Rattle.report_writer.proofs.ChunkLemmas.{◌⋙◌, IsInFront-by, IsInFront-value}
use Rattle.report_writer.proofs.entry_line.short_in_front.Goals as goal

pub returns-in-Post-clause-adds : goal.returns-in-Post-clause-adds
returns-in-Post-clause-adds c = λ log.
    let named = ap (λ (w : List ℕ). codes " post" ++ number c.in-Post.inv ++ word w ++ number c.in-Post.ctx.0) c.handler_name.ensures.value in
    IsInFront-by (sym (ap (entry_words c.args.desc.now log) c.in-Post.is))
    (IsInFront-by named c.post_in_front.ensures.adds ⋙ IsInFront-by (ap values c.as_slice.ensures.value) c.values_in_front.ensures.adds)

pub returns-in-Dropped-clause-adds : goal.returns-in-Dropped-clause-adds
returns-in-Dropped-clause-adds c = λ log.
    IsInFront-by (sym (ap (entry_words c.args.desc.now log) c.in-Dropped.is))
    (c.text.ensures.adds ⋙ IsInFront-by (ap word c.handler_name-in-Dropped.ensures.value) c.word_in_front-in-Dropped.ensures.adds
    ⋙ IsInFront-by (ap word (c.as_bytes.ensures.value ∙ c.drop_word.ensures)) c.word_in_front.ensures.adds)

pub returns-in-Start-clause-adds : goal.returns-in-Start-clause-adds
returns-in-Start-clause-adds c = λ log. IsInFront-by (sym (ap (entry_words c.args.desc.now log) c.in-Start.is)) c.numbered.ensures.adds

pub returns-in-Ask-clause-adds : goal.returns-in-Ask-clause-adds
returns-in-Ask-clause-adds c = λ log.
    IsInFront-by (sym (ap (entry_words c.args.desc.now log) c.in-Ask.is))
    (c.numbered-in-Ask.ensures.adds ⋙ IsInFront-by (ap word c.function_name.ensures.value) c.word_in_front-in-Ask.ensures.adds
    ⋙ IsInFront-by (ap values c.as_slice-in-Ask.ensures.value) c.values_in_front-in-Ask.ensures.adds)

pub returns-in-Answer-clause-adds : goal.returns-in-Answer-clause-adds
returns-in-Answer-clause-adds c = λ log.
    let fits : FitsSigned w16 c.in-Answer.value = search rules in
    IsInFront-by (sym (ap (entry_words c.args.desc.now log) c.in-Answer.is))
    (c.numbered-in-Answer.ensures.adds ⋙ IsInFront-value c.in-Answer.value fits c.value_in_front.ensures.adds)

pub returns-in-Halt-clause-adds : goal.returns-in-Halt-clause-adds
returns-in-Halt-clause-adds c = λ log. IsInFront-by (sym (ap (entry_words c.args.desc.now log) c.in-Halt.is)) c.numbered-in-Halt.ensures.adds

pub returns-in-Fault-clause-adds : goal.returns-in-Fault-clause-adds
returns-in-Fault-clause-adds c = λ log.
    IsInFront-by (sym (ap (entry_words c.args.desc.now log) c.in-Fault.is))
    (c.numbered-in-Fault.ensures.adds ⋙ IsInFront-by (ap word (c.as_bytes-in-Fault.ensures.value ∙ c.fault_word.ensures)) c.word_in_front-in-Fault.ensures.adds)

pub returns-in-Reset-clause-adds : goal.returns-in-Reset-clause-adds
returns-in-Reset-clause-adds c = λ log. IsInFront-by (sym (ap (entry_words c.args.desc.now log) c.in-Reset.is)) c.text-in-Reset.ensures.adds

pub returns-in-Void-clause-adds : goal.returns-in-Void-clause-adds
returns-in-Void-clause-adds c = λ log.
    IsInFront-by (sym (ap (entry_words c.args.desc.now log) c.in-Void.is)) (c.text-in-Void.ensures.adds ⋙ c.void_in_front.ensures.adds)
