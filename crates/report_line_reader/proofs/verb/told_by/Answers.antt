use Rattle.std.proofs.Common.{◌∙◌, ap, sym}
use Rattle.report_line_reader.specs.declared.verb.Verb.{Verb}
use Rattle.report_line_reader.specs.Reading.{told_by}
use Rattle.report_line_reader.proofs.FormLemmas.{void-read}
use Rattle.report_line_reader.proofs.verb.told_by.Goals as goal

pub returns-in-Post : goal.returns-in-Post
returns-in-Post c = c.post.ensures c.args.bulk.now ∙ ap (λ (v : Verb). told_by c.args.desc.now v c.args.words.now) (sym c.in-Post.is)

pub returns-in-Drop : goal.returns-in-Drop
returns-in-Drop c = c.dropped.ensures c.args.bulk.now ∙ ap (λ (v : Verb). told_by c.args.desc.now v c.args.words.now) (sym c.in-Drop.is)

pub returns-in-Start : goal.returns-in-Start
returns-in-Start c = c.started.ensures c.args.desc.now c.args.bulk.now ∙ ap (λ (v : Verb). told_by c.args.desc.now v c.args.words.now) (sym c.in-Start.is)

pub returns-in-Ask : goal.returns-in-Ask
returns-in-Ask c = c.ask.ensures c.args.bulk.now ∙ ap (λ (v : Verb). told_by c.args.desc.now v c.args.words.now) (sym c.in-Ask.is)

pub returns-in-Answer : goal.returns-in-Answer
returns-in-Answer c = c.answer.ensures c.args.desc.now c.args.bulk.now ∙ ap (λ (v : Verb). told_by c.args.desc.now v c.args.words.now) (sym c.in-Answer.is)

pub returns-in-Halt : goal.returns-in-Halt
returns-in-Halt c = c.halted.ensures c.args.desc.now c.args.bulk.now ∙ ap (λ (v : Verb). told_by c.args.desc.now v c.args.words.now) (sym c.in-Halt.is)

pub returns-in-Fault : goal.returns-in-Fault
returns-in-Fault c = c.faulted.ensures c.args.desc.now c.args.bulk.now ∙ ap (λ (v : Verb). told_by c.args.desc.now v c.args.words.now) (sym c.in-Fault.is)

pub returns-in-Reset : goal.returns-in-Reset
returns-in-Reset c = c.at_end.ensures c.args.bulk.now ∙ ap (λ (v : Verb). told_by c.args.desc.now v c.args.words.now) (sym c.in-Reset.is)

pub returns-in-Void : goal.returns-in-Void
returns-in-Void c =
    c.void.ensures c.args.bulk.now ∙ void-read c.args.desc.now c.args.words.now ∙ ap (λ (v : Verb). told_by c.args.desc.now v c.args.words.now) (sym c.in-Void.is)

pub returns-in-Interval : goal.returns-in-Interval
returns-in-Interval c = c.interval.ensures c.args.desc.now c.args.bulk.now ∙ ap (λ (v : Verb). told_by c.args.desc.now v c.args.words.now) (sym c.in-Interval.is)

pub returns-in-Keep : goal.returns-in-Keep
returns-in-Keep c = c.at_end-in-Keep.ensures c.args.bulk.now ∙ ap (λ (v : Verb). told_by c.args.desc.now v c.args.words.now) (sym c.in-Keep.is)

pub returns-in-Sent : goal.returns-in-Sent
returns-in-Sent c = c.sent.ensures c.args.desc.now c.args.bulk.now ∙ ap (λ (v : Verb). told_by c.args.desc.now v c.args.words.now) (sym c.in-Sent.is)

pub returns-in-Lost : goal.returns-in-Lost
returns-in-Lost c = c.lost.ensures c.args.desc.now c.args.bulk.now ∙ ap (λ (v : Verb). told_by c.args.desc.now v c.args.words.now) (sym c.in-Lost.is)

pub returns-in-Got : goal.returns-in-Got
returns-in-Got c = c.got.ensures c.args.desc.now c.args.bulk.now ∙ ap (λ (v : Verb). told_by c.args.desc.now v c.args.words.now) (sym c.in-Got.is)

pub returns-in-Noise : goal.returns-in-Noise
returns-in-Noise c = c.noise.ensures c.args.desc.now c.args.bulk.now ∙ ap (λ (v : Verb). told_by c.args.desc.now v c.args.words.now) (sym c.in-Noise.is)
