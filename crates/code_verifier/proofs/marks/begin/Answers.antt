use Rattle.std.proofs.Common.{◌∙◌, ap, length, List}
use Rattle.mate_code.specs.Verification.{Marks, mark}
use Rattle.code_verifier.specs.Marks.{marks_in}
use Rattle.code_verifier.specs.declared.marks.Mark.{Mark}
use Rattle.code_verifier.proofs.MarkLemmas.{marks_in-blank}
use Rattle.code_verifier.proofs.marks.begin.Goals as goal

pub returns : goal.returns
returns c =
    let blank = c.fill.ensures.after (λ y same. same) in
    c.give.ensures ∙ ap (λ (marks : Marks). mark 0 0 marks) (ap (λ (marks : List Mark). marks_in marks) blank ∙ marks_in-blank (length c.args.marks.now))
