use Rattle.std.proofs.Common.{◌≡◌, ◌∙◌, Option, true≢false, sym, subst}
use Rattle.std.specs.Prelude.{IsSomeAnd, slice_index_or}
use Rattle.mate_journal.specs.Journal.{no_image}
use Rattle.audit_programs.specs.declared.ready.ReadyProgram.{ReadyProgram}
use Rattle.audit_programs.proofs.FindLemmas.{image-at}
use Rattle.audit_programs.proofs.ready_roll.ReadyRoll.is_ready.Goals as goal

pub returns-in-Some : goal.returns-in-Some
returns-in-Some c = λ same.
    let images = c.args.trial.now.log.now.images in
    let i = c.args.image in
    subst (λ (o : Option ReadyProgram). IsSomeAnd o (λ r. r.program.now.image ≡ slice_index_or images i no_image)) c.in-Some.ensures
    (c.has_image.ensures same ∙ image-at images c.images.result.now i c.index-images-image.result c.images.ensures c.requires c.index-images-image.is)

pub returns-in-None : goal.returns-in-None
returns-in-None c = λ same. absurd (true≢false (sym same))
