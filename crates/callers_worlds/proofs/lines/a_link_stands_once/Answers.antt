use Rattle.std.proofs.Common.{List, ℕ, ap, ◌∙◌}
use Rattle.script_steps.specs.Lines.{split_words}
use Rattle.script_reader.specs.Draft.{world_progress_of, world_said_of}
use Rattle.script_reader.specs.WorldLines.{WorldProgress, a_world_line}
use Rattle.callers_worlds.specs.Lines.{linked_world}
use Rattle.callers_worlds.proofs.LineLemmas.{refused_line, linked_already}
use Rattle.callers_worlds.proofs.lines.a_link_stands_once.Goals as goal

pub returns : goal.returns
returns c =
    let d = c.args.desc.now in
    refused_line _ (a_world_line d (world_progress_of c.args.draft.now)) _ _ (world_said_of c.command.new.said) c.command.result
    (ap (λ (p : WorldProgress). a_world_line d p (split_words c.of.result)) c.requires.progress ∙ ap (λ (bytes : List ℕ). a_world_line d linked_world (split_words bytes)) c.of.ensures ∙ linked_already d)
    c.command.ensures.value
