use Rattle.command_laws.proofs.ScriptLemmas.{TextLaws, spells, accepted, means}
use Rattle.command_laws.proofs.expanded_texts.text_law.Goals as goal

pub returns : goal.returns
returns c =
    let laws : TextLaws = record {
      kinds = c.print_law.ensures.kinds;
      tokens = c.print_law.ensures.tokens;
      line = c.print_law.ensures.line;
      script = c.print_law.ensures.script;
      one_tree = c.verdict_law.ensures.one_tree;
    } in
    record { spells = spells laws; accepted = accepted laws; means = means laws }
