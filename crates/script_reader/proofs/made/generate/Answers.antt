use Rattle.std.proofs.Common.{◌∙◌, ◌*◌, [], replicate, ap}
use Rattle.script_reader.proofs.RightLemmas.{right_parts}
use Rattle.script_reader.proofs.made.generate.Goals as goal

pub returns-clause-right : goal.returns-clause-right
returns-clause-right c =
    right_parts c.args.desc.now c.args.number c.node_count-nodes.result c.len-handlers.result c.in_ok-links.links c.new.result c.in_ok-events.events c.in_ok-files.files
    c.node_count-nodes.ensures.value c.in_ok-links.ensures c.new.ensures c.len-handlers.ensures.value c.in_ok-events.ensures (c.in_ok-files.ensures ∙ ap (λ n. replicate (2 * n) []) c.len.ensures.value)
