use Rattle.std.proofs.Common.{◌++◌, ◌∷◌, [], List, ap, ◌∙◌, append_assoc}
use Rattle.mate_journal.specs.declared.program.Program.{Program}
use Rattle.command_programs.proofs.MadeLemmas.{AreOf-more}
use Rattle.command_programs.proofs.made.add_version.Goals as goal

pub loop-handler-preserved : goal.loop-handler-preserved
loop-handler-preserved c =
    let i = c.loop-handler.invariant in
    let p = c.in_ok-program.program in
    record {
      more = i.more ++ p ∷ [];
      is = c.in_ok-push.ensures.items ∙ ap (λ (ps : List Program). ps ++ p ∷ []) i.is ∙ append_assoc c.args.programs.now i.more (p ∷ []);
      are = AreOf-more c.args.desc.now c.args.fold c.args.version c.args.source.now c.loop-handler.handler i.more p i.are c.in_ok-program.ensures.does c.in_ok-program.ensures.right;
    }
