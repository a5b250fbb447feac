use Rattle.audit_programs.proofs.KeptLemmas.{finished}
use Rattle.audit_programs.proofs.ready.ReadyProgram.finish.Goals as goal

pub returns-clause-outcome : goal.returns-clause-outcome
returns-clause-outcome c = λ answers taken.
    finished c.args.self.now.code c.args.turns c.args.run.now c.go_on.new.self answers c.shape-verified.ensures.verified c.go_on.ensures.run c.go_on.ensures.moves c.go_on.ensures.stops taken

pub returns-clause-program : goal.returns-clause-program
returns-clause-program c = c.go_on.ensures.moves.same.program
