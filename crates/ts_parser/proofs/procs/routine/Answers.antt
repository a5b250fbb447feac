use Rattle.std.proofs.Common.{List, refl}
use Rattle.ts_trees.specs.declared.dialect.Dialect.TheVariants as dialect
use Rattle.ts_trees.specs.declared.stmt.Stmt.{Stmt}
use Rattle.ts_trees.specs.declared.token.TokenKind.TheVariants as kind
use Rattle.ts_trees.specs.Seen.{acts_of}
use Rattle.ts_trees.specs.Tree.{no_acts}
use Rattle.ts_trees.specs.Machine.{State, block, procedure, proc_ended}
use Rattle.ts_statements.specs.Blocks.{FrameIn, LacksStmt}
use Rattle.ts_parser.specs.Scripts.{Routine, routine_due, routine_read}
use Rattle.ts_parser.proofs.ScriptLemmas.{routine_in, routine_open, routine_end, routine_named, routine_left}
use Rattle.ts_statements.proofs.EndedLemmas.{ended_over, ended_reads}
use Rattle.ts_parser.proofs.procs.routine.Goals as goal

pub returns-clause-reads : goal.returns-clause-reads
returns-clause-reads c =
    let closes : List Stmt → Routine → State = λ b k. proc_ended (procedure k.header.name k.params (acts_of b)) k.header.decls k.header.procs in
    ended_reads {X = List Stmt} {K = Routine} {L = Routine} kind.Proc c.args.tokens.now c.args.tokens.now (λ k. routine_due k) closes (λ k. routine_due k) (λ b k. routine_read k (acts_of b)) (λ k. k) (λ k. refl)
    (λ b vs ws s k. routine_named s (procedure k.header.name k.params (acts_of b)) k.header.decls k.header.procs) (λ b vs rest l k. routine_left l (procedure k.header.name k.params (acts_of b)) k.header.decls k.header.procs)
    c.ended-body.result c.ended.result
    (ended_over {X = List Stmt} {K = FrameIn dialect.Procedures} {L = Routine} kind.End (λ vs. LacksStmt dialect.Procedures vs) c.args.tokens.now c.args.tokens.now
    (λ f. block no_acts f.frame) (λ b f. block (acts_of b) f.frame) (λ k. routine_due k) closes routine_in (λ k. refl)
    (λ b vs ws s k. routine_end s (acts_of b) k.header.name k.params k.header.decls k.header.procs) (λ b vs rest o l k. routine_open o l (acts_of b) k)
    c.block.result c.ended-body.result c.block.ensures.reads c.block.ensures.over c.ended-body.ensures)
    c.ended.ensures
