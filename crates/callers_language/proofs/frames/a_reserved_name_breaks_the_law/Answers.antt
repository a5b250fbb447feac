use Rattle.std.proofs.Common.{◌≡◌, [], pos, refl, ap}
use Rattle.std.specs.Fmt.{digits}
use Rattle.std.specs.Int.{int_wrap}
use Rattle.mate_num.specs.Store.{payload, zero_store}
use Rattle.mate_num.specs.declared.call.End.TheVariants.{Fault, Halt}
use Rattle.mate_num.specs.declared.call.FaultKind.TheVariants.{DivZero}
use Rattle.mate_num.specs.declared.outcome.Outcome.{Outcome}
use Rattle.ts_checked.specs.Expression.{Num, Private, Two}
use Rattle.ts_checked.specs.Statement.{Block, no_statements, statement, Set}
use Rattle.ts_checked.specs.declared.bin_op.BinOp.TheVariants.{Div}
use Rattle.ts_checked.specs.declared.checked_stmt.CVar.TheVariants as variable
use Rattle.callers_language.proofs.frames.a_reserved_name_breaks_the_law.Goals as goal

-- `_0 = 0; _0 = 1 / _0;` of the private variable that the parameter is
expanded : Block
expanded =
    statement (Set (variable.Private 0) (Num (pos 0)))
    (statement (Set (variable.Private 0) (Two Div (Num (pos 1)) (Private 0))) no_statements)

pub returns : goal.returns
unfolding expanded int_wrap digits
returns c = λ law.
    let same : Fault DivZero ≡ Halt = ap (λ (o : Outcome). o.end) (law c.args.machine.now expanded refl (zero_store 0 0) (payload []) [] 0) in absurd (cc)
