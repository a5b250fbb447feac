use Rattle.std.proofs.Common.{◌++◌, ◌∷◌, []}
use Rattle.mate_code.specs.declared.instr.Instr.TheVariants.{Drop, Fun}
use Rattle.ts_checked.specs.Expression.{arguments}
use Rattle.ts_checked.specs.TreeOf.{args_trees}
use Rattle.ts_semantics.specs.Translation.{args_code}
use Rattle.ts_compiler.proofs.PartLemmas.{◌⟫◌, room_first, room_second}
use Rattle.ts_compiler.proofs.emitter.Emitter.call_alone.Goals as goal

pub call-requires : goal.call-requires
call-requires c = room_first (args_code (arguments (args_trees c.args.args.now)) ++ Fun c.args.fun ∷ []) (Drop ∷ []) c.requires

pub push-requires : goal.push-requires
push-requires c = room_second (Drop ∷ []) c.call.ensures c.requires

pub returns : goal.returns
returns c = c.call.ensures ⟫ c.push.ensures
