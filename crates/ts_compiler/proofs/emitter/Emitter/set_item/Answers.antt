use Rattle.std.proofs.Common.{◌++◌, ◌∷◌, []}
use Rattle.mate_code.specs.declared.instr.Instr.TheVariants.{BSet}
use Rattle.ts_checked.specs.TreeOf.{expr_tree}
use Rattle.ts_semantics.specs.Translation.{expr_code}
use Rattle.ts_compiler.proofs.PartLemmas.{◌⟫◌, room_first, room_second}
use Rattle.ts_compiler.proofs.emitter.Emitter.set_item.Goals as goal

pub expr-requires : goal.expr-requires
expr-requires c = room_first (expr_code (expr_tree c.args.index.now)) (expr_code (expr_tree c.args.value.now) ++ BSet c.args.buffer ∷ []) c.requires

pub expr_then-requires : goal.expr_then-requires
expr_then-requires c = room_second (expr_code (expr_tree c.args.value.now) ++ BSet c.args.buffer ∷ []) c.expr.ensures c.requires

pub returns : goal.returns
returns c = c.expr.ensures ⟫ c.expr_then.ensures
