use Rattle.ts_checked.specs.TreeOf.{block_tree}
use Rattle.ts_compiler.proofs.PartLemmas.{script_room, halt_room, script_writes}
use Rattle.ts_compiler.proofs.emitter.Emitter.of.Goals as goal

pub block-requires : goal.block-requires
block-requires c = script_room (block_tree c.args.body.now) c.new-emitter.ensures c.requires

pub push-requires : goal.push-requires
push-requires c = halt_room (block_tree c.args.body.now) c.new-emitter.ensures c.requires c.block.ensures

pub returns : goal.returns
returns c = script_writes (block_tree c.args.body.now) c.new-emitter.ensures c.block.ensures c.push.ensures
