use Rattle.std.proofs.Common.{◌<◌, length, subst, arith}
use Rattle.world_run_laws.specs.Coming.{code_world}
use Rattle.world_state.specs.Telling.{LogsAreKept}
use Rattle.world_state.proofs.MotesLemmas.{first-mote, at-mote}
use Rattle.world_runs.proofs.EndingLemmas.{start-goes, start-fails}
use Rattle.world_runs.proofs.pieces.write_start.Goals as goal

pub write_piece-requires : goal.write_piece-requires
write_piece-requires g c =
    let count = c.requires.stands.nodes in
    let some = c.requires.right.world.nodes_low in
    let low : 0 < length c.args.sim.now.motes.items = omega (arith, count, some) in
    low

pub returns-in-Ok-clause-writes : goal.returns-in-Ok-clause-writes
returns-in-Ok-clause-writes g c =
    let count = c.requires.stands.nodes in
    let some = c.requires.right.world.nodes_low in
    let low : 0 < length c.args.sim.now.motes.items = omega (arith, count, some) in
    let m = first-mote c.args.sim.now.motes.items 0 low in
    let found = at-mote c.args.sim.now.motes.items 0 low in (
      subst LogsAreKept c.as_slice.ensures.value c.logs_are_kept.ensures,
      start-goes c.args.desc.now c.args.world.now c.args.programs.now (c.text_grows_by_events.ensures.starts (code_world c.args.desc.now c.args.world.now c.args.programs.now)) c.args.sim.now c.requires.stands m found _ _ _ _
          c.requires.whole (c.in-Ok.ensures m found),
    )

pub returns-in-Err-clause-writes : goal.returns-in-Err-clause-writes
returns-in-Err-clause-writes g c =
    let count = c.requires.stands.nodes in
    let some = c.requires.right.world.nodes_low in
    let low : 0 < length c.args.sim.now.motes.items = omega (arith, count, some) in
    let m = first-mote c.args.sim.now.motes.items 0 low in
    let found = at-mote c.args.sim.now.motes.items 0 low in
    start-fails c.args.desc.now c.args.world.now c.args.programs.now (c.text_grows_by_events.ensures.starts (code_world c.args.desc.now c.args.world.now c.args.programs.now)) c.args.sim.now c.requires.stands m found
    (subst LogsAreKept c.as_slice.ensures.value c.logs_are_kept.ensures) c.in-Err.fault c.stopped.result _ _ _ _ c.requires.whole (c.in-Err.ensures m found) c.stopped.ensures

pub returns-in-Ok-clause-later : goal.returns-in-Ok-clause-later
returns-in-Ok-clause-later g c =
    let count = c.requires.stands.nodes in
    let some = c.requires.right.world.nodes_low in
    let low : 0 < length c.args.sim.now.motes.items = omega (arith, count, some) in
    (c.in-Ok.ensures (first-mote c.args.sim.now.motes.items 0 low) (at-mote c.args.sim.now.motes.items 0 low)).later

pub returns-in-Err-clause-later : goal.returns-in-Err-clause-later
returns-in-Err-clause-later g c =
    let count = c.requires.stands.nodes in
    let some = c.requires.right.world.nodes_low in
    let low : 0 < length c.args.sim.now.motes.items = omega (arith, count, some) in
    (c.in-Err.ensures (first-mote c.args.sim.now.motes.items 0 low) (at-mote c.args.sim.now.motes.items 0 low)).later
