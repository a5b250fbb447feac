-- One start after another.
use Rattle.std.proofs.Common.{refl, sym, ◌∙◌, subst, arith}
use Rattle.node_state.specs.declared.parts.Parts.{Parts}
use Rattle.node_state.specs.Starting.{StartsAll}
use Rattle.node_state.proofs.StartingLemmas.{StartsSome-none, StartsSome-then, room-next}
use Rattle.node_state.proofs.starting.start_all.Goals as goal

pub loop-at-init : goal.loop-at-init
loop-at-init c = record { starts = StartsSome-none c.args.description.now c.args.parts.now c.args.at c.requires.starting c.requires.timely; gone = refl }

pub loop-at-preserved : goal.loop-at-preserved
loop-at-preserved c = record {
  starts = StartsSome-then c.args.description.now c.args.parts.now c.loop-at.parts c.start_next.new.parts c.args.at c.loop-at.invariant.starts c.loop-at-test.ensures.starts;
  gone = c.loop-at-test.ensures.gone ∙ c.loop-at.invariant.gone;
}

pub start_next-requires-clause-room : goal.start_next-requires-clause-room
start_next-requires-clause-room c = room-next c.args.description.now c.args.parts.now c.loop-at.parts c.args.at c.loop-at.invariant.starts c.requires.room

pub start_next-requires-clause-starting : goal.start_next-requires-clause-starting
start_next-requires-clause-starting c = c.loop-at.invariant.starts.starting

pub start_next-requires-clause-timely : goal.start_next-requires-clause-timely
start_next-requires-clause-timely c = c.loop-at.invariant.starts.grows.timely

pub returns-clause-gone : goal.returns-clause-gone
returns-clause-gone c = c.loop-at-test.ensures.gone ∙ c.loop-at.invariant.gone

pub loop-at-smaller : goal.loop-at-smaller
loop-at-smaller c = let owed = c.loop-at-test.ensures.starts.owed in omega (arith, owed)

pub returns-clause-starts : goal.returns-clause-starts
returns-clause-starts c =
    let none = c.loop-at-test.ensures.starts in
    let P : Parts → Type 0 = λ s. StartsAll c.args.description.now c.args.parts.now s c.args.at in
    subst P (sym none.same) (record { some = c.loop-at.invariant.starts; held = none.held })
