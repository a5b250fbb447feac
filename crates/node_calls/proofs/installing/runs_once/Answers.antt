-- The kind is that of the machine's handler.
use Rattle.std.proofs.Common.{ap, ◌∙◌, length, refl, arith}
use Rattle.node_calls.proofs.PostingLemmas.{runs_once-read, not-once}
use Rattle.node_calls.proofs.installing.runs_once.Goals as goal

pub bounds-as_slice-from : goal.bounds-as_slice-from
bounds-as_slice-from c =
    let number = c.from.ensures in
    let same = ap length c.as_slice.ensures.value in
    let below = c.requires in
    omega (arith, number, same, below)

pub bounds : goal.bounds
bounds c =
    let number = c.from.ensures in
    let same = ap length c.as_slice.ensures.value in
    let below = c.requires in
    omega (arith, number, same, below)

pub returns-in-Once : goal.returns-in-Once
returns-in-Once c = runs_once-read c.args.description.now c.as_slice.result.now c.args.handler c.from.result _ c.in-Once.is c.as_slice.ensures.value c.from.ensures c.requires

pub returns-in-Plain : goal.returns-in-Plain
returns-in-Plain c = not-once c.in-Plain.is ∙ runs_once-read c.args.description.now c.as_slice.result.now c.args.handler c.from.result _ refl c.as_slice.ensures.value c.from.ensures c.requires
