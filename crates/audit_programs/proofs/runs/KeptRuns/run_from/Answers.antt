use Rattle.std.proofs.Common.{List, [], length, pos, sym, ◌∙◌, ap}
use Rattle.std.proofs.lemmas.List.{length-replicate}
use Rattle.mate_num.specs.Store.{payload}
use Rattle.mate_num.specs.declared.call.Call.{Call}
use Rattle.mate_num.specs.declared.shape.Shape.{Shape}
use Rattle.audit_rules.specs.Views.{seat_in}
use Rattle.audit_programs.specs.Kept.{answers_to}
use Rattle.audit_programs.proofs.KeptLemmas.{kept-serves, seat-runs, on-ok}
use Rattle.audit_programs.proofs.runs.KeptRuns.run_from.Goals as goal

pub run-requires-clause-lengths : goal.run-requires-clause-lengths
run-requires-clause-lengths c =
    let d = c.args.trial.now.desc.now in
    let shape = c.program_of.ensures.code.shape in
    record {
      shared = c.requires.lengths.shared ∙ length-replicate (length d.shared.items) (pos 0) ∙ sym (ap (λ (s : Shape). s.shared) shape);
      buffers = c.requires.lengths.buffers ∙ length-replicate (length d.buffers.items) (payload []) ∙ sym (ap (λ (s : Shape). s.buffers) shape);
    }

pub run-requires-clause-kept : goal.run-requires-clause-kept
run-requires-clause-kept c =
    let d = c.args.trial.now.desc.now in
    let i = (seat_in c.args.trial.now.log.now.images c.args.seat.now).invocation in
    kept-serves d c.take-kept.result c.program_of.result.now i.program c.program_of.ensures (c.take-kept.ensures d c.requires.kept).0

pub returns-clause-run : goal.returns-clause-run
returns-clause-run c =
    let d = c.args.trial.now.desc.now in
    let i = (seat_in c.args.trial.now.log.now.images c.args.seat.now).invocation in
    seat-runs d c.args.store.now i c.program_of.result.now (answers_to c.as_slice.result.now) c.run.result c.program_of.ensures
    (ap (λ (cs : List Call). answers_to cs) c.as_slice.ensures) c.run.ensures.run c.run.ensures.calls

pub returns-clause-kept : goal.returns-clause-kept
returns-clause-kept c = on-ok c.run.result (c.take-kept.ensures c.args.trial.now.desc.now c.requires.kept).1
