use Rattle.std.proofs.Common.{◌≡◌, ℕ, ◌+◌, ◌<◌, List, [], ◌++◌, option_to_list, Option, None, length, get_or, drop, Ok, Err, sym, ◌∙◌, ap, subst, arith}
use Rattle.std.specs.Prelude.{All, IsErrAnd}
use Rattle.std.proofs.lemmas.List.{append-nil}
use Rattle.std.proofs.lemmas.List.Elements.{All-get_or}
use Rattle.mate_journal.specs.declared.program.Program.{Program}
use Rattle.command_refusals.specs.declared.refusal.Refusal.{Refusal}
use Rattle.command_refusals.specs.declared.refusal.Refusal.TheVariants.{NoMemory}
use Rattle.command_steps.specs.Parts.{Folder}
use Rattle.command_steps.specs.Steps.{goes_on}
use Rattle.command_steps.proofs.Laws.{stops_by, moved, reads-then, reads-as, reads-err}
use Rattle.node_programs.specs.Right.{IsRightProgram}
use Rattle.script_steps.specs.Steps.{IsRightStep}
use Rattle.script_steps.specs.declared.steps.Step.{Step}
use Rattle.command_programs.specs.Known.{AreKnown}
use Rattle.command_programs.specs.Programs.{step_program, programs_after, Owing}
use Rattle.command_programs.proofs.StepLaws.{at_end, at_step, gives-nothing, step_wants, All-with}
use Rattle.node_programs.specs.ScriptSteps.{AreProgramsOf}
use Rattle.command_programs.proofs.ReadLemmas.{if-err}
use Rattle.command_programs.proofs.EachLemmas.{are_made}
use Rattle.command_programs.proofs.programs.programs_of.Goals.{then-names_file+in_ok-program+in_ok-push, else-names_file}
use Rattle.command_programs.proofs.programs.programs_of.Goals as goal

pub returns-in_err-program-clause-does : goal.returns-in_err-program-clause-does
returns-in_err-program-clause-does g c =
    let f : Folder = record { told = g.F.Files.contents c.args.files.now; steady = g.F.Files.steady c.args.files.now } in
    let d = c.args.desc.now in
    let s = c.args.script.now in
    let i = c.loop-step.step-index in
    let x : Step = c.step-item.result in
    let e = c.in_err-program.field-0.0 in
    let low : i < length s.steps = subst (λ (l : List Step). i < length l) c.steps-steps.ensures c.loop-step-test.true in
    let is : x ≡ get_or s.steps i x = c.step-item.is ∙ ap (λ (l : List Step). get_or l i x) c.steps-steps.ensures in
    let does = subst (λ (names : List (List ℕ)). step_program f d c.args.fold names x (Err e)) c.files-names.ensures
    (moved (λ h. step_program h d c.args.fold c.files-names.result.now x (Err e)) c.loop-step.invariant.reads c.in_err-program.ensures.does) in
    at_step f d c.args.fold s c.loop-step.programs i x x low is c.loop-step.invariant.owing c.from_residual.result
    (stops_by e c.from_residual.result does c.from_residual.ensures.1)

pub returns-in_err-push-clause-does : goal.returns-in_err-push-clause-does
returns-in_err-push-clause-does g c =
    let f : Folder = record { told = g.F.Files.contents c.args.files.now; steady = g.F.Files.steady c.args.files.now } in
    let d = c.args.desc.now in
    let s = c.args.script.now in
    let i = c.loop-step.step-index in
    let x : Step = c.step-item.result in
    let answer = c.from_residual-in_err-push.result in
    let low : i < length s.steps = subst (λ (l : List Step). i < length l) c.steps-steps.ensures c.loop-step-test.true in
    let is : x ≡ get_or s.steps i x = c.step-item.is ∙ ap (λ (l : List Step). get_or l i x) c.steps-steps.ensures in
    let wants = subst (λ (r : Refusal). IsErrAnd answer (λ y. y ≡ r)) c.in_err-push.ensures.memory c.from_residual-in_err-push.ensures.1 in
    at_step f d c.args.fold s c.loop-step.programs i x x low is c.loop-step.invariant.owing answer
    (stops_by NoMemory answer (step_wants f d c.args.fold s.files x) wants)

pub step_program-requires-clause-right : goal.step_program-requires-clause-right
step_program-requires-clause-right g c =
    let d = c.args.desc.now in
    let s = c.args.script.now in
    let i = c.loop-step.step-index in
    let x : Step = c.step-item.result in
    let low : i < length s.steps = subst (λ (l : List Step). i < length l) c.steps-steps.ensures c.loop-step-test.true in
    let is : x ≡ get_or s.steps i x = c.step-item.is ∙ ap (λ (l : List Step). get_or l i x) c.steps-steps.ensures in
    let right = All-get_or (IsRightStep d (length s.files)) s.steps i x low c.requires.right.each in
    subst (λ (names : List (List ℕ)). IsRightStep d (length names) x) (sym c.files-names.ensures) (subst (IsRightStep d (length s.files)) (sym is) right)

pub loop-step-preserved : goal.loop-step-preserved
loop-step-preserved g c =
    let f : Folder = record { told = g.F.Files.contents c.args.files.now; steady = g.F.Files.steady c.args.files.now } in
    let d = c.args.desc.now in
    let s = c.args.script.now in
    let i = c.loop-step.step-index in
    let x : Step = c.step-item.result in
    let r = c.loop-step.invariant.reads in
    let low : i < length s.steps = subst (λ (l : List Step). i < length l) c.steps-steps.ensures c.loop-step-test.true in
    let is : x ≡ get_or s.steps i x = c.step-item.is ∙ ap (λ (l : List Step). get_or l i x) c.steps-steps.ensures in
    let owing : (o : Option Program) → c.if-names_file.programs ≡ c.loop-step.programs ++ option_to_list o → step_program f d c.args.fold s.files x (Ok o)
    → Owing f d c.args.fold s c.if-names_file.programs (drop (i + 1) s.steps) =
    λ o items does. record {
      owed = λ answer left.
          at_step f d c.args.fold s c.loop-step.programs i x x low is c.loop-step.invariant.owing answer
          (goes_on o does (subst (λ (ps : List Program). programs_after f d c.args.fold s.files ps (drop (i + 1) s.steps) answer) items left));
    } in
    elim c.if-names_file.branch [
      | then-names_file+in_ok-program+in_ok-push w ↦
          (let o = w.in_ok-program.program in
          let t = w.in_ok-program.ensures.reads in
          let items = w.programs-is ∙ w.in_ok-push.ensures.items in
          record {
            owing = owing o items
                (subst (λ (names : List (List ℕ)). step_program f d c.args.fold names x (Ok o)) c.files-names.ensures
                (moved (λ h. step_program h d c.args.fold c.files-names.result.now x (Ok o)) r w.in_ok-program.ensures.does));
            reads = record {
              same_told = ap g.F.Files.contents w.files-is ∙ t.same_told ∙ r.same_told;
              same_steady = ap g.F.Files.steady w.files-is ∙ t.same_steady ∙ r.same_steady;
              later = omega (arith, r.later, t.later, ap g.F.Files.faults w.files-is);
              counted = λ unread. absurd unread;
            };
            right = subst (All (IsRightProgram d)) (sym items) (All-with (IsRightProgram d) c.loop-step.programs o c.loop-step.invariant.right w.in_ok-program.ensures.right);
            known = subst (AreKnown d c.args.fold) (sym w.known-is) w.in_ok-program.ensures.known;
          })
      | else-names_file w ↦ record {
        owing = owing None (w.programs-is ∙ sym (append-nil c.loop-step.programs)) (gives-nothing f d c.args.fold s.files x (sym c.names_file.ensures ∙ w.if-names_file.false));
        reads = record {
          same_told = ap g.F.Files.contents w.files-is ∙ r.same_told;
          same_steady = ap g.F.Files.steady w.files-is ∙ r.same_steady;
          later = omega (arith, r.later, ap g.F.Files.faults w.files-is);
          counted = λ unread. absurd unread;
        };
        right = subst (All (IsRightProgram d)) (sym w.programs-is) c.loop-step.invariant.right;
        known = subst (AreKnown d c.args.fold) (sym w.known-is) c.loop-step.invariant.known;
      }
    ]

pub returns-clause-does : goal.returns-clause-does
returns-clause-does g c =
    let f : Folder = record { told = g.F.Files.contents c.args.files.now; steady = g.F.Files.steady c.args.files.now } in
    let past = c.loop-step-test.false in
    let same = ap (λ (l : List Step). length l) c.steps-steps.ensures in
    at_end f c.args.desc.now c.args.fold c.args.script.now c.loop-step.programs c.loop-step.step-index (omega (arith, past, same)) c.loop-step.invariant.owing

pub returns-clause-programs : goal.returns-clause-programs
returns-clause-programs g c =
    let f : Folder = record { told = g.F.Files.contents c.args.files.now; steady = g.F.Files.steady c.args.files.now } in
    let d = c.args.desc.now in
    let s = c.args.script.now in
    let ps = c.loop-step.programs in
    let past = c.loop-step-test.false in
    let same = ap (λ (l : List Step). length l) c.steps-steps.ensures in
    let does = at_end f d c.args.fold s ps c.loop-step.step-index (omega (arith, past, same)) c.loop-step.invariant.owing in
    let made = are_made f d c.args.fold s.files [] s.steps (length s.files) ps c.requires.in_order does in
    record { steps = c.requires.right; programs = c.loop-step.invariant.right; count = made.count; each = made.each }

pub returns-in_err-program-clause-reads : goal.returns-in_err-program-clause-reads
returns-in_err-program-clause-reads g c =
    reads-err c.in_err-program.field-0.0 c.from_residual.result (reads-then c.loop-step.invariant.reads c.in_err-program.ensures.reads) c.from_residual.ensures.1

pub returns-in_err-program-clause-programs : goal.returns-in_err-program-clause-programs
returns-in_err-program-clause-programs g c = if-err (AreProgramsOf c.args.desc.now c.args.script.now) c.in_err-program.field-0.0 c.from_residual.result c.from_residual.ensures.1

pub returns-in_err-push-clause-reads : goal.returns-in_err-push-clause-reads
returns-in_err-push-clause-reads g c =
    let answer = c.from_residual-in_err-push.result in
    let wants = subst (λ (r : Refusal). IsErrAnd answer (λ y. y ≡ r)) c.in_err-push.ensures.memory c.from_residual-in_err-push.ensures.1 in
    reads-err {A = List Program} NoMemory answer (reads-then c.loop-step.invariant.reads (reads-as {x = Ok c.in_ok-program.program} c.in_ok-program.ensures.reads (λ unread. unread))) wants

pub returns-in_err-push-clause-programs : goal.returns-in_err-push-clause-programs
returns-in_err-push-clause-programs g c = if-err (AreProgramsOf c.args.desc.now c.args.script.now) c.in_err-push.field-0.0 c.from_residual-in_err-push.result c.from_residual-in_err-push.ensures.1

pub returns-clause-reads : goal.returns-clause-reads
returns-clause-reads g c = reads-as c.loop-step.invariant.reads (λ unread. unread)
