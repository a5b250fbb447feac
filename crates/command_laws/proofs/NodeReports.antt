-- What a node tells of the steps of a script keeps each law.
use Rattle.std.proofs.Common.{◌≡◌, ◌<◌, ℕ, zero, suc, ◌+◌, List, [], ◌∷◌, ◌++◌, length, map, append-nil, sym, ◌∙◌, subst, arith, inl, inr, ◌⊎◌}
use Rattle.std.specs.Prelude.{IfSome, slice_get}
use Rattle.vm_shape.specs.declared.description.Description.{Description}
use Rattle.mate_journal.specs.Journal.{JournalEntry, TimedEntry, NodeState, first_state, next_state, state_after_entries, journal_of, AtEachEntry}
use Rattle.mate_journal.specs.Log.{Log}
use Rattle.mate_journal.specs.Machine.{Machine}
use Rattle.mate_journal.specs.NodeReport.{IsNodeReport}
use Rattle.mate_journal.specs.NodeRun.{IsNodeRun}
use Rattle.mate_journal.specs.NodeScript.{Step, Install, Post, StepIn, Run, Answer, Show, ResetNode, Installs, IsNotNewer, AnswersCall, IsNotWaiting, Makes, made_at, HaveMade, RunEnd, Whole, Full, Cut, EndsRun, IsRunOf}
use Rattle.mate_journal.specs.Pace.{Pace, no_pace}
use Rattle.mate_journal.specs.declared.program.Program.{Program}
use Rattle.mate_journal.specs.declared.report.Report.{Report}
use Rattle.node_programs.specs.Sources.{meaning_by}
use Rattle.journal_laws.proofs.Settling.{turn-of_turns, settles-of_turns}
use Rattle.journal_laws.proofs.Plain.{turns-plain, occasion-plain, NoneInstall, plains-none}
use Rattle.audit_rules.specs.Laws.{InstallsProgram, machine_by}
use Rattle.audit_rules.specs.Verdicts.{LogKeepsAll, IsVerdict}
use Rattle.mate_journal.specs.declared.law.Verdict.TheVariants.{Serial}
use Rattle.command_laws.specs.NodeInstalls.{IsInstallOf, InstallPrograms}
use Rattle.command_laws.proofs.Told.{InstallsRight, none-right, install-right, keeps-all}

-- ---- what a step tells

step-right : (ps : List Program) (m : Machine) (r : NodeState) (p : Pace) (step : Step) (told : List JournalEntry) (q : Pace) → IsInstallOf ps step → Makes m r p step told q → InstallsRight ps m r told
step-right ps m r p (Install x) told q is made = by made.0 where
  by : Installs m r p x told ⊎ IsNotNewer r x told → InstallsRight ps m r told
  by (inl i) = install-right ps m r p x told is i
  by (inr n) = none-right ps m r told (subst NoneInstall (sym n.made) (tt, tt))
step-right ps m r p (Post h payload) told q is made = none-right ps m r told (plains-none told (occasion-plain m r h payload told made.0))
step-right ps m r p (StepIn c n) told q is (inl t) = none-right ps m r told (plains-none told (turns-plain told (turn-of_turns m r p n (record { invocation = t.invocation; told = told }) t.turn)))
step-right ps m r p (StepIn c n) told q is (inr x) = none-right ps m r told (subst NoneInstall (sym x.0.made) (tt, tt))
step-right ps m r p Run told q is made = none-right ps m r told (plains-none told (turns-plain told (settles-of_turns m r p told q made)))
step-right ps m r p (Answer c value) told q is made = by made.0 where
  by : AnswersCall r c value told ⊎ IsNotWaiting r c told → InstallsRight ps m r told
  by (inl a) = none-right ps m r told (subst NoneInstall (sym a.made) (tt, tt))
  by (inr n) = none-right ps m r told (subst NoneInstall (sym n.made) (tt, tt))
step-right ps m r p Show told q is made = none-right ps m r told (subst NoneInstall (sym made.0.made) (tt, tt))
step-right ps m r p ResetNode told q is made = none-right ps m r told (subst NoneInstall (sym made.0.made) (tt, (tt, tt)))

-- ---- the run

-- what a step made, and then the rest
step-then : (ps : List Program) (m : Machine) (n : ℕ) (r : NodeState) (es : List TimedEntry) (told : List JournalEntry) (rest : List TimedEntry) → es ≡ map (made_at n) told ++ rest → InstallsRight ps m r told
    → AtEachEntry (InstallsProgram ps) m (state_after_entries m r told) rest → AtEachEntry (InstallsProgram ps) m r es
step-then ps m n r es told rest is right later = subst (λ (all : List TimedEntry). AtEachEntry (InstallsProgram ps) m r all) (sym is) (go r told right later) where
  go : (r : NodeState) (told : List JournalEntry) → InstallsRight ps m r told → AtEachEntry (InstallsProgram ps) m (state_after_entries m r told) rest → AtEachEntry (InstallsProgram ps) m r (map (made_at n) told ++ rest)
  go r [] right later = later
  go r (t ∷ ts) right later = (right.0, go (next_state m r t) ts right.1 later)

ends-right : (ps : List Program) (m : Machine) (how : RunEnd) (left : List Step) (records n : ℕ) (r : NodeState) (p : Pace) (es : List TimedEntry) → EndsRun m how left records n r p es → AtEachEntry (InstallsProgram ps) m r es
ends-right ps m Whole left records n r p es (none, told, shows, is) = step-then ps m n r es told [] (is ∙ sym (append-nil (map (made_at n) told))) (none-right ps m r told (subst NoneInstall (sym shows.made) (tt, tt))) tt
ends-right ps m Full left records n r p es ends = subst (λ (all : List TimedEntry). AtEachEntry (InstallsProgram ps) m r all) (sym ends.2) tt
ends-right ps m Cut left records n r p es ends = subst (λ (all : List TimedEntry). AtEachEntry (InstallsProgram ps) m r all) (sym ends) tt

made-right : (ps : List Program) (m : Machine) (how : RunEnd) (left : List Step) (records n : ℕ) (r : NodeState) (p : Pace) (steps : List Step) (es : List TimedEntry) → InstallPrograms ps (steps ++ left) → HaveMade (EndsRun m how left) m records n r p steps es
    → AtEachEntry (InstallsProgram ps) m r es
made-right ps m how left records n r p [] es install made = ends-right ps m how left records n r p es made
made-right ps m how left records n r p (step ∷ steps) es install (few, told, rest, then, is, makes, later) =
    step-then ps m n r es told rest is (step-right ps m r p step told then install.0 makes)
    (made-right ps m how left (records + length told) (suc n) (state_after_entries m r told) then steps rest install.1 later)

run-right : (ps : List Program) (m : Machine) (how : RunEnd) (steps : List Step) (es : List TimedEntry) → InstallPrograms ps steps → IsRunOf m how steps es → AtEachEntry (InstallsProgram ps) m (first_state m) es
run-right ps m how steps es install run = made-right ps m how run.left 0 1 (first_state m) no_pace run.done es (subst (InstallPrograms ps) run.steps_are install) run.made

node-keeps : (d : Description) (ps : List Program) (how : RunEnd) (steps : List Step) (l : Log) → InstallPrograms ps steps → IsNodeRun (machine_by d ps) how steps l → LogKeepsAll d ps l
node-keeps d ps how steps l install run =
    keeps-all d ps l run.well_formed (run-right ps (machine_by d ps) how steps (journal_of l) install run.events) run.serial run.stores run.grants run.devices

one-node : (d : Description) (ps : List Program) (l : Log) (k : ℕ) → LogKeepsAll d ps l → k < length (l ∷ []) → IfSome (slice_get (l ∷ []) k) (LogKeepsAll d ps)
one-node d ps l zero keeps low = keeps
one-node d ps l (suc k) keeps low = absurd (omega (arith, low))

pub node-serial : (d : Description) (ps : List Program) (steps : List Step) (how : RunEnd) (r : Report) → InstallPrograms ps steps → IsNodeReport d (meaning_by d ps) steps how r → IsVerdict d ps r Serial
node-serial d ps steps how r install is =
    subst (λ (logs : List Log). (n : ℕ) → n < length logs → IfSome (slice_get logs n) (LogKeepsAll d ps)) (sym is.one_node)
    (λ n low. one-node d ps is.log n (node-keeps d ps how steps is.log install is.run) low)
