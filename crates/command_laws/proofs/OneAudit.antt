-- The command `audit` has one answer.
use Rattle.std.proofs.Common.{◌≡◌, inl, inr, ℕ, Bool, true, false, List, [], ◌∷◌, map, length, Option, Some, None, Result, Ok, Err, refl, sym, ◌∙◌, ap, subst}
use Rattle.std.specs.Prelude.{⊤, ◌||◌, codes, IsTrue, IfSome, IsSomeAnd, slice_get}
use Rattle.std.specs.Global.{Vec}
use Rattle.std.specs.List.{list_any}
use Rattle.command_laws.proofs.ReadBack.{same-journals}
use Rattle.mate_num.proofs.ListLemmas.{along-weaker}
use Rattle.audit_rules.specs.Laws.{InstallsProgram, KeepsLaw, machine_by}
use Rattle.audit_rules.specs.Verdicts.{LogKeeps, LogKeepsAll, LogFails, NodesKeep, IsVerdict, TellSameJournals}
use Rattle.audit_rules.proofs.ReportLemmas.{same-verdict}
use Rattle.audit_rules.proofs.VerdictLemmas.{one-verdict}
use Rattle.mate_journal.specs.declared.law.Law.{Law}
use Rattle.mate_journal.specs.declared.law.Law.TheVariants as law
use Rattle.mate_journal.specs.declared.law.Verdict.{Verdict}
use Rattle.mate_journal.specs.declared.law.Verdict.TheVariants as verdict
use Rattle.command_laws.specs.SameText.{SameText}
use Rattle.command_laws.proofs.OneCommand.{writes_agree}
use Rattle.command_laws.proofs.OneWorld.{world_text_agrees}
use Rattle.mate_cli.specs.Audit.{report_in, report_of_file, serial, audit_of, audit_by, audit}
use Rattle.command_documents.specs.Owed.{Owed, writes}
use Rattle.mate_files.specs.Files.{Names}
use Rattle.mate_journal.specs.Described.{machine_of}
use Rattle.mate_journal.specs.Journal.{JournalEntry, Posted, Dropped, Started, Asked, Answered, Ended, Installed, Reset, Seen, Void, TimedEntry, NodeState, first_state, journal_of}
use Rattle.mate_journal.specs.Log.{Log}
use Rattle.mate_journal.specs.Machine.{HeldProgram, Meaning}
use Rattle.mate_journal.specs.declared.program.Program.{Program}
use Rattle.mate_journal.specs.declared.report.Report.{Report}
use Rattle.command_refusals.specs.declared.refusal.Refusal.{Refusal}
use Rattle.command_steps.specs.OneAnswer.{AnswersAgree, steady}
use Rattle.command_steps.specs.Steps.{◌▸◌}
use Rattle.command_steps.proofs.OneAnswer.{SameBytes, then_agrees, judged_agrees, file_agrees, machine_agrees}
use Rattle.node_programs.specs.Sources.{is_held_as, meaning_by}
use Rattle.report_line_reader.specs.declared.line.Line.{Line}
use Rattle.report_text.specs.Parts.{report_of}
use Rattle.report_text.specs.Reads.{AreOfReport, IsBadLine}
use Rattle.report_text.specs.declared.last_line.LastLine.{LastLine}
use Rattle.report_text.proofs.VerdictLemmas.{one_list, one_bad_line, no_bad_line}
use Rattle.command_programs.specs.Programs.{script_programs}
use Rattle.command_programs.specs.SamePrograms.{SamePrograms}
use Rattle.command_programs.proofs.OnePrograms.{script_text_agrees, programs_agree}
use Rattle.command_programs.proofs.SameMeaning.{is_held-same, meaning-same}
use Rattle.script_steps.specs.Steps.{NodeScript}
use Rattle.vm_shape.specs.declared.description.Description.{Description}
use Rattle.command_programs.specs.Injected.{installs, world_programs}
use Rattle.command_programs.specs.Named.{is_of_world, programs_by, programs_named}
use Rattle.script_steps.specs.declared.world.World.{World}

-- ---- the programs

programs_by_agree : (names : Names) (d : Description) (fold of_world : Bool) (bytes : List ℕ) → AnswersAgree SamePrograms (programs_by of_world (steady names) d fold bytes) (programs_by of_world (steady names) d fold bytes)
programs_by_agree names d fold true bytes =
    then_agrees ◌≡◌ SamePrograms _ _ _ _ (world_text_agrees d bytes)
    (λ a b e. subst (λ (w : World). AnswersAgree SamePrograms (world_programs (steady names) d fold a) (world_programs (steady names) d fold w)) e (programs_agree names d fold (installs a)))
programs_by_agree names d fold false bytes =
    then_agrees ◌≡◌ SamePrograms _ _ _ _ (script_text_agrees d bytes)
    (λ a b e. subst (λ (s : NodeScript). AnswersAgree SamePrograms (script_programs (steady names) d fold a) (script_programs (steady names) d fold s)) e (programs_agree names d fold a))

pub named_agree : (names : Names) (d : Description) (fold : Bool) (name : List ℕ) → AnswersAgree SamePrograms (programs_named (steady names) d fold name) (programs_named (steady names) d fold name)
named_agree names d fold name = then_agrees SameBytes SamePrograms _ _ _ _ (file_agrees names name) with_bytes where
  of_bytes : List ℕ → Result (List Program) Refusal → Type 0
  of_bytes bytes = programs_by (is_of_world bytes) (steady names) d fold bytes

  with_bytes : (a b : Vec ℕ) → SameBytes a b → AnswersAgree SamePrograms (of_bytes a.items) (of_bytes b.items)
  with_bytes a b e = subst (λ (bytes : List ℕ). AnswersAgree SamePrograms (of_bytes a.items) (of_bytes bytes)) e (programs_by_agree names d fold (is_of_world a.items) a.items)

-- ---- the report

report_in_agrees : (d : Description) (bytes : List ℕ) → AnswersAgree TellSameJournals (report_in d bytes) (report_in d bytes)
report_in_agrees d bytes = judged_agrees TellSameJournals _ _ _ one not same where
  journals : List Line → LastLine → List (List TimedEntry)
  journals ls e = map journal_of (report_of ls e).nodes

  one : (a b : Report) → AreOfReport d bytes a → AreOfReport d bytes b → TellSameJournals a b
  one a b p q =
      let same = one_list d bytes p.ls q.ls p.e q.e p.lines q.lines in
      sym (same-journals a.nodes (report_of p.ls p.e).nodes p.is.nodes)
      ∙ ap (λ (ls : List Line). journals ls p.e) same.lines
      ∙ ap (λ (e : LastLine). journals q.ls e) same.last
      ∙ same-journals b.nodes (report_of q.ls q.e).nodes q.is.nodes

  not : (a : Report) (line : ℕ) → AreOfReport d bytes a → IsBadLine d bytes line → ⊥
  not a line p q = no_bad_line d bytes p.ls p.e line p.lines q

  same : (m n : ℕ) → IsBadLine d bytes m → IsBadLine d bytes n → m ≡ n
  same m n p q = one_bad_line d bytes m n p q

report_agrees : (names : Names) (d : Description) (name : List ℕ) → AnswersAgree TellSameJournals (report_of_file (steady names) d name) (report_of_file (steady names) d name)
report_agrees names d name = then_agrees SameBytes TellSameJournals _ _ _ _ (file_agrees names name) with_bytes where
  with_bytes : (a b : Vec ℕ) → SameBytes a b → AnswersAgree TellSameJournals (report_in d a.items) (report_in d b.items)
  with_bytes a b e = subst (λ (bytes : List ℕ). AnswersAgree TellSameJournals (report_in d a.items) (report_in d bytes)) e (report_in_agrees d a.items)

-- ---- the verdict

-- a held program is one of the same programs
held-same : (ps qs : List Program) → SamePrograms ps qs → (h : HeldProgram) → list_any (is_held_as h) ps ≡ list_any (is_held_as h) qs
held-same [] [] same h = refl
held-same [] (q ∷ qs) same h = absurd same
held-same (p ∷ ps) [] same h = absurd same
held-same (p ∷ ps) (q ∷ qs) same h =
    ap (λ (b : Bool). b || list_any (is_held_as h) ps) (is_held-same p q same.0 h) ∙ ap (λ (b : Bool). is_held_as h q || b) (held-same ps qs same.1 h)

-- programs that mean the same, and are held as the same
record CantBeToldApart (d : Description) (ps qs : List Program) : Type 0 where
  meaning : meaning_by d ps ≡ meaning_by d qs
  held : (h : HeldProgram) → list_any (is_held_as h) ps ≡ list_any (is_held_as h) qs

turned : (d : Description) (ps qs : List Program) → CantBeToldApart d ps qs → CantBeToldApart d qs ps
turned d ps qs same = record { meaning = sym same.meaning; held = λ h. sym (same.held h) }

module _ (d : Description) (ps qs : List Program) (same : CantBeToldApart d ps qs) where
  installs-too : (r : NodeState) (t : JournalEntry) → InstallsProgram ps r t → InstallsProgram qs r t
  installs-too r (Installed p) is = (subst IsTrue (same.held p) is.0, is.1)
  installs-too r _ is = tt

  by-meaning : (law : Law) (es : List TimedEntry) → KeepsLaw (machine_by d ps) ps es law → KeepsLaw (machine_by d qs) ps es law
  by-meaning law es keeps = subst (λ (m : Meaning). KeepsLaw (machine_of d m) ps es law) same.meaning keeps

  law-too : (law : Law) (es : List TimedEntry) → KeepsLaw (machine_by d qs) ps es law → KeepsLaw (machine_by d qs) qs es law
  law-too law.Image es keeps =
      along-weaker (λ (r : NodeState) (e : TimedEntry). InstallsProgram ps r e.told) (λ r e. InstallsProgram qs r e.told) _ (λ r e h. installs-too r e.told h) (first_state (machine_by d qs)) es keeps
  law-too _ es keeps = keeps

  log-too : (l : Log) (law : Law) → LogKeeps d ps l law → LogKeeps d qs l law
  log-too l law keeps = law-too law (journal_of l) (by-meaning law (journal_of l) keeps)

  each-too : (o : Option Log) → IfSome o (LogKeepsAll d ps) → IfSome o (LogKeepsAll d qs)
  each-too None keeps = tt
  each-too (Some l) keeps = λ law. log-too l law (keeps law)

  nodes-too : (r : Report) (n : ℕ) → NodesKeep d ps r n → NodesKeep d qs r n
  nodes-too r n keeps = λ k low. each-too (slice_get r.nodes k) (keeps k low)

fails-too : (d : Description) (ps qs : List Program) → CantBeToldApart d ps qs → (o : Option Log) (law : Law) → IsSomeAnd o (λ l. LogFails d ps l law) → IsSomeAnd o (λ l. LogFails d qs l law)
fails-too d ps qs same None law fails = fails
fails-too d ps qs same (Some l) law fails = record {
  fails = λ keeps. fails.fails (log-too d qs ps (turned d ps qs same) l law keeps);
  before = λ earlier low. log-too d ps qs same l earlier (fails.before earlier low);
}

verdict-too : (d : Description) (ps qs : List Program) (r : Report) → CantBeToldApart d ps qs → (v : Verdict) → IsVerdict d ps r v → IsVerdict d qs r v
verdict-too d ps qs r same verdict.Serial keeps = nodes-too d ps qs same r (length r.nodes) keeps
verdict-too d ps qs r same (verdict.Refuted node law) is = (nodes-too d ps qs same r node is.0, fails-too d ps qs same (slice_get r.nodes node) law is.1)

serial_agrees : (d : Description) (ps : List Program) (r : Report) → AnswersAgree ◌≡◌ (serial d ps r) (serial d ps r)
serial_agrees d ps r = judged_agrees ◌≡◌ _ _ _ one not same where
  one : (a b : ⊤) → IsVerdict d ps r verdict.Serial → IsVerdict d ps r verdict.Serial → a ≡ b
  one a b p q = refl

  not : (a : ⊤) (e : ℕ × Law) → IsVerdict d ps r verdict.Serial → IsVerdict d ps r (verdict.Refuted e.0 e.1) → ⊥
  not a e p q = let is : verdict.Serial ≡ verdict.Refuted e.0 e.1 = one-verdict d ps r verdict.Serial (verdict.Refuted e.0 e.1) p q in cc

  same : (e h : ℕ × Law) → IsVerdict d ps r (verdict.Refuted e.0 e.1) → IsVerdict d ps r (verdict.Refuted h.0 h.1) → e ≡ h
  same e h p q =
      let is : verdict.Refuted e.0 e.1 ≡ verdict.Refuted h.0 h.1 = one-verdict d ps r (verdict.Refuted e.0 e.1) (verdict.Refuted h.0 h.1) p q in
      let node : e.0 ≡ h.0 = cc in
      let law : e.1 ≡ h.1 = cc in
      ap (λ (n : ℕ). let x : ℕ × Law = (n, e.1) in x) node ∙ ap (λ (l : Law). let x : ℕ × Law = (h.0, l) in x) law

-- the verdict on the same journals, for the same programs
module _ (d : Description) (ps qs : List Program) (r s : Report) (same : SamePrograms ps qs) (journals : TellSameJournals r s) where
  pub verdict_same : (v : Verdict) → IsVerdict d qs s v → IsVerdict d ps r v
  verdict_same v is =
      let apart : CantBeToldApart d ps qs = record { meaning = meaning-same d ps qs same; held = held-same ps qs same } in
      same-verdict d ps s r v (sym journals) (verdict-too d qs ps s (turned d ps qs apart) v is)

  serial_same : (x : Result ⊤ Refusal) → serial d qs s x → serial d ps r x
  serial_same (Ok all) is = verdict_same verdict.Serial is
  serial_same (Err why) (inl it) = inl (it.0, verdict_same (verdict.Refuted it.0.0 it.0.1) it.1, it.2)
  serial_same (Err why) (inr wants) = inr wants

  serials_agree : AnswersAgree ◌≡◌ (serial d ps r) (serial d qs s)
  serials_agree x y p q = serial_agrees d ps r x y p (serial_same y q)

-- ---- the command

audit_of_agrees : (names : Names) (d : Description) (ps qs : List Program) (report : List ℕ) → SamePrograms ps qs → AnswersAgree SameText (audit_of (steady names) d ps report) (audit_of (steady names) d qs report)
audit_of_agrees names d ps qs report same = then_agrees TellSameJournals SameText _ _ _ _ (report_agrees names d report) with_report where
  judges : List Program → Report → Result Owed Refusal → Type 0
  judges ps r = serial d ps r ▸ λ _. writes (codes "serial\n")

  with_report : (r s : Report) → TellSameJournals r s → AnswersAgree SameText (judges ps r) (judges qs s)
  with_report r s journals =
      then_agrees ◌≡◌ SameText _ _ _ _ (serials_agree d ps qs r s same journals) (λ a b e. writes_agree (codes "serial\n"))

pub audit_agrees : (names : Names) (fold : Bool) (vm script report : List ℕ) → AnswersAgree SameText (audit (steady names) fold vm script report) (audit (steady names) fold vm script report)
audit_agrees names fold vm script report =
    then_agrees ◌≡◌ SameText _ _ _ _ (machine_agrees names vm)
    (λ a b e. subst (λ (d : Description). AnswersAgree SameText (after_machine a) (after_machine d)) e (with_machine a)) where
      after_machine : Description → Result Owed Refusal → Type 0
      after_machine d = audit_by (steady names) fold d script report

      with_machine : (d : Description) → AnswersAgree SameText (after_machine d) (after_machine d)
      with_machine d = then_agrees SamePrograms SameText _ _ _ _ (named_agree names d fold script) (λ ps qs same. audit_of_agrees names d ps qs report same)
