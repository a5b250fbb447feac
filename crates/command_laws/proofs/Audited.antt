-- What a run wrote is found serial.
use Rattle.std.proofs.Common.{◌≡◌, inl, inr, ℕ, ◌+◌, ◌≤◌, ◌<◌, ◌==◌, Bool, true, false, List, [], ◌∷◌, length, Option, Some, None, Result, Ok, Err, refl, sym, ◌∙◌, subst, arith}
use Rattle.mate_num.specs.Results.{result_map}
use Rattle.std.specs.Prelude.{All, IsSomeAnd, codes, if◌then◌else◌}
use Rattle.std.specs.Global.{Vec}
use Rattle.std.specs.List.{list_all}
use Rattle.std.specs.Str.{bytes_eq}
use Rattle.std.proofs.lemmas.Slice.Eq.{bytes_eq-Decides}
use Rattle.command_laws.proofs.NodeReports.{node-serial}
use Rattle.command_laws.proofs.Programs.{script-installs}
use Rattle.command_laws.proofs.ReadBack.{read-text}
use Rattle.command_laws.proofs.WorldReports.{world-serial}
use Rattle.command_laws.specs.Reading.{IsReadWith}
use Rattle.audit_rules.specs.Verdicts.{IsVerdict}
use Rattle.audit_rules.proofs.VerdictLemmas.{one-verdict}
use Rattle.mate_journal.specs.declared.law.Law.{Law}
use Rattle.mate_journal.specs.declared.law.Verdict.TheVariants as verdict
use Rattle.command_laws.specs.Texts.{IsOutputText, IsRunText, run_end}
use Rattle.command_laws.proofs.OneAudit.{named_agree, verdict_same}
use Rattle.mate_cli.specs.Audit.{report_of_file, serial, audit_of, audit_by, audit}
use Rattle.mate_cli.specs.Node.{node}
use Rattle.mate_cli.specs.Worlds.{sim}
use Rattle.command_documents.specs.Owed.{Owed, writes}
use Rattle.mate_files.specs.Files.{Names}
use Rattle.mate_journal.specs.Ranges.{HasReportRanges}
use Rattle.mate_journal.specs.declared.program.Program.{Program}
use Rattle.mate_journal.specs.declared.report.Report.{Report}
use Rattle.command_refusals.specs.declared.refusal.Refusal.{Refusal}
use Rattle.command_refusals.specs.declared.refusal.Refusal.TheVariants.{NoMemory}
use Rattle.command_steps.specs.OneAnswer.{steady}
use Rattle.command_refusals.specs.declared.cause.Unread.{Unread}
use Rattle.command_refusals.specs.declared.cause.Unread.TheVariants.{Failed, Large}
use Rattle.command_steps.specs.Parts.{IsUnread, file, machine}
use Rattle.command_steps.specs.Steps.{Then, goes_on, stops}
use Rattle.command_steps.proofs.OneAnswer.{machine_agrees}
use Rattle.node_programs.specs.ScriptSteps.{IsProgramOf, steps_of}
use Rattle.node_programs.specs.Sources.{meaning_by}
use Rattle.report_text.specs.Reads.{ReadsReport, IsBadLine}
use Rattle.report_text.specs.declared.fault.TextFault.{TextFault}
use Rattle.report_text.specs.declared.fault.TextFault.TheVariants.{BadLine}
use Rattle.report_writer.specs.Text.{text}
use Rattle.report_writer.specs.Tidy.{IsTidy}
use Rattle.report_writer.proofs.NodeLemmas.{node-tidy}
use Rattle.node_runs.specs.Running.{IsReportOf}
use Rattle.command_programs.proofs.EachLemmas.{are_made}
use Rattle.command_programs.proofs.OrderLemmas.{node_script-in_order}
use Rattle.command_programs.specs.Programs.{script_programs}
use Rattle.command_programs.specs.SamePrograms.{SamePrograms}
use Rattle.command_programs.specs.Scripts.{script}
use Rattle.script_steps.specs.Lines.{lines, split_words, is_skipped}
use Rattle.script_steps.specs.NodeScript.{node_script_in, after_line, a_line, behind, behind_others, nothing_yet, Progress, Said, with_said}
use Rattle.script_steps.specs.declared.fault.ScriptFault.{ScriptFault}
use Rattle.script_steps.specs.declared.fault.ScriptFault.TheVariants as script_fault
use Rattle.script_steps.specs.Script.{script_from, numbered}
use Rattle.script_steps.specs.Words.{TakenWords, WordReading, and_then, ◌>>=◌, give, found, is_printable, nothing_more, a_number}
use Rattle.script_steps.specs.Steps.{NodeScript}
use Rattle.script_steps.specs.declared.fault.Cause.{Cause}
use Rattle.script_steps.specs.declared.fault.Cause.TheVariants.{Word, Range}
use Rattle.vm_shape.specs.declared.description.Description.{Description}
use Rattle.script_reader.specs.WorldLines.{WorldProgress, WorldSaid, SaysNodes, a_world_line, behind_verb, some_nodes}
use Rattle.script_reader.specs.declared.stage.Stage.{Stage}
use Rattle.script_reader.specs.declared.stage.Stage.TheVariants as stage
use Rattle.command_programs.specs.Injected.{world_programs}
use Rattle.command_programs.specs.Named.{begins_world, are_of_world, is_of_world, programs_by, programs_named}
use Rattle.command_programs.specs.WorldFiles.{world}
use Rattle.script_reader.specs.WorldScript.{world_script_in, after_world_line, when_told, no_world, world_at_end}
use Rattle.script_steps.specs.declared.world.World.{World}
use Rattle.world_run_laws.specs.Promise.{IsReportOfWorld}

-- ---- a script is a node's or a world's by its first word

not-true : (b : Bool) → (b ≡ true → ⊥) → b ≡ false
not-true true never = absurd (never refl)
not-true false never = refl

not-false : (b : Bool) → (b ≡ false → ⊥) → b ≡ true
not-false true never = refl
not-false false never = absurd (never refl)

module _ (d : Description) where
  -- what the lines of a node script tell
  abbrev NodeLines : ℕ → Progress → List (List ℕ) → Result NodeScript ScriptFault
  NodeLines number p ls = script_from (after_line d) (λ number p. Ok p.script) number p ls

  -- no line of it begins with `nodes`
  nodes-refused : (number : ℕ) (p : Progress) (more : List (List ℕ)) (s : NodeScript) (words : List (List ℕ))
      → numbered number (λ q. NodeLines (number + 1) q more) (result_map (λ (t : TakenWords Said). with_said p t.value) (a_line d p.newest (length p.script.files) (codes "nodes" ∷ words))) ≡ Ok s → ⊥
  unfolding a_line behind behind_others
  nodes-refused number p more s words is = let bad : ◌≡◌ {A = Result NodeScript ScriptFault} (Err (script_fault.BadLine number Word)) (Ok s) = is in cc

  one-line : (number : ℕ) (p : Progress) (more : List (List ℕ)) (s : NodeScript) (w : List ℕ) (words : List (List ℕ)) (skip : Bool) → ((q : Progress) → NodeLines (number + 1) q more ≡ Ok s → are_of_world more ≡ false)
      → numbered number (λ q. NodeLines (number + 1) q more) (if skip then Ok p else result_map (λ (t : TakenWords Said). with_said p t.value) (a_line d p.newest (length p.script.files) (w ∷ words))) ≡ Ok s
      → (if skip then are_of_world more else bytes_eq w (codes "nodes")) ≡ false
  one-line number p more s w words true rest is = rest p is
  one-line number p more s w words false rest is =
      not-true (bytes_eq w (codes "nodes"))
      (λ same. nodes-refused number p more s words
      (subst (λ (v : List ℕ). numbered number (λ q. NodeLines (number + 1) q more) (result_map (λ (t : TakenWords Said). with_said p t.value) (a_line d p.newest (length p.script.files) (v ∷ words))) ≡ Ok s) ((bytes_eq-Decides w (codes "nodes")).0 same) is))

  by-words : (number : ℕ) (p : Progress) (more : List (List ℕ)) (s : NodeScript) (ws : List (List ℕ)) → ((q : Progress) → NodeLines (number + 1) q more ≡ Ok s → are_of_world more ≡ false)
      → numbered number (λ q. NodeLines (number + 1) q more) (after_line d p ws) ≡ Ok s → (if is_skipped ws then are_of_world more else begins_world ws) ≡ false
  unfolding after_line
  by-words number p more s [] rest is = rest p is
  by-words number p more s ([] ∷ words) rest is = refl
  by-words number p more s ((b ∷ bs) ∷ words) rest is = one-line number p more s (b ∷ bs) words (b == 35) rest is

  by-lines : (number : ℕ) (p : Progress) (ls : List (List ℕ)) (s : NodeScript) → NodeLines number p ls ≡ Ok s → are_of_world ls ≡ false
  by-lines number p [] s is = refl
  by-lines number p (line ∷ more) s is = by-words number p more s (split_words line) (λ q h. by-lines (number + 1) q more s h) is

  node-is : (bytes : List ℕ) (s : NodeScript) → node_script_in d bytes ≡ Ok s → is_of_world bytes ≡ false
  unfolding node_script_in
  node-is bytes s is = by-lines 1 nothing_yet (lines bytes) s is

  -- what the lines of a world tell
  abbrev WorldLines : ℕ → WorldProgress → List (List ℕ) → Result World ScriptFault
  WorldLines number p ls = script_from (after_world_line d) (λ number p. world_at_end p.stage number p) number p ls

  -- its first line begins with `nodes`
  others-refused : (p : WorldProgress) (st : Stage) (v : List ℕ) (words : List (List ℕ)) (next : WorldSaid → WordReading WorldSaid) (printable : Bool) → st ≡ stage.Nodes → bytes_eq v (codes "nodes") ≡ false
      → and_then (λ verb. behind_verb d p st verb >>= next) (found (if printable then Ok v else Err Word) words) ≡ Err Word
  unfolding some_nodes
  others-refused p st v words next false at other = refl
  others-refused p st v words next true at other =
      subst (λ (x : Stage). and_then next (behind_verb d p x v words) ≡ Err Word) (sym at)
      (subst (λ (e : Bool). and_then next (and_then (λ nodes. give (SaysNodes nodes)) ((if e then a_number 1 64 Range else found (Err Word)) words)) ≡ Err Word) (sym other) refl)

  line-refused : (p : WorldProgress) (v : List ℕ) (words : List (List ℕ)) → p.stage ≡ stage.Nodes → bytes_eq v (codes "nodes") ≡ false → a_world_line d p (v ∷ words) ≡ Err Word
  unfolding a_world_line
  line-refused p v words at other = others-refused p p.stage v words (λ said. nothing_more >>= (λ ends. give said)) (list_all is_printable v) at other

  world-line : (number : ℕ) (p : WorldProgress) (more : List (List ℕ)) (w : World) (v : List ℕ) (words : List (List ℕ)) (skip : Bool) → p.stage ≡ stage.Nodes
      → ((q : WorldProgress) → q.stage ≡ stage.Nodes → WorldLines (number + 1) q more ≡ Ok w → are_of_world more ≡ true)
      → numbered number (λ q. WorldLines (number + 1) q more) (if skip then Ok p else when_told p (a_world_line d p (v ∷ words))) ≡ Ok w
      → (if skip then are_of_world more else bytes_eq v (codes "nodes")) ≡ true
  world-line number p more w v words true at rest is = rest p at is
  world-line number p more w v words false at rest is =
      not-false (bytes_eq v (codes "nodes"))
      (λ other. let bad : ◌≡◌ {A = Result World ScriptFault} (Err (script_fault.BadLine number Word)) (Ok w) =
      subst (λ (x : Result (TakenWords WorldSaid) Cause). numbered number (λ q. WorldLines (number + 1) q more) (when_told p x) ≡ Ok w) (line-refused p v words at other) is in
      cc)

  world-words : (number : ℕ) (p : WorldProgress) (more : List (List ℕ)) (w : World) (ws : List (List ℕ)) → p.stage ≡ stage.Nodes
      → ((q : WorldProgress) → q.stage ≡ stage.Nodes → WorldLines (number + 1) q more ≡ Ok w → are_of_world more ≡ true)
      → numbered number (λ q. WorldLines (number + 1) q more) (after_world_line d p ws) ≡ Ok w → (if is_skipped ws then are_of_world more else begins_world ws) ≡ true
  unfolding after_world_line
  world-words number p more w [] at rest is = rest p at is
  world-words number p more w ([] ∷ words) at rest is = world-line number p more w [] words false at rest is
  world-words number p more w ((b ∷ bs) ∷ words) at rest is = world-line number p more w (b ∷ bs) words (b == 35) at rest is

  ends-missing : (st : Stage) (number : ℕ) (p : WorldProgress) (w : World) → st ≡ stage.Nodes → world_at_end st number p ≡ Ok w → ⊥
  ends-missing st number p w at is = let bad : ◌≡◌ {A = Result World ScriptFault} (Err (script_fault.BadLine number Word)) (Ok w) = subst (λ (x : Stage). world_at_end x number p ≡ Ok w) at is in cc

  world-lines : (number : ℕ) (p : WorldProgress) (ls : List (List ℕ)) (w : World) → p.stage ≡ stage.Nodes → WorldLines number p ls ≡ Ok w → are_of_world ls ≡ true
  world-lines number p [] w at is = absurd (ends-missing p.stage number p w at is)
  world-lines number p (line ∷ more) w at is = world-words number p more w (split_words line) at (λ q stands h. world-lines (number + 1) q more w stands h) is

  world-is : (bytes : List ℕ) (w : World) → world_script_in d bytes ≡ Ok w → is_of_world bytes ≡ true
  unfolding world_script_in
  world-is bytes w is = world-lines 1 no_world (lines bytes) w refl is

-- ---- the report in the file

ok-err : {A : Type 0} (o : A) (why : Refusal) → ◌≡◌ {A = Result A Refusal} (Ok o) (Err why) → ⊥
ok-err o why same = cc

abbrev Found : Result Owed Refusal → Type 0
Found answer = writes (codes "serial\n") answer

module _ (names : Names) (d : Description) (ps qs : List Program) (r : Report) (report bs : List ℕ) (same : SamePrograms qs ps) (serially : IsVerdict d ps r verdict.Serial) (tidy : IsTidy d r) (ranges : HasReportRanges r)
    (written : bs ≡ text d r) (holds : names report ≡ Some bs) (small : length bs ≤ 1048576) where
  short : length bs ≤ 4000000000
  short = omega (arith, small)

  read-right : (answer : Result Report TextFault) → ReadsReport d bs answer → IsReadWith d ps verdict.Serial answer
  read-right answer reads =
      read-text d ps r verdict.Serial answer (subst (λ (xs : List ℕ). length xs ≤ 4000000000) written short) tidy ranges serially (subst (λ (xs : List ℕ). ReadsReport d xs answer) written reads)

  held-bytes : (bytes : Vec ℕ) → names report ≡ Some bytes.items → bytes.items ≡ bs
  held-bytes bytes held = let e : Some bytes.items ≡ Some bs = sym held ∙ holds in cc

  unread : (why : Unread) → IsUnread (steady names) report why → ⊥
  unread Failed none = let e : None ≡ Some bs = sym (none refl) ∙ holds in cc
  unread Large large = let more : 1048576 < length bs = subst (λ (o : Option (List ℕ)). IsSomeAnd o (λ bytes. 1048576 < length bytes)) holds large in omega (arith, small, more)

  no-file : (why : Refusal) → file (steady names) report (Err why) → why ≡ NoMemory
  no-file why (inl it) = absurd (unread it.0 it.1)
  no-file why (inr wants) = wants

  refuted : (s : Report) (node : ℕ) (law : Law) → IsVerdict d ps s verdict.Serial → IsVerdict d qs s (verdict.Refuted node law) → ⊥
  refuted s node law is not =
      let e : verdict.Serial ≡ verdict.Refuted node law = one-verdict d qs s verdict.Serial (verdict.Refuted node law) (verdict_same d qs ps s s same refl verdict.Serial is) not in cc

  not-serial : (s : Report) (why : Refusal) → IsVerdict d ps s verdict.Serial → serial d qs s (Err why) → why ≡ NoMemory
  not-serial s why is (inl it) = absurd (refuted s it.0.0 it.0.1 is it.1)
  not-serial s why is (inr wants) = wants

  judged-serial : (s : Report) (answer : Result Owed Refusal) → IsVerdict d ps s verdict.Serial → Then (serial d qs s) (λ _. writes (codes "serial\n")) answer → Found answer
  judged-serial s answer is (goes_on all judged wrote) = wrote
  judged-serial s answer is (stops why judged e) = subst Found (sym e) (not-serial s why is judged)

  read-serial : (s : Report) → report_of_file (steady names) d report (Ok s) → IsVerdict d ps s verdict.Serial
  read-serial s (goes_on bytes held reads) = read-right (Ok s) (subst (λ (xs : List ℕ). ReadsReport d xs (Ok s)) (held-bytes bytes held.1) reads)
  read-serial s (stops why step e) = absurd (ok-err s why e)

  not-read : (why : Refusal) → report_of_file (steady names) d report (Err why) → why ≡ NoMemory
  not-read why (goes_on bytes held (inl it)) = absurd (read-right (Err (BadLine it.0)) (subst (λ (xs : List ℕ). IsBadLine d xs it.0) (held-bytes bytes held.1) it.1))
  not-read why (goes_on bytes held (inr wants)) = wants
  not-read why (stops cause step e) = one-err e ∙ no-file cause step where
    one-err : ◌≡◌ {A = Result Report Refusal} (Err why) (Err cause) → why ≡ cause
    one-err same = cc

  report-found : (answer : Result Owed Refusal) → audit_of (steady names) d qs report answer → Found answer
  report-found answer (goes_on s step rest) = judged-serial s answer (read-serial s step) rest
  report-found answer (stops why step e) = subst Found (sym e) (not-read why step)

-- ---- the command

module _ (names : Names) (fold : Bool) (vm name report : List ℕ) (d : Description) (ps : List Program) (named : programs_named (steady names) d fold name (Ok ps)) (machine_is : machine (steady names) vm (Ok d))
    (found : (qs : List Program) → SamePrograms qs ps → (answer : Result Owed Refusal) → audit_of (steady names) d qs report answer → Found answer) where
  programs-found : (answer : Result Owed Refusal) → audit_by (steady names) fold d name report answer → Found answer
  programs-found answer (goes_on qs step rest) = found qs (named_agree names d fold name (Ok qs) (Ok ps) step named) answer rest
  programs-found answer (stops why step e) = subst Found (sym e) (named_agree names d fold name (Err why) (Ok ps) step named)

  audit-found : (answer : Result Owed Refusal) → audit (steady names) fold vm name report answer → Found answer
  audit-found answer (goes_on x step rest) =
      programs-found answer (subst (λ (y : Description). audit_by (steady names) fold y name report answer) (machine_agrees names vm (Ok x) (Ok d) step machine_is) rest)
  audit-found answer (stops why step e) = subst Found (sym e) (machine_agrees names vm (Err why) (Ok d) step machine_is)

-- the programs of a node script
named-node : (names : Names) (d : Description) (fold : Bool) (name : List ℕ) (s : NodeScript) (ps : List Program) → script (steady names) d name (Ok s) → script_programs (steady names) d fold s (Ok ps)
    → programs_named (steady names) d fold name (Ok ps)
named-node names d fold name s ps (goes_on bytes held is) given =
    goes_on bytes held (subst (λ (of_world : Bool). programs_by of_world (steady names) d fold bytes.items (Ok ps)) (sym (node-is d bytes.items s is)) (goes_on s is given))
named-node names d fold name s ps (stops why step e) given = absurd (ok-err s why e)

-- and each is of its line
programs-each : (names : Names) (d : Description) (fold : Bool) (name : List ℕ) (s : NodeScript) (ps : List Program) → script (steady names) d name (Ok s) → script_programs (steady names) d fold s (Ok ps) → All (IsProgramOf ps) s.steps
programs-each names d fold name s ps (goes_on bytes held is) given =
    (are_made (steady names) d fold s.files [] s.steps (length s.files) ps (node_script-in_order d bytes.items s is) given).each
programs-each names d fold name s ps (stops why step e) given = absurd (ok-err s why e)

-- the programs of a world
named-world : (names : Names) (d : Description) (fold : Bool) (name : List ℕ) (w : World) (ps : List Program) → world (steady names) d name (Ok w) → world_programs (steady names) d fold w (Ok ps)
    → programs_named (steady names) d fold name (Ok ps)
named-world names d fold name w ps (goes_on bytes held is) given =
    goes_on bytes held (subst (λ (of_world : Bool). programs_by of_world (steady names) d fold bytes.items (Ok ps)) (sym (world-is d bytes.items w is)) (goes_on w is given))
named-world names d fold name w ps (stops why step e) given = absurd (ok-err w why e)

pub node-found : (names : Names) (fold : Bool) (vm name report : List ℕ) (o : Owed) (full : Bool) (bs : List ℕ) (answer : Result Owed Refusal) → node (steady names) fold false vm name (Ok o) → IsOutputText full o bs
    → names report ≡ Some bs → length bs ≤ 1048576 → audit (steady names) fold vm name report answer → writes (codes "serial\n") answer
node-found names fold vm name report o full bs answer (goes_on d machine_is (goes_on s script_is (goes_on ps given out))) is holds small audits =
    let t : IsRunText d (IsReportOf d s ps) (run_end full) bs = subst (λ (x : Owed). IsOutputText full x bs) out is in
    let r : Report = t.report in
    let of : IsReportOf d s ps (run_end full) r = t.ended in
    let serially : IsVerdict d ps r verdict.Serial = node-serial d ps (steps_of s ps) (run_end full) r (script-installs s ps (programs-each names d fold name s ps script_is given)) of.report in
    let tidy : IsTidy d r = node-tidy d (meaning_by d ps) (steps_of s ps) (run_end full) r of.report in
    audit-found names fold vm name report d ps (named-node names d fold name s ps script_is given) machine_is
    (λ qs same. report-found names d ps qs r report bs same serially tidy of.ranges t.text_is holds small) answer audits
node-found names fold vm name report o full bs answer (goes_on d machine_is (goes_on s script_is (stops why step e))) is holds small audits = absurd (ok-err o why e)
node-found names fold vm name report o full bs answer (goes_on d machine_is (stops why step e)) is holds small audits = absurd (ok-err o why e)
node-found names fold vm name report o full bs answer (stops why step e) is holds small audits = absurd (ok-err o why e)

pub world-found : (names : Names) (fold : Bool) (vm name report : List ℕ) (o : Owed) (full : Bool) (bs : List ℕ) (answer : Result Owed Refusal) → sim (steady names) fold false vm name (Ok o) → IsOutputText full o bs
    → names report ≡ Some bs → length bs ≤ 1048576 → audit (steady names) fold vm name report answer → writes (codes "serial\n") answer
world-found names fold vm name report o full bs answer (goes_on d machine_is (goes_on w world_is (goes_on ps given out))) is holds small audits =
    let t : IsRunText d (IsReportOfWorld d w ps) (run_end full) bs = subst (λ (x : Owed). IsOutputText full x bs) out is in
    let r : Report = t.report in
    let of : IsReportOfWorld d w ps (run_end full) r = t.ended in
    let serially : IsVerdict d ps r verdict.Serial = world-serial d w ps (run_end full) r of.right of.run in
    audit-found names fold vm name report d ps (named-world names d fold name w ps world_is given) machine_is
    (λ qs same. report-found names d ps qs r report bs same serially of.tidy of.ranges t.text_is holds small) answer audits
world-found names fold vm name report o full bs answer (goes_on d machine_is (goes_on w world_is (stops why step e))) is holds small audits = absurd (ok-err o why e)
world-found names fold vm name report o full bs answer (goes_on d machine_is (stops why step e)) is holds small audits = absurd (ok-err o why e)
world-found names fold vm name report o full bs answer (stops why step e) is holds small audits = absurd (ok-err o why e)
