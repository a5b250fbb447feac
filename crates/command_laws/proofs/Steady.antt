-- What is owed for files whose bytes contracts can say is owed for steady ones, unless a file could not be read.
use Rattle.std.proofs.Common.{◌≡◌, ◌⊎◌, inl, inr, ℕ, Bool, true, false, List, [], ◌∷◌, ◌++◌, Option, Some, None, option_to_list, Result, Ok, Err, sym, subst}
use Rattle.std.specs.Prelude.{IsTrue}
use Rattle.std.specs.Global.{Vec}
use Rattle.command_line.specs.Commands.{Task, Node, Sim, Gen, Table, Compile, Check, Expand, Feed, Audit}
use Rattle.mate_cli.specs.Audit.{audit}
use Rattle.mate_cli.specs.Ends.{command, task, Owes}
use Rattle.mate_cli.specs.Node.{node}
use Rattle.mate_cli.specs.Worlds.{sim, made_run}
use Rattle.command_documents.specs.Check.{check}
use Rattle.command_documents.specs.Compile.{compile}
use Rattle.command_documents.specs.Expand.{expand}
use Rattle.command_documents.specs.Feed.{feed}
use Rattle.command_documents.specs.Owed.{Owed}
use Rattle.mate_files.specs.Counts.{Rose}
use Rattle.mate_files.specs.Files.{Names, WhereTold}
use Rattle.command_refusals.specs.declared.refusal.Refusal.{Refusal}
use Rattle.command_steps.specs.CapsuleFiles.{capsule}
use Rattle.command_steps.specs.OneAnswer.{steady}
use Rattle.command_steps.specs.Parts.{Folder, file, IsUnreadAnswer, machine, machine_file}
use Rattle.command_steps.specs.Sources.{source}
use Rattle.command_steps.specs.Steps.{Then, goes_on, stops}
use Rattle.command_steps.proofs.Laws.{unread-as}
use Rattle.mate_journal.specs.declared.program.Program.{Program}
use Rattle.mate_num.specs.declared.id.HandlerId.{HandlerId}
use Rattle.command_programs.specs.Programs.{installed, loaded, name_at, step_program, programs_after}
use Rattle.command_programs.specs.Scripts.{script}
use Rattle.script_steps.specs.declared.steps.Step.{Step}
use Rattle.script_steps.specs.declared.steps.Step.TheVariants as step
use Rattle.vm_shape.specs.declared.description.Description.{Description}
use Rattle.command_programs.specs.Injected.{installs}
use Rattle.command_programs.specs.Named.{is_of_world, programs_by, programs_named}
use Rattle.command_programs.specs.WorldFiles.{world}

-- ---- steps

-- an answer of the one is an answer of the other, or it tells of a file that could not be read
abbrev Stays : {A : Type 0} → (Result A Refusal → Type 0) → (Result A Refusal → Type 0) → Type 0
Stays {A} p q = (x : Result A Refusal) → p x → q x ⊎ IsUnreadAnswer x

stays : {A : Type 0} (p : Result A Refusal → Type 0) → Stays p p
stays p x is = inl is

then_stays : {A B : Type 0} (p q : Result A Refusal → Type 0) (f g : A → Result B Refusal → Type 0) → Stays p q → ((a : A) → Stays (f a) (g a)) → Stays (λ x. Then p f x) (λ x. Then q g x)
then_stays {A} {B} p q f g first rest x (goes_on a pa fa) = by (first (Ok a) pa) (rest a x fa) where
  by : q (Ok a) ⊎ IsUnreadAnswer (Ok a) → g a x ⊎ IsUnreadAnswer x → Then q g x ⊎ IsUnreadAnswer x
  by (inl is) (inl later) = inl (goes_on a is later)
  by (inl is) (inr unread) = inr unread
  by (inr never) later = absurd never
then_stays {A} {B} p q f g first rest x (stops r pr e) = by (first (Err r) pr) where
  by : q (Err r) ⊎ IsUnreadAnswer {A = A} (Err r) → Then q g x ⊎ IsUnreadAnswer x
  by (inl is) = inl (stops r is e)
  by (inr unread) = inr (subst (λ (y : Result B Refusal). IsUnreadAnswer y) (sym e) (unread-as A B r unread))

-- ---- parts

module _ (f : Folder) (names : Names) (told : f.told ≡ Some names) where
  file_stays : (name : List ℕ) → Stays (file f name) (file (steady names) name)
  file_stays name (Ok bytes) is = inl (is.0, subst (λ (t : Option Names). WhereTold t (λ ns. ns name ≡ Some bytes.items)) told is.1)
  file_stays name (Err r) (inl why) = inr (subst (λ (y : Refusal). IsUnreadAnswer {A = Vec ℕ} (Err y)) (sym why.2) tt)
  file_stays name (Err r) (inr wants) = inl (inr wants)

  machine_stays : (word : List ℕ) → Stays (machine f word) (machine (steady names) word)
  machine_stays word x (inl is) = inl (inl is)
  machine_stays word x (inr is) = by (then_stays _ _ _ _ (file_stays word) (λ bytes. stays _) x is.1) where
    by : machine_file (steady names) word x ⊎ IsUnreadAnswer x → machine (steady names) word x ⊎ IsUnreadAnswer x
    by (inl stands) = inl (inr (is.0, stands))
    by (inr unread) = inr unread

  source_stays : (d : Description) (fold : Bool) (name : List ℕ) → Stays (source f d fold name) (source (steady names) d fold name)
  source_stays d fold name = then_stays _ _ _ _ (file_stays name) (λ bytes. stays _)

  capsule_stays : (d : Description) (name : List ℕ) → Stays (capsule f d name) (capsule (steady names) d name)
  capsule_stays d name = then_stays _ _ _ _ (file_stays name) (λ bytes. stays _)

  script_stays : (d : Description) (name : List ℕ) → Stays (script f d name) (script (steady names) d name)
  script_stays d name = then_stays _ _ _ _ (file_stays name) (λ bytes. stays _)

  world_stays : (d : Description) (name : List ℕ) → Stays (world f d name) (world (steady names) d name)
  world_stays d name = then_stays _ _ _ _ (file_stays name) (λ bytes. stays _)

  installed_stays : (d : Description) (fold : Bool) (h : HandlerId) (version : ℕ) (name : List ℕ) → Stays (installed f d fold h version name) (installed (steady names) d fold h version name)
  installed_stays d fold h version name = then_stays _ _ _ _ (source_stays d fold name) (λ c. stays _)

  loaded_stays : (d : Description) (name : List ℕ) → Stays (loaded f d name) (loaded (steady names) d name)
  loaded_stays d name = then_stays _ _ _ _ (capsule_stays d name) (λ c. stays _)

  step_stays : (d : Description) (fold : Bool) (files : List (List ℕ)) (x : Step) → Stays (step_program f d fold files x) (step_program (steady names) d fold files x)
  step_stays d fold files (step.Install h version k) = then_stays _ _ _ _ (installed_stays d fold h version (name_at files k)) (λ p. stays _)
  step_stays d fold files (step.Load k) = then_stays _ _ _ _ (loaded_stays d (name_at files k)) (λ p. stays _)
  step_stays d fold files _ = stays _

  programs_stay : (d : Description) (fold : Bool) (files : List (List ℕ)) (ps : List Program) (left : List Step) → Stays (programs_after f d fold files ps left) (programs_after (steady names) d fold files ps left)
  programs_stay d fold files ps [] = stays _
  programs_stay d fold files ps (x ∷ xs) = then_stays _ _ _ _ (step_stays d fold files x) (λ o. programs_stay d fold files (ps ++ option_to_list o) xs)

  programs_by_stay : (d : Description) (fold of_world : Bool) (bytes : List ℕ) → Stays (programs_by of_world f d fold bytes) (programs_by of_world (steady names) d fold bytes)
  programs_by_stay d fold true bytes = then_stays _ _ _ _ (stays _) (λ w. programs_stay d fold w.files [] (installs w).steps)
  programs_by_stay d fold false bytes = then_stays _ _ _ _ (stays _) (λ s. programs_stay d fold s.files [] s.steps)

  named_stay : (d : Description) (fold : Bool) (name : List ℕ) → Stays (programs_named f d fold name) (programs_named (steady names) d fold name)
  named_stay d fold name = then_stays _ _ _ _ (file_stays name) (λ bytes. programs_by_stay d fold (is_of_world bytes.items) bytes.items)

  -- ---- commands

  node_stays : (fold short : Bool) (vm name : List ℕ) → Stays (node f fold short vm name) (node (steady names) fold short vm name)
  node_stays fold short vm name =
      then_stays _ _ _ _ (machine_stays vm) (λ d. then_stays _ _ _ _ (script_stays d name) (λ s. then_stays _ _ _ _ (programs_stay d fold s.files [] s.steps) (λ ps. stays _)))

  sim_stays : (fold short : Bool) (vm name : List ℕ) → Stays (sim f fold short vm name) (sim (steady names) fold short vm name)
  sim_stays fold short vm name =
      then_stays _ _ _ _ (machine_stays vm) (λ d. then_stays _ _ _ _ (world_stays d name) (λ w. then_stays _ _ _ _ (programs_stay d fold w.files [] (installs w).steps) (λ ps. stays _)))

  gen_stays : (fold short : Bool) (number : ℕ) (vm : List ℕ) → Stays (made_run f fold short number vm) (made_run (steady names) fold short number vm)
  gen_stays fold short number vm = then_stays _ _ _ _ (machine_stays vm) (λ d. stays _)

  compile_stays : (fold : Bool) (vm h : List ℕ) (version : ℕ) (name : List ℕ) → Stays (compile f fold vm h version name) (compile (steady names) fold vm h version name)
  compile_stays fold vm h version name =
      then_stays _ _ _ _ (machine_stays vm) (λ d. then_stays _ _ _ _ (stays _) (λ k. then_stays _ _ _ _ (source_stays d fold name) (λ c. stays _)))

  check_stays : (vm name : List ℕ) → Stays (check f vm name) (check (steady names) vm name)
  check_stays vm name = then_stays _ _ _ _ (machine_stays vm) (λ d. then_stays _ _ _ _ (capsule_stays d name) (λ c. stays _))

  expand_stays : (name : List ℕ) → Stays (expand f name) (expand (steady names) name)
  expand_stays name = then_stays _ _ _ _ (then_stays _ _ _ _ (file_stays name) (λ bytes. stays _)) (λ s. stays _)

  feed_stays : (vm name : List ℕ) → Stays (feed f vm name) (feed (steady names) vm name)
  feed_stays vm name = then_stays _ _ _ _ (machine_stays vm) (λ d. then_stays _ _ _ _ (file_stays name) (λ bytes. stays _))

  audit_stays : (fold : Bool) (vm script report : List ℕ) → Stays (audit f fold vm script report) (audit (steady names) fold vm script report)
  audit_stays fold vm script report =
      then_stays _ _ _ _ (machine_stays vm)
      (λ d. then_stays _ _ _ _ (named_stay d fold script) (λ ps. then_stays _ _ _ _ (then_stays _ _ _ _ (file_stays report) (λ bytes. stays _)) (λ r. stays _)))

  command_stays : (t : Task) → Stays (command f t) (command (steady names) t)
  command_stays (Node fold short vm name) = node_stays fold short vm name
  command_stays (Sim fold short vm name) = sim_stays fold short vm name
  command_stays (Gen fold short number vm) = gen_stays fold short number vm
  command_stays (Table vm) = then_stays _ _ _ _ (machine_stays vm) (λ d. stays _)
  command_stays (Compile fold vm h version name) = compile_stays fold vm h version name
  command_stays (Check vm name) = check_stays vm name
  command_stays (Expand name) = expand_stays name
  command_stays (Feed vm name) = feed_stays vm name
  command_stays (Audit fold vm script report) = audit_stays fold vm script report

  owes_stay : (words : List (List ℕ)) → Stays (Owes f words) (Owes (steady names) words)
  owes_stay words = then_stays _ _ _ _ (stays (task words)) command_stays

  -- what the files are owed in a call, where they are steady or no read failed in it
  pub owes_steady : (words : List (List ℕ)) (before now : ℕ) (x : Result Owed Refusal) → IsTrue f.steady ⊎ (Rose before now → ⊥) → (IsUnreadAnswer x → Rose before now) → Owes f words x → Owes (steady names) words x
  owes_steady words before now x (inl always) counted owes =
      subst (λ (s : Bool). Owes (record { told = Some names; steady = s }) words x) always (subst (λ (t : Option Names). Owes (record { told = t; steady = f.steady }) words x) told owes)
  owes_steady words before now x (inr quiet) counted owes = by (owes_stay words x owes) where
    by : Owes (steady names) words x ⊎ IsUnreadAnswer x → Owes (steady names) words x
    by (inl stands) = stands
    by (inr unread) = absurd (quiet (counted unread))
