-- The programs of scripts of one or two lines, and the script of a file that is known.
use Rattle.std.proofs.Common.{◌≡◌, ◌≤◌, ◌∙◌, inl, inr, ℕ, false, List, [], ◌∷◌, length, Option, None, Some, Result, Ok, Err, sym, ap, subst}
use Rattle.std.specs.Prelude.{All, IfOk, IfSome}
use Rattle.std.proofs.lemmas.List.Elements.{All-nil, All-cons}
use Rattle.mate_journal.specs.declared.program.Program.{Program}
use Rattle.ts_checked.specs.Checked.{ScriptTree}
use Rattle.ts_checker.specs.Accepted.{IsAccepted}
use Rattle.script_steps.specs.NodeScript.{node_script_in}
use Rattle.script_steps.specs.Steps.{NodeScript}
use Rattle.script_steps.specs.declared.steps.Step.{Step}
use Rattle.script_steps.specs.declared.steps.Step.TheVariants.{Install, Load}
use Rattle.script_steps.specs.declared.fault.Cause.{Cause}
use Rattle.script_steps.specs.declared.fault.ScriptFault.TheVariants.{BadLine}
use Rattle.vm_shape.specs.declared.description.Description.{Description}
use Rattle.command_refusals.specs.declared.cause.Cause.TheVariants as cause
use Rattle.command_refusals.specs.declared.cause.Unread.TheVariants.{Failed}
use Rattle.command_refusals.specs.declared.refusal.Refusal.{Refusal}
use Rattle.command_refusals.specs.declared.refusal.Refusal.TheVariants.{InFile, BadScript}
use Rattle.command_steps.specs.Parts.{Folder}
use Rattle.command_steps.specs.Sources.{source}
use Rattle.command_steps.specs.Steps.{goes_on, stops}
use Rattle.command_programs.specs.Programs.{installed, loaded, step_program, programs_after, script_programs}
use Rattle.command_programs.specs.Scripts.{script, script_text}
use Rattle.callers_commands.specs.Folders.{HoldsFile, RefusesAs}
use Rattle.callers_commands.specs.Scripts.{installing, installing_two, loading}
use Rattle.callers_commands.proofs.FolderLemmas.{missing_file, refuses_first, same_bytes, wanting_alone, keeps_tree}

-- `install` of the first handler as version 1
abbrev first_install : Step
first_install = Install (record { 0 = 0 }) 1 0

-- ---- a first file that is missing

abbrev is_missing : List ℕ → Refusal
is_missing name = InFile name (cause.Unread Failed)

missing_program : (f : Folder) (d : Description) (name : List ℕ) (r : Result Program Refusal) → HoldsFile f name None → installed f d false (record { 0 = 0 }) 1 name r → RefusesAs (is_missing name) r
missing_program f d name r h = refuses_first (is_missing name) (source f d false name) _ r (λ a. missing_file f name _ a h)

missing_step : (f : Folder) (d : Description) (name : List ℕ) (names : List (List ℕ)) (r : Result (Option Program) Refusal) → HoldsFile f name None
    → step_program f d false (name ∷ names) first_install r → RefusesAs (is_missing name) r
missing_step f d name names r h = refuses_first (is_missing name) (installed f d false (record { 0 = 0 }) 1 name) _ r (λ a. missing_program f d name a h)

missing_first : (f : Folder) (d : Description) (name : List ℕ) (names : List (List ℕ)) (steps : List Step) (r : Result (List Program) Refusal) → HoldsFile f name None
    → programs_after f d false (name ∷ names) [] (first_install ∷ steps) r → RefusesAs (is_missing name) r
missing_first f d name names steps r h = refuses_first (is_missing name) (step_program f d false (name ∷ names) first_install) _ r (λ a. missing_step f d name names a h)

pub none_of_one : (f : Folder) (d : Description) (s : NodeScript) (name : List ℕ) (r : Result (List Program) Refusal) → HoldsFile f name None → s ≡ installing name
    → script_programs f d false s r → RefusesAs (is_missing name) r
none_of_one f d s name r h is made =
    missing_first f d name [] [] r h (subst (λ (x : NodeScript). script_programs f d false x r) is made)

pub none_of_two : (f : Folder) (d : Description) (s : NodeScript) (name other : List ℕ) (r : Result (List Program) Refusal) → HoldsFile f name None → s ≡ installing_two name other
    → script_programs f d false s r → RefusesAs (is_missing name) r
none_of_two f d s name other r h is made =
    missing_first f d name (other ∷ []) (Install (record { 0 = 0 }) 2 1 ∷ []) r h (subst (λ (x : NodeScript). script_programs f d false x r) is made)

-- ---- the one program of a script of one line

-- what holds of the program that the step gives, holds of all
all_of_one : (f : Folder) (d : Description) (names : List (List ℕ)) (step : Step) (P : Program → Type 0) (ps : List Program)
    → ((o : Option Program) → step_program f d false names step (Ok o) → IfSome o P)
    → programs_after f d false names [] (step ∷ []) (Ok ps) → All P ps
all_of_one f d names step P ps each (goes_on None is same) = subst (All P) (sym same) (All-nil P)
all_of_one f d names step P ps each (goes_on (Some p) is same) = subst (All P) (sym same) (All-cons P p [] (each (Some p) is) (All-nil P))
all_of_one f d names step P ps each (stops r is clash) = cc

loaded_program : (f : Folder) (d : Description) (name : List ℕ) (p : Program) → loaded f d name (Ok p) → p.source ≡ None
loaded_program f d name p (goes_on c spelled is) = is.source
loaded_program f d name p (stops r refused clash) = cc

loaded_step : (f : Folder) (d : Description) (name : List ℕ) (o : Option Program) → step_program f d false (name ∷ []) (Load 0) (Ok o) → IfSome o (λ p. p.source ≡ None)
loaded_step f d name o (goes_on p is same) = subst (λ (x : Option Program). IfSome x (λ p. p.source ≡ None)) (sym same) (loaded_program f d name p is)
loaded_step f d name o (stops r is clash) = cc

pub loaded_alone : (f : Folder) (d : Description) (s : NodeScript) (name : List ℕ) (r : Result (List Program) Refusal) → s ≡ loading name → script_programs f d false s r
    → IfOk r (λ ps. All (λ (p : Program). p.source ≡ None) ps)
loaded_alone f d s name (Ok ps) is made =
    all_of_one f d (name ∷ []) (Load 0) (λ p. p.source ≡ None) ps (loaded_step f d name) (subst (λ (x : NodeScript). script_programs f d false x (Ok ps)) is made)
loaded_alone f d s name (Err r) is made = tt

-- the program's source means what the bytes do
abbrev Means : Description → List ℕ → Program → Type 0
Means d bytes p = IfSome p.source (λ (source : ScriptTree). IsAccepted d bytes source.tree)

installed_program : (f : Folder) (d : Description) (name bytes : List ℕ) (p : Program) → HoldsFile f name (Some bytes) → installed f d false (record { 0 = 0 }) 1 name (Ok p) → Means d bytes p
installed_program f d name bytes p h (goes_on c compiled is) =
    subst (λ (o : Option ScriptTree). IfSome o (λ (source : ScriptTree). IsAccepted d bytes source.tree)) (sym is.source) (keeps_tree f d name bytes c h compiled)
installed_program f d name bytes p h (stops r refused clash) = cc

installed_step : (f : Folder) (d : Description) (name bytes : List ℕ) (o : Option Program) → HoldsFile f name (Some bytes) → step_program f d false (name ∷ []) first_install (Ok o)
    → IfSome o (Means d bytes)
installed_step f d name bytes o h (goes_on p is same) = subst (λ (x : Option Program). IfSome x (Means d bytes)) (sym same) (installed_program f d name bytes p h is)
installed_step f d name bytes o h (stops r is clash) = cc

pub installed_alone : (f : Folder) (d : Description) (s : NodeScript) (name bytes : List ℕ) (r : Result (List Program) Refusal) → s ≡ installing name → HoldsFile f name (Some bytes)
    → script_programs f d false s r → IfOk r (λ ps. All (λ (p : Program). IfSome p.source (λ (source : ScriptTree). IsAccepted d bytes source.tree)) ps)
installed_alone f d s name bytes (Ok ps) is h made =
    all_of_one f d (name ∷ []) first_install (Means d bytes) ps (λ o. installed_step f d name bytes o h) (subst (λ (x : NodeScript). script_programs f d false x (Ok ps)) is made)
installed_alone f d s name bytes (Err r) is h made = tt

-- ---- the script of a file

bad_text : (d : Description) (bytes : List ℕ) (line : ℕ) (why : Cause) (r : Result NodeScript Refusal) → node_script_in d bytes ≡ Err (BadLine line why) → script_text d bytes r
    → RefusesAs (BadScript line why) r
bad_text d bytes line why (Ok s) bad is = cc
bad_text d bytes line why (Err r) bad (inl x) = let told = x.1 in let as_told = x.2 in inl cc
bad_text d bytes line why (Err r) bad (inr wanting) = inr wanting

pub bad_script : (f : Folder) (d : Description) (name bytes : List ℕ) (line : ℕ) (why : Cause) (r : Result NodeScript Refusal) → HoldsFile f name (Some bytes) → length bytes ≤ 1048576
    → node_script_in d bytes ≡ Err (BadLine line why) → script f d name r → RefusesAs (BadScript line why) r
bad_script f d name bytes line why r h few bad (goes_on read is after) =
    bad_text d read.items line why r (ap (node_script_in d) (same_bytes f name bytes read h is) ∙ bad) after
bad_script f d name bytes line why r h few bad (stops e is same) =
    subst (RefusesAs {A = NodeScript} (BadScript line why)) (sym same) (inr (wanting_alone f name bytes h few e is))
