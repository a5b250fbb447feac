-- A script's file has one script or one refusal, and so have the files that it names programs.
use Rattle.std.proofs.Common.{◌≡◌, inl, inr, ℕ, Bool, List, [], ◌∷◌, ◌++◌, Option, Some, None, option_to_list, Result, Ok, Err, sym, ◌∙◌, ap, subst}
use Rattle.std.specs.Global.{Vec}
use Rattle.std.specs.Prelude.{⊤}
use Rattle.std.proofs.lemmas.List.{append-nil}
use Rattle.arrayvec.specs.ArrayVec.{ArrayVec}
use Rattle.mate_num.specs.declared.id.HandlerId.{HandlerId}
use Rattle.capsule_codec.specs.Image.{CapsuleParts, capsule_image}
use Rattle.mate_code.specs.Run.{Code}
use Rattle.mate_files.specs.Files.{Names}
use Rattle.mate_journal.specs.declared.program.Program.{Program}
use Rattle.ts_checked.specs.Checked.{ScriptTree}
use Rattle.script_steps.specs.NodeScript.{node_script_in}
use Rattle.script_steps.specs.Steps.{NodeScript}
use Rattle.script_steps.specs.declared.fault.Cause.{Cause}
use Rattle.script_steps.specs.declared.steps.Step.{Step}
use Rattle.script_steps.specs.declared.steps.Step.TheVariants as step
use Rattle.command_steps.specs.declared.code.CompiledScript.{CompiledScript}
use Rattle.vm_shape.specs.declared.description.Description.{Description}
use Rattle.command_refusals.specs.declared.refusal.Refusal.{Refusal}
use Rattle.command_steps.specs.OneAnswer.{AnswersAgree, steady}
use Rattle.command_steps.specs.Steps.{obtained}
use Rattle.command_steps.proofs.OneAnswer.{then_agrees, judged_agrees, SameBytes, file_agrees}
use Rattle.command_steps.proofs.OneCapsule.{SameCapsule, capsule_agrees}
use Rattle.command_steps.proofs.OneSource.{SameCompiled, source_agrees}
use Rattle.command_programs.specs.Programs.{IsInstalled, IsLoaded, installed, loaded, name_at, step_program, programs_after, script_programs}
use Rattle.command_programs.specs.SamePrograms.{SameSource, SameProgram, SamePrograms}
use Rattle.command_programs.proofs.StepLaws.{named_program}
use Rattle.command_programs.specs.Scripts.{IsBadScript, script_text, script}

-- ---- the script

pub script_text_agrees : (d : Description) (bytes : List ℕ) → AnswersAgree ◌≡◌ (script_text d bytes) (script_text d bytes)
script_text_agrees d bytes = judged_agrees ◌≡◌ _ _ _ one not same where
  one : (a b : NodeScript) → node_script_in d bytes ≡ Ok a → node_script_in d bytes ≡ Ok b → a ≡ b
  one a b p q = cc

  not : (a : NodeScript) (e : ℕ × Cause) → node_script_in d bytes ≡ Ok a → IsBadScript d bytes e → ⊥
  not a e p q = cc

  same : (e h : ℕ × Cause) → IsBadScript d bytes e → IsBadScript d bytes h → e ≡ h
  same e h p q =
      let line : e.0 ≡ h.0 = cc in
      let cause : e.1 ≡ h.1 = cc in
      ap (λ (n : ℕ). let x : ℕ × Cause = (n, e.1) in x) line ∙ ap (λ (c : Cause). let x : ℕ × Cause = (h.0, c) in x) cause

pub script_agrees : (names : Names) (d : Description) (name : List ℕ) → AnswersAgree ◌≡◌ (script (steady names) d name) (script (steady names) d name)
script_agrees names d name =
    then_agrees SameBytes ◌≡◌ _ _ _ _ (file_agrees names name)
    (λ a b e. subst (λ (bs : List ℕ). AnswersAgree ◌≡◌ (script_text d a.items) (script_text d bs)) (same a b e) (script_text_agrees d a.items)) where
      same : (a b : Vec ℕ) → SameBytes a b → a.items ≡ b.items
      same a b e = e

-- ---- programs

-- values for which the same holds are alike
pub obtained_agrees : {A : Type 0} (R : A → A → Type 0) (P Q : A → Type 0) → ((a b : A) → P a → Q b → R a b) → AnswersAgree R (obtained P) (obtained Q)
obtained_agrees R P Q alike (Ok a) (Ok b) p q = alike a b p q
obtained_agrees R P Q alike (Ok a) (Err r) p q = q
obtained_agrees R P Q alike (Err r) (Ok b) p q = p
obtained_agrees R P Q alike (Err r) (Err t) p q = inr (inl p)

same_image : (a b : ArrayVec ℕ) → a.items ≡ b.items → a ≡ b
same_image a b is = ap (λ (xs : List ℕ). let v : ArrayVec ℕ = record { items = xs } in v) is

source_same : (a b : Option ScriptTree) (c e : ScriptTree) → a ≡ Some c → b ≡ Some e → c.tree ≡ e.tree → SameSource a b
source_same a b c e is is' same = subst (λ (x : Option ScriptTree). SameSource x b) (sym is) (subst (λ (x : Option ScriptTree). SameSource (Some c) x) (sym is') same)

source_none : (a b : Option ScriptTree) → a ≡ None → b ≡ None → SameSource a b
source_none a b is is' = subst (λ (x : Option ScriptTree). SameSource x b) (sym is) (subst (λ (x : Option ScriptTree). SameSource None x) (sym is') tt)

pub installed_same : (d : Description) (h : HandlerId) (version : ℕ) (c e : CompiledScript) → SameCompiled c e → (p q : Program) → IsInstalled d h version c p → IsInstalled d h version e q → SameProgram p q
installed_same d h version c e same p q a b = record {
  handler = a.handler ∙ sym b.handler;
  version = a.version_is ∙ sym b.version_is;
  image = same_image p.image q.image (a.image ∙ ap (λ (code : ArrayVec ℕ). capsule_image (record { vm_id = d.vm_id; handler = h.0; version = version; code = code.items })) same.code ∙ sym b.image);
  source = source_same p.source q.source c.script e.script a.source b.source same.tree;
}

installed_agrees : (names : Names) (d : Description) (fold : Bool) (h : HandlerId) (version : ℕ) (name : List ℕ) → AnswersAgree SameProgram (installed (steady names) d fold h version name) (installed (steady names) d fold h version name)
installed_agrees names d fold h version name =
    then_agrees SameCompiled SameProgram _ _ _ _ (source_agrees names d fold name) (λ c e same. obtained_agrees SameProgram (IsInstalled d h version c) (IsInstalled d h version e) (installed_same d h version c e same))

loaded_same : (c e : CapsuleParts × Code) → SameCapsule c e → (p q : Program) → IsLoaded c.0 p → IsLoaded e.0 q → SameProgram p q
loaded_same c e same p q a b = record {
  handler = ap (λ (n : ℕ). let h : HandlerId = record { 0 = n } in h) (a.handler ∙ ap (λ (parts : CapsuleParts). parts.handler) same.parts ∙ sym b.handler);
  version = a.version_is ∙ ap (λ (parts : CapsuleParts). parts.version) same.parts ∙ sym b.version_is;
  image = same_image p.image q.image (a.image ∙ ap capsule_image same.parts ∙ sym b.image);
  source = source_none p.source q.source a.source b.source;
}

loaded_agrees : (names : Names) (d : Description) (name : List ℕ) → AnswersAgree SameProgram (loaded (steady names) d name) (loaded (steady names) d name)
loaded_agrees names d name =
    then_agrees SameCapsule SameProgram _ _ _ _ (capsule_agrees names d name) (λ c e same. obtained_agrees SameProgram (IsLoaded c.0) (IsLoaded e.0) (loaded_same c e same))

-- ---- steps

-- the same program, or none
abbrev SameNamed : Option Program → Option Program → Type 0
SameNamed None None = ⊤
SameNamed (Some p) (Some q) = SameProgram p q
SameNamed _ _ = ⊥

gives_agree : (given : Result Program Refusal → Type 0) → AnswersAgree SameProgram given given → AnswersAgree SameNamed (named_program given) (named_program given)
gives_agree given agree =
    then_agrees SameProgram SameNamed _ _ _ _ agree
    (λ p q same. obtained_agrees SameNamed (λ o. o ≡ Some p) (λ o. o ≡ Some q)
    (λ a b is is'. subst (λ (o : Option Program). SameNamed o b) (sym is) (subst (λ (o : Option Program). SameNamed (Some p) o) (sym is') same)))

none_agrees : AnswersAgree SameNamed (obtained (λ o. o ≡ None)) (obtained (λ o. o ≡ None))
none_agrees =
    obtained_agrees SameNamed (λ o. o ≡ None) (λ o. o ≡ None)
    (λ a b is is'. subst (λ (o : Option Program). SameNamed o b) (sym is) (subst (λ (o : Option Program). SameNamed None o) (sym is') tt))

step_agrees : (names : Names) (d : Description) (fold : Bool) (files : List (List ℕ)) (x : Step) → AnswersAgree SameNamed (step_program (steady names) d fold files x) (step_program (steady names) d fold files x)
step_agrees names d fold files (step.Install h version k) = gives_agree (installed (steady names) d fold h version (name_at files k)) (installed_agrees names d fold h version (name_at files k))
step_agrees names d fold files (step.Load k) = gives_agree (loaded (steady names) d (name_at files k)) (loaded_agrees names d (name_at files k))
step_agrees names d fold files _ = none_agrees

one_more : (ps qs : List Program) (p q : Program) → SamePrograms ps qs → SameProgram p q → SamePrograms (ps ++ p ∷ []) (qs ++ q ∷ [])
one_more [] [] p q same last = (last, tt)
one_more [] (y ∷ qs) p q same last = absurd same
one_more (x ∷ ps) [] p q same last = absurd same
one_more (x ∷ ps) (y ∷ qs) p q same last = (same.0, one_more ps qs p q same.1 last)

with_named : (ps qs : List Program) (o n : Option Program) → SamePrograms ps qs → SameNamed o n → SamePrograms (ps ++ option_to_list o) (qs ++ option_to_list n)
with_named ps qs None None same named = subst (λ (xs : List Program). SamePrograms xs (qs ++ [])) (sym (append-nil ps)) (subst (λ (xs : List Program). SamePrograms ps xs) (sym (append-nil qs)) same)
with_named ps qs None (Some q) same named = absurd named
with_named ps qs (Some p) None same named = absurd named
with_named ps qs (Some p) (Some q) same named = one_more ps qs p q same named

after_agrees : (names : Names) (d : Description) (fold : Bool) (files : List (List ℕ)) (ps qs : List Program) → SamePrograms ps qs → (left : List Step)
    → AnswersAgree SamePrograms (programs_after (steady names) d fold files ps left) (programs_after (steady names) d fold files qs left)
after_agrees names d fold files ps qs same [] =
    obtained_agrees SamePrograms (λ all. all ≡ ps) (λ all. all ≡ qs) (λ a b p q. subst (λ (xs : List Program). SamePrograms xs b) (sym p) (subst (λ (xs : List Program). SamePrograms ps xs) (sym q) same))
after_agrees names d fold files ps qs same (x ∷ xs) =
    then_agrees SameNamed SamePrograms _ _ _ _ (step_agrees names d fold files x)
    (λ o n named. after_agrees names d fold files (ps ++ option_to_list o) (qs ++ option_to_list n) (with_named ps qs o n same named) xs)

pub programs_agree : (names : Names) (d : Description) (fold : Bool) (s : NodeScript) → AnswersAgree SamePrograms (script_programs (steady names) d fold s) (script_programs (steady names) d fold s)
programs_agree names d fold s = after_agrees names d fold s.files [] [] tt s.steps
