-- The programs of a script are those that it installs or injects.
use Rattle.std.proofs.Common.{◌≡◌, ℕ, zero, suc, true, List, [], ◌∷◌, map, refl, sym, ◌∙◌, ap, subst, Option, Some, None}
use Rattle.std.specs.Prelude.{All, IsSomeAnd, ◌==◌, ◌&&◌, slice_get, bytes_eq}
use Rattle.std.specs.List.{list_any}
use Rattle.std.proofs.lemmas.Bool.{eq-eqb, and_from, or_left, or_right}
use Rattle.std.proofs.lemmas.List.Elements.{All-head, All-tail}
use Rattle.std.proofs.lemmas.Slice.Eq.{bytes_eq-Decides}
use Rattle.vm_shape.specs.declared.description.Description.{Description}
use Rattle.mate_journal.specs.Machine.{HeldProgram}
use Rattle.mate_journal.specs.declared.program.Program.{Program}
use Rattle.script_steps.specs.Steps.{NodeScript}
use Rattle.script_steps.specs.declared.steps.Step.{Step}
use Rattle.script_steps.specs.declared.steps.Step.TheVariants as step
use Rattle.node_programs.specs.ScriptSteps.{held_or_none, program_at, step_of, steps_of, IsProgramOf}
use Rattle.node_programs.specs.Sources.{held_as, is_held_as, meaning_by}
use Rattle.node_programs.specs.WorldPrograms.{IsProgramOfWhat, AreProgramsOfWorld}
use Rattle.script_steps.specs.declared.world.World.{World as Script}
use Rattle.script_steps.specs.declared.world.Planned.{Planned}
use Rattle.world_rules.specs.Effect.{Installing}
use Rattle.world_rules.specs.State.{Moment, effect_at, state}
use Rattle.world_rules.specs.Run.{HaveCome}
use Rattle.mate_num.proofs.ListLemmas.{all-at}
use Rattle.world_laws.specs.Versions.{WasInjected}
use Rattle.world_laws.proofs.Versions.{installs_injected}
use Rattle.world_laws.proofs.Premises.{SaysInject, says-inject, plans_rightly}
use Rattle.world_run_laws.proofs.Programs.{right-script}
use Rattle.world_run_laws.specs.SourceWorld.{source_world}
use Rattle.audit_rules.specs.Laws.{IsOneOf}
use Rattle.command_laws.specs.NodeInstalls.{IsInstallOf, InstallPrograms}

-- ---- a program at its place

self-held : (p : Program) → is_held_as (held_as p) p ≡ true
self-held p =
    and_from (p.handler.0 == p.handler.0) ((p.version == p.version) && bytes_eq p.image.items p.image.items) (eq-eqb p.handler.0 p.handler.0 refl)
    (and_from (p.version == p.version) (bytes_eq p.image.items p.image.items) (eq-eqb p.version p.version refl) ((bytes_eq-Decides p.image.items p.image.items).1 refl))

one-at : (ps : List Program) (k : ℕ) (p : Program) → slice_get ps k ≡ Some p → IsOneOf ps (held_as p)
one-at [] k p is = let e : None ≡ Some p = is in cc
one-at (x ∷ ps) zero p is =
    let e : x ≡ p = cc in
    or_left (is_held_as (held_as p) x) (list_any (is_held_as (held_as p)) ps) (subst (λ (y : Program). is_held_as (held_as p) y ≡ true) (sym e) (self-held p))
one-at (x ∷ ps) (suc k) p is = or_right (is_held_as (held_as p) x) (list_any (is_held_as (held_as p)) ps) (one-at ps k p is)

-- the program at a place, where there is one
program_at-one : (ps : List Program) (k : ℕ) (P : Program → Type 0) → IsSomeAnd (slice_get ps k) P → IsOneOf ps (program_at ps k)
program_at-one ps k P some = by (slice_get ps k) refl some where
  by : (o : Option Program) → slice_get ps k ≡ o → IsSomeAnd o P → IsOneOf ps (held_or_none o)
  by None is some = absurd some
  by (Some p) is some = one-at ps k p is

-- ---- the steps of a node script

step-install : (ps : List Program) (s : Step) → IsProgramOf ps s → IsInstallOf ps (step_of ps s)
step-install ps (step.Install h version program) is = program_at-one ps program _ is
step-install ps (step.Load program) is = program_at-one ps program _ is
step-install ps _ is = tt

steps-install : (ps : List Program) (steps : List Step) → All (IsProgramOf ps) steps → InstallPrograms ps (map (step_of ps) steps)
steps-install ps [] all = tt
steps-install ps (s ∷ steps) all = (step-install ps s (All-head (IsProgramOf ps) s steps all), steps-install ps steps (All-tail (IsProgramOf ps) s steps all))

pub script-installs : (script : NodeScript) (ps : List Program) → All (IsProgramOf ps) script.steps → InstallPrograms ps (steps_of script ps)
script-installs script ps each = steps-install ps script.steps each

-- ---- the events of a world

same-program : (p q : HeldProgram) → p.handler.0 ≡ q.handler.0 → p.version ≡ q.version → p.image.items ≡ q.image.items → p ≡ q
same-program p q handler version image =
    ap (λ (h : ℕ). let x : HeldProgram = record { handler = record { 0 = h }; version = p.version; image = p.image } in x) handler
    ∙ ap (λ (v : ℕ). let x : HeldProgram = record { handler = q.handler; version = v; image = p.image } in x) version
    ∙ ap (λ (bytes : List ℕ). let x : HeldProgram = record { handler = q.handler; version = q.version; image = record { items = bytes } } in x) image

-- what an event installs is one of the programs
pub event-installs : (d : Description) (script : Script) (ps : List Program) → AreProgramsOfWorld d script ps → (m : Moment) (before : List Moment) (p : HeldProgram)
    → HaveCome (source_world d script ps) (m ∷ before) → (effect_at (source_world d script ps) (state (source_world d script ps) before) m).deed ≡ Installing p → IsOneOf ps p
event-installs d script ps right m before p come deed =
    by (installs_injected (source_world d script ps) (plans_rightly d (meaning_by d ps) script (program_at ps) (right-script d script ps right)).one_image m before p come deed) where
      of_line : (q : HeldProgram) (i : ℕ) → SaysInject script (program_at ps) i q → IsOneOf ps q
      of_line q i says =
          let own = all-at (λ (e : Planned). IsProgramOfWhat ps e.what) script.events i says.planned right.each says.stands in
          subst (IsOneOf ps) says.program_is (program_at-one ps says.program _ (subst (IsProgramOfWhat ps) says.what_is own))

      by : WasInjected (source_world d script ps) (m ∷ before) p.handler.0 p.version p.image.items → IsOneOf ps p
      by was =
          subst (IsOneOf ps) (same-program was.program p was.handler was.version_is was.image_is)
          (of_line was.program was.place (says-inject d (meaning_by d ps) script (program_at ps) was.place was.program was.injects))
