-- The script that installs what a right world injects is right, and its programs are the world's.
use Rattle.std.proofs.Common.{◌≡◌, ℕ, zero, suc, ◌+◌, ◌<◌, Bool, true, false, List, [], ◌∷◌, ◌++◌, length, Option, Some, None, option_to_list, Result, Ok, Err, refl, sym, ◌∙◌, ap, subst, inl, inr, arith, take, get_or, add-one, append-nil}
use Rattle.std.proofs.Math.Seq.{take-suc}
use Rattle.std.proofs.lemmas.Grind.{flat_map-append}
use Rattle.std.specs.Prelude.{All, slice_get, IsSome, IsSomeAnd, IfOk}
use Rattle.std.specs.List.{AllPairs}
use Rattle.std.proofs.lemmas.List.Elements.{All-nil, All-cons, All-head, All-tail}
use Rattle.std.proofs.lemmas.List.Kept.{AllPairs-cons}
use Rattle.vm_shape.proofs.ListLemmas.{AllPairs-head, AllPairs-tail}
use Rattle.mate_num.specs.declared.id.HandlerId.{HandlerId}
use Rattle.mate_journal.specs.declared.program.Program.{Program}
use Rattle.command_refusals.specs.declared.refusal.Refusal.{Refusal}
use Rattle.command_refusals.specs.declared.refusal.Refusal.TheVariants.{NoMemory}
use Rattle.command_steps.specs.Parts.{Folder}
use Rattle.command_steps.specs.Steps.{stops}
use Rattle.node_programs.specs.ScriptSteps.{IsProgramOf, AreProgramsOf}
use Rattle.command_programs.specs.Programs.{programs_after}
use Rattle.command_programs.proofs.StepLaws.{step_wants}
use Rattle.script_steps.specs.Steps.{NodeScript, IsRightStep, Rises, IsRightSteps}
use Rattle.script_steps.specs.declared.steps.Step.{Step}
use Rattle.script_steps.specs.declared.steps.Step.TheVariants as step
use Rattle.vm_shape.specs.declared.description.Description.{Description}
use Rattle.script_steps.specs.World.{IsRightWhat, IsRightPlanned, IfInjects, Follow, IsRightWorld}
use Rattle.script_steps.specs.declared.world.Planned.{Planned}
use Rattle.script_steps.specs.declared.world.What.{What}
use Rattle.script_steps.specs.declared.world.What.TheVariants as what
use Rattle.script_steps.specs.declared.world.World.{World}
use Rattle.node_programs.specs.WorldPrograms.{IsProgramOfWhat, AreProgramsOfWorld}
use Rattle.command_programs.specs.Injected.{install_of, installs_in, installs, world_programs}

-- ---- right steps

install-right : (d : Description) (files : ℕ) (w : What) → IsRightWhat d files w → All (IsRightStep d files) (option_to_list (install_of w))
install-right d files (what.Inject program handler version) right = All-cons (IsRightStep d files) (step.Install handler version program) [] right (All-nil (IsRightStep d files))
install-right d files _ right = All-nil (IsRightStep d files)

All-join : {A : Type 0} (P : A → Type 0) (xs ys : List A) → All P xs → All P ys → All P (xs ++ ys)
All-join P [] ys front back = back
All-join P (x ∷ xs) ys front back = All-cons P x (xs ++ ys) (All-head P x xs front) (All-join P xs ys (All-tail P x xs front) back)

installs-each : (d : Description) (nodes until files : ℕ) (events : List Planned) → All (IsRightPlanned d nodes until files) events → All (IsRightStep d files) (installs_in events)
installs-each d nodes until files [] right = All-nil (IsRightStep d files)
installs-each d nodes until files (e ∷ events) right =
    All-join (IsRightStep d files) (option_to_list (install_of e.what)) (installs_in events)
    (install-right d files e.what (All-head (IsRightPlanned d nodes until files) e events right).what)
    (installs-each d nodes until files events (All-tail (IsRightPlanned d nodes until files) e events right))

-- ---- rising versions

abbrev RisesOver : What → What → Type 0
RisesOver w v = IfInjects w (λ handler version. IfInjects v (λ other newer. handler ≡ other → version < newer))

rises-one : (h : HandlerId) (version program : ℕ) (v : What) → IfInjects v (λ other newer. h ≡ other → version < newer) → All (Rises (step.Install h version program)) (option_to_list (install_of v))
rises-one h version program (what.Inject p other newer) rises =
    All-cons (Rises (step.Install h version program)) (step.Install other newer p) [] rises (All-nil (Rises (step.Install h version program)))
rises-one h version program _ rises = All-nil (Rises (step.Install h version program))

rises-over : (h : HandlerId) (version program : ℕ) (events : List Planned) → All (λ (p : Planned). IfInjects p.what (λ other newer. h ≡ other → version < newer)) events
    → All (Rises (step.Install h version program)) (installs_in events)
rises-over h version program [] all = All-nil (Rises (step.Install h version program))
rises-over h version program (e ∷ events) all =
    let P : Planned → Type 0 = λ p. IfInjects p.what (λ other newer. h ≡ other → version < newer) in
    All-join (Rises (step.Install h version program)) (option_to_list (install_of e.what)) (installs_in events) (rises-one h version program e.what (All-head P e events all))
    (rises-over h version program events (All-tail P e events all))

no_pairs : {A : Type 0} (R : A → A → Type 0) → AllPairs R []
no_pairs R = λ i j d h k. absurd (omega (arith, k))

installs-rising : (events : List Planned) → AllPairs Follow events → AllPairs Rises (installs_in events)
installs-rising [] pairs = no_pairs Rises
installs-rising (e ∷ events) pairs = by e.what (λ i d h. (AllPairs-head Follow e events pairs i d h).rising) (installs-rising events (AllPairs-tail Follow e events pairs)) where
  by : (w : What) → All (λ (p : Planned). RisesOver w p.what) events → AllPairs Rises (installs_in events) → AllPairs Rises (option_to_list (install_of w) ++ installs_in events)
  by (what.Inject program handler version) over rest =
      AllPairs-cons Rises (step.Install handler version program) (installs_in events) (rises-over handler version program events over) rest
  by (what.Post handler payload) over rest = rest
  by what.Show over rest = rest
  by what.Reset over rest = rest
  by (what.Noise bytes) over rest = rest

pub installs-right : (d : Description) (w : World) → IsRightWorld d w → IsRightSteps d (installs w)
installs-right d w right = record {
  each = installs-each d w.nodes w.until (length w.files) w.events right.events;
  rising = installs-rising w.events right.in_order;
}

-- ---- its programs

of_line : (ps : List Program) (w : What) → All (IsProgramOf ps) (option_to_list (install_of w)) → IsProgramOfWhat ps w
of_line ps (what.Inject program handler version) all =
    let is = All-head (IsProgramOf ps) (step.Install handler version program) [] all in
    by (slice_get ps program) is where
      by : (o : Option Program) → IsSomeAnd o (λ p. IsSome p.source × (p.handler ≡ handler) × (p.version ≡ version)) → IsSomeAnd o (λ p. (p.handler ≡ handler) × (p.version ≡ version))
      by (Some p) is = (is.1, is.2)
      by None is = is
of_line ps _ all = tt

All-front : {A : Type 0} (P : A → Type 0) (xs ys : List A) → All P (xs ++ ys) → All P xs
All-front P [] ys all = All-nil P
All-front P (x ∷ xs) ys all = All-cons P x xs (All-head P x (xs ++ ys) all) (All-front P xs ys (All-tail P x (xs ++ ys) all))

All-back : {A : Type 0} (P : A → Type 0) (xs ys : List A) → All P (xs ++ ys) → All P ys
All-back P [] ys all = all
All-back P (x ∷ xs) ys all = All-back P xs ys (All-tail P x (xs ++ ys) all)

of_lines : (ps : List Program) (events : List Planned) → All (IsProgramOf ps) (installs_in events) → All (λ (p : Planned). IsProgramOfWhat ps p.what) events
of_lines ps [] all = All-nil (λ (p : Planned). IsProgramOfWhat ps p.what)
of_lines ps (e ∷ events) all =
    All-cons (λ (p : Planned). IsProgramOfWhat ps p.what) e events
    (of_line ps e.what (All-front (IsProgramOf ps) (option_to_list (install_of e.what)) (installs_in events) all))
    (of_lines ps events (All-back (IsProgramOf ps) (option_to_list (install_of e.what)) (installs_in events) all))

pub installs-programs : (d : Description) (w : World) (ps : List Program) → IsRightWorld d w → AreProgramsOf d (installs w) ps → AreProgramsOfWorld d w ps
installs-programs d w ps right are = record { world = right; programs = are.programs; count = are.count; each = of_lines ps w.events are.each }

-- ---- want of memory

after_wants : (f : Folder) (d : Description) (fold : Bool) (names : List (List ℕ)) (ps : List Program) (xs : List Step) → programs_after f d fold names ps xs (Err NoMemory)
after_wants f d fold names ps [] = refl
after_wants f d fold names ps (x ∷ xs) = stops NoMemory (step_wants f d fold names x) refl

-- memory may be wanting before any program
pub programs_want : (f : Folder) (d : Description) (fold : Bool) (w : World) → world_programs f d fold w (Err NoMemory)
programs_want f d fold w = after_wants f d fold w.files [] (installs_in w.events)

-- ---- the loop over the lines

installs-push : (events : List Planned) (e : Planned) → installs_in (events ++ e ∷ []) ≡ installs_in events ++ option_to_list (install_of e.what)
installs-push events e =
    flat_map-append (λ (p : Planned). option_to_list (install_of p.what)) events (e ∷ []) ∙ ap (λ (xs : List Step). installs_in events ++ xs) (append-nil (option_to_list (install_of e.what)))

pub installs-next : (events : List Planned) (i : ℕ) (x : Planned) → i < length events → x ≡ get_or events i x → installs_in (take (i + 1) events) ≡ installs_in (take i events) ++ option_to_list (install_of x.what)
installs-next events i x low is =
    ap (λ (k : ℕ). installs_in (take k events)) (add-one i) ∙ ap installs_in (take-suc events i x low) ∙ installs-push (take i events) (get_or events i x)
    ∙ ap (λ (y : Planned). installs_in (take i events) ++ option_to_list (install_of y.what)) (sym is)

-- the programs of its script are those of the world
pub if-programs : (d : Description) (w : World) (script : NodeScript) (answer : Result (List Program) Refusal) → IsRightWorld d w → script ≡ installs w → IfOk answer (AreProgramsOf d script) → IfOk answer (AreProgramsOfWorld d w)
if-programs d w script (Ok ps) right is are = installs-programs d w ps right (subst (λ (s : NodeScript). AreProgramsOf d s ps) is are)
if-programs d w script (Err r) right is are = tt
