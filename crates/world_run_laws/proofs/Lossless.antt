-- The hop bound without suppression and loss, from the windows that a script promises.
use Rattle.std.proofs.Common.{◌≡◌, ◌<◌, ◌≤◌, ℕ, zero, suc, ◌+◌, ◌*◌, List, Option, Some, refl, sym, ◌∙◌, ap, subst, arith, inl, inr}
use Rattle.std.specs.Prelude.{slice_get}
use Rattle.std.specs.Option.{option_map}
use Rattle.std.proofs.lemmas.Bool.{cases_lt}
use Rattle.std.proofs.lemmas.List.Elements.{All-contains}
use Rattle.std.proofs.lemmas.Option.{slice_get-map}
use Rattle.mate_num.specs.declared.id.HandlerId.{HandlerId}
use Rattle.vm_shape.specs.declared.description.Description.{Description}
use Rattle.vm_shape.specs.Limits.{longest}
use Rattle.mate_journal.specs.declared.program.Program.{Program}
use Rattle.mate_journal.specs.declared.report.Report.{Report}
use Rattle.node_programs.specs.ScriptSteps.{program_at}
use Rattle.node_programs.specs.WorldPrograms.{AreProgramsOfWorld}
use Rattle.script_steps.specs.declared.world.Link.{Link}
use Rattle.script_steps.specs.declared.world.Planned.{Planned}
use Rattle.script_steps.specs.declared.world.What.TheVariants as what
use Rattle.script_steps.specs.declared.world.World.{World as Script}
use Rattle.world_rules.specs.World.{line_planned}
use Rattle.world_laws.specs.HopBound.{IsRightPlan}
use Rattle.world_laws.specs.Hops.{HasLink}
use Rattle.world_laws.specs.Premises.{IsInjectedProgram, IsOpenScript}
use Rattle.world_laws.specs.Versions.{InjectsAt}
use Rattle.world_laws.proofs.Premises.{plans_rightly}
use Rattle.world_run_laws.specs.Bound.{InjectsOn, IsLeftAlone, ShowsTime, whole, aired, told}
use Rattle.world_run_laws.specs.SourceWorld.{source_world}
use Rattle.world_run_laws.specs.Windows.{HasInstalled, KeepsTheWindows, LosslessIsPromised, PromisesWindow, at_home, over_hop}
use Rattle.world_run_laws.proofs.Programs.{right-script}

-- a report shows earlier times, too
shows-earlier : (script : Script) (r : Report) (t u : ℕ) → u ≤ t → ShowsTime script r t → ShowsTime script r u
shows-earlier script r t u less (whole is low) = whole is (omega (arith, less, low))
shows-earlier script r t u less (aired x has late) = aired x has (omega (arith, less, late))
shows-earlier script r t u less (told k l e stands has late) = told k l e stands has (omega (arith, less, late))

older-installed : (r : Report) (k : ℕ) (h : HandlerId) (version older by : ℕ) → older ≤ version → HasInstalled r k h version by → HasInstalled r k h older by
older-installed r k h version older by less has =
    record { at = has.at; program = has.program; told = has.told; handler = has.handler; at_least = (let least = has.at_least in omega (arith, less, least)); in_time = has.in_time }

-- a line that stands in the script injects its program
injects-at : (d : Description) (script : Script) (ps : List Program) (i time node : ℕ) (h : HandlerId) (version : ℕ) → AreProgramsOfWorld d script ps → (on : InjectsOn script i time node h version)
    → InjectsAt (source_world d script ps) i (program_at ps on.program) × IsInjectedProgram h version (program_at ps on.program)
injects-at d script ps i time node h version programs on = (
  (
    line_planned (program_at ps) line,
    slice_get-map (line_planned (program_at ps)) script.events i ∙ ap (λ (o : Option Planned). option_map (line_planned (program_at ps)) o) on.line,
    refl,
  ),
  (right-script d script ps programs).programs_are i on.program version h line on.line refl,
) where
  line : Planned
  line = record { time = time; node = node; what = what.Inject on.program h version }

more-time : (l time d : ℕ) → time + l * suc d ≡ time + l * d + l
more-time l time d = grind arith

no-time : (l time : ℕ) → time ≡ time + l * zero
no-time l time = grind arith

-- a hop more
hop-more : (d : Description) (script : Script) (ps : List Program) (r : Report) (i time a c b n : ℕ) (h : HandlerId) (version : ℕ) → AreProgramsOfWorld d script ps → KeepsTheWindows d script r → IsOpenScript script
    → (injects : InjectsOn script i time a h version) → HasLink script.links c b → HasLink script.links b c → IsLeftAlone script i h (time + 3 * longest d.trickle * suc n) → ShowsTime script r (time + 3 * longest d.trickle * suc n)
    → HasInstalled r c h version (time + 3 * longest d.trickle * n) → HasInstalled r b h version (time + 3 * longest d.trickle * suc n)
hop-more d script ps r i time a c b n h version programs keeps open_ injects there back alone shows before =
    keeps h version b (time + 3 * longest d.trickle * suc n) (over_hop (at_home before) (omega arith) (inr promised)) shows where
      plan : IsRightPlan (source_world d script ps)
      plan = plans_rightly d _ script (program_at ps) (right-script d script ps programs)

      longer : time + 3 * longest d.trickle * suc n ≡ time + 3 * longest d.trickle * n + 3 * longest d.trickle
      longer = more-time (3 * longest d.trickle) time n

      none-lost : (x y : ℕ) (linked : HasLink script.links x y) → linked.link.loss ≡ 0
      none-lost x y linked = All-contains (λ (l : Link). l.loss ≡ 0) script.links linked.link open_.lossless linked.among

      -- a line that comes after the injection stands behind it
      behind : (j : ℕ) (l : Planned) → slice_get script.events j ≡ Some l → time < l.time → i < j
      behind j l stands late = elim (cases_lt i j) [
        | inl less ↦ less
        | inr not_less ↦ absurd (elim (cases_lt j i) [
          | inl less ↦ (
              let early : l.time ≤ time = plan.timely j i (line_planned (program_at ps) l) (line_planned (program_at ps) (record { time = time; node = a; what = what.Inject injects.program h version }))
              (slice_get-map (line_planned (program_at ps)) script.events j ∙ ap (λ (o : Option Planned). option_map (line_planned (program_at ps)) o) stands)
              (slice_get-map (line_planned (program_at ps)) script.events i ∙ ap (λ (o : Option Planned). option_map (line_planned (program_at ps)) o) injects.line) less in
              omega (arith, early, late))
          | inr same ↦ (
              let e : j ≡ i = omega (arith, not_less, same) in
              let lines : Some l ≡ Some (record { time = time; node = a; what = what.Inject injects.program h version }) = sym stands ∙ ap (λ (k : ℕ). slice_get script.events k) e ∙ injects.line in
              let line : l ≡ record { time = time; node = a; what = what.Inject injects.program h version } = cc in
              let times : l.time ≡ time = ap (λ (x : Planned). x.time) line in
              omega (arith, times, late))
        ])
      ]

      promised : PromisesWindow d script r h c b (time + 3 * longest d.trickle * n) (time + 3 * longest d.trickle * suc n)
      promised = record {
        there = (there, none-lost c b there);
        back = (back, none-lost b c back);
        loud = open_.loud;
        no_reset = λ j l stands node after early. (alone j l (behind j l stands (omega (arith, after))) stands early).0;
        none_newer = λ j at node other on early. older-installed r c h version other (time + 3 * longest d.trickle * n) (no-newer j at node other on early) before;
        lasts = omega (arith, longer);
      } where
        no-newer : (j at node other : ℕ) → InjectsOn script j at node h other → at ≤ time + 3 * longest d.trickle * suc n → other ≤ version
        no-newer j at node other on early =
            let mine = injects-at d script ps i time a h version programs injects in
            let its = injects-at d script ps j at node h other programs on in
            let same : (program_at ps on.program).handler.0 ≡ (program_at ps injects.program).handler.0 = ap (λ (g : HandlerId). g.0) (its.1.handler_is ∙ sym mine.1.handler_is) in
            let its_version : (program_at ps on.program).version ≡ other = its.1.version_is in
            let my_version : (program_at ps injects.program).version ≡ version = mine.1.version_is in
            elim (cases_lt i j) [
              | inl later ↦ absurd ((alone j (record { time = at; node = node; what = what.Inject on.program h other }) later on.line early).1 refl)
              | inr not_later ↦ elim (cases_lt j i) [
                | inl earlier ↦ (
                    let rises : (program_at ps on.program).version < (program_at ps injects.program).version = plan.rising j i (program_at ps on.program) (program_at ps injects.program) its.0 mine.0 same earlier in
                    omega (arith, rises, its_version, my_version))
                | inr not_earlier ↦ (
                    let e : j ≡ i = omega (arith, not_later, not_earlier) in
                    let lines : Some (record { time = at; node = node; what = what.Inject on.program h other }) ≡ Some (record { time = time; node = a; what = what.Inject injects.program h version })
                    = sym on.line ∙ ap (λ (k : ℕ). slice_get script.events k) e ∙ injects.line in
                    let versions : other ≡ version = cc in
                    omega (arith, versions))
              ]
            ]

pub lossless_is_promised : LosslessIsPromised
lossless_is_promised d script ps r i time a b zero h version programs keeps open_ injects first away alone shows =
    subst (λ (k : ℕ). HasInstalled r k h version (time + 3 * longest d.trickle * zero)) away (subst (λ (t : ℕ). HasInstalled r a h version t) (no-time (3 * longest d.trickle) time) first)
lossless_is_promised d script ps r i time a b (suc n) h version programs keeps open_ injects first away alone shows =
    let longer : time + 3 * longest d.trickle * suc n ≡ time + 3 * longest d.trickle * n + 3 * longest d.trickle = more-time (3 * longest d.trickle) time n in
    hop-more d script ps r i time a away.0 b n h version programs keeps open_ injects away.2 away.3 alone shows
    (lossless_is_promised d script ps r i time a away.0 n h version programs keeps open_ injects first away.1
    (λ j l later stands early. alone j l later stands (omega (arith, early, longer)))
    (shows-earlier script r (time + 3 * longest d.trickle * suc n) (time + 3 * longest d.trickle * n) (omega (arith, longer)) shows))
