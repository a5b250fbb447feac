use Rattle.std.proofs.Common.{◌≡◌, ◌<◌, ◌≤◌, Bool, List, length, sym, ◌∙◌, ap, subst}
use Rattle.std.specs.Prelude.{◌&&◌, slice_index_or}
use Rattle.std.proofs.lemmas.List.{get_or_default}
use Rattle.mate_journal.specs.Grants.{started_number}
use Rattle.mate_journal.specs.Journal.{JournalEntry}
use Rattle.mate_journal.specs.declared.entry.Stamped.{Stamped}
use Rattle.audit_rules.specs.Granting.{is_granted, all_held_back}
use Rattle.audit_rules.specs.Rerun.{runs_right, serial_after}
use Rattle.audit_rules.specs.Roll as told
use Rattle.audit_rules.specs.Shown.{shows_right}
use Rattle.audit_rules.specs.Tests.{conflict_of}
use Rattle.audit_rules.specs.Views.{roll_in}
use Rattle.audit_programs.specs.Trials.{machine_for}
use Rattle.audit_programs.proofs.TrialLemmas.{seats-ready, named-below}
use Rattle.report_audit.proofs.FoldLemmas.{Stands-begins, Stands-next, stops-serial, serial-end, shown-end, granted-end, fails-serial, keeps-serial, entry-told}
use Rattle.report_audit.proofs.runs.first_failed_of.Goals as goal
use Rattle.report_audit.proofs.runs.first_failed_of.Goals.{then-granted, else-granted}

pub loop-place-init : goal.loop-place-init
loop-place-init c = record { stands = Stands-begins c.args.trial.now c.begin.new.self c.zero_store-store.result c.begin.ensures.read c.begin.ensures.nobody c.zero_store-store.ensures; runs = c.requires.runs }

pub still_shown-requires-clause-ready : goal.still_shown-requires-clause-ready
still_shown-requires-clause-ready c = seats-ready c.args.trial.now c.loop-place.place c.loop-place.roll c.loop-place.invariant.stands.read

pub still_shown-requires-clause-named : goal.still_shown-requires-clause-named
still_shown-requires-clause-named c =
    let t = c.args.trial.now in
    let entries : List Stamped = t.log.now.entries in
    let place = c.loop-place.place in
    let e : Stamped = slice_index_or c.entries-entries.result.now place c.index-entries-place.result in
    let below : place < length entries = subst (λ (es : List Stamped). place < length es) c.entries-entries.ensures c.loop-place-test.true in
    named-below t place e c.requires.tried below
    (ap (λ (es : List Stamped). slice_index_or es place c.index-entries-place.result) c.entries-entries.ensures ∙ get_or_default entries place c.index-entries-place.result e below)

pub still_granted-granted-requires : goal.still_granted-granted-requires
still_granted-granted-requires c = c.loop-place.invariant.stands.read

pub hear-requires-clause-within : goal.hear-requires-clause-within
hear-requires-clause-within c = subst (λ (es : List Stamped). c.loop-place.place < length es) c.entries-entries.ensures c.loop-place-test.true

pub returns-then-not-branch-clause-law : goal.returns-then-not-branch-clause-law
returns-then-not-branch-clause-law c =
    let t = c.args.trial.now in
    let place = c.loop-place.place in
    let x : told.Roll = roll_in t.log.now.images c.loop-place.roll.roll in
    let store = c.loop-place.store in
    let told = entry-told t c.entries-entries.result.now place c.index-entries-place.result c.entries-entries.ensures c.loop-place-test.true in
    fails-serial t c.requires.tried
    (stops-serial t place x store (subst (λ (es : List Stamped). place < length es) c.entries-entries.ensures c.loop-place-test.true) c.loop-place.invariant.stands.serial
    (sym c.if-not-branch.true ∙ c.in_ok-run_at.ensures.right.0 ∙ ap (λ (g : JournalEntry). runs_right (machine_for t) (conflict_of t.desc.now) x store g) told))

pub returns-then-not-branch-clause-kept : goal.returns-then-not-branch-clause-kept
returns-then-not-branch-clause-kept c = c.loop-place.invariant.stands.read.kept

pub loop-place-preserved : goal.loop-place-preserved
loop-place-preserved c =
    let t = c.args.trial.now in
    let l = t.log.now in
    let m = machine_for t in
    let place = c.loop-place.place in
    let x : told.Roll = roll_in l.images c.loop-place.roll.roll in
    let store = c.loop-place.store in
    let told = entry-told t c.entries-entries.result.now place c.index-entries-place.result c.entries-entries.ensures c.loop-place-test.true in
    let below : place < length l.entries = subst (λ (es : List Stamped). place < length es) c.entries-entries.ensures c.loop-place-test.true in
    let after = c.in_ok-run_at.ensures.right.1 c.if-not-branch.false in
    record {
      stands = Stands-next t place c.loop-place.roll c.hear.new.self store c.run_at.new.store c.loop-place.last c.start_of-last.result c.loop-place.shown c.loop-place.granted c.in_ok-shown.shown c.still_granted-granted.result below c.loop-place.invariant.stands
          (record {
            shows = c.in_ok-shown.ensures.shown ∙ ap (λ (g : JournalEntry). c.loop-place.shown && shows_right m x store g) told;
            grants = c.still_granted-granted.ensures ∙ ap (λ (g : JournalEntry). c.loop-place.granted && is_granted (conflict_of t.desc.now) x c.loop-place.last g) told;
            runs = sym c.if-not-branch.false ∙ c.in_ok-run_at.ensures.right.0 ∙ ap (λ (g : JournalEntry). runs_right m (conflict_of t.desc.now) x store g) told;
            after = after.0 ∙ ap (λ (g : JournalEntry). serial_after m x store g) told;
            lengths = after.1;
            starts = c.start_of-last.ensures l ∙ ap started_number told;
          })
          c.in_ok-hear.ensures.read c.in_ok-hear.ensures.roll;
      runs = c.in_ok-run_at.ensures.runs;
    }

pub all_so_far-requires-clause-ready : goal.all_so_far-requires-clause-ready
all_so_far-requires-clause-ready c = seats-ready c.args.trial.now c.loop-place.place c.loop-place.roll c.loop-place.invariant.stands.read

pub all_held_back-in_order-requires : goal.all_held_back-in_order-requires
all_held_back-in_order-requires c = seats-ready c.args.trial.now c.loop-place.place c.loop-place.roll c.loop-place.invariant.stands.read

pub returns-then-not-branch-2-clause-law : goal.returns-then-not-branch-2-clause-law
returns-then-not-branch-2-clause-law c =
    let t = c.args.trial.now in
    let past = subst (λ (es : List Stamped). length es ≤ c.loop-place.place) c.entries-entries.ensures c.loop-place-test.false in
    fails-serial t c.requires.tried
    (sym c.if-not-branch-2.true ∙ c.in_ok-all_so_far.ensures.right
    ∙ serial-end t c.loop-place.place c.loop-place.roll c.loop-place.store c.loop-place.last c.loop-place.shown c.loop-place.granted past c.loop-place.invariant.stands)

pub returns-then-not-branch-2-clause-kept : goal.returns-then-not-branch-2-clause-kept
returns-then-not-branch-2-clause-kept c = c.loop-place.invariant.stands.read.kept

pub returns-clause-law : goal.returns-clause-law
returns-clause-law c =
    let t = c.args.trial.now in
    let place = c.loop-place.place in
    let x = c.loop-place.roll in
    let store = c.loop-place.store in
    let last = c.loop-place.last in
    let shown = c.loop-place.shown in
    let granted = c.loop-place.granted in
    let past = subst (λ (es : List Stamped). length es ≤ place) c.entries-entries.ensures c.loop-place-test.false in
    let H : Bool = all_held_back (conflict_of t.desc.now) (roll_in t.log.now.images x.roll) in
    let ordered : c.if-granted.in_order ≡ (granted && H) = elim c.if-granted.branch [
      | then-granted w ↦ w.in_order-is ∙ w.all_held_back-in_order.ensures ∙ ap (λ (b : Bool). b && H) (sym w.if-granted.true)
      | else-granted w ↦ w.in_order-is ∙ w.if-granted.false ∙ ap (λ (b : Bool). b && H) (sym w.if-granted.false)
    ] in
    keeps-serial t shown c.if-granted.in_order c.law_behind.result c.requires.tried
    (sym c.if-not-branch-2.false ∙ c.in_ok-all_so_far.ensures.right ∙ serial-end t place x store last shown granted past c.loop-place.invariant.stands)
    (shown-end t place x store last shown granted past c.loop-place.invariant.stands)
    (ordered ∙ granted-end t place x store last shown granted past c.loop-place.invariant.stands)
    c.law_behind.ensures

pub returns-clause-kept : goal.returns-clause-kept
returns-clause-kept c = c.loop-place.invariant.stands.read.kept
