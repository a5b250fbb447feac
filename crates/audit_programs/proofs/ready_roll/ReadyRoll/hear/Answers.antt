use Rattle.std.proofs.Common.{◌≡◌, ◌<◌, ◌∙◌, ℕ, List, length, ap, subst}
use Rattle.std.specs.Prelude.{slice_index_or}
use Rattle.std.proofs.lemmas.List.{get_or_default}
use Rattle.mate_journal.specs.Journal.{JournalEntry, journal_entry}
use Rattle.mate_journal.specs.declared.entry.Stamped.{Stamped}
use Rattle.audit_rules.specs.Roll.{rolled}
use Rattle.audit_rules.proofs.InstalledLemmas.{LiveAreInstalled-step}
use Rattle.audit_rules.specs.Views.{roll_in}
use Rattle.audit_rules.specs.declared.roll.Roll.{Roll}
use Rattle.audit_rules.specs.Roll as told
use Rattle.audit_rules.specs.Tests.{installs_right}
use Rattle.audit_programs.specs.Ready.{installed_programs}
use Rattle.audit_programs.specs.Trials.{AreReady, machine_for, told_at}
use Rattle.audit_programs.specs.declared.ready_roll.ReadyRoll.{ReadyRoll}
use Rattle.audit_programs.specs.declared.trial.Trial.{Trial}
use Rattle.audit_programs.proofs.TrialLemmas.{HasReadUpTo-next, OnOk-map, images-parts, entry-at, in-range, named-below, handler-below}
use Rattle.audit_programs.proofs.ready_roll.ReadyRoll.hear.Goals as goal

-- what was read is the log's entry
entry-read : (t : Trial) (place : ℕ) (es : List Stamped) (d : Stamped) → es ≡ t.log.now.entries → place < length t.log.now.entries → slice_index_or es place d ≡ slice_index_or t.log.now.entries place (slice_index_or es place d)
entry-read t place es d is within =
    ap (λ (xs : List Stamped). slice_index_or xs place d) is ∙ get_or_default t.log.now.entries place d (slice_index_or es place d) within

pub make_ready-requires-clause-range : goal.make_ready-requires-clause-range
make_ready-requires-clause-range c =
    let t = c.args.trial.now in
    let e : Stamped = slice_index_or c.entries.result.now c.args.place c.index-entries-place.result in
    in-range t c.args.place e c.requires.tried c.requires.within (entry-read t c.args.place c.entries.result.now c.index-entries-place.result c.entries.ensures c.requires.within)

pub make_ready-requires-clause-named : goal.make_ready-requires-clause-named
make_ready-requires-clause-named c =
    let t = c.args.trial.now in
    let e : Stamped = slice_index_or c.entries.result.now c.args.place c.index-entries-place.result in
    named-below t c.args.place e c.requires.tried c.requires.within
    (entry-read t c.args.place c.entries.result.now c.index-entries-place.result c.entries.ensures c.requires.within)

pub make_ready-requires-clause-given : goal.make_ready-requires-clause-given
make_ready-requires-clause-given c =
    let t = c.args.trial.now in
    let x : told.Roll = roll_in t.log.now.images c.args.self.now.roll in
    let e : Stamped = slice_index_or c.entries.result.now c.args.place c.index-entries-place.result in
    ap (λ (g : JournalEntry). installs_right t.programs.now x g)
    (entry-at t c.args.place e c.requires.within (entry-read t c.args.place c.entries.result.now c.index-entries-place.result c.entries.ensures c.requires.within))
    ∙ (images-parts t c.args.place x c.requires.within c.requires.read.images).0

pub hear-requires : goal.hear-requires
hear-requires c =
    let t = c.args.trial.now in
    let e : Stamped = slice_index_or c.entries.result.now c.args.place c.index-entries-place.result in
    handler-below t.desc.now e.entry c.requires.tried.few
    (in-range t c.args.place e c.requires.tried c.requires.within (entry-read t c.args.place c.entries.result.now c.index-entries-place.result c.entries.ensures c.requires.within))

pub returns-clause-roll : goal.returns-clause-roll
returns-clause-roll c =
    let t = c.args.trial.now in
    let l = t.log.now in
    let place = c.args.place in
    let e : Stamped = slice_index_or c.entries.result.now place c.index-entries-place.result in
    let x : ReadyRoll = c.args.self.now in
    OnOk-map c.hear.result
    (λ heard.
    heard ∙ ap (λ (r : Roll). rolled (roll_in l.images r) (journal_entry l e.entry)) c.make_ready.ensures.roll
    ∙ ap (λ (g : JournalEntry). rolled (roll_in l.images x.roll) g) (entry-at t place e c.requires.within (entry-read t place c.entries.result.now c.index-entries-place.result c.entries.ensures c.requires.within)))
    (c.hear.ensures l)

pub returns-clause-read : goal.returns-clause-read
returns-clause-read c =
    let t = c.args.trial.now in
    let l = t.log.now in
    let place = c.args.place in
    let e : Stamped = slice_index_or c.entries.result.now place c.index-entries-place.result in
    let x : ReadyRoll = c.args.self.now in
    let y : ReadyRoll = record { roll = c.hear.new.self; ready = c.make_ready.new.self.ready; last = c.make_ready.new.self.last } in
    let told : journal_entry l e.entry ≡ told_at t place =
    entry-at t place e c.requires.within
    (entry-read t place c.entries.result.now c.index-entries-place.result c.entries.ensures c.requires.within) in
    OnOk-map c.hear.result
    (λ heard.
    HasReadUpTo-next t place x y c.requires.within c.requires.read (λ may live. LiveAreInstalled-step (machine_for t) (roll_in l.images x.roll) (told_at t place) may live)
    (heard ∙ ap (λ (r : Roll). rolled (roll_in l.images r) (journal_entry l e.entry)) c.make_ready.ensures.roll ∙ ap (λ (g : JournalEntry). rolled (roll_in l.images x.roll) g) told) (record { places = c.in_ok-make_ready.ensures.kept.places; kept = c.in_ok-make_ready.ensures.kept.kept })
    (subst (λ (g : JournalEntry). AreReady t.desc.now (rolled (roll_in l.images x.roll) g).installed (installed_programs y.ready)) told c.in_ok-make_ready.ensures.ready))
    (c.hear.ensures l)
