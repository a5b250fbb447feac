use Rattle.std.proofs.Common.{◌≡◌, ℤ, List, Vec, Global, length, map, refl, ap, sym, ◌∙◌, subst}
use Rattle.arrayvec.specs.ArrayVec.{ArrayVec}
use Rattle.std.specs.Vec.{with_items}
use Rattle.std.proofs.lemmas.List.{with_items_is}
use Rattle.mate_journal.specs.Journal.{journal_entry}
use Rattle.mate_journal.specs.Log.{Log}
use Rattle.mate_journal.specs.declared.entry.Entry.{Entry}
use Rattle.mate_num.specs.declared.call.End.TheVariants as end
use Rattle.audit_rules.specs.Roll.{rolled}
use Rattle.audit_rules.specs.Views.{come_to, answered_at, roll_in}
use Rattle.audit_rules.specs.declared.phase.Phase.{Phase}
use Rattle.audit_rules.specs.declared.phase.Phase.TheVariants as phase
use Rattle.audit_rules.specs.declared.roll.Roll.{Roll}
use Rattle.audit_rules.specs.declared.seat.Seat.{Seat}
use Rattle.audit_rules.proofs.ViewLemmas.{moved-in, answer-in, ended-in}
use Rattle.audit_rules.proofs.roll.Roll.hear.Goals as goal

-- a list that is as long as the items of a vector
long : (new old : List Seat) (v : Vec Seat Global) → length new ≡ length old → old ≡ v.items → length new ≡ v.len
long new old v same is = same ∙ ap (λ (xs : List Seat). length xs) is ∙ sym v.ok.0

-- what is heard of an entry is heard of one that is the same
by_entry : (l : Log) (x y : Roll) (e f : Entry) → e ≡ f → roll_in l.images y ≡ rolled (roll_in l.images x) (journal_entry l f) → roll_in l.images y ≡ rolled (roll_in l.images x) (journal_entry l e)
by_entry l x y e f is h = subst (λ (g : Entry). roll_in l.images y ≡ rolled (roll_in l.images x) (journal_entry l g)) (sym is) h

pub returns-in-Start : goal.returns-in-Start
returns-in-Start c =
    λ l.
    let x : Roll = c.args.self.now in
    let y : Roll = record x { seats = with_items x.seats c.move_to.new.seats } in
    by_entry l x y c.args.entry.now _ c.in-Start.is
    (moved-in l.images x y c.in-Start.inv phase.Ready refl refl (with_items_is x.seats c.move_to.new.seats (long c.move_to.new.seats c.as_mut_slice.result.now x.seats c.move_to.auto.seats c.as_mut_slice.ensures.value) ∙ c.move_to.ensures ∙ ap (λ (xs : List Seat). map (come_to c.in-Start.inv phase.Ready) xs) c.as_mut_slice.ensures.value))

pub returns-in-Ask : goal.returns-in-Ask
returns-in-Ask c =
    λ l.
    let x : Roll = c.args.self.now in
    let y : Roll = record x { seats = with_items x.seats c.move_to-in-Ask.new.seats } in
    let p : Phase = phase.Waiting c.in-Ask.fun c.in-Ask.args in
    by_entry l x y c.args.entry.now _ c.in-Ask.is
    (moved-in l.images x y c.in-Ask.inv p refl refl
    (with_items_is x.seats c.move_to-in-Ask.new.seats (long c.move_to-in-Ask.new.seats c.as_mut_slice-in-Ask.result.now x.seats c.move_to-in-Ask.auto.seats c.as_mut_slice-in-Ask.ensures.value)
    ∙ c.move_to-in-Ask.ensures
    ∙ ap (λ (xs : List Seat). map (come_to c.in-Ask.inv (phase.Waiting c.in-Ask.fun c.copy_of-in-Ask.result)) xs) c.as_mut_slice-in-Ask.ensures.value
    ∙ ap (λ (args : ArrayVec ℤ). map (come_to c.in-Ask.inv (phase.Waiting c.in-Ask.fun args)) x.seats.items) c.copy_of-in-Ask.ensures))

pub returns-in_ok-answer-in-Answer : goal.returns-in_ok-answer-in-Answer
returns-in_ok-answer-in-Answer c =
    λ l.
    let x : Roll = c.args.self.now in
    let y : Roll = record x { seats = with_items x.seats c.answer.new.seats } in
    by_entry l x y c.args.entry.now _ c.in-Answer.is
    (answer-in l.images x y c.in-Answer.inv c.in-Answer.value refl refl
    (with_items_is x.seats c.answer.new.seats (long c.answer.new.seats c.as_mut_slice-in-Answer.result.now x.seats c.answer.auto.seats c.as_mut_slice-in-Answer.ensures.value) ∙ c.in_ok-answer-in-Answer.ensures ∙ ap (λ (xs : List Seat). map (answered_at c.in-Answer.inv c.in-Answer.value) xs) c.as_mut_slice-in-Answer.ensures.value))

pub returns-in-Halt : goal.returns-in-Halt
returns-in-Halt c =
    λ l.
    let x : Roll = c.args.self.now in
    let y : Roll = record x { seats = c.leave.new.seats } in
    by_entry l x y c.args.entry.now _ c.in-Halt.is (ended-in l.images x y c.in-Halt.inv end.Halt refl refl c.leave.ensures)

pub returns-in-Fault : goal.returns-in-Fault
returns-in-Fault c =
    λ l.
    let x : Roll = c.args.self.now in
    let y : Roll = record x { seats = c.leave-in-Fault.new.seats } in
    by_entry l x y c.args.entry.now _ c.in-Fault.is (ended-in l.images x y c.in-Fault.inv (end.Fault c.in-Fault.kind) refl refl c.leave-in-Fault.ensures)
