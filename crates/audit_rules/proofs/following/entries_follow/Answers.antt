use Rattle.std.proofs.Common.{◌≡◌, ℕ, suc, Bool, true, false, List, [], ◌∷◌, map, drop, drop-cons, drop_of_length-le, length, get_or, sym, ◌∙◌, ap, subst, add-one, arith, ◌≤◌, ◌<◌, ◌+◌}
use Rattle.std.specs.Prelude.{◌&&◌}
use Rattle.mate_journal.specs.Described.{machine_of}
use Rattle.mate_journal.specs.Journal.{journal_entry, journal_of}
use Rattle.mate_journal.specs.Log.{Log}
use Rattle.mate_journal.specs.Machine.{Machine}
use Rattle.mate_journal.specs.declared.entry.Stamped.{Stamped}
use Rattle.journal_laws.specs.Growth.{event_of}
use Rattle.audit_rules.specs.Roll.{Roll, nobody, rolled}
use Rattle.audit_rules.specs.Following.{may_follow, follow_one_another, entries_follow}
use Rattle.audit_rules.specs.Stamps.{rise}
use Rattle.audit_rules.specs.Views.{roll_in}
use Rattle.audit_rules.proofs.RollTests.{rising}
use Rattle.audit_rules.proofs.following.entries_follow.Goals as goal

-- stamps fall
fallen : (m : Machine) (l : Log) (es : List Stamped) → es ≡ l.entries → false ≡ rise es → false ≡ entries_follow m (journal_of l)
fallen m l es is falls =
    ap (λ (b : Bool). b && follow_one_another m nobody (journal_of l)) (falls ∙ ap rise is ∙ rising l l.entries)

-- all entries were heard
heard_all : (m : Machine) (l : Log) (es : List Stamped) (x : Roll) (i : ℕ) → es ≡ l.entries → true ≡ rise es → length es ≤ i
    → follow_one_another m x (map (event_of l) (drop i l.entries)) ≡ follow_one_another m nobody (journal_of l) → true ≡ entries_follow m (journal_of l)
heard_all m l es x i is rises past rest =
    let none : drop i l.entries ≡ [] = drop_of_length-le l.entries (let e = ap (λ (xs : List Stamped). length xs) is in omega (arith, e, past)) in
    (ap (λ (xs : List Stamped). follow_one_another m x (map (event_of l) xs)) (sym none) ∙ rest)
    ∙ ap (λ (b : Bool). b && follow_one_another m nobody (journal_of l)) (rises ∙ ap rise is ∙ rising l l.entries)

-- what is left begins with the entry at its place
at_place : (l : Log) (es : List Stamped) (i : ℕ) (s : Stamped) → es ≡ l.entries → i < length es → s ≡ get_or es i s → drop i l.entries ≡ s ∷ drop (i + 1) l.entries
at_place l es i s is within at =
    subst (λ (xs : List Stamped). drop i xs ≡ s ∷ drop (i + 1) xs) is (rw add-one (drop-cons es i s within ∙ ap (λ (t : Stamped). t ∷ drop (suc i) es) (sym at)))

-- an entry may not follow
stopped : (m : Machine) (l : Log) (es : List Stamped) (x : Roll) (i : ℕ) (s : Stamped) → es ≡ l.entries → true ≡ rise es → drop i l.entries ≡ s ∷ drop (i + 1) l.entries
    → false ≡ may_follow m x (journal_entry l s.entry) → follow_one_another m x (map (event_of l) (drop i l.entries)) ≡ follow_one_another m nobody (journal_of l) → false ≡ entries_follow m (journal_of l)
stopped m l es x i s is rises at may rest =
    (ap (λ (b : Bool). b && follow_one_another m (rolled x (journal_entry l s.entry)) (map (event_of l) (drop (i + 1) l.entries))) may
    ∙ sym (ap (λ (xs : List Stamped). follow_one_another m x (map (event_of l) xs)) at) ∙ rest)
    ∙ ap (λ (b : Bool). b && follow_one_another m nobody (journal_of l)) (rises ∙ ap rise is ∙ rising l l.entries)

-- one more entry was heard
heard : (m : Machine) (l : Log) (x y : Roll) (i : ℕ) (s : Stamped) → drop i l.entries ≡ s ∷ drop (i + 1) l.entries → true ≡ may_follow m x (journal_entry l s.entry)
    → y ≡ rolled x (journal_entry l s.entry) → follow_one_another m x (map (event_of l) (drop i l.entries)) ≡ follow_one_another m nobody (journal_of l)
    → follow_one_another m y (map (event_of l) (drop (i + 1) l.entries)) ≡ follow_one_another m nobody (journal_of l)
heard m l x y i s at may is rest =
    ap (λ (z : Roll). follow_one_another m z (map (event_of l) (drop (i + 1) l.entries))) is
    ∙ ap (λ (b : Bool). b && follow_one_another m (rolled x (journal_entry l s.entry)) (map (event_of l) (drop (i + 1) l.entries))) may
    ∙ sym (ap (λ (xs : List Stamped). follow_one_another m x (map (event_of l) xs)) at) ∙ rest

pub returns-then-not-stamps_rise : goal.returns-then-not-stamps_rise
returns-then-not-stamps_rise c =
    λ meaning. fallen (machine_of c.args.desc.now meaning) c.args.log.now c.entries-entries.result.now c.entries-entries.ensures c.if-not-stamps_rise.ensures

pub returns : goal.returns
returns c =
    λ meaning.
    heard_all (machine_of c.args.desc.now meaning) c.args.log.now c.entries-entries.result.now (roll_in c.args.log.now.images c.loop-stamped.roll) c.loop-stamped.stamped-index c.entries-entries.ensures
    c.if-not-stamps_rise.ensures c.loop-stamped-test.false (c.loop-stamped.invariant meaning)

pub returns-then-not-may_follow : goal.returns-then-not-may_follow
returns-then-not-may_follow c =
    λ meaning.
    let l = c.args.log.now in
    stopped (machine_of c.args.desc.now meaning) l c.entries-entries.result.now (roll_in l.images c.loop-stamped.roll) c.loop-stamped.stamped-index c.stamped-item.result c.entries-entries.ensures c.if-not-stamps_rise.ensures
    (at_place l c.entries-entries.result.now c.loop-stamped.stamped-index c.stamped-item.result c.entries-entries.ensures c.loop-stamped-test.true c.stamped-item.is)
    (c.if-not-may_follow.ensures l meaning) (c.loop-stamped.invariant meaning)

pub loop-stamped-preserved : goal.loop-stamped-preserved
loop-stamped-preserved c =
    λ meaning.
    let l = c.args.log.now in
    heard (machine_of c.args.desc.now meaning) l (roll_in l.images c.loop-stamped.roll) (roll_in l.images c.hear.new.self) c.loop-stamped.stamped-index c.stamped-item.result
    (at_place l c.entries-entries.result.now c.loop-stamped.stamped-index c.stamped-item.result c.entries-entries.ensures c.loop-stamped-test.true c.stamped-item.is)
    (c.if-not-may_follow.ensures l meaning) (c.in_ok-hear.ensures l) (c.loop-stamped.invariant meaning)
