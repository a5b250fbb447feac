-- A journal that is read entry by entry, with its programs made ready.
use Rattle.std.proofs.Common.{◌≡◌, ◌<◌, ◌≤◌, ℕ, zero, suc, ◌+◌, Bool, true, List, [], ◌∷◌, length, map, drop, drop-cons, replicate, refl, sym, ◌∙◌, ap, subst, inl, inr, Option, Some, None, Result, Ok, Err, arith}
use Rattle.std.specs.Prelude.{slice_set, slice_index_or, IfSome, IsSomeAnd, OnOk, if◌then◌else◌}
use Rattle.std.proofs.lemmas.Bool.{and_parts}
use Rattle.std.proofs.lemmas.Bool.Decides.{eqb_tells}
use Rattle.std.proofs.lemmas.List.{get_or-map, get_or_default, get_or-set_same, get_or-set_other, set-get_or, length-map, length-set}
use Rattle.mate_num.specs.declared.id.HandlerId.{HandlerId}
use Rattle.mate_journal.specs.Journal.{Installed, TimedEntry, journal_of, journal_entry}
use Rattle.mate_journal.specs.Log.{Log}
use Rattle.mate_journal.specs.Machine.{HeldProgram}
use Rattle.mate_journal.specs.declared.entry.Entry.{Entry}
use Rattle.mate_journal.specs.declared.entry.Entry.TheVariants as entry
use Rattle.mate_journal.specs.declared.entry.Stamped.{Stamped}
use Rattle.mate_journal.specs.Entries.{IsEntryInRange}
use Rattle.journal_laws.specs.Growth.{event_of, IsNamedBelow, AreNamedBelow}
use Rattle.journal_laws.proofs.TidyLemmas.{NamesInLog-numbered}
use Rattle.vm_shape.specs.declared.description.Description.{Description}
use Rattle.audit_rules.specs.Roll as told
use Rattle.audit_rules.specs.Roll.{nobody, rolled, LiveAreInstalled}
use Rattle.audit_rules.specs.Following.{stamps_rise, may_follow, follow_one_another}
use Rattle.audit_rules.specs.Tests.{installs_right, images_right}
use Rattle.audit_rules.specs.Views.{HasHandlerBelow, seat_in, roll_in}
use Rattle.audit_rules.specs.declared.seat.Seat.{Seat}
use Rattle.node_programs.specs.Sources.{held_as}
use Rattle.audit_programs.specs.Ready.{IsReadyAs, installed_programs, ready_at}
use Rattle.audit_programs.specs.declared.ready.ReadyProgram.{ReadyProgram}
use Rattle.audit_programs.specs.Trials.{machine_for, events_from, no_entry, told_at, IsTried, HasReadUpTo, HasKept, IsSeatReady, AreReady, StayReady, MakesReady}
use Rattle.audit_programs.proofs.ReadyLemmas.{IsReadyAs-image}
use Rattle.audit_programs.specs.declared.ready_roll.ReadyRoll.{ReadyRoll}
use Rattle.audit_programs.specs.declared.trial.Trial.{Trial}

-- ---- from one place to the next

-- the entry at a place, and then the others
pub events-next : (t : Trial) (place : ℕ) → place < length t.log.now.entries → events_from t place ≡ event_of t.log.now (slice_index_or t.log.now.entries place no_entry) ∷ events_from t (place + 1)
events-next t place within =
    ap (λ (es : List Stamped). map (event_of t.log.now) es) (drop-cons t.log.now.entries place no_entry within)
    ∙ ap (λ (k : ℕ). event_of t.log.now (slice_index_or t.log.now.entries place no_entry) ∷ map (event_of t.log.now) (drop k t.log.now.entries)) (let e : suc place ≡ place + 1 = omega arith in e)

-- the entry at the place may follow, and so may the others
pub follow-parts : (t : Trial) (place : ℕ) (x : told.Roll) → place < length t.log.now.entries → follow_one_another (machine_for t) x (events_from t place) ≡ true
    → (may_follow (machine_for t) x (told_at t place) ≡ true) × (follow_one_another (machine_for t) (rolled x (told_at t place)) (events_from t (place + 1)) ≡ true)
follow-parts t place x within follow =
    and_parts (may_follow (machine_for t) x (told_at t place)) (follow_one_another (machine_for t) (rolled x (told_at t place)) (events_from t (place + 1)))
    (ap (λ (es : List TimedEntry). follow_one_another (machine_for t) x es) (sym (events-next t place within)) ∙ follow)

pub images-parts : (t : Trial) (place : ℕ) (x : told.Roll) → place < length t.log.now.entries → images_right t.programs.now x (events_from t place) ≡ true
    → (installs_right t.programs.now x (told_at t place) ≡ true) × (images_right t.programs.now (rolled x (told_at t place)) (events_from t (place + 1)) ≡ true)
images-parts t place x within images =
    and_parts (installs_right t.programs.now x (told_at t place)) (images_right t.programs.now (rolled x (told_at t place)) (events_from t (place + 1)))
    (ap (λ (es : List TimedEntry). images_right t.programs.now x es) (sym (events-next t place within)) ∙ images)

-- ---- what is installed

-- an entry that installs nothing leaves what is installed
pub installed-kept : (l : Log) (x : told.Roll) (e : Entry) (h : HandlerId) → ((g : HandlerId) (version image : ℕ) → e ≡ entry.Install g version image → ⊥) → (rolled x (journal_entry l e)).installed h ≡ x.installed h
installed-kept l x (entry.Install g version image) h other = absurd (other g version image refl)
installed-kept l x _ h other = refl

same_handler : (g h : HandlerId) → g.0 ≡ h.0 → g ≡ h
same_handler g h e = ap (λ (n : ℕ). let x : HandlerId = record { 0 = n } in x) e

pub AreReady-installed : (d : Description) (x : told.Roll) (p : HeldProgram) (programs : List (Option ReadyProgram)) (made : ReadyProgram) → p.handler.0 < length programs → IsReadyAs d p made → AreReady d x.installed programs
    → AreReady d (rolled x (Installed p)).installed (slice_set programs p.handler.0 (Some made))
AreReady-installed d x p programs made below ready before h q is = elim (eqb_tells h.0 p.handler.0) [
  | inl t ↦ (let there : Some p ≡ Some q = ap (λ (b : Bool). if b then Some p else x.installed h) (sym t.0) ∙ is in
      let same : p ≡ q = cc in
      let found : ready_at (slice_set programs p.handler.0 (Some made)) h ≡ Some made =
      ap (λ (k : ℕ). slice_index_or (slice_set programs p.handler.0 (Some made)) k None) t.1 ∙ get_or-set_same programs p.handler.0 (Some made) None below in
      subst (λ (o : Option ReadyProgram). IsSomeAnd o (IsReadyAs d q)) (sym found) (subst (λ (r : HeldProgram). IsReadyAs d r made) same ready))
  | inr u ↦ (let there : x.installed h ≡ Some q = ap (λ (b : Bool). if b then Some p else x.installed h) (sym u.0) ∙ is in
      let found : ready_at (slice_set programs p.handler.0 (Some made)) h ≡ ready_at programs h = get_or-set_other programs p.handler.0 h.0 (Some made) None u.1 in
      subst (λ (o : Option ReadyProgram). IsSomeAnd o (IsReadyAs d q)) (sym found) (before h q there))
]

pub AreReady-kept : (d : Description) (l : Log) (x : told.Roll) (e : Entry) (programs : List (Option ReadyProgram)) → ((g : HandlerId) (version image : ℕ) → e ≡ entry.Install g version image → ⊥) → AreReady d x.installed programs
    → AreReady d (rolled x (journal_entry l e)).installed programs
AreReady-kept d l x e programs other before h p is = before h p (sym (installed-kept l x e h other) ∙ is)

-- ---- the whole

none-ready : (d : Description) (programs : List (Option ReadyProgram)) → AreReady d nobody.installed programs
none-ready d programs h p is = cc

abbrev no_program : Option ReadyProgram
no_program = None

none-at : (n k : ℕ) → slice_index_or (replicate n no_program) k None ≡ None
none-at zero k = refl
none-at (suc n) zero = refl
none-at (suc n) (suc k) = none-at n k

-- nothing was made ready yet
pub HasKept-none : (d : Description) (x : ReadyRoll) → installed_programs x.ready ≡ replicate 8 None → HasKept d x
HasKept-none d x is = record {
  places = ap (λ (ps : List (Option ReadyProgram)). length ps) is;
  kept = λ h. subst (λ (o : Option ReadyProgram). IfSome o (λ r. IsReadyAs d (held_as r.program.now) r))
      (sym (ap (λ (ps : List (Option ReadyProgram)). ready_at ps h) is ∙ none-at 8 h.0)) tt;
}

pub StayReady-made : (d : Description) (p : HeldProgram) (before after : List (Option ReadyProgram)) → p.handler.0 < length before → StayReady d before → MakesReady d p before after → StayReady d after
StayReady-made d p before after below kept makes h = elim (eqb_tells h.0 p.handler.0) [
  | inl t ↦ (let found : ready_at after h ≡ Some makes.made =
      ap (λ (ps : List (Option ReadyProgram)). slice_index_or ps h.0 None) makes.after_is
      ∙ ap (λ (k : ℕ). slice_index_or (slice_set before p.handler.0 (Some makes.made)) k None) t.1 ∙ get_or-set_same before p.handler.0 (Some makes.made) None below in
      subst (λ (o : Option ReadyProgram). IfSome o (λ r. IsReadyAs d (held_as r.program.now) r)) (sym found) makes.own)
  | inr u ↦ (let found : ready_at after h ≡ ready_at before h =
      ap (λ (ps : List (Option ReadyProgram)). slice_index_or ps h.0 None) makes.after_is
      ∙ get_or-set_other before p.handler.0 h.0 (Some makes.made) None u.1 in
      subst (λ (o : Option ReadyProgram). IfSome o (λ r. IsReadyAs d (held_as r.program.now) r)) (sym found) (kept h))
]

-- what was made ready last for the handler of a held program has its image
pub MakesReady-again : (d : Description) (p : HeldProgram) (programs : List (Option ReadyProgram)) → StayReady d programs
    → IsSomeAnd (ready_at programs p.handler) (λ r. r.program.now.image ≡ p.image) → MakesReady d p programs programs
MakesReady-again d p programs kept same = by (ready_at programs p.handler) refl where
  by : (o : Option ReadyProgram) → ready_at programs p.handler ≡ o → MakesReady d p programs programs
  by None is = absurd (subst (λ (o : Option ReadyProgram). IsSomeAnd o (λ r. r.program.now.image ≡ p.image)) is same)
  by (Some made) is =
      let own : IsReadyAs d (held_as made.program.now) made = subst (λ (o : Option ReadyProgram). IfSome o (λ r. IsReadyAs d (held_as r.program.now) r)) is (kept p.handler) in
      let image : made.program.now.image ≡ p.image = subst (λ (o : Option ReadyProgram). IsSomeAnd o (λ r. r.program.now.image ≡ p.image)) is same in
      record {
        made = made;
        ready = IsReadyAs-image d (held_as made.program.now) p made image own;
        own = own;
        after_is = sym (ap (λ (o : Option ReadyProgram). slice_set programs p.handler.0 o) (sym is) ∙ set-get_or programs p.handler.0 None);
      }

pub HasKept-made : (d : Description) (p : HeldProgram) (x y : ReadyRoll) → p.handler.0 < 8 → HasKept d x → MakesReady d p (installed_programs x.ready) (installed_programs y.ready) → HasKept d y
HasKept-made d p x y below kept makes =
    let places = kept.places in
    record {
      places = ap (λ (ps : List (Option ReadyProgram)). length ps) makes.after_is ∙ length-set (installed_programs x.ready) p.handler.0 (Some makes.made) ∙ places;
      kept = StayReady-made d p (installed_programs x.ready) (installed_programs y.ready) (omega (arith, below, places)) kept.kept makes;
    }

pub AreReady-made : (d : Description) (x : told.Roll) (p : HeldProgram) (before after : List (Option ReadyProgram)) → p.handler.0 < length before → AreReady d x.installed before → MakesReady d p before after
    → AreReady d (rolled x (Installed p)).installed after
AreReady-made d x p before after below ready makes =
    subst (λ (ps : List (Option ReadyProgram)). AreReady d (rolled x (Installed p)).installed ps) (sym makes.after_is)
    (AreReady-installed d x p before makes.made below makes.ready ready)

pub OnOk-map : {A E P Q : Type 0} (r : Result A E) → (P → Q) → OnOk r P → OnOk r Q
OnOk-map (Ok a) f p = f p
OnOk-map (Err e) f p = tt

pub HasReadUpTo-begins : (t : Trial) (x : ReadyRoll) → IsTried t → LiveAreInstalled nobody → roll_in t.log.now.images x.roll ≡ nobody → HasKept t.desc.now x → HasReadUpTo t 0 x
HasReadUpTo-begins t x tried nobody_installed is kept = record {
  follow = subst (λ (r : told.Roll). follow_one_another (machine_for t) r (events_from t 0) ≡ true) (sym is)
      (and_parts (stamps_rise (journal_of t.log.now)) (follow_one_another (machine_for t) nobody (journal_of t.log.now)) tried.follow).1;
  images = subst (λ (r : told.Roll). images_right t.programs.now r (events_from t 0) ≡ true) (sym is) tried.images;
  installed = subst LiveAreInstalled (sym is) nobody_installed;
  kept = kept;
  ready = subst (λ (r : told.Roll). AreReady t.desc.now r.installed (installed_programs x.ready)) (sym is) (none-ready t.desc.now (installed_programs x.ready));
}

pub HasReadUpTo-next : (t : Trial) (place : ℕ) (x y : ReadyRoll) → place < length t.log.now.entries → HasReadUpTo t place x → (may_follow (machine_for t) (roll_in t.log.now.images x.roll) (told_at t place) ≡ true → LiveAreInstalled (roll_in t.log.now.images x.roll) → LiveAreInstalled (rolled (roll_in t.log.now.images x.roll) (told_at t place)))
    → roll_in t.log.now.images y.roll ≡ rolled (roll_in t.log.now.images x.roll) (told_at t place) → HasKept t.desc.now y → AreReady t.desc.now (rolled (roll_in t.log.now.images x.roll) (told_at t place)).installed (installed_programs y.ready)
    → HasReadUpTo t (place + 1) y
HasReadUpTo-next t place x y within read goes_on is kept ready =
    let images = t.log.now.images in
    let follow = follow-parts t place (roll_in images x.roll) within read.follow in
    let right = images-parts t place (roll_in images x.roll) within read.images in
    record {
      follow = subst (λ (r : told.Roll). follow_one_another (machine_for t) r (events_from t (place + 1)) ≡ true) (sym is) follow.1;
      images = subst (λ (r : told.Roll). images_right t.programs.now r (events_from t (place + 1)) ≡ true) (sym is) right.1;
      installed = subst LiveAreInstalled (sym is) (goes_on follow.0 read.installed);
      kept = kept;
      ready = subst (λ (r : told.Roll). AreReady t.desc.now r.installed (installed_programs y.ready)) (sym is) ready;
    }

-- the program of each live invocation is ready
pub seats-ready : (t : Trial) (place : ℕ) (x : ReadyRoll) → HasReadUpTo t place x → (k : ℕ) (d : Seat) → k < length x.roll.seats.items → IsSeatReady t x (slice_index_or x.roll.seats.items k d)
seats-ready t place x read k d below =
    let seats : List Seat = x.roll.seats.items in
    let s : Seat = slice_index_or seats k d in
    let images = t.log.now.images in
    let long = length-map seats (seat_in images) in
    read.ready s.handler (seat_in images s).invocation.program (read.installed.programs (seat_in images s) (k, omega (arith, long, below), get_or-map (seat_in images) seats k d (seat_in images s) below))

-- ---- the entry at a place

pub entry-at : (t : Trial) (place : ℕ) (e : Stamped) → place < length t.log.now.entries → e ≡ slice_index_or t.log.now.entries place e → journal_entry t.log.now e.entry ≡ told_at t place
entry-at t place e within is = ap (λ (s : Stamped). journal_entry t.log.now s.entry) (is ∙ get_or_default t.log.now.entries place e no_entry within)

pub in-range : (t : Trial) (place : ℕ) (e : Stamped) → IsTried t → place < length t.log.now.entries → e ≡ slice_index_or t.log.now.entries place e → IsEntryInRange t.desc.now e.entry
in-range t place e tried within is = subst (λ (s : Stamped). IsEntryInRange t.desc.now s.entry) (sym is) (tried.tidy.in_range place e within)

pub named-at : (images stores : ℕ) (es : List Stamped) (k : ℕ) (d : Stamped) → AreNamedBelow images stores es → k < length es → IsNamedBelow images stores (slice_index_or es k d).entry
named-at images stores [] k d named below = absurd (omega arith)
named-at images stores (e ∷ es) zero d named below = named.0
named-at images stores (e ∷ es) (suc k) d named below = named-at images stores es k d named.1 (omega arith)

pub named-below : (t : Trial) (place : ℕ) (e : Stamped) → IsTried t → place < length t.log.now.entries → e ≡ slice_index_or t.log.now.entries place e → IsNamedBelow (length t.log.now.images) (length t.log.now.stores) e.entry
named-below t place e tried within is =
    subst (λ (s : Stamped). IsNamedBelow (length t.log.now.images) (length t.log.now.stores) s.entry) (sym is)
    (named-at (length t.log.now.images) (length t.log.now.stores) t.log.now.entries place e (NamesInLog-numbered t.log.now tried.tidy.numbered).named within)

pub handler-below : (d : Description) (e : Entry) → length d.handlers.items ≤ 8 → IsEntryInRange d e → HasHandlerBelow 8 e
handler-below d (entry.Post n h c payload) few within = let low = within.0 in omega (arith, few, low)
handler-below d (entry.Install h version image) few within = omega (arith, few, within)
handler-below d _ few within = tt
