-- The laws of runs along a journal, from one entry to the next.
use Rattle.std.proofs.Common.{◌≡◌, ◌<◌, ◌≤◌, ℕ, ◌+◌, Bool, true, false, List, [], length, map, drop_of_length-le, Option, None, Some, sym, ◌∙◌, ap, subst}
use Rattle.std.specs.Prelude.{◌&&◌, slice_index_or, if◌then◌else◌}
use Rattle.std.proofs.Math.Bool.{and_assoc, and-true}
use Rattle.std.proofs.lemmas.List.{get_or_default}
use Rattle.mate_num.specs.declared.store.Store.{Store}
use Rattle.mate_journal.specs.Grants.{started_number}
use Rattle.mate_journal.specs.Journal.{TimedEntry, journal_of, journal_entry}
use Rattle.mate_journal.specs.declared.entry.Stamped.{Stamped}
use Rattle.mate_journal.specs.declared.law.Law.{Law}
use Rattle.mate_journal.specs.declared.law.Law.TheVariants as law
use Rattle.journal_laws.specs.Growth.{event_of}
use Rattle.audit_rules.specs.Granting.{is_granted, grants_in_order, all_held_back}
use Rattle.audit_rules.specs.Rerun.{runs_right, serial_after, replays_right, all_so_far}
use Rattle.audit_rules.specs.Roll as told
use Rattle.audit_rules.specs.Roll.{nobody, rolled}
use Rattle.audit_rules.specs.Shown.{HasLengthsOf, shows_right, stores_right}
use Rattle.audit_rules.specs.Tests.{conflict_of, images_right, failed_by}
use Rattle.audit_rules.specs.Views.{roll_in}
use Rattle.audit_programs.specs.Trials.{IsTried, HasReadUpTo, machine_for, events_from, told_at}
use Rattle.audit_programs.specs.declared.ready_roll.ReadyRoll.{ReadyRoll}
use Rattle.audit_programs.specs.declared.trial.Trial.{Trial}
use Rattle.audit_programs.proofs.TrialLemmas.{events-next, entry-at}
use Rattle.report_audit.proofs.AuditLemmas.{first_of_tests}

-- ---- the three tests, from a place on

abbrev pub serial_from : Trial → told.Roll → Store → ℕ → Bool
serial_from t x store place = replays_right (machine_for t) (conflict_of t.desc.now) x store (events_from t place)

abbrev pub shown_from : Trial → told.Roll → Store → ℕ → Bool
shown_from t x store place = stores_right (machine_for t) x store (events_from t place)

abbrev pub granted_from : Trial → told.Roll → ℕ → ℕ → Bool
granted_from t x last place = grants_in_order (conflict_of t.desc.now) x last (events_from t place)

-- and of the whole journal

abbrev pub is_serial : Trial → Bool
is_serial t = replays_right (machine_for t) (conflict_of t.desc.now) nobody (machine_for t).zero_store (journal_of t.log.now)

abbrev pub is_shown : Trial → Bool
is_shown t = stores_right (machine_for t) nobody (machine_for t).zero_store (journal_of t.log.now)

abbrev pub is_in_order : Trial → Bool
is_in_order t = grants_in_order (conflict_of t.desc.now) nobody 0 (journal_of t.log.now)

-- what is left settles each test, with what was found of the entries before
pub record Stands (t : Trial) (place : ℕ) (x : ReadyRoll) (store : Store) (last : ℕ) (shown granted : Bool) : Type 0 where
  pub read : HasReadUpTo t place x
  pub lengths : HasLengthsOf (machine_for t) store
  pub serial : serial_from t (roll_in t.log.now.images x.roll) store place ≡ is_serial t
  pub shows : (shown && shown_from t (roll_in t.log.now.images x.roll) store place) ≡ is_shown t
  pub grants : (granted && granted_from t (roll_in t.log.now.images x.roll) last place) ≡ is_in_order t

-- ---- one entry more

grouped : (a b c d : Bool) → d ≡ (a && b) → (d && c) ≡ (a && (b && c))
grouped a b c d is = ap (λ (e : Bool). e && c) is ∙ and_assoc a b c

module _ (t : Trial) (place : ℕ) (x : told.Roll) (store : Store) where
  serial-goes : place < length t.log.now.entries → serial_from t x store place ≡ is_serial t → true ≡ runs_right (machine_for t) (conflict_of t.desc.now) x store (told_at t place)
      → serial_from t (rolled x (told_at t place)) (serial_after (machine_for t) x store (told_at t place)) (place + 1) ≡ is_serial t
  serial-goes within rest holds =
      ap (λ (b : Bool). b && serial_from t (rolled x (told_at t place)) (serial_after (machine_for t) x store (told_at t place)) (place + 1)) holds
      ∙ ap (λ (es : List TimedEntry). replays_right (machine_for t) (conflict_of t.desc.now) x store es) (sym (events-next t place within))
      ∙ rest

  shown-goes : (so_far b : Bool) → place < length t.log.now.entries → (so_far && shown_from t x store place) ≡ is_shown t → b ≡ (so_far && shows_right (machine_for t) x store (told_at t place))
      → (b && shown_from t (rolled x (told_at t place)) (serial_after (machine_for t) x store (told_at t place)) (place + 1)) ≡ is_shown t
  shown-goes so_far b within rest is =
      grouped so_far (shows_right (machine_for t) x store (told_at t place)) (shown_from t (rolled x (told_at t place)) (serial_after (machine_for t) x store (told_at t place)) (place + 1)) b is
      ∙ ap (λ (es : List TimedEntry). so_far && stores_right (machine_for t) x store es) (sym (events-next t place within))
      ∙ rest

  granted-goes : (last : ℕ) (so_far b : Bool) → place < length t.log.now.entries → (so_far && granted_from t x last place) ≡ is_in_order t → b ≡ (so_far && is_granted (conflict_of t.desc.now) x last (told_at t place))
      → (b && granted_from t (rolled x (told_at t place)) (started_number (told_at t place)) (place + 1)) ≡ is_in_order t
  granted-goes last so_far b within rest is =
      grouped so_far (is_granted (conflict_of t.desc.now) x last (told_at t place)) (granted_from t (rolled x (told_at t place)) (started_number (told_at t place)) (place + 1)) b is
      ∙ ap (λ (es : List TimedEntry). so_far && grants_in_order (conflict_of t.desc.now) x last es) (sym (events-next t place within))
      ∙ rest

-- what was found at an entry
pub record Found (t : Trial) (place : ℕ) (x : told.Roll) (store next : Store) (last start : ℕ) (shown granted b g : Bool) : Type 0 where
  pub shows : b ≡ (shown && shows_right (machine_for t) x store (told_at t place))
  pub grants : g ≡ (granted && is_granted (conflict_of t.desc.now) x last (told_at t place))
  pub runs : true ≡ runs_right (machine_for t) (conflict_of t.desc.now) x store (told_at t place)
  pub after : next ≡ serial_after (machine_for t) x store (told_at t place)
  pub lengths : HasLengthsOf (machine_for t) next
  pub starts : start ≡ started_number (told_at t place)

pub Stands-next : (t : Trial) (place : ℕ) (x y : ReadyRoll) (store next : Store) (last start : ℕ) (shown granted b g : Bool) → place < length t.log.now.entries → Stands t place x store last shown granted
    → Found t place (roll_in t.log.now.images x.roll) store next last start shown granted b g → HasReadUpTo t (place + 1) y → roll_in t.log.now.images y.roll ≡ rolled (roll_in t.log.now.images x.roll) (told_at t place)
    → Stands t (place + 1) y next start b g
Stands-next t place x y store next last start shown granted b g within stands found read is =
    let r : told.Roll = roll_in t.log.now.images x.roll in
    let z : told.Roll = roll_in t.log.now.images y.roll in
    record {
      read = read;
      lengths = found.lengths;
      serial = ap (λ (q : told.Roll). serial_from t q next (place + 1)) is
          ∙ ap (λ (s : Store). serial_from t (rolled r (told_at t place)) s (place + 1)) found.after
          ∙ serial-goes t place r store within stands.serial found.runs;
      shows = ap (λ (q : told.Roll). b && shown_from t q next (place + 1)) is
          ∙ ap (λ (s : Store). b && shown_from t (rolled r (told_at t place)) s (place + 1)) found.after
          ∙ shown-goes t place r store shown b within stands.shows found.shows;
      grants = ap (λ (q : told.Roll). g && granted_from t q start (place + 1)) is
          ∙ ap (λ (n : ℕ). g && granted_from t (rolled r (told_at t place)) n (place + 1)) found.starts
          ∙ granted-goes t place r store last granted g within stands.grants found.grants;
    }

-- the entry that a slice shows at a place
pub entry-told : (t : Trial) (ys : List Stamped) (place : ℕ) (r : Stamped) → ys ≡ t.log.now.entries → place < length ys → journal_entry t.log.now (slice_index_or ys place r).entry ≡ told_at t place
entry-told t ys place r same within =
    let below : place < length t.log.now.entries = subst (λ (es : List Stamped). place < length es) same within in
    entry-at t place (slice_index_or ys place r) below
    (ap (λ (es : List Stamped). slice_index_or es place r) same ∙ get_or_default t.log.now.entries place r (slice_index_or ys place r) below)

-- ---- the begin and the end

pub Stands-begins : (t : Trial) (x : ReadyRoll) (store : Store) → HasReadUpTo t 0 x → roll_in t.log.now.images x.roll ≡ nobody → store ≡ (machine_for t).zero_store → Stands t 0 x store 0 true true
Stands-begins t x store read is zero = record {
  read = read;
  lengths = record { shared = ap (λ (s : Store). length s.shared.items) zero; buffers = ap (λ (s : Store). length s.buffers.items) zero };
  serial = ap (λ (r : told.Roll). serial_from t r store 0) is ∙ ap (λ (s : Store). serial_from t nobody s 0) zero;
  shows = ap (λ (r : told.Roll). shown_from t r store 0) is ∙ ap (λ (s : Store). shown_from t nobody s 0) zero;
  grants = ap (λ (r : told.Roll). granted_from t r 0 0) is;
}

-- an entry is not of a serial run
pub stops-serial : (t : Trial) (place : ℕ) (x : told.Roll) (store : Store) → place < length t.log.now.entries → serial_from t x store place ≡ is_serial t → false ≡ runs_right (machine_for t) (conflict_of t.desc.now) x store (told_at t place) → false ≡ is_serial t
stops-serial t place x store within rest fails =
    ap (λ (b : Bool). b && serial_from t (rolled x (told_at t place)) (serial_after (machine_for t) x store (told_at t place)) (place + 1)) fails
    ∙ ap (λ (es : List TimedEntry). replays_right (machine_for t) (conflict_of t.desc.now) x store es) (sym (events-next t place within))
    ∙ rest

none-left : (t : Trial) (place : ℕ) → length t.log.now.entries ≤ place → events_from t place ≡ []
none-left t place past = ap (λ (es : List Stamped). map (event_of t.log.now) es) (drop_of_length-le t.log.now.entries past)

module _ (t : Trial) (place : ℕ) (x : ReadyRoll) (store : Store) (last : ℕ) (shown granted : Bool) where
  pub serial-end : length t.log.now.entries ≤ place → Stands t place x store last shown granted → all_so_far (machine_for t) (roll_in t.log.now.images x.roll) store ≡ is_serial t
  serial-end past stands =
      ap (λ (es : List TimedEntry). replays_right (machine_for t) (conflict_of t.desc.now) (roll_in t.log.now.images x.roll) store es) (sym (none-left t place past)) ∙ stands.serial

  pub shown-end : length t.log.now.entries ≤ place → Stands t place x store last shown granted → shown ≡ is_shown t
  shown-end past stands =
      sym (and-true shown) ∙ ap (λ (es : List TimedEntry). shown && stores_right (machine_for t) (roll_in t.log.now.images x.roll) store es) (sym (none-left t place past)) ∙ stands.shows

  pub granted-end : length t.log.now.entries ≤ place → Stands t place x store last shown granted → (granted && all_held_back (conflict_of t.desc.now) (roll_in t.log.now.images x.roll)) ≡ is_in_order t
  granted-end past stands =
      ap (λ (es : List TimedEntry). granted && grants_in_order (conflict_of t.desc.now) (roll_in t.log.now.images x.roll) last es) (sym (none-left t place past)) ∙ stands.grants

-- the laws before hold
behind-images : (t : Trial) → IsTried t → first_of_tests true true (is_serial t) (is_shown t) (is_in_order t) ≡ failed_by t.desc.now t.programs.now t.log.now
behind-images t tried =
    ap (λ (b : Bool). first_of_tests true b (is_serial t) (is_shown t) (is_in_order t)) (sym tried.images)
    ∙ ap (λ (b : Bool). first_of_tests b (images_right t.programs.now nobody (journal_of t.log.now)) (is_serial t) (is_shown t) (is_in_order t)) (sym tried.follow)

pub fails-serial : (t : Trial) → IsTried t → false ≡ is_serial t → Some law.D8 ≡ failed_by t.desc.now t.programs.now t.log.now
fails-serial t tried fails =
    ap (λ (b : Bool). first_of_tests true true b (is_shown t) (is_in_order t)) fails ∙ behind-images t tried

pub keeps-serial : (t : Trial) (shown granted : Bool) (o : Option Law) → IsTried t → true ≡ is_serial t → shown ≡ is_shown t → granted ≡ is_in_order t
    → o ≡ (if shown then (if granted then None else Some law.D10) else Some law.D9) → o ≡ failed_by t.desc.now t.programs.now t.log.now
keeps-serial t shown granted o tried serial shows grants is =
    is
    ∙ ap (λ (b : Bool). first_of_tests true true true b granted) shows
    ∙ ap (λ (b : Bool). first_of_tests true true true (is_shown t) b) grants
    ∙ ap (λ (b : Bool). first_of_tests true true b (is_shown t) (is_in_order t)) serial
    ∙ behind-images t tried
