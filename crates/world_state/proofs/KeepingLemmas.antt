-- What a world lets go, and what stands before an event.
use Rattle.std.proofs.Common.{◌≡◌, ◌<◌, ◌+◌, ℕ, zero, suc, List, [], ◌∷◌, length, set, get_or, Option, Some, sym, ◌∙◌, ap, subst, arith, inl, inr, ◌⊎◌, All}
use Rattle.std.specs.Prelude.{slice_get, IsSomeAnd, unwrap_or}
use Rattle.std.proofs.lemmas.Bool.{cases_eq}
use Rattle.std.proofs.lemmas.Option.{slice_get-get_or}
use Rattle.std.proofs.lemmas.List.{length-map, length-set}
use Rattle.std.proofs.lemmas.List.Elements.{All-cons}
use Rattle.event_queue.proofs.WheelLemmas.{slice_get_set_same, slice_get_set_other}
use Rattle.mate_num.specs.declared.call.Stamp.{Stamp}
use Rattle.vm_shape.specs.declared.description.Description.{Description}
use Rattle.mate_journal.specs.Log.{Log, IsSameLog}
use Rattle.mate_journal.specs.Journal.{journal_of, journal_entry, TimedEntry as Entered}
use Rattle.mate_journal.specs.NodeScript.{records_max}
use Rattle.mate_journal.specs.OpenLog.{nothing_gone, gone_of}
use Rattle.mate_journal.specs.Tidy.{IsTidyLog}
use Rattle.mate_journal.specs.declared.entry.Stamped.{Stamped}
use Rattle.node_state.specs.Meaning.{machine_in}
use Rattle.node_state.specs.Keeps.{reading}
use Rattle.node_open.specs.Journal.{KeepsJournal}
use Rattle.node_open.specs.View.{heard_of}
use Rattle.radio_sim.specs.Radio.{Ether}
use Rattle.radio_sim.specs.declared.shared_event.SharedEvent.{SharedEvent}
use Rattle.mate_num.proofs.ListLemmas.{all-at}
use Rattle.world_air.specs.Calls.{AreCallsOf}
use Rattle.world_rules.specs.World.{World}
use Rattle.world_rules.specs.State.{Moment, WorldState, state}
use Rattle.world_state.specs.Standing.{IsTakenFrom}
use Rattle.world_state.specs.StandingAfter.{IsMoteAfter, IsRadioAfter, coming}
use Rattle.world_state.proofs.RoomLemmas.{records-high}
use Rattle.world_state.specs.declared.mote.Mote.{Mote}
use Rattle.world_state.specs.Keeping.{IsWhole, IsFew, HasForgotten, HaveForgotten, LetsGo, LetsGoAsTold}
use Rattle.world_state.specs.Reporting.{ShowStores}
use Rattle.world_state.specs.Running.{StandsAfter, StandsAtNext}
use Rattle.world_state.specs.Telling.{LogsAreKept, AddsEvent}
use Rattle.world_state.specs.declared.simulation.Simulation.{Simulation}
use Rattle.world_state.specs.declared.simulation.Written.{Written}
use Rattle.world_state.specs.declared.simulation.Written.TheVariants.{Kept, Forgotten}
use Rattle.world_state.proofs.MotesLemmas.{kept-set, first-mote, at-mote}

-- ---- a log with other room

pub alike : (a b : Log) → IsSameLog a b → a ≡ record b { spare = a.spare }
alike a b same = λ i. record { entries = same.entries i; images = same.images i; stores = same.stores i; spare = a.spare }

pub gone-same : (a b : Log) → IsSameLog a b → gone_of a ≡ gone_of b
gone-same a b same = λ i. record { entries = length (same.entries i); images = length (same.images i); stores = length (same.stores i) }

pub tidy-as : (d : Description) (l : Log) (n : ℕ) → IsTidyLog d l → IsTidyLog d (record l { spare = n })
tidy-as d l n t = record { in_range = t.in_range; numbered = record { images = t.numbered.images; stores = t.numbered.stores }; lengths = t.lengths; ordered = t.ordered }

-- ---- a node that forgets

module _ (old new : Mote) (f : HasForgotten old new) where
  heard-same : heard_of new.node ≡ heard_of old.node
  unfolding reading
  heard-same = ap (λ (d : Description). reading d new.node.log) f.description ∙ ap (reading old.node.description) (alike new.node.log old.node.log f.log)

  -- it is the same node
  pub forgotten-mote : (w : World) (ms : List Moment) (node : ℕ) → IsMoteAfter w ms node old → IsMoteAfter w ms node new
  forgotten-mote w ms node m = record {
    is = record {
      description = f.description ∙ m.is.description;
      reading = heard-same ∙ m.is.reading;
      pace = f.pace ((state w ms).nodes node).pace m.is.pace;
      timer = ap (λ (x : Mote). x.timer) f.rest ∙ m.is.timer;
      exchange = ap (λ (x : Mote). x.exchange) f.rest ∙ m.is.exchange;
      pumps = ap (λ (x : Mote). x.pumps) f.rest ∙ m.is.pumps;
      calls = subst (λ (x : Mote). AreCallsOf w node ((state w ms).nodes node).called x.calls) (sym f.rest) m.is.calls;
    };
    journal = ap journal_of (alike new.node.log old.node.log f.log) ∙ m.journal;
  }

-- and so are all
pub forgotten-motes : (w : World) (ms : List Moment) (olds news : List Mote) (nodes : ℕ) → length olds ≡ nodes → HaveForgotten (length olds) olds news → ((k : ℕ) → k < nodes → IsSomeAnd (slice_get olds k) (IsMoteAfter w ms k))
    → (k : ℕ) → k < nodes → IsSomeAnd (slice_get news k) (IsMoteAfter w ms k)
forgotten-motes w ms olds news nodes count f each k below =
    let more = f.count in
    let low : k < length olds = omega (arith, below, count) in
    let high : k < length news = omega (arith, low, more) in
    let x = first-mote olds k low in
    let y = first-mote news k high in
    let was : IsMoteAfter w ms k x = subst (λ (o : Option Mote). IsSomeAnd o (IsMoteAfter w ms k)) (at-mote olds k low) (each k below) in
    subst (λ (o : Option Mote). IsSomeAnd o (IsMoteAfter w ms k)) (sym (at-mote news k high)) (forgotten-mote x y (f.each k x y low (at-mote olds k low) (at-mote news k high)) w ms k was)

-- each keeps its log
pub forgotten-kept : (olds news : List Mote) → HaveForgotten (length olds) olds news → LogsAreKept olds → LogsAreKept news
forgotten-kept olds news f kept k x below =
    let more = f.count in
    let low : k < length olds = omega (arith, below, more) in
    let o = f.each k (get_or olds k x) (get_or news k x) low (slice_get-get_or olds k x low) (slice_get-get_or news k x below) in
    let own = kept k x low in
    let a : Mote = get_or olds k x in
    let b : Mote = get_or news k x in
    subst (λ (e : Description). KeepsJournal e (machine_in e) b.node.log) (sym o.description)
    (subst (λ (l : Log). KeepsJournal a.node.description (machine_in a.node.description) l) (sym (alike b.node.log a.node.log o.log)) (kept-as a.node.description a.node.log b.node.log.spare own)) where
      kept-as : (d : Description) (l : Log) (n : ℕ) → KeepsJournal d (machine_in d) l → KeepsJournal d (machine_in d) (record l { spare = n })
      kept-as d l n k = record {
        well_formed = k.well_formed;
        serial = k.serial;
        stores = k.stores;
        grants = k.grants;
        never_stuck = k.never_stuck;
        devices = k.devices;
        tidy = tidy-as d l n k.tidy;
        full = record { full = k.full.full };
        ends_as_posted = k.ends_as_posted;
      }

-- ---- what is let go

module _ (old mid : Simulation) (node : ℕ) (go : LetsGo old mid node) where
  go-taken : (w : World) (s : WorldState) (m : Moment) → IsTakenFrom w s m old.radio → IsTakenFrom w s m mid.radio
  go-taken w s m t = subst (λ (e : Ether). IsTakenFrom w s m e) (sym go.radio) (record {
    due = t.due;
    near = t.near;
    until = t.until;
    now = t.now;
    stands = record { stands = record { sent = t.stands.stands.sent; wires = t.stands.stands.wires }; delay = t.stands.delay };
  })

  go-motes : (w : World) (ms : List Moment) → ((k : ℕ) → k < w.nodes → IsSomeAnd (slice_get old.motes.items k) (IsMoteAfter w ms k)) → node < length old.motes.items
      → (k : ℕ) → k < w.nodes → IsSomeAnd (slice_get mid.motes.items k) (IsMoteAfter w ms k)
  go-motes w ms each low k below = subst (λ (xs : List Mote). IsSomeAnd (slice_get xs k) (IsMoteAfter w ms k)) (sym go.motes) (elim (cases_eq k node) [
    | inl same ↦
        subst (λ (o : Option Mote). IsSomeAnd o (IsMoteAfter w ms k)) (sym (ap (slice_get (set old.motes.items node go.after)) same ∙ slice_get_set_same old.motes.items node go.after low))
        (subst (λ (j : ℕ). IsMoteAfter w ms j go.after) (sym same) (forgotten-mote go.before go.after go.forgets w ms node (own (subst (λ (j : ℕ). IsSomeAnd (slice_get old.motes.items j) (IsMoteAfter w ms j)) same (each k below)))))
    | inr other ↦ subst (λ (o : Option Mote). IsSomeAnd o (IsMoteAfter w ms k)) (sym (slice_get_set_other old.motes.items node k go.after other)) (each k below)
  ]) where
    own : IsSomeAnd (slice_get old.motes.items node) (IsMoteAfter w ms node) → IsMoteAfter w ms node go.before
    own is = subst (λ (o : Option Mote). IsSomeAnd o (IsMoteAfter w ms node)) go.found is

  go-stands : (w : World) (e : SharedEvent) (at : Stamp) → node < length old.motes.items → StandsAtNext w e at old → StandsAtNext w e at mid
  go-stands w e at low b = record {
    moments = b.moments;
    cause = b.cause;
    come = b.come;
    next = b.next;
    in_time = b.in_time;
    room = subst (λ (n : ℕ). n < records_max) (sym go.records) b.room;
    is = b.is;
    stamp = b.stamp;
    taken = go-taken w (state w b.moments) (coming at.time b.cause) b.taken;
    air = ap (λ (x : Ether). x.air) go.radio ∙ b.air;
    nodes = ap (λ (xs : List Mote). length xs) go.motes ∙ length-set old.motes.items node go.after ∙ b.nodes;
    motes = go-motes w b.moments b.motes low;
    records = go.records ∙ b.records;
    fit = b.fit;
    well_formed = b.well_formed;
  }

-- ---- where it is let go, or kept

pub stands-still : (written : Written) (old mid : Simulation) (node : ℕ) (w : World) (e : SharedEvent) (at : Stamp) → LetsGoAsTold written old mid node → node < length old.motes.items → StandsAtNext w e at old → StandsAtNext w e at mid
stands-still Kept old mid node w e at go low b = subst (StandsAtNext w e at) (sym go) b
stands-still Forgotten old mid node w e at go low b = go-stands old mid node go w e at low b

pub kept-still : (written : Written) (old mid : Simulation) (node : ℕ) (m : Mote) → LetsGoAsTold written old mid node → slice_get mid.motes.items node ≡ Some m → node < length old.motes.items
    → KeepsJournal m.node.description (machine_in m.node.description) m.node.log → LogsAreKept old.motes.items → LogsAreKept mid.motes.items
kept-still Kept old mid node m go found low own kept = subst (λ (s : Simulation). LogsAreKept s.motes.items) (sym go) kept
kept-still Forgotten old mid node m go found low own kept = subst LogsAreKept (sym go.motes) (kept-set old.motes.items node go.after kept mine) where
  is : m ≡ go.after
  is = ap (λ (o : Option Mote). unwrap_or o m) (sym found ∙ ap (λ (xs : List Mote). slice_get xs node) go.motes ∙ slice_get_set_same old.motes.items node go.after low)

  mine : KeepsJournal go.after.node.description (machine_in go.after.node.description) go.after.node.log
  mine = subst (λ (x : Mote). KeepsJournal x.node.description (machine_in x.node.description) x.node.log) is own

-- ---- where it is let go behind an event

module _ (old mid : Simulation) (node : ℕ) (go : LetsGo old mid node) (low : node < length old.motes.items) where
  pub go-after : (w : World) (events : ℕ) → StandsAfter w events old → StandsAfter w events mid
  go-after w events b = record {
    moments = b.moments;
    come = b.come;
    count = b.count;
    radio = subst (λ (e : Ether). IsRadioAfter w b.moments e) (sym go.radio) (record {
      due = b.radio.due;
      until = b.radio.until;
      now = b.radio.now;
      air = b.radio.air;
      stands = record { stands = record { sent = b.radio.stands.stands.sent; wires = b.radio.stands.stands.wires }; delay = b.radio.stands.delay };
      fit = b.radio.fit;
    });
    nodes = ap (λ (xs : List Mote). length xs) go.motes ∙ length-set old.motes.items node go.after ∙ b.nodes;
    motes = go-motes old mid node go w b.moments b.motes low;
    records = go.records ∙ b.records;
    well_formed = b.well_formed;
  }

-- it stands there still
pub left-stands : (old mid : Simulation) (node : ℕ) (w : World) (events : ℕ) → (mid ≡ old) ⊎ LetsGo old mid node → node < length old.motes.items → StandsAfter w events old → StandsAfter w events mid
left-stands old mid node w events (inl same) low b = subst (StandsAfter w events) (sym same) b
left-stands old mid node w events (inr go) low b = go-after old mid node go low w events b

-- ---- nothing is forgotten

all-set-whole : (motes : List Mote) (k : ℕ) (y : Mote) → All (λ (m : Mote). m.node.gone ≡ nothing_gone) motes → y.node.gone ≡ nothing_gone → All (λ (m : Mote). m.node.gone ≡ nothing_gone) (set motes k y)
all-set-whole [] k y all own = all
all-set-whole (x ∷ motes) zero y all own = All-cons (λ (m : Mote). m.node.gone ≡ nothing_gone) y motes own (λ i z low. all (suc i) z (omega (arith, low)))
all-set-whole (x ∷ motes) (suc k) y all own =
    All-cons (λ (m : Mote). m.node.gone ≡ nothing_gone) x (set motes k y) (all 0 x (omega arith)) (all-set-whole motes k y (λ i z low. all (suc i) z (omega (arith, low))) own)

pub whole-still : (number node : ℕ) (old new : Simulation) (adds : AddsEvent number old new node) → IsWhole old → IsWhole new
whole-still number node old new adds whole = record {
  nodes = subst (λ (ms : List Mote). All (λ (m : Mote). m.node.gone ≡ nothing_gone) ms) (sym adds.motes)
      (all-set-whole old.motes.items node adds.after whole.nodes (adds.log_gone ∙ all-at (λ (m : Mote). m.node.gone ≡ nothing_gone) old.motes.items node adds.before whole.nodes adds.found));
  air = adds.air_gone ∙ whole.air;
}

pub whole-shown : (at : Stamp) (olds news : List Mote) → ShowStores at (length olds) olds news → All (λ (m : Mote). m.node.gone ≡ nothing_gone) olds → All (λ (m : Mote). m.node.gone ≡ nothing_gone) news
whole-shown at olds news shows whole k m below =
    let count = shows.count in
    let low : k < length olds = omega (arith, below, count) in
    (shows.each k (get_or olds k m) (get_or news k m) low (slice_get-get_or olds k m low) (slice_get-get_or news k m below)).tells.gone ∙ whole k m low

-- ---- few stand before an event

pub few-stand : (w : World) (e : SharedEvent) (at : Stamp) (s : Simulation) (node : ℕ) (m : Mote) → StandsAtNext w e at s → node < w.nodes → slice_get s.motes.items node ≡ Some m → length m.node.log.entries + length s.radio.air < 1000000
few-stand w e at s node m b low found =
    let own : IsMoteAfter w b.moments node m = subst (λ (o : Option Mote). IsSomeAnd o (IsMoteAfter w b.moments node)) found (b.motes node low) in
    let high = records-high w node b.moments in
    let told = ap length own.journal in
    let long = length-map m.node.log.entries (λ (x : Stamped). let v : Entered = record { stamp = x.stamp; told = journal_entry m.node.log x.entry } in v) in
    let air = ap length b.air in
    let records = b.records in
    let room = b.room in
    omega (arith, high, told, long, air, records, room)

pub few-after : (w : World) (events : ℕ) (s : Simulation) (node : ℕ) → StandsAfter w events s → node < w.nodes → s.records < 1000000 → IsFew s node
few-after w events s node b low room =
    let high = records-high w node b.moments in
    let air = ap length b.radio.air in
    let records = b.records in
    record {
      log = λ m found.
          let own : IsMoteAfter w b.moments node m = subst (λ (o : Option Mote). IsSomeAnd o (IsMoteAfter w b.moments node)) found (b.motes node low) in
          let told = ap length own.journal in
          let long = length-map m.node.log.entries (λ (x : Stamped). let v : Entered = record { stamp = x.stamp; told = journal_entry m.node.log x.entry } in v) in
          omega (arith, high, told, long, air, records, room);
      air = omega (arith, high, air, records, room);
    }
