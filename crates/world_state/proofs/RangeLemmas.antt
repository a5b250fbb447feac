-- What a world tells stays in the ranges of its types.
use Rattle.std.proofs.Common.{◌≡◌, ◌<◌, ◌-◌, ◌⊎◌, inl, inr, ℕ, zero, suc, List, [], ◌∷◌, length, drop, map, get_or, set, Bool, ◌^◌, refl, sym, ◌∙◌, ap, subst, arith, All}
use Rattle.std.specs.Prelude.{Option, Some, slice_get, unwrap_or}
use Rattle.std.proofs.lemmas.Option.{slice_get-get_or}
use Rattle.std.proofs.lemmas.List.{length-append}
use Rattle.std.proofs.lemmas.List.Elements.{All-nil, All-cons}
use Rattle.mate_num.specs.declared.call.Stamp.{Stamp}
use Rattle.mate_journal.specs.Log.{Log, IsEmpty}
use Rattle.mate_journal.specs.OpenLog.{Gone, nothing_gone, IsKept}
use Rattle.mate_journal.specs.NodeScript.{ShowsOnce}
use Rattle.mate_journal.specs.Ranges.{HasLogRanges, HasAiredRanges, HasReportRanges}
use Rattle.mate_journal.specs.declared.air.Aired.{Aired}
use Rattle.journal_laws.proofs.GoesOnLemmas.{GoesOn-journal}
use Rattle.node_state.specs.Meaning.{machine_in}
use Rattle.node_state.specs.Keeps.{event_at}
use Rattle.node_open.specs.View.{heard_of}
use Rattle.node_open.specs.Calls.{Pacing}
use Rattle.node_open.specs.Journal.{KeepsJournal}
use Rattle.event_queue.proofs.WheelLemmas.{slice_get_set_same}
use Rattle.radio_sim.specs.Radio.{Ether}
use Rattle.journal_laws.specs.InRange.{IsSizeOf, IsInRangeFrom, IsInRange}
use Rattle.journal_laws.specs.declared.growth.LogSize.{LogSize}
use Rattle.journal_laws.proofs.GrowthLemmas.{none-in-range, forgotten-in-range, log-goes-on, at-hand, goes-on}
use Rattle.mate_num.proofs.ListLemmas.{all-at}
use Rattle.world_state.specs.Motes.{TellsAlone}
use Rattle.world_state.specs.declared.mote.Mote.{Mote}
use Rattle.world_state.specs.Keeping.{HaveForgotten, LetsGo, LetsGoAsTold}
use Rattle.world_state.specs.Ranging.{IsMoteInRange, AreMotesInRange, AreInRange}
use Rattle.world_state.specs.Reporting.{ShowsOneStore, ShowStores, mote_logs, told_report}
use Rattle.world_state.specs.Telling.{AddsEvent}
use Rattle.world_state.specs.declared.simulation.Simulation.{Simulation}
use Rattle.world_state.specs.declared.simulation.Written.{Written}
use Rattle.world_state.specs.declared.simulation.Written.TheVariants.{Kept, Forgotten}

-- ---- the nodes

-- the other nodes are as they were
ranges-set : (motes : List Mote) (k : ℕ) (y : Mote) → AreMotesInRange motes → IsMoteInRange y → AreMotesInRange (set motes k y)
ranges-set [] k y all own = all
ranges-set (x ∷ motes) zero y all own = All-cons IsMoteInRange y motes own (λ i z low. all (suc i) z (omega (arith, low)))
ranges-set (x ∷ motes) (suc k) y all own = All-cons IsMoteInRange x (set motes k y) (all 0 x (omega arith)) (ranges-set motes k y (λ i z low. all (suc i) z (omega (arith, low))) own)

-- nothing was told yet
pub none-told : (motes : List Mote) → All (λ (m : Mote). m.node.gone ≡ nothing_gone) motes → All (λ (m : Mote). IsEmpty m.node.log) motes → AreMotesInRange motes
none-told motes whole empty k x below =
    subst (λ (g : Gone). IsInRange (get_or motes k x).node.log g) (sym (whole k x below)) (none-in-range (get_or motes k x).node.log (empty k x below))

pub forgotten-ranges : (olds news : List Mote) → HaveForgotten (length olds) olds news → AreMotesInRange olds → AreMotesInRange news
forgotten-ranges olds news f all k x below =
    let count = f.count in
    let low : k < length olds = omega (arith, below, count) in
    let one = f.each k (get_or olds k x) (get_or news k x) low (slice_get-get_or olds k x low) (slice_get-get_or news k x below) in
    let own : IsMoteInRange (get_or olds k x) = all k x low in
    forgotten-in-range (get_or news k x).node.log (get_or olds k x).node.log (get_or news k x).node.gone one.log one.gone own.ranges

pub shown-ranges : (at : Stamp) (olds news : List Mote) → ShowStores at (length olds) olds news → AreMotesInRange olds → AreMotesInRange news
shown-ranges at olds news shows all k x below =
    let count = shows.count in
    let low : k < length olds = omega (arith, below, count) in
    (shows.each k (get_or olds k x) (get_or news k x) low (slice_get-get_or olds k x low) (slice_get-get_or news k x below)).ranges (all k x low)

-- the store of a node is shown
pub shown-mote : (at : Stamp) (old new : Mote) (kept kept' : Log) (size : LogSize) → KeepsJournal old.node.description (machine_in old.node.description) old.node.log → KeepsJournal new.node.description (machine_in new.node.description) new.node.log
    → IsKept (record { all = old.node.log; gone = old.node.gone }) kept → IsSizeOf size kept
    → TellsAlone at (Pacing (ShowsOnce (machine_in old.node.description) (heard_of old.node))) old new → IsKept (record { all = new.node.log; gone = new.node.gone }) kept' → IsInRangeFrom size kept' → ShowsOneStore at old new
shown-mote at old new kept kept' size keeps keeps' held sized t held' rest = record {
  tells = t.tells;
  same = t.same;
  ranges =
      log-goes-on old.node.log new.node.log kept kept' old.node.gone new.node.gone size held sized
      (GoesOn-journal old.node.log new.node.log (map (event_at at) t.tells.told) keeps.tidy.numbered keeps'.tidy.numbered t.tells.grows.journal) t.tells.gone held' rest;
}

-- ---- the world

-- the same nodes and the same air
pub same-ranges : (s new : Simulation) → new.motes.items ≡ s.motes.items → new.radio.air ≡ s.radio.air → new.radio.gone ≡ s.radio.gone → AreInRange s → AreInRange new
same-ranges s new motes air gone has =
    let within = has.gone in
    let long = ap (λ (xs : List Aired). length xs) air in
    record {
      motes = subst AreMotesInRange (sym motes) has.motes;
      air = subst (λ (xs : List Aired). All HasAiredRanges xs) (sym air) has.air;
      gone = omega (arith, within, long, gone);
    }

-- what was told is let go
pub go-ranges : (old mid : Simulation) (node : ℕ) → LetsGo old mid node → AreInRange old → AreInRange mid
go-ranges old mid node go has =
    let own : IsMoteInRange go.before = all-at IsMoteInRange old.motes.items node go.before has.motes go.found in
    let air = ap (λ (e : Ether). e.air) go.radio in
    let gone = ap (λ (e : Ether). e.gone) go.radio in
    let long = ap (λ (xs : List Aired). length xs) air in
    record {
      motes = subst AreMotesInRange (sym go.motes)
          (ranges-set old.motes.items node go.after has.motes (forgotten-in-range go.after.node.log go.before.node.log go.after.node.gone go.forgets.log go.forgets.gone own.ranges));
      air = subst (λ (xs : List Aired). All HasAiredRanges xs) (sym air) has.air;
      gone = omega (arith, gone, long);
    }

pub told-ranges : (written : Written) (old mid : Simulation) (node : ℕ) → LetsGoAsTold written old mid node → AreInRange old → AreInRange mid
told-ranges Kept old mid node go has = subst AreInRange (sym go) has
told-ranges Forgotten old mid node go has = go-ranges old mid node go has

pub left-ranges : (old mid : Simulation) (node : ℕ) → (mid ≡ old) ⊎ LetsGo old mid node → AreInRange old → AreInRange mid
left-ranges old mid node (inl same) has = subst AreInRange (sym same) has
left-ranges old mid node (inr go) has = go-ranges old mid node go has

-- an event came, and what it told is in range
module _ (number node : ℕ) (mid new : Simulation) (adds : AddsEvent number mid new node) where
  pub event-ranges : (x y : Mote) → slice_get mid.motes.items node ≡ Some x → new.motes.items ≡ set mid.motes.items node y → (kept kept' : Log) (size : LogSize) (heard : ℕ) → IsKept (record { all = x.node.log; gone = x.node.gone }) kept → IsSizeOf size kept
      → IsKept (record { all = y.node.log; gone = y.node.gone }) kept' → IsInRangeFrom size kept' → heard ≡ length (drop mid.radio.gone mid.radio.air) → All HasAiredRanges (drop heard (drop new.radio.gone new.radio.air)) → AreInRange mid → AreInRange new
  event-ranges x y found set_is kept kept' size heard held sized held' rest count airs has =
      let first : adds.before ≡ x = ap (λ (o : Option Mote). unwrap_or o x) (sym adds.found ∙ found) in
      let last : adds.after ≡ y =
      ap (λ (o : Option Mote). unwrap_or o y)
      (sym (slice_get_set_same mid.motes.items node adds.after adds.low) ∙ ap (λ (ms : List Mote). slice_get ms node) (sym adds.motes ∙ set_is) ∙ slice_get_set_same mid.motes.items node y adds.low) in
      let own : IsMoteInRange adds.before = all-at IsMoteInRange mid.motes.items node adds.before has.motes adds.found in
      let grown : IsMoteInRange adds.after =
      log-goes-on adds.before.node.log adds.after.node.log kept kept' adds.before.node.gone adds.after.node.gone size (subst (λ (m : Mote). IsKept (record { all = m.node.log; gone = m.node.gone }) kept) (sym first) held) sized adds.goes_on adds.log_gone
      (subst (λ (m : Mote). IsKept (record { all = m.node.log; gone = m.node.gone }) kept') (sym last) held') rest own in
      let more : List Aired = drop (length mid.radio.air) new.radio.air in
      let within = has.gone in
      let gone = adds.air_gone in
      let long = ap (λ (xs : List Aired). length xs) adds.air_goes_on ∙ length-append mid.radio.air more in
      record {
        motes = subst AreMotesInRange (sym adds.motes) (ranges-set mid.motes.items node adds.after has.motes grown);
        air = goes-on HasAiredRanges mid.radio.gone heard mid.radio.air new.radio.air more adds.air_goes_on
            (at-hand mid.radio.gone heard mid.radio.air (drop mid.radio.gone mid.radio.air) refl within count) has.air
            (subst (λ (n : ℕ). All HasAiredRanges (drop heard (drop n new.radio.air))) adds.air_gone airs);
        gone = omega (arith, within, gone, long);
      }

-- ---- the report

logs-ranges : (motes : List Mote) → AreMotesInRange motes → All HasLogRanges (mote_logs motes)
logs-ranges [] all = All-nil HasLogRanges
logs-ranges (m ∷ motes) all =
    let own : IsMoteInRange m = all 0 m (omega arith) in
    All-cons HasLogRanges m.node.log (mote_logs motes) own.ranges (logs-ranges motes (λ i z low. all (suc i) z (omega (arith, low))))

pub report-ranges : (s : Simulation) (events : ℕ) (whole : Bool) → AreInRange s → events < 2 ^ 64 → HasReportRanges (told_report s events whole)
report-ranges s events whole has few = record { nodes = logs-ranges s.motes.items has.motes; air = has.air; events = few }

-- 64 bits count the events
pub few-of : (events : ℕ) → events < 18446744073709551615 → events < 2 ^ 64
few-of events low = omega (arith, low)

pub few-before : (event : ℕ) → event < 2 ^ 64 → event - 1 < 2 ^ 64
few-before event low = omega (arith, low)
