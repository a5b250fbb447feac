-- What is at hand of a log.
use Rattle.std.proofs.Common.{◌≡◌, List, refl, sym, ◌∙◌, subst, arith, map}
use Rattle.mate_journal.specs.Log.{Log, GoesOn}
use Rattle.mate_journal.specs.Journal.{JournalEntry, TimedEntry}
use Rattle.mate_journal.specs.Pace.{Pace}
use Rattle.mate_num.specs.declared.call.Stamp.{Stamp}
use Rattle.mate_journal.specs.OpenLog.{Gone, gone_of, IsKept}
use Rattle.journal_laws.proofs.GoesOnLemmas.{GoesOn-journal}
use Rattle.node_state.specs.Meaning.{machine_in}
use Rattle.node_state.specs.Keeps.{event_at}
use Rattle.node_open.specs.Journal.{KeepsJournal}
use Rattle.node_open.specs.View.{NodeView, IsSameNode, Tells}
use Rattle.journal_laws.specs.InRange.{IsSizeOf, IsInRangeFrom, IsInRange}
use Rattle.journal_laws.specs.declared.growth.LogSize.{LogSize}
use Rattle.journal_laws.proofs.GrowthLemmas.{same-in-range, forgotten-in-range, log-goes-on}
use Rattle.node_runs.specs.Keeping.{StaysAsToldTo}
use Rattle.node_runs.specs.declared.heap_node.Written.{Written}
use Rattle.node_runs.specs.declared.heap_node.Written.TheVariants.{Kept, Forgotten}

-- ---- what is gone

pub stays-first : (written : Written) (g : Gone) → StaysAsToldTo written g g
stays-first Kept g = refl
stays-first Forgotten g = tt

pub stays-then : (written : Written) (first old mid new : Gone) → StaysAsToldTo written first old → StaysAsToldTo written old mid → new ≡ mid → StaysAsToldTo written first new
stays-then Kept first old mid new f g same = same ∙ g ∙ f
stays-then Forgotten first old mid new f g same = tt

pub stays-back : (written : Written) (old mid new : Gone) → StaysAsToldTo written old mid → new ≡ mid → StaysAsToldTo written old new
stays-back Kept old mid new g same = same ∙ g
stays-back Forgotten old mid new g same = tt

-- ---- the same node twice

pub same-then : (a b c : NodeView) → IsSameNode (record a { gone = b.gone }) b → IsSameNode b c → IsSameNode (record a { gone = c.gone }) c
same-then a b c f g = record {
  description = g.description ∙ f.description;
  log = record { entries = g.log.entries ∙ f.log.entries; images = g.log.images ∙ f.log.images; stores = g.log.stores ∙ f.log.stores };
  gone = refl;
  line = g.line ∙ f.line;
  counts = g.counts ∙ f.counts;
  places = let x = f.places in let y = g.places in omega (arith, x, y);
  room = let x = f.room in let y = g.room in omega (arith, x, y);
}

-- ---- ranges

-- a node as it is seen in another place
abbrev InRange : NodeView → Type 0
InRange v = IsInRange v.log v.gone

pub ranges-same : (old mid new : NodeView) → old ≡ mid → IsSameNode mid new → InRange old → InRange new
ranges-same old mid new is same has = same-in-range new.log mid.log mid.gone new.gone same.log same.gone (subst InRange is has)

pub ranges-forgotten : (old mid new : NodeView) → old ≡ mid → IsSameNode (record mid { gone = gone_of mid.log }) new → InRange old → InRange new
ranges-forgotten old mid new is same has = let h : InRange mid = subst InRange is has in forgotten-in-range new.log mid.log new.gone same.log same.gone h.ranges

-- an event is told, and what is told is in range
pub ranges-told : (old new : NodeView) (kept kept' : Log) (size : LogSize) (at : Stamp) (Rule : Pace → List JournalEntry → Pace → Type 0) → KeepsJournal old.description (machine_in old.description) old.log
    → KeepsJournal new.description (machine_in new.description) new.log → IsKept (record { all = old.log; gone = old.gone }) kept → IsSizeOf size kept → Tells old new at Rule
    → IsKept (record { all = new.log; gone = new.gone }) kept' → IsInRangeFrom size kept' → InRange old → InRange new
ranges-told old new kept kept' size at Rule keeps keeps' held sized t held' rest has =
    let front : List TimedEntry = map (event_at at) t.told in
    log-goes-on old.log new.log kept kept' old.gone new.gone size held sized (GoesOn-journal old.log new.log front keeps.tidy.numbered keeps'.tidy.numbered t.grows.journal) t.gone held' rest has

-- the same, of the node as it is seen where it is read and where it is called
pub ranges-told-as : (self first old new last : NodeView) → self ≡ first → self ≡ old → new ≡ last → (kept kept' : Log) (size : LogSize) (at : Stamp) (Rule : Pace → List JournalEntry → Pace → Type 0)
    → KeepsJournal first.description (machine_in first.description) first.log → KeepsJournal last.description (machine_in last.description) last.log → IsKept (record { all = first.log; gone = first.gone }) kept → IsSizeOf size kept
    → Tells old new at Rule → IsKept (record { all = last.log; gone = last.gone }) kept' → IsInRangeFrom size kept' → InRange self → InRange new
ranges-told-as self first old new last a b e kept kept' size at Rule keeps keeps' held sized t held' rest has =
    let keeps_old : KeepsJournal old.description (machine_in old.description) old.log = subst (λ (v : NodeView). KeepsJournal v.description (machine_in v.description) v.log) (sym a ∙ b) keeps in
    let keeps_new : KeepsJournal new.description (machine_in new.description) new.log = subst (λ (v : NodeView). KeepsJournal v.description (machine_in v.description) v.log) (sym e) keeps' in
    let held_old : IsKept (record { all = old.log; gone = old.gone }) kept = subst (λ (v : NodeView). IsKept (record { all = v.log; gone = v.gone }) kept) (sym a ∙ b) held in
    let held_new : IsKept (record { all = new.log; gone = new.gone }) kept' = subst (λ (v : NodeView). IsKept (record { all = v.log; gone = v.gone }) kept') (sym e) held' in
    ranges-told old new kept kept' size at Rule keeps_old keeps_new held_old sized t held_new rest (subst InRange b has)

-- a log goes on, as it is seen where it is read and where it is called
pub goes-on-as : (self first old new last : NodeView) → self ≡ first → self ≡ old → new ≡ last → (at : Stamp) (Rule : Pace → List JournalEntry → Pace → Type 0) → KeepsJournal first.description (machine_in first.description) first.log
    → KeepsJournal last.description (machine_in last.description) last.log → Tells old new at Rule → GoesOn self.log new.log
goes-on-as self first old new last a b e at Rule keeps keeps' t =
    let keeps_old : KeepsJournal old.description (machine_in old.description) old.log = subst (λ (v : NodeView). KeepsJournal v.description (machine_in v.description) v.log) (sym a ∙ b) keeps in
    let keeps_new : KeepsJournal new.description (machine_in new.description) new.log = subst (λ (v : NodeView). KeepsJournal v.description (machine_in v.description) v.log) (sym e) keeps' in
    let front : List TimedEntry = map (event_at at) t.told in
    subst (λ (v : NodeView). GoesOn v.log new.log) (sym b) (GoesOn-journal old.log new.log front keeps_old.tidy.numbered keeps_new.tidy.numbered t.grows.journal)
