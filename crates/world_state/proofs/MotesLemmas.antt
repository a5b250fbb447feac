-- The nodes of a world and their logs, and what an event adds to them.
use Rattle.std.proofs.Common.{◌≡◌, ℕ, zero, suc, ◌<◌, List, [], ◌∷◌, length, get_or, set, Some, refl, ◌∙◌, ap, subst, arith, All}
use Rattle.std.specs.Prelude.{slice_get, IsSomeAnd}
use Rattle.std.proofs.lemmas.List.{length-map}
use Rattle.std.proofs.lemmas.List.Elements.{All-nil, All-cons}
use Rattle.mate_journal.specs.Log.{Log}
use Rattle.mate_journal.specs.Journal.{journal_of}
use Rattle.mate_journal.specs.Tidy.{below}
use Rattle.node_state.specs.Meaning.{machine_in}
use Rattle.node_open.specs.Journal.{KeepsJournal}
use Rattle.vm_shape.specs.declared.description.Description.{Description}
use Rattle.world_rules.specs.World.{World}
use Rattle.world_rules.specs.State.{Moment}
use Rattle.world_state.specs.StandingAfter.{IsMoteAfter}
use Rattle.world_state.specs.declared.mote.Mote.{Mote}
use Rattle.world_laws.specs.EventText.{TellJournals}
use Rattle.world_state.specs.Reporting.{mote_logs, AreOfMachine}
use Rattle.world_state.specs.Telling.{LogsAreKept}
use Rattle.world_state.proofs.WorldLemmas.{some-at}

-- ---- logs of motes

pub log-at : (motes : List Mote) (k : ℕ) (l : Log) (m : Mote) → k < length motes → get_or (mote_logs motes) k l ≡ (get_or motes k m).node.log
log-at [] k l m low = absurd (omega (arith, low))
log-at (x ∷ motes) zero l m low = refl
log-at (x ∷ motes) (suc k) l m low = log-at motes k l m (omega (arith, low))

pub long-logs : (motes : List Mote) → length (mote_logs motes) ≡ length motes
long-logs motes = length-map motes (λ (m : Mote). m.node.log)

pub set-log : (motes : List Mote) (k : ℕ) (y : Mote) → mote_logs (set motes k y) ≡ set (mote_logs motes) k y.node.log
set-log [] k y = refl
set-log (x ∷ motes) zero y = refl
set-log (x ∷ motes) (suc k) y = ap (λ (ls : List Log). x.node.log ∷ ls) (set-log motes k y)

pub first-mote : (motes : List Mote) (k : ℕ) → k < length motes → Mote
first-mote [] k low = absurd (omega (arith, low))
first-mote (x ∷ motes) zero low = x
first-mote (x ∷ motes) (suc k) low = first-mote motes k (omega (arith, low))

-- it stands there
pub at-mote : (motes : List Mote) (k : ℕ) (low : k < length motes) → slice_get motes k ≡ Some (first-mote motes k low)
unfolding first-mote
at-mote [] k low = absurd (omega (arith, low))
at-mote (x ∷ motes) zero low = refl
at-mote (x ∷ motes) (suc k) low = at-mote motes k (omega (arith, low))

-- the logs tell the journals
pub tell : (w : World) (ms : List Moment) (motes : List Mote) (nodes : ℕ) → length motes ≡ nodes → ((k : ℕ) → k < nodes → IsSomeAnd (slice_get motes k) (IsMoteAfter w ms k)) → TellJournals w ms (mote_logs motes)
tell w ms motes nodes count each k l below =
    let long = long-logs motes in
    let low : k < length motes = omega (arith, below, long) in
    let m = first-mote motes k low in
    ap journal_of (log-at motes k l m low) ∙ (some-at (IsMoteAfter w ms k) motes k m low (each k (omega (arith, low, count)))).journal

-- each log is kept
pub keeps-all : (d : Description) (motes : List Mote) → LogsAreKept motes → AreOfMachine d motes → All (KeepsJournal d (machine_in d)) (mote_logs motes)
keeps-all d [] kept are = All-nil (KeepsJournal d (machine_in d))
keeps-all d (m ∷ motes) kept are =
    let own = kept 0 m (omega arith) in
    let is : m.node.description ≡ d = are 0 m (omega arith) in
    All-cons (KeepsJournal d (machine_in d)) m.node.log (mote_logs motes) (subst (λ (e : Description). KeepsJournal e (machine_in e) m.node.log) is own)
    (keeps-all d motes (λ i x low. kept (suc i) x (omega (arith, low))) (λ i x low. are (suc i) x (omega (arith, low))))

-- the other nodes keep their logs
pub kept-set : (motes : List Mote) (k : ℕ) (y : Mote) → LogsAreKept motes → KeepsJournal y.node.description (machine_in y.node.description) y.node.log → LogsAreKept (set motes k y)
kept-set [] k y kept own = kept
kept-set (x ∷ motes) zero y kept own =
    All-cons (λ (m : Mote). KeepsJournal m.node.description (machine_in m.node.description) m.node.log) y motes own (λ i z low. kept (suc i) z (omega (arith, low)))
kept-set (x ∷ motes) (suc k) y kept own =
    All-cons (λ (m : Mote). KeepsJournal m.node.description (machine_in m.node.description) m.node.log) x (set motes k y) (kept 0 x (omega arith)) (kept-set motes k y (λ i z low. kept (suc i) z (omega (arith, low))) own)
