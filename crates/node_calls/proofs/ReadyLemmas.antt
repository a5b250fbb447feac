-- A store that is told shows what a ready invocation writes as in the store of its run so far.
use Rattle.std.proofs.Common.{◌≡◌, ℕ, ◌+◌, ◌≤◌, true, refl, sym, ◌∙◌, ap, subst}
use Rattle.mate_num.specs.declared.resource.Resource.{Resource}
use Rattle.mate_num.specs.declared.store.Store.{Store}
use Rattle.mate_code.specs.Cells.{AreAsLong}
use Rattle.vm_shape.specs.declared.description.Description.{Description}
use Rattle.mate_journal.specs.Journal.{Phase, Ready, is_live, is_started, Invocation}
use Rattle.mate_num.specs.declared.call.Stamp.{Stamp}
use Rattle.mate_journal.specs.Pace.{Pace}
use Rattle.mate_journal.specs.Stores.{values_at, WritesResource}
use Rattle.mate_journal.specs.Turns.{store_so_far, ShowsReady}
use Rattle.node_state.specs.declared.seat.Seat.{Seat}
use Rattle.node_state.specs.declared.parts.Parts.{Parts}
use Rattle.node_state.specs.Meaning.{machine_in}
use Rattle.node_state.specs.Agrees.{uses_for, own_run, IsOwnRun, RunsOwn}
use Rattle.node_state.specs.Keeps.{reading, Keeps, IsTimely}
use Rattle.node_state.proofs.AgreeLemmas.{or-right}
use Rattle.node_state.proofs.SerialLemmas.{values-read}
use Rattle.node_state.specs.Pace.{IsPace}
use Rattle.node_state.specs.Starting.{Rests}
use Rattle.node_calls.specs.Calls.{TellsStore}
use Rattle.node_calls.proofs.SeenLemmas.{IsShownIn, RestsAgain-seen}
use Rattle.mate_journal.specs.OpenLog.{OpenView}

pub ShowsReady-keeps : (d : Description) (s : Parts) (p : Pace) → Keeps d s → IsPace (reading d s.log.all) s.contexts p → ShowsReady (machine_in d) (reading d s.log.all) p s.heap
ShowsReady-keeps d s p keeps pace = record { ready = shows } where
  shows : (q : Resource) (n : ℕ) → WritesResource (machine_in d) (reading d s.log.all) n q → ((reading d s.log.all).invocations n).phase ≡ Ready
      → values_at s.heap q ≡ values_at (store_so_far (machine_in d) (reading d s.log.all) p n) q
  shows q n writes is_ready =
      let i : Invocation = (reading d s.log.all).invocations n in
      let serial : Store = (reading d s.log.all).serial in
      let there = keeps.fits.placed n (ap is_live is_ready) in
      let t : Seat = there.seat in
      let P : ℕ → Type 0 = λ k. RunsOwn d ((reading d s.log.all).invocations k).phase ((reading d s.log.all).invocations k) t serial s.heap in
      let Q : Phase → Type 0 = λ ph. RunsOwn d ph i t serial s.heap in
      let S : ℕ → Type 0 = λ k. is_started ((reading d s.log.all).invocations k).phase ≡ true in
      let own : IsOwnRun d i t serial s.heap = subst Q is_ready (subst P there.number (keeps.agrees.each i.context t there.is)) in
      let count : t.count ≡ p.counts n = pace.counts i.context t there.is (subst S (sym there.number) (ap is_started is_ready)) ∙ ap p.counts there.number in
      let same = own.stores.same q (or-right ((uses_for d i).reads q) ((uses_for d i).writes q) writes.writes) in
      let as_long : AreAsLong s.heap (own_run d i t.count serial).store = record { shared = sym own.stores.as_long.shared; buffers = sym own.stores.as_long.buffers } in
      values-read s.heap (own_run d i t.count serial).store q as_long (sym same) ∙ ap (λ (k : ℕ). values_at (own_run d i k serial).store q) count

-- the store is told, and nothing else changes
pub TellsStore-pushed : (d : Description) (old : Parts) (log : OpenView) (at_ : Stamp) → Rests d old → IsTimely at_ old.log.all → IsShownIn old.log.all old.heap at_ log.all → old.log.all.spare ≤ log.all.spare + 1 → TellsStore d old (record old { log = log }) at_
TellsStore-pushed d old log at_ rests timely is room = record {
  again = RestsAgain-seen d old log at_ rests timely is room;
  shown = λ p has. ShowsReady-keeps d old p rests.order.keeps has;
  same = refl;
}
