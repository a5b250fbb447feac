-- Calls and ends that are told in a turn.
use Rattle.std.proofs.Common.{◌≡◌, ℕ, suc, ◌+◌, ◌<◌, ◌≤◌, ℤ, true, false, List, [], ◌∷◌, Option, Some, None, length, refl, sym, ◌∙◌, ap, subst, arith, inl, inr}
use Rattle.std.specs.Prelude.{IsSome}
use Rattle.std.proofs.lemmas.List.Elements.{All-nil}
use Rattle.arrayvec.specs.ArrayVec.{ArrayVec}
use Rattle.mate_num.specs.declared.call.End.{End}
use Rattle.mate_num.specs.declared.call.End.TheVariants as end
use Rattle.mate_num.specs.declared.call.Stamp.{Stamp}
use Rattle.mate_num.specs.declared.id.ContextId.{ContextId}
use Rattle.mate_num.specs.declared.id.FunId.{FunId}
use Rattle.mate_num.specs.declared.lock_set.LockSet.{LockSet}
use Rattle.context_sched.specs.Ready.{without}
use Rattle.lock_manager.specs.Claims.{Claims}
use Rattle.exec_unit.specs.declared.step_end.StepEnd.{StepEnd}
use Rattle.exec_unit.specs.declared.step_end.StepEnd.TheVariants.{Ask}
use Rattle.exec_unit.specs.Step.{own_after}
use Rattle.vm_shape.specs.declared.description.Description.{Description}
use Rattle.mate_journal.specs.declared.entry.Entry.{Entry}
use Rattle.mate_journal.specs.declared.entry.Entry.TheVariants as entry
use Rattle.mate_journal.specs.Log.{Log}
use Rattle.mate_journal.specs.Journal.{JournalEntry, journal_entry, Asked as AskedTold, Ended, Waiting, Invocation, NodeState, next_state}
use Rattle.mate_journal.specs.Grants.{AllHeldBack}
use Rattle.mate_journal.specs.Grants.{IsStart}
use Rattle.mate_journal.specs.WellFormed.{Closes}
use Rattle.journal_laws.specs.Growth.{IsPushed}
use Rattle.node_state.proofs.KeepLemmas.{IsPlain}
use Rattle.journal_laws.proofs.Moves.{asked-Moves, ended-Moves}
use Rattle.node_state.specs.declared.seat.Seat.{Seat}
use Rattle.node_state.specs.declared.contexts.Contexts.{Contexts}
use Rattle.node_state.specs.At.{At, at, ready, Becomes, Asks, Ends, IsPlaced}
use Rattle.node_state.specs.Programs.{held_at}
use Rattle.node_state.specs.declared.parts.Parts.{Parts}
use Rattle.node_state.specs.Meaning.{machine_in}
use Rattle.node_state.specs.Keeps.{reading, Keeps, IsTimely}
use Rattle.node_state.specs.Continues.{Continues}
use Rattle.node_state.proofs.MoveLemmas.{stood_ready}
use Rattle.node_state.proofs.AgreeLemmas.{going_in}
use Rattle.node_state.proofs.EntryLemmas.{IsClosing, Continues-asked, Continues-ended}
use Rattle.node_state.proofs.KeepLemmas.{Grows-then}
use Rattle.node_state.specs.Queue.{number_at, invocation_in}
use Rattle.node_state.specs.Totals.{may_start, owed, left, starts_left}
use Rattle.mate_journal.specs.Turns.{mark_of, entry_at}
use Rattle.node_state.specs.Starting.{KeepsOrder, IsStarting, Rests, StartsAll}
use Rattle.node_state.proofs.WaiterLemmas.{all-held-moves}
use Rattle.node_state.proofs.OrderLemmas.{IsQueue-becomes, KeepsOrder-push, heard-by, last-by, IsStarting-first}
use Rattle.node_calls.specs.Pacing.{most, HasGoneOn, HasStopped, HasMoved, TakesTurn}
use Rattle.node_calls.proofs.RunningLemmas.{one, one-within}
use Rattle.node_calls.proofs.ActLemmas.{ready-mid, number-mid, held-mid, HasMoved-from}
use Rattle.mate_journal.specs.OpenLog.{OpenView}

stood : (d : Description) (s : Parts) (c : ContextId) (keeps : Keeps d s) (is_ready : (at s.contexts c).ready ≡ true) → at s.contexts c ≡ ready (one d s c keeps is_ready).seat (one d s c keeps is_ready).seated.x.locks
stood d s c keeps is_ready = stood_ready (machine_in d) (held_at s.handlers.programs) (reading d s.log.all) s.contexts c keeps.fits is_ready

-- its mark is within the bound
mark-within : (d : Description) (s : Parts) (c : ContextId) (keeps : Keeps d s) (is_ready : (at s.contexts c).ready ≡ true) → mark_of (machine_in d) (reading d s.log.all) (invocation_in s.contexts c) ≤ most d
mark-within d s c keeps is_ready =
    let P : ℕ → Type 0 = λ j. mark_of (machine_in d) (reading d s.log.all) j ≤ most d in
    subst P (sym (ap number_at (one d s c keeps is_ready).is)) (one-within d s c keeps is_ready)

-- a turn that told its entry, with no start after it
pub TakesTurn-told : (d : Description) (old next : Parts) (at_ : Stamp) (c : ContextId) (k ran : ℕ) (told : JournalEntry) → HasMoved d old next at_ c k ran told → AllHeldBack (machine_in d) (reading d next.log.all) → mark_of (machine_in d) (reading d old.log.all) (invocation_in old.contexts c) ≤ most d → TakesTurn d old next at_ c k ran
TakesTurn-told d old next at_ c k ran told m held within = record {
  invocation = m.invocation;
  number = m.number;
  told = told ∷ [];
  rests = record { order = m.order; held = held };
  grows = m.grows;
  turn = λ p pace. (let h = m.pace p pace in (
    record {
      ready = m.was;
      short = λ below. absurd (let above = h.0 in omega arith);
      reached = λ above. record { starts = []; are_starts = All-nil IsStart; told_is = ap (λ (t : JournalEntry). t ∷ []) m.told_is };
    },
    (let above = h.0 in let ran_is = h.1 in omega arith),
    h.2,
  ));
  within = (let P : ℕ → Type 0 = λ j. mark_of (machine_in d) (reading d old.log.all) j ≤ most d in subst P m.number within);
  owed = (let e = m.owed in let one : length (told ∷ []) ≡ 1 = refl in omega arith);
  falls_by = m.falls_by;
  handlers = m.handlers;
  posts = m.posts;
}

-- and with all the starts that can follow
pub TakesTurn-starts : (d : Description) (old mid next : Parts) (at_ : Stamp) (c : ContextId) (k ran : ℕ) (told : JournalEntry) → HasMoved d old mid at_ c k ran told → StartsAll d mid next at_ → mark_of (machine_in d) (reading d old.log.all) (invocation_in old.contexts c) ≤ most d → TakesTurn d old next at_ c k ran
TakesTurn-starts d old mid next at_ c k ran told m s within = record {
  invocation = m.invocation;
  number = m.number;
  told = told ∷ s.some.told;
  rests = record { order = s.some.starting.order; held = s.held };
  grows = Grows-then old.log.all mid.log.all next.log.all at_ (told ∷ []) s.some.told m.grows s.some.grows;
  turn = λ p pace. (let h = m.pace p pace in (
    record {
      ready = m.was;
      short = λ below. absurd (let above = h.0 in omega arith);
      reached = λ above. record { starts = s.some.told; are_starts = s.some.starts; told_is = ap (λ (t : JournalEntry). t ∷ s.some.told) m.told_is };
    },
    (let above = h.0 in let ran_is = h.1 in omega arith),
    s.some.pace _ h.2,
  ));
  within = (let P : ℕ → Type 0 = λ j. mark_of (machine_in d) (reading d old.log.all) j ≤ most d in subst P m.number within);
  owed = (let e = m.owed in let f = s.some.owed in let more : length (told ∷ s.some.told) ≡ suc (length s.some.told) = refl in omega arith);
  falls_by = (let e = m.falls_by in let f = s.some.falls_by (most d) in omega arith);
  handlers = s.some.handlers ∙ m.handlers;
  posts = s.some.posts ∙ m.posts;
}

module _ (d : Description) (old now : Parts) (c : ContextId) (k ran : ℕ) (rests : Rests d old) (small : c.0 < 16) (is_ready : (at old.contexts c).ready ≡ true) (at_ : Stamp) (timely : IsTimely at_ old.log.all) where
  module _ (how : StepEnd) (stops : HasStopped d old now c k ran how) where
    abbrev pub mid : Parts
    mid = stops.mid

    abbrev pub g : HasGoneOn d old stops.mid c stops.before
    g = stops.goes

    abbrev pub mid-ready : (at stops.mid.contexts c).ready ≡ true
    mid-ready = ready-mid d old stops.mid c stops.before rests small is_ready stops.goes

    abbrev pub t : Seat
    t = (one d stops.mid c stops.goes.order.keeps (ready-mid d old stops.mid c stops.before rests small is_ready stops.goes)).seat

    abbrev pub i : Invocation
    i = (reading d stops.mid.log.all).invocations t.inv

    mid-timely : IsTimely at_ stops.mid.log.all
    mid-timely = let P : Log → Type 0 = λ l. IsTimely at_ l in subst P (sym (ap (λ (v : OpenView). v.all) stops.goes.log)) timely

    mid-held : AllHeldBack (machine_in d) (reading d stops.mid.log.all)
    mid-held = held-mid d old stops.mid c stops.before rests small is_ready stops.goes

    -- the number that was read before the turn
    pub number-now : (n : ℕ) → invocation_in old.contexts c ≡ n → t.inv ≡ n
    number-now n e =
        let f : invocation_in stops.mid.contexts c ≡ invocation_in old.contexts c = ap (λ (a : At). number_at a.seat) stops.goes.becomes.here ∙ stops.goes.same.inv ∙ ap number_at (sym stops.goes.is) in
        sym (number-mid d old stops.mid c stops.before rests small is_ready stops.goes) ∙ f ∙ e

    -- it asks
    module _ (f : FunId) (args : ArrayVec ℤ) (is : how ≡ Ask f args) (after : Contexts) (log : OpenView) (asks : Asks now.contexts after c (f, args)) (pushed : IsPushed stops.mid.log.all record { stamp = at_; entry = entry.Ask t.inv f args } log.all) (room : stops.mid.log.all.spare ≤ log.all.spare + 1) where
      abbrev pub ask-a : At
      ask-a = record (at stops.mid.contexts c) { seat = Some stops.executes.now; ready = false; call = Some (f, args) }

      ask-becomes : Becomes stops.mid.contexts after c ask-a
      ask-becomes = record {
        here = asks.becomes.here ∙ ap (λ (a : At). record a { ready = false; call = Some (f, args) }) stops.executes.becomes.here;
        others = λ j other. asks.becomes.others j other ∙ stops.executes.becomes.others j other;
        seats = asks.becomes.seats ∙ stops.executes.becomes.seats;
      }

      ask-next : Continues d stops.mid (record stops.mid { contexts = after; heap = now.heap; log = log }) stops.mid.log.all at_ (entry.Ask t.inv f args) (AskedTold t.inv f args)
      ask-next = Continues-asked d stops.mid now.contexts now.heap c how stops.goes.order.keeps mid-ready stops.executes after log at_ f args mid-timely is asks pushed

      ask-order : KeepsOrder d (record stops.mid { contexts = after; heap = now.heap; log = log })
      ask-order =
          KeepsOrder-push d stops.mid (record stops.mid { contexts = after; heap = now.heap; log = log }) stops.mid.log.all at_ (entry.Ask t.inv f args) (AskedTold t.inv f args) stops.goes.order ask-next room mid-held
          (IsQueue-becomes stops.mid.contexts after c ask-a ask-becomes (ap (λ (l : Claims). l.waiting) (asks.locks ∙ stops.executes.locks))
          (inr (stops.executes.same.inv ∙ ap number_at (sym stops.executes.is))) stops.goes.order.queue)

      pub HasMoved-asked : HasMoved d old (record stops.mid { contexts = after; heap = now.heap; log = log }) at_ c k ran (AskedTold t.inv f args)
      HasMoved-asked =
          HasMoved-from d old stops.mid c stops.before rests small is_ready stops.goes k ran stops.few stops.ran_is now.contexts after now.heap log at_ how stops.executes (end.Wants f args)
          (ap (λ (h : StepEnd). (own_after h stops.executes.now.machine (going_in i t)).status) is)
          (ap (λ (h : StepEnd). (own_after h stops.executes.now.machine (going_in i t)).count) is)
          (AskedTold t.inv f args) ask-a ask-becomes (asks.ring ∙ ap (λ (l : List ContextId). without l c) stops.executes.ring)
          (λ u e. (let same : stops.executes.now ≡ u = (let h : Some stops.executes.now ≡ Some u = e in cc) in sym same))
          (ap (λ (a : At). owed (record a { seat = Some stops.executes.now; ready = false; call = Some (f, args) })) (stood d stops.mid c stops.goes.order.keeps mid-ready))
          (ap (λ (a : At). may_start (record a { seat = Some stops.executes.now; ready = false; call = Some (f, args) })) (stood d stops.mid c stops.goes.order.keeps mid-ready))
          (ap (λ (a : At). left (most d) (record a { seat = Some stops.executes.now; ready = false; call = Some (f, args) })) (stood d stops.mid c stops.goes.order.keeps mid-ready))
          (λ p. refl) refl (asked-Moves (machine_in d) (reading d stops.mid.log.all) t.inv f args).others
          (entry.Ask t.inv f args) ask-next room ask-order

      pub TakesTurn-asked : TakesTurn d old (record stops.mid { contexts = after; heap = now.heap; log = log }) at_ c k ran
      TakesTurn-asked =
          let heard_is = heard-by d stops.mid (record stops.mid { contexts = after; heap = now.heap; log = log }) stops.mid.log.all at_ (entry.Ask t.inv f args) (AskedTold t.inv f args) stops.goes.order ask-next room in
          let P : NodeState → Type 0 = λ r. AllHeldBack (machine_in d) r in
          TakesTurn-told d old (record stops.mid { contexts = after; heap = now.heap; log = log }) at_ c k ran (AskedTold t.inv f args) HasMoved-asked
          (subst P (sym heard_is) (all-held-moves (machine_in d) (reading d stops.mid.log.all) (next_state (machine_in d) (reading d stops.mid.log.all) (AskedTold t.inv f args)) t.inv (Waiting f args) (asked-Moves (machine_in d) (reading d stops.mid.log.all) t.inv f args) refl mid-held))
          (mark-within d old c rests.order.keeps is_ready)

    -- it is over
    module _ (e : End) (told : Entry) (closes : Closes e) (closing : IsClosing how e) (tells : journal_entry stops.mid.log.all told ≡ Ended t.inv e) (plain : IsPlain d told)
        (entry-is : Ended t.inv e ≡ entry_at t.inv e) (after : Contexts) (log : OpenView) (finishes : Ends now.contexts after c) (pushed : IsPushed stops.mid.log.all record { stamp = at_; entry = told } log.all) (room : stops.mid.log.all.spare ≤ log.all.spare + 1) where
      abbrev pub end-a : At
      end-a = record (at stops.mid.contexts c) { seat = None; holds = None; ready = false; waits = None }

      end-becomes : Becomes stops.mid.contexts after c end-a
      end-becomes = record {
        here = finishes.becomes.here ∙ ap (λ (a : At). record a { seat = None; holds = None; ready = false; waits = None }) stops.executes.becomes.here;
        others = λ j other. finishes.becomes.others j other ∙ stops.executes.becomes.others j other;
        seats = finishes.becomes.seats ∙ stops.executes.becomes.seats;
      }

      abbrev pub end-parts : Parts
      end-parts = record stops.mid { contexts = after; heap = now.heap; log = log }

      end-next : Continues d stops.mid end-parts stops.mid.log.all at_ told (Ended t.inv e)
      end-next = Continues-ended d stops.mid now.contexts now.heap c how stops.goes.order.keeps mid-ready stops.executes after log at_ e told mid-timely closes closing tells plain finishes pushed

      end-order : KeepsOrder d end-parts
      end-order =
          KeepsOrder-push d stops.mid end-parts stops.mid.log.all at_ told (Ended t.inv e) stops.goes.order end-next room mid-held
          (IsQueue-becomes stops.mid.contexts after c end-a end-becomes (finishes.releases.waiting ∙ ap (λ (l : Claims). l.waiting) stops.executes.locks)
          (inl (ap (λ (a : At). a.waits) (stood d stops.mid c stops.goes.order.keeps mid-ready))) stops.goes.order.queue)

      pub HasMoved-ended : HasMoved d old end-parts at_ c k ran (Ended t.inv e)
      HasMoved-ended =
          HasMoved-from d old stops.mid c stops.before rests small is_ready stops.goes k ran stops.few stops.ran_is now.contexts after now.heap log at_ how stops.executes e
          (closing.status stops.executes.now.machine (going_in i t))
          (closing.count stops.executes.now.machine (going_in i t))
          (Ended t.inv e) end-a end-becomes (finishes.ring ∙ ap (λ (l : List ContextId). without l c) stops.executes.ring)
          (λ u f. absurd (let h : None ≡ Some u = f in cc))
          refl
          refl
          refl
          (λ p. refl) entry-is (ended-Moves (machine_in d) (reading d stops.mid.log.all) t.inv e).others
          told end-next room end-order

      pub IsStarting-ended : IsStarting d end-parts
      IsStarting-ended = IsStarting-first d end-parts end-order (last-by d stops.mid end-parts stops.mid.log.all at_ told (Ended t.inv e) stops.goes.order end-next room)

-- ---- the same, as the code has it: the parts after the instructions, and the number that was read before them

module _ (d : Description) (old now : Parts) (c : ContextId) (k ran : ℕ) (rests : Rests d old) (small : c.0 < 16) (is_ready : (at old.contexts c).ready ≡ true) (at_ : Stamp) (timely : IsTimely at_ old.log.all)
    (how : StepEnd) (stops : HasStopped d old now c k ran how) (n : ℕ) (placed : IsPlaced (at old.contexts c) n) (after : Contexts) (log : OpenView) (room : now.log.all.spare ≤ log.all.spare + 1) where
  log-is : now.log.all ≡ stops.mid.log.all
  log-is = ap (λ (s : Parts). s.log.all) stops.rest

  number-is : n ≡ (one d stops.mid c stops.goes.order.keeps (ready-mid d old stops.mid c stops.before rests small is_ready stops.goes)).seat.inv
  number-is = sym (number-now d old now c k ran rests small is_ready at_ timely how stops n (ap number_at placed.is ∙ placed.number))

  parts-is : ◌≡◌ {A = Parts} (record now { contexts = after; log = log }) (record (stops.mid) { contexts = after; heap = now.heap; log = log })
  parts-is = ap (λ (s : Parts). record s { contexts = after; heap = now.heap; log = log }) stops.rest

  room-mid : stops.mid.log.all.spare ≤ log.all.spare + 1
  room-mid = let P : Log → Type 0 = λ l. l.spare ≤ log.all.spare + 1 in subst P log-is room

  pushed-mid : (told : ℕ → Entry) → IsPushed now.log.all record { stamp = at_; entry = told n } log.all
      → IsPushed stops.mid.log.all record { stamp = at_; entry = told (one d stops.mid c stops.goes.order.keeps (ready-mid d old stops.mid c stops.before rests small is_ready stops.goes)).seat.inv } log.all
  pushed-mid told pushed =
      let P : Log → Type 0 = λ l. IsPushed l record { stamp = at_; entry = told n } log.all in
      let Q : ℕ → Type 0 = λ j. IsPushed stops.mid.log.all record { stamp = at_; entry = told j } log.all in
      subst Q number-is (subst P log-is pushed)

  pub TakesTurn-ask : (f : FunId) (args copy : ArrayVec ℤ) → how ≡ Ask f args → copy ≡ args → Asks now.contexts after c (f, args) → IsPushed now.log.all record { stamp = at_; entry = entry.Ask n f copy } log.all
      → TakesTurn d old (record now { contexts = after; log = log }) at_ c k ran
  TakesTurn-ask f args copy is same asks pushed =
      let P : ArrayVec ℤ → Type 0 = λ x. IsPushed now.log.all record { stamp = at_; entry = entry.Ask n f x } log.all in
      let Q : Parts → Type 0 = λ s. TakesTurn d old s at_ c k ran in
      subst Q (sym parts-is)
      (TakesTurn-asked d old now c k ran rests small is_ready at_ timely how stops f args is after log asks (pushed-mid (λ j. entry.Ask j f args) (subst P same pushed)) room-mid)

  -- what ends the invocation, and how it is told
  module _ (e : End) (told : ℕ → Entry) (closes : Closes e) (closing : IsClosing how e) (tells : (l : Log) (j : ℕ) → journal_entry l (told j) ≡ Ended j e) (plain : (j : ℕ) → IsPlain d (told j))
      (entry-is : (j : ℕ) → Ended j e ≡ entry_at j e) (finishes : Ends now.contexts after c) (pushed : IsPushed now.log.all record { stamp = at_; entry = told n } log.all) where
    abbrev pub j : ℕ
    j = (one d stops.mid c stops.goes.order.keeps (ready-mid d old stops.mid c stops.before rests small is_ready stops.goes)).seat.inv

    pub IsStarting-end : IsStarting d (record now { contexts = after; log = log })
    IsStarting-end =
        let Q : Parts → Type 0 = λ s. IsStarting d s in
        subst Q (sym parts-is)
        (IsStarting-ended d old now c k ran rests small is_ready at_ timely how stops e (told j) closes closing (tells stops.mid.log.all j) (plain j) (entry-is j) after log finishes (pushed-mid told pushed) room-mid)

    pub HasMoved-end : HasMoved d old (record now { contexts = after; log = log }) at_ c k ran (Ended j e)
    HasMoved-end =
        let Q : Parts → Type 0 = λ s. HasMoved d old s at_ c k ran (Ended j e) in
        subst Q (sym parts-is)
        (HasMoved-ended d old now c k ran rests small is_ready at_ timely how stops e (told j) closes closing (tells stops.mid.log.all j) (plain j) (entry-is j) after log finishes (pushed-mid told pushed) room-mid)

    pub room-end : starts_left old.contexts + 1 ≤ old.log.all.spare → starts_left after ≤ log.all.spare
    room-end enough =
        let m = HasMoved-end in
        let x = m.left_is in
        let y = m.grows.spare in
        let one_told : length (Ended j e ∷ []) ≡ 1 = refl in
        omega arith

    pub timely-end : IsTimely at_ log.all
    timely-end = HasMoved-end.grows.timely

    pub TakesTurn-end : (next : Parts) → StartsAll d (record now { contexts = after; log = log }) next at_ → TakesTurn d old next at_ c k ran
    TakesTurn-end next starts = TakesTurn-starts d old (record now { contexts = after; log = log }) next at_ c k ran (Ended j e) HasMoved-end starts (mark-within d old c rests.order.keeps is_ready)

-- there is room for what a turn tells
pub room-tell : (d : Description) (old now : Parts) (c : ContextId) (k ran : ℕ) (how : StepEnd) (stops : HasStopped d old now c k ran how) → starts_left old.contexts + 1 ≤ old.log.all.spare → 1 ≤ now.log.all.spare
room-tell d old now c k ran how stops enough =
    let e = ap (λ (s : Parts). s.log.all.spare) stops.rest in
    let f = ap (λ (l : Log). l.spare) (ap (λ (v : OpenView). v.all) stops.goes.log) in
    omega arith

-- who is ready has a seat; where its instructions stop, it holds its locks and hasn't called
module _ (d : Description) (old : Parts) (c : ContextId) (rests : Rests d old) (is_ready : (at old.contexts c).ready ≡ true) where
  pub ready-seated : IsSome (at old.contexts c).seat
  ready-seated = let P : At → Type 0 = λ a. IsSome a.seat in subst P (sym (stood d old c rests.order.keeps is_ready)) refl

  module _ (now : Parts) (k ran : ℕ) (how : StepEnd) (stops : HasStopped d old now c k ran how) where
    pub stopped-holds : IsSome (at now.contexts c).holds
    stopped-holds =
        let P : Option LockSet → Type 0 = λ o. IsSome o in
        let part : At → Option LockSet = λ a. a.holds in
        subst P (sym (ap part stops.executes.becomes.here ∙ ap part stops.goes.becomes.here ∙ ap part (stood d old c rests.order.keeps is_ready))) refl

    pub stopped-silent : (at now.contexts c).call ≡ None
    stopped-silent =
        ap (λ (a : At). a.call) stops.executes.becomes.here ∙ ap (λ (a : At). a.call) stops.goes.becomes.here ∙ ap (λ (a : At). a.call) (stood d old c rests.order.keeps is_ready)
