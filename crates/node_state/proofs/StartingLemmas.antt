-- One start after another: each is right, and in the end all that wait are held back.
use Rattle.std.proofs.Common.{◌≡◌, ◌≢◌, ◌⊎◌, ℕ, ◌+◌, ◌-◌, ◌<◌, ◌≤◌, true, List, [], ◌∷◌, ◌++◌, Some, None, length, refl, sym, ◌∙◌, ap, subst, arith, inl, inr, length-append}
use Rattle.std.specs.Prelude.{map}
use Rattle.std.proofs.lemmas.List.{map-append}
use Rattle.std.proofs.lemmas.List.Sums.{fold-append}
use Rattle.std.proofs.lemmas.Bool.{cases_eq}
use Rattle.std.proofs.lemmas.List.Elements.{All-nil, All-cons, All-append}
use Rattle.mate_num.specs.declared.call.Stamp.{Stamp}
use Rattle.mate_num.specs.declared.id.ContextId.{ContextId}
use Rattle.lock_manager.specs.declared.claim.Claim.{Claim}
use Rattle.lock_manager.specs.Claims.{AreOnce, GrantsNone}
use Rattle.lock_manager.proofs.ClaimLemmas.{same_context, times-append, AreOnce-fewer}
use Rattle.node_state.proofs.ContextLemmas.{claim-small}
use Rattle.mate_journal.specs.declared.entry.Entry.TheVariants as entry
use Rattle.mate_journal.specs.Machine.{Machine}
use Rattle.mate_journal.specs.Journal.{changed, JournalEntry, TimedEntry, Started, Phase, Queued, Ready, is_live, is_started, Invocation, NodeState, journal_of, first_state, next_state, state_after_all}
use Rattle.mate_journal.specs.Grants.{IsHeldBack, AllHeldBack, MayStart}
use Rattle.mate_journal.specs.Grants.{IsStart}
use Rattle.journal_laws.specs.Growth.{GrantsBefore, IsPushed, last_start}
use Rattle.journal_laws.proofs.Append.{heard_all-push, GrantsBefore-push, last_start-push}
use Rattle.journal_laws.proofs.Moves.{Moves, started-Moves}
use Rattle.vm_shape.specs.declared.description.Description.{Description}
use Rattle.node_state.specs.declared.seat.Seat.{Seat}
use Rattle.node_state.specs.declared.contexts.Contexts.{Contexts}
use Rattle.node_state.specs.At.{At, at, queued, CanStart, StartsContext, IsPlaced}
use Rattle.node_state.specs.Programs.{Programs, held_at}
use Rattle.node_state.specs.declared.parts.Parts.{Parts}
use Rattle.node_state.specs.Meaning.{machine_in}
use Rattle.node_state.specs.Standing.{standing}
use Rattle.node_state.specs.Fits.{ContextsMatch}
use Rattle.node_state.specs.Agrees.{IsFresh, RunsOwn}
use Rattle.node_state.specs.Keeps.{reading, Keeps, IsTimely, event_at}
use Rattle.node_state.specs.Continues.{Continues}
use Rattle.node_state.proofs.FitLemmas.{by_seat, IsAlone, HasSeat, seat-by, queued-by_waits, changed-here, changed-other}
use Rattle.node_state.proofs.MoveLemmas.{alone-seat, starting, stood, start-seat, start-queued}
use Rattle.node_state.proofs.KeepLemmas.{Keeps-push, Grows-push, Grows-none, Grows-then}
use Rattle.node_state.proofs.EntryLemmas.{Continues-started}
use Rattle.node_state.specs.Queue.{number_at, invocation_in, NumbersRise, IsQueue}
use Rattle.node_state.specs.Totals.{may_start, owed, left, starts_left, owes, falls}
use Rattle.mate_journal.specs.Pace.{Pace, paced, paced_all}
use Rattle.node_state.specs.Pace.{IsPace}
use Rattle.node_state.specs.Starting.{IsPastLast, last_started, KeepsOrder, IsStarting, AllButHeld, HasRoomToStart, IsRoomForAll, StartsNext, StartsNone, AtMost, StartsSome, StartsAll}
use Rattle.node_state.proofs.QueueLemmas.{NumbersRise-out, NumbersRise-same}
use Rattle.node_state.proofs.WaiterLemmas.{all-held, granted-may, granted-past, held-started}
use Rattle.node_state.proofs.TotalLemmas.{over_all-becomes, over_all-least}
use Rattle.mate_journal.specs.OpenLog.{OpenView}

-- ---- who can be granted its locks

pub CanStart-fits : (held : Programs) (r : NodeState) (s : Contexts) → ContextsMatch held r s → CanStart s
CanStart-fits held r s fits = record {
  absent = λ c set waits.
      (let h = seat-by (λ a. a.waits) set held r c (at s c) refl waits (fits.each c) in
      let is = queued-by_waits (r.invocations h.seat.inv).phase h.seat h.seated.x.locks set (ap (λ (a : At). a.waits) (sym h.seated.stands) ∙ waits) in
      ap (λ (a : At). a.ready) h.seated.stands ∙ ap (λ (p : Phase). (standing p h.seat h.seated.x.locks).ready) is);
}

-- ---- held back and free exclude each other

not_both : (m : Machine) (r : NodeState) (n : ℕ) → MayStart m r n → IsHeldBack m r n → ⊥
not_both m r n may h = may h.by h.ahead h.conflict

queued-later : (m : Machine) (r : NodeState) (n k : ℕ) → ((next_state m r (Started n)).invocations k).phase ≡ Queued → (k ≢ n) × ((r.invocations k).phase ≡ Queued)
queued-later m r n k is = by (cases_eq k n) where
  moves : Moves r (next_state m r (Started n)) n Ready
  moves = started-Moves m r n

  by : (k ≡ n) ⊎ (k ≡ n → ⊥) → (k ≢ n) × ((r.invocations k).phase ≡ Queued)
  by (inl e) =
      let P : ℕ → Type 0 = λ j. ((next_state m r (Started n)).invocations j).phase ≡ Queued in
      absurd (let f : Ready ≡ Queued = sym moves.here ∙ subst P e is in cc)
  by (inr other) = (other, ap (λ (i : Invocation). i.phase) (sym (moves.others k other)) ∙ is)

-- ---- the two sums at a start

module _ (d : Description) (old : Parts) (contexts : Contexts) (c : ContextId) (s : Seat) (keeps : Keeps d old) (starts : StartsContext old.contexts contexts c) (small : c.0 < 16) (seat : (at old.contexts c).seat ≡ Some s) where
  abbrev q : NodeState
  q = reading d old.log.all

  abbrev programs : Programs
  programs = held_at old.handlers.programs

  abbrev one : HasSeat programs q c (at old.contexts c)
  one = starting (machine_in d) programs q old.contexts contexts c keeps.fits starts

  one-is : one.seat ≡ s
  one-is = start-seat (machine_in d) programs q old.contexts contexts c keeps.fits starts s seat

  pub fresh : s.count ≡ 0
  fresh =
      let P : Phase → Type 0 = λ p. RunsOwn d p (q.invocations s.inv) s q.serial old.heap in
      let f : IsFresh d (q.invocations s.inv) s = subst P (start-queued (machine_in d) programs q old.contexts contexts c keeps.fits starts s seat) (keeps.agrees.each c s seat) in
      f.count

  abbrev now : At
  now = record (at old.contexts c) { waits = None; holds = Some starts.set; ready = true }

  stood-was : at old.contexts c ≡ queued s one.seated.x.locks
  stood-was = stood (machine_in d) programs q old.contexts contexts c keeps.fits starts ∙ ap (λ (t : Seat). queued t one.seated.x.locks) one-is

  pub owed-new : owes contexts + 1 ≡ owes old.contexts
  owed-new =
      let h = over_all-becomes owed old.contexts contexts c now small starts.becomes in
      let before : owed (at old.contexts c) ≡ 2 = ap owed stood-was in
      let after : owed now ≡ 1 = refl in
      omega arith

  pub left-new : starts_left contexts + 1 ≡ starts_left old.contexts
  left-new =
      let h = over_all-becomes may_start old.contexts contexts c now small starts.becomes in
      let before : may_start (at old.contexts c) ≡ 1 = ap may_start stood-was in
      let after : may_start now ≡ 0 = refl in
      omega arith

  pub falls-new : (bound : ℕ) → falls bound contexts < falls bound old.contexts
  falls-new bound =
      let h = over_all-becomes (left bound) old.contexts contexts c now small starts.becomes in
      let before : left bound (at old.contexts c) ≡ (bound + 2) + 0 = ap (left bound) stood-was in
      let after : left bound now ≡ 0 + (bound + 1 - s.count) = ap (λ (a : At). left bound (record a { waits = None; holds = Some starts.set; ready = true })) stood-was in
      let none = fresh in
      omega arith

-- ---- the pace at a start

pub map-same : (f g : ContextId → ℕ) (xs : List ContextId) → ((c : ContextId) → f c ≡ g c) → map f xs ≡ map g xs
map-same f g [] same = refl
map-same f g (x ∷ xs) same = ap (λ (n : ℕ). n ∷ map f xs) (same x) ∙ ap (λ (l : List ℕ). g x ∷ l) (map-same f g xs same)

same-seats : (old next : Contexts) (c : ContextId) → StartsContext old next c → (k : ContextId) → (at next k).seat ≡ (at old k).seat
same-seats old next c starts k = by (cases_eq k.0 c.0) where
  by : (k.0 ≡ c.0) ⊎ (k.0 ≡ c.0 → ⊥) → (at next k).seat ≡ (at old k).seat
  by (inl e) = let P : ContextId → Type 0 = λ j. (at next j).seat ≡ (at old j).seat in subst P (sym (same_context k c e)) (ap (λ (a : At). a.seat) starts.becomes.here)
  by (inr other) = ap (λ (a : At). a.seat) (starts.becomes.others k other)

pub pace-started : (d : Description) (old : Parts) (contexts : Contexts) (c : ContextId) (s : Seat) → Keeps d old → (starts : StartsContext old.contexts contexts c) → c.0 < 16 → (at old.contexts c).seat ≡ Some s
    → (p : Pace) → IsPace (reading d old.log.all) old.contexts p → IsPace (next_state (machine_in d) (reading d old.log.all) (Started s.inv)) contexts (paced p (Started s.inv))
pace-started d old contexts c s keeps starts small seat p pace = record {
  line =
      ap (λ (l : List ℕ). l ++ s.inv ∷ []) pace.line
      ∙ ap (λ (n : ℕ). map (invocation_in old.contexts) old.contexts.ring ++ n ∷ []) (ap number_at (sym seat))
      ∙ sym (map-append (invocation_in old.contexts) old.contexts.ring (c ∷ []))
      ∙ ap (map (invocation_in old.contexts)) (sym starts.ring)
      ∙ map-same (invocation_in old.contexts) (invocation_in contexts) contexts.ring (λ k. ap number_at (sym (same-seats old.contexts contexts c starts k)));
  counts = λ k t e started. by k t (sym (same-seats old.contexts contexts c starts k) ∙ e) started (cases_eq k.0 c.0);
} where
  r : NodeState
  r = reading d old.log.all

  alone : IsAlone old.contexts s.inv c
  alone =
      let P : Seat → Type 0 = λ t. IsAlone old.contexts t.inv c in
      subst P (start-seat (machine_in d) (held_at old.handlers.programs) (reading d old.log.all) old.contexts contexts c keeps.fits starts s seat)
      (alone-seat (held_at old.handlers.programs) (reading d old.log.all) old.contexts c keeps.fits (starting (machine_in d) (held_at old.handlers.programs) (reading d old.log.all) old.contexts contexts c keeps.fits starts))

  by : (k : ContextId) (t : Seat) → (at old.contexts k).seat ≡ Some t → is_started ((next_state (machine_in d) (reading d old.log.all) (Started s.inv)).invocations t.inv).phase ≡ true → (k.0 ≡ c.0) ⊎ (k.0 ≡ c.0 → ⊥)
      → t.count ≡ changed p.counts s.inv 0 t.inv
  by k t e started (inl same) =
      let Q : ContextId → Type 0 = λ j. (at old.contexts j).seat ≡ Some t in
      let is : t ≡ s = (let f : Some t ≡ Some s = sym (subst Q (same_context k c same) e) ∙ seat in cc) in
      ap (λ (u : Seat). u.count) is ∙ fresh d old contexts c s keeps starts small seat ∙ sym (changed-here p.counts s.inv 0 t.inv (ap (λ (u : Seat). u.inv) is))
  by k t e started (inr other) =
      let apart = alone.elsewhere k t other e in
      let before : is_started ((reading d old.log.all).invocations t.inv).phase ≡ true =
      ap (λ (i : Invocation). is_started i.phase) (sym ((started-Moves (machine_in d) (reading d old.log.all) s.inv).others t.inv apart)) ∙ started in
      pace.counts k t e before ∙ sym (changed-other p.counts s.inv 0 t.inv apart)

-- ---- one start

module _ (d : Description) (old : Parts) (contexts : Contexts) (log : OpenView) (at_ : Stamp) (c : ContextId) (s : Seat) (starting_ : IsStarting d old) (timely : IsTimely at_ old.log.all)
    (starts : StartsContext old.contexts contexts c) (once : AreOnce (old.contexts.locks.started ++ old.contexts.locks.waiting)) (small : c.0 < 16)
    (seat : (at old.contexts c).seat ≡ Some s) (pushed : IsPushed old.log.all record { stamp = at_; entry = entry.Start s.inv } log.all) (room : old.log.all.spare ≤ log.all.spare + 1) where
  abbrev m : Machine
  m = machine_in d

  abbrev r : NodeState
  r = reading d old.log.all

  abbrev held : Programs
  held = held_at old.handlers.programs

  abbrev new : Parts
  new = record old { contexts = contexts; log = log }

  keeps : Keeps d old
  keeps = starting_.order.keeps

  rises : NumbersRise (invocation_in old.contexts) old.contexts.locks.waiting
  rises = starting_.order.queue.rises

  number-is : invocation_in old.contexts c ≡ s.inv
  number-is = ap number_at seat

  was-queued : (r.invocations s.inv).phase ≡ Queued
  was-queued = start-queued m held r old.contexts contexts c keeps.fits starts s seat

  may : MayStart m r s.inv
  may = let P : ℕ → Type 0 = λ n. MayStart m r n in subst P number-is (granted-may d held r old.contexts keeps.fits keeps.installed once rises contexts.locks c starts.grants)

  past-it : (k : ℕ) → k ≢ s.inv → (r.invocations k).phase ≡ Queued → (s.inv < k) ⊎ IsHeldBack m r k
  past-it =
      let P : ℕ → Type 0 = λ n. (k : ℕ) → k ≢ n → (r.invocations k).phase ≡ Queued → (n < k) ⊎ IsHeldBack m r k in
      subst P number-is (granted-past d held r old.contexts keeps.fits keeps.installed once rises contexts.locks c starts.grants)

  after-last : last_started old.log.all < s.inv
  after-last = by (starting_.past s.inv was-queued) where
    by : (last_started old.log.all < s.inv) ⊎ IsHeldBack m r s.inv → last_started old.log.all < s.inv
    by (inl lower) = lower
    by (inr h) = absurd (not_both m r s.inv may h)

  next : Continues d old new old.log.all at_ (entry.Start s.inv) (Started s.inv)
  next = Continues-started d old contexts log at_ c s keeps timely starts seat pushed

  journal-is : journal_of log.all ≡ journal_of old.log.all ++ event_at at_ (Started s.inv) ∷ []
  journal-is = (Grows-push d old new old.log.all at_ (entry.Start s.inv) (Started s.inv) keeps next room).journal

  heard-is : reading d log.all ≡ next_state m r (Started s.inv)
  unfolding reading
  heard-is = ap (state_after_all m (first_state m)) journal-is ∙ heard_all-push m (first_state m) (journal_of old.log.all) (event_at at_ (Started s.inv))

  last-is : last_started log.all ≡ s.inv
  last-is = ap (last_start 0) journal-is ∙ last_start-push 0 (journal_of old.log.all) (event_at at_ (Started s.inv))

  grants-new : GrantsBefore m (first_state m) 0 (journal_of log.all)
  unfolding reading
  grants-new =
      let P : List TimedEntry → Type 0 = λ es. GrantsBefore m (first_state m) 0 es in
      subst P (sym journal-is) (GrantsBefore-push m (first_state m) 0 (journal_of old.log.all) (event_at at_ (Started s.inv)) starting_.order.grants (may, after-last))

  -- the seats stay
  same-seat : (k : ContextId) → (at contexts k).seat ≡ (at old.contexts k).seat
  same-seat k = by (cases_eq k.0 c.0) where
    by : (k.0 ≡ c.0) ⊎ (k.0 ≡ c.0 → ⊥) → (at contexts k).seat ≡ (at old.contexts k).seat
    by (inl e) = let P : ContextId → Type 0 = λ j. (at contexts j).seat ≡ (at old.contexts j).seat in subst P (sym (same_context k c e)) (ap (λ (a : At). a.seat) starts.becomes.here)
    by (inr other) = ap (λ (a : At). a.seat) (starts.becomes.others k other)

  queue-new : IsQueue contexts
  queue-new =
      let g = starts.grants in
      let P : List Claim → Type 0 = λ l. NumbersRise (invocation_in old.contexts) l in
      let shorter : NumbersRise (invocation_in old.contexts) contexts.locks.waiting = subst P (sym g.waiting) (NumbersRise-out (invocation_in old.contexts) g.earlier g.claim g.later (subst P g.was rises)) in
      record { rises = NumbersRise-same (invocation_in old.contexts) (invocation_in contexts) contexts.locks.waiting (λ a among. ap number_at (same-seat a.ctx)) shorter }

  order-new : KeepsOrder d new
  order-new = record { keeps = Keeps-push d old new old.log.all at_ (entry.Start s.inv) (Started s.inv) keeps next; queue = queue-new; grants = grants-new }

  past-new : IsPastLast m (next_state m r (Started s.inv)) s.inv
  past-new k queued_ =
      let q = queued-later m r s.inv k queued_ in
      by k (past-it k q.0 q.1) where
        by : (k : ℕ) → (s.inv < k) ⊎ IsHeldBack m r k → (s.inv < k) ⊎ IsHeldBack m (next_state m r (Started s.inv)) k
        by k (inl above) = inl above
        by k (inr h) = inr (held-started m r s.inv k h)

  starting-new : IsStarting d new
  starting-new =
      let P : NodeState → Type 0 = λ q. IsPastLast m q s.inv in
      let Q : ℕ → Type 0 = λ last. IsPastLast m (reading d log.all) last in
      record { order = order-new; past = subst Q (sym last-is) (subst P (sym heard-is) past-new) }

  pub StartsNext-from : StartsNext d old new at_
  StartsNext-from = record {
    invocation = s.inv;
    was = was-queued;
    free = λ h. not_both m r s.inv may h;
    starting = starting-new;
    heard_is = heard-is;
    grows = Grows-push d old new old.log.all at_ (entry.Start s.inv) (Started s.inv) keeps next room;
    owed = owed-new d old contexts c s keeps starts small seat;
    left_is = left-new d old contexts c s keeps starts small seat;
    falls_by = falls-new d old contexts c s keeps starts small seat;
    pace = λ p pace. (let P : NodeState → Type 0 = λ q. IsPace q contexts (paced p (Started s.inv)) in subst P (sym heard-is) (pace-started d old contexts c s keeps starts small seat p pace));
    heap = refl;
    handlers = refl;
    posts = refl;
  }

-- the seat that stands there after the start stood there before
pub seat-before : (old later : Contexts) (c : ContextId) (n : ℕ) → StartsContext old later c → IsPlaced (at later c) n → IsPlaced (at old c) n
seat-before old later c n starts p = record { seat = p.seat; is = ap (λ (a : At). a.seat) (sym starts.becomes.here) ∙ p.is; number = p.number }

-- whoever starts was free
pub free-start : (d : Description) (old : Parts) (contexts : Contexts) (c : ContextId) (s : Seat) → IsStarting d old → (starts : StartsContext old.contexts contexts c) → AreOnce (old.contexts.locks.started ++ old.contexts.locks.waiting) → (at old.contexts c).seat ≡ Some s
    → (((reading d old.log.all).invocations s.inv).phase ≡ Queued) × (IsHeldBack (machine_in d) (reading d old.log.all) s.inv → ⊥)
free-start d old contexts c s starting_ starts once seat =
    let m = machine_in d in
    let r = reading d old.log.all in
    let held = held_at old.handlers.programs in
    let keeps = starting_.order.keeps in
    let P : ℕ → Type 0 = λ n. MayStart m r n in
    let may : MayStart m r s.inv = subst P (ap number_at seat) (granted-may d held r old.contexts keeps.fits keeps.installed once starting_.order.queue.rises contexts.locks c starts.grants) in
    (start-queued m held r old.contexts contexts c keeps.fits starts s seat, λ h. not_both m r s.inv may h)

pub has-room : (d : Description) (old : Parts) (contexts : Contexts) (c : ContextId) (n : ℕ) → IsStarting d old → StartsContext old.contexts contexts c → AreOnce (old.contexts.locks.started ++ old.contexts.locks.waiting) → IsPlaced (at contexts c) n → HasRoomToStart d old → 1 ≤ old.log.all.spare
has-room d old contexts c n starting_ starts once placed room =
    let p = seat-before old.contexts contexts c n starts placed in
    let f = free-start d old contexts c p.seat starting_ starts once p.is in
    room once p.seat.inv f.0 f.1

-- whoever is free is queued, and owes two entries
free-owes : (d : Description) (s : Parts) (n : ℕ) → Keeps d s → ((reading d s.log.all).invocations n).phase ≡ Queued → AreOnce (s.contexts.locks.started ++ s.contexts.locks.waiting) → 1 ≤ starts_left s.contexts
free-owes d s n keeps queued_ once =
    let r = reading d s.log.all in
    let c : ContextId = (r.invocations n).context in
    let held = held_at s.handlers.programs in
    let p = keeps.fits.placed n (ap is_live queued_) in
    let g = by_seat held r c (at s.contexts c) p.seat p.is (keeps.fits.each c) in
    let P : ℕ → Type 0 = λ k. (r.invocations k).phase ≡ Queued in
    let stood : at s.contexts c ≡ queued p.seat g.x.locks = g.stands ∙ ap (λ (q : Phase). standing q p.seat g.x.locks) (subst P (sym p.number) queued_) in
    let one : may_start (at s.contexts c) ≡ 1 = ap may_start stood in
    let h = over_all-least may_start s.contexts c (claim-small s.contexts.locks.waiting c g.x.locks (AreOnce-fewer (s.contexts.locks.started ++ s.contexts.locks.waiting) s.contexts.locks.waiting (λ k. (let e = times-append k s.contexts.locks.started s.contexts.locks.waiting in omega arith)) once) (ap (λ (a : At). a.waits) stood)) in
    omega arith

pub room-next : (d : Description) (old s : Parts) (at_ : Stamp) → StartsSome d old s at_ → IsRoomForAll d old → HasRoomToStart d s
room-next d old s at_ f (inl all) once n queued_ free =
    let h = free-owes d s n f.starting.order.keeps queued_ once in
    let x = f.left_is in
    let y = f.grows.spare in
    omega arith
room-next d old s at_ f (inr one) once n queued_ free = by (f.at_most one.invocation one.others) where
  by : AtMost d s f.told one.invocation → 1 ≤ s.log.all.spare
  by (inl x) = let g = f.grows.spare in let e = ap length x.0 in let h = one.spare in omega arith
  by (inr y) = absurd (free (y.1 n queued_))

pub StartsNext-placed : (d : Description) (old : Parts) (contexts : Contexts) (log : OpenView) (at_ : Stamp) (c : ContextId) (n : ℕ) → IsStarting d old → IsTimely at_ old.log.all → StartsContext old.contexts contexts c
    → AreOnce (old.contexts.locks.started ++ old.contexts.locks.waiting) → c.0 < 16 → IsPlaced (at contexts c) n → IsPushed old.log.all record { stamp = at_; entry = entry.Start n } log.all → old.log.all.spare ≤ log.all.spare + 1
    → StartsNext d old (record old { contexts = contexts; log = log }) at_
StartsNext-placed d old contexts log at_ c n starting_ timely starts once small placed pushed room =
    let p = seat-before old.contexts contexts c n starts placed in
    let P : ℕ → Type 0 = λ k. IsPushed old.log.all record { stamp = at_; entry = entry.Start k } log.all in
    StartsNext-from d old contexts log at_ c p.seat starting_ timely starts once small p.is (subst P (sym p.number) pushed) room

-- ---- no start

pub StartsNone-from : (d : Description) (old later : Parts) → IsStarting d old → GrantsNone old.contexts.locks later.contexts.locks → AreOnce (old.contexts.locks.started ++ old.contexts.locks.waiting) → later ≡ old
    → StartsNone d old later
StartsNone-from d old later starting_ none once same =
    let keeps = starting_.order.keeps in
    record { same = same; held = all-held d (held_at old.handlers.programs) (reading d old.log.all) old.contexts keeps.fits keeps.installed once starting_.order.queue.rises none.held }

-- ---- several

pub paced_all-append : (p : Pace) (xs ys : List JournalEntry) → paced_all p (xs ++ ys) ≡ paced_all (paced_all p xs) ys
paced_all-append p xs ys = fold-append paced p xs ys

pub StartsSome-none : (d : Description) (s : Parts) (at_ : Stamp) → IsStarting d s → IsTimely at_ s.log.all → StartsSome d s s at_
StartsSome-none d s at_ starting_ timely = record {
  told = [];
  starts = All-nil IsStart;
  grows = Grows-none s.log.all at_ timely;
  starting = starting_;
  owed = omega arith;
  left_is = omega arith;
  falls_by = λ bound. omega arith;
  pace = λ p pace. pace;
  at_most = λ n others. inl (refl, others);
  heap = refl;
  handlers = refl;
  posts = refl;
}

-- after the start of the one that wasn't held back, all are
held-after : (m : Machine) (r : NodeState) (k n : ℕ) → (r.invocations k).phase ≡ Queued → (IsHeldBack m r k → ⊥) → AllButHeld m r n → (k ≡ n) × AllHeldBack m (next_state m r (Started k))
held-after m r k n was free others = (is, all) where
  is : k ≡ n
  is = elim (cases_eq k n) [ inl e ↦ e | inr other ↦ absurd (free (others k other was)) ]

  all : AllHeldBack m (next_state m r (Started k))
  all j queued_ = let q = queued-later m r k j queued_ in held-started m r k j (others j (λ e. q.0 (e ∙ sym is)) q.1)

pub StartsSome-then : (d : Description) (old mid new : Parts) (at_ : Stamp) → StartsSome d old mid at_ → StartsNext d mid new at_ → StartsSome d old new at_
StartsSome-then d old mid new at_ f g = record {
  told = f.told ++ Started g.invocation ∷ [];
  starts = All-append IsStart f.told (Started g.invocation ∷ []) f.starts (All-cons IsStart (Started g.invocation) [] tt (All-nil IsStart));
  grows = Grows-then old.log.all mid.log.all new.log.all at_ f.told (Started g.invocation ∷ []) f.grows g.grows;
  starting = g.starting;
  owed = (let x = f.owed in let y = g.owed in omega (arith, length-append f.told (Started g.invocation ∷ [])));
  left_is = (let x = f.left_is in let y = g.left_is in omega (arith, length-append f.told (Started g.invocation ∷ [])));
  falls_by = λ bound. (let x = f.falls_by bound in let y = g.falls_by bound in omega arith);
  pace = λ p pace.
      (let P : Pace → Type 0 = λ q. IsPace (reading d new.log.all) new.contexts q in
      subst P (sym (paced_all-append p f.told (Started g.invocation ∷ []))) (g.pace (paced_all p f.told) (f.pace p pace)));
  at_most = λ n others. by n (f.at_most n others);
  heap = g.heap ∙ f.heap;
  handlers = g.handlers ∙ f.handlers;
  posts = g.posts ∙ f.posts;
} where
  by : (n : ℕ) → AtMost d mid f.told n → AtMost d new (f.told ++ Started g.invocation ∷ []) n
  by n (inl x) =
      let h = held-after (machine_in d) (reading d mid.log.all) g.invocation n g.was g.free x.1 in
      let P : NodeState → Type 0 = λ q. AllHeldBack (machine_in d) q in
      inr (ap (λ (l : List JournalEntry). l ++ Started g.invocation ∷ []) x.0 ∙ ap (λ (k : ℕ). Started k ∷ []) h.0, subst P (sym g.heard_is) h.1)
  by n (inr y) = absurd (g.free (y.1 g.invocation g.was))

pub StartsAll-from : (d : Description) (old mid later : Parts) (at_ : Stamp) → StartsSome d old mid at_ → StartsNone d mid later → StartsAll d old later at_
StartsAll-from d old mid later at_ f none =
    let P : Parts → Type 0 = λ s. StartsAll d old s at_ in
    subst P (sym none.same) (record { some = f; held = none.held })
