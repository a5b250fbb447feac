-- One turn after another, until nobody is ready.
use Rattle.std.proofs.Common.{◌≡◌, ◌≢◌, ◌⊎◌, ℕ, suc, ◌+◌, ◌*◌, ◌<◌, ◌≤◌, Bool, true, false, List, [], ◌∷◌, ◌++◌, Option, Some, None, refl, sym, ◌∙◌, ap, subst, arith, inl, inr, length, length-append, mul-zero}
use Rattle.std.specs.Prelude.{map, slice_get, ◌||◌}
use Rattle.std.proofs.lemmas.Bool.{eq-eqb}
use Rattle.std.proofs.lemmas.List.{map-append}
use Rattle.std.proofs.lemmas.List.Folds.{fold-map}
use Rattle.std.proofs.lemmas.Grind.{flat_map-append}
use Rattle.mate_num.specs.declared.call.Stamp.{Stamp}
use Rattle.mate_num.specs.declared.id.ContextId.{ContextId}
use Rattle.mate_num.specs.declared.lock_set.LockSet.{LockSet}
use Rattle.context_sched.specs.Ready.{holds, without}
use Rattle.lock_manager.specs.Claims.{Claims}
use Rattle.vm_shape.specs.declared.description.Description.{Description}
use Rattle.mate_journal.specs.Log.{Log}
use Rattle.mate_journal.specs.Machine.{Machine}
use Rattle.mate_journal.specs.Journal.{JournalEntry, Ready, NodeState, is_live, journal_of, first_state, next_state, state_after_all}
pub use Rattle.mate_journal.proofs.JournalLemmas.{heard_all-append, heard_told-append}
use Rattle.node_state.specs.declared.seat.Seat.{Seat}
use Rattle.node_state.specs.declared.contexts.Contexts.{Contexts}
use Rattle.node_state.specs.At.{At, at, GivesWay}
use Rattle.node_state.specs.Programs.{Programs, held_at}
use Rattle.node_state.specs.declared.parts.Parts.{Parts}
use Rattle.node_state.specs.Meaning.{machine_in}
use Rattle.node_state.specs.Fits.{ContextsMatch, IsRightContext}
use Rattle.node_state.specs.At.{IsPlaced}
use Rattle.node_state.specs.Agrees.{Agrees}
use Rattle.node_state.specs.Keeps.{reading, IsTimely, event_at, Grows}
use Rattle.node_state.proofs.FitLemmas.{IsAlone}
use Rattle.node_state.proofs.MoveLemmas.{alone-seat, none_ready}
use Rattle.node_state.proofs.KeepLemmas.{Grows-then, Grows-none}
use Rattle.node_state.specs.Queue.{number_at, invocation_in, NumbersRise}
use Rattle.node_state.specs.Totals.{if_waits, if_ready, may_start, owed, left, starts_left, owes, falls}
use Rattle.mate_journal.specs.Journal.{state_after_entries}
use Rattle.mate_journal.specs.Pace.{Pace, others, gives_way}
use Rattle.mate_journal.specs.Turns.{Turn, IsTurn, after_step, after_turn, AreTurns, told_in, pace_after}
use Rattle.node_state.specs.Pace.{IsPace}
use Rattle.node_state.specs.Starting.{Rests}
use Rattle.node_state.proofs.QueueLemmas.{NumbersRise-same}
use Rattle.node_state.proofs.TotalLemmas.{over_all-same, over_all-less}
use Rattle.node_state.proofs.OrderLemmas.{live-above}
use Rattle.node_calls.specs.Pacing.{most, TakesTurn, AreWithin, AreQuanta, AreTogether, Chains, SettlesSome, SettlesAll}
use Rattle.node_calls.proofs.RunningLemmas.{one, one-ready}
use Rattle.node_calls.proofs.TurnLemmas.{line-without}
use Rattle.node_calls.proofs.QuantaLemmas.{AreTogether-one, AreTogether-lone}

-- ---- lists of turns

AreTurns-append : (m : Machine) (r : NodeState) (p : Pace) (ts us : List Turn) → AreTurns m r p ts → AreTurns m (state_after_entries m r (told_in ts)) (pace_after m r p ts) us → AreTurns m r p (ts ++ us)
AreTurns-append m r p [] us are further = further
AreTurns-append m r p (t ∷ ts) us are further =
    let P : NodeState → Type 0 = λ q. AreTurns m q (pace_after m (state_after_entries m r t.told) (after_turn m r p t) ts) us in
    (are.0, are.1, AreTurns-append m (state_after_entries m r t.told) (after_turn m r p t) ts us are.2 (subst P (heard_told-append m r t.told (told_in ts)) further))

AreWithin-append : (m : Machine) (bound : ℕ) (r : NodeState) (p : Pace) (ts us : List Turn) → AreWithin m bound r p ts → AreWithin m bound (state_after_entries m r (told_in ts)) (pace_after m r p ts) us → AreWithin m bound r p (ts ++ us)
AreWithin-append m bound r p [] us are further = further
AreWithin-append m bound r p (t ∷ ts) us are further =
    let P : NodeState → Type 0 = λ q. AreWithin m bound q (pace_after m (state_after_entries m r t.told) (after_turn m r p t) ts) us in
    (are.0, AreWithin-append m bound (state_after_entries m r t.told) (after_turn m r p t) ts us are.1 (subst P (heard_told-append m r t.told (told_in ts)) further))

pace_after-append : (m : Machine) (r : NodeState) (p : Pace) (ts us : List Turn) → pace_after m r p (ts ++ us) ≡ pace_after m (state_after_entries m r (told_in ts)) (pace_after m r p ts) us
pace_after-append m r p [] us = refl
pace_after-append m r p (t ∷ ts) us =
    pace_after-append m (state_after_entries m r t.told) (after_turn m r p t) ts us
    ∙ ap (λ (q : NodeState). pace_after m q (pace_after m (state_after_entries m r t.told) (after_turn m r p t) ts) us) (sym (heard_told-append m r t.told (told_in ts)))

told_in-append : (ts us : List Turn) → told_in (ts ++ us) ≡ told_in ts ++ told_in us
told_in-append ts us = flat_map-append (λ t. t.told) ts us

-- ---- what a log tells more is heard

heard-events : (m : Machine) (r : NodeState) (at_ : Stamp) (told : List JournalEntry) → state_after_all m r (map (event_at at_) told) ≡ state_after_entries m r told
heard-events m r at_ told = fold-map (λ s e. next_state m s e.told) (event_at at_) r told

pub reading-grows : (d : Description) (a b : Log) (at_ : Stamp) (told : List JournalEntry) → Grows a b at_ told → reading d b ≡ state_after_entries (machine_in d) (reading d a) told
unfolding reading
reading-grows d a b at_ told g =
    ap (state_after_all (machine_in d) (first_state (machine_in d))) g.journal
    ∙ heard_all-append (machine_in d) (first_state (machine_in d)) (journal_of a) (map (event_at at_) told)
    ∙ heard-events (machine_in d) (state_after_all (machine_in d) (first_state (machine_in d)) (journal_of a)) at_ told

-- ---- the first of the ring

first-is : (ring : List ContextId) (c : ContextId) → Some c ≡ slice_get ring 0 → (rest : List ContextId) × (ring ≡ c ∷ rest)
first-is [] c e = absurd (let f : Some c ≡ None = e in cc)
first-is (k ∷ ring) c e = let f : Some c ≡ Some k = e in let g : c ≡ k = cc in (ring, ap (λ (x : ContextId). x ∷ ring) (sym g))

pub none-first : (ring : List ContextId) → None ≡ slice_get ring 0 → ring ≡ []
none-first [] e = refl
none-first (k ∷ ring) e = absurd (let f : None ≡ Some k = e in cc)

pub first-ready : (s : Contexts) (c : ContextId) → Some c ≡ slice_get s.ring 0 → (at s c).ready ≡ true
first-ready s c e =
    let h = first-is s.ring c e in
    let P : List ContextId → Type 0 = λ l. holds l c ≡ true in
    subst P (sym h.1) (ap (λ (b : Bool). b || holds h.0 c) (eq-eqb c.0 c.0 refl))

-- ---- whoever has a turn goes last

module _ (d : Description) (old : Parts) (contexts : Contexts) (c : ContextId) (way : GivesWay old.contexts contexts c) where
  abbrev next : Parts
  next = record old { contexts = contexts }

  fits-way : (held : Programs) (r : NodeState) → ContextsMatch held r old.contexts → ContextsMatch held r contexts
  fits-way held r fits =
      record {
        each = λ k. (let P : At → Type 0 = λ a. IsRightContext held r k a in subst P (sym (way.each k)) (fits.each k));
        placed = λ n live. (let P : At → Type 0 = λ a. IsPlaced a n in subst P (sym (way.each (r.invocations n).context)) (fits.placed n live));
      }

  agrees-way : (r : NodeState) → Agrees d r old.contexts old.heap → Agrees d r contexts old.heap
  agrees-way r agrees =
      record { as_long = agrees.as_long; each = λ k s e. agrees.each k s (ap (λ (a : At). a.seat) (sym (way.each k)) ∙ e); apart = agrees.apart; elsewhere = agrees.elsewhere }

  number-way : (k : ContextId) → invocation_in contexts k ≡ invocation_in old.contexts k
  number-way k = ap (λ (a : At). number_at a.seat) (way.each k)

  pub Rests-way : Rests d old → Rests d next
  Rests-way rests =
      let keeps = rests.order.keeps in
      let P : Claims → Type 0 = λ l. NumbersRise (invocation_in contexts) l.waiting in
      record {
        order = record {
          keeps = record {
            tidy = keeps.tidy;
            full = keeps.full;
            numbers = keeps.numbers;
            well_formed = keeps.well_formed;
            posts = keeps.posts;
            places = keeps.places;
            installed = keeps.installed;
            fits = fits-way (held_at old.handlers.programs) (reading d old.log.all) keeps.fits;
            seats = let was = keeps.seats in let same = ap (λ (l : List (Option Seat)). length l) way.seats in omega (arith, was, same);
            lengths = keeps.lengths;
            agrees = agrees-way (reading d old.log.all) keeps.agrees;
            serial = keeps.serial;
            shows = keeps.shows;
          };
          queue = record { rises = subst P (sym way.locks) (NumbersRise-same (invocation_in old.contexts) (invocation_in contexts) old.contexts.locks.waiting (λ a among. number-way a.ctx) rests.order.queue.rises) };
          grants = rests.order.grants;
        };
        held = rests.held;
      }

  pub owes-way : owes contexts ≡ owes old.contexts
  owes-way = over_all-same owed old.contexts contexts way.each

  pub falls-way : falls (most d) contexts ≡ falls (most d) old.contexts
  falls-way = over_all-same (left (most d)) old.contexts contexts way.each

  module _ (rests : Rests d old) (is_ready : (at old.contexts c).ready ≡ true) where
    abbrev pub n : ℕ
    n = (one d old c rests.order.keeps is_ready).seat.inv

    number-is : invocation_in old.contexts c ≡ n
    number-is = ap number_at (one d old c rests.order.keeps is_ready).is

    apart : (k : ContextId) → k.0 ≢ c.0 → (invocation_in old.contexts k ≢ n)
    apart k other = by (at old.contexts k).seat refl where
      alone : IsAlone old.contexts (one d old c rests.order.keeps is_ready).seat.inv c
      alone = alone-seat (held_at old.handlers.programs) (reading d old.log.all) old.contexts c rests.order.keeps.fits (one d old c rests.order.keeps is_ready)

      above : 0 < (one d old c rests.order.keeps is_ready).seat.inv
      above = live-above d old (one d old c rests.order.keeps is_ready).seat.inv rests.order.keeps (ap is_live (one-ready d old c rests.order.keeps is_ready))

      by : (o : Option Seat) → (at old.contexts k).seat ≡ o → (number_at o ≢ (one d old c rests.order.keeps is_ready).seat.inv)
      by None e same = absurd (let a = above in omega arith)
      by (Some t) e same = alone.elsewhere k t other e same

    pub pace-way : (p : Pace) → IsPace (reading d old.log.all) old.contexts p → IsPace (reading d old.log.all) contexts (gives_way p n)
    pace-way p pace = record {
      line =
          ap (λ (l : List ℕ). others l n ++ n ∷ []) pace.line
          ∙ ap (λ (l : List ℕ). l ++ n ∷ []) (line-without (invocation_in old.contexts) (invocation_in contexts) c n old.contexts.ring number-is apart (λ k other. number-way k))
          ∙ ap (λ (j : ℕ). map (invocation_in contexts) (without old.contexts.ring c) ++ j ∷ []) (sym (number-way c ∙ number-is))
          ∙ sym (map-append (invocation_in contexts) (without old.contexts.ring c) (c ∷ []))
          ∙ ap (map (invocation_in contexts)) (sym way.ring);
      counts = λ k t e started. pace.counts k t (ap (λ (a : At). a.seat) (sym (way.each k)) ∙ e) started;
    }

-- ---- the chain

pub SettlesSome-none : (d : Description) (s : Parts) (at_ : Stamp) → Rests d s → IsTimely at_ s.log.all → SettlesSome d s s at_
SettlesSome-none d s at_ rests timely = record {
  told = [];
  rests = rests;
  grows = Grows-none s.log.all at_ timely;
  heard_is = refl;
  chain = λ p pace. record { turns = []; are_turns = tt; made = refl; within = tt; pace = pace };
  owed = omega arith;
  handlers = refl;
  posts = refl;
}

pub SettlesSome-then : (d : Description) (old mid next : Parts) (contexts : Contexts) (at_ : Stamp) (c : ContextId) → Some c ≡ slice_get mid.contexts.ring 0 → SettlesSome d old mid at_ → GivesWay mid.contexts contexts c
    → (n ran : ℕ) → AreQuanta d.quantum (length mid.contexts.ring) n → TakesTurn d (record mid { contexts = contexts }) next at_ c n ran → SettlesSome d old next at_
SettlesSome-then d old mid next contexts at_ c first f way n ran quanta g = record {
  told = f.told ++ g.told;
  rests = g.rests;
  grows = grown;
  heard_is = reading-grows d old.log.all next.log.all at_ (f.told ++ g.told) grown;
  chain = λ p pace. chained p (f.chain p pace);
  owed = (let x = f.owed in let y = g.owed in let z = owes-way d mid contexts c way in omega (arith, length-append f.told g.told));
  handlers = g.handlers ∙ f.handlers;
  posts = g.posts ∙ f.posts;
} where
  grown : Grows old.log.all next.log.all at_ (f.told ++ g.told)
  grown = Grows-then old.log.all mid.log.all next.log.all at_ f.told g.told f.grows g.grows

  -- the one that has the turn
  whose : (one d mid c f.rests.order.keeps (first-ready mid.contexts c first)).seat.inv ≡ g.invocation
  whose = sym (ap number_at (one d mid c f.rests.order.keeps (first-ready mid.contexts c first)).is) ∙ sym (ap (λ (a : At). number_at a.seat) (way.each c)) ∙ g.number

  number-is : invocation_in mid.contexts c ≡ g.invocation
  number-is = ap number_at (one d mid c f.rests.order.keeps (first-ready mid.contexts c first)).is ∙ whose

  -- its quanta, from the pace before
  together : (q : Pace) → IsPace (reading d mid.log.all) mid.contexts q → IsTurn (machine_in d) (reading d mid.log.all) q n record { invocation = g.invocation; told = g.told } → AreTogether (machine_in d) (most d) (reading d mid.log.all) q (after_step (machine_in d) (reading d mid.log.all) (gives_way q g.invocation) n record { invocation = g.invocation; told = g.told }) g.told
  together q pace turn = (let ring = first-is mid.contexts.ring c first in by ring.0 ring.1 quanta.lone) where
    line : (rest : List ContextId) → mid.contexts.ring ≡ c ∷ rest → q.line ≡ g.invocation ∷ map (invocation_in mid.contexts) rest
    line rest e = pace.line ∙ ap (map (invocation_in mid.contexts)) e ∙ ap (λ (j : ℕ). j ∷ map (invocation_in mid.contexts) rest) number-is

    by : (rest : List ContextId) → mid.contexts.ring ≡ c ∷ rest → (quanta.more ≡ 0) ⊎ (length mid.contexts.ring ≡ 1)
        → AreTogether (machine_in d) (most d) (reading d mid.log.all) q (after_step (machine_in d) (reading d mid.log.all) (gives_way q g.invocation) n record { invocation = g.invocation; told = g.told }) g.told
    by rest e (inl none) =
        let P : ℕ → Type 0 = λ j. IsTurn (machine_in d) (reading d mid.log.all) q j record { invocation = g.invocation; told = g.told } → AreTogether (machine_in d) (most d) (reading d mid.log.all) q (after_step (machine_in d) (reading d mid.log.all) (gives_way q g.invocation) j record { invocation = g.invocation; told = g.told }) g.told in
        let are = quanta.are in
        let no_more : d.quantum * quanta.more ≡ 0 = ap (λ (j : ℕ). d.quantum * j) none ∙ mul-zero d.quantum in
        let same : d.quantum ≡ n = omega arith in
        subst P same (AreTogether-one (machine_in d) (most d) (reading d mid.log.all) record { invocation = g.invocation; told = g.told } g.within q (map (invocation_in mid.contexts) rest) (line rest e)) turn
    by [] e (inr lone) = AreTogether-lone (machine_in d) (most d) (reading d mid.log.all) record { invocation = g.invocation; told = g.told } g.within quanta.more n quanta.are q (line [] e) turn
    by (a ∷ rest) e (inr lone) = absurd (let two = ap length e in let more : length (c ∷ a ∷ rest) ≡ suc (suc (length rest)) = refl in omega arith)

  chained : (p : Pace) → Chains d old mid f.told p → Chains d old next (f.told ++ g.told) p
  chained p h =
      let m = machine_in d in
      let r = reading d old.log.all in
      let q = pace_after m r p h.turns in
      let N : ℕ → Type 0 = λ j. IsPace (reading d mid.log.all) contexts (gives_way q j) in
      let way_pace : IsPace (reading d mid.log.all) contexts (gives_way q g.invocation) = subst N whose (pace-way d mid contexts c way f.rests (first-ready mid.contexts c first) q h.pace) in
      let x = g.turn (gives_way q g.invocation) way_pace in
      let y = together q h.pace record { ready = x.0.ready; short = x.0.short; reached = x.0.reached } in
      let heard_is : reading d mid.log.all ≡ state_after_entries m r (told_in h.turns) = f.heard_is ∙ ap (state_after_entries m r) h.made in
      let P : NodeState → Type 0 = λ s. AreTurns m s q y.turns in
      let W : NodeState → Type 0 = λ s. AreWithin m (most d) s q y.turns in
      let R : Pace → Type 0 = λ s. IsPace (reading d next.log.all) next.contexts s in
      record {
        turns = h.turns ++ y.turns;
        are_turns = AreTurns-append m r p h.turns y.turns h.are_turns (subst P heard_is y.are_turns);
        made = ap (λ (l : List JournalEntry). l ++ g.told) h.made ∙ ap (λ (l : List JournalEntry). told_in h.turns ++ l) y.made ∙ sym (told_in-append h.turns y.turns);
        within = AreWithin-append m (most d) r p h.turns y.turns h.within (subst W heard_is y.within);
        pace = subst R (sym (pace_after-append m r p h.turns y.turns ∙ ap (λ (s : NodeState). pace_after m s q y.turns) (sym heard_is) ∙ y.then)) x.2;
      }

pub SettlesAll-from : (d : Description) (old next : Parts) (at_ : Stamp) → SettlesSome d old next at_ → None ≡ slice_get next.contexts.ring 0 → SettlesAll d old next at_
SettlesAll-from d old next at_ f first = record {
  told = f.told;
  rests = f.rests;
  grows = f.grows;
  settles = λ p pace. (let h = f.chain p pace in (
    pace_after (machine_in d) (reading d old.log.all) p h.turns,
    record {
      settles = record {
        turns = h.turns;
        are_turns = h.are_turns;
        made = h.made;
        then = refl;
        empty = h.pace.line ∙ ap (map (invocation_in next.contexts)) (none-first next.contexts.ring first);
        settled = λ n is. none n (let P : NodeState → Type 0 = λ r. (r.invocations n).phase ≡ Ready in subst P (sym f.heard_is) is);
      };
      within = h.within;
    },
    h.pace,
  ));
  handlers = f.handlers;
  posts = f.posts;
} where
  none : (n : ℕ) → ((reading d next.log.all).invocations n).phase ≡ Ready → ⊥
  none n is =
      let c = ((reading d next.log.all).invocations n).context in
      none_ready (held_at next.handlers.programs) (reading d next.log.all) next.contexts c f.rests.order.keeps.fits (ap (λ (l : List ContextId). holds l c) (none-first next.contexts.ring first)) record { invocation = n; ready = is; context = refl }

-- where one is ready, the entries that are owed are more than the starts
pub room-turn : (s : Contexts) (c : ContextId) → c.0 < 16 → (at s c).ready ≡ true → starts_left s + 1 ≤ owes s
room-turn s c small is_ready =
    let h = over_all-less may_start owed s c small (λ a. lower a.waits a.ready) (less (at s c).waits (at s c).ready is_ready) in
    omega arith where
      lower : (o : Option LockSet) (b : Bool) → if_waits o 1 ≤ if_waits o 2 + if_ready b 1
      lower None false = omega arith
      lower None true = omega arith
      lower (Some set) false = omega arith
      lower (Some set) true = omega arith

      less : (o : Option LockSet) (b : Bool) → b ≡ true → if_waits o 1 < if_waits o 2 + if_ready b 1
      less None false e = cc
      less None true e = omega arith
      less (Some set) false e = cc
      less (Some set) true e = omega arith
