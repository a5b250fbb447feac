-- Calls to a device: between the calls of two invocations to one device, the first one ends. So in each era they are in the order in
-- which the invocations are read.
use Rattle.std.proofs.Common.{◌≡◌, ◌≢◌, ◌<◌, ◌≤◌, ℕ, zero, suc, Bool, true, false, IsTrue, refl, sym, ◌∙◌, ap, subst, arith, ◌⊎◌, inl, inr, List, [], ◌∷◌, ◌++◌, Some}
use Rattle.std.specs.Prelude.{MatchBool, ⊤}
use Rattle.std.specs.Prelude.{ℤ, ◌||◌}
use Rattle.std.proofs.lemmas.Bool.Decides.{eqb_tells}
use Rattle.std.proofs.lemmas.Bool.{cases_order}
use Rattle.arrayvec.specs.ArrayVec.{ArrayVec}
use Rattle.mate_num.specs.declared.call.End.{End}
use Rattle.mate_num.specs.declared.id.DeviceId.{DeviceId}
use Rattle.mate_num.specs.declared.id.FunId.{FunId}
use Rattle.mate_num.specs.declared.resource.Resource.{Resource}
use Rattle.mate_num.specs.declared.resource.Resource.TheVariants.{Device}
use Rattle.mate_num.proofs.ListLemmas.{along-parts}
use Rattle.mate_journal.specs.Machine.{Machine, HeldProgram}
use Rattle.mate_journal.specs.Journal.{begins_era, JournalEntry, Posted, Started, Asked, Answered, Ended, Installed, Reset, TimedEntry, Phase, Ready, Waiting, is_live, is_started, Invocation, NodeState, first_state, next_state, state_after_all, AtEachEntry, AtEachPlace}
use Rattle.mate_journal.specs.WellFormed.{MayFollow, IsWellFormed}
use Rattle.mate_journal.specs.Serial.{RunsSoFar, IsSerial}
use Rattle.mate_journal.specs.Stores.{WritesResource}
use Rattle.mate_journal.specs.Grants.{AreConflicting, started_number, GrantsInOrder}
use Rattle.journal_laws.specs.Growth.{GrantsBefore, last_start}
use Rattle.mate_journal.specs.Positions.{TellsAt, EndsAt, AreOfOneEra}
use Rattle.journal_laws.specs.Apart.{IsOrderly}
use Rattle.mate_journal.specs.Devices.{DeviceOf, WritesWhatItAsks, AsksAt, EndsBefore, CallsInTurn, AsksDevicesInOrder}
use Rattle.journal_laws.specs.ReadingOrder.{IsReadBefore, NeverEnds, AsksInOrder, ReadsDevicesInOrder}
use Rattle.journal_laws.proofs.Changed.{untrue}
use Rattle.journal_laws.proofs.Append.{AtEachPlace-first, AtEachPlace-back, GrantsBefore-front, GrantsBefore-back, GrantsInOrder-before}
use Rattle.journal_laws.proofs.Moves.{Moves, started-Moves, asked-Moves, answered-Moves, ended-Moves, posted-Joins, started_live}
use Rattle.journal_laws.proofs.Apart.{IsNumbered, live_posted, ready_live, ready_started, orderly-step, orderly-apart, nothing_heard-orderly, orderly-after}
use Rattle.journal_laws.proofs.Order.{later-step}

-- ---- a started invocation that writes a resource goes on, or ends

writes-moves : (m : Machine) (r s : NodeState) (k : ℕ) (phase : Phase) (n : ℕ) (at : Resource) → Moves r s k phase → IsTrue (is_started phase) → WritesResource m r n at → WritesResource m s n at
writes-moves m r s k phase n at moves started w = elim (eqb_tells n k) [ inl t ↦ here t.1 | inr u ↦ there u.1 ] where
  here : n ≡ k → WritesResource m s n at
  here is = record {
    started = subst (λ (j : ℕ). IsTrue (is_started (s.invocations j).phase)) (sym is) (subst (λ (x : Phase). IsTrue (is_started x)) (sym moves.here) started);
    writes = subst (λ (p : HeldProgram). IsTrue ((m.meaning.uses p).writes at)) (sym same) w.writes;
  } where
    same : (s.invocations n).program ≡ (r.invocations n).program
    same = subst (λ (j : ℕ). (s.invocations j).program ≡ (r.invocations j).program) (sym is) moves.program

  there : n ≢ k → WritesResource m s n at
  there other = record {
    started = subst (λ (i : Invocation). IsTrue (is_started i.phase)) (sym (moves.others n other)) w.started;
    writes = subst (λ (i : Invocation). IsTrue ((m.meaning.uses i.program).writes at)) (sym (moves.others n other)) w.writes;
  }

writes-other : (m : Machine) (r s : NodeState) (n : ℕ) (at : Resource) → s.invocations n ≡ r.invocations n → WritesResource m r n at → WritesResource m s n at
writes-other m r s n at is w = record {
  started = subst (λ (i : Invocation). IsTrue (is_started i.phase)) (sym is) w.started;
  writes = subst (λ (i : Invocation). IsTrue ((m.meaning.uses i.program).writes at)) (sym is) w.writes;
}

-- the entry is the invocation's end
pub record IsEndOf (told : JournalEntry) (n : ℕ) : Type 0 where
  pub how : End
  pub is : told ≡ Ended n how

pub writes-step : (m : Machine) (r : NodeState) (told : JournalEntry) (n : ℕ) (at : Resource) → MayFollow m r told → MatchBool (begins_era told) ⊥ ⊤ → IsNumbered r → WritesResource m r n at
    → IsEndOf told n ⊎ WritesResource m (next_state m r told) n at
writes-step m r (Posted k h c payload) n at follows stays numbered w =
    let posted : n ≤ r.posts = live_posted r n numbered (started_live (r.invocations n).phase w.started) in
    let next : k ≡ suc r.posts = follows.0 in
    let other : n ≢ k = omega arith in
    inr (writes-other m r (next_state m r (Posted k h c payload)) n at ((posted-Joins m r k h c payload).others n other) w)
writes-step m r (Started k) n at follows stays numbered w = inr (writes-moves m r (next_state m r (Started k)) k Ready n at (started-Moves m r k) refl w)
writes-step m r (Asked k f args) n at follows stays numbered w = inr (writes-moves m r (next_state m r (Asked k f args)) k (Waiting f args) n at (asked-Moves m r k f args) refl w)
writes-step m r (Answered k value) n at follows stays numbered w = inr (writes-moves m r (next_state m r (Answered k value)) k Ready n at (answered-Moves m r k value) refl w)
writes-step m r (Ended k how) n at follows stays numbered w =
    elim (eqb_tells n k) [
      | inl t ↦ inl (record { how = how; is = ap (λ (j : ℕ). Ended j how) (sym t.1) })
      | inr u ↦ inr (writes-other m r (next_state m r (Ended k how)) n at ((ended-Moves m r k how).others n u.1) w)
    ]
writes-step m r (Installed p) n at follows stays numbered w = absurd stays
writes-step m r Reset n at follows stays numbered w = absurd stays
writes-step m r _ n at follows stays numbered w = inr w

used : (a b : Bool) → IsTrue b → IsTrue (a || b)
used true b h = refl
used false b h = h

-- two that write one resource conflict
pub writers-conflict : (m : Machine) (r : NodeState) (j k : ℕ) (at : Resource) → WritesResource m r j at → WritesResource m r k at → AreConflicting m r j k
writers-conflict m r j k at first second = record {
  resource = at;
  at = inl (first.writes, used ((m.meaning.uses (r.invocations k).program).reads at) ((m.meaning.uses (r.invocations k).program).writes at) second.writes);
}

-- ---- who asks a function of a device writes the device

abbrev pub AsksWritten : Machine → DeviceOf → NodeState → JournalEntry → Type 0
AsksWritten m device_of r told =
    (n : ℕ) (f : FunId) (args : ArrayVec ℤ) (d : DeviceId) → told ≡ Asked n f args → device_of f ≡ Some d → IsTrue ((m.meaning.uses (r.invocations n).program).writes (Device d))

asks-written-here : (m : Machine) (device_of : DeviceOf) (r : NodeState) (told : JournalEntry) → WritesWhatItAsks device_of m.meaning → RunsSoFar m (next_state m r told) → AsksWritten m device_of r told
asks-written-here m device_of r told writes runs n f args d is speaks =
    let after = next_state m r (Asked n f args) in
    let moves = asked-Moves m r n f args in
    let so_far = subst (λ (t : JournalEntry). RunsSoFar m (next_state m r t)) is runs in
    subst (λ (p : HeldProgram). IsTrue ((m.meaning.uses p).writes (Device d))) moves.program
    (writes (after.invocations n).program after.serial (after.invocations n).payload _ m.turns f args d (so_far.wants n f args moves.here) speaks)

pub asks-written : (m : Machine) (device_of : DeviceOf) (r : NodeState) (es : List TimedEntry) → WritesWhatItAsks device_of m.meaning → AtEachPlace (RunsSoFar m) m r es → AtEachEntry (AsksWritten m device_of) m r es
asks-written m device_of r [] writes runs = tt
asks-written m device_of r (e ∷ es) writes runs =
    (asks-written-here m device_of r e.told writes (AtEachPlace-first (RunsSoFar m) m (next_state m r e.told) es runs.1), asks-written m device_of (next_state m r e.told) es writes runs.1)

-- ---- what the rules are along a part of a journal in one era

record IsRightPart (m : Machine) (device_of : DeviceOf) (r : NodeState) (last : ℕ) (es : List TimedEntry) : Type 0 where
  orderly : IsOrderly m r
  follow : AtEachEntry (MayFollow m) m r es
  granted : GrantsBefore m r last es
  written : AtEachEntry (AsksWritten m device_of) m r es
  one_era : AreOfOneEra es

module _ (m : Machine) (device_of : DeviceOf) where
  right-rest : (r : NodeState) (last : ℕ) (e : TimedEntry) (es : List TimedEntry) → IsRightPart m device_of r last (e ∷ es) → IsRightPart m device_of (next_state m r e.told) (started_number e.told) es
  right-rest r last e es right = record {
    orderly = orderly-step m r last e.told right.follow.0 right.granted.0 right.orderly;
    follow = right.follow.1;
    granted = right.granted.1;
    written = right.written.1;
    one_era = right.one_era.1;
  }

  asks_ready : (r : NodeState) (told : JournalEntry) (n : ℕ) (f : FunId) (args : ArrayVec ℤ) → told ≡ Asked n f args → MayFollow m r told → (r.invocations n).phase ≡ Ready
  asks_ready r told n f args is follows = subst (λ (t : JournalEntry). MayFollow m r t) is follows

  -- who asks a function of the device first is started, and writes the device
  asker-writes : (r : NodeState) (last : ℕ) (e : TimedEntry) (es : List TimedEntry) (d : DeviceId) (n : ℕ) → IsRightPart m device_of r last (e ∷ es) → AsksAt device_of d (e ∷ es) n zero → WritesResource m r n (Device d)
  asker-writes r last e es d n right asks = record {
    started = ready_started r n (asks_ready r e.told n asks.fun asks.args asks.tells right.follow.0);
    writes = right.written.0 n asks.fun asks.args d asks.tells asks.speaks;
  }

  -- the invocation ends before the position
  record EndsEarlier (es : List TimedEntry) (n p : ℕ) : Type 0 where
    pub place : ℕ
    pub ends : EndsAt es n place
    pub before : place < p

  -- where a started one writes the device, another asks a function of it only after the end of that one
  ends-before-asks : (r : NodeState) (last : ℕ) (es : List TimedEntry) (d : DeviceId) (j k p : ℕ) → IsRightPart m device_of r last es → WritesResource m r j (Device d) → j ≢ k → AsksAt device_of d es k p
      → EndsEarlier es j p
  ends-before-asks r last [] d j k p right w other asks = absurd asks.tells
  ends-before-asks r last (e ∷ es) d j k zero right w other asks =
      let second = asker-writes r last e es d k right asks in
      absurd (orderly-apart m r right.orderly j k other w.started second.started (writers-conflict m r j k (Device d) w second))
  ends-before-asks r last (e ∷ es) d j k (suc p) right w other asks =
      by (writes-step m r e.told j (Device d) right.follow.0 right.one_era.0 (record { numbered = right.orderly.numbered }) w)
      (λ goes_on. ends-before-asks (next_state m r e.told) (started_number e.told) es d j k p (right-rest r last e es right) goes_on other
      (record { fun = asks.fun; args = asks.args; tells = asks.tells; speaks = asks.speaks })) where
        by : IsEndOf e.told j ⊎ WritesResource m (next_state m r e.told) j (Device d) → (WritesResource m (next_state m r e.told) j (Device d) → EndsEarlier es j p) → EndsEarlier (e ∷ es) j (suc p)
        by (inl ends) later = record { place = zero; ends = record { how = ends.how; tells = ends.is }; before = omega arith }
        by (inr goes_on) later =
            let found = later goes_on in
            record { place = suc found.place; ends = record { how = found.ends.how; tells = found.ends.tells }; before = omega (arith, found.before) }

  -- the invocation ends between the two positions
  pub record EndsBetween (es : List TimedEntry) (n p q : ℕ) : Type 0 where
    pub place : ℕ
    pub ends : EndsAt es n place
    pub after : p < place
    pub before : place < q

  ends-between : (r : NodeState) (last : ℕ) (es : List TimedEntry) (d : DeviceId) (j k p q : ℕ) → IsRightPart m device_of r last es → j ≢ k → p < q
      → AsksAt device_of d es j p → AsksAt device_of d es k q → EndsBetween es j p q
  ends-between r last [] d j k p q right other below first second = absurd first.tells
  ends-between r last (e ∷ es) d j k zero zero right other below first second = absurd (omega arith)
  ends-between r last (e ∷ es) d j k zero (suc q) right other below first second =
      by (writes-step m r e.told j (Device d) right.follow.0 right.one_era.0 (record { numbered = right.orderly.numbered }) (asker-writes r last e es d j right first)) where
        by : IsEndOf e.told j ⊎ WritesResource m (next_state m r e.told) j (Device d) → EndsBetween (e ∷ es) j zero (suc q)
        by (inl ends) = let both : Asked j first.fun first.args ≡ Ended j ends.how = sym first.tells ∙ ends.is in cc
        by (inr w) =
            let found = ends-before-asks (next_state m r e.told) (started_number e.told) es d j k q (right-rest r last e es right) w other
            (record { fun = second.fun; args = second.args; tells = second.tells; speaks = second.speaks }) in
            record { place = suc found.place; ends = record { how = found.ends.how; tells = found.ends.tells }; after = omega arith; before = omega (arith, found.before) }
  ends-between r last (e ∷ es) d j k (suc p) zero right other below first second = absurd (omega arith)
  ends-between r last (e ∷ es) d j k (suc p) (suc q) right other below first second =
      let found = ends-between (next_state m r e.told) (started_number e.told) es d j k p q (right-rest r last e es right) other (omega arith)
      (record { fun = first.fun; args = first.args; tells = first.tells; speaks = first.speaks }) (record { fun = second.fun; args = second.args; tells = second.tells; speaks = second.speaks }) in
      record { place = suc found.place; ends = record { how = found.ends.how; tells = found.ends.tells }; after = omega (arith, found.after); before = omega (arith, found.before) }

  -- ---- an invocation asks before its end

  asks_live : (r : NodeState) (es : List TimedEntry) (d : DeviceId) (n p : ℕ) → AtEachEntry (MayFollow m) m r es → n ≤ r.posts → AsksAt device_of d es n p → IsTrue (is_live (r.invocations n).phase)
  asks_live r [] d n p follow posted asks = absurd asks.tells
  asks_live r (e ∷ es) d n zero follow posted asks = ready_live r n (asks_ready r e.told n asks.fun asks.args asks.tells follow.0)
  asks_live r (e ∷ es) d n (suc p) follow posted asks =
      let step = later-step m r e.told follow.0 in
      step.live n posted (asks_live (next_state m r e.told) es d n p follow.1 (omega (arith, step.posts)) (record { fun = asks.fun; args = asks.args; tells = asks.tells; speaks = asks.speaks }))

  asks-before-end : (r : NodeState) (last : ℕ) (es : List TimedEntry) (d : DeviceId) (n p q : ℕ) → IsRightPart m device_of r last es → AsksAt device_of d es n p → EndsAt es n q → p < q
  asks-before-end r last [] d n p q right asks ends = absurd ends.tells
  asks-before-end r last (e ∷ es) d n zero zero right asks ends = let both : Asked n asks.fun asks.args ≡ Ended n ends.how = sym asks.tells ∙ ends.tells in cc
  asks-before-end r last (e ∷ es) d n zero (suc q) right asks ends = omega arith
  asks-before-end r last (e ∷ es) d n (suc p) zero right asks ends = absurd (untrue (is_live ((next_state m r e.told).invocations n).phase) live dead) where
    dead : is_live ((next_state m r e.told).invocations n).phase ≡ false
    dead = subst (λ (t : JournalEntry). is_live ((next_state m r t).invocations n).phase ≡ false) (sym ends.tells) (ap is_live (ended-Moves m r n ends.how).here)

    ready : (r.invocations n).phase ≡ Ready
    ready = (subst (λ (t : JournalEntry). MayFollow m r t) ends.tells right.follow.0).0

    posted : n ≤ r.posts
    posted = live_posted r n (record { numbered = right.orderly.numbered }) (ready_live r n ready)

    live : IsTrue (is_live ((next_state m r e.told).invocations n).phase)
    live =
        asks_live (next_state m r e.told) es d n p right.follow.1 (let step = later-step m r e.told right.follow.0 in omega (arith, step.posts, posted))
        (record { fun = asks.fun; args = asks.args; tells = asks.tells; speaks = asks.speaks })
  asks-before-end r last (e ∷ es) d n (suc p) (suc q) right asks ends =
      let below = asks-before-end (next_state m r e.told) (started_number e.told) es d n p q (right-rest r last e es right)
      (record { fun = asks.fun; args = asks.args; tells = asks.tells; speaks = asks.speaks }) (record { how = ends.how; tells = ends.tells }) in
      omega (arith, below)

  -- ---- the order

  tells-once : (es : List TimedEntry) (p : ℕ) (a b : JournalEntry) → TellsAt es p a → TellsAt es p b → a ≡ b
  tells-once [] p a b first second = absurd first
  tells-once (e ∷ es) zero a b first second = sym first ∙ second
  tells-once (e ∷ es) (suc p) a b first second = tells-once es p a b first second

  -- two that ask at one position are one
  asks-once : (es : List TimedEntry) (d : DeviceId) (j k p q : ℕ) → AsksAt device_of d es j p → AsksAt device_of d es k q → p ≡ q → j ≡ k
  asks-once es d j k p q first second is =
      let both : Asked j first.fun first.args ≡ Asked k second.fun second.args =
      tells-once es p (Asked j first.fun first.args) (Asked k second.fun second.args) first.tells (subst (λ (i : ℕ). TellsAt es i (Asked k second.fun second.args)) (sym is) second.tells) in
      cc

  pub record IsOrderedPart (r : NodeState) (last : ℕ) (es : List TimedEntry) (d : DeviceId) : Type 0 where
    pub in_turn : CallsInTurn device_of d es
    pub as_read : AsksInOrder device_of d es

  pub part-in-order : (r : NodeState) (last : ℕ) (es : List TimedEntry) (d : DeviceId) → IsOrderly m r → AtEachEntry (MayFollow m) m r es → GrantsBefore m r last es
      → AtEachEntry (AsksWritten m device_of) m r es → AreOfOneEra es → IsOrderedPart r last es d
  part-in-order r last es d orderly follow granted written one_era = record { in_turn = record { ended = ended }; as_read = record { rising = rising; one_open = one_open } } where
    right : IsRightPart m device_of r last es
    right = record { orderly = orderly; follow = follow; granted = granted; written = written; one_era = one_era }

    ended : (j k p q : ℕ) → j ≢ k → p < q → AsksAt device_of d es j p → AsksAt device_of d es k q → EndsBefore es j q
    ended j k p q other below first second = let found = ends-between r last es d j k p q right other below first second in record { place = found.place; ends = found.ends; before = found.before }

    rising : (j k p q : ℕ) → j ≢ k → IsReadBefore es j k → AsksAt device_of d es j p → AsksAt device_of d es k q → p < q
    rising j k p q other before first second = by (cases_order p q) where
      by : p ≡ q ⊎ (p < q ⊎ q < p) → p < q
      by (inl is) = absurd (other (asks-once es d j k p q first second is))
      by (inr (inl below)) = below
      by (inr (inr above)) =
          let found = ends-between r last es d k j q p right (λ e. other (sym e)) above second first in
          let own = asks-before-end r last es d j p before.place right first before.ends in
          let later = before.later found.place found.ends in
          absurd (omega (arith, found.before, own, later))

    one_open : (j k p q : ℕ) → NeverEnds es j → NeverEnds es k → AsksAt device_of d es j p → AsksAt device_of d es k q → j ≡ k
    one_open j k p q open_j open_k first second = elim (eqb_tells j k) [ inl t ↦ t.1 | inr u ↦ absurd (not_two u.1 (cases_order p q)) ] where
      not_two : j ≢ k → p ≡ q ⊎ (p < q ⊎ q < p) → ⊥
      not_two other (inl is) = other (asks-once es d j k p q first second is)
      not_two other (inr (inl below)) = let found = ends-between r last es d j k p q right other below first second in open_j found.place found.ends
      not_two other (inr (inr above)) = let found = ends-between r last es d k j q p right (λ e. other (sym e)) above second first in open_k found.place found.ends

-- ---- of a journal in three parts

era-in-order : (m : Machine) (front era back : List TimedEntry) (device_of : DeviceOf) (d : DeviceId) → WritesWhatItAsks device_of m.meaning
    → AtEachEntry (MayFollow m) m (first_state m) (front ++ (era ++ back)) → AtEachPlace (RunsSoFar m) m (first_state m) (front ++ (era ++ back))
    → GrantsBefore m (first_state m) 0 (front ++ (era ++ back)) → AreOfOneEra era
    → IsOrderedPart m device_of (state_after_all m (first_state m) front) (last_start 0 front) era d
era-in-order m front era back device_of d writes follow so_far granted one_era =
    let parts = along-parts _ _ (first_state m) front (era ++ back) follow in
    part-in-order m device_of (state_after_all m (first_state m) front) (last_start 0 front) era d
    (orderly-after m (first_state m) 0 front parts.0 (GrantsBefore-front m (first_state m) 0 front (era ++ back) granted) (nothing_heard-orderly m))
    (along-parts _ _ _ era back parts.1).0
    (GrantsBefore-front m (state_after_all m (first_state m) front) (last_start 0 front) era back (GrantsBefore-back m (first_state m) 0 front (era ++ back) granted))
    (along-parts _ _ _ era back (asks-written m device_of (state_after_all m (first_state m) front) (era ++ back) writes (AtEachPlace-back (RunsSoFar m) m (first_state m) front (era ++ back) so_far))).0
    one_era

-- each era of a journal that is right
each-era : (m : Machine) (es front era back : List TimedEntry) (device_of : DeviceOf) (d : DeviceId) → WritesWhatItAsks device_of m.meaning → IsWellFormed m (first_state m) es
    → IsSerial m (first_state m) es → GrantsInOrder m (first_state m) 0 es → es ≡ front ++ (era ++ back) → AreOfOneEra era
    → IsOrderedPart m device_of (state_after_all m (first_state m) front) (last_start 0 front) era d
each-era m es front era back device_of d writes right serial granted is one_era =
    era-in-order m front era back device_of d writes
    (subst (λ (all : List TimedEntry). AtEachEntry (MayFollow m) m (first_state m) all) is right.follow)
    (subst (λ (all : List TimedEntry). AtEachPlace (RunsSoFar m) m (first_state m) all) is serial.so_far)
    (subst (λ (all : List TimedEntry). GrantsBefore m (first_state m) 0 all) is (GrantsInOrder-before m (first_state m) 0 es granted))
    one_era

pub devices-in-turn : (m : Machine) (es : List TimedEntry) (device_of : DeviceOf) → WritesWhatItAsks device_of m.meaning → IsWellFormed m (first_state m) es → IsSerial m (first_state m) es
    → GrantsInOrder m (first_state m) 0 es → AsksDevicesInOrder device_of es
devices-in-turn m es device_of writes right serial granted front era back d is one_era = (each-era m es front era back device_of d writes right serial granted is one_era).in_turn

pub devices-as-read : (m : Machine) (es : List TimedEntry) (device_of : DeviceOf) → WritesWhatItAsks device_of m.meaning → IsWellFormed m (first_state m) es → IsSerial m (first_state m) es
    → GrantsInOrder m (first_state m) 0 es → ReadsDevicesInOrder device_of es
devices-as-read m es device_of writes right serial granted front era back d is one_era = (each-era m es front era back device_of d writes right serial granted is one_era).as_read
