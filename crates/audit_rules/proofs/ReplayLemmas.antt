-- Serial replay at ends alone is serial replay at every place.
use Rattle.std.proofs.Common.{◌≡◌, ◌≢◌, ℕ, suc, Bool, true, false, List, [], ◌∷◌, ◌++◌, map, refl, sym, ◌∙◌, ap, subst, arith, inl, inr, true≢false}
use Rattle.std.specs.Prelude.{ℤ, IsTrue, Decides}
use Rattle.std.proofs.lemmas.List.{map-append, length-map}
use Rattle.std.proofs.lemmas.Bool.Decides.{eqb_tells}
use Rattle.arrayvec.specs.ArrayVec.{ArrayVec}
use Rattle.mate_num.specs.declared.call.Call.{Call}
use Rattle.mate_num.specs.declared.call.End.{End}
use Rattle.mate_num.specs.declared.call.End.TheVariants as end
use Rattle.mate_num.specs.declared.id.ContextId.{ContextId}
use Rattle.mate_num.specs.declared.id.FunId.{FunId}
use Rattle.mate_num.specs.declared.id.HandlerId.{HandlerId}
use Rattle.mate_num.specs.declared.store.Store.{Store}
use Rattle.mate_journal.specs.Machine.{Machine}
use Rattle.mate_journal.specs.Journal.{JournalEntry, Posted, Started, Asked, Answered, Ended, Installed, Reset, TimedEntry, Phase, Queued, Ready, Waiting, Over, is_started, Invocation, NodeState, first_state, in_phase, answers_of, whole_run, next_state, AtEachEntry, AtEachPlace}
use Rattle.mate_journal.specs.WellFormed.{MayFollow, IsWaiting, IsWellFormed}
use Rattle.mate_journal.specs.Serial.{EndsAsRun, RunsSoFar, IsSerial}
use Rattle.mate_journal.specs.Grants.{AreConflicting}
use Rattle.journal_laws.proofs.Append.{AtEachPlace-first}
use Rattle.journal_laws.proofs.Changed.{changed-here, changed-other, untrue}
use Rattle.journal_laws.proofs.Moves.{started_live}
use Rattle.journal_laws.proofs.Apart.{IsNumbered, live_posted, numbered-step}
use Rattle.audit_rules.specs.Roll.{calls_with}
use Rattle.audit_rules.specs.Granting.{ConflictTest, TellsConflicts}
use Rattle.audit_rules.specs.Replay.{IsRunSoFar, AllRunSoFar, RunsAt, ReplaysAtEnds, GoesByParts}
use Rattle.audit_rules.specs.Rerun.{run_on}
use Rattle.audit_rules.proofs.FollowingLemmas.{nothing_heard-numbered}

-- ---- by the store and the invocation alone

abbrev pub IsSoFar : Machine → Store → Invocation → Type 0
IsSoFar m store i = ((run_on m store i).calls ≡ i.calls) × ((f : FunId) (args : ArrayVec ℤ) → i.phase ≡ Waiting f args → (run_on m store i).end ≡ end.Wants f args)

pub told_so_far : (m : Machine) (r : NodeState) (n : ℕ) → IsRunSoFar m r n → IsSoFar m r.serial (r.invocations n)
told_so_far m r n h = (h.calls, h.wants)

pub so_far_told : (m : Machine) (r : NodeState) (n : ℕ) → IsSoFar m r.serial (r.invocations n) → IsRunSoFar m r n
so_far_told m r n h = record { calls = h.0; wants = h.1 }

-- the invocation and the store are the same
same-so_far : (m : Machine) (r s : NodeState) (n : ℕ) → s.serial ≡ r.serial → s.invocations n ≡ r.invocations n → IsRunSoFar m s n → IsRunSoFar m r n
same-so_far m r s n store is h =
    so_far_told m r n (subst (λ (i : Invocation). IsSoFar m r.serial i) is (subst (λ (x : Store). IsSoFar m x (s.invocations n)) store (told_so_far m s n h)))

-- an invocation that doesn't wait owes its calls alone
ready-so_far : (m : Machine) (r : NodeState) (n : ℕ) → (r.invocations n).phase ≡ Ready → (whole_run m r n).calls ≡ (r.invocations n).calls → IsRunSoFar m r n
ready-so_far m r n ready calls = record { calls = calls; wants = λ f args waits. let e : Ready ≡ Waiting f args = sym ready ∙ waits in cc }

-- ---- from the place after an entry to the place before it

posted-so_far : (m : Machine) (r : NodeState) (n : ℕ) (h : HandlerId) (c : ContextId) (payload : ArrayVec ℤ) → n ≡ suc r.posts → IsNumbered r → AllRunSoFar m (next_state m r (Posted n h c payload)) → AllRunSoFar m r
posted-so_far m r n h c payload next numbered later k started =
    let s = next_state m r (Posted n h c payload) in
    let below = live_posted r k numbered (started_live (r.invocations k).phase started) in
    let is : s.invocations k ≡ r.invocations k = changed-other r.invocations n _ k (omega (arith, below, next)) in
    same-so_far m r s k refl is (later k (ap (λ (i : Invocation). is_started i.phase) is ∙ started))

started-so_far : (m : Machine) (r : NodeState) (n : ℕ) → (r.invocations n).phase ≡ Queued → AllRunSoFar m (next_state m r (Started n)) → AllRunSoFar m r
started-so_far m r n queued later k started = elim (eqb_tells k n) [
  | inl t ↦ absurd (untrue (is_started (r.invocations n).phase) (subst (λ (j : ℕ). IsTrue (is_started (r.invocations j).phase)) t.1 started) (ap is_started queued))
  | inr u ↦ (let s = next_state m r (Started n) in
      let is : s.invocations k ≡ r.invocations k = changed-other r.invocations n _ k u.1 in
      same-so_far m r s k refl is (later k (ap (λ (i : Invocation). is_started i.phase) is ∙ started)))
]

asked-so_far : (m : Machine) (r : NodeState) (n : ℕ) (f : FunId) (args : ArrayVec ℤ) → (r.invocations n).phase ≡ Ready → AllRunSoFar m (next_state m r (Asked n f args)) → AllRunSoFar m r
asked-so_far m r n f args ready later k started = elim (eqb_tells k n) [ inl t ↦ subst (λ (j : ℕ). IsRunSoFar m r j) (sym t.1) here | inr u ↦ there k u.1 started ] where
  s : NodeState
  s = next_state m r (Asked n f args)

  is : s.invocations n ≡ in_phase (Waiting f args) (r.invocations n)
  is = changed-here r.invocations n (in_phase (Waiting f args) (r.invocations n))

  here : IsRunSoFar m r n
  here =
      let h = subst (λ (i : Invocation). IsSoFar m r.serial i) is (told_so_far m s n (later n (ap (λ (i : Invocation). is_started i.phase) is))) in
      ready-so_far m r n ready h.0

  there : (k : ℕ) → k ≢ n → IsTrue (is_started (r.invocations k).phase) → IsRunSoFar m r k
  there k other started =
      let same : s.invocations k ≡ r.invocations k = changed-other r.invocations n (in_phase (Waiting f args) (r.invocations n)) k other in
      same-so_far m r s k refl same (later k (ap (λ (i : Invocation). is_started i.phase) same ∙ started))

-- one more call, and one more answer
answers-push : (calls : List Call) (c : Call) → map (λ (call : Call). call.result) (calls ++ c ∷ []) ≡ map (λ (call : Call). call.result) calls ++ c.result ∷ []
answers-push calls c = map-append (λ (call : Call). call.result) calls (c ∷ [])

answered-one : (m : Machine) (r : NodeState) (n : ℕ) (value : ℤ) (f : FunId) (args : ArrayVec ℤ) → GoesByParts m.meaning → (r.invocations n).phase ≡ Waiting f args
    → (run_on m r.serial (record (r.invocations n) { calls = (r.invocations n).calls ++ record { fun = f; args = args; result = value } ∷ []; phase = Ready })).calls ≡ (r.invocations n).calls ++ record { fun = f; args = args; result = value } ∷ []
    → IsRunSoFar m r n
answered-one m r n value f args parts waits calls =
    let i = r.invocations n in
    let c : Call = record { fun = f; args = args; result = value } in
    let one = parts.one_less i.program r.serial i.payload (answers_of i) value m.turns i.calls c (sym (length-map i.calls (λ (call : Call). call.result)))
    (subst (λ (xs : List ℤ). (m.meaning.run i.program r.serial i.payload xs m.turns).calls ≡ i.calls ++ c ∷ []) (answers-push i.calls c) calls) in
    record {
      calls = one.0;
      wants = λ g bs also.
          let e : Waiting f args ≡ Waiting g bs = sym waits ∙ also in
          let fun : f ≡ g = cc in
          let same : args ≡ bs = cc in
          one.1 ∙ ap (λ (x : FunId). end.Wants x args) fun ∙ ap (λ (x : ArrayVec ℤ). end.Wants g x) same;
    }

answered-so_far : (m : Machine) (r : NodeState) (n : ℕ) (value : ℤ) → GoesByParts m.meaning → IsWaiting r n → AllRunSoFar m (next_state m r (Answered n value)) → AllRunSoFar m r
answered-so_far m r n value parts waiting later k started = elim (eqb_tells k n) [ inl t ↦ subst (λ (j : ℕ). IsRunSoFar m r j) (sym t.1) here | inr u ↦ there k u.1 started ] where
  s : NodeState
  s = next_state m r (Answered n value)

  with_answer : Invocation
  with_answer = record (r.invocations n) { calls = (r.invocations n).calls ++ record { fun = waiting.fun; args = waiting.args; result = value } ∷ []; phase = Ready }

  is : s.invocations n ≡ with_answer
  is =
      changed-here r.invocations n _
      ∙ ap (λ (phase : Phase). let i : Invocation = record (r.invocations n) { calls = calls_with phase value (r.invocations n).calls; phase = Ready } in i) waiting.waits

  here : IsRunSoFar m r n
  here =
      let h = subst (λ (i : Invocation). IsSoFar m r.serial i) is (told_so_far m s n (later n (ap (λ (i : Invocation). is_started i.phase) is))) in
      answered-one m r n value waiting.fun waiting.args parts waiting.waits h.0

  there : (k : ℕ) → k ≢ n → IsTrue (is_started (r.invocations k).phase) → IsRunSoFar m r k
  there k other started =
      let same : s.invocations k ≡ r.invocations k = changed-other r.invocations n _ k other in
      same-so_far m r s k refl same (later k (ap (λ (i : Invocation). is_started i.phase) same ∙ started))

-- compatible programs ran before
untouched-so_far : (m : Machine) (r : NodeState) (n k : ℕ) (how : End) → GoesByParts m.meaning → k ≢ n → (AreConflicting m r n k → ⊥) → IsRunSoFar m (next_state m r (Ended n how)) k → IsRunSoFar m r k
untouched-so_far m r n k how parts other apart later =
    let s = next_state m r (Ended n how) in
    let i = r.invocations k in
    let j = r.invocations n in
    let is : s.invocations k ≡ i = changed-other r.invocations n (in_phase Over j) k other in
    let h = subst (λ (x : Invocation). IsSoFar m s.serial x) is (told_so_far m s k later) in
    let same = parts.untouched j.program i.program r.serial j.payload i.payload (answers_of j) (answers_of i) m.turns apart in
    so_far_told m r k (sym same.1 ∙ h.0, λ f args waits. sym same.0 ∙ h.1 f args waits)

ended-so_far : (m : Machine) (conflict : ConflictTest) (r : NodeState) (n : ℕ) (how : End) → GoesByParts m.meaning → TellsConflicts m.meaning conflict → (r.invocations n).phase ≡ Ready
    → RunsAt m r (Ended n how) → AllRunSoFar m (next_state m r (Ended n how)) → AllRunSoFar m r
ended-so_far m conflict r n how parts tells ready runs later k started = elim (eqb_tells k n) [
  | inl t ↦ subst (λ (j : ℕ). IsRunSoFar m r j) (sym t.1) (ready-so_far m r n ready runs.1)
  | inr u ↦ by (conflict (r.invocations n).program (r.invocations k).program) (tells (r.invocations n).program (r.invocations k).program) u.1
] where
  still : k ≢ n → IsTrue (is_started ((next_state m r (Ended n how)).invocations k).phase)
  still other = ap (λ (i : Invocation). is_started i.phase) (changed-other r.invocations n (in_phase Over (r.invocations n)) k other) ∙ started

  by : (b : Bool) → Decides b (AreConflicting m r n k) → k ≢ n → IsRunSoFar m r k
  by true d other = (runs.2 k other started (d.0 refl)).0
  by false d other = untouched-so_far m r n k how parts other (λ c. true≢false (sym (d.1 c))) (later k (still other))

so_far-before : (m : Machine) (conflict : ConflictTest) (r : NodeState) (t : JournalEntry) → GoesByParts m.meaning → TellsConflicts m.meaning conflict → MayFollow m r t → IsNumbered r → RunsAt m r t
    → AllRunSoFar m (next_state m r t) → AllRunSoFar m r
so_far-before m conflict r (Posted n h c payload) parts tells follows numbered runs later = posted-so_far m r n h c payload follows.0 numbered later
so_far-before m conflict r (Started n) parts tells follows numbered runs later = started-so_far m r n follows later
so_far-before m conflict r (Asked n f args) parts tells follows numbered runs later = asked-so_far m r n f args follows later
so_far-before m conflict r (Answered n value) parts tells follows numbered runs later = answered-so_far m r n value parts follows later
so_far-before m conflict r (Ended n how) parts tells follows numbered runs later = ended-so_far m conflict r n how parts tells follows.0 runs later
so_far-before m conflict r (Installed p) parts tells follows numbered runs later = runs
so_far-before m conflict r Reset parts tells follows numbered runs later = runs
so_far-before m conflict r _ parts tells follows numbered runs later = later

-- ---- along the journal

so_far-here : (m : Machine) (conflict : ConflictTest) (r : NodeState) (es : List TimedEntry) → GoesByParts m.meaning → TellsConflicts m.meaning conflict → AtEachEntry (MayFollow m) m r es → IsNumbered r
    → ReplaysAtEnds m r es → AllRunSoFar m r
so_far-here m conflict r [] parts tells follow numbered replays = replays
so_far-here m conflict r (e ∷ es) parts tells follow numbered replays =
    so_far-before m conflict r e.told parts tells follow.0 numbered replays.0
    (so_far-here m conflict (next_state m r e.told) es parts tells follow.1 (numbered-step m r e.told follow.0 numbered) replays.1)

waiting_started : (r : NodeState) (n : ℕ) (f : FunId) (args : ArrayVec ℤ) → (r.invocations n).phase ≡ Waiting f args → IsTrue (is_started (r.invocations n).phase)
waiting_started r n f args waits = ap is_started waits

RunsSoFar-of : (m : Machine) (r : NodeState) → AllRunSoFar m r → RunsSoFar m r
RunsSoFar-of m r all = record { calls = λ n started. (all n started).calls; wants = λ n f args waits. (all n (waiting_started r n f args waits)).wants f args waits }

of-RunsSoFar : (m : Machine) (r : NodeState) → RunsSoFar m r → AllRunSoFar m r
of-RunsSoFar m r h n started = record { calls = h.calls n started; wants = λ f args waits. h.wants n f args waits }

so_far-along : (m : Machine) (conflict : ConflictTest) (r : NodeState) (es : List TimedEntry) → GoesByParts m.meaning → TellsConflicts m.meaning conflict → AtEachEntry (MayFollow m) m r es → IsNumbered r
    → ReplaysAtEnds m r es → AtEachPlace (RunsSoFar m) m r es
so_far-along m conflict r [] parts tells follow numbered replays = RunsSoFar-of m r replays
so_far-along m conflict r (e ∷ es) parts tells follow numbered replays = (
  RunsSoFar-of m r (so_far-here m conflict r (e ∷ es) parts tells follow numbered replays),
  so_far-along m conflict (next_state m r e.told) es parts tells follow.1 (numbered-step m r e.told follow.0 numbered) replays.1,
)

ends-as_run : (m : Machine) (r : NodeState) (t : JournalEntry) → RunsAt m r t → EndsAsRun m r t
ends-as_run m r (Ended n how) runs = (runs.0, runs.1)
ends-as_run m r _ runs = tt

ends-along : (m : Machine) (r : NodeState) (es : List TimedEntry) → ReplaysAtEnds m r es → AtEachEntry (EndsAsRun m) m r es
ends-along m r [] replays = tt
ends-along m r (e ∷ es) replays = (ends-as_run m r e.told replays.0, ends-along m (next_state m r e.told) es replays.1)

-- ---- and back

runs-at : (m : Machine) (r : NodeState) (t : JournalEntry) → EndsAsRun m r t → AllRunSoFar m r → AllRunSoFar m (next_state m r t) → RunsAt m r t
runs-at m r (Ended n how) ends before after =
    (ends.0, ends.1, λ k other started c. (before k started, after k (ap (λ (i : Invocation). is_started i.phase) (changed-other r.invocations n (in_phase Over (r.invocations n)) k other) ∙ started)))
runs-at m r (Installed p) ends before after = before
runs-at m r Reset ends before after = before
runs-at m r _ ends before after = tt

replays-along : (m : Machine) (r : NodeState) (es : List TimedEntry) → AtEachEntry (EndsAsRun m) m r es → AtEachPlace (RunsSoFar m) m r es → ReplaysAtEnds m r es
replays-along m r [] ends places = of-RunsSoFar m r places
replays-along m r (e ∷ es) ends places = (
  runs-at m r e.told ends.0 (of-RunsSoFar m r places.0) (of-RunsSoFar m (next_state m r e.told) (AtEachPlace-first (RunsSoFar m) m (next_state m r e.told) es places.1)),
  replays-along m (next_state m r e.told) es ends.1 places.1,
)

-- ---- the law

pub ends_enough : (m : Machine) (conflict : ConflictTest) (es : List TimedEntry) → GoesByParts m.meaning → TellsConflicts m.meaning conflict → IsWellFormed m (first_state m) es
    → (IsSerial m (first_state m) es → ReplaysAtEnds m (first_state m) es) × (ReplaysAtEnds m (first_state m) es → IsSerial m (first_state m) es)
ends_enough m conflict es parts tells follows = (
  λ s. replays-along m (first_state m) es s.ends s.so_far,
  λ replays. record {
    ends = ends-along m (first_state m) es replays;
    so_far = so_far-along m conflict (first_state m) es parts tells follows.follow (nothing_heard-numbered m) replays;
  },
)
