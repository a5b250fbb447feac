-- The journal of one install, one post and one run of an invocation that ends: it owes nothing.
use Rattle.std.proofs.Common.{zero, ◌++◌, suc, ◌+◌, ◌≡◌, ◌≤◌, ◌<◌, ℕ, Bool, false, IsTrue, List, [], ◌∷◌, ℤ, length, map, refl, sym, ap, subst, arith, inl, inr, ◌≢◌, lit<, lit≤}
use Rattle.std.proofs.lemmas.Bool.Decides.{eqb_tells}
use Rattle.std.proofs.lemmas.List.Elements.{All-from_recursion}
use Rattle.std.specs.Prelude.{MatchBool}
use Rattle.arrayvec.specs.ArrayVec.{ArrayVec}
use Rattle.mate_num.specs.declared.call.Call.{Call}
use Rattle.mate_num.specs.declared.call.End.{End}
use Rattle.mate_num.specs.declared.call.End.TheVariants as end
use Rattle.mate_num.specs.declared.id.FunId.{FunId}
use Rattle.mate_num.specs.declared.id.HandlerId.{HandlerId}
use Rattle.mate_num.specs.declared.id.ContextId.{ContextId}
use Rattle.mate_num.specs.declared.store.Store.{Store}
use Rattle.mate_journal.specs.Machine.{Machine, HeldProgram, IsContextOf}
use Rattle.mate_num.specs.declared.outcome.Outcome.{Outcome}
use Rattle.mate_journal.specs.Journal.{Phase, Ready, Waiting, Over, JournalEntry, Posted, Started, Asked, Ended, Installed, Seen, TimedEntry, NodeState, first_state, next_state, is_started, Queued, changed, Invocation}
use Rattle.mate_journal.specs.WellFormed.{IsWellFormed, Closes, NotBefore}
use Rattle.mate_journal.specs.Serial.{IsSerial, RunsSoFar}
use Rattle.mate_journal.specs.Stores.{ShowsStores, IsShown}
use Rattle.mate_journal.specs.Grants.{GrantsInOrder, AllHeldBack, MayStart, IsStart}
use Rattle.mate_journal.specs.Positions.{TellsAt}
use Rattle.mate_journal.specs.Devices.{DeviceOf, AsksAt, AsksDevicesInOrder}
use Rattle.mate_journal.specs.Pace.{Pace, no_pace, paced, gives_way}
use Rattle.mate_journal.specs.Turns.{ShowsReady, entry_at, Turn, IsTurn, after_step, Settles}
use Rattle.mate_journal.specs.NodeScript.{Step, Install, Post, Run, Whole, EndsRun, IsRunOf, HaveMade, made_at as at, Installs, Posts, Occasion}

abbrev empty : ArrayVec ℤ
empty = record { items = [] }

abbrev main : HandlerId
main = record { 0 = 0 }

abbrev first : ContextId
first = record { 0 = 0 }

-- a program for the first handler
abbrev pub for_main : ℕ → ArrayVec ℕ → HeldProgram
for_main version image = record { handler = main; version = version; image = image }

-- the run of the program at the beginning of an era
abbrev pub first_run : Machine → HeldProgram → Outcome
first_run m p = m.meaning.run p m.zero_store empty [] m.turns

-- the journal: the program is installed, an event is posted to its handler, and the invocation runs to its end
abbrev pub one_run : Machine → HeldProgram → List TimedEntry
one_run m p =
    at 1 (Seen m.zero_store) ∷ at 1 (Installed p) ∷ at 2 (Posted 1 main first empty) ∷ at 2 (Started 1)
    ∷ at 3 (Ended 1 (first_run m p).end) ∷ at 4 (Seen (first_run m p).store) ∷ []

-- the script of such a run
abbrev pub one_script : HeldProgram → List Step
one_script p = Install p ∷ Post main empty ∷ Run ∷ []

-- what is asked of the machine and the program
pub record RunsToEnd (m : Machine) (p : HeldProgram) : Type 0 where
  pub context : IsContextOf m main first
  pub not_once : m.runs_once main ≡ false
  pub version : 0 < p.version
  pub closes : Closes (first_run m p).end
  pub calls : (first_run m p).calls ≡ []
  pub quick : m.meaning.mark p m.zero_store empty [] m.turns ≤ m.quantum
  pub variables : length (first_run m p).store.shared.items ≡ length m.zero_store.shared.items
  pub buffers : length (first_run m p).store.buffers.items ≡ length m.zero_store.buffers.items

-- ---- one changed value

-- a fact of each value, with one changed
at_changed : {A : Type 0} (P : ℕ → A → Type 0) (f : ℕ → A) (n : ℕ) (value : A) → P n value
    → ((k : ℕ) → k ≢ n → P k (f k)) → (k : ℕ) → P k (changed f n value k)
at_changed P f n value here there k =
    elim (eqb_tells k n) [ inl t ↦ rw t.0 (subst (λ j. P j value) (sym t.1) here) | inr u ↦ rw u.0 (there k u.1) ]

-- the others are as they were
past_changed : {A : Type 0} (P : ℕ → A → Type 0) (f : ℕ → A) (n : ℕ) (value : A) (k : ℕ) → k ≢ n → P k (f k) → P k (changed f n value k)
past_changed P f n value k other h =
    elim (eqb_tells k n) [ inl t ↦ absurd (other t.1) | inr u ↦ rw u.0 h ]

untrue : (b : Bool) → IsTrue b → b ≡ false → ⊥
untrue b holds fails = cc

in_order : (a b : ℕ) → a ≤ b → NotBefore (record { event = a; time = 0 }) (record { event = b; time = 0 })
in_order a b h = record { event = h; time = omega arith; same = λ _. refl }

-- what a part tells, the whole tells
TellsAt-before : (es back : List TimedEntry) (q : ℕ) (t : JournalEntry) → TellsAt es q t → TellsAt (es ++ back) q t
TellsAt-before [] back q t tells = absurd tells
TellsAt-before (e ∷ es) back zero t tells = tells
TellsAt-before (e ∷ es) back (suc q) t tells = TellsAt-before es back q t tells

TellsAt-behind : (front es : List TimedEntry) (q : ℕ) (t : JournalEntry) → TellsAt es q t → TellsAt (front ++ es) (length front + q) t
TellsAt-behind [] es q t tells = let same : length {A = TimedEntry} [] + q ≡ q = omega arith in subst (λ (i : ℕ). TellsAt es i t) (sym same) tells
TellsAt-behind (e ∷ front) es q t tells =
    let next : length (e ∷ front) + q ≡ suc (length front + q) = omega arith in
    subst (λ (i : ℕ). TellsAt (e ∷ (front ++ es)) i t) (sym next) (TellsAt-behind front es q t tells)

module _ (m : Machine) (version : ℕ) (image : ArrayVec ℕ) where
  abbrev p : HeldProgram
  p = for_main version image

  -- what was heard after the install, the post, the start and the end
  abbrev installed : NodeState
  installed = next_state m (first_state m) (Installed p)

  abbrev posted : NodeState
  posted = next_state m installed (Posted 1 main first empty)

  abbrev started : NodeState
  started = next_state m posted (Started 1)

  abbrev ended : NodeState
  ended = next_state m started (Ended 1 (first_run m p).end)

  -- the invocation, once posted, started and ended
  abbrev one : Phase → Invocation
  one phase = record { handler = main; context = first; program = p; payload = empty; calls = []; phase = phase }

  abbrev before : ℕ → Invocation
  before = installed.invocations

  -- a fact of each invocation at these places
  each_posted : (P : ℕ → Invocation → Type 0) → P 1 (one Queued) → ((k : ℕ) → k ≢ 1 → P k (before k))
      → (k : ℕ) → P k (posted.invocations k)
  each_posted P here there = at_changed P before 1 (one Queued) here there

  each_started : (P : ℕ → Invocation → Type 0) → P 1 (one Ready) → ((k : ℕ) → k ≢ 1 → P k (before k))
      → (k : ℕ) → P k (started.invocations k)
  each_started P here there =
      at_changed P posted.invocations 1 (one Ready) here (λ k other. past_changed P before 1 (one Queued) k other (there k other))

  each_ended : (P : ℕ → Invocation → Type 0) → P 1 (one Over) → ((k : ℕ) → k ≢ 1 → P k (before k))
      → (k : ℕ) → P k (ended.invocations k)
  each_ended P here there =
      at_changed P started.invocations 1 (one Over) here (λ k other.
      past_changed P posted.invocations 1 (one Ready) k other (past_changed P before 1 (one Queued) k other (there k other)))

  abbrev IsQuiet : ℕ → Invocation → Type 0
  IsQuiet k i = is_started i.phase ≡ false

  abbrev NotQueued : ℕ → Invocation → Type 0
  NotQueued k i = i.phase ≡ Queued → ⊥

  -- where no invocation is started, none has run so far
  quiet : (r : NodeState) → ((k : ℕ) → is_started (r.invocations k).phase ≡ false) → RunsSoFar m r
  quiet r q = record {
    calls = λ n s. absurd (untrue (is_started (r.invocations n).phase) s (q n));
    wants = λ n f args w. absurd (untrue (is_started (r.invocations n).phase) (ap is_started w) (q n));
  }

  none_queued : (r : NodeState) → ((k : ℕ) → (r.invocations k).phase ≡ Queued → ⊥) → AllHeldBack m r
  none_queued r q = λ n e. absurd (q n e)

  pub one_run-well_formed : RunsToEnd m p → IsWellFormed m (first_state m) (one_run m p)
  one_run-well_formed h = record {
    in_time = (in_order 1 1 (lit≤ tt), (in_order 1 2 (lit≤ tt), (in_order 2 2 (lit≤ tt), (in_order 2 3 (lit≤ tt), (in_order 3 4 (lit≤ tt), tt)))));
    follow = (tt, (tt, ((refl, refl, h.context, λ n live same. untrue false live refl), (refl, ((refl, h.closes), (tt, tt))))));
  }

  pub one_run-serial : RunsToEnd m p → IsSerial m (first_state m) (one_run m p)
  one_run-serial h = record {
    ends = (tt, (tt, (tt, (tt, ((refl, h.calls), (tt, tt))))));
    so_far = (
      quiet (first_state m) (λ k. refl),
      (
        quiet (first_state m) (λ k. refl),
        (
          quiet installed (λ k. refl),
          (quiet posted (each_posted IsQuiet refl (λ k _. refl)), (running, (over, over))),
        ),
      ),
    );
  } where
    running : RunsSoFar m started
    running = record {
      calls = each_started (λ k i. IsTrue (is_started i.phase) → (m.meaning.run i.program m.zero_store i.payload (map (λ (call : Call). call.result) i.calls) m.turns).calls ≡ i.calls)
          (λ _. h.calls) (λ k _ live. absurd (untrue false live refl));
      wants = each_started (λ k i. (f : FunId) (args : ArrayVec ℤ) → i.phase ≡ Waiting f args
          → (m.meaning.run i.program m.zero_store i.payload (map (λ (call : Call). call.result) i.calls) m.turns).end ≡ end.Wants f args)
          (λ f args w. cc) (λ k _ f args w. cc);
    }

    over : RunsSoFar m ended
    over = quiet ended (each_ended IsQuiet refl (λ k _. refl))

  pub one_run-stores : RunsToEnd m p → ShowsStores m (first_state m) (one_run m p)
  one_run-stores h = record {
    shown = (at_start, (tt, (tt, (tt, (tt, (at_end, tt))))));
    before_eras = (tt, (refl, (tt, (tt, (tt, (tt, tt))))));
  } where
    at_start : IsShown m (first_state m) m.zero_store
    at_start = record { variables = refl; buffers = refl; unwritten = λ r _. refl; waiting = λ r n w waits. absurd (untrue false w.started refl) }

    at_end : IsShown m ended (first_run m p).store
    at_end = record {
      variables = h.variables;
      buffers = h.buffers;
      unwritten = λ r _. refl;
      waiting = λ r n w waits. absurd (untrue (is_started (ended.invocations n).phase) w.started (each_ended IsQuiet refl (λ k _. refl) n));
    }

  pub one_run-grants : RunsToEnd m p → GrantsInOrder m (first_state m) 0 (one_run m p)
  one_run-grants h = (
    none_queued (first_state m) (λ k e. cc),
    (
      none_queued (first_state m) (λ k e. cc),
      (
        none_queued installed (λ k e. cc),
        ((may_start, lit< tt), (none_queued started (each_started NotQueued (λ e. cc) (λ k _ e. cc)), (after, after))),
      ),
    ),
  ) where
    after : AllHeldBack m ended
    after = none_queued ended (each_ended NotQueued (λ e. cc) (λ k _ e. cc))

    may_start : MayStart m posted 1
    may_start = λ k ahead conflict.
        elim ahead [
          | inl live ↦ untrue (is_started (posted.invocations k).phase) live (each_posted IsQuiet refl (λ k _. refl) k)
          | inr earlier ↦ past_changed NotQueued before 1 (one Queued) k (λ e. let below : k < 1 = earlier.0 in omega arith) (λ e. cc) earlier.1
        ]

  -- it has no call
  no_call : (e : End) (n q : ℕ) (f : FunId) (args : ArrayVec ℤ)
      → TellsAt (at 1 (Seen m.zero_store) ∷ at 1 (Installed p) ∷ at 2 (Posted 1 main first empty) ∷ at 2 (Started 1) ∷ at 3 (Ended 1 e) ∷ at 4 (Seen (first_run m p).store) ∷ []) q (Asked n f args) → ⊥
  no_call e n zero f args tells = cc
  no_call e n (suc zero) f args tells = cc
  no_call e n (suc (suc zero)) f args tells = cc
  no_call e n (suc (suc (suc zero))) f args tells = cc
  no_call e n (suc (suc (suc (suc zero)))) f args tells = cc
  no_call e n (suc (suc (suc (suc (suc zero))))) f args tells = cc
  no_call e n (suc (suc (suc (suc (suc (suc q)))))) f args tells = tells

  pub one_run-devices : (device_of : DeviceOf) → AsksDevicesInOrder device_of (one_run m p)
  one_run-devices device_of front era back d is one_era = record { ended = λ j k q q' _ _ asks _. absurd (no_asks j q asks) } where
    no_asks : (n q : ℕ) → AsksAt device_of d era n q → ⊥
    no_asks n q asks = no_call (first_run m p).end n (length front + q) asks.fun asks.args
        (subst (λ (es : List TimedEntry). TellsAt es (length front + q) (Asked n asks.fun asks.args)) (sym is) (TellsAt-behind front (era ++ back) q (Asked n asks.fun asks.args) (TellsAt-before era back q (Asked n asks.fun asks.args) asks.tells)))

  pub one_run-events : RunsToEnd m p → IsRunOf m Whole (one_script p) (one_run m p)
  one_run-events h = record { done = one_script p; left = []; steps_are = refl; made = from_install } where
    last : List TimedEntry
    last = at 4 (Seen (first_run m p).store) ∷ []

    running : List TimedEntry
    running = at 3 (Ended 1 (first_run m p).end) ∷ last

    posting : List TimedEntry
    posting = at 2 (Posted 1 main first empty) ∷ at 2 (Started 1) ∷ running

    none_ready : (r : NodeState) → ((n : ℕ) → is_started (r.invocations n).phase ≡ false) → {pace : Pace} {seen : Store} → ShowsReady m r pace seen
    none_ready r quiet = record { ready = λ at n w ready. absurd (untrue (is_started (r.invocations n).phase) w.started (quiet n)) }

    pace_started : Pace
    pace_started = paced no_pace (Started 1)

    turn : Turn
    turn = record { invocation = 1; told = Ended 1 (first_run m p).end ∷ [] }

    installs : Installs m (first_state m) no_pace p (Seen m.zero_store ∷ Installed p ∷ [])
    installs = record {
      seen = m.zero_store;
      rest = [];
      shown = none_ready (first_state m) (λ n. refl);
      newer = h.version;
      made = refl;
      follows = subst (λ (b : Bool). MatchBool b (Occasion m (next_state m (first_state m) (Installed p)) main empty []) (◌≡◌ {A = List JournalEntry} [] [])) (sym h.not_once) refl;
    }

    posts : Posts m installed main empty (Posted 1 main first empty ∷ Started 1 ∷ [])
    posts = record {
      context = first;
      starts = Started 1 ∷ [];
      code = refl;
      first_idle = record { context = h.context; idle = λ n live same. untrue false live refl; lowest = λ k _ below. absurd (omega arith) };
      are_starts = All-from_recursion IsStart (Started 1 ∷ []) (tt, tt);
      made = refl;
    }

    closing : (e : End) → Closes e → Ended 1 e ≡ entry_at 1 e
    closing end.Halt closes = refl
    closing (end.Fault kind) closes = refl
    closing (end.Wants f args) closes = absurd closes

    is_turn : IsTurn m started (gives_way pace_started 1) m.quantum turn
    is_turn = record {
      ready = refl;
      short = λ few. absurd (omega (arith, few, h.quick));
      reached = λ _. record { starts = []; are_starts = All-from_recursion IsStart [] tt; told_is = ap (λ (t : JournalEntry). t ∷ []) (closing (first_run m p).end h.closes) };
    }

    settles : Settles m started pace_started (Ended 1 (first_run m p).end ∷ []) (after_step m started (gives_way pace_started 1) m.quantum turn)
    settles = record {
      turns = turn ∷ [];
      are_turns = (([], refl), is_turn, tt);
      made = refl;
      then = refl;
      empty = refl;
      settled = each_ended (λ k i. i.phase ≡ Ready → ⊥) (λ e. cc) (λ k _ e. cc);
    }

    pace_ended : Pace
    pace_ended = after_step m started (gives_way pace_started 1) m.quantum turn

    at_end : EndsRun m Whole [] 5 4 ended pace_ended last
    at_end = (
      refl,
      Seen (first_run m p).store ∷ [],
      record { seen = (first_run m p).store; shown = none_ready ended (each_ended IsQuiet refl (λ k _. refl)); made = refl },
      refl,
    )

    from_run : HaveMade (EndsRun m Whole []) m 4 3 started pace_started (Run ∷ []) running
    from_run = (lit< tt, Ended 1 (first_run m p).end ∷ [], last, pace_ended, refl, settles, at_end)

    from_post : HaveMade (EndsRun m Whole []) m 2 2 installed no_pace (Post main empty ∷ Run ∷ []) posting
    from_post = (lit< tt, Posted 1 main first empty ∷ Started 1 ∷ [], running, pace_started, refl, (inr (inr posts), refl), from_run)

    from_install : HaveMade (EndsRun m Whole []) m 0 1 (first_state m) no_pace (one_script p) (one_run m p)
    from_install = (lit< tt, Seen m.zero_store ∷ Installed p ∷ [], posting, no_pace, refl, (inl installs, refl), from_post)
