-- What an invocation does behind an answer.
use Rattle.std.proofs.Common.{◌≡◌, ◌≤◌, ℕ, ◌+◌, ℤ, List, [], ◌∷◌, ◌++◌, map, length, Result, Ok, Err, refl, sym, ap, ◌∙◌, subst, append_assoc, inl, inr, arith}
use Rattle.std.specs.Prelude.{MatchResult, IsOk, OnOk}
use Rattle.std.proofs.lemmas.List.{map-append}
use Rattle.std.proofs.lemmas.Bool.{cases_lt}
use Rattle.mate_num.specs.declared.call.Call.{Call}
use Rattle.mate_num.specs.declared.call.Stamp.{Stamp}
use Rattle.mate_num.specs.declared.id.ContextId.{ContextId}
use Rattle.vm_shape.specs.declared.description.Description.{Description}
use Rattle.mate_journal.specs.Log.{Log}
use Rattle.mate_journal.specs.Journal.{JournalEntry, Answered, TimedEntry, Invocation, NodeState, Phase, Ready, is_live, next_state, state_after_entries, answers_of, journal_of, first_state, whole_run}
use Rattle.mate_journal.specs.Machine.{Machine}
use Rattle.mate_journal.specs.NodeScript.{AnswersCall, IsReadyIn}
use Rattle.mate_journal.specs.Pace.{Pace}
use Rattle.mate_journal.specs.Turns.{entry_at, mark_of}
use Rattle.journal_laws.proofs.Changed.{changed-here}
use Rattle.journal_laws.proofs.WaitsApart.{LiveApart, apart-after, nothing_heard-apart}
use Rattle.node_state.specs.Keeps.{reading, event_at}
use Rattle.node_state.specs.Meaning.{machine_in}
use Rattle.node_calls.proofs.AnswerLemmas.{given}
use Rattle.node_open.specs.Calls.{HasStepped, Pacing}
use Rattle.node_open.specs.Journal.{KeepsJournal}
use Rattle.node_open.specs.View.{NodeView, Tells, HasPace, heard_of}
use Rattle.callers_node.proofs.NodeLemmas.{heard-behind}
use Rattle.callers_node.specs.Told.{GoesByAnswer, entry_by_answer}

-- live invocations have contexts of their own
live_apart : (d : Description) (l : Log) → KeepsJournal d (machine_in d) l → LiveApart (reading d l)
unfolding reading
live_apart d l keeps = apart-after (machine_in d) (first_state (machine_in d)) (journal_of l) keeps.well_formed.follow (nothing_heard-apart (machine_in d))

module _ (m : Machine) (r : NodeState) (c : ContextId) (value : ℤ) (told : List JournalEntry) (answers : AnswersCall r c value told) where
  abbrev pub n : ℕ
  n = answers.invocation

  abbrev pub s : NodeState
  s = next_state m r (Answered n value)

  pub state-behind : state_after_entries m r told ≡ s
  state-behind = ap (state_after_entries m r) answers.made

  answered-is : s.invocations n ≡ given m r value (r.invocations n)
  answered-is = changed-here r.invocations n _

  ready : (s.invocations n).phase ≡ Ready
  ready = ap (λ (i : Invocation). i.phase) answered-is

  in_context : (s.invocations n).context ≡ c
  in_context = ap (λ (i : Invocation). i.context) answered-is ∙ answers.context

  pub ready-behind : IsReadyIn s c
  ready-behind = record { invocation = n; ready = ready; context = in_context }

  calls-are : (given m r value (r.invocations n)).calls ≡ (r.invocations n).calls ++ record { fun = answers.waits.fun; args = answers.waits.args; result = value } ∷ []
  calls-are = ap (λ (p : Phase). (given m r value (record (r.invocations n) { phase = p })).calls) answers.waits.waits

  answers-are : answers_of (s.invocations n) ≡ answers_of (r.invocations n) ++ value ∷ []
  answers-are =
      ap answers_of answered-is ∙ ap (λ (cs : List Call). map (λ (call : Call). call.result) cs) calls-are
      ∙ map-append (λ (call : Call). call.result) (r.invocations n).calls _

  entry-is : entry_at n (whole_run m s n).end ≡ entry_by_answer m r n value
  entry-is =
      let i = r.invocations n in
      ap (λ (j : Invocation). entry_at n (m.meaning.run j.program r.serial j.payload (answers_of (s.invocations n)) m.turns).end) answered-is
      ∙ ap (λ (xs : List ℤ). entry_at n (m.meaning.run i.program r.serial i.payload xs m.turns).end) answers-are

  -- whoever has a turn in the context is the one that was answered
  pub goes_by : (k ran : ℕ) (p : Pace) (next : List JournalEntry) (q : Pace) → LiveApart s → HasStepped m s c k ran p next q → GoesByAnswer m r c value (told ++ next)
  goes_by k ran p next q apart stepped =
      let turn = stepped.turn in
      let same : turn.invocation ≡ n =
      apart turn.invocation n (let live : is_live (s.invocations turn.invocation).phase ≡ is_live Ready = ap is_live turn.turn.ready in live)
      (let live : is_live (s.invocations n).phase ≡ is_live Ready = ap is_live ready in live) (turn.context ∙ sym in_context) in
      record {
        invocation = n;
        context = answers.context;
        next = next;
        is = ap (λ (ts : List JournalEntry). ts ++ next) answers.made;
        by = elim (cases_lt (p.counts turn.invocation + k) (mark_of m s turn.invocation)) [
          | inl short ↦ inl (turn.turn.short short)
          | inr reached ↦
              let mark = turn.turn.reached reached in
              inr (mark.starts, mark.are_starts, mark.told_is ∙ ap (λ (j : ℕ). entry_at j (whole_run m s j).end ∷ mark.starts) same ∙ ap (λ (e : JournalEntry). e ∷ mark.starts) entry-is)
        ];
      }

-- ---- an answer and a step

abbrev pub AnswersThen : ContextId → ℤ → NodeView → NodeView → Stamp → Type 0
AnswersThen c value old mid at = Tells old mid at (Pacing (λ _. AnswersCall (heard_of old) c value))

module _ (old mid : NodeView) (at : Stamp) (c : ContextId) (value : ℤ) (t : AnswersThen c value old mid at) (p : Pace) (has : HasPace old p) where
  abbrev m : Machine
  m = machine_in old.description

  answers : AnswersCall (heard_of old) c value t.told
  answers = (t.paces p has).1.0

  heard-mid : heard_of mid ≡ next_state m (heard_of old) (Answered answers.invocation value)
  heard-mid = heard-behind old mid at _ t ∙ state-behind m (heard_of old) c value t.told answers

  pub ready_again : IsReadyIn (heard_of mid) c
  ready_again = subst (λ (r : NodeState). IsReadyIn r c) (sym heard-mid) (ready-behind m (heard_of old) c value t.told answers)

  -- one entry took room
  pub room_left : 17 ≤ old.log.spare → 16 ≤ mid.log.spare
  room_left room =
      let one : length t.told ≡ 1 = ap length answers.made in
      let spare = t.grows.spare in
      omega (arith, one, spare, room)

  pub not_refused : {A E : Type 0} (r : Result A E) (Done : A → Type 0) (Same : Type 0) → MatchResult r Done (λ _. (IsReadyIn (heard_of mid) c → ⊥) × Same) → IsOk r
  not_refused (Ok a) Done Same gives = refl
  not_refused (Err e) Done Same gives = absurd (gives.0 ready_again)

  -- what both record
  abbrev pub Both : NodeView → Type 0
  Both new = (told : List JournalEntry) × (journal_of new.log ≡ journal_of old.log ++ map (event_at at) told)
      × GoesByAnswer m (heard_of old) c value told

  stepped : (new : NodeView) (k ran : ℕ) → KeepsJournal mid.description (machine_in mid.description) mid.log
      → Tells mid new at (HasStepped (machine_in mid.description) (heard_of mid) c k ran) → Both new
  stepped new k ran keeps u =
      let q = (t.paces p has).0 in
      let step = (u.paces q (t.paces p has).2).1 in
      let r2 = (u.paces q (t.paces p has).2).0 in
      let apart = live_apart mid.description mid.log keeps in
      let as_is : HasStepped m (heard_of mid) c k ran q u.told r2 =
      subst (λ (d : Description). HasStepped (machine_in d) (heard_of mid) c k ran q u.told r2) t.description step in (
        t.told ++ u.told,
        u.grows.journal ∙ ap (λ (es : List TimedEntry). es ++ map (event_at at) u.told) t.grows.journal
            ∙ append_assoc (journal_of old.log) (map (event_at at) t.told) (map (event_at at) u.told)
            ∙ ap (λ (es : List TimedEntry). journal_of old.log ++ es) (sym (map-append (event_at at) t.told u.told)),
        goes_by m (heard_of old) c value t.told answers k ran q u.told r2
            (subst LiveApart heard-mid apart) (subst (λ (r : NodeState). HasStepped m r c k ran q u.told r2) heard-mid as_is),
      )

  pub both : {E : Type 0} (r : Result ℕ E) (new : NodeView) (k : ℕ) (Refused : E → Type 0) → KeepsJournal mid.description (machine_in mid.description) mid.log
      → MatchResult r (λ ran. Tells mid new at (HasStepped (machine_in mid.description) (heard_of mid) c k ran)) Refused → OnOk r (Both new)
  both (Ok ran) new k Refused keeps u = stepped new k ran keeps u
  both (Err e) new k Refused keeps u = tt
