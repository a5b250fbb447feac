-- Whose turns come, and how long they are.
use Rattle.std.proofs.Common.{◌≡◌, ◌≢◌, ◌≤◌, ◌<◌, ℕ, ◌+◌, Bool, true, false, Result, Ok, Err, List, [], ◌∷◌, ◌++◌, min, refl, sym, ap, ◌∙◌, subst, arith}
use Rattle.std.specs.Prelude.{MatchBool, MatchResult, IfOk}
use Rattle.std.proofs.lemmas.Bool.{eq-eqb, ne_eqb}
use Rattle.mate_num.specs.declared.call.Stamp.{Stamp}
use Rattle.mate_num.specs.declared.id.ContextId.{ContextId}
use Rattle.mate_journal.specs.Journal.{JournalEntry, NodeState, state_after_entries, whole_run}
use Rattle.mate_journal.specs.Machine.{Machine}
use Rattle.mate_journal.specs.Pace.{Pace, paced_all, gives_way, others}
use Rattle.mate_journal.specs.Turns.{Turn, IsTurn, AreTurns, entry_at, mark_of, after_turn, after_step, pace_after, told_in}
use Rattle.journal_laws.proofs.Changed.{changed-here, changed-other}
use Rattle.journal_laws.specs.Progress.{IsSomeReady}
use Rattle.node_state.specs.Meaning.{machine_in}
use Rattle.node_calls.specs.Pacing.{SettlesWithin}
use Rattle.node_open.proofs.CallLemmas.{Tells-by}
use Rattle.node_open.specs.Calls.{HasStepped}
use Rattle.node_open.specs.View.{NodeView, Tells, HasPace, heard_of}
use Rattle.callers_node.proofs.NodeLemmas.{heard-behind}
use Rattle.callers_node.specs.Told.{TellsFirst, ExecutesAll}

not_empty : (xs : List ℕ) (x : ℕ) → xs ++ x ∷ [] ≡ [] → ⊥
not_empty [] x e = cc
not_empty (y ∷ ys) x e = cc

first_of_line : (line rest rest' : List ℕ) (a b : ℕ) → line ≡ a ∷ rest → line ≡ b ∷ rest' → a ≡ b
first_of_line line rest rest' a b x y = let e : a ∷ rest ≡ b ∷ rest' = sym x ∙ y in cc

-- a turn in which nothing is recorded
abbrev quiet : ℕ → Turn
quiet a = record { invocation = a; told = [] }

module _ (m : Machine) (r : NodeState) (p : Pace) (a b : ℕ) (rest : List ℕ) (line : p.line ≡ a ∷ b ∷ rest) (apart : a ≢ b)
    (far : p.counts a + m.quantum < mark_of m r a) (near : mark_of m r b ≤ p.counts b + m.quantum) where
  -- the first turn is quiet
  whose : (t : Turn) → (more : List ℕ) × (p.line ≡ t.invocation ∷ more) → t.invocation ≡ a
  whose t (more, is) = first_of_line p.line more (b ∷ rest) t.invocation a is line

  nothing_told : (t : Turn) → t.invocation ≡ a → IsTurn m r p m.quantum t → t.told ≡ []
  nothing_told t is turn = turn.short (subst (λ (n : ℕ). p.counts n + m.quantum < mark_of m r n) (sym is) far)

  -- the line behind it
  then_b : (after_turn m r p (quiet a)).line ≡ b ∷ (others rest a ++ a ∷ [])
  then_b = ap (λ (l : List ℕ). others l a ++ a ∷ []) line ∙ rw (eq-eqb a a refl, ne_eqb a b apart) refl

  count_b : (after_turn m r p (quiet a)).counts b ≡ p.counts b
  count_b = changed-other p.counts a _ b (λ e. apart (sym e))

  -- the second turn is the other's, up to its mark
  second : (u : Turn) → (more : List ℕ) × ((after_turn m r p (quiet a)).line ≡ u.invocation ∷ more) → IsTurn m r (after_turn m r p (quiet a)) m.quantum u
      → TellsFirst (entry_at b (whole_run m r b).end) u.told
  second u (more, is) turn =
      let same : u.invocation ≡ b = first_of_line _ more (others rest a ++ a ∷ []) u.invocation b is then_b in
      let reached : mark_of m r b ≤ (after_turn m r p (quiet a)).counts b + m.quantum =
      subst (λ (n : ℕ). mark_of m r b ≤ n + m.quantum) (sym count_b) near in
      let mark = turn.reached (subst (λ (n : ℕ). mark_of m r n ≤ (after_turn m r p (quiet a)).counts n + m.quantum) (sym same) reached) in
      record { more = mark.starts; is = mark.told_is ∙ ap (λ (n : ℕ). entry_at n (whole_run m r n).end ∷ mark.starts) same }

  behind : (told first more : List JournalEntry) → TellsFirst (entry_at b (whole_run m r b).end) first → told ≡ first ++ more → TellsFirst (entry_at b (whole_run m r b).end) told
  behind told first more begins is = record { more = begins.more ++ more; is = is ∙ ap (λ (ts : List JournalEntry). ts ++ more) begins.is }

  abbrev Further : Turn → ℕ → List JournalEntry → Type 0
  Further u n told =
      ((more : List ℕ) × ((after_turn m r p (record { invocation = n; told = told })).line ≡ u.invocation ∷ more))
      × IsTurn m (state_after_entries m r told) (after_turn m r p (record { invocation = n; told = told })) m.quantum u

  pub by_turns : (turns : List Turn) (told : List JournalEntry) (q : Pace) → AreTurns m r p turns → told ≡ told_in turns → q ≡ pace_after m r p turns → q.line ≡ []
      → TellsFirst (entry_at b (whole_run m r b).end) told
  by_turns [] told q are made then empty =
      let none : a ∷ b ∷ rest ≡ [] = sym line ∙ ap (λ (o : Pace). o.line) (sym then) ∙ empty in absurd cc
  by_turns (t ∷ []) told q are made then empty =
      let is = whose t are.0 in
      let quiet_now : paced_all (record (gives_way p t.invocation) { counts = (after_step m r (gives_way p t.invocation) m.quantum (quiet t.invocation)).counts }) t.told ≡ after_turn m r p (quiet t.invocation) =
      ap (λ (ts : List JournalEntry). paced_all (record (gives_way p t.invocation) { counts = (after_step m r (gives_way p t.invocation) m.quantum (quiet t.invocation)).counts }) ts) (nothing_told t is are.1) in
      absurd (not_empty (others p.line t.invocation) t.invocation (ap (λ (o : Pace). o.line) (sym quiet_now) ∙ ap (λ (o : Pace). o.line) (sym then) ∙ empty))
  by_turns (t ∷ u ∷ ts) told q are made then empty =
      let is = whose t are.0 in
      let none = nothing_told t is are.1 in
      let now : Further u t.invocation t.told = (are.2.0, are.2.1) in
      let quietly : Further u t.invocation [] = subst (Further u t.invocation) none now in
      let further : Further u a [] = subst (λ (n : ℕ). Further u n []) is quietly in
      behind told u.told (told_in ts) (second u further.0 further.1) (made ∙ ap (λ (first : List JournalEntry). first ++ (u.told ++ told_in ts)) none)

-- ---- who is ready, and how long a step is

pub nobody_ready : (old new : NodeView) (at : Stamp) (bound : ℕ) (t : Tells old new at (SettlesWithin (machine_in old.description) bound (heard_of old))) (p : Pace) → HasPace old p → IsSomeReady (heard_of new) → ⊥
nobody_ready old new at bound t p has some =
    (t.paces p has).1.settles.settled some.invocation (ap (λ (r : NodeState). (r.invocations some.invocation).phase) (sym (heard-behind old new at _ t)) ∙ some.ready)

pub executes_all : (m : Machine) (r : NodeState) (c : ContextId) (n ran : ℕ) (p : Pace) (told : List JournalEntry) (q : Pace) → HasStepped m r c n ran p told q → ExecutesAll m r c n ran p told q
executes_all m r c n ran p told q is =
    let turn = is.turn in
    let i = turn.invocation in
    record {
      invocation = i;
      context = turn.context;
      all = λ far.
          let ran_is = is.ran_is in
          let all : ran ≡ n = omega (arith, ran_is, far) in
          let none = turn.turn.short far in (
            all,
            none,
            ap (λ (o : Pace). o.counts i) turn.then ∙ ap (λ (ts : List JournalEntry). (after_step m r p n (record { invocation = i; told = ts })).counts i) none ∙ changed-here p.counts i _
                ∙ (let small : min (p.counts i + n) (mark_of m r i) ≡ p.counts i + n = omega (arith, far) in small),
          );
    }

pub each_executes : {E : Type 0} (old new : NodeView) (at : Stamp) (c : ContextId) (n : ℕ) (result : Result ℕ E) (Refused : E → Type 0)
    → MatchResult result (λ ran. Tells old new at (HasStepped (machine_in old.description) (heard_of old) c n ran)) Refused
    → IfOk result (λ ran. Tells old new at (ExecutesAll (machine_in old.description) (heard_of old) c n ran))
each_executes old new at c n (Ok ran) Refused t =
    Tells-by old new at _ _ (λ p told q x. executes_all (machine_in old.description) (heard_of old) c n ran p told q x) t
each_executes old new at c n (Err e) Refused t = tt

pub not_so : (b : Bool) (Yes No : Type 0) → (Yes → ⊥) → MatchBool b Yes No → b ≡ false
not_so true Yes No none is = absurd (none is)
not_so false Yes No none is = refl
