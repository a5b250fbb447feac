-- Turns of an invocation that alone is ready: one after another they are one longer turn.
use Rattle.std.proofs.Common.{◌≡◌, ◌⊎◌, ℕ, zero, suc, ◌+◌, ◌*◌, ◌<◌, ◌≤◌, Bool, cond, not, List, [], ◌∷◌, ◌++◌, refl, sym, ◌∙◌, ap, subst, arith, inl, inr}
use Rattle.std.specs.Prelude.{min}
use Rattle.std.proofs.lemmas.Bool.{cases_eq, cases_lt, eq-eqb}
use Rattle.std.proofs.lemmas.List.{append-nil}
use Rattle.mate_journal.specs.Machine.{Machine}
use Rattle.mate_journal.specs.Journal.{NodeState, changed}
use Rattle.mate_journal.specs.Pace.{Pace, others, gives_way, paced_all}
use Rattle.mate_journal.specs.Turns.{Turn, IsTurn, mark_of, after_step, after_turn}
use Rattle.node_state.proofs.FitLemmas.{changed-here, changed-other}
use Rattle.node_calls.specs.Pacing.{AreTogether}

changed-again : (f : ℕ → ℕ) (n a b : ℕ) → changed (changed f n a) n b ≡ changed f n b
changed-again f n a b = λ i k. by k (cases_eq k n) i where
  by : (k : ℕ) → (k ≡ n) ⊎ (k ≡ n → ⊥) → changed (changed f n a) n b k ≡ changed f n b k
  by k (inl e) = changed-here (changed f n a) n b k e ∙ sym (changed-here f n b k e)
  by k (inr other) = changed-other (changed f n a) n b k other ∙ changed-other f n a k other ∙ sym (changed-other f n b k other)

-- who is alone in the line, is alone in it after giving way
line-lone : (p : Pace) (n : ℕ) → p.line ≡ n ∷ [] → (gives_way p n).line ≡ n ∷ []
line-lone p n e =
    ap (λ (l : List ℕ). others l n ++ n ∷ []) e
    ∙ ap (λ (t : Bool). cond (not t) (n ∷ []) [] ++ n ∷ []) (eq-eqb n n refl)

module _ (m : Machine) (bound : ℕ) (r : NodeState) (t : Turn) where
  abbrev pub mark : ℕ
  mark = mark_of m r t.invocation

  -- a quantum of it that tells nothing
  abbrev pub first : Turn
  first = record { invocation = t.invocation; told = [] }

  -- one turn of a quantum
  pub AreTogether-one : mark_of m r t.invocation ≤ bound → (p : Pace) (rest : List ℕ) → p.line ≡ t.invocation ∷ rest → IsTurn m r p m.quantum t → AreTogether m bound r p (after_turn m r p t) t.told
  AreTogether-one within p rest line turn = record {
    turns = t ∷ [];
    are_turns = ((rest, line), turn, tt);
    made = sym (append-nil t.told);
    within = (within, tt);
    then = refl;
  }

  -- of an invocation that alone is ready
  pub AreTogether-lone : mark_of m r t.invocation ≤ bound → (more n : ℕ) → n ≡ m.quantum + m.quantum * more → (p : Pace) → p.line ≡ t.invocation ∷ [] → IsTurn m r p n t
      → AreTogether m bound r p (after_step m r (gives_way p t.invocation) n t) t.told
  AreTogether-lone within zero n are p lone turn =
      let P : ℕ → Type 0 = λ j. IsTurn m r p j t → AreTogether m bound r p (after_step m r (gives_way p t.invocation) j t) t.told in
      let one : m.quantum ≡ n = omega arith in
      subst P one (AreTogether-one within p [] lone) turn
  AreTogether-lone within (suc more) n are p lone turn = by (cases_lt (p.counts t.invocation + m.quantum) mark) (λ q line later. AreTogether-lone within more (m.quantum + m.quantum * more) refl q line later) where
    left-is : n ≡ m.quantum + (m.quantum + m.quantum * more)
    left-is = omega arith

    by : (p.counts t.invocation + m.quantum < mark) ⊎ (mark ≤ p.counts t.invocation + m.quantum)
        → ((q : Pace) → q.line ≡ t.invocation ∷ [] → IsTurn m r q (m.quantum + m.quantum * more) t → AreTogether m bound r q (after_step m r (gives_way q t.invocation) (m.quantum + m.quantum * more) t) t.told)
        → AreTogether m bound r p (after_step m r (gives_way p t.invocation) n t) t.told
    by (inr above) further =
        let one : IsTurn m r p m.quantum t = record { ready = turn.ready; short = λ below. absurd (omega arith); reached = λ here. turn.reached (let e = left-is in omega arith) } in
        let x = AreTogether-one within p [] lone one in
        record {
          turns = x.turns;
          are_turns = x.are_turns;
          made = x.made;
          within = x.within;
          then = x.then ∙ ap (λ (j : ℕ). paced_all (record (gives_way p t.invocation) { counts = changed p.counts t.invocation j }) t.told) (let e = left-is in omega arith);
        }
    by (inl below) further =
        let q : Pace = after_turn m r p first in
        let left : ℕ = m.quantum + m.quantum * more in
        let counted : q.counts t.invocation ≡ p.counts t.invocation + m.quantum = changed-here p.counts t.invocation (min (p.counts t.invocation + m.quantum) mark) t.invocation refl ∙ omega arith in
        let line = line-lone p t.invocation lone in
        let e = left-is in
        let later : IsTurn m r q left t = record { ready = turn.ready; short = λ b. turn.short (omega arith); reached = λ a. turn.reached (omega arith) } in
        let x = further q line later in
        record {
          turns = first ∷ x.turns;
          are_turns = (([], lone), record { ready = turn.ready; short = λ b. refl; reached = λ a. absurd (omega arith) }, x.are_turns);
          made = x.made;
          within = (within, x.within);
          then = x.then
              ∙ ap (λ (l : List ℕ). paced_all record { line = l; counts = changed q.counts t.invocation (min (q.counts t.invocation + left) mark) } t.told) (line-lone q t.invocation line ∙ sym line)
              ∙ ap (λ (c : ℕ → ℕ). paced_all record { line = (gives_way p t.invocation).line; counts = c } t.told)
              (changed-again p.counts t.invocation (min (p.counts t.invocation + m.quantum) mark) (min (q.counts t.invocation + left) mark) ∙ ap (changed p.counts t.invocation) (omega arith));
        }
