-- The tests of serial replay tell it.
use Rattle.std.proofs.Common.{◌≡◌, ◌≢◌, ℕ, Bool, true, false, List, [], ◌∷◌, refl, sym, ◌∙◌, ap, subst, inl, inr, ◌⊎◌, if◌then◌else◌}
use Rattle.std.specs.Prelude.{ℤ, Contains, IsTrue, Decides, ◌&&◌, ◌||◌, ◌==◌, not}
use Rattle.std.specs.List.{list_all}
use Rattle.std.proofs.lemmas.Bool.{eqb-true, eq-eqb, both_ways}
use Rattle.std.proofs.lemmas.Bool.Decides.{Decides-eqb, Decides-and, Decides-like}
use Rattle.arrayvec.specs.ArrayVec.{ArrayVec}
use Rattle.mate_num.specs.declared.call.End.{End}
use Rattle.mate_num.specs.declared.call.End.TheVariants as end
use Rattle.mate_num.specs.declared.id.FunId.{FunId}
use Rattle.mate_num.specs.declared.store.Store.{Store}
use Rattle.mate_journal.specs.Machine.{Machine}
use Rattle.mate_journal.specs.Journal.{JournalEntry, Posted, Dropped, Started, Asked, Answered, Ended, Installed, Reset, Seen, Void, TimedEntry, Phase, Unposted, Queued, Ready, Waiting, Over, is_live, is_started, Invocation, NodeState, first_state, in_phase, whole_run, next_state, AtEachEntry}
use Rattle.mate_journal.specs.WellFormed.{MayFollow, IsWellFormed}
use Rattle.mate_journal.specs.Serial.{IsSerial}
use Rattle.mate_journal.specs.Grants.{AreConflicting}
use Rattle.journal_laws.proofs.Apart.{IsNumbered, numbered-step, ready_live}
use Rattle.journal_laws.proofs.Changed.{changed-other}
use Rattle.journal_laws.proofs.Moves.{started_live}
use Rattle.audit_rules.specs.Roll.{Seat, Roll, nobody, seat, rolled, IsRoll}
use Rattle.audit_rules.specs.Granting.{ConflictTest, TellsConflicts}
use Rattle.audit_rules.specs.Replay.{IsRunSoFar, AllRunSoFar, OthersRun, RunsAt, ReplaysAtEnds, GoesByParts}
use Rattle.audit_rules.specs.Same.{same_calls, same_end}
use Rattle.audit_rules.specs.Rerun.{run_on, wants_as, is_so_far, all_so_far, is_undisturbed, ends_right, runs_right, store_left, serial_after, replays_right}
use Rattle.audit_rules.proofs.Deciding.{always, implies-Decides, then-Decides, or-Decides}
use Rattle.audit_rules.proofs.Members.{Contains-nil, Contains-head, Contains-tail, Contains-cases, all-has, has-all}
use Rattle.audit_rules.proofs.RollLemmas.{nobody-IsRoll, IsRoll-step}
use Rattle.audit_rules.proofs.FollowingLemmas.{nothing_heard-numbered}
use Rattle.audit_rules.proofs.GrantLemmas.{conflict-Decides}
use Rattle.audit_rules.proofs.ReplayLemmas.{IsSoFar, told_so_far, so_far_told, ends_enough}
use Rattle.audit_rules.proofs.SameLemmas.{calls-Decides, end-Decides}

wants-Decides : (phase : Phase) (e : End) → Decides (wants_as phase e) ((f : FunId) (args : ArrayVec ℤ) → phase ≡ Waiting f args → e ≡ end.Wants f args)
wants-Decides (Waiting g bs) e =
    Decides-like (same_end e (end.Wants g bs))
    (λ h f args is. let fun : g ≡ f = cc in let same : bs ≡ args = cc in h ∙ ap (λ (x : FunId). end.Wants x bs) fun ∙ ap (λ (x : ArrayVec ℤ). end.Wants f x) same)
    (λ h. h g bs refl)
    (end-Decides e (end.Wants g bs))
wants-Decides _ e = always (λ f args is. cc)

so_far-Decides : (m : Machine) (store : Store) (i : Invocation) → Decides (is_so_far m store i) (IsSoFar m store i)
so_far-Decides m store i =
    Decides-and (same_calls (run_on m store i).calls i.calls) (wants_as i.phase (run_on m store i).end) (calls-Decides (run_on m store i).calls i.calls) (wants-Decides i.phase (run_on m store i).end)

-- of an invocation by its number
run-Decides : (m : Machine) (r : NodeState) (n : ℕ) (i : Invocation) → r.invocations n ≡ i → Decides (is_so_far m r.serial i) (IsRunSoFar m r n)
run-Decides m r n i is =
    Decides-like (is_so_far m r.serial i) (λ h. so_far_told m r n (subst (λ (i : Invocation). IsSoFar m r.serial i) (sym is) h)) (λ h. subst (λ (i : Invocation). IsSoFar m r.serial i) is (told_so_far m r n h))
    (so_far-Decides m r.serial i)

all-Decides : (m : Machine) (r : NodeState) (x : Roll) → IsRoll r x → Decides (all_so_far m x r.serial) (AllRunSoFar m r)
all-Decides m r x right = (there, back) where
  each : (s : Seat) → Contains x.seats s → Decides (not (is_started s.invocation.phase) || is_so_far m r.serial s.invocation) (IsTrue (is_started s.invocation.phase) → IsRunSoFar m r s.number)
  each s has = implies-Decides (is_started s.invocation.phase) (is_so_far m r.serial s.invocation) (λ e. e, λ e. e) (run-Decides m r s.number s.invocation (right.lives s has).1)

  there : all_so_far m x r.serial ≡ true → AllRunSoFar m r
  there all n started =
      let s = seat n (r.invocations n) in
      let has = right.seated n (started_live (r.invocations n).phase started) in
      (each s has).0 (all-has (λ (s : Seat). not (is_started s.invocation.phase) || is_so_far m r.serial s.invocation) x.seats s all has) started

  back : AllRunSoFar m r → all_so_far m x r.serial ≡ true
  back all =
      has-all (λ (s : Seat). not (is_started s.invocation.phase) || is_so_far m r.serial s.invocation) x.seats
      (λ s has. (each s has).1 (λ started. all s.number (ap (λ (i : Invocation). is_started i.phase) (right.lives s has).1 ∙ started)))

-- ---- an end

undisturbed-Decides : (m : Machine) (conflict : ConflictTest) (r : NodeState) (x : Roll) (n : ℕ) (how : End) (s : Seat) → TellsConflicts m.meaning conflict → IsRoll r x → Contains x.seats s
    → Decides (is_undisturbed m conflict r.serial (whole_run m r n).store n (r.invocations n) s)
    (s.number ≢ n → IsTrue (is_started s.invocation.phase) → AreConflicting m r n s.number → IsRunSoFar m r s.number × IsSoFar m (whole_run m r n).store s.invocation)
undisturbed-Decides m conflict r x n how s tells right has =
    let after = (whole_run m r n).store in
    let is = (right.lives s has).1 in
    let runs = is_so_far m r.serial s.invocation && is_so_far m after s.invocation in
    let crossing = not (conflict (r.invocations n).program s.invocation.program) || runs in
    or-Decides (s.number == n) (not (is_started s.invocation.phase) || crossing) (Decides-eqb s.number n)
    (implies-Decides (is_started s.invocation.phase) crossing (λ e. e, λ e. e)
    (implies-Decides (conflict (r.invocations n).program s.invocation.program) runs (conflict-Decides m conflict r (seat n (r.invocations n)) s tells refl is)
    (Decides-and (is_so_far m r.serial s.invocation) (is_so_far m after s.invocation) (run-Decides m r s.number s.invocation is) (so_far-Decides m after s.invocation))))

-- another one after the end is as before
after-end : (m : Machine) (r : NodeState) (n k : ℕ) (how : End) (i : Invocation) → k ≢ n → r.invocations k ≡ i → IsSoFar m (whole_run m r n).store i → IsRunSoFar m (next_state m r (Ended n how)) k
after-end m r n k how i other is h =
    so_far_told m (next_state m r (Ended n how)) k
    (subst (λ (i : Invocation). IsSoFar m (whole_run m r n).store i) (sym (changed-other r.invocations n (in_phase Over (r.invocations n)) k other ∙ is)) h)

end-after : (m : Machine) (r : NodeState) (n k : ℕ) (how : End) (i : Invocation) → k ≢ n → r.invocations k ≡ i → IsRunSoFar m (next_state m r (Ended n how)) k → IsSoFar m (whole_run m r n).store i
end-after m r n k how i other is h =
    subst (λ (i : Invocation). IsSoFar m (whole_run m r n).store i) (changed-other r.invocations n (in_phase Over (r.invocations n)) k other ∙ is) (told_so_far m (next_state m r (Ended n how)) k h)

others-Decides : (m : Machine) (conflict : ConflictTest) (r : NodeState) (x : Roll) (n : ℕ) (how : End) → TellsConflicts m.meaning conflict → IsRoll r x
    → Decides (list_all (is_undisturbed m conflict r.serial (whole_run m r n).store n (r.invocations n)) x.seats) (OthersRun m r (next_state m r (Ended n how)) n)
others-Decides m conflict r x n how tells right = (there, back) where
  there : list_all (is_undisturbed m conflict r.serial (whole_run m r n).store n (r.invocations n)) x.seats ≡ true → OthersRun m r (next_state m r (Ended n how)) n
  there all k other started c =
      let s = seat k (r.invocations k) in
      let has = right.seated k (started_live (r.invocations k).phase started) in
      let h = (undisturbed-Decides m conflict r x n how s tells right has).0 (all-has (is_undisturbed m conflict r.serial (whole_run m r n).store n (r.invocations n)) x.seats s all has) other started c in
      (h.0, after-end m r n k how (r.invocations k) other refl h.1)

  back : OthersRun m r (next_state m r (Ended n how)) n → list_all (is_undisturbed m conflict r.serial (whole_run m r n).store n (r.invocations n)) x.seats ≡ true
  back runs =
      has-all (is_undisturbed m conflict r.serial (whole_run m r n).store n (r.invocations n)) x.seats
      (λ s has. (undisturbed-Decides m conflict r x n how s tells right has).1
      (λ other started c.
      let is = (right.lives s has).1 in
      let h = runs s.number other (ap (λ (i : Invocation). is_started i.phase) is ∙ started) c in
      (h.0, end-after m r n s.number how s.invocation other is h.1)))

-- what is tested of an invocation that ends
abbrev end_test : Machine → ConflictTest → Roll → Store → ℕ → End → Invocation → Bool
end_test m conflict x store n how i =
    (same_end (run_on m store i).end how && same_calls (run_on m store i).calls i.calls) && list_all (is_undisturbed m conflict store (run_on m store i).store n i) x.seats

end_test-Decides : (m : Machine) (conflict : ConflictTest) (r : NodeState) (x : Roll) (n : ℕ) (how : End) → TellsConflicts m.meaning conflict → IsRoll r x
    → Decides (end_test m conflict x r.serial n how (r.invocations n)) (RunsAt m r (Ended n how))
end_test-Decides m conflict r x n how tells right =
    let runs = list_all (is_undisturbed m conflict r.serial (whole_run m r n).store n (r.invocations n)) x.seats in
    let front = same_end (whole_run m r n).end how && same_calls (whole_run m r n).calls (r.invocations n).calls in
    Decides-like (front && runs) (λ h. (h.0.0, h.0.1, h.1)) (λ h. ((h.0, h.1), h.2))
    (Decides-and front runs
    (Decides-and (same_end (whole_run m r n).end how) (same_calls (whole_run m r n).calls (r.invocations n).calls) (end-Decides (whole_run m r n).end how) (calls-Decides (whole_run m r n).calls (r.invocations n).calls))
    (others-Decides m conflict r x n how tells right))

pub ended-Decides : (m : Machine) (conflict : ConflictTest) (r : NodeState) (x : Roll) (n : ℕ) (how : End) → TellsConflicts m.meaning conflict → IsRoll r x → IsTrue (is_live (r.invocations n).phase)
    → Decides (list_all (ends_right m conflict x r.serial n how) x.seats) (RunsAt m r (Ended n how))
ended-Decides m conflict r x n how tells right live = (there, back) where
  each : (t : Seat) → Contains x.seats t → Decides (ends_right m conflict x r.serial n how t) (t.number ≡ n → RunsAt m r (Ended n how))
  each t has =
      then-Decides (t.number == n) (end_test m conflict x r.serial n how t.invocation) (Decides-eqb t.number n)
      (λ e.
      let is : r.invocations n ≡ t.invocation = subst (λ (k : ℕ). r.invocations k ≡ t.invocation) e (right.lives t has).1 in
      subst (λ (i : Invocation). Decides (end_test m conflict x r.serial n how i) (RunsAt m r (Ended n how))) is (end_test-Decides m conflict r x n how tells right))

  there : list_all (ends_right m conflict x r.serial n how) x.seats ≡ true → RunsAt m r (Ended n how)
  there all =
      let t = seat n (r.invocations n) in
      let has = right.seated n live in
      (each t has).0 (all-has (ends_right m conflict x r.serial n how) x.seats t all has) refl

  back : RunsAt m r (Ended n how) → list_all (ends_right m conflict x r.serial n how) x.seats ≡ true
  back runs = has-all (ends_right m conflict x r.serial n how) x.seats (λ t has. (each t has).1 (λ e. runs))

runs-Decides : (m : Machine) (conflict : ConflictTest) (r : NodeState) (x : Roll) (t : JournalEntry) → TellsConflicts m.meaning conflict → IsRoll r x → MayFollow m r t
    → Decides (runs_right m conflict x r.serial t) (RunsAt m r t)
runs-Decides m conflict r x (Ended n how) tells right follows = ended-Decides m conflict r x n how tells right (ready_live r n follows.0)
runs-Decides m conflict r x (Installed p) tells right follows = all-Decides m r x right
runs-Decides m conflict r x Reset tells right follows = all-Decides m r x right
runs-Decides m conflict r x _ tells right follows = always tt

-- ---- the serial store

store_left-is : (m : Machine) (r : NodeState) (n : ℕ) (seats : List Seat) → ((s : Seat) → Contains seats s → r.invocations s.number ≡ s.invocation) → Contains seats (seat n (r.invocations n))
    → store_left m r.serial n seats ≡ (whole_run m r n).store
store_left-is m r n [] each has = absurd (Contains-nil (seat n (r.invocations n)) has)
store_left-is m r n (s ∷ seats) each has = by (s.number == n) refl (Contains-cases s seats (seat n (r.invocations n)) has) (store_left-is m r n seats (λ t later. each t (Contains-tail s seats t later))) where
  by : (b : Bool) → (s.number == n) ≡ b → (s ≡ seat n (r.invocations n)) ⊎ Contains seats (seat n (r.invocations n)) → (Contains seats (seat n (r.invocations n)) → store_left m r.serial n seats ≡ (whole_run m r n).store)
      → (if b then (run_on m r.serial s.invocation).store else store_left m r.serial n seats) ≡ (whole_run m r n).store
  by true is has later =
      let e : r.invocations n ≡ s.invocation = subst (λ (k : ℕ). r.invocations k ≡ s.invocation) (eqb-true s.number n is) (each s (Contains-head s seats s refl)) in
      ap (λ (i : Invocation). (run_on m r.serial i).store) (sym e)
  by false is (inl e) later = absurd (both_ways (s.number == n) is (eq-eqb s.number n (ap (λ (t : Seat). t.number) e)))
  by false is (inr h) later = later h

pub serial-is : (m : Machine) (r : NodeState) (x : Roll) (t : JournalEntry) → IsRoll r x → MayFollow m r t → serial_after m x r.serial t ≡ (next_state m r t).serial
serial-is m r x (Ended n how) right follows = store_left-is m r n x.seats (λ s has. (right.lives s has).1) (right.seated n (ready_live r n follows.0))
serial-is m r x _ right follows = refl

-- ---- along a journal

pub replays-Decides : (m : Machine) (conflict : ConflictTest) (r : NodeState) (x : Roll) (store : Store) (es : List TimedEntry) → TellsConflicts m.meaning conflict → IsNumbered r → IsRoll r x → store ≡ r.serial
    → AtEachEntry (MayFollow m) m r es → Decides (replays_right m conflict x store es) (ReplaysAtEnds m r es)
replays-Decides m conflict r x store [] tells numbered right is follow = subst (λ (s : Store). Decides (all_so_far m x s) (AllRunSoFar m r)) (sym is) (all-Decides m r x right)
replays-Decides m conflict r x store (e ∷ es) tells numbered right is follow =
    subst (λ (s : Store). Decides (replays_right m conflict x s (e ∷ es)) (ReplaysAtEnds m r (e ∷ es))) (sym is)
    (Decides-and (runs_right m conflict x r.serial e.told) (replays_right m conflict (rolled x e.told) (serial_after m x r.serial e.told) es) (runs-Decides m conflict r x e.told tells right follow.0)
    (replays-Decides m conflict (next_state m r e.told) (rolled x e.told) (serial_after m x r.serial e.told) es tells (numbered-step m r e.told follow.0 numbered) (IsRoll-step m r x e.told follow.0 numbered right)
    (serial-is m r x e.told right follow.0) follow.1))

pub replay_told : (m : Machine) (conflict : ConflictTest) (es : List TimedEntry) → GoesByParts m.meaning → TellsConflicts m.meaning conflict → IsWellFormed m (first_state m) es
    → Decides (replays_right m conflict nobody m.zero_store es) (IsSerial m (first_state m) es)
replay_told m conflict es parts tells follows =
    let enough = ends_enough m conflict es parts tells follows in
    Decides-like (replays_right m conflict nobody m.zero_store es) enough.1 enough.0
    (replays-Decides m conflict (first_state m) nobody m.zero_store es tells (nothing_heard-numbered m) (nobody-IsRoll m) refl follows.follow)
