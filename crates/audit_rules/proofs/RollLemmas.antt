-- What the roll tells of what was heard, and that it is kept entry by entry.
use Rattle.std.proofs.Common.{◌≡◌, ◌≢◌, ℕ, suc, Bool, true, false, true≢false, [], ◌∷◌, ◌++◌, map, refl, sym, ◌∙◌, ap, subst, arith, inl, inr, if◌then◌else◌, Option, Some}
use Rattle.std.specs.Prelude.{ℤ, Contains, IsTrue, Decides, filter, ◌&&◌, ◌==◌, not, unwrap_or}
use Rattle.std.proofs.lemmas.Bool.{eqb-true, eq-eqb, and_parts, and_from}
use Rattle.std.proofs.lemmas.Bool.Decides.{eqb_tells}
use Rattle.std.proofs.lemmas.List.Elements.{Contains-push, Contains-push_cases, Contains-append_left}
use Rattle.arrayvec.specs.ArrayVec.{ArrayVec}
use Rattle.mate_num.specs.declared.call.End.{End}
use Rattle.mate_num.specs.declared.id.ContextId.{ContextId}
use Rattle.mate_num.specs.declared.id.HandlerId.{HandlerId}
use Rattle.mate_journal.specs.Machine.{Machine, HeldProgram}
use Rattle.mate_journal.specs.Journal.{JournalEntry, Posted, Dropped, Started, Asked, Answered, Ended, Installed, Reset, Seen, Void, Phase, Unposted, Queued, Ready, Waiting, Over, is_live, Invocation, NodeState, first_state, no_program, changed, in_phase, cut_at_era, next_state}
use Rattle.mate_journal.specs.WellFormed.{MayFollow, IsWaiting}
use Rattle.journal_laws.proofs.Changed.{changed-here, changed-other, untrue}
use Rattle.journal_laws.proofs.Moves.{cut-dead}
use Rattle.journal_laws.proofs.Apart.{IsNumbered, live_posted, queued_live, ready_live, waiting_live}
use Rattle.audit_rules.specs.Roll.{Seat, Roll, nobody, seat, is_queued, is_ready, is_waiting, seat_changed, roll_changed, has_other_number, with_answer, rolled, IsRoll, is_at}
use Rattle.audit_rules.proofs.Members.{Contains-nil, Contains-map, Contains-map_from, Contains-filter, Contains-filter_from, any-has, has-any}

-- ---- what the roll tells

-- a test that only live phases pass
abbrev pub IsLiveTest : (Phase → Bool) → Type 0
IsLiveTest test = (phase : Phase) → test phase ≡ true → is_live phase ≡ true

pub at-Decides : (r : NodeState) (x : Roll) (n : ℕ) (test : Phase → Bool) → IsRoll r x → IsLiveTest test → Decides (is_at x n test) (test (r.invocations n).phase ≡ true)
at-Decides r x n test right live = (there, back) where
  there : is_at x n test ≡ true → test (r.invocations n).phase ≡ true
  there found =
      let g = has-any (λ (s : Seat). (s.number == n) && test s.invocation.phase) x.seats found in
      let parts = and_parts (g.0.number == n) (test g.0.invocation.phase) g.2 in
      let number : g.0.number ≡ n = eqb-true g.0.number n parts.0 in
      let passes : test g.0.invocation.phase ≡ true = parts.1 in
      let is : r.invocations g.0.number ≡ g.0.invocation = (right.lives g.0 g.1).1 in
      subst (λ (k : ℕ). test (r.invocations k).phase ≡ true) number (ap (λ (i : Invocation). test i.phase) is ∙ passes)

  back : test (r.invocations n).phase ≡ true → is_at x n test ≡ true
  back passes =
      any-has (λ (s : Seat). (s.number == n) && test s.invocation.phase) x.seats (seat n (r.invocations n)) (right.seated n (live (r.invocations n).phase passes))
      (and_from (n == n) (test (r.invocations n).phase) (eq-eqb n n refl) passes)

pub queued-LiveTest : IsLiveTest is_queued
queued-LiveTest Unposted is = is
queued-LiveTest Over is = is
queued-LiveTest _ is = refl

pub ready-LiveTest : IsLiveTest is_ready
ready-LiveTest Unposted is = is
ready-LiveTest Over is = is
ready-LiveTest _ is = refl

pub waiting-LiveTest : IsLiveTest is_waiting
waiting-LiveTest Unposted is = is
waiting-LiveTest Over is = is
waiting-LiveTest _ is = refl

pub queued-Decides : (phase : Phase) → Decides (is_queued phase) (phase ≡ Queued)
queued-Decides Queued = (λ e. refl, λ e. refl)
queued-Decides _ = (λ e. cc, λ e. cc)

pub ready-Decides : (phase : Phase) → Decides (is_ready phase) (phase ≡ Ready)
ready-Decides Ready = (λ e. refl, λ e. refl)
ready-Decides _ = (λ e. cc, λ e. cc)

pub waiting-Decides : (r : NodeState) (n : ℕ) → Decides (is_waiting (r.invocations n).phase) (IsWaiting r n)
waiting-Decides r n = by (r.invocations n).phase refl where
  by : (phase : Phase) → (r.invocations n).phase ≡ phase → Decides (is_waiting phase) (IsWaiting r n)
  by Unposted is = (λ e. cc, λ w. let e : Unposted ≡ Waiting w.fun w.args = sym is ∙ w.waits in cc)
  by Queued is = (λ e. cc, λ w. let e : Queued ≡ Waiting w.fun w.args = sym is ∙ w.waits in cc)
  by Ready is = (λ e. cc, λ w. let e : Ready ≡ Waiting w.fun w.args = sym is ∙ w.waits in cc)
  by (Waiting f args) is = (λ e. record { fun = f; args = args; waits = is }, λ w. refl)
  by Over is = (λ e. cc, λ w. let e : Over ≡ Waiting w.fun w.args = sym is ∙ w.waits in cc)

-- ---- before anything was heard

pub nobody-IsRoll : (m : Machine) → IsRoll (first_state m) nobody
nobody-IsRoll m = record {
  posts = refl;
  installed = λ h. refl;
  lives = λ s has. absurd (Contains-nil s has);
  seated = λ n live. absurd (untrue false live refl);
}

-- ---- one is posted

posted-IsRoll : (m : Machine) (r : NodeState) (x : Roll) (n : ℕ) (h : HandlerId) (c : ContextId) (payload : ArrayVec ℤ) → n ≡ suc r.posts → IsNumbered r → IsRoll r x
    → IsRoll (next_state m r (Posted n h c payload)) (rolled x (Posted n h c payload))
posted-IsRoll m r x n h c payload next numbered right = record {
  posts = refl;
  installed = right.installed;
  lives = λ s has. elim (Contains-push_cases x.seats (seat n posted) s has) [ inl old ↦ lives_old s old | inr e ↦ lives_new s e ];
  seated = λ k live. elim (eqb_tells k n) [ inl t ↦ seated_new k t.1 | inr u ↦ seated_old k u.1 live ];
} where
  posted : Invocation
  posted = record { handler = h; context = c; program = unwrap_or (x.installed h) no_program; payload = payload; calls = []; phase = Queued }

  told : Invocation
  told = record { handler = h; context = c; program = unwrap_or (r.installed h) no_program; payload = payload; calls = []; phase = Queued }

  same : posted ≡ told
  same = ap (λ (o : Option HeldProgram). let i : Invocation = record { handler = h; context = c; program = unwrap_or o no_program; payload = payload; calls = []; phase = Queued } in i) (right.installed h)

  lives_old : (s : Seat) → Contains x.seats s → IsTrue (is_live s.invocation.phase) × (changed r.invocations n told s.number ≡ s.invocation)
  lives_old s old =
      let g = right.lives s old in
      let live : IsTrue (is_live (r.invocations s.number).phase) = ap (λ (i : Invocation). is_live i.phase) g.1 ∙ g.0 in
      let below = live_posted r s.number numbered live in
      (g.0, changed-other r.invocations n told s.number (omega (arith, below, next)) ∙ g.1)

  lives_new : (s : Seat) → seat n posted ≡ s → IsTrue (is_live s.invocation.phase) × (changed r.invocations n told s.number ≡ s.invocation)
  lives_new s e =
      subst (λ (s : Seat). IsTrue (is_live s.invocation.phase) × (changed r.invocations n told s.number ≡ s.invocation)) e (refl, changed-here r.invocations n told ∙ sym same)

  seated_new : (k : ℕ) → k ≡ n → Contains (x.seats ++ seat n posted ∷ []) (seat k (changed r.invocations n told k))
  seated_new k e =
      subst (λ (j : ℕ). Contains (x.seats ++ seat n posted ∷ []) (seat j (changed r.invocations n told j))) (sym e)
      (subst (λ (i : Invocation). Contains (x.seats ++ seat n posted ∷ []) (seat n i)) (same ∙ sym (changed-here r.invocations n told)) (Contains-push x.seats (seat n posted)))

  seated_old : (k : ℕ) → k ≢ n → IsTrue (is_live (changed r.invocations n told k).phase) → Contains (x.seats ++ seat n posted ∷ []) (seat k (changed r.invocations n told k))
  seated_old k other live =
      let is = changed-other r.invocations n told k other in
      let was : IsTrue (is_live (r.invocations k).phase) = ap (λ (i : Invocation). is_live i.phase) (sym is) ∙ live in
      subst (λ (i : Invocation). Contains (x.seats ++ seat n posted ∷ []) (seat k i)) (sym is) (Contains-append_left x.seats (seat n posted ∷ []) (seat k (r.invocations k)) (right.seated k was))

-- the seat is that of a live invocation
abbrev IsSeatOf : NodeState → Seat → Type 0
IsSeatOf t s = IsTrue (is_live s.invocation.phase) × (t.invocations s.number ≡ s.invocation)

-- ---- one moves

pub seat_changed-here : (n : ℕ) (f : Invocation → Invocation) (s : Seat) → s.number ≡ n → seat_changed n f s ≡ seat s.number (f s.invocation)
seat_changed-here n f s e = elim (eqb_tells s.number n) [ inl t ↦ rw t.0 refl | inr u ↦ absurd (u.1 e) ]

pub seat_changed-other : (n : ℕ) (f : Invocation → Invocation) (s : Seat) → s.number ≢ n → seat_changed n f s ≡ s
seat_changed-other n f s other = elim (eqb_tells s.number n) [ inl t ↦ absurd (other t.1) | inr u ↦ rw u.0 refl ]

-- the invocation n comes to another state, and stays live
roll_changed-IsRoll : (r t : NodeState) (x : Roll) (n : ℕ) (f : Invocation → Invocation) → t.posts ≡ r.posts → ((h : HandlerId) → t.installed h ≡ r.installed h)
    → ((k : ℕ) → t.invocations k ≡ changed r.invocations n (f (r.invocations n)) k)
    → IsTrue (is_live (r.invocations n).phase) → IsTrue (is_live (f (r.invocations n)).phase) → IsRoll r x → IsRoll t (roll_changed n f x)
roll_changed-IsRoll r t x n f posts installed each was now right = record {
  posts = right.posts ∙ sym posts;
  installed = λ h. right.installed h ∙ sym (installed h);
  lives = λ s has. let g = Contains-map_from (seat_changed n f) x.seats s has in lives_from g.0 s g.1 g.2;
  seated = λ k live. elim (eqb_tells k n) [ inl e ↦ seated_here k e.1 | inr u ↦ seated_other k u.1 live ];
} where
  here : t.invocations n ≡ f (r.invocations n)
  here = each n ∙ changed-here r.invocations n (f (r.invocations n))

  elsewhere : (k : ℕ) → k ≢ n → t.invocations k ≡ r.invocations k
  elsewhere k other = each k ∙ changed-other r.invocations n (f (r.invocations n)) k other

  at_here : (a : Seat) → Contains x.seats a → a.number ≡ n → IsSeatOf t (seat a.number (f a.invocation))
  at_here a has e =
      let is : r.invocations n ≡ a.invocation = subst (λ (k : ℕ). r.invocations k ≡ a.invocation) e (right.lives a has).1 in
      (subst (λ (i : Invocation). IsTrue (is_live (f i).phase)) is now, ap t.invocations e ∙ here ∙ ap f is)

  lives_from : (a s : Seat) → Contains x.seats a → seat_changed n f a ≡ s → IsSeatOf t s
  lives_from a s has is =
      subst (IsSeatOf t) is (elim (eqb_tells a.number n) [
        | inl e ↦ subst (IsSeatOf t) (sym (seat_changed-here n f a e.1)) (at_here a has e.1)
        | inr u ↦ subst (IsSeatOf t) (sym (seat_changed-other n f a u.1)) (let g = right.lives a has in (g.0, elsewhere a.number u.1 ∙ g.1))
      ])

  seated_here : (k : ℕ) → k ≡ n → Contains (map (seat_changed n f) x.seats) (seat k (t.invocations k))
  seated_here k e =
      subst (λ (j : ℕ). Contains (map (seat_changed n f) x.seats) (seat j (t.invocations j))) (sym e)
      (subst (λ (s : Seat). Contains (map (seat_changed n f) x.seats) s) (seat_changed-here n f (seat n (r.invocations n)) refl ∙ ap (seat n) (sym here))
      (Contains-map (seat_changed n f) x.seats (seat n (r.invocations n)) (right.seated n was)))

  seated_other : (k : ℕ) → k ≢ n → IsTrue (is_live (t.invocations k).phase) → Contains (map (seat_changed n f) x.seats) (seat k (t.invocations k))
  seated_other k other live =
      let is = elsewhere k other in
      let lived : IsTrue (is_live (r.invocations k).phase) = ap (λ (i : Invocation). is_live i.phase) (sym is) ∙ live in
      subst (λ (s : Seat). Contains (map (seat_changed n f) x.seats) s) (seat_changed-other n f (seat k (r.invocations k)) other ∙ ap (seat k) (sym is))
      (Contains-map (seat_changed n f) x.seats (seat k (r.invocations k)) (right.seated k lived))

-- ---- one ends

has_other_number-true : (n k : ℕ) → k ≢ n → (i : Invocation) → has_other_number n (seat k i) ≡ true
has_other_number-true n k other i = elim (eqb_tells k n) [ inl t ↦ absurd (other t.1) | inr u ↦ ap not u.0 ]

has_other_number-apart : (n : ℕ) (s : Seat) → has_other_number n s ≡ true → s.number ≢ n
has_other_number-apart n s is e = elim (eqb_tells s.number n) [ inl t ↦ true≢false (sym is ∙ ap not t.0) | inr u ↦ u.1 e ]

ended-IsRoll : (m : Machine) (r : NodeState) (x : Roll) (n : ℕ) (how : End) → IsRoll r x → IsRoll (next_state m r (Ended n how)) (rolled x (Ended n how))
ended-IsRoll m r x n how right = record {
  posts = right.posts;
  installed = right.installed;
  lives = λ s has.
      let g = Contains-filter_from (has_other_number n) x.seats s has in
      let l = right.lives s g.0 in
      (l.0, changed-other r.invocations n (in_phase Over (r.invocations n)) s.number (has_other_number-apart n s g.1) ∙ l.1);
  seated = λ k live. elim (eqb_tells k n) [ inl t ↦ absurd (dead k t.1 live) | inr u ↦ seated_other k u.1 live ];
} where
  over : Invocation
  over = in_phase Over (r.invocations n)

  dead : (k : ℕ) → k ≡ n → IsTrue (is_live (changed r.invocations n over k).phase) → ⊥
  dead k e live = untrue (is_live (changed r.invocations n over n).phase) (subst (λ (j : ℕ). IsTrue (is_live (changed r.invocations n over j).phase)) e live) (ap (λ (i : Invocation). is_live i.phase) (changed-here r.invocations n over))

  seated_other : (k : ℕ) → k ≢ n → IsTrue (is_live (changed r.invocations n over k).phase) → Contains (filter (has_other_number n) x.seats) (seat k (changed r.invocations n over k))
  seated_other k other live =
      let is = changed-other r.invocations n over k other in
      let lived : IsTrue (is_live (r.invocations k).phase) = ap (λ (i : Invocation). is_live i.phase) (sym is) ∙ live in
      subst (λ (i : Invocation). Contains (filter (has_other_number n) x.seats) (seat k i)) (sym is)
      (Contains-filter (has_other_number n) x.seats (seat k (r.invocations k)) (right.seated k lived) (has_other_number-true n k other (r.invocations k)))

-- ---- an era ends

nobody_lives : (r : NodeState) (n : ℕ) → IsTrue (is_live (cut_at_era (r.invocations n)).phase) → ⊥
nobody_lives r n live = cut-dead (r.invocations n) live

-- ---- each entry

pub IsRoll-step : (m : Machine) (r : NodeState) (x : Roll) (t : JournalEntry) → MayFollow m r t → IsNumbered r → IsRoll r x → IsRoll (next_state m r t) (rolled x t)
IsRoll-step m r x (Posted n h c payload) follows numbered right = posted-IsRoll m r x n h c payload follows.0 numbered right
IsRoll-step m r x (Started n) follows numbered right =
    roll_changed-IsRoll r (next_state m r (Started n)) x n (in_phase Ready) refl (λ h. refl) (λ k. refl) (queued_live r n follows) refl right
IsRoll-step m r x (Asked n f args) follows numbered right =
    roll_changed-IsRoll r (next_state m r (Asked n f args)) x n (in_phase (Waiting f args)) refl (λ h. refl) (λ k. refl) (ready_live r n follows) refl right
IsRoll-step m r x (Answered n value) follows numbered right =
    roll_changed-IsRoll r (next_state m r (Answered n value)) x n (with_answer value) refl (λ h. refl) (λ k. refl) (waiting_live r n follows) refl right
IsRoll-step m r x (Ended n how) follows numbered right = ended-IsRoll m r x n how right
IsRoll-step m r x (Installed p) follows numbered right = record {
  posts = right.posts;
  installed = λ h. ap (λ (o : Option HeldProgram). if h.0 == p.handler.0 then Some p else o) (right.installed h);
  lives = λ s has. absurd (Contains-nil s has);
  seated = λ n live. absurd (nobody_lives r n live);
}
IsRoll-step m r x Reset follows numbered right = record {
  posts = right.posts;
  installed = right.installed;
  lives = λ s has. absurd (Contains-nil s has);
  seated = λ n live. absurd (nobody_lives r n live);
}
IsRoll-step m r x _ follows numbered right = right
