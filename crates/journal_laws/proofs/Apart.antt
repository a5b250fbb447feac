-- Nothing that is ahead of a started invocation conflicts with it: kept entry by entry.
use Rattle.std.proofs.Common.{◌≡◌, ◌≢◌, ◌<◌, ◌≤◌, ℕ, suc, false, IsTrue, refl, sym, ◌∙◌, ap, subst, arith, inl, inr, List, [], ◌∷◌}
use Rattle.std.proofs.lemmas.Bool.Decides.{eqb_tells}
use Rattle.std.proofs.lemmas.Bool.{cases_lt}
use Rattle.mate_num.specs.Uses.{Uses, ConflictsAt, Conflicts}
use Rattle.mate_journal.specs.Machine.{Machine, HeldProgram}
use Rattle.mate_journal.specs.Journal.{JournalEntry, Posted, Dropped, Started, Asked, Answered, Ended, Installed, Reset, Seen, Void, TimedEntry, Phase, Unposted, Queued, Ready, Waiting, Over, is_live, is_started, Invocation, NodeState, first_state, next_state, state_after_all, cut_at_era, AtEachEntry, AtEachPlace}
use Rattle.mate_journal.specs.WellFormed.{MayFollow, IsWaiting}
use Rattle.mate_journal.specs.Grants.{IsAhead, AreConflicting, MayStart, IsGranted, started_number}
use Rattle.journal_laws.specs.Growth.{GrantsBefore}
use Rattle.journal_laws.specs.Apart.{AreApart, IsOrderly}
use Rattle.journal_laws.proofs.Changed.{untrue}
use Rattle.journal_laws.proofs.Moves.{Moves, started-Moves, asked-Moves, answered-Moves, ended-Moves, Joins, posted-Joins, Cuts, cut-dead, cut-unposted, started_live, posted_phase}

-- ---- conflicts

pub Conflicts-swap : (a b : Uses) → Conflicts a b → Conflicts b a
Conflicts-swap a b c = record { resource = c.resource; at = swapped c.at } where
  swapped : ConflictsAt a b c.resource → ConflictsAt b a c.resource
  swapped (inl x) = inr x
  swapped (inr x) = inl x

-- conflicts are told by the programs
pub conflicting_by : (m : Machine) (r s : NodeState) (j k : ℕ) → (s.invocations j).program ≡ (r.invocations j).program → (s.invocations k).program ≡ (r.invocations k).program
    → AreConflicting m s j k → AreConflicting m r j k
conflicting_by m r s j k first second c =
    subst (λ (p : HeldProgram). Conflicts (m.meaning.uses p) (m.meaning.uses (r.invocations k).program)) first
    (subst (λ (p : HeldProgram). Conflicts (m.meaning.uses (s.invocations j).program) (m.meaning.uses p)) second c)

-- ---- numbers

-- no more were posted than their number says
pub record IsNumbered (r : NodeState) : Type 0 where
  pub numbered : (n : ℕ) → r.posts < n → (r.invocations n).phase ≡ Unposted

-- a live invocation was posted
pub live_posted : (r : NodeState) (n : ℕ) → IsNumbered r → IsTrue (is_live (r.invocations n).phase) → n ≤ r.posts
live_posted r n right live = elim (cases_lt r.posts n) [ inl above ↦ absurd (posted_phase (r.invocations n).phase live (right.numbered n above)) | inr below ↦ below ]

numbered-moves : (r s : NodeState) (n : ℕ) (phase : Phase) → Moves r s n phase → IsTrue (is_live (r.invocations n).phase) → IsNumbered r → IsNumbered s
numbered-moves r s n phase moves live right = record {
  numbered = λ k above.
      elim (eqb_tells k n) [
        | inl t ↦ let posted : n ≤ r.posts = live_posted r n right live in absurd (omega (arith, moves.posts, t.1))
        | inr u ↦ let higher : r.posts < k = omega (arith, moves.posts) in ap (λ (i : Invocation). i.phase) (moves.others k u.1) ∙ right.numbered k higher
      ];
}

numbered-joins : (r s : NodeState) (n : ℕ) → Joins r s n → n ≡ suc r.posts → IsNumbered r → IsNumbered s
numbered-joins r s n joins next right = record {
  numbered = λ k above.
      let other : k ≢ n = omega (arith, joins.posts) in
      let higher : r.posts < k = omega (arith, joins.posts) in
      ap (λ (i : Invocation). i.phase) (joins.others k other) ∙ right.numbered k higher;
}

numbered-cuts : (r s : NodeState) → Cuts r s → IsNumbered r → IsNumbered s
numbered-cuts r s cuts right = record {
  numbered = λ k above.
      let higher : r.posts < k = omega (arith, cuts.posts) in
      ap (λ (i : Invocation). i.phase) (cuts.each k) ∙ cut-unposted (r.invocations k) (right.numbered k higher);
}

pub queued_live : (r : NodeState) (n : ℕ) → (r.invocations n).phase ≡ Queued → IsTrue (is_live (r.invocations n).phase)
queued_live r n is = subst (λ (phase : Phase). IsTrue (is_live phase)) (sym is) refl

pub ready_live : (r : NodeState) (n : ℕ) → (r.invocations n).phase ≡ Ready → IsTrue (is_live (r.invocations n).phase)
ready_live r n is = subst (λ (phase : Phase). IsTrue (is_live phase)) (sym is) refl

pub waiting_live : (r : NodeState) (n : ℕ) → IsWaiting r n → IsTrue (is_live (r.invocations n).phase)
waiting_live r n w = subst (λ (phase : Phase). IsTrue (is_live phase)) (sym w.waits) refl

pub ready_started : (r : NodeState) (n : ℕ) → (r.invocations n).phase ≡ Ready → IsTrue (is_started (r.invocations n).phase)
ready_started r n is = subst (λ (phase : Phase). IsTrue (is_started phase)) (sym is) refl

pub waiting_started : (r : NodeState) (n : ℕ) → IsWaiting r n → IsTrue (is_started (r.invocations n).phase)
waiting_started r n w = subst (λ (phase : Phase). IsTrue (is_started phase)) (sym w.waits) refl

pub numbered-step : (m : Machine) (r : NodeState) (told : JournalEntry) → MayFollow m r told → IsNumbered r → IsNumbered (next_state m r told)
numbered-step m r (Posted n h c payload) follows right = numbered-joins r (next_state m r (Posted n h c payload)) n (posted-Joins m r n h c payload) follows.0 right
numbered-step m r (Started n) follows right = numbered-moves r (next_state m r (Started n)) n Ready (started-Moves m r n) (queued_live r n follows) right
numbered-step m r (Asked n f args) follows right = numbered-moves r (next_state m r (Asked n f args)) n (Waiting f args) (asked-Moves m r n f args) (ready_live r n follows) right
numbered-step m r (Answered n value) follows right = numbered-moves r (next_state m r (Answered n value)) n Ready (answered-Moves m r n value) (waiting_live r n follows) right
numbered-step m r (Ended n how) follows right = numbered-moves r (next_state m r (Ended n how)) n Over (ended-Moves m r n how) (ready_live r n follows.0) right
numbered-step m r (Installed p) follows right = numbered-cuts r (next_state m r (Installed p)) (record { posts = refl; each = λ n. refl }) right
numbered-step m r Reset follows right = numbered-cuts r (next_state m r Reset) (record { posts = refl; each = λ n. refl }) right
numbered-step m r _ follows right = right

-- ---- nothing ahead conflicts

abbrev IsStarted : NodeState → ℕ → Type 0
IsStarted r n = IsTrue (is_started (r.invocations n).phase)

abbrev IsUnhindered : Machine → NodeState → Type 0
IsUnhindered m r = (n k : ℕ) → n ≢ k → IsStarted r n → IsAhead r n k → AreConflicting m r n k → ⊥

-- what is started and queued now was so before, with the same program
record IsLess (r s : NodeState) : Type 0 where
  started : (n : ℕ) → IsStarted s n → IsStarted r n
  queued : (n : ℕ) → (s.invocations n).phase ≡ Queued → (r.invocations n).phase ≡ Queued
  program : (n : ℕ) → (s.invocations n).program ≡ (r.invocations n).program

unhindered-less : (m : Machine) (r s : NodeState) → IsLess r s → IsUnhindered m r → IsUnhindered m s
unhindered-less m r s less right n k other started ahead conflict =
    right n k other (less.started n started) (was_ahead ahead) (conflicting_by m r s n k (less.program n) (less.program k) conflict) where
      was_ahead : IsAhead s n k → IsAhead r n k
      was_ahead (inl now) = inl (less.started k now)
      was_ahead (inr earlier) = inr (earlier.0, less.queued k earlier.1)

-- a started one moves on, or ends
less-moves : (r s : NodeState) (n : ℕ) (phase : Phase) → Moves r s n phase → IsStarted r n → (phase ≡ Queued → ⊥) → IsLess r s
less-moves r s n phase moves started not_queued = record {
  started = λ k now. elim (eqb_tells k n) [ inl t ↦ subst (λ (j : ℕ). IsStarted r j) (sym t.1) started | inr u ↦ subst (λ (i : Invocation). IsTrue (is_started i.phase)) (moves.others k u.1) now ];
  queued = λ k now. elim (eqb_tells k n) [ inl t ↦ absurd (not_queued (sym moves.here ∙ subst (λ (j : ℕ). (s.invocations j).phase ≡ Queued) t.1 now)) | inr u ↦ subst (λ (i : Invocation). i.phase ≡ Queued) (moves.others k u.1) now ];
  program = λ k. elim (eqb_tells k n) [ inl t ↦ subst (λ (j : ℕ). (s.invocations j).program ≡ (r.invocations j).program) (sym t.1) moves.program | inr u ↦ ap (λ (i : Invocation). i.program) (moves.others k u.1) ];
}

-- one starts
unhindered-start : (m : Machine) (r s : NodeState) (n : ℕ) → Moves r s n Ready → (r.invocations n).phase ≡ Queued → MayStart m r n → IsUnhindered m r → IsUnhindered m s
unhindered-start m r s n moves queued may right j k other started ahead conflict =
    elim (eqb_tells k n) [
      | inl t ↦ newly t.1 (λ e. other (e ∙ sym t.1)) ahead
      | inr u ↦ elim (eqb_tells j n) [
        | inl v ↦ may k (ahead_was n u.1 (sym v.1) ahead) (subst (λ (i : ℕ). AreConflicting m r i k) v.1 conflict_was)
        | inr v ↦ right j k other (subst (λ (x : Invocation). IsTrue (is_started x.phase)) (moves.others j v.1) started) (ahead_was j u.1 refl ahead) conflict_was
      ]
    ] where
      same : (i : ℕ) → (s.invocations i).program ≡ (r.invocations i).program
      same i = elim (eqb_tells i n) [ inl t ↦ subst (λ (j : ℕ). (s.invocations j).program ≡ (r.invocations j).program) (sym t.1) moves.program | inr u ↦ ap (λ (i : Invocation). i.program) (moves.others i u.1) ]

      conflict_was : AreConflicting m r j k
      conflict_was = conflicting_by m r s j k (same j) (same k) conflict

      -- the started one is another, and so is the one ahead
      ahead_was : (i : ℕ) → k ≢ n → i ≡ j → IsAhead s j k → IsAhead r i k
      ahead_was i past is (inl now) = inl (subst (λ (x : Invocation). IsTrue (is_started x.phase)) (moves.others k past) now)
      ahead_was i past is (inr earlier) = inr (omega (arith, earlier.0, is), subst (λ (x : Invocation). x.phase ≡ Queued) (moves.others k past) earlier.1)

      -- the one ahead starts now: then the other was started before it
      newly : k ≡ n → j ≢ n → IsAhead s j k → ⊥
      newly is past (inl now) =
          may j (inl (subst (λ (x : Invocation). IsTrue (is_started x.phase)) (moves.others j past) started))
          (Conflicts-swap (m.meaning.uses (r.invocations j).program) (m.meaning.uses (r.invocations n).program) (subst (λ (i : ℕ). AreConflicting m r j i) is conflict_was))
      newly is past (inr earlier) = let both : Ready ≡ Queued = sym moves.here ∙ subst (λ (i : ℕ). (s.invocations i).phase ≡ Queued) is earlier.1 in cc

unhindered-join : (m : Machine) (r s : NodeState) (n : ℕ) → Joins r s n → n ≡ suc r.posts → IsNumbered r → IsUnhindered m r → IsUnhindered m s
unhindered-join m r s n joins next numbered right j k other started ahead conflict = there (not_new j started) (past ahead) where
  -- a started one isn't the one that is posted now
  not_new : (i : ℕ) → IsStarted s i → i ≢ n
  not_new i now = λ e. untrue (is_started (s.invocations n).phase) (subst (λ (l : ℕ). IsStarted s l) e now) (ap is_started joins.here)

  was_started : (i : ℕ) → i ≢ n → IsStarted s i → IsStarted r i
  was_started i past now = subst (λ (x : Invocation). IsTrue (is_started x.phase)) (joins.others i past) now

  posted : j ≤ r.posts
  posted = live_posted r j numbered (started_live (r.invocations j).phase (was_started j (not_new j started) started))

  past : IsAhead s j k → k ≢ n
  past (inl now) = not_new k now
  past (inr earlier) = let posted_before : j ≤ r.posts = posted in let below : k < j = earlier.0 in omega arith

  ahead_was : k ≢ n → IsAhead s j k → IsAhead r j k
  ahead_was past (inl now) = inl (was_started k past now)
  ahead_was past (inr earlier) = inr (earlier.0, subst (λ (x : Invocation). x.phase ≡ Queued) (joins.others k past) earlier.1)

  there : j ≢ n → k ≢ n → ⊥
  there first second =
      right j k other (was_started j first started) (ahead_was second ahead)
      (conflicting_by m r s j k (ap (λ (x : Invocation). x.program) (joins.others j first)) (ap (λ (x : Invocation). x.program) (joins.others k second)) conflict)

unhindered-cut : (m : Machine) (r s : NodeState) → Cuts r s → IsUnhindered m s
unhindered-cut m r s cuts j k other started ahead conflict =
    cut-dead (r.invocations j) (started_live (cut_at_era (r.invocations j)).phase (subst (λ (i : Invocation). IsTrue (is_started i.phase)) (cuts.each j) started))

unhindered-step : (m : Machine) (r : NodeState) (last : ℕ) (told : JournalEntry) → MayFollow m r told → IsGranted m r last told → IsNumbered r → IsUnhindered m r → IsUnhindered m (next_state m r told)
unhindered-step m r last (Posted n h c payload) follows granted numbered right = unhindered-join m r (next_state m r (Posted n h c payload)) n (posted-Joins m r n h c payload) follows.0 numbered right
unhindered-step m r last (Started n) follows granted numbered right = unhindered-start m r (next_state m r (Started n)) n (started-Moves m r n) follows granted.0 right
unhindered-step m r last (Asked n f args) follows granted numbered right =
    unhindered-less m r (next_state m r (Asked n f args)) (less-moves r (next_state m r (Asked n f args)) n (Waiting f args) (asked-Moves m r n f args) (ready_started r n follows) (λ e. cc)) right
unhindered-step m r last (Answered n value) follows granted numbered right =
    unhindered-less m r (next_state m r (Answered n value)) (less-moves r (next_state m r (Answered n value)) n Ready (answered-Moves m r n value) (waiting_started r n follows) (λ e. cc)) right
unhindered-step m r last (Ended n how) follows granted numbered right =
    unhindered-less m r (next_state m r (Ended n how)) (less-moves r (next_state m r (Ended n how)) n Over (ended-Moves m r n how) (ready_started r n follows.0) (λ e. cc)) right
unhindered-step m r last (Installed p) follows granted numbered right = unhindered-cut m r (next_state m r (Installed p)) (record { posts = refl; each = λ n. refl })
unhindered-step m r last Reset follows granted numbered right = unhindered-cut m r (next_state m r Reset) (record { posts = refl; each = λ n. refl })
unhindered-step m r last _ follows granted numbered right = right

-- ---- along a journal

pub orderly-step : (m : Machine) (r : NodeState) (last : ℕ) (told : JournalEntry) → MayFollow m r told → IsGranted m r last told → IsOrderly m r → IsOrderly m (next_state m r told)
orderly-step m r last told follows granted right = record {
  numbered = (numbered-step m r told follows (record { numbered = right.numbered })).numbered;
  unhindered = unhindered-step m r last told follows granted (record { numbered = right.numbered }) right.unhindered;
}

pub nothing_heard-orderly : (m : Machine) → IsOrderly m (first_state m)
nothing_heard-orderly m = record { numbered = λ n above. refl; unhindered = λ n k other started ahead conflict. untrue false started refl }

pub orderly-after : (m : Machine) (r : NodeState) (last : ℕ) (es : List TimedEntry) → AtEachEntry (MayFollow m) m r es → GrantsBefore m r last es → IsOrderly m r → IsOrderly m (state_after_all m r es)
orderly-after m r last [] follow granted right = right
orderly-after m r last (e ∷ es) follow granted right =
    orderly-after m (next_state m r e.told) (started_number e.told) es follow.1 granted.1 (orderly-step m r last e.told follow.0 granted.0 right)

pub orderly-along : (m : Machine) (r : NodeState) (last : ℕ) (es : List TimedEntry) → AtEachEntry (MayFollow m) m r es → GrantsBefore m r last es → IsOrderly m r → AtEachPlace (IsOrderly m) m r es
orderly-along m r last [] follow granted right = right
orderly-along m r last (e ∷ es) follow granted right =
    (right, orderly-along m (next_state m r e.told) (started_number e.told) es follow.1 granted.1 (orderly-step m r last e.told follow.0 granted.0 right))

pub orderly-apart : (m : Machine) (r : NodeState) → IsOrderly m r → AreApart m r
orderly-apart m r right j k other first second conflict = right.unhindered j k other first (inl second) conflict

pub apart-along : (m : Machine) (r : NodeState) (last : ℕ) (es : List TimedEntry) → AtEachEntry (MayFollow m) m r es → GrantsBefore m r last es → IsOrderly m r → AtEachPlace (AreApart m) m r es
apart-along m r last [] follow granted right = orderly-apart m r right
apart-along m r last (e ∷ es) follow granted right =
    (orderly-apart m r right, apart-along m (next_state m r e.told) (started_number e.told) es follow.1 granted.1 (orderly-step m r last e.told follow.0 granted.0 right))
