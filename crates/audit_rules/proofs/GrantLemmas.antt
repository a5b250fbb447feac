-- The tests of the grant rule tell it.
use Rattle.std.proofs.Common.{◌≡◌, ◌<◌, ◌⊎◌, ℕ, true, List, [], ◌∷◌, refl, sym, ◌∙◌, ap, subst, inl, inr}
use Rattle.std.specs.Prelude.{Contains, IsTrue, Decides, ◌&&◌, ◌||◌, ◌==◌, not, nat_lt}
use Rattle.std.proofs.lemmas.Bool.{and_parts, and_from}
use Rattle.std.proofs.lemmas.Bool.Decides.{Decides-eqb, Decides-not, Decides-and, Decides-or, Decides-ltb}
use Rattle.mate_num.specs.Uses.{Conflicts}
use Rattle.mate_journal.specs.Machine.{Machine}
use Rattle.mate_journal.specs.Journal.{JournalEntry, Posted, Dropped, Started, Asked, Answered, Ended, Installed, Reset, Seen, Void, TimedEntry, Queued, is_live, is_started, Invocation, NodeState, first_state, next_state, AtEachEntry}
use Rattle.mate_journal.specs.WellFormed.{MayFollow, IsWellFormed}
use Rattle.mate_journal.specs.Grants.{IsAhead, AreConflicting, IsHeldBack, AllHeldBack, MayStart, IsGranted, started_number, GrantsInOrder}
use Rattle.journal_laws.proofs.Apart.{IsNumbered, numbered-step, queued_live}
use Rattle.journal_laws.proofs.Moves.{started_live}
use Rattle.audit_rules.specs.Roll.{Seat, Roll, nobody, seat, is_queued, rolled, IsRoll}
use Rattle.audit_rules.specs.Granting.{ConflictTest, TellsConflicts, is_ahead, holds_back, is_held_back, all_held_back, is_free_to_start, is_granted, grants_in_order}
use Rattle.audit_rules.proofs.Deciding.{implies-Decides}
use Rattle.audit_rules.proofs.Members.{any-has, has-any, all-has, has-all}
use Rattle.audit_rules.proofs.RollLemmas.{queued-Decides, nobody-IsRoll, IsRoll-step}
use Rattle.audit_rules.proofs.FollowingLemmas.{nothing_heard-numbered}

-- whoever is ahead is live
ahead_live : (r : NodeState) (n k : ℕ) → IsAhead r n k → IsTrue (is_live (r.invocations k).phase)
ahead_live r n k (inl started) = started_live (r.invocations k).phase started
ahead_live r n k (inr earlier) = queued_live r k earlier.1

ahead-Decides : (r : NodeState) (s t : Seat) → r.invocations t.number ≡ t.invocation → Decides (is_ahead s t) (IsAhead r s.number t.number)
ahead-Decides r s t is =
    subst (λ (i : Invocation). Decides (is_ahead s t) (IsTrue (is_started i.phase) ⊎ ((t.number < s.number) × (i.phase ≡ Queued)))) (sym is)
    (Decides-or (is_started t.invocation.phase) (nat_lt t.number s.number && is_queued t.invocation.phase) (λ e. e, λ e. e)
    (Decides-and (nat_lt t.number s.number) (is_queued t.invocation.phase) (Decides-ltb t.number s.number) (queued-Decides t.invocation.phase)))

pub conflict-Decides : (m : Machine) (conflict : ConflictTest) (r : NodeState) (s t : Seat) → TellsConflicts m.meaning conflict → r.invocations s.number ≡ s.invocation → r.invocations t.number ≡ t.invocation
    → Decides (conflict s.invocation.program t.invocation.program) (AreConflicting m r s.number t.number)
conflict-Decides m conflict r s t tells first second =
    subst (λ (i : Invocation). Decides (conflict s.invocation.program t.invocation.program) (Conflicts (m.meaning.uses i.program) (m.meaning.uses (r.invocations t.number).program))) (sym first)
    (subst (λ (i : Invocation). Decides (conflict s.invocation.program t.invocation.program) (Conflicts (m.meaning.uses s.invocation.program) (m.meaning.uses i.program))) (sym second)
    (tells s.invocation.program t.invocation.program))

held_back-Decides : (m : Machine) (conflict : ConflictTest) (r : NodeState) (x : Roll) (s : Seat) → TellsConflicts m.meaning conflict → IsRoll r x → Contains x.seats s
    → Decides (is_held_back conflict x s) (IsHeldBack m r s.number)
held_back-Decides m conflict r x s tells right has = (there, back) where
  here : r.invocations s.number ≡ s.invocation
  here = (right.lives s has).1

  there : is_held_back conflict x s ≡ true → IsHeldBack m r s.number
  there is =
      let g = has-any (holds_back conflict s) x.seats is in
      let at = (right.lives g.0 g.1).1 in
      let parts = and_parts (is_ahead s g.0) (conflict s.invocation.program g.0.invocation.program) g.2 in
      record {
        by = g.0.number;
        ahead = (ahead-Decides r s g.0 at).0 parts.0;
        conflict = (conflict-Decides m conflict r s g.0 tells here at).0 parts.1;
      }

  back : IsHeldBack m r s.number → is_held_back conflict x s ≡ true
  back h =
      let t = seat h.by (r.invocations h.by) in
      any-has (holds_back conflict s) x.seats t (right.seated h.by (ahead_live r s.number h.by h.ahead))
      (and_from (is_ahead s t) (conflict s.invocation.program t.invocation.program) ((ahead-Decides r s t refl).1 h.ahead) ((conflict-Decides m conflict r s t tells here refl).1 h.conflict))

all_held_back-Decides : (m : Machine) (conflict : ConflictTest) (r : NodeState) (x : Roll) → TellsConflicts m.meaning conflict → IsRoll r x → Decides (all_held_back conflict x) (AllHeldBack m r)
all_held_back-Decides m conflict r x tells right = (there, back) where
  tells_each : (s : Seat) → Contains x.seats s → Decides (not (is_queued s.invocation.phase) || is_held_back conflict x s) (s.invocation.phase ≡ Queued → IsHeldBack m r s.number)
  tells_each s has =
      implies-Decides (is_queued s.invocation.phase) (is_held_back conflict x s) (queued-Decides s.invocation.phase) (held_back-Decides m conflict r x s tells right has)

  there : all_held_back conflict x ≡ true → AllHeldBack m r
  there all n queued =
      let s = seat n (r.invocations n) in
      let has = right.seated n (queued_live r n queued) in
      (tells_each s has).0 (all-has (λ (s : Seat). not (is_queued s.invocation.phase) || is_held_back conflict x s) x.seats s all has) queued

  back : AllHeldBack m r → all_held_back conflict x ≡ true
  back all =
      has-all (λ (s : Seat). not (is_queued s.invocation.phase) || is_held_back conflict x s) x.seats
      (λ s has. (tells_each s has).1 (λ queued. all s.number (ap (λ (i : Invocation). i.phase) (right.lives s has).1 ∙ queued)))

-- nothing ahead conflicts: it isn't held back
free-MayStart : (m : Machine) (r : NodeState) (n : ℕ) → (IsHeldBack m r n → ⊥) → MayStart m r n
free-MayStart m r n free k ahead conflict = free (record { by = k; ahead = ahead; conflict = conflict })

MayStart-free : (m : Machine) (r : NodeState) (n : ℕ) → MayStart m r n → IsHeldBack m r n → ⊥
MayStart-free m r n may h = may h.by h.ahead h.conflict

may_start-Decides : (m : Machine) (conflict : ConflictTest) (r : NodeState) (x : Roll) (n : ℕ) → TellsConflicts m.meaning conflict → IsRoll r x → (r.invocations n).phase ≡ Queued
    → Decides (is_free_to_start conflict x n) (MayStart m r n)
may_start-Decides m conflict r x n tells right queued = (there, back) where
  tells_each : (s : Seat) → Contains x.seats s → Decides (not (s.number == n) || not (is_held_back conflict x s)) (s.number ≡ n → IsHeldBack m r s.number → ⊥)
  tells_each s has =
      implies-Decides (s.number == n) (not (is_held_back conflict x s)) (Decides-eqb s.number n)
      (Decides-not (is_held_back conflict x s) (held_back-Decides m conflict r x s tells right has))

  there : is_free_to_start conflict x n ≡ true → MayStart m r n
  there all =
      let s = seat n (r.invocations n) in
      let has = right.seated n (queued_live r n queued) in
      free-MayStart m r n ((tells_each s has).0 (all-has (λ (s : Seat). not (s.number == n) || not (is_held_back conflict x s)) x.seats s all has) refl)

  back : MayStart m r n → is_free_to_start conflict x n ≡ true
  back may =
      has-all (λ (s : Seat). not (s.number == n) || not (is_held_back conflict x s)) x.seats
      (λ s has. (tells_each s has).1 (λ e. subst (λ (k : ℕ). IsHeldBack m r k → ⊥) (sym e) (MayStart-free m r n may)))

granted-Decides : (m : Machine) (conflict : ConflictTest) (r : NodeState) (x : Roll) (last : ℕ) (t : JournalEntry) → TellsConflicts m.meaning conflict → IsRoll r x → MayFollow m r t
    → Decides (is_granted conflict x last t) (IsGranted m r last t)
granted-Decides m conflict r x last (Started n) tells right follows =
    Decides-and (is_free_to_start conflict x n) (nat_lt last n) (may_start-Decides m conflict r x n tells right follows) (Decides-ltb last n)
granted-Decides m conflict r x last _ tells right follows = all_held_back-Decides m conflict r x tells right

pub grants-Decides : (m : Machine) (conflict : ConflictTest) (r : NodeState) (x : Roll) (last : ℕ) (es : List TimedEntry) → TellsConflicts m.meaning conflict → IsNumbered r → IsRoll r x → AtEachEntry (MayFollow m) m r es
    → Decides (grants_in_order conflict x last es) (GrantsInOrder m r last es)
grants-Decides m conflict r x last [] tells numbered right follow = all_held_back-Decides m conflict r x tells right
grants-Decides m conflict r x last (e ∷ es) tells numbered right follow =
    Decides-and (is_granted conflict x last e.told) (grants_in_order conflict (rolled x e.told) (started_number e.told) es) (granted-Decides m conflict r x last e.told tells right follow.0)
    (grants-Decides m conflict (next_state m r e.told) (rolled x e.told) (started_number e.told) es tells (numbered-step m r e.told follow.0 numbered) (IsRoll-step m r x e.told follow.0 numbered right) follow.1)

pub grants_told : (m : Machine) (conflict : ConflictTest) (es : List TimedEntry) → TellsConflicts m.meaning conflict → IsWellFormed m (first_state m) es
    → Decides (grants_in_order conflict nobody 0 es) (GrantsInOrder m (first_state m) 0 es)
grants_told m conflict es tells follows = grants-Decides m conflict (first_state m) nobody 0 es tells (nothing_heard-numbered m) (nobody-IsRoll m) follows.follow
