-- The tests of how entries follow one another tell it.
use Rattle.std.proofs.Common.{◌≡◌, ℕ, suc, ◌+◌, Bool, true, false, true≢false, List, [], ◌∷◌, refl, sym, ◌∙◌, ap, subst, eqb, leb, Option}
use Rattle.std.specs.Prelude.{Decides, IsSome, is_some, ◌&&◌, ◌||◌, ◌==◌, not, nat_le, nat_lt}
use Rattle.std.proofs.lemmas.Bool.Decides.{Decides-eqb, Decides-and, Decides-ltb, Decides-like}
use Rattle.mate_num.specs.declared.call.End.{End}
use Rattle.mate_num.specs.declared.call.End.TheVariants as end
use Rattle.mate_num.specs.declared.call.Stamp.{Stamp}
use Rattle.mate_num.specs.declared.id.ContextId.{ContextId}
use Rattle.mate_num.specs.declared.id.HandlerId.{HandlerId}
use Rattle.mate_journal.specs.Machine.{Machine, HeldProgram, IsContextOf}
use Rattle.mate_journal.specs.Journal.{JournalEntry, Posted, Dropped, Started, Asked, Answered, Ended, Installed, Reset, Seen, Void, TimedEntry, Queued, Ready, is_live, Invocation, NodeState, first_state, next_state, AtEachEntry}
use Rattle.mate_journal.specs.WellFormed.{IsIdle, IsWaiting, Closes, MayFollow, NotBefore, IsInTime, StampsRise, IsWellFormed}
use Rattle.journal_laws.proofs.Apart.{IsNumbered, numbered-step, nothing_heard-orderly}
use Rattle.audit_rules.specs.Roll.{Seat, Roll, nobody, seat, is_queued, is_ready, is_waiting, rolled, IsRoll, is_at}
use Rattle.audit_rules.specs.Following.{not_before, is_in_time, stamps_rise, is_context_of, closes, is_taken, may_follow, follow_one_another, entries_follow}
use Rattle.audit_rules.proofs.Deciding.{always, leb-Decides, implies-Decides, chained}
use Rattle.audit_rules.proofs.Members.{any-has, has-any}
use Rattle.audit_rules.proofs.RollLemmas.{at-Decides, queued-LiveTest, ready-LiveTest, waiting-LiveTest, queued-Decides, ready-Decides, waiting-Decides, nobody-IsRoll, IsRoll-step}

-- ---- stamps

not_before-Decides : (old new : Stamp) → Decides (not_before old new) (NotBefore old new)
not_before-Decides old new =
    Decides-like (not_before old new)
    (λ h. let n : NotBefore old new = record { event = h.0; time = h.1.0; same = h.1.1 } in n)
    (λ n. (n.event, (n.time, n.same)))
    (Decides-and (leb old.event new.event) (nat_le old.time new.time && (not (old.event == new.event) || (old.time == new.time))) (leb-Decides old.event new.event)
    (Decides-and (leb old.time new.time) (not (old.event == new.event) || (old.time == new.time)) (leb-Decides old.time new.time)
    (implies-Decides (eqb old.event new.event) (eqb old.time new.time) (Decides-eqb old.event new.event) (Decides-eqb old.time new.time))))

in_time-Decides : (last : Stamp) (es : List TimedEntry) → Decides (is_in_time last es) (IsInTime last es)
in_time-Decides last [] = (λ e. tt, λ h. refl)
in_time-Decides last (e ∷ es) = Decides-and (not_before last e.stamp) (is_in_time e.stamp es) (not_before-Decides last e.stamp) (in_time-Decides e.stamp es)

pub stamps-Decides : (es : List TimedEntry) → Decides (stamps_rise es) (StampsRise es)
stamps-Decides [] = (λ e. tt, λ h. refl)
stamps-Decides (e ∷ es) = in_time-Decides e.stamp es

-- ---- entries

some-Decides : {A : Type 0} (o : Option A) → Decides (is_some o) (IsSome o)
some-Decides o = (λ e. e, λ h. h)

context_of-Decides : (m : Machine) (h : HandlerId) (c : ContextId) → Decides (is_context_of m h c) (IsContextOf m h c)
context_of-Decides m h c =
    Decides-like (is_context_of m h c) (λ p. let x : IsContextOf m h c = record { from = p.0; below = p.1 } in x) (λ x. (x.from, x.below))
    (Decides-and (leb (m.first_context h) c.0) (nat_lt c.0 (m.first_context h + m.contexts h)) (leb-Decides (m.first_context h) c.0) (Decides-ltb c.0 (m.first_context h + m.contexts h)))

same_context : (c d : ContextId) → c.0 ≡ d.0 → c ≡ d
same_context c d e = ap (λ (n : ℕ). let x : ContextId = record { 0 = n } in x) e

idle-Decides : (r : NodeState) (x : Roll) (c : ContextId) → IsRoll r x → Decides (not (is_taken x c)) (IsIdle r c)
idle-Decides r x c right = by (is_taken x c) refl where
  by : (b : Bool) → is_taken x c ≡ b → Decides (not b) (IsIdle r c)
  by true is =
      let g = has-any (λ (s : Seat). s.invocation.context.0 == c.0) x.seats is in
      let l = right.lives g.0 g.1 in
      let context : g.0.invocation.context ≡ c = same_context g.0.invocation.context c ((Decides-eqb g.0.invocation.context.0 c.0).0 g.2) in
      (λ e. absurd (true≢false (sym e)), λ idle. absurd (idle g.0.number (ap (λ (i : Invocation). is_live i.phase) l.1 ∙ l.0) (ap (λ (i : Invocation). i.context) l.1 ∙ context)))
  by false is = (
    λ e n live context.
        true≢false (sym (any-has (λ (s : Seat). s.invocation.context.0 == c.0) x.seats (seat n (r.invocations n)) (right.seated n live) ((Decides-eqb (r.invocations n).context.0 c.0).1 (ap (λ (d : ContextId). d.0) context))) ∙ is),
    λ idle. refl,
  )

closes-Decides : (how : End) → Decides (closes how) (Closes how)
closes-Decides end.Halt = (λ e. tt, λ h. refl)
closes-Decides (end.Fault kind) = (λ e. tt, λ h. refl)
closes-Decides (end.Wants f args) = (λ e. absurd (true≢false (sym e)), λ h. absurd h)

queued_at : (r : NodeState) (x : Roll) (n : ℕ) → IsRoll r x → Decides (is_at x n is_queued) ((r.invocations n).phase ≡ Queued)
queued_at r x n right = chained (is_at x n is_queued) (is_queued (r.invocations n).phase) (at-Decides r x n is_queued right queued-LiveTest) (queued-Decides (r.invocations n).phase)

ready_at : (r : NodeState) (x : Roll) (n : ℕ) → IsRoll r x → Decides (is_at x n is_ready) ((r.invocations n).phase ≡ Ready)
ready_at r x n right = chained (is_at x n is_ready) (is_ready (r.invocations n).phase) (at-Decides r x n is_ready right ready-LiveTest) (ready-Decides (r.invocations n).phase)

waiting_at : (r : NodeState) (x : Roll) (n : ℕ) → IsRoll r x → Decides (is_at x n is_waiting) (IsWaiting r n)
waiting_at r x n right = chained (is_at x n is_waiting) (is_waiting (r.invocations n).phase) (at-Decides r x n is_waiting right waiting-LiveTest) (waiting-Decides r n)

pub may_follow-Decides : (m : Machine) (r : NodeState) (x : Roll) (t : JournalEntry) → IsRoll r x → Decides (may_follow m x t) (MayFollow m r t)
may_follow-Decides m r x (Posted n h c payload) right =
    Decides-like (may_follow m x (Posted n h c payload)) (λ p. (p.0, p.1.0, p.1.1.0, p.1.1.1)) (λ f. (f.0, (f.1, (f.2, f.3))))
    (Decides-and (n == suc x.posts) (is_some (x.installed h) && (is_context_of m h c && not (is_taken x c)))
    (subst (λ (k : ℕ). Decides (n == suc k) (n ≡ suc r.posts)) (sym right.posts) (Decides-eqb n (suc r.posts)))
    (Decides-and (is_some (x.installed h)) (is_context_of m h c && not (is_taken x c))
    (subst (λ (o : Option HeldProgram). Decides (is_some o) (IsSome (r.installed h))) (sym (right.installed h)) (some-Decides (r.installed h)))
    (Decides-and (is_context_of m h c) (not (is_taken x c)) (context_of-Decides m h c) (idle-Decides r x c right))))
may_follow-Decides m r x (Started n) right = queued_at r x n right
may_follow-Decides m r x (Asked n f args) right = ready_at r x n right
may_follow-Decides m r x (Answered n value) right = waiting_at r x n right
may_follow-Decides m r x (Ended n how) right = Decides-and (is_at x n is_ready) (closes how) (ready_at r x n right) (closes-Decides how)
may_follow-Decides m r x _ right = always tt

-- ---- the journal

pub follow-Decides : (m : Machine) (r : NodeState) (x : Roll) (es : List TimedEntry) → IsNumbered r → IsRoll r x → Decides (follow_one_another m x es) (AtEachEntry (MayFollow m) m r es)
follow-Decides m r x [] numbered right = always tt
follow-Decides m r x (e ∷ es) numbered right =
    by (may_follow m x e.told) (may_follow-Decides m r x e.told right)
    (λ follows. follow-Decides m (next_state m r e.told) (rolled x e.told) es (numbered-step m r e.told follows numbered) (IsRoll-step m r x e.told follows numbered right)) where
      by : (b : Bool) → Decides b (MayFollow m r e.told) → (MayFollow m r e.told → Decides (follow_one_another m (rolled x e.told) es) (AtEachEntry (MayFollow m) m (next_state m r e.told) es))
          → Decides (b && follow_one_another m (rolled x e.told) es) (MayFollow m r e.told × AtEachEntry (MayFollow m) m (next_state m r e.told) es)
      by true here rest = (λ is. (here.0 refl, (rest (here.0 refl)).0 is), λ h. (rest h.0).1 h.1)
      by false here rest = (λ is. absurd (true≢false (sym is)), λ h. here.1 h.0)

pub nothing_heard-numbered : (m : Machine) → IsNumbered (first_state m)
nothing_heard-numbered m = record { numbered = (nothing_heard-orderly m).numbered }

pub following-Decides : (m : Machine) (es : List TimedEntry) → Decides (entries_follow m es) (IsWellFormed m (first_state m) es)
following-Decides m es =
    Decides-like (entries_follow m es) (λ h. let s : IsWellFormed m (first_state m) es = record { in_time = h.0; follow = h.1 } in s) (λ s. (s.in_time, s.follow))
    (Decides-and (stamps_rise es) (follow_one_another m nobody es) (stamps-Decides es) (follow-Decides m (first_state m) nobody es (nothing_heard-numbered m) (nobody-IsRoll m)))
