-- The queue and the grant rule go on holding at posts, calls, answers and ends; and who may start after a post or an end.
use Rattle.std.proofs.Common.{◌≡◌, ◌≢◌, ◌⊎◌, ℕ, suc, ◌+◌, ◌<◌, ◌≤◌, ℤ, Bool, true, false, cond, List, [], ◌∷◌, ◌++◌, Option, Some, None, refl, sym, ◌∙◌, ap, subst, arith, inl, inr}
use Rattle.std.specs.Prelude.{Contains}
use Rattle.std.proofs.lemmas.Bool.{cases_eq, eq-eqb}
use Rattle.arrayvec.specs.ArrayVec.{ArrayVec}
use Rattle.mate_num.specs.declared.call.Stamp.{Stamp}
use Rattle.mate_num.specs.declared.id.ContextId.{ContextId}
use Rattle.mate_num.specs.declared.id.HandlerId.{HandlerId}
use Rattle.mate_num.specs.declared.lock_set.LockSet.{LockSet}
use Rattle.lock_manager.specs.declared.claim.Claim.{Claim}
use Rattle.lock_manager.specs.Claims.{Claims, is_of, set_of, Enqueues}
use Rattle.lock_manager.proofs.ClaimLemmas.{same_context}
use Rattle.mate_journal.specs.declared.entry.Entry.{Entry}
use Rattle.mate_journal.specs.Log.{Log}
use Rattle.mate_journal.specs.Machine.{Machine}
use Rattle.mate_journal.specs.Journal.{JournalEntry, Posted, Dropped, Started, Asked, Answered, Ended, Installed, Reset, Seen, Void, TimedEntry, Phase, Unposted, Queued, Ready, Waiting, Over as Gone, is_live, is_started, Invocation, NodeState, journal_of, first_state, next_state, state_after_all, AtEachEntry}
use Rattle.mate_journal.specs.WellFormed.{MayFollow}
use Rattle.mate_journal.specs.Grants.{IsAhead, IsHeldBack, IsGranted, started_number}
use Rattle.journal_laws.specs.Growth.{GrantsBefore, last_start}
use Rattle.journal_laws.proofs.Append.{heard_all-push, GrantsBefore-push, last_start-push}
use Rattle.journal_laws.proofs.Moves.{Moves, started-Moves, asked-Moves, answered-Moves, ended-Moves, Joins, posted-Joins, Cuts, cut-unposted}
use Rattle.journal_laws.proofs.Apart.{conflicting_by, orderly-after, nothing_heard-orderly}
use Rattle.vm_shape.specs.declared.description.Description.{Description}
use Rattle.node_state.specs.declared.seat.Seat.{Seat}
use Rattle.node_state.specs.declared.contexts.Contexts.{Contexts}
use Rattle.node_state.specs.At.{At, at, idle, queued, Becomes, AreIdle}
use Rattle.node_state.specs.Programs.{Programs}
use Rattle.node_state.specs.declared.parts.Parts.{Parts}
use Rattle.node_state.specs.Meaning.{machine_in}
use Rattle.node_state.specs.Fits.{ContextsMatch}
use Rattle.node_state.specs.Keeps.{reading, Keeps, event_at, Grows}
use Rattle.node_state.specs.Continues.{Continues}
use Rattle.node_state.proofs.FitLemmas.{by_seat}
use Rattle.node_state.proofs.KeepLemmas.{Keeps-push, Grows-push}
use Rattle.node_state.specs.Queue.{number_at, invocation_in, NumbersRise, IsQueue}
use Rattle.node_state.specs.Starting.{IsPastLast, last_started, KeepsOrder, IsStarting, Rests, AllButHeld}
use Rattle.node_state.proofs.QueueLemmas.{Contains-none, Contains-cases, NumbersRise-push, NumbersRise-same}

-- ---- the queue

-- a context without a claim has none in the list
no-claim : (xs : List Claim) (a : Claim) → set_of xs a.ctx ≡ None → Contains xs a → ⊥
no-claim [] a none w = Contains-none a w
no-claim (x ∷ xs) a none w = by (is_of a.ctx x) refl none (Contains-cases x xs a w) (no-claim xs a) where
  by : (b : Bool) → is_of a.ctx x ≡ b → cond b (Some x.set) (set_of xs a.ctx) ≡ None → (x ≡ a) ⊎ Contains xs a → (set_of xs a.ctx ≡ None → Contains xs a → ⊥) → ⊥
  by true is e v further = absurd (let f : Some x.set ≡ None = e in cc)
  by false is e (inl same) further = absurd (let f : is_of a.ctx x ≡ true = eq-eqb x.ctx.0 a.ctx.0 (ap (λ (y : Claim). y.ctx.0) same) in let g : false ≡ true = sym is ∙ f in cc)
  by false is e (inr v) further = further e v

-- one context changes, and it doesn't wait, or has the same invocation
pub IsQueue-becomes : (old next : Contexts) (c : ContextId) (a : At) → Becomes old next c a → next.locks.waiting ≡ old.locks.waiting → (set_of old.locks.waiting c ≡ None) ⊎ (number_at a.seat ≡ invocation_in old c)
    → IsQueue old → IsQueue next
IsQueue-becomes old next c a becomes same how queue =
    let P : List Claim → Type 0 = λ l. NumbersRise (invocation_in next) l in
    record { rises = subst P (sym same) (NumbersRise-same (invocation_in old) (invocation_in next) old.locks.waiting (λ x among. by x among (cases_eq x.ctx.0 c.0) how) queue.rises) } where
      by : (x : Claim) → Contains old.locks.waiting x → (x.ctx.0 ≡ c.0) ⊎ (x.ctx.0 ≡ c.0 → ⊥) → (set_of old.locks.waiting c ≡ None) ⊎ (number_at a.seat ≡ invocation_in old c) → invocation_in next x.ctx ≡ invocation_in old x.ctx
      by x among (inr other) h = ap (λ (b : At). number_at b.seat) (becomes.others x.ctx other)
      by x among (inl e) (inl none) =
          let Q : ContextId → Type 0 = λ k. set_of old.locks.waiting k ≡ None in
          absurd (no-claim old.locks.waiting x (subst Q (sym (same_context x.ctx c e)) none) among)
      by x among (inl e) (inr number) =
          let Q : ContextId → Type 0 = λ k. invocation_in next k ≡ invocation_in old k in
          subst Q (sym (same_context x.ctx c e)) (ap (λ (b : At). number_at b.seat) becomes.here ∙ number)

-- nobody has a greater number than was posted
number-few : (held : Programs) (r : NodeState) (s : Contexts) (c : ContextId) → ContextsMatch held r s → invocation_in s c ≤ r.posts
number-few held r s c fits = by (at s c).seat refl where
  by : (o : Option Seat) → (at s c).seat ≡ o → number_at o ≤ r.posts
  by None e = omega arith
  by (Some t) e = (by_seat held r c (at s c) t e (fits.each c)).number

-- a post
pub IsQueue-post : (held : Programs) (r : NodeState) (old next : Contexts) (c : ContextId) (t : Seat) (set : LockSet) → ContextsMatch held r old → at old c ≡ idle → Becomes old next c (queued t set) → Enqueues old.locks next.locks c set
    → t.inv ≡ suc r.posts → IsQueue old → IsQueue next
IsQueue-post held r old next c t set fits free becomes enqueues number queue =
    let P : List Claim → Type 0 = λ l. NumbersRise (invocation_in next) l in
    record { rises = subst P (sym enqueues.waiting) (NumbersRise-push (invocation_in next) old.locks.waiting _ (NumbersRise-same (invocation_in old) (invocation_in next) old.locks.waiting same queue.rises) below) } where
      none : set_of old.locks.waiting c ≡ None
      none = ap (λ (a : At). a.waits) free

      same : (x : Claim) → Contains old.locks.waiting x → invocation_in next x.ctx ≡ invocation_in old x.ctx
      same x among = by (cases_eq x.ctx.0 c.0) where
        by : (x.ctx.0 ≡ c.0) ⊎ (x.ctx.0 ≡ c.0 → ⊥) → invocation_in next x.ctx ≡ invocation_in old x.ctx
        by (inr other) = ap (λ (b : At). number_at b.seat) (becomes.others x.ctx other)
        by (inl e) =
            let Q : ContextId → Type 0 = λ k. set_of old.locks.waiting k ≡ None in
            absurd (no-claim old.locks.waiting x (subst Q (sym (same_context x.ctx c e)) none) among)

      here : invocation_in next c ≡ suc r.posts
      here = ap (λ (b : At). number_at b.seat) becomes.here ∙ number

      below : (x : Claim) → Contains old.locks.waiting x → invocation_in next x.ctx < invocation_in next c
      below x among = let e = same x among in let few = number-few held r old x.ctx fits in let h = here in omega arith

-- a cleared node
pub IsQueue-idle : (s : Contexts) → AreIdle s → IsQueue s
IsQueue-idle s idles = let P : Claims → Type 0 = λ l. NumbersRise (invocation_in s) l.waiting in record { rises = subst P (sym idles.locks) tt }

-- ---- one more entry

module _ (d : Description) (old next : Parts) (before : Log) (at_ : Stamp) (e : Entry) (told : JournalEntry) (order : KeepsOrder d old) (continues : Continues d old next before at_ e told) (room : old.log.all.spare ≤ next.log.all.spare + 1) where
  abbrev m : Machine
  m = machine_in d

  pub grows-by : Grows old.log.all next.log.all at_ (told ∷ [])
  grows-by = Grows-push d old next before at_ e told order.keeps continues room

  journal-is : journal_of next.log.all ≡ journal_of old.log.all ++ event_at at_ told ∷ []
  journal-is = grows-by.journal

  pub heard-by : reading d next.log.all ≡ next_state m (reading d old.log.all) told
  unfolding reading
  heard-by = ap (state_after_all m (first_state m)) journal-is ∙ heard_all-push m (first_state m) (journal_of old.log.all) (event_at at_ told)

  pub last-by : last_started next.log.all ≡ started_number told
  last-by = ap (last_start 0) journal-is ∙ last_start-push 0 (journal_of old.log.all) (event_at at_ told)

  pub KeepsOrder-push : IsGranted m (reading d old.log.all) (last_started old.log.all) told → IsQueue next.contexts → KeepsOrder d next
  unfolding reading
  KeepsOrder-push granted queue =
      let P : List TimedEntry → Type 0 = λ es. GrantsBefore m (first_state m) 0 es in
      record {
        keeps = Keeps-push d old next before at_ e told order.keeps continues;
        queue = queue;
        grants = subst P (sym journal-is) (GrantsBefore-push m (first_state m) 0 (journal_of old.log.all) (event_at at_ told) order.grants granted);
      }

-- ---- invocations are numbered from 1

pub record HasNoZero (r : NodeState) : Type 0 where
  pub unposted : (r.invocations 0).phase ≡ Unposted

zero-moves : (r s : NodeState) (n : ℕ) (phase : Phase) → Moves r s n phase → ((r.invocations n).phase ≡ Unposted → ⊥) → HasNoZero r → HasNoZero s
zero-moves r s n phase moves posted right = by (cases_eq 0 n) where
  by : (0 ≡ n) ⊎ (0 ≡ n → ⊥) → HasNoZero s
  by (inl e) = let P : ℕ → Type 0 = λ k. (r.invocations k).phase ≡ Unposted in absurd (posted (subst P e right.unposted))
  by (inr other) = record { unposted = ap (λ (i : Invocation). i.phase) (moves.others 0 other) ∙ right.unposted }

zero-cuts : (r s : NodeState) → Cuts r s → HasNoZero r → HasNoZero s
zero-cuts r s cuts right = record { unposted = ap (λ (i : Invocation). i.phase) (cuts.each 0) ∙ cut-unposted (r.invocations 0) right.unposted }

isnt-unposted : (p : Phase) → is_live p ≡ true → p ≡ Unposted → ⊥
isnt-unposted p live e = let f : false ≡ true = sym (ap is_live e) ∙ live in cc

zero-step : (m : Machine) (r : NodeState) (told : JournalEntry) → MayFollow m r told → HasNoZero r → HasNoZero (next_state m r told)
zero-step m r (Posted n h c payload) follows right =
    let j = posted-Joins m r n h c payload in
    let number = follows.0 in
    let other : 0 ≢ n = omega arith in
    record { unposted = ap (λ (i : Invocation). i.phase) (j.others 0 other) ∙ right.unposted }
zero-step m r (Started n) follows right = zero-moves r (next_state m r (Started n)) n Ready (started-Moves m r n) (isnt-unposted (r.invocations n).phase (ap is_live follows)) right
zero-step m r (Asked n f args) follows right = zero-moves r (next_state m r (Asked n f args)) n (Waiting f args) (asked-Moves m r n f args) (isnt-unposted (r.invocations n).phase (ap is_live follows)) right
zero-step m r (Answered n value) follows right = zero-moves r (next_state m r (Answered n value)) n Ready (answered-Moves m r n value) (isnt-unposted (r.invocations n).phase (ap is_live follows.waits)) right
zero-step m r (Ended n how) follows right = zero-moves r (next_state m r (Ended n how)) n Gone (ended-Moves m r n how) (isnt-unposted (r.invocations n).phase (ap is_live follows.0)) right
zero-step m r (Installed p) follows right = zero-cuts r (next_state m r (Installed p)) (record { posts = refl; each = λ n. refl }) right
zero-step m r Reset follows right = zero-cuts r (next_state m r Reset) (record { posts = refl; each = λ n. refl }) right
zero-step m r _ follows right = right

zero-after : (m : Machine) (r : NodeState) (es : List TimedEntry) → AtEachEntry (MayFollow m) m r es → HasNoZero r → HasNoZero (state_after_all m r es)
zero-after m r [] follow right = right
zero-after m r (e ∷ es) follow right = zero-after m (next_state m r e.told) es follow.1 (zero-step m r e.told follow.0 right)

-- whoever is live has a number above 0
pub live-above : (d : Description) (s : Parts) (k : ℕ) → Keeps d s → is_live ((reading d s.log.all).invocations k).phase ≡ true → 0 < k
unfolding reading
live-above d s k keeps live = by (cases_eq k 0) where
  none : HasNoZero (state_after_all (machine_in d) (first_state (machine_in d)) (journal_of s.log.all))
  none = zero-after (machine_in d) (first_state (machine_in d)) (journal_of s.log.all) keeps.well_formed.follow (record { unposted = refl })

  by : (k ≡ 0) ⊎ (k ≡ 0 → ⊥) → 0 < k
  by (inl e) =
      let P : ℕ → Type 0 = λ j. is_live ((state_after_all (machine_in d) (first_state (machine_in d)) (journal_of s.log.all)).invocations j).phase ≡ true in
      absurd (isnt-unposted ((state_after_all (machine_in d) (first_state (machine_in d)) (journal_of s.log.all)).invocations 0).phase (subst P e live) none.unposted)
  by (inr other) = omega arith

pub queued-above : (d : Description) (s : Parts) (k : ℕ) → Keeps d s → ((reading d s.log.all).invocations k).phase ≡ Queued → 0 < k
queued-above d s k keeps queued_ = live-above d s k keeps (ap is_live queued_)

-- where the last entry is no start, starts may follow
pub IsStarting-first : (d : Description) (s : Parts) → KeepsOrder d s → last_started s.log.all ≡ 0 → IsStarting d s
IsStarting-first d s order last =
    let P : ℕ → Type 0 = λ n. IsPastLast (machine_in d) (reading d s.log.all) n in
    record { order = order; past = subst P (sym last) (λ k queued_. inl (queued-above d s k order.keeps queued_)) }

-- ---- after a post

held-posted : (m : Machine) (r : NodeState) (n : ℕ) (h : HandlerId) (c : ContextId) (payload : ArrayVec ℤ) (k : ℕ) → (r.invocations n).phase ≡ Unposted → k ≢ n → IsHeldBack m r k → IsHeldBack m (next_state m r (Posted n h c payload)) k
held-posted m r n h c payload k fresh other b = record {
  by = b.by;
  ahead = later b.ahead;
  conflict = conflicting_by m (next_state m r (Posted n h c payload)) r k b.by (ap (λ (i : Invocation). i.program) (sym (j.others k other))) (ap (λ (i : Invocation). i.program) (sym (j.others b.by apart))) b.conflict;
} where
  j : Joins r (next_state m r (Posted n h c payload)) n
  j = posted-Joins m r n h c payload

  was_live : IsAhead r k b.by → is_live (r.invocations b.by).phase ≡ true
  was_live (inl started) = by (r.invocations b.by).phase started where
    by : (p : Phase) → is_started p ≡ true → is_live p ≡ true
    by Unposted is = cc
    by Queued is = cc
    by Ready is = refl
    by (Waiting f args) is = refl
    by Gone is = cc
  was_live (inr x) = ap is_live x.1

  apart : b.by ≢ n
  apart e = let P : ℕ → Type 0 = λ i. (r.invocations i).phase ≡ Unposted in isnt-unposted (r.invocations b.by).phase (was_live b.ahead) (subst P (sym e) fresh)

  later : IsAhead r k b.by → IsAhead (next_state m r (Posted n h c payload)) k b.by
  later (inl started) = inl (ap (λ (i : Invocation). is_started i.phase) (j.others b.by apart) ∙ started)
  later (inr x) = inr (x.0, ap (λ (i : Invocation). i.phase) (j.others b.by apart) ∙ x.1)

-- after a post from rest each other queued one is still held back
pub AllBut-posted : (d : Description) (s : Parts) (n : ℕ) (h : HandlerId) (c : ContextId) (payload : ArrayVec ℤ) → Rests d s → n ≡ suc (reading d s.log.all).posts
    → AllButHeld (machine_in d) (next_state (machine_in d) (reading d s.log.all) (Posted n h c payload)) n
unfolding reading
AllBut-posted d s n h c payload rests number k other queued_ =
    let m = machine_in d in
    let r = reading d s.log.all in
    let o = orderly-after m (first_state m) 0 (journal_of s.log.all) rests.order.keeps.well_formed.follow rests.order.grants (nothing_heard-orderly m) in
    let j = posted-Joins m r n h c payload in
    let was : (r.invocations k).phase ≡ Queued = ap (λ (i : Invocation). i.phase) (sym (j.others k other)) ∙ queued_ in
    held-posted m r n h c payload k (o.numbered n (omega arith)) other (rests.held k was)
