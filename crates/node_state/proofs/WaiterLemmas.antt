-- What the claims of a node's contexts say of its invocations, and the other way round.
use Rattle.std.proofs.Common.{◌≡◌, ◌≢◌, ◌⊎◌, ℕ, ◌<◌, true, false, List, [], ◌∷◌, ◌++◌, Option, Some, refl, sym, ◌∙◌, ap, subst, arith, inl, inr}
use Rattle.std.specs.Prelude.{Contains}
use Rattle.std.proofs.lemmas.Bool.{cases_eq}
use Rattle.std.proofs.lemmas.List.Elements.{Contains-append_left, Contains-append_right, Contains-append_cases}
use Rattle.std.proofs.lemmas.List.{append-nil}
use Rattle.std.proofs.Common.{append_assoc}
use Rattle.mate_num.specs.Locks as locks
use Rattle.mate_num.specs.Uses.{Uses, uses, ConflictsAt, Conflicts, IsCompatible, IsSameUses}
use Rattle.mate_num.specs.declared.id.ContextId.{ContextId}
use Rattle.mate_num.specs.declared.lock_set.LockSet.{LockSet}
use Rattle.lock_manager.specs.declared.claim.Claim.{Claim}
use Rattle.lock_manager.specs.Claims as claims
use Rattle.lock_manager.specs.Claims.{Claims, set_of, AreOnce, Grants}
use Rattle.lock_manager.proofs.ClaimLemmas.{times-append, AreOnce-fewer}
use Rattle.lock_manager.proofs.GrantLemmas.{Contains-set_of, set_of-Contains}
use Rattle.mate_journal.specs.Machine.{Machine}
use Rattle.mate_journal.specs.Journal.{Started, Phase, Unposted, Queued, Ready, Waiting, Over as Gone, is_live, is_started, Invocation, NodeState, next_state}
use Rattle.mate_journal.specs.Grants.{IsAhead, AreConflicting, IsHeldBack, AllHeldBack, MayStart}
use Rattle.journal_laws.proofs.Moves.{Moves, started-Moves}
use Rattle.journal_laws.proofs.Apart.{conflicting_by}
use Rattle.vm_shape.specs.declared.description.Description.{Description}
use Rattle.node_state.specs.declared.seat.Seat.{Seat}
use Rattle.node_state.specs.declared.contexts.Contexts.{Contexts}
use Rattle.node_state.specs.At.{At, at}
use Rattle.node_state.specs.Programs.{Programs}
use Rattle.node_state.specs.Meaning.{machine_in}
use Rattle.node_state.specs.Standing.{standing}
use Rattle.node_state.specs.Agrees.{uses_for}
use Rattle.node_state.specs.Fits.{AreInstalled, ContextsMatch}
use Rattle.node_state.proofs.FitLemmas.{HasSeat, by_seat, seat-by, queued-by_waits}
use Rattle.node_state.proofs.SerialLemmas.{started-live}
use Rattle.node_state.proofs.EntryLemmas.{seat-uses, uses-same, IsCompatible-same, holds-by_started}
use Rattle.node_state.specs.Queue.{number_at, invocation_in, NumbersRise}
use Rattle.node_state.proofs.QueueLemmas.{Contains-head, Contains-cases, split_at, NumbersRise-before, NumbersRise-behind}

-- ---- conflicts by what is used

Conflicts-same : (a b u w : Uses) → IsSameUses a u → IsSameUses b w → Conflicts a b → Conflicts u w
Conflicts-same a b u w au bw c = record { resource = c.resource; at = by c.at } where
  used : (x y : Uses) → IsSameUses x y → uses x c.resource ≡ true → uses y c.resource ≡ true
  used x y same t = uses-same y x c.resource (record { reads = λ q. sym (same.reads q); writes = λ q. sym (same.writes q) }) t

  by : ConflictsAt a b c.resource → ConflictsAt u w c.resource
  by (inl x) = inl (sym (au.writes c.resource) ∙ x.0, used b w bw x.1)
  by (inr y) = inr (sym (bw.writes c.resource) ∙ y.0, used a u au y.1)

-- ---- phases by what is held

started-by_holds : (p : Phase) (s : Seat) (l set : LockSet) → (standing p s l).holds ≡ Some set → is_started p ≡ true
started-by_holds Ready s l set e = refl
started-by_holds (Waiting f args) s l set e = refl
started-by_holds _ s l set e = cc

some-same : (l set : LockSet) (o : Option LockSet) → o ≡ Some l → o ≡ Some set → l ≡ set
some-same l set o e f = let g : Some l ≡ Some set = sym e ∙ f in cc

-- ---- claims and invocations

-- the claim is the invocation's
pub record IsClaimOf (d : Description) (r : NodeState) (s : Contexts) (c : Claim) (n : ℕ) : Type 0 where
  pub number : invocation_in s c.ctx ≡ n
  pub same : IsSameUses (locks.lock_uses c.set) (uses_for d (r.invocations n))

-- the invocation's claim is in the list
pub record Claims-for (d : Description) (r : NodeState) (s : Contexts) (list : List Claim) (n : ℕ) : Type 0 where
  pub claim : Claim
  pub among : Contains list claim
  pub is : IsClaimOf d r s claim n

-- the claim's invocation is in such a phase
pub record Claimed-by (d : Description) (r : NodeState) (s : Contexts) (c : Claim) (test : Phase → Type 0) : Type 0 where
  pub invocation : ℕ
  pub phase : test (r.invocations invocation).phase
  pub is : IsClaimOf d r s c invocation

abbrev pub IsQueued : Phase → Type 0
IsQueued p = p ≡ Queued

abbrev pub HasStarted : Phase → Type 0
HasStarted p = is_started p ≡ true

module _ (d : Description) (held : Programs) (r : NodeState) (s : Contexts) (fits : ContextsMatch held r s) (installed : AreInstalled d r.installed held) (once : AreOnce (s.locks.started ++ s.locks.waiting)) where
  abbrev m : Machine
  m = machine_in d

  once-waiting : AreOnce s.locks.waiting
  once-waiting = AreOnce-fewer (s.locks.started ++ s.locks.waiting) s.locks.waiting (λ k. (let e = times-append k s.locks.started s.locks.waiting in omega arith)) once

  once-started : AreOnce s.locks.started
  once-started = AreOnce-fewer (s.locks.started ++ s.locks.waiting) s.locks.started (λ k. (let e = times-append k s.locks.started s.locks.waiting in omega arith)) once

  -- a seat with these locks
  seat-claim : (c : ContextId) (set : LockSet) (h : HasSeat held r c (at s c)) → h.seated.x.locks ≡ set → IsClaimOf d r s record { ctx = c; set = set } h.seat.inv
  seat-claim c set h e =
      let P : LockSet → Type 0 = λ l. IsSameUses (locks.lock_uses l) (uses_for d (r.invocations h.seat.inv)) in
      record {
        number = ap number_at h.is;
        same = subst P e (seat-uses d held r.posts (r.invocations h.seat.inv) c h.seat (at s c) h.seated (installed.each h.seat.handler h.seated.x h.seated.is_held));
      }

  pub waiter : (c : Claim) → Contains s.locks.waiting c → Claimed-by d r s c IsQueued
  waiter c among =
      let set : (at s c.ctx).waits ≡ Some c.set = set_of-Contains s.locks.waiting c once-waiting among in
      let h = seat-by (λ a. a.waits) c.set held r c.ctx (at s c.ctx) refl set (fits.each c.ctx) in
      let p : Phase = (r.invocations h.seat.inv).phase in
      let is : p ≡ Queued = queued-by_waits p h.seat h.seated.x.locks c.set (ap (λ (a : At). a.waits) (sym h.seated.stands) ∙ set) in
      let stood : (at s c.ctx).waits ≡ Some h.seated.x.locks = ap (λ (a : At). a.waits) h.seated.stands ∙ ap (λ (q : Phase). (standing q h.seat h.seated.x.locks).waits) is in
      record { invocation = h.seat.inv; phase = is; is = seat-claim c.ctx c.set h (some-same h.seated.x.locks c.set (at s c.ctx).waits stood set) }

  pub starter : (c : Claim) → Contains s.locks.started c → Claimed-by d r s c HasStarted
  starter c among =
      let set : (at s c.ctx).holds ≡ Some c.set = set_of-Contains s.locks.started c once-started among in
      let h = seat-by (λ a. a.holds) c.set held r c.ctx (at s c.ctx) refl set (fits.each c.ctx) in
      let p : Phase = (r.invocations h.seat.inv).phase in
      let is : is_started p ≡ true = started-by_holds p h.seat h.seated.x.locks c.set (ap (λ (a : At). a.holds) (sym h.seated.stands) ∙ set) in
      let stood : (at s c.ctx).holds ≡ Some h.seated.x.locks = ap (λ (a : At). a.holds) h.seated.stands ∙ holds-by_started p h.seat h.seated.x.locks is in
      record { invocation = h.seat.inv; phase = is; is = seat-claim c.ctx c.set h (some-same h.seated.x.locks c.set (at s c.ctx).holds stood set) }

  -- the seat of a live invocation, in its context
  seat-of : (n : ℕ) → is_live (r.invocations n).phase ≡ true → (h : HasSeat held r (r.invocations n).context (at s (r.invocations n).context)) × (h.seat.inv ≡ n)
  seat-of n live =
      let c : ContextId = (r.invocations n).context in
      let p = fits.placed n live in
      (record { seat = p.seat; is = p.is; seated = by_seat held r c (at s c) p.seat p.is (fits.each c) }, p.number)

  pub waits_as : (n : ℕ) → (r.invocations n).phase ≡ Queued → Claims-for d r s s.locks.waiting n
  waits_as n queued =
      let c : ContextId = (r.invocations n).context in
      let g = seat-of n (ap is_live queued) in
      let h = g.0 in
      let is : (r.invocations h.seat.inv).phase ≡ Queued = ap (λ (k : ℕ). (r.invocations k).phase) g.1 ∙ queued in
      let stood : (at s c).waits ≡ Some h.seated.x.locks = ap (λ (a : At). a.waits) h.seated.stands ∙ ap (λ (q : Phase). (standing q h.seat h.seated.x.locks).waits) is in
      let claim : Claim = record { ctx = c; set = h.seated.x.locks } in
      let P : ℕ → Type 0 = λ k. IsClaimOf d r s claim k in
      record { claim = claim; among = Contains-set_of s.locks.waiting c h.seated.x.locks stood; is = subst P g.1 (seat-claim c h.seated.x.locks h refl) }

  pub holds_as : (n : ℕ) → is_started (r.invocations n).phase ≡ true → Claims-for d r s s.locks.started n
  holds_as n started =
      let c : ContextId = (r.invocations n).context in
      let g = seat-of n (started-live (r.invocations n).phase started) in
      let h = g.0 in
      let is : is_started (r.invocations h.seat.inv).phase ≡ true = ap (λ (k : ℕ). is_started (r.invocations k).phase) g.1 ∙ started in
      let stood : (at s c).holds ≡ Some h.seated.x.locks = ap (λ (a : At). a.holds) h.seated.stands ∙ holds-by_started (r.invocations h.seat.inv).phase h.seat h.seated.x.locks is in
      let claim : Claim = record { ctx = c; set = h.seated.x.locks } in
      let P : ℕ → Type 0 = λ k. IsClaimOf d r s claim k in
      record { claim = claim; among = Contains-set_of s.locks.started c h.seated.x.locks stood; is = subst P g.1 (seat-claim c h.seated.x.locks h refl) }

  -- ---- who is held back

  module _ (rises : NumbersRise (invocation_in s) s.locks.waiting) where
    -- a claim that is held back by earlier ones is that of an invocation that is
    pub held-back : (earlier later : List Claim) (a : Claim) (n : ℕ) → s.locks.waiting ≡ earlier ++ a ∷ later → IsClaimOf d r s a n → claims.IsClaimHeldBack s.locks.started earlier a → IsHeldBack m r n
    held-back earlier later a n was is h = by h.ahead where
      conflict : (k : ℕ) → IsClaimOf d r s h.by k → AreConflicting m r n k
      conflict k w = Conflicts-same (locks.lock_uses a.set) (locks.lock_uses h.by.set) (uses_for d (r.invocations n)) (uses_for d (r.invocations k)) is.same w.same h.conflict

      by : Contains s.locks.started h.by ⊎ Contains earlier h.by → IsHeldBack m r n
      by (inl started) = let w = starter h.by started in record { by = w.invocation; ahead = inl w.phase; conflict = conflict w.invocation w.is }
      by (inr among) =
          let P : List Claim → Type 0 = λ l. Contains l h.by in
          let Q : List Claim → Type 0 = λ l. NumbersRise (invocation_in s) l in
          let w = waiter h.by (subst P (sym was) (Contains-append_left earlier (a ∷ later) h.by among)) in
          let order = NumbersRise-before (invocation_in s) earlier a later h.by (subst Q was rises) among in
          let e = w.is.number in
          let f = is.number in
          record { by = w.invocation; ahead = inr (omega arith, w.phase); conflict = conflict w.invocation w.is }

    -- of claims that are all held back
    pub held-among : (earlier later : List Claim) → s.locks.waiting ≡ earlier ++ later → claims.AreClaimsHeldBack s.locks.started earlier → (a : Claim) (n : ℕ) → Contains earlier a → IsClaimOf d r s a n → IsHeldBack m r n
    held-among earlier later was all a n among is =
        let p = split_at earlier a among in
        let e : s.locks.waiting ≡ p.front ++ a ∷ (p.back ++ later) = was ∙ ap (λ (l : List Claim). l ++ later) p.is ∙ append_assoc p.front (a ∷ p.back) later in
        held-back p.front (p.back ++ later) a n e is (all.each p.front a p.back p.is)

    -- where the lock manager holds all back, so does the journal
    pub all-held : claims.AreClaimsHeldBack s.locks.started s.locks.waiting → AllHeldBack m r
    all-held all n queued =
        let w = waits_as n queued in
        held-among s.locks.waiting [] (sym (append-nil s.locks.waiting)) all w.claim n w.among w.is

    -- ---- who is granted its locks

    module _ (new : Claims) (ctx : ContextId) (g : Grants s.locks new ctx) where
      abbrev n : ℕ
      n = invocation_in s ctx

      among-granted : Contains s.locks.waiting g.claim
      among-granted = let P : List Claim → Type 0 = λ l. Contains l g.claim in subst P (sym g.was) (Contains-append_right g.earlier (g.claim ∷ g.later) g.claim (Contains-head g.claim g.later))

      pub granted-number : invocation_in s g.claim.ctx ≡ n
      granted-number = ap (invocation_in s) g.own

      granted : Claimed-by d r s g.claim IsQueued
      granted = waiter g.claim among-granted

      granted-is : granted.invocation ≡ n
      granted-is = sym granted.is.number ∙ granted-number

      pub granted-queued : (r.invocations n).phase ≡ Queued
      granted-queued = let P : ℕ → Type 0 = λ k. (r.invocations k).phase ≡ Queued in subst P granted-is granted.phase

      granted-claim : IsClaimOf d r s g.claim n
      granted-claim = let P : ℕ → Type 0 = λ k. IsClaimOf d r s g.claim k in subst P granted-is granted.is

      rises-was : NumbersRise (invocation_in s) (g.earlier ++ g.claim ∷ g.later)
      rises-was = let Q : List Claim → Type 0 = λ l. NumbersRise (invocation_in s) l in subst Q g.was rises

      -- where a queued invocation's claim stands
      place : (k : ℕ) (w : Claims-for d r s s.locks.waiting k) → Contains g.earlier w.claim ⊎ (k ≡ n) ⊎ (n < k)
      place k w = by (Contains-append_cases g.earlier (g.claim ∷ g.later) w.claim (let P : List Claim → Type 0 = λ l. Contains l w.claim in subst P g.was w.among)) where
        behind : (g.claim ≡ w.claim) ⊎ Contains g.later w.claim → (k ≡ n) ⊎ (n < k)
        behind (inl e) = inl (sym w.is.number ∙ ap (λ (c : Claim). invocation_in s c.ctx) (sym e) ∙ granted-number)
        behind (inr v) =
            let order = NumbersRise-behind (invocation_in s) g.earlier g.claim g.later w.claim rises-was v in
            let e = w.is.number in
            let f = granted-number in
            inr (omega arith)

        by : Contains g.earlier w.claim ⊎ Contains (g.claim ∷ g.later) w.claim → Contains g.earlier w.claim ⊎ (k ≡ n) ⊎ (n < k)
        by (inl v) = inl v
        by (inr v) = inr (behind (Contains-cases g.claim g.later w.claim v))

      pub granted-may : MayStart m r n
      granted-may k ahead conflict = by ahead where
        apart : (c : Claim) → IsClaimOf d r s c k → IsCompatible (locks.lock_uses g.claim.set) (locks.lock_uses c.set) → ⊥
        apart c is compatible =
            (IsCompatible-same (locks.lock_uses g.claim.set) (locks.lock_uses c.set) (uses_for d (r.invocations n)) (uses_for d (r.invocations k)) granted-claim.same is.same compatible).apart conflict.resource conflict.at

        earlier : (k < n) → (w : Claims-for d r s s.locks.waiting k) → Contains g.earlier w.claim ⊎ (k ≡ n) ⊎ (n < k) → ⊥
        earlier before w (inl v) = apart w.claim w.is (g.free.of_earlier w.claim v)
        earlier before w (inr (inl e)) = absurd (omega arith)
        earlier before w (inr (inr above)) = absurd (omega arith)

        by : IsAhead r n k → ⊥
        by (inl started) = let w = holds_as k started in apart w.claim w.is (g.free.of_started w.claim w.among)
        by (inr x) = let w = waits_as k x.1 in earlier x.0 w (place k w)

      -- the other queued ones come after it, or are held back
      pub granted-past : (k : ℕ) → k ≢ n → (r.invocations k).phase ≡ Queued → (n < k) ⊎ IsHeldBack m r k
      granted-past k other queued = by (place k w) where
        w : Claims-for d r s s.locks.waiting k
        w = waits_as k queued

        by : Contains g.earlier w.claim ⊎ (k ≡ n) ⊎ (n < k) → (n < k) ⊎ IsHeldBack m r k
        by (inl v) = inr (held-among g.earlier (g.claim ∷ g.later) g.was g.held w.claim k v w.is)
        by (inr (inl e)) = absurd (other e)
        by (inr (inr above)) = inl above

-- ---- one that is started, and moves, holds nobody less

pub held-moves : (m : Machine) (r later : NodeState) (n k : ℕ) (phase : Phase) → Moves r later n phase → is_started phase ≡ true → IsHeldBack m r k → IsHeldBack m later k
held-moves m r later n k phase moves starts h = record { by = h.by; ahead = by (cases_eq h.by n) h.ahead; conflict = conflicting_by m later r k h.by (sym (program k)) (sym (program h.by)) h.conflict } where
  program : (j : ℕ) → (later.invocations j).program ≡ (r.invocations j).program
  program j = elim (cases_eq j n) [
    | inl e ↦ (let P : ℕ → Type 0 = λ x. (later.invocations x).program ≡ (r.invocations x).program in subst P (sym e) moves.program)
    | inr other ↦ ap (λ (i : Invocation). i.program) (moves.others j other)
  ]

  by : (h.by ≡ n) ⊎ (h.by ≡ n → ⊥) → IsAhead r k h.by → IsAhead later k h.by
  by (inl e) a = inl (let P : ℕ → Type 0 = λ x. is_started (later.invocations x).phase ≡ true in subst P (sym e) (ap is_started moves.here ∙ starts))
  by (inr other) (inl started) = inl (ap (λ (i : Invocation). is_started i.phase) (moves.others h.by other) ∙ started)
  by (inr other) (inr x) = inr (x.0, ap (λ (i : Invocation). i.phase) (moves.others h.by other) ∙ x.1)

pub held-started : (m : Machine) (r : NodeState) (n k : ℕ) → IsHeldBack m r k → IsHeldBack m (next_state m r (Started n)) k
held-started m r n k h = held-moves m r (next_state m r (Started n)) n k Ready (started-Moves m r n) refl h

-- where one moves from a started phase to another, and all are held back, all still are
pub all-held-moves : (m : Machine) (r later : NodeState) (n : ℕ) (phase : Phase) → Moves r later n phase → is_started phase ≡ true → AllHeldBack m r → AllHeldBack m later
all-held-moves m r later n phase moves starts all k queued_ = by (cases_eq k n) where
  by : (k ≡ n) ⊎ (k ≡ n → ⊥) → IsHeldBack m later k
  by (inl e) =
      let P : ℕ → Type 0 = λ x. (later.invocations x).phase ≡ Queued in
      let g : is_started Queued ≡ true = ap is_started (sym (subst P e queued_) ∙ moves.here) ∙ starts in
      absurd (let f : false ≡ true = g in cc)
  by (inr other) = held-moves m r later n k phase moves starts (all k (ap (λ (i : Invocation). i.phase) (sym (moves.others k other)) ∙ queued_))
