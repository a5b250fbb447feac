-- What each call leaves: the lists stay in step with the numbers, and what the caller sees of them.
use Rattle.std.proofs.Common.{◌≡◌, ℕ, suc, ◌+◌, ◌<◌, Bool, true, false, cond, eqb, ltb, List, [], ◌∷◌, ◌++◌, Option, Some, None, length, get_or, take, drop, map, ◌∙◌, sym, ap, subst, refl, inl, inr, IsTrue, arith}
use Rattle.std.specs.List.{All, AllByRecursion, position, position_or_len, position_from, refill}
use Rattle.std.specs.Option.{is_some}
use Rattle.std.proofs.Math.Seq.{drop-cons}
use Rattle.std.proofs.lemmas.List.{length-append, length-map, length-take, map-append, append_assoc, take-append-drop, get_or-take, take_at}
use Rattle.std.proofs.lemmas.List.Sums.{fails_before_first}
use Rattle.std.proofs.lemmas.List.Elements.{recursion_from_All, All-from_recursion}
use Rattle.std.proofs.lemmas.List.{get_or_read}
use Rattle.std.proofs.lemmas.List.Quantifiers.{position-Some}
use Rattle.std.proofs.lemmas.Iterator.Adapters.{position_from-zero}
use Rattle.std.proofs.lemmas.Bool.{cases_lt, lt-ltb, eq-eqb, eqb-true, cond-true, both_ways}
use Rattle.mate_num.specs.declared.id.ContextId.{ContextId}
use Rattle.mate_num.specs.declared.lock_set.LockSet.{LockSet}
use Rattle.lock_manager.specs.declared.claim.Claim.{Claim}
use Rattle.lock_manager.specs.declared.claim.Waiter.{Waiter}
use Rattle.lock_manager.specs.Conflict.{conflict}
use Rattle.lock_manager.specs.Claims.{Claims, is_of, set_of, against, AreOnce, Enqueues, Grants, GrantsNone, Releases}
use Rattle.lock_manager.specs.Counts.{claims_of, AreCounts, AreLocks, lowered}
use Rattle.lock_manager.proofs.ClaimLemmas.{one_if, one_if-true, times, times-cons, times-append, times-own, times-none, set_of-none, set_of-out, set_of-push, set_of-push_other, AreOnce-fewer, AreOnce-push, same_context, length-once}
use Rattle.lock_manager.proofs.CountLemmas.{against-append, AreCounts-append, AreCounts-front, AreCounts-back, AreCounts-grant, AreCounts-release, IsFree-from_count, AllHeldBack-from_counts, claims_of-lowered, number_above-release}

-- the lists, as a caller sees them
abbrev pub seen : List Waiter → List Claim → Claims
seen ws ss = record { waiting = claims_of ws; started = ss }

claims_of-append : (xs ys : List Waiter) → claims_of (xs ++ ys) ≡ claims_of xs ++ claims_of ys
claims_of-append xs ys = map-append (λ (w : Waiter). w.claim) xs ys

-- ---- a new waiter
-- the context of the claim neither waits nor is started
pub record IsNew (ws : List Waiter) (ss : List Claim) (c : Claim) : Type 0 where
  pub within : c.ctx.0 < 16
  pub not_waiting : set_of (claims_of ws) c.ctx ≡ None
  pub not_started : set_of ss c.ctx ≡ None

pub IsNew-seen : (ws : List Waiter) (ss : List Claim) (c : Claim) (now : Claims) → seen ws ss ≡ now → c.ctx.0 < 16 → is_some (set_of now.waiting c.ctx) ≡ false → is_some (set_of now.started c.ctx) ≡ false → IsNew ws ss c
IsNew-seen ws ss c now same within absent free = record {
  within = within;
  not_waiting = ap (λ (s : Claims). set_of s.waiting c.ctx) same ∙ none_of (set_of now.waiting c.ctx) absent;
  not_started = ap (λ (s : Claims). set_of s.started c.ctx) same ∙ none_of (set_of now.started c.ctx) free;
} where
  none_of : (o : Option LockSet) → is_some o ≡ false → o ≡ None
  none_of None h = refl
  none_of (Some set) h = absurd (let e : true ≡ false = h in cc)

once-new : (ws : List Waiter) (ss : List Claim) (c : Claim) → AreLocks ws ss → IsNew ws ss c → AreOnce ((ss ++ claims_of ws) ++ c ∷ [])
once-new ws ss c locks fresh =
    let a = times-none (claims_of ws) c.ctx fresh.not_waiting in
    let b = times-none ss c.ctx fresh.not_started in
    let e = times-append c.ctx ss (claims_of ws) in
    AreOnce-push (ss ++ claims_of ws) c locks.once fresh.within (omega arith)

pub room_for : (ws : List Waiter) (ss : List Claim) (c : Claim) → AreLocks ws ss → IsNew ws ss c → length ws < 16
room_for ws ss c locks fresh =
    let n = length-once ((ss ++ claims_of ws) ++ c ∷ []) (once-new ws ss c locks fresh) in
    let a = length-append (ss ++ claims_of ws) (c ∷ []) in
    let b = length-append ss (claims_of ws) in
    let d = length-map ws (λ (w : Waiter). w.claim) in
    omega arith

pub AreLocks-enqueue : (ws vs : List Waiter) (ss : List Claim) (w : Waiter) → vs ≡ ws ++ w ∷ [] → AreLocks ws ss → IsNew ws ss w.claim → w.blocked ≡ against w.claim.set ss + against w.claim.set (claims_of ws) → AreLocks vs ss
AreLocks-enqueue ws vs ss w e locks fresh number =
    let P : List Waiter → Type 0 = λ l. AreLocks l ss in
    let c : Claim = w.claim in
    let all : (ss ++ claims_of ws) ++ c ∷ [] ≡ ss ++ claims_of (ws ++ w ∷ []) =
    append_assoc ss (claims_of ws) (c ∷ []) ∙ ap (λ (l : List Claim). ss ++ l) (sym (claims_of-append ws (w ∷ []))) in
    subst P (sym e) record {
      once = subst AreOnce all (once-new ws ss c locks fresh);
      counts = AreCounts-append ss ws (w ∷ []) locks.counts (number ∙ sym (against-append c.set ss (claims_of ws)), tt);
    }

pub Enqueues-from : (ws vs : List Waiter) (ss : List Claim) (w : Waiter) → vs ≡ ws ++ w ∷ [] → IsNew ws ss w.claim → Enqueues (seen ws ss) (seen vs ss) w.claim.ctx w.claim.set
Enqueues-from ws vs ss w e fresh =
    let c : Claim = w.claim in
    let waiting : claims_of vs ≡ claims_of ws ++ c ∷ [] = ap claims_of e ∙ claims_of-append ws (w ∷ []) in
    record {
      waiting = waiting;
      started = refl;
      moves = record {
        waits = ap (λ (l : List Claim). set_of l c.ctx) waiting ∙ set_of-push (claims_of ws) c (times-none (claims_of ws) c.ctx fresh.not_waiting);
        holds = fresh.not_started;
        others_wait = λ ctx ne. ap (λ (l : List Claim). set_of l ctx) waiting ∙ set_of-push_other (claims_of ws) c ctx ne;
        others_hold = λ ctx ne. refl;
      };
    }

-- where somebody waits, there is room among the started ones
pub room_to_start : (ws : List Waiter) (ss : List Claim) → AreLocks ws ss → 0 < length ws → length ss < 16
room_to_start ws ss locks some =
    let n = length-once (ss ++ claims_of ws) locks.once in
    let b = length-append ss (claims_of ws) in
    let d = length-map ws (λ (w : Waiter). w.claim) in
    omega arith

-- ---- a list around one of its items
split_at : {X : Type 0} (xs : List X) (p : ℕ) (x : X) → p < length xs → x ≡ get_or xs p x → xs ≡ take p xs ++ x ∷ drop (suc p) xs
split_at {X} xs p x below is =
    let cut : drop p xs ≡ get_or xs p x ∷ drop (suc p) xs = drop-cons xs p x below in
    sym (take-append-drop p xs) ∙ ap (λ (l : List X). take p xs ++ l) (cut ∙ ap (λ (y : X). y ∷ drop (suc p) xs) (sym is))

position-None : {X : Type 0} (p : X → Bool) (xs : List X) → position p xs ≡ None → All (λ x. p x ≡ false) xs
position-None {X} p xs none = λ k d below. elim (cases_lt (position_or_len p xs) (length xs)) [
  | inl found ↦
      (let e : position p xs ≡ Some (position_or_len p xs) = cond-true (ltb (position_or_len p xs) (length xs)) (Some (position_or_len p xs)) None (lt-ltb (position_or_len p xs) (length xs) found) in
      absurd (let f : Some (position_or_len p xs) ≡ None = sym e ∙ none in cc))
  | inr past ↦ fails_before_first p xs k d (omega arith)
]

-- ---- a grant
-- w stands between these, it is free, and those before it are not
pub record IsFirstFree (ws : List Waiter) (before : List Waiter) (w : Waiter) (after : List Waiter) : Type 0 where
  pub whole : ws ≡ before ++ w ∷ after
  pub free : w.blocked ≡ 0
  pub others : AllByRecursion (λ v. eqb v.blocked 0 ≡ false) before

pub IsFirstFree-from_position : (ws : List Waiter) (p : ℕ) (w : Waiter) → position (λ v. eqb v.blocked 0) ws ≡ Some p → w ≡ get_or ws p w → IsFirstFree ws (take p ws) w (drop (suc p) ws)
IsFirstFree-from_position ws p w e is =
    let found = position-Some (λ (v : Waiter). eqb v.blocked 0) ws p w e in
    record {
      whole = split_at ws p w found.0 is;
      free = eqb-true w.blocked 0 (ap (λ (v : Waiter). eqb v.blocked 0) is ∙ found.1);
      others = recursion_from_All (λ (v : Waiter). eqb v.blocked 0 ≡ false) (take p ws) (λ k d below.
          (let short : k < p = (let n = length-take p ws in omega arith) in
          ap (λ (v : Waiter). eqb v.blocked 0) (get_or-take p ws k d short) ∙ (position-Some (λ (v : Waiter). eqb v.blocked 0) ws p d e).2 k short));
    }

times-around : (ctx : ContextId) (ws before after : List Waiter) (w : Waiter) → ws ≡ before ++ w ∷ after → times ctx (claims_of ws) ≡ times ctx (claims_of before) + (one_if (is_of ctx w.claim) + times ctx (claims_of after))
times-around ctx ws before after w e =
    let whole : claims_of ws ≡ claims_of before ++ w.claim ∷ claims_of after = ap claims_of e ∙ claims_of-append before (w ∷ after) in
    ap (times ctx) whole ∙ times-append ctx (claims_of before) (w.claim ∷ claims_of after) ∙ ap (λ (n : ℕ). times ctx (claims_of before) + n) (times-cons ctx w.claim (claims_of after))

times-joined : (ctx : ContextId) (vs before after : List Waiter) → vs ≡ before ++ after → times ctx (claims_of vs) ≡ times ctx (claims_of before) + times ctx (claims_of after)
times-joined ctx vs before after e = ap (times ctx) (ap claims_of e ∙ claims_of-append before after) ∙ times-append ctx (claims_of before) (claims_of after)

times-more : (ctx : ContextId) (ss ts : List Claim) (c : Claim) → ts ≡ ss ++ c ∷ [] → times ctx ts ≡ times ctx ss + (one_if (is_of ctx c) + 0)
times-more ctx ss ts c e = ap (times ctx) e ∙ times-append ctx ss (c ∷ []) ∙ ap (λ (n : ℕ). times ctx ss + n) (times-cons ctx c [])

pub AreLocks-grant : (ws vs before after : List Waiter) (w : Waiter) (ss ts : List Claim) → IsFirstFree ws before w after → vs ≡ before ++ after → ts ≡ ss ++ w.claim ∷ [] → AreLocks ws ss → AreLocks vs ts
AreLocks-grant ws vs before after w ss ts first e f locks =
    let P : List Waiter → Type 0 = λ l. AreCounts ss l in
    let Q : List Waiter → Type 0 = λ l. AreCounts (ss ++ w.claim ∷ []) l in
    let R : List Claim → Type 0 = λ l. AreCounts l vs in
    record {
      once = AreOnce-fewer (ss ++ claims_of ws) (ts ++ claims_of vs) (λ ctx.
          (let a = times-append ctx ss (claims_of ws) in
          let b = times-around ctx ws before after w first.whole in
          let d = times-append ctx ts (claims_of vs) in
          let g = times-joined ctx vs before after e in
          let h = times-more ctx ss ts w.claim f in
          omega arith)) locks.once;
      counts = subst R (sym f) (subst Q (sym e) (AreCounts-grant ss before after w (subst P first.whole locks.counts) first.free));
    }

pub Grants-from : (ws vs before after : List Waiter) (w : Waiter) (ss ts : List Claim) → IsFirstFree ws before w after → vs ≡ before ++ after → ts ≡ ss ++ w.claim ∷ [] → AreLocks ws ss → Grants (seen ws ss) (seen vs ts) w.claim.ctx
Grants-from ws vs before after w ss ts first e f locks =
    let c : Claim = w.claim in
    let P : List Waiter → Type 0 = λ l. AreCounts ss l in
    let counts : AreCounts ss (before ++ w ∷ after) = subst P first.whole locks.counts in
    let was : claims_of ws ≡ claims_of before ++ c ∷ claims_of after = ap claims_of first.whole ∙ claims_of-append before (w ∷ after) in
    let waiting : claims_of vs ≡ claims_of before ++ claims_of after = ap claims_of e ∙ claims_of-append before after in
    let once = locks.once.once c.ctx in
    let all = times-append c.ctx ss (claims_of ws) in
    let around = times-around c.ctx ws before after w first.whole in
    let joined = times-joined c.ctx vs before after e in
    let own = one_if-true (is_of c.ctx c) (eq-eqb c.ctx.0 c.ctx.0 refl) in
    record {
      earlier = claims_of before;
      claim = c;
      later = claims_of after;
      own = refl;
      was = was;
      waiting = waiting;
      started = f;
      free = IsFree-from_count ss (claims_of before) c (sym (AreCounts-back ss before (w ∷ after) counts).0 ∙ first.free);
      held = AllHeldBack-from_counts ss before (AreCounts-front ss before (w ∷ after) counts) first.others;
      moves = record {
        waits = set_of-none (claims_of vs) c.ctx (omega arith);
        holds = ap (λ (l : List Claim). set_of l c.ctx) f ∙ set_of-push ss c (omega arith);
        others_wait = λ ctx ne. ap (λ (l : List Claim). set_of l ctx) waiting ∙ set_of-out (claims_of before) (claims_of after) c ctx ne ∙ ap (λ (l : List Claim). set_of l ctx) (sym was);
        others_hold = λ ctx ne. ap (λ (l : List Claim). set_of l ctx) f ∙ set_of-push_other ss c ctx ne;
      };
    }

pub GrantsNone-from : (ws : List Waiter) (ss : List Claim) → position (λ v. eqb v.blocked 0) ws ≡ None → AreLocks ws ss → GrantsNone (seen ws ss) (seen ws ss)
GrantsNone-from ws ss e locks = record {
  held = AllHeldBack-from_counts ss ws locks.counts (recursion_from_All (λ (v : Waiter). eqb v.blocked 0 ≡ false) ws (position-None (λ (v : Waiter). eqb v.blocked 0) ws e));
  same = refl;
}

-- ---- a release
-- the context's claim c stands between these
pub record IsClaimAt (ss : List Claim) (ctx : ContextId) (front : List Claim) (c : Claim) (back : List Claim) : Type 0 where
  pub whole : ss ≡ front ++ c ∷ back
  pub own : c.ctx ≡ ctx

pub IsClaimAt-from_position : (ss : List Claim) (ctx : ContextId) (p : ℕ) (c : Claim) → position (is_of ctx) ss ≡ Some p → c ≡ get_or ss p c → IsClaimAt ss ctx (take p ss) c (drop (suc p) ss)
IsClaimAt-from_position ss ctx p c e is =
    let at = position-Some (is_of ctx) ss p c e in
    record {
      whole = split_at ss p c at.0 is;
      own = same_context c.ctx ctx (eqb-true c.ctx.0 ctx.0 (ap (is_of ctx) is ∙ at.1));
    }

is_some-position_from : (ss : List Claim) (ctx : ContextId) (i : ℕ) → is_some (position_from (is_of ctx) i ss) ≡ is_some (set_of ss ctx)
is_some-position_from [] ctx i = refl
is_some-position_from (c ∷ ss) ctx i = by_test (is_of ctx c) (is_some-position_from ss ctx (i + 1))
  where
    by_test : (b : Bool) → is_some (position_from (is_of ctx) (i + 1) ss) ≡ is_some (set_of ss ctx) → is_some (cond b (Some i) (position_from (is_of ctx) (i + 1) ss)) ≡ is_some (cond b (Some c.set) (set_of ss ctx))
    by_test true rest = refl
    by_test false rest = rest

pub is_some-position : (ss : List Claim) (ctx : ContextId) → is_some (position (is_of ctx) ss) ≡ is_some (set_of ss ctx)
is_some-position ss ctx = ap (λ (o : Option ℕ). is_some o) (position_from-zero (is_of ctx) ss) ∙ is_some-position_from ss ctx 0

-- a started context is found
pub found-started : (ss : List Claim) (ctx : ContextId) → position (is_of ctx) ss ≡ None → is_some (set_of ss ctx) ≡ true → ⊥
found-started ss ctx none started =
    let e : is_some (position (is_of ctx) ss) ≡ false = ap (λ (o : Option ℕ). is_some o) none in
    both_ways (is_some (set_of ss ctx)) (sym (is_some-position ss ctx) ∙ e) started

pub refill-map : (f : Waiter → Waiter) (ws vs : List Waiter) → vs ≡ map f ws → refill (length ws) ws vs ≡ map f ws
refill-map f ws vs e = take_at vs (drop (length vs) ws) (length ws) (ap length e ∙ length-map ws f) ∙ e

pub above-released : (ws : List Waiter) (ss front back : List Claim) (ctx : ContextId) (c : Claim) → IsClaimAt ss ctx front c back → AreLocks ws ss → All (λ w. IsTrue (conflict w.claim.set c.set) → 0 < w.blocked) ws
above-released ws ss front back ctx c at locks =
    let P : List Claim → Type 0 = λ l. AreCounts l ws in
    All-from_recursion (λ (w : Waiter). IsTrue (conflict w.claim.set c.set) → 0 < w.blocked) ws (number_above-release front back c ws (subst P at.whole locks.counts))

pub AreLocks-release : (ws vs : List Waiter) (ss ts front back : List Claim) (ctx : ContextId) (c : Claim) → IsClaimAt ss ctx front c back → ts ≡ front ++ back → vs ≡ map (lowered c.set) ws → AreLocks ws ss → AreLocks vs ts
AreLocks-release ws vs ss ts front back ctx c at e f locks =
    let P : List Claim → Type 0 = λ l. AreCounts l ws in
    let Q : List Claim → Type 0 = λ l. AreCounts l (map (lowered c.set) ws) in
    let R : List Waiter → Type 0 = λ l. AreCounts ts l in
    let same : claims_of vs ≡ claims_of ws = ap claims_of f ∙ claims_of-lowered c.set ws in
    record {
      once = AreOnce-fewer (ss ++ claims_of ws) (ts ++ claims_of vs) (λ x.
          (let a = times-append x ss (claims_of ws) in
          let b = ap (times x) at.whole ∙ times-append x front (c ∷ back) in
          let d = times-cons x c back in
          let g = times-append x ts (claims_of vs) in
          let h = ap (times x) e ∙ times-append x front back in
          let k = ap (times x) same in
          omega arith)) locks.once;
      counts = subst R (sym f) (subst Q (sym e) (AreCounts-release front back c ws (subst P at.whole locks.counts)));
    }

pub Releases-from : (ws vs : List Waiter) (ss ts front back : List Claim) (ctx : ContextId) (c : Claim) → IsClaimAt ss ctx front c back → ts ≡ front ++ back → vs ≡ map (lowered c.set) ws → AreLocks ws ss → Releases (seen ws ss) (seen vs ts) ctx
Releases-from ws vs ss ts front back ctx c at e f locks =
    let P : ContextId → Type 0 = λ x. Releases (seen ws ss) (seen vs ts) x in
    let same : claims_of vs ≡ claims_of ws = ap claims_of f ∙ claims_of-lowered c.set ws in
    let once = locks.once.once c.ctx in
    let all = times-append c.ctx ss (claims_of ws) in
    let around = ap (times c.ctx) at.whole ∙ times-append c.ctx front (c ∷ back) in
    let own = times-own c back in
    let joined = ap (times c.ctx) e ∙ times-append c.ctx front back in
    subst P at.own record {
      front = front;
      claim = c;
      back = back;
      own = refl;
      was = at.whole;
      started = e;
      waiting = same;
      moves = record {
        waits = ap (λ (l : List Claim). set_of l c.ctx) same ∙ set_of-none (claims_of ws) c.ctx (omega arith);
        holds = set_of-none ts c.ctx (omega arith);
        others_wait = λ x ne. ap (λ (l : List Claim). set_of l x) same;
        others_hold = λ x ne. ap (λ (l : List Claim). set_of l x) e ∙ set_of-out front back c x ne ∙ ap (λ (l : List Claim). set_of l x) (sym at.whole);
      };
    }

-- what fills a place that has no claim
abbrev pub no_claim : Claim
no_claim = record { ctx = record { 0 = 0 }; set = record { read = 0; written = 0 } }

abbrev pub no_waiter : Waiter
no_waiter = record { claim = no_claim; blocked = 0 }

-- what is read at a place is what is taken out there
pub read-taken : {X : Type 0} (p : X → Bool) (xs ys : List X) (k : ℕ) (x d : X) → ys ≡ xs → position p xs ≡ Some k → x ≡ get_or xs k x → get_or ys k d ≡ x
read-taken {X} p xs ys k x d same at is = ap (λ (l : List X). get_or l k d) same ∙ sym (get_or_read xs k x (position-Some p xs k d at).0 is d)
