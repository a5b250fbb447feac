-- Contexts go on agreeing with what is heard where one invocation moves.
use Rattle.std.proofs.Common.{◌≡◌, ◌≢◌, ◌⊎◌, ℕ, ◌≤◌, true, false, Option, Some, None, refl, sym, ◌∙◌, ap, subst, arith, inl, inr}
use Rattle.std.proofs.lemmas.Bool.{cases_eq}
use Rattle.std.proofs.lemmas.Bool.Decides.{eqb_tells}
use Rattle.lock_manager.proofs.ClaimLemmas.{same_context}
use Rattle.mate_num.specs.declared.id.ContextId.{ContextId}
use Rattle.mate_num.specs.declared.lock_set.LockSet.{LockSet}
use Rattle.split_phase.specs.Calls.{Asked}
use Rattle.mate_journal.specs.Journal.{Phase, Unposted, Queued, Ready, Waiting, Over, is_live, Invocation, NodeState, changed}
use Rattle.node_state.specs.declared.seat.Seat.{Seat}
use Rattle.node_state.specs.declared.contexts.Contexts.{Contexts}
use Rattle.node_state.specs.At.{At, idle, at, Becomes, IsPlaced}
use Rattle.node_state.specs.Programs.{Programs}
use Rattle.node_state.specs.Standing.{standing}
use Rattle.node_state.specs.Fits.{IsSeated, IsRightWith, IsRightContext, ContextsMatch}

-- ---- one changed value

pub changed-here : {A : Type 0} (f : ℕ → A) (n : ℕ) (value : A) (k : ℕ) → k ≡ n → changed f n value k ≡ value
changed-here f n value k e = elim (eqb_tells k n) [ inl t ↦ rw t.0 refl | inr u ↦ absurd (u.1 e) ]

pub changed-other : {A : Type 0} (f : ℕ → A) (n : ℕ) (value : A) (k : ℕ) → k ≢ n → changed f n value k ≡ f k
changed-other f n value k other = elim (eqb_tells k n) [ inl t ↦ absurd (other t.1) | inr u ↦ rw u.0 refl ]

-- ---- what stands at a context, by its parts

pub by_seat : (held : Programs) (r : NodeState) (c : ContextId) (a : At) (s : Seat) → a.seat ≡ Some s → IsRightContext held r c a → IsSeated held r.posts (r.invocations s.inv) c s a
by_seat held r c a s e right = let P : Option Seat → Type 0 = λ o. IsRightWith held r c a o in subst P e right

-- it is idle, or there is a seat
pub record HasSeat (held : Programs) (r : NodeState) (c : ContextId) (a : At) : Type 0 where
  pub seat : Seat
  pub is : a.seat ≡ Some seat
  pub seated : IsSeated held r.posts (r.invocations seat.inv) c seat a

pub idle_or_seat : (held : Programs) (r : NodeState) (c : ContextId) (a : At) → IsRightContext held r c a → (a ≡ idle) ⊎ HasSeat held r c a
idle_or_seat held r c a right = by a.seat refl right where
  by : (o : Option Seat) → a.seat ≡ o → IsRightWith held r c a o → (a ≡ idle) ⊎ HasSeat held r c a
  by None e h = inl h
  by (Some s) e h = inr (record { seat = s; is = e; seated = h })

pub no_seat : (held : Programs) (r : NodeState) (c : ContextId) (a : At) → IsRightContext held r c a → a.seat ≡ None → a ≡ idle
no_seat held r c a right e = let P : Option Seat → Type 0 = λ o. IsRightWith held r c a o in subst P e right

-- the phase of an invocation whose context stands so
pub queued-by_waits : (p : Phase) (s : Seat) (l set : LockSet) → (standing p s l).waits ≡ Some set → p ≡ Queued
queued-by_waits Queued s l set e = refl
queued-by_waits _ s l set e = cc

pub ready-by_ready : (p : Phase) (s : Seat) (l : LockSet) → (standing p s l).ready ≡ true → p ≡ Ready
ready-by_ready Ready s l e = refl
ready-by_ready _ s l e = cc

pub waiting-by_call : (p : Phase) (s : Seat) (l : LockSet) (call : Asked) → (standing p s l).call ≡ Some call → p ≡ Waiting call.0 call.1
waiting-by_call (Waiting f args) s l call e = let g : (f, args) ≡ call = cc in ap (λ (c : Asked). Waiting c.0 c.1) g
waiting-by_call _ s l call e = cc

-- the seat of a context that isn't idle, by one of its parts
pub seat-by : {A : Type 0} (part : At → Option A) (x : A) (held : Programs) (r : NodeState) (c : ContextId) (a : At) → part idle ≡ None → part a ≡ Some x → IsRightContext held r c a → HasSeat held r c a
seat-by {A} part x held r c a none e right =
    elim (idle_or_seat held r c a right) [
      | inl i ↦ absurd (let g : None ≡ Some x = sym none ∙ ap part (sym i) ∙ e in cc)
      | inr h ↦ h
    ]

pub seat-by_ready : (held : Programs) (r : NodeState) (c : ContextId) (a : At) → a.ready ≡ true → IsRightContext held r c a → HasSeat held r c a
seat-by_ready held r c a e right =
    elim (idle_or_seat held r c a right) [
      | inl i ↦ absurd (let g : false ≡ true = ap (λ (b : At). b.ready) (sym i) ∙ e in cc)
      | inr h ↦ h
    ]

-- ---- one invocation moves

-- the context is idle and the invocation not live, or the context is the invocation's
abbrev pub IsNow : Programs → ℕ → ℕ → Invocation → ContextId → At → Type 0
IsNow held posts n i c a = ((a ≡ idle) × (is_live i.phase ≡ false)) ⊎ ((s : Seat) × (a.seat ≡ Some s) × (s.inv ≡ n) × IsSeated held posts i c s a)

-- no other invocation has, or had, the context, and the invocation had no other
pub record IsAlone (old : Contexts) (n : ℕ) (c : ContextId) : Type 0 where
  pub elsewhere : (k : ContextId) (s : Seat) → k.0 ≢ c.0 → (at old k).seat ≡ Some s → s.inv ≢ n
  pub here : (s : Seat) → (at old c).seat ≡ Some s → s.inv ≡ n

module _ (held : Programs) (r : NodeState) (posts : ℕ) (old new : Contexts) (n : ℕ) (i : Invocation) (c : ContextId) (a : At)
    (fits : ContextsMatch held r old) (becomes : Becomes old new c a) (more : r.posts ≤ posts) (context : i.context ≡ c) (alone : IsAlone old n c) (now : IsNow held posts n i c a) where
  abbrev later : NodeState
  later = record r { posts = posts; invocations = changed r.invocations n i }

  here_right : IsRightContext held later c (at new c)
  here_right =
      let P : At → Type 0 = λ b. IsRightContext held later c b in
      subst P (sym becomes.here) (by now) where
        by : IsNow held posts n i c a → IsRightContext held later c a
        by (inl x) = let P : At → Type 0 = λ b. IsRightContext held later c b in subst P (sym x.0) refl
        by (inr y) =
            let Q : Invocation → Type 0 = λ j. IsSeated held posts j c y.0 a in
            let P : Option Seat → Type 0 = λ o. IsRightWith held later c a o in
            subst P (sym y.1) (subst Q (sym (changed-here r.invocations n i y.0.inv y.2)) y.3)

  there_right : (k : ContextId) → k.0 ≢ c.0 → IsRightContext held later k (at new k)
  there_right k other =
      let P : At → Type 0 = λ b. IsRightContext held later k b in
      subst P (sym (becomes.others k other)) (by (at old k).seat refl (fits.each k)) where
        by : (o : Option Seat) → (at old k).seat ≡ o → IsRightWith held r k (at old k) o → IsRightContext held later k (at old k)
        by None e h = let P : Option Seat → Type 0 = λ o. IsRightWith held later k (at old k) o in subst P (sym e) h
        by (Some s) e h =
            let same = changed-other r.invocations n i s.inv (alone.elsewhere k s other e) in
            let Q : Invocation → Type 0 = λ j. IsSeated held posts j k s (at old k) in
            let P : Option Seat → Type 0 = λ o. IsRightWith held later k (at old k) o in
            let fewer = h.number in
            let seated : IsSeated held posts (r.invocations s.inv) k s (at old k) =
            record { x = h.x; is_held = h.is_held; handler = h.handler; program = h.program; context = h.context; number = omega arith; live = h.live; stands = h.stands; fits = h.fits } in
            subst P (sym e) (subst Q (sym same) seated)

  each_right : (k : ContextId) → IsRightContext held later k (at new k)
  each_right k =
      elim (cases_eq k.0 c.0) [
        | inl e ↦ (let P : ContextId → Type 0 = λ j. IsRightContext held later j (at new j) in subst P (sym (same_context k c e)) here_right)
        | inr other ↦ there_right k other
      ]

  here_placed : is_live i.phase ≡ true → IsPlaced (at new i.context) n
  here_placed live =
      let P : ContextId → Type 0 = λ j. IsPlaced (at new j) n in
      let Q : At → Type 0 = λ b. IsPlaced b n in
      subst P (sym context) (subst Q (sym becomes.here) (by now)) where
        by : IsNow held posts n i c a → IsPlaced a n
        by (inl x) = absurd (let dead = x.1 in cc)
        by (inr y) = record { seat = y.0; is = y.1; number = y.2 }

  there_placed : (m : ℕ) → m ≢ n → is_live (r.invocations m).phase ≡ true → IsPlaced (at new (r.invocations m).context) m
  there_placed m other live = by (cases_eq (r.invocations m).context.0 c.0) (fits.placed m live) where
    by : ((r.invocations m).context.0 ≡ c.0) ⊎ ((r.invocations m).context.0 ≡ c.0 → ⊥) → IsPlaced (at old (r.invocations m).context) m → IsPlaced (at new (r.invocations m).context) m
    by (inl e) p =
        let P : ContextId → Type 0 = λ j. (at old j).seat ≡ Some p.seat in
        let g = alone.here p.seat (subst P (same_context (r.invocations m).context c e) p.is) in
        absurd (other (sym p.number ∙ g))
    by (inr f) p = let Q : At → Type 0 = λ b. IsPlaced b m in subst Q (sym (becomes.others (r.invocations m).context f)) p

  each_placed : (m : ℕ) → is_live (later.invocations m).phase ≡ true → IsPlaced (at new (later.invocations m).context) m
  each_placed m =
      elim (cases_eq m n) [
        | inl e ↦ (let P : Invocation → Type 0 = λ j. is_live j.phase ≡ true → IsPlaced (at new j.context) m in
            let Q : ℕ → Type 0 = λ k. is_live i.phase ≡ true → IsPlaced (at new i.context) k in
            subst P (sym (changed-here r.invocations n i m e)) (subst Q (sym e) here_placed))
        | inr other ↦ (let P : Invocation → Type 0 = λ j. is_live j.phase ≡ true → IsPlaced (at new j.context) m in
            subst P (sym (changed-other r.invocations n i m other)) (there_placed m other))
      ]

  pub Fits-one : ContextsMatch held later new
  Fits-one = record { each = each_right; placed = each_placed }
