-- A post: the new invocation waits behind all others, and starts where nothing holds it back.
use Rattle.std.proofs.Common.{◌≡◌, ◌≢◌, ◌⊎◌, ℕ, suc, ◌+◌, ◌≤◌, ◌<◌, ℤ, Bool, true, false, ◌||◌, List, [], ◌∷◌, Option, Some, None, length, map, get_or, refl, sym, ◌∙◌, ap, subst, arith, inl, inr}
use Rattle.std.specs.Prelude.{IsSome, IsNone, slice_get}
use Rattle.std.specs.List.{list_any}
use Rattle.std.specs.Option.{option_map}
use Rattle.std.proofs.lemmas.Bool.{cases_eq, eq-eqb}
use Rattle.std.proofs.lemmas.Option.{slice_get-get_or}
use Rattle.arrayvec.specs.ArrayVec.{ArrayVec}
use Rattle.mate_num.specs.declared.call.Stamp.{Stamp}
use Rattle.mate_num.specs.declared.id.ContextId.{ContextId}
use Rattle.mate_num.specs.declared.id.HandlerId.{HandlerId}
use Rattle.mate_num.specs.declared.lock_set.LockSet.{LockSet}
use Rattle.mate_code.specs.Effect.{Private}
use Rattle.lock_manager.specs.Claims.{Enqueues}
use Rattle.lock_manager.proofs.ClaimLemmas.{same_context}
use Rattle.context_sched.specs.Ready.{is_same, holds}
use Rattle.code_verifier.specs.Verified.{VerifiedCode, IsVerifiedCode, IsAtVerified as FitsCode}
use Rattle.exec_unit.specs.Machine.{begun}
use Rattle.vm_shape.specs.declared.description.Description.{Description}
use Rattle.vm_shape.specs.declared.handler.Handler.{Handler}
use Rattle.vm_shape.specs.declared.handler.HandlerKind.{HandlerKind}
use Rattle.vm_shape.specs.declared.handler.HandlerKind.TheVariants as kind
use Rattle.vm_shape.specs.Bounds.{HasBounds}
use Rattle.vm_shape.specs.Contexts.{first_context}
use Rattle.vm_shape.proofs.DescriptionLemmas.{bounds_of, first_context-within}
use Rattle.mate_journal.specs.declared.entry.DropCause.TheVariants as drop
use Rattle.mate_journal.specs.declared.entry.Entry.TheVariants as entry
use Rattle.mate_journal.specs.Described.{is_once, runs_once}
use Rattle.mate_journal.specs.Machine.{Machine, HeldProgram}
use Rattle.mate_journal.specs.Journal.{Posted, Dropped, is_started, Invocation, NodeState, next_state}
use Rattle.mate_journal.specs.WellFormed.{IsIdle, IsBusy}
use Rattle.mate_journal.specs.NodeScript.{DropsNoCode, DropsAllBusy, IsFirstIdle, Posts}
use Rattle.journal_laws.specs.Growth.{IsPushed}
use Rattle.journal_laws.proofs.Moves.{posted-Joins}
use Rattle.node_state.specs.declared.handlers.Held.{Held}
use Rattle.node_state.specs.declared.seat.Seat.{Seat}
use Rattle.node_state.specs.declared.contexts.Contexts.{Contexts}
use Rattle.node_state.specs.At.{At, at, idle, queued, Becomes, IsPlaced}
use Rattle.node_state.specs.Programs.{Programs, held_at}
use Rattle.node_state.specs.declared.parts.Parts.{Parts}
use Rattle.node_state.specs.Meaning.{machine_in}
use Rattle.node_state.specs.Fits.{program_of, ContextsMatch}
use Rattle.node_state.specs.Keeps.{reading, IsTimely, Grows}
use Rattle.node_state.specs.Continues.{Continues}
use Rattle.node_state.proofs.FitLemmas.{no_seat, by_seat}
use Rattle.node_state.proofs.MoveLemmas.{some-map}
use Rattle.node_state.proofs.KeepLemmas.{Grows-then}
use Rattle.node_state.specs.Queue.{number_at, invocation_in}
use Rattle.mate_journal.specs.Pace.{Pace}
use Rattle.node_state.specs.Pace.{IsPace}
use Rattle.node_state.specs.Starting.{Rests, IsStarting, IsRoomForAll, StartsAll}
use Rattle.node_state.proofs.OrderLemmas.{heard-by, grows-by}
use Rattle.node_state.proofs.PostLemmas.{Continues-posted, IsStarting-posted, AllBut-new}
use Rattle.node_calls.specs.Calls.{RestsAgain}
use Rattle.node_calls.specs.Posting.{IsFirstFree, HasNoneFree, CanQueue, IsQueued}
use Rattle.node_calls.proofs.QuietLemmas.{RestsAgain-as}
use Rattle.node_calls.proofs.SeenLemmas.{RestsAgain-dropped}
use Rattle.mate_journal.specs.OpenLog.{OpenView}

-- ---- whom the event finds

-- what is installed
pub held-heard : (d : Description) (s : Parts) (h : HandlerId) (x : Held) → Rests d s → held_at s.handlers.programs h ≡ Some x → (reading d s.log.all).installed h ≡ Some (program_of h x)
held-heard d s h x rests is = rests.order.keeps.installed.same h ∙ some-map (held_at s.handlers.programs h) h x is

-- whether something is
pub some-heard : (d : Description) (s : Parts) (h : HandlerId) (x : Held) → Rests d s → held_at s.handlers.programs h ≡ Some x → IsSome ((reading d s.log.all).installed h)
some-heard d s h x rests is = let P : Option HeldProgram → Type 0 = λ o. IsSome o in subst P (sym (held-heard d s h x rests is)) refl

pub none-heard : (d : Description) (s : Parts) (h : HandlerId) → Rests d s → held_at s.handlers.programs h ≡ None → IsNone ((reading d s.log.all).installed h)
none-heard d s h rests is =
    let P : Option HeldProgram → Type 0 = λ o. IsNone o in
    subst P (sym (rests.order.keeps.installed.same h ∙ ap (λ (o : Option Held). option_map (program_of h) o) is)) refl

busy-taken : (held : Programs) (r : NodeState) (s : Contexts) (c : ContextId) → ContextsMatch held r s → IsSome (at s c).seat → IsBusy r c
busy-taken held r s c fits some = by (at s c).seat refl some where
  by : (o : Option Seat) → (at s c).seat ≡ o → IsSome o → IsBusy r c
  by None e h = cc
  by (Some t) e h = let g = by_seat held r c (at s c) t e (fits.each c) in record { invocation = t.inv; live = g.live; context = g.context }

idle-untaken : (held : Programs) (r : NodeState) (s : Contexts) (c : ContextId) → ContextsMatch held r s → (at s c).seat ≡ None → IsIdle r c
idle-untaken held r s c fits none n live context =
    let P : ContextId → Type 0 = λ k. IsPlaced (at s k) n in
    let p = subst P context (fits.placed n live) in
    absurd (let g : None ≡ Some p.seat = sym none ∙ p.is in cc)

-- the context that is free is the first idle one
pub first-idle : (d : Description) (s : Parts) (h : HandlerId) (c : ContextId) → Rests d s → IsFirstFree (machine_in d) s.contexts h c → IsFirstIdle (machine_in d) (reading d s.log.all) h c
first-idle d s h c rests first =
    let held = held_at s.handlers.programs in
    let fits = rests.order.keeps.fits in
    record {
      context = first.context;
      idle = idle-untaken held (reading d s.log.all) s.contexts c fits first.free;
      lowest = λ k of_handler lower. busy-taken held (reading d s.log.all) s.contexts k fits (first.lower k of_handler lower);
    }

pub idle-first : (d : Description) (s : Parts) (h : HandlerId) (c : ContextId) → Rests d s → IsFirstFree (machine_in d) s.contexts h c → at s.contexts c ≡ idle
idle-first d s h c rests first = no_seat (held_at s.handlers.programs) (reading d s.log.all) c (at s.contexts c) (rests.order.keeps.fits.each c) first.free

-- ---- an event that is dropped

module _ (d : Description) (old : Parts) (log : OpenView) (stamp : Stamp) (h : HandlerId) (of_machine : h.0 < length d.handlers.items) (rests : Rests d old) (timely : IsTimely stamp old.log.all) (room : old.log.all.spare ≤ log.all.spare + 1) where
  pub RestsAgain-no_code : held_at old.handlers.programs h ≡ None → IsPushed old.log.all record { stamp = stamp; entry = entry.Dropped h drop.NoCode } log.all
      → RestsAgain d old (record old { log = log }) stamp (DropsNoCode (reading d old.log.all) h)
  RestsAgain-no_code is pushed =
      RestsAgain-as d old (record old { log = log }) stamp (λ told. told ≡ Dropped h drop.NoCode ∷ []) (DropsNoCode (reading d old.log.all) h)
      (RestsAgain-dropped d old log stamp rests timely h drop.NoCode of_machine pushed room) (λ told made. record { no_code = none-heard d old h rests is; made = made })

  pub RestsAgain-all_busy : (x : Held) → held_at old.handlers.programs h ≡ Some x → HasNoneFree (machine_in d) old.contexts h → IsPushed old.log.all record { stamp = stamp; entry = entry.Dropped h drop.AllBusy } log.all
      → RestsAgain d old (record old { log = log }) stamp (DropsAllBusy (machine_in d) (reading d old.log.all) h)
  RestsAgain-all_busy x is taken pushed =
      RestsAgain-as d old (record old { log = log }) stamp (λ told. told ≡ Dropped h drop.AllBusy ∷ []) (DropsAllBusy (machine_in d) (reading d old.log.all) h)
      (RestsAgain-dropped d old log stamp rests timely h drop.AllBusy of_machine pushed room)
      (λ told made. record {
        code = some-heard d old h x rests is;
        busy = λ c of_handler. busy-taken (held_at old.handlers.programs) (reading d old.log.all) old.contexts c rests.order.keeps.fits (taken c of_handler);
        made = made;
      })

-- ---- the pace at a post

-- the ring doesn't tell what is at a context that it doesn't hold
map-without : (f g : ContextId → ℕ) (ring : List ContextId) (c : ContextId) → holds ring c ≡ false → ((k : ContextId) → k.0 ≢ c.0 → f k ≡ g k) → map f ring ≡ map g ring
map-without f g [] c absent same = refl
map-without f g (x ∷ ring) c absent same = by (is_same c x) refl absent (map-without f g ring c) where
  by : (b : Bool) → is_same c x ≡ b → (b || list_any (is_same c) ring) ≡ false → (holds ring c ≡ false → ((k : ContextId) → k.0 ≢ c.0 → f k ≡ g k) → map f ring ≡ map g ring) → map f (x ∷ ring) ≡ map g (x ∷ ring)
  by true is e further = absurd (let z : true ≡ false = e in cc)
  by false is e further =
      let other : x.0 ≢ c.0 = λ same_number. (let t : is_same c x ≡ true = eq-eqb c.0 x.0 (sym same_number) in let z : false ≡ true = sym is ∙ t in cc) in
      ap (λ (n : ℕ). n ∷ map f ring) (same x other) ∙ ap (λ (l : List ℕ). g x ∷ l) (further e same)

module _ (d : Description) (old : Parts) (contexts : Contexts) (log : OpenView) (stamp : Stamp) (h : HandlerId) (c : ContextId) (payload : ArrayVec ℤ) (x : Held) (s : Seat) (posts : ℕ)
    (rests : Rests d old) (timely : IsTimely stamp old.log.all) (is_held : held_at old.handlers.programs h ≡ Some x) (own : s.handler ≡ h) (next_post : posts ≡ suc old.posts) (number : s.inv ≡ posts)
    (machine : s.machine ≡ begun d.turns payload.items) (none_yet : s.count ≡ 0) (fitting : FitsCode x.code s.machine) (first : IsFirstFree (machine_in d) old.contexts h c)
    (becomes : Becomes old.contexts contexts c (queued s x.locks)) (enqueues : Enqueues old.contexts.locks contexts.locks c x.locks) (ring : contexts.ring ≡ old.contexts.ring)
    (pushed : IsPushed old.log.all record { stamp = stamp; entry = entry.Post posts h c payload } log.all) (room : old.log.all.spare ≤ log.all.spare + 1) where
  abbrev pub m : Machine
  m = machine_in d

  abbrev pub r : NodeState
  r = reading d old.log.all

  abbrev pub mid : Parts
  mid = record old { contexts = contexts; posts = posts; log = log }

  free : at old.contexts c ≡ idle
  free = idle-first d old h c rests first

  continues : Continues d old mid old.log.all stamp (entry.Post posts h c payload) (Posted posts h c payload)
  continues =
      Continues-posted d old contexts log stamp h c payload x s posts rests timely is_held own next_post number machine none_yet fitting first.context free becomes enqueues pushed room

  pub IsStarting-post : IsStarting d mid
  IsStarting-post =
      IsStarting-posted d old contexts log stamp h c payload x s posts rests timely is_held own next_post number machine none_yet fitting first.context free becomes enqueues pushed room

  pub grows-post : Grows old.log.all log.all stamp (Posted posts h c payload ∷ [])
  grows-post = grows-by d old mid old.log.all stamp (entry.Post posts h c payload) (Posted posts h c payload) rests.order continues room

  posts-is : posts ≡ suc r.posts
  posts-is = next_post ∙ ap suc (sym rests.order.keeps.posts)

  heard-is : reading d log.all ≡ next_state m r (Posted posts h c payload)
  heard-is = heard-by d old mid old.log.all stamp (entry.Post posts h c payload) (Posted posts h c payload) rests.order continues room

  pace-post : (p : Pace) → IsPace r old.contexts p → IsPace (next_state m r (Posted posts h c payload)) contexts p
  pace-post p pace = record {
    line =
        pace.line
        ∙ map-without (invocation_in old.contexts) (invocation_in contexts) old.contexts.ring c (ap (λ (a : At). a.ready) free) (λ k other. ap (λ (a : At). number_at a.seat) (sym (becomes.others k other)))
        ∙ ap (map (invocation_in contexts)) (sym ring);
    counts = λ k t e started. by k t e started (cases_eq k.0 c.0) (cases_eq t.inv posts);
  } where
    later : NodeState
    later = next_state m r (Posted posts h c payload)

    queued-new : (t : Seat) → t.inv ≡ posts → is_started (later.invocations t.inv).phase ≡ false
    queued-new t e =
        let P : ℕ → Type 0 = λ n. is_started (later.invocations n).phase ≡ false in
        subst P (sym e) (ap is_started (posted-Joins m r posts h c payload).here)

    by : (k : ContextId) (t : Seat) → (at contexts k).seat ≡ Some t → is_started (later.invocations t.inv).phase ≡ true → (k.0 ≡ c.0) ⊎ (k.0 ≡ c.0 → ⊥) → (t.inv ≡ posts) ⊎ (t.inv ≡ posts → ⊥) → t.count ≡ p.counts t.inv
    by k t e started same (inl new) = absurd (let f : false ≡ true = sym (queued-new t new) ∙ started in cc)
    by k t e started (inl same) (inr other) =
        let Q : ContextId → Type 0 = λ j. (at contexts j).seat ≡ Some t in
        let f : Some s ≡ Some t = ap (λ (a : At). a.seat) (sym becomes.here) ∙ subst Q (same_context k c same) e in
        let seat : s ≡ t = cc in
        absurd (other (ap (λ (u : Seat). u.inv) (sym seat) ∙ number))
    by k t e started (inr apart) (inr other) =
        pace.counts k t (ap (λ (a : At). a.seat) (sym (becomes.others k apart)) ∙ e) (ap (λ (i : Invocation). is_started i.phase) (sym ((posted-Joins m r posts h c payload).others t.inv other)) ∙ started)

  pub IsQueued-from : IsQueued d old mid stamp h payload posts
  IsQueued-from = record {
    number = posts-is;
    context = c;
    code = some-heard d old h x rests is_held;
    first_idle = first-idle d old h c rests first;
    grows = grows-post;
    starting = IsStarting-post;
    others = AllBut-new d old contexts log stamp h c payload x s posts rests timely is_held own next_post number machine none_yet fitting first.context free becomes enqueues pushed room;
    pace = λ p pace. (let P : NodeState → Type 0 = λ q. IsPace q contexts p in subst P (sym heard-is) (pace-post p pace));
  }

-- the seat and the entry, as the code makes them
pub IsQueued-made : (d : Description) (old : Parts) (contexts : Contexts) (log : OpenView) (stamp : Stamp) (h : HandlerId) (c : ContextId) (payload copy again : ArrayVec ℤ) (locks : LockSet) (machine : Private) (can : CanQueue d old h c locks) → IsTimely stamp old.log.all
    → copy ≡ payload → again ≡ payload → machine ≡ begun d.turns copy.items → ((v : VerifiedCode) → IsVerifiedCode v → FitsCode v machine)
    → Becomes old.contexts contexts c (queued (record { inv = old.posts + 1; handler = h; machine = machine; count = 0 }) locks) → Enqueues old.contexts.locks contexts.locks c locks → contexts.ring ≡ old.contexts.ring
    → IsPushed old.log.all record { stamp = stamp; entry = entry.Post (old.posts + 1) h c again } log.all → old.log.all.spare ≤ log.all.spare + 1
    → IsQueued d old (record old { contexts = contexts; posts = old.posts + 1; log = log }) stamp h payload (old.posts + 1)
IsQueued-made d old contexts log stamp h c payload copy again locks machine can timely same_copy same_again begins fits becomes enqueues ring pushed room =
    let s : Seat = record { inv = old.posts + 1; handler = h; machine = machine; count = 0 } in
    let next_post : old.posts + 1 ≡ suc old.posts = omega arith in
    let B : LockSet → Type 0 = λ l. Becomes old.contexts contexts c (queued s l) in
    let E : LockSet → Type 0 = λ l. Enqueues old.contexts.locks contexts.locks c l in
    let P : ArrayVec ℤ → Type 0 = λ xs. IsPushed old.log.all record { stamp = stamp; entry = entry.Post (old.posts + 1) h c xs } log.all in
    IsQueued-from d old contexts log stamp h c payload can.x s (old.posts + 1) can.rests timely can.is_held refl next_post refl (begins ∙ ap (λ (xs : ArrayVec ℤ). begun d.turns xs.items) same_copy) refl
    (fits can.x.code (can.rests.order.keeps.installed.each h can.x can.is_held).verified) can.first (subst B (sym can.locks_are) becomes) (subst E (sym can.locks_are) enqueues) ring (subst P same_again pushed) room

-- ---- a post, with the start that may follow

-- at most the new one can start
pub room-queued : (d : Description) (old new : Parts) (at_ : Stamp) (h : HandlerId) (payload : ArrayVec ℤ) (n : ℕ) → IsQueued d old new at_ h payload n → 2 ≤ old.log.all.spare → IsRoomForAll d new
room-queued d old new at_ h payload n q enough = inr (record { invocation = n; others = q.others; spare = (let g = q.grows.spare in omega arith) })

pub RestsAgain-posted : (d : Description) (old mid new : Parts) (at_ : Stamp) (h : HandlerId) (payload : ArrayVec ℤ) (n : ℕ) → IsQueued d old mid at_ h payload n → StartsAll d mid new at_
    → RestsAgain d old new at_ (λ told. (n ≡ suc (reading d old.log.all).posts) × Posts (machine_in d) (reading d old.log.all) h payload told)
RestsAgain-posted d old mid new at_ h payload n q starts = record {
  adds = record {
    told = Posted n h q.context payload ∷ starts.some.told;
    grows = Grows-then old.log.all mid.log.all new.log.all at_ (Posted n h q.context payload ∷ []) starts.some.told q.grows starts.some.grows;
    made = (
      q.number,
      record {
        context = q.context;
        starts = starts.some.told;
        code = q.code;
        first_idle = q.first_idle;
        are_starts = starts.some.starts;
        made = ap (λ (k : ℕ). Posted k h q.context payload ∷ starts.some.told) q.number;
      },
    );
  };
  rests = record { order = starts.some.starting.order; held = starts.held };
  pace = λ p pace. starts.some.pace p (q.pace p pace);
}

-- ---- the search for a context

-- the handlers' contexts are those of the node
pub contexts-within : (d : Description) (hs : List Handler) (i j : ℕ) (x : Handler) → hs ≡ d.handlers.items → j ≡ i → i < length d.handlers.items → first_context d.handlers.items i + (get_or hs j x).contexts ≤ 16
contexts-within d hs i j x same number below =
    let all : HasBounds d = bounds_of d in
    let fits = first_context-within d.handlers.items i x below in
    rw (same, number) (omega arith)

-- the handler that the code reads is the description's
pub handler-read : (d : Description) (hs : List Handler) (i j : ℕ) (x : Handler) → hs ≡ d.handlers.items → j ≡ i → i < length d.handlers.items → slice_get d.handlers.items i ≡ Some (get_or hs j x)
handler-read d hs i j x same number below =
    slice_get-get_or d.handlers.items i x below ∙ ap (λ (k : ℕ). Some (get_or d.handlers.items k x)) (sym number) ∙ ap (λ (l : List Handler). Some (get_or l j x)) (sym same)

-- and so is whether it runs once
pub runs_once-read : (d : Description) (hs : List Handler) (h : HandlerId) (j : ℕ) (x : Handler) {k : HandlerKind} → (get_or hs j x).kind ≡ k → hs ≡ d.handlers.items → j ≡ h.0 → h.0 < length d.handlers.items
    → is_once k ≡ (machine_in d).runs_once h
runs_once-read d hs h j x is same number below = ap is_once (sym is) ∙ ap runs_once (sym (handler-read d hs h.0 j x same number below))

pub not-once : {k : HandlerKind} → (k ≡ kind.Plain) ⊎ ((period : ℕ) × (k ≡ kind.Timer period)) ⊎ (k ≡ kind.Receive) → false ≡ is_once k
not-once (inl is) = ap is_once (sym is)
not-once (inr (inl timer)) = ap is_once (sym timer.1)
not-once (inr (inr is)) = ap is_once (sym is)

-- an invocation has each context from one to below another
abbrev pub AreTakenUp : Contexts → ℕ → ℕ → Type 0
AreTakenUp s first place = (k : ContextId) → first ≤ k.0 → k.0 < place → IsSome (at s k).seat

pub taken-none : (s : Contexts) (first : ℕ) → AreTakenUp s first first
taken-none s first k low high = absurd (omega arith)

pub taken-more : (s : Contexts) (first place : ℕ) → AreTakenUp s first place → IsSome (at s record { 0 = place }).seat → AreTakenUp s first (place + 1)
taken-more s first place before here k low high = by (cases_eq k.0 place) where
  by : (k.0 ≡ place) ⊎ (k.0 ≡ place → ⊥) → IsSome (at s k).seat
  by (inl e) = let P : ℕ → Type 0 = λ n. IsSome (at s record { 0 = n }).seat in subst P (sym e) here
  by (inr other) = before k low (omega arith)

module _ (m : Machine) (s : Contexts) (h : HandlerId) (first count place : ℕ) (first-is : first ≡ m.first_context h) (count-is : count ≡ m.contexts h) (before : AreTakenUp s first place) where
  pub first-free : first ≤ place → place < first + count → m.first_context h + count ≤ 16 → (at s record { 0 = place }).seat ≡ None → IsFirstFree m s h record { 0 = place }
  first-free low high within none = record {
    context = record { from = omega arith; below = omega arith };
    small = omega arith;
    free = none;
    lower = λ k of_handler below. (let from = of_handler.from in before k (omega arith) below);
  }

  pub all-taken : first + count ≤ place → HasNoneFree m s h
  all-taken past k of_handler = let from = of_handler.from in let below = of_handler.below in before k (omega arith) (omega arith)
