-- A post: what it asks of the parts, and that at most the new invocation starts after it.
use Rattle.std.proofs.Common.{◌≡◌, ℕ, suc, ◌+◌, ◌≤◌, ℤ, Option, Some, None, refl, sym, ◌∙◌, ap, subst, arith, zero, ◌<◌, List, [], ◌∷◌, length, get_or}
use Rattle.std.specs.Prelude.{slice_get, IsSome}
use Rattle.arrayvec.specs.ArrayVec.{ArrayVec}
use Rattle.mate_num.specs.declared.call.Stamp.{Stamp}
use Rattle.mate_num.specs.declared.id.ContextId.{ContextId}
use Rattle.mate_num.specs.declared.id.HandlerId.{HandlerId}
use Rattle.lock_manager.specs.Claims.{Enqueues}
use Rattle.code_verifier.specs.Verified.{IsAtVerified as FitsCode}
use Rattle.exec_unit.specs.Machine.{begun}
use Rattle.vm_shape.specs.declared.description.Description.{Description}
use Rattle.vm_shape.specs.declared.handler.Handler.{Handler}
use Rattle.vm_shape.specs.Contexts.{first_context}
use Rattle.vm_shape.specs.Whole.{context_count}
use Rattle.vm_shape.proofs.DescriptionLemmas.{first_context-within}
use Rattle.mate_journal.specs.Described.{contexts_of}
use Rattle.mate_journal.specs.declared.entry.Entry.TheVariants as entry
use Rattle.mate_journal.specs.Machine.{Machine, HeldProgram, IsContextOf}
use Rattle.mate_journal.specs.Journal.{Posted, Unposted, is_started, NodeState, journal_of, first_state, next_state}
use Rattle.journal_laws.specs.Growth.{IsPushed}
use Rattle.journal_laws.proofs.Apart.{orderly-after, nothing_heard-orderly}
use Rattle.node_state.specs.declared.handlers.Held.{Held}
use Rattle.node_state.specs.declared.seat.Seat.{Seat}
use Rattle.node_state.specs.declared.contexts.Contexts.{Contexts}
use Rattle.node_state.specs.At.{At, at, idle, queued, Becomes}
use Rattle.node_state.specs.Programs.{Programs, held_at}
use Rattle.node_state.specs.declared.parts.Parts.{Parts}
use Rattle.node_state.specs.Meaning.{machine_in}
use Rattle.node_state.specs.Fits.{program_of, ContextsMatch as FitsContexts}
use Rattle.node_state.specs.Keeps.{reading, Keeps, IsTimely}
use Rattle.node_state.specs.Continues.{Continues}
use Rattle.node_state.proofs.FitLemmas.{by_seat, IsAlone}
use Rattle.node_state.proofs.MoveLemmas.{Fits-posted, idle-free, some-map}
use Rattle.node_state.proofs.StartLemmas.{Agrees-posted}
use Rattle.node_state.proofs.KeepLemmas.{IsPrepared-same, AddsTidily-plain}
use Rattle.node_state.specs.Queue.{IsQueue}
use Rattle.node_state.specs.Starting.{KeepsOrder, IsStarting, Rests, AllButHeld}
use Rattle.node_state.proofs.OrderLemmas.{IsQueue-post, KeepsOrder-push, heard-by, last-by, IsStarting-first, AllBut-posted}
use Rattle.mate_journal.specs.OpenLog.{OpenView}

-- a handler that has the context is one of the machine's, and so is the context
get-there : {A : Type 0} (xs : List A) (k : ℕ) (x y : A) → slice_get xs k ≡ Some x → (k < length xs) × (get_or xs k y ≡ x)
get-there [] k x y is = absurd (let f : None ≡ Some x = is in cc)
get-there (z ∷ xs) zero x y is = (omega arith, (let f : Some z ≡ Some x = is in cc))
get-there (z ∷ xs) (suc k) x y is = let h = get-there xs k x y is in let low = h.0 in (omega arith, h.1)

pub in-machine : (d : Description) (h : HandlerId) (c : ContextId) → IsContextOf (machine_in d) h c → (h.0 < length d.handlers.items) × (c.0 < context_count d)
in-machine d h c of_handler = by (slice_get d.handlers.items h.0) refl of_handler.below where
  by : (o : Option Handler) → slice_get d.handlers.items h.0 ≡ o → c.0 < first_context d.handlers.items h.0 + contexts_of o → (h.0 < length d.handlers.items) × (c.0 < context_count d)
  by None e below = let from = of_handler.from in absurd (omega arith)
  by (Some x) e below =
      let there = get-there d.handlers.items h.0 x x e in
      let within = first_context-within d.handlers.items h.0 x there.0 in
      let same = ap (λ (y : Handler). y.contexts) there.1 in
      (there.0, omega arith)

module _ (d : Description) (old : Parts) (contexts : Contexts) (log : OpenView) (stamp : Stamp) (h : HandlerId) (c : ContextId) (payload : ArrayVec ℤ) (x : Held) (s : Seat) (posts : ℕ)
    (rests : Rests d old) (timely : IsTimely stamp old.log.all) (is_held : held_at old.handlers.programs h ≡ Some x) (own : s.handler ≡ h) (next_post : posts ≡ suc old.posts) (number : s.inv ≡ posts)
    (machine : s.machine ≡ begun d.turns payload.items) (none_yet : s.count ≡ 0) (fitting : FitsCode x.code s.machine) (of_handler : IsContextOf (machine_in d) h c)
    (free : at old.contexts c ≡ idle) (becomes : Becomes old.contexts contexts c (queued s x.locks)) (enqueues : Enqueues old.contexts.locks contexts.locks c x.locks)
    (pushed : IsPushed old.log.all record { stamp = stamp; entry = entry.Post posts h c payload } log.all) (room : old.log.all.spare ≤ log.all.spare + 1) where
  abbrev pub m : Machine
  m = machine_in d

  abbrev pub r : NodeState
  r = reading d old.log.all

  abbrev pub held : Programs
  held = held_at old.handlers.programs

  abbrev pub new : Parts
  new = record old { contexts = contexts; posts = posts; log = log }

  keeps : Keeps d old
  keeps = rests.order.keeps

  posts-is : posts ≡ suc r.posts
  posts-is = next_post ∙ ap suc (sym keeps.posts)

  unposted-now : (r.invocations posts).phase ≡ Unposted
  unfolding reading
  unposted-now =
      let e = posts-is in
      (orderly-after m (first_state m) 0 (journal_of old.log.all) keeps.well_formed.follow rests.order.grants (nothing_heard-orderly m)).numbered posts (omega arith)

  alone : IsAlone old.contexts posts c
  alone = record {
    elsewhere = λ k t other e same. (let g = (by_seat held r k (at old.contexts k) t e (keeps.fits.each k)).number in let f = posts-is in absurd (omega arith));
    here = λ t e. absurd (let g : None ≡ Some t = ap (λ (a : At). a.seat) (sym free) ∙ e in cc);
  }

  installed-is : r.installed h ≡ Some (program_of h x)
  installed-is = keeps.installed.same h ∙ some-map (held h) h x is_held

  fits-new : FitsContexts held (next_state m r (Posted (suc r.posts) h c payload)) contexts
  fits-new = Fits-posted m d held r old.contexts contexts c h x s payload keeps.fits keeps.installed is_held own (number ∙ posts-is) fitting free becomes

  pub Continues-posted : Continues d old new old.log.all stamp (entry.Post posts h c payload) (Posted posts h c payload)
  Continues-posted =
      let few = keeps.numbers in
      let p = next_post in
      let Q : ℕ → Type 0 = λ n. FitsContexts held (next_state m r (Posted n h c payload)) contexts in
      record {
        prepared = IsPrepared-same old.log.all;
        pushed = pushed;
        tells = refl;
        tidily = AddsTidily-plain d old.log.all log.all stamp (entry.Post posts h c payload) pushed (record { image = refl; store = refl; in_range = in-machine d h c of_handler });
        timely = timely;
        follows = (posts-is, (let P : Option HeldProgram → Type 0 = λ o. IsSome o in subst P (sym installed-is) refl), of_handler, idle-free m d held r old.contexts contexts c h x s payload keeps.fits free);
        ends = tt;
        shown = tt;
        before_era = tt;
        numbers = omega arith;
        after = record {
          posts = refl;
          places = keeps.places;
          installed = keeps.installed;
          fits = subst Q (sym posts-is) fits-new;
          seats = let was = keeps.seats in let same = becomes.seats in omega (arith, was, same);
          lengths = keeps.lengths;
          agrees = Agrees-posted d r old.contexts contexts old.heap posts _ c (queued s x.locks) s keeps.agrees (record { becomes = becomes; seat = refl; number = number; alone = alone })
              refl (ap is_started unposted-now) (record { machine = machine; count = none_yet; calls = refl });
        };
      }

  queue-new : IsQueue contexts
  queue-new = IsQueue-post held r old.contexts contexts c s x.locks keeps.fits free becomes enqueues (number ∙ posts-is) rests.order.queue

  order-new : KeepsOrder d new
  order-new = KeepsOrder-push d old new old.log.all stamp (entry.Post posts h c payload) (Posted posts h c payload) rests.order Continues-posted room rests.held queue-new

  pub IsStarting-posted : IsStarting d new
  IsStarting-posted = IsStarting-first d new order-new (last-by d old new old.log.all stamp (entry.Post posts h c payload) (Posted posts h c payload) rests.order Continues-posted room)

  -- all but the new one are held back
  pub AllBut-new : AllButHeld m (reading d log.all) posts
  AllBut-new =
      let P : NodeState → Type 0 = λ q. AllButHeld m q posts in
      subst P (sym (heard-by d old new old.log.all stamp (entry.Post posts h c payload) (Posted posts h c payload) rests.order Continues-posted room))
      (AllBut-posted d old posts h c payload rests posts-is)
