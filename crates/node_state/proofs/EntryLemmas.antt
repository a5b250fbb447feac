-- What each thing that happens asks of the parts: starts, instructions, calls and ends.
use Rattle.std.proofs.Common.{◌≡◌, ℕ, ◌+◌, ℤ, true, false, [], Some, None, refl, sym, ◌∙◌, ap, subst, arith, inl, inr}
use Rattle.lock_manager.specs.Claims.{set_of}
use Rattle.lock_manager.proofs.GrantLemmas.{Contains-set_of}
use Rattle.arrayvec.specs.ArrayVec.{ArrayVec}
use Rattle.mate_num.specs.Locks as locks
use Rattle.mate_num.specs.Uses.{Uses, uses, ConflictsAt, IsCompatible, IsSameUses}
use Rattle.mate_num.specs.declared.call.End.{End}
use Rattle.mate_num.specs.declared.call.End.TheVariants as end
use Rattle.mate_num.specs.declared.call.FaultKind.{FaultKind}
use Rattle.mate_num.specs.declared.call.Stamp.{Stamp}
use Rattle.mate_num.specs.declared.id.ContextId.{ContextId}
use Rattle.mate_num.specs.declared.id.FunId.{FunId}
use Rattle.mate_num.specs.declared.lock_set.LockSet.{LockSet}
use Rattle.mate_num.specs.declared.resource.Resource.{Resource}
use Rattle.mate_num.specs.declared.shape.Shape.{Shape}
use Rattle.mate_num.specs.declared.store.Store.{Store}
use Rattle.mate_code.specs.Cells.{Agree}
use Rattle.mate_code.specs.CodeUses.{uses_of}
use Rattle.mate_code.specs.Effect.{Private}
use Rattle.mate_code.specs.Run.{code_run, Own, Run, Status, Going, Over, begun_run, bound, end_of}
use Rattle.mate_code.proofs.RunLemmas.{Matches, after-other, after-AreAsLong}
use Rattle.code_verifier.specs.Verified.{IsAtVerified as FitsCode}
use Rattle.exec_unit.specs.declared.step_end.StepEnd.{StepEnd}
use Rattle.exec_unit.specs.declared.step_end.StepEnd.TheVariants.{Next, Ask, Halt, Fault}
use Rattle.exec_unit.specs.Step.{HasLengths, IsStep, Waits, own_after, FitsAfter as FitsCodeAfter}
use Rattle.vm_shape.specs.declared.description.Description.{Description}
use Rattle.vm_shape.specs.Shapes.{shape_of}
use Rattle.mate_journal.specs.declared.entry.Entry.{Entry}
use Rattle.mate_journal.specs.declared.entry.Entry.TheVariants as entry
use Rattle.journal_laws.specs.Growth.{IsPushed}
use Rattle.mate_journal.specs.WellFormed.{Closes}
use Rattle.mate_journal.specs.Serial.{EndsAsRun}
use Rattle.mate_journal.specs.Machine.{HeldProgram}
use Rattle.mate_journal.specs.Journal.{journal_entry, Started, Asked as AskedTold, Ended, Phase, Unposted, Queued, Ready, Waiting, Over as Gone, is_started, in_phase, Invocation, NodeState}
use Rattle.node_state.specs.declared.handlers.Held.{Held}
use Rattle.node_state.specs.declared.seat.Seat.{Seat}
use Rattle.node_state.specs.declared.contexts.Contexts.{Contexts}
use Rattle.node_state.specs.At.{At, idle, ready, waiting, at, Becomes, StartsContext, Asks, Ends}
use Rattle.node_state.specs.Programs.{Programs, held_at}
use Rattle.node_state.specs.Executing.{Executes}
use Rattle.node_state.specs.declared.parts.Parts.{Parts}
use Rattle.node_state.specs.Standing.{standing}
use Rattle.node_state.specs.Meaning.{machine_in, image_code}
use Rattle.node_state.specs.Fits.{IsHeld, IsSeated}
use Rattle.mate_journal.specs.Journal.{answers_of}
use Rattle.node_state.specs.Agrees.{code_for, uses_for, own_run, own_in, IsOwnRun, RunsOwn, Agrees}
use Rattle.node_state.specs.Keeps.{reading, Keeps, IsTimely}
use Rattle.node_state.specs.Continues.{Continues}
use Rattle.node_state.proofs.FitLemmas.{HasSeat, by_seat, IsAlone}
use Rattle.node_state.proofs.KeepLemmas.{IsPrepared-same, IsPlain, AddsTidily-plain}
use Rattle.node_state.proofs.AskLemmas.{asked-in_range}
use Rattle.node_state.proofs.MoveLemmas.{alone-seat, changed-same, starting, stood, start-seat, start-queued, Fits-started, running, was_ready, stood_ready, Fits-executed, Fits-asked, Fits-ended}
use Rattle.node_state.proofs.AgreeLemmas.{Alters, going_in, step-Alters, step-own, Sits, Agrees-moves}
use Rattle.node_state.proofs.StartLemmas.{Agrees-started, Agrees-ended}
use Rattle.node_state.proofs.SerialLemmas.{HasVerified, started-live, verified-seat, whole, whole-over}
use Rattle.mate_journal.specs.OpenLog.{OpenView}

-- ---- locks and uses

-- the locks of a seat are what its invocation uses
pub seat-uses : (d : Description) (held : Programs) (posts : ℕ) (i : Invocation) (c : ContextId) (s : Seat) (a : At) (g : IsSeated held posts i c s a) → IsHeld d g.x → IsSameUses (locks.lock_uses g.x.locks) (uses_for d i)
seat-uses d held posts i c s a g h =
    let P : HeldProgram → Type 0 = λ p. IsSameUses (locks.lock_uses g.x.locks) (uses_of (shape_of d) (image_code (shape_of d) p.image)) in
    subst P (sym g.program) h.locks_are

pub uses-same : (a b : Uses) (q : Resource) → IsSameUses a b → uses b q ≡ true → uses a q ≡ true
uses-same a b q same t = rw (same.reads q, same.writes q) t

pub IsCompatible-same : (a b u w : Uses) → IsSameUses a u → IsSameUses b w → IsCompatible a b → IsCompatible u w
IsCompatible-same a b u w au bw apart = record { apart = λ q at. by q at } where
  by : (q : Resource) → ConflictsAt u w q → ⊥
  by q (inl x) = apart.apart q (inl (au.writes q ∙ x.0, uses-same b w q bw x.1))
  by q (inr y) = apart.apart q (inr (bw.writes q ∙ y.0, uses-same a u q au y.1))

pub holds-by_started : (p : Phase) (s : Seat) (l : LockSet) → is_started p ≡ true → (standing p s l).holds ≡ Some l
holds-by_started Ready s l is = refl
holds-by_started (Waiting f args) s l is = refl
holds-by_started _ s l is = cc

-- ---- a start

module _ (d : Description) (old : Parts) (contexts : Contexts) (log : OpenView) (stamp : Stamp) (c : ContextId) (s : Seat) (keeps : Keeps d old) (timely : IsTimely stamp old.log.all)
    (starts : StartsContext old.contexts contexts c) (seat : (at old.contexts c).seat ≡ Some s) (pushed : IsPushed old.log.all record { stamp = stamp; entry = entry.Start s.inv } log.all) where
  abbrev r : NodeState
  r = reading d old.log.all

  abbrev held : Programs
  held = held_at old.handlers.programs

  free : (m : ℕ) → is_started (r.invocations m).phase ≡ true → IsCompatible (uses_for d (r.invocations s.inv)) (uses_for d (r.invocations m))
  free m is =
      let fits = keeps.fits in
      let programs = keeps.installed.each in
      let g = starting (machine_in d) held r old.contexts contexts c fits starts in
      let own = g.seated in
      let p = fits.placed m (started-live (r.invocations m).phase is) in
      let k : ContextId = (r.invocations m).context in
      let other = by_seat held r k (at old.contexts k) p.seat p.is (fits.each k) in
      let Q : ℕ → Type 0 = λ n. is_started (r.invocations n).phase ≡ true in
      let there : is_started (r.invocations p.seat.inv).phase ≡ true = subst Q (sym p.number) is in
      let holding : set_of old.contexts.locks.started k ≡ Some other.x.locks = ap (λ (a : At). a.holds) other.stands ∙ holds-by_started (r.invocations p.seat.inv).phase p.seat other.x.locks there in
      let among = Contains-set_of old.contexts.locks.started k other.x.locks holding in
      let claim = starts.grants.claim in
      let compatible = starts.grants.free.of_started record { ctx = k; set = other.x.locks } among in
      let waited : Some own.x.locks ≡ Some claim.set =
      ap (λ (a : At). a.waits) (sym (stood (machine_in d) held r old.contexts contexts c fits starts)) ∙ starts.waited ∙ ap (λ (a : At). a.holds) (sym starts.becomes.here) ∙ starts.grants.moves.holds in
      let set : claim.set ≡ own.x.locks = cc in
      let L : LockSet → Type 0 = λ l. IsCompatible (locks.lock_uses l) (locks.lock_uses other.x.locks) in
      let N : ℕ → Type 0 = λ n. IsCompatible (uses_for d (r.invocations g.seat.inv)) (uses_for d (r.invocations n)) in
      let S : Seat → Type 0 = λ t. IsCompatible (uses_for d (r.invocations t.inv)) (uses_for d (r.invocations m)) in
      subst S (start-seat (machine_in d) held r old.contexts contexts c fits starts s seat)
      (subst N p.number
      (IsCompatible-same (locks.lock_uses own.x.locks) (locks.lock_uses other.x.locks) (uses_for d (r.invocations g.seat.inv)) (uses_for d (r.invocations p.seat.inv))
      (seat-uses d held r.posts (r.invocations g.seat.inv) c g.seat (at old.contexts c) own (programs g.seat.handler own.x own.is_held))
      (seat-uses d held r.posts (r.invocations p.seat.inv) k p.seat (at old.contexts k) other (programs p.seat.handler other.x other.is_held))
      (subst L set compatible)))

  sits : Sits old.contexts contexts s.inv c (record (at old.contexts c) { waits = None; holds = Some starts.set; ready = true }) s
  sits =
      let g = starting (machine_in d) held r old.contexts contexts c keeps.fits starts in
      let P : Seat → Type 0 = λ t. IsAlone old.contexts t.inv c in
      record {
        becomes = starts.becomes;
        seat = seat;
        number = refl;
        alone = subst P (start-seat (machine_in d) held r old.contexts contexts c keeps.fits starts s seat) (alone-seat held r old.contexts c keeps.fits g);
      }

  pub Continues-started : Continues d old (record old { contexts = contexts; log = log }) old.log.all stamp (entry.Start s.inv) (Started s.inv)
  Continues-started =
      let queued = start-queued (machine_in d) held r old.contexts contexts c keeps.fits starts s seat in
      let n = keeps.numbers in
      record {
        prepared = IsPrepared-same old.log.all;
        pushed = pushed;
        tells = refl;
        tidily = AddsTidily-plain d old.log.all log.all stamp (entry.Start s.inv) pushed (record { image = refl; store = refl; in_range = tt });
        timely = timely;
        follows = queued;
        ends = tt;
        shown = tt;
        before_era = tt;
        numbers = omega arith;
        after = record {
          posts = keeps.posts;
          places = keeps.places;
          installed = keeps.installed;
          fits = Fits-started (machine_in d) held r old.contexts contexts c keeps.fits starts s seat;
          seats = let was = keeps.seats in let same = starts.becomes.seats in omega (arith, was, same);
          lengths = keeps.lengths;
          agrees = Agrees-started d r old.contexts contexts old.heap s.inv c _ s keeps.agrees sits seat queued free;
        };
      }

-- an instruction that ended so closes its run so
pub record IsClosing (how : StepEnd) (e : End) : Type 0 where
  pub status : (p : Private) (o : Own) → (own_after how p o).status ≡ Over e
  pub calls : (p : Private) (o : Own) → (own_after how p o).calls ≡ o.calls
  pub count : (p : Private) (o : Own) → (own_after how p o).count ≡ o.count + 1

pub IsClosing-halt : IsClosing Halt end.Halt
IsClosing-halt = record { status = λ p o. refl; calls = λ p o. refl; count = λ p o. refl }

pub IsClosing-fault : (kind : FaultKind) → IsClosing (Fault kind) (end.Fault kind)
IsClosing-fault kind = record { status = λ p o. refl; calls = λ p o. refl; count = λ p o. refl }

-- ---- an instruction of a ready invocation

module _ (d : Description) (old : Parts) (contexts : Contexts) (heap : Store) (c : ContextId) (how : StepEnd) (keeps : Keeps d old)
    (is_ready : (at old.contexts c).ready ≡ true) (ex : Executes (held_at old.handlers.programs) old.contexts old.heap c how contexts heap) where
  abbrev pub q : NodeState
  q = reading d old.log.all

  abbrev pub programs : Programs
  programs = held_at old.handlers.programs

  -- the one that runs, its invocation and its program
  abbrev pub one : HasSeat programs q c (at old.contexts c)
  one = running (machine_in d) programs q old.contexts c keeps.fits is_ready

  abbrev pub i : Invocation
  i = q.invocations one.seat.inv

  ready-phase : i.phase ≡ Ready
  ready-phase = was_ready (machine_in d) programs q old.contexts c keeps.fits is_ready

  same_seat : one.seat ≡ ex.seat
  same_seat = let e : Some one.seat ≡ Some ex.seat = sym one.is ∙ ex.is in cc

  same_program : one.seated.x ≡ ex.x
  same_program =
      let P : Seat → Type 0 = λ s. programs s.handler ≡ Some ex.x in
      let e : Some one.seated.x ≡ Some ex.x = sym one.seated.is_held ∙ subst P (sym same_seat) ex.is_held in
      cc

  abbrev pub x : Held
  x = one.seated.x

  is_program : IsHeld d x
  is_program = keeps.installed.each one.seat.handler x one.seated.is_held

  now-inv : ex.now.inv ≡ one.seat.inv
  now-inv = ex.same.inv ∙ ap (λ (s : Seat). s.inv) (sym same_seat)

  now-handler : ex.now.handler ≡ one.seat.handler
  now-handler = ex.same.handler ∙ ap (λ (s : Seat). s.handler) (sym same_seat)

  now-count : ex.now.count ≡ one.seat.count + 1
  now-count = ex.counted ∙ ap (λ (s : Seat). s.count + 1) (sym same_seat)

  stepping : IsStep x.code one.seat.machine old.heap how ex.now.machine heap
  stepping =
      let P : Seat → Type 0 = λ s. IsStep x.code s.machine old.heap how ex.now.machine heap in
      let Q : Held → Type 0 = λ y. IsStep y.code ex.seat.machine old.heap how ex.now.machine heap in
      subst P (sym same_seat) (subst Q (sym same_program) ex.step)

  code-is : x.code.code ≡ code_for d i
  code-is = is_program.code ∙ ap (λ (p : HeldProgram). image_code (shape_of d) p.image) (sym one.seated.program)

  pub executed-Alters : Alters (uses_for d i) old.heap heap
  executed-Alters = step-Alters d i one.seat q.serial old.heap heap x.code how ex.now.machine is_program.shape code-is stepping

  own-before : IsOwnRun d i one.seat q.serial old.heap
  own-before =
      let P : Phase → Type 0 = λ p. RunsOwn d p i one.seat q.serial old.heap in
      subst P ready-phase (keeps.agrees.each c one.seat one.is)

  pub own-after : Matches (uses (uses_for d i)) (own_run d i ex.now.count q.serial) record { own = own_after how ex.now.machine (going_in i one.seat); store = heap }
  own-after =
      let P : ℕ → Type 0 = λ n. Matches (uses (uses_for d i)) (own_run d i n q.serial) record { own = own_after how ex.now.machine (going_in i one.seat); store = heap } in
      subst P (sym now-count) (step-own d i one.seat q.serial old.heap heap x.code how ex.now.machine is_program.shape code-is stepping ready-phase own-before)

  lengths-after : HasLengths (shape_of d) heap
  lengths-after = let P : Shape → Type 0 = λ s. HasLengths s heap in subst P is_program.shape stepping.lengths

  -- the context, with the new seat
  with_seat : record (at old.contexts c) { seat = Some ex.now } ≡ ready ex.now x.locks
  with_seat = ap (λ (a : At). record a { seat = Some ex.now }) (stood_ready (machine_in d) programs q old.contexts c keeps.fits is_ready)

  verified : HasVerified d i
  verified = verified-seat d q old.contexts programs old.heap keeps.fits keeps.installed.each keeps.agrees c i one.seat (at old.contexts c) q.posts one.seated

  alone : IsAlone old.contexts one.seat.inv c
  alone = alone-seat programs q old.contexts c keeps.fits one

  started : is_started i.phase ≡ true
  started = ap is_started ready-phase

  becomes-now : Becomes old.contexts contexts c (ready ex.now x.locks)
  becomes-now = let P : At → Type 0 = λ a. Becomes old.contexts contexts c a in subst P with_seat ex.becomes

  -- it goes on
  module _ (goes : how ≡ Next) where
    fitting : FitsCode x.code ex.now.machine
    fitting = let P : StepEnd → Type 0 = λ e. FitsCodeAfter x.code e ex.now.machine in subst P goes stepping.fits

    own-next : IsOwnRun d i ex.now q.serial heap
    own-next =
        let P : StepEnd → Type 0 = λ e. Matches (uses (uses_for d i)) (own_run d i ex.now.count q.serial) record { own = own_after e ex.now.machine (going_in i one.seat); store = heap } in
        let m = subst P goes own-after in
        let o : ℕ → Status → Own = λ n st. record { own = ex.now.machine; left = []; calls = i.calls; count = n; status = st } in
        record {
          own = m.own ∙ ap (λ (n : ℕ). o n Going) (sym now-count) ∙ ap (λ (p : Phase). (own_in (record i { phase = p }) ex.now)) (sym ready-phase);
          stores = m.stores;
        }

    becomes-ready : Becomes old.contexts contexts c (ready ex.now x.locks)
    becomes-ready = let P : At → Type 0 = λ a. Becomes old.contexts contexts c a in subst P with_seat ex.becomes

    agrees-next : Agrees d q contexts heap
    agrees-next =
        let P : (ℕ → Invocation) → Type 0 = λ f. Agrees d (record q { invocations = f }) contexts heap in
        let here : RunsOwn d i.phase i ex.now q.serial heap = (let R : Phase → Type 0 = λ p. RunsOwn d p i ex.now q.serial heap in subst R (sym ready-phase) own-next) in
        subst P (changed-same q.invocations one.seat.inv)
        (Agrees-moves d q old.contexts contexts old.heap heap one.seat.inv i c (ready ex.now x.locks) ex.now keeps.agrees
        (record { becomes = becomes-ready; seat = refl; number = now-inv; alone = alone })
        (record { was = started; is = started; program = refl }) executed-Alters here)

    -- nothing is told, and the parts keep what they keep
    pub Keeps-executed : Keeps d (record old { contexts = contexts; heap = heap })
    Keeps-executed =
        record {
          tidy = keeps.tidy;
          full = keeps.full;
          numbers = keeps.numbers;
          well_formed = keeps.well_formed;
          posts = keeps.posts;
          places = keeps.places;
          installed = keeps.installed;
          fits = Fits-executed (machine_in d) programs q old.contexts c keeps.fits is_ready contexts ex.now now-inv now-handler fitting becomes-ready;
          seats = let was = keeps.seats in let same = becomes-ready.seats in omega (arith, was, same);
          lengths = lengths-after;
          agrees = agrees-next;
          serial = keeps.serial;
          shows = keeps.shows;
        }

  -- it calls a function, and waits
  module _ (after : Contexts) (log : OpenView) (stamp : Stamp) (f : FunId) (args : ArrayVec ℤ) (timely : IsTimely stamp old.log.all) (calls : how ≡ Ask f args)
      (asks : Asks contexts after c (f, args)) (pushed : IsPushed old.log.all record { stamp = stamp; entry = entry.Ask one.seat.inv f args } log.all) where
    waits-now : Waits x.code ex.now.machine
    waits-now = let P : StepEnd → Type 0 = λ e. FitsCodeAfter x.code e ex.now.machine in subst P calls stepping.fits

    becomes-waiting : Becomes old.contexts after c (waiting ex.now x.locks (f, args))
    becomes-waiting =
        record {
          here = asks.becomes.here ∙ ap (λ (a : At). record a { ready = false; call = Some (f, args) }) becomes-now.here;
          others = λ k other. asks.becomes.others k other ∙ becomes-now.others k other;
          seats = asks.becomes.seats ∙ becomes-now.seats;
        }

    own-waiting : IsOwnRun d (in_phase (Waiting f args) i) ex.now q.serial heap
    own-waiting =
        let P : StepEnd → Type 0 = λ e. Matches (uses (uses_for d i)) (own_run d i ex.now.count q.serial) record { own = own_after e ex.now.machine (going_in i one.seat); store = heap } in
        let m = subst P calls own-after in
        let o : ℕ → Own = λ n. record { own = ex.now.machine; left = []; calls = i.calls; count = n; status = Over (end.Wants f args) } in
        record { own = m.own ∙ ap o (sym now-count); stores = m.stores }

    -- the function is one of the machine's, as the whole run wants its answer
    wants : (code_run (shape_of d) (code_for d i) q.serial i.payload (answers_of i) d.turns).end ≡ end.Wants f args
    wants =
        let whole-is : whole d i q.serial ≡ own_run d i ex.now.count q.serial = whole-over d i q.serial ex.now.count (end.Wants f args) verified (ap (λ (o : Own). o.count) own-waiting.own) (ap (λ (o : Own). o.status) own-waiting.own) in
        ap (λ (r : Run). end_of r.own.status) whole-is ∙ ap (λ (o : Own). end_of o.status) own-waiting.own

    asked-plain : IsPlain d (entry.Ask one.seat.inv f args)
    asked-plain = record { image = refl; store = refl; in_range = asked-in_range d i.program.image q.serial i.payload (answers_of i) d.turns f args wants }

    pub Continues-asked : Continues d old (record old { contexts = after; heap = heap; log = log }) old.log.all stamp (entry.Ask one.seat.inv f args) (AskedTold one.seat.inv f args)
    Continues-asked =
        let n = keeps.numbers in
        record {
          prepared = IsPrepared-same old.log.all;
          pushed = pushed;
          tells = refl;
          tidily = AddsTidily-plain d old.log.all log.all stamp (entry.Ask one.seat.inv f args) pushed asked-plain;
          timely = timely;
          follows = ready-phase;
          ends = tt;
          shown = tt;
          before_era = tt;
          numbers = omega arith;
          after = record {
            posts = keeps.posts;
            places = keeps.places;
            installed = keeps.installed;
            lengths = lengths-after;
            fits = Fits-asked (machine_in d) programs q old.contexts c keeps.fits is_ready after ex.now f args now-inv now-handler waits-now becomes-waiting;
            seats = let was = keeps.seats in let same = becomes-waiting.seats in omega (arith, was, same);
            agrees = Agrees-moves d q old.contexts after old.heap heap one.seat.inv (in_phase (Waiting f args) i) c (waiting ex.now x.locks (f, args)) ex.now keeps.agrees
                (record { becomes = becomes-waiting; seat = refl; number = now-inv; alone = alone })
                (record { was = started; is = refl; program = refl }) executed-Alters own-waiting;
          };
        }

  -- it is over
  module _ (after : Contexts) (log : OpenView) (stamp : Stamp) (e : End) (told : Entry) (timely : IsTimely stamp old.log.all) (closes : Closes e) (closing : IsClosing how e)
      (tells : journal_entry old.log.all told ≡ Ended one.seat.inv e) (plain : IsPlain d told)
      (finishes : Ends contexts after c) (pushed : IsPushed old.log.all record { stamp = stamp; entry = told } log.all) where
    becomes-idle : Becomes old.contexts after c idle
    becomes-idle =
        record {
          here = finishes.becomes.here ∙ ap (λ (a : At). record a { seat = None; holds = None; ready = false; waits = None }) becomes-now.here;
          others = λ k other. finishes.becomes.others k other ∙ becomes-now.others k other;
          seats = finishes.becomes.seats ∙ becomes-now.seats;
        }

    last : Own
    last = own_after how ex.now.machine (going_in i one.seat)

    whole-is : whole d i q.serial ≡ own_run d i ex.now.count q.serial
    whole-is =
        whole-over d i q.serial ex.now.count e verified
        (ap (λ (o : Own). o.count) own-after.own ∙ closing.count ex.now.machine (going_in i one.seat) ∙ sym now-count)
        (ap (λ (o : Own). o.status) own-after.own ∙ closing.status ex.now.machine (going_in i one.seat))

    end-is : EndsAsRun (machine_in d) q (Ended one.seat.inv e)
    end-is = (
      ap (λ (r : Run). end_of r.own.status) whole-is ∙ ap (λ (o : Own). end_of o.status) own-after.own ∙ ap end_of (closing.status ex.now.machine (going_in i one.seat)),
      ap (λ (r : Run). r.own.calls) whole-is ∙ ap (λ (o : Own). o.calls) own-after.own ∙ closing.calls ex.now.machine (going_in i one.seat),
    )

    seen-last : Agree (uses (uses_for d i)) (whole d i q.serial).store heap
    seen-last = let P : Run → Type 0 = λ r. Agree (uses (uses_for d i)) r.store heap in subst P (sym whole-is) own-after.stores

    whole-Alters : Alters (uses_for d i) q.serial (whole d i q.serial).store
    whole-Alters =
        let b : ℕ = bound (code_for d i) d.turns in
        let r : Run = begun_run q.serial i.payload (answers_of i) d.turns in
        record { as_long = after-AreAsLong b (shape_of d) (code_for d i) r; others = λ z not. after-other b (shape_of d) (code_for d i) r z not }

    pub Continues-ended : Continues d old (record old { contexts = after; heap = heap; log = log }) old.log.all stamp told (Ended one.seat.inv e)
    Continues-ended =
        let n = keeps.numbers in
        record {
          prepared = IsPrepared-same old.log.all;
          pushed = pushed;
          tells = tells;
          tidily = AddsTidily-plain d old.log.all log.all stamp told pushed plain;
          timely = timely;
          follows = (ready-phase, closes);
          ends = end-is;
          shown = tt;
          before_era = tt;
          numbers = omega arith;
          after = record {
            posts = keeps.posts;
            places = keeps.places;
            installed = keeps.installed;
            lengths = lengths-after;
            fits = Fits-ended (machine_in d) programs q old.contexts c keeps.fits is_ready after e becomes-idle;
            seats = let was = keeps.seats in let same = becomes-idle.seats in omega (arith, was, same);
            agrees = Agrees-ended d q old.contexts after old.heap heap (whole d i q.serial).store one.seat.inv (in_phase Gone i) c idle keeps.agrees becomes-idle refl alone started refl seen-last executed-Alters whole-Alters;
          };
        }
