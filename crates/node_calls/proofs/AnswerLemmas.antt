-- An answer: the invocation goes on as its own run with one more answer does, and is ready behind all others.
use Rattle.std.proofs.Common.{◌≡◌, ◌⊎◌, ℕ, ◌+◌, ◌<◌, ◌≤◌, ℤ, true, List, [], ◌∷◌, ◌++◌, Some, None, refl, sym, ◌∙◌, ap, subst, arith, inl, inr, map}
use Rattle.std.proofs.lemmas.Bool.{cases_eq}
use Rattle.std.proofs.lemmas.List.{map-append}
use Rattle.arrayvec.specs.ArrayVec.{ArrayVec}
use Rattle.mate_num.specs.declared.call.Call.{Call}
use Rattle.mate_num.specs.declared.call.End.TheVariants as end
use Rattle.mate_num.specs.declared.call.Stamp.{Stamp}
use Rattle.mate_num.specs.declared.id.ContextId.{ContextId}
use Rattle.mate_num.specs.declared.id.FunId.{FunId}
use Rattle.mate_num.specs.declared.store.Store.{Store}
use Rattle.mate_num.specs.Uses.{uses}
use Rattle.mate_code.specs.Cells.{Agree}
use Rattle.mate_code.specs.Effect.{Private, push}
use Rattle.mate_code.specs.Run.{Own, Run, Going, Over, begun_run, after}
use Rattle.mate_code.proofs.RunLemmas.{resumed_own, after-given}
use Rattle.split_phase.specs.Calls.{Asked}
use Rattle.lock_manager.specs.Claims.{Claims}
use Rattle.lock_manager.proofs.ClaimLemmas.{same_context}
use Rattle.code_verifier.specs.Verified.{IsAtVerified as FitsCode}
use Rattle.vm_shape.specs.declared.description.Description.{Description}
use Rattle.vm_shape.specs.Shapes.{shape_of}
use Rattle.mate_journal.specs.declared.entry.Entry.TheVariants as entry
use Rattle.mate_journal.specs.Machine.{Machine}
use Rattle.mate_journal.specs.Journal.{Answered, Phase, Ready, Waiting, is_started, Invocation, NodeState, answers_of, next_state}
use Rattle.mate_journal.specs.Grants.{AllHeldBack}
use Rattle.mate_journal.specs.NodeScript.{AnswersCall as AnswersStep}
use Rattle.journal_laws.specs.Growth.{IsPushed}
use Rattle.journal_laws.proofs.Moves.{answered-Moves}
use Rattle.node_state.specs.declared.seat.Seat.{Seat}
use Rattle.node_state.specs.declared.contexts.Contexts.{Contexts}
use Rattle.node_state.specs.At.{At, ready, at, Becomes, IsPlaced}
use Rattle.node_state.specs.Programs.{Programs, held_at}
use Rattle.node_state.specs.Executing.{CanAnswer, IsAnswered}
use Rattle.node_state.specs.declared.parts.Parts.{Parts}
use Rattle.node_state.specs.Meaning.{machine_in}
use Rattle.node_state.specs.Agrees.{code_for, uses_for, own_run, own_in, IsOwnRun, RunsOwn, Agrees}
use Rattle.node_state.specs.Keeps.{reading, Keeps, IsTimely}
use Rattle.node_state.specs.Continues.{Continues}
use Rattle.node_state.proofs.FitLemmas.{HasSeat, IsAlone}
use Rattle.node_state.proofs.KeepLemmas.{IsPrepared-same, AddsTidily-plain}
use Rattle.node_state.proofs.MoveLemmas.{alone-seat, answering, was_waiting, stood_waiting, waits-in, none_waits, Fits-answered}
use Rattle.node_state.proofs.AgreeLemmas.{Agrees-moves}
use Rattle.node_state.specs.Queue.{number_at, invocation_in}
use Rattle.mate_journal.specs.Pace.{Pace, paced}
use Rattle.node_state.specs.Pace.{IsPace}
use Rattle.node_state.specs.Starting.{KeepsOrder, Rests}
use Rattle.node_state.proofs.WaiterLemmas.{all-held-moves}
use Rattle.node_state.proofs.OrderLemmas.{IsQueue-becomes, KeepsOrder-push, heard-by, grows-by}
use Rattle.node_state.proofs.StartingLemmas.{map-same}
use Rattle.node_calls.specs.Calls.{RestsAgain, NobodyWaits}
use Rattle.mate_journal.specs.OpenLog.{OpenView}

-- ---- the run goes on

-- an invocation with one more answer
abbrev pub given : Machine → NodeState → ℤ → Invocation → Invocation
given m r value i = (next_state m (record r { invocations = λ _. i }) (Answered 0 value)).invocations 0

-- it is ready with the answer on its stack, as its own run with one more answer is
pub own-given : (d : Description) (r : NodeState) (i : Invocation) (s now : Seat) (heap : Store) (f : FunId) (args : ArrayVec ℤ) (value : ℤ) → i.phase ≡ Waiting f args → now.count ≡ s.count → now.machine ≡ push value s.machine
    → IsOwnRun d i s r.serial heap → IsOwnRun d (given (machine_in d) r value i) now r.serial heap
own-given d r i s now heap f args value waits counted pushed is =
    record {
      own =
          ap (λ (x : Run). x.own) run-is ∙ ap (resumed_own f args value) own-was
          ∙ ap (λ (p : Private). own p (i.calls ++ call ∷ []) s.count) (sym pushed)
          ∙ ap (λ (cs : List Call). own now.machine cs s.count) (sym calls-are)
          ∙ ap (λ (n : ℕ). own now.machine later.calls n) (sym counted);
      stores = (let P : Run → Type 0 = λ x. Agree (uses (uses_for d i)) x.store heap in subst P (sym run-is) is.stores);
    } where
      later : Invocation
      later = given (machine_in d) r value i

      call : Call
      call = record { fun = f; args = args; result = value }

      own : Private → List Call → ℕ → Own
      own p cs n = record { own = p; left = []; calls = cs; count = n; status = Going }

      runs : ℕ → List ℤ → Run
      runs n answers = after n (shape_of d) (code_for d i) (begun_run r.serial i.payload answers d.turns)

      calls-are : later.calls ≡ i.calls ++ call ∷ []
      calls-are = ap (λ (p : Phase). (given (machine_in d) r value (record i { phase = p })).calls) waits

      answers-are : answers_of later ≡ answers_of i ++ value ∷ []
      answers-are = ap (λ (cs : List Call). map (λ (c : Call). c.result) cs) calls-are ∙ map-append (λ (c : Call). c.result) i.calls (call ∷ [])

      own-was : (runs s.count (answers_of i)).own ≡ record { own = s.machine; left = []; calls = i.calls; count = s.count; status = Over (end.Wants f args) }
      own-was = is.own ∙ ap (λ (p : Phase). own_in (record i { phase = p }) s) waits

      is-given : runs s.count (answers_of i ++ value ∷ []) ≡ record { own = resumed_own f args value (runs s.count (answers_of i)).own; store = (runs s.count (answers_of i)).store }
      is-given =
          let none : s.count ≡ 0 + s.count = omega arith in
          after-given s.count value f args (shape_of d) (code_for d i) (begun_run r.serial i.payload (answers_of i) d.turns) refl (ap (λ (o : Own). o.status) own-was) (ap (λ (o : Own). o.count) own-was ∙ none)

      run-is : own_run d later now.count r.serial ≡ record { own = resumed_own f args value (runs s.count (answers_of i)).own; store = (runs s.count (answers_of i)).store }
      run-is = ap (λ (n : ℕ). runs n (answers_of later)) counted ∙ ap (λ (xs : List ℤ). runs s.count xs) answers-are ∙ is-given

-- ---- what an answer asks of the parts

module _ (d : Description) (old : Parts) (contexts : Contexts) (log : OpenView) (stamp : Stamp) (c : ContextId) (value : ℤ) (call : Asked) (rests : Rests d old) (timely : IsTimely stamp old.log.all)
    (is_waiting : (at old.contexts c).call ≡ Some call) (answers : IsAnswered old.contexts contexts c value) where
  abbrev pub r : NodeState
  r = reading d old.log.all

  abbrev pub held : Programs
  held = held_at old.handlers.programs

  abbrev keeps : Keeps d old
  keeps = rests.order.keeps

  -- the one that waits, and its invocation
  abbrev pub one : HasSeat held r c (at old.contexts c)
  one = answering (machine_in d) held r old.contexts c call rests.order.keeps.fits is_waiting

  abbrev pub i : Invocation
  i = r.invocations one.seat.inv

  waits : i.phase ≡ Waiting call.0 call.1
  waits = was_waiting (machine_in d) held r old.contexts c call keeps.fits is_waiting

  same_seat : one.seat ≡ answers.seat
  same_seat = let e : Some one.seat ≡ Some answers.seat = sym one.is ∙ answers.is in cc

  now-inv : answers.now.inv ≡ one.seat.inv
  now-inv = answers.same.inv ∙ ap (λ (s : Seat). s.inv) (sym same_seat)

  now-handler : answers.now.handler ≡ one.seat.handler
  now-handler = answers.same.handler ∙ ap (λ (s : Seat). s.handler) (sym same_seat)

  now-count : answers.now.count ≡ one.seat.count
  now-count = answers.counted ∙ ap (λ (s : Seat). s.count) (sym same_seat)

  now-machine : answers.now.machine ≡ push value one.seat.machine
  now-machine = answers.pushed ∙ ap (λ (s : Seat). push value s.machine) (sym same_seat)

  fitting : FitsCode one.seated.x.code answers.now.machine
  fitting =
      let P : Private → Type 0 = λ p. FitsCode one.seated.x.code p in
      subst P (sym now-machine) ((waits-in (machine_in d) held r old.contexts c call keeps.fits is_waiting).fits value)

  becomes-ready : Becomes old.contexts contexts c (ready answers.now one.seated.x.locks)
  becomes-ready =
      let P : At → Type 0 = λ a. Becomes old.contexts contexts c a in
      subst P (ap (λ (a : At). record a { seat = Some answers.now; ready = true; call = None }) (stood_waiting (machine_in d) held r old.contexts c call keeps.fits is_waiting)) answers.becomes

  own-ready : IsOwnRun d (given (machine_in d) r value i) answers.now r.serial old.heap
  own-ready =
      let P : Phase → Type 0 = λ p. RunsOwn d p i one.seat r.serial old.heap in
      own-given d r i one.seat answers.now old.heap call.0 call.1 value waits now-count now-machine (subst P waits (keeps.agrees.each c one.seat one.is))

  alone : IsAlone old.contexts one.seat.inv c
  alone = alone-seat held r old.contexts c keeps.fits one

  started : is_started i.phase ≡ true
  started = ap is_started waits

  agrees-now : Agrees d (next_state (machine_in d) r (Answered one.seat.inv value)) contexts old.heap
  agrees-now =
      Agrees-moves d r old.contexts contexts old.heap old.heap one.seat.inv (given (machine_in d) r value i) c (ready answers.now one.seated.x.locks) answers.now keeps.agrees
      (record { becomes = becomes-ready; seat = refl; number = now-inv; alone = alone })
      (record { was = started; is = refl; program = refl }) (record { as_long = record { shared = refl; buffers = refl }; others = λ q not. refl }) own-ready

  module _ (pushed : IsPushed old.log.all record { stamp = stamp; entry = entry.Answer one.seat.inv value } log.all) (room : old.log.all.spare ≤ log.all.spare + 1) where
    abbrev pub new : Parts
    new = record old { contexts = contexts; log = log }

    pub Continues-answered : Continues d old new old.log.all stamp (entry.Answer one.seat.inv value) (Answered one.seat.inv value)
    Continues-answered =
        let n = keeps.numbers in
        record {
          prepared = IsPrepared-same old.log.all;
          pushed = pushed;
          tells = refl;
          tidily = AddsTidily-plain d old.log.all log.all stamp (entry.Answer one.seat.inv value) pushed (record { image = refl; store = refl; in_range = tt });
          timely = timely;
          follows = record { fun = call.0; args = call.1; waits = waits };
          ends = tt;
          shown = tt;
          before_era = tt;
          numbers = omega arith;
          after = record {
            posts = keeps.posts;
            places = keeps.places;
            installed = keeps.installed;
            fits = Fits-answered (machine_in d) held r old.contexts c call keeps.fits is_waiting contexts answers.now value now-inv now-handler fitting becomes-ready;
            seats = let was = keeps.seats in let same = becomes-ready.seats in omega (arith, was, same);
            lengths = keeps.lengths;
            agrees = agrees-now;
          };
        }

    order-now : KeepsOrder d new
    order-now =
        KeepsOrder-push d old new old.log.all stamp (entry.Answer one.seat.inv value) (Answered one.seat.inv value) rests.order Continues-answered room rests.held
        (IsQueue-becomes old.contexts contexts c (ready answers.now one.seated.x.locks) becomes-ready (ap (λ (l : Claims). l.waiting) answers.locks) (inr (now-inv ∙ ap number_at (sym one.is))) rests.order.queue)

    heard-is : reading d log.all ≡ next_state (machine_in d) r (Answered one.seat.inv value)
    heard-is = heard-by d old new old.log.all stamp (entry.Answer one.seat.inv value) (Answered one.seat.inv value) rests.order Continues-answered room

    held-now : AllHeldBack (machine_in d) (reading d log.all)
    held-now =
        let P : NodeState → Type 0 = λ q. AllHeldBack (machine_in d) q in
        subst P (sym heard-is) (all-held-moves (machine_in d) r (next_state (machine_in d) r (Answered one.seat.inv value)) one.seat.inv Ready (answered-Moves (machine_in d) r one.seat.inv value) refl rests.held)

    -- ---- the pace

    number-same : (k : ContextId) → invocation_in old.contexts k ≡ invocation_in contexts k
    number-same k = by (cases_eq k.0 c.0) where
      by : (k.0 ≡ c.0) ⊎ (k.0 ≡ c.0 → ⊥) → invocation_in old.contexts k ≡ invocation_in contexts k
      by (inl e) =
          let P : ContextId → Type 0 = λ j. invocation_in old.contexts j ≡ invocation_in contexts j in
          subst P (sym (same_context k c e)) (ap number_at one.is ∙ sym now-inv ∙ ap (λ (a : At). number_at a.seat) (sym becomes-ready.here))
      by (inr other) = ap (λ (a : At). number_at a.seat) (sym (becomes-ready.others k other))

    pace-heard : (p : Pace) → IsPace r old.contexts p → IsPace (next_state (machine_in d) r (Answered one.seat.inv value)) contexts (paced p (Answered one.seat.inv value))
    pace-heard p pace = record {
      line =
          ap (λ (l : List ℕ). l ++ one.seat.inv ∷ []) pace.line
          ∙ ap (λ (n : ℕ). map (invocation_in old.contexts) old.contexts.ring ++ n ∷ []) (ap number_at (sym one.is))
          ∙ sym (map-append (invocation_in old.contexts) old.contexts.ring (c ∷ []))
          ∙ ap (map (invocation_in old.contexts)) (sym answers.ring)
          ∙ map-same (invocation_in old.contexts) (invocation_in contexts) contexts.ring number-same;
      counts = λ k t e is. by k t e is (cases_eq k.0 c.0);
    } where
      by : (k : ContextId) (t : Seat) → (at contexts k).seat ≡ Some t → is_started ((next_state (machine_in d) r (Answered one.seat.inv value)).invocations t.inv).phase ≡ true → (k.0 ≡ c.0) ⊎ (k.0 ≡ c.0 → ⊥) → t.count ≡ p.counts t.inv
      by k t e is (inl same) =
          let Q : ContextId → Type 0 = λ j. (at contexts j).seat ≡ Some t in
          let f : Some answers.now ≡ Some t = ap (λ (a : At). a.seat) (sym becomes-ready.here) ∙ subst Q (same_context k c same) e in
          let seat : answers.now ≡ t = cc in
          ap (λ (u : Seat). u.count) (sym seat) ∙ now-count ∙ pace.counts c one.seat one.is started ∙ ap p.counts (sym now-inv ∙ ap (λ (u : Seat). u.inv) seat)
      by k t e is (inr other) =
          let was : (at old.contexts k).seat ≡ Some t = ap (λ (a : At). a.seat) (sym (becomes-ready.others k other)) ∙ e in
          let apart = alone.elsewhere k t other was in
          pace.counts k t was (ap (λ (j : Invocation). is_started j.phase) (sym ((answered-Moves (machine_in d) r one.seat.inv value).others t.inv apart)) ∙ is)

    pub RestsAgain-answered : RestsAgain d old new stamp (AnswersStep r c value)
    RestsAgain-answered = record {
      adds = record {
        told = Answered one.seat.inv value ∷ [];
        grows = grows-by d old new old.log.all stamp (entry.Answer one.seat.inv value) (Answered one.seat.inv value) rests.order Continues-answered room;
        made = record { invocation = one.seat.inv; waits = record { fun = call.0; args = call.1; waits = waits }; context = one.seated.context; made = refl };
      };
      rests = record { order = order-now; held = held-now };
      pace = λ p pace. (let P : NodeState → Type 0 = λ q. IsPace q contexts (paced p (Answered one.seat.inv value)) in subst P (sym heard-is) (pace-heard p pace));
    }

-- the answer is told of whoever has the context
pub RestsAgain-answer : (d : Description) (old : Parts) (contexts : Contexts) (log : OpenView) (stamp : Stamp) (c : ContextId) (value : ℤ) (call : Asked) (n : ℕ) → Rests d old → IsTimely stamp old.log.all
    → (at old.contexts c).call ≡ Some call → IsAnswered old.contexts contexts c value → IsPlaced (at contexts c) n → IsPushed old.log.all record { stamp = stamp; entry = entry.Answer n value } log.all → old.log.all.spare ≤ log.all.spare + 1
    → RestsAgain d old (record old { contexts = contexts; log = log }) stamp (AnswersStep (reading d old.log.all) c value)
RestsAgain-answer d old contexts log stamp c value call n rests timely is_waiting answers placed pushed room =
    let number : n ≡ (one d old contexts log stamp c value call rests timely is_waiting answers).seat.inv =
    (let f : Some placed.seat ≡ Some answers.now = sym placed.is ∙ ap (λ (a : At). a.seat) answers.becomes.here in
    let g : placed.seat ≡ answers.now = cc in
    sym placed.number ∙ ap (λ (s : Seat). s.inv) g ∙ now-inv d old contexts log stamp c value call rests timely is_waiting answers) in
    let P : ℕ → Type 0 = λ k. IsPushed old.log.all record { stamp = stamp; entry = entry.Answer k value } log.all in
    RestsAgain-answered d old contexts log stamp c value call rests timely is_waiting answers (subst P number pushed) room

-- where the context has no call, nobody waits there
pub nobody-waits : (d : Description) (s : Parts) (c : ContextId) → Rests d s → None ≡ (at s.contexts c).call → NobodyWaits (reading d s.log.all) c
nobody-waits d s c rests none n waiting context =
    none_waits (held_at s.handlers.programs) (reading d s.log.all) s.contexts c rests.order.keeps.fits (sym none) n waiting.fun waiting.args waiting.waits context

-- what the answer asks of the context
pub CanAnswer-waiting : (d : Description) (s : Parts) (c : ContextId) (call : Asked) → Rests d s → c.0 < 16 → (at s.contexts c).call ≡ Some call → CanAnswer (held_at s.handlers.programs) s.contexts c
CanAnswer-waiting d s c call rests small is_waiting =
    let held = held_at s.handlers.programs in
    let r = reading d s.log.all in
    let fits = rests.order.keeps.fits in
    let h = answering (machine_in d) held r s.contexts c call fits is_waiting in
    record {
      small = small;
      seat = h.seat;
      is = h.is;
      x = h.seated.x;
      is_held = h.seated.is_held;
      waits = waits-in (machine_in d) held r s.contexts c call fits is_waiting;
      absent = ap (λ (a : At). a.ready) (stood_waiting (machine_in d) held r s.contexts c call fits is_waiting);
    }
