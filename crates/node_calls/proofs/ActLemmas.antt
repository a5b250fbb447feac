-- A call or an end that is told after the instructions of a turn: what it leaves, and the whole turn.
use Rattle.std.proofs.Common.{◌≡◌, ◌≢◌, ℕ, ◌+◌, ◌-◌, ◌<◌, ◌≤◌, true, List, [], ◌∷◌, Some, refl, sym, ◌∙◌, ap, subst, arith}
use Rattle.std.specs.Prelude.{min}
use Rattle.mate_num.specs.declared.call.End.{End}
use Rattle.mate_num.specs.declared.call.Stamp.{Stamp}
use Rattle.mate_num.specs.declared.id.ContextId.{ContextId}
use Rattle.mate_num.specs.declared.store.Store.{Store}
use Rattle.mate_code.specs.Run.{Over}
use Rattle.context_sched.specs.Ready.{without}
use Rattle.exec_unit.specs.declared.step_end.StepEnd.{StepEnd}
use Rattle.exec_unit.specs.Step.{own_after}
use Rattle.vm_shape.specs.declared.description.Description.{Description}
use Rattle.mate_journal.specs.declared.entry.Entry.{Entry}
use Rattle.mate_journal.specs.Log.{Log}
use Rattle.mate_journal.specs.Journal.{JournalEntry, is_live, is_started, NodeState, whole_run, changed, next_state}
use Rattle.mate_journal.specs.Grants.{AllHeldBack}
use Rattle.node_state.specs.declared.seat.Seat.{Seat}
use Rattle.node_state.specs.declared.contexts.Contexts.{Contexts}
use Rattle.node_state.specs.At.{At, at, ready, Becomes}
use Rattle.node_state.specs.Programs.{held_at}
use Rattle.node_state.specs.Executing.{Executes}
use Rattle.node_state.specs.declared.parts.Parts.{Parts}
use Rattle.node_state.specs.Meaning.{machine_in}
use Rattle.node_state.specs.Keeps.{reading, Keeps, IsTimely, Grows}
use Rattle.node_state.specs.Continues.{Continues}
use Rattle.node_state.proofs.FitLemmas.{IsAlone}
use Rattle.node_state.proofs.MoveLemmas.{alone-seat, stood_ready}
use Rattle.node_state.proofs.AgreeLemmas.{going_in}
use Rattle.node_state.proofs.KeepLemmas.{Grows-none}
use Rattle.node_state.specs.Queue.{number_at, invocation_in}
use Rattle.node_state.specs.Totals.{may_start, owed, left, starts_left, owes, falls}
use Rattle.mate_journal.specs.Pace.{Pace, others, paced, paced_all}
use Rattle.mate_journal.specs.Turns.{IsTurn, mark_of, entry_at, after_step}
use Rattle.node_state.specs.Pace.{IsPace}
use Rattle.node_state.specs.Starting.{KeepsOrder, Rests}
use Rattle.node_state.proofs.TotalLemmas.{over_all-becomes}
use Rattle.node_state.proofs.OrderLemmas.{live-above, grows-by, heard-by}
use Rattle.node_calls.specs.Pacing.{most, HasGoneOn, HasMoved, TakesTurn}
use Rattle.node_calls.proofs.RunningLemmas.{one, one-ready, one-below, one-within, one-few, HasGoneOn-ready}
use Rattle.node_calls.proofs.TurnLemmas.{pace-leaves, pace-stays, now-inv, now-count, mark-is, end-is}
use Rattle.mate_journal.specs.OpenLog.{OpenView}

-- ---- instructions that go on

stood : (d : Description) (s : Parts) (c : ContextId) (keeps : Keeps d s) (is_ready : (at s.contexts c).ready ≡ true) → at s.contexts c ≡ ready (one d s c keeps is_ready).seat (one d s c keeps is_ready).seated.x.locks
stood d s c keeps is_ready = stood_ready (machine_in d) (held_at s.handlers.programs) (reading d s.log.all) s.contexts c keeps.fits is_ready

module _ (d : Description) (old mid : Parts) (c : ContextId) (b : ℕ) (rests : Rests d old) (small : c.0 < 16) (is_ready : (at old.contexts c).ready ≡ true) (g : HasGoneOn d old mid c b) where
  abbrev pub keeps : Keeps d old
  keeps = rests.order.keeps

  abbrev pub ready-mid : (at mid.contexts c).ready ≡ true
  ready-mid = HasGoneOn-ready d old mid c b is_ready g

  abbrev pub s : Seat
  s = (one d old c keeps is_ready).seat

  abbrev pub t : Seat
  t = (one d mid c g.order.keeps ready-mid).seat

  seat-same : g.seat ≡ s
  seat-same = let f : Some g.seat ≡ Some s = sym g.is ∙ (one d old c keeps is_ready).is in cc

  now-same : t ≡ g.now
  now-same = let f : Some t ≡ Some g.now = sym (one d mid c g.order.keeps ready-mid).is ∙ ap (λ (a : At). a.seat) g.becomes.here in cc

  pub mid-inv : t.inv ≡ s.inv
  mid-inv = ap (λ (u : Seat). u.inv) now-same ∙ g.same.inv ∙ ap (λ (u : Seat). u.inv) seat-same

  pub mid-count : t.count ≡ s.count + b
  mid-count = ap (λ (u : Seat). u.count) now-same ∙ g.counted ∙ ap (λ (u : Seat). u.count + b) seat-same

  pub number-old : invocation_in old.contexts c ≡ s.inv
  number-old = ap number_at (one d old c keeps is_ready).is

  pub number-mid : invocation_in mid.contexts c ≡ t.inv
  number-mid = ap number_at (one d mid c g.order.keeps ready-mid).is

  pub alone-old : IsAlone old.contexts s.inv c
  alone-old = alone-seat (held_at old.handlers.programs) (reading d old.log.all) old.contexts c keeps.fits (one d old c keeps is_ready)

  pub above-old : 0 < s.inv
  above-old = live-above d old s.inv keeps (ap is_live (one-ready d old c keeps is_ready))

  -- its count, as the pace has it
  pub count-old : (p : Pace) → IsPace (reading d old.log.all) old.contexts p → s.count ≡ p.counts s.inv
  count-old p pace = pace.counts c s (one d old c keeps is_ready).is (ap is_started (one-ready d old c keeps is_ready))

  abbrev pub later : At
  later = record (at old.contexts c) { seat = Some g.now }

  pub owed-mid : owes mid.contexts ≡ owes old.contexts
  owed-mid = let h = over_all-becomes owed old.contexts mid.contexts c later small g.becomes in let e : owed later ≡ owed (at old.contexts c) = refl in omega arith

  pub left-mid : starts_left mid.contexts ≡ starts_left old.contexts
  left-mid = let h = over_all-becomes may_start old.contexts mid.contexts c later small g.becomes in let e : may_start later ≡ may_start (at old.contexts c) = refl in omega arith

  -- with the new count, the second sum is less by as many instructions
  pub falls-mid : falls (most d) mid.contexts + b ≡ falls (most d) old.contexts
  falls-mid =
      let h = over_all-becomes (left (most d)) old.contexts mid.contexts c later small g.becomes in
      let set = (one d old c keeps is_ready).seated.x.locks in
      let before : left (most d) (at old.contexts c) ≡ 0 + (most d + 1 - s.count) = ap (left (most d)) (stood d old c keeps is_ready) in
      let after : left (most d) later ≡ 0 + (most d + 1 - g.now.count) = ap (λ (a : At). left (most d) (record a { seat = Some g.now })) (stood d old c keeps is_ready) in
      let few = one-few d mid c g.order.keeps ready-mid in
      let count = mid-count in
      let now = ap (λ (u : Seat). u.count) now-same in
      omega arith

  all-same : mid.log.all ≡ old.log.all
  all-same = ap (λ (v : OpenView). v.all) g.log

  pub held-mid : AllHeldBack (machine_in d) (reading d mid.log.all)
  held-mid = let P : Log → Type 0 = λ l. AllHeldBack (machine_in d) (reading d l) in subst P (sym all-same) rests.held

  -- ---- the turn ends short of the mark

  pub TakesTurn-short : (at_ : Stamp) (ran : ℕ) → ran ≡ b → IsTimely at_ old.log.all → 0 < b → TakesTurn d old mid at_ c b ran
  TakesTurn-short at_ ran ran_is timely some = record {
    invocation = s.inv;
    number = number-old;
    told = [];
    rests = record { order = g.order; held = held-mid };
    grows = (let P : Log → Type 0 = λ l. Grows old.log.all l at_ [] in subst P (sym all-same) (Grows-none old.log.all at_ timely));
    turn = λ p pace. (turn p pace, (let count = count-old p pace in let lower = below in omega arith), pace-now p pace);
    within = one-within d old c keeps is_ready;
    owed = (let e = owed-mid in omega arith);
    falls_by = (let e = falls-mid in omega arith);
    handlers = g.handlers;
    posts = g.posts;
  } where
    mark : ℕ
    mark = mark_of (machine_in d) (reading d old.log.all) s.inv

    below : s.count + b < mark_of (machine_in d) (reading d old.log.all) s.inv
    below =
        let h = one-below d mid c g.order.keeps ready-mid in
        let P : Log → Type 0 = λ l. t.count < mark_of (machine_in d) (reading d l) t.inv in
        let Q : ℕ → Type 0 = λ k. t.count < mark_of (machine_in d) (reading d old.log.all) k in
        let count = mid-count in
        let lower = subst Q mid-inv (subst P all-same h) in
        omega arith

    turn : (p : Pace) → IsPace (reading d old.log.all) old.contexts p → IsTurn (machine_in d) (reading d old.log.all) p b record { invocation = s.inv; told = [] }
    turn p pace = record {
      ready = one-ready d old c keeps is_ready;
      short = λ _. refl;
      reached = λ above. absurd (let count = count-old p pace in let lower = below in omega arith);
    }

    pace-now : (p : Pace) → IsPace (reading d old.log.all) old.contexts p → IsPace (reading d mid.log.all) mid.contexts (after_step (machine_in d) (reading d old.log.all) p b record { invocation = s.inv; told = [] })
    pace-now p pace =
        let count = count-old p pace in
        let lower = below in
        let is : s.count + b ≡ min (p.counts s.inv + b) (mark_of (machine_in d) (reading d old.log.all) s.inv) = omega arith in
        let P : ℕ → Type 0 = λ k. IsPace (reading d mid.log.all) mid.contexts record { line = p.line; counts = changed p.counts s.inv k } in
        subst P is
        (pace-stays (reading d old.log.all) (reading d mid.log.all) old.contexts mid.contexts c later s.inv (s.count + b) alone-old number-old above-old g.becomes
        (λ j other. ap (λ (l : Log). (reading d l).invocations j) all-same)
        (λ u e. (let f : g.now ≡ u = (let h : Some g.now ≡ Some u = e in cc) in
        (ap (λ (x : Seat). x.inv) (sym f) ∙ ap (λ (x : Seat). x.inv) (sym now-same) ∙ mid-inv, ap (λ (x : Seat). x.count) (sym f) ∙ ap (λ (x : Seat). x.count) (sym now-same) ∙ mid-count)))
        g.ring (ap (λ (x : Seat). x.inv) (sym now-same) ∙ mid-inv) p pace)

  -- ---- it asks or is over

  module _ (k ran : ℕ) (few : b < k) (ran_is : ran ≡ b + 1) (contexts after : Contexts) (heap : Store) (log : OpenView) (at_ : Stamp) (how : StepEnd) (ex : Executes (held_at mid.handlers.programs) mid.contexts mid.heap c how contexts heap) (e : End)
      (status : (own_after how ex.now.machine (going_in ((reading d mid.log.all).invocations t.inv) t)).status ≡ Over e) (counts : (own_after how ex.now.machine (going_in ((reading d mid.log.all).invocations t.inv) t)).count ≡ t.count + 1)
      (told : JournalEntry) (a : At) (becomes : Becomes mid.contexts after c a) (ring : after.ring ≡ without mid.contexts.ring c) (here : (u : Seat) → a.seat ≡ Some u → u ≡ ex.now)
      (owed-here : owed a ≡ 0) (start-here : may_start a ≡ 0) (left-here : left (most d) a ≡ 0)
      (paced-is : (p : Pace) → paced p told ≡ record p { line = others p.line t.inv }) (told-is : told ≡ entry_at t.inv e)
      (kept : (j : ℕ) → j ≢ t.inv → (next_state (machine_in d) (reading d mid.log.all) told).invocations j ≡ (reading d mid.log.all).invocations j)
      (entry_ : Entry) (continues : Continues d mid (record mid { contexts = after; heap = heap; log = log }) mid.log.all at_ entry_ told) (room : mid.log.all.spare ≤ log.all.spare + 1)
      (order-new : KeepsOrder d (record mid { contexts = after; heap = heap; log = log })) where
    abbrev pub new : Parts
    new = record mid { contexts = after; heap = heap; log = log }

    abbrev q : NodeState
    q = reading d old.log.all

    becomes-old : Becomes old.contexts after c a
    becomes-old = record { here = becomes.here; others = λ j other. becomes.others j other ∙ g.becomes.others j other; seats = becomes.seats ∙ g.becomes.seats }

    heard-mid : reading d log.all ≡ next_state (machine_in d) (reading d mid.log.all) told
    heard-mid = heard-by d mid new mid.log.all at_ entry_ told g.order continues room

    heard-old : reading d log.all ≡ next_state (machine_in d) (reading d old.log.all) told
    heard-old = let P : Log → Type 0 = λ l. reading d log.all ≡ next_state (machine_in d) (reading d l) told in subst P all-same heard-mid

    mark-old : mark_of (machine_in d) (reading d old.log.all) s.inv ≡ s.count + b + 1
    mark-old =
        let m = mark-is d mid contexts heap c how g.order.keeps ready-mid ex e status counts in
        let P : Log → Type 0 = λ l. mark_of (machine_in d) (reading d l) t.inv ≡ t.count + 1 in
        let Q : ℕ → Type 0 = λ j. mark_of (machine_in d) (reading d old.log.all) j ≡ t.count + 1 in
        subst Q mid-inv (subst P all-same m) ∙ ap (λ (n : ℕ). n + 1) mid-count

    entry-is : told ≡ entry_at s.inv (whole_run (machine_in d) (reading d old.log.all) s.inv).end
    entry-is =
        let m = end-is d mid contexts heap c how g.order.keeps ready-mid ex e status counts in
        let P : Log → Type 0 = λ l. (whole_run (machine_in d) (reading d l) t.inv).end ≡ e in
        let Q : ℕ → Type 0 = λ j. told ≡ entry_at j (whole_run (machine_in d) (reading d old.log.all) j).end in
        subst Q mid-inv (told-is ∙ ap (entry_at t.inv) (sym (subst P all-same m)))

    kept-old : (j : ℕ) → j ≢ s.inv → (reading d log.all).invocations j ≡ (reading d old.log.all).invocations j
    kept-old j other =
        ap (λ (r : NodeState). r.invocations j) heard-mid ∙ kept j (λ same. other (same ∙ mid-inv)) ∙ ap (λ (l : Log). (reading d l).invocations j) all-same

    pace-new : (p : Pace) → IsPace (reading d old.log.all) old.contexts p → (mark_of (machine_in d) (reading d old.log.all) s.inv ≤ p.counts s.inv + k)
        × (p.counts s.inv + ran ≡ mark_of (machine_in d) (reading d old.log.all) s.inv)
        × IsPace (reading d log.all) after (paced_all (record p { counts = changed p.counts s.inv (min (p.counts s.inv + k) (mark_of (machine_in d) (reading d old.log.all) s.inv)) }) (told ∷ []))
    pace-new p pace =
        let count = count-old p pace in
        let mark = mark-old in
        let is : s.count + b + 1 ≡ min (p.counts s.inv + k) (mark_of (machine_in d) (reading d old.log.all) s.inv) = omega arith in
        let P : ℕ → Type 0 = λ n. IsPace (reading d log.all) after record { line = others p.line s.inv; counts = changed p.counts s.inv n } in
        let Q : Pace → Type 0 = λ x. IsPace (reading d log.all) after x in
        let R : ℕ → Type 0 = λ n. paced (record p { counts = changed p.counts s.inv (min (p.counts s.inv + k) (mark_of (machine_in d) (reading d old.log.all) s.inv)) }) told ≡
        record { line = others p.line n; counts = changed p.counts s.inv (min (p.counts s.inv + k) (mark_of (machine_in d) (reading d old.log.all) s.inv)) } in (
          omega arith,
          omega arith,
          subst Q (sym (subst R mid-inv (paced-is (record p { counts = changed p.counts s.inv (min (p.counts s.inv + k) (mark_of (machine_in d) (reading d old.log.all) s.inv)) }))))
              (subst P is
              (pace-leaves (reading d old.log.all) (reading d log.all) old.contexts after c a s.inv (s.count + b + 1) alone-old number-old above-old becomes-old kept-old
              (λ u f. (let same = here u f in
              let n = now-count d mid contexts heap c how g.order.keeps ready-mid ex e in
              let v = now-inv d mid contexts heap c how g.order.keeps ready-mid ex e in
              (ap (λ (x : Seat). x.inv) same ∙ v ∙ mid-inv, ap (λ (x : Seat). x.count) same ∙ n ∙ ap (λ (x : ℕ). x + 1) mid-count)))
              (ring ∙ ap (λ (l : List ContextId). without l c) g.ring) p pace)),
        )

    pub HasMoved-from : HasMoved d old new at_ c k ran told
    HasMoved-from = record {
      invocation = s.inv;
      number = number-old;
      was = one-ready d old c keeps is_ready;
      order = order-new;
      grows = (let P : Log → Type 0 = λ l. Grows l log.all at_ (told ∷ []) in subst P all-same (grows-by d mid new mid.log.all at_ entry_ told g.order continues room));
      heard_is = heard-old;
      told_is = entry-is;
      pace = pace-new;
      owed =
          (let h = over_all-becomes owed mid.contexts after c a small becomes in
          let before : owed (at mid.contexts c) ≡ 1 = ap owed (stood d mid c g.order.keeps ready-mid) in
          let same = owed-mid in
          let none = owed-here in
          omega arith);
      left_is =
          (let h = over_all-becomes may_start mid.contexts after c a small becomes in
          let before : may_start (at mid.contexts c) ≡ 0 = ap may_start (stood d mid c g.order.keeps ready-mid) in
          let same = left-mid in
          let none = start-here in
          omega arith);
      falls_by =
          (let h = over_all-becomes (left (most d)) mid.contexts after c a small becomes in
          let before : left (most d) (at mid.contexts c) ≡ 0 + (most d + 1 - t.count) = ap (left (most d)) (stood d mid c g.order.keeps ready-mid) in
          let lower = falls-mid in
          let none = left-here in
          let n = one-few d mid c g.order.keeps ready-mid in
          omega arith);
      handlers = g.handlers;
      posts = g.posts;
    }
