-- Starts, ends and eras: the heap goes on agreeing with the runs of the started invocations.
use Rattle.std.proofs.Common.{◌≡◌, ◌≢◌, ◌⊎◌, ℕ, ℤ, true, false, List, [], Some, None, refl, sym, ◌∙◌, ap, subst, inl, inr, map, length}
use Rattle.std.proofs.lemmas.Bool.{cases_eq, cases_Bool}
use Rattle.lock_manager.proofs.ClaimLemmas.{same_context}
use Rattle.mate_num.specs.Uses.{Uses, uses, ConflictsAt, IsCompatible}
use Rattle.mate_num.specs.declared.call.Call.{Call}
use Rattle.mate_num.specs.declared.id.ContextId.{ContextId}
use Rattle.mate_num.specs.declared.resource.Resource.{Resource}
use Rattle.mate_num.specs.declared.store.Store.{Store}
use Rattle.mate_code.specs.Cells.{read, Agree}
use Rattle.mate_code.specs.Effect.{Private}
use Rattle.mate_code.specs.Run.{Own, Run, Going, begun_run, after}
use Rattle.vm_shape.specs.declared.description.Description.{Description}
use Rattle.vm_shape.specs.Shapes.{shape_of}
use Rattle.mate_journal.specs.Journal.{Phase, Queued, Ready, is_started, in_phase, Invocation, NodeState, changed}
use Rattle.node_state.specs.declared.seat.Seat.{Seat}
use Rattle.node_state.specs.declared.contexts.Contexts.{Contexts}
use Rattle.node_state.specs.At.{At, at, Becomes, AreIdle}
use Rattle.mate_journal.specs.Journal.{answers_of}
use Rattle.node_state.specs.Agrees.{code_for, uses_for, own_run, own_in, IsFresh, RunsOwn, Agrees}
use Rattle.node_state.proofs.FitLemmas.{changed-here, changed-other, IsAlone}
use Rattle.node_state.proofs.AgreeLemmas.{Agree-back, Alters, Agree-altered, or-right, Sits, each-moves, RunsOwn-serial, RunsOwn-heap}

-- two compatible uses, the other way round
IsCompatible-back : (u w : Uses) → IsCompatible u w → IsCompatible w u
IsCompatible-back u w apart = record { apart = λ q at. by q at } where
  by : (q : Resource) → ConflictsAt w u q → ⊥
  by q (inl x) = apart.apart q (inr x)
  by q (inr y) = apart.apart q (inl y)

-- the heap has what the serial store has, wherever no started invocation writes what these uses touch
Agree-elsewhere : (d : Description) (r : NodeState) (contexts : Contexts) (heap : Store) (u : Uses) → Agrees d r contexts heap
    → ((m : ℕ) → is_started (r.invocations m).phase ≡ true → IsCompatible u (uses_for d (r.invocations m))) → Agree (uses u) r.serial heap
Agree-elsewhere d r contexts heap u agrees apart =
    record {
      as_long = record { shared = sym agrees.as_long.shared; buffers = sym agrees.as_long.buffers };
      same = λ q t. sym (agrees.elsewhere q (λ m started. by q t m started (cases_Bool ((uses_for d (r.invocations m)).writes q))));
    } where
      by : (q : Resource) → uses u q ≡ true → (m : ℕ) → is_started (r.invocations m).phase ≡ true → ((uses_for d (r.invocations m)).writes q ≡ true) ⊎ ((uses_for d (r.invocations m)).writes q ≡ false) → (uses_for d (r.invocations m)).writes q ≡ false
      by q t m started (inl writes) = absurd ((apart m started).apart q (inr (writes, t)))
      by q t m started (inr not) = not

-- ---- a start

module _ (d : Description) (r : NodeState) (old new : Contexts) (heap : Store) (n : ℕ) (c : ContextId) (a : At) (t : Seat)
    (agrees : Agrees d r old heap) (sits : Sits old new n c a t)
    (was : (at old c).seat ≡ Some t) (phase : (r.invocations n).phase ≡ Queued)
    (free : (m : ℕ) → is_started (r.invocations m).phase ≡ true → IsCompatible (uses_for d (r.invocations n)) (uses_for d (r.invocations m))) where
  abbrev i : Invocation
  i = in_phase Ready (r.invocations n)

  abbrev started : NodeState
  started = record r { invocations = changed r.invocations n i }

  not_itself : (m : ℕ) → is_started (r.invocations m).phase ≡ true → m ≢ n
  not_itself m yes_started e =
      let f : is_started (r.invocations m).phase ≡ false = ap (λ (k : ℕ). is_started (r.invocations k).phase) e ∙ ap is_started phase in
      cc

  fresh : IsFresh d (r.invocations n) t
  fresh =
      let N : ℕ → Type 0 = λ k. RunsOwn d (r.invocations k).phase (r.invocations k) t r.serial heap in
      let P : Phase → Type 0 = λ p. RunsOwn d p (r.invocations n) t r.serial heap in
      subst P phase (subst N sits.number (agrees.each c t was))

  runs : RunsOwn d Ready i t r.serial heap
  unfolding after
  runs =
      let f = fresh in
      let answers : answers_of i ≡ [] = ap (λ (cs : List Call). map (λ (call : Call). call.result) cs) f.calls in
      let R : ℕ → List ℤ → Run = λ k xs. after k (shape_of d) (code_for d i) (begun_run r.serial i.payload xs d.turns) in
      let e : own_run d i t.count r.serial ≡ R 0 [] = ap (λ (k : ℕ). R k (answers_of i)) f.count ∙ ap (λ (xs : List ℤ). R 0 xs) answers in
      let A : Run → Type 0 = λ x. Agree (uses (uses_for d i)) x.store heap in
      record {
        own = ap (λ (x : Run). x.own) e ∙ own_is f;
        stores = subst A (sym e) (Agree-elsewhere d r old heap (uses_for d (r.invocations n)) agrees free);
      } where
        own_is : IsFresh d (r.invocations n) t → (begun_run r.serial i.payload [] d.turns).own ≡ own_in i t
        own_is f =
            let o : Private → List Call → ℕ → Own = λ p cs n. record { own = p; left = []; calls = cs; count = n; status = Going } in
            ap (λ (p : Private). o p [] 0) (sym f.machine) ∙ ap (λ (cs : List Call). o t.machine cs 0) (sym f.calls) ∙ ap (λ (k : ℕ). o t.machine i.calls k) (sym f.count)

  here_or : (m : ℕ) → is_started (started.invocations m).phase ≡ true → (m ≡ n) ⊎ ((m ≢ n) × (is_started (r.invocations m).phase ≡ true))
  here_or m is =
      elim (cases_eq m n) [
        | inl e ↦ inl e
        | inr other ↦ inr (other, ap (λ (j : Invocation). is_started j.phase) (sym (changed-other r.invocations n i m other)) ∙ is)
      ]

  same_uses : (m : ℕ) → uses_for d (started.invocations m) ≡ uses_for d (r.invocations m)
  same_uses m =
      elim (cases_eq m n) [
        | inl e ↦ (ap (uses_for d) (changed-here r.invocations n i m e) ∙ ap (λ (k : ℕ). uses_for d (r.invocations k)) (sym e))
        | inr other ↦ ap (uses_for d) (changed-other r.invocations n i m other)
      ]

  apart-old : (j k : ℕ) → j ≢ k → (j ≡ n) ⊎ ((j ≢ n) × (is_started (r.invocations j).phase ≡ true)) → (k ≡ n) ⊎ ((k ≢ n) × (is_started (r.invocations k).phase ≡ true))
      → IsCompatible (uses_for d (r.invocations j)) (uses_for d (r.invocations k))
  apart-old j k other (inl e) (inl f) = absurd (other (e ∙ sym f))
  apart-old j k other (inl e) (inr y) = let P : ℕ → Type 0 = λ m. IsCompatible (uses_for d (r.invocations m)) (uses_for d (r.invocations k)) in subst P (sym e) (free k y.1)
  apart-old j k other (inr x) (inl f) =
      let P : ℕ → Type 0 = λ m. IsCompatible (uses_for d (r.invocations j)) (uses_for d (r.invocations m)) in
      subst P (sym f) (IsCompatible-back (uses_for d (r.invocations n)) (uses_for d (r.invocations j)) (free j x.1))
  apart-old j k other (inr x) (inr y) = agrees.apart j k other x.1 y.1

  pub Agrees-started : Agrees d started new heap
  Agrees-started =
      record {
        as_long = agrees.as_long;
        each = each-moves d r old new heap heap n i c a t agrees sits runs (λ m other is. record { as_long = record { shared = refl; buffers = refl }; same = λ q u. refl });
        apart = λ j k other js ks.
            (let P : Uses → Type 0 = λ u. IsCompatible u (uses_for d (started.invocations k)) in
            let Q : Uses → Type 0 = λ u. IsCompatible (uses_for d (r.invocations j)) u in
            subst P (sym (same_uses j)) (subst Q (sym (same_uses k)) (apart-old j k other (here_or j js) (here_or k ks))));
        elsewhere = λ q unwritten. agrees.elsewhere q (λ m is.
            (let other = not_itself m is in
            let e = changed-other r.invocations n i m other in
            ap (λ (u : Uses). u.writes q) (sym (same_uses m)) ∙ unwritten m (ap (λ (j : Invocation). is_started j.phase) e ∙ is)));
      }

-- ---- a post

module _ (d : Description) (r : NodeState) (old new : Contexts) (heap : Store) (n : ℕ) (i : Invocation) (c : ContextId) (a : At) (t : Seat)
    (agrees : Agrees d r old heap) (sits : Sits old new n c a t)
    (phase : i.phase ≡ Queued) (dead : is_started (r.invocations n).phase ≡ false) (fresh-now : IsFresh d i t) where
  abbrev posted : NodeState
  posted = record r { posts = n; invocations = changed r.invocations n i }

  was-started : (m : ℕ) → is_started (posted.invocations m).phase ≡ true → (m ≢ n) × (is_started (r.invocations m).phase ≡ true)
  was-started m is =
      elim (cases_eq m n) [
        | inl e ↦ absurd (let f : is_started (posted.invocations m).phase ≡ false = ap (λ (j : Invocation). is_started j.phase) (changed-here r.invocations n i m e) ∙ ap is_started phase in cc)
        | inr other ↦ (other, ap (λ (j : Invocation). is_started j.phase) (sym (changed-other r.invocations n i m other)) ∙ is)
      ]

  queued-now : RunsOwn d i.phase i t r.serial heap
  queued-now = let P : Phase → Type 0 = λ p. RunsOwn d p i t r.serial heap in subst P (sym phase) fresh-now

  uses-other : (m : ℕ) → m ≢ n → uses_for d (posted.invocations m) ≡ uses_for d (r.invocations m)
  uses-other m other = ap (uses_for d) (changed-other r.invocations n i m other)

  pub Agrees-posted : Agrees d posted new heap
  Agrees-posted =
      record {
        as_long = agrees.as_long;
        each = each-moves d r old new heap heap n i c a t agrees sits queued-now (λ m other is. record { as_long = record { shared = refl; buffers = refl }; same = λ q u. refl });
        apart = λ j k other js ks.
            (let x = was-started j js in let y = was-started k ks in
            let P : Uses → Type 0 = λ u. IsCompatible u (uses_for d (posted.invocations k)) in
            let Q : Uses → Type 0 = λ u. IsCompatible (uses_for d (r.invocations j)) u in
            subst P (sym (uses-other j x.0)) (subst Q (sym (uses-other k y.0)) (agrees.apart j k other x.1 y.1)));
        elsewhere = λ q unwritten. agrees.elsewhere q (λ m is. by q unwritten m is (cases_eq m n));
      } where
        by : (q : Resource) → ((m : ℕ) → is_started (posted.invocations m).phase ≡ true → (uses_for d (posted.invocations m)).writes q ≡ false)
            → (m : ℕ) → is_started (r.invocations m).phase ≡ true → (m ≡ n) ⊎ (m ≡ n → ⊥) → (uses_for d (r.invocations m)).writes q ≡ false
        by q unwritten m is (inl e) = absurd (let f : is_started (r.invocations m).phase ≡ false = ap (λ (k : ℕ). is_started (r.invocations k).phase) e ∙ dead in cc)
        by q unwritten m is (inr other) =
            ap (λ (u : Uses). u.writes q) (sym (uses-other m other))
            ∙ unwritten m (ap (λ (j : Invocation). is_started j.phase) (changed-other r.invocations n i m other) ∙ is)

-- ---- an end

module _ (d : Description) (r : NodeState) (old new : Contexts) (heap later serial : Store) (n : ℕ) (i : Invocation) (c : ContextId) (a : At)
    (agrees : Agrees d r old heap) (becomes : Becomes old new c a) (gone : a.seat ≡ None) (alone : IsAlone old n c)
    (was : is_started (r.invocations n).phase ≡ true) (dead : is_started i.phase ≡ false)
    (seen : Agree (uses (uses_for d (r.invocations n))) serial later) (executed : Alters (uses_for d (r.invocations n)) heap later) (alters : Alters (uses_for d (r.invocations n)) r.serial serial) where
  abbrev ended : NodeState
  ended = record r { serial = serial; invocations = changed r.invocations n i }

  still : (m : ℕ) → is_started (ended.invocations m).phase ≡ true → (m ≢ n) × (is_started (r.invocations m).phase ≡ true)
  still m is =
      elim (cases_eq m n) [
        | inl e ↦ absurd (let f : is_started (ended.invocations m).phase ≡ false = ap (λ (j : Invocation). is_started j.phase) (changed-here r.invocations n i m e) ∙ dead in cc)
        | inr other ↦ (other, ap (λ (j : Invocation). is_started j.phase) (sym (changed-other r.invocations n i m other)) ∙ is)
      ]

  uses-still : (m : ℕ) → m ≢ n → uses_for d (ended.invocations m) ≡ uses_for d (r.invocations m)
  uses-still m other = ap (uses_for d) (changed-other r.invocations n i m other)

  -- those that are left see the same of both serial stores
  same_serial : (m : ℕ) → m ≢ n → is_started (r.invocations m).phase ≡ true → Agree (uses (uses_for d (r.invocations m))) serial r.serial
  same_serial m other is =
      Agree-back (uses (uses_for d (r.invocations m))) r.serial serial
      (Agree-altered (uses_for d (r.invocations m)) (uses_for d (r.invocations n)) r.serial serial (agrees.apart m n other is was) alters)

  -- and of both heaps
  same_heap : (m : ℕ) → m ≢ n → is_started (r.invocations m).phase ≡ true → Agree (uses (uses_for d (r.invocations m))) heap later
  same_heap m other is = Agree-altered (uses_for d (r.invocations m)) (uses_for d (r.invocations n)) heap later (agrees.apart m n other is was) executed

  each-left : (k : ContextId) (s : Seat) → (at new k).seat ≡ Some s → RunsOwn d (ended.invocations s.inv).phase (ended.invocations s.inv) s serial later
  each-left k s e = by (cases_eq k.0 c.0) where
    by : (k.0 ≡ c.0) ⊎ (k.0 ≡ c.0 → ⊥) → RunsOwn d (ended.invocations s.inv).phase (ended.invocations s.inv) s serial later
    by (inl same) =
        let C : ContextId → Type 0 = λ j. (at new j).seat ≡ Some s in
        let at_c : (at new c).seat ≡ Some s = subst C (same_context k c same) e in
        absurd (let f : None ≡ Some s = sym gone ∙ ap (λ (b : At). b.seat) (sym becomes.here) ∙ at_c in cc)
    by (inr other) =
        let stood : (at old k).seat ≡ Some s = ap (λ (b : At). b.seat) (sym (becomes.others k other)) ∙ e in
        let apart = alone.elsewhere k s other stood in
        let Q : Invocation → Type 0 = λ j. RunsOwn d j.phase j s serial later in
        subst Q (sym (changed-other r.invocations n i s.inv apart))
        (RunsOwn-serial (r.invocations s.inv).phase d (r.invocations s.inv) s r.serial serial later
        (RunsOwn-heap (r.invocations s.inv).phase d (r.invocations s.inv) s r.serial heap later (agrees.each k s stood) (same_heap s.inv apart)) (same_serial s.inv apart))

  left : (q : Resource) → ((m : ℕ) → is_started (ended.invocations m).phase ≡ true → (uses_for d (ended.invocations m)).writes q ≡ false) → read later q ≡ read serial q
  left q unwritten = by (cases_Bool ((uses_for d (r.invocations n)).writes q)) where
    others : (m : ℕ) → m ≢ n → is_started (r.invocations m).phase ≡ true → (uses_for d (r.invocations m)).writes q ≡ false
    others m other is =
        ap (λ (u : Uses). u.writes q) (sym (uses-still m other))
        ∙ unwritten m (ap (λ (j : Invocation). is_started j.phase) (changed-other r.invocations n i m other) ∙ is)

    unless : (uses_for d (r.invocations n)).writes q ≡ false → (m : ℕ) → is_started (r.invocations m).phase ≡ true → (m ≡ n) ⊎ (m ≡ n → ⊥) → (uses_for d (r.invocations m)).writes q ≡ false
    unless not m is (inl e) = ap (λ (k : ℕ). (uses_for d (r.invocations k)).writes q) e ∙ not
    unless not m is (inr other) = others m other is

    by : ((uses_for d (r.invocations n)).writes q ≡ true) ⊎ ((uses_for d (r.invocations n)).writes q ≡ false) → read later q ≡ read serial q
    by (inl writes) = sym (seen.same q (or-right ((uses_for d (r.invocations n)).reads q) ((uses_for d (r.invocations n)).writes q) writes))
    by (inr not) = executed.others q not ∙ agrees.elsewhere q (λ m is. unless not m is (cases_eq m n)) ∙ sym (alters.others q not)

  pub Agrees-ended : Agrees d ended new later
  Agrees-ended =
      record {
        as_long = record { shared = sym seen.as_long.shared; buffers = sym seen.as_long.buffers };
        each = each-left;
        apart = λ j k other js ks.
            (let x = still j js in let y = still k ks in
            let P : Uses → Type 0 = λ u. IsCompatible u (uses_for d (ended.invocations k)) in
            let Q : Uses → Type 0 = λ u. IsCompatible (uses_for d (r.invocations j)) u in
            subst P (sym (uses-still j x.0)) (subst Q (sym (uses-still k y.0)) (agrees.apart j k other x.1 y.1)));
        elsewhere = left;
      }

-- ---- the beginning of an era

pub Agrees-idle : (d : Description) (r : NodeState) (new : Contexts) (heap : Store) → AreIdle new → heap ≡ r.serial → ((n : ℕ) → is_started (r.invocations n).phase ≡ false) → Agrees d r new heap
Agrees-idle d r new heap idles same dead =
    record {
      as_long = record { shared = ap (λ (s : Store). length s.shared.items) same; buffers = ap (λ (s : Store). length s.buffers.items) same };
      each = λ c s e. absurd (let g : None ≡ Some s = ap (λ (a : At). a.seat) (sym (idles.each c)) ∙ e in cc);
      apart = λ j k other js ks. absurd (let e = dead j in cc);
      elsewhere = λ q unwritten. ap (λ (s : Store). read s q) same;
    }
