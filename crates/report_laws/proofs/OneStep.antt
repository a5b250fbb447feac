-- What a step of a script makes is one list of entries.
use Rattle.std.proofs.Common.{◌≡◌, ℕ, suc, ◌+◌, ◌<◌, ◌≤◌, Bool, true, false, IsTrue, List, [], ◌∷◌, ◌++◌, Option, Some, None, All, refl, sym, ◌∙◌, ap, subst, inl, inr, ◌⊎◌, arith}
use Rattle.std.specs.Prelude.{ℤ, IsSome, IsNone}
use Rattle.std.proofs.lemmas.Bool.Decides.{leb_tells}
use Rattle.std.proofs.lemmas.Bool.{MatchBool-at_true, MatchBool-at_false}
use Rattle.arrayvec.specs.ArrayVec.{ArrayVec}
use Rattle.mate_num.specs.declared.id.HandlerId.{HandlerId}
use Rattle.mate_num.specs.declared.id.ContextId.{ContextId}
use Rattle.mate_num.specs.declared.store.Store.{Store}
use Rattle.mate_journal.specs.Machine.{Machine, HeldProgram}
use Rattle.mate_journal.specs.Journal.{JournalEntry, Posted, Dropped, Answered, Installed, Reset, Seen, Void, Phase, Ready, Waiting, is_live, NodeState, held, next_state}
use Rattle.mate_journal.specs.WellFormed.{IsIdle, IsBusy, IsWaiting}
use Rattle.mate_journal.specs.Pace.{Pace, paced_all}
use Rattle.mate_journal.specs.Stores.{IsShown}
use Rattle.mate_journal.specs.Turns.{ShowsReady, Turn, IsTurn, after_step, Settles, told_in, pace_after}
use Rattle.mate_journal.specs.NodeScript.{Step, Install, Post, StepIn, Run, Answer, Show, ResetNode, IsFirstIdle, DropsNoCode, DropsAllBusy, Posts, Occasion, Installs, IsNotNewer, IsReadyIn, TurnsIn, IsNotReady, AnswersCall, IsNotWaiting, ShowsOnce, Resets, Makes}
use Rattle.report_laws.proofs.Rules.{KeepsRules, BeginsOtherwise}
use Rattle.report_laws.proofs.OneEach.{HasOneEach}
use Rattle.report_laws.proofs.OneSeen.{seen-once}
use Rattle.report_laws.proofs.OneStart.{starts-once}
use Rattle.report_laws.proofs.OneTurn.{turn-other, turn-once, turns-other, turns-once}

-- ---- posts

none-some : {A : Type 0} (o : Option A) → IsNone o → IsSome o → ⊥
none-some None none some = cc
none-some (Some a) none some = cc

idle-once : (m : Machine) (r : NodeState) (h : HandlerId) (a b : ContextId) → IsFirstIdle m r h a → IsFirstIdle m r h b → a ≡ b
idle-once m r h a b first second = ap (λ (n : ℕ). let c : ContextId = record { 0 = n } in c) number where
  not-busy : (x y : ContextId) → IsFirstIdle m r h x → IsFirstIdle m r h y → x.0 < y.0 → ⊥
  not-busy x y is is' low = let busy = is'.lowest x is.context low in is.idle busy.invocation busy.live busy.context

  number : a.0 ≡ b.0
  number = elim (leb_tells a.0 b.0) [
    | inl t ↦ elim (leb_tells b.0 a.0) [
      | inl v ↦ let x = t.1 in let y = v.1 in omega (arith, x, y)
      | inr v ↦ absurd (not-busy a b first second v.1)
    ]
    | inr u ↦ absurd (not-busy b a second first u.1)
  ]

module _ (m : Machine) (r : NodeState) (last : ℕ) (h : HandlerId) (payload : ArrayVec ℤ) where
  busy-idle : (xs ys : List JournalEntry) → DropsAllBusy m r h xs → Posts m r h payload ys → ⊥
  busy-idle xs ys drops posts = let busy = drops.busy posts.context posts.first_idle.context in posts.first_idle.idle busy.invocation busy.live busy.context

  posts-once : (xs rest ys rest' : List JournalEntry) → Posts m r h payload xs → Posts m r h payload ys → KeepsRules m r last (xs ++ rest) → KeepsRules m r last (ys ++ rest') → BeginsOtherwise rest → BeginsOtherwise rest' → xs ≡ ys
  posts-once xs rest ys rest' a b keeps keeps' other other' =
      made-a ∙ ap (λ (ts : List JournalEntry). posted b.context ∷ ts)
      (starts-once m (next_state m r (posted b.context)) 0 a.starts rest b.starts rest' a.are_starts b.are_starts keeps-a.3 keeps-b.3 other other') ∙ sym b.made where
        posted : ContextId → JournalEntry
        posted c = Posted (suc r.posts) h c payload

        made-a : xs ≡ posted b.context ∷ a.starts
        made-a = a.made ∙ ap (λ (c : ContextId). posted c ∷ a.starts) (idle-once m r h a.context b.context a.first_idle b.first_idle)

        keeps-a : KeepsRules m r last (posted b.context ∷ (a.starts ++ rest))
        keeps-a = subst (λ (ts : List JournalEntry). KeepsRules m r last (ts ++ rest)) made-a keeps

        keeps-b : KeepsRules m r last (posted b.context ∷ (b.starts ++ rest'))
        keeps-b = subst (λ (ts : List JournalEntry). KeepsRules m r last (ts ++ rest')) b.made keeps'

  pub occasion-once : (xs rest ys rest' : List JournalEntry) → Occasion m r h payload xs → Occasion m r h payload ys → KeepsRules m r last (xs ++ rest) → KeepsRules m r last (ys ++ rest') → BeginsOtherwise rest → BeginsOtherwise rest' → xs ≡ ys
  occasion-once xs rest ys rest' (inl a) (inl b) keeps keeps' other other' = a.made ∙ sym b.made
  occasion-once xs rest ys rest' (inl a) (inr (inl b)) keeps keeps' other other' = absurd (none-some (r.installed h) a.no_code b.code)
  occasion-once xs rest ys rest' (inl a) (inr (inr b)) keeps keeps' other other' = absurd (none-some (r.installed h) a.no_code b.code)
  occasion-once xs rest ys rest' (inr (inl a)) (inl b) keeps keeps' other other' = absurd (none-some (r.installed h) b.no_code a.code)
  occasion-once xs rest ys rest' (inr (inl a)) (inr (inl b)) keeps keeps' other other' = a.made ∙ sym b.made
  occasion-once xs rest ys rest' (inr (inl a)) (inr (inr b)) keeps keeps' other other' = absurd (busy-idle xs ys a b)
  occasion-once xs rest ys rest' (inr (inr a)) (inl b) keeps keeps' other other' = absurd (none-some (r.installed h) b.no_code a.code)
  occasion-once xs rest ys rest' (inr (inr a)) (inr (inl b)) keeps keeps' other other' = absurd (busy-idle ys xs b a)
  occasion-once xs rest ys rest' (inr (inr a)) (inr (inr b)) keeps keeps' other other' = posts-once xs rest ys rest' a b keeps keeps' other other'

pub occasion-other : (m : Machine) (r : NodeState) (h : HandlerId) (payload : ArrayVec ℤ) (xs rest : List JournalEntry) → Occasion m r h payload xs → BeginsOtherwise rest → BeginsOtherwise (xs ++ rest)
occasion-other m r h payload xs rest (inl a) other = subst (λ (ts : List JournalEntry). BeginsOtherwise (ts ++ rest)) (sym a.made) (λ start. start)
occasion-other m r h payload xs rest (inr (inl a)) other = subst (λ (ts : List JournalEntry). BeginsOtherwise (ts ++ rest)) (sym a.made) (λ start. start)
occasion-other m r h payload xs rest (inr (inr a)) other = subst (λ (ts : List JournalEntry). BeginsOtherwise (ts ++ rest)) (sym a.made) (λ start. start)

module _ (m : Machine) (r : NodeState) (p : Pace) (last : ℕ) where
  -- ---- installs

  -- the store that is seen first is one
  first-seen : (a b : Store) (xs ys : List JournalEntry) → KeepsRules m r last (Seen a ∷ xs) → KeepsRules m r last (Seen b ∷ ys) → ShowsReady m r p a → ShowsReady m r p b → a ≡ b
  first-seen a b xs ys keeps keeps' shown shown' = seen-once m r p a b keeps.1 keeps'.1 shown shown'

  pub installs-once : (x : HeldProgram) (xs rest ys rest' : List JournalEntry) → Installs m r p x xs → Installs m r p x ys → KeepsRules m r last (xs ++ rest) → KeepsRules m r last (ys ++ rest') → BeginsOtherwise rest → BeginsOtherwise rest' → xs ≡ ys
  installs-once x xs rest ys rest' a b keeps keeps' other other' =
      a.made ∙ ap (λ (s : Store). Seen s ∷ Installed x ∷ a.rest) (first-seen a.seen b.seen (Installed x ∷ (a.rest ++ rest)) (Installed x ∷ (b.rest ++ rest')) keeps-a keeps-b a.shown b.shown)
      ∙ ap (λ (ts : List JournalEntry). Seen b.seen ∷ Installed x ∷ ts) (by (m.runs_once x.handler) refl) ∙ sym b.made where
        keeps-a : KeepsRules m r last (Seen a.seen ∷ Installed x ∷ (a.rest ++ rest))
        keeps-a = subst (λ (ts : List JournalEntry). KeepsRules m r last (ts ++ rest)) a.made keeps

        keeps-b : KeepsRules m r last (Seen b.seen ∷ Installed x ∷ (b.rest ++ rest'))
        keeps-b = subst (λ (ts : List JournalEntry). KeepsRules m r last (ts ++ rest')) b.made keeps'

        by : (once : Bool) → m.runs_once x.handler ≡ once → a.rest ≡ b.rest
        by true is = occasion-once m (next_state m r (Installed x)) 0 x.handler (record { items = [] }) a.rest rest b.rest rest' (MatchBool-at_true _ _ is a.follows) (MatchBool-at_true _ _ is b.follows) keeps-a.3.3 keeps-b.3.3 other other'
        by false is = MatchBool-at_false _ _ is a.follows ∙ sym (MatchBool-at_false _ _ is b.follows)

  install-once : (x : HeldProgram) (xs rest ys rest' : List JournalEntry) → Installs m r p x xs ⊎ IsNotNewer r x xs → Installs m r p x ys ⊎ IsNotNewer r x ys → KeepsRules m r last (xs ++ rest) → KeepsRules m r last (ys ++ rest')
      → BeginsOtherwise rest → BeginsOtherwise rest' → xs ≡ ys
  install-once x xs rest ys rest' (inl a) (inl b) keeps keeps' other other' = installs-once x xs rest ys rest' a b keeps keeps' other other'
  install-once x xs rest ys rest' (inl a) (inr b) keeps keeps' other other' = let newer = a.newer in let older = b.older in absurd (omega (arith, newer, older))
  install-once x xs rest ys rest' (inr a) (inl b) keeps keeps' other other' = let older = a.older in let newer = b.newer in absurd (omega (arith, newer, older))
  install-once x xs rest ys rest' (inr a) (inr b) keeps keeps' other other' = a.made ∙ sym b.made

  -- ---- turns and answers

  ready-once : HasOneEach r → (i j : ℕ) (c : ContextId) → (r.invocations i).phase ≡ Ready → (r.invocations j).phase ≡ Ready → (r.invocations i).context ≡ c → (r.invocations j).context ≡ c → i ≡ j
  ready-once each i j c ready ready' context context' =
      each.one i j (subst (λ (x : Phase). IsTrue (is_live x)) (sym ready) refl) (subst (λ (x : Phase). IsTrue (is_live x)) (sym ready') refl) (context ∙ sym context')

  turns-in-once : HasOneEach r → (c : ContextId) (n : ℕ) (xs : List JournalEntry) (q : Pace) (rest ys : List JournalEntry) (q' : Pace) (rest' : List JournalEntry) → TurnsIn m r p c n xs q → TurnsIn m r p c n ys q' → KeepsRules m r last (xs ++ rest) → KeepsRules m r last (ys ++ rest')
      → BeginsOtherwise rest → BeginsOtherwise rest' → (xs ≡ ys) × (q ≡ q')
  turns-in-once each c n xs q rest ys q' rest' a b keeps keeps' other other' =
      (same, a.then ∙ ap (λ (i : ℕ). after_step m r p n (record { invocation = i; told = xs })) who ∙ ap (λ (ts : List JournalEntry). after_step m r p n (record { invocation = b.invocation; told = ts })) same ∙ sym b.then) where
        who : a.invocation ≡ b.invocation
        who = ready-once each a.invocation b.invocation c a.turn.ready b.turn.ready a.context b.context

        turn-a : IsTurn m r p n record { invocation = b.invocation; told = xs }
        turn-a = subst (λ (i : ℕ). IsTurn m r p n record { invocation = i; told = xs }) who a.turn

        same : xs ≡ ys
        same = turn-once m r p n b.invocation last xs rest ys rest' turn-a b.turn keeps keeps' other other'

  answers-once : HasOneEach r → (c : ContextId) (value : ℤ) (xs ys : List JournalEntry) → AnswersCall r c value xs ⊎ IsNotWaiting r c xs → AnswersCall r c value ys ⊎ IsNotWaiting r c ys → xs ≡ ys
  answers-once each c value xs ys (inl a) (inl b) =
      a.made ∙ ap (λ (n : ℕ). Answered n value ∷ [])
      (each.one a.invocation b.invocation (subst (λ (x : Phase). IsTrue (is_live x)) (sym a.waits.waits) refl) (subst (λ (x : Phase). IsTrue (is_live x)) (sym b.waits.waits) refl) (a.context ∙ sym b.context))
      ∙ sym b.made
  answers-once each c value xs ys (inl a) (inr b) = absurd (b.none a.invocation a.waits a.context)
  answers-once each c value xs ys (inr a) (inl b) = absurd (a.none b.invocation b.waits b.context)
  answers-once each c value xs ys (inr a) (inr b) = a.made ∙ sym b.made

  -- ---- steps

  pace-once : (xs ys : List JournalEntry) (q q' : Pace) → xs ≡ ys → q ≡ paced_all p xs → q' ≡ paced_all p ys → (xs ≡ ys) × (q ≡ q')
  pace-once xs ys q q' same is is' = (same, is ∙ ap (paced_all p) same ∙ sym is')

  pub step-once : HasOneEach r → (step : Step) (xs : List JournalEntry) (q : Pace) (rest ys : List JournalEntry) (q' : Pace) (rest' : List JournalEntry) → Makes m r p step xs q → Makes m r p step ys q' → KeepsRules m r last (xs ++ rest) → KeepsRules m r last (ys ++ rest')
      → BeginsOtherwise rest → BeginsOtherwise rest' → (xs ≡ ys) × (q ≡ q')
  step-once each (Install x) xs q rest ys q' rest' a b keeps keeps' other other' = pace-once xs ys q q' (install-once x xs rest ys rest' a.0 b.0 keeps keeps' other other') a.1 b.1
  step-once each (Post h payload) xs q rest ys q' rest' a b keeps keeps' other other' = pace-once xs ys q q' (occasion-once m r last h payload xs rest ys rest' a.0 b.0 keeps keeps' other other') a.1 b.1
  step-once each (StepIn c n) xs q rest ys q' rest' (inl a) (inl b) keeps keeps' other other' = turns-in-once each c n xs q rest ys q' rest' a b keeps keeps' other other'
  step-once each (StepIn c n) xs q rest ys q' rest' (inl a) (inr b) keeps keeps' other other' = absurd (b.0.none (record { invocation = a.invocation; ready = a.turn.ready; context = a.context }))
  step-once each (StepIn c n) xs q rest ys q' rest' (inr a) (inl b) keeps keeps' other other' = absurd (a.0.none (record { invocation = b.invocation; ready = b.turn.ready; context = b.context }))
  step-once each (StepIn c n) xs q rest ys q' rest' (inr a) (inr b) keeps keeps' other other' = pace-once xs ys q q' (a.0.made ∙ sym b.0.made) a.1 b.1
  step-once each Run xs q rest ys q' rest' a b keeps keeps' other other' =
      let same = turns-once m r p last a.turns rest b.turns rest' a.are_turns b.are_turns (sym (ap (λ (x : Pace). x.line) a.then) ∙ a.empty) (sym (ap (λ (x : Pace). x.line) b.then) ∙ b.empty)
      (subst (λ (ts : List JournalEntry). KeepsRules m r last (ts ++ rest)) a.made keeps) (subst (λ (ts : List JournalEntry). KeepsRules m r last (ts ++ rest')) b.made keeps') other other' in
      (a.made ∙ ap told_in same ∙ sym b.made, a.then ∙ ap (pace_after m r p) same ∙ sym b.then)
  step-once each (Answer c value) xs q rest ys q' rest' a b keeps keeps' other other' = pace-once xs ys q q' (answers-once each c value xs ys a.0 b.0) a.1 b.1
  step-once each Show xs q rest ys q' rest' a b keeps keeps' other other' =
      pace-once xs ys q q' (a.0.made ∙ ap (λ (s : Store). Seen s ∷ []) (first-seen a.0.seen b.0.seen (rest) (rest') (subst (λ (ts : List JournalEntry). KeepsRules m r last (ts ++ rest)) a.0.made keeps)
      (subst (λ (ts : List JournalEntry). KeepsRules m r last (ts ++ rest')) b.0.made keeps') a.0.shown b.0.shown) ∙ sym b.0.made) a.1 b.1
  step-once each ResetNode xs q rest ys q' rest' a b keeps keeps' other other' =
      pace-once xs ys q q' (a.0.made ∙ ap (λ (s : Store). Seen s ∷ Reset ∷ []) (first-seen a.0.seen b.0.seen (Reset ∷ rest) (Reset ∷ rest') (subst (λ (ts : List JournalEntry). KeepsRules m r last (ts ++ rest)) a.0.made keeps)
      (subst (λ (ts : List JournalEntry). KeepsRules m r last (ts ++ rest')) b.0.made keeps') a.0.shown b.0.shown) ∙ sym b.0.made) a.1 b.1

  -- what a step makes begins with no start
  pub step-other : (step : Step) (xs : List JournalEntry) (q : Pace) (rest : List JournalEntry) → Makes m r p step xs q → BeginsOtherwise rest → BeginsOtherwise (xs ++ rest)
  step-other (Install x) xs q rest (inl a, paced) other = subst (λ (ts : List JournalEntry). BeginsOtherwise (ts ++ rest)) (sym a.made) (λ start. start)
  step-other (Install x) xs q rest (inr a, paced) other = subst (λ (ts : List JournalEntry). BeginsOtherwise (ts ++ rest)) (sym a.made) (λ start. start)
  step-other (Post h payload) xs q rest a other = occasion-other m r h payload xs rest a.0 other
  step-other (StepIn c n) xs q rest (inl a) other = turn-other m r p n a.invocation xs rest a.turn other
  step-other (StepIn c n) xs q rest (inr a) other = subst (λ (ts : List JournalEntry). BeginsOtherwise (ts ++ rest)) (sym a.0.made) (λ start. start)
  step-other Run xs q rest a other = subst (λ (ts : List JournalEntry). BeginsOtherwise (ts ++ rest)) (sym a.made) (turns-other m r p a.turns rest a.are_turns other)
  step-other (Answer c value) xs q rest (inl a, paced) other = subst (λ (ts : List JournalEntry). BeginsOtherwise (ts ++ rest)) (sym a.made) (λ start. start)
  step-other (Answer c value) xs q rest (inr a, paced) other = subst (λ (ts : List JournalEntry). BeginsOtherwise (ts ++ rest)) (sym a.made) (λ start. start)
  step-other Show xs q rest a other = subst (λ (ts : List JournalEntry). BeginsOtherwise (ts ++ rest)) (sym a.0.made) (λ start. start)
  step-other ResetNode xs q rest a other = subst (λ (ts : List JournalEntry). BeginsOtherwise (ts ++ rest)) (sym a.0.made) (λ start. start)
