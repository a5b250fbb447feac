-- Two runs of a world that go on as long are the same.
use Rattle.std.proofs.Common.{◌≡◌, ◌≢◌, ℕ, ◌<◌, List, [], ◌∷◌, ◌++◌, map, length, refl, sym, ◌∙◌, ap, subst, inl, inr, arith, append_assoc}
use Rattle.std.proofs.lemmas.Bool.Decides.{eqb_tells, leb_tells}
use Rattle.std.proofs.lemmas.List.{map-append}
use Rattle.mate_num.specs.declared.call.Stamp.{Stamp}
use Rattle.mate_journal.specs.Journal.{JournalEntry, NodeState, first_state, state_after_entries, untimed}
use Rattle.mate_journal.specs.Journal.{TimedEntry as Entered}
use Rattle.mate_journal.specs.Pace.{Pace}
use Rattle.mate_journal.specs.NodeScript.{RunEnd, Whole, Full, Cut}
use Rattle.world_rules.specs.Cause.{Cause}
use Rattle.world_rules.specs.World.{World}
use Rattle.world_rules.specs.Effect.{Node, node_effect, event_node}
use Rattle.world_rules.specs.State.{Moment, WorldState, state}
use Rattle.world_rules.specs.Run.{IsNext, MayCome, HaveCome, IsAtEnd, stamp_of, journal}
use Rattle.report_laws.specs.Ending.{EndsByItself}
use Rattle.world_laws.proofs.Journals.{reads_journals, journal-here, journal-other}
use Rattle.report_laws.proofs.Rules.{KeepsRules, start_after, keeps-back, BeginsOtherwise}
use Rattle.mate_journal.proofs.JournalLemmas.{heard_all-told}
use Rattle.report_laws.specs.OneReport.{EventsAreOfNodes}
use Rattle.report_laws.proofs.OneEvent.{EventMakes, event-other, event-once}

-- ---- what a node told

-- entries of one event tell what was told
pub told-stamped : (at : Stamp) (told : List JournalEntry) → untimed (map (λ (t : JournalEntry). let e : Entered = record { stamp = at; told = t } in e) told) ≡ told
told-stamped at [] = refl
told-stamped at (t ∷ told) = ap (λ (ts : List JournalEntry). t ∷ ts) (told-stamped at told)

abbrev tells : World → ℕ → List Moment → List JournalEntry
tells w k ms = untimed (journal w k ms)

tells-other : (w : World) (k : ℕ) (m : Moment) (before : List Moment) → k ≢ event_node w m.cause → tells w k (m ∷ before) ≡ tells w k before
tells-other w k m before other = ap untimed (journal-other w k m before other)

tells-own : (w : World) (m : Moment) (before : List Moment) → tells w (event_node w m.cause) (m ∷ before) ≡ tells w (event_node w m.cause) before ++ m.told
tells-own w m before =
    let node = event_node w m.cause in
    ap untimed (journal-here w m before)
    ∙ map-append (λ (e : Entered). e.told) (journal w node before) (map (λ (t : JournalEntry). record { stamp = stamp_of m before; told = t }) m.told)
    ∙ ap (λ (ts : List JournalEntry). tells w node before ++ ts) (told-stamped (stamp_of m before) m.told)

-- a node's reading is what it told
pub reads-told : (w : World) (k : ℕ) (ms : List Moment) → ((state w ms).nodes k).reading ≡ state_after_entries w.machine (first_state w.machine) (untimed (journal w k ms))
reads-told w k ms = reads_journals w k ms ∙ heard_all-told w.machine (first_state w.machine) (journal w k ms)

-- ---- the rules of each node's journal

-- the node's entries, with those that follow them, keep the rules
pub record IsKept (w : World) (ms : List Moment) (k : ℕ) : Type 0 where
  pub rest : List JournalEntry
  pub keeps : KeepsRules w.machine (first_state w.machine) 0 (untimed (journal w k ms) ++ rest)
  pub other : BeginsOtherwise rest

abbrev pub AreKept : World → List Moment → Type 0
AreKept w ms = (k : ℕ) → k < w.nodes → IsKept w ms k

-- these entries, with those that follow them, keep the rules on this node after these events
pub record KeepsHere (w : World) (before : List Moment) (k : ℕ) (told : List JournalEntry) : Type 0 where
  pub rest : List JournalEntry
  pub keeps : KeepsRules w.machine ((state w before).nodes k).reading (start_after 0 (untimed (journal w k before))) (told ++ rest)
  pub other : BeginsOtherwise rest

pub keeps-here : (w : World) (before : List Moment) (k : ℕ) (told rest : List JournalEntry) → KeepsRules w.machine (first_state w.machine) 0 (untimed (journal w k before) ++ (told ++ rest)) → BeginsOtherwise rest → KeepsHere w before k told
keeps-here w before k told rest keeps other = record {
  rest = rest;
  keeps = subst (λ (r : NodeState). KeepsRules w.machine r (start_after 0 (tells w k before)) (told ++ rest)) (sym (reads-told w k before)) (keeps-back w.machine (first_state w.machine) 0 (tells w k before) (told ++ rest) keeps);
  other = other;
}

event-keeps : (w : World) (m : Moment) (before : List Moment) → IsKept w (m ∷ before) (event_node w m.cause) → KeepsHere w before (event_node w m.cause) m.told
event-keeps w m before kept =
    let node = event_node w m.cause in
    keeps-here w before node m.told kept.rest
    (subst (KeepsRules w.machine (first_state w.machine) 0) (ap (λ (ts : List JournalEntry). ts ++ kept.rest) (tells-own w m before) ∙ append_assoc (tells w node before) m.told kept.rest) kept.keeps) kept.other

-- what the event of this cause makes
abbrev MadeBy : World → WorldState → Cause → List JournalEntry → Pace → Type 0
MadeBy w s c told q = EventMakes w.machine (node_effect w (s.nodes (event_node w c)) c).deed (s.nodes (event_node w c)).reading (s.nodes (event_node w c)).pace told q

made-by : (w : World) (s : WorldState) (m : Moment) → MayCome w s m → MadeBy w s m.cause m.told m.pace
made-by w s m may = may.makes

pub kept-before : (w : World) (m : Moment) (before : List Moment) → MayCome w (state w before) m → AreKept w (m ∷ before) → AreKept w before
kept-before w m before may kept k below = elim (eqb_tells k (event_node w m.cause)) [
  | inl same ↦ subst (IsKept w before) (sym same.1) (own (subst (IsKept w (m ∷ before)) same.1 (kept k below)))
  | inr apart ↦ let here = kept k below in record {
    rest = here.rest;
    keeps = subst (λ (ts : List JournalEntry). KeepsRules w.machine (first_state w.machine) 0 (ts ++ here.rest)) (tells-other w k m before apart.1) here.keeps;
    other = here.other;
  }
] where
  own : IsKept w (m ∷ before) (event_node w m.cause) → IsKept w before (event_node w m.cause)
  own here = record {
    rest = m.told ++ here.rest;
    keeps = subst (KeepsRules w.machine (first_state w.machine) 0) (ap (λ (ts : List JournalEntry). ts ++ here.rest) (tells-own w m before) ∙ append_assoc (tells w (event_node w m.cause) before) m.told here.rest) here.keeps;
    other = event-other w.machine (node_effect w ((state w before).nodes (event_node w m.cause)) m.cause).deed ((state w before).nodes (event_node w m.cause)).reading ((state w before).nodes (event_node w m.cause)).pace
        m.told m.pace here.rest (made-by w (state w before) m may) here.other;
  }

-- ---- one event

due-apart : (cs : List Cause) (c : Cause) (others : List Cause) → cs ≡ [] → cs ≡ c ∷ others → ⊥
due-apart cs c others none some = let h : [] ≡ c ∷ others = sym none ∙ some in cc

due-first : (cs : List Cause) (a b : Cause) (xs ys : List Cause) → cs ≡ a ∷ xs → cs ≡ b ∷ ys → a ≡ b
due-first cs a b xs ys is is' = let h : a ∷ xs ≡ b ∷ ys = sym is ∙ is' in cc

-- the next event is one
pub next-once : (s : WorldState) (t t' : ℕ) (c c' : Cause) → IsNext s t c → IsNext s t' c' → (t ≡ t') × (c ≡ c')
next-once s t t' c c' a b = (times, due-first (s.due t') c c' a.others b.others (subst (λ (x : ℕ). s.due x ≡ c ∷ a.others) times a.due) b.due) where
  times : t ≡ t'
  times = elim (leb_tells t t') [
    | inl x ↦ elim (leb_tells t' t) [
      | inl y ↦ let low = x.1 in let high = y.1 in omega (arith, low, high)
      | inr y ↦ absurd (due-apart (s.due t) c a.others (b.none_before t y.1) a.due)
    ]
    | inr x ↦ absurd (due-apart (s.due t') c' b.others (a.none_before t' x.1) b.due)
  ]

moment-same : (m n : Moment) → m.time ≡ n.time → m.cause ≡ n.cause → m.told ≡ n.told → m.pace ≡ n.pace → m ≡ n
moment-same m n time cause told pace =
    ap (λ (t : ℕ). let x : Moment = record { time = t; cause = m.cause; told = m.told; pace = m.pace } in x) time
    ∙ ap (λ (c : Cause). let x : Moment = record { time = n.time; cause = c; told = m.told; pace = m.pace } in x) cause
    ∙ ap (λ (ts : List JournalEntry). let x : Moment = record { time = n.time; cause = n.cause; told = ts; pace = m.pace } in x) told
    ∙ ap (λ (q : Pace). let x : Moment = record { time = n.time; cause = n.cause; told = n.told; pace = q } in x) pace

moment-once : (w : World) (before : List Moment) (m n : Moment) → MayCome w (state w before) m → MayCome w (state w before) n → KeepsHere w before (event_node w m.cause) m.told → KeepsHere w before (event_node w n.cause) n.told → m ≡ n
moment-once w before m n a b keeps keeps' =
    let next = next-once (state w before) m.time n.time m.cause n.cause a.next b.next in
    let made : MadeBy w (state w before) n.cause m.told m.pace = subst (λ (c : Cause). MadeBy w (state w before) c m.told m.pace) next.1 (made-by w (state w before) m a) in
    let here : KeepsHere w before (event_node w n.cause) m.told = subst (λ (c : Cause). KeepsHere w before (event_node w c) m.told) next.1 keeps in
    let node : Node = (state w before).nodes (event_node w n.cause) in
    let same = event-once w.machine (node_effect w node n.cause).deed node.reading node.pace (start_after 0 (untimed (journal w (event_node w n.cause) before)))
    m.told m.pace here.rest n.told n.pace keeps'.rest made (made-by w (state w before) n b) here.keeps keeps'.keeps here.other keeps'.other in
    moment-same m n next.0 next.1 same.0 same.1

-- ---- runs

pub moments-once : (w : World) → EventsAreOfNodes w → (ms ns : List Moment) → length ms ≡ length ns → HaveCome w ms → HaveCome w ns → AreKept w ms → AreKept w ns → ms ≡ ns
moments-once w nodes [] [] long come come' kept kept' = refl
moments-once w nodes [] (n ∷ ns) long come come' kept kept' = cc
moments-once w nodes (m ∷ ms) [] long come come' kept kept' = cc
moments-once w nodes (m ∷ ms) (n ∷ ns) long come come' kept kept' =
    let shorter : length ms ≡ length ns = cc in
    joined (moments-once w nodes ms ns shorter come.0 come'.0 (kept-before w m ms come.1 kept) (kept-before w n ns come'.1 kept')) where
      first : ms ≡ ns → m ≡ n
      first before = moment-once w ns m n (subst (λ (xs : List Moment). MayCome w (state w xs) m) before come.1) come'.1
          (subst (λ (xs : List Moment). KeepsHere w xs (event_node w m.cause) m.told) before (event-keeps w m ms (kept (event_node w m.cause) (nodes m ms come))))
          (event-keeps w n ns (kept' (event_node w n.cause) (nodes n ns come')))

      joined : ms ≡ ns → m ∷ ms ≡ n ∷ ns
      joined before = ap (λ (x : Moment). x ∷ ms) (first before) ∙ ap (λ (xs : List Moment). n ∷ xs) before

-- nothing comes after the end
stops : (w : World) (how : RunEnd) (s : WorldState) (m : Moment) → EndsByItself how → IsAtEnd w how s → MayCome w s m → ⊥
stops w Whole s m itself end may = due-apart (s.due m.time) m.cause may.next.others (end m.time may.in_time) may.next.due
stops w Full s m itself end may = let many = end.0 in let few = may.room in omega (arith, many, few)
stops w Cut s m itself end may = absurd itself

-- a run that has ended isn't shorter than another
pub not-shorter : (w : World) → EventsAreOfNodes w → (how : RunEnd) (ms ns : List Moment) → EndsByItself how → IsAtEnd w how (state w ms) → HaveCome w ms → HaveCome w ns → AreKept w ms → AreKept w ns → length ms < length ns → ⊥
not-shorter w nodes how ms [] itself end come come' kept kept' short = omega (arith, short)
not-shorter w nodes how ms (n ∷ ns) itself end come come' kept kept' short = elim (leb_tells (length ns) (length ms)) [
  | inl low ↦
      let more = low.1 in
      let long : length ms ≡ length ns = omega (arith, short, more) in
      let same : ms ≡ ns = moments-once w nodes ms ns long come come'.0 kept (kept-before w n ns come'.1 kept') in
      stops w how (state w ns) n itself (subst (λ (xs : List Moment). IsAtEnd w how (state w xs)) same end) come'.1
  | inr high ↦ not-shorter w nodes how ms ns itself end come come'.0 kept (kept-before w n ns come'.1 kept') high.1
]

pub run-once : (w : World) → EventsAreOfNodes w → (how how' : RunEnd) (ms ns : List Moment) → EndsByItself how → EndsByItself how' → IsAtEnd w how (state w ms) → IsAtEnd w how' (state w ns)
    → HaveCome w ms → HaveCome w ns → AreKept w ms → AreKept w ns → ms ≡ ns
run-once w nodes how how' ms ns itself itself' end end' come come' kept kept' = elim (leb_tells (length ms) (length ns)) [
  | inl low ↦ elim (leb_tells (length ns) (length ms)) [
    | inl high ↦ let a = low.1 in let b = high.1 in moments-once w nodes ms ns (omega (arith, a, b)) come come' kept kept'
    | inr less ↦ absurd (not-shorter w nodes how ms ns itself end come come' kept kept' less.1)
  ]
  | inr less ↦ absurd (not-shorter w nodes how' ns ms itself' end' come' come kept' kept less.1)
]

-- a run that is at its end ends in one way
pub ends-once : (w : World) (how how' : RunEnd) (s : WorldState) → EndsByItself how → EndsByItself how' → IsAtEnd w how s → IsAtEnd w how' s → how ≡ how'
ends-once w Whole Whole s itself itself' end end' = refl
ends-once w Whole Full s itself itself' end (many, time, cause, within, next) = absurd (due-apart (s.due time) cause next.others (end time within) next.due)
ends-once w Full Whole s itself itself' (many, time, cause, within, next) end' = absurd (due-apart (s.due time) cause next.others (end' time within) next.due)
ends-once w Full Full s itself itself' end end' = refl
ends-once w Cut how' s itself itself' end end' = absurd itself
ends-once w Whole Cut s itself itself' end end' = absurd itself'
ends-once w Full Cut s itself itself' end end' = absurd itself'
