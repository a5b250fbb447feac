-- What an event gives is what its entries tell.
use Rattle.std.proofs.Common.{◌≡◌, ◌+◌, ℕ, Bool, true, false, List, [], ◌∷◌, ◌++◌, map, Option, None, refl, sym, ◌∙◌, ap, subst, inl, inr}
use Rattle.std.specs.Prelude.{◌==◌, if◌then◌else◌, All, ℤ}
use Rattle.std.specs.List.{filter_map, cons_option}
use Rattle.std.proofs.lemmas.List.{map-append, append-nil}
use Rattle.std.proofs.lemmas.List.Elements.{All-head, All-tail, All-nil, All-cons, All-append, filter_map-append}
use Rattle.std.proofs.lemmas.Bool.{cases_Bool, cases_lt, MatchBool-at_true, MatchBool-at_false}
use Rattle.std.proofs.lemmas.Bool.Decides.{eqb_tells}
use Rattle.arrayvec.specs.ArrayVec.{ArrayVec}
use Rattle.mate_num.specs.declared.id.HandlerId.{HandlerId}
use Rattle.mate_num.specs.declared.id.FunId.{FunId}
use Rattle.mate_num.specs.declared.call.End.{End}
use Rattle.mate_num.specs.declared.call.End.TheVariants as end
use Rattle.mate_num.specs.declared.call.Stamp.{Stamp}
use Rattle.mate_journal.specs.Machine.{Machine, HeldProgram}
use Rattle.mate_journal.specs.Journal.{JournalEntry, Posted, Dropped, Started, Asked, Answered, Ended, Installed, Reset, Seen, Void, NodeState, next_state, state_after_entries, untimed, whole_run}
use Rattle.mate_journal.specs.Journal.{TimedEntry as Entered}
use Rattle.mate_journal.proofs.JournalLemmas.{told_by-at}
use Rattle.mate_journal.specs.Grants.{IsStart}
use Rattle.mate_journal.specs.Pace.{Pace, paced_all}
use Rattle.mate_journal.specs.NodeScript.{Occasion}
use Rattle.mate_journal.specs.Turns.{Turn, IsTurn, AreTurns, Settles, entry_at, mark_of, after_turn, told_in}
use Rattle.world_rules.specs.World.{World}
use Rattle.world_rules.specs.Effect.{Node, Deed, Nothing, Installing, Posting, Answering, Showing, Resetting, event_node}
use Rattle.world_rules.specs.State.{Moment, WorldState, asked_by, calls_in, node_at, effect_at, state}
use Rattle.world_rules.specs.Run.{Occasions, DeedMakes, stamp_of, journal}
use Rattle.world_laws.proofs.Points.{nodes-here, nodes-other}
use Rattle.world_laws.specs.Given.{Given, GivesOccasion, GivesInstall, SeesItsStore, given_in, given_by, EventsGiveTheirs, given_to, JournalsTellWhatCame, HasPayload, payload_given, PostsHaveTheirPayload, CalledAreTold}

-- ---- entries of turns

-- an entry that gives nothing
abbrev IsOwn : JournalEntry → Type 0
IsOwn t = given_in t ≡ None

start-own : (t : JournalEntry) → IsStart t → IsOwn t
start-own (Started n) a = refl
start-own _ a = absurd a

starts-own : (told : List JournalEntry) → All IsStart told → All IsOwn told
starts-own [] all = All-nil IsOwn
starts-own (t ∷ told) all = All-cons IsOwn t told (start-own t (All-head IsStart t told all)) (starts-own told (All-tail IsStart t told all))

mark-own : (n : ℕ) (e : End) → IsOwn (entry_at n e)
mark-own n end.Halt = refl
mark-own n _ = refl

own-made : (xs ys : List JournalEntry) → xs ≡ ys → All IsOwn ys → All IsOwn xs
own-made xs ys is own = subst (λ (told : List JournalEntry). All IsOwn told) (sym is) own

turn-own : (m : Machine) (r : NodeState) (p : Pace) (n : ℕ) (t : Turn) → IsTurn m r p n t → All IsOwn t.told
turn-own m r p n t is = elim (cases_lt (p.counts t.invocation + n) (mark_of m r t.invocation)) [
  | inl low ↦ own-made t.told [] (is.short low) (All-nil IsOwn)
  | inr high ↦ own-made t.told (entry_at t.invocation (whole_run m r t.invocation).end ∷ (is.reached high).starts) (is.reached high).told_is
      (All-cons IsOwn (entry_at t.invocation (whole_run m r t.invocation).end) (is.reached high).starts (mark-own t.invocation (whole_run m r t.invocation).end) (starts-own (is.reached high).starts (is.reached high).are_starts))
]

turns-own : (m : Machine) (r : NodeState) (p : Pace) (ts : List Turn) → AreTurns m r p ts → All IsOwn (told_in ts)
turns-own m r p [] are = All-nil IsOwn
turns-own m r p (t ∷ ts) are =
    All-append IsOwn t.told (told_in ts) (turn-own m r p m.quantum t are.1) (turns-own m (state_after_entries m r t.told) (after_turn m r p t) ts are.2)

settles-own : (m : Machine) (r : NodeState) (p : Pace) (told : List JournalEntry) (q : Pace) → Settles m r p told q → All IsOwn told
settles-own m r p told q is = own-made told (told_in is.turns) is.made (turns-own m r p is.turns is.are_turns)

own-gives : (told : List JournalEntry) → All IsOwn told → filter_map given_in told ≡ []
own-gives [] all = refl
own-gives (t ∷ told) all = ap (λ (o : Option Given). cons_option o (filter_map given_in told)) (All-head IsOwn t told all) ∙ own-gives told (All-tail IsOwn t told all)

-- ---- deeds

occasion-gives : (m : Machine) (r : NodeState) (h : HandlerId) (payload : ArrayVec ℤ) (told : List JournalEntry) → Occasion m r h payload told → filter_map given_in told ≡ GivesOccasion h ∷ []
occasion-gives m r h payload told (inl a) = ap (filter_map given_in) a.made
occasion-gives m r h payload told (inr (inl a)) = ap (filter_map given_in) a.made
occasion-gives m r h payload told (inr (inr a)) = ap (filter_map given_in) a.made ∙ ap (λ (gs : List Given). GivesOccasion h ∷ gs) (own-gives a.starts (starts-own a.starts a.are_starts))

occasions-give : (m : Machine) (payload : ArrayVec ℤ) (hs : List HandlerId) (r : NodeState) (p : Pace) (told : List JournalEntry) → Occasions m payload hs r p told → filter_map given_in told ≡ map GivesOccasion hs
occasions-give m payload [] r p told is = ap (filter_map given_in) is
occasions-give m payload (h ∷ hs) r p told both =
    ap (filter_map given_in) both.made
    ∙ filter_map-append given_in both.front both.rest
    ∙ ap (λ (gs : List Given). gs ++ filter_map given_in both.rest) (occasion-gives m r h payload both.front both.by_first)
    ∙ ap (λ (gs : List Given). GivesOccasion h ∷ gs) (occasions-give m payload hs (state_after_entries m r both.front) (paced_all p both.front) both.rest both.by_second)

-- behind an install
rest-gives : (m : Machine) (r : NodeState) (q : Pace) (p : HeldProgram) (told : List JournalEntry) (is : DeedMakes m (Installing p) r q told)
    → filter_map given_in is.rest ≡ (if m.runs_once p.handler then GivesOccasion p.handler ∷ [] else [])
rest-gives m r q p told is = elim (cases_Bool (m.runs_once p.handler)) [
  | inl once ↦ occasion-gives m (next_state m r (Installed p)) p.handler (record { items = [] }) is.rest (MatchBool-at_true _ _ once is.follows) ∙ ap (λ (b : Bool). if b then GivesOccasion p.handler ∷ [] else []) (sym once)
  | inr never ↦ ap (filter_map given_in) (MatchBool-at_false _ _ never is.follows) ∙ ap (λ (b : Bool). if b then GivesOccasion p.handler ∷ [] else []) (sym never)
]

deed-gives : (m : Machine) (d : Deed) (r : NodeState) (q : Pace) (told : List JournalEntry) → DeedMakes m d r q told → filter_map given_in told ≡ given_by m d
deed-gives m Nothing r q told is = ap (filter_map given_in) is
deed-gives m (Installing p) r q told is = ap (filter_map given_in) is.made ∙ ap (λ (gs : List Given). SeesItsStore ∷ GivesInstall p ∷ gs) (rest-gives m r q p told is)
deed-gives m (Posting hs payload) r q told is = occasions-give m payload hs r q told is
deed-gives m (Answering inv value) r q told is = ap (filter_map given_in) is
deed-gives m Showing r q told is = ap (filter_map given_in) is.made
deed-gives m Resetting r q told is = ap (filter_map given_in) is.made

pub events_give_theirs : (w : World) → EventsGiveTheirs w
events_give_theirs w before m come =
    let makes = come.1.makes in
    let s : WorldState = state w before in
    ap (filter_map given_in) makes.made
    ∙ filter_map-append given_in makes.front makes.rest
    ∙ ap (λ (gs : List Given). filter_map given_in makes.front ++ gs)
    (own-gives makes.rest (settles-own w.machine (state_after_entries w.machine (node_at w s m).reading makes.front) (paced_all (node_at w s m).pace makes.front) makes.rest m.pace makes.by_second))
    ∙ append-nil (filter_map given_in makes.front)
    ∙ deed-gives w.machine (effect_at w s m).deed (node_at w s m).reading (node_at w s m).pace makes.front makes.by_first

-- ---- journals

-- what a journal tells with one event more
told-more : (w : World) (k : ℕ) (m : Moment) (before : List Moment) → untimed (journal w k (m ∷ before)) ≡ untimed (journal w k before) ++ (if k == event_node w m.cause then m.told else [])
told-more w k m before =
    map-append (λ (e : Entered). e.told) (journal w k before) (if k == event_node w m.cause then map (λ t. record { stamp = stamp_of m before; told = t }) m.told else [])
    ∙ ap (λ (ts : List JournalEntry). untimed (journal w k before) ++ ts) (by (k == event_node w m.cause)) where
      by : (b : Bool) → untimed (if b then map (λ t. record { stamp = stamp_of m before; told = t }) m.told else []) ≡ (if b then m.told else [])
      by true = told_by-at (stamp_of m before) m.told
      by false = refl

pub journals_tell_what_came : (w : World) → JournalsTellWhatCame w
journals_tell_what_came w k [] come = refl
journals_tell_what_came w k (m ∷ before) come =
    ap (filter_map given_in) (told-more w k m before)
    ∙ filter_map-append given_in (untimed (journal w k before)) (if k == event_node w m.cause then m.told else [])
    ∙ ap (λ (gs : List Given). gs ++ filter_map given_in (if k == event_node w m.cause then m.told else [])) (journals_tell_what_came w k before come.0)
    ∙ ap (λ (gs : List Given). given_to w k before ++ gs) (by (k == event_node w m.cause) (events_give_theirs w before m come)) where
      by : (b : Bool) → filter_map given_in m.told ≡ given_by w.machine (effect_at w (state w before) m).deed
          → filter_map given_in (if b then m.told else []) ≡ (if b then given_by w.machine (effect_at w (state w before) m).deed else [])
      by true is = is
      by false is = refl

-- ---- payloads

own-payload : (pl : ArrayVec ℤ) (t : JournalEntry) → IsOwn t → HasPayload pl t
own-payload pl (Posted n h c payload) own = cc
own-payload pl _ own = tt

own-payloads : (pl : ArrayVec ℤ) (told : List JournalEntry) → All IsOwn told → All (HasPayload pl) told
own-payloads pl [] all = All-nil (HasPayload pl)
own-payloads pl (t ∷ told) all = All-cons (HasPayload pl) t told (own-payload pl t (All-head IsOwn t told all)) (own-payloads pl told (All-tail IsOwn t told all))

made-payloads : (pl : ArrayVec ℤ) (xs ys : List JournalEntry) → xs ≡ ys → All (HasPayload pl) ys → All (HasPayload pl) xs
made-payloads pl xs ys is all = subst (λ (told : List JournalEntry). All (HasPayload pl) told) (sym is) all

occasion-payload : (m : Machine) (r : NodeState) (h : HandlerId) (payload : ArrayVec ℤ) (told : List JournalEntry) → Occasion m r h payload told → All (HasPayload payload) told
occasion-payload m r h payload told (inl a) = made-payloads payload told _ a.made (All-cons (HasPayload payload) _ [] tt (All-nil (HasPayload payload)))
occasion-payload m r h payload told (inr (inl a)) = made-payloads payload told _ a.made (All-cons (HasPayload payload) _ [] tt (All-nil (HasPayload payload)))
occasion-payload m r h payload told (inr (inr a)) = made-payloads payload told _ a.made (All-cons (HasPayload payload) _ a.starts refl (own-payloads payload a.starts (starts-own a.starts a.are_starts)))

occasions-payload : (m : Machine) (payload : ArrayVec ℤ) (hs : List HandlerId) (r : NodeState) (p : Pace) (told : List JournalEntry) → Occasions m payload hs r p told → All (HasPayload payload) told
occasions-payload m payload [] r p told is = made-payloads payload told [] is (All-nil (HasPayload payload))
occasions-payload m payload (h ∷ hs) r p told both =
    made-payloads payload told (both.front ++ both.rest) both.made
    (All-append (HasPayload payload) both.front both.rest (occasion-payload m r h payload both.front both.by_first) (occasions-payload m payload hs (state_after_entries m r both.front) (paced_all p both.front) both.rest both.by_second))

abbrev no_payload : ArrayVec ℤ
no_payload = record { items = [] }

rest-payload : (m : Machine) (r : NodeState) (q : Pace) (p : HeldProgram) (told : List JournalEntry) (is : DeedMakes m (Installing p) r q told) → All (HasPayload no_payload) is.rest
rest-payload m r q p told is = elim (cases_Bool (m.runs_once p.handler)) [
  | inl once ↦ occasion-payload m (next_state m r (Installed p)) p.handler no_payload is.rest (MatchBool-at_true _ _ once is.follows)
  | inr never ↦ made-payloads no_payload is.rest [] (MatchBool-at_false _ _ never is.follows) (All-nil (HasPayload no_payload))
]

deed-payload : (m : Machine) (d : Deed) (r : NodeState) (q : Pace) (told : List JournalEntry) → DeedMakes m d r q told → All (HasPayload (payload_given d)) told
deed-payload m Nothing r q told is = made-payloads no_payload told [] is (All-nil (HasPayload no_payload))
deed-payload m (Installing p) r q told is =
    made-payloads no_payload told (Seen is.seen ∷ Installed p ∷ is.rest) is.made
    (All-cons (HasPayload no_payload) (Seen is.seen) (Installed p ∷ is.rest) tt (All-cons (HasPayload no_payload) (Installed p) is.rest tt (rest-payload m r q p told is)))
deed-payload m (Posting hs payload) r q told is = occasions-payload m payload hs r q told is
deed-payload m (Answering inv value) r q told is = made-payloads no_payload told (Answered inv value ∷ []) is (All-cons (HasPayload no_payload) (Answered inv value) [] tt (All-nil (HasPayload no_payload)))
deed-payload m Showing r q told is = made-payloads no_payload told (Seen is.seen ∷ []) is.made (All-cons (HasPayload no_payload) (Seen is.seen) [] tt (All-nil (HasPayload no_payload)))
deed-payload m Resetting r q told is =
    made-payloads no_payload told (Seen is.seen ∷ Reset ∷ []) is.made
    (All-cons (HasPayload no_payload) (Seen is.seen) (Reset ∷ []) tt (All-cons (HasPayload no_payload) Reset [] tt (All-nil (HasPayload no_payload))))

pub posts_have_their_payload : (w : World) → PostsHaveTheirPayload w
posts_have_their_payload w before m come =
    let makes = come.1.makes in
    let s : WorldState = state w before in
    let pl : ArrayVec ℤ = payload_given (effect_at w s m).deed in
    made-payloads pl m.told (makes.front ++ makes.rest) makes.made
    (All-append (HasPayload pl) makes.front makes.rest
    (deed-payload w.machine (effect_at w s m).deed (node_at w s m).reading (node_at w s m).pace makes.front makes.by_first)
    (own-payloads pl makes.rest (settles-own w.machine (state_after_entries w.machine (node_at w s m).reading makes.front) (paced_all (node_at w s m).pace makes.front) makes.rest m.pace makes.by_second)))

-- ---- calls

pub called_are_told : (w : World) → CalledAreTold w
called_are_told w k [] = refl
called_are_told w k (m ∷ before) = elim (eqb_tells k (event_node w m.cause)) [
  | inl same ↦ ap (λ (j : ℕ). ((state w (m ∷ before)).nodes j).called) same.1 ∙ ap (λ (n : Node). n.called) (nodes-here w (state w before) m)
      ∙ ap (λ (j : ℕ). ((state w before).nodes j).called ++ calls_in m.told) (sym same.1)
      ∙ ap (λ (fs : List FunId). fs ++ calls_in m.told) (called_are_told w k before)
      ∙ sym (filter_map-append asked_by (untimed (journal w k before)) m.told)
      ∙ ap (λ (b : Bool). calls_in (untimed (journal w k before) ++ (if b then m.told else []))) (sym same.0)
      ∙ ap calls_in (sym (told-more w k m before))
  | inr other ↦ ap (λ (n : Node). n.called) (nodes-other w (state w before) m k other.1)
      ∙ called_are_told w k before
      ∙ ap calls_in (sym (append-nil (untimed (journal w k before))))
      ∙ ap (λ (b : Bool). calls_in (untimed (journal w k before) ++ (if b then m.told else []))) (sym other.0)
      ∙ ap calls_in (sym (told-more w k m before))
]
