-- Posts one after another: to all handlers that messages go to.
use Rattle.std.proofs.Common.{◌≡◌, ℕ, zero, suc, ◌+◌, Bool, List, [], ◌∷◌, ◌++◌, Option, Some, None, refl, sym, ◌∙◌, ap, subst, arith, inl, inr, append_assoc, append-nil, add-one}
use Rattle.std.specs.Prelude.{ℤ, slice_get}
use Rattle.std.specs.List.{filter_map, cons_option, range_with_len}
use Rattle.std.specs.Option.{option_to_list}
use Rattle.std.proofs.lemmas.Bool.{cases_Bool}
use Rattle.std.proofs.lemmas.List.Elements.{filter_map-append}
use Rattle.arrayvec.specs.ArrayVec.{ArrayVec}
use Rattle.mate_num.specs.declared.call.Stamp.{Stamp}
use Rattle.mate_num.specs.declared.id.HandlerId.{HandlerId}
use Rattle.mate_journal.specs.Machine.{Machine}
use Rattle.mate_journal.specs.Journal.{JournalEntry, NodeState, state_after_entries}
use Rattle.mate_journal.specs.NodeScript.{Occasion}
use Rattle.mate_journal.specs.Pace.{Pace, paced_all}
use Rattle.node_open.specs.Calls.{Pacing}
use Rattle.node_open.specs.View.{NodeView, heard_of, Tells}
use Rattle.node_state.proofs.StartingLemmas.{paced_all-append}
use Rattle.node_state.specs.Keeps.{reading}
use Rattle.node_state.specs.Meaning.{machine_in}
use Rattle.node_state.proofs.KeepLemmas.{Grows-then}
use Rattle.node_calls.proofs.SettleLemmas.{heard_told-append, reading-grows}
use Rattle.vm_shape.specs.declared.description.Description.{Description}
use Rattle.world_rules.specs.World.{World, handlers, is_receiver, receivers}
use Rattle.world_rules.specs.Run.{Occasions}
use Rattle.world_event.specs.Handling.{if_receives, receivers_below}

-- ---- the handlers

range-last : (a n j : ℕ) → a + n ≡ j → range_with_len a (suc n) ≡ range_with_len a n ++ j ∷ []
range-last a zero j e = let same : a ≡ j = omega (arith, e) in ap (λ (i : ℕ). i ∷ []) same
range-last a (suc n) j e = ap (λ (is : List ℕ). a ∷ is) (range-last (a + 1) n j (omega (arith, e)))

one-of : {A : Type 0} (o : Option A) → cons_option o [] ≡ option_to_list o
one-of None = refl
one-of (Some x) = refl

by-each : (F : ℕ → Option HandlerId) (d : Description) → ((h : ℕ) → option_to_list (F h) ≡ if_receives (is_receiver (slice_get d.handlers.items h)) h) → (n : ℕ)
    → filter_map F (range_with_len 0 n) ≡ receivers_below d n
by-each F d each zero = refl
by-each F d each (suc n) =
    ap (filter_map F) (range-last 0 n n (omega arith)) ∙ filter_map-append F (range_with_len 0 n) (n ∷ [])
    ∙ ap (λ (hs : List HandlerId). hs ++ cons_option (F n) []) (by-each F d each n) ∙ ap (λ (hs : List HandlerId). receivers_below d n ++ hs) (one-of (F n) ∙ each n)

pub receivers-are : (w : World) → receivers w ≡ receivers_below w.description (handlers w)
receivers-are w =
    by-each _ w.description (λ h. elim (cases_Bool (is_receiver (slice_get w.description.handlers.items h))) [ inl goes ↦ rw goes refl | inr stays ↦ rw stays refl ]) (handlers w)

-- ---- occasions

pub occasions-push : (m : Machine) (payload : ArrayVec ℤ) (hs : List HandlerId) (h : HandlerId) (r : NodeState) (p : Pace) (front rest : List JournalEntry)
    → Occasions m payload hs r p front → Occasion m (state_after_entries m r front) h payload rest → Occasions m payload (hs ++ h ∷ []) r p (front ++ rest)
occasions-push m payload [] h r p front rest none given = record {
  front = rest;
  rest = [];
  made = ap (λ (ts : List JournalEntry). ts ++ rest) none ∙ sym (append-nil rest);
  by_first = subst (λ (ts : List JournalEntry). Occasion m (state_after_entries m r ts) h payload rest) none given;
  by_second = refl;
}
occasions-push m payload (g ∷ hs) h r p front rest x given = record {
  front = x.front;
  rest = x.rest ++ rest;
  made = ap (λ (ts : List JournalEntry). ts ++ rest) x.made ∙ append_assoc x.front x.rest rest;
  by_first = x.by_first;
  by_second =
      occasions-push m payload hs h (state_after_entries m r x.front) (paced_all p x.front) x.rest rest x.by_second
      (subst (λ (s : NodeState). Occasion m s h payload rest) (ap (state_after_entries m r) x.made ∙ heard_told-append m r x.front x.rest) given);
}

pub occasions-one : (m : Machine) (payload : ArrayVec ℤ) (h : HandlerId) (r : NodeState) (p : Pace) (told : List JournalEntry) → Occasion m r h payload told → Occasions m payload (h ∷ []) r p told
occasions-one m payload h r p told given = record { front = told; rest = []; made = sym (append-nil told); by_first = given; by_second = refl }

-- ---- what is told in two calls

pub tells-then : (old mid new : NodeView) (at : Stamp) (First Then Both : Pace → List JournalEntry → Type 0) → Tells old mid at (Pacing First) → Tells mid new at (Pacing Then)
    → ((p : Pace) (front rest : List JournalEntry) → heard_of mid ≡ state_after_entries (machine_in old.description) (heard_of old) front → First p front → Then (paced_all p front) rest → Both p (front ++ rest))
    → Tells old new at (Pacing Both)
tells-then old mid new at First Then Both f g goes =
    let was : heard_of mid ≡ state_after_entries (machine_in old.description) (heard_of old) f.told =
    ap (λ (d : Description). reading d mid.log) f.description ∙ reading-grows old.description old.log mid.log at f.told f.grows in
    record {
      told = f.told ++ g.told;
      description = g.description ∙ f.description;
      grows = Grows-then old.log mid.log new.log at f.told g.told f.grows g.grows;
      gone = g.gone ∙ f.gone;
      places = let first = f.places in let then = g.places in omega (arith, first, then);
      paces = λ p has.
          let x = f.paces p has in
          let y = g.paces x.0 x.2 in
          let after : Then (paced_all p f.told) g.told = subst (λ (q : Pace). Then q g.told) x.1.1 y.1.0 in
          (y.0, (goes p f.told g.told was x.1.0 after, y.1.1 ∙ ap (λ (q : Pace). paced_all q g.told) x.1.1 ∙ sym (paced_all-append p f.told g.told)), y.2);
    }

pub posts-more : (d : Description) (old mid new : NodeView) (at : Stamp) (payload : ArrayVec ℤ) (hs : List HandlerId) (h : HandlerId) → old.description ≡ d
    → Tells old mid at (Pacing (Occasions (machine_in d) payload hs (heard_of old))) → Tells mid new at (Pacing (λ _. Occasion (machine_in mid.description) (heard_of mid) h payload))
    → Tells old new at (Pacing (Occasions (machine_in d) payload (hs ++ h ∷ []) (heard_of old)))
posts-more d old mid new at payload hs h is f g =
    let machine : machine_in mid.description ≡ machine_in d = ap machine_in (f.description ∙ is) in
    let shown : machine_in old.description ≡ machine_in d = ap machine_in is in
    tells-then old mid new at (Occasions (machine_in d) payload hs (heard_of old)) (λ _. Occasion (machine_in mid.description) (heard_of mid) h payload)
    (Occasions (machine_in d) payload (hs ++ h ∷ []) (heard_of old)) f g (λ p front rest was first given. (
    let here : Occasion (machine_in d) (heard_of mid) h payload rest = subst (λ (m : Machine). Occasion m (heard_of mid) h payload rest) machine given in
    let heard_is : heard_of mid ≡ state_after_entries (machine_in d) (heard_of old) front = was ∙ ap (λ (m : Machine). state_after_entries m (heard_of old) front) shown in
    occasions-push (machine_in d) payload hs h (heard_of old) p front rest first (subst (λ (r : NodeState). Occasion (machine_in d) r h payload rest) heard_is here)
    ))

pub receivers-more : (d : Description) (n : ℕ) (b : Bool) → b ≡ is_receiver (slice_get d.handlers.items n) → receivers_below d (n + 1) ≡ receivers_below d n ++ if_receives b n
receivers-more d n b is = rw add-one (ap (λ (x : Bool). receivers_below d n ++ if_receives x n) (sym is))
