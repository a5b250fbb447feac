-- The pace of a node, as its fields have it and as it is seen; and what its calls tell, as it is seen.
use Rattle.std.proofs.Common.{◌≡◌, ℕ, zero, suc, true, List, [], ◌∷◌, Option, Some, None, refl, sym, ◌∙◌, ap, subst, arith}
use Rattle.std.specs.Prelude.{map, slice_index_or}
use Rattle.mate_num.specs.declared.call.Stamp.{Stamp}
use Rattle.mate_num.specs.declared.id.ContextId.{ContextId}
use Rattle.vm_shape.specs.declared.description.Description.{Description}
use Rattle.mate_journal.specs.Journal.{JournalEntry, is_started}
use Rattle.mate_journal.specs.Pace.{Pace}
use Rattle.journal_laws.proofs.Moves.{started_live}
use Rattle.node_state.specs.declared.seat.Seat.{Seat}
use Rattle.node_state.specs.At.{at}
use Rattle.node_state.specs.declared.parts.Parts.{Parts}
use Rattle.node_state.specs.Keeps.{reading, Keeps, Grows}
use Rattle.node_state.specs.Pace.{IsPace}
use Rattle.node_state.proofs.OrderLemmas.{live-above}
use Rattle.node_open.specs.View.{NodeView, count_at, HasPace, Tells}
use Rattle.node_open.specs.Inside.{entry_of, view_of}

-- a node with these fields, as it is seen
abbrev pub seen_as : Description → Parts → NodeView
seen_as d s = view_of (record { machine = d; parts = s })

entry-at : (xs : List (Option Seat)) (k : ℕ) → slice_index_or (map entry_of xs) k (0, 0) ≡ entry_of (slice_index_or xs k None)
entry-at [] k = refl
entry-at (x ∷ xs) zero = refl
entry-at (x ∷ xs) (suc k) = entry-at xs k

module _ (d : Description) (s : Parts) (keeps : Keeps d s) (p : Pace) where
  entry-is : (c : ContextId) → count_at (seen_as d s) c ≡ entry_of (at s.contexts c).seat
  entry-is c = entry-at s.contexts.seats c.0

  pub IsPace-seen : HasPace (seen_as d s) p → IsPace (reading d s.log.all) s.contexts p
  IsPace-seen pace = record { line = pace.line; counts = counts } where
    counts : (c : ContextId) (t : Seat) → (at s.contexts c).seat ≡ Some t → is_started ((reading d s.log.all).invocations t.inv).phase ≡ true → t.count ≡ p.counts t.inv
    counts c t is started =
        let e : count_at (seen_as d s) c ≡ (t.inv, t.count) = entry-is c ∙ ap entry_of is in
        let P : ℕ × ℕ → Type 0 = λ x. is_started ((reading d s.log.all).invocations x.0).phase ≡ true → x.1 ≡ p.counts x.0 in
        subst P e (pace.counts c) started

  pub HasPace-from : IsPace (reading d s.log.all) s.contexts p → HasPace (seen_as d s) p
  HasPace-from pace = record { line = pace.line; counts = λ c. counts c (at s.contexts c).seat refl } where
    Right : ℕ × ℕ → Type 0
    Right x = is_started ((reading d s.log.all).invocations x.0).phase ≡ true → x.1 ≡ p.counts x.0

    by : (c : ContextId) (o : Option Seat) → (at s.contexts c).seat ≡ o → Right (entry_of o)
    by c None is started = absurd (let above = live-above d s 0 keeps (started_live ((reading d s.log.all).invocations 0).phase started) in omega arith)
    by c (Some t) is started = pace.counts c t is started

    counts : (c : ContextId) (o : Option Seat) → (at s.contexts c).seat ≡ o → Right (count_at (seen_as d s) c)
    counts c o is = subst Right (sym (entry-is c ∙ ap entry_of is)) (by c o is)

-- what the parts tell, as it is seen
pub Tells-from : (d : Description) (old new : Parts) (at_ : Stamp) (Rule : Pace → List JournalEntry → Pace → Type 0) (told : List JournalEntry) → Keeps d old → Keeps d new → Grows old.log.all new.log.all at_ told → new.log.gone ≡ old.log.gone
    → new.handlers.room ≡ old.handlers.room
    → ((p : Pace) → IsPace (reading d old.log.all) old.contexts p → (q : Pace) × Rule p told q × IsPace (reading d new.log.all) new.contexts q) → Tells (seen_as d old) (seen_as d new) at_ Rule
Tells-from d old new at_ Rule told before after grows gone places paces = record {
  told = told;
  description = refl;
  grows = grows;
  gone = gone;
  places = omega (arith, places);
  paces = λ p pace. (let h = paces p (IsPace-seen d old before p pace) in (h.0, h.1, HasPace-from d new after h.0 h.2));
}
