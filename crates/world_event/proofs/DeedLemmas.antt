-- What an event's deed makes calls nothing.
use Rattle.std.proofs.Common.{List, [], ◌∷◌, ◌++◌, refl, sym, subst, inl, inr}
use Rattle.std.specs.Prelude.{ℤ, All}
use Rattle.std.proofs.lemmas.Bool.{cases_Bool, MatchBool-at_true, MatchBool-at_false}
use Rattle.std.proofs.lemmas.List.Elements.{All-head, All-tail}
use Rattle.arrayvec.specs.ArrayVec.{ArrayVec}
use Rattle.mate_num.specs.declared.id.HandlerId.{HandlerId}
use Rattle.mate_journal.specs.Machine.{Machine}
use Rattle.mate_journal.specs.Journal.{JournalEntry, Posted, Dropped, Started, Asked, Answered, Ended, Installed, Reset, Seen, Void, NodeState}
use Rattle.mate_journal.specs.Grants.{IsStart}
use Rattle.mate_journal.specs.Pace.{Pace}
use Rattle.mate_journal.specs.NodeScript.{Occasion}
use Rattle.world_rules.specs.Effect.{Deed, Nothing, Installing, Posting, Answering, Showing, Resetting}
use Rattle.world_rules.specs.Run.{DeedMakes, Occasions}
use Rattle.world_event.specs.Finishing.{CallNothing}

quiet-both : (xs ys : List JournalEntry) → CallNothing xs → CallNothing ys → CallNothing (xs ++ ys)
quiet-both [] ys a b = b
quiet-both (t ∷ xs) ys a b = (a.0, quiet-both xs ys a.1 b)

-- a start calls nothing
start-quiet : (t : JournalEntry) (told : List JournalEntry) → IsStart t → CallNothing told → CallNothing (t ∷ told)
start-quiet (Started n) told is rest = (refl, rest)
start-quiet _ told is rest = absurd is

starts-quiet : (starts : List JournalEntry) → All IsStart starts → CallNothing starts
starts-quiet [] all = tt
starts-quiet (t ∷ starts) all = start-quiet t starts (All-head IsStart t starts all) (starts-quiet starts (All-tail IsStart t starts all))

occasion-quiet : (m : Machine) (r : NodeState) (h : HandlerId) (payload : ArrayVec ℤ) (told : List JournalEntry) → Occasion m r h payload told → CallNothing told
occasion-quiet m r h payload told (inl x) = subst CallNothing (sym x.made) (refl, tt)
occasion-quiet m r h payload told (inr (inl x)) = subst CallNothing (sym x.made) (refl, tt)
occasion-quiet m r h payload told (inr (inr x)) = subst CallNothing (sym x.made) (refl, starts-quiet x.starts x.are_starts)

occasions-quiet : (m : Machine) (payload : ArrayVec ℤ) (hs : List HandlerId) (r : NodeState) (p : Pace) (told : List JournalEntry) → Occasions m payload hs r p told → CallNothing told
occasions-quiet m payload [] r p told x = subst CallNothing (sym x) tt
occasions-quiet m payload (h ∷ hs) r p told x =
    subst CallNothing (sym x.made) (quiet-both x.front x.rest (occasion-quiet m r h payload x.front x.by_first) (occasions-quiet m payload hs _ _ x.rest x.by_second))

pub deed-quiet : (m : Machine) (d : Deed) (r : NodeState) (p : Pace) (told : List JournalEntry) → DeedMakes m d r p told → CallNothing told
deed-quiet m Nothing r p told x = subst CallNothing (sym x) tt
deed-quiet m (Installing program) r p told x = subst CallNothing (sym x.made) (
  refl,
  (
    refl,
    elim (cases_Bool (m.runs_once program.handler)) [
      | inl is ↦ occasion-quiet m _ program.handler _ x.rest (MatchBool-at_true _ _ is x.follows)
      | inr never ↦ subst CallNothing (sym (MatchBool-at_false _ _ never x.follows)) tt
    ],
  ),
)
deed-quiet m (Posting hs payload) r p told x = occasions-quiet m payload hs r p told x
deed-quiet m (Answering inv value) r p told x = subst CallNothing (sym x) (refl, tt)
deed-quiet m Showing r p told x = subst CallNothing (sym x.made) (refl, tt)
deed-quiet m Resetting r p told x = subst CallNothing (sym x.made) (refl, (refl, tt))
