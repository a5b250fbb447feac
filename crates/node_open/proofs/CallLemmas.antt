-- What the calls from outside tell, as it is seen.
use Rattle.std.proofs.Common.{◌≡◌, ◌≤◌, ℕ, List, ℤ, Option, Some, None, Result, Ok, Err, refl, sym, ◌∙◌, ap, subst, inl, inr, length, arith}
use Rattle.std.specs.Prelude.{⊤, OnOk, MatchOption, MatchResult}
use Rattle.arrayvec.specs.ArrayVec.{ArrayVec}
use Rattle.mate_num.specs.declared.call.Stamp.{Stamp}
use Rattle.mate_num.specs.declared.id.HandlerId.{HandlerId}
use Rattle.vm_shape.specs.declared.description.Description.{Description}
use Rattle.mate_journal.specs.Machine.{Machine}
use Rattle.mate_journal.specs.Journal.{JournalEntry, NodeState}
use Rattle.mate_journal.specs.Pace.{Pace, paced_all}
use Rattle.mate_journal.specs.NodeScript.{ShowsOnce, Occasion}
use Rattle.node_state.specs.declared.parts.Parts.{Parts}
use Rattle.node_state.specs.Meaning.{machine_in}
use Rattle.node_state.specs.Keeps.{reading}
use Rattle.node_state.specs.Starting.{Rests}
use Rattle.node_calls.specs.Calls.{RestsAgain, AtPace, TellsStore}
use Rattle.node_calls.specs.Posting.{PostGives}
use Rattle.node_calls.specs.declared.posting.PostAnswer.{PostAnswer}
use Rattle.node_calls.specs.declared.posting.PostAnswer.TheVariants.{Posted, NoCode, AllBusy}
use Rattle.node_calls.specs.declared.installing.InstallFault.{InstallFault}
use Rattle.node_open.specs.View.{NodeView, HasPlaces, Tells, IsSameNode}
use Rattle.node_open.specs.Calls.{InstallsOn, Pacing, TakesCapsule}
use Rattle.node_open.proofs.PaceLemmas.{seen_as, Tells-from}

module _ (d : Description) (old new : Parts) (at_ : Stamp) (rests : Rests d old) (gone : new.log.gone ≡ old.log.gone) (places : new.handlers.room ≡ old.handlers.room) where
  -- entries that meet a rule at each pace
  pub Tells-paced : (Rule : Pace → List JournalEntry → Type 0) → RestsAgain d old new at_ (AtPace d old Rule) → Tells (seen_as d old) (seen_as d new) at_ (Pacing Rule)
  Tells-paced Rule again =
      Tells-from d old new at_ (Pacing Rule) again.adds.told rests.order.keeps again.rests.order.keeps again.adds.grows gone places
      (λ p pace. (paced_all p again.adds.told, (again.adds.made p pace, refl), again.pace p pace))

  -- and at all paces
  pub Tells-again : (Rule : List JournalEntry → Type 0) → RestsAgain d old new at_ Rule → Tells (seen_as d old) (seen_as d new) at_ (Pacing (λ _. Rule))
  Tells-again Rule again =
      Tells-from d old new at_ (Pacing (λ _. Rule)) again.adds.told rests.order.keeps again.rests.order.keeps again.adds.grows gone places
      (λ p pace. (paced_all p again.adds.told, (again.adds.made, refl), again.pace p pace))

  pub Tells-store : TellsStore d old new at_ → Tells (seen_as d old) (seen_as d new) at_ (Pacing (ShowsOnce (machine_in d) (reading d old.log.all)))
  Tells-store t =
      Tells-from d old new at_ _ t.again.adds.told rests.order.keeps t.again.rests.order.keeps t.again.adds.grows gone places
      (λ p pace. (paced_all p t.again.adds.told, (record { seen = old.heap; shown = t.shown p pace; made = t.again.adds.made }, refl), t.again.pace p pace))

  -- it rests whether it was refused or not
  pub Rests-either : {A E : Type 0} (r : Result A E) (Rule : List JournalEntry → Type 0) (Refused : E → Type 0) → MatchResult r (λ _. RestsAgain d old new at_ Rule) (λ e. Refused e × (new ≡ old)) → Rests d new
  Rests-either (Ok a) Rule Refused again = again.rests
  Rests-either (Err e) Rule Refused (refused, same) = let P : Parts → Type 0 = λ s. Rests d s in subst P (sym same) rests

-- each answer says as much of what is seen
pub Seen-either : {A E : Type 0} (d : Description) (old new : Parts) (v : NodeView) (r : Result A E) (Made : Type 0) (Told_ : NodeView → Type 0) (Refused : E → Type 0) (Refused_ : NodeView → E → Type 0) → seen_as d old ≡ v
    → (Made → Told_ (seen_as d old)) → ((e : E) → Refused e → Refused_ (seen_as d old) e)
    → MatchResult r (λ _. Made) (λ e. Refused e × (new ≡ old)) → MatchResult r (λ _. Told_ v) (λ e. Refused_ v e × (seen_as d new ≡ v))
Seen-either d old new v (Ok a) Made Told_ Refused Refused_ is told refused made = subst Told_ is (told made)
Seen-either d old new v (Err e) Made Told_ Refused Refused_ is told refused (why, same) = let P : NodeView → Type 0 = λ x. Refused_ x e in (subst P is (refused e why), ap (seen_as d) same ∙ is)

-- and if there is one
pub Seen-option : {A : Type 0} (d : Description) (old new : Parts) (v : NodeView) (o : Option A) (Made Made_ : A → Type 0) → seen_as d old ≡ v → ((r : A) → Made r → Made_ r)
    → MatchOption o (new ≡ old) Made → MatchOption o (seen_as d new ≡ v) Made_
Seen-option d old new v None Made Made_ is goes same = ap (seen_as d) same ∙ is
Seen-option d old new v (Some r) Made Made_ is goes made = goes r made

-- it rests whether there is one or not
pub Rests-option : {A : Type 0} (d : Description) (old new : Parts) (o : Option A) (Made : A → Type 0) → Rests d old → ((r : A) → Made r → Rests d new) → MatchOption o (new ≡ old) Made → Rests d new
Rests-option d old new None Made rests goes same = let P : Parts → Type 0 = λ s. Rests d s in subst P (sym same) rests
Rests-option d old new (Some r) Made rests goes made = goes r made

-- what meets one rule meets another
pub Tells-by : (old new : NodeView) (at : Stamp) (Rule Other : Pace → List JournalEntry → Pace → Type 0) → ((p : Pace) (told : List JournalEntry) (q : Pace) → Rule p told q → Other p told q)
    → Tells old new at Rule → Tells old new at Other
Tells-by old new at Rule Other goes t = record {
  told = t.told;
  description = t.description;
  grows = t.grows;
  gone = t.gone;
  places = t.places;
  paces = λ p has. let x = t.paces p has in (x.0, goes p t.told x.0 x.1, x.2);
}

-- nothing is forgotten whether it was refused or not
pub gone-either : {A E : Type 0} (old new : NodeView) (at : Stamp) (r : Result A E) (Rule : A → Pace → List JournalEntry → Pace → Type 0) (Refused : E → Type 0)
    → MatchResult r (λ a. Tells old new at (Rule a)) (λ e. Refused e × (new ≡ old)) → new.gone ≡ old.gone
gone-either old new at (Ok a) Rule Refused t = t.gone
gone-either old new at (Err e) Rule Refused (why, same) = ap (λ (v : NodeView). v.gone) same

-- what a post answers is an occasion
pub Occasion-given : (m : Machine) (r : NodeState) (h : HandlerId) (payload : ArrayVec ℤ) (answer : PostAnswer) (told : List JournalEntry) → PostGives m r h payload answer told → Occasion m r h payload told
Occasion-given m r h payload (Posted inv) told x = inr (inr x.1)
Occasion-given m r h payload NoCode told x = inl x
Occasion-given m r h payload AllBusy told x = inr (inl x)

-- ---- installs on a node that may have no places

pub IsSameNode-itself : (v : NodeView) → IsSameNode v v
IsSameNode-itself v = record {
  description = refl;
  log = record { entries = refl; images = refl; stores = refl };
  gone = refl;
  line = refl;
  counts = refl;
  places = omega arith;
  room = omega arith;
}

-- of a capsule that is ready
pub Takes-ready : (old new : NodeView) (bytes : List ℕ) (at : Stamp) (r : Result ⊤ InstallFault) → InstallsOn old new bytes at r → TakesCapsule old new bytes at r
Takes-ready old new bytes at (Ok a) told = told
Takes-ready old new bytes at (Err e) (why, same) = let P : NodeView → Type 0 = λ v. IsSameNode old v in (why, subst P (sym same) (IsSameNode-itself old))

-- and once it has places
pub Takes-placed : (old new : NodeView) (count : ℕ) (bytes : List ℕ) (at : Stamp) (r : Result ⊤ InstallFault) → old.places ≤ count → InstallsOn (record old { places = count }) new bytes at r → TakesCapsule old new bytes at r
Takes-placed old new count bytes at (Ok a) more t = record {
  told = t.told;
  description = t.description;
  grows = t.grows;
  gone = t.gone;
  places = let now = t.places in omega (arith, more, now);
  paces = λ p has. t.paces p (record { line = has.line; counts = has.counts });
}
Takes-placed old new count bytes at (Err e) more (why, same) =
    let P : NodeView → Type 0 = λ v. IsSameNode old v in
    let placed : IsSameNode old (record old { places = count }) = record {
      description = refl;
      log = record { entries = refl; images = refl; stores = refl };
      gone = refl;
      line = refl;
      counts = refl;
      places = more;
      room = omega arith;
    } in
    (why, subst P (sym same) placed)

-- ---- a node that has places keeps them

-- what success brings brings more
pub on-ok : {A E : Type 0} (r : Result A E) (Brings More : Type 0) → (Brings → More) → OnOk r Brings → OnOk r More
on-ok (Ok a) Brings More goes here = goes here
on-ok (Err e) Brings More goes here = tt

pub places-told : (old new : NodeView) (at : Stamp) (Rule : Pace → List JournalEntry → Pace → Type 0) → HasPlaces old → Tells old new at Rule → HasPlaces new
places-told old new at Rule has t =
    let more = t.places in
    subst (λ (d : Description). length d.handlers.items ≤ new.places) (sym t.description) (omega (arith, has, more))

pub places-same : (old new : NodeView) → HasPlaces old → IsSameNode old new → HasPlaces new
places-same old new has same =
    let more = same.places in
    subst (λ (d : Description). length d.handlers.items ≤ new.places) (sym same.description) (omega (arith, has, more))

-- whether it was refused or not
pub places-either : {A E : Type 0} (old new : NodeView) (at : Stamp) (r : Result A E) (Rule : A → Pace → List JournalEntry → Pace → Type 0) (Refused : E → Type 0) → HasPlaces old
    → MatchResult r (λ a. Tells old new at (Rule a)) (λ e. Refused e × (new ≡ old)) → HasPlaces new
places-either old new at (Ok a) Rule Refused has told = places-told old new at (Rule a) has told
places-either old new at (Err e) Rule Refused has (why, same) = subst HasPlaces (sym same) has

-- ---- the same node, twice

pub same-on : (a b c : NodeView) → IsSameNode a b → IsSameNode b c → IsSameNode a c
same-on a b c f g = record {
  description = g.description ∙ f.description;
  log = record { entries = g.log.entries ∙ f.log.entries; images = g.log.images ∙ f.log.images; stores = g.log.stores ∙ f.log.stores };
  gone = g.gone ∙ f.gone;
  line = g.line ∙ f.line;
  counts = g.counts ∙ f.counts;
  places = let x = f.places in let y = g.places in omega (arith, x, y);
  room = let x = f.room in let y = g.room in omega (arith, x, y);
}
