-- What a line adds keeps a world right.
use Rattle.std.proofs.Common.{◌≡◌, ℕ, ◌+◌, ◌<◌, ◌≤◌, ℤ, Bool, true, false, ◌==◌, ◌&&◌, ◌||◌, not, cond, List, [], ◌∷◌, ◌++◌, length, get_or, slice_get, slice_set, Option, Some, None, IfOk, refl, sym, ◌∙◌, ap, subst, inl, inr, arith, append_assoc, length-append, get_or-set_same, get_or-set_other}
use Rattle.std.specs.List.{All, AllPairs}
use Rattle.std.proofs.lemmas.Bool.Decides.{eqb_tells, nat_tests}
use Rattle.std.proofs.lemmas.Bool.{and_parts}
use Rattle.std.proofs.lemmas.List.{length-set}
use Rattle.std.proofs.lemmas.Option.{slice_get_within}
use Rattle.std.specs.Option.{IsSomeAnd}
use Rattle.std.proofs.lemmas.List.Elements.{All-cons, All-tail, All-push}
use Rattle.std.proofs.lemmas.List.Kept.{AllPairs-cons}
use Rattle.std.proofs.lemmas.List.Quantifiers.{all_pairs_push}
use Rattle.mate_num.specs.declared.id.HandlerId.{HandlerId}
use Rattle.vm_shape.specs.declared.description.Description.{Description}
use Rattle.vm_shape.specs.Bounds.{HasBounds}
use Rattle.vm_shape.proofs.DescriptionLemmas.{bounds_of}
use Rattle.script_steps.specs.declared.world.World.{World}
use Rattle.script_steps.specs.declared.world.Link.{Link}
use Rattle.script_steps.specs.declared.world.Series.{Series}
use Rattle.script_steps.specs.declared.world.Planned.{Planned}
use Rattle.script_steps.specs.declared.world.What.{What}
use Rattle.script_steps.specs.declared.world.What.TheVariants as what
use Rattle.script_steps.specs.World.{IsRightLink, AreOtherLinks, IsRightSeries, AreOtherSeries, IsRightWhat, IsRightPlanned, IfInjects, Follow, IsRightWorld}
use Rattle.script_steps.specs.NodeScript.{with_file}
use Rattle.script_steps.specs.NodeReader.{files_after}
use Rattle.script_steps.specs.Script.{AnswersScript}
use Rattle.script_steps.proofs.StepLemmas.{length-with_file, files_grow}
use Rattle.script_reader.specs.declared.stage.Stage.{Stage}
use Rattle.script_reader.specs.declared.stage.Stage.TheVariants as stage
use Rattle.script_reader.specs.WorldLines.{WorldSaid, SaysNodes, SaysRandom, SaysUntil, SaysSuppress, SaysLink, SaysSeries, SaysPlanned, WorldProgress, is_linked, is_free}
use Rattle.vm_shape.proofs.ListLemmas.{AllPairs-head, AllPairs-tail}
use Rattle.script_reader.specs.Draft.{is_of_pair, HasNoLists, IsBare, IsNotedAt, KeepsWorld, IsRightEvent, IsRightWorldSaid}
use Rattle.script_reader.specs.WorldScript.{turned_back, links_of, with_series, newest_with, with_told, no_world, world_at_end, HasPlace}

-- ---- lists

none_in : {X : Type 0} (P : X → Type 0) (xs : List X) → xs ≡ [] → All P xs
none_in P xs none = λ i d h. absurd (omega (arith, ap length none))

-- ---- links

pub others_of : (from to : ℕ) (links : List Link) → is_linked from to links ≡ false → All (λ k. k.from ≡ from → k.to ≡ to → ⊥) links
others_of from to [] none = λ i d h. absurd (omega arith)
others_of from to (k ∷ links) none = by ((k.from == from) && (k.to == to)) refl none (λ none. others_of from to links none)
  where
    by : (b : Bool) → ((k.from == from) && (k.to == to)) ≡ b → (b || is_linked from to links) ≡ false → (is_linked from to links ≡ false → All (λ k. k.from ≡ from → k.to ≡ to → ⊥) links)
        → All (λ k. k.from ≡ from → k.to ≡ to → ⊥) (k ∷ links)
    by true e none rest = absurd cc
    by false e none rest = All-cons (λ k. k.from ≡ from → k.to ≡ to → ⊥) k links (λ f t. absurd (grind (arith, nat_tests))) (rest none)

not_true : (b : Bool) → not b ≡ true → b ≡ false
not_true true e = absurd cc
not_true false e = refl

nor_right : (a b : Bool) → not (a && b) ≡ true → a ≡ true → b ≡ false
nor_right true b e is = not_true b e
nor_right false b e is = absurd cc

unequal : (a b : ℕ) → not (a == b) ≡ true → a ≡ b → ⊥
unequal a b e same = absurd (grind (arith, nat_tests))

pub record AreRightLinks (nodes : ℕ) (links : List Link) : Type 0 where
  pub each : All (IsRightLink nodes) links
  pub pairs : AllPairs AreOtherLinks links

one_link : (nodes : ℕ) (links : List Link) (l : Link) → AreRightLinks nodes links → IsRightLink nodes l → is_linked l.from l.to links ≡ false → AreRightLinks nodes (links ++ l ∷ [])
one_link nodes links l old right none = record {
  each = All-push (IsRightLink nodes) links l old.each right;
  pairs = all_pairs_push AreOtherLinks links l old.pairs (λ i d h. others_of l.from l.to links none i d h);
}

turned_right : (nodes : ℕ) (l : Link) → IsRightLink nodes l → IsRightLink nodes (turned_back l)
turned_right nodes l r = record { from_high = r.to_high; to_high = r.from_high; apart = λ e. r.apart (sym e); loss_high = r.loss_high }

linked_back : (from to : ℕ) (links : List Link) (l : Link) → is_linked from to links ≡ false → (l.from ≡ from → ⊥) → is_linked from to (links ++ l ∷ []) ≡ false
linked_back from to [] l none other = by (l.from == from) refl
  where
    by : (b : Bool) → (l.from == from) ≡ b → ((l.from == from) && (l.to == to) || false) ≡ false
    by true e = absurd (other (grind (arith, nat_tests)))
    by false e = rw e refl
linked_back from to (k ∷ links) l none other = by ((k.from == from) && (k.to == to)) none (λ none. linked_back from to links l none other)
  where
    by : (b : Bool) → (b || is_linked from to links) ≡ false → (is_linked from to links ≡ false → is_linked from to (links ++ l ∷ []) ≡ false)
        → (b || is_linked from to (links ++ l ∷ [])) ≡ false
    by true none rest = absurd cc
    by false none rest = rest none

more_links : (nodes : ℕ) (links : List Link) (l : Link) (both : Bool) → AreRightLinks nodes links → IsRightLink nodes l → is_free links both l.from l.to ≡ true → AreRightLinks nodes (links ++ links_of l both)
more_links nodes links l false old right free =
    let parts = and_parts (not (is_linked l.from l.to links)) (not (false && is_linked l.to l.from links)) (and_parts (not (l.from == l.to)) _ free).1 in
    one_link nodes links l old right (not_true _ parts.0)
more_links nodes links l true old right free =
    let parts = and_parts (not (is_linked l.from l.to links)) (not (true && is_linked l.to l.from links)) (and_parts (not (l.from == l.to)) _ free).1 in
    let first : AreRightLinks nodes (links ++ l ∷ []) = one_link nodes links l old right (not_true _ parts.0) in
    let back : is_linked l.to l.from (links ++ l ∷ []) ≡ false = linked_back l.to l.from links l (nor_right true (is_linked l.to l.from links) parts.1 refl) right.apart in
    let P : List Link → Type 0 = λ ls. AreRightLinks nodes ls in
    subst P (append_assoc links (l ∷ []) (turned_back l ∷ [])) (one_link nodes (links ++ l ∷ []) (turned_back l) first (turned_right nodes l right) back)

-- ---- series

-- what holds of every series and of a new one, whatever values it has, holds with it
all_with : (Q : Series → Type 0) (s : Series) (series : List Series) → ((r : Series) (more : List ℤ) → Q r → Q (record r { values = r.values ++ more })) → All Q series → Q s → All Q (with_series s series)
all_with Q s [] more all new = All-cons Q s [] new all
all_with Q s (r ∷ series) more all new = by (is_of_pair s.node s.fun.0 r) (all_with Q s series more (All-tail Q r series all) new)
  where
    by : (b : Bool) → All Q (with_series s series) → All Q (cond b (record r { values = r.values ++ s.values } ∷ series) (r ∷ with_series s series))
    by true rest = All-cons Q (record r { values = r.values ++ s.values }) series (more r s.values (all 0 r (omega arith))) (All-tail Q r series all)
    by false rest = All-cons Q r (with_series s series) (all 0 r (omega arith)) rest

other_pair : (s r : Series) → is_of_pair s.node s.fun.0 r ≡ false → AreOtherSeries r s
other_pair s r other node fun = absurd (let f : r.fun.0 ≡ s.fun.0 = ap (λ x. x.0) fun in grind (arith, nat_tests))

pairs_with : (s : Series) (series : List Series) → AllPairs AreOtherSeries series → AllPairs AreOtherSeries (with_series s series)
pairs_with s [] pairs = AllPairs-cons AreOtherSeries s [] (none_in (AreOtherSeries s) [] refl) (λ i j d h k. absurd (omega arith))
pairs_with s (r ∷ series) pairs = by (is_of_pair s.node s.fun.0 r) refl (pairs_with s series (AllPairs-tail AreOtherSeries r series pairs))
  where
    by : (b : Bool) → is_of_pair s.node s.fun.0 r ≡ b → AllPairs AreOtherSeries (with_series s series) → AllPairs AreOtherSeries (cond b (record r { values = r.values ++ s.values } ∷ series) (r ∷ with_series s series))
    by true e rest = AllPairs-cons AreOtherSeries (record r { values = r.values ++ s.values }) series (AllPairs-head AreOtherSeries r series pairs) (AllPairs-tail AreOtherSeries r series pairs)
    by false e rest = AllPairs-cons AreOtherSeries r (with_series s series) (all_with (AreOtherSeries r) s series (λ t more h. h) (AllPairs-head AreOtherSeries r series pairs) (other_pair s r e)) rest

longer : (d : Description) (nodes : ℕ) (s : Series) (more : List ℤ) → IsRightSeries d nodes s → IsRightSeries d nodes (record s { values = s.values ++ more })
longer d nodes s more r = record { node_high = r.node_high; senses = r.senses; some = let len : length (s.values ++ more) ≡ length s.values + length more = length-append s.values more in omega (arith, r.some) }

-- ---- events

what_on : (d : Description) (m n : ℕ) → m ≤ n → (w : What) → IsRightWhat d m w → IsRightWhat d n w
what_on d m n more (what.Inject program handler version) r = record { handler_high = r.handler_high; version_low = r.version_low; version_high = r.version_high; program_high = omega (arith, r.program_high) }
what_on d m n more _ r = r

event_on : (d : Description) (nodes until m n : ℕ) → m ≤ n → (e : Planned) → IsRightPlanned d nodes until m e → IsRightPlanned d nodes until n e
event_on d nodes until m n more e r = record { time_high = r.time_high; node_high = r.node_high; what = what_on d m n more e.what r.what }

rises_to : (newest : List ℕ) (h : HandlerId) (version : ℕ) (b : What) → version ≤ get_or newest h.0 0 → IfInjects b (λ handler version. get_or newest handler.0 0 < version)
    → IfInjects b (λ other newer. h ≡ other → version < newer)
rises_to newest h version (what.Inject program other later) noted newer = λ same. let at : get_or newest h.0 0 ≡ get_or newest other.0 0 = ap (λ (h : HandlerId). get_or newest h.0 0) same in omega arith
rises_to newest h version _ noted newer = tt

rises : (newest : List ℕ) (a b : What) → IfInjects a (λ handler version. version ≤ get_or newest handler.0 0) → IfInjects b (λ handler version. get_or newest handler.0 0 < version)
    → IfInjects a (λ handler version. IfInjects b (λ other newer. handler ≡ other → version < newer))
rises newest (what.Inject program handler version) b noted newer = rises_to newest handler version b noted newer
rises newest _ b noted newer = tt

at_least : (newest : List ℕ) (place version k : ℕ) → place < length newest → get_or newest place 0 < version → get_or newest k 0 ≤ get_or (slice_set newest place version) k 0
at_least newest place version k within newer =
    elim (eqb_tells k place) [
      | inl same ↦ rw same.1 (let e : get_or (slice_set newest place version) place 0 ≡ version = get_or-set_same newest place version 0 within in omega arith)
      | inr other ↦ let e : get_or (slice_set newest place version) k 0 ≡ get_or newest k 0 = get_or-set_other newest place k version 0 other.1 in omega arith
    ]

noted_on : (newest : List ℕ) (place version : ℕ) → place < length newest → get_or newest place 0 < version → (w : What) → IfInjects w (λ handler v. v ≤ get_or newest handler.0 0)
    → IfInjects w (λ handler v. v ≤ get_or (slice_set newest place version) handler.0 0)
noted_on newest place version within newer (what.Inject program handler v) noted = omega (arith, at_least newest place version handler.0 within newer)
noted_on newest place version within newer _ noted = tt

-- the versions that are noted after an event
record Notes (newest : List ℕ) (w : What) : Type 0 where
  places : length (newest_with newest w) ≡ length newest
  noted : (old : What) → IfInjects old (λ handler v. v ≤ get_or newest handler.0 0) → IfInjects old (λ handler v. v ≤ get_or (newest_with newest w) handler.0 0)
  own : IfInjects w (λ handler v. v ≤ get_or (newest_with newest w) handler.0 0)

notes : (d : Description) (files : ℕ) (newest : List ℕ) (w : What) → length newest ≡ 8 → IsRightWhat d files w → IfInjects w (λ handler version. get_or newest handler.0 0 < version) → Notes newest w
notes d files newest (what.Inject program handler version) places right newer =
    let bounds : HasBounds d = bounds_of d in
    let high : handler.0 < length d.handlers.items = right.handler_high in
    let few : length d.handlers.items ≤ 8 = bounds.handlers_high in
    let within : handler.0 < length newest = omega arith in
    record {
      places = length-set newest handler.0 version;
      noted = noted_on newest handler.0 version within newer;
      own = let e : get_or (slice_set newest handler.0 version) handler.0 0 ≡ version = get_or-set_same newest handler.0 version 0 within in omega arith;
    }
notes d files newest _ places right newer = record { places = refl; noted = λ old h. h; own = tt }

keeps_event : (d : Description) (p : WorldProgress) (e : Planned) (file : Option (List ℕ)) → KeepsWorld d p → IsRightEvent d p e file → KeepsWorld d (with_told p (SaysPlanned e file))
keeps_event d p e file k r =
    let n : ℕ = length p.world.files in
    let after : ℕ = length (with_file p.world.files file) in
    let len : after ≡ files_after n file = length-with_file p.world.files file in
    let grows : n ≤ after = omega (arith, files_grow n file) in
    let P : ℕ → Type 0 = λ m. IsRightPlanned d p.world.nodes p.world.until m e in
    let right : IsRightPlanned d p.world.nodes p.world.until after e = subst P (sym len) r.right in
    let now : Notes p.newest e.what = notes d after p.newest e.what k.places right.what r.newer in
    record {
      bare = tt;
      nodes_low = k.nodes_low;
      nodes_high = k.nodes_high;
      until_low = k.until_low;
      until_high = k.until_high;
      links = k.links;
      one_link = k.one_link;
      series = k.series;
      one_series = k.one_series;
      events = All-push (IsRightPlanned d p.world.nodes p.world.until after) p.world.events e (λ i x h. event_on d p.world.nodes p.world.until n after grows (get_or p.world.events i x) (k.events i x h)) right;
      in_order = all_pairs_push Follow p.world.events e k.in_order
          (λ i x h. record { time = omega (arith, k.past i x h, r.later); rising = rises p.newest (get_or p.world.events i x).what e.what (k.noted i x h) r.newer });
      past = All-push (λ x. x.time ≤ e.time) p.world.events e (λ i x h. omega (arith, k.past i x h, r.later)) (omega arith);
      places = now.places ∙ k.places;
      noted = All-push (IsNotedAt (newest_with p.newest e.what)) p.world.events e (λ i x h. now.noted (get_or p.world.events i x).what (k.noted i x h)) now.own;
    }

-- ---- every line

bare_as : (s : Stage) (w new : World) → new.links ≡ w.links → new.series ≡ w.series → new.events ≡ w.events → IsBare s w → IsBare s new
bare_as stage.Settings w new l s e b = tt
bare_as stage.Events w new l s e b = tt
bare_as _ w new l s e b = record { links = l ∙ b.links; series = s ∙ b.series; events = e ∙ b.events }

bare_at : (p : WorldProgress) (s : Stage) → p.stage ≡ s → IsBare p.stage p.world → IsBare s p.world
bare_at p s e b = let P : Stage → Type 0 = λ s. IsBare s p.world in subst P e b

settled : (p : WorldProgress) (w : World) → p.stage ≡ stage.Settings → IsBare p.stage w
settled p w e = let P : Stage → Type 0 = λ s. IsBare s w in subst P (sym e) tt

pub keeps_told : (d : Description) (p : WorldProgress) (said : WorldSaid) → KeepsWorld d p → IsRightWorldSaid d p said → KeepsWorld d (with_told p said)
keeps_told d p (SaysNodes nodes) k r =
    let bare : HasNoLists p.world = bare_at p stage.Nodes r.2 k.bare in
    record {
      bare = bare_as stage.Random p.world (record p.world { nodes = nodes }) refl refl refl bare;
      nodes_low = r.0;
      nodes_high = r.1;
      until_low = k.until_low;
      until_high = k.until_high;
      links = none_in (IsRightLink nodes) p.world.links bare.links;
      one_link = k.one_link;
      series = none_in (IsRightSeries d nodes) p.world.series bare.series;
      one_series = k.one_series;
      events = none_in (IsRightPlanned d nodes p.world.until (length p.world.files)) p.world.events bare.events;
      in_order = k.in_order;
      past = k.past;
      places = k.places;
      noted = k.noted;
    }
keeps_told d p (SaysRandom random) k r =
    let bare : HasNoLists p.world = bare_at p stage.Random r k.bare in
    record {
      bare = bare_as stage.Until p.world (record p.world { random = random }) refl refl refl bare;
      nodes_low = k.nodes_low;
      nodes_high = k.nodes_high;
      until_low = k.until_low;
      until_high = k.until_high;
      links = k.links;
      one_link = k.one_link;
      series = k.series;
      one_series = k.one_series;
      events = k.events;
      in_order = k.in_order;
      past = k.past;
      places = k.places;
      noted = k.noted;
    }
keeps_told d p (SaysUntil until) k r =
    let bare : HasNoLists p.world = bare_at p stage.Until r.2 k.bare in
    record {
      bare = tt;
      nodes_low = k.nodes_low;
      nodes_high = k.nodes_high;
      until_low = r.0;
      until_high = r.1;
      links = k.links;
      one_link = k.one_link;
      series = k.series;
      one_series = k.one_series;
      events = none_in (IsRightPlanned d p.world.nodes until (length p.world.files)) p.world.events bare.events;
      in_order = k.in_order;
      past = k.past;
      places = k.places;
      noted = k.noted;
    }
keeps_told d p (SaysSuppress on) k r =
    record {
      bare = bare_as p.stage p.world (record p.world { suppress = on }) refl refl refl k.bare;
      nodes_low = k.nodes_low;
      nodes_high = k.nodes_high;
      until_low = k.until_low;
      until_high = k.until_high;
      links = k.links;
      one_link = k.one_link;
      series = k.series;
      one_series = k.one_series;
      events = k.events;
      in_order = k.in_order;
      past = k.past;
      places = k.places;
      noted = k.noted;
    }
keeps_told d p (SaysLink link both) k r =
    let links : AreRightLinks p.world.nodes (p.world.links ++ links_of link both) = more_links p.world.nodes p.world.links link both (record { each = k.links; pairs = k.one_link }) r.0 r.1 in
    record {
      bare = settled p (with_told p (SaysLink link both)).world r.2;
      nodes_low = k.nodes_low;
      nodes_high = k.nodes_high;
      until_low = k.until_low;
      until_high = k.until_high;
      links = links.each;
      one_link = links.pairs;
      series = k.series;
      one_series = k.one_series;
      events = k.events;
      in_order = k.in_order;
      past = k.past;
      places = k.places;
      noted = k.noted;
    }
keeps_told d p (SaysSeries series) k r =
    record {
      bare = settled p (with_told p (SaysSeries series)).world r.1;
      nodes_low = k.nodes_low;
      nodes_high = k.nodes_high;
      until_low = k.until_low;
      until_high = k.until_high;
      links = k.links;
      one_link = k.one_link;
      series = all_with (IsRightSeries d p.world.nodes) series p.world.series (λ s more h. longer d p.world.nodes s more h) k.series r.0;
      one_series = pairs_with series p.world.series k.one_series;
      events = k.events;
      in_order = k.in_order;
      past = k.past;
      places = k.places;
      noted = k.noted;
    }
keeps_told d p (SaysPlanned e file) k r = keeps_event d p e file k r

pub keeps_no_world : (d : Description) → KeepsWorld d no_world
keeps_no_world d = record {
  bare = record { links = refl; series = refl; events = refl };
  nodes_low = omega arith;
  nodes_high = omega arith;
  until_low = omega arith;
  until_high = omega arith;
  links = none_in _ [] refl;
  one_link = λ i j x h k. absurd (omega arith);
  series = none_in _ [] refl;
  one_series = λ i j x h k. absurd (omega arith);
  events = none_in _ [] refl;
  in_order = λ i j x h k. absurd (omega arith);
  past = none_in _ [] refl;
  places = refl;
  noted = none_in _ [] refl;
}

right_world : (d : Description) (p : WorldProgress) → KeepsWorld d p → length p.world.events < 4000000000 → IsRightWorld d p.world
right_world d p k few = record {
  nodes_low = k.nodes_low;
  nodes_high = k.nodes_high;
  until_low = k.until_low;
  until_high = k.until_high;
  links = k.links;
  one_link = k.one_link;
  series = k.series;
  one_series = k.one_series;
  events = k.events;
  in_order = k.in_order;
  few = few;
}

pub right_at_end : (d : Description) (s : Stage) (number : ℕ) (p : WorldProgress) → KeepsWorld d p → length p.world.events < 4000000000 → IfOk (world_at_end s number p) (IsRightWorld d)
right_at_end d stage.Settings number p k few = right_world d p k few
right_at_end d stage.Events number p k few = right_world d p k few
right_at_end d _ number p k few = tt

pub answers_at_end : (s : Stage) (number : ℕ) (p : WorldProgress) → AnswersScript (world_at_end s number p) (world_at_end s number p)
answers_at_end stage.Nodes number p = refl
answers_at_end _ number p = refl

within : {X : Type 0} (xs : List X) (i : ℕ) (P : X → Type 0) (o : Option X) → slice_get xs i ≡ o → IsSomeAnd o P → i < length xs
within xs i P None e h = absurd h
within xs i P (Some x) e h = slice_get_within xs i x e

-- the tables have a place for what a right line says
pub has_place : (d : Description) (p : WorldProgress) (said : WorldSaid) → KeepsWorld d p → IsRightWorldSaid d p said → HasPlace p said
has_place d p (SaysLink link both) k r = (omega (arith, r.0.from_high, k.nodes_high), omega (arith, r.0.to_high, k.nodes_high))
has_place d p (SaysSeries series) k r =
    let bounds : HasBounds d = bounds_of d in
    let known : series.fun.0 < length d.functions.items = within d.functions.items series.fun.0 _ (slice_get d.functions.items series.fun.0) refl r.0.senses in
    (omega (arith, r.0.node_high, k.nodes_high), omega (arith, known, bounds.functions_high))
has_place d p _ k r = tt
