-- The links that leave a node, as the radio has them and as the rules have them.
use Rattle.std.proofs.Common.{◌≡◌, ◌≢◌, ℕ, suc, ◌+◌, ◌%◌, Bool, true, false, cond, List, [], ◌∷◌, ◌++◌, length, map, refl, sym, ◌∙◌, ap, arith}
use Rattle.std.proofs.lemmas.List.{map-append}
use Rattle.std.specs.Prelude.{if◌then◌else◌, ◌==◌, nat_lt, Option, Some, None, slice_get}
use Rattle.std.specs.List.{filter, filter_map, flat_map, range_with_len, cons_option}
use Rattle.std.specs.Option.{option_map_or, option_to_list}
use Rattle.mate_num.specs.declared.call.Stamp.{Stamp}
use Rattle.mate_journal.specs.declared.air.Air.TheVariants as air
use Rattle.mate_journal.specs.declared.air.Aired.{Aired}
use Rattle.event_queue.specs.declared.queue.Timed.{Timed}
use Rattle.event_queue.specs.Agenda.{due_at}
use Rattle.event_queue.proofs.AgendaLemmas.{due_at-own, due_at-other}
use Rattle.script_steps.specs.declared.world.Link.{Link}
use Rattle.radio_sim.specs.declared.shared_event.SharedEvent.{SharedEvent}
use Rattle.radio_sim.specs.declared.shared_event.SharedEvent.TheVariants as radio
use Rattle.radio_sim.specs.declared.wire.Wire.{Wire}
use Rattle.radio_sim.specs.Wires.{wire_after, leaving, lost_on, delivered_on, losts, delivered}
use Rattle.world_rules.specs.Cause as event
use Rattle.world_rules.specs.World.{World, stream_word, receiver, leaves, links_from}
use Rattle.world_rules.specs.State.{Sending, is_lost, sent_bytes, deliveries}
use Rattle.world_air.specs.Air.{timed_event, timed_events, aired_at}

map-flat_map : {X Y Z : Type 0} (f : Y → Z) (g : X → List Y) (xs : List X) → map f (flat_map g xs) ≡ flat_map (λ x. map f (g x)) xs
map-flat_map f g [] = refl
map-flat_map {X} {Y} {Z} f g (x ∷ xs) = map-append f (g x) (flat_map g xs) ∙ ap (λ (zs : List Z). map f (g x) ++ zs) (map-flat_map f g xs)

map-filter_map : {X Y Z : Type 0} (f : Y → Z) (h : X → Option Y) (xs : List X) → map f (filter_map h xs) ≡ flat_map (λ x. map f (option_to_list (h x))) xs
map-filter_map f h [] = refl
map-filter_map {X} {Y} {Z} f h (x ∷ xs) = by (h x) (map-filter_map f h xs) where
  by : (o : Option Y) → map f (filter_map h xs) ≡ flat_map (λ x. map f (option_to_list (h x))) xs → map f (cons_option o (filter_map h xs)) ≡ map f (option_to_list o) ++ flat_map (λ x. map f (option_to_list (h x))) xs
  by None rest = rest
  by (Some y) rest = ap (λ (zs : List Z). f y ∷ zs) rest

-- what the wires of a node give, one by one, is what its links give
module _ {X : Type 0} (w : World) (n node : ℕ) (f : Wire → List X) (g : ℕ → List X) (each : (j : ℕ) (l : Link) → slice_get w.links j ≡ Some l → f (wire_after w.random n j l) ≡ g j) where
  walk : (p : ℕ) (rest : List Link) → ((i : ℕ) → slice_get rest i ≡ slice_get w.links (p + i)) → flat_map f (leaving w.random n node p rest) ≡ flat_map g (filter (leaves w node) (range_with_len p (length rest)))
  walk p [] same = refl
  walk p (l ∷ rest) same =
      let here : slice_get w.links p ≡ Some l = ap (λ (k : ℕ). slice_get w.links k) (let e : p ≡ p + 0 = omega arith in e) ∙ sym (same 0) in
      let more : flat_map f (leaving w.random n node (suc p) rest) ≡ flat_map g (filter (leaves w node) (range_with_len (p + 1) (length rest))) =
      walk (suc p) rest (λ i. same (suc i) ∙ ap (λ (k : ℕ). slice_get w.links k) (let e : p + suc i ≡ suc p + i = omega arith in e))
      ∙ ap (λ (k : ℕ). flat_map g (filter (leaves w node) (range_with_len k (length rest)))) (let e : suc p ≡ p + 1 = omega arith in e) in
      let test : leaves w node p ≡ (l.from == node) = ap (λ (o : Option Link). option_map_or (λ (x : Link). x.from) o 0 == node) here in
      by (l.from == node) (each p l here) more
      ∙ ap (λ (b : Bool). flat_map g (cond b (p ∷ filter (leaves w node) (range_with_len (p + 1) (length rest))) (filter (leaves w node) (range_with_len (p + 1) (length rest))))) (sym test) where
        by : (b : Bool) → f (wire_after w.random n p l) ≡ g p → flat_map f (leaving w.random n node (suc p) rest) ≡ flat_map g (filter (leaves w node) (range_with_len (p + 1) (length rest)))
            → flat_map f (if b then wire_after w.random n p l ∷ leaving w.random n node (suc p) rest else leaving w.random n node (suc p) rest)
            ≡ flat_map g (cond b (p ∷ filter (leaves w node) (range_with_len (p + 1) (length rest))) (filter (leaves w node) (range_with_len (p + 1) (length rest))))
        by true one more = ap (λ (xs : List X). xs ++ flat_map f (leaving w.random n node (suc p) rest)) one ∙ ap (λ (xs : List X). g p ++ xs) more
        by false one more = more

  pub all-wires : flat_map f (leaving w.random n node 0 w.links) ≡ flat_map g (links_from w node)
  all-wires = walk 0 w.links (λ i. ap (λ (k : ℕ). slice_get w.links k) (let e : i ≡ 0 + i = omega arith in e))

-- ---- what is lost

module _ (w : World) (node : ℕ) (at : Stamp) (x : Sending) where
  lost-if : (b : Bool) (to : ℕ) → map (λ (a : Aired). a) (option_to_list (if b then Some (record { stamp = at; node = node; air = air.Lost x.number to }) else None))
      ≡ map (aired_at at node) (if b then air.Lost x.number to ∷ [] else [])
  lost-if true to = refl
  lost-if false to = refl

  map-same : {A : Type 0} (rs : List A) → map (λ (a : A). a) rs ≡ rs
  map-same [] = refl
  map-same {A} (a ∷ rs) = ap (λ (bs : List A). a ∷ bs) (map-same rs)

  pub losts-are : losts (record { at = at; node = node; number = x.number }) (leaving w.random x.before node 0 w.links)
      ≡ map (aired_at at node) (flat_map (λ j. if is_lost w x j then air.Lost x.number (receiver w j) ∷ [] else []) (links_from w node))
  losts-are =
      let f : Wire → List Aired = λ v. map (λ (a : Aired). a) (option_to_list (lost_on (record { at = at; node = node; number = x.number }) v)) in
      let g : ℕ → List Aired = λ j. map (aired_at at node) (if is_lost w x j then air.Lost x.number (receiver w j) ∷ [] else []) in
      let each : (j : ℕ) (l : Link) → slice_get w.links j ≡ Some l → f (wire_after w.random x.before j l) ≡ g j =
      λ j l e. lost-if (nat_lt (stream_word w (128 + j) x.before % 1000) l.loss) l.to
      ∙ ap (λ (o : Option Link). map (aired_at at node) (if nat_lt (stream_word w (128 + j) x.before % 1000) (option_map_or (λ (y : Link). y.loss) o 0) then air.Lost x.number (option_map_or (λ (y : Link). y.to) o 0) ∷ [] else [])) (sym e) in
      sym (map-same (losts (record { at = at; node = node; number = x.number }) (leaving w.random x.before node 0 w.links)))
      ∙ map-filter_map (λ (a : Aired). a) (lost_on (record { at = at; node = node; number = x.number })) (leaving w.random x.before node 0 w.links)
      ∙ all-wires w x.before node f g each
      ∙ sym (map-flat_map (aired_at at node) (λ j. if is_lost w x j then air.Lost x.number (receiver w j) ∷ [] else []) (links_from w node))

  -- ---- what is delivered

  delivered-if : (b : Bool) (j : ℕ) → map (λ (e : SharedEvent). let y : Timed SharedEvent = record { time = at.time + w.description.radio.delay; item = e } in y) (option_to_list (if b then None else Some (radio.Deliver j x.number (sent_bytes w x.packet))))
      ≡ timed_events w (if b then [] else record { time = at.time + w.description.radio.delay; cause = event.Deliver j x.number x.packet } ∷ [])
  delivered-if true j = refl
  delivered-if false j = refl

  pub delivered-are : map (λ (e : SharedEvent). let y : Timed SharedEvent = record { time = at.time + w.description.radio.delay; item = e } in y) (delivered (record { at = at; node = node; number = x.number }) (sent_bytes w x.packet) (leaving w.random x.before node 0 w.links))
      ≡ timed_events w (deliveries w node at.time x)
  delivered-are =
      let put : SharedEvent → Timed SharedEvent = λ e. record { time = at.time + w.description.radio.delay; item = e } in
      let f : Wire → List (Timed SharedEvent) = λ v. map put (option_to_list (delivered_on (record { at = at; node = node; number = x.number }) (sent_bytes w x.packet) v)) in
      let g : ℕ → List (Timed SharedEvent) = λ j. timed_events w (if is_lost w x j then [] else record { time = at.time + w.description.radio.delay; cause = event.Deliver j x.number x.packet } ∷ []) in
      let each : (j : ℕ) (l : Link) → slice_get w.links j ≡ Some l → f (wire_after w.random x.before j l) ≡ g j =
      λ j l e. delivered-if (nat_lt (stream_word w (128 + j) x.before % 1000) l.loss) j
      ∙ ap (λ (o : Option Link). timed_events w (if nat_lt (stream_word w (128 + j) x.before % 1000) (option_map_or (λ (y : Link). y.loss) o 0) then [] else record { time = at.time + w.description.radio.delay; cause = event.Deliver j x.number x.packet } ∷ [])) (sym e) in
      map-filter_map put (delivered_on (record { at = at; node = node; number = x.number }) (sent_bytes w x.packet)) (leaving w.random x.before node 0 w.links)
      ∙ all-wires w x.before node f g each
      ∙ sym (map-flat_map (timed_event w) (λ j. if is_lost w x j then [] else record { time = at.time + w.description.radio.delay; cause = event.Deliver j x.number x.packet } ∷ []) (links_from w node))

-- ---- items at one time

pub due-own : (t : ℕ) (es : List SharedEvent) → due_at t (map (λ (e : SharedEvent). let y : Timed SharedEvent = record { time = t; item = e } in y) es) ≡ es
due-own t [] = refl
due-own t (e ∷ es) = due_at-own (record { time = t; item = e }) (map (λ (e : SharedEvent). let y : Timed SharedEvent = record { time = t; item = e } in y) es) t refl ∙ ap (λ (xs : List SharedEvent). e ∷ xs) (due-own t es)

pub due-elsewhere : (s t : ℕ) (es : List SharedEvent) → s ≢ t → due_at t (map (λ (e : SharedEvent). let y : Timed SharedEvent = record { time = s; item = e } in y) es) ≡ []
due-elsewhere s t [] other = refl
due-elsewhere s t (e ∷ es) other = due_at-other (record { time = s; item = e }) (map (λ (e : SharedEvent). let y : Timed SharedEvent = record { time = s; item = e } in y) es) t other ∙ due-elsewhere s t es other
