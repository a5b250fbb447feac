-- The links that leave a node: their words, what they lose, and what they deliver.
use Rattle.std.proofs.Common.{◌≡◌, ℕ, suc, ◌+◌, ◌<◌, ◌≤◌, Bool, true, false, List, [], ◌∷◌, ◌++◌, length, map, get_or, take, refl, sym, ◌∙◌, ap, subst, arith, append_assoc}
use Rattle.std.specs.Prelude.{if◌then◌else◌, ◌==◌, Some, None}
use Rattle.std.specs.List.{cons_option}
use Rattle.std.proofs.lemmas.List.{append-nil, take_all, take_more}
use Rattle.std.proofs.lemmas.List.Elements.{filter_map-append}
use Rattle.rand_pcg.specs.Lcg.{Lcg}
use Rattle.rand_pcg.specs.Pcg.{pcg32}
use Rattle.trickle_timer.proofs.StreamLemmas.{advance_step, advance_none}
use Rattle.arrayvec.specs.ArrayVec.{ArrayVec}
use Rattle.mate_journal.specs.declared.air.Air.TheVariants as air
use Rattle.mate_journal.specs.declared.air.Aired.{Aired}
use Rattle.script_steps.specs.declared.world.Link.{Link}
use Rattle.radio_sim.specs.declared.waiting.Delivery.{Delivery}
use Rattle.radio_sim.specs.declared.wire.Wire.{Wire}
use Rattle.radio_sim.specs.declared.wire.Sending.{Sending}
use Rattle.radio_sim.specs.Sending.{IsFurther}
use Rattle.radio_sim.specs.Wires.{link_stream, words_from, link_word, wire_after, leaving, turned_wire, loses, lost_on, carried_on, losts, carried_by}

-- a link before its first packet
pub wire_made : (random position : ℕ) (l : Link) (words rest : Lcg) (word : ℕ) → words ≡ link_stream random position → word ≡ (pcg32 words).0 → rest ≡ (pcg32 words).1
    → record { link = position; to = l.to; loss = l.loss; word = word; words = rest } ≡ wire_after random 0 position l
wire_made random position l words rest word is word_is rest_is =
    let begun : words ≡ words_from random position 0 = is ∙ sym (advance_none (link_stream random position)) in
    let with_word : ℕ → Wire = λ w. record { link = position; to = l.to; loss = l.loss; word = w; words = rest } in
    let with_words : Lcg → Wire = λ g. record { link = position; to = l.to; loss = l.loss; word = link_word random position 0; words = g } in
    ap with_word (word_is ∙ ap (λ (g : Lcg). (pcg32 g).0) begun) ∙ ap with_words (rest_is ∙ ap (λ (g : Lcg). (pcg32 g).1) begun ∙ advance_step 0 (link_stream random position))

-- a link after a packet more
turned_after : (random n position : ℕ) (l : Link) → turned_wire (wire_after random n position l) ≡ wire_after random (n + 1) position l
turned_after random n position l =
    let with_words : Lcg → Wire = λ g. record { link = position; to = l.to; loss = l.loss; word = link_word random position (n + 1); words = g } in
    ap with_words (advance_step (n + 1) (link_stream random position))

pub turned_leaving : (random n node position : ℕ) (links : List Link) → map turned_wire (leaving random n node position links) ≡ leaving random (n + 1) node position links
turned_leaving random n node position [] = refl
turned_leaving random n node position (l ∷ links) = by (l.from == node) (turned_leaving random n node (suc position) links)
  where
    by : (b : Bool) → map turned_wire (leaving random n node (suc position) links) ≡ leaving random (n + 1) node (suc position) links → map turned_wire (if b then wire_after random n position l ∷ leaving random n node (suc position) links else leaving random n node (suc position) links)
        ≡ (if b then wire_after random (n + 1) position l ∷ leaving random (n + 1) node (suc position) links else leaving random (n + 1) node (suc position) links)
    by true rest = ap (λ (w : Wire). w ∷ map turned_wire (leaving random n node (suc position) links)) (turned_after random n position l) ∙ ap (λ (ws : List Wire). wire_after random (n + 1) position l ∷ ws) rest
    by false rest = rest

-- a link more at the end
pub leaving_push : (random n node position : ℕ) (links : List Link) (l : Link) → leaving random n node position (links ++ l ∷ [])
    ≡ leaving random n node position links ++ (if l.from == node then wire_after random n (position + length links) l ∷ [] else [])
leaving_push random n node position [] l = by (l.from == node)
  where
    same : position ≡ position + 0
    same = omega arith

    by : (b : Bool) → (if b then wire_after random n position l ∷ [] else []) ≡ (if b then wire_after random n (position + 0) l ∷ [] else [])
    by true = ap (λ (p : ℕ). wire_after random n p l ∷ []) same
    by false = refl
leaving_push random n node position (k ∷ links) l =
    by (k.from == node) (leaving_push random n node (suc position) links l ∙ ap (λ (p : ℕ). leaving random n node (suc position) links ++ (if l.from == node then wire_after random n p l ∷ [] else [])) same)
  where
    same : suc position + length links ≡ position + suc (length links)
    same = omega arith

    by : (b : Bool) → leaving random n node (suc position) (links ++ l ∷ []) ≡ leaving random n node (suc position) links ++ (if l.from == node then wire_after random n (position + suc (length links)) l ∷ [] else []) → (if b then wire_after random n position k ∷ leaving random n node (suc position) (links ++ l ∷ []) else leaving random n node (suc position) (links ++ l ∷ []))
        ≡ (if b then wire_after random n position k ∷ leaving random n node (suc position) links else leaving random n node (suc position) links) ++ (if l.from == node then wire_after random n (position + suc (length links)) l ∷ [] else [])
    by true rest = ap (λ (ws : List Wire). wire_after random n position k ∷ ws) rest
    by false rest = rest

-- the links so far carried the packet
pub record Carried (s : Sending) (bytes : ArrayVec ℕ) (ws : List Wire) (old new : List Aired) (before after : List Delivery) : Type 0 where
  pub air : new ≡ old ++ losts s ws
  pub carried : after ≡ before ++ carried_by s bytes ws

pub carried_none : (s : Sending) (bytes : ArrayVec ℕ) (old : List Aired) (before : List Delivery) → Carried s bytes [] old old before before
carried_none s bytes old before = record { air = sym (append-nil old); carried = sym (append-nil before) }

append_one : {X : Type 0} (old mid front : List X) (x : X) → mid ≡ old ++ front → mid ++ x ∷ [] ≡ old ++ (front ++ x ∷ [])
append_one {X} old mid front x is = ap (λ (xs : List X). xs ++ x ∷ []) is ∙ append_assoc old front (x ∷ [])

-- one more is lost
pub carried_lost : (s : Sending) (bytes : ArrayVec ℕ) (ws : List Wire) (w : Wire) (old mid : List Aired) (before after : List Delivery) → Carried s bytes ws old mid before after → loses w ≡ true
    → Carried s bytes (ws ++ w ∷ []) old (mid ++ record { stamp = s.at; node = s.node; air = air.Lost s.number w.to } ∷ []) before after
carried_lost s bytes ws w old mid before after so_far lost =
    let one : losts s (w ∷ []) ≡ record { stamp = s.at; node = s.node; air = air.Lost s.number w.to } ∷ [] =
    ap (λ (b : Bool). cons_option (if b then Some (record { stamp = s.at; node = s.node; air = air.Lost s.number w.to }) else None) []) lost in
    let none_more : carried_by s bytes (w ∷ []) ≡ [] = ap (λ (b : Bool). cons_option (if b then None else Some (record { link = w.link; number = s.number; bytes = bytes })) []) lost in
    record {
      air = append_one old mid (losts s ws) (record { stamp = s.at; node = s.node; air = air.Lost s.number w.to }) so_far.air
          ∙ ap (λ (xs : List Aired). old ++ (losts s ws ++ xs)) (sym one) ∙ ap (λ (xs : List Aired). old ++ xs) (sym (filter_map-append (lost_on s) ws (w ∷ [])));
      carried = so_far.carried ∙ ap (λ (xs : List Delivery). before ++ xs) (sym (append-nil (carried_by s bytes ws)) ∙ ap (λ (xs : List Delivery). carried_by s bytes ws ++ xs) (sym none_more) ∙ sym (filter_map-append (carried_on s bytes) ws (w ∷ [])));
    }

-- one more is delivered
pub carried_delivered : (s : Sending) (bytes : ArrayVec ℕ) (ws : List Wire) (w : Wire) (old mid : List Aired) (before after : List Delivery) → Carried s bytes ws old mid before after → loses w ≡ false
    → Carried s bytes (ws ++ w ∷ []) old mid before (after ++ record { link = w.link; number = s.number; bytes = bytes } ∷ [])
carried_delivered s bytes ws w old mid before after so_far kept =
    let none_more : losts s (w ∷ []) ≡ [] = ap (λ (b : Bool). cons_option (if b then Some (record { stamp = s.at; node = s.node; air = air.Lost s.number w.to }) else None) []) kept in
    let one : carried_by s bytes (w ∷ []) ≡ record { link = w.link; number = s.number; bytes = bytes } ∷ [] = ap (λ (b : Bool). cons_option (if b then None else Some (record { link = w.link; number = s.number; bytes = bytes })) []) kept in
    record {
      air = so_far.air ∙ ap (λ (xs : List Aired). old ++ xs) (sym (append-nil (losts s ws)) ∙ ap (λ (xs : List Aired). losts s ws ++ xs) (sym none_more) ∙ sym (filter_map-append (lost_on s) ws (w ∷ [])));
      carried = append_one before after (carried_by s bytes ws) (record { link = w.link; number = s.number; bytes = bytes }) so_far.carried
          ∙ ap (λ (xs : List Delivery). before ++ (carried_by s bytes ws ++ xs)) (sym one) ∙ ap (λ (xs : List Delivery). before ++ xs) (sym (filter_map-append (carried_on s bytes) ws (w ∷ [])));
    }

pub take_front : {X : Type 0} (xs ys zs : List X) → zs ≡ xs ++ ys → take (length xs) zs ≡ xs
take_front {X} xs ys zs is = ap (take (length xs)) is ∙ by xs
  where
    by : (us : List X) → take (length us) (us ++ ys) ≡ us
    by [] = refl
    by (u ∷ us) = ap (λ (vs : List X). u ∷ vs) (by us)

-- the first i links and all of them
pub carried_all : (s : Sending) (bytes : ArrayVec ℕ) (ws vs : List Wire) (i : ℕ) (old new : List Aired) (before after : List Delivery) → Carried s bytes (take i ws) old new before after → length ws ≤ i → ws ≡ vs → Carried s bytes vs old new before after
carried_all s bytes ws vs i old new before after so_far all is = subst (λ (us : List Wire). Carried s bytes us old new before after) (take_all i ws all ∙ is) so_far

pub further : (s : Sending) (bytes : ArrayVec ℕ) (ws : List Wire) (old new : List Aired) (before after : List Delivery) → Carried s bytes ws old new before after → IsFurther old new
further s bytes ws old new before after so_far = record { rest = losts s ws; is = so_far.air }

pub further_both : (old mid new : List Aired) → IsFurther old mid → IsFurther mid new → IsFurther old new
further_both old mid new a b = record { rest = a.rest ++ b.rest; is = b.is ∙ ap (λ (xs : List Aired). xs ++ b.rest) a.is ∙ append_assoc old a.rest b.rest }

pub further_none : (old : List Aired) → IsFurther old old
further_none old = record { rest = []; is = sym (append-nil old) }

pub further_push : (old new : List Aired) (x : Aired) → new ≡ old ++ x ∷ [] → IsFurther old new
further_push old new x is = record { rest = x ∷ []; is = is }

pub cut : (old new : List Aired) → IsFurther old new → take (length old) new ≡ old
cut old new more = take_front old more.rest new more.is

-- one link more of a list
next_link : (ws : List Wire) (i : ℕ) (w : Wire) → i < length ws → w ≡ get_or ws i w → take i ws ++ w ∷ [] ≡ take (i + 1) ws
next_link ws i w within is = ap (λ (x : Wire). take i ws ++ x ∷ []) is ∙ sym (take_more ws i w within)

pub lost_more : (s : Sending) (bytes : ArrayVec ℕ) (ws : List Wire) (i : ℕ) (w : Wire) (old mid mid' : List Aired) (before after after' : List Delivery) → Carried s bytes (take i ws) old mid before after → i < length ws → w ≡ get_or ws i w → loses w ≡ true
    → mid' ≡ mid ++ record { stamp = s.at; node = s.node; air = air.Lost s.number w.to } ∷ [] → after' ≡ after → Carried s bytes (take (i + 1) ws) old mid' before after'
lost_more s bytes ws i w old mid mid' before after after' so_far within is lost mid_is after_is =
    let one = carried_lost s bytes (take i ws) w old mid before after so_far lost in
    let two = subst (λ (us : List Wire). Carried s bytes us old (mid ++ record { stamp = s.at; node = s.node; air = air.Lost s.number w.to } ∷ []) before after) (next_link ws i w within is) one in
    let three = subst (λ (xs : List Aired). Carried s bytes (take (i + 1) ws) old xs before after) (sym mid_is) two in
    subst (λ (es : List Delivery). Carried s bytes (take (i + 1) ws) old mid' before es) (sym after_is) three

pub delivered_more : (s : Sending) (bytes copy : ArrayVec ℕ) (ws : List Wire) (i : ℕ) (w : Wire) (old mid mid' : List Aired) (before after after' : List Delivery) → Carried s bytes (take i ws) old mid before after → i < length ws → w ≡ get_or ws i w → loses w ≡ false
    → mid' ≡ mid → copy ≡ bytes → after' ≡ after ++ record { link = w.link; number = s.number; bytes = copy } ∷ [] → Carried s bytes (take (i + 1) ws) old mid' before after'
delivered_more s bytes copy ws i w old mid mid' before after after' so_far within is kept mid_is copy_is after_is =
    let one = carried_delivered s bytes (take i ws) w old mid before after so_far kept in
    let two = subst (λ (us : List Wire). Carried s bytes us old mid before (after ++ record { link = w.link; number = s.number; bytes = bytes } ∷ [])) (next_link ws i w within is) one in
    let three = subst (λ (xs : List Aired). Carried s bytes (take (i + 1) ws) old xs before (after ++ record { link = w.link; number = s.number; bytes = bytes } ∷ [])) (sym mid_is) two in
    subst (λ (es : List Delivery). Carried s bytes (take (i + 1) ws) old mid' before es) (sym (after_is ∙ ap (λ (b : ArrayVec ℕ). after ++ record { link = w.link; number = s.number; bytes = b } ∷ []) copy_is)) three
