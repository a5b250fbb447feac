-- The links of a world, and the radio after a transmission.
use Rattle.std.proofs.Common.{◌≡◌, ◌≢◌, ℕ, suc, ◌+◌, ◌*◌, ◌<◌, ◌≤◌, Bool, true, false, List, [], ◌∷◌, ◌++◌, length, map, get_or, set, take, refl, sym, ◌∙◌, ap, subst, arith, inl, inr, append_assoc}
use Rattle.std.specs.Prelude.{◌==◌, ◌||◌, if◌then◌else◌, Result, Ok, Err, is_err, IfOk, OnOk, MatchResult}
use Rattle.std.specs.List.{All, AllPairs, AllByRecursion, IsDistinct, list_any}
use Rattle.std.proofs.lemmas.Bool.{cases_eq, ne_eqb, false≢true}
use Rattle.std.proofs.lemmas.Bool.Decides.{eqb_tells}
use Rattle.std.proofs.lemmas.List.{append-nil, take_more, get_or-set_same, get_or-set_other, length-take-le, length-append, length-map, get_or_default, take_all}
use Rattle.std.proofs.lemmas.List.Sums.{sum_by_push}
use Rattle.std.proofs.lemmas.Map.Steps.{length-le_from_distinct_below}
use Rattle.arrayvec.specs.ArrayVec.{ArrayVec}
use Rattle.event_queue.specs.Agenda.{Agenda, scheduled_all}
use Rattle.mate_num.specs.declared.no_memory.NoMemory.{NoMemory}
use Rattle.mate_journal.specs.declared.air.Aired.{Aired}
use Rattle.script_steps.specs.declared.world.Link.{Link}
use Rattle.script_steps.specs.declared.world.World.{World}
use Rattle.script_steps.specs.World.{AreOtherLinks, IsRightWorld}
use Rattle.vm_shape.specs.declared.description.Description.{Description}
use Rattle.radio_sim.specs.declared.shared_event.SharedEvent.{SharedEvent}
use Rattle.radio_sim.specs.declared.wire.Sending.{Sending}
use Rattle.radio_sim.specs.declared.wire.Wire.{Wire}
use Rattle.radio_sim.specs.Wires.{wire_after, leaving, turned_wire, losts, delivered}
use Rattle.radio_sim.specs.Sending.{AreLeaving, sent_record}
use Rattle.radio_sim.specs.Radio.{Ether, wires_of, packets, transmitted, IsEtherOf}
use Rattle.radio_sim.proofs.WireLemmas.{leaving_push, turned_leaving}

-- a link has its number of 4,096
code : Link → ℕ
code l = l.from * 64 + l.to

any_below : (ls : List Link) → ((k : ℕ) (d : Link) → k < length ls → ((get_or ls k d).from < 64) × ((get_or ls k d).to < 64)) → (q : ℕ) → list_any (λ y. q == y) (map code ls) ≡ true → q < 4096
unfolding code
any_below [] low q any = absurd (false≢true any)
any_below (l ∷ ls) low q any = elim (eqb_tells q (l.from * 64 + l.to)) [
  | inl e ↦ (let here = low 0 l (omega arith) in let is = e.1 in omega (arith, is, here.0, here.1))
  | inr e ↦ any_below ls (λ k d less. low (suc k) d (omega (arith, less))) q (sym (ap (λ (b : Bool). b || list_any (λ y. q == y) (map code ls)) e.0) ∙ any)
]

all_apart : (l : Link) (ls : List Link) → l.to < 64 → ((k : ℕ) (d : Link) → k < length ls → (get_or ls k d).to < 64) → ((k : ℕ) (d : Link) → k < length ls → AreOtherLinks l (get_or ls k d)) → AllByRecursion (λ y. (code l == y) ≡ false) (map code ls)
unfolding code
all_apart l [] low lows others = tt
all_apart l (k ∷ ks) low lows others = (
  ne_eqb (l.from * 64 + l.to) (k.from * 64 + k.to) (λ same. let here = lows 0 k (omega arith) in others 0 k (omega arith) (omega (arith, same, low, here)) (omega (arith, same, low, here))),
  all_apart l ks low (λ j d less. lows (suc j) d (omega (arith, less))) (λ j d less. others (suc j) d (omega (arith, less))),
)

distinct_codes : (ls : List Link) → ((k : ℕ) (d : Link) → k < length ls → (get_or ls k d).to < 64) → AllPairs AreOtherLinks ls → IsDistinct (λ x y. x == y) (map code ls)
unfolding IsDistinct
distinct_codes [] lows pairs = tt
distinct_codes (l ∷ ls) lows pairs = (
  all_apart l ls (lows 0 l (omega arith)) (λ k d less. lows (suc k) d (omega (arith, less))) (λ k d less. pairs 0 (suc k) d (omega arith) (omega (arith, less))),
  distinct_codes ls (λ k d less. lows (suc k) d (omega (arith, less))) (λ i j d less low. pairs (suc i) (suc j) d (omega (arith, less)) (omega (arith, low))),
)

pub few_links : (d : Description) (w : World) → IsRightWorld d w → length w.links ≤ 4096
few_links d w right =
    let links : List Link = w.links in
    let nodes = right.nodes_high in
    let from_low : (k : ℕ) (e : Link) → k < length links → (get_or links k e).from < 64 = λ k e less. let l = right.links k e less in let low = l.from_high in omega (arith, low, nodes) in
    let to_low : (k : ℕ) (e : Link) → k < length links → (get_or links k e).to < 64 = λ k e less. let l = right.links k e less in let low = l.to_high in omega (arith, low, nodes) in
    let long = length-le_from_distinct_below (map code links) 4096 (distinct_codes links to_low right.one_link) (any_below links (λ k e less. (from_low k e less, to_low k e less))) in
    let same : length (map code links) ≡ length links = length-map links code in
    omega (arith, long, same)

pub near_links : (d : Description) (w : World) → IsRightWorld d w → All (λ (l : Link). l.from < 256) w.links
near_links d w right = λ k e less. let l = right.links k e less in let low = l.from_high in let nodes = right.nodes_high in omega (arith, low, nodes)

pub links_none : (random : ℕ) (links : List Link) (wires : List (List Wire)) → ((node : ℕ) → get_or wires node [] ≡ []) → AreLeaving random (take 0 links) wires
links_none random links wires empty = λ node low. empty node

-- one link more
pub links_more : (random : ℕ) (links : List Link) (i : ℕ) (l d : Link) (wires : List (List Wire)) (old new : List Wire) (wire : Wire) → AreLeaving random (take i links) wires → length wires ≡ 256 → i < length links → l ≡ get_or links i d → l.from < 256
    → old ≡ get_or wires l.from old → new ≡ old ++ wire ∷ [] → wire ≡ wire_after random 0 i l → AreLeaving random (take (i + 1) links) (set wires l.from new)
links_more random links i l d wires old new wire so_far nodes within is low read pushed made = λ node below.
    let taken : take (i + 1) links ≡ take i links ++ l ∷ [] = take_more links i d within ∙ ap (λ (k : Link). take i links ++ k ∷ []) (sym is) in
    let long : 0 + length (take i links) ≡ i = (let e = length-take-le i links (omega (arith, within)) in omega (arith, e)) in
    let all : leaving random 0 node 0 (take (i + 1) links) ≡ leaving random 0 node 0 (take i links) ++ (if l.from == node then wire_after random 0 i l ∷ [] else []) =
    ap (leaving random 0 node 0) taken ∙ leaving_push random 0 node 0 (take i links) l
    ∙ ap (λ (p : ℕ). leaving random 0 node 0 (take i links) ++ (if l.from == node then wire_after random 0 p l ∷ [] else [])) long in
    elim (eqb_tells l.from node) [
      | inl e ↦ (
          let choice : Bool → List Wire = λ b. leaving random 0 node 0 (take i links) ++ (if b then wire_after random 0 i l ∷ [] else []) in
          let there : old ≡ leaving random 0 node 0 (take i links) = read ∙ get_or_default wires l.from old [] (omega (arith, low, nodes)) ∙ ap (λ (k : ℕ). get_or wires k []) e.1 ∙ so_far node below in
          ap (λ (k : ℕ). get_or (set wires l.from new) k []) (sym e.1) ∙ get_or-set_same wires l.from new [] (omega (arith, low, nodes)) ∙ pushed
          ∙ ap (λ (ws : List Wire). ws ++ wire ∷ []) there ∙ ap (λ (w : Wire). leaving random 0 node 0 (take i links) ++ w ∷ []) made ∙ ap choice (sym e.0) ∙ sym all)
      | inr e ↦ (
          let choice : Bool → List Wire = λ b. leaving random 0 node 0 (take i links) ++ (if b then wire_after random 0 i l ∷ [] else []) in
          get_or-set_other wires l.from node new [] (λ same. e.1 (sym same)) ∙ so_far node below ∙ sym (append-nil (leaving random 0 node 0 (take i links))) ∙ ap choice (sym e.0) ∙ sym all)
    ]

pub links_all : (random : ℕ) (links : List Link) (i : ℕ) (wires : List (List Wire)) → AreLeaving random (take i links) wires → length links ≤ i → AreLeaving random links wires
links_all random links i wires so_far all = subst (λ (ls : List Link). AreLeaving random ls wires) (take_all i links all) so_far

-- a packet more
packets_own : (node : ℕ) (senders : List ℕ) → packets node (senders ++ node ∷ []) ≡ packets node senders + 1
packets_own node senders = sum_by_push (λ (s : ℕ). if s == node then 1 else 0) senders node ∙ elim (eqb_tells node node) [ inl e ↦ ap (λ (b : Bool). packets node senders + (if b then 1 else 0)) e.0 | inr e ↦ absurd (e.1 refl) ]

packets_other : (node sender : ℕ) (senders : List ℕ) → node ≢ sender → packets node (senders ++ sender ∷ []) ≡ packets node senders
packets_other node sender senders other = sum_by_push (λ (s : ℕ). if s == node then 1 else 0) senders sender
    ∙ elim (eqb_tells sender node) [ inl e ↦ absurd (other (sym e.1)) | inr e ↦ (let same = ap (λ (b : Bool). packets node senders + (if b then 1 else 0)) e.0 in same ∙ omega arith) ]

-- the written links are those that went on
pub turned_read : (wires : List (List Wire)) (node : ℕ) (old new : List Wire) → length wires ≡ 256 → node < 256 → old ≡ get_or wires node old → new ≡ map turned_wire old → set wires node new ≡ set wires node (map turned_wire (get_or wires node []))
turned_read wires node old new nodes low read turned_is =
    ap (λ (ws : List Wire). set wires node ws) (turned_is ∙ ap (λ (ws : List Wire). map turned_wire ws) (read ∙ get_or_default wires node old [] (omega (arith, low, nodes))))

pub stands_more : (w : World) (senders : List ℕ) (e v : Ether) (sender : ℕ) → length e.wires ≡ 256 → sender < 256 → v.sent ≡ e.sent + 1 → v.wires ≡ set e.wires sender (map turned_wire (wires_of e sender)) → IsEtherOf w senders e → IsEtherOf w (senders ++ sender ∷ []) v
stands_more w senders e v sender nodes low sent_is wires_is stood =
    let long : length (senders ++ sender ∷ []) ≡ length senders + 1 = length-append senders (sender ∷ []) in
    let sent = stood.sent in
    record {
      sent = omega (arith, long, sent, sent_is);
      wires = λ node below. ap (λ (ws : List (List Wire)). get_or ws node []) wires_is ∙ elim (cases_eq node sender) [
        | inl same ↦
            ap (λ (k : ℕ). get_or (set e.wires sender (map turned_wire (wires_of e sender))) k []) same ∙ get_or-set_same e.wires sender (map turned_wire (wires_of e sender)) [] (omega (arith, low, nodes))
            ∙ ap (λ (k : ℕ). map turned_wire (wires_of e k)) (sym same) ∙ ap (λ (ws : List Wire). map turned_wire ws) (stood.wires node below) ∙ turned_leaving w.random (packets node senders) node 0 w.links
            ∙ ap (λ (n : ℕ). leaving w.random n node 0 w.links) (sym (packets_own node senders) ∙ ap (λ (k : ℕ). packets node (senders ++ k ∷ [])) same)
        | inr other ↦ get_or-set_other e.wires sender node (map turned_wire (wires_of e sender)) [] other ∙ stood.wires node below
            ∙ ap (λ (n : ℕ). leaving w.random n node 0 w.links) (sym (packets_other node sender senders other))
      ];
    }

-- ---- what was sent

pub on-ok : (r : Result (Unit {0}) NoMemory) (P : Type 0) → is_err r ≡ false → OnOk r P → P
on-ok (Ok x) P is holds = holds
on-ok (Err x) P is holds = cc

pub if-ok : (r : Result (Unit {0}) NoMemory) (P : Type 0) → is_err r ≡ false → IfOk r (λ _. P) → P
if-ok (Ok x) P is holds = holds
if-ok (Err x) P is holds = cc

pub match-ok : (r : Result (Unit {0}) NoMemory) (P Q : Type 0) → is_err r ≡ false → MatchResult r (λ _. P) (λ _. Q) → P
match-ok (Ok x) P Q is holds = holds
match-ok (Err x) P Q is holds = cc

-- the queue, the records and the links that a transmission leaves
pub sends-so : (e : Ether) (s : Sending) (bytes : ArrayVec ℕ) (past airs new : List Aired) (ws turned : List Wire) (agenda : Agenda SharedEvent) → e.air ≡ past ++ airs → ws ≡ wires_of e s.node
    → agenda ≡ scheduled_all e.agenda (s.at.time + e.delay) (delivered s bytes ws) → new ≡ airs ++ sent_record s bytes ∷ [] ++ losts s ws → turned ≡ map turned_wire ws
    → ◌≡◌ {A = Ether} (record { agenda = agenda; air = past ++ new; gone = e.gone; sent = e.sent + 1; delay = e.delay; wires = set e.wires s.node turned }) (transmitted e s bytes)
sends-so e s bytes past airs new ws turned agenda air_is ws_is agenda_is new_is turned_is =
    let own = wires_of e s.node in
    let sent = sent_record s bytes ∷ [] in
    let lost = losts s own in
    let E : Agenda SharedEvent → List Aired → List Wire → Ether = λ a xs us. record { agenda = a; air = xs; gone = e.gone; sent = e.sent + 1; delay = e.delay; wires = set e.wires s.node us } in
    let due = agenda_is ∙ ap (λ (us : List Wire). scheduled_all e.agenda (s.at.time + e.delay) (delivered s bytes us)) ws_is in
    let told : past ++ new ≡ e.air ++ sent ++ lost =
    ap (λ (xs : List Aired). past ++ xs) (new_is ∙ ap (λ (us : List Wire). airs ++ sent ++ losts s us) ws_is)
    ∙ sym (append_assoc past (airs ++ sent) lost)
    ∙ ap (λ (xs : List Aired). xs ++ lost) (sym (append_assoc past airs sent) ∙ ap (λ (xs : List Aired). xs ++ sent) (sym air_is)) in
    ap (λ (a : Agenda SharedEvent). E a (past ++ new) turned) due
    ∙ ap (λ (xs : List Aired). E (scheduled_all e.agenda (s.at.time + e.delay) (delivered s bytes own)) xs turned) told
    ∙ ap (λ (us : List Wire). E (scheduled_all e.agenda (s.at.time + e.delay) (delivered s bytes own)) (e.air ++ sent ++ lost) us) (turned_is ∙ ap (λ (us : List Wire). map turned_wire us) ws_is)
