-- The lines and the periods that are due before the first event.
use Rattle.std.proofs.Common.{◌≡◌, ℕ, zero, suc, ◌+◌, ◌<◌, List, [], ◌∷◌, ◌++◌, length, map, take, get_or, refl, sym, ◌∙◌, ap, arith, append_assoc, append-nil}
use Rattle.std.proofs.lemmas.List.{take_more}
use Rattle.vm_shape.specs.declared.handler.Handler.{Handler}
use Rattle.script_steps.specs.declared.world.Planned.{Planned}
use Rattle.event_queue.specs.declared.queue.Timed.{Timed}
use Rattle.radio_sim.specs.declared.shared_event.SharedEvent.{SharedEvent}
use Rattle.radio_sim.specs.declared.shared_event.SharedEvent.TheVariants as radio
use Rattle.mate_journal.specs.Machine.{HeldProgram}
use Rattle.world_rules.specs.World.{World, line_planned}
use Rattle.world_rules.specs.State.{lines_from}
use Rattle.world_air.specs.Air.{timed_events}
use Rattle.world_air.specs.Starting.{planned_items, period_item, first_periods}

-- ---- lines

pub planned-behind : (i : ℕ) (ps : List Planned) (p : Planned) → planned_items i (ps ++ p ∷ []) ≡ planned_items i ps ++ record { time = p.time; item = radio.Planned (i + length ps) } ∷ []
planned-behind i [] p = ap (λ (n : ℕ). let x : Timed SharedEvent = record { time = p.time; item = radio.Planned n } in x ∷ []) (omega arith)
planned-behind i (q ∷ ps) p =
    ap (λ (xs : List (Timed SharedEvent)). let x : Timed SharedEvent = record { time = q.time; item = radio.Planned i } in x ∷ xs) (planned-behind (suc i) ps p
    ∙ ap (λ (n : ℕ). let x : Timed SharedEvent = record { time = p.time; item = radio.Planned n } in planned_items (suc i) ps ++ x ∷ []) (omega arith))

pub planned-are : (w : World) (f : ℕ → HeldProgram) (i : ℕ) (ps : List Planned) → planned_items i ps ≡ timed_events w (lines_from i (map (line_planned f) ps))
planned-are w f i [] = refl
planned-are w f i (p ∷ ps) = ap (λ (xs : List (Timed SharedEvent)). let x : Timed SharedEvent = record { time = p.time; item = radio.Planned i } in x ∷ xs) (planned-are w f (suc i) ps)

pub length-take-below : {X : Type 0} (i : ℕ) (xs : List X) → i < length xs → length (take i xs) ≡ i
length-take-below zero xs below = refl
length-take-below (suc i) [] below = absurd (omega (arith, below))
length-take-below (suc i) (x ∷ xs) below = let rest = length-take-below i xs (omega (arith, below)) in omega (arith, rest)

pub planned-more : (ps : List Planned) (i : ℕ) (p : Planned) → i < length ps → p ≡ get_or ps i p → planned_items 0 (take i ps) ++ record { time = p.time; item = radio.Planned i } ∷ [] ≡ planned_items 0 (take (i + 1) ps)
planned-more ps i p below is =
    ap (λ (n : ℕ). let x : Timed SharedEvent = record { time = p.time; item = radio.Planned n } in planned_items 0 (take i ps) ++ x ∷ []) (let long = length-take-below i ps below in omega (arith, long))
    ∙ sym (planned-behind 0 (take i ps) p)
    ∙ ap (planned_items 0) (ap (λ (q : Planned). take i ps ++ q ∷ []) is ∙ sym (take_more ps i p below))

-- ---- periods

pub periods-behind : (node i : ℕ) (hs : List Handler) (h : Handler) → first_periods node i (hs ++ h ∷ []) ≡ first_periods node i hs ++ period_item node (record { 0 = i + length hs }) h.kind
periods-behind node i [] h = append-nil (period_item node (record { 0 = i }) h.kind) ∙ ap (λ (n : ℕ). period_item node (record { 0 = n }) h.kind) (omega arith)
periods-behind node i (g ∷ hs) h =
    ap (λ (xs : List (Timed SharedEvent)). period_item node (record { 0 = i }) g.kind ++ xs) (periods-behind node (suc i) hs h
    ∙ ap (λ (n : ℕ). first_periods node (suc i) hs ++ period_item node (record { 0 = n }) h.kind) (omega arith))
    ∙ sym (append_assoc (period_item node (record { 0 = i }) g.kind) (first_periods node (suc i) hs) (period_item node (record { 0 = i + suc (length hs) }) h.kind))

pub periods-more : (node : ℕ) (hs : List Handler) (i : ℕ) (h : Handler) → i < length hs → h ≡ get_or hs i h → first_periods node 0 (take i hs) ++ period_item node (record { 0 = i }) h.kind ≡ first_periods node 0 (take (i + 1) hs)
periods-more node hs i h below is =
    ap (λ (n : ℕ). first_periods node 0 (take i hs) ++ period_item node (record { 0 = n }) h.kind) (let long = length-take-below i hs below in omega (arith, long))
    ∙ sym (periods-behind node 0 (take i hs) h)
    ∙ ap (first_periods node 0) (ap (λ (g : Handler). take i hs ++ g ∷ []) is ∙ sym (take_more hs i h below))
