-- The nodes as they begin, and what stands before the first event.
use Rattle.std.proofs.Common.{◌≡◌, ℕ, zero, suc, ◌+◌, ◌<◌, ◌≤◌, List, [], ◌∷◌, ◌++◌, length, map, refl, sym, ◌∙◌, ap, subst, arith, append-nil, append_assoc, inl, inr}
use Rattle.std.specs.Prelude.{Option, Some, None, IsSomeAnd, slice_get}
use Rattle.std.specs.List.{flat_map, range_with_len, filter_map, cons_option}
use Rattle.std.specs.Option.{option_map_or}
use Rattle.std.proofs.lemmas.Bool.{cases_lt}
use Rattle.std.proofs.lemmas.List.{map-append}
use Rattle.capsule_exchange.proofs.MaskLemmas.{range_push}
use Rattle.vm_shape.specs.declared.description.Description.{Description}
use Rattle.vm_shape.specs.declared.handler.Handler.{Handler}
use Rattle.vm_shape.specs.declared.handler.HandlerKind.{HandlerKind}
use Rattle.vm_shape.specs.declared.handler.HandlerKind.TheVariants as kind
use Rattle.script_steps.specs.declared.world.World.{World as Script}
use Rattle.event_queue.specs.declared.queue.Timed.{Timed}
use Rattle.event_queue.specs.Agenda.{Agenda, due_at}
use Rattle.radio_sim.specs.Radio.{Ether, StartsRadio}
use Rattle.radio_sim.specs.declared.shared_event.SharedEvent.{SharedEvent}
use Rattle.trickle_timer.specs.Timer.{Timer}
use Rattle.std.proofs.lemmas.List.Elements.{All-append, All-cons, All-nil}
use Rattle.mate_journal.specs.Log.{Log, IsEmpty}
use Rattle.mate_journal.specs.OpenLog.{nothing_gone}
use Rattle.mate_journal.specs.Journal.{journal_of, first_state, state_after_all, journal_entry, TimedEntry as Entered}
use Rattle.mate_journal.specs.declared.entry.Stamped.{Stamped}
use Rattle.node_state.specs.Meaning.{machine_in}
use Rattle.node_state.specs.Keeps.{reading}
use Rattle.mate_journal.specs.declared.air.Air.TheVariants as air
use Rattle.mate_journal.specs.declared.air.Aired.{Aired}
use Rattle.mate_journal.specs.declared.program.Program.{Program}
use Rattle.node_programs.specs.ScriptSteps.{program_at}
use Rattle.world_rules.specs.Cause as event
use Rattle.world_rules.specs.World.{World, handlers, period_in, period_of}
use Rattle.world_rules.specs.State.{Scheduled, first_of, lines_from, of_interval, start_node}
use Rattle.world_air.specs.Air.{timed_event, timed_events, aired_at}
use Rattle.world_air.specs.Changes.{AddsToAir}
use Rattle.world_air.proofs.ChangeLemmas.{adds-both}
use Rattle.world_run_laws.specs.Coming.{code_world}
use Rattle.world_state.specs.Motes.{BeginsMote}
use Rattle.world_state.specs.declared.mote.Mote.{Mote}
use Rattle.world_state.specs.StandingAfter.{IsRadioAfter, IsMoteAfter}
use Rattle.world_state.proofs.StandingLemmas.{due-timed, stands-added}
use Rattle.world_air.specs.Starting.{beginning, planned_items, period_item, first_periods, first_items}
use Rattle.world_air.proofs.StartLemmas.{planned-are}
use Rattle.world_state.specs.Starting.{first_air, HaveBegun}

-- ---- first periods

-- the rules' first period of the handler of this number
abbrev period_first : World → ℕ → ℕ → Option Scheduled
period_first w node h = option_map_or (λ p. Some (record { time = p; cause = event.Period node (record { 0 = h }) })) (period_of w h) None

-- by handlers from this number on
first-by : (w : World) (node h : ℕ) (o : Option Handler) (x : Handler) (xs : List Scheduled) → o ≡ Some x
    → timed_events w (cons_option (option_map_or (λ p. Some (record { time = p; cause = event.Period node (record { 0 = h }) })) (option_map_or (λ (y : Handler). period_in y.kind) o None) None) xs) ≡ period_item node (record { 0 = h }) x.kind ++ timed_events w xs
first-by w node h o x xs is = ap (λ (o : Option Handler). timed_events w (cons_option (option_map_or (λ p. Some (record { time = p; cause = event.Period node (record { 0 = h }) })) (option_map_or (λ (y : Handler). period_in y.kind) o None) None) xs)) is ∙ by x.kind where
  by : (k : HandlerKind) → timed_events w (cons_option (option_map_or (λ p. Some (record { time = p; cause = event.Period node (record { 0 = h }) })) (period_in k) None) xs) ≡ period_item node (record { 0 = h }) k ++ timed_events w xs
  by kind.Plain = refl
  by (kind.Timer period) = refl
  by kind.Receive = refl
  by kind.Once = refl

-- ahead of these handlers stand others
periods-from : (w : World) (node i : ℕ) (hs : List Handler) → ((j : ℕ) → slice_get hs j ≡ slice_get w.description.handlers.items (i + j)) → timed_events w (filter_map (period_first w node) (range_with_len i (length hs))) ≡ first_periods node i hs
periods-from w node i [] at = refl
periods-from w node i (h ∷ hs) at =
    first-by w node i (slice_get w.description.handlers.items i) h (filter_map (period_first w node) (range_with_len (i + 1) (length hs))) (ap (slice_get w.description.handlers.items) (omega arith) ∙ sym (at 0))
    ∙ ap (λ (n : ℕ). period_item node (record { 0 = i }) h.kind ++ timed_events w (filter_map (period_first w node) (range_with_len n (length hs)))) (omega arith)
    ∙ ap (λ (xs : List (Timed SharedEvent)). period_item node (record { 0 = i }) h.kind ++ xs) (periods-from w node (suc i) hs (λ j. at (suc j) ∙ ap (slice_get w.description.handlers.items) (omega arith)))

pub first-are : (w : World) (node : ℕ) (t : Timer) → t ≡ (start_node w node).timer → first_items w.description node t ≡ timed_events w (first_of w node)
first-are w node t is =
    ap (first_items w.description node) is
    ∙ ap (λ (xs : List (Timed SharedEvent)). timed_events w (of_interval node (start_node w node).timer) ++ xs) (sym (periods-from w node 0 w.description.handlers.items (λ j. ap (slice_get w.description.handlers.items) (omega arith))))
    ∙ sym (map-append (timed_event w) (of_interval node (start_node w node).timer) (filter_map (period_first w node) (range_with_len 0 (handlers w))))

-- ---- a node that begins

empty-journal : (l : Log) → IsEmpty l → journal_of l ≡ []
empty-journal l empty = ap (λ (es : List Stamped). map (λ (e : Stamped). let v : Entered = record { stamp = e.stamp; told = journal_entry l e.entry } in v) es) empty.entries

heard-none : (d : Description) (l : Log) → journal_of l ≡ [] → reading d l ≡ first_state (machine_in d)
unfolding reading
heard-none d l none = ap (state_after_all (machine_in d) (first_state (machine_in d))) none

mote-first : (d : Description) (script : Script) (ps : List Program) (k : ℕ) (m : Mote) → BeginsMote d script.random k m → IsMoteAfter (code_world d script ps) [] k m
mote-first d script ps k m begins = record {
  is = record {
    description = begins.description;
    reading = heard-none m.node.description m.node.log (empty-journal m.node.log begins.empty) ∙ ap (λ (e : Description). first_state (machine_in e)) begins.description;
    pace = begins.pace;
    timer = begins.timer;
    exchange = begins.exchange;
    pumps = begins.pumps;
    calls = begins.calls (code_world d script ps) refl refl;
  };
  journal = empty-journal m.node.log begins.empty;
}

get-front : (ms : List Mote) (m : Mote) (k : ℕ) → k < length ms → slice_get (ms ++ m ∷ []) k ≡ slice_get ms k
get-front [] m k below = absurd (omega (arith, below))
get-front (x ∷ ms) m zero below = refl
get-front (x ∷ ms) m (suc k) below = get-front ms m k (omega (arith, below))

get-last : (ms : List Mote) (m : Mote) → slice_get (ms ++ m ∷ []) (length ms) ≡ Some m
get-last [] m = refl
get-last (x ∷ ms) m = get-last ms m

length-more : (ms : List Mote) (m : Mote) → length (ms ++ m ∷ []) ≡ length ms + 1
length-more [] m = refl
length-more (x ∷ ms) m = let rest = length-more ms m in omega (arith, rest)

flat-behind : (w : World) (xs : List ℕ) (k : ℕ) → timed_events w (flat_map (first_of w) (xs ++ k ∷ [])) ≡ timed_events w (flat_map (first_of w) xs) ++ timed_events w (first_of w k)
flat-behind w [] k = ap (timed_events w) (append-nil (first_of w k))
flat-behind w (x ∷ xs) k =
    map-append (timed_event w) (first_of w x) (flat_map (first_of w) (xs ++ k ∷ []))
    ∙ ap (λ (ys : List (Timed SharedEvent)). timed_events w (first_of w x) ++ ys) (flat-behind w xs k)
    ∙ sym (append_assoc (timed_events w (first_of w x)) (timed_events w (flat_map (first_of w) xs)) (timed_events w (first_of w k)))
    ∙ ap (λ (ys : List (Timed SharedEvent)). ys ++ timed_events w (first_of w k)) (sym (map-append (timed_event w) (first_of w x) (flat_map (first_of w) xs)))

pub begun-more : (d : Description) (script : Script) (ps : List Program) (n : ℕ) (old mid new : Ether) (motes : List Mote) (m : Mote) → HaveBegun (code_world d script ps) n old mid motes → BeginsMote d script.random n m
    → AddsToAir mid new (aired_at beginning n (air.Interval m.timer.running.length) ∷ []) (first_items d n m.timer) → HaveBegun (code_world d script ps) (n + 1) old new (motes ++ m ∷ [])
begun-more d script ps n old mid new motes m before begins adds =
    let P : List Aired → Type 0 = λ rs. AddsToAir old new rs (timed_events (code_world d script ps) (flat_map (first_of (code_world d script ps)) (range_with_len 0 (n + 1)))) in
    let Q : List (Timed SharedEvent) → Type 0 = λ xs. AddsToAir old new (map (first_air (code_world d script ps)) (range_with_len 0 n) ++ aired_at beginning n (air.Interval m.timer.running.length) ∷ []) xs in
    record {
      adds =
          subst P (ap (λ (t : Timer). map (first_air (code_world d script ps)) (range_with_len 0 n) ++ aired_at beginning n (air.Interval t.running.length) ∷ []) begins.timer
          ∙ sym (map-append (first_air (code_world d script ps)) (range_with_len 0 n) (n ∷ [])) ∙ ap (map (first_air (code_world d script ps))) (sym (range_push n)))
          (subst Q (ap (λ (xs : List (Timed SharedEvent)). timed_events (code_world d script ps) (flat_map (first_of (code_world d script ps)) (range_with_len 0 n)) ++ xs) (first-are (code_world d script ps) n m.timer begins.timer)
          ∙ sym (flat-behind (code_world d script ps) (range_with_len 0 n) n) ∙ ap (λ (ks : List ℕ). timed_events (code_world d script ps) (flat_map (first_of (code_world d script ps)) ks)) (sym (range_push n)))
          (adds-both old mid new (map (first_air (code_world d script ps)) (range_with_len 0 n)) (aired_at beginning n (air.Interval m.timer.running.length) ∷ []) (timed_events (code_world d script ps) (flat_map (first_of (code_world d script ps)) (range_with_len 0 n))) (first_items d n m.timer) before.adds adds));
      count = let long = length-more motes m in let was = before.count in omega (arith, long, was);
      each = λ k below. elim (cases_lt k n) [
        | inl low ↦ subst (λ (o : Option Mote). IsSomeAnd o (IsMoteAfter (code_world d script ps) [] k)) (sym (get-front motes m k (let was = before.count in omega (arith, low, was)))) (before.each k low)
        | inr high ↦
            let same : k ≡ length motes = let was = before.count in omega (arith, was, high, below) in
            let own : k ≡ n = omega (arith, high, below) in
            subst (λ (o : Option Mote). IsSomeAnd o (IsMoteAfter (code_world d script ps) [] k)) (sym (ap (slice_get (motes ++ m ∷ [])) same ∙ get-last motes m))
            (subst (λ (j : ℕ). IsMoteAfter (code_world d script ps) [] j m) (sym own) (mote-first d script ps n m begins))
      ];
      whole = All-append (λ (x : Mote). x.node.gone ≡ nothing_gone) motes (m ∷ []) before.whole (All-cons (λ (x : Mote). x.node.gone ≡ nothing_gone) m [] begins.gone (All-nil (λ (x : Mote). x.node.gone ≡ nothing_gone)));
      empty = All-append (λ (x : Mote). IsEmpty x.node.log) motes (m ∷ []) before.empty (All-cons (λ (x : Mote). IsEmpty x.node.log) m [] begins.empty (All-nil (λ (x : Mote). IsEmpty x.node.log)));
    }

-- ---- before the first event

pub radio-first : (d : Description) (script : Script) (ps : List Program) (e0 e1 e2 : Ether) (motes : List Mote) → StartsRadio script d e0 → AddsToAir e0 e1 [] (planned_items 0 script.events) → HaveBegun (code_world d script ps) script.nodes e1 e2 motes
    → IsRadioAfter (code_world d script ps) [] e2
radio-first d script ps e0 e1 e2 motes starts lines begun =
    let both = adds-both e0 e1 e2 [] _ (planned_items 0 script.events) _ lines begun.adds in record {
      due = λ t within.
          both.grows.due t (subst (λ (n : ℕ). t ≤ n) (sym (ap (λ (q : Agenda SharedEvent). q.until) starts.agenda)) within)
          ∙ ap (λ (q : Agenda SharedEvent). due_at t q.items ++ due_at t (planned_items 0 script.events ++ timed_events (code_world d script ps) (flat_map (first_of (code_world d script ps)) (range_with_len 0 script.nodes)))) starts.agenda
          ∙ ap (λ (xs : List (Timed SharedEvent)). due_at t (xs ++ timed_events (code_world d script ps) (flat_map (first_of (code_world d script ps)) (range_with_len 0 script.nodes)))) (planned-are (code_world d script ps) (program_at ps) 0 script.events)
          ∙ ap (due_at t) (sym (map-append (timed_event (code_world d script ps)) (lines_from 0 (code_world d script ps).plan) (flat_map (first_of (code_world d script ps)) (range_with_len 0 script.nodes))))
          ∙ due-timed (code_world d script ps) t (lines_from 0 (code_world d script ps).plan ++ flat_map (first_of (code_world d script ps)) (range_with_len 0 script.nodes));
      until = both.grows.until ∙ ap (λ (q : Agenda SharedEvent). q.until) starts.agenda;
      now = both.grows.now ∙ ap (λ (q : Agenda SharedEvent). q.now) starts.agenda;
      air = both.grows.air ∙ ap (λ (rs : List Aired). rs ++ map (first_air (code_world d script ps)) (range_with_len 0 script.nodes)) starts.air;
      stands = stands-added (code_world d script ps) [] e0 e2 _ _ both (record { stands = record { sent = starts.stands.sent; wires = starts.stands.wires }; delay = starts.delay });
      fit = tt;
    }
