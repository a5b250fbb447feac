-- What is counted of a world's run.
use Rattle.std.proofs.Common.{◌≡◌, ◌<◌, ◌≤◌, ◌+◌, ◌*◌, ◌^◌, ℕ, zero, suc, List, [], ◌∷◌, ◌++◌, Bool, length, set, take, drop, get_or, Option, Some, refl, sym, ◌∙◌, ap, subst, arith, inl, inr, ◌⊎◌, take_all}
use Rattle.std.specs.Prelude.{All, slice_get, unwrap_or}
use Rattle.std.specs.Global.{Vec}
use Rattle.std.proofs.lemmas.Bool.{cases_eq}
use Rattle.std.proofs.lemmas.List.{length-set, take-append-le}
use Rattle.std.proofs.lemmas.Option.{slice_get-get_or}
use Rattle.event_queue.proofs.WheelLemmas.{slice_get_set_same, slice_get_set_other}
use Rattle.mate_num.specs.declared.call.Stamp.{Stamp}
use Rattle.vm_shape.specs.declared.description.Description.{Description}
use Rattle.mate_journal.specs.Log.{IsEmpty}
use Rattle.mate_journal.specs.OpenLog.{Gone}
use Rattle.mate_journal.specs.declared.entry.Stamped.{Stamped}
use Rattle.radio_sim.specs.Radio.{Ether}
use Rattle.report_writer.specs.Runs.{IsRunSummary}
use Rattle.report_writer.specs.Summary.{IsNewTally}
use Rattle.report_writer.specs.Tally.{IsLogTally, AreLogTallies, IsAirTally, IsUpTo, IsAirTallyUpTo}
use Rattle.report_writer.specs.declared.summary.RunTally.{RunTally}
use Rattle.report_writer.specs.declared.summary.Summary.{Summary}
use Rattle.report_writer.specs.declared.tally.LogTally.{LogTally}
use Rattle.report_writer.proofs.TallyLemmas.{tally-same, tally-few, up-to, air-same, air-few}
use Rattle.report_writer.specs.Writing.{OfRun, IsEnded}
use Rattle.mate_num.proofs.ListLemmas.{all-at}
use Rattle.world_rules.specs.World.{World}
use Rattle.world_rules.specs.State.{Moment}
use Rattle.world_state.specs.declared.mote.Mote.{Mote}
use Rattle.world_laws.specs.EventText.{ShowTheirStores}
use Rattle.world_state.specs.Keeping.{IsWhole, HaveForgotten, LetsGo}
use Rattle.world_state.specs.Reporting.{ShowStores, mote_logs, told_report}
use Rattle.world_state.specs.Telling.{AddsEvent}
use Rattle.world_state.specs.declared.simulation.Simulation.{Simulation}
use Rattle.world_state.proofs.MotesLemmas.{first-mote, at-mote}
use Rattle.world_runs.specs.Counting.{IsCounted, IsCountedBehind, CountsHand, AreCounted, IsTallied, IsTalliedBefore, IsSmallTally, MayCount}
use Rattle.world_runs.proofs.HandLemmas.{at-hand-now}
use Rattle.world_runs.proofs.RecordingLemmas.{mote-low, one-mote, store-behind}

-- ---- on the way

-- the front of a list that goes on
take-front : {A : Type 0} (n : ℕ) (all front more : List A) → n ≡ length front → all ≡ front ++ more → take n all ≡ front
take-front n all front more count is =
    ap (λ (k : ℕ). take k all) count ∙ ap (take (length front)) is ∙ take-append-le (length front) front more (omega arith) ∙ take_all (length front) front (omega arith)

one-tally : (a b : LogTally) → Some a ≡ Some b → a ≡ b
one-tally a b is = ap (λ (o : Option LogTally). unwrap_or o a) is

-- ---- where a world stays the same but for room

-- its radio waits for less
pub tallied-air : (n : ℕ) (t : RunTally) (s new : Simulation) → new.radio.air ≡ s.radio.air → new.motes ≡ s.motes → IsTallied n t s → IsTallied n t new
tallied-air n t s new air motes is = record {
  nodes = subst (λ (v : Vec Mote). AreCounted (IsCounted n) t.nodes.items v.items) (sym motes) is.nodes;
  air = air-same t.air s.radio.air new.radio.air (sym air) is.air;
}

-- a node forgets what it told
module _ (n : ℕ) (t : RunTally) (old mid : Simulation) (node : ℕ) (go : LetsGo old mid node) (is : IsTallied n t old) where
  gone-mote : (k : ℕ) (a : LogTally) (m : Mote) → slice_get t.nodes.items k ≡ Some a → slice_get mid.motes.items k ≡ Some m → IsCounted n a m
  gone-mote k a m is_a is_m = elim (cases_eq k node) [
    | inl same ↦
        let low : node < length old.motes.items = mote-low old.motes.items node go.before go.found in
        let m_is : m ≡ go.after =
        one-mote m go.after (sym is_m ∙ ap (slice_get mid.motes.items) same ∙ ap (λ (xs : List Mote). slice_get xs node) go.motes ∙ slice_get_set_same old.motes.items node go.after low) in
        subst (λ (x : Mote). IsCounted n a x) (sym m_is)
        (tally-same n a go.before.node.log.entries go.after.node.log.entries (sym go.forgets.log.entries) (is.nodes.each node a go.before (ap (slice_get t.nodes.items) (sym same) ∙ is_a) go.found))
    | inr other ↦
        is.nodes.each k a m is_a (sym (slice_get_set_other old.motes.items node k go.after other) ∙ ap (λ (xs : List Mote). slice_get xs k) (sym go.motes) ∙ is_m)
  ]

  pub tallied-go : IsTallied n t mid
  tallied-go = record {
    nodes = record { count = is.nodes.count ∙ sym (ap length go.motes ∙ length-set old.motes.items node go.after); each = gone-mote };
    air = air-same t.air old.radio.air mid.radio.air (ap (λ (e : Ether). e.air) (sym go.radio)) is.air;
  }

pub tallied-left : (n : ℕ) (t : RunTally) (old mid : Simulation) (node : ℕ) → (mid ≡ old) ⊎ LetsGo old mid node → IsTallied n t old → IsTallied n t mid
tallied-left n t old mid node (inl same) is = subst (IsTallied n t) (sym same) is
tallied-left n t old mid node (inr go) is = tallied-go n t old mid node go is

-- all nodes forget what they told
pub tallied-forgotten : (n : ℕ) (t : RunTally) (s mid : Simulation) → HaveForgotten (length s.motes.items) s.motes.items mid.motes.items → mid.radio.air ≡ s.radio.air → IsTallied n t s → IsTallied n t mid
tallied-forgotten n t s mid f air is = record {
  nodes = record {
    count = is.nodes.count ∙ sym f.count;
    each = λ k a m is_a is_m.
        let low = mote-low mid.motes.items k m is_m in
        let count = f.count in
        let first : k < length s.motes.items = omega (arith, low, count) in
        let o = first-mote s.motes.items k first in
        tally-same n a o.node.log.entries m.node.log.entries (sym (f.each k o m first (at-mote s.motes.items k first) is_m).log.entries) (is.nodes.each k a o is_a (at-mote s.motes.items k first));
  };
  air = air-same t.air s.radio.air mid.radio.air (sym air) is.air;
}

-- ---- an event

module _ (n : ℕ) (t : RunTally) (old mid new : Simulation) (node number : ℕ) (go : LetsGo old mid node) (adds : AddsEvent number mid new node) (is : IsTallied n t old) where
  mids : IsTallied n t mid
  mids = tallied-go n t old mid node go is

  own-behind : (a : LogTally) (m : Mote) → slice_get t.nodes.items node ≡ Some a → slice_get new.motes.items node ≡ Some m → IsCountedBehind n a m
  own-behind a m is_a is_m =
      let h = at-hand-now number node old mid new go adds in
      let m_is : m ≡ adds.after = one-mote m adds.after (sym is_m ∙ h.found) in
      let front = adds.before.node.log.entries in
      subst (λ (x : Mote). IsCountedBehind n a x) (sym m_is)
      (tally-same n a front (take adds.after.node.gone.entries adds.after.node.log.entries)
      (sym (take-front adds.after.node.gone.entries adds.after.node.log.entries front adds.goes_on.entries h.entries adds.goes_on.entries_are)) (mids.nodes.each node a adds.before is_a adds.found))

  pub tallied-before : IsTalliedBefore n t new node
  tallied-before =
      let h = at-hand-now number node old mid new go adds in record {
        count = mids.nodes.count ∙ sym (ap length adds.motes ∙ length-set mid.motes.items node adds.after);
        own = own-behind;
        others = λ k a m other is_a is_m.
            mids.nodes.each k a m is_a (sym (slice_get_set_other mid.motes.items node k adds.after other) ∙ ap (λ (xs : List Mote). slice_get xs k) (sym adds.motes) ∙ is_m);
        air = air-same t.air mid.radio.air (take new.radio.gone new.radio.air)
            (sym (take-front new.radio.gone new.radio.air mid.radio.air (drop (length mid.radio.air) new.radio.air) h.air adds.air_goes_on)) mids.air;
      }

  -- so few stand before it
  pub may-count : IsSmallTally t → length go.before.node.log.entries + length old.radio.air < 1000000 → MayCount t node
  may-count small few = record {
    small = small;
    own = λ a is_a. tally-few n (2 ^ 56) a go.before.node.log.entries (is.nodes.each node a go.before is_a go.found) (omega (arith, few));
    air = air-few (2 ^ 56) t.air old.radio.air is.air (omega (arith, few));
  }

-- what is at hand was counted
module _ (t t' : RunTally) (s : Simulation) (node : ℕ) (own own' : LogTally) (m : Mote) (low : node < length t.nodes.items) (found : slice_get t.nodes.items node ≡ Some own)
    (nodes : t'.nodes.items ≡ set t.nodes.items node own') (at : slice_get s.motes.items node ≡ Some m) (counts : CountsHand own own' m) where
  event-mote : (n : ℕ) → IsTalliedBefore n t s node → (k : ℕ) (a : LogTally) (x : Mote) → slice_get t'.nodes.items k ≡ Some a → slice_get s.motes.items k ≡ Some x → IsCounted n a x
  event-mote n b k a x is_a is_x = elim (cases_eq k node) [
    | inl same ↦
        let a_is : a ≡ own' = one-tally a own' (sym is_a ∙ ap (slice_get t'.nodes.items) same ∙ ap (λ (xs : List LogTally). slice_get xs node) nodes ∙ slice_get_set_same t.nodes.items node own' low) in
        let x_is : x ≡ m = one-mote x m (sym is_x ∙ ap (slice_get s.motes.items) same ∙ at) in
        subst (λ (y : LogTally). IsCounted n y x) (sym a_is) (subst (λ (y : Mote). IsCounted n own' y) (sym x_is) (counts.tallies n (b.own own m found at)))
    | inr other ↦
        b.others k a x other (sym (slice_get_set_other t.nodes.items node k own' other) ∙ ap (λ (xs : List LogTally). slice_get xs k) (sym nodes) ∙ is_a) is_x
  ]

  pub event-counted : (n : ℕ) → IsTalliedBefore n t s node → IsAirTally t'.air s.radio.air → IsTallied n t' s
  event-counted n b air = record { nodes = record { count = ap length nodes ∙ length-set t.nodes.items node own' ∙ b.count; each = event-mote n b }; air = air }

  small-at : (may : MayCount t node) (k : ℕ) (x : LogTally) → k < length t'.nodes.items → IsUpTo (3 * 2 ^ 56) (get_or t'.nodes.items k x)
  small-at may k x below =
      let a = get_or t'.nodes.items k x in
      let is_a : slice_get t'.nodes.items k ≡ Some a = slice_get-get_or t'.nodes.items k x below in
      elim (cases_eq k node) [
        | inl same ↦
            let a_is : a ≡ own' = one-tally a own' (sym is_a ∙ ap (slice_get t'.nodes.items) same ∙ ap (λ (xs : List LogTally). slice_get xs node) nodes ∙ slice_get_set_same t.nodes.items node own' low) in
            subst (IsUpTo (3 * 2 ^ 56)) (sym a_is) (up-to (2 ^ 56 + 2 ^ 57) (3 * 2 ^ 56) own' (omega arith) (counts.up (2 ^ 56) (may.own own found)))
        | inr other ↦
            let was : slice_get t.nodes.items k ≡ Some a = sym (slice_get_set_other t.nodes.items node k own' other) ∙ ap (λ (xs : List LogTally). slice_get xs k) (sym nodes) ∙ is_a in
            all-at (IsUpTo (3 * 2 ^ 56)) t.nodes.items k a may.small.nodes was
      ]

  pub event-small : MayCount t node → IsAirTallyUpTo (3 * 2 ^ 56) t'.air → IsSmallTally t'
  event-small may air = record { nodes = small-at may; air = air }

-- ---- what each node has at hand, one node after the other

-- that of the first nodes was counted
pub record StoresCounted (n : ℕ) (old new : List LogTally) (motes : List Mote) : Type 0 where
  pub count : length new ≡ length old
  pub done : (k : ℕ) (a b : LogTally) (m : Mote) → k < n → slice_get old k ≡ Some a → slice_get new k ≡ Some b → slice_get motes k ≡ Some m → CountsHand a b m
  pub left : (k : ℕ) → n ≤ k → slice_get new k ≡ slice_get old k

pub none-counted : (ts : List LogTally) (motes : List Mote) → StoresCounted 0 ts ts motes
none-counted ts motes = record { count = refl; done = λ k a b m below is_a is_b is_m. absurd (omega (arith, below)); left = λ k above. refl }

-- what was counted of the next one is few
pub store-few : (old now : List LogTally) (motes : List Mote) (k : ℕ) (own : LogTally) → StoresCounted k old now motes → All (IsUpTo (2 ^ 56)) old → slice_get now k ≡ Some own → IsUpTo (2 ^ 63) own
store-few old now motes k own s few found = up-to (2 ^ 56) (2 ^ 63) own (omega arith) (all-at (IsUpTo (2 ^ 56)) old k own few (sym (s.left k (omega arith)) ∙ found))

pub store-counted : (old now new : List LogTally) (motes : List Mote) (k : ℕ) (own own' : LogTally) (m : Mote) → StoresCounted k old now motes → k < length now → slice_get now k ≡ Some own → slice_get motes k ≡ Some m
    → new ≡ set now k own' → CountsHand own own' m → StoresCounted (k + 1) old new motes
store-counted old now new motes k own own' m s low found at is counts = record {
  count = ap length is ∙ length-set now k own' ∙ s.count;
  done = λ j a b x below is_a is_b is_x. elim (cases_eq j k) [
    | inl same ↦
        let a_is : a ≡ own = one-tally a own (sym is_a ∙ ap (slice_get old) same ∙ sym (s.left k (omega arith)) ∙ found) in
        let b_is : b ≡ own' = one-tally b own' (sym is_b ∙ ap (slice_get new) same ∙ ap (λ (xs : List LogTally). slice_get xs k) is ∙ slice_get_set_same now k own' low) in
        let x_is : x ≡ m = one-mote x m (sym is_x ∙ ap (slice_get motes) same ∙ at) in
        subst (λ (y : LogTally). CountsHand y b x) (sym a_is) (subst (λ (y : LogTally). CountsHand own y x) (sym b_is) (subst (CountsHand own own') (sym x_is) counts))
    | inr other ↦
        s.done j a b x (omega (arith, below, other)) is_a (sym (slice_get_set_other now k j own' other) ∙ ap (λ (xs : List LogTally). slice_get xs j) (sym is) ∙ is_b) is_x
  ];
  left = λ j above. ap (λ (xs : List LogTally). slice_get xs j) is ∙ slice_get_set_other now k j own' (λ e. omega (arith, e, above)) ∙ s.left j (omega (arith, above));
}

-- all of it
pub stores-counted : (n k : ℕ) (old new : List LogTally) (motes : List Mote) → StoresCounted k old new motes → length motes ≤ k → AreCounted (IsCountedBehind n) old motes → AreCounted (IsCounted n) new motes
stores-counted n k old new motes s all b = record {
  count = s.count ∙ b.count;
  each = λ j t m is_t is_m.
      let low = mote-low motes j m is_m in
      let count = b.count in
      let a = get_or old j t in
      let is_a : slice_get old j ≡ Some a = slice_get-get_or old j t (omega (arith, low, count)) in
      (s.done j a t m (omega (arith, low, all)) is_a is_t is_m).tallies n (b.each j a m is_a is_m);
}

pub stores-small : (k : ℕ) (old new : List LogTally) (motes : List Mote) → StoresCounted k old new motes → length motes ≤ k → length old ≡ length motes → All (IsUpTo (2 ^ 56)) old → All (IsUpTo (3 * 2 ^ 56)) new
stores-small k old new motes s all same few j x below =
    let count = s.count in
    let low : j < length old = omega (arith, below, count) in
    let here : j < length motes = omega (arith, low, same) in
    let a = get_or old j x in
    let b = get_or new j x in
    let m = first-mote motes j here in
    let h = s.done j a b m (omega (arith, here, all)) (slice_get-get_or old j x low) (slice_get-get_or new j x below) (at-mote motes j here) in
    up-to (2 ^ 56 + 2 ^ 57) (3 * 2 ^ 56) b (omega arith) (h.up (2 ^ 56) (few j x low))

-- so few was told by each node that it could forget it
pub all-few : (n : ℕ) (t : RunTally) (s : Simulation) (mids : List Mote) → HaveForgotten (length s.motes.items) s.motes.items mids → IsTallied n t s → All (IsUpTo (2 ^ 56)) t.nodes.items
all-few n t s mids f is k x below =
    let a = get_or t.nodes.items k x in
    let is_a : slice_get t.nodes.items k ≡ Some a = slice_get-get_or t.nodes.items k x below in
    let count = is.nodes.count in
    let low : k < length s.motes.items = omega (arith, below, count) in
    let more = f.count in
    let there : k < length mids = omega (arith, low, more) in
    let o = first-mote s.motes.items k low in
    let few = (f.each k o (first-mote mids k there) low (at-mote s.motes.items k low) (at-mote mids k there)).few in
    tally-few n (2 ^ 56) a o.node.log.entries (is.nodes.each k a o is_a (at-mote s.motes.items k low)) (omega (arith, few))

-- before that all was counted but the stores that are seen at the end
module _ (n : ℕ) (t : RunTally) (w : World) (ms : List Moment) (at : Stamp) (s mid new : Simulation) (f : HaveForgotten (length s.motes.items) s.motes.items mid.motes.items)
    (shows : ShowStores at (length mid.motes.items) mid.motes.items new.motes.items) (told : ShowTheirStores w ms (mote_logs mid.motes.items) (mote_logs new.motes.items)) (same : mid.radio.air ≡ s.radio.air)
    (is : IsTallied n t s) where
  mid_is : IsTallied n t mid
  mid_is = tallied-forgotten n t s mid f same is

  pub all-behind : AreCounted (IsCountedBehind n) t.nodes.items new.motes.items
  all-behind = record {
    count = mid_is.nodes.count ∙ sym shows.count;
    each = λ k a m is_a is_m.
        let more = shows.count in
        let high = mote-low new.motes.items k m is_m in
        let low : k < length mid.motes.items = omega (arith, high, more) in
        let b = first-mote mid.motes.items k low in
        let x = store-behind w ms at s.motes.items mid.motes.items new.motes.items f shows told k m is_m low in
        tally-same n a b.node.log.entries (take m.node.gone.entries m.node.log.entries)
        (x.same.entries ∙ sym (take-front m.node.gone.entries m.node.log.entries x.front.entries x.goes_on.entries (ap (λ (g : Gone). g.entries) x.gone) x.goes_on.entries_are))
        (mid_is.nodes.each k a b is_a (at-mote mid.motes.items k low));
  }

-- ---- the start

pub start-tallied : (n nodes : ℕ) (t : RunTally) (s : Simulation) → IsNewTally n nodes t → length s.motes.items ≡ nodes → IsWhole s → All (λ (m : Mote). IsEmpty m.node.log) s.motes.items → IsTalliedBefore n t s 0
start-tallied n nodes t s new count whole empty = record {
  count = new.count ∙ sym count;
  own = λ a m is_a is_m.
      let none = all-at (λ (x : Mote). IsEmpty x.node.log) s.motes.items 0 m empty is_m in
      tally-same n a [] (take m.node.gone.entries m.node.log.entries) (sym (ap (take m.node.gone.entries) none.entries ∙ take-none m.node.gone.entries)) (all-at (λ (x : LogTally). IsLogTally n x []) t.nodes.items 0 a new.none is_a);
  others = λ k a m other is_a is_m.
      let none = all-at (λ (x : Mote). IsEmpty x.node.log) s.motes.items k m empty is_m in
      tally-same n a [] m.node.log.entries (sym none.entries) (all-at (λ (x : LogTally). IsLogTally n x []) t.nodes.items k a new.none is_a);
  air = air-same t.air [] (take s.radio.gone s.radio.air) (sym (ap (λ (k : ℕ). take k s.radio.air) whole.air)) new.air;
} where
  take-none : (k : ℕ) → take k (let none : List Stamped = [] in none) ≡ []
  take-none zero = refl
  take-none (suc k) = refl

pub start-few : (n nodes : ℕ) (t : RunTally) → IsNewTally n nodes t → MayCount t 0
start-few n nodes t new =
    let few : (most k : ℕ) (a : LogTally) → slice_get t.nodes.items k ≡ Some a → IsUpTo most a
    = λ most k a is_a. tally-few n most a [] (all-at (λ (x : LogTally). IsLogTally n x []) t.nodes.items k a new.none is_a) (omega arith) in
    record {
      small = record {
        nodes = λ k x below. few (3 * 2 ^ 56) k (get_or t.nodes.items k x) (slice_get-get_or t.nodes.items k x below);
        air = air-few (3 * 2 ^ 56) t.air [] new.air (omega arith);
      };
      own = few (2 ^ 56) 0;
      air = air-few (2 ^ 56) t.air [] new.air (omega arith);
    }

-- ---- the end

of-logs : (n : ℕ) (ts : List LogTally) (motes : List Mote) → length ts ≡ length motes → ((k : ℕ) (t : LogTally) (m : Mote) → slice_get ts k ≡ Some t → slice_get motes k ≡ Some m → IsCounted n t m)
    → AreLogTallies n ts (mote_logs motes)
of-logs n [] [] count each = tt
of-logs n [] (m ∷ motes) count each = absurd (omega (arith, count))
of-logs n (t ∷ ts) [] count each = absurd (omega (arith, count))
of-logs n (t ∷ ts) (m ∷ motes) count each = (each 0 t m refl refl, of-logs n ts motes (omega (arith, count)) (λ k x y is_x is_y. each (suc k) x y is_x is_y))

-- it is the summary of the run's report
pub run-summary : (d : Description) (Is : OfRun) (t : RunTally) (s : Simulation) (events : ℕ) (whole : Bool) (sum : Summary) → IsTallied (length d.handlers.items) t s → IsSmallTally t → length s.motes.items ≤ 64
    → IsEnded Is (told_report s events whole) → sum ≡ record { nodes = t.nodes; air = t.air; events = events; whole = whole } → IsRunSummary d Is sum
run-summary d Is t s events whole sum is small few ended sum_is = subst (IsRunSummary d Is) (sym sum_is) (record {
  small = record { nodes = record { count = let count = is.nodes.count in omega (arith, count, few); each = small.nodes }; air = small.air.records };
  report = told_report s events whole;
  ended = ended;
  of = record { nodes = of-logs (length d.handlers.items) t.nodes.items s.motes.items is.nodes.count is.nodes.each; air = is.air; events = refl; whole = refl };
})
