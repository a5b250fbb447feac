-- A report that is tidy: two nodes whose first intervals begin, and which show their stores at the end.
use Rattle.std.proofs.Common.{◌≡◌, ℕ, ◌<◌, ◌≤◌, true, false, List, ◌∷◌, [], length, refl, ap, sym, subst, ◌∙◌, arith, inl, inr, ◌⊎◌}
use Rattle.std.specs.Prelude.{All, pos, IsTrue}
use Rattle.std.proofs.lemmas.List.{length-replicate}
use Rattle.std.proofs.lemmas.List.Elements.{All-nil, All-cons, All-weaker, All-same}
use Rattle.arrayvec.specs.ArrayVec.{ArrayVec}
use Rattle.mate_num.specs.Store.{zero_store}
use Rattle.mate_num.specs.declared.call.Stamp.{Stamp}
use Rattle.mate_num.specs.declared.store.Store.{Store}
use Rattle.vm_shape.specs.declared.description.Description.{Description}
use Rattle.mate_journal.specs.Log.{Log}
use Rattle.mate_journal.specs.declared.air.Aired.{Aired}
use Rattle.mate_journal.specs.declared.air.Air.TheVariants as air
use Rattle.mate_journal.specs.declared.entry.Stamped.{Stamped}
use Rattle.mate_journal.specs.declared.entry.Entry.TheVariants as entry
use Rattle.mate_journal.specs.declared.report.Report.{Report}
use Rattle.mate_journal.specs.Entries.{IsEntryInRange}
use Rattle.mate_journal.specs.Tidy.{image_named, store_named, names_in, below, IsStoreOf, EventsRise, entry_event, IsTidyLog, HasFullImages}
use Rattle.report_writer.specs.Progress.{air_event}
use Rattle.report_writer.specs.Tidy.{IsTidy, IsAirInRange, AirNodesRise, Mark, IsNoEarlier, AreOfOneNode, IsLastSeen, marks}

abbrev start : Stamp
start = record { event = 0; time = 0 }

abbrev pub second : Stamp
second = record { event = 1; time = 5000 }

abbrev pub shown : Stamped
shown = record { stamp = second; entry = entry.Seen 0 }

abbrev pub begun : ℕ → Aired
begun node = record { stamp = start; node = node; air = air.Interval 60000 }

-- the log shows the store, and nothing else
pub record IsQuiet (d : Description) (l : Log) : Type 0 where
  pub entries : l.entries ≡ shown ∷ []
  pub images : l.images ≡ []
  pub stores : l.stores ≡ zero_store (length d.shared.items) (length d.buffers.items) ∷ []

tidy_log : (d : Description) (l : Log) → IsQuiet d l → IsTidyLog d l
tidy_log d l quiet =
    let store = zero_store (length d.shared.items) (length d.buffers.items) in record {
      in_range = All-same (λ (e : Stamped). IsEntryInRange d e.entry) l.entries (shown ∷ []) quiet.entries
          (All-cons (λ (e : Stamped). IsEntryInRange d e.entry) shown [] tt (All-nil (λ (e : Stamped). IsEntryInRange d e.entry)));
      numbered = record {
        images = ap (names_in image_named) quiet.entries ∙ sym (ap (λ (is : List (ArrayVec ℕ)). below (length is)) quiet.images);
        stores = ap (names_in store_named) quiet.entries ∙ sym (ap (λ (ss : List Store). below (length ss)) quiet.stores);
      };
      lengths = All-same (IsStoreOf d) l.stores (store ∷ []) quiet.stores
          (All-cons (IsStoreOf d) store [] (record { shared = length-replicate (length d.shared.items) (pos 0); buffers = length-replicate (length d.buffers.items) (record { items = [] }) }) (All-nil (IsStoreOf d)));
      ordered = subst (EventsRise entry_event 0) (sym quiet.entries) (omega arith, tt);
    }

full_images : (d : Description) (l : Log) → IsQuiet d l → HasFullImages l
full_images d l quiet =
    let P : ArrayVec ℕ → Type 0 = λ (image : ArrayVec ℕ). 0 < length image.items in record { full = All-same P l.images [] quiet.images (All-nil P) }

-- a mark of the first event, or one of the second that shows a store
abbrev IsPlain : Mark → Type 0
IsPlain m = (m.stamp ≡ start) ⊎ ((m.stamp ≡ second) × IsTrue m.is_seen)

agree : (a b : Mark) → IsPlain a → IsPlain b → IsNoEarlier a b
agree a b (inl p) q = let ta = ap (λ (s : Stamp). s.time) p in λ e. omega (arith, ta)
agree a b (inr p) (inl q) =
    let ea = ap (λ (s : Stamp). s.event) p.0 in
    let eb = ap (λ (s : Stamp). s.event) q in λ e. absurd (omega (arith, e, ea, eb))
agree a b (inr p) (inr q) = let at = ap (λ (s : Stamp). s.time) (p.0 ∙ sym q.0) in λ e. omega (arith, at)

last_seen : (ms : List Mark) (event : ℕ) → event ≡ 1 → All IsPlain ms → IsLastSeen ms event
last_seen ms event at all =
    All-weaker IsPlain (λ (m : Mark). (m.stamp.event ≤ event) × (m.stamp.event ≡ event → IsTrue m.is_seen)) (seen_at event at) ms all where
      seen_at : (event : ℕ) → event ≡ 1 → (m : Mark) → IsPlain m → (m.stamp.event ≤ event) × (m.stamp.event ≡ event → IsTrue m.is_seen)
      seen_at event at m (inl p) =
          let em = ap (λ (s : Stamp). s.event) p in (omega (arith, em), λ e. absurd (omega (arith, e, em, at)))
      seen_at event at m (inr p) =
          let em = ap (λ (s : Stamp). s.event) p.0 in (omega (arith, em, at), λ e. p.1)

one_node : (ms : List Mark) (a b : Mark) → All IsPlain ms → IsPlain a → AreOfOneNode ms a b
one_node ms a b all (inl p) = λ e. inr (inl (ap (λ (s : Stamp). s.event) p))
one_node ms a b all (inr p) = λ e. inr (inr (last_seen ms a.stamp.event (ap (λ (s : Stamp). s.event) p.0) all))

abbrev begins : ℕ → Mark
begins node = record { stamp = start; node = node; is_seen = false }

abbrev shows : ℕ → Mark
shows node = record { stamp = second; node = node; is_seen = true }

abbrev four : List Mark
four = begins 0 ∷ begins 1 ∷ shows 0 ∷ shows 1 ∷ []

all_plain : All IsPlain four
all_plain =
    All-cons IsPlain (begins 0) (begins 1 ∷ shows 0 ∷ shows 1 ∷ []) (inl refl)
    (All-cons IsPlain (begins 1) (shows 0 ∷ shows 1 ∷ []) (inl refl)
    (All-cons IsPlain (shows 0) (shows 1 ∷ []) (inr (refl, refl)) (All-cons IsPlain (shows 1) [] (inr (refl, refl)) (All-nil IsPlain))))

pub quiet_is_tidy : (d : Description) (r : Report) (l0 l1 : Log) → r.nodes ≡ l0 ∷ l1 ∷ [] → r.air ≡ begun 0 ∷ begun 1 ∷ [] → IsQuiet d l0 → IsQuiet d l1 → IsTidy d r
quiet_is_tidy d r l0 l1 nodes on_air quiet0 quiet1 =
    let count : length r.nodes ≡ 2 = ap length nodes in
    let same : marks r ≡ four = rw (nodes, on_air, quiet0.entries, quiet1.entries) refl in record {
      nodes_low = omega (arith, count);
      nodes_high = omega (arith, count);
      logs = All-same (IsTidyLog d) r.nodes (l0 ∷ l1 ∷ []) nodes
          (All-cons (IsTidyLog d) l0 (l1 ∷ []) (tidy_log d l0 quiet0) (All-cons (IsTidyLog d) l1 [] (tidy_log d l1 quiet1) (All-nil (IsTidyLog d))));
      images = All-same HasFullImages r.nodes (l0 ∷ l1 ∷ []) nodes
          (All-cons HasFullImages l0 (l1 ∷ []) (full_images d l0 quiet0) (All-cons HasFullImages l1 [] (full_images d l1 quiet1) (All-nil HasFullImages)));
      air_in_range =
          let P : Aired → Type 0 = λ (a : Aired). (a.node < length r.nodes) × IsAirInRange (length r.nodes) a.air in
          All-same P r.air (begun 0 ∷ begun 1 ∷ []) on_air (All-cons P (begun 0) (begun 1 ∷ []) (omega (arith, count), tt) (All-cons P (begun 1) [] (omega (arith, count), tt) (All-nil P)));
      air_ordered = subst (EventsRise air_event 0) (sym on_air) (omega arith, (omega arith, tt));
      air_nodes = subst AirNodesRise (sym on_air) (λ e. omega arith, tt);
      in_time = subst (λ (ms : List Mark). All (λ (a : Mark). All (IsNoEarlier a) ms) ms) (sym same)
          (All-weaker IsPlain (λ (a : Mark). All (IsNoEarlier a) four) (λ a p. All-weaker IsPlain (IsNoEarlier a) (λ b q. agree a b p q) four all_plain) four all_plain);
      one_node = subst (λ (ms : List Mark). All (λ (a : Mark). All (AreOfOneNode ms a) ms) ms) (sym same)
          (All-weaker IsPlain (λ (a : Mark). All (AreOfOneNode four a) four) (λ a p. All-weaker IsPlain (AreOfOneNode four a) (λ b q. one_node four a b all_plain p) four all_plain) four all_plain);
    }
