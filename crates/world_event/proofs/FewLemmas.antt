-- How many entries posts make: in a well-formed journal each start is of another invocation that was posted.
use Rattle.std.proofs.Common.{◌≡◌, ℕ, zero, suc, ◌+◌, ◌*◌, ◌<◌, ◌≤◌, Bool, true, false, List, [], ◌∷◌, ◌++◌, length, map, refl, sym, ◌∙◌, ap, arith, inl, inr, length-append}
use Rattle.std.specs.Prelude.{ℤ, All, if◌then◌else◌, slice_get}
use Rattle.std.proofs.lemmas.Bool.Decides.{eqb_tells}
use Rattle.std.proofs.lemmas.List.{length-map}
use Rattle.std.proofs.lemmas.List.Elements.{All-head, All-tail}
use Rattle.arrayvec.specs.ArrayVec.{ArrayVec}
use Rattle.mate_num.specs.declared.call.Stamp.{Stamp}
use Rattle.mate_num.specs.declared.id.HandlerId.{HandlerId}
use Rattle.mate_journal.specs.Grants.{IsStart}
use Rattle.mate_journal.specs.Machine.{Machine}
use Rattle.mate_journal.specs.Journal.{JournalEntry, Posted, Dropped, Started, Asked, Answered, Ended, Installed, Reset, Seen, Void, TimedEntry, Phase, Unposted, Queued, Ready, Waiting, Over, is_live, Invocation, NodeState, first_state, next_state, state_after_entries, journal_of, untimed, AtEachEntry}
use Rattle.mate_journal.specs.NodeScript.{Occasion}
use Rattle.mate_journal.specs.Pace.{Pace, paced_all}
use Rattle.mate_journal.specs.WellFormed.{MayFollow}
use Rattle.journal_laws.proofs.Moves.{Moves, Joins, started-Moves, asked-Moves, answered-Moves, ended-Moves, posted-Joins}
use Rattle.journal_laws.proofs.Apart.{IsNumbered, live_posted, numbered-step, queued_live, nothing_heard-orderly}
use Rattle.mate_journal.proofs.JournalLemmas.{told_by-append, told_by-at}
use Rattle.node_state.specs.Totals.{total}
use Rattle.node_state.proofs.TotalLemmas.{total-less}
use Rattle.node_open.specs.Calls.{Pacing}
use Rattle.node_open.specs.Journal.{KeepsJournal}
use Rattle.node_open.specs.View.{NodeView, heard_of, Tells}
use Rattle.node_state.specs.Keeps.{event_at}
use Rattle.node_state.specs.Meaning.{machine_in}
use Rattle.vm_shape.specs.declared.description.Description.{Description}
use Rattle.world_rules.specs.World.{is_receiver}
use Rattle.world_rules.specs.Run.{Occasions}
use Rattle.world_event.specs.Handling.{IsPaced, if_receives, receivers_below}

-- ---- the handlers

pub receivers-few : (d : Description) (n : ℕ) → length (receivers_below d n) ≤ n
receivers-few d zero = omega arith
receivers-few d (suc n) =
    let earlier = receivers-few d n in
    let sum = length-append (receivers_below d n) (if_receives (is_receiver (slice_get d.handlers.items n)) n) in
    let last = one (is_receiver (slice_get d.handlers.items n)) in omega (arith, earlier, sum, last) where
      one : (b : Bool) → length (if_receives b n) ≤ 1
      one true = omega arith
      one false = omega arith

-- ---- starts, and other entries

abbrev starts_in : JournalEntry → ℕ
starts_in (Started n) = 1
starts_in _ = 0

abbrev others_in : JournalEntry → ℕ
others_in (Started n) = 0
others_in _ = 1

one-each : (t : JournalEntry) → starts_in t + others_in t ≡ 1
one-each (Posted n h c payload) = refl
one-each _ = refl

abbrev starts : List JournalEntry → ℕ
starts [] = 0
starts (t ∷ ts) = starts_in t + starts ts

abbrev others : List JournalEntry → ℕ
others [] = 0
others (t ∷ ts) = others_in t + others ts

all-told : (ts : List JournalEntry) → starts ts + others ts ≡ length ts
all-told [] = refl
all-told (t ∷ ts) = let rest = all-told ts in let one = one-each t in omega (arith, rest, one)

others-append : (ts us : List JournalEntry) → others (ts ++ us) ≡ others ts + others us
others-append [] us = omega arith
others-append (t ∷ ts) us = let rest = others-append ts us in omega (arith, rest)

told_by-behind : (es : List TimedEntry) (at : Stamp) (ts : List JournalEntry) → untimed (es ++ map (event_at at) ts) ≡ untimed es ++ ts
told_by-behind es at ts = told_by-append es (map (event_at at) ts) ∙ ap (λ (us : List JournalEntry). untimed es ++ us) (told_by-at at ts)

abbrev queued : Phase → ℕ
queued Queued = 1
queued _ = 0

total-most : (f g : ℕ → ℕ) (n : ℕ) → ((k : ℕ) → k < n → g k ≤ f k) → total g n ≤ total f n
unfolding total
total-most f g zero less = omega arith
total-most f g (suc n) less = let rest = total-most f g n (λ k below. less k (omega (arith, below))) in let last = less n (omega arith) in omega (arith, rest, last)

abbrev queued_at : NodeState → ℕ → ℕ
queued_at r k = queued (r.invocations k).phase

abbrev waits : NodeState → ℕ
waits r = total (queued_at r) (suc r.posts)

waits-none : (m : Machine) → waits (first_state m) ≡ 0
unfolding total
waits-none m = refl

moved-less : (r s : NodeState) (n : ℕ) (phase : Phase) → Moves r s n phase → queued phase ≡ 0 → (k : ℕ) → queued_at s k ≤ queued_at r k
moved-less r s n phase moves none k = elim (eqb_tells k n) [
  | inl t ↦ let here : queued_at s k ≡ 0 = ap (queued_at s) t.1 ∙ ap queued moves.here ∙ none in omega (arith, here)
  | inr u ↦ let same : queued_at s k ≡ queued_at r k = ap (λ (i : Invocation). queued i.phase) (moves.others k u.1) in omega (arith, same)
]

waits-moved : (r s : NodeState) (n : ℕ) (phase : Phase) → Moves r s n phase → queued phase ≡ 0 → waits s ≤ waits r
waits-moved r s n phase moves none =
    let posts : waits s ≡ total (queued_at s) (suc r.posts) = ap (λ (k : ℕ). total (queued_at s) (suc k)) moves.posts in
    let less = total-most (queued_at r) (queued_at s) (suc r.posts) (λ k _. moved-less r s n phase moves none k) in omega (arith, posts, less)

waits-started : (r s : NodeState) (n : ℕ) → Moves r s n Ready → (r.invocations n).phase ≡ Queued → n ≤ r.posts → 1 + waits s ≤ waits r
waits-started r s n moves was posted =
    let posts : waits s ≡ total (queued_at s) (suc r.posts) = ap (λ (k : ℕ). total (queued_at s) (suc k)) moves.posts in
    let before : queued_at r n ≡ 1 = ap queued was in
    let after : queued_at s n ≡ 0 = ap queued moves.here in
    let less = total-less (queued_at s) (queued_at r) n (suc r.posts) (omega (arith, posted)) (moved-less r s n Ready moves refl) (omega (arith, before, after)) in
    omega (arith, posts, less)

waits-joined : (r s : NodeState) (n : ℕ) → Joins r s n → n ≡ suc r.posts → waits s ≤ 1 + waits r
unfolding total
waits-joined r s n joins next =
    let posts : waits s ≡ total (queued_at s) (suc (suc r.posts)) = ap (λ (k : ℕ). total (queued_at s) (suc k)) (joins.posts ∙ next) in
    let less =
    total-most (queued_at r) (queued_at s) (suc r.posts)
    (λ k below. let same : queued_at s k ≡ queued_at r k = ap (λ (i : Invocation). queued i.phase) (joins.others k (λ e. omega (arith, below, next, e))) in omega (arith, same)) in
    let last : queued_at s (suc r.posts) ≡ 1 = ap (queued_at s) (sym next) ∙ ap queued joins.here in omega (arith, posts, less, last)

cut-less : (phase : Phase) → queued (if is_live phase then Over else phase) ≤ queued phase
cut-less Unposted = omega arith
cut-less _ = omega arith

waits-step : (m : Machine) (r : NodeState) (t : JournalEntry) → MayFollow m r t → IsNumbered r → starts_in t + waits (next_state m r t) ≤ others_in t + waits r
waits-step m r (Posted n h c payload) follows numbered = let e = waits-joined r (next_state m r (Posted n h c payload)) n (posted-Joins m r n h c payload) follows.0 in omega (arith, e)
waits-step m r (Started n) follows numbered =
    let e = waits-started r (next_state m r (Started n)) n (started-Moves m r n) follows (live_posted r n numbered (queued_live r n follows)) in omega (arith, e)
waits-step m r (Asked n f args) follows numbered = let e = waits-moved r (next_state m r (Asked n f args)) n (Waiting f args) (asked-Moves m r n f args) refl in omega (arith, e)
waits-step m r (Answered n value) follows numbered = let e = waits-moved r (next_state m r (Answered n value)) n Ready (answered-Moves m r n value) refl in omega (arith, e)
waits-step m r (Ended n how) follows numbered = let e = waits-moved r (next_state m r (Ended n how)) n Over (ended-Moves m r n how) refl in omega (arith, e)
waits-step m r (Installed p) follows numbered = let e = total-most (queued_at r) (queued_at (next_state m r (Installed p))) (suc r.posts) (λ k _. cut-less (r.invocations k).phase) in omega (arith, e)
waits-step m r Reset follows numbered = let e = total-most (queued_at r) (queued_at (next_state m r Reset)) (suc r.posts) (λ k _. cut-less (r.invocations k).phase) in omega (arith, e)
waits-step m r _ follows numbered = omega arith

-- the starts of a well-formed journal are at most its other entries
starts-few : (m : Machine) (r : NodeState) (es : List TimedEntry) → AtEachEntry (MayFollow m) m r es → IsNumbered r → starts (untimed es) ≤ others (untimed es) + waits r
starts-few m r [] follow numbered = omega arith
starts-few m r (e ∷ es) follow numbered =
    let rest = starts-few m (next_state m r e.told) es follow.1 (numbered-step m r e.told follow.0 numbered) in
    let one = waits-step m r e.told follow.0 numbered in omega (arith, rest, one)

no-others : (ts : List JournalEntry) → All IsStart ts → others ts ≡ 0
no-others [] all = refl
no-others (t ∷ ts) all = let rest = no-others ts (All-tail IsStart t ts all) in let one = by t (All-head IsStart t ts all) in omega (arith, rest, one) where
  by : (t : JournalEntry) → IsStart t → others_in t ≡ 0
  by (Started n) is = refl
  by _ is = absurd is

occasion-one : (m : Machine) (r : NodeState) (h : HandlerId) (payload : ArrayVec ℤ) (told : List JournalEntry) → Occasion m r h payload told → others told ≤ 1
occasion-one m r h payload told (inl x) = let e = ap others x.made in omega (arith, e)
occasion-one m r h payload told (inr (inl x)) = let e = ap others x.made in omega (arith, e)
occasion-one m r h payload told (inr (inr x)) = let e = ap others x.made in let none = no-others x.starts x.are_starts in omega (arith, e, none)

occasions-few : (m : Machine) (payload : ArrayVec ℤ) (hs : List HandlerId) (r : NodeState) (p : Pace) (told : List JournalEntry) → Occasions m payload hs r p told → others told ≤ length hs
occasions-few m payload [] r p told none = let e = ap others none in omega (arith, e)
occasions-few m payload (h ∷ hs) r p told x =
    let one = occasion-one m r h payload x.front x.by_first in
    let rest = occasions-few m payload hs (state_after_entries m r x.front) (paced_all p x.front) x.rest x.by_second in
    let sum = ap others x.made ∙ others-append x.front x.rest in omega (arith, one, rest, sum)

-- so posts to some handlers make few entries
pub posts-few : (d : Description) (old mid : NodeView) (at : Stamp) (payload : ArrayVec ℤ) (hs : List HandlerId) → Tells old mid at (Pacing (Occasions (machine_in d) payload hs (heard_of old))) → IsPaced old
    → KeepsJournal mid.description (machine_in mid.description) mid.log → length mid.log.entries ≤ 2 * (length old.log.entries + length hs)
posts-few d old mid at payload hs t paced keeps =
    let m = machine_in mid.description in
    let made = occasions-few (machine_in d) payload hs (heard_of old) paced.pace t.told (t.paces paced.pace paced.has).1.0 in
    let few = starts-few m (first_state m) (journal_of mid.log) keeps.well_formed.follow (record { numbered = (nothing_heard-orderly m).numbered }) in
    let told : untimed (journal_of mid.log) ≡ untimed (journal_of old.log) ++ t.told = ap untimed t.grows.journal ∙ told_by-behind (journal_of old.log) at t.told in
    let rest = ap others told ∙ others-append (untimed (journal_of old.log)) t.told in
    let all = all-told (untimed (journal_of mid.log)) in
    let long = length-map (journal_of mid.log) (λ (e : TimedEntry). e.told) ∙ length-map mid.log.entries _ in
    let old_all = all-told (untimed (journal_of old.log)) in
    let none = waits-none m in
    let old_long = length-map (journal_of old.log) (λ (e : TimedEntry). e.told) ∙ length-map old.log.entries _ in
    omega (arith, made, few, rest, all, long, old_all, old_long, none)
