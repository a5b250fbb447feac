-- The intervals of one happening more, and that a timer's step follows them.
use Rattle.std.proofs.Common.{◌≡◌, ℕ, zero, suc, ◌+◌, ◌≤◌, min, List, [], ◌∷◌, ◌++◌, length, Option, None, Some, Bool, IsTrue, ◌&&◌, refl, sym, ◌∙◌, ap, subst, arith, rules, append_assoc, add-one, length-append}
use Rattle.std.specs.Prelude.{nat_le, if◌then◌else◌}
use Rattle.std.specs.Option.{option_map_or}
use Rattle.rand_pcg.specs.Lcg.{Lcg, advance, state_after}
use Rattle.rand_pcg.specs.Pcg.{multiplier_64}
use Rattle.trickle_timer.proofs.StreamLemmas.{advance_step}
use Rattle.vm_shape.specs.declared.settings.TrickleSet.{TrickleSet}
use Rattle.vm_shape.specs.Limits.{is_trickle}
use Rattle.trickle_timer.specs.declared.timer.Fire.{Fire}
use Rattle.trickle_timer.specs.declared.timer.Fire.TheVariants.{Send, Keep}
use Rattle.trickle_timer.specs.Intervals.{Interval, TimerHappening, TimerEvent, Consistent, Inconsistent, Reset, Again, Expired, Start, stream, lcg_word, interval, next_length, count, intervals_from, intervals, at_point}
use Rattle.trickle_timer.specs.Timer.{Timer, begun_timer, started_timer, counted, after_happening, IsTimerOf, TimerContinues, Decides}

-- a list that ends with an item isn't empty
no_end : (xs : List Interval) (x : Interval) → [] ≡ xs ++ x ∷ [] → ⊥
no_end [] x e = cc e
no_end (y ∷ xs) x e = cc e

heads : (x y : Interval) (xs ys : List Interval) → x ∷ xs ≡ y ∷ ys → x ≡ y
heads x y xs ys e = cc e

tails : (x y : Interval) (xs ys : List Interval) → x ∷ xs ≡ y ∷ ys → xs ≡ ys
tails x y xs ys e = cc e

not_none_after : (i : Interval) (length : Option ℕ) (new : ℕ → List Interval) (same : List Interval) → (same ≡ [] → ⊥) → option_map_or (λ l. i ∷ new l) length same ≡ [] → ⊥
not_none_after i None new same left e = left e
not_none_after i (Some l) new same left e = cc e

-- there is always a running interval
not_none : (set : TrickleSet) (words : Lcg) (n : ℕ) (i : Interval) (later : List TimerHappening) → intervals_from set words n i later ≡ [] → ⊥
not_none set words n i [] e = cc e
not_none set words n i (h ∷ later) e =
    not_none_after i (next_length set i.length h.event) (λ l. intervals_from set words (n + 1) (interval l h.time (lcg_word words n)) later) (intervals_from set words n (record i { heard = count i.heard h.event }) later) (not_none set words n (record i { heard = count i.heard h.event }) later) e

-- what one happening more does to the intervals from the running one on
abbrev Follows : TrickleSet → Lcg → ℕ → Interval → List TimerHappening → TimerHappening → Type 0
Follows set words n i happened h = (earlier : List Interval) (running : Interval)
    → intervals_from set words n i happened ≡ earlier ++ running ∷ []
    → intervals_from set words n i (happened ++ h ∷ []) ≡ earlier ++ intervals_from set words (n + length earlier) running (h ∷ [])

follows_none : (set : TrickleSet) (words : Lcg) (n : ℕ) (i : Interval) (h : TimerHappening) → Follows set words n i [] h
follows_none set words n i h [] running e =
    let same : i ≡ running = heads i running [] [] e in
    let none : n ≡ n + 0 = omega arith in
    ap (λ (r : Interval). intervals_from set words n r (h ∷ [])) same ∙ ap (λ (m : ℕ). intervals_from set words m running (h ∷ [])) none
follows_none set words n i h (x ∷ xs) running e = absurd (no_end xs running (tails i x [] (xs ++ running ∷ []) e))

follows_new : (set : TrickleSet) (words : Lcg) (n : ℕ) (i new : Interval) (later : List TimerHappening) (h : TimerHappening) (earlier : List Interval) (running : Interval)
    → Follows set words (n + 1) new later h
    → i ∷ intervals_from set words (n + 1) new later ≡ earlier ++ running ∷ []
    → i ∷ intervals_from set words (n + 1) new (later ++ h ∷ []) ≡ earlier ++ intervals_from set words (n + length earlier) running (h ∷ [])
follows_new set words n i new later h [] running follows e = absurd (not_none set words (n + 1) new later (tails i running (intervals_from set words (n + 1) new later) [] e))
follows_new set words n i new later h (x ∷ xs) running follows e =
    let rest = intervals_from set words (n + 1) new later in
    let same : i ≡ x = heads i x rest (xs ++ running ∷ []) e in
    let after_happening : intervals_from set words (n + 1) new (later ++ h ∷ []) ≡ xs ++ intervals_from set words (n + 1 + length xs) running (h ∷ []) = follows xs running (tails i x rest (xs ++ running ∷ []) e) in
    let number : n + 1 + length xs ≡ n + length (x ∷ xs) = omega arith in
    ap (λ (y : Interval). y ∷ intervals_from set words (n + 1) new (later ++ h ∷ [])) same
    ∙ ap (λ (ys : List Interval). x ∷ ys) after_happening
    ∙ ap (λ (m : ℕ). x ∷ (xs ++ intervals_from set words m running (h ∷ []))) number

follows_step : (set : TrickleSet) (words : Lcg) (n : ℕ) (i : Interval) (g : TimerHappening) (later : List TimerHappening) (h : TimerHappening) (earlier : List Interval) (running : Interval) (next : Option ℕ)
    → ((new : Interval) → Follows set words (n + 1) new later h)
    → Follows set words n (record i { heard = count i.heard g.event }) later h
    → option_map_or (λ l. i ∷ intervals_from set words (n + 1) (interval l g.time (lcg_word words n)) later) next (intervals_from set words n (record i { heard = count i.heard g.event }) later) ≡ earlier ++ running ∷ []
    → option_map_or (λ l. i ∷ intervals_from set words (n + 1) (interval l g.time (lcg_word words n)) (later ++ h ∷ [])) next (intervals_from set words n (record i { heard = count i.heard g.event }) (later ++ h ∷ [])) ≡ earlier ++ intervals_from set words (n + length earlier) running (h ∷ [])
follows_step set words n i g later h earlier running None new same e = same earlier running e
follows_step set words n i g later h earlier running (Some l) new same e =
    let begun = interval l g.time (lcg_word words n) in follows_new set words n i begun later h earlier running (new begun) e

-- the intervals of one happening more are those before the running one, and those from it on
pub intervals_from-append : (set : TrickleSet) (words : Lcg) (n : ℕ) (i : Interval) (happened : List TimerHappening) (h : TimerHappening) (earlier : List Interval) (running : Interval)
    → intervals_from set words n i happened ≡ earlier ++ running ∷ []
    → intervals_from set words n i (happened ++ h ∷ []) ≡ earlier ++ intervals_from set words (n + length earlier) running (h ∷ [])
intervals_from-append set words n i [] h earlier running e = follows_none set words n i h earlier running e
intervals_from-append set words n i (g ∷ later) h earlier running e =
    follows_step set words n i g later h earlier running (next_length set i.length g.event) (λ new. intervals_from-append set words (n + 1) new later h) (intervals_from-append set words n (record i { heard = count i.heard g.event }) later h) e

pub IsTimerOf-start : (s : Start) → IsTimerOf s [] (started_timer s)
unfolding state_after
IsTimerOf-start s = record {
  earlier = [];
  running = interval s.set.imin s.time (lcg_word (stream s.random s.node) 0);
  all = refl;
  shown = refl;
}

-- a count that stops goes on as one that doesn't, up to where it stops
count_stops : (c : ℕ) (e : TimerEvent) → min (count (min c 65535) e) 65535 ≡ min (count c e) 65535
count_stops c Consistent = omega arith
count_stops c _ = omega arith

-- the timer that stands for the intervals
abbrev shown_timer : Start → List Interval → Interval → Timer
shown_timer s earlier running = record {
  set = s.set;
  running = record running { heard = min running.heard 65535 };
  words = advance 64 multiplier_64 (length earlier + 1) (stream s.random s.node);
}

-- where no interval begins, and where one does
step_same : (s : Start) (happened : List TimerHappening) (earlier : List Interval) (running : Interval) (e : TimerEvent)
    → intervals s happened ≡ earlier ++ record running { heard = count running.heard e } ∷ []
    → IsTimerOf s happened (let t = shown_timer s earlier running in record t { running = counted t.running e })
step_same s happened earlier running e all =
    let words = advance 64 multiplier_64 (length earlier + 1) (stream s.random s.node) in
    let T : ℕ → Timer = λ c. record { set = s.set; running = record running { heard = c }; words = words } in
    record {
      earlier = earlier;
      running = record running { heard = count running.heard e };
      all = all;
      shown = ap T (count_stops running.heard e);
    }

step_new : (s : Start) (happened : List TimerHappening) (earlier : List Interval) (running : Interval) (l time : ℕ)
    → (let words = stream s.random s.node in intervals s happened ≡ earlier ++ running ∷ interval l time (lcg_word words (1 + length earlier)) ∷ [])
    → IsTimerOf s happened (let t = shown_timer s earlier running in begun_timer t.set t.words l time)
step_new s happened earlier running l time all =
    let words = stream s.random s.node in
    let at = λ (n : ℕ). interval l time (lcg_word words n) in
    let n : 1 + length earlier ≡ length earlier + 1 = omega arith in
    let m : length (earlier ++ running ∷ []) ≡ length earlier + 1 = rw length-append refl in
    let apart : earlier ++ running ∷ at (length earlier + 1) ∷ [] ≡ (earlier ++ running ∷ []) ++ at (length earlier + 1) ∷ [] = sym (append_assoc earlier (running ∷ []) (at (length earlier + 1) ∷ [])) in
    let T : Lcg → Timer = λ g. record { set = s.set; running = at (length earlier + 1); words = g } in
    record {
      earlier = earlier ++ running ∷ [];
      running = at (length earlier + 1);
      all = all ∙ ap (λ (k : ℕ). earlier ++ running ∷ at k ∷ []) n ∙ apart;
      shown = ap T (advance_step (length earlier + 1) words ∙ ap (λ (k : ℕ). advance 64 multiplier_64 (k + 1) words) (sym m));
    }

step_shown : (s : Start) (happened : List TimerHappening) (earlier : List Interval) (running : Interval) (h : TimerHappening) (next : Option ℕ)
    → (let words = stream s.random s.node in intervals s happened ≡ earlier ++ option_map_or (λ l. running ∷ interval l h.time (lcg_word words (1 + length earlier)) ∷ []) next (record running { heard = count running.heard h.event } ∷ []))
    → (let t = shown_timer s earlier running in IsTimerOf s happened (option_map_or (λ l. begun_timer t.set t.words l h.time) next (record t { running = counted t.running h.event })))
step_shown s happened earlier running h None all = step_same s happened earlier running h.event all
step_shown s happened earlier running h (Some l) all = step_new s happened earlier running l h.time all

pub IsTimerOf-after : (s : Start) (happened : List TimerHappening) (t : Timer) (h : TimerHappening) → IsTimerOf s happened t → IsTimerOf s (happened ++ h ∷ []) (after_happening t h)
IsTimerOf-after s happened t h held =
    let words = stream s.random s.node in
    let all = intervals_from-append s.set words 1 (interval s.set.imin s.time (lcg_word words 0)) happened h held.earlier held.running held.all in
    let P : Timer → Type 0 = λ r. IsTimerOf s (happened ++ h ∷ []) (after_happening r h) in
    subst P (sym held.shown) (step_shown s (happened ++ h ∷ []) held.earlier held.running h (next_length s.set held.running.length h.event) all)

pub Continues-after : (old new : Timer) (h : TimerHappening) → new ≡ after_happening old h → TimerContinues old new h
Continues-after old new h e = record {
  next = e;
  stands = λ s happened held. let P : Timer → Type 0 = IsTimerOf s (happened ++ h ∷ []) in subst P (sym e) (IsTimerOf-after s happened old h held);
}

-- k is at most 255, so a count that stops at 65,535 reaches it exactly where the whole count does
k_stops : (k c : ℕ) → k ≤ 255 → nat_le k (min c 65535) ≡ nat_le k c
k_stops k c h = grind arith

pub Decides-at_point : (t : Timer) (suppress : Bool) (fire : Fire) → IsTrue (is_trickle t.set) → fire ≡ at_point t.set t.running suppress → Decides t suppress fire
Decides-at_point t suppress fire right e = record {
  value = e;
  stands = λ s happened held.
      let k_most : t.set.k ≤ 255 = search rules in
      let K : Bool → Fire = λ b. if suppress && b then Keep else Send in
      let P : Timer → Type 0 = λ r. fire ≡ at_point r.set r.running suppress in
      let Q : Timer → Type 0 = λ r. r.set.k ≤ 255 in
      subst P held.shown e ∙ ap K (k_stops s.set.k held.running.heard (subst Q held.shown k_most));
}
