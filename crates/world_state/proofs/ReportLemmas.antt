-- The lists of a report.
use Rattle.std.proofs.Common.{◌≡◌, ℕ, zero, suc, ◌+◌, ◌<◌, List, [], ◌∷◌, ◌++◌, length, map, drop, set, get_or, refl, sym, ◌∙◌, ap, subst, arith, inl, inr, All, length-append, length-drop}
use Rattle.std.specs.Prelude.{Some, slice_get, unwrap_or}
use Rattle.std.proofs.lemmas.Bool.{cases_eq}
use Rattle.std.proofs.Math.Seq.{drop-cons, set-append_seam}
use Rattle.std.proofs.lemmas.List.{length-set}
use Rattle.std.proofs.lemmas.List.Elements.{All-append}
use Rattle.event_queue.proofs.WheelLemmas.{slice_get_set_same, slice_get_set_other}
use Rattle.mate_journal.specs.Log.{Log}
use Rattle.vm_shape.specs.declared.description.Description.{Description}
use Rattle.node_state.specs.Meaning.{machine_in}
use Rattle.node_open.specs.Journal.{KeepsJournal}
use Rattle.world_state.specs.declared.mote.Mote.{Mote}
use Rattle.world_state.specs.Reporting.{HaveChanged, mote_logs, AreOfMachine}

-- ---- an item in place of another

pub some-same : {X : Type 0} (a b : X) → Some a ≡ Some b → a ≡ b
some-same a b e = ap (λ o. unwrap_or o a) e

-- ---- what happens to one node after the other

pub changed-more : (Happens : Mote → Mote → Type 0) (k : ℕ) (old mid : List Mote) (x y : Mote) → HaveChanged Happens k old mid → k < length mid → slice_get mid k ≡ Some x → Happens x y → HaveChanged Happens (k + 1) old (set mid k y)
changed-more Happens k old mid x y before below is happens = record {
  count = length-set mid k y ∙ before.count;
  each = λ j a b high is_a is_b. elim (cases_eq j k) [
    | inl same ↦
        let own_a : a ≡ x = some-same a x (sym is_a ∙ ap (slice_get old) same ∙ sym (before.others k (omega arith)) ∙ is) in
        let own_b : b ≡ y = some-same b y (sym is_b ∙ ap (slice_get (set mid k y)) same ∙ slice_get_set_same mid k y below) in
        subst (λ (c : Mote). Happens c b) (sym own_a) (subst (λ (d : Mote). Happens x d) (sym own_b) happens)
    | inr other ↦ before.each j a b (omega (arith, high, other)) is_a (sym (slice_get_set_other mid k j y other) ∙ is_b)
  ];
  others = λ j high. slice_get_set_other mid k j y (λ e. omega (arith, e, high)) ∙ before.others j (omega (arith, high));
}

-- ---- logs

drop-all : {X : Type 0} (n : ℕ) (xs : List X) → length xs ≡ n → drop n xs ≡ []
drop-all zero [] long = refl
drop-all zero (x ∷ xs) long = absurd (omega (arith, long))
drop-all (suc n) [] long = refl
drop-all (suc n) (x ∷ xs) long = drop-all n xs (omega (arith, long))

append-none : {X : Type 0} (xs ys : List X) → ys ≡ [] → xs ++ ys ≡ xs
append-none [] ys none = none
append-none (x ∷ xs) ys none = ap (λ zs. x ∷ zs) (append-none xs ys none)

length-logs : (ms : List Mote) → length (mote_logs ms) ≡ length ms
length-logs [] = refl
length-logs (m ∷ ms) = ap suc (length-logs ms)

pub logs-behind : (ms : List Mote) (m : Mote) → mote_logs (ms ++ m ∷ []) ≡ mote_logs ms ++ m.node.log ∷ []
logs-behind [] m = refl
logs-behind (x ∷ ms) m = ap (λ (ls : List Log). x.node.log ∷ ls) (logs-behind ms m)

cons-behind : {X : Type 0} (xs ys : List X) (x : X) → xs ++ x ∷ ys ≡ (xs ++ x ∷ []) ++ ys
cons-behind [] ys x = refl
cons-behind (z ∷ xs) ys x = ap (λ zs. z ∷ zs) (cons-behind xs ys x)

length-behind : (ms : List Mote) (m : Mote) → length (ms ++ m ∷ []) ≡ suc (length ms)
length-behind [] m = refl
length-behind (x ∷ ms) m = ap suc (length-behind ms m)

pub put-low : (ms : List Mote) (first now : List Log) (n : ℕ) → n ≡ length ms → n < length first → now ≡ mote_logs ms ++ drop (length ms) first → n < length now
put-low ms first now n is below was =
    let long = length-logs ms in
    let all = ap length was ∙ length-append (mote_logs ms) (drop (length ms) first) in
    let rest = length-drop (length ms) first in omega (arith, is, below, long, all, rest)

pub put-next : (ms : List Mote) (m : Mote) (first now new : List Log) (n : ℕ) (l : Log) → n ≡ length ms → n < length first → l ≡ m.node.log → now ≡ mote_logs ms ++ drop (length ms) first → new ≡ set now n l
    → new ≡ mote_logs (ms ++ m ∷ []) ++ drop (length (ms ++ m ∷ [])) first
put-next ms m first now new n l is below own was put =
    let i : ℕ = length ms in
    let low : length ms < length first = omega (arith, is, below) in
    let opened : drop (length ms) first ≡ get_or first (length ms) l ∷ drop (suc (length ms)) first = drop-cons first (length ms) l low in
    let long : length (mote_logs ms) ≡ length ms = length-logs ms in
    put
    ∙ ap (λ (k : ℕ). set now k l) (is ∙ sym long)
    ∙ ap (λ (ls : List Log). set ls (length (mote_logs ms)) l) (was ∙ ap (λ (ls : List Log). mote_logs ms ++ ls) opened)
    ∙ set-append_seam (mote_logs ms) (get_or first (length ms) l) (drop (suc (length ms)) first) l
    ∙ ap (λ (x : Log). mote_logs ms ++ x ∷ drop (suc (length ms)) first) own
    ∙ cons-behind (mote_logs ms) (drop (suc (length ms)) first) m.node.log
    ∙ ap (λ (ls : List Log). ls ++ drop (suc (length ms)) first) (sym (logs-behind ms m))
    ∙ ap (λ (k : ℕ). mote_logs (ms ++ m ∷ []) ++ drop k first) (sym (length-behind ms m))

pub logs-all : (ms all : List Mote) (first now : List Log) → ms ≡ all → length first ≡ length all → now ≡ mote_logs ms ++ drop (length ms) first → now ≡ mote_logs all
logs-all ms all first now is long was =
    was ∙ append-none (mote_logs ms) (drop (length ms) first) (drop-all (length ms) first (long ∙ ap (λ (xs : List Mote). length xs) (sym is))) ∙ ap mote_logs is

map-same : {X : Type 0} (xs : List X) → map (λ y. y) xs ≡ xs
map-same [] = refl
map-same (x ∷ xs) = ap (λ zs. x ∷ zs) (map-same xs)

pub all-of : (ms all : List Mote) → map (λ y. y) ms ≡ all → ms ≡ all
all-of ms all e = sym (map-same ms) ∙ e

-- a log that its node keeps, behind others
pub keeps-more : (d : Description) (ms : List Mote) (m : Mote) → (AreOfMachine d ms → All (KeepsJournal d (machine_in d)) (mote_logs ms)) → KeepsJournal m.node.description (machine_in m.node.description) m.node.log
    → AreOfMachine d (ms ++ m ∷ []) → All (KeepsJournal d (machine_in d)) (mote_logs (ms ++ m ∷ []))
keeps-more d ms m before own are =
    let last : m.node.description ≡ d = subst (λ (x : Mote). x.node.description ≡ d) (seam ms m) (are (length ms) m (long ms m)) in
    let mine : KeepsJournal d (machine_in d) m.node.log = subst (λ (e : Description). KeepsJournal e (machine_in e) m.node.log) last own in
    let first : AreOfMachine d ms = λ k x below. subst (λ (y : Mote). y.node.description ≡ d) (front ms m k x below) (are k x (less ms m k below)) in
    subst (λ (ls : List Log). All (KeepsJournal d (machine_in d)) ls) (sym (logs-behind ms m))
    (All-append (KeepsJournal d (machine_in d)) (mote_logs ms) (m.node.log ∷ []) (before first) (one m.node.log mine)) where
      seam : (ms : List Mote) (m : Mote) → get_or (ms ++ m ∷ []) (length ms) m ≡ m
      seam [] m = refl
      seam (x ∷ ms) m = seam ms m

      long : (ms : List Mote) (m : Mote) → length ms < length (ms ++ m ∷ [])
      long ms m = let more = length-behind ms m in omega (arith, more)

      less : (ms : List Mote) (m : Mote) (k : ℕ) → k < length ms → k < length (ms ++ m ∷ [])
      less ms m k below = let more = length-behind ms m in omega (arith, more, below)

      front : (ms : List Mote) (m : Mote) (k : ℕ) (x : Mote) → k < length ms → get_or (ms ++ m ∷ []) k x ≡ get_or ms k x
      front [] m k x below = absurd (omega (arith, below))
      front (y ∷ ms) m zero x below = refl
      front (y ∷ ms) m (suc k) x below = front ms m k x (omega (arith, below))

      one : (l : Log) → KeepsJournal d (machine_in d) l → All (KeepsJournal d (machine_in d)) (l ∷ [])
      one l kept zero x below = kept
      one l kept (suc k) x below = absurd (omega (arith, below))
