-- Lemmas on `specs/Counts.antt`.
use Rattle.std.proofs.Common.{◌≡◌, ℕ, ◌+◌, ◌*◌, ◌^◌, ◌<◌, ◌≤◌, ◌==◌, ◌≢◌, true≢false, append-nil, max, Bool, true, false, cond, List, ◌++◌, ◌∷◌, [], length, take, get_or, refl, ap, sym, ◌∙◌, arith}
use Rattle.std.specs.Prelude.{fold, flat_map, count_by, if◌then◌else◌}
use Rattle.std.proofs.lemmas.Bool.Decides.{Decides-eqb}
use Rattle.std.proofs.lemmas.Grind.{flat_map-append}
use Rattle.std.proofs.lemmas.List.{take_more}
use Rattle.std.proofs.lemmas.List.Sums.{fold-append, sum_by_more, sum_by-cons, count_by-le-length}
use Rattle.mate_journal.specs.Log.{Log}
use Rattle.mate_journal.specs.declared.entry.Stamped.{Stamped}
use Rattle.report_writer.specs.Brief.{is_entry, entries_of, one_if, versions, newest, last}
use Rattle.report_writer.specs.Counts.{holders_after}
use Rattle.report_writer.specs.declared.kinds.EntryKind.{EntryKind}
use Rattle.report_writer.proofs.EventLemmas.{fold-max_start}
use Rattle.report_writer.proofs.CountLemmas.{count-next}
use Rattle.report_writer.proofs.TallyLemmas.{one_if-most}

-- ---- counts of entries

-- what was counted of the items before a place, and of one more
pub record AreCounted {A : Type 0} (p : A → Bool) (xs : List A) (i before now : ℕ) : Type 0 where
  pub value : now ≡ before + count_by p (take i xs)
  pub most : now ≤ before + i

pub counted-start : {A : Type 0} (p : A → Bool) (xs : List A) (n : ℕ) → AreCounted p xs 0 n n
counted-start p xs n = record { value = omega arith; most = omega arith }

pub counted-next : {A : Type 0} (p : A → Bool) (xs : List A) (i before now after : ℕ) (x : A) → i < length xs → x ≡ get_or xs i x → after ≡ now + one_if (p x)
    → AreCounted p xs i before now → AreCounted p xs (i + 1) before after
counted-next p xs i before now after x h is step c = record {
  value = omega (arith, count-next p xs i x h is, step, c.value);
  most = omega (arith, one_if-most (p x), step, c.most);
}

-- the entries of one log more
pub entries-next : (k : EntryKind) (logs : List Log) (i : ℕ) (log : Log) (before after : ℕ) → i < length logs → log ≡ get_or logs i log
    → before ≡ entries_of k (take i logs) → after ≡ before + count_by (λ (e : Stamped). is_entry k e.entry) log.entries → after ≡ entries_of k (take (i + 1) logs)
entries-next k logs i log before after h is sofar adds =
    let of_log = λ (l : Log). count_by (λ (e : Stamped). is_entry k e.entry) l.entries in
    omega (arith, sum_by_more of_log logs i log h, ap of_log is, sofar, adds)

pub entries-most : (k : EntryKind) (log : Log) (i before after : ℕ) → length log.entries ≤ 2 ^ 57 → before ≤ i * 2 ^ 57
    → after ≡ before + count_by (λ (e : Stamped). is_entry k e.entry) log.entries → after ≤ (i + 1) * 2 ^ 57
entries-most k log i before after size sofar adds = omega (arith, count_by-le-length (λ (e : Stamped). is_entry k e.entry) log.entries, size, sofar, adds)

-- ---- the newest version

pub newest-next : (h : ℕ) (logs : List Log) (i : ℕ) (log : Log) (before after : ℕ) → i < length logs → log ≡ get_or logs i log → before ≡ newest h (take i logs)
    → after ≡ fold max before (versions h log) → after ≡ newest h (take (i + 1) logs)
newest-next h logs i log before after p is sofar step =
    step ∙ ap (λ (n : ℕ). fold max n (versions h log)) sofar
    ∙ sym (ap (newest h) (take_more logs i log p ∙ ap (λ (l : Log). take i logs ++ l ∷ []) (sym is))
    ∙ ap (fold max 0) (flat_map-append (versions h) (take i logs) (log ∷ []))
    ∙ fold-append max 0 (flat_map (versions h) (take i logs)) (flat_map (versions h) (log ∷ []))
    ∙ ap (fold max (newest h (take i logs))) (append-nil (versions h log)))

-- the last of some versions is no greater than the greatest
last-max : (a b : ℕ) (vs : List ℕ) → a ≤ b → fold (λ (before version : ℕ). version) a vs ≤ fold max b vs
last-max a b [] h = h
last-max a b (v ∷ vs) h = last-max v (max b v) vs (omega arith)

is-below : (x n : ℕ) (b : Bool) → (x == n) ≡ b → x < n → b ≡ false
is-below x n true e p = let same : x ≡ n = (Decides-eqb x n).0 e in absurd (omega (arith, same, p))
is-below x n false e p = refl

-- no node has a version as its last one that is greater than all
holders-none : (h n a : ℕ) (logs : List Log) → fold max a (flat_map (versions h) logs) < n → count_by (λ (l : Log). last h l == n) logs ≡ 0
holders-none h n a [] p = refl
holders-none h n a (log ∷ logs) p =
    let b = fold max a (versions h log) in
    let rest : fold max b (flat_map (versions h) logs) < n = omega (arith, p, fold-append max a (versions h log) (flat_map (versions h) logs)) in
    let low : last h log ≤ b = last-max 0 a (versions h log) (omega arith) in
    let above = fold-max_start b (flat_map (versions h) logs) in
    let here : (last h log == n) ≡ false = is-below (last h log) n (last h log == n) refl (omega (arith, low, above, rest)) in
    omega (arith, sum_by-cons (λ (l : Log). cond (last h l == n) 1 0) log logs, ap {B = ℕ} (λ (b : Bool). cond b 1 0) here, holders-none h n b logs rest)

holders-kept : (h before now : ℕ) (logs : List Log) (b : Bool) → (now == before) ≡ b → before ≡ newest h logs → before ≤ now
    → count_by (λ (l : Log). last h l == now) logs ≡ (if now == before then count_by (λ (l : Log). last h l == before) logs else 0)
holders-kept h before now logs true e new le =
    let same : now ≡ before = (Decides-eqb now before).0 e in
    ap (λ (n : ℕ). count_by (λ (l : Log). last h l == n) logs) same
    ∙ sym (ap (λ (b : Bool). if b then count_by (λ (l : Log). last h l == before) logs else 0) e)
holders-kept h before now logs false e new le =
    let differ : now ≢ before = λ s. true≢false (sym ((Decides-eqb now before).1 s) ∙ e) in
    let more : before < now = omega (arith, le, differ) in
    holders-none h now 0 logs (omega (arith, more, new))
    ∙ sym (ap (λ (b : Bool). if b then count_by (λ (l : Log). last h l == before) logs else 0) e)

-- the holders with a node more
pub holders-next : (h : ℕ) (logs : List Log) (i : ℕ) (log : Log) (before now held after : ℕ) → i < length logs → log ≡ get_or logs i log
    → before ≡ newest h (take i logs) → now ≡ fold max before (versions h log) → held ≡ count_by (λ (l : Log). last h l == newest h (take i logs)) (take i logs)
    → after ≡ holders_after before held now (last h log) → after ≡ count_by (λ (l : Log). last h l == newest h (take (i + 1) logs)) (take (i + 1) logs)
holders-next h logs i log before now held after p is new step holding so =
    let le : before ≤ now = omega (arith, step, fold-max_start before (versions h log)) in
    let kept = holders-kept h before now (take i logs) (now == before) refl new le in
    let all = holding ∙ ap (λ (n : ℕ). count_by (λ (l : Log). last h l == n) (take i logs)) (sym new) in
    so ∙ ap (λ (n : ℕ). (if now == before then n else 0) + one_if (last h log == now)) all
    ∙ ap (λ (n : ℕ). n + one_if (last h log == now)) (sym kept)
    ∙ sym (count-next (λ (l : Log). last h l == now) logs i log p is)
    ∙ ap (λ (n : ℕ). count_by (λ (l : Log). last h l == n) (take (i + 1) logs)) (newest-next h logs i log before now p is new step)
