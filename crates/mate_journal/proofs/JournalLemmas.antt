-- What journals that are put together tell, and what is heard of them.
use Rattle.std.proofs.Common.{◌≡◌, ◌∙◌, ℕ, List, [], ◌∷◌, ◌++◌, map, refl, sym, ap}
use Rattle.std.proofs.lemmas.List.{map-append}
use Rattle.std.proofs.lemmas.List.Folds.{fold-map}
use Rattle.std.proofs.lemmas.List.Sums.{fold-append}
use Rattle.mate_num.specs.declared.call.Stamp.{Stamp}
use Rattle.mate_journal.specs.Machine.{Machine}
use Rattle.mate_journal.specs.Journal.{JournalEntry, TimedEntry, NodeState, next_state, state_after_all, state_after_entries, untimed}
use Rattle.mate_journal.specs.NodeScript.{made_at}

pub heard_all-append : (m : Machine) (r : NodeState) (es fs : List TimedEntry) → state_after_all m r (es ++ fs) ≡ state_after_all m (state_after_all m r es) fs
heard_all-append m r es fs = fold-append (λ s e. next_state m s e.told) r es fs

pub heard_told-append : (m : Machine) (r : NodeState) (xs ys : List JournalEntry) → state_after_entries m r (xs ++ ys) ≡ state_after_entries m (state_after_entries m r xs) ys
heard_told-append m r xs ys = fold-append (next_state m) r xs ys

pub told_by-append : (es fs : List TimedEntry) → untimed (es ++ fs) ≡ untimed es ++ untimed fs
told_by-append es fs = map-append (λ e. e.told) es fs

-- what events of one stamp tell
pub told_by-at : (at : Stamp) (told : List JournalEntry) → untimed (map (λ t. record { stamp = at; told = t }) told) ≡ told
told_by-at at [] = refl
told_by-at at (t ∷ ts) = ap (λ (rest : List JournalEntry). t ∷ rest) (told_by-at at ts)

pub told_by-made : (n : ℕ) (told : List JournalEntry) (rest : List TimedEntry) → untimed (map (made_at n) told ++ rest) ≡ told ++ untimed rest
told_by-made n [] rest = refl
told_by-made n (t ∷ ts) rest = ap (λ (ts : List JournalEntry). t ∷ ts) (told_by-made n ts rest)

-- what events tell is heard by them
pub heard_all-told : (m : Machine) (r : NodeState) (es : List TimedEntry) → state_after_all m r es ≡ state_after_entries m r (untimed es)
heard_all-told m r es = sym (fold-map (next_state m) (λ e. e.told) r es)

pub heard_all-made : (m : Machine) (r : NodeState) (n : ℕ) (told : List JournalEntry) (rest : List TimedEntry)
    → state_after_all m r (map (made_at n) told ++ rest) ≡ state_after_all m (state_after_entries m r told) rest
heard_all-made m r n told rest =
    heard_all-append m r (map (made_at n) told) rest ∙ ap (λ (s : NodeState). state_after_all m s rest) (fold-map (λ s e. next_state m s e.told) (made_at n) r told)
