-- How the run of a node script goes on, and where its steps end.
use Rattle.std.proofs.Common.{◌≡◌, ◌<◌, ℕ, suc, ◌+◌, List, [], ◌∷◌, ◌++◌, length, map, refl, sym, ◌∙◌, ap, subst, arith, append_assoc, length-append}
use Rattle.std.proofs.lemmas.List.{append-nil, length-map}
use Rattle.mate_journal.specs.Machine.{Machine}
use Rattle.mate_journal.specs.Journal.{JournalEntry, TimedEntry, NodeState, state_after_all, state_after_entries}
use Rattle.mate_journal.specs.Pace.{Pace}
use Rattle.mate_journal.specs.declared.report.TheConstants.{RECORDS_MAX}
use Rattle.mate_journal.specs.NodeScript.{Step, made_at, Makes, HaveMade}
use Rattle.mate_journal.proofs.JournalLemmas.{heard_all-made}
use Rattle.journal_laws.specs.Growth.{EndsWithPace}

-- at other numbers and another state that are the same
moved : (P : ℕ → ℕ → NodeState → Type 0) (records records' n n' : ℕ) (r r' : NodeState) → records ≡ records' → n ≡ n' → r ≡ r' → P records n r → P records' n' r'
moved P records records' n n' r r' a b c h = subst (λ (x : ℕ). P x n' r') a (subst (λ (x : ℕ). P records x r') b (subst (P records n) c h))

-- what goes on behind some steps goes on behind all of them
pub HaveMade-on : (Ends : ℕ → ℕ → NodeState → Pace → List TimedEntry → Type 0) (m : Machine) (records n : ℕ) (r : NodeState) (p : Pace) (steps more : List Step) (es back : List TimedEntry) (q : Pace)
    → HaveMade (EndsWithPace q) m records n r p steps es → HaveMade Ends m (records + length es) (n + length steps) (state_after_all m r es) q more back
    → HaveMade Ends m records n r p (steps ++ more) (es ++ back)
HaveMade-on Ends m records n r p [] more es back q made next =
    subst (λ (all : List TimedEntry). HaveMade Ends m records n r p more (all ++ back)) (sym made.0)
    (subst (λ (x : Pace). HaveMade Ends m records n r x more back) (sym made.1)
    (moved (λ j k s. HaveMade Ends m j k s q more back) (records + length es) records (n + length {A = Step} []) n (state_after_all m r es) r
    (let none : length es ≡ 0 = ap length made.0 in omega arith) (omega arith) (ap (λ (all : List TimedEntry). state_after_all m r all) made.0) next))
HaveMade-on Ends m records n r p (step ∷ steps) more es back q (few, told, rest, then, is, makes, later) next =
    let long : length es ≡ length told + length rest = ap length is ∙ length-append (map (made_at n) told) rest ∙ ap (λ (k : ℕ). k + length rest) (length-map told (made_at n)) in (
      few,
      told,
      rest ++ back,
      then,
      ap (λ (all : List TimedEntry). all ++ back) is ∙ append_assoc (map (made_at n) told) rest back,
      makes,
      HaveMade-on Ends m (records + length told) (suc n) (state_after_entries m r told) then steps more rest back q later
          (moved (λ j k s. HaveMade Ends m j k s q more back) (records + length es) (records + length told + length rest) (n + length (step ∷ steps)) (suc n + length steps) (state_after_all m r es)
          (state_after_all m (state_after_entries m r told) rest) (omega arith) (omega arith) (ap (λ (all : List TimedEntry). state_after_all m r all) is ∙ heard_all-made m r n told rest) next),
    )

-- one more step
pub HaveMade-push : (m : Machine) (records n : ℕ) (r : NodeState) (p : Pace) (steps : List Step) (es : List TimedEntry) (q : Pace) (step : Step) (told : List JournalEntry) (then : Pace)
    → HaveMade (EndsWithPace q) m records n r p steps es → records + length es < RECORDS_MAX
    → Makes m (state_after_all m r es) q step told then → HaveMade (EndsWithPace then) m records n r p (steps ++ step ∷ []) (es ++ map (made_at (n + length steps)) told)
HaveMade-push m records n r p steps es q step told then made room makes =
    HaveMade-on (EndsWithPace then) m records n r p steps (step ∷ []) es (map (made_at (n + length steps)) told) q made
    (room, told, [], then, sym (append-nil (map (made_at (n + length steps)) told)), makes, (refl, refl))
