-- What waits stays as it is until an entry answers it or begins an era.
use Rattle.std.proofs.Common.{◌≡◌, ◌≢◌, ℕ, suc, true, false, List, [], ◌∷◌, ◌++◌, refl, sym, ◌∙◌, ap, arith}
use Rattle.std.specs.Prelude.{map}
use Rattle.std.proofs.lemmas.Bool.{eq-eqb}
use Rattle.mate_num.specs.declared.call.Stamp.{Stamp}
use Rattle.mate_num.specs.Lists.{Each}
use Rattle.mate_num.proofs.ListLemmas.{along-parts, along-unmap}
use Rattle.mate_journal.specs.Machine.{Machine}
use Rattle.mate_journal.specs.Journal.{JournalEntry, Posted, Started, Asked, Answered, Ended, Installed, Reset, TimedEntry, Queued, Ready, Waiting, Invocation, NodeState, first_state, next_state, state_after_all, state_after_entries, AtEachEntry}
use Rattle.mate_journal.specs.WellFormed.{IsWaiting, MayFollow, IsWellFormed}
use Rattle.journal_laws.proofs.Changed.{changed-other}
use Rattle.journal_laws.proofs.Apart.{IsNumbered, numbered-step, nothing_heard-orderly, waiting_live, live_posted}
use Rattle.journal_laws.specs.Waiting.{AreFollowing, ends_wait, NoneEndsWait}

-- ---- one entry

-- the entry neither posts the invocation nor ends its wait
abbrev pub Leaves : ℕ → JournalEntry → Type 0
Leaves n (Posted k h c payload) = n ≢ k
Leaves n (Answered k value) = n ≢ k
Leaves n (Installed p) = ⊥
Leaves n Reset = ⊥
Leaves n _ = Unit {0}

-- an invocation that is queued is another than one that waits, and so is one that is ready
waits_not_queued : (r : NodeState) (n k : ℕ) → IsWaiting r n → (r.invocations k).phase ≡ Queued → n ≢ k
waits_not_queued r n k waits queued same =
    let both : Waiting waits.fun waits.args ≡ Queued = sym waits.waits ∙ ap (λ (j : ℕ). (r.invocations j).phase) same ∙ queued in cc

waits_not_ready : (r : NodeState) (n k : ℕ) → IsWaiting r n → (r.invocations k).phase ≡ Ready → n ≢ k
waits_not_ready r n k waits ready same =
    let both : Waiting waits.fun waits.args ≡ Ready = sym waits.waits ∙ ap (λ (j : ℕ). (r.invocations j).phase) same ∙ ready in cc

stays-step : (m : Machine) (r : NodeState) (n : ℕ) (t : JournalEntry) → MayFollow m r t → IsWaiting r n → Leaves n t → (next_state m r t).invocations n ≡ r.invocations n
stays-step m r n (Posted k h c payload) follows waits leaves = changed-other r.invocations k _ n leaves
stays-step m r n (Started k) follows waits leaves = changed-other r.invocations k _ n (waits_not_queued r n k waits follows)
stays-step m r n (Asked k f args) follows waits leaves = changed-other r.invocations k _ n (waits_not_ready r n k waits follows)
stays-step m r n (Answered k value) follows waits leaves = changed-other r.invocations k _ n leaves
stays-step m r n (Ended k how) follows waits leaves = changed-other r.invocations k _ n (waits_not_ready r n k waits follows.0)
stays-step m r n (Installed p) follows waits leaves = absurd leaves
stays-step m r n Reset follows waits leaves = absurd leaves
stays-step m r n _ follows waits leaves = refl

-- whoever is as it was waits as it did
pub waits-same : (r s : NodeState) (n : ℕ) → s.invocations n ≡ r.invocations n → IsWaiting r n → IsWaiting s n
waits-same r s n same waits = record { fun = waits.fun; args = waits.args; waits = ap (λ (i : Invocation). i.phase) same ∙ waits.waits }

-- ---- several entries

pub stays-told : (m : Machine) (r : NodeState) (n : ℕ) (told : List JournalEntry) → AreFollowing m r told → IsWaiting r n → Each (Leaves n) told → (state_after_entries m r told).invocations n ≡ r.invocations n
stays-told m r n [] follow waits leave = refl
stays-told m r n (t ∷ told) follow waits leave =
    let same = stays-step m r n t follow.0 waits leave.0 in
    stays-told m (next_state m r t) n told follow.1 (waits-same r (next_state m r t) n same waits) leave.1 ∙ same

-- what is posted is another than one that waits
not_posted : (r : NodeState) (n k : ℕ) → IsNumbered r → IsWaiting r n → k ≡ suc r.posts → n ≢ k
not_posted r n k numbered waits next same = let posted = live_posted r n numbered (waiting_live r n waits) in omega (arith, posted, next, same)

leaves-of : (m : Machine) (r : NodeState) (n : ℕ) (t : JournalEntry) → IsNumbered r → MayFollow m r t → IsWaiting r n → ends_wait n t ≡ false → Leaves n t
leaves-of m r n (Posted k h c payload) numbered follows waits goes_on = not_posted r n k numbered waits follows.0
leaves-of m r n (Answered k value) numbered follows waits goes_on = λ same. let is : ends_wait n (Answered k value) ≡ true = eq-eqb k n (sym same) in cc
leaves-of m r n (Installed p) numbered follows waits goes_on = cc
leaves-of m r n Reset numbered follows waits goes_on = cc
leaves-of m r n _ numbered follows waits goes_on = tt

pub goes_on-told : (m : Machine) (r : NodeState) (n : ℕ) (told : List JournalEntry) → IsNumbered r → AreFollowing m r told → IsWaiting r n → NoneEndsWait n told
    → (state_after_entries m r told).invocations n ≡ r.invocations n
goes_on-told m r n [] numbered follow waits none = refl
goes_on-told m r n (t ∷ told) numbered follow waits none =
    let same = stays-step m r n t follow.0 waits (leaves-of m r n t numbered follow.0 waits none.0) in
    goes_on-told m (next_state m r t) n told (numbered-step m r t follow.0 numbered) follow.1 (waits-same r (next_state m r t) n same waits) none.1 ∙ same

-- ---- behind a well-formed journal

pub numbered-after : (m : Machine) (r : NodeState) (es : List TimedEntry) → AtEachEntry (MayFollow m) m r es → IsNumbered r → IsNumbered (state_after_all m r es)
numbered-after m r [] follow numbered = numbered
numbered-after m r (e ∷ es) follow numbered = numbered-after m (next_state m r e.told) es follow.1 (numbered-step m r e.told follow.0 numbered)

pub journal-numbered : (m : Machine) (es : List TimedEntry) → IsWellFormed m (first_state m) es → IsNumbered (state_after_all m (first_state m) es)
journal-numbered m es right = numbered-after m (first_state m) es right.follow (record { numbered = (nothing_heard-orderly m).numbered })

-- what a well-formed journal tells with one stamp after another part of it may follow that part
pub journal-follows : (m : Machine) (es : List TimedEntry) (at : Stamp) (told : List JournalEntry) → IsWellFormed m (first_state m) (es ++ map (λ t. record { stamp = at; told = t }) told)
    → AreFollowing m (state_after_all m (first_state m) es) told
journal-follows m es at told right =
    let stamped : JournalEntry → TimedEntry = λ t. record { stamp = at; told = t } in
    along-unmap stamped (λ r e. MayFollow m r e.told) (λ r e. next_state m r e.told) (state_after_all m (first_state m) es) told (along-parts _ _ (first_state m) es (map stamped told) right.follow).1
