-- Progress: whoever is held back, is held back by one that is started in the end.
use Rattle.std.proofs.Common.{◌≡◌, ◌<◌, ℕ, zero, suc, Bool, true, false, IsTrue, refl, sym, ap, subst, arith, ◌⊎◌, inl, inr, List, [], ◌∷◌}
use Rattle.std.proofs.lemmas.Bool.{cases_lt}
use Rattle.mate_journal.specs.Machine.{Machine}
use Rattle.mate_journal.specs.Journal.{JournalEntry, Posted, Dropped, Started, Asked, Answered, Ended, Installed, Reset, Seen, Void, TimedEntry, Phase, Unposted, Queued, Ready, Waiting, Over, is_live, is_started, NodeState, next_state, AtEachEntry}
use Rattle.mate_journal.specs.WellFormed.{MayFollow}
use Rattle.mate_journal.specs.Grants.{IsAhead, AllHeldBack, IsGranted, started_number, GrantsInOrder}
use Rattle.mate_journal.specs.Grants.{IsStart}
use Rattle.journal_laws.specs.Progress.{IsSomeReady, IsSomeWaiting, GoesForward, IsNeverStuck}
use Rattle.journal_laws.proofs.Changed.{untrue}
use Rattle.journal_laws.proofs.Apart.{IsNumbered, numbered-step}

abbrev IsSomeStarted : NodeState → Type 0
IsSomeStarted r = IsSomeReady r ⊎ IsSomeWaiting r

started_found : (r : NodeState) (n : ℕ) (phase : Phase) → (r.invocations n).phase ≡ phase → IsTrue (is_started phase) → IsSomeStarted r
started_found r n Ready is started = inl (record { invocation = n; ready = is })
started_found r n (Waiting f args) is started = inr (record { invocation = n; waits = record { fun = f; args = args; waits = is } })
started_found r n _ is started = absurd (untrue false started refl)

-- a queued invocation is held back by a started one, or by a queued one with a lower number
queued_found : (m : Machine) (r : NodeState) (most n : ℕ) → AllHeldBack m r → n < most → (r.invocations n).phase ≡ Queued → IsSomeStarted r
queued_found m r zero n held below queued = absurd (omega arith)
queued_found m r (suc most) n held below queued = by (held n queued).by (held n queued).ahead (λ k lower is. queued_found m r most k held (omega arith) is) where
  by : (k : ℕ) → IsAhead r n k → ((i : ℕ) → i < n → (r.invocations i).phase ≡ Queued → IsSomeStarted r) → IsSomeStarted r
  by k (inl started) lower = started_found r k (r.invocations k).phase refl started
  by k (inr earlier) lower = lower k earlier.0 earlier.1

live_found : (m : Machine) (r : NodeState) (n : ℕ) (phase : Phase) → AllHeldBack m r → (r.invocations n).phase ≡ phase → IsTrue (is_live phase) → IsSomeStarted r
live_found m r n Unposted held is live = absurd (untrue false live refl)
live_found m r n Queued held is live = queued_found m r (suc n) n held (omega arith) is
live_found m r n Ready held is live = started_found r n Ready is refl
live_found m r n (Waiting f args) held is live = started_found r n (Waiting f args) is refl
live_found m r n Over held is live = absurd (untrue false live refl)

-- some invocation is started, or none below the bound is live
search_below : (m : Machine) (r : NodeState) (bound : ℕ) → AllHeldBack m r → IsSomeStarted r ⊎ ((n : ℕ) → n < bound → is_live (r.invocations n).phase ≡ false)
search_below m r zero held = inr (λ n below. absurd (omega arith))
search_below m r (suc bound) held = by (search_below m r bound held) (is_live (r.invocations bound).phase) refl where
  by : IsSomeStarted r ⊎ ((n : ℕ) → n < bound → is_live (r.invocations n).phase ≡ false) → (b : Bool) → is_live (r.invocations bound).phase ≡ b
      → IsSomeStarted r ⊎ ((n : ℕ) → n < suc bound → is_live (r.invocations n).phase ≡ false)
  by (inl found) b is = inl found
  by (inr none) true is = inl (live_found m r bound (r.invocations bound).phase held refl is)
  by (inr none) false is =
      inr (λ n below. elim (cases_lt n bound) [
        | inl lower ↦ none n lower
        | inr not_lower ↦ let same : n ≡ bound = omega arith in subst (λ (k : ℕ). is_live (r.invocations k).phase ≡ false) (sym same) is
      ])

pub goes_forward : (m : Machine) (r : NodeState) → IsNumbered r → AllHeldBack m r → GoesForward r
goes_forward m r numbered held = by (search_below m r (suc r.posts) held) where
  by : IsSomeStarted r ⊎ ((n : ℕ) → n < suc r.posts → is_live (r.invocations n).phase ≡ false) → GoesForward r
  by (inl (inl ready)) = inl ready
  by (inl (inr waiting)) = inr (inl waiting)
  by (inr none) = inr (inr (λ n live. untrue (is_live (r.invocations n).phase) live (dead n))) where
    dead : (n : ℕ) → is_live (r.invocations n).phase ≡ false
    dead n = elim (cases_lt r.posts n) [ inl above ↦ ap is_live (numbered.numbered n above) | inr below ↦ none n (omega arith) ]

-- before an entry that is no start all queued invocations are held back
pub held-back : (m : Machine) (r : NodeState) (last : ℕ) (told : JournalEntry) → IsGranted m r last told → (IsStart told → ⊥) → AllHeldBack m r
held-back m r last (Started n) granted other = absurd (other tt)
held-back m r last _ granted other = granted

pub never-stuck : (m : Machine) (r : NodeState) (last : ℕ) (es : List TimedEntry) → AtEachEntry (MayFollow m) m r es → GrantsInOrder m r last es → IsNumbered r → IsNeverStuck m r es
never-stuck m r last [] follow granted numbered = record { between = tt; last = goes_forward m r numbered granted }
never-stuck m r last (e ∷ es) follow granted numbered =
    let rest = never-stuck m (next_state m r e.told) (started_number e.told) es follow.1 granted.1 (numbered-step m r e.told follow.0 numbered) in
    record { between = ((λ other. goes_forward m r numbered (held-back m r last e.told granted.0 other)), rest.between); last = rest.last }
