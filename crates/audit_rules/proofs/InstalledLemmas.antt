-- Whoever is live has the program that is installed for its handler.
use Rattle.std.proofs.Common.{◌≡◌, ℕ, true, true≢false, [], refl, sym, subst, inl, inr, Option, Some, None}
use Rattle.std.specs.Prelude.{ℤ, suc, Contains, IsTrue, ◌&&◌, ◌==◌, not, is_some, unwrap_or}
use Rattle.std.proofs.lemmas.Bool.{and_parts}
use Rattle.std.proofs.lemmas.Bool.Decides.{eqb_tells}
use Rattle.std.proofs.lemmas.List.Elements.{Contains-push_cases}
use Rattle.arrayvec.specs.ArrayVec.{ArrayVec}
use Rattle.mate_num.specs.declared.id.ContextId.{ContextId}
use Rattle.mate_num.specs.declared.id.HandlerId.{HandlerId}
use Rattle.mate_journal.specs.Machine.{Machine, HeldProgram}
use Rattle.mate_journal.specs.Journal.{JournalEntry, Posted, Dropped, Started, Asked, Answered, Ended, Installed, Reset, Seen, Void, Queued, Ready, Waiting, Invocation, no_program, in_phase}
use Rattle.audit_rules.specs.Roll.{Seat, Roll, nobody, seat, seat_changed, roll_changed, has_other_number, with_answer, rolled, LiveAreInstalled}
use Rattle.audit_rules.specs.Following.{is_context_of, is_taken, may_follow}
use Rattle.audit_rules.proofs.Members.{Contains-nil, Contains-map_from, Contains-filter_from}
use Rattle.audit_rules.proofs.RollLemmas.{seat_changed-here, seat_changed-other}

abbrev IsInstalled : (HandlerId → Option HeldProgram) → Invocation → Type 0
IsInstalled installed i = installed i.handler ≡ Some i.program

pub nobody-LiveAreInstalled : LiveAreInstalled nobody
nobody-LiveAreInstalled = record { programs = λ s has. absurd (Contains-nil s has) }

-- ---- one moves

roll_changed-LiveAreInstalled : (x : Roll) (n : ℕ) (f : Invocation → Invocation) → ((i : Invocation) → IsInstalled x.installed i → IsInstalled x.installed (f i)) → LiveAreInstalled x → LiveAreInstalled (roll_changed n f x)
roll_changed-LiveAreInstalled x n f keeps right = record { programs = λ s has. let g = Contains-map_from (seat_changed n f) x.seats s has in from g.0 s g.1 g.2 } where
  from : (a s : Seat) → Contains x.seats a → seat_changed n f a ≡ s → IsInstalled x.installed s.invocation
  from a s has is =
      subst (λ (s : Seat). IsInstalled x.installed s.invocation) is (elim (eqb_tells a.number n) [
        | inl e ↦ subst (λ (s : Seat). IsInstalled x.installed s.invocation) (sym (seat_changed-here n f a e.1)) (keeps a.invocation (right.programs a has))
        | inr u ↦ subst (λ (s : Seat). IsInstalled x.installed s.invocation) (sym (seat_changed-other n f a u.1)) (right.programs a has)
      ])

-- ---- one is posted

some-is : (o : Option HeldProgram) → is_some o ≡ true → o ≡ Some (unwrap_or o no_program)
some-is None is = absurd (true≢false (sym is))
some-is (Some p) is = refl

posted-LiveAreInstalled : (m : Machine) (x : Roll) (n : ℕ) (h : HandlerId) (c : ContextId) (payload : ArrayVec ℤ) → IsTrue (may_follow m x (Posted n h c payload)) → LiveAreInstalled x → LiveAreInstalled (rolled x (Posted n h c payload))
posted-LiveAreInstalled m x n h c payload follows right = record {
  programs = λ s has. elim (Contains-push_cases x.seats (seat n posted) s has) [
    | inl old ↦ right.programs s old
    | inr e ↦ subst (λ (s : Seat). IsInstalled x.installed s.invocation) e (some-is (x.installed h) installed)
  ];
} where
  posted : Invocation
  posted = record { handler = h; context = c; program = unwrap_or (x.installed h) no_program; payload = payload; calls = []; phase = Queued }

  installed : is_some (x.installed h) ≡ true
  installed =
      let rest = (and_parts (n == suc x.posts) (is_some (x.installed h) && (is_context_of m h c && not (is_taken x c))) follows).1 in
      (and_parts (is_some (x.installed h)) (is_context_of m h c && not (is_taken x c)) rest).0

-- ---- each entry

pub LiveAreInstalled-step : (m : Machine) (x : Roll) (t : JournalEntry) → IsTrue (may_follow m x t) → LiveAreInstalled x → LiveAreInstalled (rolled x t)
LiveAreInstalled-step m x (Posted n h c payload) follows right = posted-LiveAreInstalled m x n h c payload follows right
LiveAreInstalled-step m x (Started n) follows right = roll_changed-LiveAreInstalled x n (in_phase Ready) (λ i e. e) right
LiveAreInstalled-step m x (Asked n f args) follows right = roll_changed-LiveAreInstalled x n (in_phase (Waiting f args)) (λ i e. e) right
LiveAreInstalled-step m x (Answered n value) follows right = roll_changed-LiveAreInstalled x n (with_answer value) (λ i e. e) right
LiveAreInstalled-step m x (Ended n how) follows right = record { programs = λ s has. right.programs s (Contains-filter_from (has_other_number n) x.seats s has).0 }
LiveAreInstalled-step m x (Installed p) follows right = record { programs = λ s has. absurd (Contains-nil s has) }
LiveAreInstalled-step m x Reset follows right = record { programs = λ s has. absurd (Contains-nil s has) }
LiveAreInstalled-step m x _ follows right = right
