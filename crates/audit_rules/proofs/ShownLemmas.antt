-- The tests of stores seen tell what they show.
use Rattle.std.proofs.Common.{◌≡◌, ◌<◌, ◌≤◌, ℕ, Bool, true, List, [], ◌∷◌, length, take, drop_of_length-le, refl, sym, ◌∙◌, ap, subst, arith, inl, inr}
use Rattle.std.specs.Prelude.{ℤ, Decides, ◌&&◌, ◌||◌}
use Rattle.std.specs.List.{list_any, list_all}
use Rattle.std.proofs.lemmas.Bool.{cases_lt}
use Rattle.std.proofs.lemmas.Bool.Decides.{Decides-and, Decides-like, Decides-below_and}
use Rattle.std.proofs.lemmas.List.{get_or_past}
use Rattle.arrayvec.specs.ArrayVec.{ArrayVec}
use Rattle.mate_num.specs.declared.id.BufId.{BufId}
use Rattle.mate_num.specs.declared.id.VarId.{VarId}
use Rattle.mate_num.specs.declared.resource.Resource.{Resource}
use Rattle.mate_num.specs.declared.resource.Resource.TheVariants.{Shared, Buffer, Device}
use Rattle.mate_num.specs.declared.store.Store.{Store}
use Rattle.mate_journal.specs.Machine.{Machine}
use Rattle.mate_journal.specs.Journal.{JournalEntry, Posted, Dropped, Started, Asked, Answered, Ended, Installed, Reset, Seen, Void, TimedEntry, is_started, Invocation, NodeState, first_state, whole_run, next_state, AtEachEntry}
use Rattle.mate_journal.specs.Stores.{values_at, WritesResource}
use Rattle.mate_journal.specs.WellFormed.{IsWaiting, MayFollow, IsWellFormed}
use Rattle.journal_laws.proofs.Apart.{IsNumbered, numbered-step}
use Rattle.journal_laws.proofs.Moves.{started_live}
use Rattle.audit_rules.specs.Roll.{Seat, Roll, nobody, seat, rolled, IsRoll, is_waiting}
use Rattle.audit_rules.specs.Same.{same_values}
use Rattle.audit_rules.specs.Rerun.{run_on, serial_after}
use Rattle.audit_rules.specs.Shown.{ShowsValues, ShowsValuesAt, HasLengthsOf, SeenLengths, KeepsLengths, writes_at, agrees_at, is_shown_at, all_below, is_store_shown, shows_right, stores_right}
use Rattle.audit_rules.proofs.Deciding.{always, implies-Decides, or-Decides}
use Rattle.audit_rules.proofs.Members.{any-has, has-any, all-has, has-all}
use Rattle.audit_rules.proofs.RollLemmas.{nobody-IsRoll, IsRoll-step, waiting-Decides}
use Rattle.audit_rules.proofs.FollowingLemmas.{nothing_heard-numbered}
use Rattle.audit_rules.proofs.RerunLemmas.{serial-is}
use Rattle.audit_rules.proofs.SameLemmas.{values-Decides}

-- what a store shows at a resource
record ShowsAt (m : Machine) (r : NodeState) (seen : Store) (at : Resource) : Type 0 where
  unwritten : ((n : ℕ) → WritesResource m r n at → ⊥) → values_at seen at ≡ values_at r.serial at
  waiting : (n : ℕ) → WritesResource m r n at → IsWaiting r n → values_at seen at ≡ values_at (whole_run m r n).store at

-- ---- whoever writes

writes-Decides : (m : Machine) (r : NodeState) (at : Resource) (s : Seat) → r.invocations s.number ≡ s.invocation → Decides (writes_at m at s) (WritesResource m r s.number at)
writes-Decides m r at s is =
    Decides-like (writes_at m at s)
    (λ h. let w : WritesResource m r s.number at = record {
      started = ap (λ (i : Invocation). is_started i.phase) is ∙ h.0;
      writes = ap (λ (i : Invocation). (m.meaning.uses i.program).writes at) is ∙ h.1;
    } in w)
    (λ w. (ap (λ (i : Invocation). is_started i.phase) (sym is) ∙ w.started, ap (λ (i : Invocation). (m.meaning.uses i.program).writes at) (sym is) ∙ w.writes))
    (Decides-and (is_started s.invocation.phase) ((m.meaning.uses s.invocation.program).writes at) (λ e. e, λ e. e) (λ e. e, λ e. e))

-- somebody writes it
record IsWritten (m : Machine) (r : NodeState) (at : Resource) : Type 0 where
  by : ℕ
  writes : WritesResource m r by at

written-Decides : (m : Machine) (r : NodeState) (x : Roll) (at : Resource) → IsRoll r x → Decides (list_any (writes_at m at) x.seats) (IsWritten m r at)
written-Decides m r x at right = (there, back) where
  there : list_any (writes_at m at) x.seats ≡ true → IsWritten m r at
  there some =
      let g = has-any (writes_at m at) x.seats some in
      record { by = g.0.number; writes = (writes-Decides m r at g.0 (right.lives g.0 g.1).1).0 g.2 }

  back : IsWritten m r at → list_any (writes_at m at) x.seats ≡ true
  back w =
      let s = seat w.by (r.invocations w.by) in
      any-has (writes_at m at) x.seats s (right.seated w.by (started_live (r.invocations w.by).phase w.writes.started)) ((writes-Decides m r at s refl).1 w.writes)

waits-Decides : (r : NodeState) (s : Seat) → r.invocations s.number ≡ s.invocation → Decides (is_waiting s.invocation.phase) (IsWaiting r s.number)
waits-Decides r s is = subst (λ (i : Invocation). Decides (is_waiting i.phase) (IsWaiting r s.number)) is (waiting-Decides r s.number)

agrees-Decides : (m : Machine) (r : NodeState) (seen : Store) (at : Resource) (s : Seat) → r.invocations s.number ≡ s.invocation
    → Decides (agrees_at m r.serial seen at s) (WritesResource m r s.number at × IsWaiting r s.number → values_at seen at ≡ values_at (whole_run m r s.number).store at)
agrees-Decides m r seen at s is =
    subst (λ (i : Invocation). Decides (agrees_at m r.serial seen at s) (WritesResource m r s.number at × IsWaiting r s.number → values_at seen at ≡ values_at (run_on m r.serial i).store at)) (sym is)
    (implies-Decides (writes_at m at s && is_waiting s.invocation.phase) (same_values (values_at seen at) (values_at (run_on m r.serial s.invocation).store at))
    (Decides-and (writes_at m at s) (is_waiting s.invocation.phase) (writes-Decides m r at s is) (waits-Decides r s is))
    (values-Decides (values_at seen at) (values_at (run_on m r.serial s.invocation).store at)))

all_agree-Decides : (m : Machine) (r : NodeState) (x : Roll) (seen : Store) (at : Resource) → IsRoll r x
    → Decides (list_all (agrees_at m r.serial seen at) x.seats) ((n : ℕ) → WritesResource m r n at → IsWaiting r n → values_at seen at ≡ values_at (whole_run m r n).store at)
all_agree-Decides m r x seen at right = (
  λ all n w waits.
      let s = seat n (r.invocations n) in
      let has = right.seated n (started_live (r.invocations n).phase w.started) in
      (agrees-Decides m r seen at s refl).0 (all-has (agrees_at m r.serial seen at) x.seats s all has) (w, waits),
  λ each. has-all (agrees_at m r.serial seen at) x.seats (λ s has. (agrees-Decides m r seen at s (right.lives s has).1).1 (λ h. each s.number h.0 h.1)),
)

shown_at-Decides : (m : Machine) (r : NodeState) (x : Roll) (seen : Store) (at : Resource) → IsRoll r x → Decides (is_shown_at m x r.serial seen at) (ShowsAt m r seen at)
shown_at-Decides m r x seen at right =
    let written = list_any (writes_at m at) x.seats in
    let same = same_values (values_at seen at) (values_at r.serial at) in
    Decides-like (is_shown_at m x r.serial seen at)
    (λ h. let s : ShowsAt m r seen at = record { unwritten = λ none. h.0 (λ w. none w.by w.writes); waiting = h.1 } in s)
    (λ s. (λ none. s.unwritten (λ n w. none (record { by = n; writes = w })), s.waiting))
    (Decides-and (written || same) (list_all (agrees_at m r.serial seen at) x.seats)
    (or-Decides written same (written-Decides m r x at right) (values-Decides (values_at seen at) (values_at r.serial at)))
    (all_agree-Decides m r x seen at right))

-- ---- beyond a store's variables and buffers there is nothing

values_past : (s : Store) (v : VarId) → length s.shared.items ≤ v.0 → values_at s (Shared v) ≡ []
values_past s v past = ap (λ (xs : List ℤ). take 1 xs) (drop_of_length-le s.shared.items past)

buffer_past : (s : Store) (b : BufId) → length s.buffers.items ≤ b.0 → values_at s (Buffer b) ≡ []
buffer_past s b past = ap (λ (p : ArrayVec ℤ). p.items) (get_or_past s.buffers.items b.0 (record { items = [] }) past)

shown-past : (m : Machine) (r : NodeState) (seen : Store) (at : Resource) → ((s : Store) → HasLengthsOf m s → values_at s at ≡ []) → HasLengthsOf m seen → HasLengthsOf m r.serial → KeepsLengths m → ShowsAt m r seen at
shown-past m r seen at none long serial keeps = record {
  unwritten = λ free. none seen long ∙ sym (none r.serial serial);
  waiting = λ n w waits. none seen long ∙ sym (none (whole_run m r n).store (keeps r n serial));
}

below-Decides : (test : ℕ → Bool) (P : ℕ → Type 0) → ((k : ℕ) → Decides (test k) (P k)) → (n : ℕ) → Decides (all_below test n) ((k : ℕ) → k < n → P k)
below-Decides test P each n = Decides-below_and test P (all_below test) each refl (λ k. refl) n

shown-Decides : (m : Machine) (r : NodeState) (x : Roll) (seen : Store) → IsRoll r x → HasLengthsOf m seen → HasLengthsOf m r.serial → KeepsLengths m → Decides (is_store_shown m x r.serial seen) (ShowsValues m r seen)
shown-Decides m r x seen right long serial keeps =
    Decides-like (is_store_shown m x r.serial seen)
    (λ h. let s : ShowsValues m r seen = record { unwritten = λ at. (all h.0 h.1 at).unwritten; waiting = λ at. (all h.0 h.1 at).waiting } in s)
    (λ s. (λ v low. record { unwritten = s.unwritten (Shared record { 0 = v }); waiting = s.waiting (Shared record { 0 = v }) }, λ b low. record { unwritten = s.unwritten (Buffer record { 0 = b }); waiting = s.waiting (Buffer record { 0 = b }) }))
    (Decides-and (all_below (λ v. is_shown_at m x r.serial seen (Shared record { 0 = v })) (length m.zero_store.shared.items)) (all_below (λ b. is_shown_at m x r.serial seen (Buffer record { 0 = b })) (length m.zero_store.buffers.items))
    (below-Decides (λ v. is_shown_at m x r.serial seen (Shared record { 0 = v })) (λ v. ShowsAt m r seen (Shared record { 0 = v })) (λ v. shown_at-Decides m r x seen (Shared record { 0 = v }) right) (length m.zero_store.shared.items))
    (below-Decides (λ b. is_shown_at m x r.serial seen (Buffer record { 0 = b })) (λ b. ShowsAt m r seen (Buffer record { 0 = b })) (λ b. shown_at-Decides m r x seen (Buffer record { 0 = b }) right) (length m.zero_store.buffers.items))) where
      all : ((v : ℕ) → v < length m.zero_store.shared.items → ShowsAt m r seen (Shared record { 0 = v })) → ((b : ℕ) → b < length m.zero_store.buffers.items → ShowsAt m r seen (Buffer record { 0 = b })) → (at : Resource) → ShowsAt m r seen at
      all vars bufs (Shared v) = elim (cases_lt v.0 (length m.zero_store.shared.items)) [
        | inl low ↦ vars v.0 low
        | inr high ↦ shown-past m r seen (Shared v) (λ s l. values_past s v (omega (arith, l.shared, high))) long serial keeps
      ]
      all vars bufs (Buffer b) = elim (cases_lt b.0 (length m.zero_store.buffers.items)) [
        | inl low ↦ bufs b.0 low
        | inr high ↦ shown-past m r seen (Buffer b) (λ s l. buffer_past s b (omega (arith, l.buffers, high))) long serial keeps
      ]
      all vars bufs (Device d) = shown-past m r seen (Device d) (λ s l. refl) long serial keeps

-- ---- each entry

shows-Decides : (m : Machine) (r : NodeState) (x : Roll) (t : JournalEntry) → IsRoll r x → SeenLengths m (record { stamp = record { event = 0; time = 0 }; told = t } ∷ []) → HasLengthsOf m r.serial → KeepsLengths m
    → Decides (shows_right m x r.serial t) (ShowsValuesAt m r t)
shows-Decides m r x (Seen seen) right long serial keeps = shown-Decides m r x seen right long.0 serial keeps
shows-Decides m r x _ right long serial keeps = always tt

serial-long : (m : Machine) (r : NodeState) (t : JournalEntry) → KeepsLengths m → HasLengthsOf m r.serial → HasLengthsOf m (next_state m r t).serial
serial-long m r (Ended n how) keeps long = keeps r n long
serial-long m r (Installed p) keeps long = record { shared = refl; buffers = refl }
serial-long m r Reset keeps long = record { shared = refl; buffers = refl }
serial-long m r _ keeps long = long

stores-Decides : (m : Machine) (r : NodeState) (x : Roll) (store : Store) (es : List TimedEntry) → KeepsLengths m → SeenLengths m es → IsNumbered r → IsRoll r x → store ≡ r.serial → HasLengthsOf m r.serial
    → AtEachEntry (MayFollow m) m r es → Decides (stores_right m x store es) (AtEachEntry (ShowsValuesAt m) m r es)
stores-Decides m r x store [] keeps seen numbered right is long follow = always tt
stores-Decides m r x store (e ∷ es) keeps seen numbered right is long follow =
    subst (λ (s : Store). Decides (stores_right m x s (e ∷ es)) (AtEachEntry (ShowsValuesAt m) m r (e ∷ es))) (sym is)
    (Decides-and (shows_right m x r.serial e.told) (stores_right m (rolled x e.told) (serial_after m x r.serial e.told) es)
    (shows-Decides m r x e.told right (seen.0, tt) long keeps)
    (stores-Decides m (next_state m r e.told) (rolled x e.told) (serial_after m x r.serial e.told) es keeps seen.1 (numbered-step m r e.told follow.0 numbered) (IsRoll-step m r x e.told follow.0 numbered right)
    (serial-is m r x e.told right follow.0) (serial-long m r e.told keeps long) follow.1))

pub stores_told : (m : Machine) (es : List TimedEntry) → KeepsLengths m → SeenLengths m es → IsWellFormed m (first_state m) es → Decides (stores_right m nobody m.zero_store es) (AtEachEntry (ShowsValuesAt m) m (first_state m) es)
stores_told m es keeps seen follows =
    stores-Decides m (first_state m) nobody m.zero_store es keeps seen (nothing_heard-numbered m) (nobody-IsRoll m) refl (record { shared = refl; buffers = refl }) follows.follow
