-- The tests tell the first law that a log fails.
use Rattle.std.proofs.Common.{◌≡◌, ◌<◌, ℕ, suc, Bool, true, false, List, [], ◌∷◌, refl, ap, subst, arith, inl, inr, Option, Some, None, if◌then◌else◌}
use Rattle.std.specs.Prelude.{Decides, MatchOption, nat_lt}
use Rattle.std.specs.List.{list_any}
use Rattle.std.proofs.lemmas.Bool.{cases_lt}
use Rattle.std.proofs.lemmas.Bool.Decides.{not_from_Decides, Decides-and, Decides-ltb}
use Rattle.vm_shape.specs.declared.description.Description.{Description}
use Rattle.mate_journal.specs.Journal.{JournalEntry, Posted, Dropped, Started, Asked, Answered, Ended, Installed, Reset, Seen, Void, TimedEntry, NodeState, first_state, held, next_state, journal_of, AtEachEntry}
use Rattle.mate_journal.specs.Log.{Log}
use Rattle.mate_journal.specs.Machine.{HeldProgram, Machine}
use Rattle.mate_journal.specs.Tidy.{IsTidyLog}
use Rattle.mate_journal.specs.WellFormed.{MayFollow, IsWellFormed}
use Rattle.mate_journal.specs.declared.program.Program.{Program}
use Rattle.journal_laws.proofs.Apart.{IsNumbered, numbered-step}
use Rattle.node_programs.specs.Right.{AreRightPrograms}
use Rattle.node_programs.specs.Sources.{is_held_as}
use Rattle.audit_rules.specs.Granting.{grants_in_order}
use Rattle.audit_rules.specs.Rerun.{replays_right}
use Rattle.audit_rules.specs.Roll.{Roll, nobody, rolled, IsRoll}
use Rattle.audit_rules.specs.Following.{entries_follow}
use Rattle.audit_rules.specs.Shown.{stores_right}
use Rattle.audit_rules.proofs.Deciding.{always}
use Rattle.audit_rules.proofs.GrantLemmas.{grants_told}
use Rattle.audit_rules.proofs.RerunLemmas.{replay_told}
use Rattle.audit_rules.proofs.RollLemmas.{nobody-IsRoll, IsRoll-step}
use Rattle.audit_rules.proofs.FollowingLemmas.{nothing_heard-numbered, following-Decides}
use Rattle.audit_rules.proofs.ShownLemmas.{stores_told}
use Rattle.audit_rules.specs.Laws.{InstallsProgram, machine_by, rank_of}
use Rattle.audit_rules.specs.Tests.{version_installed, installs_right, images_right, conflict_of, failed_by}
use Rattle.audit_rules.specs.Verdicts.{LogKeeps, LogKeepsAll, LogFails}
use Rattle.mate_journal.specs.declared.law.Law.{Law}
use Rattle.mate_journal.specs.declared.law.Law.TheVariants as law
use Rattle.audit_rules.proofs.VerdictLemmas.{same_rank}
use Rattle.audit_rules.proofs.RightLemmas.{parts, conflicts, lengths, devices, seen_lengths}

-- ---- what is installed

held-is : (r : NodeState) (x : Roll) (p : HeldProgram) → IsRoll r x → version_installed (x.installed p.handler) ≡ held r p.handler
held-is r x p right = ap version_installed (right.installed p.handler)

installs-Decides : (ps : List Program) (r : NodeState) (x : Roll) (t : JournalEntry) → IsRoll r x → Decides (installs_right ps x t) (InstallsProgram ps r t)
installs-Decides ps r x (Installed p) right =
    Decides-and (list_any (is_held_as p) ps) (nat_lt (version_installed (x.installed p.handler)) p.version) (λ e. e, λ e. e)
    (subst (λ (k : ℕ). Decides (nat_lt (version_installed (x.installed p.handler)) p.version) (k < p.version)) (held-is r x p right) (Decides-ltb (version_installed (x.installed p.handler)) p.version))
installs-Decides ps r x _ right = always tt

images-Decides : (ps : List Program) (m : Machine) (r : NodeState) (x : Roll) (es : List TimedEntry) → IsNumbered r → IsRoll r x → AtEachEntry (MayFollow m) m r es → Decides (images_right ps x es) (AtEachEntry (InstallsProgram ps) m r es)
images-Decides ps m r x [] numbered right follow = always tt
images-Decides ps m r x (e ∷ es) numbered right follow =
    Decides-and (installs_right ps x e.told) (images_right ps (rolled x e.told) es) (installs-Decides ps r x e.told right)
    (images-Decides ps m (next_state m r e.told) (rolled x e.told) es (numbered-step m r e.told follow.0 numbered) (IsRoll-step m r x e.told follow.0 numbered right) follow.1)

-- ---- the first that fails

-- the log keeps the laws before this place
abbrev KeptBelow : Description → List Program → Log → ℕ → Type 0
KeptBelow d ps l n = (earlier : Law) → rank_of earlier < n → LogKeeps d ps l earlier

none-below : (d : Description) (ps : List Program) (l : Log) → KeptBelow d ps l 0
none-below d ps l earlier low = absurd (omega (arith, low))

one-more : (d : Description) (ps : List Program) (l : Log) (law : Law) → KeptBelow d ps l (rank_of law) → LogKeeps d ps l law → KeptBelow d ps l (suc (rank_of law))
one-more d ps l law kept keeps earlier low = elim (cases_lt (rank_of earlier) (rank_of law)) [
  | inl less ↦ kept earlier less
  | inr high ↦ subst (LogKeeps d ps l) (same_rank law earlier (omega (arith, low, high))) keeps
]

all-kept : (d : Description) (ps : List Program) (l : Log) → KeptBelow d ps l 6 → LogKeepsAll d ps l
all-kept d ps l kept any = kept any (low any) where
  low : (any : Law) → rank_of any < 6
  low law.D7 = omega arith
  low law.Image = omega arith
  low law.D8 = omega arith
  low law.D9 = omega arith
  low law.D10 = omega arith
  low law.D11 = omega arith

-- what is told of a log
abbrev Tells : Description → List Program → Log → Option Law → Type 0
Tells d ps l o = MatchOption o (LogKeepsAll d ps l) (LogFails d ps l)

fails-at : (d : Description) (ps : List Program) (l : Log) (law : Law) → KeptBelow d ps l (rank_of law) → (LogKeeps d ps l law → ⊥) → LogFails d ps l law
fails-at d ps l law kept fails = record { fails = fails; before = kept }

follows-in : (d : Description) (ps : List Program) (l : Log) (n : ℕ) → KeptBelow d ps l (suc n) → IsWellFormed (machine_by d ps) (first_state (machine_by d ps)) (journal_of l)
follows-in d ps l n kept = kept law.D7 (omega arith)

-- ---- each test in its turn

abbrev from_grants : Description → List Program → Log → Option Law
from_grants d ps l = if grants_in_order (conflict_of d) nobody 0 (journal_of l) then None else Some law.D10

abbrev from_stores : Description → List Program → Log → Option Law
from_stores d ps l = if stores_right (machine_by d ps) nobody (machine_by d ps).zero_store (journal_of l) then from_grants d ps l else Some law.D9

abbrev from_replay : Description → List Program → Log → Option Law
from_replay d ps l = if replays_right (machine_by d ps) (conflict_of d) nobody (machine_by d ps).zero_store (journal_of l) then from_stores d ps l else Some law.D8

abbrev from_images : Description → List Program → Log → Option Law
from_images d ps l = if images_right ps nobody (journal_of l) then from_replay d ps l else Some law.Image

module _ (d : Description) (ps : List Program) (l : Log) (right : AreRightPrograms d ps) (tidy : IsTidyLog d l) where
  by_grants : (b : Bool) → grants_in_order (conflict_of d) nobody 0 (journal_of l) ≡ b → KeptBelow d ps l 4 → Tells d ps l (if b then None else Some law.D10)
  by_grants true is kept =
      let granted = (grants_told (machine_by d ps) (conflict_of d) (journal_of l) (conflicts d ps right) (follows-in d ps l 3 kept)).0 is in
      let in_order = devices d ps (journal_of l) right (follows-in d ps l 3 kept) (kept law.D8 (omega arith)) granted in
      all-kept d ps l (one-more d ps l law.D11 (one-more d ps l law.D10 kept granted) in_order)
  by_grants false is kept =
      let tells = grants_told (machine_by d ps) (conflict_of d) (journal_of l) (conflicts d ps right) (follows-in d ps l 3 kept) in
      fails-at d ps l law.D10 kept (not_from_Decides (grants_in_order (conflict_of d) nobody 0 (journal_of l)) tells is)

  by_stores : (b : Bool) → stores_right (machine_by d ps) nobody (machine_by d ps).zero_store (journal_of l) ≡ b → KeptBelow d ps l 3 → Tells d ps l (if b then from_grants d ps l else Some law.D9)
  by_stores true is kept =
      let tells = stores_told (machine_by d ps) (journal_of l) (lengths d ps right) (seen_lengths d ps l tidy) (follows-in d ps l 2 kept) in
      by_grants (grants_in_order (conflict_of d) nobody 0 (journal_of l)) refl (one-more d ps l law.D9 kept (tells.0 is))
  by_stores false is kept =
      let tells = stores_told (machine_by d ps) (journal_of l) (lengths d ps right) (seen_lengths d ps l tidy) (follows-in d ps l 2 kept) in
      fails-at d ps l law.D9 kept (not_from_Decides (stores_right (machine_by d ps) nobody (machine_by d ps).zero_store (journal_of l)) tells is)

  by_replay : (b : Bool) → replays_right (machine_by d ps) (conflict_of d) nobody (machine_by d ps).zero_store (journal_of l) ≡ b → KeptBelow d ps l 2 → Tells d ps l (if b then from_stores d ps l else Some law.D8)
  by_replay true is kept =
      let tells = replay_told (machine_by d ps) (conflict_of d) (journal_of l) (parts d ps right) (conflicts d ps right) (follows-in d ps l 1 kept) in
      by_stores (stores_right (machine_by d ps) nobody (machine_by d ps).zero_store (journal_of l)) refl (one-more d ps l law.D8 kept (tells.0 is))
  by_replay false is kept =
      let tells = replay_told (machine_by d ps) (conflict_of d) (journal_of l) (parts d ps right) (conflicts d ps right) (follows-in d ps l 1 kept) in
      fails-at d ps l law.D8 kept (not_from_Decides (replays_right (machine_by d ps) (conflict_of d) nobody (machine_by d ps).zero_store (journal_of l)) tells is)

  images_told : IsWellFormed (machine_by d ps) (first_state (machine_by d ps)) (journal_of l) → Decides (images_right ps nobody (journal_of l)) (LogKeeps d ps l law.Image)
  images_told follow =
      images-Decides ps (machine_by d ps) (first_state (machine_by d ps)) nobody (journal_of l) (nothing_heard-numbered (machine_by d ps)) (nobody-IsRoll (machine_by d ps)) follow.follow

  by_images : (b : Bool) → images_right ps nobody (journal_of l) ≡ b → KeptBelow d ps l 1 → Tells d ps l (if b then from_replay d ps l else Some law.Image)
  by_images true is kept =
      by_replay (replays_right (machine_by d ps) (conflict_of d) nobody (machine_by d ps).zero_store (journal_of l)) refl (one-more d ps l law.Image kept ((images_told (follows-in d ps l 0 kept)).0 is))
  by_images false is kept = fails-at d ps l law.Image kept (not_from_Decides (images_right ps nobody (journal_of l)) (images_told (follows-in d ps l 0 kept)) is)

  by_following : (b : Bool) → entries_follow (machine_by d ps) (journal_of l) ≡ b → Tells d ps l (if b then from_images d ps l else Some law.D7)
  by_following true is =
      by_images (images_right ps nobody (journal_of l)) refl (one-more d ps l law.D7 (none-below d ps l) ((following-Decides (machine_by d ps) (journal_of l)).0 is))
  by_following false is =
      fails-at d ps l law.D7 (none-below d ps l) (not_from_Decides (entries_follow (machine_by d ps) (journal_of l)) (following-Decides (machine_by d ps) (journal_of l)) is)

pub failed-told : (d : Description) (ps : List Program) (l : Log) → AreRightPrograms d ps → IsTidyLog d l → MatchOption (failed_by d ps l) (LogKeepsAll d ps l) (LogFails d ps l)
failed-told d ps l right tidy = by_following d ps l right tidy (entries_follow (machine_by d ps) (journal_of l)) refl
