-- What is installed along a journal, by the versions of 8 handlers.
use Rattle.std.proofs.Common.{◌≡◌, ◌<◌, ◌≤◌, ℕ, suc, ◌+◌, Bool, true, false, List, ◌∷◌, length, map, drop, drop-cons, drop_of_length-le, replicate, refl, sym, ◌∙◌, ap, arith}
use Rattle.std.specs.Prelude.{◌&&◌, slice_index_or}
use Rattle.std.proofs.lemmas.List.{get_or-replicate}
use Rattle.mate_journal.specs.Journal.{TimedEntry, journal_of, journal_entry}
use Rattle.mate_journal.specs.Log.{Log}
use Rattle.mate_journal.specs.declared.entry.Entry.{Entry}
use Rattle.mate_journal.specs.declared.entry.Entry.TheVariants as entry
use Rattle.mate_journal.specs.declared.entry.Stamped.{Stamped}
use Rattle.mate_journal.specs.declared.program.Program.{Program}
use Rattle.journal_laws.specs.Growth.{event_of}
use Rattle.mate_num.specs.declared.id.HandlerId.{HandlerId}
use Rattle.audit_programs.proofs.TrialLemmas.{installed-kept}
use Rattle.audit_rules.specs.Roll.{Roll, nobody, rolled}
use Rattle.audit_rules.specs.Tests.{version_installed, installs_right, images_right}
use Rattle.report_audit.specs.Versions.{HasVersions}

-- nothing is installed at the beginning
pub no-versions : HasVersions (replicate 8 0) nobody
no-versions = record { places = refl; each = λ h low. get_or-replicate 8 h.0 0 0 low }

-- ---- along the journal

-- what is left settles whether each install is right
pub record Settles (ps : List Program) (l : Log) (held : List ℕ) (place : ℕ) : Type 0 where
  pub roll : Roll
  pub versions : HasVersions held roll
  pub rest : images_right ps roll (map (event_of l) (drop place l.entries)) ≡ images_right ps nobody (journal_of l)

events-next : (l : Log) (place : ℕ) (s : Stamped) → place < length l.entries → s ≡ slice_index_or l.entries place s → map (event_of l) (drop place l.entries) ≡ event_of l s ∷ map (event_of l) (drop (place + 1) l.entries)
events-next l place s within is =
    ap (λ (es : List Stamped). map (event_of l) es) (drop-cons l.entries place s within)
    ∙ ap (λ (t : Stamped). event_of l t ∷ map (event_of l) (drop (suc place) l.entries)) (sym is)
    ∙ ap (λ (k : ℕ). event_of l s ∷ map (event_of l) (drop k l.entries)) (let e : suc place ≡ place + 1 = omega arith in e)

pub settles-next : (ps : List Program) (l : Log) (held next : List ℕ) (place : ℕ) (s : Stamped) → place < length l.entries → s ≡ slice_index_or l.entries place s → (settles : Settles ps l held place) → true ≡ installs_right ps settles.roll (journal_entry l s.entry)
    → HasVersions next (rolled settles.roll (journal_entry l s.entry)) → Settles ps l next (place + 1)
settles-next ps l held next place s within is settles holds versions = record {
  roll = rolled settles.roll (journal_entry l s.entry);
  versions = versions;
  rest = ap (λ (b : Bool). b && images_right ps (rolled settles.roll (journal_entry l s.entry)) (map (event_of l) (drop (place + 1) l.entries))) holds
      ∙ ap (λ (es : List TimedEntry). images_right ps settles.roll es) (sym (events-next l place s within is))
      ∙ settles.rest;
}

-- an install is not right
pub settles-wrong : (ps : List Program) (l : Log) (held : List ℕ) (place : ℕ) (s : Stamped) → place < length l.entries → s ≡ slice_index_or l.entries place s → (settles : Settles ps l held place) → false ≡ installs_right ps settles.roll (journal_entry l s.entry)
    → false ≡ images_right ps nobody (journal_of l)
settles-wrong ps l held place s within is settles fails =
    ap (λ (b : Bool). b && images_right ps (rolled settles.roll (journal_entry l s.entry)) (map (event_of l) (drop (place + 1) l.entries))) fails
    ∙ ap (λ (es : List TimedEntry). images_right ps settles.roll es) (sym (events-next l place s within is))
    ∙ settles.rest

-- all are right
pub settles-all : (ps : List Program) (l : Log) (held : List ℕ) (place : ℕ) → length l.entries ≤ place → (settles : Settles ps l held place) → true ≡ images_right ps nobody (journal_of l)
settles-all ps l held place past settles =
    ap (λ (es : List Stamped). images_right ps settles.roll (map (event_of l) es)) (sym (drop_of_length-le l.entries past)) ∙ settles.rest

-- ---- an entry that installs nothing

pub none-installed : (ps : List Program) (l : Log) (x : Roll) (e : Entry) → ((h : HandlerId) (version image : ℕ) → e ≡ entry.Install h version image → ⊥) → true ≡ installs_right ps x (journal_entry l e)
none-installed ps l x (entry.Install h version image) other = absurd (other h version image refl)
none-installed ps l x _ other = refl

pub versions-kept : (l : Log) (held : List ℕ) (x : Roll) (e : Entry) → ((h : HandlerId) (version image : ℕ) → e ≡ entry.Install h version image → ⊥) → HasVersions held x → HasVersions held (rolled x (journal_entry l e))
versions-kept l held x e other versions = record { places = versions.places; each = λ h low. versions.each h low ∙ ap version_installed (sym (installed-kept l x e h other)) }
