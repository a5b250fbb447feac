-- A report that is read back has the same journals.
use Rattle.std.proofs.Common.{◌≡◌, ◌≤◌, ℕ, List, [], ◌∷◌, length, map, refl, sym, ◌∙◌, ap}
use Rattle.std.specs.Prelude.{Result, Ok, Err}
use Rattle.std.specs.List.{AllZip}
use Rattle.arrayvec.specs.ArrayVec.{ArrayVec}
use Rattle.mate_num.specs.declared.store.Store.{Store}
use Rattle.vm_shape.specs.declared.description.Description.{Description}
use Rattle.mate_journal.specs.Journal.{TimedEntry, journal_of}
use Rattle.mate_journal.specs.Log.{Log, IsSameLog}
use Rattle.mate_journal.specs.Ranges.{HasReportRanges}
use Rattle.mate_journal.specs.declared.entry.Stamped.{Stamped}
use Rattle.mate_journal.specs.declared.program.Program.{Program}
use Rattle.mate_journal.specs.declared.report.Report.{Report}
use Rattle.report_writer.specs.Text.{text}
use Rattle.report_writer.specs.Tidy.{IsTidy}
use Rattle.report_text.specs.Parts.{IsSameReport}
use Rattle.report_text.specs.Reads.{ReadsReport}
use Rattle.report_text.specs.Written.{GivesBack}
use Rattle.report_text.specs.declared.fault.TextFault.{TextFault}
use Rattle.report_text.specs.declared.fault.TextFault.TheVariants.{BadLine, NoMemory}
use Rattle.report_text.proofs.TripLemmas.{gives_back}
use Rattle.audit_rules.specs.Verdicts.{IsVerdict}
use Rattle.mate_journal.specs.declared.law.Verdict.{Verdict}
use Rattle.audit_rules.proofs.ReportLemmas.{same-verdict}
use Rattle.command_laws.specs.Reading.{IsReadWith}

-- the journal of a log's three lists
abbrev told : List Stamped → List (ArrayVec ℕ) → List Store → List TimedEntry
told entries images stores = journal_of (record { entries = entries; images = images; stores = stores; spare = 0 })

same-journal : (a b : Log) → IsSameLog a b → journal_of b ≡ journal_of a
same-journal a b same =
    let entries : told b.entries b.images b.stores ≡ told a.entries b.images b.stores = ap (λ (es : List Stamped). told es b.images b.stores) (sym same.entries) in
    let images : told a.entries b.images b.stores ≡ told a.entries a.images b.stores = ap (λ (xs : List (ArrayVec ℕ)). told a.entries xs b.stores) (sym same.images) in
    let stores : told a.entries a.images b.stores ≡ told a.entries a.images a.stores = ap (λ (xs : List Store). told a.entries a.images xs) (sym same.stores) in
    entries ∙ images ∙ stores

-- logs that are the same but for their room have the same journals
pub same-journals : (xs bs : List Log) → AllZip IsSameLog xs bs → map journal_of bs ≡ map journal_of xs
same-journals [] [] same = refl
same-journals [] (b ∷ bs) same = absurd same
same-journals (a ∷ rest) [] same = absurd same
same-journals (a ∷ rest) (b ∷ bs) same = ap (λ (es : List TimedEntry). es ∷ map journal_of bs) (same-journal a b same.0) ∙ ap (λ (js : List (List TimedEntry)). journal_of a ∷ js) (same-journals rest bs same.1)

pub read-back : (d : Description) (ps : List Program) (x r : Report) (v : Verdict) → IsSameReport x r → IsVerdict d ps r v → IsVerdict d ps x v
read-back d ps x r v same is = same-verdict d ps r x v (same-journals x.nodes r.nodes same.nodes) is

-- ---- the text

read-with : (d : Description) (ps : List Program) (r : Report) (v : Verdict) (answer : Result Report TextFault) → IsVerdict d ps r v → GivesBack r answer → IsReadWith d ps v answer
read-with d ps r v (Ok x) is same = read-back d ps x r v same is
read-with d ps r v (Err (BadLine line)) is none = none
read-with d ps r v (Err NoMemory) is wanting = tt

pub read-text : (d : Description) (ps : List Program) (r : Report) (v : Verdict) (answer : Result Report TextFault) → length (text d r) ≤ 4000000000 → IsTidy d r → HasReportRanges r → IsVerdict d ps r v → ReadsReport d (text d r) answer → IsReadWith d ps v answer
read-text d ps r v answer short tidy ranges is reads = read-with d ps r v answer is (gives_back d (text d r) answer short reads r tidy ranges refl)
