-- Each answer to a source is what the cut of its bytes, the reading of its tokens and the checks of its script give.
use Rattle.std.proofs.Common.{◌≡◌, ℕ, List, length, Result, Ok, Err, sym, subst}
use Rattle.std.specs.Result.{IsErrAnd}
use Rattle.vm_shape.specs.declared.description.Description.{Description}
use Rattle.ts_trees.specs.Cut.{cut}
use Rattle.ts_trees.specs.Faults.{Spells}
use Rattle.ts_trees.specs.Seen.{source_seen}
use Rattle.ts_checked.specs.Statement.{Block}
use Rattle.ts_trees.specs.Tree.{Source}
use Rattle.ts_checked.specs.Checked.{ScriptTree}
use Rattle.ts_trees.specs.declared.script.Script.{Script}
use Rattle.ts_trees.specs.declared.token.Token.{Token}
use Rattle.ts_parser.specs.Cutting.{CutsScript}
use Rattle.ts_parser.specs.Reading.{ReadsScript, cuts, fails}
use Rattle.ts_parser.specs.Verdict.{Answers}
use Rattle.ts_parser.specs.declared.fault.SourceFault.{SourceFault}
use Rattle.ts_parser.specs.declared.fault.SourceFault.TheVariants as fault
use Rattle.ts_checker.specs.declared.fault.CheckFault.{CheckFault}
use Rattle.ts_checker.specs.declared.fault.CheckFault.TheVariants as check
use Rattle.ts_checker.specs.Accepted.{IsAccepted}
use Rattle.ts_checker.specs.Answer.{RefusesScript}
use Rattle.ts_checker.specs.Checks.{checked_source}
use Rattle.command_steps.specs.Answers.{IsMisspelt, IsUnmeant, IsRefused, TellsAcceptance}
use Rattle.command_steps.specs.declared.refusal.SourceRefusal.{SourceRefusal}
use Rattle.command_steps.specs.declared.refusal.SourceRefusal.TheVariants.{Spelling}

-- a fault of the spelling is handed on
handed_on : (d : Description) (bytes : List ℕ) (f : SourceFault) → IsMisspelt d bytes f → (r : Result ScriptTree SourceRefusal) → IsErrAnd r (λ x. x ≡ Spelling f) → TellsAcceptance d bytes r
handed_on d bytes f h (Ok c) i = absurd i
handed_on d bytes f h (Err r) i = subst (IsRefused d bytes) (sym i) h

bytes_refused : (d : Description) (bytes : List ℕ) (f : SourceFault) → CutsScript bytes (Err f) → (r : Result ScriptTree SourceRefusal) → IsErrAnd r (λ x. x ≡ Spelling f) → TellsAcceptance d bytes r
bytes_refused d bytes f h = handed_on d bytes f (told f h)
  where
    told : (f : SourceFault) → CutsScript bytes (Err f) → IsMisspelt d bytes f
    told (fault.BadByte place) h = h
    told (fault.BigLiteral place) h = h
    told (fault.Unexpected place) h = absurd h
    told (fault.TooDeep place) h = absurd h
    told fault.NoMemory h = tt

tokens_refused : (d : Description) (bytes : List ℕ) (tokens : List Token) (f : SourceFault) → cut bytes ≡ Ok tokens → Answers tokens (length bytes) (Err f)
    → (r : Result ScriptTree SourceRefusal) → IsErrAnd r (λ x. x ≡ Spelling f) → TellsAcceptance d bytes r
tokens_refused d bytes tokens f is_cut h = handed_on d bytes f (told f h)
  where
    told : (f : SourceFault) → Answers tokens (length bytes) (Err f) → IsMisspelt d bytes f
    told (fault.BadByte place) h = absurd h
    told (fault.BigLiteral place) h = absurd h
    told (fault.Unexpected place) h = (tokens, is_cut, h)
    told (fault.TooDeep place) h = (tokens, is_cut, h)
    told fault.NoMemory h = tt

pub text_refused : (d : Description) (bytes : List ℕ) (f : SourceFault) → ReadsScript bytes (Err f) → (r : Result ScriptTree SourceRefusal) → IsErrAnd r (λ x. x ≡ Spelling f) → TellsAcceptance d bytes r
text_refused d bytes f (cuts tokens c a) r i = tokens_refused d bytes tokens f c a r i
text_refused d bytes f (fails g h e) r i =
    let is : g ≡ f = cc in bytes_refused d bytes f (subst (λ z. CutsScript bytes (Err z)) is h) r i

-- the script of the text passes the checks, or is refused by them
pub script_accepted : (d : Description) (bytes : List ℕ) (s : Script) (tree : Block) → ReadsScript bytes (Ok s) → checked_source d (source_seen s) ≡ Ok tree → IsAccepted d bytes tree
script_accepted d bytes s tree (cuts tokens c a) checks = record { tokens = tokens; source = source_seen s; cuts = c; spells = a; checks = checks }
script_accepted d bytes s tree (fails f h e) checks = cc

of_source : (d : Description) (bytes : List ℕ) (tokens : List Token) (s : Source) (f : CheckFault) → cut bytes ≡ Ok tokens → Spells tokens s → RefusesScript f (checked_source d s) → IsUnmeant d bytes f
of_source d bytes tokens s check.NoMemory is_cut spells h = tt
of_source d bytes tokens s f is_cut spells h = record { tokens = tokens; source = s; cuts = is_cut; spells = spells; checks = h }

pub script_refused : (d : Description) (bytes : List ℕ) (s : Script) (f : CheckFault) → ReadsScript bytes (Ok s) → RefusesScript f (checked_source d (source_seen s)) → IsUnmeant d bytes f
script_refused d bytes s f (cuts tokens c a) h = of_source d bytes tokens (source_seen s) f c a h
script_refused d bytes s f (fails g h e) r = cc
