-- Which refusal of a source comes first.
use Rattle.std.proofs.Common.{◌≡◌, ◌⊎◌, ◌∙◌, ℕ, List, length, Result, Ok, Err, refl, sym, subst, ap, inl, inr}
use Rattle.std.specs.Prelude.{MatchResult, IfErr, codes}
use Rattle.vm_shape.specs.declared.description.Description.{Description}
use Rattle.ts_trees.specs.Cut.{cut, cut_from, bad_byte, big_literal}
use Rattle.ts_trees.specs.Faults.{Spells, IsUnexpected, IsTooDeep}
use Rattle.ts_trees.specs.Script.{IsScript}
use Rattle.ts_trees.specs.Tree.{Source}
use Rattle.ts_checked.specs.Checked.{ScriptTree}
use Rattle.ts_trees.specs.declared.token.Token.{Token}
use Rattle.ts_parser.specs.Verdict.{Verdict, spelled, unexpected, too_deep, IsSo}
use Rattle.ts_parser.specs.declared.fault.SourceFault.{SourceFault}
use Rattle.ts_parser.specs.declared.fault.SourceFault.TheVariants as fault
use Rattle.ts_checker.specs.declared.fault.CheckFault.{CheckFault}
use Rattle.ts_checker.specs.declared.fault.CheckFault.TheVariants as check
use Rattle.command_steps.specs.Answers.{TellsAcceptance, IsUnmeant}
use Rattle.command_steps.specs.declared.refusal.SourceRefusal.{SourceRefusal}
use Rattle.command_steps.specs.declared.refusal.SourceRefusal.TheVariants.{Spelling, Meaning}
use Rattle.callers_commands.specs.Refusals.{IsForMemory}

same_ok : {A E : Type 0} (r : Result A E) (x y : A) → r ≡ Ok x → r ≡ Ok y → x ≡ y
same_ok r x y a b = let e : Ok x ≡ Ok y = sym a ∙ b in cc

not_both : {A E : Type 0} (r : Result A E) (x : A) (e : E) → r ≡ Ok x → r ≡ Err e → ⊥
not_both r x e a b = let both : Ok x ≡ Err e = sym a ∙ b in cc

-- ---- a byte of no token

cut_now : cut (codes "@") ≡ Err (bad_byte 0)
unfolding cut_from
cut_now = refl

never_cut : (tokens : List Token) → cut (codes "@") ≡ Ok tokens → ⊥
never_cut tokens is = not_both (cut (codes "@")) tokens (bad_byte 0) is cut_now

unmeant : (d : Description) (f : CheckFault) → IsUnmeant d (codes "@") f → IsForMemory (Meaning f)
unmeant d check.NoMemory is = inr refl
unmeant d f is = absurd (never_cut is.tokens is.cuts)

pub told_bad : (d : Description) (result : Result ScriptTree SourceRefusal) → TellsAcceptance d (codes "@") result
    → MatchResult result (λ _. ⊥) (λ r. (r ≡ Spelling (fault.BadByte 0)) ⊎ IsForMemory r)
told_bad d (Ok c) tells = never_cut tells.tokens tells.cuts
told_bad d (Err (Spelling (fault.BadByte place))) tells =
    let e : Err (bad_byte place) ≡ Err (bad_byte 0) = sym tells ∙ cut_now in
    let same : place ≡ 0 = cc in
    inl (ap (λ (p : ℕ). Spelling (fault.BadByte p)) same)
told_bad d (Err (Spelling (fault.BigLiteral place))) tells = let e : Err (big_literal place) ≡ Err (bad_byte 0) = sym tells ∙ cut_now in absurd cc
told_bad d (Err (Spelling (fault.Unexpected place))) tells = absurd (never_cut tells.0 tells.1)
told_bad d (Err (Spelling (fault.TooDeep place))) tells = absurd (never_cut tells.0 tells.1)
told_bad d (Err (Spelling fault.NoMemory)) tells = inr (inl refl)
told_bad d (Err (Meaning f)) tells = inr (unmeant d f tells)

-- ---- a source that spells a script

abbrev OneVerdict : Type 0
OneVerdict = (tokens : List Token) (len : ℕ) (v w : Verdict) → IsSo tokens len v → IsSo tokens len w → v ≡ w

module _ (one : OneVerdict) (bytes : List ℕ) (tokens : List Token) (source : Source) (cuts : cut bytes ≡ Ok tokens) (spells : Spells tokens source) where
  well_spelt : (d : Description) (f : SourceFault) → TellsAcceptance d bytes (Err (Spelling f)) → f ≡ fault.NoMemory
  well_spelt d (fault.BadByte place) is = absurd (not_both (cut bytes) tokens (bad_byte place) cuts is)
  well_spelt d (fault.BigLiteral place) is = absurd (not_both (cut bytes) tokens (big_literal place) cuts is)
  well_spelt d (fault.Unexpected place) is =
      let same = same_ok (cut bytes) is.0 tokens is.1 cuts in
      let e : spelled source ≡ unexpected place =
      one tokens (length bytes) (spelled source) (unexpected place) spells (subst (λ (ts : List Token). IsUnexpected IsScript ts (length bytes) place) same is.2) in
      absurd cc
  well_spelt d (fault.TooDeep place) is =
      let same = same_ok (cut bytes) is.0 tokens is.1 cuts in
      let e : spelled source ≡ too_deep place =
      one tokens (length bytes) (spelled source) (too_deep place) spells (subst (λ (ts : List Token). IsTooDeep IsScript ts place) same is.2) in
      absurd cc
  well_spelt d fault.NoMemory is = refl

  pub not_misspelt : (d : Description) (result : Result ScriptTree SourceRefusal) → TellsAcceptance d bytes result
      → IfErr result (λ r. (f : SourceFault) → r ≡ Spelling f → f ≡ fault.NoMemory)
  not_misspelt d (Ok c) tells = tt
  not_misspelt d (Err (Spelling g)) tells = λ f is. let same : g ≡ f = cc in sym same ∙ well_spelt d g tells
  not_misspelt d (Err (Meaning g)) tells = λ f is. cc
