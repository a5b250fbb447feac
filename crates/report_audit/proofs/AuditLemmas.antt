-- The first law that a log fails, and the verdict on a report, step by step.
use Rattle.std.proofs.Common.{◌≡◌, ◌<◌, ◌≤◌, ◌⊎◌, ℕ, ◌+◌, Bool, true, false, List, length, Option, None, Some, sym, ◌∙◌, ap, subst, inl, inr, arith}
use Rattle.std.specs.Prelude.{IfSome, MatchOption, slice_get, slice_index_or, if◌then◌else◌}
use Rattle.std.proofs.lemmas.Bool.{cases_lt}
use Rattle.std.proofs.lemmas.Option.{slice_get-get_or}
use Rattle.vm_shape.specs.declared.description.Description.{Description}
use Rattle.mate_journal.specs.Log.{Log}
use Rattle.mate_journal.specs.declared.program.Program.{Program}
use Rattle.mate_journal.specs.declared.report.Report.{Report}
use Rattle.audit_rules.specs.Verdicts.{LogKeepsAll, LogFails, NodesKeep}
use Rattle.mate_journal.specs.declared.law.Law.{Law}
use Rattle.mate_journal.specs.declared.law.Law.TheVariants as law

-- the tests in their order
abbrev pub first_of_tests : Bool → Bool → Bool → Bool → Bool → Option Law
first_of_tests follow images serial shown granted =
    if follow then
    (if images then
    (if serial then
    (if shown then
    (if granted then None else Some law.D10)
    else Some law.D9)
    else Some law.D8)
    else Some law.Image)
    else Some law.D7

module _ (f i s h g : Bool) where
  pub at-follow : false ≡ f → Some law.D7 ≡ first_of_tests f i s h g
  at-follow e = ap (λ (b : Bool). first_of_tests b i s h g) e

  pub at-images : true ≡ f → false ≡ i → Some law.Image ≡ first_of_tests f i s h g
  at-images e k = ap (λ (b : Bool). first_of_tests true b s h g) k ∙ ap (λ (b : Bool). first_of_tests b i s h g) e

-- ---- node by node

-- the log of a node, as a slice shows it
pub at-node : (nodes ys : List Log) (k : ℕ) (l : Log) → ys ≡ nodes → k < length ys → l ≡ slice_index_or ys k l → slice_get nodes k ≡ Some l
at-node nodes ys k l same within is =
    let below : k < length nodes = subst (λ (ls : List Log). k < length ls) same within in
    slice_get-get_or nodes k l below ∙ ap (λ (x : Log). Some x) (sym (is ∙ ap (λ (ls : List Log). slice_index_or ls k l) same))

pub keeps-more : (d : Description) (ps : List Program) (r : Report) (n : ℕ) (l : Log) → NodesKeep d ps r n → slice_get r.nodes n ≡ Some l → LogKeepsAll d ps l → NodesKeep d ps r (n + 1)
keeps-more d ps r n l before is keeps k below = by (cases_lt k n) where
  by : (k < n) ⊎ (n ≤ k) → IfSome (slice_get r.nodes k) (LogKeepsAll d ps)
  by (inl low) = before k low
  by (inr high) =
      let same : n ≡ k = omega (arith, below, high) in
      subst (λ (j : ℕ). IfSome (slice_get r.nodes j) (LogKeepsAll d ps)) same (subst (λ (o : Option Log). IfSome o (LogKeepsAll d ps)) (sym is) keeps)

-- what the tests tell of a log, by the law that is found
pub found-none : (d : Description) (ps : List Program) (l : Log) (failed o : Option Law) → o ≡ failed → o ≡ None → MatchOption failed (LogKeepsAll d ps l) (LogFails d ps l) → LogKeepsAll d ps l
found-none d ps l failed o same none told = subst (λ (x : Option Law). MatchOption x (LogKeepsAll d ps l) (LogFails d ps l)) (sym same ∙ none) told

pub found-law : (d : Description) (ps : List Program) (l : Log) (failed o : Option Law) (a : Law) → o ≡ failed → o ≡ Some a → MatchOption failed (LogKeepsAll d ps l) (LogFails d ps l) → LogFails d ps l a
found-law d ps l failed o a same some told = subst (λ (x : Option Law). MatchOption x (LogKeepsAll d ps l) (LogFails d ps l)) (sym same ∙ some) told
