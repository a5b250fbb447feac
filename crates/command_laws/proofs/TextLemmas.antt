-- The text of an expansion is cut and parsed into it, except for its places.
use Rattle.std.proofs.Common.{◌≡◌, ℕ, List, ◌++◌, None, Result, Ok, sym, ◌∙◌, ap, subst}
use Rattle.std.specs.Prelude.{codes}
use Rattle.vm_shape.specs.declared.description.Description.{Description}
use Rattle.ts_trees.specs.Cut.{CutFault, cut}
use Rattle.ts_trees.specs.Depth.{first_deep}
use Rattle.ts_trees.specs.Derived.{IsDerived}
use Rattle.ts_trees.specs.Faults.{Spells}
use Rattle.ts_trees.specs.Spelling.{source_spelled}
use Rattle.ts_trees.specs.Spelling as spelling
use Rattle.ts_checked.specs.Statement.{Block}
use Rattle.ts_trees.specs.Text.{text_of}
use Rattle.ts_trees.specs.Tree.{Source}
use Rattle.ts_trees.specs.declared.token.Token.{Token}
use Rattle.ts_trees.specs.declared.token.TokenKind.{TokenKind}
use Rattle.ts_syntax.specs.Line.{script_line}
use Rattle.ts_lexer.specs.Bare.{bare}
use Rattle.ts_lexer.specs.Printed.{AreKinds, IsCutInto, IsTextButPlaces}
use Rattle.ts_checker.specs.Accepted.{IsAccepted}
use Rattle.ts_checker.specs.Checks.{checked_source}
use Rattle.command_laws.proofs.CheckedLemmas.{same_tree}

-- what the laws of printed text and of answers say
pub record TextLaws : Type 0 where
  pub kinds : (bytes : List ℕ) (ks : List TokenKind) → IsCutInto bytes ks → AreKinds ks
  pub tokens : (ks : List TokenKind) → AreKinds ks → IsCutInto (text_of ks) ks
  pub line : (bytes : List ℕ) → cut (bytes ++ codes "\n") ≡ cut bytes
  pub script : (s : Source) → IsDerived s → AreKinds (source_spelled s) → first_deep (source_spelled s) ≡ None → IsTextButPlaces (text_of (source_spelled s)) s
  pub one_tree : (tokens : List Token) (s t : Source) → Spells tokens s → Spells tokens t → s ≡ t

same_tokens : (us vs : List Token) (r : Result (List Token) CutFault) → r ≡ Ok us → r ≡ Ok vs → us ≡ vs
same_tokens us vs r p q = cc

module _ (laws : TextLaws) (x : Source) (derived : IsDerived x) (good : AreKinds (source_spelled x)) where
  pub line_spells : first_deep (source_spelled x) ≡ None → IsTextButPlaces (script_line x) x
  line_spells within =
      let u = laws.script x derived good within in
      record { other = u.other; same = u.same; text = record { tokens = u.text.tokens; cuts = laws.line (text_of (source_spelled x)) ∙ u.text.cuts; spells = u.text.spells } }

  -- the tokens of the text
  line_tokens : (ts : List Token) → cut (script_line x) ≡ Ok ts → spelling.kinds ts ≡ source_spelled x
  line_tokens ts e =
      let u = laws.tokens (source_spelled x) good in
      let same : ts ≡ u.tokens = same_tokens ts u.tokens (cut (script_line x)) e (laws.line (text_of (source_spelled x)) ∙ u.cuts) in
      ap spelling.kinds same ∙ u.are

  pub line_shallow : (machine : Description) (tree : Block) → IsAccepted machine (script_line x) tree → first_deep (source_spelled x) ≡ None
  line_shallow machine tree a = ap first_deep (sym (line_tokens a.tokens a.cuts)) ∙ a.spells.within

  pub line_checked : (machine : Description) (tree : Block) → IsAccepted machine (script_line x) tree → checked_source machine x ≡ Ok tree
  line_checked machine tree a =
      let u = line_spells (line_shallow machine tree a) in
      let same : u.text.tokens ≡ a.tokens = same_tokens u.text.tokens a.tokens (cut (script_line x)) u.text.cuts a.cuts in
      let one : u.other ≡ a.source = laws.one_tree a.tokens u.other a.source (subst (λ (ts : List Token). Spells ts u.other) same u.text.spells) a.spells in
      same_tree machine a.source x tree (ap bare (sym one) ∙ u.same) a.checks

  pub line_accepted : (machine : Description) (tree : Block) → first_deep (source_spelled x) ≡ None → checked_source machine x ≡ Ok tree → IsAccepted machine (script_line x) tree
  line_accepted machine tree within checks =
      let u = line_spells within in
      record { tokens = u.text.tokens; source = u.other; cuts = u.text.cuts; spells = u.text.spells; checks = same_tree machine x u.other tree (sym u.same) checks }
