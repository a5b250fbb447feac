-- What the text of an expansion is, for a script with procedures whose names pass.
use Rattle.std.proofs.Common.{◌≡◌, ℕ, List, None}
use Rattle.ts_trees.specs.Derived.{IsDerived}
use Rattle.ts_trees.specs.Spelling.{source_spelled}
use Rattle.ts_lexer.specs.Printed.{AreKinds}
use Rattle.ts_proc_names.specs.Named.{written_of}
use Rattle.ts_proc_names.specs.NameFaults.{name_fault}
use Rattle.ts_proc_names.specs.declared.named.PScript.{PScript}
use Rattle.ts_proc_expansion.specs.Expansion.{expansion}
use Rattle.ts_proc_laws.proofs.ProgramLemmas.{runs_as_expanded, nothing_refused}
use Rattle.ts_proc_texts.specs.Reading.{IsProcedureText}
use Rattle.command_laws.specs.ExpansionText.{SpellsExpansion, IsAcceptedAsExpanded, TextMeansIt}
use Rattle.command_laws.proofs.DerivedLemmas.{expansion_is_derived}
use Rattle.command_laws.proofs.KindLemmas.{expansion_kinds}
pub use Rattle.command_laws.proofs.TextLemmas.{TextLaws}
use Rattle.command_laws.proofs.TextLemmas.{line_spells, line_shallow, line_checked, line_accepted}

module _ (laws : TextLaws) (bytes : List ℕ) (script : PScript) (text : IsProcedureText bytes (written_of script)) where
  derived : IsDerived (expansion (written_of script))
  derived = expansion_is_derived (written_of script) text.spells.derived

  good : AreKinds (source_spelled (expansion (written_of script)))
  good = expansion_kinds laws.kinds bytes (written_of script) text script.few

  pub spells : SpellsExpansion (written_of script)
  spells within = line_spells laws (expansion (written_of script)) derived good within

  pub accepted : IsAcceptedAsExpanded (written_of script)
  accepted machine tree = (
    λ a. (line_shallow laws (expansion (written_of script)) derived good machine tree a, line_checked laws (expansion (written_of script)) derived good machine tree a),
    λ both. line_accepted laws (expansion (written_of script)) derived good machine tree both.0 both.1,
  )

  pub means : TextMeansIt (written_of script)
  means machine tree a =
      let free : name_fault (written_of script) ≡ None = nothing_refused (name_fault (written_of script)) script.named in
      runs_as_expanded (written_of script) free machine tree (line_checked laws (expansion (written_of script)) derived good machine tree a)
