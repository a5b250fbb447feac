use Rattle.std.proofs.Common.{◌∙◌, ◌≤◌, ◌<◌, List, ℕ, length, sym, subst, ap, arith}
use Rattle.std.specs.Prelude.{slice_index_or}
use Rattle.script_reader.specs.Sound.{IsSoundSource}
use Rattle.command_programs.proofs.MadeLemmas.{sources_are, versions_are}
use Rattle.command_programs.proofs.made.programs_of_sources.Goals as goal

pub bounds-texts-0 : goal.bounds-texts-0
bounds-texts-0 c = (sources_are c.args.desc.now c.as_slice-texts.result.now (c.as_slice-texts.ensures ∙ c.requires)).low

pub add_version-requires-clause-sound : goal.add_version-requires-clause-sound
add_version-requires-clause-sound c =
    let are = sources_are c.args.desc.now c.as_slice-texts.result.now (c.as_slice-texts.ensures ∙ c.requires) in
    subst (IsSoundSource c.args.desc.now) (sym (c.as_str.ensures ∙ are.first c.index-texts-0.result c.index-texts-0.is)) (c.sources_law.ensures c.args.desc.now 1 (omega arith))

pub add_version-requires-clause-short : goal.add_version-requires-clause-short
add_version-requires-clause-short c =
    let are = sources_are c.args.desc.now c.as_slice-texts.result.now (c.as_slice-texts.ensures ∙ c.requires) in
    subst (λ (bs : List ℕ). length bs ≤ 1000) (sym (c.as_str.ensures ∙ are.first c.index-texts-0.result c.index-texts-0.is)) (c.sources_are_short.ensures c.args.desc.now 1)

pub bounds-texts-handlers : goal.bounds-texts-handlers
bounds-texts-handlers c =
    subst (λ (n : ℕ). n < length c.as_slice-texts.result.now) (sym c.len-handlers.ensures.value)
    (sources_are c.args.desc.now c.as_slice-texts.result.now (c.as_slice-texts.ensures ∙ c.requires)).high

pub add_version-requires-2-clause-sound : goal.add_version-requires-2-clause-sound
add_version-requires-2-clause-sound c =
    let are = sources_are c.args.desc.now c.as_slice-texts.result.now (c.as_slice-texts.ensures ∙ c.requires) in
    let x : List ℕ = c.index-texts-handlers.result in
    let at = c.index-texts-handlers.is ∙ ap (λ (n : ℕ). slice_index_or c.as_slice-texts.result.now n x) c.len-handlers.ensures.value in
    subst (IsSoundSource c.args.desc.now) (sym (c.as_str-2.ensures ∙ are.second x at)) (c.sources_law.ensures c.args.desc.now 2 (omega arith))

pub add_version-requires-2-clause-short : goal.add_version-requires-2-clause-short
add_version-requires-2-clause-short c =
    let are = sources_are c.args.desc.now c.as_slice-texts.result.now (c.as_slice-texts.ensures ∙ c.requires) in
    let x : List ℕ = c.index-texts-handlers.result in
    let at = c.index-texts-handlers.is ∙ ap (λ (n : ℕ). slice_index_or c.as_slice-texts.result.now n x) c.len-handlers.ensures.value in
    subst (λ (bs : List ℕ). length bs ≤ 1000) (sym (c.as_str-2.ensures ∙ are.second x at)) (c.sources_are_short.ensures c.args.desc.now 2)

pub returns-clause-programs : goal.returns-clause-programs
returns-clause-programs c =
    let are = sources_are c.args.desc.now c.as_slice-texts.result.now (c.as_slice-texts.ensures ∙ c.requires) in
    let x : List ℕ = c.index-texts-handlers.result in
    let at = c.index-texts-handlers.is ∙ ap (λ (n : ℕ). slice_index_or c.as_slice-texts.result.now n x) c.len-handlers.ensures.value in
    versions_are c.args.desc.now c.args.fold c.new-programs.result c.add_version.new.programs c.add_version-2.new.programs c.as_str.result.now c.as_str-2.result.now c.new-programs.ensures
    (c.as_str.ensures ∙ are.first c.index-texts-0.result c.index-texts-0.is) (c.as_str-2.ensures ∙ are.second x at) c.in_ok-add_version.ensures.added c.in_ok-add_version-2.ensures.added
