use Rattle.std.proofs.Common.{◌≡◌, ℕ, List, [], ◌∷◌, ◌++◌, map, replicate, Option, None, Box, Global, ◌∙◌, ap, arith}
use Rattle.std.specs.Option.{option_map}
use Rattle.std.proofs.lemmas.List.{replicate-append-replicate}
use Rattle.audit_programs.specs.declared.ready.ReadyProgram.{ReadyProgram}
use Rattle.audit_programs.proofs.table.ReadyPrograms.new.Goals as goal

abbrev Place : Type 0
Place = Option (Box ReadyProgram Global)

pub loop-place-preserved : goal.loop-place-preserved
loop-place-preserved c =
    c.in_ok-push.ensures.items ∙ ap (λ (ps : List Place). ps ++ None ∷ []) c.loop-place.invariant ∙ replicate-append-replicate c.loop-place._place 1 None

pub returns : goal.returns
returns c =
    let past = c.loop-place-test.false in
    let within = c.loop-place.auto._place-end in
    let all : c.loop-place._place ≡ 8 = omega (arith, past, within) in
    ap (λ (ps : List Place). map (option_map (λ program. program.value)) ps) (c.loop-place.invariant ∙ ap (λ (n : ℕ). replicate n None) all)
