use Rattle.std.proofs.Common.{ℕ, map, Some, slice_set, ◌∙◌, ap}
use Rattle.std.specs.Option.{option_map}
use Rattle.std.proofs.lemmas.List.{map-set}
use Rattle.audit_programs.specs.Ready.{installed_programs}
use Rattle.audit_programs.specs.declared.ready.ReadyProgram.{ReadyProgram}
use Rattle.audit_programs.proofs.table.ReadyPrograms.install.Goals as goal

pub returns : goal.returns
returns c =
    ap (λ (k : ℕ). map (option_map (λ program. program.value)) (slice_set c.args.self.now.programs.items k (Some c.in_ok-new.field-0))) c.from.ensures
    ∙ map-set (option_map (λ program. program.value)) c.args.self.now.programs.items c.args.handler.0 (Some c.in_ok-new.field-0)
    ∙ ap (λ (p : ReadyProgram). slice_set (installed_programs c.args.self.now) c.args.handler.0 (Some p)) c.in_ok-new.ensures.ok
