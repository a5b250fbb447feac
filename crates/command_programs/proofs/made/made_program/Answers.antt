use Rattle.std.proofs.Common.{Ok, Err, List, ℕ, ◌≤◌, ◌≡◌, length, sym, subst, arith}
use Rattle.command_steps.specs.Sources.{compiled_bytes}
use Rattle.command_steps.specs.SourceCode.{IsCompiledOf}
use Rattle.command_steps.specs.declared.code.CompiledScript.{CompiledScript}
use Rattle.command_programs.specs.Programs.{IsInstalled}
use Rattle.command_programs.proofs.ReadLemmas.{obtained-stops, obtained-weaker}
use Rattle.vm_shape.specs.Shapes.{shape_of}
use Rattle.command_programs.specs.Made.{IsMadeOf}
use Rattle.command_programs.proofs.MadeLemmas.{HasCode, sound-code}
use Rattle.command_programs.proofs.made.made_program.Goals as goal

pub compiled_bytes-requires : goal.compiled_bytes-requires
compiled_bytes-requires c = subst (λ (bs : List ℕ). length bs ≤ 1048576) (sym c.as_bytes.ensures.value) (let short = c.requires.short in omega (arith, short))

pub returns-in_err-compiled-clause-does : goal.returns-in_err-compiled-clause-does
returns-in_err-compiled-clause-does c =
    obtained-stops (HasCode c.args.desc.now c.args.fold c.args.source.now) (IsMadeOf c.args.desc.now c.args.fold c.args.handler c.args.version c.args.source.now) c.in_err-compiled.field-0.0 c.from_residual.result
    (sound-code c.args.desc.now c.args.fold _ c.args.source.now (Err c.in_err-compiled.field-0.0) c.requires.sound
    (subst (λ (bs : List ℕ). compiled_bytes c.args.desc.now c.args.fold _ bs (Err c.in_err-compiled.field-0.0)) c.as_bytes.ensures.value c.in_err-compiled.ensures.does)) c.from_residual.ensures.1

pub returns-in_err-shared-clause-does : goal.returns-in_err-shared-clause-does
returns-in_err-shared-clause-does c =
    obtained-stops (λ (s : CompiledScript). s ≡ c.in_ok-compiled.compiled) (IsMadeOf c.args.desc.now c.args.fold c.args.handler c.args.version c.args.source.now) c.in_err-shared.field-0.0 c.from_residual-in_err-shared.result
    c.in_err-shared.ensures c.from_residual-in_err-shared.ensures.1

pub program-requires-clause-filled : goal.program-requires-clause-filled
program-requires-clause-filled c = subst (λ (s : CompiledScript). 1 ≤ length s.code.items) (sym c.in_ok-shared.ensures) c.in_ok-compiled.ensures.filled

pub returns-clause-does : goal.returns-clause-does
returns-clause-does c =
    let d = c.args.desc.now in
    let x = c.in_ok-compiled.compiled in
    let shared : CompiledScript = c.in_ok-shared.shared in
    let code = sound-code d c.args.fold _ c.args.source.now (Ok x) c.requires.sound
    (subst (λ (bs : List ℕ). compiled_bytes d c.args.fold _ bs (Ok x)) c.as_bytes.ensures.value c.in_ok-compiled.ensures.does) in
    obtained-weaker (IsInstalled d c.args.handler c.args.version shared) (IsMadeOf d c.args.fold c.args.handler c.args.version c.args.source.now) c.program.result
    (λ p installed. record {
      tree = code.tree;
      accepted = code.accepted;
      script = x;
      compiled = code.compiled_is;
      installed = subst (λ (s : CompiledScript). IsInstalled d c.args.handler c.args.version s p) c.in_ok-shared.ensures installed;
    }) c.program.ensures.installed

pub returns-clause-right : goal.returns-clause-right
returns-clause-right c =
    let d = c.args.desc.now in
    let x = c.in_ok-compiled.compiled in
    let code = sound-code d c.args.fold _ c.args.source.now (Ok x) c.requires.sound
    (subst (λ (bs : List ℕ). compiled_bytes d c.args.fold _ bs (Ok x)) c.as_bytes.ensures.value c.in_ok-compiled.ensures.does) in
    c.program.ensures.right c.args.fold c.args.source.now code.tree code.accepted (subst (λ (s : CompiledScript). IsCompiledOf (shape_of d) c.args.fold code.tree s) (sym c.in_ok-shared.ensures) code.compiled_is)
