use Rattle.std.proofs.Common.{inl, inr, refl, sym, List, map, subst, string_bytes, String, rules}
use Rattle.std.specs.Global.{Global}
use Rattle.command_line.specs.Words.{HasNoLine}
use Rattle.command_line.specs.Commands.{Task, task_held, Says, SaysNothing}
use Rattle.command_steps.specs.Steps.{goes_on, stops}
use Rattle.command_refusals.specs.declared.refusal.Refusal.TheVariants.{Usage, NoMemory}
use Rattle.mate_cli.proofs.top.output_of.Goals as goal

pub returns-in-Err-NotTaken-clause-does : goal.returns-in-Err-NotTaken-clause-does
returns-in-Err-NotTaken-clause-does g c =
    let none = rw c.in-Err-NotTaken.field-0-is at c.in-Err-NotTaken.ensures in
    let Q : List (String Global) → Type 0 = λ ws. HasNoLine (map string_bytes ws) in
    stops Usage (inl (tt, λ task says. subst Q c.as_slice.ensures.value none says.line says.is, refl)) refl

pub returns-in-Err-NoMemory-clause-does : goal.returns-in-Err-NoMemory-clause-does
returns-in-Err-NoMemory-clause-does g c = stops NoMemory (inr refl) refl

pub returns-in-Some-clause-does : goal.returns-in-Some-clause-does
returns-in-Some-clause-does g c =
    let task : Task = task_held c.in-Some.task in
    let Q : List (String Global) → Type 0 = λ ws. Says (map string_bytes ws) task in
    let says : Says (map string_bytes c.as_slice.result.now) task = record { line = _; is = c.in-Ok.ensures; task_is = sym c.in-Some.ensures } in
    goes_on task (subst Q c.as_slice.ensures.value says) c.task_output.ensures.does

pub returns-clause-does : goal.returns-clause-does
returns-clause-does g c =
    let none : SaysNothing (map string_bytes c.args.words.now.items) = search rules in
    stops Usage (inl (tt, none, refl)) refl

pub returns-in-Err-NotTaken-clause-writable : goal.returns-in-Err-NotTaken-clause-writable
returns-in-Err-NotTaken-clause-writable g c = tt

pub returns-in-Err-NoMemory-clause-writable : goal.returns-in-Err-NoMemory-clause-writable
returns-in-Err-NoMemory-clause-writable g c = tt

pub returns-in-Some-clause-reads : goal.returns-in-Some-clause-reads
returns-in-Some-clause-reads g c = c.task_output.ensures.reads

pub returns-in-Some-clause-writable : goal.returns-in-Some-clause-writable
returns-in-Some-clause-writable g c = c.task_output.ensures.writable

pub returns-clause-writable : goal.returns-clause-writable
returns-clause-writable g c = tt
