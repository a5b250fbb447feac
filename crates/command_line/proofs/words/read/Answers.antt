use Rattle.command_line.proofs.LineLemmas.{read_of, unread_of}
use Rattle.command_line.proofs.words.read.Goals as goal

pub returns-in-Ok : goal.returns-in-Ok
returns-in-Ok c = read_of _ _ _ c.in-Ok.ensures c.line_in.ensures

pub returns-in-Err : goal.returns-in-Err
returns-in-Err c = unread_of _ _ c.in-Err.ensures
