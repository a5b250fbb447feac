-- Trees without pointers: what definitions and laws see of a script.
use Rattle.std.specs.Prelude.{ℕ, List, [], Option}
use Rattle.ts_checked.specs.declared.bin_op.BinOp.{BinOp}
use Rattle.ts_trees.specs.declared.word.Word.{Word}
use Rattle.ts_trees.specs.declared.stmt.Step.{Step}
use Rattle.ts_trees.specs.declared.script.Decl.{Decl}

-- an expression, a case for each of its forms; and a call's arguments
mutual
  pub data Tree : Type 0 where
    number : ℕ → Tree
    variable : Word → Tree
    item : Word → Tree → Tree
    size : Word → Tree
    message_item : Tree → Tree
    message_size : Tree
    call : Word → Trees → Tree
    negative inverse : Tree → Tree
    two : BinOp → Tree → Tree → Tree
    paren : Tree → Tree

  pub data Trees : Type 0 where
    no_trees : Trees
    tree_then : Tree → Trees → Trees

-- a statement, a case for each of its forms, of which the last is in scripts with procedures alone; and the statements of a block
mutual
  pub data Act : Type 0 where
    set : Word → Tree → Act
    set_item : Word → Tree → Tree → Act
    append : Word → Tree → Act
    take_last : Word → Word → Act
    clear : Word → Act
    call_alone : Word → Trees → Act
    if_then : Tree → Acts → Act
    if_else : Tree → Acts → Acts → Act
    for_next : Word → Tree → Tree → Option Step → Acts → Word → Act
    while_do : Tree → Acts → Act
    run_procedure : Word → Trees → Act

  pub data Acts : Type 0 where
    no_acts : Acts
    act_then : Act → Acts → Acts

-- a script: its declarations and its statements
pub record Source : Type 0 where
  pub decls : List Decl
  pub body : Acts

-- a procedure: its name, its parameters and its statements
pub record Procedure : Type 0 where
  pub name : Word
  pub params : List Word
  pub body : Acts

-- a script with procedures
pub record ProcedureSource : Type 0 where
  pub decls : List Decl
  pub procs : List Procedure
  pub body : Acts

-- a plain script as one without procedures
abbrev pub without_procedures : Source → ProcedureSource
without_procedures s = record { decls = s.decls; procs = []; body = s.body }
