-- What the parts of declarations, procedures and scripts read.
use Rattle.std.specs.Prelude.{◌≡◌, List, [], ◌∷◌, ◌++◌, Option, Some, None, Result, Ok, Err}
use Rattle.std.proofs.Common.{Bor}
use Rattle.ts_trees.specs.declared.word.Word.{Word}
use Rattle.ts_trees.specs.declared.script.DeclKind.{DeclKind}
use Rattle.ts_trees.specs.declared.script.DeclKind.TheVariants as decl
use Rattle.ts_trees.specs.declared.dialect.Dialect.{Dialect}
use Rattle.ts_trees.specs.declared.dialect.Dialect.TheVariants as dialect
use Rattle.ts_trees.specs.declared.procedure.ProcScript.{ProcScript}
use Rattle.ts_trees.specs.declared.script.Decl.{Decl}
use Rattle.ts_trees.specs.declared.token.Token.{Token}
use Rattle.ts_trees.specs.declared.token.TokenKind.{TokenKind}
use Rattle.ts_trees.specs.declared.token.TokenKind.TheVariants as kind
use Rattle.ts_trees.specs.Seen.{procedure_source_of}
use Rattle.ts_trees.specs.Spelling.{kinds}
use Rattle.ts_trees.specs.Tree.{Acts, no_acts, Procedure}
use Rattle.ts_trees.specs.declared.halt.Halt.{Halt}
use Rattle.ts_trees.specs.Machine.{Frame, top, main, proc_part, procedure, State, block, proc_opened, procedures, start}
use Rattle.ts_trees.specs.Parsing.{Gives, reads}

-- the keyword of a declaration
abbrev pub decl_kind : TokenKind → Option DeclKind
decl_kind kind.Shared = Some decl.Shared
decl_kind kind.Private = Some decl.Private
decl_kind kind.Buffer = Some decl.Buffer
decl_kind k = None

pub record StartsDecl (d : DeclKind) (tokens rest : List Token) : Type 0 where
  pub token : Token
  pub are : tokens ≡ token ∷ rest
  pub declares : decl_kind token.kind ≡ Some d

abbrev pub LacksDecl : List Token → Type 0
LacksDecl [] = Unit {0}
LacksDecl (t ∷ ts) = decl_kind t.kind ≡ None

abbrev pub FindsDecl : List Token → Option (DeclKind × Bor (List Token)) → Type 0
FindsDecl tokens (Some x) = StartsDecl x.0 tokens x.1.now
FindsDecl tokens None = LacksDecl tokens

-- the head of a procedure, after its `(`
pub record Header : Type 0 where
  pub name : Word
  pub decls : List Decl
  pub procs : List Procedure

abbrev pub params_due : Header → State
params_due h = proc_opened h.name h.decls h.procs

abbrev pub header_read : Header → List Word → State
header_read h ws = block no_acts (proc_part h.name ws h.decls h.procs)

-- the statements of a procedure
pub record Routine : Type 0 where
  pub header : Header
  pub params : List Word

abbrev pub routine_due : Routine → State
routine_due k = header_read k.header k.params

abbrev pub routine_read : Routine → Acts → State
routine_read k a = procedures k.header.decls (k.header.procs ++ procedure k.header.name k.params a ∷ [])

-- where the statements of a script are, after its declarations and procedures
abbrev pub script_frame : Dialect → List Decl → List Procedure → Frame
script_frame dialect.Plain ds ps = top ds
script_frame dialect.Procedures ds ps = main ds ps

-- a plain script has no procedures
abbrev pub FewIn : Dialect → List Procedure → Type 0
FewIn dialect.Plain ps = ps ≡ []
FewIn dialect.Procedures ps = Unit {0}

-- the tokens are a whole script of a dialect, or the machine stops at the rest
abbrev pub ReadsScript : Dialect → List Token → Result ProcScript Halt → Type 0
ReadsScript d tokens result =
    Gives result (λ s. reads tokens (start d) ≡ Ok (procedure_source_of s, 0 ∷ [])) (λ rest. reads tokens (start d) ≡ Err (kinds rest))
