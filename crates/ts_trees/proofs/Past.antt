-- The tokens that lead to a state, and which states the machine comes to.
use Rattle.std.proofs.Common.{◌≡◌, Bool, true, false, List, [], ◌∷◌, ◌++◌, refl, ◌∙◌, ap}
use Rattle.ts_trees.specs.declared.word.Word.{Word}
use Rattle.ts_trees.specs.declared.dialect.Dialect.{Dialect}
use Rattle.ts_trees.specs.declared.dialect.Dialect.TheVariants as dialect
use Rattle.ts_trees.specs.declared.script.Decl.{Decl}
use Rattle.ts_trees.specs.declared.script.DeclKind.{DeclKind}
use Rattle.ts_trees.specs.declared.token.TokenKind.{TokenKind}
use Rattle.ts_trees.specs.declared.token.TokenKind.TheVariants as kind
use Rattle.ts_trees.specs.Tree.{Trees, no_trees, tree_then, Acts, Procedure}
use Rattle.ts_trees.specs.Spelling.{sign, name, spelled, step_spelled, act_spelled, acts_spelled, decl_keyword, decl_start, decl_end, decls_spelled, params_spelled, procedures_spelled}
use Rattle.ts_trees.specs.Derived.{levels_of, Derived, ArgsDerived, ActDerived, ActsDerived, DeclsDerived, ProceduresDerived}
use Rattle.ts_trees.proofs.Levels.{at_and, at_not, at_compare, at_sum, at_product, at_sign, IsPart}
use Rattle.ts_trees.specs.Machine.{Frame, top, main, proc_part, then_part, else_part, for_part, while_part, Operand, in_negative, first_product, in_product, Product, first_sum, in_sum, Sum, first_compare, in_compare, Inverse, in_inverse, first_and, in_and, Conjunction, first_or, in_or, Whole, in_paren, in_item, in_message, in_args, in_set, in_index, in_set_item, in_append, in_call, in_if, in_from, in_to, in_while, in_do, State, decls, decl_name, decl_more, procedures, proc_word, proc_named, proc_opened, param_read, param_due, proc_ended, want, want_inverse, named, opened, sized, size_opened, size_named, message, have_product, have_sum, have_inverse, have_and, have, block, stmt_named, set_to, set_named, set_boxed, set_taken, boxed, append_to, item_indexed, call_opened, cleared, clear_opened, clear_named, closed, for_word, for_named, stepped, step_signed, nexted, if_ended, while_ended, do_word, do_named, do_opened}

-- ---- the tokens

abbrev pub past_procedures : List Decl → List Procedure → List TokenKind
past_procedures ds ps = decls_spelled ds ++ procedures_spelled ps

abbrev pub past_frame : Frame → List TokenKind
past_frame (top ds) = decls_spelled ds
past_frame (main ds ps) = past_procedures ds ps
past_frame (proc_part w ws ds ps) = past_procedures ds ps ++ (kind.Proc ∷ name w ∷ kind.Open ∷ params_spelled ws ++ kind.Close ∷ [])
past_frame (then_part e b f) = (past_frame f ++ acts_spelled b) ++ (kind.If ∷ spelled e ++ kind.Then ∷ [])
past_frame (else_part e c b f) = (past_frame f ++ acts_spelled b) ++ (kind.If ∷ spelled e ++ (kind.Then ∷ acts_spelled c ++ kind.Else ∷ []))
past_frame (for_part w s t p b f) = (past_frame f ++ acts_spelled b) ++ (kind.For ∷ name w ∷ kind.Eq ∷ spelled s ++ (kind.To ∷ spelled t ++ step_spelled p))
past_frame (while_part e b f) = (past_frame f ++ acts_spelled b) ++ (kind.While ∷ spelled e)

-- the parameters before another one, each with its comma
abbrev pub params_open : List Word → List TokenKind
params_open [] = []
params_open (w ∷ ws) = name w ∷ kind.Comma ∷ params_open ws

-- the statements before in a block
abbrev pub past_block : Acts → Frame → List TokenKind
past_block a f = past_frame f ++ acts_spelled a

-- arguments before another one, each with its comma
abbrev pub args_open : Trees → List TokenKind
args_open no_trees = []
args_open (tree_then e es) = spelled e ++ kind.Comma ∷ args_open es

abbrev mutual
  pub past_operand : Operand → List TokenKind
  past_operand (in_negative k) = past_operand k ++ kind.Minus ∷ []
  past_operand (first_product k) = past_product k
  past_operand (in_product o l k) = past_product k ++ (spelled l ++ sign o ∷ [])

  pub past_product : Product → List TokenKind
  past_product (first_sum k) = past_sum k
  past_product (in_sum o l k) = past_sum k ++ (spelled l ++ sign o ∷ [])

  pub past_sum : Sum → List TokenKind
  past_sum (first_compare k) = past_inverse k
  past_sum (in_compare o l k) = past_inverse k ++ (spelled l ++ sign o ∷ [])

  pub past_inverse : Inverse → List TokenKind
  past_inverse (in_inverse k) = past_inverse k ++ kind.Not ∷ []
  past_inverse (first_and k) = past_and k
  past_inverse (in_and l k) = past_and k ++ (spelled l ++ kind.And ∷ [])

  pub past_and : Conjunction → List TokenKind
  past_and (first_or k) = past_whole k
  past_and (in_or l k) = past_whole k ++ (spelled l ++ kind.Or ∷ [])

  pub past_whole : Whole → List TokenKind
  past_whole (in_paren k) = past_operand k ++ kind.Open ∷ []
  past_whole (in_item w k) = past_operand k ++ (name w ∷ kind.OpenBox ∷ [])
  past_whole (in_message k) = past_operand k ++ (kind.Msg ∷ kind.OpenBox ∷ [])
  past_whole (in_args w es k) = past_operand k ++ (name w ∷ kind.Open ∷ args_open es)
  past_whole (in_set w a f) = past_block a f ++ (name w ∷ kind.Eq ∷ [])
  past_whole (in_index w a f) = past_block a f ++ (name w ∷ kind.OpenBox ∷ [])
  past_whole (in_set_item w i a f) = past_block a f ++ (name w ∷ kind.OpenBox ∷ spelled i ++ kind.CloseBox ∷ kind.Eq ∷ [])
  past_whole (in_append w a f) = past_block a f ++ (name w ∷ kind.OpenBox ∷ kind.CloseBox ∷ kind.Eq ∷ [])
  past_whole (in_call w es a f) = past_block a f ++ (name w ∷ kind.Open ∷ args_open es)
  past_whole (in_if a f) = past_block a f ++ kind.If ∷ []
  past_whole (in_from w a f) = past_block a f ++ (kind.For ∷ name w ∷ kind.Eq ∷ [])
  past_whole (in_to w s a f) = past_block a f ++ (kind.For ∷ name w ∷ kind.Eq ∷ spelled s ++ kind.To ∷ [])
  past_whole (in_while a f) = past_block a f ++ kind.While ∷ []
  past_whole (in_do w es a f) = past_block a f ++ (kind.Do ∷ name w ∷ kind.Open ∷ args_open es)

-- declared names without the last semicolon
abbrev pub names_open : List Decl → List TokenKind
names_open [] = []
names_open (d ∷ ds) = decl_end d.first ++ (decl_start d.first d.kind ∷ name d.word ∷ names_open ds)

abbrev pub decls_open : List Decl → List TokenKind
decls_open [] = []
decls_open (d ∷ ds) = decl_start d.first d.kind ∷ name d.word ∷ names_open ds

abbrev pub past_name : DeclKind → Bool → List Decl → List TokenKind
past_name k true ds = decls_spelled ds ++ decl_keyword k ∷ []
past_name k false ds = decls_open ds ++ kind.Comma ∷ []

-- all tokens but the last
abbrev pub without_last : List TokenKind → List TokenKind
without_last [] = []
without_last (k ∷ []) = []
without_last (k ∷ j ∷ ks) = k ∷ without_last (j ∷ ks)

last_dropped : (xs : List TokenKind) (k : TokenKind) → without_last (xs ++ k ∷ []) ≡ xs
last_dropped [] k = refl
last_dropped (x ∷ []) k = refl
last_dropped (x ∷ y ∷ xs) k = ap (λ z. x ∷ z) (last_dropped (y ∷ xs) k)

pub drops : {ks : List TokenKind} (xs : List TokenKind) (k : TokenKind) → ks ≡ xs ++ k ∷ [] → without_last ks ≡ xs
drops xs k e = ap without_last e ∙ last_dropped xs k

abbrev pub past : State → List TokenKind
past (decls d ds) = decls_spelled ds
past (decl_name d k b ds) = past_name k b ds
past (decl_more d k ds) = decls_open ds
past (procedures ds ps) = past_procedures ds ps
past (proc_word ds ps) = past_procedures ds ps ++ kind.Proc ∷ []
past (proc_named w ds ps) = past_procedures ds ps ++ (kind.Proc ∷ name w ∷ [])
past (proc_opened w ds ps) = past_procedures ds ps ++ (kind.Proc ∷ name w ∷ kind.Open ∷ [])
past (param_read w ws v ds ps) = past_procedures ds ps ++ (kind.Proc ∷ name w ∷ kind.Open ∷ params_open ws ++ name v ∷ [])
past (param_due w ws ds ps) = past_procedures ds ps ++ (kind.Proc ∷ name w ∷ kind.Open ∷ params_open ws)
past (proc_ended q ds ps) = past_procedures ds ps ++ (kind.Proc ∷ name q.name ∷ kind.Open ∷ params_spelled q.params ++ (kind.Close ∷ acts_spelled q.body ++ kind.End ∷ []))
past (want k) = past_operand k
past (want_inverse k) = past_inverse k
past (named w k) = past_operand k ++ name w ∷ []
past (opened w k) = past_operand k ++ (name w ∷ kind.Open ∷ [])
past (sized k) = past_operand k ++ kind.Size ∷ []
past (size_opened k) = past_operand k ++ (kind.Size ∷ kind.Open ∷ [])
past (size_named e k) = past_operand k ++ without_last (spelled e)
past (message k) = past_operand k ++ kind.Msg ∷ []
past (have_product e k) = past_product k ++ spelled e
past (have_sum e k) = past_sum k ++ spelled e
past (have_inverse e k) = past_inverse k ++ spelled e
past (have_and e k) = past_and k ++ spelled e
past (have e k) = past_whole k ++ spelled e
past (block a f) = past_block a f
past (stmt_named w a f) = past_block a f ++ name w ∷ []
past (set_to w a f) = past_block a f ++ (name w ∷ kind.Eq ∷ [])
past (set_named w v a f) = past_block a f ++ (name w ∷ kind.Eq ∷ name v ∷ [])
past (set_boxed w v a f) = past_block a f ++ (name w ∷ kind.Eq ∷ name v ∷ kind.OpenBox ∷ [])
past (set_taken w v a f) = past_block a f ++ (name w ∷ kind.Eq ∷ name v ∷ kind.OpenBox ∷ kind.CloseBox ∷ [])
past (boxed w a f) = past_block a f ++ (name w ∷ kind.OpenBox ∷ [])
past (append_to w a f) = past_block a f ++ (name w ∷ kind.OpenBox ∷ kind.CloseBox ∷ [])
past (item_indexed w i a f) = past_block a f ++ (name w ∷ kind.OpenBox ∷ spelled i ++ kind.CloseBox ∷ [])
past (call_opened w a f) = past_block a f ++ (name w ∷ kind.Open ∷ [])
past (cleared a f) = past_block a f ++ kind.Clear ∷ []
past (clear_opened a f) = past_block a f ++ (kind.Clear ∷ kind.Open ∷ [])
past (clear_named w a f) = past_block a f ++ (kind.Clear ∷ kind.Open ∷ name w ∷ [])
past (closed s a f) = past_block a f ++ without_last (act_spelled s)
past (for_word a f) = past_block a f ++ kind.For ∷ []
past (for_named w a f) = past_block a f ++ (kind.For ∷ name w ∷ [])
past (stepped w s t a f) = past_block a f ++ (kind.For ∷ name w ∷ kind.Eq ∷ spelled s ++ (kind.To ∷ spelled t ++ kind.Step ∷ []))
past (step_signed w s t a f) = past_block a f ++ (kind.For ∷ name w ∷ kind.Eq ∷ spelled s ++ (kind.To ∷ spelled t ++ kind.Step ∷ kind.Minus ∷ []))
past (nexted w s t c b a f) = past_block a f ++ (kind.For ∷ name w ∷ kind.Eq ∷ spelled s ++ (kind.To ∷ spelled t ++ (step_spelled c ++ (acts_spelled b ++ kind.Next ∷ []))))
past (if_ended s a f) = past_block a f ++ without_last (act_spelled s)
past (while_ended e b a f) = past_block a f ++ (kind.While ∷ spelled e ++ (acts_spelled b ++ kind.End ∷ []))
past (do_word a f) = past_block a f ++ kind.Do ∷ []
past (do_named w a f) = past_block a f ++ (kind.Do ∷ name w ∷ [])
past (do_opened w a f) = past_block a f ++ (kind.Do ∷ name w ∷ kind.Open ∷ [])

-- ---- the states that the machine comes to in a dialect: their trees are derived, each at its level

abbrev pub fine_procedures : Dialect → List Decl → List Procedure → Type 0
fine_procedures d ds ps = (d ≡ dialect.Procedures) × DeclsDerived ds × ProceduresDerived ps

abbrev pub fine_frame : Dialect → Frame → Type 0
fine_frame d (top ds) = (d ≡ dialect.Plain) × DeclsDerived ds
fine_frame d (main ds ps) = fine_procedures d ds ps
fine_frame d (proc_part w ws ds ps) = fine_procedures d ds ps
fine_frame d (then_part e b f) = Derived e × ActsDerived d b × fine_frame d f
fine_frame d (else_part e c b f) = Derived e × ActsDerived d c × ActsDerived d b × fine_frame d f
fine_frame d (for_part w s t p b f) = Derived s × Derived t × ActsDerived d b × fine_frame d f
fine_frame d (while_part e b f) = Derived e × ActsDerived d b × fine_frame d f

abbrev pub fine_block : Dialect → Acts → Frame → Type 0
fine_block d a f = ActsDerived d a × fine_frame d f

abbrev mutual
  pub fine_operand : Dialect → Operand → Type 0
  fine_operand d (in_negative k) = fine_operand d k
  fine_operand d (first_product k) = fine_product d k
  fine_operand d (in_product o l k) = (levels_of o ≡ (at_product, at_product, at_sign)) × IsPart at_product l × Derived l × fine_product d k

  pub fine_product : Dialect → Product → Type 0
  fine_product d (first_sum k) = fine_sum d k
  fine_product d (in_sum o l k) = (levels_of o ≡ (at_sum, at_sum, at_product)) × IsPart at_sum l × Derived l × fine_sum d k

  pub fine_sum : Dialect → Sum → Type 0
  fine_sum d (first_compare k) = fine_inverse d k
  fine_sum d (in_compare o l k) = (levels_of o ≡ (at_compare, at_sum, at_sum)) × IsPart at_sum l × Derived l × fine_inverse d k

  pub fine_inverse : Dialect → Inverse → Type 0
  fine_inverse d (in_inverse k) = fine_inverse d k
  fine_inverse d (first_and k) = fine_and d k
  fine_inverse d (in_and l k) = IsPart at_and l × Derived l × fine_and d k

  pub fine_and : Dialect → Conjunction → Type 0
  fine_and d (first_or k) = fine_whole d k
  fine_and d (in_or l k) = Derived l × fine_whole d k

  pub fine_whole : Dialect → Whole → Type 0
  fine_whole d (in_paren k) = fine_operand d k
  fine_whole d (in_item w k) = fine_operand d k
  fine_whole d (in_message k) = fine_operand d k
  fine_whole d (in_args w es k) = ArgsDerived es × fine_operand d k
  fine_whole d (in_set w a f) = fine_block d a f
  fine_whole d (in_index w a f) = fine_block d a f
  fine_whole d (in_set_item w i a f) = Derived i × fine_block d a f
  fine_whole d (in_append w a f) = fine_block d a f
  fine_whole d (in_call w es a f) = ArgsDerived es × fine_block d a f
  fine_whole d (in_if a f) = fine_block d a f
  fine_whole d (in_from w a f) = fine_block d a f
  fine_whole d (in_to w s a f) = Derived s × fine_block d a f
  fine_whole d (in_while a f) = fine_block d a f
  fine_whole d (in_do w es a f) = (d ≡ dialect.Procedures) × ArgsDerived es × fine_block d a f

-- the kind of the last declared name
abbrev pub Last : DeclKind → List Decl → Type 0
Last k [] = ⊥
Last k (d ∷ []) = d.kind ≡ k
Last k (d ∷ e ∷ ds) = Last k (e ∷ ds)

abbrev pub fine_name : DeclKind → Bool → List Decl → Type 0
fine_name k true ds = DeclsDerived ds
fine_name k false ds = DeclsDerived ds × Last k ds

-- a statement that lacks its last token
abbrev pub Lacks : TokenKind → List TokenKind → Type 0
Lacks k ks = ks ≡ without_last ks ++ k ∷ []

abbrev pub Fine : Dialect → State → Type 0
Fine d (decls e ds) = (d ≡ e) × DeclsDerived ds
Fine d (decl_name e k b ds) = (d ≡ e) × fine_name k b ds
Fine d (decl_more e k ds) = (d ≡ e) × DeclsDerived ds × Last k ds
Fine d (procedures ds ps) = fine_procedures d ds ps
Fine d (proc_word ds ps) = fine_procedures d ds ps
Fine d (proc_named w ds ps) = fine_procedures d ds ps
Fine d (proc_opened w ds ps) = fine_procedures d ds ps
Fine d (param_read w ws v ds ps) = fine_procedures d ds ps
Fine d (param_due w ws ds ps) = fine_procedures d ds ps
Fine d (proc_ended q ds ps) = ActsDerived dialect.Procedures q.body × fine_procedures d ds ps
Fine d (want k) = fine_operand d k
Fine d (want_inverse k) = fine_inverse d k
Fine d (named w k) = fine_operand d k
Fine d (opened w k) = fine_operand d k
Fine d (sized k) = fine_operand d k
Fine d (size_opened k) = fine_operand d k
Fine d (size_named e k) = IsPart at_sign e × Derived e × Lacks kind.Close (spelled e) × fine_operand d k
Fine d (message k) = fine_operand d k
Fine d (have_product e k) = IsPart at_product e × Derived e × fine_product d k
Fine d (have_sum e k) = IsPart at_sum e × Derived e × fine_sum d k
Fine d (have_inverse e k) = IsPart at_not e × Derived e × fine_inverse d k
Fine d (have_and e k) = IsPart at_and e × Derived e × fine_and d k
Fine d (have e k) = Derived e × fine_whole d k
Fine d (block a f) = fine_block d a f
Fine d (stmt_named w a f) = fine_block d a f
Fine d (set_to w a f) = fine_block d a f
Fine d (set_named w v a f) = fine_block d a f
Fine d (set_boxed w v a f) = fine_block d a f
Fine d (set_taken w v a f) = fine_block d a f
Fine d (boxed w a f) = fine_block d a f
Fine d (append_to w a f) = fine_block d a f
Fine d (item_indexed w i a f) = Derived i × fine_block d a f
Fine d (call_opened w a f) = fine_block d a f
Fine d (cleared a f) = fine_block d a f
Fine d (clear_opened a f) = fine_block d a f
Fine d (clear_named w a f) = fine_block d a f
Fine d (closed s a f) = ActDerived d s × Lacks kind.Semi (act_spelled s) × fine_block d a f
Fine d (for_word a f) = fine_block d a f
Fine d (for_named w a f) = fine_block d a f
Fine d (stepped w s t a f) = Derived s × Derived t × fine_block d a f
Fine d (step_signed w s t a f) = Derived s × Derived t × fine_block d a f
Fine d (nexted w s t c b a f) = Derived s × Derived t × ActsDerived d b × fine_block d a f
Fine d (if_ended s a f) = ActDerived d s × Lacks kind.If (act_spelled s) × fine_block d a f
Fine d (while_ended e b a f) = Derived e × ActsDerived d b × fine_block d a f
Fine d (do_word a f) = (d ≡ dialect.Procedures) × fine_block d a f
Fine d (do_named w a f) = (d ≡ dialect.Procedures) × fine_block d a f
Fine d (do_opened w a f) = (d ≡ dialect.Procedures) × fine_block d a f
