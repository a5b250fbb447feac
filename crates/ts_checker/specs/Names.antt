-- The names of a script: what declarations make of them, and what a name means where it is used.
use Rattle.std.specs.Prelude.{ℕ, ◌+◌, nat_lt, Bool, true, false, if◌then◌else◌, List, [], ◌∷◌, ◌++◌, Option, Some, None, is_none, ok_or}
use Rattle.std.specs.Prelude.{position, count_by, Result, Ok, Err, bytes_eq, ⊤}
use Rattle.mate_num.specs.declared.bounds.TheConstants.{PRIVATES}
use Rattle.mate_num.specs.declared.id.FunId.{FunId}
use Rattle.mate_num.specs.declared.id.BufId.{BufId}
use Rattle.vm_shape.specs.declared.description.Description.{Description}
use Rattle.vm_shape.specs.declared.function.Function.{Function}
use Rattle.vm_shape.specs.declared.function.FunKind.{FunKind}
use Rattle.ts_trees.specs.declared.word.Word.{Word}
use Rattle.ts_trees.specs.declared.script.Decl.{Decl}
use Rattle.ts_trees.specs.declared.script.DeclKind.{DeclKind}
use Rattle.ts_trees.specs.declared.script.DeclKind.TheVariants as of
use Rattle.ts_checked.specs.declared.checked_stmt.CVar.{CVar}
use Rattle.ts_checked.specs.declared.checked_stmt.CVar.TheVariants as var
use Rattle.ts_checker.specs.declared.scope.Symbol.{Symbol}
use Rattle.ts_checker.specs.declared.scope.Symbol.TheVariants.{Variable, Buffer}
use Rattle.ts_checker.specs.declared.scope.Entry.{Entry}
use Rattle.ts_checker.specs.declared.fault.CheckFault.{CheckFault}
use Rattle.ts_checker.specs.declared.fault.CheckFault.TheVariants.{Undeclared, NotInVm, Twice, Kind, TooManyPrivates}
use Rattle.mate_num.specs.Results.{◌>>=◌}
use Rattle.ts_checker.specs.Refusal.{unless_refused}

-- the names of a script: its machine's, and those that it declared so far, each with what it means
pub record ScriptNames : Type 0 where
  pub machine : Description
  pub declared : List Entry

-- no name is declared
abbrev pub names_before : Description → ScriptNames
names_before machine = record { machine = machine; declared = [] }

-- what a declared name means
abbrev pub symbol_of : List Entry → List ℕ → Option Symbol
symbol_of [] name = None
symbol_of (x ∷ xs) name = if bytes_eq name x.name then Some x.symbol else symbol_of xs name

-- how many of the names are private variables
abbrev pub is_private_symbol : Symbol → Bool
is_private_symbol (Variable (var.Private i)) = true
is_private_symbol _ = false

abbrev pub private_count : List Entry → ℕ
private_count xs = count_by (λ x. is_private_symbol x.symbol) xs

-- the place of a name in a list of the machine's names
abbrev pub listed : List (List ℕ) → List ℕ → Result ℕ CheckFault
listed names name = ok_or (position (bytes_eq name) names) (NotInVm name)

-- what a declaration makes of its name: private variables are numbered, from 0 to 7
abbrev pub made : ScriptNames → DeclKind → List ℕ → Result Symbol CheckFault
made n of.Shared name = listed n.machine.shared.items name >>= (λ i. Ok (Variable (var.Shared (record { 0 = i }))))
made n of.Private name =
    unless_refused (nat_lt (private_count n.declared) PRIVATES) TooManyPrivates
    >>= (λ _. Ok (Variable (var.Private (private_count n.declared))))
made n of.Buffer name = listed n.machine.buffers.items name >>= (λ i. Ok (Buffer (record { 0 = i })))

-- the names with one more
abbrev pub with_name : ScriptNames → List ℕ → Symbol → ScriptNames
with_name n name symbol = record { machine = n.machine; declared = n.declared ++ record { name = name; symbol = symbol } ∷ [] }

-- the names after a declaration, whose name is new
abbrev pub declare : ScriptNames → Decl → Result ScriptNames CheckFault
declare n d = do
  fresh ← unless_refused (is_none (symbol_of n.declared d.word.name)) (Twice d.word.name)
  symbol ← made n d.kind d.word.name
  Ok (with_name n d.word.name symbol)

-- the names after all declarations, from left to right
abbrev pub declare_all : ScriptNames → List Decl → Result ScriptNames CheckFault
declare_all n [] = Ok n
declare_all n (d ∷ ds) = declare n d >>= (λ m. declare_all m ds)

-- a name that has to be declared; then a variable's or a buffer's
abbrev pub found_symbol : ScriptNames → Word → Result Symbol CheckFault
found_symbol n w = ok_or (symbol_of n.declared w.name) (Undeclared w.name w.place)

abbrev pub as_variable : ℕ → Symbol → Result CVar CheckFault
as_variable place (Variable x) = Ok x
as_variable place (Buffer p) = Err (Kind place)

abbrev pub as_buffer : ℕ → Symbol → Result BufId CheckFault
as_buffer place (Variable x) = Err (Kind place)
as_buffer place (Buffer p) = Ok p

abbrev pub variable : ScriptNames → Word → Result CVar CheckFault
variable n w = found_symbol n w >>= as_variable w.place

abbrev pub buffer : ScriptNames → Word → Result BufId CheckFault
buffer n w = found_symbol n w >>= as_buffer w.place

-- the function of a name, if the first one's number is i
abbrev pub function_from : ℕ → List Function → List ℕ → Option (FunId × FunKind)
function_from i [] name = None
function_from i (f ∷ fs) name = if bytes_eq name f.name then Some (record { 0 = i }, f.kind) else function_from (i + 1) fs name

abbrev pub function : ScriptNames → Word → Result (FunId × FunKind) CheckFault
function n w = ok_or (function_from 0 n.machine.functions.items w.name) (NotInVm w.name)

-- the name after `next` is that of its `for`
abbrev pub closes_for : ScriptNames → Word → Word → Result ⊤ CheckFault
closes_for n w next = found_symbol n next >>= (λ _. unless_refused (bytes_eq next.name w.name) (Kind next.place))
