-- The commands of the program, as the words of the command line say them.
use Rattle.std.specs.Prelude.{◌≡◌, ℕ, ◌^◌, nat_lt, Bool, false, not, ◌&&◌, ◌||◌, List, [], ◌∷◌, codes, map, Option, Some, None, option_map, if◌then◌else◌}
use Rattle.std.specs.Char.{is_ascii_digit}
use Rattle.std.specs.Int.{is_in_range}
use Rattle.std.specs.List.{list_all}
use Rattle.std.specs.Str.{bytes_eq}
use Rattle.std.specs.Str.Parse.{digits_value}
use Rattle.command_line.specs.Words.{Line, IsLine}
use Rattle.command_line.specs.declared.words.CommandLine.{CommandLine}
use Rattle.command_line.specs.declared.command.Command.{Command}
use Rattle.command_line.specs.declared.command.Command.TheVariants as command

-- a command with the words that go to it
pub data Task : Type 0 where
  -- run a node script on a machine, with sources folded or not, and write its report or the summary of it
  Node : (fold brief : Bool) (machine script : List ℕ) → Task
  -- run the world of a script, likewise
  Sim : (fold brief : Bool) (machine script : List ℕ) → Task
  -- run the world of a number, likewise
  Gen : (fold brief : Bool) (number : ℕ) (machine : List ℕ) → Task
  -- write the opcode table of a machine
  Table : (machine : List ℕ) → Task
  -- write the image of a source's capsule, for the handler of a machine that has this name; the source is folded or not
  Compile : (fold : Bool) (machine handler : List ℕ) → (version : ℕ) → (source : List ℕ) → Task
  -- write the text of the capsule of a machine that a file has in hexadecimal digits
  Check : (machine file : List ℕ) → Task
  -- write the plain script that a source with procedures expands to
  Expand : (source : List ℕ) → Task
  -- write what a new node of a machine answers to the capsules in a file, the bytes of a serial line
  Feed : (machine stream : List ℕ) → Task
  -- say whether the report in a file shows serial behaviour of what a script, of a node or of a world, runs on a machine, with
  -- sources folded or not
  Audit : (fold : Bool) (machine script report : List ℕ) → Task

-- the word for the built-in machine, in place of a description's file
abbrev pub builtin_word : List ℕ
builtin_word = codes "builtin"

abbrev pub node_task : Bool → Bool → List (List ℕ) → Option Task
node_task fold brief (machine ∷ script ∷ []) = Some (Node fold brief machine script)
node_task fold brief words = None

abbrev pub sim_task : Bool → Bool → List (List ℕ) → Option Task
sim_task fold brief (machine ∷ script ∷ []) = Some (Sim fold brief machine script)
sim_task fold brief words = None

abbrev pub table_task : List (List ℕ) → Option Task
table_task (machine ∷ []) = Some (Table machine)
table_task words = None

-- a digit from 1 to 9, and digits
abbrev pub is_counting : List ℕ → Bool
is_counting [] = false
is_counting (digit ∷ digits) = is_in_range 49 57 digit && list_all is_ascii_digit digits

-- the version that the word says: from 1 to 4294967295, with no sign and no 0 before it
abbrev pub version_said : List ℕ → Option ℕ
version_said word = if is_counting word && nat_lt (digits_value 10 word) (2 ^ 32) then Some (digits_value 10 word) else None

-- the number that the word says: below 2^64, with no sign and no 0 before it
abbrev pub number_said : List ℕ → Option ℕ
number_said word =
    if bytes_eq word (codes "0") then Some 0
    else if is_counting word && nat_lt (digits_value 10 word) (2 ^ 64) then Some (digits_value 10 word) else None

abbrev pub gen_task : Bool → Bool → List (List ℕ) → Option Task
gen_task fold brief (number ∷ machine ∷ []) = option_map (λ n. Gen fold brief n machine) (number_said number)
gen_task fold brief words = None

abbrev pub compile_task : Bool → List (List ℕ) → Option Task
compile_task fold (machine ∷ handler ∷ version ∷ source ∷ []) =
    option_map (λ v. Compile fold machine handler v source) (version_said version)
compile_task fold words = None

abbrev pub check_task : List (List ℕ) → Option Task
check_task (machine ∷ file ∷ []) = Some (Check machine file)
check_task words = None

abbrev pub expand_task : List (List ℕ) → Option Task
expand_task (source ∷ []) = Some (Expand source)
expand_task words = None

abbrev pub feed_task : List (List ℕ) → Option Task
feed_task (machine ∷ stream ∷ []) = Some (Feed machine stream)
feed_task words = None

abbrev pub audit_task : Bool → List (List ℕ) → Option Task
audit_task fold (machine ∷ script ∷ report ∷ []) = Some (Audit fold machine script report)
audit_task fold words = None

-- the task of a command that takes no flag, with the words that go to it
abbrev pub unflagged_task : List ℕ → List (List ℕ) → Option Task
unflagged_task command args =
    if bytes_eq command (codes "table") then table_task args else
    if bytes_eq command (codes "check") then check_task args else
    if bytes_eq command (codes "expand") then expand_task args else
    if bytes_eq command (codes "feed") then feed_task args else None

-- the task of a command that runs no nodes, with its flags and the words that go to it
abbrev pub runless_task : List ℕ → Bool → Bool → List (List ℕ) → Option Task
runless_task command fold brief args =
    if bytes_eq command (codes "compile") && not brief then compile_task fold args else
    if bytes_eq command (codes "audit") && not brief then audit_task fold args else
    if brief || fold then None else unflagged_task command args

-- the task of a line; `node`, `sim` and `gen` take both flags, `compile` and `audit` take `--fold`, and no other command takes a flag
abbrev pub task_of : Line → Option Task
task_of l =
    if bytes_eq l.command (codes "node") then node_task l.fold l.brief l.args else
    if bytes_eq l.command (codes "sim") then sim_task l.fold l.brief l.args else
    if bytes_eq l.command (codes "gen") then gen_task l.fold l.brief l.args else
    runless_task l.command l.fold l.brief l.args

-- the words say the task
pub record Says (words : List (List ℕ)) (task : Task) : Type 0 where
  pub line : Line
  pub is : IsLine words line
  pub task_is : task_of line ≡ Some task

-- the words say no task
abbrev pub SaysNothing : List (List ℕ) → Type 0
SaysNothing words = (task : Task) → Says words task → ⊥

-- ---- what the program holds of them

abbrev pub line_said : CommandLine → Line
line_said l = record { brief = l.brief; fold = l.fold; command = l.command.now; args = map (λ w. w.now) l.args.items }

abbrev pub task_held : Command → Task
task_held (command.Node r) = Node r.fold r.brief r.machine.now r.script.now
task_held (command.Sim r) = Sim r.fold r.brief r.machine.now r.script.now
task_held (command.Gen r) = Gen r.fold r.brief r.number r.machine.now
task_held (command.Table machine) = Table machine.now
task_held (command.Compile c) = Compile c.fold c.machine.now c.handler.now c.version c.source.now
task_held (command.Check machine file) = Check machine.now file.now
task_held (command.Expand source) = Expand source.now
task_held (command.Feed machine stream) = Feed machine.now stream.now
task_held (command.Audit a) = Audit a.fold a.machine.now a.script.now a.report.now
