-- The words of a command line, as clap's rule for simple commands reads them.
use Rattle.std.specs.Prelude.{◌≡◌, Bool, true, false, map, find, option_and_then, List, [], codes, Option, None, Some, Result, Ok, Err, unwrap_or}
use Rattle.clap.specs.Words.{App, HasMatchesOf, Row, Rule, Text, all_of, fault_of, first_of, first_value, found_of, matches_of, new_app, new_rule, rows_of, with_rule}
use Rattle.std.specs.Str.{bytes_eq}
use Rattle.clap.specs.Lexer.{usize_max}
use Rattle.clap.specs.declared.parser.matches.ArgMatches.{ArgMatches}
use Rattle.clap.specs.declared.parser.matches.ValueSource.{ValueSource}
use Rattle.clap.specs.declared.parser.matches.ValueSource.TheVariants.{CommandLine as FromWords, DefaultValue}
use Rattle.clap.specs.declared.error.kind.ErrorKind.{ErrorKind}
use Rattle.clap.specs.declared.error.kind.ErrorKind.TheVariants.{OutOfMemory}
use Rattle.clap.specs.declared.builder.action.ArgAction.TheVariants.{Append, Set, SetTrue}
use Rattle.command_line.specs.declared.words.CommandLine.{CommandLine}
use Rattle.command_line.specs.declared.words.WordsFault.{WordsFault}
use Rattle.command_line.specs.declared.words.WordsFault.TheVariants.{NotTaken, NoMemory}

-- a flag with this long name
abbrev pub flag : Text → Rule
flag name = record (new_rule name) { long = Some name; action = Some SetTrue }

-- the required word
abbrev pub command_word : Rule
command_word = record (new_rule (codes "command")) { action = Some Set; required = true }

-- any number of words, at one place or at several
abbrev pub other_words : Rule
other_words =
    record (new_rule (codes "args")) { action = Some Append; range = Some (record { start_inclusive = 0; end_inclusive = usize_max }) }

-- a command with nothing in it, whose words don't begin with the program's name
abbrev pub bare_app : App
bare_app = record { top = record ((new_app (codes "mate")).top) { no_binary_name = true }; subs = [] }

-- a command with the two flags
abbrev pub flagged_app : App
flagged_app = with_rule (with_rule bare_app (flag (codes "brief"))) (flag (codes "fold"))

-- the one command: two flags, a required word, and any number of words
abbrev pub mate_command : App
mate_command = with_rule (with_rule flagged_app command_word) other_words

-- the rule takes the words: no error may come
abbrev pub AreTaken : List Text → Type 0
AreTaken words = fault_of mate_command words ≡ []

-- what the rule makes of words that it takes
abbrev pub rows_in : List Text → List Row
rows_in words = matches_of mate_command words

-- the value comes from the words, and isn't a default
abbrev pub is_from_words : Option ValueSource → Bool
is_from_words (Some FromWords) = true
is_from_words (Some DefaultValue) = false
is_from_words None = false

-- the flag is among the words
abbrev pub is_given : Text → List Row → Bool
is_given id rows = is_from_words (option_and_then (λ r. r.source) (find (λ r. bytes_eq r.id id) rows))

-- what the words say: the flags that are given, the command, and the words that go to it
pub record Line : Type 0 where
  pub brief : Bool
  pub fold : Bool
  pub command : Text
  pub args : List Text

pub record IsLine (words : List Text) (l : Line) : Type 0 where
  pub taken : AreTaken words
  pub brief : l.brief ≡ is_given (codes "brief") (rows_in words)
  pub fold : l.fold ≡ is_given (codes "fold") (rows_in words)
  pub command : first_of (codes "command") (rows_in words) ≡ Some l.command
  pub args : l.args ≡ unwrap_or (all_of (codes "args") (rows_in words)) []

-- the rule takes the words and finds a command; so no line is one of other words
abbrev pub HasNoLine : List Text → Type 0
HasNoLine words = (l : Line) → IsLine words l → ⊥

-- only an error for lack of memory is no refusal of the words
abbrev pub TellsWordsFault : ErrorKind → WordsFault → Type 0
TellsWordsFault k NotTaken = k ≡ OutOfMemory → ⊥
TellsWordsFault k NoMemory = Unit {0}

-- a line is read exactly if there is one
abbrev pub ReadsLine : List Text → Result CommandLine WordsFault → Type 0
ReadsLine words (Ok line) =
    IsLine words (record { brief = line.brief; fold = line.fold; command = line.command.now; args = map (λ w. w.now) line.args.items })
ReadsLine words (Err NotTaken) = HasNoLine words
ReadsLine words (Err NoMemory) = Unit {0}

-- the words are taken, and these are their matches
pub record AreMatches (words : List Text) (m : ArgMatches) : Type 0 where
  pub taken : AreTaken words
  pub found : HasMatchesOf mate_command words m

-- matches are found in words that are taken; other words are no line's
abbrev pub FindsMatches : List Text → Result ArgMatches WordsFault → Type 0
FindsMatches words (Ok m) = AreMatches words m
FindsMatches words (Err NotTaken) = HasNoLine words
FindsMatches words (Err NoMemory) = Unit {0}

-- the line says what the matches say
pub record IsLineOf (m : ArgMatches) (line : CommandLine) : Type 0 where
  pub brief : line.brief ≡ is_given (codes "brief") (rows_of (found_of m))
  pub fold : line.fold ≡ is_given (codes "fold") (rows_of (found_of m))
  pub command : first_value (found_of m) (codes "command") ≡ Some line.command.now
  pub args : map (λ w. w.now) line.args.items ≡ unwrap_or (all_of (codes "args") (rows_of (found_of m))) []

-- a line is made exactly if a command is among the matches
abbrev pub FindsLine : ArgMatches → Result CommandLine WordsFault → Type 0
FindsLine m (Ok line) = IsLineOf m line
FindsLine m (Err NotTaken) = first_value (found_of m) (codes "command") ≡ None
FindsLine m (Err NoMemory) = Unit {0}
