-- From the matches of the one command to a line.
use Rattle.std.proofs.Common.{◌≡◌, true, List, [], Some, None, Result, Ok, Err, refl, ap, sym, subst, ◌∙◌, codes, unwrap_or, inl, inr}
use Rattle.clap.specs.Faults.{is_simple_and_free}
use Rattle.clap.specs.Words.{App, Text, Kinds, IsAmong, HasKind, HasMatchesOf, all_of, fault_of, first_of, first_value, found_of, is_simple, kind_of, rows_of}
use Rattle.clap.specs.declared.error.Error.{Error}
use Rattle.clap.specs.declared.parser.matches.ArgMatches.{ArgMatches}
use Rattle.clap.proofs.OnLiterals.{clap_on_literals}
use Rattle.clap.proofs.WalkLemmas.{first_value-rows}
use Rattle.command_line.specs.Words.{mate_command, rows_in, is_given, AreMatches, FindsLine, FindsMatches, HasNoLine, IsLineOf, ReadsLine, TellsWordsFault}
use Rattle.command_line.specs.declared.words.CommandLine.{CommandLine}
use Rattle.command_line.specs.declared.words.WordsFault.{WordsFault}
use Rattle.command_line.specs.declared.words.WordsFault.TheVariants as fault

simple : is_simple mate_command ≡ true
unfolding clap_on_literals
simple = refl

simple_and_free : is_simple_and_free mate_command ≡ true
unfolding clap_on_literals
simple_and_free = refl

-- the one command is simple, and leaves each word free
pub of_command_simple_and_free : (a : App) → a ≡ mate_command → is_simple_and_free a ≡ true
of_command_simple_and_free a e = ap is_simple_and_free e ∙ simple_and_free

-- what the one command finds in words that it takes
pub are_matches : (a : App) (words : List Text) (m : ArgMatches) → a ≡ mate_command → HasMatchesOf a words m → fault_of a words ≡ [] → AreMatches words m
are_matches a words m e found taken =
    record { taken = ap (λ (x : App). fault_of x words) (sym e) ∙ taken; found = subst (λ (x : App). HasMatchesOf x words m) e found }

-- the rows of the matches
rows_are : (words : List Text) (m : ArgMatches) → AreMatches words m → rows_of (found_of m) ≡ rows_in words
rows_are words m h = (h.found simple).0

-- matches without the required word are no line's
no_command : (words : List Text) (m : ArgMatches) → AreMatches words m → first_value (found_of m) (codes "command") ≡ None → HasNoLine words
no_command words m h none = λ l is.
    let bad : Some l.command ≡ None = sym is.command ∙ ap (first_of (codes "command")) (sym (rows_are words m h)) ∙ sym (first_value-rows (found_of m) (codes "command")) ∙ none in
    cc

-- words at which an error comes that isn't for want of memory are no line's
pub not_taken : (a : App) (words : List Text) (error : Error) (f : WordsFault) → a ≡ mate_command → HasKind (fault_of a words) error → TellsWordsFault (kind_of error) f → f ≡ fault.NotTaken → HasNoLine words
not_taken a words error f e h tells is = λ l line. by (fault_of a words) (ap (λ (x : App). fault_of x words) e ∙ line.taken) h where
  by : (kinds : Kinds) → kinds ≡ [] → HasKind kinds error → ⊥
  by kinds none (inl memory) = subst (λ (g : WordsFault). TellsWordsFault (kind_of error) g) is tells memory
  by kinds none (inr among) = subst (λ (k : Kinds). IsAmong (kind_of error) k) none among

line_of : (words : List Text) (m : ArgMatches) (line : CommandLine) → AreMatches words m → IsLineOf m line → ReadsLine words (Ok line)
line_of words m line h of =
    let rows = rows_are words m h in
    record {
      taken = h.taken;
      brief = of.brief ∙ ap (is_given (codes "brief")) rows;
      fold = of.fold ∙ ap (is_given (codes "fold")) rows;
      command = ap (first_of (codes "command")) (sym rows) ∙ sym (first_value-rows (found_of m) (codes "command")) ∙ of.command;
      args = of.args ∙ ap (λ r. unwrap_or (all_of (codes "args") r) []) rows;
    }

-- what the matches say is what the words say
pub read_of : (words : List Text) (m : ArgMatches) (result : Result CommandLine WordsFault) → AreMatches words m → FindsLine m result → ReadsLine words result
read_of words m (Ok line) h of = line_of words m line h of
read_of words m (Err fault.NotTaken) h none = no_command words m h none
read_of words m (Err fault.NoMemory) h u = u

-- words in which nothing is found are not read
pub unread_of : (words : List Text) (f : WordsFault) → FindsMatches words (Err f) → ReadsLine words (Err f)
unread_of words fault.NotTaken h = h
unread_of words fault.NoMemory u = u
