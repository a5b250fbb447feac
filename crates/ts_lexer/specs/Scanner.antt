-- What a scanner has still to answer, and what its steps leave of it.
use Rattle.std.specs.Prelude.{◌≡◌, ◌<◌, ◌+◌, ℕ, List, [], ◌∷◌, ◌++◌, length, drop, Result, Ok, Err}
use Rattle.ts_trees.specs.declared.token.Token.{Token}
use Rattle.ts_trees.specs.Cut.{CutFault, between, with_front, cut_from, token_in, all_in}
use Rattle.ts_lexer.specs.Answers.{HasFault}
use Rattle.ts_lexer.specs.declared.fault.TokenFault.{TokenFault}
use Rattle.ts_lexer.specs.declared.scanner.Scanner.{Scanner}

-- the tokens of the whole text, or its first fault: those that were read, and those of the rest
abbrev pub due : Scanner → Result (List Token) CutFault
due s = with_front s.tokens (all_in s.dialect (cut_from s.place between s.rest.now))

-- `len` bytes were taken off the rest
pub record TakesBytes (old new : Scanner) (len : ℕ) : Type 0 where
  pub rest : new.rest.now ≡ drop len old.rest.now
  pub place : new.place ≡ old.place + len
  pub tokens : new.tokens ≡ old.tokens
  pub dialect : new.dialect ≡ old.dialect

-- the token was appended, as it is in the scanner's dialect
pub record Appends (old new : Scanner) (token : Token) : Type 0 where
  pub rest : new.rest.now ≡ old.rest.now
  pub place : new.place ≡ old.place
  pub tokens : new.tokens ≡ old.tokens ++ token_in old.dialect token ∷ []
  pub dialect : new.dialect ≡ old.dialect

-- the whole is the same, and less of it is left
pub record Moves (old new : Scanner) : Type 0 where
  pub same : due new ≡ due old
  pub shorter : length new.rest.now < length old.rest.now

-- a step of the scanner, or the first fault of the text
abbrev pub Steps : Scanner → Scanner → Result (Unit {0}) TokenFault → Type 0
Steps old new (Ok u) = Moves old new
Steps old new (Err f) = HasFault (due old) f

-- a scanner of a text that is cut so, or the text's first fault
abbrev pub BeginsScan : Result (List Token) CutFault → Result Scanner TokenFault → Type 0
BeginsScan cut (Ok s) = due s ≡ cut
BeginsScan cut (Err f) = HasFault cut f

-- all tokens, or the first fault
abbrev pub EndsScan : Result (List Token) CutFault → Result (List Token) TokenFault → Type 0
EndsScan cut (Ok tokens) = cut ≡ Ok tokens
EndsScan cut (Err f) = HasFault cut f

-- there are tokens, whatever they are, or the first fault
abbrev pub LooksThrough : Result (List Token) CutFault → Result (Unit {0}) TokenFault → Type 0
LooksThrough cut (Ok u) = (tokens : List Token) × (cut ≡ Ok tokens)
LooksThrough cut (Err f) = HasFault cut f

-- what is cut is this after some tokens
pub record LeadsOn (whole rest : Result (List Token) CutFault) : Type 0 where
  pub front : List Token
  pub is : whole ≡ with_front front rest

-- some tokens aren't kept any longer
pub record Forgets (old new : Scanner) : Type 0 where
  pub leads : LeadsOn (due old) (due new)
  pub rest : new.rest.now ≡ old.rest.now
