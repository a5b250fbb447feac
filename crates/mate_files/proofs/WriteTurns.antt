-- A piece that a writer takes in several turns.
use Rattle.std.proofs.Common.{◌≡◌, ℕ, ◌<◌, List, ◌++◌, length, take, drop, Result, Ok, Err, sym, ◌∙◌, ap, append_assoc, take-append-drop}
use Rattle.std.specs.Result.{result_unwrap_or}
use Rattle.std.specs.Io.KnownBytes.{Appends, WriteAppends}
use Rattle.std.proofs.KnownBytes.{Appends-trans, Appends-kept}
use Rattle.std.specs.declared.option.Option.{Option}
use Rattle.mate_files.specs.Sink.{SentShort}

-- all of bs was appended but `rest` at its end
pub record SentUpTo (old new : Option (List ℕ)) (rest bs : List ℕ) : Type 0 where
  pub front : List ℕ
  pub whole : front ++ rest ≡ bs
  pub appended : Appends old new front

-- a turn takes the bytes that the writer took of those that are left, and none where it failed
pub SentUpTo-turn : {E : Type 0} {w0 w1 w2 : Option (List ℕ)} {rest bs : List ℕ} (r : Result ℕ E)
    → SentUpTo w0 w1 rest bs → WriteAppends w1 w2 r rest → SentUpTo w0 w2 (drop (result_unwrap_or r 0) rest) bs
SentUpTo-turn {w0 = w0} {w1 = w1} {w2 = w2} {rest = rest} (Ok n) p q = record {
  front = p.front ++ take n rest;
  whole = append_assoc p.front (take n rest) (drop n rest) ∙ ap (λ xs. p.front ++ xs) (take-append-drop n rest) ∙ p.whole;
  appended = Appends-trans w0 w1 w2 p.front (take n rest) p.appended q;
}
SentUpTo-turn {w0 = w0} {w1 = w1} {w2 = w2} (Err _) p q = record { front = p.front; whole = p.whole; appended = Appends-kept w0 w1 w2 p.front p.appended q }

-- the same, where the number of the bytes is known
pub SentUpTo-taken : {E : Type 0} {w0 w1 w2 : Option (List ℕ)} {rest bs : List ℕ} (r : Result ℕ E) (n : ℕ)
    → n ≡ result_unwrap_or r 0 → SentUpTo w0 w1 rest bs → WriteAppends w1 w2 r rest → SentUpTo w0 w2 (drop n rest) bs
SentUpTo-taken {w0 = w0} {w2 = w2} {rest = rest} {bs = bs} r n is p q = rw is (SentUpTo-turn r p q)

-- a turn that takes none of the bytes that are left
pub SentUpTo-short : {E : Type 0} {w0 w1 w2 : Option (List ℕ)} {rest bs : List ℕ} (r : Result ℕ E) (n : ℕ)
    → n ≡ result_unwrap_or r 0 → n ≡ 0 → 0 < length rest → SentUpTo w0 w1 rest bs → WriteAppends w1 w2 r rest → SentShort w0 w2 bs
SentUpTo-short {rest = rest} r n is none some p q = let after = SentUpTo-taken r 0 (sym none ∙ is) p q in record {
  part = record { front = after.front; rest = rest; whole = after.whole; appended = after.appended };
  unsent = some;
}
