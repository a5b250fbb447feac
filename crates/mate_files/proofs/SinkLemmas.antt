-- Lemmas on `specs/Sink.antt`: many pieces that are written in a row.
use Rattle.std.proofs.Common.{ℕ, ◌≤◌, ◌<◌, List, [], ◌++◌, length, length-append, Result, Ok, Err, refl, sym, ◌∙◌, ap, append_assoc, append-nil, arith}
use Rattle.std.proofs.KnownBytes.{Appends-nil, Appends-trans}
use Rattle.std.specs.declared.option.Option.{Option}
use Rattle.mate_files.specs.Counts.{Rose}
use Rattle.mate_files.specs.Sink.{Sent, SentPart, SentShort, Writes, StopsShort, HasCause, Puts}
use Rattle.mate_files.specs.declared.sink.SinkFault.{SinkFault}
use Rattle.mate_files.specs.declared.sink.SinkFault.TheVariants.{Failed, NoMemory}

-- ---- bytes

-- with nothing to write, nothing is written
pub Sent-nil : {w : Option (List ℕ)} → Sent w w []
Sent-nil {w} = record { appended = Appends-nil w }

-- bs is written, and then cs
pub Sent-trans : {w0 w1 w2 : Option (List ℕ)} {bs cs : List ℕ} → Sent w0 w1 bs → Sent w1 w2 cs → Sent w0 w2 (bs ++ cs)
Sent-trans {w0} {w1} {w2} {bs} {cs} p q = record { appended = Appends-trans w0 w1 w2 bs cs p.appended q.appended }

-- nothing is a prefix of each text
pub SentPart-nil : {w : Option (List ℕ)} {bs : List ℕ} → SentPart w w bs
SentPart-nil {w} {bs} = record { front = []; rest = bs; whole = refl; appended = Appends-nil w }

-- the whole of bs is a prefix of it
pub SentPart-whole : {w0 w1 : Option (List ℕ)} {bs : List ℕ} → Sent w0 w1 bs → SentPart w0 w1 bs
SentPart-whole {bs = bs} p = record { front = bs; rest = []; whole = append-nil bs; appended = p.appended }

-- a prefix of bs is a prefix of bs and more
pub SentPart-more : {w0 w1 : Option (List ℕ)} {bs : List ℕ} → SentPart w0 w1 bs → (cs : List ℕ) → SentPart w0 w1 (bs ++ cs)
SentPart-more p cs = record {
  front = p.front;
  rest = p.rest ++ cs;
  whole = sym (append_assoc p.front p.rest cs) ∙ ap (λ xs. xs ++ cs) p.whole;
  appended = p.appended;
}

-- bs is written, and then a prefix of cs
pub SentPart-after : {w0 w1 w2 : Option (List ℕ)} {bs cs : List ℕ} → Sent w0 w1 bs → SentPart w1 w2 cs → SentPart w0 w2 (bs ++ cs)
SentPart-after {w0} {w1} {w2} {bs} {cs} p q = record {
  front = bs ++ q.front;
  rest = q.rest;
  whole = append_assoc bs q.front q.rest ∙ ap (λ xs. bs ++ xs) q.whole;
  appended = Appends-trans w0 w1 w2 bs q.front p.appended q.appended;
}

-- nothing is less than each text that has some bytes
pub SentShort-nil : {w : Option (List ℕ)} {bs : List ℕ} → 0 < length bs → SentShort w w bs
unfolding SentPart-nil
SentShort-nil some = record { part = SentPart-nil; unsent = some }

-- what is less than bs is less than bs and more
pub SentShort-more : {w0 w1 : Option (List ℕ)} {bs : List ℕ} → SentShort w0 w1 bs → (cs : List ℕ) → SentShort w0 w1 (bs ++ cs)
unfolding SentPart-more
SentShort-more p cs = record { part = SentPart-more p.part cs; unsent = omega (arith, p.unsent, length-append p.part.rest cs) }

-- bs is written, and then less than cs
pub SentShort-after : {w0 w1 w2 : Option (List ℕ)} {bs cs : List ℕ} → Sent w0 w1 bs → SentShort w1 w2 cs → SentShort w0 w2 (bs ++ cs)
unfolding SentPart-after
SentShort-after p q = record { part = SentPart-after p q.part; unsent = q.unsent }

-- bs is written, and then cs as far as that goes
pub Writes-after : {T : Type 0} {w0 w1 : Option (List ℕ)} {bs : List ℕ} (w2 : Option (List ℕ)) (r : Result T SinkFault) (cs : List ℕ)
    → Sent w0 w1 bs → Writes w1 w2 r cs → Writes w0 w2 r (bs ++ cs)
Writes-after w2 (Ok _) cs p q = Sent-trans p q
Writes-after w2 (Err _) cs p q = SentPart-after p q

pub StopsShort-after : {T : Type 0} {w0 w1 : Option (List ℕ)} {bs : List ℕ} (w2 : Option (List ℕ)) (r : Result T SinkFault) (cs : List ℕ)
    → Sent w0 w1 bs → StopsShort w1 w2 r cs → StopsShort w0 w2 r (bs ++ cs)
StopsShort-after w2 (Ok _) cs p q = tt
StopsShort-after w2 (Err _) cs p q = SentShort-after p q

-- ---- causes

-- a count that rose after an earlier one rose from that one too
pub Rose-after : (f0 f1 f2 : ℕ) → f0 ≤ f1 → Rose f1 f2 → Rose f0 f2
Rose-after f0 f1 f2 p q = omega (arith, p, q)

-- a count that rose has still risen later
pub Rose-kept : (f0 f1 f2 : ℕ) → Rose f0 f1 → f1 ≤ f2 → Rose f0 f2
Rose-kept f0 f1 f2 p q = omega (arith, p, q)

-- a cause in a later call is one in both together
pub HasCause-after : {T : Type 0} (f0 f1 f2 : ℕ) (r : Result T SinkFault) → f0 ≤ f1 → HasCause f1 f2 r → HasCause f0 f2 r
HasCause-after f0 f1 f2 (Ok _) p q = tt
HasCause-after f0 f1 f2 (Err Failed) p q = Rose-after f0 f1 f2 p q
HasCause-after f0 f1 f2 (Err NoMemory) p q = tt

-- ---- both

-- with nothing to write, nothing is written
pub Puts-nil : {T : Type 0} {w : Option (List ℕ)} {f : ℕ} {value : T} → Puts w f w f (Ok value) []
Puts-nil = record { writes = Sent-nil; short = tt; cause = tt; later = omega arith }

-- bs is written, and then cs as far as that goes
pub Puts-trans : {T U : Type 0} {w0 w1 w2 : Option (List ℕ)} {f0 f1 f2 : ℕ} {r : Result U SinkFault} {bs cs : List ℕ} {value : T}
    → Puts w0 f0 w1 f1 (Ok value) bs → Puts w1 f1 w2 f2 r cs → Puts w0 f0 w2 f2 r (bs ++ cs)
Puts-trans {w2 = w2} {f0 = f0} {f1 = f1} {f2 = f2} {r = r} {cs = cs} p q = record {
  writes = Writes-after w2 r cs p.writes q.writes;
  short = StopsShort-after w2 r cs p.writes q.short;
  cause = HasCause-after f0 f1 f2 r p.later q.cause;
  later = omega (arith, p.later, q.later);
}

-- after a fault the text may go on, and nothing more is written
pub Puts-stop : {T U : Type 0} {w0 w1 : Option (List ℕ)} {f0 f1 : ℕ} {bs : List ℕ} {fault : SinkFault}
    → Puts {T = T} w0 f0 w1 f1 (Err fault) bs → (cs : List ℕ) → Puts {T = U} w0 f0 w1 f1 (Err fault) (bs ++ cs)
Puts-stop {fault = Failed} p cs = record { writes = SentPart-more p.writes cs; short = SentShort-more p.short cs; cause = p.cause; later = p.later }
Puts-stop {fault = NoMemory} p cs = record { writes = SentPart-more p.writes cs; short = SentShort-more p.short cs; cause = tt; later = p.later }
