-- The lines of the answers to a stream, piece by piece.
use Rattle.std.proofs.Common.{◌≡◌, ◌∙◌, ap, sym, refl, ℕ, suc, ◌+◌, ◌≤◌, ◌==◌, true, false, List, [], ◌∷◌, ◌++◌, length, Option, Result, append_assoc, append-nil, arith}
use Rattle.std.proofs.lemmas.Bool.{eqb-true}
use Rattle.mate_files.specs.Pen.{Prints}
use Rattle.mate_files.specs.declared.sink.SinkFault.{SinkFault}
use Rattle.mate_files.proofs.PenLemmas.{◌⟫◌, Prints-nil, Prints-by}
use Rattle.slip_gateway.specs.Pieces.{IsFirstPiece, frame_at}
use Rattle.slip_gateway.specs.Stream.{frames}
use Rattle.slip_gateway.specs.declared.frames.Frame.{Frame}
use Rattle.vm_shape.specs.declared.description.Description.{Description}
use Rattle.command_documents.specs.FeedAnswers.{answer_to, held_after, answers_from, no_versions}
use Rattle.command_documents.specs.FeedLines.{answer_line, answer_lines, feed_text}
use Rattle.command_documents.specs.FeedReading.{held_by, text_behind, PrintsPiece}
use Rattle.command_documents.specs.declared.answer.Answer.{Answer}
use Rattle.command_documents.specs.declared.stream_answers.StreamAnswers.{StreamAnswers}
use Rattle.command_documents.proofs.FrameAnswers.{answers-same}

-- ---- a piece

-- an empty piece gives no frame
pub prints_none : (d : Description) (s : StreamAnswers) (piece : List ℕ) (w : Option (List ℕ)) (f : ℕ) (r : Result (Unit {0}) SinkFault) → true ≡ (length piece == 0)
    → PrintsPiece d s s piece w f r w f r
prints_none d s [] w f r empty = record { told = []; prints = Prints-nil; adds = λ next. refl; count = omega arith }
prints_none d s (b ∷ bs) w f r empty = let none = eqb-true (length (b ∷ bs)) 0 (sym empty) in absurd (omega (arith, none))

-- any other one gives one frame, and the line of its answer
pub prints_one : (d : Description) (old new : StreamAnswers) (piece : List ℕ) (a : Answer) (w w' : Option (List ℕ)) (f f' : ℕ) (r r' : Result (Unit {0}) SinkFault)
    → false ≡ (length piece == 0) → a ≡ answer_to d (held_by old.held) (frame_at piece) → ((h : ℕ) → held_by new.held h ≡ held_after (held_by old.held) a h)
    → new.number ≡ old.number + 1 → Prints w f r w' f' r' (answer_line d new.number a) → PrintsPiece d old new piece w f r w' f' r'
prints_one d old new [] a w w' f f' r r' some is held number prints = absurd (cc)
prints_one d old new (b ∷ bs) a w w' f f' r r' some is held number prints =
    let k : ℕ = suc old.number in
    let counted : k ≡ new.number = omega (arith, number) in
    let first : Answer = answer_to d (held_by old.held) (frame_at (b ∷ bs)) in
    record {
      told = answer_line d new.number a;
      prints = prints;
      adds = λ next.
          ap (λ (x : Answer). answer_line d k x ++ answer_lines d (suc k) (answers_from d (held_after (held_by old.held) x) next)) (sym is)
          ∙ ap (λ (n : ℕ). answer_line d n a ++ answer_lines d (suc n) (answers_from d (held_after (held_by old.held) a) next)) counted
          ∙ ap (λ (told : List Answer). answer_line d new.number a ++ answer_lines d (suc new.number) told)
          (sym (answers-same d (held_by new.held) (held_after (held_by old.held) a) next held));
      count = omega (arith, number);
    }

-- ---- the stream so far

-- the text of the answers so far is printed, and what is left of the stream gives the others; its frames are no more than its bytes
pub record HasPrinted (d : Description) (s : StreamAnswers) (stream rest : List ℕ) (w : Option (List ℕ)) (f : ℕ) (r : Result (Unit {0}) SinkFault)
    (w' : Option (List ℕ)) (f' : ℕ) (r' : Result (Unit {0}) SinkFault) : Type 0 where
  pub told : List ℕ
  pub prints : Prints w f r w' f' r' told
  pub whole : feed_text d stream ≡ told ++ text_behind d s (frames rest)
  pub few : s.number + length rest ≤ length stream

pub printed_none : (d : Description) (s : StreamAnswers) (stream : List ℕ) (w : Option (List ℕ)) (f : ℕ) (r : Result (Unit {0}) SinkFault) → s.number ≡ 0
    → ((h : ℕ) → held_by s.held h ≡ 0) → HasPrinted d s stream stream w f r w f r
printed_none d s stream w f r number held = record {
  told = [];
  prints = Prints-nil;
  whole =
      ap (λ (n : ℕ). answer_lines d (suc n) (answers_from d no_versions (frames stream))) (sym number)
      ∙ ap (λ (told : List Answer). answer_lines d (suc s.number) told) (sym (answers-same d (held_by s.held) no_versions (frames stream) held));
  few = omega (arith, number);
}

pub printed_next : (d : Description) (old new : StreamAnswers) (stream rest piece behind : List ℕ) (w0 w1 w2 : Option (List ℕ)) (f0 f1 f2 : ℕ)
    (r0 r1 r2 : Result (Unit {0}) SinkFault) → HasPrinted d old stream rest w0 f0 r0 w1 f1 r1 → IsFirstPiece rest piece behind
    → PrintsPiece d old new piece w1 f1 r1 w2 f2 r2 → HasPrinted d new stream behind w0 f0 r0 w2 f2 r2
printed_next d old new stream rest piece behind w0 w1 w2 f0 f1 f2 r0 r1 r2 so_far cut next = record {
  told = so_far.told ++ next.told;
  prints = so_far.prints ⟫ next.prints;
  whole =
      so_far.whole ∙ ap (λ (fs : List Frame). so_far.told ++ text_behind d old fs) cut.gives
      ∙ ap (λ (text : List ℕ). so_far.told ++ text) (next.adds (frames behind))
      ∙ sym (append_assoc so_far.told next.told (text_behind d new (frames behind)));
  few = let few = so_far.few in let shorter = cut.shorter in let count = next.count in omega (arith, few, shorter, count);
}

pub printed_all : (d : Description) (s : StreamAnswers) (stream rest : List ℕ) (w0 w1 : Option (List ℕ)) (f0 f1 : ℕ) (r0 r1 : Result (Unit {0}) SinkFault) → frames rest ≡ []
    → HasPrinted d s stream rest w0 f0 r0 w1 f1 r1 → Prints w0 f0 r0 w1 f1 r1 (feed_text d stream)
printed_all d s stream rest w0 w1 f0 f1 r0 r1 none so_far =
    Prints-by (sym (so_far.whole ∙ ap (λ (fs : List Frame). so_far.told ++ text_behind d s fs) none ∙ append-nil so_far.told)) so_far.prints
