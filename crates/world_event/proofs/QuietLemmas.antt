-- Entries that call nothing: they send no message, and no answer to them falls due.
use Rattle.std.proofs.Common.{◌≡◌, ℕ, List, [], ◌∷◌, ◌++◌, refl, ◌∙◌, ap}
use Rattle.std.specs.Prelude.{Option, Some, None}
use Rattle.std.specs.List.{cons_option}
use Rattle.mate_num.specs.declared.id.FunId.{FunId}
use Rattle.packet_codec.specs.declared.packet.Packet.{Packet}
use Rattle.mate_journal.specs.Journal.{JournalEntry, Posted, Dropped, Started, Asked, Answered, Ended, Installed, Reset, Seen, Void, NodeState}
use Rattle.world_rules.specs.World.{World}
use Rattle.world_rules.specs.State.{message_in, messages, asked_by, calls_in, answers_due}
use Rattle.journal_laws.specs.Waiting.{asked_of}
use Rattle.world_event.specs.Answering.{answer_items, with_call}
use Rattle.world_event.proofs.AnswerLemmas.{due-front}
use Rattle.world_event.specs.Finishing.{CallNothing}

message-none : (w : World) (t : JournalEntry) → asked_of t ≡ None → (message_in w t ≡ None) × (asked_by t ≡ None)
message-none w (Asked n f args) e = absurd (some≢none (n, f) e) where
  some≢none : (a : ℕ × FunId) → Some a ≡ None → ⊥
  some≢none a e = cc
message-none w _ e = (refl, refl)

pub messages-quiet : (w : World) (front rest : List JournalEntry) → CallNothing front → messages w (front ++ rest) ≡ messages w rest
messages-quiet w [] rest quiet = refl
messages-quiet w (t ∷ front) rest quiet = ap (λ (o : Option Packet). cons_option o (messages w (front ++ rest))) (message-none w t quiet.0).0 ∙ messages-quiet w front rest quiet.1

pub calls-quiet : (w : World) (front rest : List JournalEntry) → CallNothing front → calls_in (front ++ rest) ≡ calls_in rest
calls-quiet w [] rest quiet = refl
calls-quiet w (t ∷ front) rest quiet = ap (λ (o : Option FunId). cons_option o (calls_in (front ++ rest))) (message-none w t quiet.0).1 ∙ calls-quiet w front rest quiet.1

pub answers-quiet : (w : World) (node time : ℕ) (r : NodeState) (called : List FunId) (front rest : List JournalEntry) → CallNothing front
    → answers_due w node time r called (front ++ rest) ≡ answers_due w node time r called rest
answers-quiet w node time r called [] rest quiet = refl
answers-quiet w node time r called (t ∷ front) rest quiet =
    due-front w node time r called t (front ++ rest)
    ∙ ap (λ (o : Option (ℕ × FunId)). answer_items w node time r called o ++ answers_due w node time r (with_call called o) (front ++ rest)) quiet.0
    ∙ answers-quiet w node time r called front rest quiet.1
