-- The lines for answers, numbered from 1.
use Rattle.std.specs.Prelude.{ℕ, suc, ◌<◌, List, [], ◌∷◌, ◌++◌, length, codes, decimal, ⊤}
use Rattle.opcode_gen.specs.CapsuleText.{handler_name_at}
use Rattle.command_refusals.specs.CapsuleCauses.{image_words, verify_words}
use Rattle.command_refusals.specs.LineEnds.{number_line, numbered_name_line}
use Rattle.vm_shape.specs.declared.description.Description.{Description}
use Rattle.command_documents.specs.FeedAnswers.{answers_to}
use Rattle.command_documents.specs.declared.answer.Answer.{Answer}
use Rattle.command_documents.specs.declared.answer.Answer.TheVariants.{Installed, NotNewer, NoCapsule, BadCode, Long, Broken}

abbrev pub answer_words : Description → Answer → List ℕ
answer_words d (Installed h version) = numbered_name_line (codes "install ") (handler_name_at d h.0) version
answer_words d (NotNewer held) = number_line (codes "notnewer ") held
answer_words d (NoCapsule why) = codes "refused " ++ image_words why
answer_words d (BadCode why) = codes "refused " ++ verify_words why
answer_words d Long = codes "long\n"
answer_words d Broken = codes "escape\n"

abbrev pub answer_line : Description → ℕ → Answer → List ℕ
answer_line d number a = decimal number ++ codes " " ++ answer_words d a

-- the lines of answers, from this number on
abbrev pub answer_lines : Description → ℕ → List Answer → List ℕ
answer_lines d number [] = []
answer_lines d number (a ∷ more) = answer_line d number a ++ answer_lines d (suc number) more

-- what a new node answers to the frames of a stream; a frame that is too long or broken has its number, too
abbrev pub feed_text : Description → List ℕ → List ℕ
feed_text d bytes = answer_lines d 1 (answers_to d bytes)

-- the handler that an answer names is one of the machine
abbrev pub HasHandler : Description → Answer → Type 0
HasHandler d (Installed h version) = h.0 < length d.handlers.items
HasHandler d _ = ⊤
