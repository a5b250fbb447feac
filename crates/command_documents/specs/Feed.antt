-- The command `feed`: what a new node answers to the frames of the stream of bytes in a file, which come from a serial line.
use Rattle.std.specs.Prelude.{◌≡◌, ◌≢◌, ◌+◌, ℕ, List, [], length, Result, ⊤}
use Rattle.command_documents.specs.FeedLines.{feed_text}
use Rattle.command_documents.specs.Owed.{Owed, writes}
use Rattle.command_refusals.specs.declared.refusal.Refusal.{Refusal}
use Rattle.command_refusals.specs.declared.refusal.Refusal.TheVariants.{BadStream}
use Rattle.command_steps.specs.Parts.{Folder, file, machine}
use Rattle.command_steps.specs.Steps.{judged, ◌▸◌}
use Rattle.slip_gateway.specs.Stream.{unfinished}
use Rattle.vm_shape.specs.declared.description.Description.{Description}

-- bytes are after the stream's last END, from this place on
abbrev pub IsOpenAt : List ℕ → ℕ → Type 0
IsOpenAt bytes place = (unfinished bytes ≢ []) × (place + length (unfinished bytes) ≡ length bytes)

-- the stream ends where a frame ends
abbrev pub whole_stream : List ℕ → Result ⊤ Refusal → Type 0
whole_stream bytes = judged (λ _. unfinished bytes ≡ []) (IsOpenAt bytes) BadStream

-- the answers to its frames
abbrev pub answers : Description → List ℕ → Result Owed Refusal → Type 0
answers d bytes = whole_stream bytes ▸ λ _. writes (feed_text d bytes)

abbrev pub feed : Folder → (vm name : List ℕ) → Result Owed Refusal → Type 0
feed f vm name = machine f vm ▸ λ d. file f name ▸ λ bytes. answers d bytes.items
