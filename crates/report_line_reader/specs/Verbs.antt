-- The words that begin a record, and what follows each.
use Rattle.std.specs.Prelude.{ℕ, List, [], ◌∷◌, ◌==◌, codes, Option, if◌then◌else◌}
use Rattle.mate_journal.specs.declared.air.Air.TheVariants as air
use Rattle.mate_journal.specs.declared.entry.VoidCause.TheVariants as void
use Rattle.mate_journal.specs.declared.entry.Entry.{Entry}
use Rattle.mate_journal.specs.declared.entry.Entry.TheVariants as entry
use Rattle.report_line_reader.specs.Words.{reads, only_at_end}
use Rattle.report_line_reader.specs.Fields.{named_among, number_of}
use Rattle.report_line_reader.specs.Forms.{VoidVerb, ready, waiting, newer, void_word, number, node, handler, function, context, value, dropping, faulting}
use Rattle.report_line_reader.specs.Forms.{image, packet, voiding, Form, Then, Values, Stored, Ends}
use Rattle.report_line_reader.specs.declared.line.Told.{Told}
use Rattle.report_line_reader.specs.declared.line.Told.TheVariants as told
use Rattle.report_line_reader.specs.declared.verb.Verb.{Verb}
use Rattle.report_line_reader.specs.declared.verb.Verb.TheVariants as verb

abbrev pub verb_word : Verb → List ℕ
verb_word verb.Post = codes "post"
verb_word verb.Drop = codes "drop"
verb_word verb.Start = codes "start"
verb_word verb.Ask = codes "ask"
verb_word verb.Answer = codes "answer"
verb_word verb.Halt = codes "halt"
verb_word verb.Fault = codes "fault"
verb_word verb.Install = codes "install"
verb_word verb.Reset = codes "reset"
verb_word verb.Seen = codes "seen"
verb_word verb.Void = codes "void"
verb_word verb.Interval = codes "interval"
verb_word verb.Keep = codes "keep"
verb_word verb.Sent = codes "sent"
verb_word verb.Lost = codes "lost"
verb_word verb.Got = codes "got"
verb_word verb.Noise = codes "noise"

-- the verb of an entry's line
abbrev pub entry_verb : Entry → Verb
entry_verb (entry.Post n h c payload) = verb.Post
entry_verb (entry.Dropped h cause) = verb.Drop
entry_verb (entry.Start n) = verb.Start
entry_verb (entry.Ask n f args) = verb.Ask
entry_verb (entry.Answer n v) = verb.Answer
entry_verb (entry.Halt n) = verb.Halt
entry_verb (entry.Fault n kind) = verb.Fault
entry_verb (entry.Install h version place) = verb.Install
entry_verb entry.Reset = verb.Reset
entry_verb (entry.Seen store) = verb.Seen
entry_verb (entry.Void cause) = verb.Void

abbrev pub verbs : List Verb
verbs =
    verb.Post ∷ verb.Drop ∷ verb.Start ∷ verb.Ask ∷ verb.Answer ∷ verb.Halt ∷ verb.Fault ∷ verb.Install ∷ verb.Reset ∷ verb.Seen ∷ verb.Void
    ∷ verb.Interval ∷ verb.Keep ∷ verb.Sent ∷ verb.Lost ∷ verb.Got ∷ verb.Noise ∷ []

unfoldable pub verb_of : List ℕ → Option Verb
verb_of word = named_among verb_word verbs word

-- the verb whose word has these letters, the first and the third one
abbrev pub likely : ℕ → ℕ → Verb
likely first third =
    if first == 112 then verb.Post else
    (if first == 100 then verb.Drop else
    (if first == 97 then (if third == 107 then verb.Ask else verb.Answer) else
    (if first == 104 then verb.Halt else
    (if first == 102 then verb.Fault else
    (if first == 114 then verb.Reset else
    (if first == 118 then verb.Void else
    (if first == 105 then (if third == 115 then verb.Install else verb.Interval) else
    (if first == 107 then verb.Keep else
    (if first == 115 then (if third == 97 then verb.Start else (if third == 101 then verb.Seen else verb.Sent)) else
    (if first == 108 then verb.Lost else
    (if first == 103 then verb.Got else verb.Noise)))))))))))

-- why a step did nothing: what follows its word
abbrev pub void_form : VoidVerb → Form
void_form ready = Ends (told.Made (entry.Void void.NotReady))
void_form waiting = Ends (told.Made (entry.Void void.NotWaiting))
void_form newer = Then number (λ held. Ends (told.Made (entry.Void (void.NotNewer held))))

-- the same, as it is read
abbrev pub void_by : VoidVerb → List (List ℕ) → Option Told
void_by ready = only_at_end (told.Made (entry.Void void.NotReady))
void_by waiting = only_at_end (told.Made (entry.Void void.NotWaiting))
void_by newer = reads number_of (λ held. only_at_end (told.Made (entry.Void (void.NotNewer held))))

abbrev pub void_of : List (List ℕ) → Option Told
void_of = reads (named_among void_word (ready ∷ waiting ∷ newer ∷ [])) void_by

-- what follows a verb
abbrev pub form_of : Verb → Form
form_of verb.Post =
    Then number (λ n. Then handler (λ h. Then context (λ c. Values (λ payload. told.Made (entry.Post n h c payload)))))
form_of verb.Drop = Then handler (λ h. Then dropping (λ cause. Ends (told.Made (entry.Dropped h cause))))
form_of verb.Start = Then number (λ n. Ends (told.Made (entry.Start n)))
form_of verb.Ask = Then number (λ n. Then function (λ f. Values (λ args. told.Made (entry.Ask n f args))))
form_of verb.Answer = Then number (λ n. Then value (λ v. Ends (told.Made (entry.Answer n v))))
form_of verb.Halt = Then number (λ n. Ends (told.Made (entry.Halt n)))
form_of verb.Fault = Then number (λ n. Then faulting (λ kind. Ends (told.Made (entry.Fault n kind))))
form_of verb.Install = Then handler (λ h. Then number (λ version. Then image (λ bytes. Ends (told.Installed h version bytes))))
form_of verb.Reset = Ends (told.Made entry.Reset)
form_of verb.Seen = Stored (λ s. told.Shown s)
form_of verb.Void = Then voiding void_form
form_of verb.Interval = Then number (λ length. Ends (told.OnAir (air.Interval length)))
form_of verb.Keep = Ends (told.OnAir air.Keep)
form_of verb.Sent = Then number (λ n. Then packet (λ bytes. Ends (told.OnAir (air.Sent n bytes))))
form_of verb.Lost = Then number (λ n. Then node (λ to. Ends (told.OnAir (air.Lost n to))))
form_of verb.Got = Then number (λ n. Then node (λ from. Ends (told.OnAir (air.Got n from))))
form_of verb.Noise = Then packet (λ bytes. Ends (told.OnAir (air.Noise bytes)))
