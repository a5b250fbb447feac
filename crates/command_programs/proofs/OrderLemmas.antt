-- The steps of a script that was read name its files in order.
use Rattle.std.proofs.Common.{◌≡◌, ℕ, ◌+◌, Bool, true, false, List, [], ◌∷◌, ◌++◌, length, Option, Some, None, Result, Ok, Err, refl, sym, ◌∙◌, subst}
use Rattle.mate_num.specs.Results.{result_map}
use Rattle.std.specs.Prelude.{if◌then◌else◌, codes, slice_index}
use Rattle.std.specs.Str.{bytes_eq}
use Rattle.std.proofs.lemmas.List.{length_push}
use Rattle.vm_shape.specs.declared.description.Description.{Description}
use Rattle.script_steps.specs.Lines.{split_words, lines, is_skipped}
use Rattle.script_steps.specs.NodeReader.{files_after}
use Rattle.script_steps.specs.NodeScript.{Said, Progress, an_install, a_load, a_post, a_step, an_answer, behind_others, behind, a_line, with_file, with_said, after_line, nothing_yet, node_script_in}
use Rattle.script_steps.specs.Script.{numbered, script_from}
use Rattle.script_steps.specs.Steps.{NodeScript}
use Rattle.script_steps.specs.Words.{TakenWords, WordReading, ◌>>=◌, and_then, give, found, a_word, nothing_more, a_number, a_value, a_payload, a_handler, a_version, a_context}
use Rattle.script_steps.specs.declared.fault.Cause.{Cause}
use Rattle.script_steps.specs.declared.fault.Cause.TheVariants.{Word, Range}
use Rattle.script_steps.specs.declared.fault.ScriptFault.{ScriptFault}
use Rattle.script_steps.specs.declared.steps.Step.{Step}
use Rattle.command_programs.specs.Numbers.{file_of, NamesNext, IsNumbered, NamesInOrder}

-- ---- readings

-- whatever a reading gives, this holds of it
abbrev pub Gives : {A : Type 0} → (A → Type 0) → WordReading A → Type 0
Gives {A} P reading = (words : List (List ℕ)) (t : TakenWords A) → reading words ≡ Ok t → P t.value

pub Gives-any : {A : Type 0} (r : WordReading A) → Gives (λ _. Unit {0}) r
Gives-any r words t is = tt

pub Gives-give : {A : Type 0} (P : A → Type 0) (a : A) → P a → Gives P (give a)
Gives-give {A} P a h words t is =
    let u : TakenWords A = record { value = a; rest = words } in
    let same : u ≡ t = cc in
    subst (λ (v : TakenWords A). P v.value) same h

pub Gives-then : {A B : Type 0} (Q : A → Type 0) (P : B → Type 0) (r : WordReading A) (k : A → WordReading B) → Gives Q r → ((a : A) → Q a → Gives P (k a)) → Gives P (r >>= k)
Gives-then {A} {B} Q P r k first next words t is = by (r words) refl is where
  by : (x : Result (TakenWords A) Cause) → r words ≡ x → and_then k x ≡ Ok t → P t.value
  by (Ok u) got is = next u.value (first words u got) u.rest t is
  by (Err cause) got is = cc

-- whatever comes first
pub Gives-behind : {A B : Type 0} (P : B → Type 0) (r : WordReading A) (k : A → WordReading B) → ((a : A) → Gives P (k a)) → Gives P (r >>= k)
Gives-behind P r k next = Gives-then (λ _. Unit {0}) P r k (Gives-any r) (λ a q. next a)

pub Gives-if : {A : Type 0} (P : A → Type 0) (b : Bool) (r s : WordReading A) → Gives P r → Gives P s → Gives P (if b then r else s)
Gives-if P true r s yes' no' = yes'
Gives-if P false r s yes' no' = no'

-- ---- lines

-- a line behind so many files names the next one, with its name, or none
abbrev NamesFile : ℕ → Said → Type 0
NamesFile n said = NamesNext (file_of said.step) n (λ m. m ≡ files_after n said.file)

an_install-names : (d : Description) (newest : List ℕ) (n : ℕ) → Gives (NamesFile n) (an_install d newest n)
unfolding an_install
an_install-names d newest n =
    Gives-behind (NamesFile n) (a_handler d) _ (λ handler. Gives-behind (NamesFile n) (a_version (slice_index newest handler.0)) _ (λ version.
    Gives-behind (NamesFile n) a_word _ (λ file. Gives-give (NamesFile n) _ (refl, refl))))

a_load-names : (n : ℕ) → Gives (NamesFile n) (a_load n)
unfolding a_load
a_load-names n = Gives-behind (NamesFile n) a_word _ (λ file. Gives-give (NamesFile n) _ (refl, refl))

a_post-names : (d : Description) (n : ℕ) → Gives (NamesFile n) (a_post d)
unfolding a_post
a_post-names d n = Gives-behind (NamesFile n) (a_handler d) _ (λ handler. Gives-behind (NamesFile n) a_payload _ (λ payload. Gives-give (NamesFile n) _ refl))

a_step-names : (d : Description) (n : ℕ) → Gives (NamesFile n) (a_step d)
unfolding a_step
a_step-names d n = Gives-behind (NamesFile n) (a_context d) _ (λ ctx. Gives-behind (NamesFile n) (a_number 1 1000000 Range) _ (λ k. Gives-give (NamesFile n) _ refl))

an_answer-names : (d : Description) (n : ℕ) → Gives (NamesFile n) (an_answer d)
unfolding an_answer
an_answer-names d n = Gives-behind (NamesFile n) (a_context d) _ (λ ctx. Gives-behind (NamesFile n) a_value _ (λ value. Gives-give (NamesFile n) _ refl))

no_word-names : (n : ℕ) → Gives (NamesFile n) (found (Err Word))
no_word-names n words t is = cc

behind_others-names : (d : Description) (n : ℕ) (verb : List ℕ) → Gives (NamesFile n) (behind_others d verb)
unfolding behind_others
behind_others-names d n verb =
    Gives-if (NamesFile n) (bytes_eq verb (codes "run")) _ _ (Gives-give (NamesFile n) _ refl)
    (Gives-if (NamesFile n) (bytes_eq verb (codes "answer")) _ _ (an_answer-names d n)
    (Gives-if (NamesFile n) (bytes_eq verb (codes "show")) _ _ (Gives-give (NamesFile n) _ refl)
    (Gives-if (NamesFile n) (bytes_eq verb (codes "reset")) _ _ (Gives-give (NamesFile n) _ refl) (no_word-names n))))

behind-names : (d : Description) (newest : List ℕ) (n : ℕ) (verb : List ℕ) → Gives (NamesFile n) (behind d newest n verb)
unfolding behind
behind-names d newest n verb =
    Gives-if (NamesFile n) (bytes_eq verb (codes "install")) _ _ (an_install-names d newest n)
    (Gives-if (NamesFile n) (bytes_eq verb (codes "load")) _ _ (a_load-names n)
    (Gives-if (NamesFile n) (bytes_eq verb (codes "post")) _ _ (a_post-names d n)
    (Gives-if (NamesFile n) (bytes_eq verb (codes "step")) _ _ (a_step-names d n) (behind_others-names d n verb))))

a_line-names : (d : Description) (newest : List ℕ) (n : ℕ) → Gives (NamesFile n) (a_line d newest n)
unfolding a_line
a_line-names d newest n =
    Gives-behind (NamesFile n) a_word _ (λ verb. Gives-then (NamesFile n) (NamesFile n) (behind d newest n verb) _ (behind-names d newest n verb) (λ said names.
    Gives-behind (NamesFile n) nothing_more _ (λ ends. Gives-give (NamesFile n) said names)))

-- ---- the script so far

pub length-with_file : (files : List (List ℕ)) (o : Option (List ℕ)) → files_after (length files) o ≡ length (with_file files o)
length-with_file files None = refl
length-with_file files (Some file) = sym (length_push files file)

pub NamesNext-map : (o : Option ℕ) (n : ℕ) (P Q : ℕ → Type 0) → ((m : ℕ) → P m → Q m) → NamesNext o n P → NamesNext o n Q
NamesNext-map None n P Q f h = f n h
NamesNext-map (Some k) n P Q f h = (h.0, f (n + 1) h.1)

IsNumbered-push : (n : ℕ) (xs : List Step) (x : Step) (m total : ℕ) → IsNumbered n xs m → NamesNext (file_of x) m (λ k. k ≡ total) → IsNumbered n (xs ++ x ∷ []) total
IsNumbered-push n [] x m total is names = subst (λ (k : ℕ). NamesNext (file_of x) k (λ j. j ≡ total)) (sym is) names
IsNumbered-push n (y ∷ ys) x m total is names =
    NamesNext-map (file_of y) n (λ k. IsNumbered k ys m) (λ k. IsNumbered k (ys ++ x ∷ []) total) (λ k h. IsNumbered-push k ys x m total h names) is

said-in_order : (p : Progress) (said : Said) → NamesInOrder p.script → NamesFile (length p.script.files) said → NamesInOrder (with_said p said).script
said-in_order p said is names =
    let total = length (with_file p.script.files said.file) in
    IsNumbered-push 0 p.script.steps said.step (length p.script.files) total is
    (NamesNext-map (file_of said.step) (length p.script.files) (λ m. m ≡ files_after (length p.script.files) said.file) (λ m. m ≡ total) (λ m h. h ∙ length-with_file p.script.files said.file) names)

after_line-in_order : (d : Description) (p q : Progress) (words : List (List ℕ)) → NamesInOrder p.script → after_line d p words ≡ Ok q → NamesInOrder q.script
unfolding after_line
after_line-in_order d p q words is next = by (is_skipped words) (a_line d p.newest (length p.script.files) words) refl next where
  by : (b : Bool) (r : Result (TakenWords Said) Cause) → a_line d p.newest (length p.script.files) words ≡ r → (if b then Ok p else result_map (λ (t : TakenWords Said). with_said p t.value) r) ≡ Ok q → NamesInOrder q.script
  by true r read next = let same : p ≡ q = cc in subst (λ (x : Progress). NamesInOrder x.script) same is
  by false (Ok t) read next =
      let same : with_said p t.value ≡ q = cc in
      subst (λ (x : Progress). NamesInOrder x.script) same (said-in_order p t.value is (a_line-names d p.newest (length p.script.files) words t read))
  by false (Err cause) read next = cc

script-in_order : (d : Description) (number : ℕ) (p : Progress) (ls : List (List ℕ)) (s : NodeScript) → NamesInOrder p.script → script_from (after_line d) (λ number p. Ok p.script) number p ls ≡ Ok s → NamesInOrder s
script-in_order d number p [] s is next = let same : p.script ≡ s = cc in subst NamesInOrder same is
script-in_order d number p (line ∷ ls) s is next = by (after_line d p (split_words line)) refl next (λ q h rest. script-in_order d (number + 1) q ls s h rest) where
  rest_of : Progress → Result NodeScript ScriptFault
  rest_of q = script_from (after_line d) (λ number p. Ok p.script) (number + 1) q ls

  by : (r : Result Progress Cause) → after_line d p (split_words line) ≡ r → numbered number rest_of r ≡ Ok s → ((q : Progress) → NamesInOrder q.script → rest_of q ≡ Ok s → NamesInOrder s) → NamesInOrder s
  by (Ok q) after next later = later q (after_line-in_order d p q (split_words line) is after) next
  by (Err cause) after next later = cc

pub node_script-in_order : (d : Description) (bytes : List ℕ) (s : NodeScript) → node_script_in d bytes ≡ Ok s → NamesInOrder s
unfolding node_script_in
node_script-in_order d bytes s is = script-in_order d 1 nothing_yet (lines bytes) s refl is
