-- The commands have one answer, and words say one task.
use Rattle.std.proofs.Common.{◌≡◌, ℕ, Bool, true, List, Option, Some, None, Result, refl, sym, ◌∙◌, ap, subst, arith}
use Rattle.std.specs.Prelude.{⊤, []}
use Rattle.std.specs.Global.{Vec}
use Rattle.arrayvec.specs.ArrayVec.{ArrayVec}
use Rattle.capsule_codec.specs.Image.{CapsuleParts}
use Rattle.command_documents.specs.FeedLines.{feed_text}
use Rattle.opcode_gen.specs.CapsuleText.{capsule_text}
use Rattle.command_line.specs.Words.{Line, IsLine}
use Rattle.mate_code.specs.Run.{Code}
use Rattle.command_line.specs.Commands.{Task, Says, SaysNothing, task_of}
use Rattle.mate_files.specs.Files.{Names}
use Rattle.mate_num.specs.declared.id.HandlerId.{HandlerId}
use Rattle.vm_shape.specs.declared.description.Description.{Description}
use Rattle.command_documents.specs.Check.{check}
use Rattle.command_steps.specs.CapsuleFiles.{capsule}
use Rattle.command_documents.specs.Compile.{compile, capsule_hex}
use Rattle.command_documents.specs.Documents.{script_line}
use Rattle.command_documents.specs.Expand.{expand}
use Rattle.command_documents.specs.Feed.{feed, answers, whole_stream, IsOpenAt}
use Rattle.mate_cli.specs.Ends.{task}
use Rattle.command_steps.specs.OneAnswer.{AnswersAgree, steady}
use Rattle.command_laws.proofs.OneOutput.{exactly_agrees}
use Rattle.command_laws.specs.SameText.{SameText}
use Rattle.command_documents.specs.Table.{opcode_table}
use Rattle.opcode_gen.specs.TableText.{table_text}
use Rattle.command_steps.specs.Parts.{handler, handler_named, file}
use Rattle.command_steps.specs.Sources.{source}
use Rattle.command_steps.specs.Steps.{◌▸◌}
use Rattle.command_documents.specs.Owed.{Owed, a_text, writes}
use Rattle.command_refusals.specs.declared.refusal.Refusal.{Refusal}
use Rattle.command_steps.proofs.OneAnswer.{SameBytes, then_agrees, judged_agrees, file_agrees, machine_agrees}
use Rattle.command_steps.proofs.OneCapsule.{SameCapsule, capsule_agrees}
use Rattle.command_steps.proofs.OneSource.{SameCompiled, source_agrees}
use Rattle.command_steps.proofs.OneExpansion.{SameScript, expansion_agrees}
use Rattle.slip_gateway.specs.Stream.{unfinished}
use Rattle.ts_trees.specs.Tree.{Source}

-- ---- table

pub writes_agree : (bytes : List ℕ) → AnswersAgree SameText (writes bytes) (writes bytes)
writes_agree bytes = exactly_agrees (a_text true bytes) (a_text true bytes) refl

pub table_agrees : (names : Names) (vm : List ℕ) → AnswersAgree SameText (opcode_table (steady names) vm) (opcode_table (steady names) vm)
table_agrees names vm =
    then_agrees ◌≡◌ SameText _ _ _ _ (machine_agrees names vm)
    (λ a b e. subst (λ (d : Description). AnswersAgree SameText (writes (table_text a)) (writes (table_text d))) e (writes_agree (table_text a)))

-- ---- compile

handler_agrees : (d : Description) (name : List ℕ) → AnswersAgree ◌≡◌ (handler d name) (handler d name)
handler_agrees d name = judged_agrees ◌≡◌ _ _ _ one not same where
  one : (a b : HandlerId) → handler_named d name ≡ Some a.0 → handler_named d name ≡ Some b.0 → a ≡ b
  one a b p q = let e : Some a.0 ≡ Some b.0 = sym p ∙ q in let i : a.0 ≡ b.0 = cc in ap (λ (n : ℕ). let h : HandlerId = record { 0 = n } in h) i

  not : (a : HandlerId) (e : ⊤) → handler_named d name ≡ Some a.0 → handler_named d name ≡ None → ⊥
  not a e p q = let x : Some a.0 ≡ None = sym p ∙ q in cc

  same : (e h : ⊤) → handler_named d name ≡ None → handler_named d name ≡ None → e ≡ h
  same e h p q = refl

pub compile_agrees : (names : Names) (fold : Bool) (vm h : List ℕ) (version : ℕ) (name : List ℕ)
    → AnswersAgree SameText (compile (steady names) fold vm h version name) (compile (steady names) fold vm h version name)
compile_agrees names fold vm h version name =
    then_agrees ◌≡◌ SameText _ _ _ _ (machine_agrees names vm)
    (λ a b e. subst (λ (d : Description). AnswersAgree SameText (after_machine a) (after_machine d)) e (with_machine a)) where
      after_code : Description → HandlerId → ArrayVec ℕ → Result Owed Refusal → Type 0
      after_code d k code = writes (capsule_hex d k version code)

      after_handler : Description → HandlerId → Result Owed Refusal → Type 0
      after_handler d k = source (steady names) d fold name ▸ λ c. after_code d k c.code

      after_machine : Description → Result Owed Refusal → Type 0
      after_machine d = handler d h ▸ after_handler d

      with_handler : (d : Description) (k : HandlerId) → AnswersAgree SameText (after_handler d k) (after_handler d k)
      with_handler d k =
          then_agrees SameCompiled SameText _ _ _ _ (source_agrees names d fold name)
          (λ a b e. subst (λ (c : ArrayVec ℕ). AnswersAgree SameText (after_code d k a.code) (after_code d k c)) e.code (writes_agree (capsule_hex d k version a.code)))

      with_machine : (d : Description) → AnswersAgree SameText (after_machine d) (after_machine d)
      with_machine d =
          then_agrees ◌≡◌ SameText _ _ _ _ (handler_agrees d h)
          (λ a b e. subst (λ (k : HandlerId). AnswersAgree SameText (after_handler d a) (after_handler d k)) e (with_handler d a))

-- ---- check

pub check_agrees : (names : Names) (vm name : List ℕ) → AnswersAgree SameText (check (steady names) vm name) (check (steady names) vm name)
check_agrees names vm name =
    then_agrees ◌≡◌ SameText _ _ _ _ (machine_agrees names vm)
    (λ a b e. subst (λ (d : Description). AnswersAgree SameText (after_machine a) (after_machine d)) e (with_machine a)) where
      after_capsule : Description → CapsuleParts × Code → Result Owed Refusal → Type 0
      after_capsule d c = writes (capsule_text d c.0 c.1)

      after_machine : Description → Result Owed Refusal → Type 0
      after_machine d = capsule (steady names) d name ▸ after_capsule d

      with_capsule : (d : Description) (a b : CapsuleParts × Code) → SameCapsule a b → AnswersAgree SameText (after_capsule d a) (after_capsule d b)
      with_capsule d a b e =
          subst (λ (p : CapsuleParts). AnswersAgree SameText (after_capsule d a) (writes (capsule_text d p b.1))) e.parts
          (subst (λ (code : Code). AnswersAgree SameText (after_capsule d a) (writes (capsule_text d a.0 code))) e.code
          (writes_agree (capsule_text d a.0 a.1)))

      with_machine : (d : Description) → AnswersAgree SameText (after_machine d) (after_machine d)
      with_machine d = then_agrees SameCapsule SameText _ _ _ _ (capsule_agrees names d name) (with_capsule d)

-- ---- expand

pub expand_agrees : (names : Names) (name : List ℕ) → AnswersAgree SameText (expand (steady names) name) (expand (steady names) name)
expand_agrees names name =
    then_agrees SameScript SameText _ _ _ _ (expansion_agrees names name)
    (λ a b e. subst (λ (s : Source). AnswersAgree SameText (writes (script_line a)) (writes (script_line s))) (same a b e) (writes_agree (script_line a))) where
      same : (a b : Source) → SameScript a b → a ≡ b
      same a b e = e

-- ---- feed

-- a stream ends where a frame ends or doesn't, and there is one place behind its last END
stream_agrees : (bytes : List ℕ) → AnswersAgree ◌≡◌ (whole_stream bytes) (whole_stream bytes)
stream_agrees bytes = judged_agrees ◌≡◌ _ _ _ one not same where
  one : (a b : ⊤) → unfinished bytes ≡ [] → unfinished bytes ≡ [] → a ≡ b
  one a b p q = refl

  not : (a : ⊤) (e : ℕ) → unfinished bytes ≡ [] → IsOpenAt bytes e → ⊥
  not a e p q = q.0 p

  same : (e h : ℕ) → IsOpenAt bytes e → IsOpenAt bytes h → e ≡ h
  same e h p q = let x = p.1 in let y = q.1 in omega (arith, x, y)

answers_agree : (d : Description) (bytes : List ℕ) → AnswersAgree SameText (answers d bytes) (answers d bytes)
answers_agree d bytes = then_agrees ◌≡◌ SameText _ _ _ _ (stream_agrees bytes) (λ a b e. writes_agree (feed_text d bytes))

pub feed_agrees : (names : Names) (vm name : List ℕ) → AnswersAgree SameText (feed (steady names) vm name) (feed (steady names) vm name)
feed_agrees names vm name =
    then_agrees ◌≡◌ SameText _ _ _ _ (machine_agrees names vm)
    (λ a b e. subst (λ (d : Description). AnswersAgree SameText (after_machine a) (after_machine d)) e (with_machine a)) where
      after_machine : Description → Result Owed Refusal → Type 0
      after_machine d = file (steady names) name ▸ λ bytes. answers d bytes.items

      with_bytes : (d : Description) (a b : Vec ℕ) → SameBytes a b → AnswersAgree SameText (answers d a.items) (answers d b.items)
      with_bytes d a b e = subst (λ (bytes : List ℕ). AnswersAgree SameText (answers d a.items) (answers d bytes)) e (answers_agree d a.items)

      with_machine : (d : Description) → AnswersAgree SameText (after_machine d) (after_machine d)
      with_machine d = then_agrees SameBytes SameText _ _ _ _ (file_agrees names name) (with_bytes d)

-- ---- words

some_same : {A : Type 0} (x y : A) (o : Option A) → o ≡ Some x → o ≡ Some y → x ≡ y
some_same x y o p q = let e : Some x ≡ Some y = sym p ∙ q in cc

line_same : (a b : Line) → a.brief ≡ b.brief → a.fold ≡ b.fold → a.command ≡ b.command → a.args ≡ b.args → a ≡ b
line_same a b brief fold command args =
    ap (λ (x : Bool). line x a.fold a.command a.args) brief ∙ ap (λ (x : Bool). line b.brief x a.command a.args) fold
    ∙ ap (λ (x : List ℕ). line b.brief b.fold x a.args) command ∙ ap (λ (x : List (List ℕ)). line b.brief b.fold b.command x) args where
      line : Bool → Bool → List ℕ → List (List ℕ) → Line
      line brief fold command args = record { brief = brief; fold = fold; command = command; args = args }

one_line : (words : List (List ℕ)) (a b : Line) → IsLine words a → IsLine words b → a ≡ b
one_line words a b p q =
    line_same a b (p.brief ∙ sym q.brief) (p.fold ∙ sym q.fold) (some_same a.command b.command _ p.command q.command) (p.args ∙ sym q.args)

pub task_agrees : (words : List (List ℕ)) → AnswersAgree ◌≡◌ (task words) (task words)
task_agrees words = judged_agrees ◌≡◌ _ _ _ one not same where
  one : (a b : Task) → Says words a → Says words b → a ≡ b
  one a b p q =
      some_same a b (task_of p.line) p.task_is (ap task_of (one_line words p.line q.line p.is q.is) ∙ q.task_is)

  not : (a : Task) (e : ⊤) → Says words a → SaysNothing words → ⊥
  not a e p q = q a p

  same : (e h : ⊤) → SaysNothing words → SaysNothing words → e ≡ h
  same e h p q = refl
