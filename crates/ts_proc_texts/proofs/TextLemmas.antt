-- From tokens to the text of a whole expansion.
use Rattle.std.proofs.Common.{◌≡◌, ℕ, ◌<◌, Bool, true, false, List, [], ◌∷◌, ◌++◌, length, Option, Result, Ok, Err, refl, ap, sym, ◌∙◌, subst, arith, append_assoc, length-append}
use Rattle.std.specs.Prelude.{codes}
use Rattle.mate_files.specs.Pen.{Prints}
use Rattle.mate_files.specs.Sink.{Puts}
use Rattle.mate_files.specs.declared.pen.Pen.{Pen}
use Rattle.mate_files.specs.declared.sink.SinkFault.{SinkFault}
use Rattle.mate_files.specs.declared.sink.SinkFault.TheVariants.{NoMemory}
use Rattle.mate_files.proofs.SinkLemmas.{SentPart-nil, SentPart-after, SentShort-nil, SentShort-after, Puts-stop}
use Rattle.mate_files.proofs.PenLemmas.{Puts-finished, Prints-by, ◌⟫◌}
use Rattle.ts_syntax.specs.Print.{PrintsTokens}
use Rattle.ts_syntax.specs.declared.printer.Printer.{Printer}
use Rattle.ts_trees.specs.declared.token.TokenKind.{TokenKind}
use Rattle.ts_trees.specs.declared.procedure.Proc.{Proc}
use Rattle.ts_trees.specs.declared.script.Decl.{Decl}
use Rattle.ts_trees.specs.declared.stmt.Stmt.{Stmt}
use Rattle.ts_trees.specs.Seen.{acts_of}
use Rattle.ts_trees.specs.Spelling.{decls_spelled}
use Rattle.ts_trees.specs.Text.{space, token_text, written, text_of}
use Rattle.ts_trees.specs.Tree.{ProcedureSource}
use Rattle.ts_syntax.specs.Line.{script_line}
use Rattle.ts_proc_names.specs.Heads.{parameter_count}
use Rattle.ts_proc_renaming.specs.Renaming.{parameter_decls}
use Rattle.ts_proc_expansion.specs.Expansion.{callees, expansion}
use Rattle.ts_proc_expansion.specs.Live.{BecomesSame}
use Rattle.ts_proc_expansion.specs.Plan.{bodies_of}
use Rattle.ts_proc_expansion.proofs.ExpandLemmas.{whole_same, expansion_made}
use Rattle.ts_proc_texts.specs.Hidings.{hiding_at}
use Rattle.ts_proc_texts.specs.Rest.{block_tokens, why_stopped, PrintsUpTo}
use Rattle.ts_proc_texts.proofs.HidingLemmas.{hiding_at-past}

-- nothing of a text is written for want of memory
pub nothing_put : {w : Option (List ℕ)} {f : ℕ} (text : List ℕ) → Puts {T = Unit {0}} w f w f (Err NoMemory) (text ++ codes "\n")
nothing_put text = record { writes = SentPart-nil; short = SentShort-nil (omega (arith, length-append text (codes "\n"))); cause = tt; later = omega arith }

-- a text that is printed up to a place is not whole
pub put_stopped : {w0 w1 : Option (List ℕ)} {f0 f1 : ℕ} {r0 : Result (Unit {0}) SinkFault} (r1 r : Result (Unit {0}) SinkFault) (front more all : List ℕ) → r0 ≡ Ok tt → r ≡ why_stopped r1
    → 0 < length more → all ≡ front ++ more → Prints w0 f0 r0 w1 f1 r1 front → Puts w0 f0 w1 f1 r all
put_stopped {w0} {w1} {f0} {f1} {r0} r1 r front more all new finish some whole p =
    let fresh : Prints w0 f0 (Ok tt) w1 f1 r1 front = subst (λ x. Prints w0 f0 x w1 f1 r1 front) new p in
    subst (λ x. Puts w0 f0 w1 f1 x all) (sym finish) (subst (λ (bs : List ℕ). Puts w0 f0 w1 f1 (why_stopped r1) bs) (sym whole) (by r1 fresh.going))
  where
    by : (r1 : Result (Unit {0}) SinkFault) → Puts w0 f0 w1 f1 r1 front → Puts w0 f0 w1 f1 (why_stopped r1) (front ++ more)
    by (Ok u) g = record { writes = SentPart-after g.writes SentPart-nil; short = SentShort-after g.writes (SentShort-nil some); cause = tt; later = g.later }
    by (Err fault) g = Puts-stop g more

-- the text of tokens begins that of these and more
record TextBegins (front whole : List ℕ) : Type 0 where
  rest : List ℕ
  are : whole ≡ front ++ rest

written_begins : (b : Bool) (xs ys : List TokenKind) → TextBegins (written b xs) (written b (xs ++ ys))
unfolding written
written_begins b [] ys = record { rest = written b ys; are = refl }
written_begins b (x ∷ xs) ys =
    let more : TextBegins (written true xs) (written true (xs ++ ys)) = written_begins true xs ys in
    record { rest = more.rest; are = ap (λ z. space b ++ token_text x ++ z) more.are ∙ sym (append_assoc (space b ++ token_text x) (written true xs) more.rest) }

-- a line whose tokens are printed up to a place
pub line_stopped : {w0 w1 : Option (List ℕ)} {f0 f1 : ℕ} {a b : Printer} {left all : List TokenKind} (pen : Pen) (r : Result (Unit {0}) SinkFault) → a.pen.result ≡ Ok tt → a.begun ≡ false
    → pen ≡ b.pen → r ≡ why_stopped pen.result → PrintsUpTo w0 f0 a w1 f1 b left all → Puts w0 f0 w1 f1 r (text_of all ++ codes "\n")
line_stopped {b} {left} {all} pen r fresh unbegun same told p =
    let text : TextBegins (text_of p.front) (text_of (p.front ++ left)) = written_begins false p.front left in
    put_stopped b.pen.result r (text_of p.front) (text.rest ++ codes "\n") (text_of all ++ codes "\n") fresh (told ∙ ap (λ (q : Pen). why_stopped q.result) same) (omega (arith, length-append text.rest (codes "\n")))
    (ap (λ ks. text_of ks ++ codes "\n") p.whole ∙ ap (λ bs. bs ++ codes "\n") text.are ∙ append_assoc (text_of p.front) text.rest (codes "\n"))
    (Prints-by (ap (λ x. written x p.front) unbegun) p.printed.prints)

-- a line whose tokens are all printed, with its end
pub line_ended : {w0 w1 w2 : Option (List ℕ)} {f0 f1 f2 : ℕ} {a b : Printer} {all : List TokenKind} (pen : Pen) (r : Result (Unit {0}) SinkFault) → a.pen.result ≡ Ok tt → a.begun ≡ false
    → pen ≡ b.pen → PrintsTokens w0 f0 a w1 f1 b all → Prints w1 f1 pen.result w2 f2 r (codes "\n") → Puts w0 f0 w2 f2 r (text_of all ++ codes "\n")
line_ended {w1} {w2} {f1} {f2} {all} pen r fresh unbegun same p end_of =
    Puts-finished fresh refl (Prints-by (ap (λ x. written x all) unbegun) p.prints ⟫ subst (λ (q : Pen). Prints w1 f1 q.result w2 f2 r (codes "\n")) same end_of)

-- a text is put as an equal one
pub put_by : {T : Type 0} {w w' : Option (List ℕ)} {f f' : ℕ} {r : Result T SinkFault} {bs cs : List ℕ} → bs ≡ cs → Puts w f w' f' r bs → Puts w f w' f' r cs
put_by {w} {w'} {f} {f'} {r} same p = subst (λ (x : List ℕ). Puts w f w' f' r x) same p

-- the text of an expansion, by the parts of it
pub expansion_line : (procs : List Proc) (stmts : List Stmt) (ds : List Decl) (n : ℕ) (s : ProcedureSource) → BecomesSame (callees s.procs) (acts_of stmts) s.body
    → bodies_of procs ≡ callees s.procs → ds ≡ s.decls ++ parameter_decls 0 n → n ≡ parameter_count s.procs
    → text_of (decls_spelled ds ++ block_tokens procs (length procs) stmts) ++ codes "\n" ≡ script_line (expansion s)
expansion_line procs stmts ds n s becomes same are count =
    ap script_line (expansion_made s ds n _ are count
    (whole_same procs (length procs) (hiding_at procs (length procs)) (acts_of stmts) s (omega arith) (hiding_at-past procs (length procs) (omega arith)) becomes same))
