-- A block with what ends it is read as the statement that it ends.
use Rattle.std.proofs.Common.{◌≡◌, ◌≤◌, length, List, Some, Result, Ok, Err, Bor, IfOk, refl, sym, ◌∙◌, ap, subst, le_trans}
use Rattle.std.specs.Result.{IsErrAnd}
use Rattle.ts_statements.specs.Blocks.{FrameIn, LacksStmt, Branch, branch_due, choice_made, Repetition, repeated_block, repetition_made, Count, counted_block, count_made}
use Rattle.ts_statements.specs.Ending.{ReadBlock, StartsEnd, LacksEnd, no_end, no_name, TakesEnd, ClosedBlock, LacksNext, no_next, no_last, Counted}
use Rattle.ts_trees.specs.declared.halt.Halt.{Halt}
use Rattle.ts_trees.specs.declared.halt.Halt.TheVariants as halt
use Rattle.ts_trees.specs.Machine.{else_part, State, block, with_act}
use Rattle.ts_trees.specs.Parsing.{reads, Reads, Lacks, Starts, Takes, TakesName}
use Rattle.ts_trees.proofs.Parts.{halts}
use Rattle.ts_trees.specs.declared.dialect.Dialect.{Dialect}
use Rattle.ts_trees.specs.declared.stmt.Stmt.{Stmt}
use Rattle.ts_trees.specs.declared.token.Token.{Token}
use Rattle.ts_trees.specs.declared.token.TokenKind.{TokenKind}
use Rattle.ts_trees.specs.declared.token.TokenKind.TheVariants as kind
use Rattle.ts_trees.specs.declared.word.Word.{Word}
use Rattle.ts_trees.specs.Seen.{acts_of}
use Rattle.ts_trees.specs.Spelling.{kinds}
use Rattle.ts_trees.specs.Tree.{Acts, no_acts, if_then, if_else}
use Rattle.ts_statements.proofs.BlockLemmas.{else_in, while_in, for_in, while_open, while_end, while_named, while_left, for_open, for_left, for_next_read, else_open, else_end, then_end, if_named, if_left}
use Rattle.ts_statements.proofs.OpeningLemmas.{branch_stops}
use Rattle.ts_statements.proofs.DialectLemmas.{no_more, no_more_named}

-- ---- what is taken behind a block

pub end_missing : (k : TokenKind) (ts : List Token) (r : Result (Bor (List Token)) Halt) (e : Halt) → IsErrAnd r (λ f. f ≡ e) → Takes kind.End ts (Err e) → TakesEnd k ts r
end_missing k ts (Ok x) e i h = absurd i
end_missing k ts (Err f) halt.Memory i h = absurd h
end_missing k ts (Err f) (halt.At rest) i h = let R : Halt → Type 0 = λ z. TakesEnd k ts (Err z) in subst R (sym i) (no_end h.0 h.1)

pub name_taken : (k : TokenKind) (ts us : List Token) → Starts kind.End ts us → (r : Result (Bor (List Token)) Halt) → Takes k us r → TakesEnd k ts r
name_taken k ts us s (Ok x) h = record { named = us; ends = s; names = h }
name_taken k ts us s (Err halt.Memory) h = absurd h
name_taken k ts us s (Err (halt.At rest)) h = no_name us s h.0 h.1

pub ended_missing : (k : TokenKind) (x : List Stmt × Bor (List Token)) (r : ReadBlock) (e : Halt) → IsErrAnd r (λ f. f ≡ e) → TakesEnd k x.1.now (Err e) → ClosedBlock k (Ok x) r
ended_missing k x (Ok y) e i h = absurd i
ended_missing k x (Err f) e i h = let R : Halt → Type 0 = λ z. TakesEnd k x.1.now (Err z) in subst R (sym i) h

pub next_missing : (x : List Stmt × Bor (List Token)) (r : Result ((List Stmt × Word) × Bor (List Token)) Halt) (e : Halt) → IsErrAnd r (λ f. f ≡ e) → Takes kind.Next x.1.now (Err e) → Counted (Ok x) r
next_missing x (Ok y) e i h = absurd i
next_missing x (Err f) halt.Memory i h = absurd h
next_missing x (Err f) (halt.At rest) i h = let R : Halt → Type 0 = λ z. Counted (Ok x) (Err z) in subst R (sym i) (no_next h.0 h.1)

pub last_missing : (x : List Stmt × Bor (List Token)) (us : List Token) → Starts kind.Next x.1.now us → (r : Result ((List Stmt × Word) × Bor (List Token)) Halt) (e : Halt) → IsErrAnd r (λ f. f ≡ e) → TakesName us (Err e) → Counted (Ok x) r
last_missing x us s (Ok y) e i h = absurd i
last_missing x us s (Err f) halt.Memory i h = absurd h
last_missing x us s (Err f) (halt.At rest) i h = let R : Halt → Type 0 = λ z. Counted (Ok x) (Err z) in subst R (sym i) (no_last us s h.0 h.1)

-- ---- a block that ends

ended_reads : {L : Type 0} {d : Dialect} (m : TokenKind) (ts : List Token) (to : L → FrameIn d) (got : Acts → L → State)
    → ((us vs : List Token) → StartsEnd m us vs → (a : Acts) (k : L) → reads us (block a (to k).frame) ≡ reads vs (got a k))
    → ((us vs : List Token) → LacksStmt d us → LacksEnd m us vs → (a : Acts) (k : L) → reads us (block a (to k).frame) ≡ Err (kinds vs))
    → (r : ReadBlock) → Reads {X = List Stmt} {K = FrameIn d} ts (λ f. block no_acts f.frame) (λ b f. block (acts_of b) f.frame) r → IfOk r (λ x. LacksStmt d x.1.now)
    → (s : ReadBlock) → ClosedBlock m r s → Reads {X = List Stmt} {K = L} ts (λ k. block no_acts (to k).frame) (λ b k. got (acts_of b) k) s
ended_reads m ts to got closes stuck (Ok x) h o (Ok y) e = λ k. h (to k) ∙ closes x.1.now y.1.now e.1 (acts_of x.0) k ∙ ap (λ (z : List Stmt). reads y.1.now (got (acts_of z) k)) (sym e.0)
ended_reads m ts to got closes stuck (Ok x) h o (Err halt.Memory) e = tt
ended_reads m ts to got closes stuck (Ok x) h o (Err (halt.At rest)) e = λ k. h (to k) ∙ stuck x.1.now rest.now o e (acts_of x.0) k
ended_reads {L} {d} m ts to got closes stuck (Err f) h o s e =
    halts (List Stmt) (List Stmt) (FrameIn d) L ts ts (λ f. block no_acts f.frame) (λ b f. block (acts_of b) f.frame) (λ k. block no_acts (to k).frame) (λ b k. got (acts_of b) k) to (λ k. refl) s f e h

pub ended_shorter : (m : TokenKind) (ts : List Token) (r : ReadBlock) → IfOk r (λ x. length x.1.now ≤ length ts) → (s : ReadBlock) → ClosedBlock m r s → IfOk s (λ x. length x.1.now ≤ length ts)
ended_shorter m ts (Ok x) h (Ok y) e = le_trans (no_more m e.1.names) (le_trans (no_more kind.End e.1.ends) h)
ended_shorter m ts (Err f) h (Ok y) e = absurd e
ended_shorter m ts r h (Err f) e = tt

-- the statements of a `while`
while_stuck : {d : Dialect} (us vs : List Token) → LacksStmt d us → LacksEnd kind.While us vs → (a : Acts) (k : Repetition d) → reads us (block a (while_in k).frame) ≡ Err (kinds vs)
while_stuck us vs o (no_end e l) a k = while_open o (e, l) a k
while_stuck us vs o (no_name ws s e l) a k = while_end s a k.test k.before k.frame.frame ∙ while_left (e, l) k.test a k.before k.frame.frame

pub repeated_reads : (d : Dialect) (ts : List Token) (r : ReadBlock) → Reads {X = List Stmt} {K = FrameIn d} ts (λ f. block no_acts f.frame) (λ b f. block (acts_of b) f.frame) r → IfOk r (λ x. LacksStmt d x.1.now)
    → (s : ReadBlock) → ClosedBlock kind.While r s → Reads {X = List Stmt} {K = Repetition d} ts (λ k. repeated_block k) (λ b k. repetition_made k (acts_of b)) s
repeated_reads d ts =
    ended_reads kind.While ts while_in (λ a k. repetition_made k a)
    (λ us vs s a k. while_end s.ends a k.test k.before k.frame.frame ∙ while_named s.names k.test a k.before k.frame.frame) while_stuck

-- the statements behind an `else`
else_stuck : {d : Dialect} (us vs : List Token) → LacksStmt d us → LacksEnd kind.If us vs → (a : Acts) (k : Branch d) → reads us (block a (else_in k).frame) ≡ Err (kinds vs)
else_stuck us vs o (no_end e l) a k = else_open o (e, l) a k
else_stuck us vs o (no_name ws s e l) a k = else_end s a k.choice.test k.body k.choice.before k.choice.frame.frame ∙ if_left (e, l) (if_else k.choice.test k.body a) k.choice.before k.choice.frame.frame

pub else_reads : (d : Dialect) (ts : List Token) (r : ReadBlock) → Reads {X = List Stmt} {K = FrameIn d} ts (λ f. block no_acts f.frame) (λ b f. block (acts_of b) f.frame) r → IfOk r (λ x. LacksStmt d x.1.now)
    → (s : ReadBlock) → ClosedBlock kind.If r s → Reads {X = List Stmt} {K = Branch d} ts (λ k. block no_acts (else_part k.choice.test k.body k.choice.before k.choice.frame.frame)) (λ b k. choice_made k.choice k.body (Some b)) s
else_reads d ts =
    ended_reads kind.If ts else_in (λ a k. block (with_act k.choice.before (if_else k.choice.test k.body a)) k.choice.frame.frame)
    (λ us vs s a k. else_end s.ends a k.choice.test k.body k.choice.before k.choice.frame.frame ∙ if_named s.names (if_else k.choice.test k.body a) k.choice.before k.choice.frame.frame) else_stuck

-- the statements of a `for`
for_stuck : {d : Dialect} (us vs : List Token) → LacksStmt d us → LacksNext us vs → (a : Acts) (k : Count d) → reads us (block a (for_in k).frame) ≡ Err (kinds vs)
for_stuck us vs o (no_next e l) a k = for_open o (e, l) a k
for_stuck us vs o (no_last ws s e l) a k = for_left s (e, l) a k.var k.from k.to k.step k.before k.frame.frame

pub counted_reads : (d : Dialect) (ts : List Token) (r : ReadBlock) → Reads {X = List Stmt} {K = FrameIn d} ts (λ f. block no_acts f.frame) (λ b f. block (acts_of b) f.frame) r → IfOk r (λ x. LacksStmt d x.1.now)
    → (s : Result ((List Stmt × Word) × Bor (List Token)) Halt) → Counted r s → Reads {X = List Stmt × Word} {K = Count d} ts (λ k. counted_block k) (λ x k. count_made k (acts_of x.0) x.1) s
counted_reads d ts (Ok x) h o (Ok y) e =
    λ k. h (for_in k) ∙ for_next_read e.1.ends e.1.names (acts_of x.0) k.var k.from k.to k.step k.before k.frame.frame ∙ ap (λ (z : List Stmt). reads y.1.now (count_made k (acts_of z) y.0.1)) (sym e.0)
counted_reads d ts (Ok x) h o (Err halt.Memory) e = tt
counted_reads d ts (Ok x) h o (Err (halt.At rest)) e = λ k. h (for_in k) ∙ for_stuck x.1.now rest.now o e (acts_of x.0) k
counted_reads d ts (Err f) h o s e =
    halts (List Stmt) (List Stmt × Word) (FrameIn d) (Count d) ts ts (λ f. block no_acts f.frame) (λ b f. block (acts_of b) f.frame) (λ k. counted_block k) (λ x k. count_made k (acts_of x.0) x.1) for_in (λ k. refl) s f e h

pub counted_shorter : (ts : List Token) (r : ReadBlock) → IfOk r (λ x. length x.1.now ≤ length ts) → (s : Result ((List Stmt × Word) × Bor (List Token)) Halt) → Counted r s → IfOk s (λ x. length x.1.now ≤ length ts)
counted_shorter ts (Ok x) h (Ok y) e = le_trans (no_more_named y.0.1 e.1.names) (le_trans (no_more kind.Next e.1.ends) h)
counted_shorter ts (Err f) h (Ok y) e = absurd e
counted_shorter ts r h (Err f) e = tt

-- no `else` and no `end if` where one of them is due
pub branch_stuck : {Y : Type 0} {d : Dialect} (ts : List Token) → LacksStmt d ts → Lacks kind.Else ts → (got : Y → Branch d → State) → (e : Halt) → TakesEnd kind.If ts (Err e) → Reads {X = Y} {K = Branch d} ts (λ k. branch_due k) got (Err e)
branch_stuck ts o u got halt.Memory h = absurd h
branch_stuck ts o u got (halt.At rest) (no_end e l) = λ k. branch_stops o u (e, l) k.body k.choice.test k.choice.before k.choice.frame.frame k.choice.frame.speaks
branch_stuck ts o u got (halt.At rest) (no_name ws s e l) =
    λ k. then_end s k.body k.choice.test k.choice.before k.choice.frame.frame ∙ if_left (e, l) (if_then k.choice.test k.body) k.choice.before k.choice.frame.frame
