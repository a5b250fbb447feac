-- What is made of what was read is read as that was, and leaves no more.
use Rattle.std.proofs.Common.{◌≡◌, ◌≤◌, ◌<◌, length, List, Result, Ok, Err, Bor, IfOk, refl, sym, ◌∙◌, ap, subst, le_trans, le_of_lt}
use Rattle.std.specs.Result.{IsErrAnd}
use Rattle.ts_statements.specs.Blocks.{FrameIn, ReadsStmtIn}
use Rattle.ts_statements.specs.Simple.{ReadsStmt}
use Rattle.ts_statements.specs.Taking.{Appended, ReadsOnto}
use Rattle.ts_statements.proofs.OpeningLemmas.{acts_of_push}
use Rattle.ts_trees.specs.declared.dialect.Dialect.{Dialect}
use Rattle.ts_trees.specs.declared.halt.Halt.{Halt}
use Rattle.ts_trees.specs.declared.halt.Halt.TheVariants as halt
use Rattle.ts_trees.specs.declared.stmt.Stmt.{Stmt}
use Rattle.ts_trees.specs.declared.token.Token.{Token}
use Rattle.ts_trees.specs.Machine.{Frame, State, block, with_act}
use Rattle.ts_trees.specs.Parsing.{reads, Reads}
use Rattle.ts_trees.specs.Seen.{act_of, acts_of}
use Rattle.ts_trees.specs.Tree.{Acts, no_acts}

-- a part stops, and so does the statement
stopped : {X K L : Type 0} (frame : L → Frame) (ts rest : List Token) (due : K → State) (got : X → K → State) (due' : Acts → Frame → State) (old new : List Stmt) (to : L → K)
    → ((f : L) → reads ts (due' (acts_of old) (frame f)) ≡ reads rest (due (to f))) → (e : Halt) → Reads {X = X} {K = K} rest due got (Err e) → ReadsOnto frame ts due' old new (Err e)
stopped frame ts rest due got due' old new to begins halt.Memory h = tt
stopped frame ts rest due got due' old new to begins (halt.At more) h = λ f. begins f ∙ h (to f)

pub onto_halts : {X K L : Type 0} (frame : L → Frame) (ts rest : List Token) (due : K → State) (got : X → K → State) (due' : Acts → Frame → State) (old new : List Stmt) (to : L → K)
    → ((f : L) → reads ts (due' (acts_of old) (frame f)) ≡ reads rest (due (to f)))
    → (s : Result (Bor (List Token)) Halt) (e : Halt) → IsErrAnd s (λ x. x ≡ e) → Reads {X = X} {K = K} rest due got (Err e) → ReadsOnto frame ts due' old new s
onto_halts frame ts rest due got due' old new to begins (Ok x) e i h = absurd i
onto_halts {X} {K} frame ts rest due got due' old new to begins (Err g) e i h =
    let Q : Halt → Type 0 = λ z. ReadsOnto frame ts due' old new (Err z) in subst Q (sym i) (stopped {X = X} {K = K} frame ts rest due got due' old new to begins e h)

pub onto : {X K L : Type 0} (frame : L → Frame) (ts rest : List Token) (due : K → State) (got : X → K → State) (due' : Acts → Frame → State) (old new : List Stmt) (to : L → K) (make : X → Stmt)
    → ((f : L) → reads ts (due' (acts_of old) (frame f)) ≡ reads rest (due (to f))) → ((x : X) (f : L) → got x (to f) ≡ block (with_act (acts_of old) (act_of (make x))) (frame f))
    → (r : Result (X × Bor (List Token)) Halt) → Reads {X = X} {K = K} rest due got r → (s : Result (Bor (List Token)) Halt) → Appended make old new r s → ReadsOnto frame ts due' old new s
onto frame ts rest due got due' old new to make begins is (Ok x) h (Ok left) e =
    λ f. begins f ∙ h (to f) ∙ ap (λ q. reads x.1.now q) (is x.0 f) ∙ ap (λ z. reads x.1.now (block z (frame f))) (acts_of_push old (make x.0) ∙ ap acts_of (sym e.0))
    ∙ ap (λ z. reads z (block (acts_of new) (frame f))) (sym e.1)
onto frame ts rest due got due' old new to make begins is (Ok x) h (Err g) e =
    let Q : Halt → Type 0 = λ z. ReadsOnto frame ts due' old new (Err z) in subst Q (sym e) tt
onto {X} {K} frame ts rest due got due' old new to make begins is (Err g) h s e = onto_halts {X = X} {K = K} frame ts rest due got due' old new to begins s g e h

pub onto_shorter : {X : Type 0} (ts : List Token) (make : X → Stmt) (old new : List Stmt) (r : Result (X × Bor (List Token)) Halt) → IfOk r (λ x. length x.1.now ≤ length ts)
    → (s : Result (Bor (List Token)) Halt) → Appended make old new r s → IfOk s (λ x. length x.now ≤ length ts)
onto_shorter ts make old new (Ok x) h (Ok left) e = subst (λ z. length z ≤ length ts) (sym e.1) h
onto_shorter ts make old new (Err g) h (Ok left) e = absurd e
onto_shorter ts make old new r h (Err g) e = tt

pub onto_less : (ts rest : List Token) → length rest ≤ length ts → (s : Result (Bor (List Token)) Halt) → IfOk s (λ x. length x.now ≤ length rest) → IfOk s (λ x. length x.now ≤ length ts)
onto_less ts rest less (Ok left) h = le_trans h less
onto_less ts rest less (Err g) h = tt

-- a statement that holds no block
pub simple_reads : (ts : List Token) (due : Acts → Frame → State) (old new : List Stmt) (r : Result (Stmt × Bor (List Token)) Halt) → ReadsStmt ts due r
    → (s : Result (Bor (List Token)) Halt) → Appended (λ x. x) old new r s → ReadsOnto (λ (f : Frame). f) ts due old new s
simple_reads ts due old new r h s e =
    onto {X = Stmt} {K = Acts × Frame} {L = Frame} (λ f. f) ts ts (λ k. due k.0 k.1) (λ a k. block (with_act k.0 (act_of a)) k.1) due old new (λ f. (acts_of old, f)) (λ x. x) (λ f. refl) (λ x f. refl) r h s e

pub simple_shorter : (ts : List Token) (old new : List Stmt) (r : Result (Stmt × Bor (List Token)) Halt) → IfOk r (λ x. length x.1.now < length ts)
    → (s : Result (Bor (List Token)) Halt) → Appended (λ x. x) old new r s → IfOk s (λ x. length x.now < length ts)
simple_shorter ts old new (Ok x) h (Ok left) e = subst (λ z. length z < length ts) (sym e.1) h
simple_shorter ts old new (Err g) h (Ok left) e = absurd e
simple_shorter ts old new r h (Err g) e = tt

pub not_more : (ts : List Token) (s : Result (Bor (List Token)) Halt) → IfOk s (λ x. length x.now < length ts) → IfOk s (λ x. length x.now ≤ length ts)
not_more ts (Ok left) h = le_of_lt h
not_more ts (Err g) h = tt

-- a statement that each open block may have
pub narrowed : (d : Dialect) (ts : List Token) (due : Acts → Frame → State) (old new : List Stmt) (r : Result (Bor (List Token)) Halt) → ReadsOnto (λ (f : Frame). f) ts due old new r → ReadsStmtIn d ts due old new r
narrowed d ts due old new (Ok x) h = λ k. h k.frame
narrowed d ts due old new (Err halt.Memory) h = tt
narrowed d ts due old new (Err (halt.At rest)) h = λ k. h k.frame

-- a statement stops, and so does its block
pub block_halts : (d : Dialect) (ts rest : List Token) (due : Acts → Frame → State) (old new : List Stmt) → ((f : FrameIn d) → reads ts (block no_acts f.frame) ≡ reads rest (due (acts_of old) f.frame))
    → (e : Halt) → ReadsStmtIn d rest due old new (Err e) → Reads {X = List Stmt} {K = FrameIn d} ts (λ f. block no_acts f.frame) (λ b f. block (acts_of b) f.frame) (Err e)
block_halts d ts rest due old new begins halt.Memory h = tt
block_halts d ts rest due old new begins (halt.At more) h = λ f. begins f ∙ h f
