-- A part stops if one of its parts does, or if a token is missing.
use Rattle.std.proofs.Common.{◌≡◌, List, Result, Ok, Err, Bor, refl, sym, subst}
use Rattle.std.specs.Result.{IsErrAnd}
use Rattle.ts_trees.specs.declared.stmt.Stmt.{Stmt}
use Rattle.ts_trees.specs.declared.token.Token.{Token}
use Rattle.ts_trees.specs.declared.token.TokenKind.{TokenKind}
use Rattle.ts_trees.specs.Seen.{act_of}
use Rattle.ts_trees.specs.Spelling.{kinds}
use Rattle.ts_trees.specs.Tree.{Acts}
use Rattle.ts_trees.specs.declared.halt.Halt.{Halt}
use Rattle.ts_trees.specs.declared.halt.Halt.TheVariants as halt
use Rattle.ts_trees.specs.Machine.{Frame, State, block, with_act}
use Rattle.ts_trees.specs.Parsing.{Gives, reads, Reads, Lacks, Takes, LacksName, TakesName}
use Rattle.ts_statements.specs.Simple.{ReadsStmt}
use Rattle.ts_trees.proofs.Parts.{halts, ends_as}

-- where a fault of one result is that of another
pub passed_on : {X Y : Type 0} (P : X → Type 0) (Q : List Token → Type 0) (P' : Y → Type 0) (Q' : List Token → Type 0) → ((rest : List Token) → Q rest → Q' rest) → (e : Halt) → Gives {X = X} (Err e) P Q → Gives {X = Y} (Err e) P' Q'
passed_on P Q P' Q' s halt.Memory h = tt
passed_on P Q P' Q' s (halt.At rest) h = s rest.now h

pub same_fault : {Y : Type 0} (P' : Y → Type 0) (Q' : List Token → Type 0) (r : Result Y Halt) (e : Halt) → IsErrAnd r (λ x. x ≡ e) → Gives {X = Y} (Err e) P' Q' → Gives r P' Q'
same_fault P' Q' (Ok x) e i h = absurd i
same_fault {Y} P' Q' (Err f) e i h = let R : Halt → Type 0 = λ z. Gives {X = Y} (Err z) P' Q' in subst R (sym i) h

-- a sign or a keyword is missing
missed : (m : TokenKind) (ts : List Token) {Y : Type 0} (P' : Y → Type 0) (Q' : List Token → Type 0) → ((rest : List Token) → (rest ≡ ts) × Lacks m ts → Q' rest) → (e : Halt) → Takes m ts (Err e) → Gives {X = Y} (Err e) P' Q'
missed m ts P' Q' s halt.Memory h = absurd h
missed m ts P' Q' s (halt.At rest) h = s rest.now h

pub token_misses : {Y L : Type 0} (m : TokenKind) (ts rest : List Token) (due' : L → State) (got' : Y → L → State) → ((k : L) (more : List Token) → (more ≡ rest) × Lacks m rest → reads ts (due' k) ≡ Err (kinds more)) →
    (r : Result (Y × Bor (List Token)) Halt) (e : Halt) → IsErrAnd r (λ x. x ≡ e) → Takes m rest (Err e) → Reads {X = Y} {K = L} ts due' got' r
token_misses {Y} {L} m ts rest due' got' s r e i h =
    same_fault {Y = Y × Bor (List Token)} (λ x. (k : L) → reads ts (due' k) ≡ reads x.1.now (got' x.0 k)) (λ more. (k : L) → reads ts (due' k) ≡ Err (kinds more)) r e i
    (missed m rest {Y = Y × Bor (List Token)} (λ x. (k : L) → reads ts (due' k) ≡ reads x.1.now (got' x.0 k)) (λ more. (k : L) → reads ts (due' k) ≡ Err (kinds more)) (λ more q k. s k more q) e h)

-- a name is missing
missed_name : (ts : List Token) {Y : Type 0} (P' : Y → Type 0) (Q' : List Token → Type 0) → ((rest : List Token) → (rest ≡ ts) × LacksName ts → Q' rest) → (e : Halt) → TakesName ts (Err e) → Gives {X = Y} (Err e) P' Q'
missed_name ts P' Q' s halt.Memory h = absurd h
missed_name ts P' Q' s (halt.At rest) h = s rest.now h

pub name_misses : {Y L : Type 0} (ts rest : List Token) (due' : L → State) (got' : Y → L → State) → ((k : L) (more : List Token) → (more ≡ rest) × LacksName rest → reads ts (due' k) ≡ Err (kinds more)) →
    (r : Result (Y × Bor (List Token)) Halt) (e : Halt) → IsErrAnd r (λ x. x ≡ e) → TakesName rest (Err e) → Reads {X = Y} {K = L} ts due' got' r
name_misses {Y} {L} ts rest due' got' s r e i h =
    same_fault {Y = Y × Bor (List Token)} (λ x. (k : L) → reads ts (due' k) ≡ reads x.1.now (got' x.0 k)) (λ more. (k : L) → reads ts (due' k) ≡ Err (kinds more)) r e i
    (missed_name rest {Y = Y × Bor (List Token)} (λ x. (k : L) → reads ts (due' k) ≡ reads x.1.now (got' x.0 k)) (λ more. (k : L) → reads ts (due' k) ≡ Err (kinds more)) (λ more q k. s k more q) e h)

-- the same of statements
pub stmt_halts : {X K : Type 0} (ts rest : List Token) (due : K → State) (got : X → K → State) (due' : Acts → Frame → State) (to : Acts × Frame → K) → ((k : Acts × Frame) → reads ts (due' k.0 k.1) ≡ reads rest (due (to k))) →
    (r : Result (Stmt × Bor (List Token)) Halt) (e : Halt) → IsErrAnd r (λ x. x ≡ e) → Reads {X = X} {K = K} rest due got (Err e) → ReadsStmt ts due' r
stmt_halts {X} {K} ts rest due got due' to s r e i h =
    halts X Stmt K (Acts × Frame) ts rest due got (λ k. due' k.0 k.1) (λ a k. block (with_act k.0 (act_of a)) k.1) to s r e i h

pub stmt_misses : (m : TokenKind) (ts rest : List Token) (due' : Acts → Frame → State) → ((k : Acts × Frame) (more : List Token) → (more ≡ rest) × Lacks m rest → reads ts (due' k.0 k.1) ≡ Err (kinds more)) →
    (r : Result (Stmt × Bor (List Token)) Halt) (e : Halt) → IsErrAnd r (λ x. x ≡ e) → Takes m rest (Err e) → ReadsStmt ts due' r
stmt_misses m ts rest due' s r e i h = token_misses {Y = Stmt} {L = Acts × Frame} m ts rest (λ k. due' k.0 k.1) (λ a k. block (with_act k.0 (act_of a)) k.1) s r e i h

-- a statement that is all of another part
pub stmt_ends : (ts rest : List Token) (due due' : Acts → Frame → State) → ((k : Acts × Frame) → reads ts (due' k.0 k.1) ≡ reads rest (due k.0 k.1)) → (r : Result (Stmt × Bor (List Token)) Halt) → ReadsStmt rest due r → ReadsStmt ts due' r
stmt_ends ts rest due due' s =
    ends_as Stmt (Acts × Frame) (Acts × Frame) ts rest (λ k. due k.0 k.1) (λ a k. block (with_act k.0 (act_of a)) k.1) (λ k. due' k.0 k.1) (λ a k. block (with_act k.0 (act_of a)) k.1) (λ k. k) s (λ x ms k. refl)
