-- A part with a token after it is read from where the part is due to what the token leads to.
use Rattle.std.proofs.Common.{◌≡◌, ◌<◌, ◌≤◌, ℕ, length, List, Result, Ok, Err, Bor, refl, sym, ◌∙◌, ap, lt_of_lt_of_le}
use Rattle.std.specs.Prelude.{IfOk}
use Rattle.std.specs.Result.{IsErrAnd}
use Rattle.ts_trees.specs.declared.stmt.Stmt.{Stmt}
use Rattle.ts_trees.specs.declared.token.Token.{Token}
use Rattle.ts_trees.specs.declared.token.TokenKind.{TokenKind}
use Rattle.ts_trees.specs.declared.token.TokenKind.TheVariants as kind
use Rattle.ts_trees.specs.declared.word.Word.{Word}
use Rattle.ts_trees.specs.Spelling.{kinds}
use Rattle.ts_trees.specs.Tree.{Act, Acts}
use Rattle.ts_trees.specs.declared.halt.Halt.{Halt}
use Rattle.ts_trees.specs.declared.halt.Halt.TheVariants as halt
use Rattle.ts_trees.specs.Machine.{Frame, State, block, closed, with_act}
use Rattle.ts_trees.specs.Parsing.{reads, Reads, Starts, Lacks, StartsName, LacksName, TakesName, Ended}
use Rattle.ts_trees.proofs.Parts.{halts, starts_shorter}
use Rattle.ts_statements.specs.Simple.{ReadsStmt}
use Rattle.ts_statements.proofs.Halting.{stmt_halts}
use Rattle.ts_statements.proofs.SimpleLemmas.{closed_read, closed_stops}

-- a name is read as other parts are
pub name_reads : {K : Type 0} (ts : List Token) (due : K → State) (got : Word → K → State) →
    ((k : K) (v : Word) (us : List Token) → StartsName v ts us → reads ts (due k) ≡ reads us (got v k)) →
    ((k : K) (rest : List Token) → (rest ≡ ts) × LacksName ts → reads ts (due k) ≡ Err (kinds rest)) →
    (r : Result (Word × Bor (List Token)) Halt) → TakesName ts r → Reads {X = Word} {K = K} ts due got r
name_reads ts due got s m (Ok x) h = λ k. s k x.0 x.1.now h
name_reads ts due got s m (Err halt.Memory) h = absurd h
name_reads ts due got s m (Err (halt.At rest)) h = λ k. m k rest.now h

-- a part behind which something is known to follow
pub ended_over : {X K L : Type 0} (m : TokenKind) (P : List Token → Type 0) (ts us : List Token) (due : K → State) (got : X → K → State) (due' : L → State) (got' : X → L → State) (to : L → K) →
    ((k : L) → reads ts (due' k) ≡ reads us (due (to k))) →
    ((x : X) (vs ws : List Token) → Starts m vs ws → (k : L) → reads vs (got x (to k)) ≡ reads ws (got' x k)) →
    ((x : X) (vs rest : List Token) → P vs → (rest ≡ vs) × Lacks m vs → (k : L) → reads vs (got x (to k)) ≡ Err (kinds rest)) →
    (read result : Result (X × Bor (List Token)) Halt) → Reads {X = X} {K = K} us due got read → IfOk read (λ x. P x.1.now) → Ended m read result → Reads {X = X} {K = L} ts due' got' result
ended_over {X} {K} {L} m P ts us due got due' got' to s t n (Err e) result h o i = halts X X K L ts us due got due' got' to s result e i h
ended_over m P ts us due got due' got' to s t n (Ok x) (Ok y) h o i = λ k. s k ∙ h (to k) ∙ t x.0 x.1.now y.1.now i.1 k ∙ ap (λ z. reads y.1.now (got' z k)) (sym i.0)
ended_over m P ts us due got due' got' to s t n (Ok x) (Err halt.Memory) h o i = absurd i
ended_over m P ts us due got due' got' to s t n (Ok x) (Err (halt.At rest)) h o i = λ k. s k ∙ h (to k) ∙ n x.0 x.1.now rest.now o i k

-- any part
pub ended_reads : {X K L : Type 0} (m : TokenKind) (ts us : List Token) (due : K → State) (got : X → K → State) (due' : L → State) (got' : X → L → State) (to : L → K) →
    ((k : L) → reads ts (due' k) ≡ reads us (due (to k))) →
    ((x : X) (vs ws : List Token) → Starts m vs ws → (k : L) → reads vs (got x (to k)) ≡ reads ws (got' x k)) →
    ((x : X) (vs rest : List Token) → (rest ≡ vs) × Lacks m vs → (k : L) → reads vs (got x (to k)) ≡ Err (kinds rest)) →
    (read result : Result (X × Bor (List Token)) Halt) → Reads {X = X} {K = K} us due got read → Ended m read result → Reads {X = X} {K = L} ts due' got' result
ended_reads {X} {K} {L} m ts us due got due' got' to s t n read result h i =
    ended_over m (λ vs. Unit {0}) ts us due got due' got' to s t (λ x vs rest o. n x vs rest) read result h (any read) i
  where
    any : (r : Result (X × Bor (List Token)) Halt) → IfOk r (λ x. Unit {0})
    any (Ok x) = tt
    any (Err e) = tt

-- a statement that its `;` ends, whatever it is
pub closed_reads : {X K : Type 0} (ts us : List Token) (due : K → State) (got : X → K → State) (due' : Acts → Frame → State) (act : X → Act) (to : Acts × Frame → K) →
    ((k : Acts × Frame) → reads ts (due' k.0 k.1) ≡ reads us (due (to k))) →
    ((x : X) (vs : List Token) (k : Acts × Frame) → reads vs (got x (to k)) ≡ reads vs (closed (act x) k.0 k.1)) →
    (read result : Result (X × Bor (List Token)) Halt) → Reads {X = X} {K = K} us due got read → Ended kind.Semi read result →
    Reads {X = X} {K = Acts × Frame} ts (λ k. due' k.0 k.1) (λ x k. block (with_act k.0 (act x)) k.1) result
closed_reads ts us due got due' act to s c =
    ended_reads kind.Semi ts us due got (λ k. due' k.0 k.1) (λ x k. block (with_act k.0 (act x)) k.1) to s
    (λ x vs ws e k. c x vs k ∙ closed_read e (act x) k.0 k.1) (λ x vs rest l k. c x vs k ∙ closed_stops l (act x) k.0 k.1)

-- a statement stops where a part that it begins with does
pub stmt_stops : {X : Type 0} (ts : List Token) (due : Acts → Frame → State) (got : X → Acts × Frame → State) → (r : Result (Stmt × Bor (List Token)) Halt) (e : Halt) → IsErrAnd r (λ x. x ≡ e) →
    Reads {X = X} {K = Acts × Frame} ts (λ k. due k.0 k.1) got (Err e) → ReadsStmt ts due r
stmt_stops {X} ts due got = stmt_halts {X = X} {K = Acts × Frame} ts ts (λ k. due k.0 k.1) got due (λ k. k) (λ k. refl)

-- and fewer tokens are left
pub ended_shorter : {X : Type 0} (m : TokenKind) (n : ℕ) (read result : Result (X × Bor (List Token)) Halt) → IfOk read (λ x. length x.1.now ≤ n) → Ended m read result → IfOk result (λ x. length x.1.now < n)
ended_shorter m n (Err e) (Ok y) h i = absurd i
ended_shorter m n (Err e) (Err f) h i = tt
ended_shorter m n (Ok x) (Ok y) h i = lt_of_lt_of_le (starts_shorter m i.1) h
ended_shorter m n (Ok x) (Err f) h i = tt
