-- A part that is read as another part is, from a place that the machine comes to.
use Rattle.std.proofs.Common.{◌≡◌, ◌<◌, length, List, Result, Ok, Err, Bor, sym, ◌∙◌, ap, subst, arith}
use Rattle.std.specs.Result.{IsErrAnd}
use Rattle.ts_trees.specs.declared.token.Token.{Token}
use Rattle.ts_trees.specs.declared.token.TokenKind.{TokenKind}
use Rattle.ts_trees.specs.declared.halt.Halt.{Halt}
use Rattle.ts_trees.specs.declared.halt.Halt.TheVariants as halt
use Rattle.ts_trees.specs.Machine.{State}
use Rattle.ts_trees.specs.Parsing.{reads, Reads, Starts}

-- a part that stops
halts_at : (X Y K L : Type 0) (ts rest : List Token) (due : K → State) (got : X → K → State) (due' : L → State) (got' : Y → L → State) (to : L → K) → ((k : L) → reads ts (due' k) ≡ reads rest (due (to k))) → (e : Halt) → Reads {X = X} {K = K} rest due got (Err e) → Reads {X = Y} {K = L} ts due' got' (Err e)
halts_at X Y K L ts rest due got due' got' to s halt.Memory h = tt
halts_at X Y K L ts rest due got due' got' to s (halt.At r) h = λ k. s k ∙ h (to k)

pub halts : (X Y K L : Type 0) (ts rest : List Token) (due : K → State) (got : X → K → State) (due' : L → State) (got' : Y → L → State) (to : L → K) → ((k : L) → reads ts (due' k) ≡ reads rest (due (to k))) → (r : Result (Y × Bor (List Token)) Halt) (e : Halt) → IsErrAnd r (λ x. x ≡ e) → Reads {X = X} {K = K} rest due got (Err e) → Reads {X = Y} {K = L} ts due' got' r
halts X Y K L ts rest due got due' got' to s (Ok x) e i h = absurd i
halts X Y K L ts rest due got due' got' to s (Err f) e i h =
    let Q : Halt → Type 0 = λ z. Reads {X = Y} {K = L} ts due' got' (Err z) in
    subst Q (sym i) (halts_at X Y K L ts rest due got due' got' to s e h)

-- a part that is all of another one
pub ends_as : (X K L : Type 0) (ts rest : List Token) (due : K → State) (got : X → K → State) (due' : L → State) (got' : X → L → State) (to : L → K) → ((k : L) → reads ts (due' k) ≡ reads rest (due (to k))) → ((x : X) (ms : List Token) (k : L) → reads ms (got x (to k)) ≡ reads ms (got' x k)) → (r : Result (X × Bor (List Token)) Halt) → Reads {X = X} {K = K} rest due got r → Reads {X = X} {K = L} ts due' got' r
ends_as X K L ts rest due got due' got' to s g (Ok x) h = λ k. s k ∙ h (to k) ∙ g x.0 x.1.now k
ends_as X K L ts rest due got due' got' to s g (Err e) h = halts_at X X K L ts rest due got due' got' to s e h

-- behind a token there are fewer
pub starts_shorter : (k : TokenKind) {ts rest : List Token} → Starts k ts rest → length rest < length ts
starts_shorter k s = omega (arith, ap length s.are)
