-- When the machine stops, as a part of the parser does: at a token that is missing, or because memory ran out.
use Rattle.std.proofs.Common.{◌≡◌, ℕ, List, None, Result, Ok, Err, Bor, refl, sym, subst}
use Rattle.std.specs.Result.{IsErrAnd}
use Rattle.ts_trees.specs.declared.token.Token.{Token}
use Rattle.ts_trees.specs.declared.token.TokenKind.{TokenKind}
use Rattle.ts_trees.specs.declared.token.TokenKind.TheVariants as kind
use Rattle.ts_trees.specs.declared.word.Word.{Word}
use Rattle.ts_trees.specs.Spelling.{kinds}
use Rattle.ts_trees.specs.Tree.{Tree, Trees}
use Rattle.ts_trees.specs.declared.halt.Halt.{Halt}
use Rattle.ts_trees.specs.declared.halt.Halt.TheVariants as halt
use Rattle.ts_trees.specs.Machine.{Operand, Whole, in_paren, in_item, in_message, State, sized, size_opened, size_named, message, have, step}
use Rattle.ts_trees.specs.Parsing.{Gives, reads, Reads, Lacks, Takes, LacksName, TakesName, Caller, of_operand, of_stmt, of_do, called_with}
use Rattle.ts_trees.proofs.Missing.{IsOther, lacks_first, lacks_name, only_box, only_close, only_open}
use Rattle.ts_trees.proofs.Reading.{stops}

pub out_of_memory : {X : Type 0} (P : X → Type 0) (Q : List Token → Type 0) (r : Result X Halt) → IsErrAnd r (λ e. e ≡ halt.Memory) → Gives {X = X} r P Q
out_of_memory P Q (Ok x) i = absurd i
out_of_memory {X} P Q (Err e) i = let R : Halt → Type 0 = λ z. Gives {X = X} (Err z) P Q in subst R (sym i) tt

-- a sign or a keyword is missing
missed : (m : TokenKind) (ts : List Token) {X : Type 0} (P : X → Type 0) (Q : List Token → Type 0) → (Lacks m ts → Q ts) → (e : Halt) → Takes m ts (Err e) → Gives {X = X} (Err e) P Q
missed m ts P Q s halt.Memory h = absurd h
missed m ts P Q s (halt.At rest) h = subst Q (sym h.0) (s h.1)

pub sign_halts : {X K : Type 0} (m : TokenKind) (ts rest : List Token) (due : K → State) (got : X → K → State) → (Lacks m rest → (k : K) → reads ts (due k) ≡ Err (kinds rest))
    → (r : Result (X × Bor (List Token)) Halt) (e : Halt) → IsErrAnd r (λ x. x ≡ e) → Takes m rest (Err e) → Reads {X = X} {K = K} ts due got r
sign_halts m ts rest due got s (Ok x) e i h = absurd i
sign_halts {X} {K} m ts rest due got s (Err f) e i h =
    let R : Halt → Type 0 = λ z. Reads {X = X} {K = K} ts due got (Err z) in
    subst R (sym i) (missed m rest {X = X × Bor (List Token)} (λ x. (k : K) → reads ts (due k) ≡ reads x.1.now (got x.0 k)) (λ more. (k : K) → reads ts (due k) ≡ Err (kinds more)) s e h)

-- a name is missing
missed_name : (ts : List Token) {X : Type 0} (P : X → Type 0) (Q : List Token → Type 0) → (LacksName ts → Q ts) → (e : Halt) → TakesName ts (Err e) → Gives {X = X} (Err e) P Q
missed_name ts P Q s halt.Memory h = absurd h
missed_name ts P Q s (halt.At rest) h = subst Q (sym h.0) (s h.1)

pub name_halts : {X K : Type 0} (ts rest : List Token) (due : K → State) (got : X → K → State) → (LacksName rest → (k : K) → reads ts (due k) ≡ Err (kinds rest))
    → (r : Result (X × Bor (List Token)) Halt) (e : Halt) → IsErrAnd r (λ x. x ≡ e) → TakesName rest (Err e) → Reads {X = X} {K = K} ts due got r
name_halts ts rest due got s (Ok x) e i h = absurd i
name_halts {X} {K} ts rest due got s (Err f) e i h =
    let R : Halt → Type 0 = λ z. Reads {X = X} {K = K} ts due got (Err z) in
    subst R (sym i) (missed_name rest {X = X × Bor (List Token)} (λ x. (k : K) → reads ts (due k) ≡ reads x.1.now (got x.0 k)) (λ more. (k : K) → reads ts (due k) ≡ Err (kinds more)) s e h)

-- ---- where no token but some is taken

pub box_missing : (ts : List Token) (k : Operand) → Lacks kind.OpenBox ts → reads ts (message k) ≡ Err (kinds ts)
box_missing ts k l = stops ts (message k) refl (λ t more e p. only_box _ t.kind (lacks_first kind.OpenBox ts l t more e))

pub size_missing : (ts : List Token) (k : Operand) → Lacks kind.Open ts → reads ts (sized k) ≡ Err (kinds ts)
size_missing ts k l = stops ts (sized k) refl (λ t more e p. only_open _ t.kind (lacks_first kind.Open ts l t more e))

size_only : (k : Operand) (m : TokenKind) → IsOther kind.Msg m → ((n : List ℕ) → m ≡ kind.Name n → ⊥) → (p : ℕ) → step (size_opened k) m p ≡ None
size_only k (kind.Name n) h g p = absurd (g n refl)
size_only k kind.Msg h g p = absurd (h refl)
size_only k m h g p = refl

pub size_unnamed : (ts : List Token) (k : Operand) → Lacks kind.Msg ts → LacksName ts → reads ts (size_opened k) ≡ Err (kinds ts)
size_unnamed ts k l n = stops ts (size_opened k) refl (λ t more e. size_only k t.kind (lacks_first kind.Msg ts l t more e) (lacks_name ts n t more e))

pub size_open : (ts : List Token) (e : Tree) (k : Operand) → Lacks kind.Close ts → reads ts (size_named e k) ≡ Err (kinds ts)
size_open ts e k l = stops ts (size_named e k) refl (λ t more h p. only_close _ t.kind (lacks_first kind.Close ts l t more h))

-- behind a whole expression
over_stops : (k : TokenKind) (ts : List Token) (e : Tree) (w : Whole) → Lacks kind.Or ts → Lacks k ts → ((m : TokenKind) → IsOther kind.Or m → IsOther k m → (p : ℕ) → step (have e w) m p ≡ None) → reads ts (have e w) ≡ Err (kinds ts)
over_stops k ts e w o l s = stops ts (have e w) refl (λ t more h p. s t.kind (lacks_first kind.Or ts o t more h) (lacks_first k ts l t more h) p)

paren_only : (e : Tree) (k : Operand) (m : TokenKind) → IsOther kind.Or m → IsOther kind.Close m → (p : ℕ) → step (have e (in_paren k)) m p ≡ None
paren_only e k kind.Or o l p = absurd (o refl)
paren_only e k kind.Close o l p = absurd (l refl)
paren_only e k m o l p = refl

item_only : (e : Tree) (w : Word) (k : Operand) (m : TokenKind) → IsOther kind.Or m → IsOther kind.CloseBox m → (p : ℕ) → step (have e (in_item w k)) m p ≡ None
item_only e w k kind.Or o l p = absurd (o refl)
item_only e w k kind.CloseBox o l p = absurd (l refl)
item_only e w k m o l p = refl

message_only : (e : Tree) (k : Operand) (m : TokenKind) → IsOther kind.Or m → IsOther kind.CloseBox m → (p : ℕ) → step (have e (in_message k)) m p ≡ None
message_only e k kind.Or o l p = absurd (o refl)
message_only e k kind.CloseBox o l p = absurd (l refl)
message_only e k m o l p = refl

pub paren_open : (ts : List Token) (e : Tree) (k : Operand) → Lacks kind.Or ts → Lacks kind.Close ts → reads ts (have e (in_paren k)) ≡ Err (kinds ts)
paren_open ts e k o l = over_stops kind.Close ts e (in_paren k) o l (paren_only e k)

pub item_open : (ts : List Token) (e : Tree) (w : Word) (k : Operand) → Lacks kind.Or ts → Lacks kind.CloseBox ts → reads ts (have e (in_item w k)) ≡ Err (kinds ts)
item_open ts e w k o l = over_stops kind.CloseBox ts e (in_item w k) o l (item_only e w k)

pub message_open : (ts : List Token) (e : Tree) (k : Operand) → Lacks kind.Or ts → Lacks kind.CloseBox ts → reads ts (have e (in_message k)) ≡ Err (kinds ts)
message_open ts e k o l = over_stops kind.CloseBox ts e (in_message k) o l (message_only e k)

arguments_only : (c : Caller) (es : Trees) (e : Tree) (m : TokenKind) → IsOther kind.Or m → IsOther kind.Comma m → IsOther kind.Close m → (p : ℕ) → step (have e (called_with c es)) m p ≡ None
arguments_only c es e kind.Or o n l p = absurd (o refl)
arguments_only c es e kind.Comma o n l p = absurd (n refl)
arguments_only c es e kind.Close o n l p = absurd (l refl)
arguments_only (of_operand w k) es e m o n l p = refl
arguments_only (of_stmt w a f) es e m o n l p = refl
arguments_only (of_do w a f) es e m o n l p = refl

pub arguments_open : (ts : List Token) (c : Caller) (es : Trees) (e : Tree) → Lacks kind.Or ts → Lacks kind.Comma ts → Lacks kind.Close ts → reads ts (have e (called_with c es)) ≡ Err (kinds ts)
arguments_open ts c es e o n l =
    stops ts (have e (called_with c es)) refl
    (λ t more h p. arguments_only c es e t.kind (lacks_first kind.Or ts o t more h) (lacks_first kind.Comma ts n t more h) (lacks_first kind.Close ts l t more h) p)
