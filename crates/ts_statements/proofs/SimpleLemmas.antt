-- Reading a statement that holds no block, and the head of a `for`: which token is taken in each state, and when none fits.
use Rattle.std.proofs.Common.{◌≡◌, ℕ, List, Some, None, Err, refl, sym, ◌∙◌, ap}
use Rattle.ts_trees.specs.declared.word.Word.{Word}
use Rattle.ts_trees.specs.declared.token.Token.{Token}
use Rattle.ts_trees.specs.declared.token.TokenKind.{TokenKind}
use Rattle.ts_trees.specs.declared.token.TokenKind.TheVariants as kind
use Rattle.ts_trees.specs.Spelling.{kinds}
use Rattle.ts_trees.specs.Tree.{Tree, Act, Acts, set, take_last, clear}
use Rattle.ts_trees.specs.Machine.{Frame, in_set, in_index, in_from, in_to, State, have, block, stmt_named, set_to, set_taken, boxed, append_to, item_indexed, call_opened, cleared, clear_opened, clear_named, closed, for_word, for_named, word, with_act, expr_due, step, finish, do_word, do_named, do_opened}
use Rattle.ts_trees.specs.Parsing.{reads, Starts, Lacks, StartsName, LacksName}
use Rattle.ts_statements.specs.Simple.{Target, of_append, of_item, value_due, value_in, value_set}
use Rattle.ts_trees.proofs.Missing.{IsOther, lacks_first, lacks_name, only_close, only_eq, only_name, only_open, only_semi}
use Rattle.ts_trees.proofs.Reading.{sign_read, name_read, stops, agree}

-- ---- one token that a state takes, and others

-- nothing else is taken
pub sign_stops : (k : TokenKind) {ts rest : List Token} → (rest ≡ ts) × Lacks k ts → (q : State) → finish q ≡ None → ((m : TokenKind) (p : ℕ) → IsOther k m → step q m p ≡ None) → reads ts q ≡ Err (kinds rest)
sign_stops k {ts} {rest} l q f s =
    stops ts q f (λ t more e p. s t.kind p (lacks_first k ts l.1 t more e)) ∙ ap (λ z. Err (kinds z)) (sym l.0)

name_stops : {ts rest : List Token} → (rest ≡ ts) × LacksName ts → (q : State) → finish q ≡ None → ((m : TokenKind) → ((n : List ℕ) → m ≡ kind.Name n → ⊥) → (p : ℕ) → step q m p ≡ None) → reads ts q ≡ Err (kinds rest)
name_stops {ts} {rest} l q f s = stops ts q f (λ t more e p. s t.kind (lacks_name ts l.1 t more e) p) ∙ ap (λ z. Err (kinds z)) (sym l.0)

-- ---- behind a whole expression

-- another token than `or` and than the one that ends the expression here
index_only : (e : Tree) (w : Word) (a : Acts) (f : Frame) (m : TokenKind) (p : ℕ) → IsOther kind.Or m → IsOther kind.CloseBox m → step (have e (in_index w a f)) m p ≡ None
index_only e w a f kind.Or p h g = absurd (h refl)
index_only e w a f kind.CloseBox p h g = absurd (g refl)
index_only e w a f m p h g = refl

-- the machine stops behind an expression
expr_stops : (k : TokenKind) {ts rest : List Token} → Lacks kind.Or ts → (rest ≡ ts) × Lacks k ts → (q : State) → finish q ≡ None → ((m : TokenKind) (p : ℕ) → IsOther kind.Or m → IsOther k m → step q m p ≡ None) → reads ts q ≡ Err (kinds rest)
expr_stops k {ts} {rest} o l q f s =
    stops ts q f (λ t more e p. s t.kind p (lacks_first kind.Or ts o t more e) (lacks_first k ts l.1 t more e)) ∙ ap (λ z. Err (kinds z)) (sym l.0)

-- ---- statements that hold no block

pub call_read : {ts rest : List Token} → Starts kind.Open ts rest → (w : Word) (a : Acts) (f : Frame) → reads ts (stmt_named w a f) ≡ reads rest (call_opened w a f)
call_read s w a f = sign_read kind.Open s tt _ _ (λ p. refl)

only_call : (w : Word) (a : Acts) (f : Frame) (m : TokenKind) (p : ℕ) → IsOther kind.Eq m → IsOther kind.OpenBox m → IsOther kind.Open m → step (stmt_named w a f) m p ≡ None
only_call w a f kind.Eq p h b o = absurd (h refl)
only_call w a f kind.OpenBox p h b o = absurd (b refl)
only_call w a f kind.Open p h b o = absurd (o refl)
only_call w a f m p h b o = refl

pub closed_read : {ts rest : List Token} → Starts kind.Semi ts rest → (s : Act) (a : Acts) (f : Frame) → reads ts (closed s a f) ≡ reads rest (block (with_act a s) f)
closed_read h s a f = sign_read kind.Semi h tt _ _ (λ p. refl)

pub closed_stops : {ts rest : List Token} → (rest ≡ ts) × Lacks kind.Semi ts → (s : Act) (a : Acts) (f : Frame) → reads ts (closed s a f) ≡ Err (kinds rest)
closed_stops h s a f = sign_stops kind.Semi h _ refl (λ m p o. only_semi _ m o)

pub call_open : {ts rest : List Token} → (rest ≡ ts) × Lacks kind.Open ts → Lacks kind.Eq ts → Lacks kind.OpenBox ts → (w : Word) (a : Acts) (f : Frame) → reads ts (stmt_named w a f) ≡ Err (kinds rest)
call_open {ts} {rest} l n b w a f =
    stops ts (stmt_named w a f) refl (λ t more e p. only_call w a f t.kind p (lacks_first kind.Eq ts n t more e) (lacks_first kind.OpenBox ts b t more e) (lacks_first kind.Open ts l.1 t more e))
    ∙ ap (λ z. Err (kinds z)) (sym l.0)

pub set_begins : {ts rest : List Token} → Starts kind.Eq ts rest → (w : Word) (a : Acts) (f : Frame) → reads ts (stmt_named w a f) ≡ reads rest (set_to w a f)
set_begins s w a f = sign_read kind.Eq s tt _ _ (λ p. refl)

pub item_begins : {ts rest : List Token} → Starts kind.OpenBox ts rest → (w : Word) (a : Acts) (f : Frame) → reads ts (stmt_named w a f) ≡ reads rest (boxed w a f)
item_begins s w a f = sign_read kind.OpenBox s tt _ _ (λ p. refl)

-- behind `x =`
pub taken_ends : {ts rest : List Token} → Starts kind.Semi ts rest → (w v : Word) (a : Acts) (f : Frame) → reads ts (set_taken w v a f) ≡ reads rest (block (with_act a (take_last w v)) f)
taken_ends s w v a f = sign_read kind.Semi s tt _ _ (λ p. refl)

pub taken_open : {ts rest : List Token} → (rest ≡ ts) × Lacks kind.Semi ts → (w v : Word) (a : Acts) (f : Frame) → reads ts (set_taken w v a f) ≡ Err (kinds rest)
taken_open l w v a f = sign_stops kind.Semi l _ refl (λ m p o. only_semi _ m o)

pub set_ends : {ts rest : List Token} → Starts kind.Semi ts rest → (e : Tree) (w : Word) (a : Acts) (f : Frame) → reads ts (have e (in_set w a f)) ≡ reads rest (block (with_act a (set w e)) f)
set_ends s e w a f = sign_read kind.Semi s tt _ _ (λ p. refl)

set_only : (e : Tree) (w : Word) (a : Acts) (f : Frame) (m : TokenKind) (p : ℕ) → IsOther kind.Or m → IsOther kind.Semi m → step (have e (in_set w a f)) m p ≡ None
set_only e w a f kind.Or p h g = absurd (h refl)
set_only e w a f kind.Semi p h g = absurd (g refl)
set_only e w a f m p h g = refl

pub set_open : {ts rest : List Token} → Lacks kind.Or ts → (rest ≡ ts) × Lacks kind.Semi ts → (e : Tree) (w : Word) (a : Acts) (f : Frame) → reads ts (have e (in_set w a f)) ≡ Err (kinds rest)
set_open o l e w a f = expr_stops kind.Semi o l _ refl (set_only e w a f)

-- `= e;`
pub value_begins : {ts rest : List Token} → Starts kind.Eq ts rest → (k : Target) → reads ts (value_due k) ≡ reads rest (expr_due (value_in k))
value_begins s (of_append w a f) = sign_read kind.Eq s tt _ _ (λ p. refl)
value_begins s (of_item w i a f) = sign_read kind.Eq s tt _ _ (λ p. refl)

pub value_missing : {ts rest : List Token} → (rest ≡ ts) × Lacks kind.Eq ts → (k : Target) → reads ts (value_due k) ≡ Err (kinds rest)
value_missing l (of_append w a f) = sign_stops kind.Eq l _ refl (λ m p o. only_eq _ m o)
value_missing l (of_item w i a f) = sign_stops kind.Eq l _ refl (λ m p o. only_eq _ m o)

pub value_ends : {ts rest : List Token} → Starts kind.Semi ts rest → (e : Tree) (k : Target) → reads ts (have e (value_in k)) ≡ reads rest (value_set k e)
value_ends s e (of_append w a f) = sign_read kind.Semi s tt _ _ (λ p. refl)
value_ends s e (of_item w i a f) = sign_read kind.Semi s tt _ _ (λ p. refl)

value_only : (e : Tree) (k : Target) (m : TokenKind) (p : ℕ) → IsOther kind.Or m → IsOther kind.Semi m → step (have e (value_in k)) m p ≡ None
value_only e k kind.Or p h g = absurd (h refl)
value_only e k kind.Semi p h g = absurd (g refl)
value_only e (of_append w a f) m p h g = refl
value_only e (of_item w i a f) m p h g = refl

pub value_open : {ts rest : List Token} → Lacks kind.Or ts → (rest ≡ ts) × Lacks kind.Semi ts → (e : Tree) (k : Target) → reads ts (have e (value_in k)) ≡ Err (kinds rest)
value_open o l e k = expr_stops kind.Semi o l (have e (value_in k)) refl (value_only e k)

-- behind `p [`
pub append_read : {ts rest : List Token} → Starts kind.CloseBox ts rest → (w : Word) (a : Acts) (f : Frame) → reads ts (boxed w a f) ≡ reads rest (append_to w a f)
append_read s w a f = sign_read kind.CloseBox s tt _ _ (λ p. refl)

index_step : (w : Word) (a : Acts) (f : Frame) (m : TokenKind) → IsOther kind.CloseBox m → (p : ℕ) → step (boxed w a f) m p ≡ step (expr_due (in_index w a f)) m p
index_step w a f kind.CloseBox h p = absurd (h refl)
index_step w a f m h p = refl

pub index_due : (ts : List Token) → Lacks kind.CloseBox ts → (w : Word) (a : Acts) (f : Frame) → reads ts (boxed w a f) ≡ reads ts (expr_due (in_index w a f))
index_due ts l w a f = agree ts _ _ refl refl (λ t rest e p. index_step w a f t.kind (lacks_first kind.CloseBox ts l t rest e) p)

pub index_read : {ts rest : List Token} → Starts kind.CloseBox ts rest → (e : Tree) (w : Word) (a : Acts) (f : Frame) → reads ts (have e (in_index w a f)) ≡ reads rest (item_indexed w e a f)
index_read h e w a f = sign_read kind.CloseBox h tt _ _ (λ p. refl)

pub index_stops : {ts rest : List Token} → Lacks kind.Or ts → (rest ≡ ts) × Lacks kind.CloseBox ts → (e : Tree) (w : Word) (a : Acts) (f : Frame) → reads ts (have e (in_index w a f)) ≡ Err (kinds rest)
index_stops o l e w a f = expr_stops kind.CloseBox o l _ refl (index_only e w a f)

-- ---- the head of a `for`

pub var_read : {v : Word} {ts rest : List Token} → StartsName v ts rest → (a : Acts) (f : Frame) → reads ts (for_word a f) ≡ reads rest (for_named v a f)
var_read {v} {ts} {rest} s a f =
    ap (λ xs. reads xs (for_word a f)) s.are
    ∙ name_read s.token rest v.name (for_word a f) (for_named v a f) s.name (ap (λ p. Some (for_named (word v.name p) a f)) (sym s.place))

pub var_missing : {ts rest : List Token} → (rest ≡ ts) × LacksName ts → (a : Acts) (f : Frame) → reads ts (for_word a f) ≡ Err (kinds rest)
var_missing l a f = name_stops l (for_word a f) refl (only_name _)

pub from_missing : {ts rest : List Token} → (rest ≡ ts) × Lacks kind.Eq ts → (w : Word) (a : Acts) (f : Frame) → reads ts (for_named w a f) ≡ Err (kinds rest)
from_missing l w a f = sign_stops kind.Eq l _ refl (λ m p o. only_eq _ m o)

pub from_begins : {ts rest : List Token} → Starts kind.Eq ts rest → (w : Word) (a : Acts) (f : Frame) → reads ts (for_named w a f) ≡ reads rest (expr_due (in_from w a f))
from_begins s w a f = sign_read kind.Eq s tt _ _ (λ p. refl)

from_only : (e : Tree) (w : Word) (a : Acts) (f : Frame) (m : TokenKind) (p : ℕ) → IsOther kind.Or m → IsOther kind.To m → step (have e (in_from w a f)) m p ≡ None
from_only e w a f kind.Or p h g = absurd (h refl)
from_only e w a f kind.To p h g = absurd (g refl)
from_only e w a f m p h g = refl

pub from_open : {ts rest : List Token} → Lacks kind.Or ts → (rest ≡ ts) × Lacks kind.To ts → (e : Tree) (w : Word) (a : Acts) (f : Frame) → reads ts (have e (in_from w a f)) ≡ Err (kinds rest)
from_open o l e w a f = expr_stops kind.To o l _ refl (from_only e w a f)

pub to_read : {ts rest : List Token} → Starts kind.To ts rest → (e : Tree) (w : Word) (a : Acts) (f : Frame) → reads ts (have e (in_from w a f)) ≡ reads rest (expr_due (in_to w e a f))
to_read s e w a f = sign_read kind.To s tt _ _ (λ p. refl)

-- ---- a `do`

pub do_missing : {ts rest : List Token} → (rest ≡ ts) × LacksName ts → (a : Acts) (f : Frame) → reads ts (do_word a f) ≡ Err (kinds rest)
do_missing l a f = name_stops l (do_word a f) refl (only_name _)

pub do_names : {v : Word} {ts us : List Token} → StartsName v ts us → (a : Acts) (f : Frame) → reads ts (do_word a f) ≡ reads us (do_named v a f)
do_names {v} {ts} {us} s a f =
    ap (λ xs. reads xs (do_word a f)) s.are
    ∙ name_read s.token us v.name (do_word a f) (do_named v a f) s.name (ap (λ p. Some (do_named (word v.name p) a f)) (sym s.place))

pub do_unopened : {us rest : List Token} → (rest ≡ us) × Lacks kind.Open us → (v : Word) (a : Acts) (f : Frame) → reads us (do_named v a f) ≡ Err (kinds rest)
do_unopened l v a f = sign_stops kind.Open l _ refl (λ m p o. only_open _ m o)

pub do_opens : {us vs : List Token} → Starts kind.Open us vs → (v : Word) (a : Acts) (f : Frame) → reads us (do_named v a f) ≡ reads vs (do_opened v a f)
do_opens o v a f = sign_read kind.Open o tt _ _ (λ p. refl)

-- ---- a `clear`

pub clear_missing : {ts rest : List Token} → (rest ≡ ts) × Lacks kind.Open ts → (a : Acts) (f : Frame) → reads ts (cleared a f) ≡ Err (kinds rest)
clear_missing l a f = sign_stops kind.Open l _ refl (λ m p o. only_open _ m o)

pub clear_opens : {ts us : List Token} → Starts kind.Open ts us → (a : Acts) (f : Frame) → reads ts (cleared a f) ≡ reads us (clear_opened a f)
clear_opens o a f = sign_read kind.Open o tt _ _ (λ p. refl)

pub clear_unnamed : {us rest : List Token} → (rest ≡ us) × LacksName us → (a : Acts) (f : Frame) → reads us (clear_opened a f) ≡ Err (kinds rest)
clear_unnamed l a f = name_stops l (clear_opened a f) refl (only_name _)

pub clear_names : {v : Word} {us vs : List Token} → StartsName v us vs → (a : Acts) (f : Frame) → reads us (clear_opened a f) ≡ reads vs (clear_named v a f)
clear_names {v} {us} {vs} s a f =
    ap (λ xs. reads xs (clear_opened a f)) s.are
    ∙ name_read s.token vs v.name (clear_opened a f) (clear_named v a f) s.name (ap (λ p. Some (clear_named (word v.name p) a f)) (sym s.place))

pub clear_open : {ts rest : List Token} → (rest ≡ ts) × Lacks kind.Close ts → (w : Word) (a : Acts) (f : Frame) → reads ts (clear_named w a f) ≡ Err (kinds rest)
clear_open l w a f = sign_stops kind.Close l _ refl (λ m p o. only_close _ m o)

pub clear_closes : {ts rest : List Token} → Starts kind.Close ts rest → (w : Word) (a : Acts) (f : Frame) → reads ts (clear_named w a f) ≡ reads rest (closed (clear w) a f)
clear_closes s w a f = sign_read kind.Close s tt _ _ (λ p. refl)
