-- After `x =`: a buffer's name and `[]`, whose last value is taken, or an expression, which may begin alike.
use Rattle.std.proofs.Common.{◌≡◌, ℕ, List, Some, None, Result, Ok, Err, Bor, refl, sym, ◌∙◌, ap}
use Rattle.std.specs.Result.{IsErrAnd, result_ok}
use Rattle.ts_trees.specs.declared.word.Word.{Word}
use Rattle.ts_trees.specs.declared.token.Token.{Token}
use Rattle.ts_trees.specs.declared.token.TokenKind.{TokenKind}
use Rattle.ts_trees.specs.declared.token.TokenKind.TheVariants as kind
use Rattle.ts_trees.specs.Tree.{Acts}
use Rattle.ts_trees.specs.declared.halt.Halt.{Halt}
use Rattle.ts_trees.specs.declared.halt.Halt.TheVariants as halt
use Rattle.ts_trees.specs.Machine.{Frame, in_item, in_set, named, set_to, set_named, set_boxed, set_taken, word, due, inverse_due, expr_due, step}
use Rattle.ts_trees.specs.Parsing.{reads, Starts, Lacks, StartsName, LacksName, TakesName, Ended}
use Rattle.ts_statements.specs.Simple.{FindsTaken}
use Rattle.ts_trees.proofs.Reading.{sign_read, name_read, agree}
use Rattle.ts_trees.proofs.Missing.{IsOther, lacks_first, lacks_name}

-- the name
set_names : {v : Word} {ts us : List Token} → StartsName v ts us → (w : Word) (a : Acts) (f : Frame) → reads ts (set_to w a f) ≡ reads us (set_named w v a f)
set_names {v} {ts} {us} s w a f =
    ap (λ xs. reads xs (set_to w a f)) s.are
    ∙ name_read s.token us v.name (set_to w a f) (set_named w v a f) s.name (ap (λ p. Some (set_named w (word v.name p) a f)) (sym s.place))

expr_names : {v : Word} {ts us : List Token} → StartsName v ts us → (w : Word) (a : Acts) (f : Frame) → reads ts (expr_due (in_set w a f)) ≡ reads us (named v (inverse_due (due (in_set w a f))))
expr_names {v} {ts} {us} s w a f =
    ap (λ xs. reads xs (expr_due (in_set w a f))) s.are
    ∙ name_read s.token us v.name (expr_due (in_set w a f)) (named v (inverse_due (due (in_set w a f)))) s.name
    (ap (λ p. Some (named (word v.name p) (inverse_due (due (in_set w a f))))) (sym s.place))

-- and `[` behind it
set_boxes : {v : Word} {ts us vs : List Token} → StartsName v ts us → Starts kind.OpenBox us vs → (w : Word) (a : Acts) (f : Frame) → reads ts (set_to w a f) ≡ reads vs (set_boxed w v a f)
set_boxes s b w a f = set_names s w a f ∙ sign_read kind.OpenBox b tt _ _ (λ p. refl)

expr_boxes : {v : Word} {ts us vs : List Token} → StartsName v ts us → Starts kind.OpenBox us vs → (w : Word) (a : Acts) (f : Frame)
    → reads ts (expr_due (in_set w a f)) ≡ reads vs (expr_due (in_item v (inverse_due (due (in_set w a f)))))
expr_boxes s b w a f = expr_names s w a f ∙ sign_read kind.OpenBox b tt _ _ (λ p. refl)

taken : {v : Word} {ts us vs xs : List Token} → StartsName v ts us → Starts kind.OpenBox us vs → Starts kind.CloseBox vs xs → (w : Word) (a : Acts) (f : Frame) → reads ts (set_to w a f) ≡ reads xs (set_taken w v a f)
taken s b c w a f = set_boxes s b w a f ∙ sign_read kind.CloseBox c tt _ _ (λ p. refl)

-- where one of the three is missing, all is read as an expression is
other_first : (w : Word) (a : Acts) (f : Frame) (m : TokenKind) → ((n : List ℕ) → m ≡ kind.Name n → ⊥) → (p : ℕ) → step (set_to w a f) m p ≡ step (expr_due (in_set w a f)) m p
other_first w a f (kind.Name n) h p = absurd (h n refl)
other_first w a f m h p = refl

untaken_first : (ts : List Token) → LacksName ts → (w : Word) (a : Acts) (f : Frame) → reads ts (set_to w a f) ≡ reads ts (expr_due (in_set w a f))
untaken_first ts l w a f = agree ts _ _ refl refl (λ t rest e. other_first w a f t.kind (lacks_name ts l t rest e))

other_second : (v w : Word) (a : Acts) (f : Frame) (m : TokenKind) → IsOther kind.OpenBox m → (p : ℕ) → step (set_named w v a f) m p ≡ step (named v (inverse_due (due (in_set w a f)))) m p
other_second v w a f kind.OpenBox h p = absurd (h refl)
other_second v w a f m h p = refl

untaken_second : {v : Word} {ts us : List Token} → StartsName v ts us → Lacks kind.OpenBox us → (w : Word) (a : Acts) (f : Frame) → reads ts (set_to w a f) ≡ reads ts (expr_due (in_set w a f))
untaken_second {v} {ts} {us} s l w a f =
    set_names s w a f ∙ agree us _ _ refl refl (λ t rest e. other_second v w a f t.kind (lacks_first kind.OpenBox us l t rest e)) ∙ sym (expr_names s w a f)

other_third : (v w : Word) (a : Acts) (f : Frame) (m : TokenKind) → IsOther kind.CloseBox m → (p : ℕ) → step (set_boxed w v a f) m p ≡ step (expr_due (in_item v (inverse_due (due (in_set w a f))))) m p
other_third v w a f kind.CloseBox h p = absurd (h refl)
other_third v w a f m h p = refl

untaken_third : {v : Word} {ts us vs : List Token} → StartsName v ts us → Starts kind.OpenBox us vs → Lacks kind.CloseBox vs → (w : Word) (a : Acts) (f : Frame) → reads ts (set_to w a f) ≡ reads ts (expr_due (in_set w a f))
untaken_third {v} {ts} {us} {vs} s b l w a f =
    set_boxes s b w a f ∙ agree vs _ _ refl refl (λ t rest e. other_third v w a f t.kind (lacks_first kind.CloseBox vs l t rest e)) ∙ sym (expr_boxes s b w a f)

-- the three, as they are looked for
untaken : (ts : List Token) → FindsTaken ts None → (r : Result (Word × Bor (List Token)) Halt) (e : Halt) → IsErrAnd r (λ x. x ≡ e) → FindsTaken ts (result_ok r)
untaken ts n (Ok x) e i = absurd i
untaken ts n (Err f) e i = n

takes_third : {v : Word} {ts us : List Token} → StartsName v ts us → (x : Word × Bor (List Token)) → x.0 ≡ v → Starts kind.OpenBox us x.1.now →
    (r : Result (Word × Bor (List Token)) Halt) → Ended kind.CloseBox (Ok x) r → FindsTaken ts (result_ok r)
takes_third s x e b (Ok y) i = λ w a f. taken s b i.1 w a f ∙ ap (λ z. reads y.1.now (set_taken w z a f)) (sym (i.0 ∙ e))
takes_third s x e b (Err halt.Memory) i = absurd i
takes_third s x e b (Err (halt.At rest)) i = untaken_third s b i.1

takes_second : (ts : List Token) (x : Word × Bor (List Token)) → StartsName x.0 ts x.1.now → (boxed r : Result (Word × Bor (List Token)) Halt) →
    Ended kind.OpenBox (Ok x) boxed → Ended kind.CloseBox boxed r → FindsTaken ts (result_ok r)
takes_second ts x s (Ok y) r i j = takes_third s y i.0 i.1 r j
takes_second ts x s (Err halt.Memory) r i j = absurd i
takes_second ts x s (Err (halt.At rest)) r i j = untaken ts (untaken_second s i.1) r (halt.At rest) j

pub takes_all : (ts : List Token) (named boxed r : Result (Word × Bor (List Token)) Halt) → TakesName ts named → Ended kind.OpenBox named boxed → Ended kind.CloseBox boxed r → FindsTaken ts (result_ok r)
takes_all ts (Ok x) boxed r h i j = takes_second ts x h boxed r i j
takes_all ts (Err halt.Memory) boxed r h i j = absurd h
takes_all ts (Err (halt.At rest)) (Ok y) r h i j = absurd i
takes_all ts (Err (halt.At rest)) (Err f) r h i j = untaken ts (untaken_first ts h.1) r f j
