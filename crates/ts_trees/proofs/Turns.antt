-- When the machine goes from one level of an expression to a looser one, and where an expression begins.
use Rattle.std.proofs.Common.{◌≡◌, ℕ, Bool, true, false, List, [], ◌∷◌, Option, Some, None, refl, sym, ◌∙◌, ap}
use Rattle.ts_checked.specs.declared.bin_op.BinOp.{BinOp}
use Rattle.ts_checked.specs.declared.bin_op.BinOp.TheVariants as op
use Rattle.ts_trees.specs.declared.word.Word.{Word}
use Rattle.ts_trees.specs.declared.token.TokenKind.{TokenKind}
use Rattle.ts_trees.specs.declared.token.TokenKind.TheVariants as kind
use Rattle.ts_trees.specs.Tree.{Tree, variable, inverse, negative, two, no_trees, Acts}
use Rattle.ts_trees.specs.Parsing.{Holds}
use Rattle.ts_trees.specs.Machine.{Frame, Operand, in_negative, first_product, in_product, Product, first_sum, in_sum, Sum, first_compare, in_compare, Inverse, in_inverse, first_and, in_and, Conjunction, first_or, in_or, in_args, in_index, in_call, in_do, State, want, want_inverse, named, opened, have_product, have_sum, have_inverse, have_and, have, boxed, call_opened, do_opened, expr_due, inverse_due, give, product_sign, sum_sign, comparison_sign, lengthened, give_inverse, step_compare, give_sum, give_product, step_given, sum_due, step, wants_size, takes, places_after, first_place, finish, Outcome, ending, going, run}

-- there is no operator, and the test holds
abbrev pub unless : Option BinOp → Bool → Bool
unless (Some o) test = false
unless None test = test

unless_then : (o : Option BinOp) (test : Bool) → Holds (unless o test) → Holds test
unless_then (Some o) test h = absurd h
unless_then None test h = h

unless_none : (o : Option BinOp) (test : Bool) → Holds (unless o test) → o ≡ None
unless_none (Some o) test h = absurd h
unless_none None test h = refl

-- tokens that lengthen no operand, product, sum, inverse and conjunction
abbrev pub after_operand : TokenKind → Bool
after_operand kind.Open = false
after_operand kind.OpenBox = false
after_operand m = true

abbrev pub after_product : TokenKind → Bool
after_product m = unless (product_sign m) (after_operand m)

abbrev pub after_sum : TokenKind → Bool
after_sum m = unless (sum_sign m) (after_product m)

abbrev pub after_inverse : TokenKind → Bool
after_inverse m = unless (comparison_sign m) (after_sum m)

abbrev pub after_and : TokenKind → Bool
after_and kind.And = false
after_and m = after_inverse m

-- what follows a looser part follows a tighter one
pub inverse_follows_and : (m : TokenKind) → Holds (after_and m) → Holds (after_inverse m)
inverse_follows_and kind.And h = tt
inverse_follows_and m h = h

pub sum_follows_inverse : (m : TokenKind) → Holds (after_inverse m) → Holds (after_sum m)
sum_follows_inverse m h = unless_then (comparison_sign m) (after_sum m) h

pub product_follows_sum : (m : TokenKind) → Holds (after_sum m) → Holds (after_product m)
product_follows_sum m h = unless_then (sum_sign m) (after_product m) h

pub operand_follows_product : (m : TokenKind) → Holds (after_product m) → Holds (after_operand m)
operand_follows_product m h = unless_then (product_sign m) (after_operand m) h

-- two states that take the next token alike read the rest alike
takes_alike : (q r : State) → wants_size q ≡ wants_size r → (m : TokenKind) → takes q m ≡ takes r m
takes_alike q r e (kind.Num n) = e
takes_alike q r e (kind.Name n) = refl
takes_alike q r e m = refl

going_alike : {a b : Option State} {f g : State → Outcome} (ks : List TokenKind) → a ≡ b → ((q : State) → f q ≡ g q) → going a f ks ≡ going b g ks
going_alike {a} {f} {g} ks e h = by a h ∙ ap (λ x. going x g ks) e
  where
    by : (x : Option State) → ((q : State) → f q ≡ g q) → going x f ks ≡ going x g ks
    by (Some q) h = h q
    by None h = refl

pub turn_alike : (q r : State) (m : TokenKind) → ((p : ℕ) → step q m p ≡ step r m p) → wants_size q ≡ wants_size r → (ms : List TokenKind) (ps : List ℕ) → run (m ∷ ms) ps q ≡ run (m ∷ ms) ps r
turn_alike q r m e w ms ps = going_alike (m ∷ ms) (e (first_place ps)) (λ s. ap (λ b. run ms (places_after b ps) s) (takes_alike q r w m))

pub alike : (q r : State) → ((m : TokenKind) (p : ℕ) → step q m p ≡ step r m p) → wants_size q ≡ wants_size r → finish q ≡ finish r → (ms : List TokenKind) (ps : List ℕ) → run ms ps q ≡ run ms ps r
alike q r e w f [] ps = ap (λ x. ending x ps) f
alike q r e w f (m ∷ ms) ps = turn_alike q r m (e m) w ms ps

-- behind an operand that was read
pub given_step : (k : Operand) (e : Tree) (m : TokenKind) (p : ℕ) → step (give k e) m p ≡ step_given k e m p
given_step (in_negative k) e m p = given_step k (negative e) m p
given_step (first_product k) e m p = refl
given_step (in_product o l k) e m p = refl

pub given_size : (k : Operand) (e : Tree) → wants_size (give k e) ≡ false
given_size (in_negative k) e = given_size k (negative e)
given_size (first_product k) e = refl
given_size (in_product o l k) e = refl

named_step : (w : Word) (k : Operand) (m : TokenKind) → Holds (after_operand m) → (p : ℕ) → step (named w k) m p ≡ step_given k (variable w) m p
named_step w k kind.Open h p = absurd h
named_step w k kind.OpenBox h p = absurd h
named_step w k m h p = refl

pub named_is_given : (w : Word) (k : Operand) (m : TokenKind) → Holds (after_operand m) → (ms : List TokenKind) (ps : List ℕ) → run (m ∷ ms) ps (named w k) ≡ run (m ∷ ms) ps (give k (variable w))
named_is_given w k m h ms ps = turn_alike (named w k) (give k (variable w)) m (λ p. named_step w k m h p ∙ sym (given_step k (variable w) m p)) (sym (given_size k (variable w))) ms ps

-- a whole product is a sum so far
abbrev pub summed : Tree → Product → State
summed e (first_sum k) = have_sum e k
summed e (in_sum o l k) = have_sum (two o l e) k

pub summed_step : (e : Tree) (k : Product) (m : TokenKind) → product_sign m ≡ None → (p : ℕ) → step (have_product e k) m p ≡ step (summed e k) m p
summed_step e k m none p = ap (λ (s : Option BinOp). lengthened s (λ o. want (in_product o e k)) (give_product e k m p)) none ∙ given k
  where
    given : (k : Product) → give_product e k m p ≡ step (summed e k) m p
    given (first_sum k) = refl
    given (in_sum o l k) = refl

pub summed_size : (e : Tree) (k : Product) → false ≡ wants_size (summed e k)
summed_size e (first_sum k) = refl
summed_size e (in_sum o l k) = refl

pub product_is_sum : (e : Tree) (k : Product) (m : TokenKind) → Holds (after_product m) → (ms : List TokenKind) (ps : List ℕ) → run (m ∷ ms) ps (have_product e k) ≡ run (m ∷ ms) ps (summed e k)
product_is_sum e k m h ms ps = turn_alike (have_product e k) (summed e k) m (summed_step e k m (unless_none (product_sign m) (after_operand m) h)) (summed_size e k) ms ps

-- a whole sum is a comparison
abbrev pub compared : Tree → Sum → State
compared e (first_compare k) = have_inverse e k
compared e (in_compare o l k) = have_inverse (two o l e) k

-- a sum that no sign lengthens
pub sum_step : (e : Tree) (k : Sum) (m : TokenKind) → sum_sign m ≡ None → (p : ℕ) → step (have_sum e k) m p ≡ give_sum e k m p
sum_step e k m none p = ap (λ (s : Option BinOp). lengthened s (λ o. want (first_product (in_sum o e k))) (give_sum e k m p)) none

pub compare_step : (e : Tree) (k : Inverse) (m : TokenKind) → comparison_sign m ≡ None → (p : ℕ) → step_compare e k m p ≡ give_inverse e k m p
compare_step e k m none p = ap (λ (s : Option BinOp). lengthened s (λ o. want (sum_due (in_compare o e k))) (give_inverse e k m p)) none

compared_step : (e : Tree) (k : Sum) (m : TokenKind) → Holds (after_inverse m) → (p : ℕ) → step (have_sum e k) m p ≡ step (compared e k) m p
compared_step e k m h p = sum_step e k m (unless_none (sum_sign m) (after_product m) (sum_follows_inverse m h)) p ∙ given k
  where
    given : (k : Sum) → give_sum e k m p ≡ step (compared e k) m p
    given (first_compare k) = compare_step e k m (unless_none (comparison_sign m) (after_sum m) h) p
    given (in_compare o l k) = refl

pub compared_size : (e : Tree) (k : Sum) → false ≡ wants_size (compared e k)
compared_size e (first_compare k) = refl
compared_size e (in_compare o l k) = refl

pub sum_is_compared : (e : Tree) (k : Sum) (m : TokenKind) → Holds (after_inverse m) → (ms : List TokenKind) (ps : List ℕ) → run (m ∷ ms) ps (have_sum e k) ≡ run (m ∷ ms) ps (compared e k)
sum_is_compared e k m h ms ps = turn_alike (have_sum e k) (compared e k) m (compared_step e k m h) (compared_size e k) ms ps

-- an inverse that was read, at its place
pub inverse_is_read : (e : Tree) (k : Inverse) (ms : List TokenKind) (ps : List ℕ) → run ms ps (have_inverse e (in_inverse k)) ≡ run ms ps (have_inverse (inverse e) k)
inverse_is_read e k ms ps = alike _ _ (λ m p. refl) refl refl ms ps

pub inverse_is_first : (e : Tree) (k : Conjunction) (ms : List TokenKind) (ps : List ℕ) → run ms ps (have_inverse e (first_and k)) ≡ run ms ps (have_and e k)
inverse_is_first e k ms ps = alike _ _ (λ m p. refl) refl refl ms ps

pub inverse_is_next : (l e : Tree) (k : Conjunction) (ms : List TokenKind) (ps : List ℕ) → run ms ps (have_inverse e (in_and l k)) ≡ run ms ps (have_and (two op.And l e) k)
inverse_is_next l e k ms ps = alike _ _ (λ m p. refl) refl refl ms ps

-- a whole conjunction is an expression so far
abbrev pub joined : Tree → Conjunction → State
joined e (first_or k) = have e k
joined e (in_or l k) = have (two op.Or l e) k

joined_step : (e : Tree) (k : Conjunction) (m : TokenKind) → Holds (after_and m) → (p : ℕ) → step (have_and e k) m p ≡ step (joined e k) m p
joined_step e k kind.And h p = absurd h
joined_step e (first_or k) m h p = refl
joined_step e (in_or l k) m h p = refl

pub joined_size : (e : Tree) (k : Conjunction) → false ≡ wants_size (joined e k)
joined_size e (first_or k) = refl
joined_size e (in_or l k) = refl

pub and_is_joined : (e : Tree) (k : Conjunction) (m : TokenKind) → Holds (after_and m) → (ms : List TokenKind) (ps : List ℕ) → run (m ∷ ms) ps (have_and e k) ≡ run (m ∷ ms) ps (joined e k)
and_is_joined e k m h ms ps = turn_alike (have_and e k) (joined e k) m (joined_step e k m h) (joined_size e k) ms ps

-- tokens that begin an expression, and those that begin an operand
abbrev pub begins_operand : TokenKind → Bool
begins_operand kind.Minus = true
begins_operand (kind.Num n) = true
begins_operand (kind.Name n) = true
begins_operand kind.Size = true
begins_operand kind.Msg = true
begins_operand kind.Open = true
begins_operand m = false

abbrev pub begins_expr : TokenKind → Bool
begins_expr kind.Not = true
begins_expr m = begins_operand m

want_step : (k : Inverse) (m : TokenKind) → Holds (begins_operand m) → (p : ℕ) → step (want_inverse k) m p ≡ step (want (inverse_due k)) m p
want_step k kind.Not h p = absurd h
want_step k m h p = refl

-- an inverse that begins with an operand
pub inverse_is_operand : (k : Inverse) (m : TokenKind) → Holds (begins_operand m) → (ms : List TokenKind) (ps : List ℕ) → run (m ∷ ms) ps (want_inverse k) ≡ run (m ∷ ms) ps (want (inverse_due k))
inverse_is_operand k m h ms ps = turn_alike (want_inverse k) (want (inverse_due k)) m (want_step k m h) refl ms ps

opened_step : (w : Word) (k : Operand) (m : TokenKind) → Holds (begins_expr m) → (p : ℕ) → step (opened w k) m p ≡ step (expr_due (in_args w no_trees k)) m p
opened_step w k kind.Close h p = absurd h
opened_step w k m h p = refl

-- the first argument of a call
pub opened_is_due : (w : Word) (k : Operand) (m : TokenKind) → Holds (begins_expr m) → (ms : List TokenKind) (ps : List ℕ) → run (m ∷ ms) ps (opened w k) ≡ run (m ∷ ms) ps (expr_due (in_args w no_trees k))
opened_is_due w k m h ms ps = turn_alike (opened w k) (expr_due (in_args w no_trees k)) m (opened_step w k m h) refl ms ps

call_step : (w : Word) (a : Acts) (f : Frame) (m : TokenKind) → Holds (begins_expr m) → (p : ℕ) → step (call_opened w a f) m p ≡ step (expr_due (in_call w no_trees a f)) m p
call_step w a f kind.Close h p = absurd h
call_step w a f m h p = refl

pub call_is_due : (w : Word) (a : Acts) (f : Frame) (m : TokenKind) → Holds (begins_expr m) → (ms : List TokenKind) (ps : List ℕ) → run (m ∷ ms) ps (call_opened w a f) ≡ run (m ∷ ms) ps (expr_due (in_call w no_trees a f))
call_is_due w a f m h ms ps = turn_alike (call_opened w a f) (expr_due (in_call w no_trees a f)) m (call_step w a f m h) refl ms ps

do_step : (w : Word) (a : Acts) (f : Frame) (m : TokenKind) → Holds (begins_expr m) → (p : ℕ) → step (do_opened w a f) m p ≡ step (expr_due (in_do w no_trees a f)) m p
do_step w a f kind.Close h p = absurd h
do_step w a f m h p = refl

pub do_is_due : (w : Word) (a : Acts) (f : Frame) (m : TokenKind) → Holds (begins_expr m) → (ms : List TokenKind) (ps : List ℕ) → run (m ∷ ms) ps (do_opened w a f) ≡ run (m ∷ ms) ps (expr_due (in_do w no_trees a f))
do_is_due w a f m h ms ps = turn_alike (do_opened w a f) (expr_due (in_do w no_trees a f)) m (do_step w a f m h) refl ms ps

boxed_step : (w : Word) (a : Acts) (f : Frame) (m : TokenKind) → Holds (begins_expr m) → (p : ℕ) → step (boxed w a f) m p ≡ step (expr_due (in_index w a f)) m p
boxed_step w a f kind.CloseBox h p = absurd h
boxed_step w a f m h p = refl

-- the index of a setting
pub boxed_is_due : (w : Word) (a : Acts) (f : Frame) (m : TokenKind) → Holds (begins_expr m) → (ms : List TokenKind) (ps : List ℕ) → run (m ∷ ms) ps (boxed w a f) ≡ run (m ∷ ms) ps (expr_due (in_index w a f))
boxed_is_due w a f m h ms ps = turn_alike (boxed w a f) (expr_due (in_index w a f)) m (boxed_step w a f m h) refl ms ps
