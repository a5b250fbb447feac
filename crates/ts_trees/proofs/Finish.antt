-- Each state can be finished: some tokens lead from it to a whole script.
use Rattle.std.proofs.Common.{◌≡◌, ℕ, true, false, List, [], ◌∷◌, ◌++◌, Some, None, Ok, refl, ◌∙◌}
use Rattle.ts_trees.specs.declared.word.Word.{Word}
use Rattle.ts_trees.specs.declared.token.TokenKind.{TokenKind}
use Rattle.ts_trees.specs.declared.token.TokenKind.TheVariants as kind
use Rattle.ts_trees.specs.Tree.{Tree, number, variable, item, message_item, message_size, call, negative, inverse, two, paren, no_trees, set, set_item, append, take_last, clear, call_alone, if_then, if_else, for_next, while_do, run_procedure, Acts, no_acts, ProcedureSource}
use Rattle.ts_trees.specs.Parsing.{Holds}
use Rattle.ts_checked.specs.declared.bin_op.BinOp.TheVariants as op
use Rattle.ts_trees.specs.Machine.{Frame, top, main, proc_part, then_part, else_part, for_part, while_part, Operand, in_negative, first_product, in_product, Product, first_sum, in_sum, Sum, first_compare, in_compare, Inverse, in_inverse, first_and, in_and, Conjunction, first_or, in_or, Whole, in_paren, in_item, in_message, in_args, in_set, in_index, in_set_item, in_append, in_call, in_if, in_from, in_to, in_while, in_do, State, decls, decl_name, decl_more, procedures, proc_word, proc_named, proc_opened, param_read, param_due, proc_ended, want, want_inverse, named, opened, sized, size_opened, size_named, message, have_product, have_sum, have_inverse, have_and, have, block, stmt_named, set_to, set_named, set_boxed, set_taken, boxed, append_to, item_indexed, call_opened, cleared, clear_opened, clear_named, closed, for_word, for_named, stepped, step_signed, nexted, if_ended, while_ended, do_word, do_named, do_opened, with_tree, with_act, word, inverse_due, give, other_places, first_place, run}
use Rattle.ts_trees.proofs.Turns.{after_and, inverse_follows_and, sum_follows_inverse, product_follows_sum, operand_follows_product, named_is_given, summed, product_is_sum, compared, sum_is_compared, inverse_is_read, inverse_is_first, inverse_is_next, joined, and_is_joined}

-- tokens that lead from a state to a whole script
pub record Ends (q : State) (ps : List ℕ) : Type 0 where
  pub rest : List TokenKind
  pub outcome : ProcedureSource × List ℕ
  pub read : run rest ps q ≡ Ok outcome

-- the same, by a token that lengthens no part of an expression
record Closes (q : State) (ps : List ℕ) : Type 0 where
  first : TokenKind
  others : List TokenKind
  follows : Holds (after_and first)
  outcome : ProcedureSource × List ℕ
  read : run (first ∷ others) ps q ≡ Ok outcome

by_rest : {q : State} {ps : List ℕ} → Closes q ps → Ends q ps
by_rest c = record { rest = c.first ∷ c.others; outcome = c.outcome; read = c.read }

end_block : (f : Frame) (a : Acts) (ps : List ℕ) → Ends (block a f) ps
end_block (top ds) a ps = record { rest = []; outcome = _; read = refl }
end_block (main ds qs) a ps = record { rest = []; outcome = _; read = refl }
end_block (proc_part w ws ds qs) a ps = record { rest = kind.End ∷ kind.Proc ∷ []; outcome = _; read = refl }
end_block (then_part e b f) a ps =
    let r = end_block f (with_act b (if_then e a)) ps in
    record { rest = kind.End ∷ kind.If ∷ r.rest; outcome = r.outcome; read = r.read }
end_block (else_part e c b f) a ps =
    let r = end_block f (with_act b (if_else e c a)) ps in
    record { rest = kind.End ∷ kind.If ∷ r.rest; outcome = r.outcome; read = r.read }
end_block (for_part w s t p b f) a ps =
    let r = end_block f (with_act b (for_next w s t p a (word [] (first_place ps)))) (other_places ps) in
    record { rest = kind.Next ∷ kind.Name [] ∷ r.rest; outcome = r.outcome; read = r.read }
end_block (while_part e b f) a ps =
    let r = end_block f (with_act b (while_do e a)) ps in
    record { rest = kind.End ∷ kind.While ∷ r.rest; outcome = r.outcome; read = r.read }

-- the same outcome from a state that reads alike
move : {q r : State} {ps : List ℕ} (c : Closes r ps) → run (c.first ∷ c.others) ps q ≡ run (c.first ∷ c.others) ps r → Closes q ps
move c e = record { first = c.first; others = c.others; follows = c.follows; outcome = c.outcome; read = e ∙ c.read }

from_sum : (e : Tree) (k : Product) (ps : List ℕ) → Closes (summed e k) ps → Closes (have_product e k) ps
from_sum e k ps c = move c (product_is_sum e k c.first (product_follows_sum c.first (sum_follows_inverse c.first (inverse_follows_and c.first c.follows))) c.others ps)

from_compared : (e : Tree) (k : Sum) (ps : List ℕ) → Closes (compared e k) ps → Closes (have_sum e k) ps
from_compared e k ps c = move c (sum_is_compared e k c.first (inverse_follows_and c.first c.follows) c.others ps)

from_joined : (e : Tree) (k : Conjunction) (ps : List ℕ) → Closes (joined e k) ps → Closes (have_and e k) ps
from_joined e k ps c = move c (and_is_joined e k c.first c.follows c.others ps)

mutual
  end_operand : (k : Operand) (e : Tree) (ps : List ℕ) → Closes (give k e) ps
  end_operand (in_negative k) e ps = end_operand k (negative e) ps
  end_operand (first_product k) e ps = end_product k e ps
  end_operand (in_product o l k) e ps = end_product k (two o l e) ps

  end_product : (k : Product) (e : Tree) (ps : List ℕ) → Closes (have_product e k) ps
  end_product (first_sum k) e ps = from_sum e (first_sum k) ps (end_sum k e ps)
  end_product (in_sum o l k) e ps = from_sum e (in_sum o l k) ps (end_sum k (two o l e) ps)

  end_sum : (k : Sum) (e : Tree) (ps : List ℕ) → Closes (have_sum e k) ps
  end_sum (first_compare k) e ps = from_compared e (first_compare k) ps (end_inverse k e ps)
  end_sum (in_compare o l k) e ps = from_compared e (in_compare o l k) ps (end_inverse k (two o l e) ps)

  end_inverse : (k : Inverse) (e : Tree) (ps : List ℕ) → Closes (have_inverse e k) ps
  end_inverse (in_inverse k) e ps = let c = end_inverse k (inverse e) ps in move c (inverse_is_read e k (c.first ∷ c.others) ps)
  end_inverse (first_and k) e ps = let c = end_and k e ps in move c (inverse_is_first e k (c.first ∷ c.others) ps)
  end_inverse (in_and l k) e ps = let c = end_and k (two op.And l e) ps in move c (inverse_is_next l e k (c.first ∷ c.others) ps)

  end_and : (k : Conjunction) (e : Tree) (ps : List ℕ) → Closes (have_and e k) ps
  end_and (first_or k) e ps = from_joined e (first_or k) ps (end_whole k e ps)
  end_and (in_or l k) e ps = from_joined e (in_or l k) ps (end_whole k (two op.Or l e) ps)

  end_whole : (k : Whole) (e : Tree) (ps : List ℕ) → Closes (have e k) ps
  end_whole (in_paren k) e ps = let c = end_operand k (paren e) ps in record { first = kind.Close; others = c.first ∷ c.others; follows = tt; outcome = c.outcome; read = c.read }
  end_whole (in_item w k) e ps = let c = end_operand k (item w e) ps in record { first = kind.CloseBox; others = c.first ∷ c.others; follows = tt; outcome = c.outcome; read = c.read }
  end_whole (in_message k) e ps = let c = end_operand k (message_item e) ps in record { first = kind.CloseBox; others = c.first ∷ c.others; follows = tt; outcome = c.outcome; read = c.read }
  end_whole (in_args w es k) e ps = let c = end_operand k (call w (with_tree es e)) ps in record { first = kind.Close; others = c.first ∷ c.others; follows = tt; outcome = c.outcome; read = c.read }
  end_whole (in_set w a f) e ps = let r = end_block f (with_act a (set w e)) ps in record { first = kind.Semi; others = r.rest; follows = tt; outcome = r.outcome; read = r.read }
  end_whole (in_index w a f) e ps = let r = end_block f (with_act a (set_item w e (number 0))) ps in record { first = kind.CloseBox; others = kind.Eq ∷ kind.Num 0 ∷ kind.Semi ∷ r.rest; follows = tt; outcome = r.outcome; read = r.read }
  end_whole (in_set_item w i a f) e ps = let r = end_block f (with_act a (set_item w i e)) ps in record { first = kind.Semi; others = r.rest; follows = tt; outcome = r.outcome; read = r.read }
  end_whole (in_append w a f) e ps = let r = end_block f (with_act a (append w e)) ps in record { first = kind.Semi; others = r.rest; follows = tt; outcome = r.outcome; read = r.read }
  end_whole (in_call w es a f) e ps = let r = end_block f (with_act a (call_alone w (with_tree es e))) ps in record { first = kind.Close; others = kind.Semi ∷ r.rest; follows = tt; outcome = r.outcome; read = r.read }
  end_whole (in_if a f) e ps = let r = end_block f (with_act a (if_then e no_acts)) ps in record { first = kind.Then; others = kind.End ∷ kind.If ∷ r.rest; follows = tt; outcome = r.outcome; read = r.read }
  end_whole (in_from w a f) e ps =
      let r = end_block f (with_act a (for_next w e (number 0) None no_acts (word [] (first_place ps)))) (other_places ps) in
      record { first = kind.To; others = kind.Num 0 ∷ kind.Next ∷ kind.Name [] ∷ r.rest; follows = tt; outcome = r.outcome; read = r.read }
  end_whole (in_to w s a f) e ps =
      let r = end_block f (with_act a (for_next w s e None no_acts (word [] (first_place ps)))) (other_places ps) in
      record { first = kind.Next; others = kind.Name [] ∷ r.rest; follows = tt; outcome = r.outcome; read = r.read }
  end_whole (in_do w es a f) e ps = let r = end_block f (with_act a (run_procedure w (with_tree es e))) ps in record { first = kind.Close; others = kind.Semi ∷ r.rest; follows = tt; outcome = r.outcome; read = r.read }
  end_whole (in_while a f) e ps = let r = end_block f (with_act a (while_do e no_acts)) ps in record { first = kind.End; others = kind.While ∷ r.rest; follows = tt; outcome = r.outcome; read = r.read }

end_named : (w : Word) (k : Operand) (ps : List ℕ) → Ends (named w k) ps
end_named w k ps =
    let c = end_operand k (variable w) ps in
    by_rest (move c (named_is_given w k c.first (operand_follows_product c.first (product_follows_sum c.first (sum_follows_inverse c.first (inverse_follows_and c.first c.follows)))) c.others ps))

-- tokens before those that lead to an end
abbrev ahead : {q r : State} {ps qs : List ℕ} (ks : List TokenKind) (e : Ends r qs) → run (ks ++ e.rest) ps q ≡ run e.rest qs r → Ends q ps
ahead ks e h = record { rest = ks ++ e.rest; outcome = e.outcome; read = h ∙ e.read }

-- each state can be finished
pub ends : (q : State) (ps : List ℕ) → Ends q ps
ends (decls d ds) ps = record { rest = []; outcome = _; read = refl }
ends (decl_name d k b ds) ps = record { rest = kind.Name [] ∷ kind.Semi ∷ []; outcome = _; read = refl }
ends (decl_more d k ds) ps = record { rest = kind.Semi ∷ []; outcome = _; read = refl }
ends (procedures ds qs) ps = record { rest = []; outcome = _; read = refl }
ends (proc_word ds qs) ps = record { rest = kind.Name [] ∷ kind.Open ∷ kind.Close ∷ kind.End ∷ kind.Proc ∷ []; outcome = _; read = refl }
ends (proc_named w ds qs) ps = record { rest = kind.Open ∷ kind.Close ∷ kind.End ∷ kind.Proc ∷ []; outcome = _; read = refl }
ends (proc_opened w ds qs) ps = record { rest = kind.Close ∷ kind.End ∷ kind.Proc ∷ []; outcome = _; read = refl }
ends (param_read w ws v ds qs) ps = record { rest = kind.Close ∷ kind.End ∷ kind.Proc ∷ []; outcome = _; read = refl }
ends (param_due w ws ds qs) ps = record { rest = kind.Name [] ∷ kind.Close ∷ kind.End ∷ kind.Proc ∷ []; outcome = _; read = refl }
ends (proc_ended q ds qs) ps = record { rest = kind.Proc ∷ []; outcome = _; read = refl }
ends (want k) ps = ahead (kind.Num 0 ∷ []) (by_rest (end_operand k (number 0) ps)) refl
ends (want_inverse k) ps = ahead (kind.Num 0 ∷ []) (by_rest (end_operand (inverse_due k) (number 0) ps)) refl
ends (named w k) ps = end_named w k ps
ends (opened w k) ps = ahead (kind.Close ∷ []) (by_rest (end_operand k (call w no_trees) ps)) refl
ends (sized k) ps = ahead (kind.Open ∷ kind.Msg ∷ kind.Close ∷ []) (by_rest (end_operand k message_size ps)) refl
ends (size_opened k) ps = ahead (kind.Msg ∷ kind.Close ∷ []) (by_rest (end_operand k message_size ps)) refl
ends (size_named e k) ps = ahead (kind.Close ∷ []) (by_rest (end_operand k e ps)) refl
ends (message k) ps = ahead (kind.OpenBox ∷ kind.Num 0 ∷ kind.CloseBox ∷ []) (by_rest (end_operand k (message_item (number 0)) ps)) refl
ends (have_product e k) ps = by_rest (end_product k e ps)
ends (have_sum e k) ps = by_rest (end_sum k e ps)
ends (have_inverse e k) ps = by_rest (end_inverse k e ps)
ends (have_and e k) ps = by_rest (end_and k e ps)
ends (have e k) ps = by_rest (end_whole k e ps)
ends (block a f) ps = end_block f a ps
ends (stmt_named w a f) ps = ahead (kind.Eq ∷ kind.Num 0 ∷ kind.Semi ∷ []) (end_block f (with_act a (set w (number 0))) ps) refl
ends (set_to w a f) ps = ahead (kind.Num 0 ∷ kind.Semi ∷ []) (end_block f (with_act a (set w (number 0))) ps) refl
ends (set_named w v a f) ps = ahead (kind.Semi ∷ []) (end_block f (with_act a (set w (variable v))) ps) refl
ends (set_boxed w v a f) ps = ahead (kind.CloseBox ∷ kind.Semi ∷ []) (end_block f (with_act a (take_last w v)) ps) refl
ends (set_taken w v a f) ps = ahead (kind.Semi ∷ []) (end_block f (with_act a (take_last w v)) ps) refl
ends (boxed w a f) ps = ahead (kind.CloseBox ∷ kind.Eq ∷ kind.Num 0 ∷ kind.Semi ∷ []) (end_block f (with_act a (append w (number 0))) ps) refl
ends (append_to w a f) ps = ahead (kind.Eq ∷ kind.Num 0 ∷ kind.Semi ∷ []) (end_block f (with_act a (append w (number 0))) ps) refl
ends (item_indexed w i a f) ps = ahead (kind.Eq ∷ kind.Num 0 ∷ kind.Semi ∷ []) (end_block f (with_act a (set_item w i (number 0))) ps) refl
ends (call_opened w a f) ps = ahead (kind.Close ∷ kind.Semi ∷ []) (end_block f (with_act a (call_alone w no_trees)) ps) refl
ends (cleared a f) ps = ahead (kind.Open ∷ kind.Name [] ∷ kind.Close ∷ kind.Semi ∷ []) (end_block f (with_act a (clear (word [] (first_place ps)))) (other_places ps)) refl
ends (clear_opened a f) ps = ahead (kind.Name [] ∷ kind.Close ∷ kind.Semi ∷ []) (end_block f (with_act a (clear (word [] (first_place ps)))) (other_places ps)) refl
ends (clear_named w a f) ps = ahead (kind.Close ∷ kind.Semi ∷ []) (end_block f (with_act a (clear w)) ps) refl
ends (closed s a f) ps = ahead (kind.Semi ∷ []) (end_block f (with_act a s) ps) refl
ends (for_word a f) ps =
    let ws = other_places ps in
    ahead (kind.Name [] ∷ kind.Eq ∷ kind.Num 0 ∷ kind.To ∷ kind.Num 0 ∷ kind.Next ∷ kind.Name [] ∷ [])
    (end_block f (with_act a (for_next (word [] (first_place ps)) (number 0) (number 0) None no_acts (word [] (first_place ws)))) (other_places ws)) refl
ends (for_named w a f) ps =
    ahead (kind.Eq ∷ kind.Num 0 ∷ kind.To ∷ kind.Num 0 ∷ kind.Next ∷ kind.Name [] ∷ [])
    (end_block f (with_act a (for_next w (number 0) (number 0) None no_acts (word [] (first_place ps)))) (other_places ps)) refl
ends (stepped w s t a f) ps =
    let ws = other_places ps in
    ahead (kind.Num 1 ∷ kind.Next ∷ kind.Name [] ∷ [])
    (end_block f (with_act a (for_next w s t (Some (record { minus = false; size = 1; place = first_place ps })) no_acts (word [] (first_place ws)))) (other_places ws)) refl
ends (step_signed w s t a f) ps =
    let ws = other_places ps in
    ahead (kind.Num 1 ∷ kind.Next ∷ kind.Name [] ∷ [])
    (end_block f (with_act a (for_next w s t (Some (record { minus = true; size = 1; place = first_place ps })) no_acts (word [] (first_place ws)))) (other_places ws)) refl
ends (nexted w s t c b a f) ps = ahead (kind.Name [] ∷ []) (end_block f (with_act a (for_next w s t c b (word [] (first_place ps)))) (other_places ps)) refl
ends (if_ended s a f) ps = ahead (kind.If ∷ []) (end_block f (with_act a s) ps) refl
ends (while_ended e b a f) ps = ahead (kind.While ∷ []) (end_block f (with_act a (while_do e b)) ps) refl
ends (do_word a f) ps = ahead (kind.Name [] ∷ kind.Open ∷ kind.Close ∷ kind.Semi ∷ []) (end_block f (with_act a (run_procedure (word [] (first_place ps)) no_trees)) (other_places ps)) refl
ends (do_named w a f) ps = ahead (kind.Open ∷ kind.Close ∷ kind.Semi ∷ []) (end_block f (with_act a (run_procedure w no_trees)) ps) refl
ends (do_opened w a f) ps = ahead (kind.Close ∷ kind.Semi ∷ []) (end_block f (with_act a (run_procedure w no_trees)) ps) refl
