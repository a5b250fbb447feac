-- Tokens begin a part exactly if some tokens after them make it whole.
use Rattle.std.proofs.Common.{◌≡◌, List, [], ◌∷◌, ◌++◌, refl, sym, ◌∙◌, ap, subst, append_assoc, append-nil}
use Rattle.ts_trees.specs.declared.token.TokenKind.{TokenKind}
use Rattle.ts_trees.specs.declared.token.TokenKind.TheVariants as kind
use Rattle.ts_trees.specs.Grammar.{Rule, script, decl, stmt, pscript, proc, pstmt, expr, andx, notx, cmp, sum, prod, neg, atom, Part, nothing, NAME, NUM, key, rule, ◌▸◌, ◌∣◌, many, Whole, w_nothing, w_name, w_number, w_key, w_rule, w_then, w_left, w_right, w_end, w_more, BeginsPart, b_none, b_name, b_number, b_key, b_rule, b_first, b_second, b_left, b_right, b_here, b_later}

-- some tokens that are the whole part
record Made (p : Part) : Type 0 where
  tokens : List TokenKind
  whole : Whole p tokens

-- tokens after ms that make the part whole
pub record Completed (p : Part) (ms : List TokenKind) : Type 0 where
  pub rest : List TokenKind
  pub whole : Whole p (ms ++ rest)

made_atom : Made (rule atom)
made_atom = record { tokens = kind.Num 0 ∷ []; whole = w_rule (w_left w_number) }

made_neg : Made (rule neg)
made_neg = record { tokens = made_atom.tokens; whole = w_rule (w_right made_atom.whole) }

-- a part and then none of another
alone : {p q : Part} {ms : List TokenKind} → Whole p ms → Whole q [] → Whole (p ▸ q) ms
alone {ms} w e = w_then w e (sym (append-nil ms))

made_prod : Made (rule prod)
made_prod = record { tokens = made_neg.tokens; whole = w_rule (alone made_neg.whole w_end) }

made_sum : Made (rule sum)
made_sum = record { tokens = made_prod.tokens; whole = w_rule (alone made_prod.whole w_end) }

made_cmp : Made (rule cmp)
made_cmp = record { tokens = made_sum.tokens; whole = w_rule (alone made_sum.whole (w_right w_nothing)) }

made_notx : Made (rule notx)
made_notx = record { tokens = made_cmp.tokens; whole = w_rule (w_right made_cmp.whole) }

made_andx : Made (rule andx)
made_andx = record { tokens = made_notx.tokens; whole = w_rule (alone made_notx.whole w_end) }

made_expr : Made (rule expr)
made_expr = record { tokens = made_andx.tokens; whole = w_rule (alone made_andx.whole w_end) }

-- each rule derives something
made_rule : (r : Rule) → Made (rule r)
made_rule script = record { tokens = []; whole = w_rule (alone w_end w_end) }
made_rule decl = record {
  tokens = kind.Shared ∷ kind.Name [] ∷ kind.Semi ∷ [];
  whole = w_rule (w_then (w_left w_key) (w_then w_name (w_then w_end w_key refl) refl) refl);
}
made_rule stmt = record {
  tokens = kind.Clear ∷ kind.Open ∷ kind.Name [] ∷ kind.Close ∷ kind.Semi ∷ [];
  whole = w_rule (w_right (w_right (w_right (w_right (w_left
      (w_then w_key (w_then w_key (w_then w_name (w_then w_key w_key refl) refl) refl) refl))))));
}
made_rule pscript = record { tokens = []; whole = w_rule (alone w_end (alone w_end w_end)) }
made_rule proc = record {
  tokens = kind.Proc ∷ kind.Name [] ∷ kind.Open ∷ kind.Close ∷ kind.End ∷ kind.Proc ∷ [];
  whole = w_rule
      (w_then w_key (w_then w_name (w_then w_key (w_then (w_right w_nothing) (w_then w_key (w_then w_end (w_then w_key w_key refl) refl) refl) refl) refl) refl) refl);
}
made_rule pstmt = record {
  tokens = kind.Clear ∷ kind.Open ∷ kind.Name [] ∷ kind.Close ∷ kind.Semi ∷ [];
  whole = w_rule (w_left (w_right (w_right (w_right (w_right (w_left
      (w_then w_key (w_then w_key (w_then w_name (w_then w_key w_key refl) refl) refl) refl)))))));
}
made_rule expr = made_expr
made_rule andx = made_andx
made_rule notx = made_notx
made_rule cmp = made_cmp
made_rule sum = made_sum
made_rule prod = made_prod
made_rule neg = made_neg
made_rule atom = made_atom

-- each part derives something
made : (p : Part) → Made p
made nothing = record { tokens = []; whole = w_nothing }
made NAME = record { tokens = kind.Name [] ∷ []; whole = w_name }
made NUM = record { tokens = kind.Num 0 ∷ []; whole = w_number }
made (key k) = record { tokens = k ∷ []; whole = w_key }
made (rule r) = made_rule r
made (p ▸ q) = record { tokens = (made p).tokens ++ (made q).tokens; whole = w_then (made p).whole (made q).whole refl }
made (p ∣ q) = record { tokens = (made p).tokens; whole = w_left (made p).whole }
made (many p) = record { tokens = []; whole = w_end }

-- begun in the first of two parts
first_completed : {p q : Part} {ms : List TokenKind} → Completed p ms → Made q → Completed (p ▸ q) ms
first_completed {ms} c m = record { rest = c.rest ++ m.tokens; whole = w_then c.whole m.whole (sym (append_assoc ms c.rest m.tokens)) }

-- begun in the second of two parts
second_completed : {p q : Part} {ms xs ys : List TokenKind} → Whole p xs → Completed q ys → ms ≡ xs ++ ys → Completed (p ▸ q) ms
second_completed {xs} {ys} w c e = record { rest = c.rest; whole = w_then w c.whole (ap (λ zs. zs ++ c.rest) e ∙ append_assoc xs ys c.rest) }

-- begun in a later one of many parts
later_completed : {p : Part} {ms xs ys : List TokenKind} → Whole p xs → Completed (many p) ys → ms ≡ xs ++ ys → Completed (many p) ms
later_completed {xs} {ys} w c e = record { rest = c.rest; whole = w_more w c.whole (ap (λ zs. zs ++ c.rest) e ∙ append_assoc xs ys c.rest) }

-- what begins a part can be completed
pub completed : {p : Part} {ms : List TokenKind} → BeginsPart p ms → Completed p ms
completed (b_none {p}) = record { rest = (made p).tokens; whole = (made p).whole }
completed b_name = record { rest = []; whole = w_name }
completed b_number = record { rest = []; whole = w_number }
completed b_key = record { rest = []; whole = w_key }
completed (b_rule b) = let c = completed b in record { rest = c.rest; whole = w_rule c.whole }
completed (b_first {q} b) = first_completed (completed b) (made q)
completed (b_second w b e) = second_completed w (completed b) e
completed (b_left b) = let c = completed b in record { rest = c.rest; whole = w_left c.whole }
completed (b_right b) = let c = completed b in record { rest = c.rest; whole = w_right c.whole }
completed (b_here b) = let c = completed b in record { rest = c.rest; whole = w_more c.whole w_end (sym (append-nil _)) }
completed (b_later w b e) = later_completed w (completed b) e

-- where two lists are one: the first parts end one within the other
pub data Split (xs ys ms rest : List TokenKind) : Type 0 where
  within : (t : List TokenKind) → xs ≡ ms ++ t → Split xs ys ms rest
  beyond : (t : List TokenKind) → ms ≡ xs ++ t → ys ≡ t ++ rest → Split xs ys ms rest

split_cons : {xs ys ms rest : List TokenKind} (x m : TokenKind) → x ≡ m → Split xs ys ms rest → Split (x ∷ xs) ys (m ∷ ms) rest
split_cons x m e (within t a) = within t (cc)
split_cons x m e (beyond t a b) = beyond t (cc) b

pub split : (xs ys ms rest : List TokenKind) → xs ++ ys ≡ ms ++ rest → Split xs ys ms rest
split [] ys ms rest e = beyond ms refl e
split (x ∷ xs) ys [] rest e = within (x ∷ xs) refl
split (x ∷ xs) ys (m ∷ ms) rest e = split_cons x m (cc) (split xs ys ms rest (cc))

-- a front of one token is nothing or the token
front_of_one : {p : Part} {k : TokenKind} (ms rest : List TokenKind) → BeginsPart p (k ∷ []) → k ∷ [] ≡ ms ++ rest → BeginsPart p ms
front_of_one [] rest b e = b_none
front_of_one {p} (m ∷ []) rest b e = subst (λ x. BeginsPart p (x ∷ [])) (cc) b
front_of_one (m ∷ n ∷ ms) rest b e = absurd (cc)

front_of_none : {p : Part} (ms rest : List TokenKind) → [] ≡ ms ++ rest → BeginsPart p ms
front_of_none [] rest e = b_none
front_of_none (m ∷ ms) rest e = absurd (cc)

-- a front of whole tokens begins the part
pub begun : {p : Part} {zs : List TokenKind} → Whole p zs → (ms rest : List TokenKind) → zs ≡ ms ++ rest → BeginsPart p ms
begun w_nothing ms rest e = front_of_none ms rest e
begun w_name ms rest e = front_of_one ms rest b_name e
begun w_number ms rest e = front_of_one ms rest b_number e
begun w_key ms rest e = front_of_one ms rest b_key e
begun (w_rule w) ms rest e = b_rule (begun w ms rest e)
begun (w_then {p} {q} {xs} {ys} v w d) ms rest e =
    elim (split xs ys ms rest (sym d ∙ e)) [ within t a ↦ b_first (begun v ms t a) | beyond t a b ↦ b_second v (begun w t rest b) a ]
begun (w_left w) ms rest e = b_left (begun w ms rest e)
begun (w_right w) ms rest e = b_right (begun w ms rest e)
begun w_end ms rest e = front_of_none ms rest e
begun (w_more {p} {xs} {ys} v w d) ms rest e =
    elim (split xs ys ms rest (sym d ∙ e)) [ within t a ↦ b_here (begun v ms t a) | beyond t a b ↦ b_later v (begun w t rest b) a ]
