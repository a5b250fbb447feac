-- Tokens that a script spells note as many places as the script keeps.
use Rattle.std.proofs.Common.{◌≡◌, ℕ, suc, ◌+◌, Bool, true, false, List, [], ◌∷◌, ◌++◌, length, Option, Some, None, refl, sym, ◌∙◌, ap, subst, arith, length-append}
use Rattle.ts_checked.specs.declared.bin_op.BinOp.{BinOp}
use Rattle.ts_checked.specs.declared.bin_op.BinOp.TheVariants as op
use Rattle.ts_trees.specs.declared.script.Decl.{Decl}
use Rattle.ts_trees.specs.declared.script.DeclKind.{DeclKind}
use Rattle.ts_trees.specs.declared.script.DeclKind.TheVariants as decl
use Rattle.ts_trees.specs.declared.stmt.Step.{Step}
use Rattle.ts_trees.specs.declared.token.Token.{Token}
use Rattle.ts_trees.specs.declared.token.TokenKind.{TokenKind}
use Rattle.ts_trees.specs.declared.token.TokenKind.TheVariants as kind
use Rattle.ts_trees.specs.Tree.{Tree, number, variable, item, size, message_item, message_size, call, negative, inverse, two, paren, Trees, no_trees, tree_then, Act, set, set_item, append, take_last, clear, call_alone, if_then, if_else, for_next, while_do, run_procedure, Acts, no_acts, act_then, Source}
use Rattle.ts_trees.specs.Spelling.{sign, spelled, args_spelled, more_spelled, step_spelled, act_spelled, acts_spelled, decl_start, decl_end, decls_gap, decls_spelled, source_spelled, places, args_places, step_places, act_places, acts_places, decls_places, source_places, number_place, first_number, literal_place, first_literal, note, noted, kinds}

-- whether a literal follows, behind a `-` or not
abbrev IsNumberNext : List TokenKind → Type 0
IsNumberNext (kind.Num n ∷ ks) = Unit {0}
IsNumberNext _ = ⊥

abbrev IsLiteralNext : List TokenKind → Type 0
IsLiteralNext (kind.Minus ∷ ks) = IsNumberNext ks
IsLiteralNext (kind.Num n ∷ ks) = Unit {0}
IsLiteralNext _ = ⊥

-- a literal follows each `step`
abbrev Follows : TokenKind → List TokenKind → Type 0
Follows kind.Step ks = IsLiteralNext ks
Follows _ ks = Unit {0}

abbrev AreStepped : List TokenKind → Type 0
AreStepped [] = Unit {0}
AreStepped (k ∷ ks) = Follows k ks × AreStepped ks

-- the names and steps among tokens
abbrev marks : TokenKind → ℕ
marks (kind.Name w) = 1
marks kind.Step = 1
marks _ = 0

abbrev total : List TokenKind → ℕ
total [] = 0
total (k ∷ ks) = marks k + total ks

-- ---- what tokens note

one_number : (ts : List Token) → IsNumberNext (kinds ts) → length (first_number ts) ≡ 1
one_number [] h = absurd h
one_number (t ∷ ts) h = by t.kind h where
  by : (k : TokenKind) → IsNumberNext (k ∷ kinds ts) → length (number_place t k) ≡ 1
  by (kind.Num n) g = refl
  by _ g = absurd g

one_literal : (ts : List Token) → IsLiteralNext (kinds ts) → length (first_literal ts) ≡ 1
one_literal [] h = absurd h
one_literal (t ∷ ts) h = by t.kind h where
  by : (k : TokenKind) → IsLiteralNext (k ∷ kinds ts) → length (literal_place t k ts) ≡ 1
  by kind.Minus g = one_number ts g
  by (kind.Num n) g = refl
  by _ g = absurd g

one_note : (t : Token) (k : TokenKind) (ts : List Token) → Follows k (kinds ts) → length (note t k ts) ≡ marks k
one_note t (kind.Name w) ts h = refl
one_note t kind.Step ts h = one_literal ts h
one_note t _ ts h = refl

noted_total : (ts : List Token) → AreStepped (kinds ts) → length (noted ts) ≡ total (kinds ts)
noted_total [] h = refl
noted_total (t ∷ ts) h = omega (arith, length-append (note t t.kind ts) (noted ts), one_note t t.kind ts h.0, noted_total ts h.1)

-- ---- what trees spell

number_behind : (xs ys : List TokenKind) → IsNumberNext xs → IsNumberNext (xs ++ ys)
number_behind [] ys h = absurd h
number_behind (k ∷ xs) ys h = by k h where
  by : (k : TokenKind) → IsNumberNext (k ∷ xs) → IsNumberNext (k ∷ xs ++ ys)
  by (kind.Num n) g = tt
  by _ g = absurd g

literal_behind : (xs ys : List TokenKind) → IsLiteralNext xs → IsLiteralNext (xs ++ ys)
literal_behind [] ys h = absurd h
literal_behind (k ∷ xs) ys h = by k h where
  by : (k : TokenKind) → IsLiteralNext (k ∷ xs) → IsLiteralNext (k ∷ xs ++ ys)
  by kind.Minus g = number_behind xs ys g
  by (kind.Num n) g = tt
  by _ g = absurd g

follows_behind : (k : TokenKind) (xs ys : List TokenKind) → Follows k xs → Follows k (xs ++ ys)
follows_behind kind.Step xs ys h = literal_behind xs ys h
follows_behind (kind.Name w) xs ys h = tt
follows_behind _ xs ys h = tt

stepped_append : (xs ys : List TokenKind) → AreStepped xs → AreStepped ys → AreStepped (xs ++ ys)
stepped_append [] ys h g = g
stepped_append (k ∷ xs) ys h g = (follows_behind k xs ys h.0, stepped_append xs ys h.1 g)

total_append : (xs ys : List TokenKind) → total (xs ++ ys) ≡ total xs + total ys
total_append [] ys = omega arith
total_append (k ∷ xs) ys = omega (arith, total_append xs ys)

-- tokens that note so many places
record Note (ks : List TokenKind) (n : ℕ) : Type 0 where
  stepped : AreStepped ks
  many : total ks ≡ n

-- a sign, a keyword but `step`, or a literal
abbrev IsSilent : TokenKind → Type 0
IsSilent (kind.Name w) = ⊥
IsSilent kind.Step = ⊥
IsSilent _ = Unit {0}

none : Note [] 0
none = record { stepped = tt; many = refl }

silent : (k : TokenKind) {ks : List TokenKind} {n : ℕ} → IsSilent k → Note ks n → Note (k ∷ ks) n
silent (kind.Name w) h u = absurd h
silent kind.Step h u = absurd h
silent _ h u = record { stepped = (tt, u.stepped); many = omega (arith, u.many) }

named : (w : List ℕ) {ks : List TokenKind} {n : ℕ} → Note ks n → Note (kind.Name w ∷ ks) (suc n)
named w u = record { stepped = (tt, u.stepped); many = omega (arith, u.many) }

both : (xs ys : List TokenKind) {m n : ℕ} → Note xs m → Note ys n → Note (xs ++ ys) (m + n)
both xs ys {m} {n} u v = record { stepped = stepped_append xs ys u.stepped v.stepped; many = omega (arith, total_append xs ys, u.many, v.many) }

as_many : {ks : List TokenKind} {m : ℕ} (n : ℕ) → m ≡ n → Note ks m → Note ks n
as_many n e u = record { stepped = u.stepped; many = u.many ∙ e }

-- tokens before silent ones
before : (xs ys : List TokenKind) {n : ℕ} → Note xs n → Note ys 0 → Note (xs ++ ys) n
before xs ys {n} u v = let e : n + 0 ≡ n = omega arith in as_many n e (both xs ys u v)

-- and behind silent ones
behind : (xs ys : List TokenKind) {n : ℕ} → Note xs 0 → Note ys n → Note (xs ++ ys) n
behind xs ys {n} u v = let e : 0 + n ≡ n = omega arith in as_many n e (both xs ys u v)

sign_silent : (o : BinOp) → IsSilent (sign o)
sign_silent op.Or = tt
sign_silent _ = tt

one : (k : TokenKind) → IsSilent k → Note (k ∷ []) 0
one k h = silent k h none

mutual
  tree_notes : (e : Tree) → Note (spelled e) (length (places e))
  tree_notes (number n) = one (kind.Num n) tt
  tree_notes (variable w) = named w.name none
  tree_notes (item w e) = named w.name (silent kind.OpenBox tt (before (spelled e) (kind.CloseBox ∷ []) (tree_notes e) (one kind.CloseBox tt)))
  tree_notes (size w) = silent kind.Size tt (silent kind.Open tt (named w.name (one kind.Close tt)))
  tree_notes (message_item e) = silent kind.Msg tt (silent kind.OpenBox tt (before (spelled e) (kind.CloseBox ∷ []) (tree_notes e) (one kind.CloseBox tt)))
  tree_notes message_size = silent kind.Size tt (silent kind.Open tt (silent kind.Msg tt (one kind.Close tt)))
  tree_notes (call w es) = named w.name (silent kind.Open tt (before (args_spelled es) (kind.Close ∷ []) (args_note es) (one kind.Close tt)))
  tree_notes (negative e) = silent kind.Minus tt (tree_notes e)
  tree_notes (inverse e) = silent kind.Not tt (tree_notes e)
  tree_notes (two o l r) =
      as_many (length (places l ++ places r)) (sym (length-append (places l) (places r)))
      (both (spelled l) (sign o ∷ spelled r) (tree_notes l) (silent (sign o) (sign_silent o) (tree_notes r)))
  tree_notes (paren e) = silent kind.Open tt (before (spelled e) (kind.Close ∷ []) (tree_notes e) (one kind.Close tt))

  args_note : (es : Trees) → Note (args_spelled es) (length (args_places es))
  args_note no_trees = none
  args_note (tree_then e es) =
      as_many (length (places e ++ args_places es)) (sym (length-append (places e) (args_places es))) (both (spelled e) (more_spelled es) (tree_notes e) (more_note es))

  more_note : (es : Trees) → Note (more_spelled es) (length (args_places es))
  more_note no_trees = none
  more_note (tree_then e es) =
      as_many (length (places e ++ args_places es)) (sym (length-append (places e) (args_places es)))
      (silent kind.Comma tt (both (spelled e) (more_spelled es) (tree_notes e) (more_note es)))

step_notes : (s : Option Step) → Note (step_spelled s) (length (step_places s))
step_notes None = none
step_notes (Some s) = by s.minus where
  by : (b : Bool) → Note (step_spelled (Some (record { minus = b; size = s.size; place = s.place }))) 1
  by true = record { stepped = (tt, (tt, (tt, tt))); many = refl }
  by false = record { stepped = (tt, (tt, tt)); many = refl }

-- tokens and more of them
two_parts : (xs ys : List TokenKind) (ps qs : List ℕ) → Note xs (length ps) → Note ys (length qs) → Note (xs ++ ys) (length (ps ++ qs))
two_parts xs ys ps qs u v = as_many (length (ps ++ qs)) (sym (length-append ps qs)) (both xs ys u v)

mutual
  act_notes : (a : Act) → Note (act_spelled a) (length (act_places a))
  act_notes (set w e) = named w.name (silent kind.Eq tt (before (spelled e) (kind.Semi ∷ []) (tree_notes e) (one kind.Semi tt)))
  act_notes (set_item w i e) =
      named w.name (silent kind.OpenBox tt (two_parts (spelled i) _ (places i) (places e) (tree_notes i)
      (silent kind.CloseBox tt (silent kind.Eq tt (before (spelled e) (kind.Semi ∷ []) (tree_notes e) (one kind.Semi tt))))))
  act_notes (append w e) =
      named w.name (silent kind.OpenBox tt (silent kind.CloseBox tt (silent kind.Eq tt (before (spelled e) (kind.Semi ∷ []) (tree_notes e) (one kind.Semi tt)))))
  act_notes (take_last w b) = named w.name (silent kind.Eq tt (named b.name (silent kind.OpenBox tt (silent kind.CloseBox tt (one kind.Semi tt)))))
  act_notes (clear w) = silent kind.Clear tt (silent kind.Open tt (named w.name (silent kind.Close tt (one kind.Semi tt))))
  act_notes (call_alone w es) =
      named w.name (silent kind.Open tt (before (args_spelled es) (kind.Close ∷ kind.Semi ∷ []) (args_note es) (silent kind.Close tt (one kind.Semi tt))))
  act_notes (if_then e a) =
      silent kind.If tt (two_parts (spelled e) _ (places e) (acts_places a) (tree_notes e)
      (silent kind.Then tt (before (acts_spelled a) (kind.End ∷ kind.If ∷ []) (acts_note a) (silent kind.End tt (one kind.If tt)))))
  act_notes (if_else e a b) =
      silent kind.If tt (two_parts (spelled e) _ (places e) (acts_places a ++ acts_places b) (tree_notes e)
      (silent kind.Then tt (two_parts (acts_spelled a) _ (acts_places a) (acts_places b) (acts_note a)
      (silent kind.Else tt (before (acts_spelled b) (kind.End ∷ kind.If ∷ []) (acts_note b) (silent kind.End tt (one kind.If tt)))))))
  act_notes (for_next w f t s a v) =
      silent kind.For tt (named w.name (silent kind.Eq tt
      (two_parts (spelled f) _ (places f) (places t ++ (step_places s ++ (acts_places a ++ v.place ∷ []))) (tree_notes f)
      (silent kind.To tt (two_parts (spelled t) _ (places t) (step_places s ++ (acts_places a ++ v.place ∷ [])) (tree_notes t)
      (two_parts (step_spelled s) _ (step_places s) (acts_places a ++ v.place ∷ []) (step_notes s)
      (two_parts (acts_spelled a) _ (acts_places a) (v.place ∷ []) (acts_note a) (silent kind.Next tt (named v.name none)))))))))
  act_notes (while_do e a) =
      silent kind.While tt (two_parts (spelled e) _ (places e) (acts_places a) (tree_notes e)
      (before (acts_spelled a) (kind.End ∷ kind.While ∷ []) (acts_note a) (silent kind.End tt (one kind.While tt))))
  act_notes (run_procedure w es) =
      silent kind.Do tt (named w.name (silent kind.Open tt
      (before (args_spelled es) (kind.Close ∷ kind.Semi ∷ []) (args_note es) (silent kind.Close tt (one kind.Semi tt)))))

  acts_note : (a : Acts) → Note (acts_spelled a) (length (acts_places a))
  acts_note no_acts = none
  acts_note (act_then a more) = two_parts (act_spelled a) (acts_spelled more) (act_places a) (acts_places more) (act_notes a) (acts_note more)

start_silent : (first : Bool) (k : DeclKind) → IsSilent (decl_start first k)
start_silent true decl.Shared = tt
start_silent true decl.Private = tt
start_silent true decl.Buffer = tt
start_silent false k = tt

gap_notes : (ds : List Decl) → Note (decls_gap ds) 0
gap_notes [] = one kind.Semi tt
gap_notes (d ∷ ds) = by d.first where
  by : (b : Bool) → Note (decl_end b) 0
  by true = one kind.Semi tt
  by false = none

decls_note : (ds : List Decl) → Note (decls_spelled ds) (length (decls_places ds))
decls_note [] = none
decls_note (d ∷ ds) =
    silent (decl_start d.first d.kind) (start_silent d.first d.kind) (named d.word.name (behind (decls_gap ds) (decls_spelled ds) (gap_notes ds) (decls_note ds)))

-- as many as the script keeps
pub noted_of_source : (s : Source) (ts : List Token) → kinds ts ≡ source_spelled s → length (noted ts) ≡ length (source_places s)
noted_of_source s ts e =
    let u = two_parts (decls_spelled s.decls) (acts_spelled s.body) (decls_places s.decls) (acts_places s.body) (decls_note s.decls) (acts_note s.body) in
    noted_total ts (subst AreStepped (sym e) u.stepped) ∙ ap total e ∙ u.many
