-- TinyScript's grammar and that of its dialect with procedures, rule by rule, and what they derive.
use Rattle.std.specs.Prelude.{◌≡◌, ℕ, List, [], ◌∷◌, ◌++◌}
use Rattle.ts_trees.specs.declared.token.TokenKind.{TokenKind}
use Rattle.ts_trees.specs.declared.token.TokenKind.TheVariants as kind

infixr 30 ◌▸◌
infixr 20 ◌∣◌
-- the names of the rules; those of `pscript`, `proc` and `pstmt` are a script with procedures, a procedure and a statement there
pub data Rule : Type 0 where
  script : Rule
  decl : Rule
  stmt : Rule
  pscript : Rule
  proc : Rule
  pstmt : Rule
  expr : Rule
  andx : Rule
  notx : Rule
  cmp : Rule
  sum : Rule
  prod : Rule
  neg : Rule
  atom : Rule

-- a part of a rule: nothing; any name; any literal; one sign or keyword; a rule; a part and then another;
-- one part or another; and a part any number of times, written `{ x }`
pub data Part : Type 0 where
  nothing : Part
  NAME : Part
  NUM : Part
  key : TokenKind → Part
  rule : Rule → Part
  ◌▸◌ : Part → Part → Part
  ◌∣◌ : Part → Part → Part
  many : Part → Part

-- the part or nothing, written `[ x ]`
abbrev pub maybe : Part → Part
maybe p = p ∣ nothing

-- the arguments of a call: `[ expr { "," expr } ]`
abbrev pub arguments : Part
arguments = maybe (rule expr ▸ many (key kind.Comma ▸ rule expr))

-- the step of a `for`: `[ "step" ["-"] NUM ]`
abbrev pub step : Part
step = maybe (key kind.Step ▸ maybe (key kind.Minus) ▸ NUM)

-- the parameters of a procedure: `[ NAME { "," NAME } ]`
abbrev pub parameters : Part
parameters = maybe (NAME ▸ many (key kind.Comma ▸ NAME))

-- the forms of a statement, with blocks of a rule's statements
abbrev pub forms : Rule → Part
forms block = NAME ▸ key kind.Eq ▸ rule expr ▸ key kind.Semi
    ∣ NAME ▸ key kind.Eq ▸ NAME ▸ key kind.OpenBox ▸ key kind.CloseBox ▸ key kind.Semi
    ∣ NAME ▸ key kind.OpenBox ▸ rule expr ▸ key kind.CloseBox ▸ key kind.Eq ▸ rule expr ▸ key kind.Semi
    ∣ NAME ▸ key kind.OpenBox ▸ key kind.CloseBox ▸ key kind.Eq ▸ rule expr ▸ key kind.Semi
    ∣ key kind.Clear ▸ key kind.Open ▸ NAME ▸ key kind.Close ▸ key kind.Semi
    ∣ NAME ▸ key kind.Open ▸ arguments ▸ key kind.Close ▸ key kind.Semi
    ∣ key kind.If ▸ rule expr ▸ key kind.Then ▸ many (rule block) ▸ maybe (key kind.Else ▸ many (rule block)) ▸ key kind.End ▸ key kind.If
    ∣ key kind.For ▸ NAME ▸ key kind.Eq ▸ rule expr ▸ key kind.To ▸ rule expr ▸ step ▸ many (rule block) ▸ key kind.Next ▸ NAME
    ∣ key kind.While ▸ rule expr ▸ many (rule block) ▸ key kind.End ▸ key kind.While

-- the form that the dialect with procedures adds
abbrev pub do_form : Part
do_form = key kind.Do ▸ NAME ▸ key kind.Open ▸ arguments ▸ key kind.Close ▸ key kind.Semi

-- what each rule is
abbrev pub rules : Rule → Part
rules script = many (rule decl) ▸ many (rule stmt)
rules decl = (key kind.Shared ∣ key kind.Private ∣ key kind.Buffer) ▸ NAME ▸ many (key kind.Comma ▸ NAME) ▸ key kind.Semi
rules stmt = forms stmt
rules pscript = many (rule decl) ▸ many (rule proc) ▸ many (rule pstmt)
rules proc = key kind.Proc ▸ NAME ▸ key kind.Open ▸ parameters ▸ key kind.Close ▸ many (rule pstmt) ▸ key kind.End ▸ key kind.Proc
rules pstmt = forms pstmt ∣ do_form
rules expr = rule andx ▸ many (key kind.Or ▸ rule andx)
rules andx = rule notx ▸ many (key kind.And ▸ rule notx)
rules notx = key kind.Not ▸ rule notx ∣ rule cmp
rules cmp = rule sum ▸ maybe ((key kind.Eq ∣ key kind.Ne ∣ key kind.Lt ∣ key kind.Gt ∣ key kind.Le ∣ key kind.Ge) ▸ rule sum)
rules sum = rule prod ▸ many ((key kind.Plus ∣ key kind.Minus) ▸ rule prod)
rules prod = rule neg ▸ many ((key kind.Star ∣ key kind.Slash ∣ key kind.Percent) ▸ rule neg)
rules neg = key kind.Minus ▸ rule neg ∣ rule atom
rules atom = NUM
    ∣ NAME
    ∣ NAME ▸ key kind.Open ▸ arguments ▸ key kind.Close
    ∣ NAME ▸ key kind.OpenBox ▸ rule expr ▸ key kind.CloseBox
    ∣ key kind.Size ▸ key kind.Open ▸ NAME ▸ key kind.Close
    ∣ key kind.Size ▸ key kind.Open ▸ key kind.Msg ▸ key kind.Close
    ∣ key kind.Msg ▸ key kind.OpenBox ▸ rule expr ▸ key kind.CloseBox
    ∣ key kind.Open ▸ rule expr ▸ key kind.Close

-- tokens are a whole part: the grammar derives them from it
pub data Whole : Part → List TokenKind → Type 0 where
  w_nothing : Whole nothing []
  w_name : {n : List ℕ} → Whole NAME (kind.Name n ∷ [])
  w_number : {n : ℕ} → Whole NUM (kind.Num n ∷ [])
  w_key : {k : TokenKind} → Whole (key k) (k ∷ [])
  w_rule : {r : Rule} {ms : List TokenKind} → Whole (rules r) ms → Whole (rule r) ms
  w_then : {p q : Part} {ms xs ys : List TokenKind} → Whole p xs → Whole q ys → ms ≡ xs ++ ys → Whole (p ▸ q) ms
  w_left : {p q : Part} {ms : List TokenKind} → Whole p ms → Whole (p ∣ q) ms
  w_right : {p q : Part} {ms : List TokenKind} → Whole q ms → Whole (p ∣ q) ms
  w_end : {p : Part} → Whole (many p) []
  w_more : {p : Part} {ms xs ys : List TokenKind} → Whole p xs → Whole (many p) ys → ms ≡ xs ++ ys → Whole (many p) ms

-- tokens begin a part: none begin every part, and one begins what it is; a part and then another is begun in the
-- first, or in the second after the whole first; `{ x }` in its first x, or later after a whole one
pub data BeginsPart : Part → List TokenKind → Type 0 where
  b_none : {p : Part} → BeginsPart p []
  b_name : {n : List ℕ} → BeginsPart NAME (kind.Name n ∷ [])
  b_number : {n : ℕ} → BeginsPart NUM (kind.Num n ∷ [])
  b_key : {k : TokenKind} → BeginsPart (key k) (k ∷ [])
  b_rule : {r : Rule} {ms : List TokenKind} → BeginsPart (rules r) ms → BeginsPart (rule r) ms
  b_first : {p q : Part} {ms : List TokenKind} → BeginsPart p ms → BeginsPart (p ▸ q) ms
  b_second : {p q : Part} {ms xs ys : List TokenKind} → Whole p xs → BeginsPart q ys → ms ≡ xs ++ ys → BeginsPart (p ▸ q) ms
  b_left : {p q : Part} {ms : List TokenKind} → BeginsPart p ms → BeginsPart (p ∣ q) ms
  b_right : {p q : Part} {ms : List TokenKind} → BeginsPart q ms → BeginsPart (p ∣ q) ms
  b_here : {p : Part} {ms : List TokenKind} → BeginsPart p ms → BeginsPart (many p) ms
  b_later : {p : Part} {ms xs ys : List TokenKind} → Whole p xs → BeginsPart (many p) ys → ms ≡ xs ++ ys → BeginsPart (many p) ms
