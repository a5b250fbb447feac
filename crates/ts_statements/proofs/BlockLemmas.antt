-- The blocks inside others: their frames, and what ends them.
use Rattle.std.proofs.Common.{◌≡◌, List, Option, Some, None, Err, refl, sym, ap, ◌∙◌}
use Rattle.ts_trees.specs.declared.dialect.Dialect.{Dialect}
use Rattle.ts_trees.specs.declared.stmt.Step.{Step}
use Rattle.ts_trees.specs.declared.token.Token.{Token}
use Rattle.ts_trees.specs.declared.token.TokenKind.{TokenKind}
use Rattle.ts_trees.specs.declared.token.TokenKind.TheVariants as kind
use Rattle.ts_trees.specs.declared.word.Word.{Word}
use Rattle.ts_trees.specs.Spelling.{kinds}
use Rattle.ts_trees.specs.Tree.{Tree, Act, Acts, no_acts, while_do, if_then, if_else, for_next}
use Rattle.ts_trees.specs.Code.{kind_code}
use Rattle.ts_trees.specs.Machine.{Frame, then_part, else_part, for_part, while_part, State, block, nexted, if_ended, while_ended, with_act, word, step_if, step_while}
use Rattle.ts_trees.specs.Parsing.{reads, Starts, Lacks, StartsName, LacksName}
use Rattle.ts_statements.specs.Blocks.{FrameIn, LacksStmt, Choice, Branch, Repetition, Count}
use Rattle.ts_trees.proofs.Missing.{lacks_name, only_name}
use Rattle.ts_trees.proofs.Reading.{sign_read, name_read, stops}
use Rattle.ts_statements.proofs.SimpleLemmas.{sign_stops}
use Rattle.ts_statements.proofs.OpeningLemmas.{block_stops, while_ends, else_ends, for_ends}

-- ---- the frames of inner blocks

abbrev pub then_in : {d : Dialect} → Choice d → FrameIn d
then_in k = record { frame = then_part k.test k.before k.frame.frame; speaks = k.frame.speaks }

abbrev pub else_in : {d : Dialect} → Branch d → FrameIn d
else_in k = record { frame = else_part k.choice.test k.body k.choice.before k.choice.frame.frame; speaks = k.choice.frame.speaks }

abbrev pub while_in : {d : Dialect} → Repetition d → FrameIn d
while_in k = record { frame = while_part k.test k.before k.frame.frame; speaks = k.frame.speaks }

abbrev pub for_in : {d : Dialect} → Count d → FrameIn d
for_in k = record { frame = for_part k.var k.from k.to k.step k.before k.frame.frame; speaks = k.frame.speaks }

-- ---- what ends them

only_if : (q : State) (m : TokenKind) → (kind_code m ≡ kind_code kind.If → ⊥) → step_if m q ≡ None
only_if q kind.If h = absurd (h refl)
only_if q m h = refl

only_while : (q : State) (m : TokenKind) → (kind_code m ≡ kind_code kind.While → ⊥) → step_while m q ≡ None
only_while q kind.While h = absurd (h refl)
only_while q m h = refl

pub while_open : {d : Dialect} {ts rest : List Token} → LacksStmt d ts → (rest ≡ ts) × Lacks kind.End ts → (a : Acts) (k : Repetition d) → reads ts (block a (while_part k.test k.before k.frame.frame)) ≡ Err (kinds rest)
while_open o l a k = block_stops kind.End o l a (while_part k.test k.before k.frame.frame) k.frame.speaks refl (while_ends a k.test k.before k.frame.frame)

pub while_end : {ts us : List Token} → Starts kind.End ts us → (a : Acts) (e : Tree) (b : Acts) (f : Frame) → reads ts (block a (while_part e b f)) ≡ reads us (while_ended e a b f)
while_end s a e b f = sign_read kind.End s tt _ _ (λ p. refl)

pub while_named : {ts us : List Token} → Starts kind.While ts us → (e : Tree) (a b : Acts) (f : Frame) → reads ts (while_ended e a b f) ≡ reads us (block (with_act b (while_do e a)) f)
while_named s e a b f = sign_read kind.While s tt _ _ (λ p. refl)

pub while_left : {ts rest : List Token} → (rest ≡ ts) × Lacks kind.While ts → (e : Tree) (a b : Acts) (f : Frame) → reads ts (while_ended e a b f) ≡ Err (kinds rest)
while_left l e a b f = sign_stops kind.While l _ refl (λ m p o. only_while _ m o)

pub for_open : {d : Dialect} {ts rest : List Token} → LacksStmt d ts → (rest ≡ ts) × Lacks kind.Next ts → (a : Acts) (k : Count d) → reads ts (block a (for_part k.var k.from k.to k.step k.before k.frame.frame)) ≡ Err (kinds rest)
for_open o l a k = block_stops kind.Next o l a (for_part k.var k.from k.to k.step k.before k.frame.frame) k.frame.speaks refl (for_ends a k.var k.from k.to k.step k.before k.frame.frame)

pub else_open : {d : Dialect} {ts rest : List Token} → LacksStmt d ts → (rest ≡ ts) × Lacks kind.End ts → (a : Acts) (k : Branch d) → reads ts (block a (else_part k.choice.test k.body k.choice.before k.choice.frame.frame)) ≡ Err (kinds rest)
else_open o l a k =
    block_stops kind.End o l a (else_part k.choice.test k.body k.choice.before k.choice.frame.frame) k.choice.frame.speaks refl (else_ends a k.choice.test k.body k.choice.before k.choice.frame.frame)

pub else_begins : {ts us : List Token} → Starts kind.Else ts us → (a : Acts) (e : Tree) (b : Acts) (f : Frame) → reads ts (block a (then_part e b f)) ≡ reads us (block no_acts (else_part e a b f))
else_begins s a e b f = sign_read kind.Else s tt _ _ (λ p. refl)

pub else_end : {ts us : List Token} → Starts kind.End ts us → (a : Acts) (e : Tree) (c b : Acts) (f : Frame) → reads ts (block a (else_part e c b f)) ≡ reads us (if_ended (if_else e c a) b f)
else_end s a e c b f = sign_read kind.End s tt _ _ (λ p. refl)

pub then_end : {ts us : List Token} → Starts kind.End ts us → (a : Acts) (e : Tree) (b : Acts) (f : Frame) → reads ts (block a (then_part e b f)) ≡ reads us (if_ended (if_then e a) b f)
then_end s a e b f = sign_read kind.End s tt _ _ (λ p. refl)

pub if_named : {ts us : List Token} → Starts kind.If ts us → (x : Act) (a : Acts) (f : Frame) → reads ts (if_ended x a f) ≡ reads us (block (with_act a x) f)
if_named s x a f = sign_read kind.If s tt _ _ (λ p. refl)

pub if_left : {ts rest : List Token} → (rest ≡ ts) × Lacks kind.If ts → (x : Act) (a : Acts) (f : Frame) → reads ts (if_ended x a f) ≡ Err (kinds rest)
if_left l x a f = sign_stops kind.If l _ refl (λ m p o. only_if _ m o)

pub for_next_read : {v : Word} {ts us vs : List Token} → Starts kind.Next ts us → StartsName v us vs → (a : Acts) (w : Word) (s t : Tree) (q : Option Step) (b : Acts) (f : Frame) →
    reads ts (block a (for_part w s t q b f)) ≡ reads vs (block (with_act b (for_next w s t q a v)) f)
for_next_read {v} {us} {vs} n m a w s t q b f =
    sign_read kind.Next n tt _ _ (λ p. refl) ∙ ap (λ xs. reads xs (nexted w s t q a b f)) m.are
    ∙ name_read m.token vs v.name (nexted w s t q a b f) (block (with_act b (for_next w s t q a v)) f) m.name (ap (λ p. Some (block (with_act b (for_next w s t q a (word v.name p))) f)) (sym m.place))

pub for_left : {ts us rest : List Token} → Starts kind.Next ts us → (rest ≡ us) × LacksName us → (a : Acts) (w : Word) (s t : Tree) (q : Option Step) (b : Acts) (f : Frame) → reads ts (block a (for_part w s t q b f)) ≡ Err (kinds rest)
for_left {us} {rest} n l a w s t q b f =
    sign_read kind.Next n tt _ (nexted w s t q a b f) (λ p. refl)
    ∙ stops us (nexted w s t q a b f) refl (λ x more e p. only_name _ x.kind (lacks_name us l.1 x more e) p) ∙ ap (λ z. Err (kinds z)) (sym l.0)
