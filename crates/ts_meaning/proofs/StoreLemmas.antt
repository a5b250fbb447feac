-- A run changes nothing outside what its script writes.
use Rattle.std.proofs.Common.{◌≡◌, ℕ, zero, suc, ℤ, pos, Bool, true, false, ◌||◌, List, [], ◌∷◌, Result, Ok, Err, refl, ap, sym, ◌∙◌, subst}
use Rattle.std.specs.Prelude.{⊤}
use Rattle.std.proofs.lemmas.Bool.{eqb-false}
use Rattle.std.proofs.lemmas.List.{get_or-set_other}
use Rattle.arrayvec.specs.ArrayVec.{ArrayVec}
use Rattle.mate_num.specs.Number.{is_truth}
use Rattle.mate_num.specs.Store.{buffer_at, item_set, appended, last_of, without_last, item_of, payload}
use Rattle.mate_num.specs.declared.call.FaultKind.{FaultKind}
use Rattle.mate_num.specs.declared.call.End.TheVariants.{Fault}
use Rattle.mate_num.specs.declared.call.FaultKind.TheVariants.{Overrun}
use Rattle.mate_num.specs.declared.id.BufId.{BufId}
use Rattle.mate_num.specs.declared.id.FunId.{FunId}
use Rattle.mate_num.specs.declared.resource.Resource.{Resource}
use Rattle.mate_num.specs.declared.resource.Resource.TheVariants as resource
use Rattle.mate_num.specs.declared.shape.Shape.{Shape}
use Rattle.mate_num.specs.declared.store.Store.{Store}
use Rattle.ts_checked.specs.Expression.{Expression, Arguments, no_arguments, argument, Num, Shared, Private, Item, Size, MsgItem, MsgSize, Call, SendBuf, Neg, Not, Two}
use Rattle.ts_checked.specs.Statement.{Statement, Block, no_statements, statement, Set, SetItem, Append, Take, Clear, Do, DoSend, If, IfElse, For, While}
use Rattle.ts_checked.specs.declared.checked_stmt.CVar.{CVar}
use Rattle.ts_checked.specs.declared.checked_stmt.CVar.TheVariants as variable
use Rattle.ts_semantics.specs.State.{ScriptState, Evaluation, Done, Over, then_do, value_or_fault, variable_at, with_variable, with_buffer, buffer_changed, moved, first_ten, next_answer, call_answered, dropped, with_turns, after_round, rounds, loop_does, choose, round_if, begun_state}
use Rattle.ts_semantics.specs.Meaning.{value_of, values_of, applied, while_round, for_round, stepped, body_and_step, is_within, run_stmt, run_block, run_of, played}
use Rattle.mate_code.specs.CodeUses.{writes_in}
use Rattle.mate_code.specs.declared.uses.Use.{Use}
use Rattle.mate_code.specs.declared.uses.Use.TheVariants.{Changes, Gets}
use Rattle.ts_semantics.specs.Uses.{IsSameOutside, variable_has, expr_has, stmt_has, block_has, script_uses}
use Rattle.mate_num.specs.declared.outcome.Outcome.{Outcome}

-- the store that a part of a run leaves
abbrev pub store_after : {A : Type 0} → Evaluation A → Store
store_after (Done a s) = s.store
store_after (Over end s) = s.store

-- what w leaves out, p leaves out too
pub record Covers (w p : Resource → Bool) : Type 0 where
  pub outside : (r : Resource) → w r ≡ false → p r ≡ false

or_left : (a b : Bool) → (a || b) ≡ false → a ≡ false
or_left false b h = refl
or_left true b h = h

or_right : (a b : Bool) → (a || b) ≡ false → b ≡ false
or_right false b h = h
or_right true b h = absurd (cc)

unchanged : (w : Resource → Bool) (a : Store) → IsSameOutside w a a
unchanged w a = record { shared = λ v h. refl; buffers = λ p h. refl }

in_turn : (w : Resource → Bool) (a b c : Store) → IsSameOutside w a b → IsSameOutside w b c → IsSameOutside w a c
in_turn w a b c x y = record { shared = λ v h. y.shared v h ∙ x.shared v h; buffers = λ p h. y.buffers p h ∙ x.buffers p h }

-- what is written, part by part
module _ (shape : Shape) where
  abbrev writes_to : Resource → Use → Bool
  writes_to r u = writes_in shape u r

  abbrev variable_writes : CVar → Resource → Bool
  variable_writes x r = variable_has (writes_to r) Changes x

  abbrev buffer_writes : BufId → Resource → Bool
  buffer_writes p r = writes_to r (Changes (resource.Buffer p))

  abbrev expr_writes : Expression → Resource → Bool
  expr_writes e r = expr_has (writes_to r) e

  abbrev stmt_writes : Statement → Resource → Bool
  stmt_writes x r = stmt_has (writes_to r) x

  abbrev block_writes : Block → Resource → Bool
  block_writes b r = block_has (writes_to r) b

module _ (shape : Shape) (w : Resource → Bool) where
  then_do-keeps : {A B : Type 0} (o : Evaluation A) (next : A → ScriptState → Evaluation B) (st : Store) → IsSameOutside w st (store_after o)
      → ((a : A) (s : ScriptState) → IsSameOutside w s.store (store_after (next a s))) → IsSameOutside w st (store_after (then_do o next))
  then_do-keeps (Done a s) next st first keeps = in_turn w st s.store (store_after (next a s)) first (keeps a s)
  then_do-keeps (Over end s) next st first keeps = first

  with_variable-keeps : (x : CVar) (v : ℤ) (s : ScriptState) → Covers w (variable_writes shape x) → IsSameOutside w s.store (with_variable x v s).store
  with_variable-keeps (variable.Shared x) v s c =
      record {
        shared = λ u h. get_or-set_other s.store.shared.items x.0 u.0 v (pos 0) (λ e. eqb-false x.0 u.0 (c.outside _ h) (sym e));
        buffers = λ p h. refl;
      }
  with_variable-keeps (variable.Private i) v s c = unchanged w s.store

  with_buffer-keeps : (p : BufId) (values : List ℤ) (s : ScriptState) → Covers w (buffer_writes shape p) → IsSameOutside w s.store (with_buffer p values s).store
  with_buffer-keeps p values s c =
      record {
        shared = λ u h. refl;
        buffers = λ q h. ap (λ (b : ArrayVec ℤ). b.items)
            (get_or-set_other s.store.buffers.items p.0 q.0 (payload values) (payload []) (λ e. eqb-false p.0 q.0 (c.outside _ h) (sym e)));
      }

  given-keeps : {A : Type 0} (r : Result A FaultKind) (s : ScriptState) → IsSameOutside w s.store (store_after (value_or_fault r s))
  given-keeps (Ok a) s = unchanged w s.store
  given-keeps (Err kind) s = unchanged w s.store

  changed-keeps : (p : BufId) (r : Result (List ℤ) FaultKind) (s : ScriptState) → Covers w (buffer_writes shape p) → IsSameOutside w s.store (store_after (buffer_changed p r s))
  changed-keeps p (Ok values) s c = with_buffer-keeps p values s c
  changed-keeps p (Err kind) s c = unchanged w s.store

  moved-keeps : (x : CVar) (p : BufId) (r : Result ℤ FaultKind) (s : ScriptState) → Covers w (variable_writes shape x) → Covers w (buffer_writes shape p)
      → IsSameOutside w s.store (store_after (moved x p r s))
  moved-keeps x p (Ok a) s cx cp =
      let t : ScriptState = with_buffer p (without_last (buffer_at s.store p.0)) s in
      in_turn w s.store t.store (with_variable x a t).store (with_buffer-keeps p (without_last (buffer_at s.store p.0)) s cp) (with_variable-keeps x a t cx)
  moved-keeps x p (Err kind) s cx cp = unchanged w s.store

  answered-keeps : (f : FunId) (args : ArrayVec ℤ) (left : List ℤ) (s : ScriptState) → IsSameOutside w s.store (store_after (call_answered f args left s))
  answered-keeps f args [] s = unchanged w s.store
  answered-keeps f args (a ∷ left) s = unchanged w s.store

  mutual
    value_of-keeps : (e : Expression) (s : ScriptState) → IsSameOutside w s.store (store_after (value_of e s))
    value_of-keeps (Item p e) s =
        then_do-keeps (value_of e s) (λ i s. value_or_fault (item_of (buffer_at s.store p.0) i) s) s.store (value_of-keeps e s)
        (λ i t. given-keeps (item_of (buffer_at t.store p.0) i) t)
    value_of-keeps (MsgItem e) s =
        then_do-keeps (value_of e s) (λ i s. value_or_fault (item_of s.msg i) s) s.store (value_of-keeps e s) (λ i t. given-keeps (item_of t.msg i) t)
    value_of-keeps (Call f args) s =
        then_do-keeps (values_of args s) (λ values s. next_answer f (first_ten values) s) s.store (values_of-keeps args s)
        (λ values t. answered-keeps f (first_ten values) t.left t)
    value_of-keeps (SendBuf f p) s = answered-keeps f (payload (buffer_at s.store p.0)) s.left s
    value_of-keeps (Neg e) s = then_do-keeps (value_of e s) _ s.store (value_of-keeps e s) (λ a t. unchanged w t.store)
    value_of-keeps (Not e) s = then_do-keeps (value_of e s) _ s.store (value_of-keeps e s) (λ a t. unchanged w t.store)
    value_of-keeps (Two op l r) s =
        then_do-keeps (value_of l s) (λ a s. then_do (value_of r s) (λ b s. value_or_fault (applied op a b) s)) s.store (value_of-keeps l s)
        (λ a t. then_do-keeps (value_of r t) (λ b s. value_or_fault (applied op a b) s) t.store (value_of-keeps r t) (λ b u. given-keeps (applied op a b) u))
    value_of-keeps _ s = unchanged w s.store

    values_of-keeps : (es : Arguments) (s : ScriptState) → IsSameOutside w s.store (store_after (values_of es s))
    values_of-keeps no_arguments s = unchanged w s.store
    values_of-keeps (argument e es) s =
        then_do-keeps (value_of e s) (λ a s. then_do (values_of es s) (λ values s. Done (a ∷ values) s)) s.store (value_of-keeps e s)
        (λ a t. then_do-keeps (values_of es t) (λ values s. Done (a ∷ values) s) t.store (values_of-keeps es t) (λ values u. unchanged w u.store))

  with_turns-keeps : (k : ℕ) (next : ScriptState → Evaluation ⊤) (s : ScriptState) → ((t : ScriptState) → IsSameOutside w t.store (store_after (next t)))
      → IsSameOutside w s.store (store_after (with_turns k next s))
  with_turns-keeps zero next s keeps = unchanged w s.store
  with_turns-keeps (suc k) next s keeps = keeps (record s { turns = k })

  after_round-keeps : (next : ScriptState → Evaluation ⊤) → ((t : ScriptState) → IsSameOutside w t.store (store_after (next t))) → (again : Bool) (s : ScriptState)
      → IsSameOutside w s.store (store_after (after_round next again s))
  after_round-keeps next keeps true s = with_turns-keeps s.turns next s keeps
  after_round-keeps next keeps false s = unchanged w s.store

  rounds-keeps : (n : ℕ) (round : ScriptState → Evaluation Bool) → ((t : ScriptState) → IsSameOutside w t.store (store_after (round t))) → (s : ScriptState)
      → IsSameOutside w s.store (store_after (rounds n round s))
  rounds-keeps zero round keeps s =
      then_do-keeps (round s) (after_round (λ s. Over (Fault Overrun) s)) s.store (keeps s)
      (after_round-keeps (λ s. Over (Fault Overrun) s) (λ t. unchanged w t.store))
  rounds-keeps (suc n) round keeps s =
      then_do-keeps (round s) (after_round (rounds n round)) s.store (keeps s) (after_round-keeps (rounds n round) (rounds-keeps n round keeps))

  choose-keeps : (b : Bool) (x y : ScriptState → Evaluation ⊤) → ((t : ScriptState) → IsSameOutside w t.store (store_after (x t)))
      → ((t : ScriptState) → IsSameOutside w t.store (store_after (y t))) → (s : ScriptState) → IsSameOutside w s.store (store_after (choose b x y s))
  choose-keeps true x y fx fy s = fx s
  choose-keeps false x y fx fy s = fy s

  round_if-keeps : (b : Bool) (body : ScriptState → Evaluation ⊤) → ((t : ScriptState) → IsSameOutside w t.store (store_after (body t))) → (s : ScriptState)
      → IsSameOutside w s.store (store_after (round_if b body s))
  round_if-keeps true body keeps s = then_do-keeps (body s) (λ _ s. Done true s) s.store (keeps s) (λ _ t. unchanged w t.store)
  round_if-keeps false body keeps s = unchanged w s.store

  while_round-keeps : (e : Expression) (body : ScriptState → Evaluation ⊤) → ((t : ScriptState) → IsSameOutside w t.store (store_after (body t))) → (s : ScriptState)
      → IsSameOutside w s.store (store_after (while_round (value_of e) body s))
  while_round-keeps e body keeps s =
      then_do-keeps (value_of e s) (λ a s. round_if (is_truth a) body s) s.store (value_of-keeps e s) (λ a t. round_if-keeps (is_truth a) body keeps t)

  body_and_step-keeps : (x : CVar) (step : ℤ) (body : ScriptState → Evaluation ⊤) → Covers w (variable_writes shape x)
      → ((t : ScriptState) → IsSameOutside w t.store (store_after (body t))) → (s : ScriptState) → IsSameOutside w s.store (store_after (body_and_step x step body s))
  body_and_step-keeps x step body c keeps s =
      then_do-keeps (body s) (λ _ s. Done (tt {0}) (stepped x step s)) s.store (keeps s) (λ _ t. with_variable-keeps x _ t c)

  for_round-keeps : (x : CVar) (to : Expression) (step : ℤ) (body : ScriptState → Evaluation ⊤) → Covers w (variable_writes shape x)
      → ((t : ScriptState) → IsSameOutside w t.store (store_after (body t))) → (s : ScriptState) → IsSameOutside w s.store (store_after (for_round x (value_of to) step body s))
  for_round-keeps x to step body c keeps s =
      then_do-keeps (value_of to s) (λ bound t. round_if (is_within step (variable_at x s) bound) (body_and_step x step body) t) s.store (value_of-keeps to s)
      (λ bound t. round_if-keeps (is_within step (variable_at x s) bound) (body_and_step x step body) (body_and_step-keeps x step body c keeps) t)

  mutual
    run_stmt-keeps : (x : Statement) → Covers w (stmt_writes shape x) → (s : ScriptState) → IsSameOutside w s.store (store_after (run_stmt x s))
    run_stmt-keeps (Set x e) c s =
        then_do-keeps (value_of e s) (λ a s. Done tt (with_variable x a s)) s.store (value_of-keeps e s)
        (λ a t. with_variable-keeps x a t (record { outside = λ r h. or_left (variable_writes shape x r) (expr_writes shape e r) (c.outside r h) }))
    run_stmt-keeps (SetItem p index e) c s =
        then_do-keeps (value_of index s) (λ i s. then_do (value_of e s) (λ a s. buffer_changed p (item_set (buffer_at s.store p.0) i a) s)) s.store (value_of-keeps index s)
        (λ i t. then_do-keeps (value_of e t) (λ a s. buffer_changed p (item_set (buffer_at s.store p.0) i a) s) t.store (value_of-keeps e t)
        (λ a u. changed-keeps p (item_set (buffer_at u.store p.0) i a) u (record { outside = λ r h. or_left (buffer_writes shape p r) (expr_writes shape index r) (or_left (buffer_writes shape p r || expr_writes shape index r) (expr_writes shape e r) (c.outside r h)) })))
    run_stmt-keeps (Append p e) c s =
        then_do-keeps (value_of e s) (λ a s. buffer_changed p (appended (buffer_at s.store p.0) a) s) s.store (value_of-keeps e s)
        (λ a t. changed-keeps p (appended (buffer_at t.store p.0) a) t (record { outside = λ r h. or_left (buffer_writes shape p r) (expr_writes shape e r) (c.outside r h) }))
    run_stmt-keeps (Take x p) c s =
        moved-keeps x p (last_of (buffer_at s.store p.0)) s (record { outside = λ r h. or_left (variable_writes shape x r) (buffer_writes shape p r) (c.outside r h) })
        (record { outside = λ r h. or_right (variable_writes shape x r) (buffer_writes shape p r) (c.outside r h) })
    run_stmt-keeps (Clear p) c s = with_buffer-keeps p [] s (record { outside = λ r h. c.outside r h })
    run_stmt-keeps (Do f args) c s =
        then_do-keeps (value_of (Call f args) s) dropped s.store (value_of-keeps (Call f args) s) (λ a t. unchanged w t.store)
    run_stmt-keeps (DoSend f p) c s =
        then_do-keeps (value_of (SendBuf f p) s) dropped s.store (value_of-keeps (SendBuf f p) s) (λ a t. unchanged w t.store)
    run_stmt-keeps (If e a) c s =
        then_do-keeps (value_of e s) (λ v s. choose (is_truth v) (run_block a) (Done tt) s) s.store (value_of-keeps e s)
        (λ v t. choose-keeps (is_truth v) (run_block a) (Done tt)
        (run_block-keeps a (record { outside = λ r h. or_right (expr_writes shape e r) (block_writes shape a r) (c.outside r h) })) (λ u. unchanged w u.store) t)
    run_stmt-keeps (IfElse e a b) c s =
        then_do-keeps (value_of e s) (λ v s. choose (is_truth v) (run_block a) (run_block b) s) s.store (value_of-keeps e s)
        (λ v t. choose-keeps (is_truth v) (run_block a) (run_block b)
        (run_block-keeps a (record {
          outside = λ r h. or_right (expr_writes shape e r) (block_writes shape a r)
              (or_left (expr_writes shape e r || block_writes shape a r) (block_writes shape b r) (c.outside r h));
        }))
        (run_block-keeps b (record { outside = λ r h. or_right (expr_writes shape e r || block_writes shape a r) (block_writes shape b r) (c.outside r h) })) t)
    run_stmt-keeps (For x from to step a) c s =
        let of_head : (r : Resource) → w r ≡ false → (variable_writes shape x r || variable_has (writes_to shape r) Gets x || expr_writes shape from r || expr_writes shape to r) ≡ false =
        λ r h. or_left (variable_writes shape x r || variable_has (writes_to shape r) Gets x || expr_writes shape from r || expr_writes shape to r) (block_writes shape a r) (c.outside r h) in
        let of_variable : Covers w (variable_writes shape x) =
        record {
          outside = λ r h. or_left (variable_writes shape x r) (variable_has (writes_to shape r) Gets x)
              (or_left (variable_writes shape x r || variable_has (writes_to shape r) Gets x) (expr_writes shape from r)
              (or_left (variable_writes shape x r || variable_has (writes_to shape r) Gets x || expr_writes shape from r) (expr_writes shape to r) (of_head r h)));
        } in
        let of_body : Covers w (block_writes shape a) =
        record { outside = λ r h. or_right (variable_writes shape x r || variable_has (writes_to shape r) Gets x || expr_writes shape from r || expr_writes shape to r) (block_writes shape a r) (c.outside r h) } in
        then_do-keeps (value_of from s) (λ v s. loop_does (for_round x (value_of to) step (run_block a)) (with_variable x v s)) s.store (value_of-keeps from s)
        (λ v t. in_turn w t.store (with_variable x v t).store _ (with_variable-keeps x v t of_variable)
        (rounds-keeps (with_variable x v t).turns (for_round x (value_of to) step (run_block a))
        (for_round-keeps x to step (run_block a) of_variable (run_block-keeps a of_body)) (with_variable x v t)))
    run_stmt-keeps (While e a) c s =
        rounds-keeps s.turns (while_round (value_of e) (run_block a))
        (while_round-keeps e (run_block a) (run_block-keeps a (record { outside = λ r h. or_right (expr_writes shape e r) (block_writes shape a r) (c.outside r h) }))) s

    run_block-keeps : (b : Block) → Covers w (block_writes shape b) → (s : ScriptState) → IsSameOutside w s.store (store_after (run_block b s))
    run_block-keeps no_statements c s = unchanged w s.store
    run_block-keeps (statement x b) c s =
        then_do-keeps (run_stmt x s) (λ _ s. run_block b s) s.store
        (run_stmt-keeps x (record { outside = λ r h. or_left (stmt_writes shape x r) (block_writes shape b r) (c.outside r h) }) s)
        (λ _ t. run_block-keeps b (record { outside = λ r h. or_right (stmt_writes shape x r) (block_writes shape b r) (c.outside r h) }) t)

played-store : (o : Evaluation ⊤) → (played o).store ≡ store_after o
played-store (Done a s) = refl
played-store (Over end s) = refl

-- what a run leaves is the same outside what its script writes
pub outside_writes : (shape : Shape) (tree : Block) (store : Store) (msg : ArrayVec ℤ) (answers : List ℤ) (turns : ℕ) (p : Outcome) → p ≡ run_of tree store msg answers turns
    → IsSameOutside (script_uses shape tree).writes store p.store
outside_writes shape tree store msg answers turns p e =
    let o : Evaluation ⊤ = run_block tree (begun_state store msg answers turns) in
    let f : store_after o ≡ p.store = sym (played-store o) ∙ sym (ap (λ (q : Outcome). q.store) e) in
    let P : Store → Type 0 = λ st. IsSameOutside (script_uses shape tree).writes store st in
    subst P f (run_block-keeps shape (block_writes shape tree) tree (record { outside = λ r h. h }) (begun_state store msg answers turns))
