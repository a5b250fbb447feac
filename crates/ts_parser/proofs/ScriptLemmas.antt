-- Reading declarations, procedures and scripts: which token is taken in each state, and when none fits.
use Rattle.std.proofs.Common.{◌≡◌, ℕ, Bool, true, false, List, [], ◌∷◌, ◌++◌, Some, None, Ok, Err, refl, sym, ◌∙◌, ap, subst, Result, Bor}
use Rattle.ts_trees.specs.declared.word.Word.{Word}
use Rattle.ts_trees.specs.declared.dialect.Dialect.{Dialect}
use Rattle.ts_trees.specs.declared.dialect.Dialect.TheVariants as dialect
use Rattle.ts_trees.specs.declared.stmt.Stmt.{Stmt}
use Rattle.ts_trees.specs.declared.script.Decl.{Decl}
use Rattle.ts_trees.specs.declared.script.DeclKind.{DeclKind}
use Rattle.ts_trees.specs.declared.token.Token.{Token}
use Rattle.ts_trees.specs.declared.token.TokenKind.{TokenKind}
use Rattle.ts_trees.specs.declared.token.TokenKind.TheVariants as kind
use Rattle.ts_trees.specs.Seen.{acts_of, procedure_source_of}
use Rattle.ts_trees.specs.Spelling.{kinds}
use Rattle.ts_trees.specs.Tree.{Acts, no_acts, Procedure}
use Rattle.ts_trees.specs.Parsing.{Holds, noted_then, Gives, reads, Starts, Lacks, Takes, StartsName, LacksName, TakesName, Reads}
use Rattle.ts_trees.specs.Code.{kind_code}
use Rattle.ts_trees.specs.Machine.{top, State, decls, decl_name, decl_more, declared, block, word, step, step_frame, takes, places_after, first_place, finish, going, run, start, main, proc_part, dialect_of, procedures, proc_word, proc_named, proc_opened, param_read, param_due, read_script, ending, procedure, proc_ended, step_proc}
use Rattle.ts_statements.specs.Blocks.{LacksStmt, FrameIn}
use Rattle.ts_parser.specs.Scripts.{decl_kind, StartsDecl, LacksDecl, Header, params_due, script_frame, FewIn, Routine, ReadsScript}
use Rattle.ts_trees.proofs.Missing.{IsOther, lacks_first, lacks_name, only_name, only_open}
use Rattle.ts_trees.proofs.Reading.{is_plain, sign_read, name_read, stops, agree}
use Rattle.ts_statements.proofs.SimpleLemmas.{sign_stops}
use Rattle.ts_statements.proofs.OpeningLemmas.{block_stops, ends_block}
use Rattle.std.specs.Result.{IsErrAnd}
use Rattle.ts_trees.specs.declared.procedure.ProcScript.{ProcScript}
use Rattle.ts_trees.specs.declared.halt.Halt.{Halt}
use Rattle.ts_trees.specs.declared.halt.Halt.TheVariants as halt
use Rattle.ts_statements.proofs.Halting.{passed_on, same_fault}

-- ---- declarations

pub decl_named : {v : Word} {ts us : List Token} → StartsName v ts us → (d : Dialect) (k : DeclKind) (b : Bool) (ds : List Decl) → reads ts (decl_name d k b ds) ≡ reads us (decl_more d k (ds ++ declared k b v ∷ []))
decl_named {v} {ts} {us} s d k b ds =
    ap (λ xs. reads xs (decl_name d k b ds)) s.are
    ∙ name_read s.token us v.name (decl_name d k b ds) (decl_more d k (ds ++ declared k b v ∷ [])) s.name (ap (λ p. Some (decl_more d k (ds ++ declared k b (word v.name p) ∷ []))) (sym s.place))

pub decl_missing : (ts : List Token) → LacksName ts → (d : Dialect) (k : DeclKind) (b : Bool) (ds : List Decl) → reads ts (decl_name d k b ds) ≡ Err (kinds ts)
decl_missing ts l d k b ds = stops ts (decl_name d k b ds) refl (λ t more e. only_name _ t.kind (lacks_name ts l t more e))

pub decl_follows : {ts us : List Token} → Starts kind.Comma ts us → (d : Dialect) (k : DeclKind) (ds : List Decl) → reads ts (decl_more d k ds) ≡ reads us (decl_name d k false ds)
decl_follows o d k ds = sign_read kind.Comma o tt (decl_more d k ds) (decl_name d k false ds) (λ p. refl)

only_more : (d : Dialect) (k : DeclKind) (ds : List Decl) (m : TokenKind) → IsOther kind.Comma m → IsOther kind.Semi m → (p : ℕ) → step (decl_more d k ds) m p ≡ None
only_more d k ds kind.Comma h g p = absurd (h refl)
only_more d k ds kind.Semi h g p = absurd (g refl)
only_more d k ds m h g p = refl

-- where a name is missing
pub name_halts : (P : Bor (List Token) → Type 0) (Q : List Token → Type 0) (ts : List Token) → (LacksName ts → Q ts) → (r : Result (Bor (List Token)) Halt) (e : Halt) → IsErrAnd r (λ x. x ≡ e) → TakesName ts (Err e) → Gives r P Q
name_halts P Q ts s r halt.Memory i h = absurd h
name_halts P Q ts s r (halt.At rest) i h = same_fault P Q r (halt.At rest) i (subst Q (sym h.0) (s h.1))

-- the end of a declaration, or another token
pub decl_closes : (ts us : List Token) (q : Dialect → State) (k : DeclKind) (ds : List Decl) → ((d : Dialect) → reads ts (q d) ≡ reads us (decl_more d k ds)) → Lacks kind.Comma us → (r : Result (Bor (List Token)) Halt) → Takes kind.Semi us r
    → Gives r (λ rest. (d : Dialect) → reads ts (q d) ≡ reads rest.now (decls d ds)) (λ rest. (d : Dialect) → reads ts (q d) ≡ Err (kinds rest))
decl_closes ts us q k ds b l (Ok rest) h = λ d. b d ∙ sign_read kind.Semi h tt (decl_more d k ds) (decls d ds) (λ p. refl)
decl_closes ts us q k ds b l (Err halt.Memory) h = absurd h
decl_closes ts us q k ds b l (Err (halt.At rest)) h =
    λ d. b d ∙ stops us (decl_more d k ds) refl (λ t more e. only_more d k ds t.kind (lacks_first kind.Comma us l t more e) (lacks_first kind.Semi us h.1 t more e)) ∙ ap (λ z. Err (kinds z)) (sym h.0)

sign_same : {a b : DeclKind} → Some a ≡ Some b → a ≡ b
sign_same h = cc

no_sign : {a : DeclKind} → None ≡ Some a → ⊥
no_sign h = cc

decl_at : (m : TokenKind) → Holds (is_plain m) → {k p : DeclKind} {ts us : List Token} → (s : StartsDecl k ts us) → s.token.kind ≡ m → p ≡ k → (q : State) (r : DeclKind → State) → ((n : ℕ) → step q m n ≡ Some (r p)) → reads ts q ≡ reads us (r k)
decl_at m plain {p = p} {us = us} s is same q r e = sign_read m (record { token = s.token; are = s.are; kind = ap kind_code is }) plain q (r p) e ∙ ap (λ x. reads us (r x)) same

-- the keyword of a declaration
pub decl_begins : {k : DeclKind} {ts us : List Token} → StartsDecl k ts us → (d : Dialect) (ds : List Decl) → reads ts (decls d ds) ≡ reads us (decl_name d k true ds)
decl_begins {k} {ts} {us} s d ds = at s.token.kind refl s.declares
  where
    at : (m : TokenKind) → s.token.kind ≡ m → decl_kind m ≡ Some k → reads ts (decls d ds) ≡ reads us (decl_name d k true ds)
    at kind.Shared is h = decl_at kind.Shared tt s is (sign_same h) (decls d ds) (λ x. decl_name d x true ds) (λ n. refl)
    at kind.Private is h = decl_at kind.Private tt s is (sign_same h) (decls d ds) (λ x. decl_name d x true ds) (λ n. refl)
    at kind.Buffer is h = decl_at kind.Buffer tt s is (sign_same h) (decls d ds) (λ x. decl_name d x true ds) (λ n. refl)
    at m is h = absurd (no_sign h)

-- declarations that stop where one does
pub decls_halt : {X Y : Type 0} (P : X → Type 0) (P' : Y → Type 0) (ts us : List Token) (q p : Dialect → State) → ((d : Dialect) → reads ts (q d) ≡ reads us (p d)) → (r : Result Y Halt) (e : Halt) → IsErrAnd r (λ x. x ≡ e)
    → Gives {X = X} (Err e) P (λ rest. (d : Dialect) → reads us (p d) ≡ Err (kinds rest)) → Gives {X = Y} r P' (λ rest. (d : Dialect) → reads ts (q d) ≡ Err (kinds rest))
decls_halt {X} {Y} P P' ts us q p b r e i h =
    same_fault {Y = Y} P' (λ rest. (d : Dialect) → reads ts (q d) ≡ Err (kinds rest)) r e i
    (passed_on {X = X} {Y = Y} P (λ rest. (d : Dialect) → reads us (p d) ≡ Err (kinds rest)) P' (λ rest. (d : Dialect) → reads ts (q d) ≡ Err (kinds rest)) (λ rest h d. b d ∙ h d) e h)

-- ---- procedures

pub header_missing : {ts rest : List Token} → (rest ≡ ts) × LacksName ts → (ds : List Decl) (ps : List Procedure) → reads ts (proc_word ds ps) ≡ Err (kinds rest)
header_missing {ts} {rest} l ds ps = stops ts (proc_word ds ps) refl (λ t more e. only_name _ t.kind (lacks_name ts l.1 t more e)) ∙ ap (λ z. Err (kinds z)) (sym l.0)

pub header_names : {v : Word} {ts us : List Token} → StartsName v ts us → (ds : List Decl) (ps : List Procedure) → reads ts (proc_word ds ps) ≡ reads us (proc_named v ds ps)
header_names {v} {ts} {us} s ds ps =
    ap (λ xs. reads xs (proc_word ds ps)) s.are
    ∙ name_read s.token us v.name (proc_word ds ps) (proc_named v ds ps) s.name (ap (λ p. Some (proc_named (word v.name p) ds ps)) (sym s.place))

pub header_open : {us rest : List Token} → (rest ≡ us) × Lacks kind.Open us → (v : Word) (ds : List Decl) (ps : List Procedure) → reads us (proc_named v ds ps) ≡ Err (kinds rest)
header_open l v ds ps = sign_stops kind.Open l _ refl (λ m p o. only_open _ m o)

pub header_begins : {us vs : List Token} → Starts kind.Open us vs → (v : Word) (ds : List Decl) (ps : List Procedure) → reads us (proc_named v ds ps) ≡ reads vs (proc_opened v ds ps)
header_begins o v ds ps = sign_read kind.Open o tt _ _ (λ p. refl)

pub no_params : {ts us : List Token} → Starts kind.Close ts us → (w : Word) (ds : List Decl) (ps : List Procedure) → reads ts (proc_opened w ds ps) ≡ reads us (block no_acts (proc_part w [] ds ps))
no_params o w ds ps = sign_read kind.Close o tt _ _ (λ p. refl)

params_step : (w : Word) (ds : List Decl) (ps : List Procedure) (m : TokenKind) → IsOther kind.Close m → (p : ℕ) → step (proc_opened w ds ps) m p ≡ step (param_due w [] ds ps) m p
params_step w ds ps kind.Close h p = absurd (h refl)
params_step w ds ps m h p = refl

-- the first parameter
pub params_begin : (ts : List Token) → Lacks kind.Close ts → (h : Header) → reads ts (params_due h) ≡ reads ts (param_due h.name [] h.decls h.procs)
params_begin ts l h = agree ts _ _ refl refl (λ t rest e p. params_step h.name h.decls h.procs t.kind (lacks_first kind.Close ts l t rest e) p)

pub param_taken : {v : Word} {ts us : List Token} → StartsName v ts us → (w : Word) (ws : List Word) (ds : List Decl) (ps : List Procedure) → reads ts (param_due w ws ds ps) ≡ reads us (param_read w ws v ds ps)
param_taken {v} {ts} {us} s w ws ds ps =
    ap (λ xs. reads xs (param_due w ws ds ps)) s.are
    ∙ name_read s.token us v.name (param_due w ws ds ps) (param_read w ws v ds ps) s.name (ap (λ p. Some (param_read w ws (word v.name p) ds ps)) (sym s.place))

pub param_missing : {ts rest : List Token} → (rest ≡ ts) × LacksName ts → (w : Word) (ws : List Word) (ds : List Decl) (ps : List Procedure) → reads ts (param_due w ws ds ps) ≡ Err (kinds rest)
param_missing {ts} {rest} l w ws ds ps = stops ts (param_due w ws ds ps) refl (λ t more e. only_name _ t.kind (lacks_name ts l.1 t more e)) ∙ ap (λ z. Err (kinds z)) (sym l.0)

pub param_follows : {ts us : List Token} → Starts kind.Comma ts us → (w : Word) (ws : List Word) (v : Word) (ds : List Decl) (ps : List Procedure) → reads ts (param_read w ws v ds ps) ≡ reads us (param_due w (ws ++ v ∷ []) ds ps)
param_follows o w ws v ds ps = sign_read kind.Comma o tt _ _ (λ p. refl)

pub params_close : {ts us : List Token} → Starts kind.Close ts us → (w : Word) (ws : List Word) (v : Word) (ds : List Decl) (ps : List Procedure) → reads ts (param_read w ws v ds ps) ≡ reads us (block no_acts (proc_part w (ws ++ v ∷ []) ds ps))
params_close o w ws v ds ps = sign_read kind.Close o tt _ _ (λ p. refl)

only_param : (w : Word) (ws : List Word) (v : Word) (ds : List Decl) (ps : List Procedure) (m : TokenKind) → IsOther kind.Comma m → IsOther kind.Close m → (p : ℕ) → step (param_read w ws v ds ps) m p ≡ None
only_param w ws v ds ps kind.Comma h g p = absurd (h refl)
only_param w ws v ds ps kind.Close h g p = absurd (g refl)
only_param w ws v ds ps m h g p = refl

pub param_stops : {ts rest : List Token} → Lacks kind.Comma ts → (rest ≡ ts) × Lacks kind.Close ts → (w : Word) (ws : List Word) (v : Word) (ds : List Decl) (ps : List Procedure) → reads ts (param_read w ws v ds ps) ≡ Err (kinds rest)
param_stops {ts} {rest} o l w ws v ds ps =
    stops ts _ refl (λ t more e p. only_param w ws v ds ps t.kind (lacks_first kind.Comma ts o t more e) (lacks_first kind.Close ts l.1 t more e) p) ∙ ap (λ z. Err (kinds z)) (sym l.0)

pub proc_begins : {ts us : List Token} → Starts kind.Proc ts us → (ds : List Decl) (ps : List Procedure) → reads ts (procedures ds ps) ≡ reads us (proc_word ds ps)
proc_begins o ds ps = sign_read kind.Proc o tt _ _ (λ p. refl)

main_step : (ds : List Decl) (ps : List Procedure) (m : TokenKind) → IsOther kind.Proc m → (p : ℕ) → step (procedures ds ps) m p ≡ step (block no_acts (main ds ps)) m p
main_step ds ps kind.Proc h p = absurd (h refl)
main_step ds ps m h p = refl

-- no further procedure
pub main_begins : (ts : List Token) → Lacks kind.Proc ts → (ds : List Decl) (ps : List Procedure) → reads ts (procedures ds ps) ≡ reads ts (block no_acts (main ds ps))
main_begins ts l ds ps = agree ts _ _ refl refl (λ t rest e p. main_step ds ps t.kind (lacks_first kind.Proc ts l t rest e) p)

pub routine_ends : (a : Acts) (w : Word) (ws : List Word) (ds : List Decl) (ps : List Procedure) (m : TokenKind) → IsOther kind.End m → step_frame a (proc_part w ws ds ps) m ≡ None
routine_ends a w ws ds ps kind.End h = absurd (h refl)
routine_ends a w ws ds ps m h = refl

abbrev pub routine_in : Routine → FrameIn dialect.Procedures
routine_in k = record { frame = proc_part k.header.name k.params k.header.decls k.header.procs; speaks = refl }

only_proc : (q : State) (m : TokenKind) → (kind_code m ≡ kind_code kind.Proc → ⊥) → step_proc m q ≡ None
only_proc q kind.Proc h = absurd (h refl)
only_proc q m h = refl

pub routine_open : {ts rest : List Token} → LacksStmt dialect.Procedures ts → (rest ≡ ts) × Lacks kind.End ts → (a : Acts) (k : Routine) → reads ts (block a (proc_part k.header.name k.params k.header.decls k.header.procs)) ≡ Err (kinds rest)
routine_open o l a k =
    block_stops kind.End o l a (proc_part k.header.name k.params k.header.decls k.header.procs) refl refl (routine_ends a k.header.name k.params k.header.decls k.header.procs)

pub routine_end : {ts us : List Token} → Starts kind.End ts us → (a : Acts) (w : Word) (ws : List Word) (ds : List Decl) (ps : List Procedure) → reads ts (block a (proc_part w ws ds ps)) ≡ reads us (proc_ended (procedure w ws a) ds ps)
routine_end s a w ws ds ps = sign_read kind.End s tt _ _ (λ p. refl)

pub routine_named : {ts us : List Token} → Starts kind.Proc ts us → (q : Procedure) (ds : List Decl) (ps : List Procedure) → reads ts (proc_ended q ds ps) ≡ reads us (procedures ds (ps ++ q ∷ []))
routine_named s q ds ps = sign_read kind.Proc s tt _ _ (λ p. refl)

pub routine_left : {ts rest : List Token} → (rest ≡ ts) × Lacks kind.Proc ts → (q : Procedure) (ds : List Decl) (ps : List Procedure) → reads ts (proc_ended q ds ps) ≡ Err (kinds rest)
routine_left l q ds ps = sign_stops kind.Proc l _ refl (λ m p o. only_proc _ m o)

-- ---- a whole script

plain_step : (ds : List Decl) (m : TokenKind) (p : ℕ) → decl_kind m ≡ None → step (decls dialect.Plain ds) m p ≡ step (block no_acts (top ds)) m p
plain_step ds kind.Shared p h = cc
plain_step ds kind.Private p h = cc
plain_step ds kind.Buffer p h = cc
plain_step ds m p h = refl

procedures_step : (ds : List Decl) (m : TokenKind) (p : ℕ) → decl_kind m ≡ None → step (decls dialect.Procedures ds) m p ≡ step (procedures ds []) m p
procedures_step ds kind.Shared p h = cc
procedures_step ds kind.Private p h = cc
procedures_step ds kind.Buffer p h = cc
procedures_step ds m p h = refl

lacks_keyword : (ts : List Token) → LacksDecl ts → (t : Token) (rest : List Token) → ts ≡ t ∷ rest → decl_kind t.kind ≡ None
lacks_keyword ts l t rest e = let h : LacksDecl (t ∷ rest) = subst LacksDecl e l in h

pub body_begins : (ts : List Token) → LacksDecl ts → (ds : List Decl) → reads ts (decls dialect.Plain ds) ≡ reads ts (block no_acts (top ds))
body_begins ts l ds = agree ts _ _ refl refl (λ t rest e p. plain_step ds t.kind p (lacks_keyword ts l t rest e))

pub procedures_begin : (ts : List Token) → LacksDecl ts → (ds : List Decl) → reads ts (decls dialect.Procedures ds) ≡ reads ts (procedures ds [])
procedures_begin ts l ds = agree ts _ _ refl refl (λ t rest e p. procedures_step ds t.kind p (lacks_keyword ts l t rest e))

pub body_speaks : (d : Dialect) (ds : List Decl) (ps : List Procedure) → dialect_of (script_frame d ds ps) ≡ d
body_speaks dialect.Plain ds ps = refl
body_speaks dialect.Procedures ds ps = refl

abbrev pub body_frame : (d : Dialect) (ds : List Decl) (ps : List Procedure) → FrameIn d
body_frame d ds ps = record { frame = script_frame d ds ps; speaks = body_speaks d ds ps }

finish_body : (d : Dialect) (ds : List Decl) (ps : List Procedure) (a : Acts) → FewIn d ps → finish (block a (script_frame d ds ps)) ≡ Some (read_script ds ps a)
finish_body dialect.Plain ds ps a h = ap (λ z. Some (read_script ds z a)) (sym h)
finish_body dialect.Procedures ds ps a h = refl

none_behind : (d : Dialect) (ds : List Decl) (ps : List Procedure) (a : Acts) (m : TokenKind) → step_frame a (script_frame d ds ps) m ≡ None
none_behind dialect.Plain ds ps a m = refl
none_behind dialect.Procedures ds ps a m = refl

stuck_run : (ks : List TokenKind) (m : TokenKind) (ps : List ℕ) (q : State) → step q m (first_place ps) ≡ None → run (m ∷ ks) ps q ≡ Err (m ∷ ks)
stuck_run ks m ps q e = ap (λ o. going o (run ks (places_after (takes q m) ps)) (m ∷ ks)) e

-- how the body of a script is read, behind its declarations and procedures
pub record ReadsBody (d : Dialect) (ts vs : List Token) (ds : List Decl) (ps : List Procedure) (b : List Stmt) : Type 0 where
  pub begins : reads ts (start d) ≡ reads vs (block (acts_of b) (script_frame d ds ps))
  pub few : FewIn d ps

pub script_read : (d : Dialect) (ts vs : List Token) (ds : List Decl) (ps : List Procedure) (b : List Stmt) → ReadsBody d ts vs ds ps b → vs ≡ [] → reads ts (start d) ≡ Ok (read_script ds ps (acts_of b), 0 ∷ [])
script_read d ts vs ds ps b r n =
    r.begins ∙ ap (λ z. reads z (block (acts_of b) (script_frame d ds ps))) n ∙ ap (λ z. ending z (0 ∷ [])) (finish_body d ds ps (acts_of b) r.few)

left_over : (d : Dialect) (vs : List Token) (ds : List Decl) (ps : List Procedure) (a : Acts) → LacksStmt d vs → ¬ (vs ≡ []) → reads vs (block a (script_frame d ds ps)) ≡ Err (kinds vs)
left_over d [] ds ps a l n = absurd (n refl)
left_over d (t ∷ ts) ds ps a l n =
    stuck_run (kinds ts) t.kind (noted_then (t ∷ ts)) (block a (script_frame d ds ps))
    (ends_block d t t.kind l a (script_frame d ds ps) (body_speaks d ds ps) _ ∙ none_behind d ds ps a t.kind)

pub script_left : (d : Dialect) (ts vs : List Token) (ds : List Decl) (ps : List Procedure) (b : List Stmt) → ReadsBody d ts vs ds ps b → LacksStmt d vs → ¬ (vs ≡ []) → reads ts (start d) ≡ Err (kinds vs)
script_left d ts vs ds ps b r o n = r.begins ∙ left_over d vs ds ps (acts_of b) o n

-- a part of a script stops
pub script_halts : {X K : Type 0} (d : Dialect) (ts us : List Token) (due : K → State) (got : X → K → State) (k : K) → reads ts (start d) ≡ reads us (due k) → (r : Result ProcScript Halt) (e : Halt) → IsErrAnd r (λ x. x ≡ e) →
    Reads {X = X} {K = K} us due got (Err e) → ReadsScript d ts r
script_halts {X} {K} d ts us due got k b r e i h =
    same_fault {Y = ProcScript} (λ s. reads ts (start d) ≡ Ok (procedure_source_of s, 0 ∷ [])) (λ more. reads ts (start d) ≡ Err (kinds more)) r e i
    (passed_on {X = X × Bor (List Token)} {Y = ProcScript} (λ x. (k : K) → reads us (due k) ≡ reads x.1.now (got x.0 k)) (λ more. (k : K) → reads us (due k) ≡ Err (kinds more))
    (λ s. reads ts (start d) ≡ Ok (procedure_source_of s, 0 ∷ [])) (λ more. reads ts (start d) ≡ Err (kinds more)) (λ more q. b ∙ q k) e h)
