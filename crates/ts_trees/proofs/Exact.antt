-- What the machine answers: a whole script, or the first token that doesn't fit.
use Rattle.std.proofs.Common.{◌≡◌, ℕ, List, [], ◌∷◌, ◌++◌, Option, Some, None, Ok, Err, refl, sym, ◌∙◌, ap, subst, append_assoc, append-nil}
use Rattle.std.proofs.lemmas.Option.{same_Some}
use Rattle.ts_trees.specs.declared.dialect.Dialect.{Dialect}
use Rattle.ts_trees.specs.declared.dialect.Dialect.TheVariants as dialect
use Rattle.ts_trees.specs.declared.token.TokenKind.{TokenKind}
use Rattle.ts_trees.specs.Tree.{Acts, Procedure, ProcedureSource, without_procedures}
use Rattle.ts_trees.specs.Spelling.{acts_spelled, decls_spelled, procedures_spelled, procedure_source_spelled}
use Rattle.ts_trees.specs.Derived.{ProceduresIn, IsDerivedIn}
use Rattle.ts_trees.specs.Script.{IsScriptIn, BeginsScriptIn}
use Rattle.ts_trees.specs.Faults.{StopsIn}
use Rattle.ts_trees.specs.Machine.{top, main, State, decls, procedures, block, read_script, step, takes, places_after, first_place, finish, Outcome, ending, going, run, start}
use Rattle.ts_trees.specs.Answers.{Refused}
use Rattle.ts_trees.proofs.Past.{past, past_procedures, Fine}
use Rattle.ts_trees.proofs.Sound.{Keeps, moves}
use Rattle.ts_trees.proofs.Finish.{Ends, ends}
use Rattle.ts_trees.proofs.CompleteStmt.{source_read}

-- a dialect may have no procedures
no_procedures : (lang : Dialect) → ProceduresIn lang []
no_procedures dialect.Plain = refl
no_procedures dialect.Procedures = tt

-- a script of a dialect, by its tree
record SourceIn (lang : Dialect) (ks : List TokenKind) : Type 0 where
  source : ProcedureSource
  derived : IsDerivedIn lang source
  spells : procedure_source_spelled source ≡ ks

source_in : (lang : Dialect) {ks : List TokenKind} → IsScriptIn lang ks → SourceIn lang ks
source_in dialect.Plain s = record { source = without_procedures s.source; derived = record { decls = s.derived.decls; procs = refl; body = s.derived.body }; spells = s.spells }
source_in dialect.Procedures s = record { source = s.source; derived = s.derived; spells = s.spells }

-- the plain script of tokens that none with procedures spells
pub plain_spelled : (s : ProcedureSource) → s.procs ≡ [] → decls_spelled s.decls ++ acts_spelled s.body ≡ procedure_source_spelled s
plain_spelled s e = ap (λ z. decls_spelled s.decls ++ (procedures_spelled z ++ acts_spelled s.body)) (sym e)

pub script_in : (lang : Dialect) (s : ProcedureSource) {ks : List TokenKind} → IsDerivedIn lang s → procedure_source_spelled s ≡ ks → IsScriptIn lang ks
script_in dialect.Plain s d e = record { source = record { decls = s.decls; body = s.body }; derived = record { decls = d.decls; body = d.body }; spells = plain_spelled s d.procs ∙ e }
script_in dialect.Procedures s d e = record { source = s; derived = d; spells = e }

-- what was read, where the text may end
record Finished (lang : Dialect) (q : State) (s : ProcedureSource) : Type 0 where
  derived : IsDerivedIn lang s
  spells : procedure_source_spelled s ≡ past q

-- the script that the machine reads from a state on
pub record Reads (lang : Dialect) (q : State) (ks : List TokenKind) (s : ProcedureSource) : Type 0 where
  pub derived : IsDerivedIn lang s
  pub spells : procedure_source_spelled s ≡ past q ++ ks

abbrev pub whole : ProcedureSource → List ℕ → Outcome
whole s ps = Ok (s, ps)

abbrev pub answer : ProcedureSource × List ℕ → Outcome
answer x = Ok x

pub answer_same : (x y : ProcedureSource × List ℕ) → answer x ≡ answer y → x ≡ y
answer_same x y e = cc

pub whole_same : (a b : ProcedureSource) (p q : List ℕ) → whole a p ≡ whole b q → a ≡ b
whole_same a b p q e = ap (λ z. z.0) (answer_same (a, p) (b, q) e)

pub left_same : (a b : ProcedureSource) (p q : List ℕ) → whole a p ≡ whole b q → p ≡ q
left_same a b p q e = ap (λ z. z.1) (answer_same (a, p) (b, q) e)

-- the same tokens, and then others behind the one that doesn't fit
abbrev Again : List TokenKind → List TokenKind → List ℕ → State → Type 0
Again front [] ps q = run (front ++ []) ps q ≡ Err []
Again front (k ∷ ks) ps q = (more : List TokenKind) → run (front ++ k ∷ more) ps q ≡ Err (k ∷ more)

record Stuck (lang : Dialect) (q : State) (ks rest : List TokenKind) (ps : List ℕ) : Type 0 where
  front : List TokenKind
  are : ks ≡ front ++ rest
  reached : State
  fine : Fine lang reached
  past_is : past reached ≡ past q ++ front
  again : Again front rest ps q

abbrev stuck : List TokenKind → Outcome
stuck ks = Err ks

stuck_same : (a b : List TokenKind) → stuck a ≡ stuck b → a ≡ b
stuck_same a b e = cc

module _ (lang : Dialect) where
  finished : (q : State) (s : ProcedureSource) → finish q ≡ Some s → Fine lang q → Finished lang q s
  finished (decls e ds) s i h =
      subst (λ z. Finished lang (decls e ds) z) (same_Some _ _ i)
      (record { derived = record { decls = h.1; procs = no_procedures lang; body = tt }; spells = append-nil (decls_spelled ds) })
  finished (procedures ds ps) s i h =
      subst (λ z. Finished lang (procedures ds ps) z) (same_Some _ _ i)
      (record { derived = record { decls = h.1; procs = subst (λ z. ProceduresIn z ps) (sym h.0) h.2; body = tt }; spells = ap (λ z. decls_spelled ds ++ z) (append-nil (procedures_spelled ps)) })
  finished (block a (top ds)) s i h =
      subst (λ z. Finished lang (block a (top ds)) z) (same_Some _ _ i)
      (record { derived = record { decls = h.1.1; procs = no_procedures lang; body = h.0 }; spells = refl })
  finished (block a (main ds ps)) s i h =
      subst (λ z. Finished lang (block a (main ds ps)) z) (same_Some _ _ i)
      (record { derived = record { decls = h.1.1; procs = subst (λ z. ProceduresIn z ps) (sym h.1.0) h.1.2; body = h.0 }; spells = sym (append_assoc (decls_spelled ds) (procedures_spelled ps) (acts_spelled a)) })
  finished q s i h = absurd (cc)

  ended : (q : State) (ps left : List ℕ) (s : ProcedureSource) (o : Option ProcedureSource) → finish q ≡ o → ending o ps ≡ whole s left → Fine lang q → Reads lang q [] s
  ended q ps left s (Some r) i e h =
      let f = finished q s (i ∙ ap (λ z. Some z) (whole_same r s ps left e)) h in
      record { derived = f.derived; spells = f.spells ∙ sym (append-nil (past q)) }
  ended q ps left s None i e h = absurd (cc)

  -- one more token before those that a state reads
  stepped : (q r : State) (k : TokenKind) (ks : List TokenKind) (s : ProcedureSource) → past r ≡ past q ++ k ∷ [] → Reads lang r ks s → Reads lang q (k ∷ ks) s
  stepped q r k ks s p t = record { derived = t.derived; spells = t.spells ∙ ap (λ z. z ++ ks) p ∙ append_assoc (past q) (k ∷ []) ks }

  read_on : (q : State) (k : TokenKind) (ks : List TokenKind) (s : ProcedureSource) (left : List ℕ) (o : Option State) (next : State → Outcome) →
      Keeps lang (past q ++ k ∷ []) o → going o next (k ∷ ks) ≡ whole s left → ((r : State) → Fine lang r → next r ≡ whole s left → Reads lang r ks s) → Reads lang q (k ∷ ks) s
  read_on q k ks s left (Some r) next m e rest = stepped q r k ks s m.past (rest r m.fine e)
  read_on q k ks s left None next m e rest = absurd (cc)

  reads : (ks : List TokenKind) (ps left : List ℕ) (q : State) (s : ProcedureSource) → Fine lang q → run ks ps q ≡ whole s left → Reads lang q ks s
  reads [] ps left q s h e = ended q ps left s (finish q) refl e h
  reads (k ∷ ks) ps left q s h e =
      read_on q k ks s left (step q k (first_place ps)) (run ks (places_after (takes q k) ps)) (moves lang q k (first_place ps) h) e (λ r g i. reads ks (places_after (takes q k) ps) left r s g i)

  -- a script that the machine read is the one that its tokens spell
  pub read_is_script : (ks : List TokenKind) (ps left : List ℕ) (s : ProcedureSource) → run ks ps (start lang) ≡ Ok (s, left) → Reads lang (start lang) ks s
  read_is_script ks ps left s e = reads ks ps left (start lang) s (refl, tt) e

  stuck_here : (q : State) (ps : List ℕ) (o : Option ProcedureSource) (rest : List TokenKind) → finish q ≡ o → ending o ps ≡ stuck rest → Fine lang q → Stuck lang q [] rest ps
  stuck_here q ps (Some s) rest i e h = absurd (cc)
  stuck_here q ps None rest i e h =
      subst (λ z. Stuck lang q [] z ps) (stuck_same [] rest e)
      (record { front = []; are = refl; reached = q; fine = h; past_is = sym (append-nil (past q)); again = ap (λ o. ending o ps) i })

  again_at : (q r : State) (k : TokenKind) (front rest : List TokenKind) (ps : List ℕ) → step q k (first_place ps) ≡ Some r →
      Again front rest (places_after (takes q k) ps) r → Again (k ∷ front) rest ps q
  again_at q r k front [] ps i a = ap (λ o. going o (run (front ++ []) (places_after (takes q k) ps)) (k ∷ (front ++ []))) i ∙ a
  again_at q r k front (j ∷ rest) ps i a = λ more. ap (λ o. going o (run (front ++ j ∷ more) (places_after (takes q k) ps)) (k ∷ (front ++ j ∷ more))) i ∙ a more

  stuck_later : (q r : State) (k : TokenKind) (ks rest : List TokenKind) (ps : List ℕ) → step q k (first_place ps) ≡ Some r → past r ≡ past q ++ k ∷ [] →
      Stuck lang r ks rest (places_after (takes q k) ps) → Stuck lang q (k ∷ ks) rest ps
  stuck_later q r k ks rest ps i p s = record {
    front = k ∷ s.front;
    are = ap (λ z. k ∷ z) s.are;
    reached = s.reached;
    fine = s.fine;
    past_is = s.past_is ∙ ap (λ z. z ++ s.front) p ∙ append_assoc (past q) (k ∷ []) s.front;
    again = again_at q r k s.front rest ps i s.again;
  }

  stuck_now : (q : State) (k : TokenKind) (ks rest : List TokenKind) (ps : List ℕ) → step q k (first_place ps) ≡ None → k ∷ ks ≡ rest → Fine lang q → Stuck lang q (k ∷ ks) rest ps
  stuck_now q k ks rest ps i e h =
      subst (λ z. Stuck lang q (k ∷ ks) z ps) e
      (record { front = []; are = refl; reached = q; fine = h; past_is = sym (append-nil (past q)); again = λ more. ap (λ o. going o (run more (places_after (takes q k) ps)) (k ∷ more)) i })

  stuck_on : (q : State) (k : TokenKind) (ks rest : List TokenKind) (ps : List ℕ) (o : Option State) → step q k (first_place ps) ≡ o → Keeps lang (past q ++ k ∷ []) o →
      going o (run ks (places_after (takes q k) ps)) (k ∷ ks) ≡ stuck rest → Fine lang q → ((r : State) → Fine lang r → run ks (places_after (takes q k) ps) r ≡ stuck rest → Stuck lang r ks rest (places_after (takes q k) ps)) → Stuck lang q (k ∷ ks) rest ps
  stuck_on q k ks rest ps (Some r) i m e h later = stuck_later q r k ks rest ps i m.past (later r m.fine e)
  stuck_on q k ks rest ps None i m e h later = stuck_now q k ks rest ps i (stuck_same (k ∷ ks) rest e) h

  stuck_at : (ks : List TokenKind) (ps : List ℕ) (q : State) (rest : List TokenKind) → Fine lang q → run ks ps q ≡ stuck rest → Stuck lang q ks rest ps
  stuck_at [] ps q rest h e = stuck_here q ps (finish q) rest refl e h
  stuck_at (k ∷ ks) ps q rest h e =
      stuck_on q k ks rest ps (step q k (first_place ps)) refl (moves lang q k (first_place ps) h) e h (λ r g i. stuck_at ks (places_after (takes q k) ps) r rest g i)

  -- a state that the machine comes to begins a script
  begins_at : (q : State) (front : List TokenKind) → Fine lang q → past q ≡ front → BeginsScriptIn lang front
  begins_at q front h p =
      let e : Ends q [] = ends q [] in
      let r : Reads lang q e.rest e.outcome.0 = reads e.rest [] e.outcome.1 q e.outcome.0 h e.read in
      record { rest = e.rest; script = script_in lang e.outcome.0 r.derived (r.spells ∙ ap (λ z. z ++ e.rest) p) }

  -- the tokens of a script aren't refused
  script_read : (ks : List TokenKind) → IsScriptIn lang ks → (ps : List ℕ) (rest : List TokenKind) → run ks ps (start lang) ≡ stuck rest → ⊥
  script_read ks s ps rest e =
      let t : SourceIn lang ks = source_in lang s in
      let i = sym (source_read lang t.source t.derived ps) ∙ ap (λ z. run z ps (start lang)) t.spells ∙ e in
      cc

  stops_at : (front rest : List TokenKind) (ps : List ℕ) → Again front rest ps (start lang) → StopsIn lang front rest
  stops_at front [] ps a = λ s. script_read front s ps [] (ap (λ z. run z ps (start lang)) (sym (append-nil front)) ∙ a)
  stops_at front (k ∷ ks) ps a = λ b. script_read _ b.script ps (k ∷ b.rest) (ap (λ z. run z ps (start lang)) (append_assoc front (k ∷ []) b.rest) ∙ a b.rest)

  -- what the machine refuses begins no script
  pub refused : (ks : List TokenKind) (ps : List ℕ) (rest : List TokenKind) → run ks ps (start lang) ≡ Err rest → Refused lang ks rest
  refused ks ps rest e =
      let s : Stuck lang (start lang) ks rest ps = stuck_at ks ps (start lang) rest (refl, tt) e in
      record { front = s.front; are = s.are; begins = begins_at s.reached s.front s.fine s.past_is; stops = stops_at s.front rest ps s.again }
