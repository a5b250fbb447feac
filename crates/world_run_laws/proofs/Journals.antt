-- What a node holds along its journal in a run: held versions never fall.
use Rattle.std.proofs.Common.{◌≡◌, ◌<◌, ◌≤◌, ℕ, List, [], ◌∷◌, ◌++◌, map, Some, refl, sym, ◌∙◌, ap, subst, arith, inl, inr, append_assoc}
use Rattle.std.specs.Prelude.{◌==◌, if◌then◌else◌, Bool}
use Rattle.std.proofs.lemmas.Bool.Decides.{eqb_tells}
use Rattle.mate_num.specs.declared.call.Stamp.{Stamp}
use Rattle.mate_num.specs.declared.id.HandlerId.{HandlerId}
use Rattle.mate_num.proofs.ListLemmas.{along-parts}
use Rattle.mate_journal.specs.Machine.{Machine, HeldProgram}
use Rattle.mate_journal.specs.Journal.{JournalEntry, Installed, NodeState, first_state, next_state, state_after_all, held, AtEachEntry, AtEachPlace}
use Rattle.mate_journal.specs.Journal.{TimedEntry as Entered}
use Rattle.mate_journal.specs.NodeScript.{RunEnd}
use Rattle.world_rules.specs.World.{World}
use Rattle.world_rules.specs.Effect.{event_node}
use Rattle.world_rules.specs.State.{Moment}
use Rattle.world_rules.specs.Run.{HaveCome, IsJournalOf, stamp_of, journal}
use Rattle.world_laws.proofs.Journals.{journal-here}
use Rattle.world_laws.specs.Installs.{TellsInstall}
use Rattle.journal_laws.proofs.Plain.{NoInstall}
use Rattle.world_laws.proofs.Agree.{held-of, held-is}
use Rattle.world_laws.proofs.JournalRules.{journal-along}

-- ---- one entry

-- no held version falls by it
abbrev pub NoFall : Machine → NodeState → JournalEntry → Type 0
NoFall m r t = (h : HandlerId) → held r h ≤ held (next_state m r t) h

least : (n : ℕ) → n ≤ n
least n = omega arith

none-falls : (m : Machine) (r : NodeState) (t : JournalEntry) → NoInstall t → NoFall m r t
none-falls m r (Installed p) none h = absurd none
none-falls m r _ none h = least (held r h)

-- what an install leaves of a handler
installed-held : (m : Machine) (r : NodeState) (p : HeldProgram) (h : HandlerId) → held (next_state m r (Installed p)) h ≡ held-of (if h.0 == p.handler.0 then Some p else r.installed h)
installed-held m r p h = held-is (next_state m r (Installed p)) h

newer-falls : (m : Machine) (r : NodeState) (p : HeldProgram) → held r p.handler < p.version → NoFall m r (Installed p)
newer-falls m r p newer h = subst (λ (n : ℕ). held r h ≤ n) (sym (installed-held m r p h)) (elim (eqb_tells h.0 p.handler.0) [
  | inl same ↦ subst (λ (b : Bool). held r h ≤ held-of (if b then Some p else r.installed h)) (sym same.0) (own (λ i. record { 0 = same.1 i }))
  | inr other ↦ subst (λ (b : Bool). held r h ≤ held-of (if b then Some p else r.installed h)) (sym other.0) (least (held r h))
]) where
  own : h ≡ p.handler → held r h ≤ p.version
  own e = let low : held r h < p.version = subst (λ (g : HandlerId). held r g < p.version) (sym e) newer in omega (arith, low)

pub holds-installed : (m : Machine) (r : NodeState) (p : HeldProgram) (h : HandlerId) → p.handler ≡ h → held (next_state m r (Installed p)) h ≡ p.version
holds-installed m r p h is = subst (λ (g : HandlerId). held (next_state m r (Installed p)) g ≡ p.version) is (installed-held m r p p.handler ∙ own) where
  own : held-of (if p.handler.0 == p.handler.0 then Some p else r.installed p.handler) ≡ p.version
  own = elim (eqb_tells p.handler.0 p.handler.0) [
    | inl same ↦ subst (λ (b : Bool). held-of (if b then Some p else r.installed p.handler) ≡ p.version) (sym same.0) refl
    | inr other ↦ absurd (other.1 refl)
  ]

-- ---- a whole journal

abbrev stamped : Stamp → List JournalEntry → List Entered
stamped at told = map (λ (t : JournalEntry). record { stamp = at; told = t }) told

-- along a node's whole journal no held version falls
pub journal-climbs : (w : World) (how : RunEnd) (ms : List Moment) (k : ℕ) (es : List Entered) → HaveCome w ms → IsJournalOf w how ms k es → AtEachEntry (NoFall w.machine) w.machine (first_state w.machine) es
journal-climbs w how ms k es come of =
    journal-along (NoFall w.machine) (none-falls w.machine) w how ms k es (λ m before come p r deed newer. newer-falls w.machine r p newer) come of

pub entries-behind : (m : Machine) (r : NodeState) (front : List Entered) (e : Entered) (rest : List Entered) → AtEachEntry (NoFall m) m r (front ++ e ∷ rest) → AtEachEntry (NoFall m) m (next_state m (state_after_all m r front) e.told) rest
entries-behind m r front e rest all = (along-parts _ _ r front (e ∷ rest) all).1.1

pub holds-on : (m : Machine) (h : HandlerId) (version : ℕ) (r : NodeState) (es : List Entered) → version ≤ held r h → AtEachEntry (NoFall m) m r es → AtEachPlace (λ (s : NodeState). version ≤ held s h) m r es
holds-on m h version r [] first all = first
holds-on m h version r (e ∷ es) first all = (first, holds-on m h version (next_state m r e.told) es (let step : held r h ≤ held (next_state m r e.told) h = all.0 h in omega (arith, first, step)) all.1)

-- ---- the entry of an install

-- it stands there in the list
pub record HasEntry (es : List Entered) (at : Stamp) (p : HeldProgram) : Type 0 where
  pub front : List Entered
  pub rest : List Entered
  pub split : es ≡ front ++ record { stamp = at; told = Installed p } ∷ rest

pub entry-behind : (xs ys : List Entered) (at : Stamp) (p : HeldProgram) → HasEntry ys at p → HasEntry (xs ++ ys) at p
entry-behind xs ys at p has = record { front = xs ++ has.front; rest = has.rest; split = ap (λ (es : List Entered). xs ++ es) has.split ∙ sym (append_assoc xs has.front (record { stamp = at; told = Installed p } ∷ has.rest)) }

pub entry-before : (xs ys : List Entered) (at : Stamp) (p : HeldProgram) → HasEntry xs at p → HasEntry (xs ++ ys) at p
entry-before xs ys at p has = record { front = has.front; rest = has.rest ++ ys; split = ap (λ (es : List Entered). es ++ ys) has.split ∙ append_assoc has.front (record { stamp = at; told = Installed p } ∷ has.rest) ys }

entry-stamped : (at : Stamp) (p : HeldProgram) (front rest : List JournalEntry) → HasEntry (stamped at (front ++ Installed p ∷ rest)) at p
entry-stamped at p [] rest = record { front = []; rest = stamped at rest; split = refl }
entry-stamped at p (t ∷ front) rest = entry-behind (record { stamp = at; told = t } ∷ []) (stamped at (front ++ Installed p ∷ rest)) at p (entry-stamped at p front rest)

-- what an event tells stands in its node's journal, under its stamp
pub install-entry : (w : World) (k : ℕ) (newer older : List Moment) (m : Moment) (p : HeldProgram) → event_node w m.cause ≡ k → TellsInstall m.told p → HasEntry (journal w k (newer ++ m ∷ older)) (stamp_of m older) p
install-entry w k [] older m p node tells = subst (λ (j : ℕ). HasEntry (journal w j (m ∷ older)) (stamp_of m older) p) node
    (subst (λ (es : List Entered). HasEntry es (stamp_of m older) p) (sym (journal-here w m older))
    (entry-behind (journal w (event_node w m.cause) older) (stamped (stamp_of m older) m.told) (stamp_of m older) p
    (subst (λ (ts : List JournalEntry). HasEntry (stamped (stamp_of m older) ts) (stamp_of m older) p) (sym tells.split) (entry-stamped (stamp_of m older) p tells.front tells.rest))))
install-entry w k (x ∷ newer) older m p node tells = entry-before (journal w k (newer ++ m ∷ older)) _ (stamp_of m older) p (install-entry w k newer older m p node tells)
