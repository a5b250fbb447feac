-- Lemmas on runs of code.
use Rattle.std.proofs.Common.{◌≡◌, ◌≢◌, ℕ, zero, suc, ◌+◌, ◌-◌, ◌≤◌, ◌++◌, ℤ, List, [], ◌∷◌, Bool, true, false, Option, None, Some, refl, ap, sym, ◌∙◌, arith, subst, inl, inr, add-zero, add-suc}
use Rattle.std.proofs.lemmas.Bool.{cases_lt}
use Rattle.std.specs.Prelude.{◌==◌, ◌||◌, if◌then◌else◌}
use Rattle.std.specs.List.{list_any}
use Rattle.mate_num.specs.Uses.{uses, is_same_resource}
use Rattle.arrayvec.specs.ArrayVec.{ArrayVec}
use Rattle.mate_num.specs.declared.call.End.TheVariants as end
use Rattle.mate_num.specs.declared.id.FunId.{FunId}
use Rattle.mate_num.specs.declared.resource.Resource.{Resource}
use Rattle.mate_num.specs.declared.resource.Resource.TheVariants.{Buffer}
use Rattle.mate_num.specs.declared.shape.Shape.{Shape}
use Rattle.mate_num.specs.declared.store.Store.{Store}
use Rattle.mate_code.specs.declared.instr.Instr.{Instr}
use Rattle.mate_code.specs.Cells.{read, AreAsLong, Agree}
use Rattle.mate_code.specs.CodeUses.{use_of, cell_in, reads_in, writes_in, uses_of}
use Rattle.mate_code.specs.declared.uses.Use.TheVariants.{Nothing, Gets, Changes, Calls, Sends}
use Rattle.mate_code.specs.declared.uses.Use.{Use}
use Rattle.mate_code.specs.Effect.{Private, Effect, Goes, Writes, Asks, Halts, Faults, Sticks, push, effect}
use Rattle.mate_code.specs.Run.{Code, fetch, Status, Going, Over, Stuck, Own, Run, read_cell, changed, store_after, own_after_effect, effect_in, run_by, executed, executed_at, step_at, step, after, asked}
use Rattle.mate_code.proofs.CellLemmas.{read-write_other, write-AreAsLong, write-Agree, is_same-refl}

or-left : (a b : Bool) → a ≡ true → (a || b) ≡ true
or-left true b e = refl
or-left false b e = cc

or-right : (a b : Bool) → b ≡ true → (a || b) ≡ true
or-right true b e = refl
or-right false b e = e

-- a test that implies a false one is false
false_by : (a b : Bool) → (a ≡ true → b ≡ true) → b ≡ false → a ≡ false
false_by true b h e = sym (h refl) ∙ e
false_by false b h e = refl

-- the instruction at a place is one of the code's
pub fetch-Any : (test : Instr → Bool) (code : Code) (place : ℕ) (i : Instr) → fetch code place ≡ Some i → test i ≡ true → list_any (λ p. test p.1) code ≡ true
fetch-Any test [] place i found passes = cc
fetch-Any test (p ∷ code) place i found passes = at_first (p.0 == place) found (λ later. fetch-Any test code place i later passes) where
  at_first : (b : Bool) → (if b then Some p.1 else fetch code place) ≡ Some i → (fetch code place ≡ Some i → list_any (λ p. test p.1) code ≡ true) → (test p.1 || list_any (λ p. test p.1) code) ≡ true
  at_first true found rest = let e : p.1 ≡ i = cc in or-left (test p.1) (list_any (λ p. test p.1) code) (ap test e ∙ passes)
  at_first false found rest = or-right (test p.1) (list_any (λ p. test p.1) code) (rest found)

-- what an instruction of the code uses, the code uses
pub used : (shape : Shape) (code : Code) (place : ℕ) (i : Instr) (r : Resource) → fetch code place ≡ Some i → (reads_in (use_of i) r || writes_in shape (use_of i) r) ≡ true → uses (uses_of shape code) r ≡ true
used shape code place i r found passes = by (reads_in (use_of i) r) refl passes where
  by : (b : Bool) → reads_in (use_of i) r ≡ b → (b || writes_in shape (use_of i) r) ≡ true → uses (uses_of shape code) r ≡ true
  by true is passes = or-left ((uses_of shape code).reads r) ((uses_of shape code).writes r) (fetch-Any (λ i. reads_in (use_of i) r) code place i found is)
  by false is passes = or-right ((uses_of shape code).reads r) ((uses_of shape code).writes r) (fetch-Any (λ i. writes_in shape (use_of i) r) code place i found passes)

-- what the code doesn't write, no instruction of it writes
pub unwritten : (shape : Shape) (code : Code) (place : ℕ) (i : Instr) (r : Resource) → fetch code place ≡ Some i → (uses_of shape code).writes r ≡ false → writes_in shape (use_of i) r ≡ false
unwritten shape code place i r found none =
    false_by (writes_in shape (use_of i) r) ((uses_of shape code).writes r) (fetch-Any (λ i. writes_in shape (use_of i) r) code place i found) none

-- ---- a run changes nothing outside what its code writes

changed-other : (shape : Shape) (u : Use) (cell : List ℤ) (s : Store) (q : Resource) → writes_in shape u q ≡ false → read (changed u cell s) q ≡ read s q
changed-other shape (Changes r) cell s q apart = read-write_other s r q cell apart
changed-other shape _ cell s q apart = refl

pub store_after-other : (shape : Shape) (e : Effect) (u : Use) (s : Store) (q : Resource) → writes_in shape u q ≡ false → read (store_after e u s) q ≡ read s q
store_after-other shape (Writes p cell) u s q apart = changed-other shape u cell s q apart
store_after-other shape _ u s q apart = refl

executed_at-other : (shape : Shape) (o : Option Instr) (r : Run) (q : Resource) → ((i : Instr) → o ≡ Some i → writes_in shape (use_of i) q ≡ false) → read (executed_at shape o r).store q ≡ read r.store q
executed_at-other shape None r q apart = refl
executed_at-other shape (Some i) r q apart = store_after-other shape (effect_in shape i r.own.own r.store) (use_of i) r.store q (apart i refl)

step_at-other : (shape : Shape) (code : Code) (status : Status) (r : Run) (q : Resource) → (uses_of shape code).writes q ≡ false → read (step_at shape code status r).store q ≡ read r.store q
step_at-other shape code Going r q none =
    executed_at-other shape (fetch code r.own.own.pc) r q (λ i found. unwritten shape code r.own.own.pc i q found none)
step_at-other shape code (Over end) r q none = refl
step_at-other shape code Stuck r q none = refl

-- one step leaves what the code doesn't write
pub step-other : (shape : Shape) (code : Code) (r : Run) (q : Resource) → (uses_of shape code).writes q ≡ false → read (step shape code r).store q ≡ read r.store q
step-other shape code r q none = step_at-other shape code r.own.status r q none

pub after-other : (n : ℕ) (shape : Shape) (code : Code) (r : Run) (q : Resource) → (uses_of shape code).writes q ≡ false → read (after n shape code r).store q ≡ read r.store q
unfolding after
after-other zero shape code r q none = refl
after-other (suc n) shape code r q none = step-other shape code (after n shape code r) q none ∙ after-other n shape code r q none

-- ---- the lengths of the store stay

changed-AreAsLong : (u : Use) (cell : List ℤ) (s : Store) → AreAsLong (changed u cell s) s
changed-AreAsLong (Changes r) cell s = write-AreAsLong s r cell
changed-AreAsLong _ cell s = record { shared = refl; buffers = refl }

pub store_after-AreAsLong : (e : Effect) (u : Use) (s : Store) → AreAsLong (store_after e u s) s
store_after-AreAsLong (Writes p cell) u s = changed-AreAsLong u cell s
store_after-AreAsLong _ u s = record { shared = refl; buffers = refl }

step_at-AreAsLong : (shape : Shape) (code : Code) (status : Status) (r : Run) → AreAsLong (step_at shape code status r).store r.store
step_at-AreAsLong shape code Going r = by (fetch code r.own.own.pc) where
  by : (o : Option Instr) → AreAsLong (executed_at shape o r).store r.store
  by None = record { shared = refl; buffers = refl }
  by (Some i) = store_after-AreAsLong (effect_in shape i r.own.own r.store) (use_of i) r.store
step_at-AreAsLong shape code (Over end) r = record { shared = refl; buffers = refl }
step_at-AreAsLong shape code Stuck r = record { shared = refl; buffers = refl }

pub step-AreAsLong : (shape : Shape) (code : Code) (r : Run) → AreAsLong (step shape code r).store r.store
step-AreAsLong shape code r = step_at-AreAsLong shape code r.own.status r

pub after-AreAsLong : (n : ℕ) (shape : Shape) (code : Code) (r : Run) → AreAsLong (after n shape code r).store r.store
unfolding after
after-AreAsLong zero shape code r = record { shared = refl; buffers = refl }
after-AreAsLong (suc n) shape code r =
    let last = step-AreAsLong shape code (after n shape code r) in
    let before = after-AreAsLong n shape code r in
    record { shared = last.shared ∙ before.shared; buffers = last.buffers ∙ before.buffers }

-- ---- stores that agree on what the code uses

-- two runs are the same but for their stores, which agree where the test passes
pub record Matches (test : Resource → Bool) (r s : Run) : Type 0 where
  pub own : r.own ≡ s.own
  pub stores : Agree test r.store s.store

changed-Agree : (test : Resource → Bool) (u : Use) (cell : List ℤ) (s t : Store) → Agree test s t → Agree test (changed u cell s) (changed u cell t)
changed-Agree test (Changes r) cell s t agree = write-Agree test s t r cell agree
changed-Agree test _ cell s t agree = agree

pub store_after-Agree : (test : Resource → Bool) (e : Effect) (u : Use) (s t : Store) → Agree test s t → Agree test (store_after e u s) (store_after e u t)
store_after-Agree test (Writes p cell) u s t agree = changed-Agree test u cell s t agree
store_after-Agree test _ u s t agree = agree

-- an instruction sees the same in the cell that it names
pub read_cell-same : (test : Resource → Bool) (shape : Shape) (u : Use) (s t : Store) → Agree test s t → ((r : Resource) → (reads_in u r || writes_in shape u r) ≡ true → test r ≡ true) → read_cell s (cell_in u) ≡ read_cell t (cell_in u)
read_cell-same test shape Nothing s t agree within = refl
read_cell-same test shape (Gets r) s t agree within = agree.same r (within r (or-left (is_same_resource r r) false (is_same-refl r)))
read_cell-same test shape (Changes r) s t agree within = agree.same r (within r (is_same-refl r))
read_cell-same test shape (Calls f) s t agree within = refl
read_cell-same test shape (Sends f b) s t agree within =
    agree.same (Buffer b) (within (Buffer b) (or-left (is_same_resource (Buffer b) (Buffer b)) (writes_in shape (Sends f b) (Buffer b)) (is_same-refl (Buffer b))))

executed-Matches : (test : Resource → Bool) (shape : Shape) (i : Instr) (o : Own) (s t : Store) → Agree test s t → ((r : Resource) → (reads_in (use_of i) r || writes_in shape (use_of i) r) ≡ true → test r ≡ true) → Matches test (executed shape i record { own = o; store = s }) (executed shape i record { own = o; store = t })
executed-Matches test shape i o s t agree within =
    let same : effect_in shape i o.own s ≡ effect_in shape i o.own t = ap (effect shape i o.own) (read_cell-same test shape (use_of i) s t agree within) in
    let e : Effect = effect_in shape i o.own t in
    let P : Effect → Type 0 = λ d. Matches test (run_by d (use_of i) record { own = o; store = s }) (run_by e (use_of i) record { own = o; store = t }) in
    subst P (sym same) record { own = refl; stores = store_after-Agree test e (use_of i) s t agree }

step_at-Matches : (shape : Shape) (code : Code) (status : Status) (o : Own) (s t : Store) → Agree (uses (uses_of shape code)) s t → Matches (uses (uses_of shape code)) (step_at shape code status record { own = o; store = s }) (step_at shape code status record { own = o; store = t })
step_at-Matches shape code Going o s t agree = by (fetch code o.own.pc) refl where
  by : (found : Option Instr) → fetch code o.own.pc ≡ found → Matches (uses (uses_of shape code)) (executed_at shape found record { own = o; store = s }) (executed_at shape found record { own = o; store = t })
  by None is = record { own = refl; stores = agree }
  by (Some i) is = executed-Matches (uses (uses_of shape code)) shape i o s t agree (λ r. used shape code o.own.pc i r is)
step_at-Matches shape code (Over end) o s t agree = record { own = refl; stores = agree }
step_at-Matches shape code Stuck o s t agree = record { own = refl; stores = agree }

pub step-Matches : (shape : Shape) (code : Code) (r s : Run) → Matches (uses (uses_of shape code)) r s → Matches (uses (uses_of shape code)) (step shape code r) (step shape code s)
step-Matches shape code r s m =
    let P : Own → Type 0 = λ o. Matches (uses (uses_of shape code)) (step shape code r) (step shape code record { own = o; store = s.store }) in
    subst P m.own (step_at-Matches shape code r.own.status r.own r.store s.store m.stores)

pub after-Matches : (n : ℕ) (shape : Shape) (code : Code) (r s : Run) → Matches (uses (uses_of shape code)) r s → Matches (uses (uses_of shape code)) (after n shape code r) (after n shape code s)
unfolding after
after-Matches zero shape code r s m = m
after-Matches (suc n) shape code r s m = step-Matches shape code (after n shape code r) (after n shape code s) (after-Matches n shape code r s m)

-- ---- a run that is over stays

pub step-over : (shape : Shape) (code : Code) (r : Run) → r.own.status ≢ Going → step shape code r ≡ r
step-over shape code r over = by r.own.status over where
  by : (status : Status) → status ≢ Going → step_at shape code status r ≡ r
  by Going over = absurd (over refl)
  by (Over end) over = refl
  by Stuck over = refl

-- n steps, and then k more
pub after-add : (k n : ℕ) (shape : Shape) (code : Code) (r : Run) → after (n + k) shape code r ≡ after k shape code (after n shape code r)
unfolding after
after-add zero n shape code r = rw add-zero refl
after-add (suc k) n shape code r = rw add-suc (ap (step shape code) (after-add k n shape code r))

pub after-over : (k : ℕ) (shape : Shape) (code : Code) (r : Run) → r.own.status ≢ Going → after k shape code r ≡ r
unfolding after
after-over zero shape code r over = refl
after-over (suc k) shape code r over = ap (step shape code) (after-over k shape code r over) ∙ step-over shape code r over

-- two ends of one run are one
later_end : (m n : ℕ) (shape : Shape) (code : Code) (r : Run) → m ≤ n → (after m shape code r).own.status ≢ Going → after m shape code r ≡ after n shape code r
later_end m n shape code r le over =
    let e : n ≡ m + (n - m) = omega arith in
    sym (ap (λ (k : ℕ). after k shape code r) e ∙ after-add (n - m) m shape code r ∙ after-over (n - m) shape code (after m shape code r) over)

pub one_end : (m n : ℕ) (shape : Shape) (code : Code) (r : Run) → (after m shape code r).own.status ≢ Going → (after n shape code r).own.status ≢ Going → after m shape code r ≡ after n shape code r
one_end m n shape code r over_m over_n =
    elim (cases_lt m n) [
      | inl lt ↦ later_end m n shape code r (omega arith) over_m
      | inr le ↦ sym (later_end n m shape code r le over_n)
    ]

-- ---- one more answer

-- a run with one more answer that no call took yet
abbrev pub more_own : ℤ → Own → Own
more_own a o = record o { left = o.left ++ a ∷ [] }

abbrev pub more : ℤ → Run → Run
more a r = record { own = more_own a r.own; store = r.store }

-- a run that waits, given the answer
abbrev pub resumed_own : FunId → ArrayVec ℤ → ℤ → Own → Own
resumed_own f args a o =
    record o { own = push a o.own; calls = o.calls ++ record { fun = f; args = args; result = a } ∷ []; status = Going }

-- what one more answer makes of a run that was o and is o' with it
abbrev pub IsMore : ℤ → Status → Own → Own → Type 0
IsMore a Going o o' = o' ≡ more_own a o
IsMore a (Over (end.Wants f args)) o o' = o' ≡ resumed_own f args a o
IsMore a _ o o' = Unit {0}

-- the parts of a run that goes on
abbrev going : Own → Own
going o = record o { status = Going }

asked-IsMore : (a : ℤ) (p : Private) (f : FunId) (args : ArrayVec ℤ) (left : List ℤ) (o : Own) → IsMore a (asked p f args left (going (record o { left = left }))).status (asked p f args left (going (record o { left = left }))) (asked p f args (left ++ a ∷ []) (more_own a (going (record o { left = left }))))
asked-IsMore a p f args [] o = refl
asked-IsMore a p f args (b ∷ left) o = refl

own_after-IsMore : (a : ℤ) (e : Effect) (o : Own) → IsMore a (own_after_effect e (going o)).status (own_after_effect e (going o)) (own_after_effect e (more_own a (going o)))
own_after-IsMore a (Goes p) o = refl
own_after-IsMore a (Writes p cell) o = refl
own_after-IsMore a (Asks p f args) o = asked-IsMore a p f args o.left o
own_after-IsMore a _ o = tt

-- one more answer changes nothing but what IsMore says
record MoreRun (a : ℤ) (r r' : Run) : Type 0 where
  own : IsMore a r.own.status r.own r'.own
  store : r'.store ≡ r.store

executed_at-More : (a : ℤ) (shape : Shape) (found : Option Instr) (o : Own) (s : Store) → MoreRun a (executed_at shape found record { own = going o; store = s }) (executed_at shape found record { own = more_own a (going o); store = s })
executed_at-More a shape None o s = record { own = tt; store = refl }
executed_at-More a shape (Some i) o s = record { own = own_after-IsMore a (effect_in shape i o.own s) o; store = refl }

step-More : (a : ℤ) (shape : Shape) (code : Code) (r : Run) → r.own.status ≡ Going → MoreRun a (step shape code r) (step shape code (more a r))
step-More a shape code r is =
    let e : going r.own ≡ r.own = ap (λ (status : Status). record (r.own) { status = status }) (sym is) in
    let P : Own → Type 0 = λ o. MoreRun a (step shape code record { own = o; store = r.store }) (step shape code record { own = more_own a o; store = r.store }) in
    subst P e (executed_at-More a shape (fetch code r.own.own.pc) r.own r.store)

IsMore-going : (a : ℤ) (status : Status) (o o' : Own) → status ≡ Going → IsMore a status o o' → o' ≡ more_own a o
IsMore-going a status o o' e is = let P : Status → Type 0 = λ st. IsMore a st o o' in subst P e is

IsMore-wants : (a : ℤ) (f : FunId) (args : ArrayVec ℤ) (status : Status) (o o' : Own) → status ≡ Over (end.Wants f args) → IsMore a status o o' → o' ≡ resumed_own f args a o
IsMore-wants a f args status o o' e is = let P : Status → Type 0 = λ st. IsMore a st o o' in subst P e is

-- a run that goes on after a step went on before it
pub going_before : (shape : Shape) (code : Code) (r : Run) → (step shape code r).own.status ≡ Going → r.own.status ≡ Going
going_before shape code r later = by r.own.status refl where
  by : (status : Status) → r.own.status ≡ status → r.own.status ≡ Going
  by Going is = is
  by (Over end) is = let P : Status → Type 0 = λ st. (step_at shape code st r).own.status ≡ Going in subst P is later
  by Stuck is = let P : Status → Type 0 = λ st. (step_at shape code st r).own.status ≡ Going in subst P is later

same_runs : {o p : Own} {s t : Store} → o ≡ p → s ≡ t → ◌≡◌ {A = Run} record { own = o; store = s } record { own = p; store = t }
same_runs {o} {p} {s} {t} e f = ap (λ (x : Own). record { own = x; store = s }) e ∙ ap (λ (x : Store). record { own = p; store = x }) f

after-more : (n : ℕ) (a : ℤ) (shape : Shape) (code : Code) (r : Run) → (after n shape code r).own.status ≡ Going → after n shape code (more a r) ≡ more a (after n shape code r)
unfolding after
after-more zero a shape code r is = refl
after-more (suc n) a shape code r is =
    let before = going_before shape code (after n shape code r) is in
    let m = step-More a shape code (after n shape code r) before in
    ap (step shape code) (after-more n a shape code r before)
    ∙ same_runs (IsMore-going a (step shape code (after n shape code r)).own.status (step shape code (after n shape code r)).own (step shape code (more a (after n shape code r))).own is m.own) m.store

-- ---- how many instructions are executed

asked-count : (p : Private) (f : FunId) (args : ArrayVec ℤ) (left : List ℤ) (o : Own) → (asked p f args left o).count ≡ o.count + 1
asked-count p f args [] o = refl
asked-count p f args (a ∷ left) o = refl

pub own_after-count : (e : Effect) (o : Own) → (own_after_effect e o).count ≡ o.count + 1
own_after-count (Asks p f args) o = asked-count p f args o.left o
own_after-count _ o = refl

executed_at-count : (shape : Shape) (found : Option Instr) (r : Run) → (executed_at shape found r).own.count ≡ r.own.count + 1
executed_at-count shape None r = refl
executed_at-count shape (Some i) r = own_after-count (effect_in shape i r.own.own r.store) r.own

step-count : (shape : Shape) (code : Code) (r : Run) → (step shape code r).own.count ≤ r.own.count + 1
step-count shape code r = by r.own.status where
  by : (status : Status) → (step_at shape code status r).own.count ≤ r.own.count + 1
  by Going = let e = executed_at-count shape (fetch code r.own.own.pc) r in omega arith
  by (Over end) = omega arith
  by Stuck = omega arith

pub after-count : (n : ℕ) (shape : Shape) (code : Code) (r : Run) → (after n shape code r).own.count ≤ r.own.count + n
unfolding after
after-count zero shape code r = omega arith
after-count (suc n) shape code r =
    let h = after-count n shape code r in
    let k = step-count shape code (after n shape code r) in
    omega arith

-- a run that waits, and waits since its last step, goes on with the answer
pub after-given : (n : ℕ) (a : ℤ) (f : FunId) (args : ArrayVec ℤ) (shape : Shape) (code : Code) (r : Run) → r.own.status ≡ Going → (after n shape code r).own.status ≡ Over (end.Wants f args) → (after n shape code r).own.count ≡ r.own.count + n → after n shape code (more a r) ≡ record { own = resumed_own f args a (after n shape code r).own; store = (after n shape code r).store }
unfolding after
after-given zero a f args shape code r begins waits counted = cc
after-given (suc n) a f args shape code r begins waits counted = by (after n shape code r).own.status refl where
  still : (after n shape code r).own.status ≢ Going → ⊥
  still over =
      let e = ap (λ (x : Run). x.own.count) (step-over shape code (after n shape code r) over) in
      let h = after-count n shape code r in
      omega arith

  by : (status : Status) → (after n shape code r).own.status ≡ status → after (suc n) shape code (more a r) ≡ record { own = resumed_own f args a (after (suc n) shape code r).own; store = (after (suc n) shape code r).store }
  by Going is =
      let m = step-More a shape code (after n shape code r) is in
      ap (step shape code) (after-more n a shape code r is)
      ∙ same_runs (IsMore-wants a f args (step shape code (after n shape code r)).own.status (step shape code (after n shape code r)).own (step shape code (more a (after n shape code r))).own waits m.own) m.store
  by (Over end) is = absurd (still (λ going. let e : Over end ≡ Going = sym is ∙ going in cc))
  by Stuck is = absurd (still (λ going. let e : Stuck ≡ Going = sym is ∙ going in cc))

-- ---- one step of a run that goes on

pub step-at : (shape : Shape) (code : Code) (r : Run) (i : Instr) → r.own.status ≡ Going → fetch code r.own.own.pc ≡ Some i → step shape code r ≡ executed shape i r
step-at shape code r i is found =
    let P : Status → Type 0 = λ st. step_at shape code st r ≡ executed shape i r in
    subst P (sym is) (ap (λ (o : Option Instr). executed_at shape o r) found)
