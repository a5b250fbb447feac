-- Single instructions lead to one place.
use Rattle.std.proofs.Common.{◌≡◌, ℕ, zero, suc, ◌+◌, ◌-◌, [], refl, sym, ap, ◌∙◌, subst, arith}
use Rattle.mate_num.specs.declared.store.Store.{Store}
use Rattle.mate_code.specs.Effect.{Private}
use Rattle.mate_code.specs.Run.{Own, Run, Going, step}
use Rattle.code_verifier.specs.Verified.{VerifiedCode}
use Rattle.exec_unit.specs.Running.{GoFor, StopsAfter, HasExecuted}
use Rattle.exec_unit.specs.Step.{IsStep, own_after}
use Rattle.exec_unit.specs.declared.running.Ran.{Ran}
use Rattle.exec_unit.specs.declared.step_end.StepEnd.{StepEnd}
use Rattle.exec_unit.specs.declared.step_end.StepEnd.TheVariants.{Next, Ask, Halt, Fault}
use Rattle.callers_code.proofs.StepLemmas.{alone}

-- what a run with no answers is behind a step
came : (v : VerifiedCode) (a : Private) (s : Store) (how : StepEnd) (b : Private) (t : Store) → IsStep v a s how b t
    → step v.shape v.code (record { own = alone a; store = s }) ≡ record { own = own_after how b (alone a); store = t }
came v a s how b t is = is.run [] [] 0

-- two steps from one place
both : (v : VerifiedCode) (a : Private) (s : Store) (how how' : StepEnd) (b c : Private) (t u : Store) → IsStep v a s how b t → IsStep v a s how' c u
    → (own_after how b (alone a) ≡ own_after how' c (alone a)) × (t ≡ u)
both v a s how how' b c t u x y =
    let e = sym (came v a s how b t x) ∙ came v a s how' c u y in
    (ap (λ (r : Run). r.own) e, ap (λ (r : Run). r.store) e)

-- of single instructions one after another the end is one
goes_once : (v : VerifiedCode) (n : ℕ) (a : Private) (s : Store) (b c : Private) (t u : Store) → GoFor v n a s b t → GoFor v n a s c u → (b ≡ c) × (t ≡ u)
goes_once v zero a s b c t u x y = (x.0 ∙ sym y.0, x.1 ∙ sym y.1)
goes_once v (suc n) a s b c t u (mid, store, x, last) (mid', store', y, last') =
    let same = goes_once v n a s mid mid' store store' x y in
    let moved : IsStep v mid' store' Next b t =
    subst (λ (p : Private). IsStep v p store' Next b t) same.0 (subst (λ (st : Store). IsStep v mid st Next b t) same.1 last) in
    let e = both v mid' store' Next Next b c t u moved last' in
    (ap (λ (o : Own). o.own) e.0, e.1)

-- what the first of them come to, and that the next one goes on
record GoesOn (v : VerifiedCode) (n : ℕ) (a : Private) (s : Store) : Type 0 where
  mid : Private
  store : Store
  goes : GoFor v n a s mid store
  new : Private
  after : Store
  next : IsStep v mid store Next new after

goes_on : (v : VerifiedCode) (k more total : ℕ) (a : Private) (s : Store) (b : Private) (t : Store) → total ≡ more + k → GoFor v (suc total) a s b t → GoesOn v k a s
goes_on v k zero total a s b t is (mid, store, x, last) =
    let same : total ≡ k = omega (arith, is) in
    record { mid = mid; store = store; goes = subst (λ (j : ℕ). GoFor v j a s mid store) same x; new = b; after = t; next = last }
goes_on v k (suc more) zero a s b t is goes = absurd (omega (arith, is))
goes_on v k (suc more) (suc total) a s b t is (mid, store, x, last) =
    goes_on v k more total a s mid store (let less : total ≡ more + k = omega (arith, is) in less) x

-- a step that asks or ends doesn't go on
stops : (how : StepEnd) (a b c : Private) → own_after Next b (alone a) ≡ own_after how c (alone a) → (how ≡ Next → ⊥) → ⊥
stops Next a b c e other = other refl
stops _ a b c e other = let bad : Going ≡ _ = ap (λ (o : Own). o.status) e in cc

never_stops : (v : VerifiedCode) (a : Private) (s : Store) (n : ℕ) (ran : Ran) (new : Private) (after : Store) (b : Private) (t : Store) → GoFor v n a s b t → (ran.how ≡ Next → ⊥) → StopsAfter v a s n ran new after → ⊥
never_stops v a s n ran new after b t goes other stop =
    let few = stop.few in
    let more : ℕ = n - suc stop.gone in
    let is : n ≡ suc (more + stop.gone) = omega (arith, few) in
    let on = goes_on v stop.gone more (more + stop.gone) a s b t refl (subst (λ (k : ℕ). GoFor v k a s b t) is goes) in
    let same = goes_once v stop.gone a s on.mid stop.mid on.store stop.store on.goes stop.goes in
    let moved : IsStep v stop.mid stop.store Next on.new on.after =
    subst (λ (p : Private). IsStep v p stop.store Next on.new on.after) same.0 (subst (λ (st : Store). IsStep v on.mid st Next on.new on.after) same.1 on.next) in
    stops ran.how stop.mid on.new new (both v stop.mid stop.store Next ran.how on.new new on.after after moved stop.last).0 other

-- a run of n instructions comes where n single ones come
pub comes_there : (v : VerifiedCode) (a : Private) (s : Store) (n count : ℕ) (how : StepEnd) (new : Private) (after : Store) (b : Private) (t : Store) → GoFor v n a s b t
    → HasExecuted v a s n (record { instructions = count; how = how }) new after → (count ≡ n) × (new ≡ b) × (after ≡ t)
comes_there v a s n count Next new after b t goes ran = let same = goes_once v n a s new b after t ran.1 goes in (ran.0, same.0, same.1)
comes_there v a s n count _ new after b t goes ran = absurd (never_stops v a s n _ new after b t goes (λ e. cc) ran)
