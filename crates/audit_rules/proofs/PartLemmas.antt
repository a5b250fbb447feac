-- Runs of code go by parts.
use Rattle.std.proofs.Common.{◌≡◌, ℕ, ◌+◌, ℤ, List, [], ◌∷◌, ◌++◌, length, length-append, refl, ap, sym, ◌∙◌, arith, inl, inr, Bool, true, false}
use Rattle.std.specs.Prelude.{IsTrue, IsFalse}
use Rattle.arrayvec.specs.ArrayVec.{ArrayVec}
use Rattle.mate_num.specs.Uses.{Uses, uses, Conflicts}
use Rattle.mate_num.specs.declared.call.Call.{Call}
use Rattle.mate_num.specs.declared.call.End.TheVariants as end
use Rattle.mate_num.specs.declared.resource.Resource.{Resource}
use Rattle.mate_num.specs.declared.shape.Shape.{Shape}
use Rattle.mate_num.specs.declared.store.Store.{Store}
use Rattle.mate_code.specs.Cells.{Agree}
use Rattle.mate_code.specs.CodeUses.{uses_of}
use Rattle.mate_code.specs.Run.{Code, Own, Run, begun_run, bound, after, end_of, code_run}
use Rattle.mate_code.proofs.RunLemmas.{after-other, after-AreAsLong, after-Matches}
use Rattle.audit_rules.specs.Replay.{GoesByParts}
use Rattle.audit_rules.specs.CodeMeaning.{CodeOf, meaning_with}
use Rattle.audit_rules.proofs.AnswerLemmas.{IsExtended, after-count, after-IsExtended}

-- two lists that are as long, with one more element and with more
record IsSplit (xs ys : List Call) (c d : Call) : Type 0 where
  front : xs ≡ ys
  next : c ≡ d

abbrev head_of : Call → List Call → Call
head_of d [] = d
head_of d (x ∷ xs) = x

abbrev tail_of : List Call → List Call
tail_of [] = []
tail_of (x ∷ xs) = xs

same-split : (xs ys : List Call) (c d : Call) (rest : List Call) → length xs ≡ length ys → xs ++ c ∷ [] ≡ ys ++ d ∷ rest → IsSplit xs ys c d
same-split [] [] c d rest long e = record { front = refl; next = ap (head_of c) e }
same-split [] (y ∷ ys) c d rest long e = absurd (omega (arith, long))
same-split (x ∷ xs) [] c d rest long e = absurd (omega (arith, long))
same-split (x ∷ xs) (y ∷ ys) c d rest long e =
    let h = same-split xs ys c d rest (omega (arith, long)) (ap tail_of e) in
    record { front = ap (λ (z : Call). z ∷ xs) (ap (head_of x) e) ∙ ap (λ (zs : List Call). y ∷ zs) h.front; next = h.next }

one_less : (shape : Shape) (code : Code) (store : Store) (payload : ArrayVec ℤ) (answers : List ℤ) (value : ℤ) (turns : ℕ) (calls : List Call) (c : Call)
    → length calls ≡ length answers → (code_run shape code store payload (answers ++ value ∷ []) turns).calls ≡ calls ++ c ∷ []
    → ((code_run shape code store payload answers turns).calls ≡ calls) × ((code_run shape code store payload answers turns).end ≡ end.Wants c.fun c.args)
one_less shape code store payload answers value turns calls c long is = by (after-IsExtended (bound code turns) value shape code (begun_run store payload answers turns)) where
  r : Run
  r = after (bound code turns) shape code (begun_run store payload answers turns)

  r' : Run
  r' = after (bound code turns) shape code (begun_run store payload (answers ++ value ∷ []) turns)

  counted : length r.own.calls + length r.own.left ≡ length answers
  counted = let k = after-count (bound code turns) shape code (begun_run store payload answers turns) in omega (arith, k)

  by : IsExtended value r r' → (r.own.calls ≡ calls) × (end_of r.own.status ≡ end.Wants c.fun c.args)
  by (inl same) =
      let e : r.own.calls ≡ calls ++ c ∷ [] = sym (ap (λ (x : Run). x.own.calls) same) ∙ is in
      let l : length r.own.calls ≡ length (calls ++ c ∷ []) = ap (λ (xs : List Call). length xs) e in
      let m = length-append calls (c ∷ []) in
      let k = counted in
      absurd (omega (arith, l, m, k, long))
  by (inr past) =
      let k = counted in
      let left : length r.own.left ≡ 0 = ap (λ (xs : List ℤ). length xs) past.none in
      let d : Call = record { fun = past.fun; args = past.args; result = value } in
      let s = same-split calls r.own.calls c d past.rest (omega (arith, k, left, long)) (sym is ∙ past.calls) in (
        sym s.front,
        ap end_of past.waits ∙ ap (λ (x : Call). end.Wants x.fun x.args) (sym s.next),
      )

-- what one writes the other doesn't use
unwritten : (a b : Uses) (at : Resource) → (Conflicts a b → ⊥) → IsTrue (uses b at) → IsFalse (a.writes at)
unwritten a b at apart used = by (a.writes at) refl where
  by : (w : Bool) → a.writes at ≡ w → w ≡ false
  by true is = absurd (apart (record { resource = at; at = inl (is, used) }))
  by false is = refl

untouched-Agree : (shape : Shape) (p q : Code) (store : Store) (msg : ArrayVec ℤ) (answers : List ℤ) (turns : ℕ) → (Conflicts (uses_of shape p) (uses_of shape q) → ⊥)
    → Agree (uses (uses_of shape q)) (code_run shape p store msg answers turns).store store
untouched-Agree shape p q store msg answers turns apart = record {
  as_long = after-AreAsLong (bound p turns) shape p (begun_run store msg answers turns);
  same = λ at used. after-other (bound p turns) shape p (begun_run store msg answers turns) at (unwritten (uses_of shape p) (uses_of shape q) at apart used);
}

same-run : (shape : Shape) (q : Code) (s t : Store) (msg : ArrayVec ℤ) (answers : List ℤ) (turns : ℕ) → Agree (uses (uses_of shape q)) s t
    → ((code_run shape q s msg answers turns).end ≡ (code_run shape q t msg answers turns).end) × ((code_run shape q s msg answers turns).calls ≡ (code_run shape q t msg answers turns).calls)
same-run shape q s t msg answers turns agree =
    let m = after-Matches (bound q turns) shape q (begun_run s msg answers turns) (begun_run t msg answers turns) record { own = refl; stores = agree } in
    (ap (λ (o : Own). end_of o.status) m.own, ap (λ (o : Own). o.calls) m.own)

pub code-GoesByParts : (shape : Shape) (code : CodeOf) → GoesByParts (meaning_with shape code)
code-GoesByParts shape code = record {
  one_less = λ p store payload answers value turns calls c long is. one_less shape (code p) store payload answers value turns calls c long is;
  untouched = λ p q store a b us vs turns apart. same-run shape (code q) (code_run shape (code p) store a us turns).store store b vs turns (untouched-Agree shape (code p) (code q) store a us turns apart);
}
