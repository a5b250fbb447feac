-- The tests whether ends, calls and values are the same.
use Rattle.std.proofs.Common.{◌≡◌, ℕ, zero, suc, ℤ, pos, negsuc, List, [], ◌∷◌, refl, sym, ◌∙◌, ap, eqb}
use Rattle.std.specs.Prelude.{Decides, ◌&&◌, ◌==◌}
use Rattle.std.proofs.lemmas.Bool.Decides.{Decides-eqb, Decides-and, Decides-like}
use Rattle.arrayvec.specs.ArrayVec.{ArrayVec}
use Rattle.mate_num.specs.Number.{int_same}
use Rattle.mate_num.specs.declared.call.Call.{Call}
use Rattle.mate_num.specs.declared.call.End.{End}
use Rattle.mate_num.specs.declared.call.End.TheVariants as end
use Rattle.mate_num.specs.declared.call.FaultKind.{FaultKind}
use Rattle.mate_num.specs.declared.call.FaultKind.TheVariants as kind
use Rattle.mate_num.specs.declared.id.FunId.{FunId}
use Rattle.audit_rules.proofs.Deciding.{never}
use Rattle.audit_rules.specs.Same.{same_values, same_call, same_calls, fault_number, same_end}

int-Decides : (a b : ℤ) → Decides (int_same a b) (a ≡ b)
int-Decides (pos a) (pos b) = Decides-like (eqb a b) (λ e. ap pos e) (λ e. cc) (Decides-eqb a b)
int-Decides (pos a) (negsuc b) = never (λ e. cc)
int-Decides (negsuc a) (pos b) = never (λ e. cc)
int-Decides (negsuc a) (negsuc b) = Decides-like (eqb a b) (λ e. ap negsuc e) (λ e. cc) (Decides-eqb a b)

pub values-Decides : (xs ys : List ℤ) → Decides (same_values xs ys) (xs ≡ ys)
values-Decides [] [] = (λ e. refl, λ e. refl)
values-Decides [] (y ∷ ys) = never (λ e. cc)
values-Decides (x ∷ xs) [] = never (λ e. cc)
values-Decides (x ∷ xs) (y ∷ ys) =
    Decides-like (same_values (x ∷ xs) (y ∷ ys)) (λ h. ap (λ (z : ℤ). z ∷ xs) h.0 ∙ ap (λ (zs : List ℤ). y ∷ zs) h.1) (λ e. (let h : x ≡ y = cc in h, let t : xs ≡ ys = cc in t))
    (Decides-and (int_same x y) (same_values xs ys) (int-Decides x y) (values-Decides xs ys))

same_fun : (f g : FunId) → f.0 ≡ g.0 → f ≡ g
same_fun f g e = ap (λ (n : ℕ). let x : FunId = record { 0 = n } in x) e

same_args : (a b : ArrayVec ℤ) → a.items ≡ b.items → a ≡ b
same_args a b e = ap (λ (xs : List ℤ). let x : ArrayVec ℤ = record { items = xs } in x) e

call-Decides : (a b : Call) → Decides (same_call a b) (a ≡ b)
call-Decides a b =
    Decides-like (same_call a b)
    (λ h. ap (λ (f : FunId). let c : Call = record { fun = f; args = a.args; result = a.result } in c) (same_fun a.fun b.fun h.0)
    ∙ ap (λ (xs : ArrayVec ℤ). let c : Call = record { fun = b.fun; args = xs; result = a.result } in c) (same_args a.args b.args h.1.0)
    ∙ ap (λ (v : ℤ). let c : Call = record { fun = b.fun; args = b.args; result = v } in c) h.1.1)
    (λ e. (ap (λ (c : Call). c.fun.0) e, (ap (λ (c : Call). c.args.items) e, ap (λ (c : Call). c.result) e)))
    (Decides-and (eqb a.fun.0 b.fun.0) (same_values a.args.items b.args.items && int_same a.result b.result) (Decides-eqb a.fun.0 b.fun.0)
    (Decides-and (same_values a.args.items b.args.items) (int_same a.result b.result) (values-Decides a.args.items b.args.items) (int-Decides a.result b.result)))

pub calls-Decides : (xs ys : List Call) → Decides (same_calls xs ys) (xs ≡ ys)
calls-Decides [] [] = (λ e. refl, λ e. refl)
calls-Decides [] (y ∷ ys) = never (λ e. cc)
calls-Decides (x ∷ xs) [] = never (λ e. cc)
calls-Decides (x ∷ xs) (y ∷ ys) =
    Decides-like (same_calls (x ∷ xs) (y ∷ ys)) (λ h. ap (λ (z : Call). z ∷ xs) h.0 ∙ ap (λ (zs : List Call). y ∷ zs) h.1) (λ e. (let h : x ≡ y = cc in h, let t : xs ≡ ys = cc in t))
    (Decides-and (same_call x y) (same_calls xs ys) (call-Decides x y) (calls-Decides xs ys))

abbrev fault_of : ℕ → FaultKind
fault_of zero = kind.DivZero
fault_of (suc zero) = kind.Index
fault_of (suc (suc zero)) = kind.BufferFull
fault_of (suc (suc (suc zero))) = kind.BufferEmpty
fault_of (suc (suc (suc (suc n)))) = kind.Overrun

fault-again : (k : FaultKind) → fault_of (fault_number k) ≡ k
fault-again kind.DivZero = refl
fault-again _ = refl

fault-Decides : (k l : FaultKind) → Decides (fault_number k == fault_number l) (k ≡ l)
fault-Decides k l = Decides-like (fault_number k == fault_number l) (λ e. sym (fault-again k) ∙ ap fault_of e ∙ fault-again l) (λ e. ap fault_number e) (Decides-eqb (fault_number k) (fault_number l))

pub end-Decides : (a b : End) → Decides (same_end a b) (a ≡ b)
end-Decides end.Halt end.Halt = (λ e. refl, λ e. refl)
end-Decides end.Halt (end.Fault k) = never (λ e. cc)
end-Decides end.Halt (end.Wants f args) = never (λ e. cc)
end-Decides (end.Fault k) end.Halt = never (λ e. cc)
end-Decides (end.Fault k) (end.Fault l) = Decides-like (fault_number k == fault_number l) (λ e. ap end.Fault e) (λ e. cc) (fault-Decides k l)
end-Decides (end.Fault k) (end.Wants f args) = never (λ e. cc)
end-Decides (end.Wants f args) end.Halt = never (λ e. cc)
end-Decides (end.Wants f args) (end.Fault k) = never (λ e. cc)
end-Decides (end.Wants f args) (end.Wants g bs) =
    Decides-like (same_end (end.Wants f args) (end.Wants g bs))
    (λ h. ap (λ (x : FunId). end.Wants x args) (same_fun f g h.0) ∙ ap (λ (x : ArrayVec ℤ). end.Wants g x) (same_args args bs h.1))
    (λ e. (let f_is : f ≡ g = cc in ap (λ (x : FunId). x.0) f_is, let args_is : args ≡ bs = cc in ap (λ (x : ArrayVec ℤ). x.items) args_is))
    (Decides-and (eqb f.0 g.0) (same_values args.items bs.items) (Decides-eqb f.0 g.0) (values-Decides args.items bs.items))
