-- The handler with a name.
use Rattle.std.proofs.Common.{◌≡◌, ℕ, ◌+◌, ◌<◌, ◌≤◌, Bool, true, false, cond, List, length, get_or, drop, Result, Ok, Err, sym, ap, subst, ◌∙◌}
use Rattle.std.specs.Str.{bytes_eq}
use Rattle.std.proofs.lemmas.List.{at_drop_more, at_drop_all}
use Rattle.mate_num.specs.declared.id.HandlerId.{HandlerId}
use Rattle.vm_shape.specs.declared.handler.Handler.{Handler}
use Rattle.script_steps.specs.declared.fault.Cause.{Cause}
use Rattle.script_steps.specs.declared.fault.Cause.TheVariants.{Name}
use Rattle.script_steps.specs.Words.{handler_from}

-- ---- the handlers from a number on, one of which is looked at

pub record LooksAt (handlers : List Handler) (k : ℕ) (h : Handler) : Type 0 where
  pub below : k < length handlers
  pub is : h ≡ get_or handlers k h

pub looks-at : (handlers given : List Handler) (k : ℕ) (h : Handler) → given ≡ handlers → k < length given → h ≡ get_or given k h → LooksAt handlers k h
looks-at handlers given k h same below is = let P : List Handler → Type 0 = λ l. LooksAt l k h in subst P same record { below = below; is = is }

named : (w name : List ℕ) (h : Handler) (r b : Bool) → name ≡ h.name → r ≡ bytes_eq name w → r ≡ b → bytes_eq h.name w ≡ b
named w name h r b same is told = ap (λ (bytes : List ℕ). bytes_eq bytes w) (sym same) ∙ sym is ∙ told

at-handler : (w : List ℕ) (handlers : List Handler) (k : ℕ) (h : Handler) (b : Bool) → LooksAt handlers k h → bytes_eq h.name w ≡ b
    → handler_from w k (drop k handlers) ≡ cond b (Ok (record { 0 = k })) (handler_from w (k + 1) (drop (k + 1) handlers))
at-handler w handlers k h b at known =
    at_drop_more (handler_from w k) handlers k h at.below
    ∙ ap (λ (test : Bool). cond {A = Result HandlerId Cause} test (Ok (record { 0 = k })) (handler_from w (k + 1) (drop (k + 1) handlers))) (ap (λ (x : Handler). bytes_eq x.name w) (sym at.is) ∙ known)

pub handler-is_it : (w name : List ℕ) (handlers : List Handler) (k : ℕ) (h : Handler) (r : Bool) → LooksAt handlers k h → name ≡ h.name → r ≡ bytes_eq name w → r ≡ true → handler_from w k (drop k handlers) ≡ handler_from w 0 handlers
    → Ok (record { 0 = k }) ≡ handler_from w 0 handlers
handler-is_it w name handlers k h r at same is told so_far = sym (at-handler w handlers k h true at (named w name h r true same is told)) ∙ so_far

pub handler-is_other : (w name : List ℕ) (handlers : List Handler) (k : ℕ) (h : Handler) (r : Bool) → LooksAt handlers k h → name ≡ h.name → r ≡ bytes_eq name w → r ≡ false → handler_from w k (drop k handlers) ≡ handler_from w 0 handlers
    → handler_from w (k + 1) (drop (k + 1) handlers) ≡ handler_from w 0 handlers
handler-is_other w name handlers k h r at same is told so_far = sym (at-handler w handlers k h false at (named w name h r false same is told)) ∙ so_far

pub handler-is_none : (w : List ℕ) (handlers given : List Handler) (k : ℕ) → given ≡ handlers → length given ≤ k → handler_from w k (drop k handlers) ≡ handler_from w 0 handlers → Err Name ≡ handler_from w 0 handlers
handler-is_none w handlers given k same past so_far =
    let P : List Handler → Type 0 = λ l. length l ≤ k in sym (at_drop_all (handler_from w k) handlers k (subst P same past)) ∙ so_far
