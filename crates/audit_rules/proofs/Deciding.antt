-- What tests tell: a constant, an implication, and one of two.
use Rattle.std.proofs.Common.{◌≡◌, ◌≤◌, ℕ, Bool, true, false, true≢false, refl, sym, ◌∙◌, arith, inl, inr, leb}
use Rattle.std.specs.Prelude.{Decides, ◌||◌, not}
use Rattle.std.proofs.lemmas.Bool.Decides.{leb_tells}

pub always : {P : Type 0} → P → Decides true P
always p = (λ e. p, λ h. refl)

pub never : {P : Type 0} → (P → ⊥) → Decides false P
never none = (λ e. absurd (true≢false (sym e)), λ p. absurd (none p))

pub leb-Decides : (a b : ℕ) → Decides (leb a b) (a ≤ b)
leb-Decides a b = elim (leb_tells a b) [ inl t ↦ (λ e. t.1, λ h. t.0) | inr u ↦ (λ e. absurd (true≢false (sym e ∙ u.0)), λ h. let low = u.1 in absurd (omega (arith, h, low))) ]

pub implies-Decides : {P Q : Type 0} (b c : Bool) → Decides b P → Decides c Q → Decides (not b || c) (P → Q)
implies-Decides true c p q = (λ e h. q.0 e, λ f. q.1 (f (p.0 refl)))
implies-Decides false c p q = (λ e h. absurd (true≢false (sym (p.1 h))), λ f. refl)

-- the second is asked only where the first holds
pub then-Decides : {P Q : Type 0} (b c : Bool) → Decides b P → (P → Decides c Q) → Decides (not b || c) (P → Q)
then-Decides true c p q = (λ e h. (q h).0 e, λ f. (q (p.0 refl)).1 (f (p.0 refl)))
then-Decides false c p q = (λ e h. absurd (true≢false (sym (p.1 h))), λ f. refl)

pub or-Decides : {P Q : Type 0} (b c : Bool) → Decides b P → Decides c Q → Decides (b || c) ((P → ⊥) → Q)
or-Decides true c p q = (λ e none. absurd (none (p.0 refl)), λ h. refl)
or-Decides false c p q = (λ e none. q.0 e, λ h. q.1 (h (λ y. true≢false (sym (p.1 y)))))

-- one test after another
pub chained : {P : Type 0} (b c : Bool) → Decides b (c ≡ true) → Decides c P → Decides b P
chained b c first second = (λ e. second.0 (first.0 e), λ p. first.1 (second.1 p))
