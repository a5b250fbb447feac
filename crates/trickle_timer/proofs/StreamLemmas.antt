-- A random stream, one word after another.
use Rattle.std.proofs.Common.{◌≡◌, ℕ, zero, suc, ◌+◌, refl, ap, add-one}
use Rattle.rand_pcg.specs.Lcg.{Lcg, advance, next_state, state_after}
use Rattle.rand_pcg.specs.Pcg.{multiplier_64, pcg32}

-- a step after n steps is step n + 1
state_after_step : (w m p n s : ℕ) → next_state w m p (state_after w m p n s) ≡ state_after w m p (suc n) s
unfolding state_after
state_after_step w m p zero s = refl
state_after_step w m p (suc n) s = state_after_step w m p n (next_state w m p s)

pub advance_step : (n : ℕ) (g : Lcg) → (pcg32 (advance 64 multiplier_64 n g)).1 ≡ advance 64 multiplier_64 (n + 1) g
advance_step n g =
    let M = multiplier_64 in
    let e : next_state 64 M g.increment (state_after 64 M g.increment n g.state) ≡ state_after 64 M g.increment (n + 1) g.state = rw add-one (state_after_step 64 M g.increment n g.state) in
    let G : ℕ → Lcg = λ s. record { state = s; increment = g.increment } in
    ap G e

pub advance_none : (g : Lcg) → advance 64 multiplier_64 0 g ≡ g
unfolding state_after
advance_none g = refl
