-- One more value of a buffer.
use Rattle.std.proofs.Common.{◌≡◌, ℕ, ◌<◌, ◌≤◌, nat_lt, cond, List, [], ◌∷◌, ◌++◌, length, Option, Some, None, refl, sym, ap, ◌∙◌}
use Rattle.std.specs.Prelude.{ℤ}
use Rattle.std.specs.Option.{option_map, option_and_then}
use Rattle.std.proofs.lemmas.Bool.{cond-true, cond-false, lt-ltb, le-ltb}
use Rattle.report_line_reader.specs.Numbers.{value_of}
use Rattle.report_line_reader.specs.Stores.{closed, item, items_after}

abbrev next_items : List ℤ → List (List ℕ) → Option (List ℤ × List (List ℕ))
next_items before [] = None
next_items before (w ∷ ws) = items_after before w ws

step : (before : List ℤ) (x : List ℕ) (ws : List (List ℕ))
    → items_after before x ws ≡ cond (nat_lt (length before) 10) (item (closed x) before x ws (λ more. next_items more ws)) None
step before x [] = refl
step before x (w ∷ ws) = refl

room : (before : List ℤ) (x : List ℕ) (ws : List (List ℕ)) → length before < 10
    → items_after before x ws ≡ item (closed x) before x ws (λ more. next_items more ws)
room before x ws h = step before x ws ∙ cond-true (nat_lt (length before) 10) _ _ (lt-ltb (length before) 10 h)

pub item_full : (before : List ℤ) (x : List ℕ) (ws : List (List ℕ)) → 10 ≤ length before → None ≡ items_after before x ws
item_full before x ws h = sym (step before x ws ∙ cond-false (nat_lt (length before) 10) _ _ (le-ltb (length before) 10 h))

abbrev last : List ℤ → List (List ℕ) → ℤ → List ℤ × List (List ℕ)
last before ws v = (before ++ v ∷ [], ws)

pub item_bad_last : (before : List ℤ) (x inner : List ℕ) (ws : List (List ℕ)) → length before < 10 → closed x ≡ Some inner → value_of inner ≡ None
    → None ≡ items_after before x ws
item_bad_last before x inner ws h c v =
    sym (room before x ws h ∙ ap (λ (o : Option (List ℕ)). item o before x ws (λ more. next_items more ws)) c ∙ ap (option_map (last before ws)) v)

pub item_last : (before : List ℤ) (x inner : List ℕ) (ws : List (List ℕ)) (z : ℤ) → length before < 10 → closed x ≡ Some inner → value_of inner ≡ Some z
    → Some (before ++ z ∷ [], ws) ≡ items_after before x ws
item_last before x inner ws z h c v =
    sym (room before x ws h ∙ ap (λ (o : Option (List ℕ)). item o before x ws (λ more. next_items more ws)) c ∙ ap (option_map (last before ws)) v)

pub item_bad : (before : List ℤ) (x : List ℕ) (ws : List (List ℕ)) → length before < 10 → closed x ≡ None → value_of x ≡ None → None ≡ items_after before x ws
item_bad before x ws h c v =
    sym (room before x ws h ∙ ap (λ (o : Option (List ℕ)). item o before x ws (λ more. next_items more ws)) c
    ∙ ap (option_and_then (λ (z : ℤ). next_items (before ++ z ∷ []) ws)) v)
