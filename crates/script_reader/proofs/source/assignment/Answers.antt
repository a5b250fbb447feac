use Rattle.std.proofs.Common.{◌≡◌, ◌<◌, ◌+◌, ◌∙◌, ℕ, List, [], ◌∷◌, ◌++◌, Option, Bor, append_assoc, codes, ap, sym, subst, arith}
use Rattle.std.specs.Prelude.{IfOk, option_map}
use Rattle.std.specs.String.{string_bytes}
use Rattle.std.proofs.lemmas.List.{append-nil}
use Rattle.script_reader.specs.Source.{assignment, sensor_term, source_head}
use Rattle.script_reader.proofs.source.assignment.Goals as goal
use Rattle.script_reader.proofs.source.assignment.Goals.{in-Some+in_ok-push_str+in_ok-push_str-2, in_default}

-- the text grows to the assignment
whole : (s : List ℕ) (sensor : Option (List ℕ)) (v : ℕ) (t p q : List ℕ) → t ≡ source_head s ++ sensor_term sensor → p ≡ t ++ (48 + v) ∷ [] → q ≡ p ++ codes ";" → q ≡ assignment s sensor v
whole s sensor v t p q at_term at_digit at_end =
    at_end ∙ ap (λ (x : List ℕ). x ++ codes ";") (at_digit ∙ ap (λ (x : List ℕ). x ++ (48 + v) ∷ []) at_term)
    ∙ append_assoc (source_head s ++ sensor_term sensor) ((48 + v) ∷ []) (codes ";")

pub returns : goal.returns
returns c =
    let s : List ℕ = c.args.shared.now in
    let v : ℕ = c.args.version in
    let text : List ℕ = string_bytes c.match-sensor.text in
    let digit : ℕ = c.from.result in
    let is : digit ≡ 48 + v = c.from.ensures in
    let low : digit < 128 = let high = c.requires in omega (arith, is, high) in
    let term : text ≡ source_head s ++ sensor_term (option_map (λ f. f.now) c.args.sensor) = elim c.match-sensor.branch [
      | in-Some+in_ok-push_str+in_ok-push_str-2 w ↦
          ap (λ t. string_bytes t) w.text-is ∙ w.in_ok-push_str-2.ensures.bytes ∙ ap (λ (x : List ℕ). x ++ codes "() + ") (w.in_ok-push_str.ensures.bytes ∙ ap (λ (x : List ℕ). x ++ w.in-Some.function.now) c.in_ok-text.ensures)
          ∙ append_assoc (source_head s) w.in-Some.function.now (codes "() + ")
          ∙ sym (ap (λ (o : Option (Bor (List ℕ))). source_head s ++ sensor_term (option_map (λ f. f.now) o)) w.in-Some.is)
      | in_default w ↦
          ap (λ t. string_bytes t) w.text-is ∙ c.in_ok-text.ensures ∙ sym (append-nil (source_head s))
          ∙ sym (ap (λ (o : Option (Bor (List ℕ))). source_head s ++ sensor_term (option_map (λ f. f.now) o)) w.in_default.is)
    ] in
    let made = whole s (option_map (λ f. f.now) c.args.sensor) v text (string_bytes c.push.new.self) (string_bytes c.push_str-2.new.self) term
    (c.in_ok-push.ensures.bytes ∙ ap (λ (x : List ℕ). text ++ x) (c.in_ok-push.ensures.ascii low ∙ ap (λ (n : ℕ). n ∷ []) is)) c.in_ok-push_str-3.ensures.bytes in
    subst (λ (x : List ℕ). IfOk c.of.result (λ t. t ≡ x)) (c.as_str.ensures.value ∙ made) c.of.ensures
