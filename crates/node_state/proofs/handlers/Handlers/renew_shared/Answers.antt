-- A copy with the version and the image, if one is held.
use Rattle.std.proofs.Common.{◌≡◌, List, Option, None, Some, set, sym, ap, ◌∙◌}
use Rattle.std.proofs.lemmas.List.{set-get_or}
use Rattle.node_state.specs.declared.handlers.Held.{Held}
use Rattle.node_state.specs.Programs.{HeldPrograms, held_at, renewed}
use Rattle.node_state.proofs.handlers.Handlers.renew_shared.Goals as goal

pub returns-in-Some : goal.returns-in-Some
returns-in-Some c =
    let programs = c.args.self.now.programs in
    let h = c.args.handler in
    c.install.ensures
    ∙ ap (λ (o : Option Held). let held : HeldPrograms = record (c.args.self.now) { programs = set programs h.0 o } in held) (ap (λ (x : Held). Some x) c.renewed_copy-held.ensures ∙ ap (λ (o : Option Held). renewed c.args.version (record { items = c.args.image.now }) o) c.in-Some.ensures)

pub returns-in_default : goal.returns-in_default
returns-in_default c =
    let programs = c.args.self.now.programs in
    let h = c.args.handler in
    let none : held_at programs h ≡ None = sym c.in_default.ensures in
    ap (λ (ps : List (Option Held)). let held : HeldPrograms = record (c.args.self.now) { programs = ps } in held)
    (sym (set-get_or programs h.0 None)
    ∙ ap (λ (o : Option Held). set programs h.0 o) (none ∙ sym (ap (λ (o : Option Held). renewed c.args.version (record { items = c.args.image.now }) o) none)))
