-- What was held has another version and another image.
use Rattle.std.proofs.Common.{◌∙◌, List, Option, set, refl, ap}
use Rattle.std.proofs.lemmas.Result.{err_from_is_err_and}
use Rattle.node_state.specs.declared.handlers.Held.{Held}
use Rattle.node_state.specs.Programs.{HeldPrograms, held_at, renewed}
use Rattle.node_state.specs.declared.parts.Parts.{Parts}
use Rattle.node_calls.proofs.InstallLemmas.{Refuses-older, shown-places, shown-room, Arrives-shown, InstallGives-begun}
use Rattle.node_calls.proofs.installing.install_known.Goals as goal

pub renew-requires-clause-handler : goal.renew-requires-clause-handler
renew-requires-clause-handler c =
    shown-places c.args.description.now c.args.parts.now c.prepare.new.parts c.args.at c.args.bytes.now (record { handler = c.args.handler; held = c.requires.can.x }) c.args.version c.requires.may.rests c.requires.can.can c.requires.can.version_is
    c.in_ok-prepare.ensures.prepares

pub renew-requires-clause-room : goal.renew-requires-clause-room
renew-requires-clause-room c =
    shown-room c.args.description.now c.args.parts.now c.prepare.new.parts c.args.at c.args.bytes.now (record { handler = c.args.handler; held = c.requires.can.x }) c.args.version c.requires.may.rests c.requires.can.can c.requires.can.version_is
    c.in_ok-prepare.ensures.prepares c.requires.room

pub begin-requires : goal.begin-requires
begin-requires c =
    let shown = c.in_ok-prepare.ensures.prepares in
    let programs = c.renew.ensures ∙ ap (λ (o : Option Held). let hs : HeldPrograms = record (c.prepare.new.parts.handlers) { programs = set c.prepare.new.parts.handlers.programs c.args.handler.0 o } in hs) (ap (λ (s : Parts). renewed c.args.version (record { items = c.args.bytes.now }) (held_at s.handlers.programs c.args.handler)) shown.tells.same ∙ c.requires.can.after) in
    Arrives-shown c.args.description.now c.args.parts.now c.prepare.new.parts c.args.at c.args.bytes.now (record { handler = c.args.handler; held = c.requires.can.x }) c.args.version c.requires.may.rests c.requires.can.can c.requires.can.version_is
    c.in_ok-prepare.ensures.prepares
    _ c.requires.may.room c.requires.may.few (ap (λ (hs : HeldPrograms). let s : Parts = record (c.prepare.new.parts) { handlers = hs } in s) programs)

pub returns-clause-installs : goal.returns-clause-installs
returns-clause-installs c =
    let shown = c.in_ok-prepare.ensures.prepares in
    let programs = c.renew.ensures ∙ ap (λ (o : Option Held). let hs : HeldPrograms = record (c.prepare.new.parts.handlers) { programs = set c.prepare.new.parts.handlers.programs c.args.handler.0 o } in hs) (ap (λ (s : Parts). renewed c.args.version (record { items = c.args.bytes.now }) (held_at s.handlers.programs c.args.handler)) shown.tells.same ∙ c.requires.can.after) in
    InstallGives-begun c.args.description.now c.args.parts.now c.prepare.new.parts c.args.at c.args.bytes.now (record { handler = c.args.handler; held = c.requires.can.x }) c.args.version c.requires.may.rests c.requires.can.can c.requires.can.version_is
    c.in_ok-prepare.ensures.prepares
    _ c.begin.new.parts c.requires.may.room c.requires.may.few (ap (λ (hs : HeldPrograms). let s : Parts = record (c.prepare.new.parts) { handlers = hs } in s) programs) c.begin.ensures.begins

pub returns-in_err-prepare-clause-installs : goal.returns-in_err-prepare-clause-installs
returns-in_err-prepare-clause-installs c =
    let p = err_from_is_err_and c.from_residual.result c.from_residual.ensures.1 in
    rw (p.1, p.2) (
    Refuses-older c.args.description.now c.args.parts.now c.prepare.new.parts c.args.at c.args.bytes.now (record { handler = c.args.handler; held = c.requires.can.x }) c.args.version c.requires.may.rests c.requires.can.can c.requires.can.version_is c.in_err-prepare.field-0.0
    c.in_err-prepare.ensures.prepares)

pub returns-clause-gone : goal.returns-clause-gone
returns-clause-gone c = c.begin.ensures.gone ∙ c.prepare.ensures.gone

pub renew-requires-clause-fits : goal.renew-requires-clause-fits
renew-requires-clause-fits c = c.requires.can.fits

pub returns-clause-room : goal.returns-clause-room
returns-clause-room c =
    c.begin.ensures.room ∙ ap (λ (hs : HeldPrograms). hs.room) c.renew.ensures ∙ c.prepare.ensures.room
