-- The program takes the place of what was held.
use Rattle.std.proofs.Common.{◌∙◌, List, Option, refl, ap}
use Rattle.std.proofs.lemmas.Result.{err_from_is_err_and}
use Rattle.node_state.specs.declared.handlers.Held.{Held}
use Rattle.node_state.specs.Programs.{HeldPrograms}
use Rattle.node_state.specs.declared.parts.Parts.{Parts}
use Rattle.node_calls.proofs.InstallLemmas.{Refuses-older, shown-places, shown-room, Arrives-shown, InstallGives-begun}
use Rattle.node_calls.proofs.installing.install_own.Goals as goal

pub install-requires-clause-handler : goal.install-requires-clause-handler
install-requires-clause-handler c =
    shown-places c.args.description.now c.args.parts.now c.prepare.new.parts c.args.at c.args.bytes.now (record { handler = c.args.handler; held = c.args.held }) c.args.held.version c.requires.may.rests c.requires.can refl
    c.in_ok-prepare.ensures.prepares

pub install-requires-clause-room : goal.install-requires-clause-room
install-requires-clause-room c =
    shown-room c.args.description.now c.args.parts.now c.prepare.new.parts c.args.at c.args.bytes.now (record { handler = c.args.handler; held = c.args.held }) c.args.held.version c.requires.may.rests c.requires.can refl
    c.in_ok-prepare.ensures.prepares c.requires.room

pub begin-requires : goal.begin-requires
begin-requires c =
    let programs = c.install.ensures in
    Arrives-shown c.args.description.now c.args.parts.now c.prepare.new.parts c.args.at c.args.bytes.now (record { handler = c.args.handler; held = c.args.held }) c.args.held.version c.requires.may.rests c.requires.can refl
    c.in_ok-prepare.ensures.prepares
    _ c.requires.may.room c.requires.may.few (ap (λ (hs : HeldPrograms). let s : Parts = record (c.prepare.new.parts) { handlers = hs } in s) programs)

pub returns-clause-installs : goal.returns-clause-installs
returns-clause-installs c =
    let programs = c.install.ensures in
    InstallGives-begun c.args.description.now c.args.parts.now c.prepare.new.parts c.args.at c.args.bytes.now (record { handler = c.args.handler; held = c.args.held }) c.args.held.version c.requires.may.rests c.requires.can refl
    c.in_ok-prepare.ensures.prepares
    _ c.begin.new.parts c.requires.may.room c.requires.may.few (ap (λ (hs : HeldPrograms). let s : Parts = record (c.prepare.new.parts) { handlers = hs } in s) programs) c.begin.ensures.begins

pub returns-in_err-prepare-clause-installs : goal.returns-in_err-prepare-clause-installs
returns-in_err-prepare-clause-installs c =
    let p = err_from_is_err_and c.from_residual.result c.from_residual.ensures.1 in
    rw (p.1, p.2) (
    Refuses-older c.args.description.now c.args.parts.now c.prepare.new.parts c.args.at c.args.bytes.now (record { handler = c.args.handler; held = c.args.held }) c.args.held.version c.requires.may.rests c.requires.can refl c.in_err-prepare.field-0.0
    c.in_err-prepare.ensures.prepares)

pub returns-clause-gone : goal.returns-clause-gone
returns-clause-gone c = c.begin.ensures.gone ∙ c.prepare.ensures.gone

pub returns-clause-room : goal.returns-clause-room
returns-clause-room c =
    c.begin.ensures.room ∙ ap (λ (hs : HeldPrograms). hs.room) c.install.ensures ∙ c.prepare.ensures.room
