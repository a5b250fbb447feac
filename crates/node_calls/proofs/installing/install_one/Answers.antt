-- The shared program takes the place of what was held.
use Rattle.std.proofs.Common.{◌∙◌, List, Option, refl, ap, sym}
use Rattle.std.proofs.lemmas.Result.{err_from_is_err_and}
use Rattle.node_state.specs.declared.handlers.Held.{Held}
use Rattle.node_state.specs.Programs.{HeldPrograms}
use Rattle.node_state.specs.declared.parts.Parts.{Parts}
use Rattle.node_calls.proofs.InstallLemmas.{Refuses-older, shown-places, Arrives-shown, InstallGives-begun}
use Rattle.node_calls.proofs.installing.install_one.Goals as goal

pub share-requires : goal.share-requires
share-requires c =
    shown-places c.args.description.now c.args.parts.now c.prepare.new.parts c.args.at c.args.bytes.now (record { handler = c.args.handler; held = c.args.program }) c.as_held.result.now.version c.requires.may.rests c.requires.can (ap (λ (x : Held). x.version) (sym c.as_held.ensures))
    c.in_ok-prepare.ensures.prepares

pub begin-requires : goal.begin-requires
begin-requires c =
    let programs = c.share.ensures in
    Arrives-shown c.args.description.now c.args.parts.now c.prepare.new.parts c.args.at c.args.bytes.now (record { handler = c.args.handler; held = c.args.program }) c.as_held.result.now.version c.requires.may.rests c.requires.can (ap (λ (x : Held). x.version) (sym c.as_held.ensures))
    c.in_ok-prepare.ensures.prepares
    _ c.requires.may.room c.requires.may.few (ap (λ (hs : HeldPrograms). let s : Parts = record (c.prepare.new.parts) { handlers = hs } in s) programs)

pub returns-clause-installs : goal.returns-clause-installs
returns-clause-installs c =
    let programs = c.share.ensures in
    InstallGives-begun c.args.description.now c.args.parts.now c.prepare.new.parts c.args.at c.args.bytes.now (record { handler = c.args.handler; held = c.args.program }) c.as_held.result.now.version c.requires.may.rests c.requires.can (ap (λ (x : Held). x.version) (sym c.as_held.ensures))
    c.in_ok-prepare.ensures.prepares
    _ c.begin.new.parts c.requires.may.room c.requires.may.few (ap (λ (hs : HeldPrograms). let s : Parts = record (c.prepare.new.parts) { handlers = hs } in s) programs) c.begin.ensures.begins

pub returns-in_err-prepare-clause-installs : goal.returns-in_err-prepare-clause-installs
returns-in_err-prepare-clause-installs c =
    let p = err_from_is_err_and c.from_residual.result c.from_residual.ensures.1 in
    rw (p.1, p.2) (
    Refuses-older c.args.description.now c.args.parts.now c.prepare.new.parts c.args.at c.args.bytes.now (record { handler = c.args.handler; held = c.args.program }) c.as_held.result.now.version c.requires.may.rests c.requires.can (ap (λ (x : Held). x.version) (sym c.as_held.ensures)) c.in_err-prepare.field-0.0
    c.in_err-prepare.ensures.prepares)

pub returns-clause-gone : goal.returns-clause-gone
returns-clause-gone c = c.begin.ensures.gone ∙ c.prepare.ensures.gone

pub returns-clause-room : goal.returns-clause-room
returns-clause-room c =
    c.begin.ensures.room ∙ ap (λ (hs : HeldPrograms). hs.room) c.share.ensures ∙ c.prepare.ensures.room
