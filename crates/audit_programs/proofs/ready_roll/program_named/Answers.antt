use Rattle.std.proofs.Common.{◌<◌, ◌∙◌, ℕ, List, get_or, length, true≢false, sym, ap, subst, arith}
use Rattle.std.specs.List.{list_any}
use Rattle.arrayvec.specs.ArrayVec.{ArrayVec}
use Rattle.mate_journal.specs.declared.program.Program.{Program}
use Rattle.node_programs.specs.Sources.{is_held_as}
use Rattle.audit_programs.specs.Naming.{named_program, IsHeldAt}
use Rattle.audit_programs.proofs.FindLemmas.{IsHeldAt-below, found-right, held_image, image-at}
use Rattle.audit_programs.proofs.ready_roll.program_named.Goals as goal

pub returns-clause-right : goal.returns-clause-right
returns-clause-right c =
    let l = c.args.trial.now.log.now in
    let ps : List Program = c.args.trial.now.programs.now in
    let k = c.in-Some.found in
    let at = image-at l.images c.images.result.now c.args.image c.index-images-image.result c.images.ensures c.requires.known c.index-images-image.is in
    let held = subst (λ (image : ArrayVec ℕ). IsHeldAt (record { handler = c.args.handler; version = c.args.version; image = image }) ps k) at c.in-Some.ensures.held in
    let p : Program = c.index-as_slice-found.result in
    (found-right c.args.trial.now.desc.now (named_program l c.args.handler c.args.version c.args.image) ps k p c.requires.right held
    (c.index-as_slice-found.is ∙ ap (λ (xs : List Program). get_or xs k p) c.as_slice.ensures)).0

pub returns-clause-image : goal.returns-clause-image
returns-clause-image c =
    let l = c.args.trial.now.log.now in
    let ps : List Program = c.args.trial.now.programs.now in
    let k = c.in-Some.found in
    let at = image-at l.images c.images.result.now c.args.image c.index-images-image.result c.images.ensures c.requires.known c.index-images-image.is in
    let held = subst (λ (image : ArrayVec ℕ). IsHeldAt (record { handler = c.args.handler; version = c.args.version; image = image }) ps k) at c.in-Some.ensures.held in
    let p : Program = c.index-as_slice-found.result in
    held_image (named_program l c.args.handler c.args.version c.args.image) p
    (found-right c.args.trial.now.desc.now (named_program l c.args.handler c.args.version c.args.image) ps k p c.requires.right held
    (c.index-as_slice-found.is ∙ ap (λ (xs : List Program). get_or xs k p) c.as_slice.ensures)).1

pub unreachable-requires : goal.unreachable-requires
unreachable-requires c =
    let l = c.args.trial.now.log.now in
    let ps : List Program = c.args.trial.now.programs.now in
    let at = image-at l.images c.images.result.now c.args.image c.index-images-image.result c.images.ensures c.requires.known c.index-images-image.is in
    true≢false (sym c.requires.given ∙ sym (ap (λ (image : ArrayVec ℕ). list_any (is_held_as (record { handler = c.args.handler; version = c.args.version; image = image })) ps) at) ∙ sym c.in_default.ensures.any)

pub bounds-as_slice-found : goal.bounds-as_slice-found
bounds-as_slice-found c =
    let ps : List Program = c.args.trial.now.programs.now in
    let k = c.in-Some.found in
    subst (λ (qs : List Program). k < length qs) (sym c.as_slice.ensures)
    (IsHeldAt-below (record { handler = c.args.handler; version = c.args.version; image = c.index-images-image.result }) ps k c.in-Some.ensures.held)

pub offset_bounds-as_slice-found : goal.offset_bounds-as_slice-found
offset_bounds-as_slice-found c =
    let within : c.in-Some.found < length c.as_slice.result.now = bounds-as_slice-found c in
    omega arith
