use Rattle.std.proofs.Common.{◌<◌, List, ℕ, length, sym, subst}
use Rattle.arrayvec.specs.ArrayVec.{ArrayVec}
use Rattle.journal_laws.specs.Growth.{IsNamedBelow}
use Rattle.report_audit.proofs.ImageLemmas.{none-installed, versions-kept}
use Rattle.report_audit.proofs.images.installs_right.Goals as goal

pub returns-in_default : goal.returns-in_default
returns-in_default c = record {
  right = λ x versions. none-installed c.args.programs.now c.args.log.now x c.args.entry.now c.in_default.not-Install;
  held = λ x versions. versions-kept c.args.log.now c.args.held.now x c.args.entry.now c.in_default.not-Install versions;
}

pub bounds-images-image : goal.bounds-images-image
bounds-images-image c =
    let l = c.args.log.now in
    let k = c.in-Install.image in
    let below : k < length l.images = subst (IsNamedBelow (length l.images) (length l.stores)) c.in-Install.is c.requires.named in
    subst (λ (images : List (ArrayVec ℕ)). k < length images) (sym c.images.ensures) below
