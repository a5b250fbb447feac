use Rattle.std.proofs.Common.{refl}
use Rattle.report_writer.specs.Tally.{versions_at}
use Rattle.report_writer.proofs.TallyLemmas.{install-some, install-none}
use Rattle.report_writer.proofs.tally.note.Goals as goal

pub returns-in-Some : goal.returns-in-Some
returns-in-Some c = record {
  size = c.install.ensures.size;
  versions = λ h low.
      install-some h c.args.entry.now c.in-Some.installed (versions_at h c.args.versions.now.items) (versions_at h c.install.new.versions.items) c.install_of.result c.install_of.ensures c.in-Some.is
      (c.install.ensures.versions h low);
}

pub returns-in-None : goal.returns-in-None
returns-in-None c = record {
  size = refl;
  versions = λ h low. install-none h c.args.entry.now (versions_at h c.args.versions.now.items) c.install_of.result c.install_of.ensures c.in-None.is;
}
