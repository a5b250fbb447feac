use Rattle.world_laws.proofs.Premises.{open_scripts, plans_rightly, scripts_are_networks, few_fragments, injected_are_versions, scripts_installs_are_newer, injected_is_installed}
use Rattle.world_laws.proofs.hops.scripts_keep_the_bound.Goals as goal

pub returns : goal.returns
returns c = record {
  lossless = λ d meaning script programs right is. open_scripts d meaning script programs right is;
  plan = λ d meaning script programs right. plans_rightly d meaning script programs right;
  network = λ d meaning script programs right. scripts_are_networks d meaning script programs right;
  fragments = λ c is. few_fragments c is;
  versions = λ d meaning script programs i p right injects. injected_are_versions d meaning script programs i p right injects;
  newer = λ d meaning script programs right. scripts_installs_are_newer d meaning script programs right;
  installed = λ d meaning script programs right is before later m i b hops p come cause injects away calm done. injected_is_installed d meaning script programs right is before later m i b hops p come cause injects away calm done;
}
