use Rattle.world_run_laws.proofs.Programs.{right-script}
use Rattle.world_run_laws.proofs.Sound.{next-may-come, nodes-sound, dues-of-nodes}
use Rattle.world_run_laws.proofs.states.states_are_sound.Goals as goal

pub returns-clause-next : goal.returns-clause-next
returns-clause-next c = next-may-come

pub returns-clause-nodes : goal.returns-clause-nodes
returns-clause-nodes c = nodes-sound

pub returns-clause-dues : goal.returns-clause-dues
returns-clause-dues c = dues-of-nodes

pub returns-clause-script : goal.returns-clause-script
returns-clause-script c = right-script
