use Rattle.qc_rest_command.proofs.GivenTasks.{instance_given}
use Rattle.qc_rest_command.proofs.laws.the_files_give_the_rest.Goals as goal

pub returns : goal.returns
returns c = λ ship rows course over stands places is valid keeps made. instance_given ship is rows course over stands places valid keeps made
