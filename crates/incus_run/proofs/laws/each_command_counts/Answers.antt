use Rattle.incus_run.proofs.Counting.{each-counts}
use Rattle.incus_run.proofs.laws.each_command_counts.Goals as goal

pub returns : goal.returns
returns c = each-counts
