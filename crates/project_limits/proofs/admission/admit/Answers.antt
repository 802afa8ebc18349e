use Rattle.size_values.specs.declared.amounts.Part.TheVariants.{Instances, Containers, Machines, Cpu, Memory, Processes, Disk}
use Rattle.project_limits.proofs.admission.admit.Goals as goal

pub refuse_over-requires : goal.refuse_over-requires
refuse_over-requires c = c.requires Instances

pub refuse_over-requires-2 : goal.refuse_over-requires-2
refuse_over-requires-2 c = c.requires Containers

pub refuse_over-requires-3 : goal.refuse_over-requires-3
refuse_over-requires-3 c = c.requires Machines

pub refuse_over-requires-4 : goal.refuse_over-requires-4
refuse_over-requires-4 c = c.requires Cpu

pub refuse_over-requires-5 : goal.refuse_over-requires-5
refuse_over-requires-5 c = c.requires Memory

pub refuse_over-requires-6 : goal.refuse_over-requires-6
refuse_over-requires-6 c = c.requires Processes

pub refuse_over-requires-7 : goal.refuse_over-requires-7
refuse_over-requires-7 c = c.requires Disk
