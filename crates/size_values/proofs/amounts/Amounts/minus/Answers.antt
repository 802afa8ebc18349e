use Rattle.size_values.specs.declared.amounts.Part.TheVariants.{Instances, Containers, Machines, Cpu, Memory, Processes, Disk}
use Rattle.size_values.proofs.amounts.Amounts.minus.Goals as goal

pub overflow_sub-result : goal.overflow_sub-result
overflow_sub-result c = c.requires Instances

pub overflow_sub-result-2 : goal.overflow_sub-result-2
overflow_sub-result-2 c = c.requires Containers

pub overflow_sub-result-3 : goal.overflow_sub-result-3
overflow_sub-result-3 c = c.requires Machines

pub overflow_sub-result-4 : goal.overflow_sub-result-4
overflow_sub-result-4 c = c.requires Cpu

pub overflow_sub-result-5 : goal.overflow_sub-result-5
overflow_sub-result-5 c = c.requires Memory

pub overflow_sub-result-6 : goal.overflow_sub-result-6
overflow_sub-result-6 c = c.requires Processes

pub overflow_sub-result-7 : goal.overflow_sub-result-7
overflow_sub-result-7 c = c.requires Disk
