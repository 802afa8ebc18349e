use Rattle.std.proofs.Common.{arith}
use Rattle.size_values.specs.declared.amounts.Part.TheVariants.{Instances, Containers, Machines, Cpu, Memory, Processes, Disk}
use Rattle.size_values.proofs.amounts.Amounts.plus.Goals as goal

pub overflow_add-result : goal.overflow_add-result
overflow_add-result c = omega (arith, c.requires Instances)

pub overflow_add-result-2 : goal.overflow_add-result-2
overflow_add-result-2 c = omega (arith, c.requires Containers)

pub overflow_add-result-3 : goal.overflow_add-result-3
overflow_add-result-3 c = omega (arith, c.requires Machines)

pub overflow_add-result-4 : goal.overflow_add-result-4
overflow_add-result-4 c = omega (arith, c.requires Cpu)

pub overflow_add-result-5 : goal.overflow_add-result-5
overflow_add-result-5 c = omega (arith, c.requires Memory)

pub overflow_add-result-6 : goal.overflow_add-result-6
overflow_add-result-6 c = omega (arith, c.requires Processes)

pub overflow_add-result-7 : goal.overflow_add-result-7
overflow_add-result-7 c = omega (arith, c.requires Disk)
