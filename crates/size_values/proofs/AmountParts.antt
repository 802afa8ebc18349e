-- The parts of amounts, for a part that is a variable.
use Rattle.std.proofs.Common.{◌≡◌, ℕ, ◌+◌, ◌-◌, ◌≤◌, true, refl, arith}
use Rattle.std.proofs.lemmas.Bool.Decides.{nat_tests}
use Rattle.size_values.specs.declared.amounts.Amounts.{Amounts}
use Rattle.size_values.specs.declared.amounts.Part.{Part}
use Rattle.size_values.specs.declared.amounts.Part.TheVariants.{Instances, Containers, Machines, Cpu, Memory, Processes, Disk}
use Rattle.size_values.specs.Amounts.{part, plus_of, minus_of, amount_above, excess_of, fits_in}

pub part-plus : (k : Part) (a b : Amounts) → part k (plus_of a b) ≡ part k a + part k b
unfolding plus_of
part-plus Instances a b = refl
part-plus Containers a b = refl
part-plus Machines a b = refl
part-plus Cpu a b = refl
part-plus Memory a b = refl
part-plus Processes a b = refl
part-plus Disk a b = refl

pub part-minus : (k : Part) (a b : Amounts) → part k (minus_of a b) ≡ part k a - part k b
unfolding minus_of
part-minus Instances a b = refl
part-minus Containers a b = refl
part-minus Machines a b = refl
part-minus Cpu a b = refl
part-minus Memory a b = refl
part-minus Processes a b = refl
part-minus Disk a b = refl

-- an excess is a difference that ends at 0
pub amount_above-sub : (m n : ℕ) → amount_above m n ≡ m - n
amount_above-sub m n = grind (arith, nat_tests)

pub part-excess : (k : Part) (a b : Amounts) → part k (excess_of a b) ≡ part k a - part k b
unfolding excess_of
part-excess Instances a b = amount_above-sub a.instances b.instances
part-excess Containers a b = amount_above-sub a.containers b.containers
part-excess Machines a b = amount_above-sub a.machines b.machines
part-excess Cpu a b = amount_above-sub a.cpu b.cpu
part-excess Memory a b = amount_above-sub a.memory b.memory
part-excess Processes a b = amount_above-sub a.processes b.processes
part-excess Disk a b = amount_above-sub a.disk b.disk

-- what fits is not greater in any part
pub fits-part : (a b : Amounts) → fits_in a b ≡ true → (k : Part) → part k a ≤ part k b
unfolding fits_in
fits-part a b h Instances = grind (arith, nat_tests)
fits-part a b h Containers = grind (arith, nat_tests)
fits-part a b h Machines = grind (arith, nat_tests)
fits-part a b h Cpu = grind (arith, nat_tests)
fits-part a b h Memory = grind (arith, nat_tests)
fits-part a b h Processes = grind (arith, nat_tests)
fits-part a b h Disk = grind (arith, nat_tests)

-- and what is not greater in any part fits
pub every-part : (a b : Amounts) → ((k : Part) → part k a ≤ part k b) → fits_in a b ≡ true
unfolding fits_in
every-part a b h =
    let instances : a.instances ≤ b.instances = h Instances in
    let containers : a.containers ≤ b.containers = h Containers in
    let machines : a.machines ≤ b.machines = h Machines in
    let cpu : a.cpu ≤ b.cpu = h Cpu in
    let memory : a.memory ≤ b.memory = h Memory in
    let processes : a.processes ≤ b.processes = h Processes in
    let disk : a.disk ≤ b.disk = h Disk in
    grind (arith, nat_tests)

-- amounts with the same parts are the same
pub same-parts : (a b : Amounts) → ((k : Part) → part k a ≡ part k b) → a ≡ b
same-parts a b h = λ i. record {
  instances = h Instances i;
  containers = h Containers i;
  machines = h Machines i;
  cpu = h Cpu i;
  memory = h Memory i;
  processes = h Processes i;
  disk = h Disk i;
}
