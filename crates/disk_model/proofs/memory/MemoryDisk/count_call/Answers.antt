use Rattle.std.proofs.Common.{[], arith, subst, sym}
use Rattle.disk_model.specs.Disk.{WritesNothing}
use Rattle.disk_model.specs.Memory.{MemoryState, memory_disk}
use Rattle.disk_model.proofs.Record.{later, image_short}
use Rattle.disk_model.proofs.Moves.{quiet}
use Rattle.disk_model.proofs.memory.MemoryDisk.count_call.Goals as goal

pub invariant_of-self : goal.invariant_of-self
invariant_of-self c = record {
  image_is = c.self.invariant.image_is;
  writes_are = later c.self.inside.calls.made c.next.new.self.made c.self.inside.writes.items [] c.next.ensures.moment c.self.invariant.writes_are;
}

pub invariant_of-self-2 : goal.invariant_of-self-2
invariant_of-self-2 c = record {
  image_is = c.self.invariant.image_is;
  writes_are = later c.self.inside.calls.made c.next.new.self.made c.self.inside.writes.items [] c.next.ensures.moment c.self.invariant.writes_are;
}

pub returns-then-next-clause-quiet : goal.returns-then-next-clause-quiet
returns-then-next-clause-quiet c =
    let state : MemoryState = record { calls = c.self.inside.calls; writes = c.self.inside.writes.items } in
    let still = quiet state c.next.new.self c.self.invariant.writes_are c.next.ensures.moment in
    subst (λ (d : MemoryState). WritesNothing (memory_disk d) (memory_disk (record state { calls = c.next.new.self }))) c.self.view_is still

pub returns-clause-quiet : goal.returns-clause-quiet
returns-clause-quiet c =
    let state : MemoryState = record { calls = c.self.inside.calls; writes = c.self.inside.writes.items } in
    let still = quiet state c.next.new.self c.self.invariant.writes_are c.next.ensures.moment in
    subst (λ (d : MemoryState). WritesNothing (memory_disk d) (memory_disk (record state { calls = c.next.new.self }))) c.self.view_is still

pub returns-then-next-clause-limit : goal.returns-then-next-clause-limit
returns-then-next-clause-limit c = image_short c.self.inside.calls.made c.self.inside.writes.items [] c.self.invariant.writes_are (omega arith)

pub returns-clause-limit : goal.returns-clause-limit
returns-clause-limit c = image_short c.self.inside.calls.made c.self.inside.writes.items [] c.self.invariant.writes_are (omega arith)
