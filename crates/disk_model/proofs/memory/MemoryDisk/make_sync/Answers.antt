use Rattle.std.proofs.Common.{[], sym, subst, ap, ◌≡◌, ◌∙◌, List, map}
use Rattle.disk_model.specs.Memory.{AreWrites, image_of, synced_at}
use Rattle.disk_model.specs.declared.memory.Write.{Write}
use Rattle.disk_model.proofs.Record.{later, synced_are, mapped_writes}
use Rattle.disk_model.proofs.memory.MemoryDisk.make_sync.Goals as goal

pub returns-then-next-clause-sound : goal.returns-then-next-clause-sound
returns-then-next-clause-sound c = later c.self.inside.calls.made c.next.new.self.made c.self.inside.writes.items [] c.next.ensures.moment c.self.invariant.writes_are

pub invariant_of-self : goal.invariant_of-self
invariant_of-self c = record { image_is = c.self.invariant.image_is; writes_are = later c.self.inside.calls.made c.next.new.self.made c.self.inside.writes.items [] c.next.ensures.moment c.self.invariant.writes_are }

pub returns-clause-sound : goal.returns-clause-sound
returns-clause-sound c =
    let made = c.next.new.self.made in
    let are = synced_are made c.self.inside.writes.items [] (later c.self.inside.calls.made made c.self.inside.writes.items [] c.next.ensures.moment c.self.invariant.writes_are) in
    subst (λ (ws : List Write). AreWrites made ws []) (sym c.mark_synced.ensures) are

pub invariant_of-self-2 : goal.invariant_of-self-2
invariant_of-self-2 c = record {
  image_is = c.self.invariant.image_is ∙ sym (mapped_writes c.next.new.self.made c.self.inside.writes.items []) ∙ ap image_of (sym c.mark_synced.ensures);
  writes_are = returns-clause-sound c;
}
