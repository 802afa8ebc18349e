use Rattle.std.proofs.Common.{[], List, sym, subst, ◌≡◌, ap, arith, ℕ, length, rules}
use Rattle.disk_model.specs.declared.memory.Write.{Write}
use Rattle.disk_model.specs.Memory.{MemoryState, LeftAt, IsRecorded, picked}
use Rattle.disk_model.proofs.Picks.{possible, picked_short, whole_recorded}
use Rattle.disk_model.proofs.memory.MemoryDisk.crashed.Goals as goal

pub returns-in_err-image-clause-possible : goal.returns-in_err-image-clause-possible
returns-in_err-image-clause-possible c = subst (λ (d : MemoryState). LeftAt d.calls.made d.writes [] (picked c.args.pick d.writes [])) c.self.view_is (possible c.self.inside.calls.made c.args.pick c.self.inside.writes.items [] [] c.self.invariant.writes_are)

pub returns-in_err-writes-clause-possible : goal.returns-in_err-writes-clause-possible
returns-in_err-writes-clause-possible c = subst (λ (d : MemoryState). LeftAt d.calls.made d.writes [] (picked c.args.pick d.writes [])) c.self.view_is (possible c.self.inside.calls.made c.args.pick c.self.inside.writes.items [] [] c.self.invariant.writes_are)

pub returns-clause-possible : goal.returns-clause-possible
returns-clause-possible c = subst (λ (d : MemoryState). LeftAt d.calls.made d.writes [] (picked c.args.pick d.writes [])) c.self.view_is (possible c.self.inside.calls.made c.args.pick c.self.inside.writes.items [] [] c.self.invariant.writes_are)

pub invariant_of-result : goal.invariant_of-result
invariant_of-result c =
    let short = picked_short c.self.inside.calls.made c.args.pick c.self.inside.writes.items [] [] c.self.invariant.writes_are (omega arith) in
    let image : c.in_ok-image.image.items ≡ picked c.args.pick c.self.inside.writes.items [] = search rules in
    subst (λ (ws : List Write). IsRecorded 0 ws c.in_ok-image.image.items) (sym (search rules)) (whole_recorded c.in_ok-image.image.items (omega (arith, short, ap length image)))
