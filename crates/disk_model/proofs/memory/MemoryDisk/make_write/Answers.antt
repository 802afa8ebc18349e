use Rattle.std.proofs.Common.{◌≡◌, ◌+◌, ◌≤◌, List, None, [], ◌∷◌, ◌++◌, length, refl, sym, ◌∙◌, ap, arith, rules, subst, not, ℕ}
use Rattle.std.proofs.lemmas.Bool.{leb-true}
use Rattle.disk_model.specs.Disk.{disk_limit, patched}
use Rattle.disk_model.specs.Memory.{MemoryState, AreWrites, image_of, after_write}
use Rattle.disk_model.specs.declared.memory.Write.{Write}
use Rattle.disk_model.proofs.Record.{later, pushed, after_writes-push}
use Rattle.disk_model.proofs.memory.MemoryDisk.make_write.Goals as goal

pub returns-then-is_spent-clause-sound : goal.returns-then-is_spent-clause-sound
returns-then-is_spent-clause-sound c = later c.self.inside.calls.made c.fail.new.self.made c.self.inside.writes.items [] c.fail.ensures.moment c.self.invariant.writes_are

pub invariant_of-self : goal.invariant_of-self
invariant_of-self c = record { image_is = c.self.invariant.image_is; writes_are = later c.self.inside.calls.made c.fail.new.self.made c.self.inside.writes.items [] c.fail.ensures.moment c.self.invariant.writes_are }

pub returns-in_default-clause-sound : goal.returns-in_default-clause-sound
returns-in_default-clause-sound c =
    subst (λ (ws : List Write). AreWrites c.pass.new.self.made ws []) (sym c.room_for_write-room.ensures.writes) (later c.self.inside.calls.made c.pass.new.self.made c.self.inside.writes.items [] c.pass.ensures.moment c.self.invariant.writes_are)

pub invariant_of-self-in_default : goal.invariant_of-self-in_default
invariant_of-self-in_default c = record {
  image_is = c.self.invariant.image_is ∙ ap image_of (sym c.room_for_write-room.ensures.writes);
  writes_are = returns-in_default-clause-sound c;
}

pub returns-then-fails-clause-sound : goal.returns-then-fails-clause-sound
returns-then-fails-clause-sound c =
    let made = c.next-fails.new.self.made in
    let old = c.self.inside.writes.items in
    let w : Write = record { moment = made; place = c.args.place; bytes = c.in-Ok.bytes; done = not c.next-fails.result; synced = None } in
    let bytes : length c.in-Ok.bytes ≡ length c.args.bytes.now = ap length c.in-Ok.ensures.bytes in
    let within : c.args.place ≤ length (image_of old) = subst (λ (d : MemoryState). c.args.place ≤ length (image_of d.writes)) (sym c.self.view_is) c.requires in
    let limit : c.args.place + length c.args.bytes.now ≤ disk_limit = leb-true (c.args.place + length c.args.bytes.now) disk_limit (search rules) in
    let are = pushed made old w [] (later c.self.inside.calls.made made old [] c.next-fails.ensures.moment c.self.invariant.writes_are) within (omega (arith, limit, bytes)) (omega arith) refl in
    subst (λ (ws : List Write). AreWrites made ws []) (ap (λ (l : List Write). l ++ w ∷ []) (sym c.room_for_write-room.ensures.writes) ∙ sym c.push_reserved.ensures) are

pub invariant_of-self-then-fails : goal.invariant_of-self-then-fails
invariant_of-self-then-fails c =
    let old = c.self.inside.writes.items in
    let w : Write = record { moment = c.next-fails.new.self.made; place = c.args.place; bytes = c.in-Ok.bytes; done = not c.next-fails.result; synced = None } in
    let pushed_is : old ++ w ∷ [] ≡ c.push_reserved.new.writes.items = ap (λ (l : List Write). l ++ w ∷ []) (sym c.room_for_write-room.ensures.writes) ∙ sym c.push_reserved.ensures in
    let none : after_write w (image_of old) ≡ image_of old = rw c.if-fails.true refl in
    record {
      image_is = c.self.invariant.image_is ∙ sym none ∙ sym (after_writes-push old w []) ∙ ap image_of pushed_is;
      writes_are = returns-then-fails-clause-sound c;
    }

pub returns-clause-sound : goal.returns-clause-sound
returns-clause-sound c =
    let made = c.next-fails.new.self.made in
    let old = c.self.inside.writes.items in
    let w : Write = record { moment = made; place = c.args.place; bytes = c.in-Ok.bytes; done = not c.next-fails.result; synced = None } in
    let bytes : length c.in-Ok.bytes ≡ length c.args.bytes.now = ap length c.in-Ok.ensures.bytes in
    let within : c.args.place ≤ length (image_of old) = subst (λ (d : MemoryState). c.args.place ≤ length (image_of d.writes)) (sym c.self.view_is) c.requires in
    let limit : c.args.place + length c.args.bytes.now ≤ disk_limit = leb-true (c.args.place + length c.args.bytes.now) disk_limit (search rules) in
    let are = pushed made old w [] (later c.self.inside.calls.made made old [] c.next-fails.ensures.moment c.self.invariant.writes_are) within (omega (arith, limit, bytes)) (omega arith) refl in
    subst (λ (ws : List Write). AreWrites made ws []) (ap (λ (l : List Write). l ++ w ∷ []) (sym c.room_for_write-room.ensures.writes) ∙ sym c.push_reserved.ensures) are

pub invariant_of-self-2 : goal.invariant_of-self-2
invariant_of-self-2 c =
    let old = c.self.inside.writes.items in
    let w : Write = record { moment = c.next-fails.new.self.made; place = c.args.place; bytes = c.in-Ok.bytes; done = not c.next-fails.result; synced = None } in
    let pushed_is : old ++ w ∷ [] ≡ c.push_reserved.new.writes.items = ap (λ (l : List Write). l ++ w ∷ []) (sym c.room_for_write-room.ensures.writes) ∙ sym c.push_reserved.ensures in
    let all : after_write w (image_of old) ≡ patched c.args.place c.in-Ok.bytes (image_of old) = rw c.if-fails.false refl in
    let image : c.in-Ok.image.items ≡ patched c.args.place c.args.bytes.now c.self.inside.image.items = c.in-Ok.ensures.image ∙ ap (λ (l : List ℕ). patched c.args.place c.args.bytes.now l) c.deref.ensures.value in
    record {
      image_is = image ∙ ap (λ (l : List ℕ). patched c.args.place c.args.bytes.now l) c.self.invariant.image_is ∙ ap (λ (l : List ℕ). patched c.args.place l (image_of old)) (sym c.in-Ok.ensures.bytes) ∙ sym all ∙ sym (after_writes-push old w []) ∙ ap image_of pushed_is;
      writes_are = returns-clause-sound c;
    }
