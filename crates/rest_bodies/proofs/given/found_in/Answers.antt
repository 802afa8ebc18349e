use Rattle.std.proofs.Common.{refl, ap, sym, ◌∙◌}
use Rattle.rest_bodies.specs.Keys.{key_named}
use Rattle.rest_bodies.proofs.Found.{first_of, taken, passed, unnamed}
use Rattle.rest_bodies.proofs.given.found_in.Goals as goal

pub loop-name-preserved-then-is_none : goal.loop-name-preserved-then-is_none
loop-name-preserved-then-is_none c key =
    taken c.loop-name.found (c.in-Some.name.now, c.in-Some.value.now) c.next.new.self c.in-Some-key_named.key
    (ap key_named (sym c.deref.ensures) ∙ sym c.key_named.ensures ∙ c.in-Some-key_named.is)
    c.place_of-place.result c.place_of-place.ensures c.in-Some.value refl c.place_of-place.array_long c.index-found-place.result c.if-is_none.ensures key
    ∙ ap (λ entries. first_of c.loop-name.found entries key) (sym c.in-Some.ensures.steps) ∙ c.loop-name.invariant key

pub loop-name-preserved-else-is_none : goal.loop-name-preserved-else-is_none
loop-name-preserved-else-is_none c key =
    passed c.loop-name.found (c.in-Some.name.now, c.in-Some.value.now) c.next.new.self c.in-Some-key_named.key
    (ap key_named (sym c.deref.ensures) ∙ sym c.key_named.ensures ∙ c.in-Some-key_named.is)
    c.place_of-place.result c.place_of-place.ensures c.place_of-place.array_long c.index-found-place.result c.if-is_none.ensures key
    ∙ ap (λ entries. first_of c.loop-name.found entries key) (sym c.in-Some.ensures.steps) ∙ c.loop-name.invariant key

pub loop-name-preserved : goal.loop-name-preserved
loop-name-preserved c key =
    unnamed c.loop-name.found (c.in-Some.name.now, c.in-Some.value.now) c.next.new.self
    (ap key_named (sym c.deref.ensures) ∙ sym c.key_named.ensures ∙ c.in_default.is) key
    ∙ ap (λ entries. first_of c.loop-name.found entries key) (sym c.in-Some.ensures.steps) ∙ c.loop-name.invariant key
