use Rattle.std.proofs.Common.{ℕ, Bool, eqb, sym, ◌∙◌, ap}
use Rattle.std.specs.List.{position}
use Rattle.std.specs.Option.{option_map_or}
use Rattle.plain_lists.specs.Edits.{dropped}
use Rattle.plain_lists.proofs.Places.{dropped-at, dropped-nothing}
use Rattle.operations.proofs.slots.forget.Goals as goal

pub returns-in-Some-place_in-clause-rest : goal.returns-in-Some-place_in-clause-rest
returns-in-Some-place_in-clause-rest c =
    let test : ℕ → Bool = λ n. eqb n c.in-Some.number in
    let numbers = c.args.numbers.now.items in
    c.remove.ensures.items
    ∙ dropped-at test numbers c.in-Some-place_in.place 0 (c.in-Some-place_in.ensures ∙ ap (position test) c.deref.ensures.value)
    ∙ sym (ap (λ gone. option_map_or (λ number. dropped (λ n. eqb n number) numbers) gone numbers) c.in-Some.is)

pub returns-in-None-clause-rest : goal.returns-in-None-clause-rest
returns-in-None-clause-rest c =
    let test : ℕ → Bool = λ n. eqb n c.in-Some.number in
    let numbers = c.args.numbers.now.items in
    dropped-nothing test numbers (c.in-None.ensures ∙ ap (position test) c.deref.ensures.value)
    ∙ sym (ap (λ gone. option_map_or (λ number. dropped (λ n. eqb n number) numbers) gone numbers) c.in-Some.is)
