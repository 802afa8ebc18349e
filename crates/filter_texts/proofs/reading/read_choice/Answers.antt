use Rattle.std.proofs.Common.{◌≡◌, ◌∙◌, sym, ap, length, List, Option, Some, ◌-◌}
use Rattle.std.specs.Option.{option_map}
use Rattle.std.proofs.lemmas.Result.{err_from_is_err_and}
use Rattle.filter_texts.specs.declared.token.Token as code
use Rattle.filter_texts.specs.Tokens.{Placed, tokens_from}
use Rattle.filter_texts.specs.Reading.{read_tokens}
use Rattle.filter_texts.specs.Views.{token_of, state_of}
use Rattle.filter_texts.proofs.Texts.{next_tokens, behind_within, some_left, none_left}
use Rattle.filter_texts.proofs.Turns.{read_more, read_fault}
use Rattle.filter_texts.proofs.reading.read_choice.Goals as goal

pub returns-in_err-take : goal.returns-in_err-take
returns-in_err-take c =
    let end = length c.args.text.now in
    let s = state_of c.loop-rest.reader in
    let rest = c.loop-rest.rest.now in
    let token : Some (token_of c.in-Some.token) ≡ _ = sym (ap (λ (o : Option code.Token). option_map token_of o) c.in-Some.is) ∙ c.front.ensures.token in
    let left = next_tokens end rest c.front.result.1.now (Some (token_of c.in-Some.token)) c.loop-rest.invariant.within
    (some_left rest c.loop-rest-test.ensures) token c.front.ensures.rest in
    let p = err_from_is_err_and c.from_residual.result c.from_residual.ensures.1 in
    rw (p.1, p.2) (read_fault end (end - length rest) s (token_of c.in-Some.token)
    (tokens_from 0 (end - length c.front.result.1.now) c.front.result.1.now) c.in_err-take.field-0.0 _ c.in_err-take.ensures
    (sym (ap (λ (tokens : List Placed). read_tokens end s tokens) left) ∙ c.loop-rest.invariant.same))

pub loop-rest-preserved-in_ok-take : goal.loop-rest-preserved-in_ok-take
loop-rest-preserved-in_ok-take c =
    let end = length c.args.text.now in
    let s = state_of c.loop-rest.reader in
    let rest = c.loop-rest.rest.now in
    let token = sym (ap (λ (o : Option code.Token). option_map token_of o) c.in-Some.is) ∙ c.front.ensures.token in
    let left = next_tokens end rest c.front.result.1.now (Some (token_of c.in-Some.token)) c.loop-rest.invariant.within
    (some_left rest c.loop-rest-test.ensures) token c.front.ensures.rest in
    record {
      utf8 = c.front.ensures.utf8;
      within = behind_within end _ rest c.front.result.1.now c.loop-rest.invariant.within c.front.ensures.rest;
      same = sym (read_more end (end - length rest) s _ (token_of c.in-Some.token) _ c.in_ok-take.ensures)
          ∙ sym (ap (λ (tokens : List Placed). read_tokens end s tokens) left) ∙ c.loop-rest.invariant.same;
    }

pub loop-rest-preserved : goal.loop-rest-preserved
loop-rest-preserved c =
    let end = length c.args.text.now in
    let s = state_of c.loop-rest.reader in
    let rest = c.loop-rest.rest.now in
    let token = sym (ap (λ (o : Option code.Token). option_map token_of o) c.in_default.is) ∙ c.front.ensures.token in
    let left = next_tokens end rest c.front.result.1.now _ c.loop-rest.invariant.within
    (some_left rest c.loop-rest-test.ensures) token c.front.ensures.rest in
    record {
      utf8 = c.front.ensures.utf8;
      within = behind_within end _ rest c.front.result.1.now c.loop-rest.invariant.within c.front.ensures.rest;
      same = sym (ap (λ (tokens : List Placed). read_tokens end s tokens) left) ∙ c.loop-rest.invariant.same;
    }

pub returns : goal.returns
returns c =
    let end = length c.args.text.now in
    let s = state_of c.loop-rest.reader in
    let none = none_left (end - length c.loop-rest.rest.now) c.loop-rest.rest.now c.loop-rest-test.ensures in
    let same = sym (ap (λ (tokens : List Placed). read_tokens end s tokens) none) ∙ c.loop-rest.invariant.same in
    rw same at c.finish.ensures
