use Rattle.std.proofs.Common.{◌≡◌, IfOk, map, rules, string_bytes}
use Rattle.client_words.specs.Words.{client_words_of}
use Rattle.client_words.proofs.Good.{good_any}
use Rattle.client_words.proofs.words.read_words.Goals as goal

pub returns-clause-good : goal.returns-clause-good
unfolding client_words_of
returns-clause-good c =
    let says : IfOk c.words_in-said.result (λ said. said ≡ client_words_of (map (λ w. string_bytes w) c.args.words.now)) = search rules in
    good_any _ c.words_in-said.result says
