use Rattle.std.proofs.Common.{rules, tests, lit<}
use Rattle.std.proofs.lemmas.Iterator.Search.{all_from_yields_List}
use Rattle.std.proofs.lemmas.Iterator.Splits.{YieldsList-from_str_split}
use Rattle.std.specs.Prelude.{is_some}
use Rattle.command_words.specs.Values.{call_number_said}
use Rattle.command_words.proofs.run_values.are_calls.Goals as goal

pub returns : goal.returns
returns c =
    all_from_yields_List (λ part. is_some (call_number_said part)) _ _ _ c.all.ensures.ran
    (YieldsList-from_str_split 44 c.args.text.now (lit< tt) c.split.ensures.text c.split.ensures.has_more
    c.split.ensures.pattern)
    (λ x b q k. search (rules, tests))
