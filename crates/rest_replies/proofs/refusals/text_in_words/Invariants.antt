use Rattle.std.proofs.Common.{◌≡◌, ◌++◌, drop, string_bytes}
use Rattle.rest_replies.specs.Refusals.{all_said, rule_text, said_in}
use Rattle.rest_replies.proofs.refusals.text_in_words.Given as goal

abbrev pub invariant-loop-phrase : goal.invariant-loop-phrase
invariant-loop-phrase l =
    string_bytes l.text ++ all_said l.refusal.details (said_in (drop l.phrase-index l.phrase-items))
    ≡ rule_text l.refusal.rule ++ all_said l.refusal.details (said_in l.phrase-items)
