use Rattle.uuid.specs.Text.{parsed}
use Rattle.rest_json.specs.Ids.{number_in_bytes, number_of}
use Rattle.rest_json.proofs.Walked.{none_of}
use Rattle.rest_json.proofs.ids.number_of.Goals as goal

pub returns-in-Err : goal.returns-in-Err
unfolding number_of
returns-in-Err c = none_of (number_in_bytes c.args.boot) (parsed c.args.text.now) (λ u e. let never = c.in-Err.ensures.ok.1 (u, e) in cc)
