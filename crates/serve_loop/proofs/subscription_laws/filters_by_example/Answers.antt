use Rattle.serve_loop.proofs.ExampleLemmas.{examples}
use Rattle.serve_loop.proofs.subscription_laws.filters_by_example.Goals as goal

pub returns : goal.returns
returns c = examples
