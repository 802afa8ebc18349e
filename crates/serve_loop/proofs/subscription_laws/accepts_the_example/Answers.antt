use Rattle.serve_loop.proofs.ExampleLemmas.{accept_example}
use Rattle.serve_loop.proofs.subscription_laws.accepts_the_example.Goals as goal

pub returns : goal.returns
returns c = accept_example
