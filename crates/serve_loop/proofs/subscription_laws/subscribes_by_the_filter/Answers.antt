use Rattle.serve_loop.proofs.SubscriptionLemmas.{subscribes, subscribes_to_nothing}
use Rattle.serve_loop.proofs.subscription_laws.subscribes_by_the_filter.Goals as goal

pub returns-clause-subscribes : goal.returns-clause-subscribes
returns-clause-subscribes c = subscribes

pub returns-clause-none : goal.returns-clause-none
returns-clause-none c = subscribes_to_nothing
