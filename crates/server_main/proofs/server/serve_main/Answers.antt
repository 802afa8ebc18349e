use Rattle.server_main.proofs.Tops.{top_accept_fault, top_complete, top_keeper_fault, top_not_read, top_refused}
use Rattle.server_main.proofs.Tops.{top_served, top_start_fault, top_unopened, top_words}
use Rattle.server_main.proofs.server.serve_main.Goals as goal

pub returns-clause-served : goal.returns-clause-served
returns-clause-served g c = top_served _ _ _ _ _ _ c.serve_any.ensures.serves

pub returns-clause-keeper_fault : goal.returns-clause-keeper_fault
returns-clause-keeper_fault g c = top_keeper_fault _ _ _ _ _ _ c.serve_any.ensures.serves

pub returns-clause-unopened : goal.returns-clause-unopened
returns-clause-unopened g c = top_unopened _ _ _ _ _ _ c.serve_any.ensures.serves

pub returns-clause-words : goal.returns-clause-words
returns-clause-words g c = top_words _ _ _ _ _ _ c.serve_any.ensures.serves

pub returns-clause-accept_fault : goal.returns-clause-accept_fault
returns-clause-accept_fault g c = top_accept_fault _ _ _ _ _ _ c.serve_any.ensures.serves

pub returns-clause-start_fault : goal.returns-clause-start_fault
returns-clause-start_fault g c = top_start_fault _ _ _ _ _ _ c.serve_any.ensures.serves

pub returns-clause-not_read : goal.returns-clause-not_read
returns-clause-not_read g c = top_not_read _ _ _ _ _ _ c.serve_any.ensures.serves

pub returns-clause-refused : goal.returns-clause-refused
returns-clause-refused g c = top_refused _ _ _ _ _ _ c.serve_any.ensures.serves

pub returns-clause-complete : goal.returns-clause-complete
returns-clause-complete g c = top_complete _ _ _ _ _ _ c.serve_any.ensures.serves
