use Rattle.machine_laws.proofs.ChangeKinds.{first_calls-keep, next_calls-keep, undo_calls-keep}
use Rattle.machine_laws.proofs.kinds.a_call_handed_out_keeps_the_facts.Goals as goal

pub returns-clause-first : goal.returns-clause-first
returns-clause-first c = first_calls-keep

pub returns-clause-next : goal.returns-clause-next
returns-clause-next c = next_calls-keep

pub returns-clause-undo : goal.returns-clause-undo
returns-clause-undo c = undo_calls-keep
