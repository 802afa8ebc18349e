use Rattle.serve_loop.proofs.Linking.{link_final, link_stops, none_so_far, one_more}
use Rattle.serve_loop.proofs.link.serve.Goals as goal

pub loop-init : goal.loop-init
loop-init g c = none_so_far _ _

pub returns-in-Final : goal.returns-in-Final
returns-in-Final g c = link_final _ _ _ _ c.loop.invariant c.in-Final.ensures

pub returns-in-Stop : goal.returns-in-Stop
returns-in-Stop g c = link_stops _ _ _ _ _ c.loop.invariant c.in-Stop.ensures

pub loop-preserved : goal.loop-preserved
loop-preserved g c = one_more _ _ _ _ c.loop.invariant c.in-GoOn.ensures
