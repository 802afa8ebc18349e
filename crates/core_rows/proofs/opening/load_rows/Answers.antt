use Rattle.core_rows.proofs.Opens.{opened-after, refused-load}
use Rattle.core_rows.proofs.opening.load_rows.Goals as goal

pub returns-in-Ok : goal.returns-in-Ok
returns-in-Ok g c = opened-after c.open.result c.in-Ok.entries _ _ _ c.in-Ok.ensures c.open.ensures

pub returns-in-Err : goal.returns-in-Err
returns-in-Err g c = refused-load c.in-Err.fault _ _ c.in-Err.ensures
