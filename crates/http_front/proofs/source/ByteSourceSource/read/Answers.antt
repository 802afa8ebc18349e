use Rattle.std.proofs.Common.{◌+◌, ◌-◌, ◌≤◌, length, drop, sym, ap, ◌∙◌, arith, length-drop, length-take}
use Rattle.http_front.proofs.StreamLemmas.{delivered}
use Rattle.http_front.proofs.source.ByteSourceSource.read.Goals as goal

pub returns-clause-bytes : goal.returns-clause-bytes
returns-clause-bytes c =
    let is = rw c.view.ensures at c.copy_from_slice.ensures.after in
    let count = rw c.view.ensures at c.min-count.ensures in
    let bytes = c.self.inside.bytes in
    let at = c.self.inside.at in
    let fits : at + c.min-count.result ≤ length bytes =
    omega (arith, count, length-take (length bytes - at) (drop at bytes), length-drop at bytes) in
    let d = delivered at c.min-count.result bytes _ _ c.self.invariant.given fits is in
    (d.0, sym (ap (λ t. t.left) c.self.view_is) ∙ d.1)
