use Rattle.std.proofs.Common.{arith}
use Rattle.core_rows.proofs.Opened.{each-byte}
use Rattle.core_rows.proofs.kept_rows.are_bytes.Goals as goal

pub returns : goal.returns
returns c = each-byte c.args.bytes.now (λ i. omega (arith, c.type_inv.bytes i))
