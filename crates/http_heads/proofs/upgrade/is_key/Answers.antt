use Rattle.std.proofs.Common.{sym, ◌∙◌, length}
use Rattle.std.proofs.lemmas.Bool.{eqb-true}
use Rattle.http_heads.proofs.KeyLemmas.{is_key-tail}
use Rattle.http_heads.proofs.upgrade.is_key.Goals as goal
use Rattle.http_heads.proofs.upgrade.is_key.Goals.{then-text-eq24, else-text-eq24}

pub returns-then-is_all_base64 : goal.returns-then-is_all_base64
returns-then-is_all_base64 c = elim c.if-text-eq24.branch [
  | then-text-eq24 w ↦ is_key-tail c.args.text.now c.eq.result w.if-text-eq24.true
      (sym w.is_all_base64.ensures ∙ sym w.value-is ∙ c.if-is_all_base64.true) (rw (← c.as_slice.ensures) c.eq.ensures)
  | else-text-eq24 w ↦ absurd (w.if-text-eq24.false (eqb-true (length c.args.text.now) 24 (sym w.value-is ∙ c.if-is_all_base64.true)))
]
