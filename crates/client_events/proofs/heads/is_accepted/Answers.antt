use Rattle.std.proofs.Common.{◌∙◌, ap, is_ok}
use Rattle.client_events.proofs.AcceptLemmas.{accepting}
use Rattle.client_events.proofs.heads.is_accepted.Goals as goal

pub returns : goal.returns
returns c =
    c.is_ok.ensures.value ∙ ap is_ok c.verify_response.ensures
    ∙ accepting c.args.request.now _ _ _ c.requires.key c.requires.none
