use Rattle.std.proofs.Common.{append_assoc, ◌∙◌}
use Rattle.client_steps.proofs.requests.state_line.Goals as goal

pub returns : goal.returns
returns c = c.from_string.ensures ∙ c.in_ok-format.ensures.ok ∙ simp append_assoc
