use Rattle.std.proofs.Common.{◌≡◌, drop}
use Rattle.config_lists.specs.Changes.{patched}
use Rattle.config_lists.proofs.config.Config.patched.Given as goal

-- what is left of the changes leads to the whole patch
abbrev pub invariant-loop-place : goal.invariant-loop-place
invariant-loop-place l = patched l.config (drop l.place l.changes) ≡ patched l.self l.changes
