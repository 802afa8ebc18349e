use denote.Shadow.{shadow}
use denote.Text.{Utf8}
use Rattle.std.proofs.Common.{◌≡◌, ◌++◌}
use Rattle.std.specs.Prelude.{codes, string_bytes}
use Rattle.serde_json.specs.View.{members_view}
use Rattle.client_steps.specs.Lines.{parts_behind}
use Rattle.client_steps.proofs.lines.push_parts.Given as goal

-- the parts so far, and those that are left
abbrev pub invariant-loop-key : goal.invariant-loop-key
invariant-loop-key l = record {
  parts : string_bytes l.text ++ parts_behind l.mark (members_view l.key-iterator)
      ≡ string_bytes l.initial.text ++ parts_behind (codes ": ") (members_view l.members.entries);
  text : shadow (Utf8 l.mark);
}
