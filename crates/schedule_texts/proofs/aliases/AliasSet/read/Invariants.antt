use Rattle.std.proofs.Common.{◌≡◌, true, map}
use Rattle.std.specs.List.{list_all}
use Rattle.schedule_texts.specs.Aliases.{is_alias, named_by, without_space}
use Rattle.schedule_texts.proofs.aliases.AliasSet.read.Given as goal

-- the names so far are aliases, and the set has them
abbrev pub invariant-loop-name : goal.invariant-loop-name
invariant-loop-name l =
    let names = map (λ name. without_space name.now) l.yielded in
    record {
      all : list_all is_alias names ≡ true;
      named : l.aliases ≡ named_by names;
    }
