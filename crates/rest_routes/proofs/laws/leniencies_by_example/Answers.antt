use Rattle.std.proofs.Common.{refl}
use Rattle.rest_bodies.specs.Members.{is_word}
use Rattle.rest_bodies.specs.Without.{own_snapshot, with_own_snapshot, without_empty, without_start, without_untyped_source}
use Rattle.rest_routes.specs.Paths.{after_slash, after_three_slashes, before_slash}
use Rattle.rest_routes.proofs.laws.leniencies_by_example.Goals as goal

pub returns-clause-bodies : goal.returns-clause-bodies
unfolding is_word own_snapshot with_own_snapshot without_empty without_start without_untyped_source after_slash after_three_slashes before_slash
returns-clause-bodies c = (refl, refl)

pub returns-clause-queries : goal.returns-clause-queries
returns-clause-queries c = record {
  instances = λ pair is. rw is refl;
  volumes = λ pair is. rw is refl;
  filtered = λ pair is. rw is refl;
  made = refl;
  one = refl;
  profiles = λ pair is. rw is refl;
  operations = refl;
  plain = refl;
}
