use Rattle.std.proofs.Common.{◌≡◌, ◌+◌, ◌<◌, ◌∙◌, Bool, List, [], ◌∷◌, ◌++◌, length, take, sym, subst, ap, arith, length-take, length-set}
use Rattle.std.proofs.lemmas.List.{take_more, take_more_set}
use Rattle.std.specs.Prelude.{is_ok, slice_set}
use Rattle.journal_keeper.specs.Texts.{Commit}
use Rattle.journal_keeper.proofs.Standing.{stands_on_same}
use Rattle.journal_keeper.proofs.Histories.{SoFar, none_yet, one_more}
use Rattle.journal_keeper.proofs.history.commit_each.Goals as goal

pub loop-index-init : goal.loop-index-init
loop-index-init g c =
    let d = g.D.Disk.disk c.args.keeper.now.disk in
    record {
      len = c.requires;
      so_far = none_yet d c.args.keeper.now.gate (λ base doubts is. stands_on_same d c.args.keeper.now.gate base doubts (g.met.D.Disk.only_now c.args.keeper.now.disk) is);
    }

pub loop-index-preserved : goal.loop-index-preserved
loop-index-preserved g c =
    let old = g.D.Disk.disk c.args.keeper.now.disk in
    let mid = g.D.Disk.disk c.loop-index.keeper.disk in
    let new = g.D.Disk.disk c.commit.new.self.disk in
    let i = c.loop-index.index in
    let x : Commit = c.index-commits-index.result in
    let commits : List Commit = c.args.commits.now in
    let answers : List Bool = c.loop-index.answers in
    let within : i < length commits = c.loop-index-test.true in
    let room : i < length answers = omega (arith, within, c.loop-index.invariant.len) in
    let more : take (i + 1) commits ≡ take i commits ++ x ∷ [] = take_more commits i x within ∙ ap (λ (y : Commit). take i commits ++ y ∷ []) (sym c.index-commits-index.is) in
    let more_answers : take (i + 1) (slice_set answers i c.is_ok-done.result) ≡ take i answers ++ is_ok c.commit.result ∷ [] =
    take_more_set answers i c.is_ok-done.result room ∙ ap (λ (b : Bool). take i answers ++ b ∷ []) c.is_ok-done.ensures.value in
    let same : length (take i commits) ≡ length (take i answers) = omega (arith, length-take i commits, length-take i answers, within, room) in
    let next = one_more old mid new c.args.keeper.now.gate c.loop-index.keeper.gate c.commit.new.self.gate (take i commits) (take i answers) x c.commit.result same c.loop-index.invariant.so_far c.commit.ensures.tells c.commit.ensures.commits in
    record {
      len = omega (arith, length-set answers i c.is_ok-done.result, c.loop-index.invariant.len);
      so_far = subst (λ (cs : List Commit). SoFar old new c.args.keeper.now.gate c.commit.new.self.gate cs (take (i + 1) (slice_set answers i c.is_ok-done.result))) (sym more)
          (subst (λ (bs : List Bool). SoFar old new c.args.keeper.now.gate c.commit.new.self.gate (take i commits ++ x ∷ []) bs) (sym more_answers) next);
    }
