use Rattle.std.proofs.Common.{◌≡◌, ◌<◌, ◌^◌, Some, None, position, length, take, get_or, set, sym, ap, subst, ◌∙◌, arith}
use Rattle.std.proofs.lemmas.List.Elements.{All-get_or}
use Rattle.size_values.specs.Amounts.{part, plus_of}
use Rattle.row_machine.specs.machine.Rows.{is_project}
use Rattle.row_machine.specs.machine.Usage.{Load}
use Rattle.row_readings.specs.Loads.{IsSmall}
use Rattle.rules_limits.specs.Sums.{sums_of}
use Rattle.rules_limits.proofs.Summed.{table-none, table-low, table-placed, table-passed}
use Rattle.rules_limits.proofs.sums.sums_of.Goals.{in-Ok, in_default}
use Rattle.rules_limits.proofs.sums.sums_of.Goals as goal

pub loop-load-init : goal.loop-load-init
loop-load-init c = c.in_ok-sums.ensures ∙ table-none c.args.projects.now

pub plus-requires : goal.plus-requires
plus-requires c = λ k.
    let loads = c.args.loads.now in
    let i = c.loop-load.load-index in
    let now = c.index_mut-sum.result.now in
    let place = c.in-Ok.place in
    let item = c.load-item.result in
    let small : part k c.load.inside.amounts < 2 ^ 63 =
    subst (λ l. part k l.amounts < 2 ^ 63) (sym c.load-item.is ∙ sym c.load.view_is) ((All-get_or IsSmall loads i item c.loop-load-test.true c.requires.small).parts k) in
    let is : part k now ≡ part k (get_or (sums_of (take i loads) c.args.projects.now) place now) =
    ap (part k) (c.index_mut-sum.ensures.value ∙ ap (λ ts. get_or ts place now) c.loop-load.invariant) in
    let few : length loads < 2 ^ 63 = omega (arith, c.well_formed.1.0.1) in
    omega (
      arith,
      small,
      is,
      table-low k loads i c.args.projects.now place now c.requires.small few c.in-Ok.ensures.bound,
    )

pub loop-load-preserved : goal.loop-load-preserved
loop-load-preserved c =
    let loads = c.args.loads.now in
    let projects = c.args.projects.now in
    let i = c.loop-load.load-index in
    let load : Load = record { project = c.load.inside.project; amounts = c.load.inside.amounts; on = c.load.inside.on } in
    let is : load ≡ get_or loads i load = subst (λ l. l ≡ get_or loads i l) (sym c.load.view_is) c.load-item.is in
    elim c.match-place_named.branch [
      | in-Ok w ↦
          let now = w.index_mut-sum.result.now in
          let place = w.in-Ok.place in
          let at : position (is_project load.project) projects ≡ Some place =
          subst (λ name. position (is_project name) projects ≡ Some place) c.view.ensures.value w.in-Ok.ensures.place in
          ap (λ v. v.items) w.sums-is
          ∙ ap (set c.loop-load.sums.items place) (w.plus.ensures ∙ ap (λ a. plus_of a load.amounts) w.index_mut-sum.ensures.value)
          ∙ ap (λ ts. set ts place (plus_of (get_or ts place now) load.amounts)) c.loop-load.invariant
          ∙ table-placed loads i load c.loop-load-test.true is projects place now c.requires.rising at
      | in_default w ↦
          let at : position (is_project load.project) projects ≡ None =
          subst (λ name. position (is_project name) projects ≡ None) c.view.ensures.value w.in_default.ensures.place.0 in
          ap (λ v. v.items) w.sums-is ∙ c.loop-load.invariant
          ∙ table-passed loads i load c.loop-load-test.true is projects at
    ]
