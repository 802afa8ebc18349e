-- The first rows have entries: their names are good and their parts are short, computed.
use Rattle.std.proofs.Common.{◌≡◌, ◌<◌, ◌^◌, ℕ, true, refl, nat_lt}
use Rattle.std.proofs.lemmas.Bool.{ltb-true}
use Rattle.std.specs.List.{AllByRecursion}
use Rattle.estate_rules.specs.Names.{is_instance_name, is_project_name, is_object_name}
use Rattle.row_machine.specs.opening.Opening.{first_rows}
use Rattle.row_machine.specs.machine.Plans.{put_all}
use Rattle.core_judging.specs.core_reports.specs.Entries.{HasEntry}

-- a length that computes below the bound
short : (n : ℕ) → nat_lt n (2 ^ 32) ≡ true → n < 2 ^ 32
short n is = ltb-true n (2 ^ 32) is

pub first-entries : AllByRecursion HasEntry (put_all first_rows)
unfolding is_instance_name is_project_name is_object_name
first-entries = (
  (
    refl,
    tt,
    (
      short _ refl,
      (
        short _ refl,
        (
          (short _ refl, short _ refl),
          ((short _ refl, short _ refl), ((short _ refl, short _ refl), ((short _ refl, short _ refl), ((short _ refl, short _ refl), tt)))),
        ),
      ),
    ),
  ),
  (((refl, refl), tt, (short _ refl, (short _ refl, tt), (short _ refl, tt))), tt),
)
