-- The deeds of background operations, as a table.
use Rattle.std.specs.Prelude.{◌||◌}
use Rattle.row_machine.specs.Words.{Bool, true, false, Option, Some, None, is_none, option_map_or, Deed, ObjectKind}
use Rattle.row_machine.specs.Words.{Target, Deed as deed, ObjectKind as kind}
use Rattle.row_machine.specs.machine.Kinds.{is_of_kind}

-- The kind of object that a deed is about, and whether that object is there before it; the kind of row that it would
-- put, if any; whether this row takes the place of the target's, and under its name; and whether a failure leaves the
-- instance in an unknown state, since its change was begun on the host.
pub record DeedLine : Type 0 where
  pub target : ObjectKind
  pub is_there : Bool
  pub claims : Option ObjectKind
  pub replaces : Bool
  pub keeps_name : Bool
  pub breaks : Bool

abbrev pub makes : ObjectKind → Bool → DeedLine
makes kind is_there = record {
  target = kind;
  is_there = is_there;
  claims = Some kind;
  replaces = false;
  keeps_name = false;
  breaks = false;
}

abbrev pub replaces : Bool → DeedLine
replaces keeps_name = record (makes kind.Instance true) { replaces = true; keeps_name = keeps_name; breaks = true }

abbrev pub puts_none : ObjectKind → Bool → DeedLine
puts_none kind breaks = record (makes kind true) { claims = None; breaks = breaks }

abbrev pub deed_line : Deed → DeedLine
deed_line deed.Create = makes kind.Instance false
deed_line deed.Copy = makes kind.Instance false
deed_line deed.Update = replaces true
deed_line deed.Restore = replaces true
deed_line deed.Rename = replaces false
deed_line deed.Delete = puts_none kind.Instance true
deed_line (deed.Act action ephemeral) = puts_none kind.Instance true
deed_line deed.Snap = makes kind.Snapshot true
deed_line deed.Unsnap = puts_none kind.Snapshot false
deed_line deed.CopyVolume = makes kind.Volume false

abbrev pub target_kind : Deed → ObjectKind
target_kind deed = (deed_line deed).target

-- whether the object of a deed is there from its beginning; of a new snapshot its instance is
abbrev pub has_target : Deed → Bool
has_target deed = (deed_line deed).is_there

abbrev pub claim_kind : Deed → Option ObjectKind
claim_kind deed = (deed_line deed).claims

abbrev pub replaces_target : Deed → Bool
replaces_target deed = (deed_line deed).replaces

-- whether a deed leaves its instance under its name: a claim then has no new name
abbrev pub keeps_name : Deed → Bool
keeps_name deed = (deed_line deed).keeps_name

abbrev pub breaks_instance : Deed → Bool
breaks_instance deed = (deed_line deed).breaks

-- a copy has an instance or a snapshot as its source, a volume copy a volume, and no other deed has a source
abbrev pub has_source : Deed → Option Target → Bool
has_source deed.Copy source =
    option_map_or (λ of. is_of_kind kind.Instance of || is_of_kind kind.Snapshot of) source false
has_source deed.CopyVolume source = option_map_or (is_of_kind kind.Volume) source false
has_source other source = is_none source
