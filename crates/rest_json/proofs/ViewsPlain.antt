-- No operation and no state of a project has a number with a fraction.
use Rattle.std.proofs.Common.{◌≡◌, ℕ, List, [], ◌∷◌, false, Option, Some, None, refl}
use Rattle.operations.specs.declared.operation.OpFault.{OpFault}
use Rattle.operations.specs.declared.operation.OpFault.TheVariants as fault
use Rattle.records.specs.declared.replies.OpView.{OpView}
use Rattle.records.specs.declared.replies.UsageLine.{UsageLine}
use Rattle.serde_json.specs.Data.{Members, no_members, put}
use Rattle.serde_json.specs.Written.{has_float, members_have_float}
use Rattle.rest_json.specs.Words.{limit_name}
use Rattle.rest_json.specs.Operations.{fault_data, resources_data, operation_data}
use Rattle.rest_json.specs.Views.{limit_data, line_data, put_lines, lines_data, usage_data}
use Rattle.rest_json.proofs.Floatless.{put_plain}

-- ---- operations

fault_plain : (f : OpFault) → has_float (fault_data f) ≡ false
fault_plain fault.None = refl
fault_plain (fault.Host call before after) = refl
fault_plain (fault.Keeper before after) = refl
fault_plain fault.NoMemory = refl

resources_plain : (v : OpView) → has_float (resources_data v) ≡ false
unfolding resources_data
resources_plain v = refl

pub operation_plain : (boot : ℕ) (v : OpView) → has_float (operation_data boot v) ≡ false
unfolding operation_data
operation_plain boot v = rw (fault_plain v.fault, resources_plain v) refl

-- ---- views

limit_plain : (limit : Option ℕ) → has_float (limit_data limit) ≡ false
limit_plain None = refl
limit_plain (Some limit) = refl

line_plain : (line : UsageLine) → has_float (line_data line) ≡ false
unfolding line_data
line_plain line = rw (limit_plain line.limit) refl

put_lines_plain : (lines : List UsageLine) (ms : Members) → members_have_float ms ≡ false → members_have_float (put_lines lines ms) ≡ false
put_lines_plain [] ms all = all
put_lines_plain (x ∷ xs) ms all = put_lines_plain xs (put (limit_name x.key) (line_data x) ms) (put_plain (limit_name x.key) (line_data x) ms (line_plain x) all)

lines_plain : (lines : List UsageLine) → has_float (lines_data lines) ≡ false
unfolding lines_data
lines_plain lines = put_lines_plain lines no_members refl

pub usage_plain : (lines : List UsageLine) → has_float (usage_data lines) ≡ false
unfolding usage_data
usage_plain lines = rw (lines_plain lines) refl
