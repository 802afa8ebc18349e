-- Notices, each with its text.
use Rattle.std.specs.Prelude.{◌≡◌, ℕ, true, false, List, [], ◌++◌, codes}
use Rattle.size_values.specs.declared.kinds.ObjectKind.TheVariants as kind
use Rattle.operations.specs.declared.status.Status.TheVariants as status
use Rattle.operations.specs.declared.operation.OpFault.TheVariants as fault
use Rattle.records.specs.declared.commands.Target.{Target}
use Rattle.records.specs.declared.notices.Life.TheVariants as life
use Rattle.records.specs.declared.notices.Notice.{Notice}
use Rattle.records.specs.declared.notices.EventBody.TheVariants as body
use Rattle.rest_json.specs.declared.terms.Dialect.TheVariants.{Plain}
use Rattle.rest_json.specs.declared.terms.Terms.{Terms}
use Rattle.rest_replies.specs.Notices.{notice_text}

-- the instance `b`
abbrev pub instance : Target
instance = record { kind = kind.Instance; pool = []; instance = []; name = codes "b" }

-- it was started
abbrev pub started : Notice
started = record {
  number = 1;
  moment = 0;
  project = codes "lab";
  body = body.Life life.InstanceStarted (codes "/1.0/instances/b?project=lab");
}

abbrev pub started_text : List ℕ
started_text =
    codes "{\"metadata\":{\"action\":\"instance-started\",\"source\":\"/1.0/instances/b?project=lab\"},"
    ++ codes "\"number\":1,\"project\":\"lab\",\"timestamp\":\"1970-01-01T00:00:00Z\",\"type\":\"lifecycle\"}"

-- an operation that makes it was accepted
abbrev pub accepted : Notice
accepted = record {
  number = 2;
  moment = 86400;
  project = codes "lab";
  body = body.Op (record {
    number = 2;
    status = status.Pending;
    may_cancel = true;
    created = 86400;
    updated = 86400;
    fault = fault.None;
    project = codes "lab";
    target = instance;
  });
}

abbrev pub accepted_text : List ℕ
accepted_text =
    codes "{\"metadata\":{\"class\":\"task\",\"created_at\":\"1970-01-02T00:00:00Z\",\"err\":\"\","
    ++ codes "\"id\":\"00000000-0001-8000-8000-000000000002\",\"may_cancel\":true,\"metadata\":null,"
    ++ codes "\"resources\":{\"instances\":[\"/1.0/instances/b?project=lab\"]},\"status\":\"Pending\","
    ++ codes "\"status_code\":105,\"updated_at\":\"1970-01-02T00:00:00Z\"},\"number\":2,\"project\":\"lab\","
    ++ codes "\"timestamp\":\"1970-01-02T00:00:00Z\",\"type\":\"operation\"}"

-- the plain dialect, where the boot word is 1
abbrev pub example_terms : Terms
example_terms = record { boot = 1; dialect = Plain; refuses_origin = false }

-- each has its text on these terms
pub record AreExamples : Type 0 where
  pub lifecycle : notice_text started example_terms ≡ started_text
  pub operation : notice_text accepted example_terms ≡ accepted_text
