-- Who asks for the server is told of it.
use Rattle.std.proofs.Common.{refl, sym, subst}
use Rattle.row_machine.specs.machine.Step.{well}
use Rattle.row_machine.specs.shown.Views.{read}
use Rattle.core_instances.specs.core_objects.proofs.FirstRules.{unbroken, both-free}
use Rattle.core_instances.specs.core_objects.proofs.ReadSteps.{reads, changes_of-read, read-free, read-step}
use Rattle.core_instances.specs.core_reports.specs.Stores.{Stores}
use Rattle.core_turns.specs.Server.{ServerIsTold, server_in}

pub server-told : ServerIsTold
unfolding read
server-told s store project moment =
    let asks = server_in project in
    let only = reads s asks moment refl in
    record {
      outcome = well;
      turns = record {
        is = read-step s asks moment only (read-free s asks moment only (both-free s asks (unbroken s asks refl)));
        stored = subst (λ cs. Stores cs well store store) (sym (changes_of-read s asks moment only)) refl;
      };
      caused = refl;
      kept = λ start is. is;
    }
