use Rattle.machine_laws.proofs.HeadlineKept.{the-headline}
use Rattle.machine_laws.proofs.laws.the_headline.Goals as goal

pub returns : goal.returns
returns c = the-headline
