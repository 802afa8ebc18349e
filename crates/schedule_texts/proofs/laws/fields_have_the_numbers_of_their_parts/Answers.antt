use Rattle.schedule_texts.proofs.Parts.{field_has}
use Rattle.schedule_texts.proofs.laws.fields_have_the_numbers_of_their_parts.Goals as goal

pub returns : goal.returns
returns c = field_has
