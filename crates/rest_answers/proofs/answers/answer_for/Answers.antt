use Rattle.rest_answers.proofs.Printing.{no_memory_is_printed}
use Rattle.rest_answers.proofs.answers.answer_for.Goals as goal

pub returns-in-NoMemory : goal.returns-in-NoMemory
returns-in-NoMemory c =
    rw c.in-NoMemory.is (no_memory_is_printed c.args.terms c.args.request.now c.no_memory_is_known.ensures)
