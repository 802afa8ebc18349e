use Rattle.rest_answers.proofs.Printing.{no_memory_fits}
use Rattle.rest_answers.proofs.answers.no_memory_head.Goals as goal

pub slice_bounds-result-count : goal.slice_bounds-result-count
slice_bounds-result-count c =
    no_memory_fits c.args.last c.no_memory_reply-reply.result.now c.no_memory_reply-reply.ensures
