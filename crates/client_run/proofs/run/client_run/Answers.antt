use Rattle.std.proofs.Common.{map, string_bytes}
use Rattle.client_words.specs.Words.{client_words_of}
use Rattle.client_run.specs.declared.course.Course.TheVariants as course
use Rattle.client_run.proofs.SessionLemmas.{goes_nothing}
use Rattle.client_run.proofs.run.client_run.Goals as goal

pub returns-in-Err : goal.returns-in-Err
returns-in-Err g c = record {
  runs = record {
    taken = course.NoMemory;
    status_is = c.status-in-Err.ensures;
    goes = goes_nothing (client_words_of (map (λ w. string_bytes w) c.args.words.now)) (g.S.Source.left c.args.source.now)
        (g.K.Sink.held c.args.sink.now) (g.P.Sink.held c.args.printed.now) (g.S.Source.ended c.args.source.now)
        (g.S.Source.failures c.args.source.now) (g.K.Sink.failures c.args.sink.now) (g.P.Sink.failures c.args.printed.now);
  };
}
