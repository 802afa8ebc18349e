use Rattle.rest_json.proofs.ReadBack.{reads_back}
use Rattle.rest_json.proofs.laws.ids_read_back.Goals as goal

pub returns : goal.returns
returns c = reads_back
