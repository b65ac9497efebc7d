use Rattle.consensus_core.proofs.OverLog.{same_name_law, same_answer_law, same_cut_law, same_batch_law, same_count_law}
use Rattle.consensus_core.proofs.Speech.{same_spelled_law}
use Rattle.consensus_core.proofs.laws.rows_read_the_shape.Goals as goal

pub returns : goal.returns
returns c = record { name = same_name_law; answer = same_answer_law; cut = same_cut_law; batch = same_batch_law; count = same_count_law; spelled = same_spelled_law }
