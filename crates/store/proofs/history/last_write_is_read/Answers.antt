use Rattle.store.proofs.Changes.{reads_last}
use Rattle.store.proofs.history.last_write_is_read.Goals as goal

-- the theorem
pub returns : goal.returns
returns c = reads_last
