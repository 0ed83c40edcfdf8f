use Rattle.log_store.proofs.Remembering.{forgets_nothing}
use Rattle.log_store.proofs.history.log_forgets_nothing.Goals as goal

-- the theorem
pub returns : goal.returns
returns c = forgets_nothing
