-- A log forgets nothing: after any writes, compactions and clearings, what is read of a block is what was last written to it.
use Rattle.std.specs.Prelude.{◌≡◌, ℕ, ◌<◌, List, [], ◌∷◌, length, None}
use Rattle.store.specs.Histories.{Change, write, clear, AllFit, last_written, Reads}
use Rattle.log_store.specs.Logs.{Log, log_refusal, started, log_copies, log_written, log_cleared}

-- the log after a history, the newest change first
abbrev pub log_after : Log → List Change → Log
log_after l [] = l
log_after l (write index version block ∷ history) = log_written (log_after l history) index version block
log_after l (clear ∷ history) = log_cleared (log_after l history)

-- over any memory, after any history
abbrev pub LogForgetsNothing : Type 0
LogForgetsNothing =
    (blocks records : ℕ) (memory : List ℕ) → log_refusal blocks records (length memory) ≡ None →
    (history : List Change) → AllFit history →
    (i : ℕ) → i < blocks → Reads (log_copies (log_after (started blocks memory) history)) i (last_written history i)
