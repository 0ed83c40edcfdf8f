-- What is read of a block of a log is what was last written to it: each change of the log is the same change of its copies.
use Rattle.std.proofs.Common.{◌≡◌, ℕ, ◌^◌, ◌<◌, List, [], ◌∷◌, length, set, replicate, sym, refl, ap, ◌∙◌, subst}
use Rattle.store.specs.Histories.{Change, write, clear, AllFit, copies_after, last_written, Reads}
use Rattle.store.specs.Stores.{unwritten, kept, left, written, cleared}
use Rattle.store.proofs.Changes.{left_through, reads_last}
use Rattle.log_store.specs.Histories.{log_after, LogForgetsNothing}
use Rattle.log_store.specs.Logs.{Log, started, block_count, log_copies, roomy, appended, log_written, log_cleared}
use Rattle.log_store.specs.Meaning.{length-log, get_or-log, half_fits}
use Rattle.log_store.proofs.Writing.{block_written, copy_appended, roomy_free, log_copies-started, sizes_fit}
use Rattle.log_store.proofs.Laid.{copied_is}
use Rattle.log_store.proofs.Newest.{newest_more, carried_step}
use Rattle.log_store.proofs.Carrying.{carried_size, carried_few}

log_copies-log_written : (l : Log) (i v : ℕ) (block : List ℕ) → v < 2 ^ 16 → log_copies (log_written l i v block) ≡ written (log_copies l) i v block
log_copies-log_written l i v block f =
    left_through log_copies (block_count l) i (length block) (appended (roomy l) i v (kept v block).bytes) l (set (log_copies l) i (kept v block))
    (λ h k. block_written l i v block h f k) ∙
    ap (λ n. left n i (length block) (set (log_copies l) i (kept v block)) (log_copies l)) (sym (length-log l))

pub log_copies-log_cleared : (l : Log) → log_copies (log_cleared l) ≡ cleared (log_copies l)
log_copies-log_cleared l = log_copies-started l.blocks l.memory (length (log_copies l)) (sym (length-log l))

log_copies-log_after : (l : Log) (history : List Change) → AllFit history → log_copies (log_after l history) ≡ copies_after (log_copies l) history
log_copies-log_after l [] f = refl
log_copies-log_after l (write i v block ∷ history) f =
    log_copies-log_written (log_after l history) i v block f.0 ∙ ap (λ t. written t i v block) (log_copies-log_after l history f.1)
log_copies-log_after l (clear ∷ history) f = log_copies-log_cleared (log_after l history) ∙ ap cleared (log_copies-log_after l history f.1)

pub forgets_nothing : LogForgetsNothing
forgets_nothing blocks records m e history f i h =
    let z = sizes_fit blocks records (length m) (sym e) in
    let s : copies_after (replicate blocks unwritten) history ≡ log_copies (log_after (started blocks m) history) =
    sym (log_copies-log_after (started blocks m) history f ∙ ap (λ t. copies_after t history) (log_copies-started blocks m blocks z.1)) in
    subst (λ t. Reads t i (last_written history i)) s (reads_last blocks history i h)

-- what the functions of a log need of all this
pub ruleset logged = (carried_step, copy_appended, newest_more, copied_is, length-log, get_or-log, half_fits, sizes_fit, log_copies-started, log_copies-log_cleared, roomy_free, carried_size, carried_few)
