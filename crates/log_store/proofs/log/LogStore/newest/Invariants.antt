use Rattle.std.proofs.Common.{◌≡◌}
use Rattle.log_store.specs.Logs.{Log, log_of, record_count, newest_in}
use Rattle.log_store.proofs.log.LogStore.newest.Given as goal

-- the records that were searched so far have not the index
abbrev pub invariant-loop-at : goal.invariant-loop-at
invariant-loop-at l =
    let s : Log = log_of l.self in
    newest_in s.memory s.half l.at l.index ≡ newest_in s.memory s.half (record_count s) l.index
