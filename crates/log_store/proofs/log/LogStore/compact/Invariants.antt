use Rattle.std.proofs.Common.{◌≡◌}
use Rattle.log_store.specs.Logs.{Log, log_of, record_count, carried_in, carrying}
use Rattle.log_store.proofs.log.LogStore.compact.Given as goal

-- what was carried so far, and that nothing else changed
abbrev pub invariant-loop-index : goal.invariant-loop-index
invariant-loop-index l =
    let s : Log = log_of l.initial.self in
    let c = carried_in s.memory s.half (record_count s) l.index in
    (log_of l.self ≡ carrying s c) × (l.count ≡ c.count) × (l.self.memory.ghost_name ≡ l.initial.self.memory.ghost_name)
