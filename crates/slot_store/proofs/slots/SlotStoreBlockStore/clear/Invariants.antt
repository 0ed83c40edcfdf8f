use Rattle.std.proofs.Common.{◌≡◌}
use Rattle.slot_store.specs.Slots.{cleared_below}
use Rattle.slot_store.proofs.slots.SlotStoreBlockStore.clear.Given as goal

abbrev pub invariant-loop-index : goal.invariant-loop-index
invariant-loop-index l =
    (l.self.memory.now ≡ cleared_below l.index l.initial.self.memory.now) × (l.self.memory.ghost_name ≡ l.initial.self.memory.ghost_name)
