-- A log over memory in two halves, and what writing and clearing leave of it.
use Rattle.std.specs.Prelude.{ℕ, zero, suc, ◌+◌, ◌-◌, ◌*◌, ◌/◌, min, cond, ◌||◌, List, map, length, Some, None, Option, ◌==◌, codes, nat_le, nat_lt}
use Rattle.std.specs.List.{range_with_len}
use Rattle.refusal.specs.declared.reason.Reason.TheVariants.{BadSizes, WrongLength}
use Rattle.refusal.specs.declared.refusal.Refusal.{Refusal}
use Rattle.store.specs.Stores.{Copy, kept, left, refused_at}
use Rattle.log_store.specs.declared.half.Half.{Half}
use Rattle.log_store.specs.declared.half.Half.TheVariants.{First, Second}
use Rattle.log_store.specs.declared.log.LogStore.{LogStore}
use Rattle.log_store.specs.Records.{Carried, carry, copy_found, newest, with_record}

-- why n bytes are no log of some blocks with so many records in each half
abbrev pub log_refusal : ℕ → ℕ → ℕ → Option Refusal
log_refusal blocks records n =
    cond (blocks == 0 || nat_lt 256 blocks || nat_le records blocks || nat_lt 512 records) (Some (refused_at BadSizes 0 n))
    (cond (n == 2 * records * 132) None (Some (refused_at WrongLength 0 n)))

-- the memory, the number of blocks that the log was made for, the half in use, and how many records it has
pub record Log : Type 0 where
  pub memory : List ℕ
  pub blocks : ℕ
  pub half : Half
  pub used : ℕ

abbrev pub log_of : LogStore → Log
log_of s = record { memory = s.memory.now; blocks = s.blocks; half = s.half; used = s.used }

-- the first half in use, with no record
abbrev pub started : ℕ → List ℕ → Log
started blocks m = record { memory = m; blocks = blocks; half = First; used = 0 }

-- how many records each half of n bytes has room for
abbrev pub room_in : ℕ → ℕ
room_in n = min (n / 264) 512

-- the number of a half's first record
abbrev pub first_in : List ℕ → Half → ℕ
first_in m First = 0
first_in m Second = room_in (length m)

abbrev pub other : Half → Half
other First = Second
other Second = First

-- a half in words
abbrev pub half_text : Half → List ℕ
half_text First = codes "first"
half_text Second = codes "second"

-- the newest record of a block, where a half has n records
abbrev pub newest_in : List ℕ → Half → ℕ → ℕ → Option ℕ
newest_in m half n index = newest m (first_in m half) n index

-- one block's newest record carried into the other half
abbrev pub carry_in : Half → ℕ → Carried → ℕ → Carried
carry_in half n c index = carry (first_in c.memory (other half)) c (newest_in c.memory half n index)

-- the newest records of the blocks below k carried there, in rising index
abbrev pub carried_in : List ℕ → Half → ℕ → ℕ → Carried
carried_in m half n zero = record { memory = m; count = 0 }
carried_in m half n (suc k) = carry_in half n (carried_in m half n k) k

-- the numbers in force: a log that was made by `new` has them as they stand
abbrev pub room : Log → ℕ
room l = room_in (length l.memory)

abbrev pub block_count : Log → ℕ
block_count l = min (min l.blocks (room l - 1)) 256

abbrev pub record_count : Log → ℕ
record_count l = min l.used (room l)

-- the newest record of each block counts
abbrev pub copy_of : Log → ℕ → Copy
copy_of l index = copy_found l.memory (newest_in l.memory l.half (record_count l) index)

unfoldable pub log_copies : Log → List Copy
log_copies l = map (copy_of l) (range_with_len 0 (block_count l))

-- a log while records are carried
abbrev pub carrying : Log → Carried → Log
carrying l c = record { memory = c.memory; blocks = l.blocks; half = l.half; used = l.used }

-- one block's newest record of a log carried behind so many
abbrev pub carry_block : Log → ℕ → ℕ → Carried
carry_block l count index = carry_in l.half (record_count l) (record { memory = l.memory; count = count }) index

-- the other half in use, with each block's newest record at its start
abbrev pub compacted : Log → Log
compacted l =
    let c : Carried = carried_in l.memory l.half (record_count l) (block_count l) in
    record { memory = c.memory; blocks = l.blocks; half = other l.half; used = c.count }

-- room for one record more: a full half is compacted first
abbrev pub roomy : Log → Log
roomy l = cond (nat_lt (record_count l) (room l)) l (compacted l)

-- one record more behind the last
abbrev pub appended : Log → ℕ → ℕ → List ℕ → Log
appended l index version bytes = record {
  memory = with_record l.memory (first_in l.memory l.half + record_count l) index version bytes;
  blocks = l.blocks;
  half = l.half;
  used = record_count l + 1;
}

-- the log after a write, which may be refused
abbrev pub log_written : Log → ℕ → ℕ → List ℕ → Log
log_written l index version block =
    left (block_count l) index (length block) (appended (roomy l) index version (kept version block).bytes) l

-- the log after clearing
abbrev pub log_cleared : Log → Log
log_cleared l = started l.blocks l.memory
