-- How blocks lie in bytes: slot i is the 130 bytes from 130 * i on, a version in two bytes, the high byte first, and then the block.
use Rattle.std.specs.Prelude.{ℕ, zero, suc, ◌+◌, ◌*◌, ◌/◌, min, cond, ◌||◌, List, map, length, Some, None, Option, ◌==◌, nat_lt}
use Rattle.std.proofs.lemmas.List.Edits.{sets}
use Rattle.std.specs.List.{between, range_with_len}
use Rattle.refusal.specs.declared.reason.Reason.TheVariants.{BadSizes, WrongLength}
use Rattle.refusal.specs.declared.refusal.Refusal.{Refusal}
use Rattle.store.specs.Bytes.{number, number_at}
use Rattle.store.specs.Stores.{Copy, blank, kept, left, refused_at}

-- why n bytes are no store of some blocks
abbrev pub slot_refusal : ℕ → ℕ → Option Refusal
slot_refusal blocks n =
    cond (blocks == 0 || nat_lt 256 blocks) (Some (refused_at BadSizes 0 n))
    (cond (n == blocks * 130) None (Some (refused_at WrongLength 0 n)))

-- how many slots lie in n bytes
abbrev pub slots_in : ℕ → ℕ
slots_in n = min (n / 130) 256

-- the copy in slot i
abbrev pub slot : List ℕ → ℕ → Copy
slot m i = kept (number_at m (i * 130)) (between (i * 130 + 2) (i * 130 + 130) m)

-- the copies in all slots
unfoldable pub slot_copies : List ℕ → List Copy
slot_copies m = map (slot m) (range_with_len 0 (slots_in (length m)))

-- memory with another version and block in slot i
abbrev pub with_slot : List ℕ → ℕ → ℕ → List ℕ → List ℕ
with_slot m i version bytes = sets (sets m (i * 130) (number version)) (i * 130 + 2) bytes

-- memory with version 0 and a blank block in each of the first n slots
abbrev pub cleared_below : ℕ → List ℕ → List ℕ
cleared_below zero m = m
cleared_below (suc n) m = with_slot (cleared_below n m) n 0 blank

-- memory after a write, which may be refused
abbrev pub slots_written : List ℕ → ℕ → ℕ → List ℕ → List ℕ
slots_written m i version block =
    left (length (slot_copies m)) i (length block) (with_slot m i version (kept version block).bytes) m

-- memory after clearing
abbrev pub slots_cleared : List ℕ → List ℕ
slots_cleared m = cleared_below (length (slot_copies m)) m
