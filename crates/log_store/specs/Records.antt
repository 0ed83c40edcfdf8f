-- Records in bytes: record r is the 132 bytes from 132 * r on, an index and a version in two bytes each, the high byte first, and then the block.
use Rattle.std.specs.Prelude.{ℕ, zero, suc, ◌+◌, ◌*◌, cond, List, Some, None, Option, ◌==◌}
use Rattle.std.proofs.lemmas.List.Edits.{sets}
use Rattle.std.specs.List.{between}
use Rattle.store.specs.Bytes.{number, number_at}
use Rattle.store.specs.Stores.{Copy, unwritten, kept}

abbrev pub index_at : List ℕ → ℕ → ℕ
index_at m r = number_at m (r * 132)

abbrev pub copy_at : List ℕ → ℕ → Copy
copy_at m r = kept (number_at m (r * 132 + 2)) (between (r * 132 + 4) (r * 132 + 132) m)

-- memory with another record at r
abbrev pub with_record : List ℕ → ℕ → ℕ → ℕ → List ℕ → List ℕ
with_record m r index version bytes =
    sets (sets (sets m (r * 132) (number index)) (r * 132 + 2) (number version)) (r * 132 + 4) bytes

-- memory with record r copied to another place
abbrev pub with_copied : List ℕ → ℕ → ℕ → List ℕ
with_copied m r to = sets m (to * 132) (between (r * 132) (r * 132 + 132) m)

-- the last of the n records from a place on that has the index
abbrev pub newest : List ℕ → ℕ → ℕ → ℕ → Option ℕ
newest m from zero index = None
newest m from (suc n) index = cond (index_at m (from + n) == index) (Some (from + n)) (newest m from n index)

-- the copy in the record that was found, if one was
abbrev pub copy_found : List ℕ → Option ℕ → Copy
copy_found m None = unwritten
copy_found m (Some r) = copy_at m r

-- memory into which records are carried, and how many they are so far
pub record Carried : Type 0 where
  pub memory : List ℕ
  pub count : ℕ

-- a found record is carried behind the others, which begin at `to`
abbrev pub carry : ℕ → Carried → Option ℕ → Carried
carry to c None = c
carry to c (Some r) = record { memory = with_copied c.memory r (to + c.count); count = c.count + 1 }
