-- What a `BlockCopy` is, and how one lies in bytes: its version in two bytes, the high byte first, and then its block.
use Rattle.std.specs.Prelude.{ℕ, ◌+◌, List}
use Rattle.std.proofs.lemmas.List.Edits.{sets}
use Rattle.std.specs.List.{between}
use Rattle.store.specs.declared.copy.BlockCopy.{BlockCopy}
use Rattle.store.specs.Bytes.{number, number_at}
use Rattle.store.specs.Stores.{Copy, kept}

-- the copy that a `BlockCopy` is
abbrev pub as_copy : BlockCopy → Copy
as_copy c = record { version = c.version; bytes = c.bytes.now }

-- the copy that lies in bytes from a place on
abbrev pub copy_from : List ℕ → ℕ → Copy
copy_from m at = kept (number_at m at) (between (at + 2) (at + 130) m)

-- bytes with a copy laid over them from a place on
abbrev pub with_copy : List ℕ → ℕ → Copy → List ℕ
with_copy m at c = sets (sets m at (number c.version)) (at + 2) c.bytes
