-- Histories of a store: what is read of a block is what was last written to it.
use Rattle.std.specs.Prelude.{◌≡◌, ℕ, ◌^◌, ◌<◌, cond, ◌&&◌, List, [], ◌∷◌, length, replicate, Ok, ◌==◌}
use Rattle.store.specs.Stores.{Copy, unwritten, kept, version_answer, read_buffer, written, cleared}

-- what can change a store: a write of a block with an index and a version, and clearing
pub data Change : Type 0 where
  write : ℕ → ℕ → List ℕ → Change
  clear : Change

-- the version is one that a store can have
abbrev pub Fits : Change → Type 0
Fits (write index version block) = version < 2 ^ 16
Fits clear = Unit {0}

abbrev pub AllFit : List Change → Type 0
AllFit [] = Unit {0}
AllFit (x ∷ history) = Fits x × AllFit history

-- what was last written to a block; the newest change comes first, and bytes that are no block write nothing
abbrev pub last_written : List Change → ℕ → Copy
last_written [] i = unwritten
last_written (write index version block ∷ history) i =
    cond (index == i && length block == 128) (kept version block) (last_written history i)
last_written (clear ∷ history) i = unwritten

-- the copies of a store after a history, the newest change first
abbrev pub copies_after : List Copy → List Change → List Copy
copies_after copies [] = copies
copies_after copies (write index version block ∷ history) = written (copies_after copies history) index version block
copies_after copies (clear ∷ history) = cleared (copies_after copies history)

-- what is read of a block is this copy
pub record Reads (copies : List Copy) (i : ℕ) (c : Copy) : Type 0 where
  pub version : version_answer copies i ≡ Ok c.version
  pub block : (buffer : List ℕ) → length buffer ≡ 128 → read_buffer copies i buffer ≡ c.bytes

-- in any store that was blank, after any history
abbrev pub LastWriteIsRead : Type 0
LastWriteIsRead =
    (blocks : ℕ) (history : List Change) (i : ℕ) → i < blocks →
    Reads (copies_after (replicate blocks unwritten) history) i (last_written history i)
