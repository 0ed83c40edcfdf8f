-- What a block store means, and what each call on it answers and leaves.
use Rattle.std.specs.Prelude.{◌≡◌, ℕ, ◌^◌, ◌<◌, ◌≤◌, cond, List, length, replicate, Ok, Err, Result, ◌==◌, nat_lt, slice_index_or, slice_set}
use Rattle.refusal.specs.declared.layer.Layer.TheVariants.{Part}
use Rattle.refusal.specs.declared.reason.Reason.{Reason}
use Rattle.refusal.specs.declared.reason.Reason.TheVariants.{NoSuchBlock, WrongLength}
use Rattle.refusal.specs.declared.refusal.Refusal.{Refusal}
use Rattle.refusal.specs.Refusals.{refused}

-- a store's copy of a block: its version and its 128 bytes
pub record Copy : Type 0 where
  pub version : ℕ
  pub bytes : List ℕ

-- the blank block
unfoldable pub blank : List ℕ
blank = replicate 128 0

-- a block that was never written
abbrev pub unwritten : Copy
unwritten = record { version = 0; bytes = blank }

-- what is kept of bytes that are written with a version
abbrev pub kept : ℕ → List ℕ → Copy
kept v bytes = cond (v == 0) unwritten (record { version = v; bytes = bytes })

-- a copy as a store can have it
pub record Sound (c : Copy) : Type 0 where
  pub fits : c.version < 2 ^ 16
  pub size : length c.bytes ≡ 128
  pub none : c.version ≡ 0 → c.bytes ≡ blank

-- the laws of a store's copies: they are at most 256, and each is sound
pub record Laws (copies : List Copy) : Type 0 where
  pub few : length copies ≤ 256
  pub sound : (i : ℕ) → i < length copies → Sound (slice_index_or copies i unwritten)

-- what a store means: its copies of the blocks, by their indices
pub record Store : Type 0 where
  pub copies : List Copy
  pub laws : Laws copies

abbrev pub refused_at : Reason → ℕ → ℕ → Refusal
refused_at reason index n = refused reason Part (record { site = 0; block = index; length = n; offset = 0; request = 0 }) 0

-- the answer of a store with `count` blocks: it has the block, or refuses
abbrev pub indexed : {A : Type 0} → ℕ → ℕ → A → Result A Refusal
indexed count index a = cond (nat_lt index count) (Ok a) (Err (refused_at NoSuchBlock index 0))

-- the same where n bytes come with the call: it has the block and the bytes are 128, or refuses
abbrev pub fitting : {A : Type 0} → ℕ → ℕ → ℕ → A → Result A Refusal
fitting count index n a =
    cond (nat_lt index count) (cond (n == 128) (Ok a) (Err (refused_at WrongLength index n))) (Err (refused_at NoSuchBlock index n))

-- what such a call leaves: `new` where it is not refused, else `old`
abbrev pub left : {A : Type 0} → ℕ → ℕ → ℕ → A → A → A
left count index n new old = cond (nat_lt index count) (cond (n == 128) new old) old

module _ (copies : List Copy) (index : ℕ) where
  abbrev pub version_answer : Result ℕ Refusal
  version_answer = indexed (length copies) index (slice_index_or copies index unwritten).version

  abbrev pub read_answer : ℕ → Result (Unit {0}) Refusal
  read_answer n = fitting (length copies) index n tt

  abbrev pub read_buffer : List ℕ → List ℕ
  read_buffer buffer = left (length copies) index (length buffer) (slice_index_or copies index unwritten).bytes buffer

  abbrev pub write_answer : ℕ → Result (Unit {0}) Refusal
  write_answer n = fitting (length copies) index n tt

  abbrev pub written : ℕ → List ℕ → List Copy
  written v block = left (length copies) index (length block) (slice_set copies index (kept v block)) copies

abbrev pub cleared : List Copy → List Copy
cleared copies = replicate (length copies) unwritten
