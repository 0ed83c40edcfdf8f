-- Numbers of two bytes, the high byte first.
use Rattle.std.specs.Prelude.{ℕ, ◌+◌, ◌*◌, ◌/◌, ◌%◌, ◌^◌, List, [], ◌∷◌, slice_index}

abbrev pub number : ℕ → List ℕ
number n = n / 256 % 256 ∷ n % 256 ∷ []

-- the number at a place
abbrev pub number_at : List ℕ → ℕ → ℕ
number_at bytes at = (slice_index bytes at * 256 + slice_index bytes (at + 1)) % 2 ^ 16
