-- The library's lemmas about lists, with those on a write to two lists joined.
use Rattle.std.proofs.lemmas.Grind.{common_steps}
use Rattle.std.proofs.lemmas.List.{set-append_left, set-append_right}

pub ruleset joined_lists = (common_steps, set-append_left, set-append_right)
