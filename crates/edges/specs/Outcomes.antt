-- What is printed of a call's outcome.
use Rattle.std.specs.Prelude.{ℕ, List, ◌++◌, codes, decimal, Ok, Err, Result}
use Rattle.refusal.specs.declared.refusal.Refusal.{Refusal}
use Rattle.refusal.specs.Reasons.{fixed}

-- the number of a refusal, or 0, and its place
abbrev pub outcome_text : Result (Unit {0}) Refusal → List ℕ
outcome_text (Ok x) = codes "0 0"
outcome_text (Err e) = decimal (fixed e.reason).number ++ codes " " ++ decimal e.place
