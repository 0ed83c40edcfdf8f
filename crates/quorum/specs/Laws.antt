-- Votes with fair thresholds, and grids, are lawful for any number of sites.
use Rattle.std.specs.Prelude.{ℕ, T, List}
use Rattle.quorum.specs.Grids.{grid_rule}
use Rattle.quorum.specs.Rules.{Lawful}
use Rattle.quorum.specs.Votes.{all_votes, votes_rule, fair}

abbrev pub VotesAreLawful : Type 0
VotesAreLawful = (votes : List ℕ) (r q : ℕ) → T (fair (all_votes votes) r q) → Lawful (votes_rule votes r q)

abbrev pub GridsAreLawful : Type 0
GridsAreLawful = (n columns : ℕ) → Lawful (grid_rule n columns)
