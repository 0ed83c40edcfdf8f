-- Worked examples of votes and of a grid.
use Rattle.std.specs.Prelude.{◌≡◌, ℕ, true, false, ◌||◌, [], ◌∷◌, None, ◌==◌, nat_lt}
use Rattle.refusal.specs.declared.reason.Reason.TheVariants.{BadVotes}
use Rattle.sites.specs.Sites.{Sites}
use Rattle.quorum.specs.Grids.{grid_refusal, grid_rule}
use Rattle.quorum.specs.Rules.{Rule, refused_rule}
use Rattle.quorum.specs.Votes.{votes_refusal}

-- two rows of three columns
abbrev pub grid : Rule
grid = grid_rule 6 3

-- the sites below n
abbrev pub first : ℕ → Sites
first n i = nat_lt i n

-- the sites of the first column
abbrev pub first_column : Sites
first_column i = i == 0 || i == 3

pub record RuleExamples : Type 0 where
  pub three_votes : votes_refusal (1 ∷ 1 ∷ 1 ∷ []) 1 1 ≡ None
  pub four_votes : votes_refusal (1 ∷ 1 ∷ 1 ∷ 1 ∷ []) 1 1 ≡ refused_rule BadVotes
  pub four_votes_higher : votes_refusal (1 ∷ 1 ∷ 1 ∷ 1 ∷ []) 1 2 ≡ None
  pub two_by_three : grid_refusal 6 2 3 ≡ None
  pub row_reads : grid.reads (first 3) ≡ true
  pub row_writes_not : grid.writes (first 3) ≡ false
  pub one_more_writes : grid.writes (first 4) ≡ true
  pub column_reads_not : grid.reads first_column ≡ false
  pub column_writes_not : grid.writes first_column ≡ false
