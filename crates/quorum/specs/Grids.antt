-- A grid: a set may read if every column has a member, and write if besides some column is whole.
use Rattle.std.specs.Prelude.{ℕ, ◌*◌, ◌%◌, Bool, cond, ◌&&◌, None, Option, ◌==◌, nat_le}
use Rattle.refusal.specs.declared.reason.Reason.TheVariants.{BadGrid}
use Rattle.refusal.specs.declared.refusal.Refusal.{Refusal}
use Rattle.sites.specs.Bounded.{every, any, implies}
use Rattle.sites.specs.Sites.{Sites}
use Rattle.quorum.specs.declared.grid.GridQuorum.{GridQuorum}
use Rattle.quorum.specs.Rules.{Rule, refused_rule, sized}

-- site i stands in column i mod columns
abbrev pub in_column : ℕ → ℕ → Sites
in_column columns c i = i % columns == c

module _ (n columns : ℕ) (s : Sites) where
  -- some site of the column is a member
  abbrev pub column_has : ℕ → Bool
  column_has c = any n (λ i. in_column columns c i && s i)

  -- each site of the column is a member
  abbrev pub column_whole : ℕ → Bool
  column_whole c = every n (λ i. implies (in_column columns c i) (s i))

  abbrev pub grid_reads : Bool
  grid_reads = every columns column_has

  abbrev pub grid_writes : Bool
  grid_writes = grid_reads && any columns column_whole

abbrev pub grid_rule : ℕ → ℕ → Rule
grid_rule n columns = record { sites = n; reads = grid_reads n columns; writes = grid_writes n columns }

-- why rows and columns make no grid of n sites
abbrev pub grid_refusal : ℕ → ℕ → ℕ → Option Refusal
grid_refusal n rows columns =
    sized n (cond (nat_le 1 rows && (nat_le 1 columns && rows * columns == n)) None (refused_rule BadGrid))

-- what a `GridQuorum` means
abbrev pub rule_of_grid : GridQuorum → Rule
rule_of_grid g = grid_rule g.sites g.columns
