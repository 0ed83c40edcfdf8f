-- The rule by a grid: a whole column meets every set that has a member in each column.
use Rattle.std.specs.Prelude.{◌≡◌, ℕ, true, false, ◌&&◌, ◌||◌, T}
use Rattle.std.proofs.Common.{ap, ap₂}
use Rattle.sites.specs.Bounded.{any, implies}
use Rattle.sites.specs.Sites.{Sites, SameBelow}
use Rattle.sites.proofs.Bounded.{every_at, any_some, fold_cong}
use Rattle.sites.proofs.Tests.{T-left, T-right, implies-T}
use Rattle.quorum.specs.Grids.{in_column, column_has, column_whole, grid_reads, grid_rule}
use Rattle.quorum.specs.Rules.{Shared, Lawful}

module _ (n columns : ℕ) where
  -- a has a member in each column, and b a whole column
  meet : (a b : Sites) → T (grid_reads n columns a) → T (any columns (column_whole n columns b)) → Shared n a b
  meet a b reads whole =
      let w = any_some columns (column_whole n columns b) whole in
      let c = w.0 in
      let m = any_some n (λ i. in_column columns c i && a i) (every_at columns (column_has n columns a) reads c w.1) in
      let i = m.0 in
      record {
        site = i;
        below = m.1;
        left = T-right (in_column columns c i) (a i) m.2;
        right = implies-T (in_column columns c i) (b i)
            (every_at n (λ k. implies (in_column columns c k) (b k)) w.2 i m.1)
            (T-left (in_column columns c i) (a i) m.2);
      }

  -- sets with the same members below n are answered alike
  has_same : (a b : Sites) → SameBelow n a b → (c : ℕ) → column_has n columns a c ≡ column_has n columns b c
  has_same a b h c = fold_cong ◌||◌ false n _ _ (λ i l. ap (λ x. in_column columns c i && x) (h i l))

  whole_same : (a b : Sites) → SameBelow n a b → (c : ℕ) → column_whole n columns a c ≡ column_whole n columns b c
  whole_same a b h c = fold_cong ◌&&◌ true n _ _ (λ i l. ap (implies (in_column columns c i)) (h i l))

  grid_reads_same : (a b : Sites) → SameBelow n a b → grid_reads n columns a ≡ grid_reads n columns b
  grid_reads_same a b h = fold_cong ◌&&◌ true columns _ _ (λ c l. has_same a b h c)

  pub grid_lawful : Lawful (grid_rule n columns)
  grid_lawful = record {
    read_write = λ a b t u. meet a b t (T-right (grid_reads n columns b) _ u);
    write_write = λ a b t u. meet a b (T-left (grid_reads n columns a) _ t) (T-right (grid_reads n columns b) _ u);
    reads_same = grid_reads_same;
    writes_same = λ a b h. ap₂ ◌&&◌ (grid_reads_same a b h) (fold_cong ◌||◌ false columns _ _ (λ c l. whole_same a b h c));
  }
