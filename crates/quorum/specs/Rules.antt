-- What a quorum rule means, and its laws.
use Rattle.std.specs.Prelude.{◌≡◌, ℕ, ◌<◌, Bool, cond, ◌||◌, T, Some, Option, ◌==◌, nat_lt}
use Rattle.refusal.specs.declared.layer.Layer.TheVariants.{Part}
use Rattle.refusal.specs.declared.reason.Reason.{Reason}
use Rattle.refusal.specs.declared.reason.Reason.TheVariants.{BadSizes}
use Rattle.refusal.specs.declared.refusal.Refusal.{Refusal}
use Rattle.refusal.specs.Refusals.{refused}
use Rattle.sites.specs.Sites.{Sites, SameBelow, max_sites}

-- for how many sites a rule is, and which sets of sites may read and may write
pub record Rule : Type 0 where
  pub sites : ℕ
  pub reads : Sites → Bool
  pub writes : Sites → Bool

-- a site below n that is in both sets
pub record Shared (n : ℕ) (a b : Sites) : Type 0 where
  pub site : ℕ
  pub below : site < n
  pub left : T (a site)
  pub right : T (b site)

-- the laws: a set that may read and one that may write share a site, and so do any two that may write; members from n up do not count
pub record Lawful (r : Rule) : Type 0 where
  pub read_write : (a b : Sites) → T (r.reads a) → T (r.writes b) → Shared r.sites a b
  pub write_write : (a b : Sites) → T (r.writes a) → T (r.writes b) → Shared r.sites a b
  pub reads_same : (a b : Sites) → SameBelow r.sites a b → r.reads a ≡ r.reads b
  pub writes_same : (a b : Sites) → SameBelow r.sites a b → r.writes a ≡ r.writes b

-- a rule is not made
abbrev pub refused_rule : Reason → Option Refusal
refused_rule reason = Some (refused reason Part (record { site = 0; block = 0; length = 0; offset = 0; request = 0 }) 0)

-- why a rule is not made: its number of sites is out of its limits, or else
abbrev pub sized : ℕ → Option Refusal → Option Refusal
sized n else = cond (n == 0 || nat_lt max_sites n) (refused_rule BadSizes) else
