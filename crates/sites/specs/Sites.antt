-- Sets of sites, and what a `SiteSet` holds of one.
use Rattle.std.specs.Prelude.{◌≡◌, ℕ, ◌/◌, ◌%◌, ◌^◌, ◌<◌, Bool, cond, ◌&&◌, ◌==◌, nat_lt}
use Rattle.sites.specs.declared.site_set.SiteSet.{SiteSet}
use Rattle.sites.specs.Bounded.{every, count, total, implies}

-- a set of sites, by its test of membership
abbrev pub Sites : Type 0
Sites = ℕ → Bool

-- the two sets have the same members below n
abbrev pub SameBelow : ℕ → Sites → Sites → Type 0
SameBelow n a b = (i : ℕ) → i < n → a i ≡ b i

-- the most sites that a group has
abbrev pub max_sites : ℕ
max_sites = 8

-- what a `SiteSet` can hold of a set: the members below the limit
abbrev pub within : Sites → Sites
within s i = nat_lt i max_sites && s i

-- whether bit i of a number is set
abbrev pub bit_at : ℕ → ℕ → Bool
bit_at bits i = bits / 2 ^ i % 2 == 1

-- the sites whose bits are set in a number; the lowest bit is that of site 0
unfoldable pub sites_in : ℕ → Sites
sites_in bits = within (bit_at bits)

-- the members of a `SiteSet`: what other layers know of it
abbrev pub members : SiteSet → Sites
members s = sites_in s.0

-- a set is told by its members: two that have the same are one
abbrev pub SetsAreTold : Type 0
SetsAreTold = (a b : SiteSet) → a.0 < 2 ^ max_sites → b.0 < 2 ^ max_sites → members a ≡ members b → a ≡ b

-- the number whose bits are set for the members below the limit
unfoldable pub bits_of : Sites → ℕ
bits_of s = total max_sites (λ i. cond (s i) (2 ^ i) 0)

-- how many members there are below the limit
unfoldable pub size : Sites → ℕ
size s = count max_sites s

-- whether each member of s below the limit is a member of t
unfoldable pub subset : Sites → Sites → Bool
subset s t = every max_sites (λ i. implies (s i) (t i))
