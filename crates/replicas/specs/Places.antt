-- Where a site of two joined rows lies, and what can be said of it there.
use Rattle.std.specs.Prelude.{◌≡◌, ℕ, ◌<◌, ◌≤◌, List, ◌++◌, length, slice_set, Ok, Err, Result}
use Rattle.refusal.specs.declared.refusal.Refusal.{Refusal}
use Rattle.store.specs.Stores.{Copy}
use Rattle.replicas.specs.declared.joined.Place.{Place}
use Rattle.replicas.specs.declared.joined.Place.TheVariants.{First, Second}
use Rattle.replicas.specs.Rows.{Sites, at, no_site}

-- site s is one of the first row
pub record InFirst (p q : Sites) (s : ℕ) : Type 0 where
  pub here : s < length p
  pub there : s < length (p ++ q)
  pub same : at (p ++ q) s ≡ at p s
  pub put : (c : List Copy) → slice_set p s c ++ q ≡ slice_set (p ++ q) s c

-- site s is site t of the second row
pub record InSecond (p q : Sites) (s t : ℕ) : Type 0 where
  pub here : t < length q
  pub there : s < length (p ++ q)
  pub same : at (p ++ q) s ≡ at q t
  pub put : (c : List Copy) → p ++ slice_set q t c ≡ slice_set (p ++ q) s c

-- there is no site s
pub record InNone (p q : Sites) (s : ℕ) : Type 0 where
  pub past : length (p ++ q) ≤ s
  pub put : (c : List Copy) → p ++ q ≡ slice_set (p ++ q) s c

-- where site s lies, or that it is refused
abbrev pub Lies : Sites → Sites → ℕ → Result Place Refusal → Type 0
Lies p q s (Ok First) = InFirst p q s
Lies p q s (Ok (Second t)) = InSecond p q s t
Lies p q s (Err e) = (e ≡ no_site s) × InNone p q s
