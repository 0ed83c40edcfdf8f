-- Tests as facts.
use Rattle.std.proofs.Common.{◌≡◌, Bool, true, false, ◌&&◌, T, subst}
use mathlib.Core.Path.{subst⁻¹}
use Rattle.sites.specs.Bounded.{implies}

pub T-left : (x y : Bool) → T (x && y) → T x
T-left true y h = tt
T-left false y h = h

pub T-right : (x y : Bool) → T (x && y) → T y
T-right true y h = h
T-right false y h = absurd h

-- a fact along an equation, and against it
pub T-by : {x y : Bool} → x ≡ y → T x → T y
T-by e t = subst T e t

pub T-from : {x y : Bool} → x ≡ y → T y → T x
T-from e t = subst⁻¹ T e t

pub implies-T : (x y : Bool) → T (implies x y) → T x → T y
implies-T true y h a = h
implies-T false y h a = absurd a
