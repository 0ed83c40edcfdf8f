-- What `any` and `all` answer over the sites of a column, each so many steps behind the last, in the form that `grind` takes.
use Rattle.std.proofs.Common.{◌≡◌, ℕ, ◌+◌, ◌*◌, ◌/◌, ◌%◌, ◌<◌, Bool, true, false, ◌==◌, ◌&&◌, ◌⊎◌, Some, IfSome, sym, ap, ◌∙◌, inl, inr, arith}
use Rattle.std.proofs.iter.runs.Sources.{range_runs}
use Rattle.std.proofs.lemmas.Nat.{div-add-mod', mod-mul-add}
use Rattle.std.proofs.lemmas.Bool.Decides.{nat_tests}
use Rattle.sites.specs.Bounded.{implies}
use Rattle.sites.proofs.Bounded.{any_tells, every_tells}
use Rattle.sites.proofs.Ranges.{OfRuns, read, weaker}
use Rattle.quorum.specs.Grids.{column_has, column_whole}

-- a run from a to n comes by i at the k-th step of c, if it goes on to the end
abbrev ComesBy : ℕ → ℕ → ℕ → ℕ → ℕ → Type 0
ComesBy a n c k i = OfRuns a n (λ q. q.whole ≡ true → q.at (k * c) ≡ Some i)

-- P of each item at a step of c of such a run
abbrev OfSteps : ℕ → ℕ → ℕ → (ℕ → Type 0) → Type 0
OfSteps a n c P = OfRuns a n (λ q. (k : ℕ) → IfSome (q.at (k * c)) P)

-- the sites of column a are those at a step of c
module _ (n c a : ℕ) (h : a < c) where
  comes_by : (i : ℕ) → i < n → i % c ≡ a → ComesBy a n c (i / c) i
  comes_by i l e q _ start end whole =
      let up = range_runs q q.seen in
      let long = up.1 whole in
      let d : i / c * c + a ≡ i = ap (λ k. i / c * c + k) (sym e) ∙ div-add-mod' i c in
      let f : q.from.start + i / c * c ≡ i = omega (arith, d, start) in
      read (q.at (i / c * c)) i (up.3 (i / c * c) (omega (arith, d, start, end, long, l)) ∙ ap Some f)

  of_steps : (P : ℕ → Type 0) → ((i : ℕ) → i < n → i % c ≡ a → P i) → OfSteps a n c P
  of_steps P f q _ start end k =
      let up = range_runs q q.seen in
      weaker (q.at (k * c))
      (λ x w.
      let e : x ≡ k * c + a = omega (arith, w.0, start) in
      f x (omega (arith, w.1, end)) (ap (λ t. t % c) e ∙ mod-mul-add k c a h))
      (up.2 (k * c))

-- the parts of a test of a column's site, and the test where the site is one of the column
has_parts : (i c a : ℕ) (x : Bool) → ((i % c == a) && x) ≡ true → (i % c ≡ a) × (x ≡ true)
has_parts i c a x e = (grind (arith, nat_tests), grind (arith, nat_tests))

has_not : (i c a : ℕ) (x : Bool) → i % c ≡ a → ((i % c == a) && x) ≡ false → x ≡ false
has_not i c a x e f = grind (arith, nat_tests)

pub any_stepped : (n c a : ℕ) (s : ℕ → Bool) → a < c →
    ((column_has n c s a ≡ true) × (i : ℕ) × (s i ≡ true) × ComesBy a n c (i / c) i) ⊎ ((column_has n c s a ≡ false) × OfSteps a n c (λ i. s i ≡ false))
any_stepped n c a s h = elim (any_tells n (λ i. (i % c == a) && s i)) [
  | inl w ↦ let p = has_parts w.1 c a (s w.1) w.3 in inl (w.0, w.1, p.1, comes_by n c a h w.1 w.2 p.0)
  | inr r ↦ inr (r.0, of_steps n c a h (λ i. s i ≡ false) (λ i l e. has_not i c a (s i) e (r.1 i l)))
]

whole_parts : (i c a : ℕ) (x : Bool) → implies (i % c == a) x ≡ false → (i % c ≡ a) × (x ≡ false)
whole_parts i c a x e = (grind (arith, nat_tests), grind (arith, nat_tests))

whole_at : (i c a : ℕ) (x : Bool) → i % c ≡ a → implies (i % c == a) x ≡ true → x ≡ true
whole_at i c a x e f = grind (arith, nat_tests)

pub every_stepped : (n c a : ℕ) (s : ℕ → Bool) → a < c →
    ((column_whole n c s a ≡ false) × (i : ℕ) × (s i ≡ false) × ComesBy a n c (i / c) i) ⊎ ((column_whole n c s a ≡ true) × OfSteps a n c (λ i. s i ≡ true))
every_stepped n c a s h = elim (every_tells n (λ i. implies (i % c == a) (s i))) [
  | inl w ↦ let p = whole_parts w.1 c a (s w.1) w.3 in inl (w.0, w.1, p.1, comes_by n c a h w.1 w.2 p.0)
  | inr r ↦ inr (r.0, of_steps n c a h (λ i. s i ≡ true) (λ i l e. whole_at i c a (s i) e (r.1 i l)))
]
