-- What `any` and `all` answer over a range from 0, in the form that `grind` takes: each test by the items of the range's runs. `OfRuns` speaks of any range.
use Rattle.std.proofs.Common.{◌≡◌, ℕ, ◌+◌, ◌<◌, Bool, true, false, ◌⊎◌, Option, Some, None, IfSome, ap, ◌∙◌, inl, inr, arith}
use Rattle.std.specs.Iterator.Runs.{Run, EveryRun}
use Rattle.std.specs.Option.{option_map}
use Rattle.std.proofs.iter.Yields.{nat_range_steps}
use Rattle.std.proofs.iter.runs.Sources.{range_runs}
use Rattle.sites.specs.Bounded.{every, any}
use Rattle.sites.proofs.Bounded.{any_tells, every_tells}

-- P of every run of a range from a to n
abbrev pub OfRuns : ℕ → ℕ → (Run nat_range_steps → Type 0) → Type 0
OfRuns a n P = EveryRun nat_range_steps (λ q. q.from.start ≡ a → q.from.end ≡ n → P q)

-- such a run from 0 comes by i, if it goes on to the end
abbrev ComesBy : ℕ → ℕ → Type 0
ComesBy n i = OfRuns 0 n (λ q. q.whole ≡ true → q.at i ≡ Some i)

-- P of each item of such a run
abbrev OfItems : ℕ → (ℕ → Type 0) → Type 0
OfItems n P = OfRuns 0 n (λ q. (k : ℕ) → IfSome (q.at k) P)

-- a place that reads as i holds i
pub read : (o : Option ℕ) (i : ℕ) → option_map (λ y. y) o ≡ Some i → o ≡ Some i
read None i e = e
read (Some x) i e = e

comes_by : (n i : ℕ) → i < n → ComesBy n i
comes_by n i l q _ start end whole =
    let up = range_runs q q.seen in
    let long = up.1 whole in
    let e : q.from.start + i ≡ i = omega arith in
    read (q.at i) i (up.3 i (omega arith) ∙ ap Some e)

pub weaker : {P Q : ℕ → Type 0} (o : Option ℕ) → ((x : ℕ) → P x → Q x) → IfSome o P → IfSome o Q
weaker None h p = tt
weaker (Some x) h p = h x p

of_items : (n : ℕ) (P : ℕ → Type 0) → ((i : ℕ) → i < n → P i) → OfItems n P
of_items n P h q _ start end k = weaker (q.at k) (λ x w. h x (omega (arith, w.1))) ((range_runs q q.seen).2 k)

-- each test with what it tells of the items
pub any_ran : (n : ℕ) (p : ℕ → Bool)
    → ((any n p ≡ true) × (i : ℕ) × (p i ≡ true) × ComesBy n i) ⊎ ((any n p ≡ false) × OfItems n (λ i. p i ≡ false))
any_ran n p = elim (any_tells n p) [
  | inl w ↦ inl (w.0, w.1, w.3, comes_by n w.1 w.2)
  | inr r ↦ inr (r.0, of_items n (λ i. p i ≡ false) r.1)
]

pub every_ran : (n : ℕ) (p : ℕ → Bool)
    → ((every n p ≡ false) × (i : ℕ) × (p i ≡ false) × ComesBy n i) ⊎ ((every n p ≡ true) × OfItems n (λ i. p i ≡ true))
every_ran n p = elim (every_tells n p) [
  | inl w ↦ inl (w.0, w.1, w.3, comes_by n w.1 w.2)
  | inr r ↦ inr (r.0, of_items n (λ i. p i ≡ true) r.1)
]

pub ruleset range_tests = (any_ran, every_ran)
