-- Tests, counts and sums over the numbers below a bound.
use Rattle.std.specs.Prelude.{ℕ, zero, suc, ◌+◌, Bool, true, false, cond, not, ◌&&◌, ◌||◌, ◌==◌}

-- x, with the values of p at 0, 1 and so on below n put in by f
abbrev pub fold : {A X : Type 0} → (X → A → X) → X → ℕ → (ℕ → A) → X
fold f x zero p = x
fold f x (suc n) p = f (fold f x n p) (p n)

-- whether p holds of each number below n
abbrev pub every : ℕ → (ℕ → Bool) → Bool
every = fold ◌&&◌ true

-- whether p holds of some number below n
abbrev pub any : ℕ → (ℕ → Bool) → Bool
any = fold ◌||◌ false

-- of how many numbers below n p holds
abbrev pub count : ℕ → (ℕ → Bool) → ℕ
count = fold (λ k b. k + cond b 1 0) 0

-- the sum of p below n
abbrev pub total : ℕ → (ℕ → ℕ) → ℕ
total = fold ◌+◌ 0

abbrev pub implies : Bool → Bool → Bool
implies p q = not p || q

-- p, but v at i
abbrev pub put : {X : Type 0} → ℕ → X → (ℕ → X) → ℕ → X
put i v p j = cond (j == i) v (p j)
