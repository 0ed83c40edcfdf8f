-- Tests, counts and sums over the numbers below a bound.
use Rattle.std.proofs.Common.{◌≡◌, ℕ, zero, suc, ◌+◌, ◌<◌, ◌≤◌, ◌&&◌, ◌||◌, Bool, true, false, T, ◌⊎◌, List, [], length, take, sym, refl, ap, ◌∙◌, ap₂, inl, inr, add-one, arith}
use Rattle.std.proofs.Math.Bool.{and-false, or-true}
use Rattle.std.proofs.lemmas.Bool.{cases_eq, cases_Bool}
use Rattle.std.proofs.lemmas.List.{take_all}
use Rattle.sites.specs.Bounded.{fold, every, any}
use Rattle.sites.proofs.Tests.{T-by, T-from}

-- what holds below n and at n holds below suc n
one_more : (P : ℕ → Type 0) (n : ℕ) → ((i : ℕ) → i < n → P i) → P n → (i : ℕ) → i < suc n → P i
one_more P n below here i l = elim (cases_eq i n) [ inl e ↦ rw e here | inr ne ↦ below i (omega arith) ]

-- a fold of tests by an operation that one value stops: it is `stop`, with some number below n where the test is, or it is `on`, and so is each test
module _ (op : Bool → Bool → Bool) (stop on : Bool) (cases : (x : Bool) → (x ≡ stop) ⊎ (x ≡ on))
    (left : (x : Bool) → op stop x ≡ stop) (right : (x : Bool) → op x stop ≡ stop) (both : op on on ≡ on) where
  abbrev Tells : ℕ → (ℕ → Bool) → Type 0
  Tells n p = ((fold op on n p ≡ stop) × (i : ℕ) × (i < n) × (p i ≡ stop)) ⊎ ((fold op on n p ≡ on) × ((i : ℕ) → i < n → p i ≡ on))

  tells : (n : ℕ) (p : ℕ → Bool) → Tells n p
  tells zero p = inr (refl, λ i l. absurd (omega arith))
  tells (suc n) p = go (tells n p) (cases (p n))
    where
      go : Tells n p → (p n ≡ stop) ⊎ (p n ≡ on) → Tells (suc n) p
      go (inl w) h = inl (ap (λ x. op x (p n)) w.0 ∙ left (p n), w.1, omega arith, w.3)
      go (inr r) (inl e) = inl (ap (op (fold op on n p)) e ∙ right (fold op on n p), n, omega arith, e)
      go (inr r) (inr e) = inr (ap₂ op r.0 e ∙ both, one_more (λ i. p i ≡ on) n r.1 e)

-- the cases of a test, false first
false_first : (x : Bool) → (x ≡ false) ⊎ (x ≡ true)
false_first true = inr refl
false_first false = inl refl

pub any_tells : (n : ℕ) (p : ℕ → Bool) → ((any n p ≡ true) × (i : ℕ) × (i < n) × (p i ≡ true)) ⊎ ((any n p ≡ false) × ((i : ℕ) → i < n → p i ≡ false))
any_tells = tells ◌||◌ true false cases_Bool (λ x. refl) or-true refl

pub every_tells : (n : ℕ) (p : ℕ → Bool) → ((every n p ≡ false) × (i : ℕ) × (i < n) × (p i ≡ false)) ⊎ ((every n p ≡ true) × ((i : ℕ) → i < n → p i ≡ true))
every_tells = tells ◌&&◌ false true false_first (λ x. refl) and-false refl

-- the same of a test that holds
pub every_at : (n : ℕ) (p : ℕ → Bool) → T (every n p) → (i : ℕ) → i < n → T (p i)
every_at n p h i l = elim (every_tells n p) [ inl w ↦ absurd (T-by w.0 h) | inr r ↦ T-from (r.1 i l) tt ]

pub any_some : (n : ℕ) (p : ℕ → Bool) → T (any n p) → (i : ℕ) × (i < n) × T (p i)
any_some n p h = elim (any_tells n p) [ inl w ↦ (w.1, w.2, T-from w.3 tt) | inr r ↦ absurd (T-by r.0 h) ]

-- what is folded below n depends on nothing else
pub fold_cong : {A X : Type 0} (f : X → A → X) (x : X) (n : ℕ) (p q : ℕ → A) → ((i : ℕ) → i < n → p i ≡ q i) → fold f x n p ≡ fold f x n q
fold_cong f x zero p q h = refl
fold_cong f x (suc n) p q h = ap₂ f (fold_cong f x n p q (λ i l. h i (omega arith))) (h n (omega arith))

-- a fold over the places of a list is F of the list, where F of one element more is a step more
module _ {X A Y : Type 0} (F : List X → Y) (f : Y → A → Y) (p : ℕ → A) (xs : List X)
    (more : (i : ℕ) → i < length xs → F (take (i + 1) xs) ≡ f (F (take i xs)) (p i)) where
  fold_take : (n : ℕ) → n ≤ length xs → fold f (F []) n p ≡ F (take n xs)
  fold_take zero l = refl
  fold_take (suc n) l = ap (λ y. f y (p n)) (fold_take n (omega arith)) ∙ sym (more n (omega arith)) ∙ ap (λ k. F (take k xs)) (add-one n)

  pub fold_list : fold f (F []) (length xs) p ≡ F xs
  fold_list = fold_take (length xs) (omega arith) ∙ ap F (take_all (length xs) xs (omega arith))
