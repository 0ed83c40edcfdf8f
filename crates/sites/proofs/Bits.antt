-- The bits of numbers of any width, as tests: from the library's bits, which are numbers.
use Rattle.std.proofs.Common.{◌≡◌, ℕ, zero, suc, ◌+◌, ◌-◌, ◌*◌, ◌/◌, ◌%◌, ◌^◌, ◌<◌, min, max, Bool, true, false, cond, not, ◌&&◌, ◌||◌, eqb, ltb, sym, refl, ap, ◌∙◌, inl, inr, mod-lt, mod-eq_of_lt, pow-suc, one-add, arith}
use lib.Bits.{bit_and, bit_or, and_lt}
use lib.Count.{ones, ones_cat}
use Rattle.std.specs.Int.{bit_at as bit}
use Rattle.std.proofs.lemmas.Nat.{pow_pos, mod-pow-add}
use Rattle.std.proofs.lemmas.Nat.Bits.{bit_at_lowest, bit_at-suc, bit_at-lt, shr_and_one, bit_at_and, bit_at_or, bit_at-pow_same, bit_at-pow_other, bit_at_ones, bit_at_ones_above, same_from_bits_below}
use Rattle.std.proofs.lemmas.Bool.{cases_eq, cases_lt, eq-eqb, ne_eqb, lt-ltb, le-ltb}
use Rattle.std.proofs.lemmas.Bool.Decides.{nat_tests}
use Rattle.sites.specs.Bounded.{every, count, total, implies}
use Rattle.sites.specs.Sites.{bit_at}
use Rattle.sites.proofs.Bounded.{every_tells}

-- of two bits the larger is set where either is, and the smaller where both are
max_bit : (x y : ℕ) → x < 2 → y < 2 → eqb (max x y) 1 ≡ (eqb x 1 || eqb y 1)
max_bit x y p q = grind (arith, nat_tests)

min_bit : (x y : ℕ) → x < 2 → y < 2 → eqb (min x y) 1 ≡ (eqb x 1 && eqb y 1)
min_bit x y p q = grind (arith, nat_tests)

pub or_bit : (a b i : ℕ) → bit_at (bit_or a b) i ≡ (bit_at a i || bit_at b i)
or_bit a b i = ap (λ x. eqb x 1) (bit_at_or a b i) ∙ max_bit (bit a i) (bit b i) (bit_at-lt a i) (bit_at-lt b i)

pub and_bit : (a b i : ℕ) → bit_at (bit_and a b) i ≡ (bit_at a i && bit_at b i)
and_bit a b i = ap (λ x. eqb x 1) (bit_at_and a b i) ∙ min_bit (bit a i) (bit b i) (bit_at-lt a i) (bit_at-lt b i)

-- what `bits >> i & 1 == 1` tests
pub shifted_bit : (b i : ℕ) → eqb (bit_and (b / 2 ^ i) 1) 1 ≡ bit_at b i
shifted_bit b i = ap (λ x. eqb x 1) (shr_and_one b i)

-- a power of two has one bit
pub power_bit : (s i : ℕ) → bit_at (2 ^ s) i ≡ eqb i s
power_bit s i = elim (cases_eq i s) [
  | inl e ↦ ap (bit_at (2 ^ s)) e ∙ ap (λ x. eqb x 1) (bit_at-pow_same s) ∙ sym (eq-eqb i s e)
  | inr ne ↦ ap (λ x. eqb x 1) (bit_at-pow_other s i ne) ∙ sym (ne_eqb i s ne)
]

-- below 2 ^ n all bits below n are set in the last number, and none above
pub low_bit : (n i : ℕ) → bit_at (2 ^ n - 1) i ≡ ltb i n
low_bit n i = elim (cases_lt i n) [
  | inl l ↦ ap (λ x. eqb x 1) (bit_at_ones n i l) ∙ sym (lt-ltb i n l)
  | inr g ↦ ap (λ x. eqb x 1) (bit_at_ones_above n i g) ∙ sym (le-ltb i n g)
]

-- the complement in w bits; the library's lemma on it takes a width of the machine
flipped : (w x i : ℕ) → x < 2 ^ w → i < w → bit (2 ^ w - 1 - x) i ≡ 1 - bit x i
flipped zero x i h l = absurd (omega arith)
flipped (suc w) x zero h l = omega (arith, pow-suc 2 w, bit_at_lowest (2 ^ suc w - 1 - x), bit_at_lowest x)
flipped (suc w) x (suc i) h l =
    let e : (2 ^ suc w - 1 - x) / 2 ≡ 2 ^ w - 1 - x / 2 = omega (arith, pow-suc 2 w) in
    bit_at-suc (2 ^ suc w - 1 - x) i ∙ ap (λ y. bit y i) e
    ∙ flipped w (x / 2) i (omega (arith, pow-suc 2 w)) (omega arith) ∙ ap (λ b. 1 - b) (sym (bit_at-suc x i))

less_bit : (x : ℕ) → x < 2 → eqb (1 - x) 1 ≡ not (eqb x 1)
less_bit x h = grind (arith, nat_tests)

pub flip_bit : (w x i : ℕ) → x < 2 ^ w → i < w → bit_at (2 ^ w - 1 - x) i ≡ not (bit_at x i)
flip_bit w x i h l = ap (λ y. eqb y 1) (flipped w x i h l) ∙ less_bit (bit x i) (bit_at-lt x i)

-- the highest of suc w bits, and those below it
top_bit : (b w : ℕ) → b % 2 ^ suc w ≡ (b / 2 ^ w % 2) * 2 ^ w + b % 2 ^ w
top_bit b w = ap (λ k. b % 2 ^ k) (sym (one-add w)) ∙ mod-pow-add b 1 w

-- a bit times a number is the number or 0
bit_times : (x p : ℕ) → x < 2 → x * p ≡ cond (eqb x 1) p 0
bit_times zero p h = omega arith
bit_times (suc zero) p h = omega arith
bit_times (suc (suc x)) p h = absurd (omega arith)

-- a number of w bits is the sum of the powers of its bits
bits_sum : (b w : ℕ) → b % 2 ^ w ≡ total w (λ i. cond (bit_at b i) (2 ^ i) 0)
bits_sum b zero = omega arith
bits_sum b (suc w) =
    let rest = bits_sum b w in
    let top = top_bit b w in
    let here = bit_times (b / 2 ^ w % 2) (2 ^ w) (omega arith) in
    omega arith

pub bits_value : (w b : ℕ) → b < 2 ^ w → b ≡ total w (λ i. cond (bit_at b i) (2 ^ i) 0)
bits_value w b h = sym (mod-eq_of_lt h) ∙ bits_sum b w

-- the count of one bit, and of those below a width
bit_ones : (x : ℕ) → x < 2 → ones x ≡ cond (eqb x 1) 1 0
unfolding ones
bit_ones zero h = refl
bit_ones (suc zero) h = refl
bit_ones (suc (suc x)) h = absurd (omega arith)

ones_counted : (b w : ℕ) → ones (b % 2 ^ w) ≡ count w (bit_at b)
unfolding ones
ones_counted b zero = let e : b % 1 ≡ 0 = omega arith in ap ones e
ones_counted b (suc w) =
    let rest = ones_counted b w in
    let here = bit_ones (b / 2 ^ w % 2) (omega arith) in
    let parts = ap ones (top_bit b w) ∙ ones_cat w (b / 2 ^ w % 2) (b % 2 ^ w) (mod-lt b (pow_pos w)) in
    omega arith

pub bits_count : (w b : ℕ) → b < 2 ^ w → ones b ≡ count w (bit_at b)
bits_count w b h = ap ones (sym (mod-eq_of_lt h)) ∙ ones_counted b w

-- the bits of a are all in b exactly where nothing of a is lost
lost : (x y : Bool) → implies x y ≡ false → (x && y) ≡ x → ⊥
lost x y e k = grind arith

least_first : (x y : ℕ) → x < 2 → y < 2 → implies (eqb x 1) (eqb y 1) ≡ true → min x y ≡ x
least_first x y p q e = grind (arith, nat_tests)

pub bits_subset : (w a b : ℕ) → a < 2 ^ w → b < 2 ^ w → eqb (bit_and a b) a ≡ every w (λ i. implies (bit_at a i) (bit_at b i))
bits_subset w a b p q = elim (every_tells w (λ i. implies (bit_at a i) (bit_at b i))) [
  | inl f ↦ ne_eqb (bit_and a b) a (λ e. lost (bit_at a f.1) (bit_at b f.1) f.3 (sym (and_bit a b f.1) ∙ ap (λ x. bit_at x f.1) e)) ∙ sym f.0
  | inr t ↦ eq-eqb (bit_and a b) a (same_from_bits_below w (bit_and a b) a (and_lt w a b p q) p (λ i l.
      bit_at_and a b i ∙ least_first (bit a i) (bit b i) (bit_at-lt a i) (bit_at-lt b i) (t.1 i l))) ∙ sym t.0
]
