-- What the operations on bits do to the sites that the bits stand for.
use Rattle.std.proofs.Common.{rules, ◌≡◌, ℕ, ◌+◌, ◌-◌, ◌*◌, ◌/◌, ◌%◌, ◌^◌, ◌<◌, ◌≤◌, Bool, true, false, cond, not, ◌&&◌, ◌||◌, T, eqb, ltb, sym, refl, ap, ◌∙◌, ap₂, arith, ltb→lt}
use mathlib.Core.Path.{fun_ext}
use lib.Bits.{bit_and, bit_or}
use lib.Count.{ones}
use Rattle.std.proofs.lemmas.Nat.{pow_below, one_shl}
use Rattle.std.proofs.lemmas.Bool.{lt-ltb, le-ltb}
use Rattle.std.proofs.lemmas.Bool.Decides.{nat_tests}
use Rattle.sites.specs.Bounded.{implies, put}
use Rattle.sites.specs.Sites.{Sites, SameBelow, max_sites, within, SetsAreTold, bit_at, sites_in, bits_of, size, subset}
use Rattle.sites.proofs.Bits.{shifted_bit, or_bit, and_bit, power_bit, low_bit, flip_bit, bits_value, bits_count, bits_subset}
use Rattle.sites.proofs.Bounded.{fold_cong}

-- what stands behind a test matters only where it holds
and_under : (b x y : Bool) → (T b → x ≡ y) → (b && x) ≡ (b && y)
and_under true x y h = h tt
and_under false x y h = refl

-- sets are the same within the limit where they have the same members below it
within_same : (s t : Sites) → SameBelow max_sites s t → within s ≡ within t
within_same s t h = fun_ext (λ i. and_under (ltb i max_sites) (s i) (t i) (λ u. h i (ltb→lt i max_sites u)))

-- below the limit a set is whole
within_at : (s : Sites) (i : ℕ) → i < max_sites → within s i ≡ s i
within_at s i l = ap (λ b. b && s i) (lt-ltb i max_sites l)

-- the bits below n
pub sites_below : (n : ℕ) → sites_in (2 ^ n - 1) ≡ within (λ i. ltb i n)
unfolding sites_in
sites_below n = within_same (bit_at (2 ^ n - 1)) (λ i. ltb i n) (λ i _. low_bit n i)

-- as the check has them: of `1 << n` less 1, and where n is too large for that, all
pub shl_below : (n : ℕ) → n < max_sites → sites_in (1 * 2 ^ n % 2 ^ max_sites - 1) ≡ within (λ i. ltb i n)
shl_below n l = ap (λ x. sites_in (x - 1)) (one_shl n max_sites l) ∙ sites_below n

-- an equation names the bits, since `grind` meets them as a numeral and not as a power of 2 less 1
pub sites_all : (b n : ℕ) → b ≡ 2 ^ max_sites - 1 → max_sites ≤ n → sites_in b ≡ within (λ i. ltb i n)
sites_all b n e h =
    ap sites_in e ∙
    (sites_below max_sites ∙ within_same (λ i. ltb i max_sites) (λ i. ltb i n) (λ i l. lt-ltb i max_sites l ∙ sym (lt-ltb i n (omega arith))))

-- one bit
pub site_bit : (b i : ℕ) → i < max_sites → eqb (bit_and (b / 2 ^ i) 1) 1 ≡ sites_in b i
unfolding sites_in
site_bit b i l = shifted_bit b i ∙ sym (within_at (bit_at b) i l)

-- no bit past the limit
pub site_past : (b i : ℕ) → max_sites ≤ i → sites_in b i ≡ false
unfolding sites_in
site_past b i h = ap (λ x. x && bit_at b i) (le-ltb i max_sites h)

-- a site is put in
or_put : (x y a : Bool) → (x && (a || y)) ≡ (x && cond y true (x && a))
or_put x y a = grind arith

pub sites_with : (b s : ℕ) → sites_in (bit_or b (2 ^ s)) ≡ within (put s true (sites_in b))
unfolding sites_in
sites_with b s = fun_ext (λ i.
    ap (λ x. ltb i max_sites && x) (or_bit b (2 ^ s) i ∙ ap (λ x. bit_at b i || x) (power_bit s i)) ∙ or_put (ltb i max_sites) (eqb i s) (bit_at b i))

pub shl_with : (b s : ℕ) → s < max_sites → sites_in (bit_or b (1 * 2 ^ s % 2 ^ max_sites)) ≡ within (put s true (sites_in b))
shl_with b s l = ap (λ x. sites_in (bit_or b x)) (one_shl s max_sites l) ∙ sites_with b s

-- a site is taken out
and_put : (x y a : Bool) → (x && (a && not y)) ≡ cond y false (x && a)
and_put x y a = grind arith

pub sites_without : (b s : ℕ) → s < max_sites → sites_in (bit_and b (2 ^ max_sites - 1 - 2 ^ s)) ≡ put s false (sites_in b)
unfolding sites_in
sites_without b s l = fun_ext (λ i.
    and_under (ltb i max_sites) (bit_at (bit_and b (2 ^ max_sites - 1 - 2 ^ s)) i) (bit_at b i && not (eqb i s)) (λ u.
    and_bit b (2 ^ max_sites - 1 - 2 ^ s) i ∙
    ap (λ x. bit_at b i && x) (flip_bit max_sites (2 ^ s) i (pow_below s max_sites l) (ltb→lt i max_sites u) ∙ ap not (power_bit s i)))
    ∙ and_put (ltb i max_sites) (eqb i s) (bit_at b i))

pub shl_without : (b s : ℕ) → s < max_sites
    → sites_in (bit_and b (2 ^ max_sites - 1 - 1 * 2 ^ s % 2 ^ max_sites)) ≡ put s false (sites_in b)
shl_without b s l = ap (λ x. sites_in (bit_and b (2 ^ max_sites - 1 - x))) (one_shl s max_sites l) ∙ sites_without b s l

-- two sets are joined
and_or : (x a b : Bool) → (x && (a || b)) ≡ ((x && a) || (x && b))
and_or x a b = grind arith

pub sites_either : (a b : ℕ) → sites_in (bit_or a b) ≡ (λ i. sites_in a i || sites_in b i)
unfolding sites_in
sites_either a b = fun_ext (λ i. ap (λ x. ltb i max_sites && x) (or_bit a b i) ∙ and_or (ltb i max_sites) (bit_at a i) (bit_at b i))

-- a site that is too large is neither put in nor taken out
put_past : (n s i : ℕ) (b : Bool) → n ≤ s → (ltb i n && b) ≡ (ltb i n && cond (eqb i s) true (ltb i n && b))
put_past n s i b h = grind (arith, nat_tests)

take_past : (n s i : ℕ) (b : Bool) → n ≤ s → (ltb i n && b) ≡ cond (eqb i s) false (ltb i n && b)
take_past n s i b h = grind (arith, nat_tests)

pub with_past : (b s : ℕ) → max_sites ≤ s → sites_in b ≡ within (put s true (sites_in b))
unfolding sites_in
with_past b s h = fun_ext (λ i. put_past max_sites s i (bit_at b i) h)

pub without_past : (b s : ℕ) → max_sites ≤ s → sites_in b ≡ put s false (sites_in b)
unfolding sites_in
without_past b s h = fun_ext (λ i. take_past max_sites s i (bit_at b i) h)

-- the number, the size and the subsets of a set, by its bits
module _ (b : ℕ) (h : b < 2 ^ max_sites) where
  pub sites_value : b ≡ bits_of (sites_in b)
  unfolding sites_in bits_of
  sites_value =
      bits_value max_sites b h ∙ fold_cong ◌+◌ 0 max_sites _ _ (λ i l. ap (λ x. cond x (2 ^ i) 0) (sym (within_at (bit_at b) i l)))

  pub sites_size : ones b ≡ size (sites_in b)
  unfolding sites_in size
  sites_size = bits_count max_sites b h ∙ fold_cong (λ k x. k + cond x 1 0) 0 max_sites _ _ (λ i l. sym (within_at (bit_at b) i l))

  pub sites_subset : (c : ℕ) → c < 2 ^ max_sites → eqb (bit_and b c) b ≡ subset (sites_in b) (sites_in c)
  unfolding sites_in subset
  sites_subset c k =
      bits_subset max_sites b c h k ∙
      fold_cong ◌&&◌ true max_sites _ _ (λ i l. ap₂ implies (sym (within_at (bit_at b) i l)) (sym (within_at (bit_at c) i l)))

-- so a set is told by its members
pub sets_told : SetsAreTold
sets_told a b h l e = let n : a.0 ≡ b.0 = sites_value a.0 h ∙ (ap bits_of e ∙ sym (sites_value b.0 l)) in search (rules, n)

-- what the methods of `SiteSet` leave to be shown
pub ruleset site_bits =
    (shl_below, sites_all, site_bit, site_past, shl_with, with_past, shl_without, without_past, sites_either, sites_value, sites_size, sites_subset)
