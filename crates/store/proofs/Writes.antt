-- What bytes hold after others were laid over them.
use Rattle.std.proofs.Common.{◌≡◌, ℕ, zero, suc, ◌+◌, ◌-◌, ◌*◌, ◌/◌, ◌%◌, ◌^◌, ◌<◌, ◌≤◌, ◌≢◌, ◌⊎◌, min, List, [], ◌∷◌, ◌++◌, length, get_or, take, drop, set, sym, refl, ap, ◌∙◌, inl, inr, ⊎_elim, append_assoc, arith, get_or-set_other, drop-drop, take_at, drop_at}
use lib.Seq.{sets, sets-eq, length-sets}
use borrow.Rule.Slice.PartMut.{put_mid}
use Rattle.std.specs.List.{between}
use Rattle.std.proofs.lemmas.List.Edits.{length-between, get_or-between}
use Rattle.std.proofs.lemmas.Bool.{cases_lt}
use Rattle.std.proofs.lemmas.List.{ext_get_or, length-set, length-take, length-drop, set-append_left, set-append_right, set_past, take-append-drop, take_all}
use Rattle.store.specs.Bytes.{number, number_at}
use Rattle.store.specs.Copies.{copy_from}
use Rattle.store.specs.Stores.{kept}

-- a write to a part, as the checker has it, is byte after byte
pub put_is_sets : (m : List ℕ) (at : ℕ) (bs : List ℕ) → at + length bs ≤ length m → put_mid at (at + length bs - at) m bs ≡ sets m at bs
put_is_sets m at bs h =
    let k : at + length bs - at ≡ length bs = omega arith in
    ap (λ n. take at m ++ (bs ++ drop n (drop at m))) k ∙
    (ap (λ t. take at m ++ (bs ++ t)) (drop-drop (length bs) at m) ∙
    (sym (append_assoc (take at m) bs (drop (at + length bs) m)) ∙ sym (sets-eq bs m at h)))

-- bytes that lie past the end are left out
pub sets_past : (bs m : List ℕ) (at : ℕ) → length m ≤ at → sets m at bs ≡ m
sets_past [] m at h = refl
sets_past (b ∷ bs) m at h = sets_past bs (set m at b) (suc at) (omega (arith, length-set m at b)) ∙ set_past m at b h

-- the first n bytes alone are laid where the others lie past the end or are none
sets_fitting : (n : ℕ) (bs m : List ℕ) (at : ℕ) → (length m ≤ at + n) ⊎ (length bs ≤ n) → sets m at (take n bs) ≡ sets m at bs
sets_fitting n [] m at o = ap (sets m at) (take_all n [] (omega arith))
sets_fitting zero (b ∷ bs) m at o = sym (sets_past (b ∷ bs) m at (⊎_elim (λ h. omega arith) (λ h. omega arith) o))
sets_fitting (suc n) (b ∷ bs) m at o =
    sets_fitting n bs (set m at b) (suc at) (⊎_elim (λ h. inl (omega (arith, length-set m at b))) (λ h. inr (omega arith)) o)

-- a write of as many bytes as there is room for, as the checker has it, is byte after byte
pub put_fitting : (m bs part : List ℕ) (at n : ℕ) → at < length m → n ≡ min (length bs) (length m - at) → part ≡ take n bs →
    put_mid at (at + n - at) m part ≡ sets m at bs
put_fitting m bs part at n l e p =
    let k : length (take n bs) ≡ n = simp length-take (omega (arith, e)) in
    rw p (ap (λ k. put_mid at (at + k - at) m (take n bs)) (sym k) ∙
    (put_is_sets m at (take n bs) (omega (arith, k, e)) ∙
    sets_fitting n bs m at (⊎_elim (λ h. inl (omega (arith, e))) (λ h. inr h) (cases_lt n (length bs)))))

-- bytes that are laid in a part lie in the whole
set_part : (m xs : List ℕ) (a n k b : ℕ) → a ≤ length m → k < length xs → put_mid a n m (set xs k b) ≡ set (put_mid a n m xs) (a + k) b
set_part m xs a n k b h l =
    let rest : List ℕ = drop n (drop a m) in
    let e : a + k - a ≡ k = omega arith in
    let w : length (take a m) ≡ a = simp length-take (omega arith) in
    sym (set-append_right (take a m) (xs ++ rest) a (a + k) b w (omega arith) ∙
    (ap (λ i. take a m ++ set (xs ++ rest) i b) e ∙ ap (λ t. take a m ++ t) (set-append_left xs rest k b l)))

pub sets_part : (bs m xs : List ℕ) (a n k : ℕ) → a ≤ length m → k + length bs ≤ length xs →
    put_mid a n m (sets xs k bs) ≡ sets (put_mid a n m xs) (a + k) bs
sets_part [] m xs a n k h l = refl
sets_part (b ∷ bs) m xs a n k h l =
    let e : a + suc k ≡ suc (a + k) = omega arith in
    sets_part bs m (set xs k b) a n (suc k) h (omega (arith, length-set xs k b)) ∙
    (ap (λ i. sets (put_mid a n m (set xs k b)) i bs) e ∙ ap (λ t. sets t (suc (a + k)) bs) (set_part m xs a n k b h (omega arith)))

-- a part that stays leaves the whole as it is
part_whole : (m : List ℕ) (a n : ℕ) → put_mid a n m (take n (drop a m)) ≡ m
part_whole m a n = ap (λ t. take a m ++ t) (take-append-drop n (drop a m)) ∙ take-append-drop a m

-- so bytes that are laid at the start of a part lie where it begins
pub sets_first : (m : List ℕ) (at n : ℕ) (bs : List ℕ) → at + n ≤ length m → length bs ≤ n → put_mid at n m (sets (take n (drop at m)) 0 bs) ≡ sets m at bs
sets_first m at n bs h l =
    let old : List ℕ = take n (drop at m) in
    let w : length old ≡ n = simp (length-take, length-drop) (omega arith) in
    let i : at + 0 ≡ at = omega arith in
    sets_part bs m old at n 0 (omega arith) (omega arith) ∙
    (ap (λ k. sets (put_mid at n m old) k bs) i ∙ ap (λ t. sets t at bs) (part_whole m at n))

-- a copy that is laid over a part of its size lies in the whole
pub put_copy : (m part : List ℕ) (at n v : ℕ) (bytes : List ℕ) → at + n ≤ length m → n ≡ 130 → length bytes ≡ 128 →
    part ≡ sets (sets (take n (drop at m)) 0 (number v)) 2 bytes → put_mid at n m part ≡ sets (sets m at (number v)) (at + 2) bytes
put_copy m part at n v bytes h e l p =
    let old : List ℕ = take n (drop at m) in
    let begun : List ℕ = sets old 0 (number v) in
    let w : length old ≡ n = simp (length-take, length-drop) (omega arith) in
    let z : length begun ≡ n = length-sets old 0 (number v) ∙ w in
    ap (put_mid at n m) p ∙
    (sets_part bytes m begun at n 2 (omega arith) (omega arith) ∙
    ap (λ t. sets t (at + 2) bytes) (sets_first m at n (number v) h (omega arith)))

-- the largest place stands for any that is larger
pub sets_saturated : (bs m : List ℕ) (at place : ℕ) → length m < 2 ^ 64 → place ≡ min at (2 ^ 64 - 1) → sets m place bs ≡ sets m at bs
sets_saturated bs m at place h e =
    ⊎_elim
    (λ l. ap (λ k. sets m k bs) (omega arith))
    (λ l. sets_past bs m place (omega arith) ∙ sym (sets_past bs m at (omega arith)))
    (cases_lt at (2 ^ 64))

-- the n bytes from a on of one memory are those from b on of another
pub record Alike (n a b : ℕ) (m m' : List ℕ) : Type 0 where
  pub within : a + n ≤ length m
  pub within' : b + n ≤ length m'
  pub byte : (k : ℕ) → k < n → get_or m (a + k) 0 ≡ get_or m' (b + k) 0

pub alike_then : {n a b d : ℕ} {m m' m'' : List ℕ} → Alike n a b m m' → Alike n b d m' m'' → Alike n a d m m''
alike_then p q = record { within = p.within; within' = q.within'; byte = λ k h. p.byte k h ∙ q.byte k h }

module _ {n a b : ℕ} {m m' : List ℕ} (s : Alike n a b m m') where
  pub alike_between : (i j : ℕ) → j ≤ n → between (a + i) (a + j) m ≡ between (b + i) (b + j) m'
  alike_between i j h =
      let w = s.within in
      let w' = s.within' in
      let e = length-between m (a + i) (a + j) (omega arith) in
      let e' = length-between m' (b + i) (b + j) (omega arith) in
      ext_get_or 0 _ _ (e ∙ (omega arith ∙ sym e'))
      (λ k l.
      get_or-between m (a + i) (a + j) k 0 (omega arith) ∙
      (ap (λ x. get_or m x 0) (omega arith) ∙
      (s.byte (i + k) (omega arith) ∙
      (ap (λ x. get_or m' x 0) (omega arith) ∙ sym (get_or-between m' (b + i) (b + j) k 0 (omega arith))))))

  pub alike_number : (i : ℕ) → i + 2 ≤ n → number_at m (a + i) ≡ number_at m' (b + i)
  alike_number i h =
      let x = s.byte i (omega arith) in
      let y : get_or m (a + i + 1) 0 ≡ get_or m' (b + i + 1) 0 =
      ap (λ k. get_or m k 0) (omega arith) ∙ (s.byte (i + 1) (omega arith) ∙ ap (λ k. get_or m' k 0) (omega arith)) in
      ap (λ k. (k * 256 + get_or m (a + i + 1) 0) % 2 ^ 16) x ∙ ap (λ k. (get_or m' (b + i) 0 * 256 + k) % 2 ^ 16) y

  -- at the start itself
  pub alike_first : 2 ≤ n → number_at m a ≡ number_at m' b
  alike_first h = ap (number_at m) (omega arith) ∙ (alike_number 0 h ∙ ap (number_at m') (omega arith))

-- a part is alike the place that it was taken from
part_like : (m : List ℕ) (at n : ℕ) → at + n ≤ length m → Alike n 0 at (between at (at + n) m) m
part_like m at n h =
    let w : length (between at (at + n) m) ≡ n = length-between m at (at + n) h ∙ omega arith in
    record {
      within = omega arith;
      within' = h;
      byte = λ k l. ap (λ i. get_or (between at (at + n) m) i 0) (omega arith) ∙ get_or-between m at (at + n) k 0 (omega arith);
    }

-- so a number and a copy that are taken from a part of their size are those in the whole
pub number_of_part : (m : List ℕ) (at : ℕ) → at + 2 ≤ length m → number_at (between at (at + 2) m) 0 ≡ number_at m at
number_of_part m at h = alike_first (part_like m at 2 h) (omega arith)

pub copy_of_part : (m : List ℕ) (at : ℕ) → at + 130 ≤ length m → copy_from (between at (at + 130) m) 0 ≡ copy_from m at
copy_of_part m at h =
    let s : Alike 130 0 at (between at (at + 130) m) m = part_like m at 130 h in
    ap (λ v. kept v (between 2 130 (between at (at + 130) m))) (alike_first s (omega arith)) ∙
    ap (kept (number_at m at)) (alike_between s 2 130 (omega arith))

-- the same where the part is taken apart
pub copy_part : (m part : List ℕ) (at : ℕ) → at + 130 ≤ length m → part ≡ between at (at + 130) m → kept (number_at part 0) (drop 2 part) ≡ copy_from m at
copy_part m part at h e =
    let old : List ℕ = between at (at + 130) m in
    let w : length old ≡ 130 = length-between m at (at + 130) h ∙ omega arith in
    let b : drop 2 old ≡ between 2 130 old = sym (take_all 128 (drop 2 old) (simp length-drop (omega arith))) in
    ap (λ t. kept (number_at t 0) (drop 2 t)) e ∙ (ap (kept (number_at old 0)) b ∙ copy_of_part m at h)

-- n places from a on lie apart from k places from `at` on
abbrev pub Apart : ℕ → ℕ → ℕ → ℕ → Type 0
Apart n a k at = (a + n ≤ at) ⊎ (at + k ≤ a)

get_or-sets_apart : (bs m : List ℕ) (at k : ℕ) → (k < at) ⊎ (at + length bs ≤ k) → get_or (sets m at bs) k 0 ≡ get_or m k 0
get_or-sets_apart [] m at k o = refl
get_or-sets_apart (b ∷ bs) m at k o =
    let ne : k ≢ at = ⊎_elim (λ l. omega arith) (λ l. omega arith) o in
    let o' : (k < suc at) ⊎ (suc at + length bs ≤ k) = ⊎_elim (λ l. inl (omega arith)) (λ l. inr (omega arith)) o in
    get_or-sets_apart bs (set m at b) (suc at) k o' ∙ get_or-set_other m at k b 0 ne

-- what lies apart stays
pub sets_apart : {n a : ℕ} (m : List ℕ) (at : ℕ) (bs : List ℕ) → a + n ≤ length m → Apart n a (length bs) at → Alike n a a (sets m at bs) m
sets_apart {n} {a} m at bs h o =
    record {
      within = omega (arith, length-sets m at bs);
      within' = h;
      byte = λ k l. get_or-sets_apart bs m at (a + k) (⊎_elim (λ p. inl (omega arith)) (λ p. inr (omega arith)) o);
    }

-- what was laid is there
pub between-sets : (m : List ℕ) (at : ℕ) (bs : List ℕ) → at + length bs ≤ length m → between at (at + length bs) (sets m at bs) ≡ bs
between-sets m at bs h =
    let k : at + length bs - at ≡ length bs = omega arith in
    let l : length (take at m) ≡ at = simp length-take (omega arith) in
    ap (λ n. take n (drop at (sets m at bs))) k ∙
    (ap (λ t. take (length bs) (drop at t)) (sets-eq bs m at h ∙ append_assoc (take at m) bs (drop (at + length bs) m)) ∙
    (ap (take (length bs)) (drop_at (take at m) (bs ++ drop (at + length bs) m) at l) ∙ take_at bs (drop (at + length bs) m) (length bs) refl))

pub number-sets : (m : List ℕ) (at v : ℕ) → at + 2 ≤ length m → v < 2 ^ 16 → number_at (sets m at (number v)) at ≡ v
number-sets m at v h f =
    let s : between at (at + 2) (sets m at (number v)) ≡ number v = between-sets m at (number v) h in
    let x : get_or (sets m at (number v)) (at + 0) 0 ≡ v / 256 % 256 = sym (get_or-between (sets m at (number v)) at (at + 2) 0 0 (omega arith)) ∙ ap (λ t. get_or t 0 0) s in
    let y : get_or (sets m at (number v)) (at + 1) 0 ≡ v % 256 = sym (get_or-between (sets m at (number v)) at (at + 2) 1 0 (omega arith)) ∙ ap (λ t. get_or t 1 0) s in
    let x' : get_or (sets m at (number v)) at 0 ≡ v / 256 % 256 = ap (λ k. get_or (sets m at (number v)) k 0) (omega arith) ∙ x in
    omega (arith, x', y)

-- a part that was laid over another is there too
pub sets_alike : {n : ℕ} (m : List ℕ) (a at : ℕ) → a + n ≤ length m → at + n ≤ length m → Alike n at a (sets m at (between a (a + n) m)) m
sets_alike {n} m a at h l =
    let bs : List ℕ = between a (a + n) m in
    let e : length bs ≡ n = length-between m a (a + n) h ∙ omega arith in
    let z = length-sets m at bs in
    let s : between at (at + length bs) (sets m at bs) ≡ bs = between-sets m at bs (omega arith) in
    record {
      within = omega arith;
      within' = h;
      byte = λ k o.
          sym (get_or-between (sets m at bs) at (at + length bs) k 0 (omega arith)) ∙ (ap (λ t. get_or t k 0) s ∙ get_or-between m a (a + n) k 0 (omega arith));
    }
