-- Compaction keeps each block's copy.
use Rattle.std.proofs.Common.{◌≡◌, ℕ, zero, suc, ◌+◌, ◌*◌, ◌<◌, ◌≤◌, Bool, true, false, cond, eqb, ltb, List, length, Some, None, Option, sym, refl, ap, ◌∙◌, subst, ⊎_elim, add-one, arith}
use Rattle.std.proofs.lemmas.Bool.{cond-true, cond-false, cond_both, cases_eq, cases_lt, eq-eqb, ne_eqb, eqb-true, lt-ltb, le-ltb}
use Rattle.store.specs.Stores.{Copy, unwritten}
use Rattle.log_store.specs.declared.half.Half.{Half}
use Rattle.log_store.specs.declared.half.Half.TheVariants.{First, Second}
use Rattle.log_store.specs.Records.{index_at, copy_at, copy_found, newest, with_copied, Carried, carry}
use Rattle.log_store.specs.Logs.{room_in, first_in, other, carried_in}
use Rattle.log_store.specs.Meaning.{half_fits}
use Rattle.log_store.proofs.Laid.{Same, length-with_copied, copied_same, copied_other}

-- the copy that the newest of the n records from a place on gives to a block
abbrev pub copy_in : List ℕ → ℕ → ℕ → ℕ → Copy
copy_in m from n i = copy_found m (newest m from n i)

found_by : (b : Bool) (m : List ℕ) (r : ℕ) (o : Option ℕ) → copy_found m (cond b (Some r) o) ≡ cond b (copy_at m r) (copy_found m o)
found_by true m r o = refl
found_by false m r o = refl

-- one record more
pub copy_in-suc : (m : List ℕ) (from n i : ℕ) → copy_in m from (suc n) i ≡ cond (eqb (index_at m (from + n)) i) (copy_at m (from + n)) (copy_in m from n i)
copy_in-suc m from n i = found_by (eqb (index_at m (from + n)) i) m (from + n) (newest m from n i)

-- the same records give the same copy
pub copy_in_same : (m m' : List ℕ) (from n i : ℕ) → ((q : ℕ) → q < n → Same m m' (from + q) (from + q)) → copy_in m from n i ≡ copy_in m' from n i
copy_in_same m m' from zero i f = refl
copy_in_same m m' from (suc n) i f =
    let s = f n (omega arith) in
    copy_in-suc m from n i ∙
    (ap (λ x. cond (eqb x i) (copy_at m (from + n)) (copy_in m from n i)) s.index ∙
    (ap (λ x. cond (eqb (index_at m' (from + n)) i) x (copy_in m from n i)) s.copy ∙
    (ap (cond (eqb (index_at m' (from + n)) i) (copy_at m' (from + n))) (copy_in_same m m' from n i (λ q h. f q (omega arith))) ∙
    sym (copy_in-suc m' from n i))))

-- a record that the search finds is one of those that it searched, and has the index
pub record Finds (m : List ℕ) (from n i r : ℕ) : Type 0 where
  pub above : from ≤ r
  pub below : r < from + n
  pub index : index_at m r ≡ i

abbrev Found : List ℕ → ℕ → ℕ → ℕ → Option ℕ → Type 0
Found m from n i None = Unit {0}
Found m from n i (Some r) = Finds m from n i r

more_found : (m : List ℕ) (from n i : ℕ) (o : Option ℕ) → Found m from n i o → Found m from (suc n) i o
more_found m from n i None f = tt
more_found m from n i (Some r) f = record { above = f.above; below = omega (arith, f.below); index = f.index }

pub found : (m : List ℕ) (from n i : ℕ) → Found m from n i (newest m from n i)
found m from zero i = tt
found m from (suc n) i =
    cond_both (eqb (index_at m (from + n)) i) (Some (from + n)) (newest m from n i) (Found m from (suc n) i)
    (λ e. record { above = omega arith; below = omega arith; index = eqb-true (index_at m (from + n)) i e })
    (λ e. more_found m from n i (newest m from n i) (found m from n i))

-- a record of one half is none of the other
halves_apart : (h : Half) (m : List ℕ) (q r : ℕ) → q < room_in (length m) → r < room_in (length m) → first_in m h + q ≡ first_in m (other h) + r → ⊥
halves_apart First m q r k l e = omega arith
halves_apart Second m q r k l e = omega arith

-- a record of either half lies in the memory
pub in_half : (h : Half) (m : List ℕ) (q : ℕ) → q < room_in (length m) → (first_in m h + q) * 132 + 132 ≤ length m
in_half h m q l = omega (arith, half_fits h m (suc q) (omega arith))

pub first_like : (h : Half) (m m' : List ℕ) → length m ≡ length m' → first_in m h ≡ first_in m' h
first_like First m m' e = refl
first_like Second m m' e = ap room_in e

below_next : (i k : ℕ) → (i ≡ k → ⊥) → ltb i k ≡ ltb i (suc k)
below_next i k ne =
    ⊎_elim
    (λ l. lt-ltb i k l ∙ sym (lt-ltb i (suc k) (omega arith)))
    (λ l. le-ltb i k l ∙ sym (le-ltb i (suc k) (omega arith)))
    (cases_lt i k)

-- carrying keeps the size of the memory, and carries at most one record for each block
size-carry : (to : ℕ) (c : Carried) (o : Option ℕ) → length (carry to c o).memory ≡ length c.memory
size-carry to c None = refl
size-carry to c (Some r) = length-with_copied c.memory r (to + c.count)

few-carry : (to : ℕ) (c : Carried) (o : Option ℕ) → (carry to c o).count ≤ c.count + 1
few-carry to c None = omega arith
few-carry to c (Some r) = omega arith

pub carried_size : (m : List ℕ) (h : Half) (n k : ℕ) → length (carried_in m h n k).memory ≡ length m
carried_size m h n zero = refl
carried_size m h n (suc k) =
    let c : Carried = carried_in m h n k in
    size-carry (first_in c.memory (other h)) c (newest c.memory (first_in c.memory h) n k) ∙ carried_size m h n k

pub carried_few : (m : List ℕ) (h : Half) (n k : ℕ) → (carried_in m h n k).count ≤ k
carried_few m h n zero = omega arith
carried_few m h n (suc k) =
    let c : Carried = carried_in m h n k in
    omega (arith, few-carry (first_in c.memory (other h)) c (newest c.memory (first_in c.memory h) n k), carried_few m h n k)

module _ (m : List ℕ) (h : Half) (n : ℕ) (u : n ≤ room_in (length m)) where
  abbrev from : ℕ
  from = first_in m h

  abbrev to : ℕ
  to = first_in m (other h)

  -- after the blocks below k: the records of the half in use are as they were, and those carried give each block below k its copy
  pub record Carries (k : ℕ) (c : Carried) : Type 0 where
    pub size : length c.memory ≡ length m
    pub few : c.count ≤ k
    pub old : (q : ℕ) → q < n → Same c.memory m (from + q) (from + q)
    pub new : (i : ℕ) → copy_in c.memory to c.count i ≡ cond (ltb i k) (copy_in m from n i) unwritten

  -- the copy of the next block is still found where it was
  still : (k : ℕ) (c : Carried) → Carries k c → (i : ℕ) → copy_in c.memory from n i ≡ copy_in m from n i
  still k c s i = copy_in_same c.memory m from n i s.old

  -- one block more, by what the search found
  carries_one : (k : ℕ) (c : Carried) → k < room_in (length m) → Carries k c → (o : Option ℕ) → Found c.memory from n k o → copy_found c.memory o ≡ copy_in m from n k → Carries (suc k) (carry to c o)
  carries_one k c l s None f e = record {
    size = s.size;
    few = omega (arith, s.few);
    old = s.old;
    new = λ i.
        ⊎_elim
        (λ q. rw q (s.new k ∙ (cond-false (ltb k k) (copy_in m from n k) unwritten (le-ltb k k (omega arith)) ∙ (e ∙ sym (cond-true (ltb k (suc k)) (copy_in m from n k) unwritten (lt-ltb k (suc k) (omega arith)))))))
        (λ ne. s.new i ∙ ap (λ b. cond b (copy_in m from n i) unwritten) (below_next i k ne))
        (cases_eq i k);
  }
  carries_one k c l s (Some r) f e =
      let z = s.size in
      let w = s.few in
      let roomy : room_in (length c.memory) ≡ room_in (length m) = ap room_in z in
      let at : ℕ = to + c.count in
      let m' : List ℕ = with_copied c.memory r at in
      let a : at * 132 + 132 ≤ length c.memory = omega (arith, in_half (other h) m c.count (omega arith)) in
      let b : r * 132 + 132 ≤ length c.memory = omega (arith, half_fits h m n u, f.below) in
      let same = copied_same c.memory r at b a in
      record {
        size = length-with_copied c.memory r at ∙ z;
        few = omega arith;
        old = λ q p.
            let t = copied_other c.memory r at b a (from + q) (halves_apart h m q c.count (omega arith) (omega arith)) (omega (arith, in_half h m q (omega arith))) in
            let t' = s.old q p in
            record { index = t.index ∙ t'.index; copy = t.copy ∙ t'.copy };
        new = λ i.
            let below : copy_in m' to c.count i ≡ cond (ltb i k) (copy_in m from n i) unwritten =
            copy_in_same m' c.memory to c.count i (λ q p. copied_other c.memory r at b a (to + q) (λ x. omega arith) (omega (arith, in_half (other h) m q (omega arith)))) ∙ s.new i in
            let x : index_at m' at ≡ k = same.index ∙ f.index in
            ap (λ t. copy_in m' to t i) (add-one c.count) ∙
            (copy_in-suc m' to c.count i ∙
            ⊎_elim
            (λ q.
            cond-true (eqb (index_at m' at) i) (copy_at m' at) (copy_in m' to c.count i) (eq-eqb (index_at m' at) i (x ∙ sym q)) ∙
            (same.copy ∙ (e ∙ (ap (copy_in m from n) (sym q) ∙ sym (cond-true (ltb i (suc k)) (copy_in m from n i) unwritten (lt-ltb i (suc k) (omega arith)))))))
            (λ ne.
            cond-false (eqb (index_at m' at) i) (copy_at m' at) (copy_in m' to c.count i) (ne_eqb (index_at m' at) i (λ y. ne (sym (sym x ∙ y)))) ∙
            (below ∙ ap (λ b. cond b (copy_in m from n i) unwritten) (below_next i k ne)))
            (cases_eq i k));
      }

  pub carries : (k : ℕ) → k ≤ room_in (length m) → Carries k (carried_in m h n k)
  carries zero l = record { size = refl; few = omega arith; old = λ q p. record { index = refl; copy = refl }; new = λ i. sym (cond-false (ltb i 0) (copy_in m from n i) unwritten (le-ltb i 0 (omega arith))) }
  carries (suc k) l =
      let c : Carried = carried_in m h n k in
      let s = carries k (omega arith) in
      let p : first_in c.memory (other h) ≡ to = first_like (other h) c.memory m s.size in
      let q : first_in c.memory h ≡ from = first_like h c.memory m s.size in
      let t = carries_one k c (omega arith) s (newest c.memory from n k) (found c.memory from n k) (still k c s k) in
      subst (λ x. Carries (suc k) (carry x c (newest c.memory (first_in c.memory h) n k))) (sym p)
      (subst (λ x. Carries (suc k) (carry to c (newest c.memory x n k))) (sym q) t)
