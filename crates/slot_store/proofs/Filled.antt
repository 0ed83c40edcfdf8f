-- What a slot that is filled does to the copies that bytes hold.
use Rattle.std.proofs.Common.{◌≡◌, ℕ, zero, suc, ◌+◌, ◌*◌, ◌^◌, ◌<◌, ◌≤◌, List, ◌++◌, length, get_or, drop, set, replicate, None, sym, refl, ap, ◌∙◌, inl, inr, ⊎_elim, append-nil, add-one, arith, lit<, drop-cons}
use lib.Seq.{sets, length-sets, append_snoc, set_at}
use Rattle.std.proofs.lemmas.List.{ext_get_or, length-set, get_or-set_same, get_or-set_other, length-replicate, drop_all, replicate_more}
use Rattle.std.proofs.lemmas.Bool.{cases_eq, cases_order}
use Rattle.std.proofs.lemmas.Bool.Decides.{nat_tests}
use Rattle.std.specs.List.{between}
use Rattle.store.specs.Bytes.{number, number_at}
use Rattle.store.specs.Stores.{Copy, blank, unwritten, kept, cleared}
use Rattle.store.proofs.Copies.{Sound-unwritten, kept_whole}
use Rattle.store.proofs.Writes.{Alike, Apart, alike_then, alike_between, alike_first, sets_apart, between-sets, number-sets}
use Rattle.slot_store.specs.Slots.{slot_refusal, slots_in, slot, slot_copies, with_slot, cleared_below}
use Rattle.slot_store.specs.Meaning.{length-slots, get_or-slots}

-- memory that is not refused has a slot for each block
pub slots_fit : (blocks n : ℕ) → None ≡ slot_refusal blocks n → slots_in n ≡ blocks
slots_fit blocks n e =
    let k : n ≡ blocks * 130 = grind (arith, nat_tests) in
    let l : blocks ≤ 256 = grind (arith, nat_tests) in
    omega arith

-- a slot is told by its bytes
slot_like : (i : ℕ) {m m' : List ℕ} → Alike 130 (i * 130) (i * 130) m m' → slot m i ≡ slot m' i
slot_like i {m} {m'} s =
    ap (λ v. kept v (between (i * 130 + 2) (i * 130 + 130) m)) (alike_first s (omega arith)) ∙
    ap (kept (number_at m' (i * 130))) (alike_between s 2 130 (omega arith))

length-with_slot : (m : List ℕ) (i v : ℕ) (bytes : List ℕ) → length (with_slot m i v bytes) ≡ length m
length-with_slot m i v bytes = length-sets (sets m (i * 130) (number v)) (i * 130 + 2) bytes ∙ length-sets m (i * 130) (number v)

module _ (m : List ℕ) (i v : ℕ) (bytes : List ℕ) (h : i < slots_in (length m)) (f : v < 2 ^ 16) (k : length bytes ≡ 128) where
  -- with the version alone
  abbrev begun : List ℕ
  begun = sets m (i * 130) (number v)

  -- the filled slot holds what was laid there
  slot_same : slot (with_slot m i v bytes) i ≡ kept v bytes
  slot_same =
      let z = length-sets m (i * 130) (number v) in
      let x : number_at (with_slot m i v bytes) (i * 130) ≡ v =
      alike_first (sets_apart {n = 2} {a = i * 130} begun (i * 130 + 2) bytes (omega arith) (inl (omega arith))) (omega arith) ∙
      number-sets m (i * 130) v (omega arith) f in
      let e : i * 130 + 2 + length bytes ≡ i * 130 + 130 = omega arith in
      let b : between (i * 130 + 2) (i * 130 + 130) (with_slot m i v bytes) ≡ bytes =
      ap (λ k. between (i * 130 + 2) k (with_slot m i v bytes)) (sym e) ∙ between-sets begun (i * 130 + 2) bytes (omega arith) in
      ap (λ x. kept x (between (i * 130 + 2) (i * 130 + 130) (with_slot m i v bytes))) x ∙ ap (kept v) b

  -- the others hold what they held
  slot_other : (j : ℕ) → (j ≡ i → ⊥) → j < slots_in (length m) → slot (with_slot m i v bytes) j ≡ slot m j
  slot_other j ne l =
      let z = length-sets m (i * 130) (number v) in
      let o : Apart 130 (j * 130) 130 (i * 130) =
      ⊎_elim (λ e. absurd (ne e)) (⊎_elim (λ p. inl (omega arith)) (λ p. inr (omega arith))) (cases_order j i) in
      slot_like j (alike_then
      (sets_apart begun (i * 130 + 2) bytes (omega arith) (⊎_elim (λ p. inl (omega arith)) (λ p. inr (omega arith)) o))
      (sets_apart m (i * 130) (number v) (omega arith) (⊎_elim (λ p. inl p) (λ p. inr (omega arith)) o)))

  pub slots_set : slot_copies (with_slot m i v bytes) ≡ set (slot_copies m) i (kept v bytes)
  slots_set =
      let a = length-slots m in
      let b = length-slots (with_slot m i v bytes) in
      let l = length-with_slot m i v bytes in
      let n : slots_in (length (with_slot m i v bytes)) ≡ slots_in (length m) = ap slots_in l in
      ext_get_or unwritten _ _ (simp length-set (b ∙ (n ∙ sym a)))
      (λ j l.
      let j' : j < slots_in (length m) = omega arith in
      let i' : i < length (slot_copies m) = omega arith in
      get_or-slots (with_slot m i v bytes) j (omega arith) ∙
      ⊎_elim
      (λ e. rw e (slot_same ∙ sym (get_or-set_same (slot_copies m) i (kept v bytes) unwritten i')))
      (λ ne. slot_other j ne j' ∙ (sym (get_or-slots m j j') ∙ sym (get_or-set_other (slot_copies m) i j (kept v bytes) unwritten ne)))
      (cases_eq j i))

-- the same of memory that is said to be the filled one, for a copy as a store has it
pub slots_after : (m m' : List ℕ) (i v : ℕ) (bytes : List ℕ) → m' ≡ with_slot m i v bytes → i < slots_in (length m) → v < 2 ^ 16 → length bytes ≡ 128 →
    (v ≡ 0 → bytes ≡ blank) → slot_copies m' ≡ set (slot_copies m) i (record { version = v; bytes = bytes })
slots_after m m' i v bytes e h f k n =
    ap slot_copies e ∙ (slots_set m i v bytes h f k ∙ ap (set (slot_copies m) i) (kept_whole v bytes n))

-- clearing slot after slot
module _ (m : List ℕ) where
  pub length-cleared : (n : ℕ) → length (cleared_below n m) ≡ length m
  length-cleared zero = refl
  length-cleared (suc n) = length-with_slot (cleared_below n m) n 0 blank ∙ length-cleared n

  pub cleared_more : (n : ℕ) → with_slot (cleared_below n m) n 0 blank ≡ cleared_below (n + 1) m
  cleared_more n = ap (λ k. cleared_below k m) (sym (add-one n))

  -- the first n copies are unwritten, and the others as they were
  slot_copies-cleared_below : (n : ℕ) → n ≤ slots_in (length m) → slot_copies (cleared_below n m) ≡ replicate n unwritten ++ drop n (slot_copies m)
  slot_copies-cleared_below zero h = refl
  slot_copies-cleared_below (suc n) h =
      let xs : List Copy = slot_copies m in
      let l : n < length xs = omega (arith, length-slots m) in
      let k : n < slots_in (length (cleared_below n m)) = omega (arith, length-cleared n) in
      slots_set (cleared_below n m) n 0 blank k (lit< tt) Sound-unwritten.size ∙
      (ap (λ t. set t n unwritten) (slot_copies-cleared_below n (omega arith)) ∙
      (ap (λ t. set (replicate n unwritten ++ t) n unwritten) (drop-cons xs n unwritten l) ∙
      (set_at (replicate n unwritten) (get_or xs n unwritten) (drop (suc n) xs) unwritten n (length-replicate n unwritten) ∙
      (sym (append_snoc (replicate n unwritten) unwritten (drop (suc n) xs)) ∙
      ap (λ t. t ++ drop (suc n) xs) (replicate_more n unwritten ∙ ap (λ k. replicate k unwritten) (add-one n))))))

  pub cleared_all : (n : ℕ) → n ≡ slots_in (length m) → slot_copies (cleared_below n m) ≡ cleared (slot_copies m)
  cleared_all n e =
      let l : n ≡ length (slot_copies m) = omega (arith, length-slots m) in
      slot_copies-cleared_below n (omega arith) ∙
      (ap (λ t. replicate n unwritten ++ t) (drop_all n (slot_copies m) (omega arith)) ∙
      (append-nil (replicate n unwritten) ∙ ap (λ k. replicate k unwritten) l))

-- what the functions over memory need of the above
pub ruleset filled = (length-slots, get_or-slots, slots_fit, slots_set, kept_whole, length-cleared, cleared_more, cleared_all)
