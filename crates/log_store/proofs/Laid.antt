-- What the records hold after one was laid, or copied over another.
use Rattle.std.proofs.Common.{◌≡◌, ℕ, ◌+◌, ◌-◌, ◌*◌, ◌^◌, ◌<◌, ◌≤◌, List, ◌++◌, length, take, drop, sym, ap, ◌∙◌, inl, inr, ⊎_elim, arith}
use lib.Seq.{sets, sets-eq, length-sets}
use borrow.Rule.Slice.PartMut.{put_mid}
use Rattle.std.proofs.lemmas.List.{length-take, length-drop}
use Rattle.std.proofs.lemmas.List.Edits.{length-between}
use Rattle.std.proofs.lemmas.Bool.{cases_order}
use Rattle.std.specs.List.{between, copy_within}
use Rattle.store.specs.Bytes.{number, number_at}
use Rattle.store.specs.Stores.{kept}
use Rattle.store.proofs.Writes.{Alike, Apart, alike_then, alike_between, alike_number, alike_first, sets_apart, sets_alike, sets_part, sets_first, between-sets, number-sets}
use Rattle.log_store.specs.Records.{index_at, copy_at, with_record, with_copied}

-- a part that is copied within the memory is laid over another
pub copied_is : (m : List ℕ) (q r i j to : ℕ) → i ≡ q * 132 → j ≡ q * 132 + 132 → to ≡ r * 132 → q * 132 + 132 ≤ length m → r * 132 + 132 ≤ length m →
    copy_within m i j to ≡ with_copied m q r
copied_is m q r i j to e f g h l =
    let k : length (between (q * 132) (q * 132 + 132) m) ≡ 132 = length-between m (q * 132) (q * 132 + 132) h ∙ omega arith in
    let n : j - i ≡ 132 = omega arith in
    let n' : q * 132 + 132 - q * 132 ≡ 132 = omega arith in
    let t : r * 132 + length (between (q * 132) (q * 132 + 132) m) ≤ length m = omega arith in
    rw (n, e, g) (ap (λ x. take (r * 132) m ++ take x (drop (q * 132) m) ++ drop (r * 132 + 132) m) (sym n') ∙
    (ap (λ x. take (r * 132) m ++ between (q * 132) (q * 132 + 132) m ++ drop (r * 132 + x) m) (sym k) ∙
    sym (sets-eq (between (q * 132) (q * 132 + 132) m) m (r * 132) t)))

-- a record that is laid over a part of its size lies in the whole
pub put_record : (m part : List ℕ) (at n r i v : ℕ) (bytes : List ℕ) → at + n ≤ length m → n ≡ 132 → at ≡ r * 132 → length bytes ≡ 128 →
    part ≡ sets (sets (sets (take n (drop at m)) 0 (number i)) 2 (number v)) 4 bytes → put_mid at n m part ≡ with_record m r i v bytes
put_record m part at n r i v bytes h e f l p =
    let old : List ℕ = take n (drop at m) in
    let begun : List ℕ = sets old 0 (number i) in
    let headed : List ℕ = sets begun 2 (number v) in
    let w : length old ≡ n = simp (length-take, length-drop) (omega arith) in
    let y : length begun ≡ n = length-sets old 0 (number i) ∙ w in
    let z : length headed ≡ n = length-sets begun 2 (number v) ∙ y in
    rw (sym f) (ap (put_mid at n m) p ∙
    (sets_part bytes m headed at n 4 (omega arith) (omega arith) ∙
    ap (λ t. sets t (at + 4) bytes) (sets_part (number v) m begun at n 2 (omega arith) (omega arith) ∙
    ap (λ t. sets t (at + 2) (number v)) (sets_first m at n (number i) h (omega arith)))))

-- record r of one memory is record q of another
pub record Same (m m' : List ℕ) (r q : ℕ) : Type 0 where
  pub index : index_at m r ≡ index_at m' q
  pub copy : copy_at m r ≡ copy_at m' q

-- a record is told by its bytes
same_like : (r q : ℕ) {m m' : List ℕ} → Alike 132 (r * 132) (q * 132) m m' → Same m m' r q
same_like r q {m} {m'} s = record {
  index = alike_first s (omega arith);
  copy =
      ap (λ v. kept v (between (r * 132 + 4) (r * 132 + 132) m)) (alike_number s 2 (omega arith)) ∙
      ap (kept (number_at m' (q * 132 + 2))) (alike_between s 4 132 (omega arith));
}

-- two records lie apart
apart : (q r : ℕ) → (q ≡ r → ⊥) → Apart 132 (q * 132) 132 (r * 132)
apart q r ne = ⊎_elim (λ e. absurd (ne e)) (⊎_elim (λ p. inl (omega arith)) (λ p. inr (omega arith))) (cases_order q r)

module _ (m : List ℕ) (r i v : ℕ) (bytes : List ℕ) where
  -- with the index alone, and with the version
  abbrev begun : List ℕ
  begun = sets m (r * 132) (number i)

  abbrev headed : List ℕ
  headed = sets begun (r * 132 + 2) (number v)

  length-headed : length headed ≡ length m
  length-headed = length-sets begun (r * 132 + 2) (number v) ∙ length-sets m (r * 132) (number i)

  pub length-with_record : length (with_record m r i v bytes) ≡ length m
  length-with_record = length-sets headed (r * 132 + 4) bytes ∙ length-headed

  module _ (h : r * 132 + 132 ≤ length m) (k : length bytes ≡ 128) where
    pub laid_index : i < 2 ^ 16 → index_at (with_record m r i v bytes) r ≡ i
    laid_index f =
        let z = length-sets m (r * 132) (number i) in
        let y = length-headed in
        alike_first (alike_then
        (sets_apart {n = 2} {a = r * 132} headed (r * 132 + 4) bytes (omega arith) (inl (omega arith)))
        (sets_apart {n = 2} {a = r * 132} begun (r * 132 + 2) (number v) (omega arith) (inl (omega arith)))) (omega arith) ∙
        number-sets m (r * 132) i (omega arith) f

    pub laid_copy : v < 2 ^ 16 → copy_at (with_record m r i v bytes) r ≡ kept v bytes
    laid_copy f =
        let z = length-sets m (r * 132) (number i) in
        let y = length-headed in
        let x : number_at (with_record m r i v bytes) (r * 132 + 2) ≡ v =
        alike_first (sets_apart {n = 2} {a = r * 132 + 2} headed (r * 132 + 4) bytes (omega arith) (inl (omega arith))) (omega arith) ∙
        number-sets begun (r * 132 + 2) v (omega arith) f in
        let e : r * 132 + 4 + length bytes ≡ r * 132 + 132 = omega arith in
        let b : between (r * 132 + 4) (r * 132 + 132) (with_record m r i v bytes) ≡ bytes =
        ap (λ k. between (r * 132 + 4) k (with_record m r i v bytes)) (sym e) ∙ between-sets headed (r * 132 + 4) bytes (omega arith) in
        ap (λ t. kept t (between (r * 132 + 4) (r * 132 + 132) (with_record m r i v bytes))) x ∙ ap (kept v) b

    pub laid_other : (q : ℕ) → (q ≡ r → ⊥) → q * 132 + 132 ≤ length m → Same (with_record m r i v bytes) m q q
    laid_other q ne l =
        let z = length-sets m (r * 132) (number i) in
        let y = length-headed in
        let o = apart q r ne in
        same_like q q (alike_then
        (sets_apart headed (r * 132 + 4) bytes (omega arith) (⊎_elim (λ p. inl (omega arith)) (λ p. inr (omega arith)) o))
        (alike_then
        (sets_apart begun (r * 132 + 2) (number v) (omega arith) (⊎_elim (λ p. inl (omega arith)) (λ p. inr (omega arith)) o))
        (sets_apart m (r * 132) (number i) l (⊎_elim (λ p. inl p) (λ p. inr (omega arith)) o))))

module _ (m : List ℕ) (q r : ℕ) where
  pub length-with_copied : length (with_copied m q r) ≡ length m
  length-with_copied = length-sets m (r * 132) (between (q * 132) (q * 132 + 132) m)

  module _ (h : q * 132 + 132 ≤ length m) (l : r * 132 + 132 ≤ length m) where
    pub copied_same : Same (with_copied m q r) m r q
    copied_same = same_like r q (sets_alike m (q * 132) (r * 132) h l)

    pub copied_other : (p : ℕ) → (p ≡ r → ⊥) → p * 132 + 132 ≤ length m → Same (with_copied m q r) m p p
    copied_other p ne k =
        let e : length (between (q * 132) (q * 132 + 132) m) ≡ 132 = length-between m (q * 132) (q * 132 + 132) h ∙ omega arith in
        same_like p p (sets_apart m (r * 132) (between (q * 132) (q * 132 + 132) m) k (⊎_elim (λ o. inl o) (λ o. inr (omega arith)) (apart p r ne)))
