-- What writes and clearing do to each copy of a store, and what is read of it.
use Rattle.std.proofs.Common.{◌≡◌, ℕ, ◌<◌, Bool, true, false, cond, ◌&&◌, eqb, ltb, List, [], ◌∷◌, length, get_or, set, replicate, Ok, sym, refl, ap, ◌∙◌, ⊎_elim, arith}
use Rattle.std.proofs.lemmas.List.{length-set, get_or-set_same, get_or-set_other, length-replicate, get_or-replicate}
use Rattle.std.proofs.lemmas.Bool.{cond-true, cond_both, cases_eq, lt-ltb, ltb-true, eq-eqb, eqb-true}
use Rattle.std.proofs.lemmas.Bool.Decides.{nat_tests}
use Rattle.store.specs.Histories.{Change, write, clear, copies_after, last_written, Reads}
use Rattle.store.specs.Stores.{Copy, unwritten, kept, left, written}

through : {A B : Type 0} (f : A → B) (s t : Bool) (new old : A) (b : B) → (s ≡ true → t ≡ true → f new ≡ b) → f (cond s (cond t new old) old) ≡ cond s (cond t b (f old)) (f old)
through f true true new old b e = e refl refl
through f true false new old b e = refl
through f false true new old b e = refl
through f false false new old b e = refl

-- what a call leaves, seen through a function, where that is known of a call that is not refused
pub left_through : {A B : Type 0} (f : A → B) (count i n : ℕ) (new old : A) (b : B) → (i < count → n ≡ 128 → f new ≡ b) → f (left count i n new old) ≡ left count i n b (f old)
left_through f count i n new old b e = through f (ltb i count) (eqb n 128) new old b (λ s t. e (ltb-true i count s) (eqb-true n 128 t))

module _ (copies : List Copy) (j n : ℕ) (x : Copy) where
  length-left : length (left (length copies) j n (set copies j x) copies) ≡ length copies
  length-left =
      cond_both (ltb j (length copies)) (cond (eqb n 128) (set copies j x) copies) copies (λ t. length t ≡ length copies)
      (λ _. cond_both (eqb n 128) (set copies j x) copies (λ t. length t ≡ length copies) (λ _. length-set copies j x) (λ _. refl))
      (λ _. refl)

  get_or-left : (i : ℕ) → i < length copies → get_or (left (length copies) j n (set copies j x) copies) i unwritten ≡ cond (eqb j i && eqb n 128) x (get_or copies i unwritten)
  get_or-left i h =
      let a = get_or-set_same copies j x unwritten in
      let b = get_or-set_other copies j i x unwritten in
      ⊎_elim
      (λ e. let c = a (omega arith) in rw e (grind (arith, nat_tests)))
      (λ ne. let c = b (λ e. ne (sym e)) in grind (arith, nat_tests))
      (cases_eq j i)

module _ (copies : List Copy) (j v : ℕ) (block : List ℕ) where
  pub length-written : length (written copies j v block) ≡ length copies
  length-written = length-left copies j (length block) (kept v block)

  -- the copy that is written changes if the bytes are a block, and no other
  pub get_or-written : (i : ℕ) → i < length copies → get_or (written copies j v block) i unwritten ≡ cond (eqb j i && eqb (length block) 128) (kept v block) (get_or copies i unwritten)
  get_or-written = get_or-left copies j (length block) (kept v block)

-- a store that holds a copy reads as this copy
reads_as : (copies : List Copy) (i : ℕ) (c : Copy) → i < length copies → get_or copies i unwritten ≡ c → Reads copies i c
reads_as copies i c h e =
    let t = lt-ltb i (length copies) h in
    record {
      version = cond-true (ltb i (length copies)) _ _ t ∙ ap (λ x. Ok x.version) e;
      block = λ buffer k. cond-true (ltb i (length copies)) _ _ t ∙ (cond-true (eqb (length buffer) 128) _ _ (eq-eqb (length buffer) 128 k) ∙ ap (λ x. x.bytes) e);
    }

module _ (blocks : ℕ) where
  abbrev after : List Change → List Copy
  after history = copies_after (replicate blocks unwritten) history

  length-after : (history : List Change) → length (after history) ≡ blocks
  length-after [] = length-replicate blocks unwritten
  length-after (write j v block ∷ history) = length-written (after history) j v block ∙ length-after history
  length-after (clear ∷ history) = length-replicate (length (after history)) unwritten ∙ length-after history

  -- each change is the last write, or leaves it as it was
  get_or-after : (history : List Change) (i : ℕ) → i < blocks → get_or (after history) i unwritten ≡ last_written history i
  get_or-after [] i h = get_or-replicate blocks i unwritten unwritten h
  get_or-after (write j v block ∷ history) i h =
      get_or-written (after history) j v block i (omega (arith, length-after history)) ∙
      ap (cond (eqb j i && eqb (length block) 128) (kept v block)) (get_or-after history i h)
  get_or-after (clear ∷ history) i h = get_or-replicate (length (after history)) i unwritten unwritten (omega (arith, length-after history))

  pub reads_last : (history : List Change) (i : ℕ) → i < blocks → Reads (after history) i (last_written history i)
  reads_last history i h = reads_as (after history) i (last_written history i) (omega (arith, length-after history)) (get_or-after history i h)
