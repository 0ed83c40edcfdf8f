-- A record that is written sets the copy of its block and leaves the others, with or without a compaction; a log that starts has no copy.
use Rattle.std.proofs.Common.{◌≡◌, ℕ, suc, ◌+◌, ◌-◌, ◌*◌, ◌^◌, ◌<◌, ◌≤◌, min, cond, eqb, ltb, List, length, get_or, set, replicate, None, sym, refl, ap, ◌∙◌, ⊎_elim, arith}
use Rattle.std.proofs.lemmas.List.{ext_get_or, length-set, get_or-set_same, get_or-set_other, length-replicate, get_or-replicate}
use Rattle.std.proofs.lemmas.Bool.{cond-true, cond-false, cond_both, cases_eq, eq-eqb, ne_eqb, ltb-true, lt-ltb}
use Rattle.std.proofs.lemmas.Bool.Decides.{nat_tests}
use Rattle.store.specs.Stores.{blank, unwritten, kept}
use Rattle.store.proofs.Copies.{Sound-kept, kept_again, kept_whole}
use Rattle.log_store.specs.Records.{copy_at, with_record, Carried}
use Rattle.log_store.specs.Logs.{Log, log_refusal, room_in, first_in, other, started, room, block_count, record_count, copy_of, log_copies, carried_in, compacted, roomy, appended}
use Rattle.log_store.specs.Meaning.{length-log, get_or-log}
use Rattle.log_store.proofs.Laid.{length-with_record, laid_index, laid_copy, laid_other}
use Rattle.log_store.proofs.Carrying.{copy_in, copy_in-suc, copy_in_same, first_like, in_half, carries}

-- a log of the same sizes with the same copies, and room for a record more
pub record Roomy (l l' : Log) : Type 0 where
  pub size : length l'.memory ≡ length l.memory
  pub blocks : l'.blocks ≡ l.blocks
  pub free : record_count l' < room l'
  pub copy : (i : ℕ) → i < block_count l → copy_of l' i ≡ copy_of l i

Roomy-compacted : (l : Log) → 1 < room l → Roomy l (compacted l)
Roomy-compacted l one =
    let m : List ℕ = l.memory in
    let c : Carried = carried_in m l.half (record_count l) (block_count l) in
    let s = carries m l.half (record_count l) (omega arith) (block_count l) (omega arith) in
    let r : room_in (length c.memory) ≡ room l = ap room_in s.size in
    let w = s.few in
    let n : record_count (compacted l) ≡ c.count = omega arith in
    record {
      size = s.size;
      blocks = refl;
      free = omega arith;
      copy = λ i h.
          ap (λ k. copy_in c.memory (first_in c.memory (other l.half)) k i) n ∙
          (ap (λ f. copy_in c.memory f c.count i) (first_like (other l.half) c.memory m s.size) ∙
          (s.new i ∙ cond-true (ltb i (block_count l)) (copy_of l i) unwritten (lt-ltb i (block_count l) h)));
    }

pub Roomy-roomy : (l : Log) → 1 < room l → Roomy l (roomy l)
Roomy-roomy l one =
    cond_both (ltb (record_count l) (room l)) l (compacted l) (Roomy l)
    (λ e. record { size = refl; blocks = refl; free = ltb-true (record_count l) (room l) e; copy = λ i h. refl })
    (λ e. Roomy-compacted l one)

-- the record that is added is the newest of its block
added_copy : (l : Log) (i v : ℕ) (bytes : List ℕ) → record_count l < room l → i < 2 ^ 16 → v < 2 ^ 16 → length bytes ≡ 128 →
    (j : ℕ) → copy_of (appended l i v bytes) j ≡ cond (eqb i j) (kept v bytes) (copy_of l j)
added_copy l i v bytes free f g k j =
    let m : List ℕ = l.memory in
    let from : ℕ = first_in m l.half in
    let n : ℕ = record_count l in
    let at : ℕ = from + n in
    let m' : List ℕ = with_record m at i v bytes in
    let z : length m' ≡ length m = length-with_record m at i v bytes in
    let r : room_in (length m') ≡ room l = ap room_in z in
    let h : at * 132 + 132 ≤ length m = in_half l.half m n free in
    let c : record_count (appended l i v bytes) ≡ suc n = omega arith in
    ap (λ t. copy_in m' (first_in m' l.half) t j) c ∙
    (ap (λ t. copy_in m' t (suc n) j) (first_like l.half m' m z) ∙
    (copy_in-suc m' from n j ∙
    (ap (λ t. cond (eqb t j) (copy_at m' at) (copy_in m' from n j)) (laid_index m at i v bytes h k f) ∙
    (ap (λ t. cond (eqb i j) t (copy_in m' from n j)) (laid_copy m at i v bytes h k g) ∙
    ap (cond (eqb i j) (kept v bytes))
    (copy_in_same m' m from n j (λ q p. laid_other m at i v bytes h k (from + q) (λ e. omega arith) (omega (arith, in_half l.half m q (omega arith)))))))))

module _ (l : Log) (i v : ℕ) (bytes : List ℕ) (h : i < block_count l) (f : v < 2 ^ 16) (k : length bytes ≡ 128) where
  log_copies-appended : log_copies (appended (roomy l) i v bytes) ≡ set (log_copies l) i (kept v bytes)
  log_copies-appended =
      let s = Roomy-roomy l (omega arith) in
      let l' : Log = appended (roomy l) i v bytes in
      let z : length l'.memory ≡ length l.memory = length-with_record (roomy l).memory (first_in (roomy l).memory (roomy l).half + record_count (roomy l)) i v bytes ∙ s.size in
      let b : block_count l' ≡ block_count l = ap (λ t. min (min t (room l' - 1)) 256) s.blocks ∙ ap (λ t. min (min l.blocks (room_in t - 1)) 256) z in
      let x = length-log l in
      let y = length-log l' in
      ext_get_or unwritten _ _ (simp length-set (y ∙ (b ∙ sym x)))
      (λ j o.
      let j' : j < block_count l = omega arith in
      let i' : i < length (log_copies l) = omega arith in
      get_or-log l' j (omega arith) ∙
      (added_copy (roomy l) i v bytes s.free (omega arith) f k j ∙
      ⊎_elim
      (λ e. cond-true (eqb i j) (kept v bytes) (copy_of (roomy l) j) (eq-eqb i j (sym e)) ∙ sym (ap (λ t. get_or (set (log_copies l) i (kept v bytes)) t unwritten) e ∙ get_or-set_same (log_copies l) i (kept v bytes) unwritten i'))
      (λ ne.
      cond-false (eqb i j) (kept v bytes) (copy_of (roomy l) j) (ne_eqb i j (λ e. ne (sym e))) ∙
      (s.copy j j' ∙ (sym (get_or-log l j j') ∙ sym (get_or-set_other (log_copies l) i j (kept v bytes) unwritten ne))))
      (cases_eq j i)))

-- a copy that is blank where its version is 0 is kept as it is; an equation names the log after, so that `grind` finds the one before
pub copy_appended : (l l' : Log) (i v : ℕ) (bytes : List ℕ) → l' ≡ appended (roomy l) i v bytes →
    i < block_count l → v < 2 ^ 16 → length bytes ≡ 128 → (v ≡ 0 → bytes ≡ blank) →
    log_copies l' ≡ set (log_copies l) i (record { version = v; bytes = bytes })
copy_appended l l' i v bytes e h f k b = rw e (log_copies-appended l i v bytes h f k ∙ ap (set (log_copies l) i) (kept_whole v bytes b))

-- there is room now
pub roomy_free : (l : Log) → 1 < room l → record_count (roomy l) < room (roomy l)
roomy_free l one = (Roomy-roomy l one).free

-- what is written of a block is what is kept of it
pub block_written : (l : Log) (i v : ℕ) (block : List ℕ) → i < block_count l → v < 2 ^ 16 → length block ≡ 128 →
    log_copies (appended (roomy l) i v (kept v block).bytes) ≡ set (log_copies l) i (kept v block)
block_written l i v block h f k =
    log_copies-appended l i v (kept v block).bytes h f (Sound-kept v block f k).size ∙ ap (set (log_copies l) i) (kept_again v block)

started_none : (blocks : ℕ) (m : List ℕ) (i : ℕ) → copy_of (started blocks m) i ≡ unwritten
started_none blocks m i = let e : min 0 (room_in (length m)) ≡ 0 = omega arith in ap (λ n. copy_in m 0 n i) e

pub log_copies-started : (blocks : ℕ) (m : List ℕ) (n : ℕ) → block_count (started blocks m) ≡ n → log_copies (started blocks m) ≡ replicate n unwritten
log_copies-started blocks m n e =
    let x = length-log (started blocks m) in
    ext_get_or unwritten _ _ (x ∙ (e ∙ sym (length-replicate n unwritten)))
    (λ i h.
    let i' : i < block_count (started blocks m) = omega arith in
    get_or-log (started blocks m) i i' ∙ (started_none blocks m i ∙ sym (get_or-replicate n i unwritten unwritten (omega arith))))

-- memory that is not refused has the sizes that were asked for
pub sizes_fit : (blocks records n : ℕ) → None ≡ log_refusal blocks records n → (room_in n ≡ records) × (min (min blocks (room_in n - 1)) 256 ≡ blocks)
sizes_fit blocks records n e =
    let k : n ≡ 2 * records * 132 = grind (arith, nat_tests) in
    let a : blocks ≤ 256 = grind (arith, nat_tests) in
    let b : blocks < records = grind (arith, nat_tests) in
    let c : records ≤ 512 = grind (arith, nat_tests) in
    (omega arith, omega arith)
