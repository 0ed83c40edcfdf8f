-- Any log is a store: the copies in it keep the laws.
use Rattle.std.specs.Prelude.{◌≡◌, ℕ, zero, suc, ◌+◌, ◌*◌, ◌<◌, ◌≤◌, List, length, Some, ◌==◌, slice_index_or}
use Rattle.std.proofs.Common.{◌∙◌, arith}
use Rattle.std.proofs.lemmas.List.FromFn.{length-map-range_with_len, get_or-map-range_with_len}
use Rattle.std.proofs.lemmas.List.Edits.{length-between}
use Rattle.std.proofs.lemmas.Bool.{cond_both}
use Rattle.std.specs.List.{between}
use Rattle.store.specs.Bytes.{number_at}
use Rattle.store.specs.Stores.{Store, Laws, Sound, unwritten}
use Rattle.store.proofs.Copies.{Sound-unwritten, Sound-kept}
use Rattle.log_store.specs.declared.half.Half.{Half}
use Rattle.log_store.specs.declared.half.Half.TheVariants.{First, Second}
use Rattle.log_store.specs.Records.{index_at, copy_at, copy_found, newest}
use Rattle.log_store.specs.Logs.{Log, room_in, first_in, block_count, record_count, copy_of, log_copies}

pub length-log : (l : Log) → length (log_copies l) ≡ block_count l
unfolding log_copies
length-log l = length-map-range_with_len (copy_of l) 0 (block_count l)

pub get_or-log : (l : Log) (i : ℕ) → i < block_count l → slice_index_or (log_copies l) i unwritten ≡ copy_of l i
unfolding log_copies
get_or-log l i h = get_or-map-range_with_len (copy_of l) 0 (block_count l) i i unwritten h (omega arith)

pub Sound-copy : (m : List ℕ) (r : ℕ) → r * 132 + 132 ≤ length m → Sound (copy_at m r)
Sound-copy m r h =
    Sound-kept (number_at m (r * 132 + 2)) (between (r * 132 + 4) (r * 132 + 132) m) (omega arith)
    (length-between m (r * 132 + 4) (r * 132 + 132) h ∙ omega arith)

pub Sound-found : (m : List ℕ) (from n i : ℕ) → (from + n) * 132 ≤ length m → Sound (copy_found m (newest m from n i))
Sound-found m from zero i h = Sound-unwritten
Sound-found m from (suc n) i h =
    cond_both (index_at m (from + n) == i) (Some (from + n)) (newest m from n i) (λ o. Sound (copy_found m o))
    (λ e. Sound-copy m (from + n) (omega arith)) (λ e. Sound-found m from n i (omega arith))

-- the records in use lie in the memory
pub half_fits : (h : Half) (m : List ℕ) (n : ℕ) → n ≤ room_in (length m) → (first_in m h + n) * 132 ≤ length m
half_fits First m n l = omega arith
half_fits Second m n l = omega arith

pub log_laws : (l : Log) → Laws (log_copies l)
log_laws l = record {
  few = omega (arith, length-log l);
  sound = λ i h.
      let h' : i < block_count l = omega (arith, length-log l) in
      rw (get_or-log l i h') (Sound-found l.memory (first_in l.memory l.half) (record_count l) i (half_fits l.half l.memory (record_count l) (omega arith)));
}

abbrev pub store_of_log : Log → Store
store_of_log l = record { copies = log_copies l; laws = log_laws l }
