-- Any bytes are a store: the copies in their slots keep the laws.
use Rattle.std.specs.Prelude.{◌≡◌, ℕ, ◌+◌, ◌*◌, ◌<◌, List, length, slice_index_or}
use Rattle.std.proofs.Common.{◌∙◌, arith}
use Rattle.std.proofs.lemmas.List.FromFn.{length-map-range_with_len, get_or-map-range_with_len}
use Rattle.std.proofs.lemmas.List.Edits.{length-between}
use Rattle.std.specs.List.{between}
use Rattle.store.specs.Bytes.{number_at}
use Rattle.store.specs.Stores.{Store, Laws, Sound, unwritten}
use Rattle.store.proofs.Copies.{Sound-kept}
use Rattle.slot_store.specs.Slots.{slots_in, slot, slot_copies}

pub length-slots : (m : List ℕ) → length (slot_copies m) ≡ slots_in (length m)
unfolding slot_copies
length-slots m = length-map-range_with_len (slot m) 0 (slots_in (length m))

pub get_or-slots : (m : List ℕ) (i : ℕ) → i < slots_in (length m) → slice_index_or (slot_copies m) i unwritten ≡ slot m i
unfolding slot_copies
get_or-slots m i h =
    get_or-map-range_with_len (slot m) 0 (slots_in (length m)) i i unwritten h (omega arith)

pub length-slot : (m : List ℕ) (i : ℕ) → i < slots_in (length m) → length (between (i * 130 + 2) (i * 130 + 130) m) ≡ 128
length-slot m i h = length-between m (i * 130 + 2) (i * 130 + 130) (omega arith) ∙ omega arith

pub Sound-slot : (m : List ℕ) (i : ℕ) → i < slots_in (length m) → Sound (slot m i)
Sound-slot m i h =
    Sound-kept (number_at m (i * 130)) (between (i * 130 + 2) (i * 130 + 130) m) (omega arith) (length-slot m i h)

pub slot_laws : (m : List ℕ) → Laws (slot_copies m)
slot_laws m = record {
  few = omega (arith, length-slots m);
  sound = λ i h. let h' : i < slots_in (length m) = omega (arith, length-slots m) in rw (get_or-slots m i h') (Sound-slot m i h');
}

abbrev pub store_of_slots : List ℕ → Store
store_of_slots m = record { copies = slot_copies m; laws = slot_laws m }
