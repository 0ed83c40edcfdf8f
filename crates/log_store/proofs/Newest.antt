-- One step of the search and of the compaction.
use Rattle.std.proofs.Common.{◌≡◌, ℕ, ◌+◌, ◌==◌, cond, List, Some, min, sym, ap, ◌∙◌, add-one}
use Rattle.log_store.specs.declared.half.Half.{Half}
use Rattle.log_store.specs.Records.{index_at, newest, Carried}
use Rattle.log_store.specs.Logs.{Log, room_in, record_count, carry_in, carried_in, carrying, carry_block}
use Rattle.log_store.proofs.Carrying.{carried_size}

pub newest_more : (m : List ℕ) (from n i : ℕ) → newest m from (n + 1) i ≡ cond (index_at m (from + n) == i) (Some (from + n)) (newest m from n i)
newest_more m from n i = ap (λ k. newest m from k i) (add-one n)

carried_more : (m : List ℕ) (h : Half) (n k : ℕ) → carry_in h n (carried_in m h n k) k ≡ carried_in m h n (k + 1)
carried_more m h n k = ap (carried_in m h n) (sym (add-one k))

-- one block more is carried of a log of which the first k blocks were
pub carried_step : (s l : Log) (k count : ℕ) → l ≡ carrying s (carried_in s.memory s.half (record_count s) k) →
    count ≡ (carried_in s.memory s.half (record_count s) k).count →
    carry_block l count k ≡ carried_in s.memory s.half (record_count s) (k + 1)
carried_step s l k count e f =
    let n : ℕ = record_count s in
    let c : Carried = carried_in s.memory s.half n k in
    let r : record_count (carrying s c) ≡ n = ap (λ t. min s.used (room_in t)) (carried_size s.memory s.half n k) in
    rw (e, f) (ap (λ t. carry_in s.half t c k) r ∙ carried_more s.memory s.half n k)
