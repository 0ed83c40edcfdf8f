-- What is said of votes site by site, as what the library says of the list of votes: what chains over votes answer.
use Rattle.std.proofs.Common.{◌≡◌, ℕ, ◌+◌, ◌<◌, ◌≤◌, true, false, cond, T, None, List, length, take, get_or, leb, ◌⊎◌, sym, ap, ◌∙◌, arith, inl, inr}
use Rattle.std.specs.List.{sum, sum_by, enumerate_from}
use Rattle.std.proofs.lemmas.List.Sums.{sum_by_more}
use Rattle.std.proofs.lemmas.List.FromFn.{length-enumerate_from, get_or-enumerate_from}
use Rattle.std.proofs.lemmas.Bool.Decides.{nat_tests}
use Rattle.std.proofs.lemmas.Grind.{get_or_default_zero}
use Rattle.std.proofs.iter.runs.Sources.{sums}
use Rattle.sites.specs.Bounded.{fold}
use Rattle.sites.specs.Sites.{Sites}
use Rattle.sites.proofs.Bounded.{fold_list, every_tells}
use Rattle.sites.proofs.Tests.{T-from}
use Rattle.quorum.specs.Votes.{votes_of, all_votes, small_votes, fair, others, guarded_rule, votes_rule, votes_refusal}
use Rattle.quorum.specs.Tallies.{guarded_is, split}

-- all votes
pub all_votes_listed : (votes : List ℕ) → all_votes votes ≡ sum votes
all_votes_listed votes = fold_list sum ◌+◌ _ votes (λ i l. sum_by_more (λ x. x) votes i 0 l)

pub ruleset all_votes_bounded = (all_votes_listed, sums)

-- whether they are small, with what it tells
pub small_tells : (votes : List ℕ)
    → ((small_votes votes ≡ false) × (i : ℕ) × (i < length votes) × (15 < get_or votes i 0))
    ⊎ ((small_votes votes ≡ true) × ((i d : ℕ) → i < length votes → get_or votes i d ≤ 15))
small_tells votes = elim (every_tells (length votes) (λ i. leb (get_or votes i 0) 15)) [
  | inl w ↦ inl (w.0, w.1, w.2, grind (arith, nat_tests, w.3))
  | inr r ↦ inr (r.0, λ i d l. grind (arith, nat_tests, get_or_default_zero, r.1 i l))
]

-- the votes of a set
each_site : (votes : List ℕ) (i : ℕ) → i < length votes → get_or (enumerate_from 0 votes) i (0, 0) ≡ (i, get_or votes i 0)
each_site votes i l = let e : 0 + i ≡ i = omega arith in get_or-enumerate_from 0 votes i (0, 0) l ∙ ap (λ k. (k, get_or votes i 0)) e

pub votes_listed : (votes : List ℕ) (s : Sites) → votes_of votes s ≡ sum_by (λ (p : ℕ × ℕ). cond (s p.0) p.1 0) (enumerate_from 0 votes)
votes_listed votes s =
    let ys = enumerate_from 0 votes in
    let v = λ (p : ℕ × ℕ). cond (s p.0) p.1 0 in
    let e : length ys ≡ length votes = length-enumerate_from 0 votes in
    ap (λ n. fold ◌+◌ 0 n (λ i. cond (s i) (get_or votes i 0) 0)) (sym e)
    ∙ fold_list (sum_by v) ◌+◌ (λ i. cond (s i) (get_or votes i 0) 0) ys (λ i l.
    sum_by_more v ys i (0, 0) l ∙ ap (λ q. sum_by v (take i ys) + v q) (each_site votes i (omega (arith, e))))

-- with those outside it they are all votes
pub votes_split : (votes : List ℕ) (s : Sites) → votes_of votes (others s) + votes_of votes s ≡ all_votes votes
votes_split votes s = omega (arith, split (λ i. get_or votes i 0) s (length votes))

pub ruleset tallies = (all_votes_listed, votes_listed, votes_split)

-- what is not refused is fair
fairly : (votes : List ℕ) (r q : ℕ) → None ≡ votes_refusal votes r q → T (fair (all_votes votes) r q)
fairly votes r q e = grind (arith, nat_tests)

-- with fair thresholds the guarded rule is the plain one
pub guards_always_hold : (votes : List ℕ) (r q : ℕ) → fair (all_votes votes) r q ≡ true → guarded_rule votes r q ≡ votes_rule votes r q
guards_always_hold votes r q e = guarded_is votes r q (T-from e tt)
