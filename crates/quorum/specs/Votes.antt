-- Weighted votes: a set may read if its votes exceed r, and write if they exceed q.
use Rattle.std.specs.Prelude.{ℕ, ◌+◌, ◌*◌, Bool, cond, not, ◌&&◌, List, length, take, None, Option, nat_le, nat_lt, slice_index}
use Rattle.refusal.specs.declared.reason.Reason.TheVariants.{BadVotes}
use Rattle.refusal.specs.declared.refusal.Refusal.{Refusal}
use Rattle.sites.specs.Bounded.{every, total}
use Rattle.sites.specs.Sites.{Sites}
use Rattle.quorum.specs.declared.votes.WeightedVotes.{WeightedVotes}
use Rattle.quorum.specs.Rules.{Rule, refused_rule, sized}

-- the votes of the members of a set; site i has the votes at i
abbrev pub votes_of : List ℕ → Sites → ℕ
votes_of votes s = total (length votes) (λ i. cond (s i) (slice_index votes i) 0)

-- the votes of all sites
abbrev pub all_votes : List ℕ → ℕ
all_votes votes = total (length votes) (λ i. slice_index votes i)

abbrev pub votes_rule : List ℕ → ℕ → ℕ → Rule
votes_rule votes r q = record {
  sites = length votes;
  reads = λ s. nat_lt r (votes_of votes s);
  writes = λ s. nat_lt q (votes_of votes s);
}

-- whether no site has more than 15 votes
abbrev pub small_votes : List ℕ → Bool
small_votes votes = every (length votes) (λ i. nat_le (slice_index votes i) 15)

-- whether each threshold can be exceeded, and whatever exceeds q leaves too few votes outside it to exceed r or q
abbrev pub fair : ℕ → ℕ → ℕ → Bool
fair all r q = nat_lt r all && (nat_lt q all && (nat_le all (r + q + 1) && nat_le all (2 * q + 1)))

-- why votes make no rule
abbrev pub votes_refusal : List ℕ → ℕ → ℕ → Option Refusal
votes_refusal votes r q =
    sized (length votes) (cond (small_votes votes && fair (all_votes votes) r q) None (refused_rule BadVotes))

-- the sites that are no members
abbrev pub others : Sites → Sites
others s i = not (s i)

-- the same rule where the thresholds are fair, and lawful whatever they are: a set that may write leaves too few votes outside it to read
-- or to write
abbrev pub guarded_rule : List ℕ → ℕ → ℕ → Rule
guarded_rule votes r q = record {
  sites = length votes;
  reads = λ s. nat_lt r (votes_of votes s);
  writes = λ s. nat_lt q (votes_of votes s) && (nat_le (votes_of votes (others s)) r && nat_le (votes_of votes (others s)) q);
}

-- the votes in force: those of the sites that there are
abbrev pub votes_in : WeightedVotes → List ℕ
votes_in w = take w.sites w.votes

-- what a `WeightedVotes` means
abbrev pub rule_of_votes : WeightedVotes → Rule
rule_of_votes w = guarded_rule (votes_in w) w.read_above w.write_above
