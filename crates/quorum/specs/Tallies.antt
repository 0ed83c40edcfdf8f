-- The rule by votes: sets with more votes than lie outside each other share a site.
use Rattle.std.specs.Prelude.{◌≡◌, ℕ, zero, suc, ◌+◌, ◌<◌, ◌≤◌, Bool, true, false, cond, not, ◌&&◌, T, ◌⊎◌, List, length, nat_le, nat_lt, slice_index, refl}
use Rattle.std.proofs.Common.{ap, subst, inl, inr, arith, ltb→lt, leb→le}
use Rattle.std.proofs.Math.Path.{fun_ext}
use Rattle.std.proofs.lemmas.Bool.Decides.{nat_tests}
use Rattle.sites.specs.Bounded.{total}
use Rattle.sites.specs.Sites.{Sites, SameBelow}
use Rattle.sites.proofs.Bounded.{fold_cong}
use Rattle.sites.proofs.Tests.{T-left, T-right}
use Rattle.quorum.specs.Laws.{VotesAreLawful}
use Rattle.quorum.specs.Rules.{Rule, Shared, Lawful}
use Rattle.quorum.specs.Votes.{votes_of, all_votes, others, fair, votes_rule, guarded_rule}

-- what the members of a set below n weigh together, where site i weighs w i
abbrev weight : (ℕ → ℕ) → Sites → ℕ → ℕ
weight w s n = total n (λ i. cond (s i) (w i) 0)

-- a site is in both sets, or it adds no more to the first than to what lies outside the second
one_site : (x y : Bool) (v : ℕ) → (T x × T y) ⊎ (cond x v 0 ≤ cond (not y) v 0)
one_site true true v = inl (tt, tt)
one_site true false v = inr (omega arith)
one_site false y v = inr (omega arith)

-- a shared site stays one
wider : {n : ℕ} {a b : Sites} → Shared n a b → Shared (suc n) a b
wider s = record { site = s.site; below = omega arith; left = s.left; right = s.right }

-- a set that has more votes than lie outside another shares a site with it
meet : (w : ℕ → ℕ) (a b : Sites) (n : ℕ) → weight w (others b) n < weight w a n → Shared n a b
meet w a b zero h = absurd (omega arith)
meet w a b (suc n) h = go (meet w a b n) (one_site (a n) (b n) (w n))
  where
    go : (weight w (others b) n < weight w a n → Shared n a b)
        → (T (a n) × T (b n)) ⊎ (cond (a n) (w n) 0 ≤ cond (others b n) (w n) 0) → Shared (suc n) a b
    go rest (inl p) = record { site = n; below = omega arith; left = p.0; right = p.1 }
    go rest (inr q) = wider (rest (omega arith))

-- each site's votes are on one side
half_each : (x : Bool) (v : ℕ) → cond x v 0 + cond (not x) v 0 ≡ v
half_each true v = omega arith
half_each false v = omega arith

-- the votes of a set and those outside it are all votes
pub split : (w : ℕ → ℕ) (s : Sites) (n : ℕ) → weight w s n + weight w (others s) n ≡ total n w
split w s zero = refl
split w s (suc n) = omega (arith, split w s n, half_each (s n) (w n))

-- the votes of a set depend on its members below n only
votes_same : (votes : List ℕ) (a b : Sites) → SameBelow (length votes) a b → votes_of votes a ≡ votes_of votes b
votes_same votes a b h = fold_cong ◌+◌ 0 (length votes) _ _ (λ i l. ap (λ x. cond x (slice_index votes i) 0) (h i l))

others_same : (n : ℕ) (a b : Sites) → SameBelow n a b → SameBelow n (others a) (others b)
others_same n a b h i l = ap not (h i l)

-- whoever may write leaves too few votes outside
module _ (votes : List ℕ) (r q : ℕ) where
  meets : (x : ℕ) (a b : Sites) → T (nat_lt x (votes_of votes a)) → T (nat_le (votes_of votes (others b)) x) → Shared (length votes) a b
  meets x a b t u =
      meet (λ i. slice_index votes i) a b (length votes) (omega (arith, ltb→lt x (votes_of votes a) t, leb→le (votes_of votes (others b)) x u))

  guards : (s : Sites) → T ((guarded_rule votes r q).writes s) → T (nat_le (votes_of votes (others s)) r) × T (nat_le (votes_of votes (others s)) q)
  guards s t =
      let g = T-right (nat_lt q (votes_of votes s)) (nat_le (votes_of votes (others s)) r && nat_le (votes_of votes (others s)) q) t in
      (T-left (nat_le (votes_of votes (others s)) r) (nat_le (votes_of votes (others s)) q) g, T-right (nat_le (votes_of votes (others s)) r) _ g)

  pub guarded_lawful : Lawful (guarded_rule votes r q)
  guarded_lawful = record {
    read_write = λ a b t u. meets r a b t (guards b u).0;
    write_write = λ a b t u. meets q a b (T-left (nat_lt q (votes_of votes a)) _ t) (guards b u).1;
    reads_same = λ a b h. ap (nat_lt r) (votes_same votes a b h);
    writes_same = λ a b h.
        let e = votes_same votes a b h in
        let o = votes_same votes (others a) (others b) (others_same (length votes) a b h) in
        rw (e, o);
  }

-- with fair thresholds the guards always hold
guards_hold : (r q all x y : ℕ) → T (fair all r q) → x + y ≡ all → (nat_lt q x && (nat_le y r && nat_le y q)) ≡ nat_lt q x
guards_hold r q all x y f e = grind (arith, nat_tests)

pub guarded_is : (votes : List ℕ) (r q : ℕ) → T (fair (all_votes votes) r q) → guarded_rule votes r q ≡ votes_rule votes r q
guarded_is votes r q f =
    let made : (Sites → Bool) → Rule = λ writes. record { sites = length votes; reads = λ s. nat_lt r (votes_of votes s); writes = writes } in
    ap made (fun_ext (λ s.
    guards_hold r q (all_votes votes) (votes_of votes s) (votes_of votes (others s)) f (split (λ i. slice_index votes i) s (length votes))))

pub votes_lawful : VotesAreLawful
votes_lawful votes r q f = subst Lawful (guarded_is votes r q f) (guarded_lawful votes r q)
