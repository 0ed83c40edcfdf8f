-- What a row of stores means, and what each call on it answers and leaves: what the site's store does, and nothing at the others.
use Rattle.std.specs.Prelude.{ℕ, ◌<◌, cond, List, [], length, Ok, Err, Result, ◌==◌, nat_lt, slice_index_or, slice_set}
use Rattle.refusal.specs.declared.layer.Layer.TheVariants.{Part}
use Rattle.refusal.specs.declared.reason.Reason.TheVariants.{NoSuchSite}
use Rattle.refusal.specs.declared.refusal.Refusal.{Refusal}
use Rattle.refusal.specs.Refusals.{refused}
use Rattle.store.specs.Stores as store
use Rattle.store.specs.Stores.{Copy, Laws}

-- the copies of each site's store
abbrev pub Sites : Type 0
Sites = List (List Copy)

abbrev pub at : Sites → ℕ → List Copy
at sites s = slice_index_or sites s []

-- what a row means: at least one site, each with the copies of a store
pub record Row : Type 0 where
  pub sites : Sites
  pub some : 0 < length sites
  pub laws : (s : ℕ) → s < length sites → Laws (at sites s)

abbrev pub no_site : ℕ → Refusal
no_site s = refused NoSuchSite Part (record { site = s; block = 0; length = 0; offset = 0; request = 0 }) 0

-- what the site's store tells, or else
abbrev pub told : {X : Type 0} → Sites → ℕ → (List Copy → X) → X → X
told sites s f else = cond (nat_lt s (length sites)) (f (at sites s)) else

-- the row with something done to one site's copies; an absent site changes nothing
abbrev pub changed : Sites → ℕ → (List Copy → List Copy) → Sites
changed sites s f = slice_set sites s (f (at sites s))

module _ (sites : Sites) (s : ℕ) where
  abbrev pub count_answer : Result ℕ Refusal
  count_answer = told sites s (λ copies. Ok (length copies)) (Err (no_site s))

  abbrev pub version_answer : ℕ → Result ℕ Refusal
  version_answer i = told sites s (λ copies. store.version_answer copies i) (Err (no_site s))

  abbrev pub read_answer : ℕ → ℕ → Result (Unit {0}) Refusal
  read_answer i n = told sites s (λ copies. store.read_answer copies i n) (Err (no_site s))

  abbrev pub read_buffer : ℕ → List ℕ → List ℕ
  read_buffer i buffer = told sites s (λ copies. store.read_buffer copies i buffer) buffer

  abbrev pub write_answer : ℕ → ℕ → Result (Unit {0}) Refusal
  write_answer i n = told sites s (λ copies. store.write_answer copies i n) (Err (no_site s))

  abbrev pub written : ℕ → ℕ → List ℕ → Sites
  written i v block = changed sites s (λ copies. store.written copies i v block)

  abbrev pub clear_answer : Result (Unit {0}) Refusal
  clear_answer = told sites s (λ copies. Ok tt) (Err (no_site s))

  abbrev pub cleared : Sites
  cleared = changed sites s store.cleared

-- the only site of a row of one
abbrev pub only_site : ℕ → Result (Unit {0}) Refusal
only_site s = cond (s == 0) (Ok tt) (Err (no_site s))
