-- One store is a row of one, and two rows joined are a row: their copies keep the laws.
use Rattle.std.specs.Prelude.{◌≡◌, ℕ, ◌-◌, ◌<◌, [], ◌∷◌, ◌++◌, length, refl}
use Rattle.std.proofs.Common.{⊎_elim, arith}
use Rattle.std.proofs.lemmas.List.{length-append, get_or_append_left, get_or-append_right}
use Rattle.std.proofs.lemmas.Bool.{cases_lt}
use Rattle.store.specs.Stores.{Laws, Store}
use Rattle.replicas.specs.Rows.{Row, at}

pub Laws-only : (o : Store) (s : ℕ) → s < 1 → Laws (at (o.copies ∷ []) s)
Laws-only o s h = let e : s ≡ 0 = omega arith in rw e o.laws

pub Laws-both : (p q : Row) (s : ℕ) → s < length (p.sites ++ q.sites) → Laws (at (p.sites ++ q.sites) s)
Laws-both p q s h =
    ⊎_elim
    (λ l. rw (get_or_append_left p.sites q.sites [] s l) (p.laws s l))
    (λ l.
    let k : s - length p.sites < length q.sites = omega (arith, length-append p.sites q.sites) in
    rw (get_or-append_right p.sites q.sites (length p.sites) s [] refl l) (q.laws (s - length p.sites) k))
    (cases_lt s (length p.sites))

-- one store is a row of one
abbrev pub single : Store → Row
single o = record { sites = o.copies ∷ []; some = omega arith; laws = Laws-only o }

-- two rows, the second behind the first
abbrev pub joined : Row → Row → Row
joined p q = record {
  sites = p.sites ++ q.sites;
  some = omega (arith, p.some, length-append p.sites q.sites);
  laws = Laws-both p q;
}
