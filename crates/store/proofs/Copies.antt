-- What is kept of a block that is written.
use Rattle.std.proofs.Common.{◌≡◌, ℕ, ◌^◌, ◌<◌, eqb, List, length, sym, refl, ap, ◌∙◌, ⊎_elim, lit<}
use Rattle.std.proofs.lemmas.Bool.{cond-true, cond-false, cond_both, cases_eq, eq-eqb, eqb-false, ne_eqb}
use Rattle.store.specs.Stores.{Sound, blank, unwritten, kept}

kept_none : (v : ℕ) (bytes : List ℕ) → v ≡ 0 → kept v bytes ≡ unwritten
kept_none v bytes e = cond-true _ _ _ (eq-eqb v 0 e)

kept_some : (v : ℕ) (bytes : List ℕ) → (v ≡ 0 → ⊥) → kept v bytes ≡ record { version = v; bytes = bytes }
kept_some v bytes ne = cond-false _ _ _ (ne_eqb v 0 ne)

-- a copy that is blank where its version is 0 is kept as it is
pub kept_whole : (v : ℕ) (bytes : List ℕ) → (v ≡ 0 → bytes ≡ blank) → kept v bytes ≡ record { version = v; bytes = bytes }
kept_whole v bytes h =
    ⊎_elim
    (λ e. let b = h e in kept_none v bytes e ∙ rw (e, b) refl)
    (λ ne. kept_some v bytes ne)
    (cases_eq v 0)

-- what is kept is kept as it is
pub kept_again : (v : ℕ) (bytes : List ℕ) → kept v (kept v bytes).bytes ≡ kept v bytes
kept_again v bytes =
    ⊎_elim
    (λ e. kept_none v (kept v bytes).bytes e ∙ sym (kept_none v bytes e))
    (λ ne. ap (λ c. kept v c.bytes) (kept_some v bytes ne))
    (cases_eq v 0)

-- what a store can have: a blank block, and what is kept of 128 bytes
pub Sound-unwritten : Sound unwritten
unfolding blank
Sound-unwritten = record { fits = lit< tt; size = refl; none = λ _. refl }

pub Sound-kept : (v : ℕ) (bytes : List ℕ) → v < 2 ^ 16 → length bytes ≡ 128 → Sound (kept v bytes)
Sound-kept v bytes h k =
    cond_both (eqb v 0) unwritten (record { version = v; bytes = bytes }) Sound
    (λ e. Sound-unwritten)
    (λ e. record { fits = h; size = k; none = λ z. absurd (eqb-false v 0 e z) })
