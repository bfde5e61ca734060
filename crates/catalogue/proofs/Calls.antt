-- Calls that are obeyed.
use Rattle.std.proofs.Common.{◌≡◌, ℕ, ◌+◌, ◌<◌, ◌≤◌, true, ltb, leb, List, [], ◌∷◌, ◌++◌, length, replicate, is_ok, Ok, Err, Result, ap, refl, ◌∙◌, append_assoc, length-append, arith}
use Rattle.std.proofs.lemmas.List.{length-replicate, replicate_more}
use Rattle.std.proofs.lemmas.Bool.{lt-ltb, le-leb}
use Rattle.refusals.specs.declared.Refusal.{Refusal}
use Rattle.sets.specs.Limit.{limit}
use Rattle.sheets.specs.Changes.{Goes}
use Rattle.catalogue.specs.Drafts.{Draft, empty_draft, unrelated, component_made, components_made, need_made}

-- a call f on the draft d, which is x; on x it gives y
pub obeyed : {U : Type 0} (f : Draft → Result Draft Refusal) (d x y n : Draft) (u : U) (r : Result U Refusal) → d ≡ x → f x ≡ Ok y → Goes (f d) u r d n → (is_ok r ≡ true) × (n ≡ y)
obeyed {U} f d x y n u r same gives g = go (f d) (ap f same ∙ gives) g
  where
    go : (q : Result Draft Refusal) → q ≡ Ok y → Goes {U = U} q u r d n → (is_ok r ≡ true) × (n ≡ y)
    go (Ok z) h g = let e : z ≡ y = cc in (ap is_ok g.0, g.1 ∙ e)
    go (Err z) h g = let e : ◌≡◌ {A = ℕ} 0 1 = cc in absurd (omega arith)

-- the same of a need whose members are the set k
pub need_obeyed : (p k s : ℕ) (d n x y : Draft) (r : Result (Unit {0}) Refusal) → s ≡ k → d ≡ x → need_made x p k ≡ Ok y → Goes (need_made d p s) tt r d n → (is_ok r ≡ true) × (n ≡ y)
need_obeyed p k s d n x y r e same gives g = obeyed (λ c. need_made c p s) d x y n tt r same (ap (λ b. need_made x p b) e ∙ gives) g

-- k components more than d has
abbrev pub with_more : Draft → ℕ → Draft
with_more d k = record { clauses = d.clauses; records = d.records ++ replicate k 0 }

pub one_more : (d : Draft) (k : ℕ) → length d.records + k < limit → component_made (with_more d k) ≡ Ok (with_more d (k + 1))
one_more d k lt =
    let few : length (d.records ++ replicate k 0) < limit = omega (arith, length-append d.records (replicate k 0), length-replicate {A = ℕ} k 0) in
    let within : ltb (length (d.records ++ replicate k 0)) limit ≡ true = lt-ltb (length (d.records ++ replicate k 0)) limit few in
    rw within (ap (λ (rs : List ℕ). Ok (with_records rs)) (append_assoc d.records (replicate k 0) (0 ∷ []) ∙ ap (λ rs. d.records ++ rs) (replicate_more k 0)))
  where
    with_records : List ℕ → Draft
    with_records rs = record { clauses = d.clauses; records = rs }

pub all_made : (d : Draft) (k : ℕ) (n : Draft) → length d.records + k ≤ limit → n ≡ with_more d k → Goes {U = Unit {0}} (components_made d k) tt (Ok tt) d n
all_made d k n held is = let within : leb (length d.records + k) limit ≡ true = le-leb (length d.records + k) limit held in rw within (refl, is)

-- the components of a catalogue that has none yet
pub first_made : (k : ℕ) → k ≤ limit → components_made empty_draft k ≡ Ok (unrelated k)
first_made k held = let within : leb (0 + k) limit ≡ true = le-leb (0 + k) limit (omega arith) in rw within
