-- An open catalogue as it is filled, and the sheet that it closes to.
use Rattle.std.specs.Prelude.{◌≤◌, ℕ, ◌+◌, nat_le, replicate, Bool, cond, ◌&&◌, ◌||◌, List, [], ◌∷◌, ◌++◌, map, length, Ok, Err, Result, ◌==◌, nat_lt, slice_set}
use Rattle.std.specs.List.{range_with_len}
use Rattle.sets.specs.Limit.{limit}
use Rattle.sets.specs.Sets.{has, within, with_member, below, collect}
use Rattle.refusals.specs.declared.Refusal.{Refusal}
use Rattle.refusals.specs.declared.Refusal.TheVariants.{TooMany, TableFull, NoComponent, SelfClash}
use Rattle.sheets.specs.Limits.{max_clauses}
use Rattle.sheets.specs.Sheets.{SheetModel}
use Rattle.sheets.specs.declared.clause.Clause.{Clause}
use Rattle.sheets.specs.Clauses.{row, Owned, Known, Among, Irreflexive}

-- the clauses in the order of the calls, and for each component the set of those that it was said to clash with
pub record Draft : Type 0 where
  pub clauses : List Clause
  pub records : List ℕ

-- what every draft keeps that is filled by calls: the limits, and clauses and records that name what was made; no record names its own component
pub record Kept (d : Draft) : Type 0 where
  pub few : length d.records ≤ limit
  pub room : length d.clauses ≤ max_clauses
  pub owners : Owned (below (length d.records)) d.clauses
  pub members : Known (below (length d.records)) d.clauses
  pub known : Among (below (length d.records)) d.records
  pub foreign : Irreflexive d.records

abbrev pub empty_draft : Draft
empty_draft = record { clauses = []; records = [] }

-- whether the number was given to a component
abbrev pub is_made : Draft → ℕ → Bool
is_made d p = nat_lt p (length d.records)

-- one component more, numbered by how many there were
abbrev pub component_made : Draft → Result Draft Refusal
component_made d = cond (nat_lt (length d.records) limit) (Ok (record { clauses = d.clauses; records = d.records ++ 0 ∷ [] })) (Err TooMany)

-- n components more, or none where they would pass the limit
abbrev pub components_made : Draft → ℕ → Result Draft Refusal
components_made d n = cond (nat_le (length d.records + n) limit) (Ok (record { clauses = d.clauses; records = d.records ++ replicate n 0 })) (Err TooMany)

-- n components of which nothing is known yet
abbrev pub unrelated : ℕ → Draft
unrelated n = record { clauses = []; records = replicate n 0 }

-- p needs one of qs
abbrev pub need_made : Draft → ℕ → ℕ → Result Draft Refusal
need_made d p qs =
    cond (is_made d p && within qs (below (length d.records)))
    (cond (nat_lt (length d.clauses) max_clauses) (Ok (record { clauses = d.clauses ++ (record { owner = p; members = qs }) ∷ []; records = d.records })) (Err TableFull))
    (Err NoComponent)

-- p's record with q
abbrev pub with_clash : Draft → ℕ → ℕ → ℕ
with_clash d p q = with_member (row d.records p) q

-- p clashes with q, noted at p
abbrev pub clash_made : Draft → ℕ → ℕ → Result Draft Refusal
clash_made d p q =
    cond (is_made d p && is_made d q)
    (cond (p == q) (Err SelfClash) (Ok (record { clauses = d.clauses; records = slice_set d.records p (with_clash d p q) })))
    (Err NoComponent)

-- whether one of p and q has noted the other
abbrev pub clash : Draft → ℕ → ℕ → Bool
clash d p q = has (row d.records p) q || has (row d.records q) p

-- the conflict set of p, with what the others noted
abbrev pub closed_row : Draft → ℕ → ℕ
closed_row d p = collect (clash d p) (length d.records)

-- the sheet that the catalogue closes to
abbrev pub closed : Draft → SheetModel
closed d = record {
  size = length d.records;
  present = below (length d.records);
  clauses = d.clauses;
  conflicts = map (closed_row d) (range_with_len 0 (length d.records));
}
