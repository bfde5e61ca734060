-- What is written out plainly is read back, and conflicts are as the stanzas name them.
use Rattle.std.proofs.Common.{◌≡◌, ℕ, ◌<◌, Bool, ◌&&◌, ◌||◌, List, length, Ok, ap, ◌∙◌, arith}
use Rattle.std.proofs.lemmas.List.FromFn.{get_or-map-range_with_len, length-map-range_with_len}
use Rattle.std.proofs.lemmas.Bool.{lt-ltb}
use Rattle.sets.specs.Sets.{has, collect}
use Rattle.sets.proofs.Membership.{has_collect}
use Rattle.catalogue.specs.Drafts.{clash, closed_row}
use Rattle.sheets.specs.Clauses.{row}
use Rattle.stanzas.specs.Notes.{ClashModel, and_then}
use Rattle.stanzas.proofs.ReadBack.{read_back}
use Rattle.control.specs.Grounds.{opposes, record_of, records_of, draft_of, described}
use Rattle.control.specs.Laws.{HoldsWritten, ConflictsNamed}

pub holds_written : HoldsWritten
holds_written es p = ap (λ r. and_then r (λ n. Ok (described n))) (read_back es p)

-- membership in a collected set, below its size
has_below : (f : ℕ → Bool) (k q : ℕ) → q < k → has (collect f k) q ≡ f q
has_below f k q lt = has_collect f k q ∙ ap (λ t. t && f q) (lt-ltb q k lt)

-- what the record of p names
recorded : (names : List (List ℕ)) (cs : List ClashModel) (p q : ℕ) → p < length names → q < length names → has (row (records_of names cs) p) q ≡ opposes names cs p q
recorded names cs p q lp lq =
    ap (λ r. has r q) (get_or-map-range_with_len (record_of names cs) 0 (length names) p p 0 lp (omega arith)) ∙ has_below (opposes names cs p) (length names) q lq

pub conflicts_named : ConflictsNamed
conflicts_named n p q lp lq =
    let rs = records_of n.names n.clashes in
    let d = draft_of n in
    let many : length rs ≡ length n.names = length-map-range_with_len (record_of n.names n.clashes) 0 (length n.names) in
    ap (λ s. has s q) (get_or-map-range_with_len (closed_row d) 0 (length rs) p p 0 (omega (arith, many)) (omega arith))
    ∙ has_below (clash d p) (length rs) q (omega (arith, many))
    ∙ ap (λ t. t || has (row rs q) p) (recorded n.names n.clashes p q lp lq)
    ∙ ap (λ t. opposes n.names n.clashes p q || t) (recorded n.names n.clashes q p lq lp)
