-- What is written out plainly in a value reads back: names, clauses and conflicts.
use Rattle.std.proofs.Common.{◌≡◌, ℕ, suc, ◌+◌, ◌<◌, ◌≤◌, Bool, true, false, List, [], ◌∷◌, ◌++◌, map, length, drop, Ok, codes, Result, sym, refl, ap, ◌∙◌, one-add, arith}
use Rattle.std.specs.List.{prefix_len, list_all}
use Rattle.std.proofs.lemmas.List.{length_push, map_push, append-nil, append_assoc, take_at, drop_at}
use Rattle.std.proofs.lemmas.Bool.{and_parts, lt-ltb, cond-true, false≢true}
use Rattle.std.proofs.lemmas.Bool.Decides.{nat_tests}
use Rattle.sheets.specs.Limits.{max_clauses}
use Rattle.texts.specs.Bytes.{in_line, in_run, in_name, good}
use Rattle.texts.specs.declared.faults.Fault.{Fault}
use Rattle.stanzas.specs.Tokens.{Mention, Token, Named, Misnamed, run, named, tokens}
use Rattle.stanzas.specs.Notes.{NotesModel, owner_of, and_then, added}
use Rattle.stanzas.specs.Values.{listed, related}
use Rattle.stanzas.specs.Plain.{between, all_choices}
use Rattle.stanzas.specs.declared.lines.Relation.{Relation}
use Rattle.stanzas.specs.declared.lines.Relation.TheVariants.{Depends, Conflicts}
use Rattle.stanzas.proofs.Passing.{all_weaker}
use Rattle.stanzas.proofs.Tokens.{at_run, run_skips}

-- ---- bytes that pass a test

module _ (t : ℕ → Bool) where
  -- they lead up to what does not pass it
  pub all_lead : (s rest : List ℕ) → list_all t s ≡ true → prefix_len t rest ≡ 0 → prefix_len t (s ++ rest) ≡ length s
  all_lead [] rest h z = z
  all_lead (b ∷ s) rest h z = let p = and_parts _ _ h in cond-true _ _ _ p.0 ∙ one-add _ ∙ ap suc (all_lead s rest p.1 z)

-- ---- good names

-- a byte of a name is part of a run, and of a line
name_runs : (b : ℕ) → in_name b ≡ true → in_run b ≡ true
name_runs b h = grind (arith, nat_tests)

name_stays : (b : ℕ) → in_name b ≡ true → in_line b ≡ true
name_stays b h = grind (arith, nat_tests)

-- so are all the bytes of a good name
good_bytes : (n : List ℕ) → good n ≡ true → list_all in_name n ≡ true
good_bytes n h = (and_parts _ _ h).1

good_runs : (n : List ℕ) → good n ≡ true → list_all in_run n ≡ true
good_runs n h = all_weaker in_name in_run name_runs n (good_bytes n h)

pub good_stays : (n : List ℕ) → good n ≡ true → list_all in_line n ≡ true
good_stays n h = all_weaker in_name in_line name_stays n (good_bytes n h)

-- before what is no part of a run, a good name is one token
name_token : (p : ℕ) (n rest : List ℕ) → good n ≡ true → prefix_len in_run rest ≡ 0 → tokens false p (n ++ rest) ≡ Named (record { place = p; name = n }) ∷ tokens false (p + length n) rest
name_token p [] rest h z = absurd (false≢true h)
name_token p (b ∷ s) rest h z =
    let e : p + 1 + length s ≡ p + suc (length s) = omega arith in
    let g = good_runs (b ∷ s) h in
    let q = and_parts _ _ g in
    let front : run (b ∷ s ++ rest) ≡ b ∷ s = take_at (b ∷ s) rest _ (sym (all_lead in_run (b ∷ s) rest g z)) in
    let long = all_lead in_run s rest q.1 z in
    at_run p b (s ++ rest) q.0
    ∙ (λ i. named p (front i) ∷ run_skips (p + 1) (s ++ rest) i)
    ∙ (λ i. cond-true _ (Named (record { place = p; name = b ∷ s })) (Misnamed p) h i ∷ tokens false (p + 1 + long i) (drop (long i) (s ++ rest)))
    ∙ (λ i. Named (record { place = p; name = b ∷ s }) ∷ tokens false (e i) (drop_at s rest (length s) refl i))

-- at the end, too
pub name_last : (p : ℕ) (n : List ℕ) → good n ≡ true → tokens false p n ≡ Named (record { place = p; name = n }) ∷ []
name_last p n h = ap (tokens false p) (sym (append-nil n)) ∙ name_token p n [] h refl

-- ---- clauses

-- the notes with these clauses of the stanza at hand
abbrev pub needing : NotesModel → List (List (List ℕ)) → NotesModel
needing m cs = record { names = m.names; needs = m.needs ++ map (λ names. record { owner = owner_of m; names = names }) cs; clashes = m.clashes; stanza = m.stanza }

-- one clause more, where there is room for it
clause_added_lem : (m : NotesModel) (clause : List Mention) (c : List (List ℕ)) → map (λ o. o.name) clause ≡ c → length m.needs < max_clauses → added Depends m clause ≡ Ok (needing m (c ∷ []))
clause_added_lem m clause c is lt = cond-true _ _ _ (lt-ltb _ _ lt) ∙ ap (λ names. Ok (needing m (names ∷ []))) is

module _ (e : ℕ) where
  -- a clause reads up to its last name, whatever follows it
  clause_reads : (m : NotesModel) (p : ℕ) (front : List Mention) (n : List ℕ) (ns : List (List ℕ)) (rest : List ℕ) (r : Result NotesModel Fault)
      → list_all good (n ∷ ns) ≡ true → prefix_len in_run rest ≡ 0
      → ((q : ℕ) (all : List Mention) (last : Mention) → map (λ o. o.name) (all ++ last ∷ []) ≡ map (λ o. o.name) front ++ n ∷ ns → listed Depends e m all (Named last ∷ tokens false q rest) ≡ r)
      → listed Depends e m front (tokens false p (between (codes " | ") (n ∷ ns) ++ rest)) ≡ r
  clause_reads m p front n [] rest r h z k =
      ap (listed Depends e m front) (name_token p n rest (and_parts _ _ h).0 z) ∙ k _ front _ (map_push (λ o. o.name) front _)
  clause_reads m p front n (o ∷ ns) rest r h z k =
      let g = and_parts _ _ h in
      ap (λ s. listed Depends e m front (tokens false p s)) (append_assoc (n ++ codes " | ") _ rest ∙ append_assoc n _ _)
      ∙ ap (listed Depends e m front) (name_token p n _ g.0 refl)
      ∙ clause_reads m (p + length n + 1 + 1 + 1) (front ++ record { place = p; name = n } ∷ []) o ns rest r g.1 z (λ q all last is. k q all last (is ∙ ap (λ l. l ++ o ∷ ns) (map_push (λ x. x.name) front _) ∙ append_assoc _ (n ∷ []) (o ∷ ns)))

  -- the clauses of a value
  clauses_listed : (m : NotesModel) (p : ℕ) (c : List (List ℕ)) (cs : List (List (List ℕ))) → all_choices (c ∷ cs) ≡ true → length m.needs + length (c ∷ cs) ≤ max_clauses
      → listed Depends e m [] (tokens false p (between (codes ", ") (map (between (codes " | ")) (c ∷ cs)))) ≡ Ok (needing m (c ∷ cs))
  clauses_listed m p [] cs h room = absurd (false≢true h)
  clauses_listed m p (n ∷ ns) [] h room =
      ap (λ s. listed Depends e m [] (tokens false p s)) (sym (append-nil (between (codes " | ") (n ∷ ns))))
      ∙ clause_reads m p [] n ns [] _ (and_parts _ _ h).0 refl (λ q all last is. clause_added_lem m (all ++ last ∷ []) (n ∷ ns) is (omega arith))
  clauses_listed m p (n ∷ ns) (d ∷ cs) h room =
      let g = and_parts _ _ h in
      let more = between (codes ", ") (map (between (codes " | ")) (d ∷ cs)) in
      ap (λ s. listed Depends e m [] (tokens false p s)) (append_assoc (between (codes " | ") (n ∷ ns)) (codes ", ") more)
      ∙ clause_reads m p [] n ns (codes ", " ++ more) _ g.0 refl
      (λ q all last is.
      ap (λ r. and_then r (λ o. listed Depends e o [] (tokens false (q + 1 + 1) more))) (clause_added_lem m (all ++ last ∷ []) (n ∷ ns) is (omega arith))
      ∙ clauses_listed (needing m ((n ∷ ns) ∷ [])) (q + 1 + 1) d cs g.1 (omega (arith, length_push m.needs (record { owner = owner_of m; names = n ∷ ns })))
      ∙ ap (λ ds. Ok (record { names = m.names; needs = ds; clashes = m.clashes; stanza = m.stanza })) (append_assoc m.needs _ _))

-- ---- conflicts

-- the notes with these conflicts of the stanza at hand
abbrev pub clashing : NotesModel → List (List ℕ) → NotesModel
clashing m ns = record { names = m.names; needs = m.needs; clashes = m.clashes ++ map (λ name. record { owner = owner_of m; name = name }) ns; stanza = m.stanza }

-- the conflicts of a value
clashes_listed : (e : ℕ) (m : NotesModel) (p : ℕ) (n : List ℕ) (ns : List (List ℕ)) → list_all good (n ∷ ns) ≡ true → listed Conflicts e m [] (tokens false p (between (codes ", ") (n ∷ ns))) ≡ Ok (clashing m (n ∷ ns))
clashes_listed e m p n [] h = ap (listed Conflicts e m []) (name_last p n (and_parts _ _ h).0)
clashes_listed e m p n (o ∷ ns) h =
    let g = and_parts _ _ h in
    ap (λ s. listed Conflicts e m [] (tokens false p s)) (append_assoc n (codes ", ") _)
    ∙ ap (listed Conflicts e m []) (name_token p n _ g.0 refl)
    ∙ clashes_listed e (clashing m (n ∷ [])) (p + length n + 1 + 1) o ns g.1
    ∙ ap (λ cs. Ok (record { names = m.names; needs = m.needs; clashes = cs; stanza = m.stanza })) (append_assoc m.clashes _ _)

-- ---- values

-- what is listed is no empty value
related_listed : (r : Relation) (e : ℕ) (m o : NotesModel) (ts : List Token) → listed r e m [] ts ≡ Ok o → related r e m ts ≡ Ok o
related_listed r e m o [] h = absurd (let z : ◌≡◌ {A = ℕ} 0 1 = cc in omega arith)
related_listed r e m o (t ∷ ts) h = h

module _ (e : ℕ) (m : NotesModel) (p : ℕ) where
  -- the value of Depends
  pub needs_read : (c : List (List ℕ)) (cs : List (List (List ℕ))) → all_choices (c ∷ cs) ≡ true → length m.needs + length (c ∷ cs) ≤ max_clauses
      → related Depends e m (tokens false p (between (codes ", ") (map (between (codes " | ")) (c ∷ cs)))) ≡ Ok (needing m (c ∷ cs))
  needs_read c cs h room = related_listed Depends e m _ (tokens false p (between (codes ", ") (map (between (codes " | ")) (c ∷ cs)))) (clauses_listed e m p c cs h room)

  -- the value of Conflicts
  pub clashes_read : (n : List ℕ) (ns : List (List ℕ)) → list_all good (n ∷ ns) ≡ true → related Conflicts e m (tokens false p (between (codes ", ") (n ∷ ns))) ≡ Ok (clashing m (n ∷ ns))
  clashes_read n ns h = related_listed Conflicts e m _ (tokens false p (between (codes ", ") (n ∷ ns))) (clashes_listed e m p n ns h)
