-- What is written out plainly is read back.
use Rattle.std.proofs.Common.{◌≡◌, ℕ, suc, ◌+◌, ◌-◌, ◌<◌, ◌≤◌, Bool, true, false, cond, List, [], ◌∷◌, ◌++◌, map, length, take, drop, is_some, Some, None, Ok, codes, Option, Result, sym, refl, ap, ◌∙◌, arith}
use lib.Seq.{take-append_seam, drop-append-add}
use Rattle.std.specs.List.{AllByRecursion, list_all}
use Rattle.std.specs.Str.{bytes_eq}
use Rattle.std.proofs.lemmas.List.{append-nil, append_assoc, length-append, length-map, length_push}
use Rattle.std.proofs.lemmas.Bool.{and_parts, cond-true, cond-false, lt-ltb, le-ltb, true≢false, false≢true}
use Rattle.std.proofs.lemmas.Slice.Eq.{bytes_eq-Decides}
use Rattle.std.proofs.lemmas.Bool.Decides.{same_from_decides}
use Rattle.sets.specs.Limit.{limit}
use Rattle.sheets.specs.Limits.{max_clauses}
use Rattle.texts.specs.Bytes.{in_line, good}
use Rattle.texts.specs.Spans.{look_up}
use Rattle.texts.specs.declared.faults.Fault.{Fault}
use Rattle.stanzas.specs.Notes.{NotesModel, NeedModel, ClashModel, and_then}
use Rattle.stanzas.specs.Values.{single, alone}
use Rattle.stanzas.specs.Lines.{lines, heading_of}
use Rattle.stanzas.specs.Files.{step, stanzas}
use Rattle.stanzas.specs.Plain.{Entry, between, field_line, written, written_all, needs_from, clashes_from, all_choices, good_entry, good_entries, Distinct, ReadsBack}
use Rattle.stanzas.specs.declared.lines.Stanza.{Stanza}
use Rattle.stanzas.proofs.LineByLine.{line_first}
use Rattle.stanzas.proofs.Passing.{all_append}
use Rattle.stanzas.proofs.PlainValues.{all_lead, good_stays, name_last, needing, clashing, needs_read, clashes_read}

-- ---- lines

-- up to its line feed, text is one line
line_reads : (p : ℕ) (text rest : List ℕ) → list_all in_line text ≡ true → lines false p (text ++ 10 ∷ rest) ≡ record { place = p; text = text } ∷ lines false (p + length text + 1) rest
line_reads p [] rest h = line_first p 10 rest
line_reads p (b ∷ s) rest h =
    let all = (b ∷ s) ++ 10 ∷ rest in
    let long = all_lead in_line (b ∷ s) (10 ∷ rest) h refl in
    line_first p b (s ++ 10 ∷ rest)
    ∙ (λ i. record { place = p; text = take (long i) all } ∷ lines false (p + long i + 1) (drop (long i + 1) all))
    ∙ (λ i. record { place = p; text = take-append_seam (b ∷ s) (10 ∷ rest) i } ∷ lines false (p + length (b ∷ s) + 1) (drop-append-add (b ∷ s) (10 ∷ rest) 1 i))

-- a line is done, and reading goes on after it
line_done : (m o : NotesModel) (p : ℕ) (text rest : List ℕ) (r : Result NotesModel Fault)
    → list_all in_line text ≡ true → step m (record { place = p; text = text }) (heading_of text) ≡ Ok o → ((q : ℕ) → stanzas o (lines false q rest) ≡ r)
    → stanzas m (lines false p (text ++ 10 ∷ rest)) ≡ r
line_done m o p text rest r h s k = ap (stanzas m) (line_reads p text rest h) ∙ ap (λ x. and_then x (λ n. stanzas n (lines false (p + length text + 1) rest))) s ∙ k _

-- ---- strings that stay in a line

-- no line feed
abbrev Stays : List ℕ → Type 0
Stays s = list_all in_line s ≡ true

-- strings with a separator between them stay in a line where each of them does
between_stays : (separator x : List ℕ) (xs : List (List ℕ)) → Stays separator → AllByRecursion Stays (x ∷ xs) → Stays (between separator (x ∷ xs))
between_stays separator x [] h k = k.0
between_stays separator x (y ∷ xs) h k = all_append in_line (x ++ separator) _ (all_append in_line x separator k.0 h) (between_stays separator y xs h k.1)

-- good names do, and clauses of them
names_stay : (ns : List (List ℕ)) → list_all good ns ≡ true → AllByRecursion Stays ns
names_stay [] h = tt
names_stay (n ∷ ns) h = let g = and_parts _ _ h in (good_stays n g.0, names_stay ns g.1)

clauses_stay : (cs : List (List (List ℕ))) → all_choices cs ≡ true → AllByRecursion Stays (map (between (codes " | ")) cs)
clauses_stay [] h = tt
clauses_stay ([] ∷ cs) h = absurd (false≢true h)
clauses_stay ((n ∷ ns) ∷ cs) h = let g = and_parts _ _ h in (between_stays (codes " | ") n ns refl (names_stay (n ∷ ns) g.0), clauses_stay cs g.1)

-- ---- a stanza

-- the notes, by their parts
abbrev said : List (List ℕ) → List NeedModel → List ClashModel → Option Stanza → NotesModel
said ns ds ks s = record { names = ns; needs = ds; clashes = ks; stanza = s }

-- a stanza after its Package line, and whether it has had Depends and Conflicts
abbrev after : Bool → Bool → Option Stanza
after d c = Some (record { depends = d; conflicts = c; skipping = false })

module _ (ns : List (List ℕ)) (ds : List NeedModel) (ks : List ClashModel) (p : ℕ) (rest : List ℕ) (r : Result NotesModel Fault) where
  -- a Package line: a new component
  package_reads : (n : List ℕ) → good n ≡ true → is_some (look_up 0 ns n) ≡ false → length ns < limit
      → ((q : ℕ) → stanzas (said (ns ++ n ∷ []) ds ks (after false false)) (lines false q rest) ≡ r)
      → stanzas (said ns ds ks None) (lines false p ((codes "Package: " ++ n) ++ 10 ∷ rest)) ≡ r
  package_reads n h new lt =
      let text = codes "Package: " ++ n in
      let before = said ns ds ks None in
      line_done before _ p text rest r (good_stays n h)
      (ap (single (p + length text) before) (name_last (p + 8 + 1) n h) ∙ ap (λ x. and_then x (alone [])) (cond-false _ _ _ new ∙ cond-true _ _ _ (lt-ltb _ _ lt)))

  -- there is a Depends line, or there are no clauses
  depends_reads : (cs : List (List (List ℕ))) → all_choices cs ≡ true → length ds + length cs ≤ max_clauses
      → ((q : ℕ) (d : Bool) → stanzas (needing (said ns ds ks (after d false)) cs) (lines false q rest) ≡ r)
      → stanzas (said ns ds ks (after false false)) (lines false p (field_line (codes "Depends: ") (map (between (codes " | ")) cs) ++ rest)) ≡ r
  depends_reads [] h room k = ap (λ l. stanzas (said ns l ks (after false false)) (lines false p rest)) (sym (append-nil ds)) ∙ k p false
  depends_reads (c ∷ cs) h room k =
      let text = codes "Depends: " ++ between (codes ", ") (map (between (codes " | ")) (c ∷ cs)) in
      let before = said ns ds ks (after false false) in
      ap (λ s. stanzas before (lines false p s)) (append_assoc text (codes "\n") rest)
      ∙ line_done before _ p text rest r (between_stays (codes ", ") _ _ refl (clauses_stay (c ∷ cs) h)) (needs_read (p + length text) (said ns ds ks (after true false)) (p + 8 + 1) c cs h room) (λ q. k q true)

  -- there is a Conflicts line, or there are no conflicts
  conflicts_reads : (d : Bool) (cs : List (List ℕ)) → list_all good cs ≡ true
      → ((q : ℕ) (c : Bool) → stanzas (clashing (said ns ds ks (after d c)) cs) (lines false q rest) ≡ r)
      → stanzas (said ns ds ks (after d false)) (lines false p (field_line (codes "Conflicts: ") cs ++ rest)) ≡ r
  conflicts_reads d [] h k = ap (λ l. stanzas (said ns ds l (after d false)) (lines false p rest)) (sym (append-nil ks)) ∙ k p false
  conflicts_reads d (c ∷ cs) h k =
      let text = codes "Conflicts: " ++ between (codes ", ") (c ∷ cs) in
      let before = said ns ds ks (after d false) in
      ap (λ s. stanzas before (lines false p s)) (append_assoc text (codes "\n") rest)
      ∙ line_done before _ p text rest r (between_stays (codes ", ") c cs refl (names_stay (c ∷ cs) h)) (clashes_read (p + length text) (said ns ds ks (after d true)) (p + 10 + 1) c cs h) (λ q. k q true)

-- the stanza of an entry, which is component i: its name, its clauses and its conflicts are added
stanza_reads : (i : ℕ) (ns : List (List ℕ)) (ds : List NeedModel) (ks : List ClashModel) (p : ℕ) (rest : List ℕ) (r : Result NotesModel Fault) (e : Entry)
    → length ns ≡ i → i < limit → good_entry e ≡ true → is_some (look_up 0 ns e.name) ≡ false → length ds + length e.needs ≤ max_clauses
    → ((q : ℕ) → stanzas (said (ns ++ e.name ∷ []) (ds ++ map (λ names. record { owner = i; names = names }) e.needs) (ks ++ map (λ name. record { owner = i; name = name }) e.clashes) None) (lines false q rest) ≡ r)
    → stanzas (said ns ds ks None) (lines false p (written e ++ rest)) ≡ r
stanza_reads i ns ds ks p rest r e is lt h new room k =
    let names = ns ++ e.name ∷ [] in
    let owner : length names - 1 ≡ i = omega (arith, length_push ns e.name) in
    let g = and_parts _ _ h in
    let f = and_parts _ _ g.0 in
    ap (λ s. stanzas (said ns ds ks None) (lines false p s)) (regroup (codes "Package: " ++ e.name) (codes "\n") (field_line (codes "Depends: ") (map (between (codes " | ")) e.needs)) (field_line (codes "Conflicts: ") e.clashes) (codes "\n") rest)
    ∙ package_reads ns ds ks p _ r e.name f.0 new (omega arith)
    (λ q. depends_reads names ds ks q _ r e.needs f.1 room
    (λ u d. conflicts_reads names _ ks u _ r d e.clashes g.1
    (λ v c. line_done (clashing (needing (said names ds ks (after d c)) e.needs) e.clashes) _ v [] rest r refl refl
    (λ w. ap (λ o. stanzas (said names (ds ++ map (λ x. record { owner = o; names = x }) e.needs) (ks ++ map (λ x. record { owner = o; name = x }) e.clashes) None) (lines false w rest)) owner ∙ k w))))
  where
    regroup : (a b c d f g : List ℕ) → a ++ b ++ c ++ d ++ f ++ g ≡ a ++ (b ++ (c ++ (d ++ (f ++ g))))
    regroup a b c d f g = simp append_assoc

-- ---- names that are new

-- none of the components so far has this name
abbrev New : List (List ℕ) → List ℕ → Type 0
New ns n = is_some (look_up 0 ns n) ≡ false

-- the order does not count in a comparison
same_swaps : (m n : List ℕ) → bytes_eq m n ≡ bytes_eq n m
same_swaps m n =
    let back = bytes_eq-Decides n m in
    same_from_decides _ _ (bytes_eq-Decides m n) ((λ t. sym (back.0 t)), λ e. back.1 (sym e))

-- a search that fails: here is another name, and none further on has it
module _ (i : ℕ) where
  other : (t : Bool) (o : Option ℕ) → is_some (cond t (Some i) o) ≡ false → (t ≡ false) × (is_some o ≡ false)
  other true o h = (h, absurd (true≢false h))
  other false o h = (refl, h)

  neither : (t : Bool) (o : Option ℕ) → t ≡ false → is_some o ≡ false → is_some (cond t (Some i) o) ≡ false
  neither t o e h = ap is_some (cond-false t (Some i) o e) ∙ h

-- a name that is not found is not found after another one is added
new_push : (i : ℕ) (ns : List (List ℕ)) (n x : List ℕ) → is_some (look_up i ns x) ≡ false → bytes_eq n x ≡ false → is_some (look_up i (ns ++ n ∷ []) x) ≡ false
new_push i [] n x h e = neither i (bytes_eq n x) None e refl
new_push i (m ∷ ns) n x h e = let o = other i (bytes_eq m x) _ h in neither i (bytes_eq m x) _ o.0 (new_push (suc i) ns n x o.1 e)

-- names among which n is not stay new after n is added
still_new : (i : ℕ) (ns : List (List ℕ)) (n : List ℕ) (xs : List (List ℕ)) → is_some (look_up i xs n) ≡ false → AllByRecursion (New ns) xs → AllByRecursion (New (ns ++ n ∷ [])) xs
still_new i ns n [] h k = tt
still_new i ns n (x ∷ xs) h k = let o = other i (bytes_eq x n) _ h in (new_push 0 ns n x k.0 (same_swaps n x ∙ o.0), still_new (suc i) ns n xs o.1 k.1)

-- before the first component
all_new : (xs : List (List ℕ)) → AllByRecursion (New []) xs
all_new [] = tt
all_new (x ∷ xs) = (refl, all_new xs)

-- ---- whole files

-- the entries that are left, of which the first is component i
entries_read : (es : List Entry) (i : ℕ) (ns : List (List ℕ)) (ds : List NeedModel) (ks : List ClashModel) (p : ℕ)
    → length ns ≡ i → good_entries es ≡ true → Distinct (map (λ e. e.name) es) → AllByRecursion (New ns) (map (λ e. e.name) es) → i + length es ≤ limit → length ds + length (needs_from i es) ≤ max_clauses
    → stanzas (said ns ds ks None) (lines false p (written_all es)) ≡ Ok (said (ns ++ map (λ e. e.name) es) (ds ++ needs_from i es) (ks ++ clashes_from i es) None)
entries_read [] i ns ds ks p is h apart new few room = simp append-nil
entries_read (e ∷ es) i ns ds ks p is h apart new few room =
    let own : List (List ℕ) → NeedModel = λ names. record { owner = i; names = names } in
    let here = length-map e.needs own in
    let both = length-append ds (map own e.needs) in
    let all = length-append (map own e.needs) (needs_from (suc i) es) in
    let g = and_parts _ _ h in
    stanza_reads i ns ds ks p (written_all es) _ e is (omega arith) g.0 new.0 (omega arith)
    (λ q. entries_read es (suc i) (ns ++ e.name ∷ []) (ds ++ map own e.needs) _ q (omega (arith, length_push ns e.name)) g.1 apart.1 (still_new 0 ns e.name _ apart.0 new.1) (omega arith) (omega arith) ∙ simp append_assoc)

-- the law
pub read_back : ReadsBack
read_back es h = cond-false _ _ _ (le-ltb _ _ h.short) ∙ entries_read es 0 [] [] [] 0 refl h.names_good h.distinct (all_new _) (omega (arith, h.few)) (omega (arith, h.room))
