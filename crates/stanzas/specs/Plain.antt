-- Stanzas as their author means them, written out plainly, and the law that reading gives them back.
use Rattle.std.specs.Prelude.{◌≡◌, ℕ, suc, ◌≤◌, Bool, true, false, ◌&&◌, List, [], ◌∷◌, ◌++◌, map, length, is_some, None, Ok, codes}
use Rattle.std.specs.List.{list_all, flat_map}
use Rattle.sets.specs.Limit.{limit}
use Rattle.sheets.specs.Limits.{max_clauses}
use Rattle.texts.specs.Bytes.{good}
use Rattle.texts.specs.Spans.{look_up}
use Rattle.stanzas.specs.Notes.{NeedModel, ClashModel, NotesModel}
use Rattle.stanzas.specs.Files.{max_bytes, reading}

-- a component: its name, its clauses, each a choice between names, and the names that it conflicts with
pub record Entry : Type 0 where
  pub name : List ℕ
  pub needs : List (List (List ℕ))
  pub clashes : List (List ℕ)

-- ---- written out

-- strings with a separator between them; by cases, since a reader compares them with the file
abbrev pub between : List ℕ → List (List ℕ) → List ℕ
between separator [] = []
between separator (x ∷ []) = x
between separator (x ∷ y ∷ xs) = x ++ separator ++ between separator (y ∷ xs)

-- a field line, or none where there is nothing to list
abbrev pub field_line : List ℕ → List (List ℕ) → List ℕ
field_line label [] = []
field_line label (x ∷ xs) = label ++ between (codes ", ") (x ∷ xs) ++ codes "\n"

-- a stanza, with an empty line after it
abbrev pub written : Entry → List ℕ
written e =
    codes "Package: " ++ e.name ++ codes "\n"
    ++ field_line (codes "Depends: ") (map (between (codes " | ")) e.needs)
    ++ field_line (codes "Conflicts: ") e.clashes
    ++ codes "\n"

abbrev pub written_all : List Entry → List ℕ
written_all = flat_map written

-- ---- what they say

-- the clauses of the entries, of which the first is component i, in order
abbrev pub needs_from : ℕ → List Entry → List NeedModel
needs_from i [] = []
needs_from i (e ∷ es) = map (λ names. record { owner = i; names = names }) e.needs ++ needs_from (suc i) es

-- their conflicts, likewise
abbrev pub clashes_from : ℕ → List Entry → List ClashModel
clashes_from i [] = []
clashes_from i (e ∷ es) = map (λ name. record { owner = i; name = name }) e.clashes ++ clashes_from (suc i) es

abbrev pub told : List Entry → NotesModel
told es = record { names = map (λ e. e.name) es; needs = needs_from 0 es; clashes = clashes_from 0 es; stanza = None }

-- ---- within the rules

-- each clause has a name, and all its names are good; by cases, since the empty clause is one that a reader looks for
abbrev pub all_choices : List (List (List ℕ)) → Bool
all_choices [] = true
all_choices ([] ∷ cs) = false
all_choices ((n ∷ ns) ∷ cs) = list_all good (n ∷ ns) && all_choices cs

abbrev pub good_entry : Entry → Bool
good_entry e = good e.name && all_choices e.needs && list_all good e.clashes

abbrev pub good_entries : List Entry → Bool
good_entries = list_all good_entry

-- no name stands twice
abbrev pub Distinct : List (List ℕ) → Type 0
Distinct [] = Unit {0}
Distinct (n ∷ ns) = (is_some (look_up 0 ns n) ≡ false) × Distinct ns

-- good and distinct names, within the limits on components, clauses and bytes
pub record Plain (es : List Entry) : Type 0 where
  pub names_good : good_entries es ≡ true
  pub distinct : Distinct (map (λ e. e.name) es)
  pub few : length es ≤ limit
  pub room : length (needs_from 0 es) ≤ max_clauses
  pub short : length (written_all es) ≤ max_bytes

-- what is written out plainly reads back as exactly what it says
abbrev pub ReadsBack : Type 0
ReadsBack = (es : List Entry) → Plain es → reading (written_all es) ≡ Ok (told es)
