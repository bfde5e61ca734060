-- How the value of a field goes on from name to name.
use Rattle.std.proofs.Common.{◌≡◌, ℕ, ◌-◌, ◌≤◌, false, List, [], ◌∷◌, ◌++◌, map, length, take, drop, Ok, Err, vec_items, Result, Vec, sym, ap, ◌∙◌, subst, ⊎_elim, arith}
use Rattle.std.proofs.lemmas.List.{map_push}
use Rattle.std.proofs.lemmas.Bool.{cases_lt}
use Rattle.texts.specs.declared.faults.Fault.{Fault}
use Rattle.texts.specs.declared.faults.ReadError.{ReadError}
use Rattle.texts.specs.declared.faults.ReadError.TheVariants.{Faulty, OutOfMemory}
use Rattle.texts.specs.declared.spans.Span.{Span}
use Rattle.texts.proofs.Stretches.{front_stretch}
use Rattle.stanzas.specs.Tokens.{Named}
use Rattle.stanzas.specs.Spans.{IsFront, mention}
use Rattle.stanzas.specs.Notes.{NotesModel, and_then, name_added, added}
use Rattle.stanzas.specs.Values.{alone, single, listed, related}
use Rattle.stanzas.specs.Cursors.{rest, end, ReadsName, onward, NameRead, ListFault, after, SeparatorRead, Begun}
use Rattle.stanzas.specs.Views.{Stops, Answers, Leaves, said_of}
use Rattle.stanzas.specs.declared.cursor.Cursor.{Cursor}
use Rattle.stanzas.specs.declared.cursor.Separator.{Separator}
use Rattle.stanzas.specs.declared.cursor.Separator.TheVariants as separator
use Rattle.stanzas.specs.declared.lines.Relation.{Relation}
use Rattle.stanzas.specs.declared.notes.OpenNotes.{OpenNotes}

-- ---- answers

-- an error that was handed on
pub stopped : {A X : Type 0} (view : A → X) (r : Result A ReadError) (y z : ReadError) (want : Result X Fault) → r ≡ Err y → y ≡ z → Stops z want → Answers view r want
stopped view r y z want e is h = subst (λ q. Answers view q want) (sym (e ∙ ap Err is)) h

-- a call at notes of the same text may say otherwise what is due
pub leaves_from : (r : Result (Unit {0}) ReadError) (want other : Result NotesModel Fault) (a o b : OpenNotes) → want ≡ other → o.text.now ≡ a.text.now → Leaves r other o b → Leaves r want a b
leaves_from r want other a o b e t h = (subst (Answers (λ u. said_of b) r) (sym e) h.0, h.1 ∙ t)

pub stops_then : (s : ReadError) (want due : Result NotesModel Fault) (next : NotesModel → Result NotesModel Fault) → want ≡ and_then due next → Stops s due → Stops s want
stops_then (Faulty x) want due next e h = e ∙ ap (λ q. and_then q next) h
stops_then OutOfMemory want due next e h = tt

-- ---- names

-- a name that ends in a front of a text is the same in the text
front_mention : (front text : List ℕ) (s : Span) → IsFront front text → s.end ≤ length front → mention front s ≡ mention text s
front_mention front text s is h =
    let long = s.end - s.start in
    ap (λ n. record { place = s.start; name = n })
    (⊎_elim
    (λ past. let none : long ≡ 0 = omega arith in ap (λ k. take k (drop s.start front)) none ∙ sym (ap (λ k. take k (drop s.start text)) none))
    (λ le. ap (λ f. take long (drop s.start f)) is ∙ front_stretch text s.start s.end (length front) h le)
    (cases_lt (length front) s.start))

-- the value of a Package, once its name was read
pub named_first : (text : List ℕ) (n : NotesModel) (s : Span) (a b : Cursor) → IsFront a.text.now text → ReadsName s a b → single (end a) n (rest a) ≡ and_then (name_added n (mention text s)) (alone (rest b))
named_first text n s a b is h = ap (single (end a) n) h.0 ∙ ap (λ m. and_then (name_added n m) (alone (rest b))) (front_mention a.text.now text s is h.1)

-- ---- turns

module _ (r : Relation) where
  -- a value that is not empty begins with a name
  pub begins : (a b : Cursor) (n : NotesModel) → Begun false a b → related r (end a) n (rest a) ≡ onward r b n []
  begins a b n h = h.begins r (end a) n ∙ ap (listed r (end a) n []) (sym h.others) ∙ ap (λ x. listed r (length x) n [] (rest b)) (sym h.text)

  module _ (text : List ℕ) (n : NotesModel) (clause longer : List Span) (s : Span) (q : Result Separator Fault) (a b d : Cursor) where
    -- a name and what stands after it
    pub turned : IsFront a.text.now text → NameRead (ListFault r) (Ok s) a b → SeparatorRead r q b d → longer ≡ clause ++ s ∷ [] → onward r a n (map (mention text) clause) ≡ and_then q (after r d n (map (mention text) longer))
    turned is name stop more =
        let front = map (mention text) clause in
        ap (listed r (end a) n front) (name.reads.0 ∙ ap (λ m. Named m ∷ rest b) (front_mention a.text.now text s is name.reads.1))
        ∙ ap (λ x. listed r (length x) n front (Named (mention text s) ∷ rest b)) (sym name.text)
        ∙ stop.reads n front (mention text s)
        ∙ ap (λ l. and_then q (after r d n l)) (sym (ap (map (mention text)) more ∙ map_push (mention text) clause s))

  module _ {Z : Type 0} (text : List ℕ) (d : Cursor) (n : NotesModel) (clause whole : Vec Span Z) (is : whole ≡ clause) where
    -- a comma ends the clause
    closed : after r d n (map (mention text) (vec_items clause)) separator.Comma ≡ and_then (added r n (map (mention text) (vec_items whole))) (λ m. onward r d m [])
    closed = ap (λ v. and_then (added r n (map (mention text) (vec_items v))) (λ m. onward r d m [])) (sym is)

    -- and another one begins
    pub closed_on : (m : NotesModel) (other : List ℕ) (new empty : Vec Span Z) → added r n (map (mention text) (vec_items whole)) ≡ Ok m → new ≡ empty → vec_items empty ≡ [] → after r d n (map (mention text) (vec_items clause)) separator.Comma ≡ onward r d m (map (mention other) (vec_items new))
    closed_on m other new empty ok e none =
        closed ∙ ap (λ q. and_then q (λ o. onward r d o [])) ok ∙ ap (λ l. onward r d m (map (mention other) l)) (sym (ap vec_items e ∙ none))

    -- or it stops there
    pub closed_stops : (s : ReadError) (want : Result NotesModel Fault) → want ≡ after r d n (map (mention text) (vec_items clause)) separator.Comma → Stops s (added r n (map (mention text) (vec_items whole))) → Stops s want
    closed_stops s want e h = stops_then s want (added r n (map (mention text) (vec_items whole))) (λ m. onward r d m []) (e ∙ closed) h

-- texts that stay
pub still : (a b text : List ℕ) → b ≡ a → IsFront a text → IsFront b text
still a b text e is = subst (λ f. IsFront f text) (sym e) is

pub stays : (front a b : List ℕ) → b ≡ a → IsFront front a → IsFront front b
stays front a b e is = subst (λ t. IsFront front t) (sym e) is
