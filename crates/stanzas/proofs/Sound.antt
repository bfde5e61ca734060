-- Everything that is read is sound: kept from line to line.
use Rattle.std.proofs.Common.{◌≡◌, ℕ, ◌+◌, ◌<◌, true, false, ltb, List, [], ◌∷◌, ◌++◌, map, length, is_some, Some, None, Option, Ok, Err, Result, sym, refl, subst, arith}
use Rattle.std.specs.List.{list_all}
use Rattle.std.proofs.lemmas.List.{length_push}
use Rattle.std.proofs.lemmas.Bool.{and_from, cond_both, lt-ltb, ltb-true, true≢false}
use Rattle.sets.specs.Limit.{limit}
use Rattle.sheets.specs.Limits.{max_clauses}
use Rattle.texts.specs.Spans.{look_up}
use Rattle.texts.specs.declared.faults.Fault.{Fault}
use Rattle.stanzas.specs.Tokens.{Mention, Token, Named, Misnamed, Comma, Bar}
use Rattle.stanzas.specs.Notes.{NeedModel, ClashModel, NotesModel, start, with_stanza, with_name, and_then, owner_of, name_added, added}
use Rattle.stanzas.specs.Values.{bars, alone, single, listed, related}
use Rattle.stanzas.specs.Lines.{LineModel, lines, heading_of, value_of, end_of}
use Rattle.stanzas.specs.Files.{has, with, step_in, step, stanzas, max_bytes, reading}
use Rattle.stanzas.specs.Sound.{Sound}
use Rattle.stanzas.specs.declared.lines.Heading.{Heading}
use Rattle.stanzas.specs.declared.lines.Heading.TheVariants.{Empty, Continued, Package, Related, Skipped, Malformed}
use Rattle.stanzas.specs.declared.lines.Relation.{Relation}
use Rattle.stanzas.specs.declared.lines.Relation.TheVariants.{Depends, Conflicts}
use Rattle.stanzas.specs.declared.lines.Stanza.{Stanza}
use Rattle.stanzas.proofs.Passing.{all_append, all_weaker}

-- a stanza that has its Package has a component
record Read (n : NotesModel) : Type 0 where
  sound : Sound n
  begun : is_some n.stanza ≡ true → 0 < length n.names

-- within a stanza that has its Package
record Inside (n : NotesModel) : Type 0 where
  sound : Sound n
  some : 0 < length n.names

read : (n : NotesModel) → Inside n → Read n
read n i = record { sound = i.sound; begun = λ e. i.some }

-- what holds of a result that is no fault
abbrev Gives : (NotesModel → Type 0) → Result NotesModel Fault → Type 0
Gives P (Ok n) = P n
Gives P (Err e) = Unit {0}

then : (P Q : NotesModel → Type 0) (r : Result NotesModel Fault) (f : NotesModel → Result NotesModel Fault) → Gives P r → ((n : NotesModel) → P n → Gives Q (f n)) → Gives Q (and_then r f)
then P Q (Ok n) f p g = g n p
then P Q (Err e) f p g = tt

weaker : (P Q : NotesModel → Type 0) (r : Result NotesModel Fault) → ((n : NotesModel) → P n → Q n) → Gives P r → Gives Q r
weaker P Q (Ok n) f p = f n p
weaker P Q (Err e) f p = tt

-- ---- the owners

-- they are components still when there is one more
owners_more : {X : Type 0} (owner : X → ℕ) (size : ℕ) (xs : List X) → list_all (λ x. ltb (owner x) size) xs ≡ true → list_all (λ x. ltb (owner x) (size + 1)) xs ≡ true
owners_more owner size xs h = all_weaker (λ x. ltb (owner x) size) (λ x. ltb (owner x) (size + 1)) (λ x t. lt-ltb (owner x) (size + 1) (omega (arith, ltb-true (owner x) size t))) xs h

clashes_by : (size owner : ℕ) (ms : List Mention) → owner < size → list_all (λ (c : ClashModel). ltb c.owner size) (map (λ m. record { owner = owner; name = m.name }) ms) ≡ true
clashes_by size owner [] lt = refl
clashes_by size owner (m ∷ ms) lt = and_from _ _ (lt-ltb owner size lt) (clashes_by size owner ms lt)

-- ---- one more name, clause or conflict

restanza : (n : NotesModel) (s : Option Stanza) → Sound n → Sound (with_stanza n s)
restanza n s h = record { few = h.few; room = h.room; needs_have_owners = h.needs_have_owners; clashes_have_owners = h.clashes_have_owners }

named : (n : NotesModel) (x : List ℕ) → Sound n → length n.names < limit → Inside (with_name n x)
named n x h lt =
    let more = length_push n.names x in
    record {
      sound = record {
        few = omega (arith, more);
        room = h.room;
        needs_have_owners = subst (λ (k : ℕ). list_all (λ (d : NeedModel). ltb d.owner k) n.needs ≡ true) (sym more) (owners_more (λ (d : NeedModel). d.owner) (length n.names) n.needs h.needs_have_owners);
        clashes_have_owners = subst (λ (k : ℕ). list_all (λ (c : ClashModel). ltb c.owner k) n.clashes ≡ true) (sym more) (owners_more (λ (c : ClashModel). c.owner) (length n.names) n.clashes h.clashes_have_owners);
      };
      some = omega (arith, more);
    }

name_added_lem : (n : NotesModel) (m : Mention) → Sound n → Gives Inside (name_added n m)
name_added_lem n m h =
    cond_both (is_some (look_up 0 n.names m.name)) _ _ (Gives Inside) (λ e. tt)
    (λ e. cond_both (ltb (length n.names) limit) _ _ (Gives Inside) (λ lt. named n m.name h (ltb-true (length n.names) limit lt)) (λ le. tt))

both_added : (r : Relation) (n : NotesModel) (ms : List Mention) → Inside n → Gives Inside (added r n ms)
both_added Depends n ms i =
    cond_both (ltb (length n.needs) max_clauses) _ _ (Gives Inside)
    (λ lt. record {
      sound = record {
        few = i.sound.few;
        room = omega (arith, ltb-true (length n.needs) max_clauses lt, length_push n.needs (record { owner = owner_of n; names = map (λ m. m.name) ms }));
        needs_have_owners = all_append (λ (d : NeedModel). ltb d.owner (length n.names)) n.needs (record { owner = owner_of n; names = map (λ m. m.name) ms } ∷ []) i.sound.needs_have_owners (and_from _ _ (lt-ltb (owner_of n) (length n.names) (omega (arith, i.some))) refl);
        clashes_have_owners = i.sound.clashes_have_owners;
      };
      some = i.some;
    })
    (λ le. tt)
both_added Conflicts n ms i = record {
  sound = record {
    few = i.sound.few;
    room = i.sound.room;
    needs_have_owners = i.sound.needs_have_owners;
    clashes_have_owners = all_append (λ (c : ClashModel). ltb c.owner (length n.names)) n.clashes _ i.sound.clashes_have_owners (clashes_by (length n.names) (owner_of n) ms (omega (arith, i.some)));
  };
  some = i.some;
}

-- ---- values

alone_keeps : (n : NotesModel) (ts : List Token) → Inside n → Gives Inside (alone ts n)
alone_keeps n [] i = i
alone_keeps n (t ∷ ts) i = tt

single_keeps : (e : ℕ) (n : NotesModel) (ts : List Token) → Sound n → Gives Inside (single e n ts)
single_keeps e n [] h = tt
single_keeps e n (Misnamed p ∷ ts) h = tt
single_keeps e n (Comma p ∷ ts) h = tt
single_keeps e n (Bar p ∷ ts) h = tt
single_keeps e n (Named m ∷ ts) h = then Inside Inside (name_added n m) (alone ts) (name_added_lem n m h) (λ o. alone_keeps o ts)

listed_keeps : (r : Relation) (e : ℕ) (n : NotesModel) (front : List Mention) (ts : List Token) → Inside n → Gives Inside (listed r e n front ts)
listed_keeps r e n front [] i = tt
listed_keeps r e n front (Misnamed p ∷ ts) i = tt
listed_keeps r e n front (Comma p ∷ ts) i = tt
listed_keeps r e n front (Bar p ∷ ts) i = tt
listed_keeps r e n front (Named m ∷ []) i = both_added r n (front ++ m ∷ []) i
listed_keeps r e n front (Named m ∷ Named o ∷ ts) i = tt
listed_keeps r e n front (Named m ∷ Misnamed p ∷ ts) i = tt
listed_keeps r e n front (Named m ∷ Comma p ∷ ts) i = then Inside Inside (added r n (front ++ m ∷ [])) (λ o. listed r e o [] ts) (both_added r n (front ++ m ∷ []) i) (λ o j. listed_keeps r e o [] ts j)
listed_keeps r e n front (Named m ∷ Bar p ∷ ts) i = cond_both (bars r) _ _ (Gives Inside) (λ h. listed_keeps r e n (front ++ m ∷ []) ts i) (λ h. tt)

related_keeps : (r : Relation) (e : ℕ) (n : NotesModel) (ts : List Token) → Inside n → Gives Inside (related r e n ts)
related_keeps r e n [] i = i
related_keeps r e n (t ∷ ts) i = listed_keeps r e n [] (t ∷ ts) i

-- ---- lines

-- between two stanzas, and in one
in_keeps : (t : Option Stanza) (n : NotesModel) (l : LineModel) (h : Heading) → is_some t ≡ is_some n.stanza → Read n → Gives Read (step_in t n l h)
in_keeps None n l Empty e s = record { sound = restanza n _ s.sound; begun = λ b. absurd (true≢false (sym b)) }
in_keeps None n l Continued e s = tt
in_keeps None n l Package e s = weaker Inside Read (single (end_of l) n (value_of l)) read (single_keeps (end_of l) n (value_of l) s.sound)
in_keeps None n l (Related r) e s = tt
in_keeps None n l Skipped e s = tt
in_keeps None n l Malformed e s = tt
in_keeps (Some t) n l Empty e s = record { sound = restanza n _ s.sound; begun = λ b. absurd (true≢false (sym b)) }
in_keeps (Some t) n l Continued e s = cond_both t.skipping _ _ (Gives Read) (λ f. s) (λ f. tt)
in_keeps (Some t) n l Package e s = tt
in_keeps (Some t) n l (Related r) e s =
    cond_both (has t r) _ _ (Gives Read) (λ f. tt)
    (λ f. let m = with_stanza n (Some (with t r)) in
    let i : Inside m = record { sound = restanza n _ s.sound; some = s.begun (sym e) } in
    weaker Inside Read (related r (end_of l) m (value_of l)) read (related_keeps r (end_of l) m (value_of l) i))
in_keeps (Some t) n l Skipped e s = record { sound = restanza n _ s.sound; begun = λ b. s.begun (sym e) }
in_keeps (Some t) n l Malformed e s = tt

step_keeps : (n : NotesModel) (l : LineModel) (h : Heading) → Read n → Gives Read (step n l h)
step_keeps n l h s = in_keeps n.stanza n l h refl s

stanzas_keep : (n : NotesModel) (ls : List LineModel) → Read n → Gives Read (stanzas n ls)
stanzas_keep n [] s = s
stanzas_keep n (l ∷ ls) s = then Read Read (step n l (heading_of l.text)) (λ m. stanzas m ls) (step_keeps n l (heading_of l.text) s) (λ m t. stanzas_keep m ls t)

reading_keeps : (file : List ℕ) → Gives Read (reading file)
reading_keeps file =
    cond_both (ltb max_bytes (length file)) _ _ (Gives Read) (λ e. tt)
    (λ e. stanzas_keep start (lines false 0 file) (record { sound = record { few = omega arith; room = omega arith; needs_have_owners = refl; clashes_have_owners = refl }; begun = λ b. absurd (true≢false (sym b)) }))

-- what was read from a file is sound
pub reading_sound : (file : List ℕ) (n : NotesModel) → reading file ≡ Ok n → Sound n
reading_sound file n e = (subst (Gives Read) e (reading_keeps file)).sound
