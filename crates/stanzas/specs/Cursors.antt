-- What a cursor has before it, and what its calls read.
use Rattle.std.specs.Prelude.{◌≡◌, ℕ, ◌≤◌, Bool, true, false, List, [], ◌∷◌, ◌++◌, length, drop, Some, None, Ok, Err, Option, Result}
use Rattle.texts.specs.declared.faults.Fault.{Fault}
use Rattle.texts.specs.declared.spans.Span.{Span}
use Rattle.stanzas.specs.Tokens.{Mention, Token, Named, Misnamed, Comma, Bar, tokens}
use Rattle.stanzas.specs.Spans.{mention}
use Rattle.stanzas.specs.Notes.{NotesModel, and_then, added}
use Rattle.stanzas.specs.Values.{alone, single, listed, related}
use Rattle.stanzas.specs.declared.cursor.Cursor.{Cursor}
use Rattle.stanzas.specs.declared.cursor.Lexeme.{Lexeme}
use Rattle.stanzas.specs.declared.cursor.Lexeme.TheVariants as lexeme
use Rattle.stanzas.specs.declared.cursor.Separator.{Separator}
use Rattle.stanzas.specs.declared.cursor.Separator.TheVariants as separator
use Rattle.stanzas.specs.declared.lines.Relation.{Relation}

-- the tokens that are still to come
abbrev pub rest : Cursor → List Token
rest c = tokens false c.at (drop c.at c.text.now)

-- where the value ends
abbrev pub end : Cursor → ℕ
end c = length c.text.now

-- the token that was read from a text
abbrev pub token_of : List ℕ → Lexeme → Token
token_of text (lexeme.Name s) = Named (mention text s)
token_of text (lexeme.Misnamed p) = Misnamed p
token_of text (lexeme.Comma p) = Comma p
token_of text (lexeme.Bar p) = Bar p

-- a name that was read ends in the text
abbrev pub Inside : List ℕ → Lexeme → Type 0
Inside text (lexeme.Name s) = s.end ≤ length text
Inside text (lexeme.Misnamed p) = Unit {0}
Inside text (lexeme.Comma p) = Unit {0}
Inside text (lexeme.Bar p) = Unit {0}

abbrev pub Reads : List ℕ → Option Lexeme → List Token → List Token → Type 0
Reads text None ts us = (ts ≡ []) × (us ≡ [])
Reads text (Some t) ts us = (ts ≡ token_of text t ∷ us) × Inside text t

-- r is the first token of a, and b has the others before it
pub record Took (r : Option Lexeme) (a b : Cursor) : Type 0 where
  pub text : b.text.now ≡ a.text.now
  pub reads : Reads a.text.now r (rest a) (rest b)

-- the name at s is the first token of a, and b has the others before it
abbrev pub ReadsName : Span → Cursor → Cursor → Type 0
ReadsName s a b = (rest a ≡ Named (mention a.text.now s) ∷ rest b) × (s.end ≤ length a.text.now)

abbrev pub NameReads : (Cursor → Fault → Type 0) → Result Span Fault → Cursor → Cursor → Type 0
NameReads Due (Ok s) a b = ReadsName s a b
NameReads Due (Err x) a b = Due a x

-- q is the name with which a begins, or a fault that is due there
pub record NameRead (Due : Cursor → Fault → Type 0) (q : Result Span Fault) (a b : Cursor) : Type 0 where
  pub text : b.text.now ≡ a.text.now
  pub reads : NameReads Due q a b

-- the value of a Package, which begins at a, has the fault x
abbrev pub PackageFault : Cursor → Fault → Type 0
PackageFault a x = (n : NotesModel) → single (end a) n (rest a) ≡ Err x

-- q says whether nothing follows that name
abbrev pub Nothing : Result (Unit {0}) Fault → List Token → Type 0
Nothing (Ok u) ts = (n : NotesModel) → alone ts n ≡ Ok n
Nothing (Err x) ts = (n : NotesModel) → alone ts n ≡ Err x

-- what the value says from c on, where a name is due
abbrev pub onward : Relation → Cursor → NotesModel → List Mention → Result NotesModel Fault
onward r c n front = listed r (end c) n front (rest c)

-- the value of a list of names, where one is due at a, has the fault x
abbrev pub ListFault : Relation → Cursor → Fault → Type 0
ListFault r a x = (n : NotesModel) (front : List Mention) → onward r a n front ≡ Err x

-- what the value says after a name, by what stands there; clause has the names up to that one
abbrev pub after : Relation → Cursor → NotesModel → List Mention → Separator → Result NotesModel Fault
after r c n clause separator.Bar = onward r c n clause
after r c n clause separator.Comma = and_then (added r n clause) (λ m. onward r c m [])
after r c n clause separator.End = added r n clause

-- q is what stands after a name m before a
pub record SeparatorRead (r : Relation) (q : Result Separator Fault) (a b : Cursor) : Type 0 where
  pub text : b.text.now ≡ a.text.now
  pub reads : (n : NotesModel) (front : List Mention) (m : Mention) → listed r (end a) n front (Named m ∷ rest a) ≡ and_then q (after r b n (front ++ m ∷ []))
  pub shorter : length (rest b) ≤ length (rest a)

-- whether a value is empty, where it begins
abbrev pub Begins : Bool → List Token → Type 0
Begins true ts = ts ≡ []
Begins false ts = (r : Relation) (e : ℕ) (n : NotesModel) → related r e n ts ≡ listed r e n [] ts

pub record Begun (q : Bool) (a b : Cursor) : Type 0 where
  pub text : b.text.now ≡ a.text.now
  pub others : rest b ≡ rest a
  pub begins : Begins q (rest a)
