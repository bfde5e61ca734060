-- Kinds of bytes, and the rule for a name.
use Rattle.std.specs.Prelude.{ℕ, Bool, not, ◌&&◌, ◌||◌, List, length, ◌==◌, nat_le, slice_index}
use Rattle.std.specs.List.{list_all}

-- a space or a tab
abbrev pub blank : ℕ → Bool
blank b = b == 32 || b == 9

-- no line feed
abbrev pub in_line : ℕ → Bool
in_line b = not (b == 10)

-- a to z
abbrev pub lower : ℕ → Bool
lower b = nat_le 97 b && nat_le b 122

-- A to Z
abbrev pub upper : ℕ → Bool
upper b = nat_le 65 b && nat_le b 90

-- 0 to 9
abbrev pub digit : ℕ → Bool
digit b = nat_le 48 b && nat_le b 57

-- what the label of a field begins with
abbrev pub letter : ℕ → Bool
letter b = lower b || upper b

-- what the label of a field consists of: letters, digits, minus
abbrev pub in_label : ℕ → Bool
in_label b = letter b || digit b || b == 45

-- what stands in a value between blanks, commas and bars
abbrev pub in_run : ℕ → Bool
in_run b = not (blank b || b == 44 || b == 124)

-- what a good name begins with
abbrev pub starts : ℕ → Bool
starts b = lower b || digit b

-- what a good name consists of: those and plus, minus, point
abbrev pub in_name : ℕ → Bool
in_name b = starts b || b == 43 || b == 45 || b == 46

-- the rule for a name: 2 to 64 bytes, of those that a name consists of, the first one of those that it begins with
abbrev pub good : List ℕ → Bool
good n = nat_le 2 (length n) && nat_le (length n) 64 && starts (slice_index n 0) && list_all in_name n
