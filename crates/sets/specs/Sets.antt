-- A set of component numbers is a natural number: i is a member where its binary digit i is 1.
-- Nothing here but `with_member` and `below` knows how many components there can be.
use Rattle.std.specs.Prelude.{◌≡◌, ℕ, zero, suc, ◌+◌, ◌-◌, ◌/◌, ◌%◌, ◌^◌, ◌<◌, min, Bool, true, false, cond, not, ◌&&◌, List, [], ◌∷◌, ◌++◌, length, ◌==◌, bit_and, bit_or, bit_xor, nat_lt, fold}
use Rattle.std.specs.List.{list_any}
use Rattle.sets.specs.Limit.{limit}

-- whether i is a member of s
unfoldable pub has : ℕ → ℕ → Bool
has s i = s / 2 ^ i % 2 == 1

-- i is a member of s
abbrev pub Has : ℕ → ℕ → Type 0
Has s i = has s i ≡ true

-- every member of s is one of t
abbrev pub Subset : ℕ → ℕ → Type 0
Subset s t = (i : ℕ) → Has s i → Has t i

-- no number is a member of both
abbrev pub Apart : ℕ → ℕ → Type 0
Apart s t = (i : ℕ) → Has s i → Has t i → ⊥

-- some number is a member of both
pub record Meet (s t : ℕ) : Type 0 where
  pub at : ℕ
  pub one : Has s at
  pub other : Has t at

-- some member of s is not one of t
pub record Beyond (s t : ℕ) : Type 0 where
  pub at : ℕ
  pub inside : Has s at
  pub outside : has t at ≡ false

-- whether every member of s is one of t
unfoldable pub within : ℕ → ℕ → Bool
within s t = bit_and s t == s

-- whether some number is a member of both
unfoldable pub meets : ℕ → ℕ → Bool
meets s t = not (bit_and s t == 0)

-- the members of s that are not members of t
unfoldable pub minus : ℕ → ℕ → ℕ
minus s t = bit_xor s (bit_and s t)

-- s with i, if i can be a member at all
unfoldable pub with_member : ℕ → ℕ → ℕ
with_member s i = cond (nat_lt i limit) (bit_or s (2 ^ i)) s

-- s with each of these numbers
abbrev pub with_members : ℕ → List ℕ → ℕ
with_members = fold with_member

-- s is the set of these numbers, but those that can be no members
pub record MadeOf (is : List ℕ) (s : ℕ) : Type 0 where
  pub value : s ≡ with_members 0 is
  pub members : (i : ℕ) → has s i ≡ (list_any (λ j. i == j) is && nat_lt i limit)

-- the numbers below n that can be members
unfoldable pub below : ℕ → ℕ
below n = 2 ^ min n limit - 1

-- the numbers below n that pass the test p
unfoldable pub collect : (ℕ → Bool) → ℕ → ℕ
collect p zero = 0
collect p (suc n) = cond (p n) (2 ^ n) 0 + collect p n

-- the members of s below n, ascending
unfoldable pub members : ℕ → ℕ → List ℕ
members s zero = []
members s (suc n) = members s n ++ cond (has s n) (n ∷ []) []

-- how many members s has
unfoldable pub count : ℕ → ℕ
count s = length (members s limit)

-- i is the least member of s
abbrev pub First : ℕ → ℕ → Type 0
First s i = Has s i × ((j : ℕ) → j < i → has s j ≡ false)
