-- What the words of the code are, in terms of the definitions, for the search.
use Rattle.std.proofs.Common.{◌≡◌, ℕ, ◌-◌, ◌^◌, ◌<◌, ◌≤◌, ◌*◌, ◌%◌, false, not, eqb, ltb, refl}
use Rattle.std.specs.Bool.{MatchBool}
use Rattle.std.proofs.lemmas.Nat.{or_lt, one_shl}
use lib.Bits.{bit_and, bit_or}
use Rattle.sets.specs.Limit.{limit}
use Rattle.sets.specs.Sets.{has, minus, within, meets, Subset, Beyond, Meet, Apart}
use Rattle.sets.proofs.Membership.{sets, has_full, has_without, with_past, with_is, without_past, below_all, below_some, and_not, has_above, same_members}
use Rattle.sets.proofs.Order.{meets_cases, within_cases}
use Rattle.sets.proofs.Counts.{first_member, ones_count}
use Rattle.sets.proofs.Loops.{has_tested}

-- ---- within the limit

pub one_shifted : (i : ℕ) → i < limit → 1 * 2 ^ i % 2 ^ limit ≡ 2 ^ i
one_shifted i = one_shl i limit

pub or_small : (a b : ℕ) → a < 2 ^ limit → b < 2 ^ limit → bit_or a b < 2 ^ limit
or_small a b = or_lt limit a b

pub and_complement : (a b : ℕ) → a < 2 ^ limit → b < 2 ^ limit → bit_and a (2 ^ limit - 1 - b) ≡ minus a b
and_complement a b = and_not limit a b

pub has_all : (i : ℕ) → has (2 ^ limit - 1) i ≡ ltb i limit
has_all i = has_full limit i

pub has_past : (a i : ℕ) → a < 2 ^ limit → limit ≤ i → has a i ≡ false
has_past a i = has_above limit a i

-- ---- tests

pub is_within : (a b : ℕ) → eqb (bit_and a b) a ≡ within a b
unfolding within
is_within a b = refl

pub is_within_cases : (a b : ℕ) → MatchBool (eqb (bit_and a b) a) (Subset a b) (Beyond a b)
unfolding within
is_within_cases a b = within_cases a b

pub is_meeting : (a b : ℕ) → not (eqb (bit_and a b) 0) ≡ meets a b
unfolding meets
is_meeting a b = refl

pub is_meeting_cases : (a b : ℕ) → MatchBool (not (eqb (bit_and a b) 0)) (Meet a b) (Apart a b)
unfolding meets
is_meeting_cases a b = meets_cases a b

pub ruleset calls = (sets, one_shifted, has_without, has_all, has_past, with_past, with_is, without_past, below_all, below_some, and_complement, same_members, is_within, is_within_cases, is_meeting, is_meeting_cases, first_member, ones_count, has_tested, or_small)
