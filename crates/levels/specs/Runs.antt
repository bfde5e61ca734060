-- The main law, over whole runs: whatever is done to a pile, its ground stays, and at each of its levels the same things can stand together.
use Rattle.std.specs.Prelude.{◌≡◌, ℕ, List, fold}
use Rattle.sheets.specs.Sheets.{SheetModel, Formed}
use Rattle.levels.specs.Piles.{Rules, PileModel, ground, raised, top, base, image, lift}
use Rattle.levels.specs.Laws.{Keeps, Sound, settled}

-- what can be done to a pile: raising puts any reduction that keeps its law on top; steps and sweeps are those of the top; to read alters nothing
pub data Call : Type 0 where
  raise : (r : Rules) → Sound r → Call
  step : ℕ → ℕ → Call
  sweep : Call
  read : Call

-- a ground takes no step and no sweep
abbrev pub after_step : PileModel → ℕ → ℕ → PileModel
after_step (ground s) u v = ground s
after_step (raised p r o) u v = raised p r (settled o (r.moved (top p) o u v))

abbrev pub after_sweep : PileModel → PileModel
after_sweep (ground s) = ground s
after_sweep (raised p r o) = raised p r (r.swept (top p) o).left

-- the pile after a call
abbrev pub after : PileModel → Call → PileModel
after p (raise r s) = raised p r (r.start (top p))
after p (step u v) = after_step p u v
after p sweep = after_sweep p
after p read = p

-- the pile after a run of calls, the first of them first
abbrev pub run : PileModel → List Call → PileModel
run = fold after

-- the level keeps faith with the ground s
pub record Faithful (s : SheetModel) (p : PileModel) : Type 0 where
  pub grounded : base p ≡ s
  pub keeps : Keeps s (top p) (image p) (lift p)

-- P holds of the pile up to each of its levels
abbrev pub Throughout : (PileModel → Type 0) → PileModel → Type 0
Throughout P (ground s) = P (ground s)
Throughout P (raised p r o) = Throughout P p × P (raised p r o)

-- Over every ground and after every run, with any reductions that keep their law, each level keeps faith with the ground.
abbrev pub MainLaw : Type 0
MainLaw = (s : SheetModel) → Formed s → (cs : List Call) → Throughout (Faithful s) (run (ground s) cs)

-- the pile is one that a run made of a ground
pub record Made (p : PileModel) : Type 0 where
  pub from : SheetModel
  pub formed : Formed from
  pub calls : List Call
  pub is : p ≡ run (ground from) calls
