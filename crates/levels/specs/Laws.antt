-- The law of a reduction.
use Rattle.std.specs.Prelude.{◌≡◌, ℕ, Ok, Err, Result}
use Rattle.refusals.specs.declared.Refusal.{Refusal}
use Rattle.sets.specs.Sets.{Has, Subset}
use Rattle.sheets.specs.Sheets.{SheetModel, Formed}
use Rattle.sheets.specs.Health.{Healthy, Coinstallable}
use Rattle.levels.specs.Piles.{Own, Rules, image_set}

-- Over the sheet b below stands the sheet t, with the image f upwards and the lift g downwards: the same things can stand together.
pub record Keeps (b t : SheetModel) (f g : ℕ → ℕ) : Type 0 where
  -- images are present here, lifts below
  pub images : (i : ℕ) → Has b.present i → Has t.present (f i)
  pub lifts : (x : ℕ) → Subset x t.present → Subset (g x) b.present
  -- a set is co-installable below exactly when the set of its images is co-installable here
  pub upwards : (x : ℕ) → Subset x b.present → Coinstallable b x → Coinstallable t (image_set f b.size x)
  pub downwards : (x : ℕ) → Subset x b.present → Coinstallable t (image_set f b.size x) → Coinstallable b x
  -- a healthy installation lifts to a healthy one that holds every component whose image it holds
  pub healthy : (x : ℕ) → Healthy t x → Healthy b (g x)
  pub holds : (x i : ℕ) → Healthy t x → Has b.present i → Has x (f i) → Has (g x) i

-- what a reduction owes the level below it
pub record Law (b : SheetModel) (o : Own) : Type 0 where
  pub formed : Formed o.sheet
  pub keeps : Keeps b o.sheet o.image o.lift

-- what is left after a step: a declined one alters nothing
abbrev pub settled : Own → Result Own Refusal → Own
settled o (Ok n) = n
settled o (Err e) = o

-- what a reduction can come to over the sheet b, by steps and sweeps from its start
pub data Reached (r : Rules) (b : SheetModel) : Own → Type 0 where
  started : Reached r b (r.start b)
  stepped : {o : Own} (u v : ℕ) → Reached r b o → Reached r b (settled o (r.moved b o u v))
  swept : {o : Own} → Reached r b o → Reached r b (r.swept b o).left

-- A reduction that keeps its law: over every sheet it starts with that sheet, and whatever its steps and sweeps come to keeps the law.
pub record Sound (r : Rules) : Type 0 where
  pub starts : (b : SheetModel) → Formed b → (r.start b).sheet ≡ b
  pub lawful : (b : SheetModel) → Formed b → (o : Own) → Reached r b o → Law b o
