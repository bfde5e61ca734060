-- Levels that keep faith, one over the other, and runs of calls.
use Rattle.std.proofs.Common.{◌≡◌, ℕ, List, [], ◌∷◌, ◌++◌, Ok, Err, Result, sym, refl, ap, ◌∙◌, subst}
use Rattle.std.proofs.lemmas.List.Sums.{fold-append}
use Rattle.refusals.specs.declared.Refusal.{Refusal}
use Rattle.sets.specs.Sets.{Has, Subset}
use Rattle.sheets.specs.Sheets.{SheetModel, Formed}
use Rattle.sheets.specs.Health.{Coinstallable}
use Rattle.sheets.proofs.Forms.{present_below}
use Rattle.levels.specs.Piles.{Own, Rules, PileModel, ground, raised, top, base, image, lift, image_set}
use Rattle.levels.specs.Laws.{Keeps, Law, Sound, Reached, started, stepped, swept, settled}
use Rattle.levels.specs.Runs.{Call, raise, step, sweep, read, after, run, Faithful, Throughout, MainLaw, Made}
use Rattle.levels.proofs.Images.{image_from, image_again, image_same}

-- ---- composition

pub keeps_itself : (s : SheetModel) → Formed s → Keeps s s (λ i. i) (λ x. x)
keeps_itself s w = record {
  images = λ i h. h;
  lifts = λ x h. h;
  upwards = λ x i c. subst (Coinstallable s) (sym (same x i)) c;
  downwards = λ x i c. subst (Coinstallable s) (same x i) c;
  healthy = λ x h. h;
  holds = λ x i h p q. q;
}
  where
    same : (x : ℕ) → Subset x s.present → image_set (λ i. i) s.size x ≡ x
    same x i = image_same s.size x (λ j h. present_below s w j (i j h))

pub keeps_over : (a b c : SheetModel) (f g f' g' : ℕ → ℕ) → Formed b → Keeps a b f g → Keeps b c f' g' → Keeps a c (λ i. f' (f i)) (λ x. g (g' x))
keeps_over a b c f g f' g' w k l = record {
  images = λ i h. l.images (f i) (k.images i h);
  lifts = λ x s. k.lifts (g' x) (l.lifts x s);
  upwards = λ x s o. subst (Coinstallable c) (sym (again x s)) (l.upwards (image_set f a.size x) (inside x s) (k.upwards x s o));
  downwards = λ x s o. k.downwards x s (l.downwards (image_set f a.size x) (inside x s) (subst (Coinstallable c) (again x s) o));
  healthy = λ x h. k.healthy (g' x) (l.healthy x h);
  holds = λ x i h p q. k.holds (g' x) i (l.healthy x h) p (l.holds x (f i) h (k.images i p) q);
}
  where
    again : (x : ℕ) → Subset x a.present → image_set (λ i. f' (f i)) a.size x ≡ image_set f' b.size (image_set f a.size x)
    again x s = image_again f f' a.size b.size x (λ i lt h. present_below b w (f i) (k.images i (s i h)))

    inside : (x : ℕ) → Subset x a.present → Subset (image_set f a.size x) b.present
    inside x s j h = let r = image_from f a.size x j h in subst (Has b.present) r.is (k.images r.at (s r.at r.inside))

-- ---- piles over the ground s whose every reduction keeps its law

pub data Sturdy (s : SheetModel) : PileModel → Type 0 where
  lone : Sturdy s (ground s)
  more : (p : PileModel) (r : Rules) (o : Own) → Sturdy s p → Sound r → Reached r (top p) o → Sturdy s (raised p r o)

pub sturdy_after : (s : SheetModel) (p : PileModel) (c : Call) → Sturdy s p → Sturdy s (after p c)
sturdy_after s p (raise r d) h = more p r (r.start (top p)) h d started
sturdy_after s _ (step u v) lone = lone
sturdy_after s _ (step u v) (more p r o h d m) = more p r (settled o (r.moved (top p) o u v)) h d (stepped u v m)
sturdy_after s _ sweep lone = lone
sturdy_after s _ sweep (more p r o h d m) = more p r (r.swept (top p) o).left h d (swept m)
sturdy_after s p read h = h

pub sturdy_run : (s : SheetModel) (p : PileModel) (cs : List Call) → Sturdy s p → Sturdy s (run p cs)
sturdy_run s p [] h = h
sturdy_run s p (c ∷ cs) h = sturdy_run s (after p c) cs (sturdy_after s p c h)

pub base_is : (s : SheetModel) (p : PileModel) → Sturdy s p → base p ≡ s
base_is s _ lone = refl
base_is s _ (more p r o h d m) = base_is s p h

module _ (s : SheetModel) (w : Formed s) where
  pub formed_top : (p : PileModel) → Sturdy s p → Formed (top p)
  formed_top _ lone = w
  formed_top _ (more p r o h d m) = (d.lawful (top p) (formed_top p h) o m).formed

  pub faithful : (p : PileModel) → Sturdy s p → Keeps s (top p) (image p) (lift p)
  faithful _ lone = keeps_itself s w
  faithful _ (more p r o h d m) = keeps_over s (top p) o.sheet (image p) (lift p) o.image o.lift (formed_top p h) (faithful p h) (d.lawful (top p) (formed_top p h) o m).keeps

  pub throughout : (p : PileModel) → Sturdy s p → Throughout (Faithful s) p
  throughout _ lone = record { grounded = refl; keeps = keeps_itself s w }
  throughout _ (more p r o h d m) = (throughout p h, record { grounded = base_is s p h; keeps = faithful (raised p r o) (more p r o h d m) })

-- ---- runs

pub main_law : MainLaw
main_law s w cs = throughout s w (run (ground s) cs) (sturdy_run s (ground s) cs lone)

-- one call more
pub made_after : (p q : PileModel) (c : Call) → Made p → q ≡ after p c → Made q
made_after p q c m is = record {
  from = m.from;
  formed = m.formed;
  calls = m.calls ++ c ∷ [];
  is = is ∙ ap (λ q. after q c) m.is ∙ sym (fold-append after (ground m.from) m.calls (c ∷ []));
}

pub made_keeps : (p : PileModel) → Made p → Throughout (Faithful (base p)) p
made_keeps p m =
    let h = subst (Sturdy m.from) (sym m.is) (sturdy_run m.from (ground m.from) m.calls lone) in
    subst (λ s. Throughout (Faithful s) p) (sym (base_is m.from p h)) (throughout m.from m.formed p h)

-- ---- from an invariant of its own a reduction has its law

pub sound_from : (r : Rules) (keeps : SheetModel → Own → Type 0)
    → ((b : SheetModel) → Formed b → (r.start b).sheet ≡ b)
    → ((b : SheetModel) → Formed b → keeps b (r.start b))
    → ((b : SheetModel) (o n : Own) (u v : ℕ) → Formed b → keeps b o → r.moved b o u v ≡ Ok n → keeps b n)
    → ((b : SheetModel) (o : Own) → Formed b → keeps b o → keeps b (r.swept b o).left)
    → ((b : SheetModel) (o : Own) → Formed b → keeps b o → Law b o)
    → Sound r
sound_from r keeps begins starts steps sweeps gives = record { starts = begins; lawful = λ b w o m. gives b o w (kept b w m) }
  where
    kept : (b : SheetModel) → Formed b → {o : Own} → Reached r b o → keeps b o
    kept b w started = starts b w
    kept b w (stepped {o} u v m) = go (r.moved b o u v) refl (kept b w m)
      where
        go : (q : Result Own Refusal) → r.moved b o u v ≡ q → keeps b o → keeps b (settled o q)
        go (Ok n) e k = steps b o n u v w k e
        go (Err x) e k = k
    kept b w (swept {o} m) = sweeps b o w (kept b w m)
