use Rattle.std.proofs.Common.{◌≡◌, List, [], ◌∷◌, ◌++◌, replicate, refl}
use Rattle.sets.specs.Sets.{has, within, with_member, below}
use Rattle.sheets.specs.Examples.{need_of}
use Rattle.sheets.specs.declared.clause.Clause.{Clause}
use Rattle.catalogue.specs.Drafts.{Draft, unrelated, clash_made}
use Rattle.catalogue.specs.Examples.{eight}
use Rattle.catalogue.proofs.Calls.{obeyed, need_obeyed}
use Rattle.dawujeki.proofs.relate.Goals as goal

-- the drafts between the calls
with_needs : List Clause → Draft
with_needs cs = record { clauses = cs; records = replicate 8 0 }

with_loop : Draft
with_loop = record { clauses = eight.clauses; records = replicate 4 0 ++ 0b10 ∷ replicate 3 0 }

pub returns : goal.returns
unfolding with_needs with_loop has within with_member below
returns c =
    let d0 = c.args.catalogue.now in
    let d1 = c.add_need.new.self in
    let d2 = c.add_need-2.new.self in
    let d3 = c.add_need-3.new.self in
    let d4 = c.add_need-4.new.self in
    let d5 = c.add_need-5.new.self in
    let d6 = c.add_clash.new.self in
    let d7 = c.add_clash-2.new.self in
    let x1 = with_needs (need_of 0 0b10 ∷ []) in
    let x2 = with_needs (need_of 0 0b10 ∷ need_of 0 0b1100 ∷ []) in
    let x3 = with_needs (need_of 0 0b10 ∷ need_of 0 0b1100 ∷ need_of 1 0b1 ∷ []) in
    let x4 = with_needs (need_of 0 0b10 ∷ need_of 0 0b1100 ∷ need_of 1 0b1 ∷ need_of 4 0b100000 ∷ []) in
    let x5 = with_needs eight.clauses in
    let e1 : d1 ≡ x1 = (need_obeyed 0 0b10 c.from.result d0 d1 (unrelated 8) x1 _ c.from.ensures.value c.requires refl c.add_need.ensures.goes).1 in
    let e2 : d2 ≡ x2 = (need_obeyed 0 0b1100 c.from-fonts.result d1 d2 x1 x2 _ c.from-fonts.ensures.value e1 refl c.add_need-2.ensures.goes).1 in
    let e3 : d3 ≡ x3 = (need_obeyed 1 0b1 c.from-2.result d2 d3 x2 x3 _ c.from-2.ensures.value e2 refl c.add_need-3.ensures.goes).1 in
    let e4 : d4 ≡ x4 = (need_obeyed 4 0b100000 c.from-3.result d3 d4 x3 x4 _ c.from-3.ensures.value e3 refl c.add_need-4.ensures.goes).1 in
    let e5 : d5 ≡ x5 = (need_obeyed 5 0b11000000 c.from-codecs.result d4 d5 x4 x5 _ c.from-codecs.ensures.value e4 refl c.add_need-5.ensures.goes).1 in
    let e6 : d6 ≡ with_loop = (obeyed (λ d. clash_made d 4 1) d5 x5 with_loop d6 tt _ e5 refl c.add_clash.ensures.goes).1 in
    (obeyed (λ d. clash_made d 6 7) d6 with_loop eight d7 tt _ e6 refl c.add_clash-2.ensures.goes).1
