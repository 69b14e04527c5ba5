use Rattle.std.proofs.Common.{◌≡◌, ◌∙◌, ℕ, ◌+◌, ◌-◌, ◌<◌, ◌≤◌, Bool, false, List, ◌∷◌, length, get_or, drop, sym, ap, arith}
use Rattle.std.specs.List.{list_any}
use Rattle.std.specs.Prelude.{◌||◌}
use Rattle.std.proofs.lemmas.List.{drop_all, drop_more}
use Rattle.hub_model.specs.Path.{is_first}
use Rattle.hub_revtree.specs.Stem.{Stem}
use Rattle.hub_revtree.proofs.LinkLemmas.{heads_inner, heads_nothing, heads_there}
use Rattle.hub_revtree.proofs.StemLemmas.{rev_within, within_stem}
use Rattle.hub_revtree.proofs.StemLooks.{head_found, none_found, read_stem}
use Rattle.std.proofs.lemmas.Option.{slice_get_within}
use Rattle.hub_revtree.proofs.stems.headed.Goals as goal

pub returns-then-place-eq0 : goal.returns-then-place-eq0
returns-then-place-eq0 c =
    let i =
    within_stem c.args.stems.now c.in-Some-place.place
    (rev_within c.args.stems.now c.in-Some-place.place c.args.rev.now c.in-Some-place.ensures.found.0) in
    let low = slice_get_within c.args.stems.now c.in-Some-place.place.stem i.0 i.1 in
    heads_there c.args.stems.now c.requires.stems c.args.rev.now c.in-Some-place.place
    c.index-stems-place.result c.in-Some-place.ensures.found c.if-place-eq0.true
    (read_stem c.args.stems.now c.in-Some-place.place.stem c.index-stems-place.result low
    c.index-stems-place.is)

pub returns-else-place-eq0 : goal.returns-else-place-eq0
returns-else-place-eq0 c =
    heads_inner c.args.stems.now c.requires.stems c.args.rev.now c.in-Some-place.place
    c.in-Some-place.ensures.found c.if-place-eq0.false

pub returns-in-None : goal.returns-in-None
returns-in-None c = heads_nothing c.args.stems.now c.requires.stems c.args.rev.now c.in-None.ensures.none

pub returns-then-is_head : goal.returns-then-is_head
returns-then-is_head c =
    head_found c.args.stems.now c.requires.stems c.args.rev.now
    (c.loop-number.number - 1) c.index-stems-number.result
    (read_stem c.args.stems.now (c.loop-number.number - 1) c.index-stems-number.result
    (omega (arith, c.loop-number.auto.number, c.loop-number-test.true)) c.index-stems-number.is)
    (sym (rw c.among-sought.ensures at c.is_head.ensures) ∙ c.if-is_head.true)

pub returns : goal.returns
returns c =
    none_found (λ s. is_first c.args.rev.now s.revisions) c.args.stems.now
    (let start : c.loop-number.number ≡ 0 = omega (arith, c.loop-number-test.false) in
    rw start at c.loop-number.invariant)

-- no stem comes after the last one
nothing_left : (P : Stem → Bool) (stems : List Stem) → list_any P (drop (length stems) stems) ≡ false
nothing_left P stems = ap (list_any P) (drop_all (length stems) stems (omega arith))

-- no stem from here on passes, where none after this one does and this one does not
none_from : (P : Stem → Bool) (stems : List Stem) (n : ℕ) (stem : Stem) → 0 < n → n ≤ length stems
    → stem ≡ get_or stems (n - 1) stem → P stem ≡ false → list_any P (drop n stems) ≡ false
    → list_any P (drop (n - 1) stems) ≡ false
none_from P stems n stem some low is other rest =
    let next : n ≡ n - 1 + 1 = omega arith in
    let here : drop (n - 1) stems ≡ stem ∷ drop (n - 1 + 1) stems =
    drop_more stems (n - 1) stem (omega arith) ∙ ap (λ s. s ∷ drop (n - 1 + 1) stems) (sym is) in
    ap (list_any P) here
    ∙ ap (λ b. b || list_any P (drop (n - 1 + 1) stems)) other
    ∙ ap (λ k. list_any P (drop k stems)) (sym next)
    ∙ rest

pub loop-number-init : goal.loop-number-init
loop-number-init c = nothing_left (λ s. is_first c.args.rev.now s.revisions) c.args.stems.now

pub loop-number-preserved : goal.loop-number-preserved
loop-number-preserved c =
    none_from (λ s. is_first c.args.rev.now s.revisions) c.args.stems.now c.loop-number.number
    c.index-stems-number.result (omega (arith, c.loop-number-test.true))
    (omega (arith, c.loop-number.auto.number, c.loop-number-test.true)) c.index-stems-number.is
    (sym (rw c.among-sought.ensures at c.is_head.ensures) ∙ c.if-is_head.false) c.loop-number.invariant
