use Rattle.std.proofs.Common.{◌≡◌, ◌+◌, ◌<◌, min, length, drop, suc, sym, ap}
use Rattle.std.proofs.Common.{◌∙◌, ap₂, refl, true, add-one, arith, option_map}
use Rattle.std.specs.Prelude.{Some, slice_get}
use Rattle.std.proofs.lemmas.List.{drop-drop, length-drop}
use Rattle.std.proofs.lemmas.Option.{slice_get_read}
use Rattle.hub_model.specs.Path.{is_first}
use Rattle.hub_revtree.specs.Common.{common as common_of}
use Rattle.hub_revtree.proofs.CommonLemmas.{common_end, common_on, plus_one}
use Rattle.hub_revtree.proofs.run.Run.common.Goals as goal

pub returns : goal.returns
returns c =
    let p = c.args.revisions.now in
    let q = drop c.args.at c.args.self.now in
    let all : c.loop-place.place ≡ min (length q) (length p) = omega (
      arith,
      c.loop-place-test.false,
      c.loop-place.auto.place-end,
      c.min-count.ensures,
      c.len.ensures,
      length-drop c.args.at c.args.self.now,
    ) in
    let same : c.min-count.result ≡ c.loop-place.place =
    omega (arith, c.loop-place-test.false, c.loop-place.auto.place-end) in
    sym (c.loop-place.invariant
    ∙ ap (option_map (λ n. n + c.loop-place.place)) (common_end p q c.loop-place.place all)
    ∙ ap Some (let sum : 0 + c.loop-place.place ≡ c.min-count.result = omega (arith, same) in sum))

pub loop-place-preserved : goal.loop-place-preserved
loop-place-preserved c =
    let p = c.args.revisions.now in
    let q = drop c.args.at c.args.self.now in
    let k = c.loop-place.place in
    let x = c.index-revisions-place.result in
    let low : k < length p =
    omega (arith, c.loop-place-test.true, c.loop-place.auto.place-end, c.min-count.ensures) in
    let here : slice_get p k ≡ Some x = slice_get_read p _ k x refl low c.index-revisions-place.is in
    let same : is_first x (drop k q) ≡ true =
    ap₂ is_first (sym c.among.ensures) (drop-drop k c.args.at c.args.self.now)
    ∙ (sym c.is_at.ensures ∙ c.if-not-is_at.false) in
    c.loop-place.invariant
    ∙ ap (option_map (λ n. n + k)) (common_on p q k x here same)
    ∙ plus_one k (common_of (drop (suc k) p) (drop (suc k) q))
    ∙ ap (λ m. option_map (λ n. n + (k + 1)) (common_of (drop m p) (drop m q))) (sym (add-one k))
