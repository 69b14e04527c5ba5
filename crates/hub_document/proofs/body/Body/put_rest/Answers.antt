use Rattle.std.proofs.Common.{◌≡◌, ◌≤◌, ◌<◌, ◌-◌, [], ◌∷◌, ◌++◌, length, take, drop, sym, ap, ◌∙◌, subst}
use Rattle.std.proofs.Common.{append-nil, arith}
use Rattle.std.proofs.lemmas.List.{length-drop, length-set, take_all}
use Rattle.hub_document.specs.Braced.{IsBraced}
use Rattle.hub_document.specs.Joined.{rest_text}
use Rattle.hub_document.proofs.AppendLemmas.{appended, appended_behind, lent_back, over_first}
use Rattle.hub_document.proofs.PartLemmas.{rest_none, rest_some}
use Rattle.hub_document.proofs.body.Body.put_rest.Goals as goal

pub returns-then-len-eq2 : goal.returns-then-len-eq2
returns-then-len-eq2 c =
    let text = c.deref.result.now in
    let rest = take (length text - 1) (drop 1 text) in
    let braced : IsBraced text = subst IsBraced (sym c.deref.ensures.value) c.self.invariant in
    let same : c.args.self.now ≡ text = sym c.self.view_is ∙ sym c.deref.ensures.value in
    let all : rest ≡ drop 1 text =
    take_all (length text - 1) (drop 1 text) (omega (arith, length-drop 1 text)) in
    let short : length text ≤ 2 = omega (arith, c.if-len-eq2.true, c.len.ensures, c.deref.ensures.len) in
    appended_behind c.extend_from_slice.result _ [] rest c.args.out.now.items c.args.out.now.items
    c.extend_from_slice.new.self.items (ap rest_text same ∙ rest_none text braced short ∙ sym all)
    (sym (append-nil c.args.out.now.items)) c.extend_from_slice.ensures.items

pub returns : goal.returns
returns c =
    let text = c.as_slice.result.now in
    let held = c.as_mut_slice.result.now in
    let braced : IsBraced text = subst IsBraced (sym c.as_slice.ensures.value) c.self.invariant in
    let same : c.args.self.now ≡ text = sym c.self.view_is ∙ sym c.as_slice.ensures.value in
    let long : 2 < length text =
    omega (arith, c.if-len-eq2.false, c.len.ensures, c.as_slice.ensures.len, braced.some) in
    appended _ _ _
    (lent_back _ _ _ (length-set held c.len-start.result 44 ∙ c.as_mut_slice.ensures.len)
    ∙ over_first c.args.out.now.items text held c.len-start.result 44
    (c.as_mut_slice.ensures.value ∙ c.in_ok-extend_from_slice.ensures.items) (omega (arith, c.len-start.ensures))
    (omega (arith, long))
    ∙ ap (λ l. c.args.out.now.items ++ l) (sym (ap rest_text same ∙ rest_some text braced long)))
