use Rattle.std.proofs.Common.{◌<◌, ◌^◌, ◌∙◌, ap, sym, arith, rules}
use Rattle.std.specs.Prelude.{Some, option_map}
use Rattle.hub_model.specs.Revision.{Revision}
use Rattle.hub_revtree.specs.Run.{kept_in}
use Rattle.hub_revtree.proofs.RunLemmas.{digest_generation, place_low, texts_read}
use Rattle.hub_revtree.proofs.run.Run.generation_at.Goals as goal

pub overflow_cast-result : goal.overflow_cast-result
overflow_cast-result c =
    let below : c.in-Digests.newest < 2 ^ 16 = search rules in
    let low =
    place_low _ c.args.self.now c.in-Digests.newest _ (ap kept_in c.in-Digests.is) c.self.view_is
    c.self.invariant c.args.place c.requires in
    omega (arith, low, below)

pub overflow_sub-result : goal.overflow_sub-result
overflow_sub-result c =
    let low =
    place_low _ c.args.self.now c.in-Digests.newest _ (ap kept_in c.in-Digests.is) c.self.view_is
    c.self.invariant c.args.place c.requires in
    omega (arith, low)

pub overflow_cast-result-in-Shared : goal.overflow_cast-result-in-Shared
overflow_cast-result-in-Shared c =
    let below : c.in-Shared.newest < 2 ^ 16 = search rules in
    let low =
    place_low _ c.args.self.now c.in-Shared.newest _ (ap kept_in c.in-Shared.is) c.self.view_is
    c.self.invariant c.args.place c.requires in
    omega (arith, low, below)

pub overflow_sub-result-in-Shared : goal.overflow_sub-result-in-Shared
overflow_sub-result-in-Shared c =
    let low =
    place_low _ c.args.self.now c.in-Shared.newest _ (ap kept_in c.in-Shared.is) c.self.view_is
    c.self.invariant c.args.place c.requires in
    omega (arith, low)

pub returns-in-Digests : goal.returns-in-Digests
returns-in-Digests c =
    digest_generation c.args.self.now c.in-Digests.newest _ (sym (ap kept_in c.in-Digests.is) ∙ c.self.view_is)
    c.args.place c.requires

pub returns-in-Shared : goal.returns-in-Shared
returns-in-Shared c =
    digest_generation c.args.self.now c.in-Shared.newest _ (sym (ap kept_in c.in-Shared.is) ∙ c.self.view_is)
    c.args.place c.requires

pub returns-in-Texts : goal.returns-in-Texts
returns-in-Texts c =
    ap (option_map (λ (r : Revision). r.generation))
    (texts_read c.args.self.now c.in-Texts.revisions.items c.args.place c.index.result.now
    (sym (ap kept_in c.in-Texts.is) ∙ c.self.view_is) c.requires c.index.ensures)
    ∙ ap Some (sym c.generation.ensures.value)
