use Rattle.std.proofs.Common.{◌∙◌, ap, List, ℕ, ◌++◌, ◌∷◌, [], rules}
use Rattle.std.proofs.lemmas.Fn.{filter_same}
use Rattle.hub_index_tests.proofs.tests.move_in.Goals as goal

pub returns : goal.returns
returns c =
    c.in_ok-push.ensures.items
    ∙ ap (λ (l : List (ℕ × ℕ)). l ++ (c.args.new, c.args.document) ∷ [])
    (filter_same _ _ _ (λ x b f' k. search rules) _ _ c.retain.ensures.filtered)
