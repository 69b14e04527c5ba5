use Rattle.std.proofs.Common.{rules, tests, ◌≡◌, ◌==◌, ◌∙◌, ◌||◌, refl}
use Rattle.std.proofs.Common.{ap, codes, List, [], ◌∷◌, ℕ, Bool, map}
use Rattle.std.specs.List.{list_any, slice_split}
use Rattle.std.proofs.lemmas.Iterator.Splits.{YieldsList-from_slice_split}
use Rattle.std.proofs.lemmas.Iterator.Search.{any_from_yields_List}
use Rattle.httparse.specs.Grammar.{trim_ows}
use Rattle.hub_http.specs.Heads.{same_word, comma}
use Rattle.hub_http.proofs.connection.lists_close.Goals as goal

-- a test of each changed element is the test of the list of changed elements
any_mapped : (p : List ℕ → Bool) (f : List ℕ → List ℕ) (xs : List (List ℕ))
    → list_any (λ x. p (f x)) xs ≡ list_any p (map f xs)
any_mapped p f [] = refl
any_mapped p f (x ∷ xs) = ap (λ b. p (f x) || b) (any_mapped p f xs)

pub returns : goal.returns
returns c =
    any_from_yields_List
    (λ (part : List ℕ). same_word (trim_ows part) (codes "close")) _ _ _ c.any.ensures.ran
    (YieldsList-from_slice_split _ (λ b. b == comma) c.args.value.now c.split.ensures.rest
    c.split.ensures.done c.split.ensures.closure (λ x r q k. search (rules, tests)))
    (λ x b q k. search (rules, tests))
    ∙ any_mapped (λ o. same_word o (codes "close")) trim_ows (slice_split (λ b. b == comma) c.args.value.now)
