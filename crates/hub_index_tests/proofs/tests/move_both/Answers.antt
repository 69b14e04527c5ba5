use Rattle.std.proofs.Common.{ℕ, ◌≤◌, not, nat_eq, filter, arith}
use Rattle.std.proofs.lemmas.List.Elements.{All-filter, All-push}
use Rattle.hub_index_tests.proofs.tests.move_both.Goals as goal

pub returns-clause-upto : goal.returns-clause-upto
returns-clause-upto g c =
    rw c.in_ok-move_in.ensures
    (All-push (λ (row : ℕ × ℕ). row.0 ≤ c.args.new)
    (filter (λ (row : ℕ × ℕ). not (nat_eq row.1 c.args.document)) c.args.plain.now.items)
    (c.args.new, c.args.document)
    (All-filter (λ (row : ℕ × ℕ). not (nat_eq row.1 c.args.document))
    (λ (row : ℕ × ℕ). row.0 ≤ c.args.new) c.args.plain.now.items
    (λ k d l. omega (arith, c.requires.above k d l)))
    (omega arith))
