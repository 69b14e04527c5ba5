use Rattle.std.proofs.Common.{◌≡◌, ◌∙◌, ◌+◌, ◌<◌, ℕ, List, None}
use Rattle.std.proofs.Common.{ap, arith, filter, length, nat_eq, not, subst, sym}
use Rattle.std.specs.List.{All}
use Rattle.hub_index.specs.Rows.{seq_of}
use Rattle.hub_database.proofs.StoreLemmas.{row_taken}
use Rattle.hub_database.proofs.contents.enter.Goals as goal

pub returns-in-Err-clause-err : goal.returns-in-Err-clause-err
returns-in-Err-clause-err c =
    let rows = c.args.index.now in
    let number : c.len-number.result ≡ length c.args.documents.now.items =
    omega (arith, c.len-number.ensures, c.reserve_one.ensures.len, c.args.documents.now.ok.0) in
    let many : c.len.result ≡ length c.args.journal.now.items =
    omega (arith, c.len.ensures, c.reserve_one-2.ensures.len, c.args.journal.now.ok.0) in (
      c.in-Err.ensures.err,
      c.remove.ensures
          ∙ (ap (λ (left : List (ℕ × ℕ)). filter (λ (row : ℕ × ℕ). not (nat_eq row.0 (c.len.result + 1)))
          left)
          c.in_ok-move_to.ensures.moved
          ∙ row_taken rows c.len-number.result (c.len.result + 1)
          (subst (λ n. seq_of n rows ≡ None) (sym number) c.requires.row.own)
          (subst (λ n. All (λ (row : ℕ × ℕ). row.0 < n + 1) rows) (sym many) c.requires.row.above)),
    )
