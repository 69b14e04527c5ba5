-- The bytes that leave an outbox.
use Rattle.std.proofs.Common.{◌≡◌, ℕ, ◌+◌, ◌-◌, ◌≤◌, List, [], ◌++◌, length}
use Rattle.std.proofs.Common.{drop, sym, ap, subst, ◌∙◌, append-nil, arith}
use lib.Seq.{drop-append-add, drop-append_seam}

drop_whole : (x : List ℕ) → drop (length x) x ≡ []
drop_whole x = subst (λ l. drop (length x) l ≡ []) (append-nil x) (drop-append_seam x [])

-- the whole first part went, and a front of the second part
pub drop_second : (x y z w : List ℕ) (n m : ℕ) → m ≡ length x → m ≤ n → z ≡ drop m x → w ≡ drop (n - m) y
    → z ++ w ≡ drop n (x ++ y)
drop_second x y z w n m all low first second =
    let rest : n ≡ length x + (n - m) = omega (arith, all, low) in
    ap (λ l. l ++ w) (first ∙ ap (λ k. drop k x) all ∙ drop_whole x) ∙ second
    ∙ sym (drop-append-add x y (n - m)) ∙ ap (λ k. drop k (x ++ y)) (sym rest)
