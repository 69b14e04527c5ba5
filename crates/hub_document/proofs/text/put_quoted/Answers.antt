use Rattle.std.proofs.Common.{◌≡◌, ◌∙◌, ap, rules}
use Rattle.json.specs.Print.{escape}
use Rattle.hub_document.proofs.AppendLemmas.{appended, refused, front_of, front_by, front_same}
use Rattle.hub_document.proofs.WriteLemmas.{quoted_plain, string_written, three_parts}
use Rattle.hub_document.proofs.text.put_quoted.Goals as goal

pub returns-then-not-is_plain : goal.returns-then-not-is_plain
returns-then-not-is_plain c =
    string_written c.string-done.result c.args.text.now c.args.out.now.items _ _ _ _
    (c.string-done.ensures.room.0 ∙ c.new-writer.ensures.before ∙ ap (λ v. v.items) c.replace.ensures.value)
    c.new-writer.ensures.tokens c.into_inner.ensures.items c.string-done.ensures.ok

pub returns : goal.returns
returns c =
    let plain : escape c.args.text.now ≡ c.args.text.now = search rules in
    appended _ _ _
    (rw (
      quoted_plain c.args.text.now plain,
      c.in_ok-push-2.ensures.items,
      c.in_ok-extend_from_slice.ensures.items,
      c.as_bytes-2.ensures.value,
      c.in_ok-push.ensures.items,
    )
    (three_parts c.args.out.now.items _ _ _))

pub returns-in_err-push : goal.returns-in_err-push
returns-in_err-push c =
    refused _ _ _ _ c.from_residual.ensures.0 (front_same _ _ c.in_err-push.ensures.items)

pub returns-in_err-extend_from_slice : goal.returns-in_err-extend_from_slice
returns-in_err-extend_from_slice c =
    refused _ _ _ _ c.from_residual-in_err-extend_from_slice.ensures.0 (front_by _ _ _ (front_of _ _ _ c.in_ok-push.ensures.items) (front_same _ _ c.in_err-extend_from_slice.ensures.items))

pub returns-in_err-push-2 : goal.returns-in_err-push-2
returns-in_err-push-2 c =
    refused _ _ _ _ c.from_residual-in_err-push-2.ensures.0 (front_by _ _ _ (front_by _ _ _ (front_of _ _ _ c.in_ok-push.ensures.items) (front_of _ _ _ c.in_ok-extend_from_slice.ensures.items)) (front_same _ _ c.in_err-push-2.ensures.items))
