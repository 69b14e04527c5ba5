use Rattle.std.proofs.Common.{◌≡◌, ◌≤◌, ◌-◌, [], ◌∷◌, ◌++◌, length, decimal, ap, sym, ◌∙◌}
use Rattle.std.proofs.Common.{append_assoc, append-nil, arith, rules, take, drop}
use Rattle.std.proofs.lemmas.List.{length-drop, take_all}
use Rattle.std.proofs.lemmas.Fmt.{length-decimal-le}
use Rattle.json.specs.Print.{quoted}
use Rattle.hub_model.specs.Revision.{text_of}
use Rattle.hub_document.proofs.AppendLemmas.{appended_behind}
use Rattle.hub_document.proofs.WriteLemmas.{quoted_text}
use Rattle.hub_document.proofs.revision.RevId.print_quoted.Goals as goal

pub put_bytes-hash_at-requires : goal.put_bytes-hash_at-requires
put_bytes-hash_at-requires c =
    let short : length c.hash.result.now ≤ 64 = rw c.hash.ensures c.generation.ensures.good.short in
    search (rules, short)

pub put_before-dash_at-requires : goal.put_before-dash_at-requires
put_before-dash_at-requires c =
    let short : length c.hash.result.now ≤ 64 = rw c.hash.ensures c.generation.ensures.good.short in
    search (rules, short)

pub write_digits-number_at-requires : goal.write_digits-number_at-requires
write_digits-number_at-requires c =
    let short : length c.hash.result.now ≤ 64 = rw c.hash.ensures c.generation.ensures.good.short in
    search (rules, short, length-decimal-le 5)

pub put_before-at-requires : goal.put_before-at-requires
put_before-at-requires c =
    let short : length c.hash.result.now ≤ 64 = rw c.hash.ensures c.generation.ensures.good.short in
    search (rules, short, length-decimal-le 5)

pub returns : goal.returns
returns c =
    let number : c.from-number.result ≡ c.args.self.now.generation = search rules in
    let parts : quoted (text_of c.args.self.now)
    ≡ 34 ∷ (decimal c.from-number.result ++ 45 ∷ (c.hash.result.now ++ 34 ∷ [])) =
    rw (number, c.hash.ensures)
    (quoted_text c.args.self.now c.generation.ensures.good
    ∙ ap (λ l. 34 ∷ l)
    (append_assoc (decimal c.args.self.now.generation) (45 ∷ c.args.self.now.hash) (34 ∷ []))) in
    let text = c.put_before-at.new.text in
    let at = c.put_before-at.result in
    let written : drop at text ≡ 34 ∷ (decimal c.from-number.result ++ 45 ∷ (c.hash.result.now ++ 34 ∷ [])) =
    c.put_before-at.ensures.written
    ∙ ap (λ l. 34 ∷ l)
    (c.write_digits-number_at.ensures.written
    ∙ ap (λ l. decimal c.from-number.result ++ l)
    (c.put_before-dash_at.ensures.written ∙ ap (λ l. 45 ∷ l) c.put_bytes-hash_at.ensures.written)) in
    let all : take (72 - at) (drop at text) ≡ drop at text =
    take_all (72 - at) (drop at text) (omega (arith, length-drop at text)) in
    appended_behind c.extend_from_slice.result _ [] (take (72 - at) (drop at text)) c.args.out.now.items
    c.args.out.now.items c.extend_from_slice.new.self.items (parts ∙ sym (all ∙ written))
    (sym (append-nil c.args.out.now.items)) c.extend_from_slice.ensures.items
